-- From one view.
use Rattle.trace_viewer.proofs.Views.{fronts_have_faults, traces_shown}
use Rattle.trace_viewer.proofs.laws.traces_are_shown.Goals as goal

pub returns-clause-shown : goal.returns-clause-shown
returns-clause-shown c = traces_shown c.one_view.ensures

pub returns-clause-fault : goal.returns-clause-fault
returns-clause-fault c = fronts_have_faults
