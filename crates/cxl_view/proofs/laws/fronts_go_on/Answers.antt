use Rattle.cxl_view.proofs.Fronts.{goes_on}
use Rattle.cxl_view.proofs.laws.fronts_go_on.Goals as goal

pub returns : goal.returns
returns c = goes_on
