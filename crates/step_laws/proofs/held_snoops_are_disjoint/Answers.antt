-- Each clause is a fact of every run.
use Rattle.step_laws.proofs.Facts.{held_snoops_all_fit, held_snoops_are_disjoint as disjoint}
use Rattle.step_laws.proofs.held_snoops_are_disjoint.Goals as goal

pub returns-clause-disjoint : goal.returns-clause-disjoint
returns-clause-disjoint c = disjoint

pub returns-clause-fit : goal.returns-clause-fit
returns-clause-fit c = held_snoops_all_fit
