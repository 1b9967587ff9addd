use Rattle.cxl_view.proofs.Sums.{add_up}
use Rattle.cxl_view.proofs.laws.counts_add_up.Goals as goal

pub returns : goal.returns
returns c = add_up
