-- By the places of lines.
use Rattle.snoop_laws.proofs.Laws.{held_snoops_were_sent}
use Rattle.snoop_laws.proofs.held_snoops_were_sent.Goals as goal

pub returns : goal.returns
returns c = held_snoops_were_sent
