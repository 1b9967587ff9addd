-- What a host has left, of the task's block.
use Rattle.std.proofs.Common.{ap, ◌∙◌}
use Rattle.block_snoop.specs.Answering.{LeftRecord}
use Rattle.device_tables.proofs.Lefts.{block_seen, left_seen, none_seen}
use Rattle.device_tables.proofs.tasks.Task.left_of.Goals as goal

pub returns-then-host-self-clause-block : goal.returns-then-host-self-clause-block
returns-then-host-self-clause-block c = block_seen c.self.inside c.args.self.now c.args.host c.index-self-host.result c.self.view_is c.self.invariant c.if-host-self.true

pub returns-then-host-self-clause-left : goal.returns-then-host-self-clause-left
returns-then-host-self-clause-left c = left_seen c.self.inside c.args.self.now c.args.host c.index-self-host.result c.self.view_is c.self.invariant c.if-host-self.true

pub returns-else-host-self-clause-left : goal.returns-else-host-self-clause-left
returns-else-host-self-clause-left c = ap (λ (l : LeftRecord). l.left) c.none_left.ensures ∙ none_seen c.self.inside c.args.self.now c.args.host c.self.view_is c.if-host-self.false
