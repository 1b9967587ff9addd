-- No host is asked.
use Rattle.std.proofs.Common.{List, ℕ, ap, ◌∙◌}
use Rattle.std.specs.Prelude.{replicate}
use Rattle.block_snoop.specs.Answering.{LeftRecord}
use Rattle.device_record.specs.Record.{TaskRecord}
use Rattle.device_tables.specs.Tasks.{lefts_seen, purpose_seen}
use Rattle.device_tables.proofs.Lefts.{new_lefts}
use Rattle.device_tables.proofs.tasks.Task.new.Goals as goal

pub returns : goal.returns
returns c =
    ap {B = TaskRecord} (λ (ls : List (List ℕ)). record { first = c.args.block.first.0; purpose = purpose_seen c.args.kind; host = c.args.host; tag = c.args.tag.0; span = c.args.block.span; left = ls })
    (ap (λ (l : LeftRecord). lefts_seen c.args.hosts (replicate 16 l)) c.none_left.ensures ∙ new_lefts c.args.block c.args.hosts c.requires)
