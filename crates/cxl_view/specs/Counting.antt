-- Counting one event more. Every rule here is an own rule.
use Rattle.std.specs.Prelude.{ℕ, Bool, List, ◌+◌, ◌≤◌, ◌&&◌, IsTrue, nat_eq, nat_le, is_some, if◌then◌else◌, not, fold}
use Rattle.std.specs.List.{list_all, list_any}
use Rattle.std.specs.Map.{lookup}
use Rattle.std.specs.Option.{option_map_or}
use Rattle.indexmap.specs.IndexMap.{insert_entry}
use Rattle.cxl_message.specs.declared.events.Cause.{Cause}
use Rattle.cxl_message.specs.declared.events.Op.{Op}
use Rattle.cxl_message.specs.Events.{line_of}
use Rattle.cxl_view.specs.declared.counting.LineTally.{LineTally}
use Rattle.cxl_view.specs.Tallies.{Counts, begun_by}

-- no operation of a line
abbrev pub none_counted : LineTally
none_counted = record { loads = 0; words = 0; wholes = 0 }

-- an operation of a line more
abbrev pub with_op : Op → LineTally → LineTally
with_op (Op.Load _) t = record t { loads = t.loads + 1 }
with_op (Op.Word _ _ _) t = record t { words = t.words + 1 }
with_op (Op.Whole _ _) t = record t { wholes = t.wholes + 1 }

-- what is counted of a line
abbrev pub counted_on : ℕ → List (ℕ × LineTally) → LineTally
counted_on line on_lines = option_map_or (λ t. t) (lookup (nat_eq line) on_lines) none_counted

-- an operation more: a line that was named keeps its place, and a new one comes last
abbrev pub and_op : List (ℕ × LineTally) → Op → List (ℕ × LineTally)
and_op on_lines op = insert_entry nat_eq on_lines (line_of op) (with_op op (counted_on (line_of op) on_lines))

-- an event more, of its cause and of whether it commits
abbrev pub and_event : Counts → Cause → Bool → Counts
and_event counts cause commits = record {
  lines = counts.lines;
  on_lines = fold and_op counts.on_lines (begun_by counts.lines cause);
  events = counts.events + 1;
  commits = counts.commits + (if commits then 1 else 0);
}

-- whether some operation is on a line of which none is counted yet
abbrev pub names_first_on : List (ℕ × LineTally) → List Op → Bool
names_first_on on_lines ops = list_any (λ op. not (is_some (lookup (nat_eq (line_of op)) on_lines))) ops

-- whether a cause begins an operation on a line of which none is counted yet
abbrev pub names_first : Counts → Cause → Bool
names_first counts cause = names_first_on counts.on_lines (begun_by counts.lines cause)

-- none of a line's counts is greater than this number
abbrev pub tally_within : ℕ → LineTally → Bool
tally_within n t = nat_le t.loads n && nat_le t.words n && nat_le t.wholes n

-- nor is any of all lines
abbrev pub all_within : ℕ → List (ℕ × LineTally) → Bool
all_within n on_lines = list_all (λ counted. tally_within n counted.1) on_lines

-- no count is greater than the number of events
pub record AreWithin (events : ℕ) (on_lines : List (ℕ × LineTally)) (commits : ℕ) : Type 0 where
  pub each_line : IsTrue (all_within events on_lines)
  pub of_commits : commits ≤ events
