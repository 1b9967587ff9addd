-- What is counted of a list of events: how many operations of each kind begin on each line, events and commits. Every rule here is an own rule.
use Rattle.std.specs.Prelude.{ℕ, Bool, List, [], ◌∷◌, ◌++◌, ◌&&◌, ◌==◌, nat_eq, nat_lt, is_some, if◌then◌else◌, not, codes, length, map, fold, count_by}
use Rattle.std.specs.List.{flat_map}
use Rattle.indexmap.specs.IndexSet.{insert_key}
use Rattle.cxl_message.specs.declared.events.Cause.{Cause}
use Rattle.cxl_message.specs.declared.events.Event.{Event}
use Rattle.cxl_message.specs.declared.events.Op.{Op}
use Rattle.cxl_message.specs.Events.{is_load, is_whole, line_of}
use Rattle.cxl_view.specs.declared.counting.LineTally.{LineTally}
use Rattle.cxl_view.specs.Events.{field}

-- the operation that a cause begins, where there are more lines than its line's number
abbrev pub begun_by : ℕ → Cause → List Op
begun_by lines (Cause.Op stream index op) = if nat_lt (line_of op) lines then op ∷ [] else []
begun_by lines (Cause.Take host message) = []
begun_by lines (Cause.Act act) = []

-- the operations that events begin on the lines that there are, in order
abbrev pub begun_ops : ℕ → List Event → List Op
begun_ops lines events = flat_map (λ e. begun_by lines e.cause) events

-- whether an operation stores a word
abbrev pub is_word : Op → Bool
is_word op = not (is_load op) && not (is_whole op)

-- how many operations of a line pass a test
abbrev pub ops_on : (Op → Bool) → ℕ → List Op → ℕ
ops_on test line ops = count_by (λ op. test op && (line_of op == line)) ops

-- the operations of a line, by kind
abbrev pub tally_of : ℕ → List Op → LineTally
tally_of line ops = record { loads = ops_on is_load line ops; words = ops_on is_word line ops; wholes = ops_on is_whole line ops }

-- the lines that operations name, each once, in the order in which they are first named
abbrev pub lines_named : List Op → List ℕ
lines_named ops = fold (insert_key nat_eq) [] (map line_of ops)

-- what is counted: of how many lines, on each line that operations name, and over all
pub record Counts : Type 0 where
  pub lines : ℕ
  pub on_lines : List (ℕ × LineTally)
  pub events : ℕ
  pub commits : ℕ

-- what is counted of a list of events
abbrev pub counts_of : ℕ → List Event → Counts
counts_of lines events =
    let ops = begun_ops lines events in
    record { lines = lines; on_lines = map (λ line. (line, tally_of line ops)) (lines_named ops); events = length events; commits = count_by (λ e. is_some e.commit) events }

-- the line of text of one line's operations
abbrev pub tally_line : ℕ × LineTally → List ℕ
tally_line counted = field (codes "line ") counted.0 ++ field (codes " loads ") counted.1.loads ++ field (codes " words ") counted.1.words ++ field (codes " wholes ") counted.1.wholes ++ 10 ∷ []

-- the last line of text
abbrev pub total_line : ℕ → ℕ → List ℕ
total_line events commits = field (codes "events ") events ++ field (codes " commits ") commits ++ 10 ∷ []

-- the lines of text after the last event
abbrev pub tally_lines : Counts → List ℕ
tally_lines counts = flat_map tally_line counts.on_lines ++ total_line counts.events counts.commits
