-- Laws of a host over every list of its own events that its rules allow, whatever the other agents did.
use Rattle.std.specs.Prelude.{List, Some, count_by, flat_map, true, ℕ, ◌<◌, ◌==◌, ◌≡◌, ◌≤◌}
use Rattle.cxl_message.specs.declared.events.Event.{Event}
use Rattle.cxl_message.specs.Setup.{Configuration}
use Rattle.coherence_model.specs.OwnerFacts.{has_conflict_line, has_write_back_line}
use Rattle.coherence_model.specs.Snoops.{Snoop, buffered_snoops, is_snooped}
use Rattle.coherence_model.specs.Stages.{Stage, stage}
use Rattle.coherence_model.specs.Tags.{is_conflict_open, open_with, tagged_line}
use Rattle.coherence_model.specs.WriteBacks.{is_write_back_open}
use Rattle.coherence_model.specs.Transactions.{Transaction, open_at}
use Rattle.coherence_model.specs.OwnRuns.{ForEachHostRun}

-- what is open for a line: its tag and its line exist, and its tag leads back to it
pub record IsOpenTagged (setup : Configuration) (mine : List Event) (a : ℕ) (o : Transaction) : Type 0 where
  pub tag : o.tag < setup.tags
  pub line : a < setup.lines
  pub tagged : tagged_line o.tag mine ≡ Some a
  pub found : open_with o.tag mine ≡ Some o

-- a tag of an open line leads back to that line, and to what is open there
abbrev pub OpenTagsLeadBack : Type 0
OpenTagsLeadBack =
    ForEachHostRun (λ setup h mine. (a : ℕ) (o : Transaction) → open_at a mine ≡ Some o → IsOpenTagged setup mine a o)

-- two open lines with the same tag are one line
abbrev pub OpenTagsAreDistinct : Type 0
OpenTagsAreDistinct =
    ForEachHostRun (λ setup h mine. (a b : ℕ) (o p : Transaction) → open_at a mine ≡ Some o → open_at b mine ≡ Some p → o.tag ≡ p.tag → a ≡ b)

-- a line at stage Asked with a tag: it is snooped, the tag was last its own, and the tag's conflict is open
pub record IsAskedLine (setup : Configuration) (mine : List Event) (a t : ℕ) : Type 0 where
  pub snooped : is_snooped a mine ≡ true
  pub tagged : tagged_line t mine ≡ Some a
  pub conflict : is_conflict_open t mine ≡ true
  pub tag : t < setup.tags
  pub line : a < setup.lines

-- a line at stage Asked is snooped, and its tag's conflict is open
abbrev pub AskedLinesAreSnooped : Type 0
AskedLinesAreSnooped =
    ForEachHostRun (λ setup h mine. (a t : ℕ) → stage setup a mine ≡ Stage.Asked t → IsAskedLine setup mine a t)

-- the conflict of a tag is open just where some snooped line is Asked with it
abbrev pub ConflictsHaveLines : Type 0
ConflictsHaveLines =
    ForEachHostRun (λ setup h mine. (t : ℕ) → is_conflict_open t mine ≡ has_conflict_line setup t mine)

-- what is open with the tag of a conflict is open for the line that is Asked with it
abbrev pub ConflictTagsAreOwn : Type 0
ConflictTagsAreOwn =
    ForEachHostRun (λ setup h mine. (a b t : ℕ) (o : Transaction) → stage setup a mine ≡ Stage.Asked t → open_at b mine ≡ Some o → o.tag ≡ t → b ≡ a)

-- a line at stage Writing is snooped
abbrev pub WritingLinesAreSnooped : Type 0
WritingLinesAreSnooped =
    ForEachHostRun (λ setup h mine. (a : ℕ) → stage setup a mine ≡ Stage.Writing → is_snooped a mine ≡ true)

-- the write-back tag is in use just where some snooped line is at stage Writing
abbrev pub WriteBacksHaveLines : Type 0
WriteBacksHaveLines =
    ForEachHostRun (λ setup h mine. is_write_back_open setup mine ≡ has_write_back_line setup mine)

-- at most one line is at stage Writing
abbrev pub WriteBackIsAlone : Type 0
WriteBackIsAlone =
    ForEachHostRun (λ setup h mine. (a b : ℕ) → stage setup a mine ≡ Stage.Writing → stage setup b mine ≡ Stage.Writing → a ≡ b)

-- the lines of all buffered snoops that have no answer yet (own rule)
abbrev pub snooped_lines : List Event → List ℕ
snooped_lines mine = flat_map (λ (s : Snoop). s.unanswered) (buffered_snoops mine)

-- no line is in the buffered snoops twice: they are disjoint, and each has distinct lines
abbrev pub NoLineIsSnoopedTwice : Type 0
NoLineIsSnoopedTwice =
    ForEachHostRun (λ setup h mine. (a : ℕ) → count_by (λ b. a == b) (snooped_lines mine) ≤ 1)
