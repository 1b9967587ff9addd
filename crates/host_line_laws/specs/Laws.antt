-- Laws of the lines of one host, over every list of its own events that its rules allow: what is open, what is Asked, and what is written back.
use Rattle.std.specs.Prelude.{List, Some, false, true, ℕ, ◌≡◌}
use Rattle.cxl_message.specs.declared.events.Event.{Event}
use Rattle.cxl_message.specs.declared.opcodes.NdrOp.{NdrOp}
use Rattle.cxl_message.specs.Events.{line_of}
use Rattle.cxl_message.specs.Setup.{Configuration}
use Rattle.coherence_model.specs.Cache.{is_writable}
use Rattle.coherence_model.specs.HostActs.{may_conflict}
use Rattle.coherence_model.specs.HostOperations.{request_message}
use Rattle.coherence_model.specs.HostTakes.{may_grant}
use Rattle.coherence_model.specs.OwnRuns.{ForEachHostRun}
use Rattle.coherence_model.specs.Snoops.{is_snooped}
use Rattle.coherence_model.specs.Stages.{Stage, stage}
use Rattle.coherence_model.specs.Transactions.{Transaction, is_open, is_request, open_at, opened, opened_by_message}

-- what is open for line a is of its operation: on that line, and opened by the operation's request message
pub record IsOfOperation (a : ℕ) (o : Transaction) : Type 0 where
  pub line : line_of o.op ≡ a
  pub opens : opened_by_message a o.stream o.index o.op (request_message o.op o.tag) ≡ Some (opened o.stream o.index o.op o.kind o.tag)

-- each open request is of its operation
abbrev pub OpenRequestsFit : Type 0
OpenRequestsFit = ForEachHostRun (λ setup h mine. (a : ℕ) (o : Transaction) → open_at a mine ≡ Some o → is_request o.kind ≡ true → IsOfOperation a o)

-- and was granted only as its kind may be
abbrev pub OpenGrantsFit : Type 0
OpenGrantsFit = ForEachHostRun (λ setup h mine. (a : ℕ) (o : Transaction) (c : NdrOp) → open_at a mine ≡ Some o → o.grant ≡ Some c → may_grant c o.kind ≡ true)

-- what is open for a line that is Asked with a tag: it has that tag, and is of a kind that declares conflicts
pub record IsAskedOf (t : ℕ) (o : Transaction) : Type 0 where
  pub tag : o.tag ≡ t
  pub may : may_conflict o.kind ≡ true

-- what is open for an Asked line fits the conflict
abbrev pub AskedRequestsFit : Type 0
AskedRequestsFit =
    ForEachHostRun (λ setup h mine. (a t : ℕ) (o : Transaction) → stage setup a mine ≡ Stage.Asked t → open_at a mine ≡ Some o → IsAskedOf t o)

-- a line that is Open has no writable copy
abbrev pub OpenLinesAreUnwritable : Type 0
OpenLinesAreUnwritable = ForEachHostRun (λ setup h mine. (a : ℕ) → is_open a mine ≡ true → is_writable setup a mine ≡ false)

-- a line that is neither Open nor has a writable copy
pub record IsGivenUp (setup : Configuration) (mine : List Event) (a : ℕ) : Type 0 where
  pub closed : is_open a mine ≡ false
  pub unwritable : is_writable setup a mine ≡ false

-- a snooped line at stage Writing has been given up
abbrev pub WritingLinesAreGivenUp : Type 0
WritingLinesAreGivenUp =
    ForEachHostRun (λ setup h mine. (a : ℕ) → is_snooped a mine ≡ true → stage setup a mine ≡ Stage.Writing → IsGivenUp setup mine a)

-- and so has one at stage Written
abbrev pub WrittenLinesAreGivenUp : Type 0
WrittenLinesAreGivenUp =
    ForEachHostRun (λ setup h mine. (a : ℕ) → is_snooped a mine ≡ true → stage setup a mine ≡ Stage.Written → IsGivenUp setup mine a)
