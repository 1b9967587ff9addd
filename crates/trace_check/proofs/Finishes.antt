-- What was read to its end: a trace that was judged whole, or a fault.
use Rattle.std.proofs.Common.{List, None, Some, Ok, Err, Option, [], ◌∷◌, ◌≡◌, inl, refl, subst, ℕ}
use Rattle.std.specs.Prelude.{Result}
use Rattle.cxl_message.specs.Setup.{Configuration}
use Rattle.trace_stream.specs.declared.items.Item.{Item}
use Rattle.trace_stream.specs.declared.items.TraceFault.{TraceFault}
use Rattle.trace_stream.specs.Readings.{unless_fault}
use Rattle.trace_stream.specs.Runs.{HasFault, HasRead, IsTraceOf}
use Rattle.trace_check.specs.declared.judging.Judging.{Judging}
use Rattle.trace_check.specs.Items.{setups_in}
use Rattle.trace_check.specs.Judged.{Checking, HasChecked, HasJudgedUnless, IsJudged, IsLost, UnlessLost}
use Rattle.trace_check.proofs.Bytes.{unless_none}
use Rattle.trace_check.proofs.Told.{parts_of}

-- what holds unless memory was wanting, where it wasn't
pub unless_kept : (j : Judging) (P : Type 0) → (IsLost j → ⊥) → UnlessLost j P → P
unless_kept Judging.Start P kept holds = holds
unless_kept (Judging.Opened setup opening) P kept holds = holds
unless_kept (Judging.Running run) P kept holds = holds
unless_kept (Judging.Broken event rule) P kept holds = holds
unless_kept Judging.NoMemory P kept holds = absurd (kept tt)

-- where the end is answered, no fault was met
pub ended_well : (met : Option TraceFault) (end : Result ℕ TraceFault) (count : ℕ) → Ok count ≡ unless_fault met end → met ≡ None
ended_well None end count is = refl
ended_well (Some fault) end count is = absurd cc

-- the items of a trace that was judged
pub record JudgedTrace (bytes : List ℕ) (judging : Judging) (count : ℕ) : Type 0 where
  pub items : List Item
  pub trace : IsTraceOf bytes items count
  pub setup : Configuration
  pub header : setups_in items ≡ setup ∷ []
  pub judged : IsJudged items judging

pub judged_trace : (bytes : List ℕ) (c : Checking) (count : ℕ) → HasChecked bytes c → c.reading.fault ≡ None → ((items : List Item) → HasRead bytes items c.reading → IsTraceOf bytes items count) → JudgedTrace bytes c.judging count
judged_trace bytes c count has none whole =
    let judged = unless_none c.reading.fault bytes c none has.judged in
    let trace = whole judged.items judged.read in
    record { items = judged.items; trace = trace; setup = trace.setup; header = (parts_of bytes judged.items count trace).header; judged = judged.judged }

-- the fault that is answered is that of the bytes
pub has_fault : (bytes : List ℕ) (c : Checking) (met : Option TraceFault) (end : Result ℕ TraceFault) (fault : TraceFault) → HasJudgedUnless met bytes c → Err fault ≡ unless_fault met end → ((items : List Item) → HasRead bytes items c.reading → HasFault bytes fault)
    → HasFault bytes fault
has_fault bytes c None end fault judged is says = says judged.items judged.read
has_fault bytes c (Some own) end fault judged is says =
    let same : own ≡ fault = cc in
    subst (HasFault bytes) same (record { items = judged.items; rest = judged.rest; read = judged.read; fails = inl judged.says })
