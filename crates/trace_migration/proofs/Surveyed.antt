-- What a survey has found, where all of the bytes were read.
use Rattle.std.specs.Result.{IsErrAnd}
use Rattle.std.proofs.Common.{◌≡◌, ℕ, List, [], ◌∷◌, ◌++◌, Err, Ok, Result, ap, sym, subst, ◌∙◌}
use Rattle.cxl_message.specs.Setup.{Configuration}
use Rattle.cxl_message.specs.declared.identifiers.Bytes64.{Bytes64}
use Rattle.cxl_message.specs.declared.identifiers.Line.{Line}
use Rattle.trace_stream.specs.declared.items.Item.{Item}
use Rattle.trace_stream.specs.declared.items.TraceFault.{TraceFault}
use Rattle.trace_stream.specs.Runs.{HasFault, IsTraceIn, IsTraceOf}
use Rattle.trace_migration.specs.declared.heads.Head.{Head}
use Rattle.trace_migration.specs.declared.refusals.MigrateRefusal.{MigrateRefusal}
use Rattle.trace_migration.specs.Heads.{GoesOnBy, IsHead, IsHeadOf}
use Rattle.trace_migration.specs.Walks.{IsAt, Walking}
use Rattle.trace_migration.proofs.Parts.{parts_of}

-- the walk and the head after some items
pub record SurveyAt (bytes : List ℕ) (walking : Walking) (head : Head) : Type 0 where
  pub items : List Item
  pub at : IsAt bytes items walking
  pub is : IsHead items head

-- the head is that of the trace
pub head_of : (bytes : List ℕ) (items : List Item) (count : ℕ) (head : Head) → IsHead items head → IsTraceOf bytes items count → IsHeadOf bytes head
head_of bytes items count head is t =
    let parts = parts_of bytes items count t in
    record {
      version = t.version;
      events = t.events;
      trace =
          subst (λ (s : Configuration). IsTraceIn bytes t.version s head.names head.opening t.events) (sym (is.header t.setup parts.header))
          (subst (λ (n : List (ℕ × List ℕ)). IsTraceIn bytes t.version t.setup n head.opening t.events) (sym parts.named ∙ is.named)
          (subst (λ (o : List (Line × Bytes64)). IsTraceIn bytes t.version t.setup t.names o t.events) (sym parts.opened ∙ is.opened) t.trace));
    }

-- the trace goes on by an item that was read
pub goes_on_by : (bytes : List ℕ) (items : List Item) (item : Item) (walking : Walking) (head : Head) → IsHead items head → IsAt bytes (items ++ item ∷ []) walking → GoesOnBy items item head
goes_on_by bytes items item walking head is at = record { taken = is; follow = at.has.read.follow }

-- the fault that is told
pub told_fault : (bytes : List ℕ) (own fault : TraceFault) → HasFault bytes own → own ≡ fault → HasFault bytes fault
told_fault bytes own fault has same = subst (HasFault bytes) same has

pub one_told : (result : Result Head MigrateRefusal) (own fault : TraceFault) → result ≡ Err (MigrateRefusal.NotATrace own) → result ≡ Err (MigrateRefusal.NotATrace fault) → own ≡ fault
one_told result own fault a b = let e : ◌≡◌ {A = Result Head MigrateRefusal} (Err (MigrateRefusal.NotATrace own)) (Err (MigrateRefusal.NotATrace fault)) = sym a ∙ b in same own fault e where
  same : (own fault : TraceFault) → ◌≡◌ {A = Result Head MigrateRefusal} (Err (MigrateRefusal.NotATrace own)) (Err (MigrateRefusal.NotATrace fault)) → own ≡ fault
  same own fault e = cc

-- a refusal that is passed on
pub passed_on : {T E : Type 0} (result : Result T E) (refusal : E) → IsErrAnd result (λ e. e ≡ refusal) → result ≡ Err refusal
passed_on (Ok x) refusal is = absurd is
passed_on (Err e) refusal is = ap Err is
