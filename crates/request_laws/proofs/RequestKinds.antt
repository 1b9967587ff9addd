-- Kinds, purposes and the numbers by which they are compared.
use Rattle.std.proofs.Common.{◌≡◌, ℕ, ◌+◌, Bool, true, false, cond, refl, sym, ◌∙◌, ap, arith}
use Rattle.std.specs.Prelude.{nat_eq}
use Rattle.std.proofs.lemmas.Bool.{eqb-true, false≢true}
use Rattle.cxl_message.specs.declared.opcodes.Meta.{Meta}
use Rattle.cxl_message.specs.declared.opcodes.ReqOp.{ReqOp}
use Rattle.coherence_model.specs.Copies.{asks_for_grant}
use Rattle.coherence_model.specs.OwnerFacts.{purpose_fits}
use Rattle.coherence_model.specs.RequestFacts.{kind_code, kind_eq}
use Rattle.coherence_model.specs.Tasks.{Purpose, is_eviction, purpose_of}
use Rattle.coherence_model.specs.Transactions.{Kind, request_kind}
use Rattle.request_laws.proofs.Balances.{BalancedAs}

-- the kind with a number
abbrev kind_from : ℕ → Kind
kind_from n = cond (nat_eq n 0) Kind.ReadShared (cond (nat_eq n 1) Kind.ReadAny (cond (nat_eq n 2) Kind.Invalidate (cond (nat_eq n 3) Kind.CleanEviction Kind.DirtyEviction)))

kind_back : (k : Kind) → kind_from (kind_code k) ≡ k
kind_back Kind.ReadShared = refl
kind_back Kind.ReadAny = refl
kind_back Kind.Invalidate = refl
kind_back Kind.CleanEviction = refl
kind_back Kind.DirtyEviction = refl

pub kind_same : (k l : Kind) → kind_eq k l ≡ true → k ≡ l
kind_same k l h = sym (kind_back k) ∙ ap kind_from (eqb-true (kind_code k) (kind_code l) h) ∙ kind_back l

-- what doesn't ask for a grant is a MemClnEvct
pub clean_kind : (op : ReqOp) (meta : Meta) → asks_for_grant op ≡ false → request_kind op meta ≡ Kind.CleanEviction
clean_kind ReqOp.MemRd meta h = absurd (false≢true (sym h))
clean_kind ReqOp.MemInv meta h = absurd (false≢true (sym h))
clean_kind ReqOp.MemClnEvct meta h = refl

pub grant_kind : (op : ReqOp) (meta : Meta) → asks_for_grant op ≡ true → request_kind op meta ≡ Kind.CleanEviction → ⊥
grant_kind ReqOp.MemRd Meta.Invalid h e = cc
grant_kind ReqOp.MemRd Meta.Any h e = cc
grant_kind ReqOp.MemRd Meta.Shared h e = cc
grant_kind ReqOp.MemInv meta h e = cc
grant_kind ReqOp.MemClnEvct meta h e = false≢true h

-- a request's task is for its kind, and no eviction
pub purpose_is : (op : ReqOp) (meta : Meta) → asks_for_grant op ≡ true → purpose_fits (purpose_of op meta) (request_kind op meta) ≡ true
purpose_is ReqOp.MemRd Meta.Invalid h = refl
purpose_is ReqOp.MemRd Meta.Any h = refl
purpose_is ReqOp.MemRd Meta.Shared h = refl
purpose_is ReqOp.MemInv meta h = refl
purpose_is ReqOp.MemClnEvct meta h = absurd (false≢true h)

pub no_eviction : (op : ReqOp) (meta : Meta) → is_eviction (purpose_of op meta) ≡ false
no_eviction ReqOp.MemRd Meta.Invalid = refl
no_eviction ReqOp.MemRd Meta.Any = refl
no_eviction ReqOp.MemRd Meta.Shared = refl
no_eviction ReqOp.MemInv meta = refl
no_eviction ReqOp.MemClnEvct meta = refl

-- whether a task's grant comes with MemData
abbrev pub gives_data : Purpose → Bool
gives_data Purpose.SharedRead = true
gives_data Purpose.OwningRead = true
gives_data Purpose.Invalidation = false
gives_data Purpose.Eviction = false

-- a finished task: its grant is sent
pub balance_finished : (purpose : Purpose) (kind : Kind) (b g y r w nc ng d : ℕ) → purpose_fits purpose kind ≡ true → BalancedAs kind b g y r w nc ng d 1
    → BalancedAs kind b g y r w (nc + 0) (ng + 1) (d + cond (gives_data purpose) 1 0) 0
balance_finished Purpose.SharedRead Kind.ReadShared b g y r w nc ng d fits h = omega arith
balance_finished Purpose.SharedRead Kind.ReadAny b g y r w nc ng d fits h = absurd (false≢true fits)
balance_finished Purpose.SharedRead Kind.Invalidate b g y r w nc ng d fits h = absurd (false≢true fits)
balance_finished Purpose.SharedRead Kind.CleanEviction b g y r w nc ng d fits h = absurd (false≢true fits)
balance_finished Purpose.SharedRead Kind.DirtyEviction b g y r w nc ng d fits h = absurd (false≢true fits)
balance_finished Purpose.OwningRead Kind.ReadShared b g y r w nc ng d fits h = absurd (false≢true fits)
balance_finished Purpose.OwningRead Kind.ReadAny b g y r w nc ng d fits h = omega arith
balance_finished Purpose.OwningRead Kind.Invalidate b g y r w nc ng d fits h = absurd (false≢true fits)
balance_finished Purpose.OwningRead Kind.CleanEviction b g y r w nc ng d fits h = absurd (false≢true fits)
balance_finished Purpose.OwningRead Kind.DirtyEviction b g y r w nc ng d fits h = absurd (false≢true fits)
balance_finished Purpose.Invalidation Kind.ReadShared b g y r w nc ng d fits h = absurd (false≢true fits)
balance_finished Purpose.Invalidation Kind.ReadAny b g y r w nc ng d fits h = absurd (false≢true fits)
balance_finished Purpose.Invalidation Kind.Invalidate b g y r w nc ng d fits h = omega arith
balance_finished Purpose.Invalidation Kind.CleanEviction b g y r w nc ng d fits h = absurd (false≢true fits)
balance_finished Purpose.Invalidation Kind.DirtyEviction b g y r w nc ng d fits h = absurd (false≢true fits)
balance_finished Purpose.Eviction kind b g y r w nc ng d fits h = absurd (false≢true fits)
