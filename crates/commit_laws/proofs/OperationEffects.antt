-- What an operation of a host does: it hits and commits at once, or its request opens its line, after the eviction of a victim or alone.
use Rattle.std.proofs.Common.{◌≡◌, ℕ, Bool, true, false, cond, List, Option, Some, None, refl, ap, sym, subst, ◌∙◌, inl, inr}
use Rattle.std.specs.Option.{option_or}
use Rattle.std.proofs.lemmas.Bool.{ne_eqb}
use Rattle.cxl_message.specs.declared.events.Cause.{Cause}
use Rattle.cxl_message.specs.declared.events.Commit.{Commit}
use Rattle.cxl_message.specs.declared.events.Event.{Event}
use Rattle.cxl_message.specs.declared.events.Op.{Op}
use Rattle.cxl_message.specs.declared.events.Sends.{Sends}
use Rattle.cxl_message.specs.declared.identifiers.Bytes64.{Bytes64}
use Rattle.cxl_message.specs.Events.{line_of}
use Rattle.cxl_message.specs.Setup.{Configuration}
use Rattle.coherence_model.specs.Cache.{is_modified}
use Rattle.coherence_model.specs.Emission.{Emission}
use Rattle.coherence_model.specs.HostOperations.{eviction_message, host_operates, request_message}
use Rattle.coherence_model.specs.Snoops.{is_quiet}
use Rattle.coherence_model.specs.Tags.{free_tags}
use Rattle.coherence_model.specs.Transactions.{Transaction, is_request, open_after, open_at, opened}
use Rattle.coherence_lemmas.proofs.HostOperations.{Missed, RequestAlone, host_operates-inv}
use Rattle.request_laws.proofs.FreeTags.{nothing_there}
use Rattle.request_laws.proofs.HostOperations.{Alone, Evicting, Evicts, Hits, Operated, Requests, eviction_kind, kind_of, operated, request_opens}
use Rattle.request_laws.proofs.OpenLines.{one_opens, opening_line, quiet_parts, two_open, victim_opens}
use Rattle.commit_laws.proofs.StreamStates.{StreamsKept, after_begun, after_waits, eviction_keeps, hit_keeps, request_keeps}

-- what an operation does
pub data OperationEffect (setup : Configuration) (h k i : ℕ) (op : Op) (mine : List Event) (sends : Sends) (commit : Option Commit) : Type 0 where
  Committed : (v : Bytes64) → commit ≡ Some (record { stream = k; index = i; op = op; value = v }) → sends ≡ Sends.Nothing → OperationEffect setup h k i op mine sends commit
  Requested : commit ≡ None → Alone setup h op mine sends → OperationEffect setup h k i op mine sends commit
  Exchanged : commit ≡ None → Evicting setup h op mine sends → OperationEffect setup h k i op mine sends commit

-- an operation that doesn't hit commits nothing and sends something
record Misses (w : Emission) : Type 0 where
  pub none : w.commit ≡ None
  pub some : w.sends ≡ Sends.Nothing → ⊥

-- a request alone is such
alone_misses : (h : ℕ) (op : Op) (tags : List ℕ) (w : Emission) → RequestAlone h op tags w → Misses w
alone_misses h op tags w alone = record {
  none = ap (λ (x : Emission). x.commit) alone.emits;
  some = λ nothing. let sent = ap (λ (x : Emission). x.sends) alone.emits in cc;
}

-- so is each way of an operation that does not hit
missed_misses : (setup : Configuration) (h : ℕ) (op : Op) (mine : List Event) (w : Emission) → Missed setup h op mine w → Misses w
missed_misses setup h op mine w missed =
    elim missed.how [
      | inl without ↦ alone_misses h op (free_tags setup mine) w without.alone
      | inr (inl shared) ↦ alone_misses h op (free_tags setup mine) w shared.alone
      | inr (inr writable) ↦ record {
        none = ap (λ (x : Emission). x.commit) writable.evicting.emits;
        some = λ nothing. let sent = ap (λ (x : Emission). x.sends) writable.evicting.emits in cc;
      }
    ]

-- what an operation that does not hit does, by what it sends
by_sends : (setup : Configuration) (h k i : ℕ) (op : Op) (mine : List Event) (w : Emission) → Misses w → Operated setup h op mine w.sends → OperationEffect setup h k i op mine w.sends w.commit
by_sends setup h k i op mine w misses (Hits nothing) = absurd (misses.some nothing)
by_sends setup h k i op mine w misses (Requests one) = Requested misses.none one
by_sends setup h k i op mine w misses (Evicts two) = Exchanged misses.none two

-- what an operation does, by its row
pub operation_effect : (setup : Configuration) (h k i : ℕ) (op : Op) (mine : List Event) (w : Emission) → host_operates setup h k i op mine ≡ Some w → OperationEffect setup h k i op mine w.sends w.commit
operation_effect setup h k i op mine w row =
    elim (host_operates-inv setup h k i op mine w row) [
      | inl hit ↦ Committed _ (ap (λ (x : Emission). x.commit) hit.emits) (ap (λ (x : Emission). x.sends) hit.emits)
      | inr missed ↦ by_sends setup h k i op mine w (missed_misses setup h op mine w missed) (operated setup h k i op mine w row)
    ]

-- ---- the streams

-- the same with another function that is equal everywhere
kept_open : (P : ℕ → ℕ → Op → Type 0) (f g : ℕ → Option Transaction) (waits : ℕ → Bool) (begun : ℕ → ℕ) → ((a : ℕ) → g a ≡ f a) → StreamsKept P f waits begun → StreamsKept P g waits begun
kept_open P f g waits begun same kept = record {
  awaited = λ s w. let old = kept.awaited s w in record { line = old.line; o = old.o; there = same old.line ∙ old.there; request = old.request; stream = old.stream };
  expected = λ a o there asks. kept.expected a o (sym (same a) ∙ there) asks;
  alone = λ a b o p here there asks too one. kept.alone a b o p (sym (same a) ∙ here) (sym (same b) ∙ there) asks too one;
}

-- an operation opens a request
asks_request : (op : Op) → is_request (kind_of op) ≡ true
asks_request (Op.Load line) = refl
asks_request (Op.Word line place value) = refl
asks_request (Op.Whole line bytes) = refl

-- an eviction is no request
no_request : (modified : Bool) → is_request (eviction_kind modified) ≡ false
no_request true = refl
no_request false = refl

-- nothing is open for a quiet line
quiet_none : (a : ℕ) (mine : List Event) → is_quiet a mine ≡ true → open_at a mine ≡ None
quiet_none a mine quiet = nothing_there (open_at a mine) (quiet_parts a mine quiet).0

-- an operation of a stream that doesn't wait
pub operation_keeps :
    (P : ℕ → ℕ → Op → Type 0) (setup : Configuration) (h k i : ℕ) (op : Op) (mine : List Event) (sends : Sends) (commit : Option Commit) (waits : ℕ → Bool) (begun : ℕ → ℕ)
    → OperationEffect setup h k i op mine sends commit → waits k ≡ false → i ≡ begun k → P k i op → StreamsKept P (λ a. open_at a mine) waits begun
    → StreamsKept P (λ a. open_after a (Cause.Op k i op) sends (open_at a mine)) (after_waits (Cause.Op k i op) commit waits) (after_begun (Cause.Op k i op) begun)
operation_keeps P setup h k i op mine sends commit waits begun (Committed v commits nothing) idle order named kept =
    subst (λ (c : Option Commit). StreamsKept P (λ a. open_after a (Cause.Op k i op) sends (open_at a mine)) (after_waits (Cause.Op k i op) c waits) (after_begun (Cause.Op k i op) begun)) (sym commits)
    (kept_open P (λ a. open_at a mine) (λ a. open_after a (Cause.Op k i op) sends (open_at a mine)) (after_waits (Cause.Op k i op) (Some (record { stream = k; index = i; op = op; value = v })) waits) (after_begun (Cause.Op k i op) begun)
    (λ a. ap (λ (x : Sends). open_after a (Cause.Op k i op) x (open_at a mine)) nothing) (hit_keeps P (λ a. open_at a mine) waits begun k i op v idle kept))
operation_keeps P setup h k i op mine sends commit waits begun (Requested none one) idle order named kept =
    subst (λ (c : Option Commit). StreamsKept P (λ a. open_after a (Cause.Op k i op) sends (open_at a mine)) (after_waits (Cause.Op k i op) c waits) (after_begun (Cause.Op k i op) begun)) (sym none)
    (kept_open P (opening_line (line_of op) (opened k i op (kind_of op) one.t) (λ a. open_at a mine)) (λ a. open_after a (Cause.Op k i op) sends (open_at a mine)) (after_waits (Cause.Op k i op) None waits) (after_begun (Cause.Op k i op) begun)
    (λ a. ap (λ (x : Sends). open_after a (Cause.Op k i op) x (open_at a mine)) one.sent ∙ one_opens a k i h op (request_message op one.t) (line_of op) one.t (kind_of op) mine (request_opens op one.t))
    (request_keeps P (λ a. open_at a mine) waits begun (line_of op) k i op (kind_of op) one.t (quiet_none (line_of op) mine one.quiet) idle order named (asks_request op) kept))
operation_keeps P setup h k i op mine sends commit waits begun (Exchanged none two) idle order named kept =
    let f : ℕ → Option Transaction = λ a. open_at a mine in
    let l = line_of op in
    let x = opened k i op (kind_of op) two.u in
    let y = opened k i op (eviction_kind (is_modified setup two.v mine)) two.t in
    let free : opening_line l x f two.v ≡ None =
    ap (λ (b : Bool). option_or (cond b (Some x) None) (f two.v)) (ne_eqb l two.v (λ same. two.other (sym same))) ∙ quiet_none two.v mine two.idle in
    subst (λ (c : Option Commit). StreamsKept P (λ a. open_after a (Cause.Op k i op) sends (open_at a mine)) (after_waits (Cause.Op k i op) c waits) (after_begun (Cause.Op k i op) begun)) (sym none)
    (kept_open P (opening_line two.v y (opening_line l x f)) (λ a. open_after a (Cause.Op k i op) sends (open_at a mine)) (after_waits (Cause.Op k i op) None waits) (after_begun (Cause.Op k i op) begun)
    (λ a. ap (λ (z : Sends). open_after a (Cause.Op k i op) z (open_at a mine)) two.sent
    ∙ two_open a k i h op (eviction_message setup two.v mine two.t) (request_message op two.u) two.v two.t (eviction_kind (is_modified setup two.v mine)) l two.u (kind_of op) mine
    (victim_opens setup two.v mine two.t) (request_opens op two.u))
    (eviction_keeps P (opening_line l x f) (after_waits (Cause.Op k i op) None waits) (after_begun (Cause.Op k i op) begun) two.v y free (no_request (is_modified setup two.v mine))
    (request_keeps P f waits begun l k i op (kind_of op) two.u (quiet_none l mine two.quiet) idle order named (asks_request op) kept)))
