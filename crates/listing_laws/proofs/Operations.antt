-- What an operation's row says, by cases: it hits, it sends its request alone, or it evicts a writable victim too.
use Rattle.std.proofs.Common.{◌≡◌, ℕ, true, false, List, Option, Some, None, cond, sym, ◌∙◌, ap, subst, inl, inr}
use Rattle.std.specs.Prelude.{length, nat_le, not}
use Rattle.std.proofs.lemmas.Bool.{and_parts, cond-false, cond-true, false≢true, not-true}
use Rattle.std.proofs.lemmas.Option.{none-some, same_Some}
use Rattle.cxl_message.specs.declared.events.Commit.{Commit}
use Rattle.cxl_message.specs.declared.events.Event.{Event}
use Rattle.cxl_message.specs.declared.events.Op.{Op}
use Rattle.cxl_message.specs.declared.events.Sends.{Sends}
use Rattle.cxl_message.specs.Events.{line_of}
use Rattle.cxl_message.specs.Lists.{is_in}
use Rattle.cxl_message.specs.Setup.{Configuration}
use Rattle.coherence_model.specs.Cache.{is_writable, needs_victim, victim_way, ways}
use Rattle.coherence_model.specs.Emission.{Emission}
use Rattle.coherence_model.specs.HostOperations.{eviction_message, hits, host_operates, request_message}
use Rattle.coherence_model.specs.Snoops.{is_quiet}
use Rattle.coherence_lemmas.proofs.HostOperations.{Hit, Missed, host_operates-inv}
use Rattle.request_laws.proofs.FreeTags.{IsFree, TwoFree, first_is_free, two_are_free}
use Rattle.request_laws.proofs.Options.{find_is_in}

-- a request alone, which may drop a victim that isn't writable
pub record AloneRow (setup : Configuration) (h : ℕ) (op : Op) (own : List Event) (sends : Sends) (commit : Option Commit) : Type 0 where
  pub t : ℕ
  pub d : Option ℕ
  pub sent : sends ≡ Sends.One (record { host = h; message = request_message op t })
  pub uncommitted : commit ≡ None
  pub miss : hits setup op own ≡ false
  pub quiet : is_quiet (line_of op) own ≡ true
  pub free : IsFree setup own t
  pub drops : cond (needs_victim setup (line_of op) own) (victim_way setup own) None ≡ d
  pub unwritable : (v : ℕ) → d ≡ Some v → (is_writable setup v own ≡ false) × (is_quiet v own ≡ true)

-- a request with the eviction of a writable victim
pub record EvictingRow (setup : Configuration) (h : ℕ) (op : Op) (own : List Event) (sends : Sends) (commit : Option Commit) : Type 0 where
  pub v : ℕ
  pub t : ℕ
  pub u : ℕ
  pub sent : sends ≡ Sends.Two (record { host = h; message = eviction_message setup v own t }) (record { host = h; message = request_message op u })
  pub uncommitted : commit ≡ None
  pub miss : hits setup op own ≡ false
  pub quiet : is_quiet (line_of op) own ≡ true
  pub idle : is_quiet v own ≡ true
  pub writable : is_writable setup v own ≡ true
  pub free : TwoFree setup own t u
  pub other : v ≡ line_of op → ⊥

-- an operation's row, by cases
pub data OperationRow (setup : Configuration) (h s i : ℕ) (op : Op) (own : List Event) (w : Emission) (sends : Sends) (commit : Option Commit) : Type 0 where
  RowHits : Hit setup s i op own w → OperationRow setup h s i op own w sends commit
  RowAlone : AloneRow setup h op own sends commit → OperationRow setup h s i op own w sends commit
  RowEvicts : EvictingRow setup h op own sends commit → OperationRow setup h s i op own w sends commit

-- a victim is quiet
victim_quiet : (setup : Configuration) (own : List Event) (v : ℕ) → victim_way setup own ≡ Some v → is_quiet v own ≡ true
victim_quiet setup own v found = (find_is_in (λ a. is_quiet a own) (ways setup own) v found).1

-- a victim is another line than the operation's
victim_other : (setup : Configuration) (own : List Event) (l v : ℕ) → needs_victim setup l own ≡ true → victim_way setup own ≡ Some v → v ≡ l → ⊥
victim_other setup own l v needs found same =
    let there = (find_is_in (λ a. is_quiet a own) (ways setup own) v found).0 in
    let lacks = and_parts (not (is_in l (ways setup own))) (nat_le setup.ways (length (ways setup own))) needs in
    false≢true (sym (not-true _ lacks.0) ∙ subst (λ x. is_in x (ways setup own) ≡ true) same there)

-- a miss sends a request, or an eviction too
missed_row : (setup : Configuration) (h s i : ℕ) (op : Op) (own : List Event) (w : Emission) (sends : Sends) (commit : Option Commit) → sends ≡ w.sends → commit ≡ w.commit
    → Missed setup h op own w → OperationRow setup h s i op own w sends commit
missed_row setup h s i op own w sends commit sent committed m = elim m.how [
  | inl without ↦ RowAlone (record {
    t = without.alone.tag;
    d = None;
    sent = sent ∙ ap (λ (x : Emission). x.sends) without.alone.emits;
    uncommitted = committed ∙ ap (λ (x : Emission). x.commit) without.alone.emits;
    miss = m.no_copy;
    quiet = m.quiet;
    free = first_is_free setup own without.alone.tag without.alone.rest without.alone.free;
    drops = cond-false (needs_victim setup (line_of op) own) (victim_way setup own) None without.needs;
    unwritable = λ v is. absurd (none-some v is);
  })
  | inr with_victim ↦ (elim with_victim [
    | inl shared ↦ RowAlone (record {
      t = shared.alone.tag;
      d = Some shared.v;
      sent = sent ∙ ap (λ (x : Emission). x.sends) shared.alone.emits;
      uncommitted = committed ∙ ap (λ (x : Emission). x.commit) shared.alone.emits;
      miss = m.no_copy;
      quiet = m.quiet;
      free = first_is_free setup own shared.alone.tag shared.alone.rest shared.alone.free;
      drops = cond-true (needs_victim setup (line_of op) own) (victim_way setup own) None shared.needs ∙ shared.victim;
      unwritable = λ v is.
          let same = same_Some shared.v v is in
          (subst (λ x. is_writable setup x own ≡ false) same shared.shared, subst (λ x. is_quiet x own ≡ true) same (victim_quiet setup own shared.v shared.victim));
    })
    | inr owned ↦ RowEvicts (record {
      v = owned.v;
      t = owned.evicting.eviction_tag;
      u = owned.evicting.tag;
      sent = sent ∙ ap (λ (x : Emission). x.sends) owned.evicting.emits;
      uncommitted = committed ∙ ap (λ (x : Emission). x.commit) owned.evicting.emits;
      miss = m.no_copy;
      quiet = m.quiet;
      idle = victim_quiet setup own owned.v owned.victim;
      writable = owned.writable;
      free = two_are_free setup own owned.evicting.eviction_tag owned.evicting.tag owned.evicting.rest owned.evicting.free;
      other = victim_other setup own (line_of op) owned.v owned.needs owned.victim;
    })
  ])
]

-- each operation's row is a hit, a miss that sends a request, or a miss that sends an eviction too
pub operation_row : (setup : Configuration) (h s i : ℕ) (op : Op) (own : List Event) (w : Emission) (sends : Sends) (commit : Option Commit) → host_operates setup h s i op own ≡ Some w
    → sends ≡ w.sends → commit ≡ w.commit → OperationRow setup h s i op own w sends commit
operation_row setup h s i op own w sends commit row sent committed = elim (host_operates-inv setup h s i op own w row) [
  | inl hit ↦ RowHits hit
  | inr missed ↦ missed_row setup h s i op own w sends commit sent committed missed
]
