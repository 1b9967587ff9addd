-- The room of requests: an eviction is in progress for a request exactly where its task stands, and a request with an eviction or a reservation is buffered.
use Rattle.std.proofs.Common.{◌≡◌, ℕ, Bool, true, false, List, [], ◌∷◌, Option, Some, None, cond, find, refl, sym, ◌∙◌, ap, subst, inl, inr}
use Rattle.std.specs.Prelude.{◌&&◌, ◌==◌, ◌⊎◌}
use Rattle.std.specs.Option.{option_map_or, option_or}
use Rattle.std.proofs.lemmas.Bool.{and_from, and_parts, eq-eqb, eqb-true, false≢true}
use Rattle.std.proofs.lemmas.Option.{none-some}
use Rattle.std.proofs.lemmas.List.Folds.{find-append}
use Rattle.cxl_message.specs.declared.identifiers.Line.{Line}
use Rattle.cxl_message.specs.declared.identifiers.Tag.{Tag}
use Rattle.cxl_message.specs.declared.messages.Message.{Message}
use Rattle.cxl_message.specs.declared.opcodes.Meta.{Meta}
use Rattle.cxl_message.specs.declared.opcodes.ReqOp.{ReqOp}
use Rattle.cxl_message.specs.declared.opcodes.SnpType.{SnpType}
use Rattle.cxl_message.specs.declared.opcodes.Span.{Span}
use Rattle.cxl_message.specs.Messages.{has_tag, tag_of}
use Rattle.coherence_model.specs.Buffers.{message_with, without_tag, without_used}
use Rattle.coherence_model.specs.Copies.{asks_for_grant}
use Rattle.coherence_model.specs.DirectoryChanges.{with_task}
use Rattle.coherence_model.specs.Room.{Room, evicts_for, is_no_eviction}
use Rattle.coherence_model.specs.Tasks.{Task, eviction_task, is_eviction, purpose_of}
use Rattle.coherence_model.specs.Words.{with_last}
use Rattle.entry_laws.proofs.DeviceRows.{FoundRequest}
use Rattle.entry_laws.proofs.Tasks.{changed_task, kept_task, other_task, own_task, same_task}

-- a task that evicts for the request of host h with a tag
pub record Evicting (task : ℕ → Option Task) (h tag : ℕ) : Type 0 where
  pub first : ℕ
  pub t : Task
  pub is : task first ≡ Some t
  pub evicts : evicts_for h tag t ≡ true

-- a buffered request that asks for a grant
pub record Waiting (tag : ℕ) (ms : List Message) : Type 0 where
  pub r : FoundRequest tag ms
  pub asks : asks_for_grant r.op ≡ true

-- evictions and the room of requests
pub record RoomsKept (task : ℕ → Option Task) (room : ℕ → ℕ → Room) (buffer : ℕ → List Message) : Type 0 where
  pub progress : (a : ℕ) (t : Task) → task a ≡ Some t → is_eviction t.purpose ≡ true → room t.host t.tag ≡ Room.EvictionInProgress
  pub alone :
      (a b : ℕ) (s t : Task) → task a ≡ Some s → task b ≡ Some t → is_eviction s.purpose ≡ true → is_eviction t.purpose ≡ true
      → s.host ≡ t.host → s.tag ≡ t.tag → a ≡ b
  pub stands : (h tag : ℕ) → room h tag ≡ Room.EvictionInProgress → Evicting task h tag
  pub buffered : (h tag : ℕ) → is_no_eviction (room h tag) ≡ false → Waiting tag (buffer h)

-- ---- rooms are different

not_both : (r : Room) → r ≡ Room.EvictionInProgress → is_no_eviction r ≡ true → ⊥
not_both r same none = false≢true (ap is_no_eviction (sym same) ∙ none)

-- ---- buffers

-- a waiting request still waits when a message is taken
pub waits_on : (o : Option Message) (tag : ℕ) (ms : List Message) → Waiting tag ms → Waiting tag (with_last o ms)
waits_on None tag ms w = w
waits_on (Some m) tag ms w =
    let r = w.r in
    record {
      r = record {
        op = r.op;
        meta = r.meta;
        snp = r.snp;
        own_tag = r.own_tag;
        line = r.line;
        found = find-append (has_tag tag) ms (m ∷ []) ∙ ap (λ found. option_or found (find (has_tag tag) (m ∷ []))) r.found;
        same = r.same;
      };
      asks = w.asks;
    }

both_tags :
    (m : Message) (found : Option ℕ) (k tag : ℕ) → option_map_or (λ t. t == k) found false ≡ true → option_map_or (λ t. t == tag) found false ≡ true → k ≡ tag
both_tags m None k tag h g = absurd (false≢true h)
both_tags m (Some t) k tag h g = sym (eqb-true t k h) ∙ eqb-true t tag g

-- a message with another tag is found as before
find_past_used :
    (k tag : ℕ) (m : Message) (rest left : Option Message) (used here : Bool) → has_tag k m ≡ used → has_tag tag m ≡ here → (k ≡ tag → ⊥)
    → (ms ns : List Message) → find (has_tag tag) ms ≡ rest → find (has_tag tag) ns ≡ rest → find (has_tag tag) (cond used ms (m ∷ ns)) ≡ cond here (Some m)
    rest
find_past_used k tag m rest left true true is_k is_tag differ ms ns old new = absurd (differ (both_tags m (tag_of m) k tag is_k is_tag))
find_past_used k tag m rest left true false is_k is_tag differ ms ns old new = old
find_past_used k tag m rest left false here is_k is_tag differ ms ns old new =
    ap (λ b. cond b (Some m) (find (has_tag tag) ns)) is_tag ∙ ap (cond here (Some m)) new

found_without : (k tag : ℕ) → (k ≡ tag → ⊥) → (ms : List Message) → message_with tag (without_tag k ms) ≡ message_with tag ms
found_without k tag differ [] = refl
found_without k tag differ (m ∷ ms) =
    find_past_used k tag m (find (has_tag tag) ms) None (has_tag k m) (has_tag tag m) refl refl differ ms (without_tag k ms) refl
    (found_without k tag differ ms)

waits_past : (k tag : ℕ) (ms : List Message) → (k ≡ tag → ⊥) → Waiting tag ms → Waiting tag (without_tag k ms)
waits_past k tag ms differ w =
    let r = w.r in
    record {
      r = record { op = r.op; meta = r.meta; snp = r.snp; own_tag = r.own_tag; line = r.line; found = found_without k tag differ ms ∙ r.found; same = r.same };
      asks = w.asks;
    }

-- a waiting request still waits where another one is used
waits_other :
    (host k h tag : ℕ) (ms : List Message) (b : Bool) → (host == h) ≡ b → ((host ≡ h) → (k ≡ tag) → ⊥) → Waiting tag ms
    → Waiting tag (without_used (cond b (Some k) None) ms)
waits_other host k h tag ms true is differ w = waits_past k tag ms (differ (eqb-true host h is)) w
waits_other host k h tag ms false is differ w = w

-- ---- Clean

same_op :
    (op : ReqOp) (meta : Meta) (snp : SnpType) (tag : Tag) (line : Line) (op2 : ReqOp) (meta2 : Meta) (snp2 : SnpType) (tag2 : Tag) (line2 : Line)
    → Some (Message.Req op meta snp tag line) ≡ Some (Message.Req op2 meta2 snp2 tag2 line2) → op ≡ op2
same_op op meta snp tag line op2 meta2 snp2 tag2 line2 h = cc

clean_no_waiting : (k tag : ℕ) (ms : List Message) (r : FoundRequest k ms) → asks_for_grant r.op ≡ false → k ≡ tag → Waiting tag ms → ⊥
clean_no_waiting k tag ms r none same w =
    let found : message_with tag ms ≡ Some (Message.Req r.op r.meta r.snp r.own_tag r.line) = subst
    (λ x. message_with x ms ≡ Some (Message.Req r.op r.meta r.snp r.own_tag r.line)) same r.found in
    let ops : r.op ≡ w.r.op = same_op _ _ _ _ _ _ _ _ _ _ (sym found ∙ w.r.found) in
    false≢true (sym none ∙ (ap asks_for_grant ops ∙ w.asks))

pub clean_rooms :
    (task : ℕ → Option Task) (room : ℕ → ℕ → Room) (buffer : ℕ → List Message) (host k : ℕ) (r : FoundRequest k (buffer host)) → asks_for_grant r.op ≡ false
    → RoomsKept task room buffer → RoomsKept task room (λ h. without_used (cond (host == h) (Some k) None) (buffer h))
clean_rooms task room buffer host k r none kept = record {
  progress = kept.progress;
  alone = kept.alone;
  stands = kept.stands;
  buffered = λ h tag is. (
      let w = kept.buffered h tag is in
      waits_other host k h tag (buffer h) (host == h) refl
      (λ same_host same_tag. clean_no_waiting k tag (buffer host) r none same_tag (subst (λ x. Waiting tag (buffer x)) (sym same_host) w)) w
      );
}

-- ---- Start

pub is_no_purpose : (op : ReqOp) (meta : Meta) → is_eviction (purpose_of op meta) ≡ false
is_no_purpose ReqOp.MemRd Meta.Invalid = refl
is_no_purpose ReqOp.MemRd Meta.Any = refl
is_no_purpose ReqOp.MemRd Meta.Shared = refl
is_no_purpose ReqOp.MemInv meta = refl
is_no_purpose ReqOp.MemClnEvct meta = refl

kept_for :
    (host k h tag : ℕ) (new old r : Room) (own : Bool) → ((host == h) && (k == tag)) ≡ own → (new ≡ r → ⊥) → cond own new old ≡ r
    → ((host ≡ h) → (k ≡ tag) → ⊥) × (old ≡ r)
kept_for host k h tag new old r true is none same = absurd (none same)
kept_for host k h tag new old r false is none same =
    (λ same_host same_tag. false≢true (sym is ∙ and_from _ _ (eq-eqb host h same_host) (eq-eqb k tag same_tag)), same)

other_room :
    (host k h tag : ℕ) (new old r : Room) (own : Bool) → ((host == h) && (k == tag)) ≡ own → ((host ≡ h) → (k ≡ tag) → ⊥) → old ≡ r → cond own new old ≡ r
other_room host k h tag new old r true is differ same = let parts = and_parts _ _ is in absurd (differ (eqb-true host h parts.0) (eqb-true k tag parts.1))
other_room host k h tag new old r false is differ same = same

no_is_not_progress : Room.NoEviction ≡ Room.EvictionInProgress → ⊥
no_is_not_progress h = false≢true (ap is_no_eviction (sym h))

kept_unless :
    (host k h tag : ℕ) (old : Room) (own : Bool) → ((host == h) && (k == tag)) ≡ own → is_no_eviction (cond own Room.NoEviction old) ≡ false
    → ((host ≡ h) → (k ≡ tag) → ⊥) × (is_no_eviction old ≡ false)
kept_unless host k h tag old true is none = absurd (false≢true (sym none))
kept_unless host k h tag old false is none = (λ same_host same_tag. false≢true (sym is ∙ and_from _ _ (eq-eqb host h same_host) (eq-eqb k tag same_tag)), none)

not_evicting : (new t : Task) → is_eviction new.purpose ≡ false → new ≡ t → is_eviction t.purpose ≡ true → ⊥
not_evicting new t granting same eviction = false≢true (sym granting ∙ (ap (λ (x : Task). is_eviction x.purpose) same ∙ eviction))

at_same : (room : ℕ → ℕ → Room) (h k g tag : ℕ) → h ≡ g → k ≡ tag → room g tag ≡ Room.EvictionInProgress → room h k ≡ Room.EvictionInProgress
at_same room h k g tag same_host same_tag is = cc

pub start_rooms :
    (task : ℕ → Option Task) (room : ℕ → ℕ → Room) (buffer : ℕ → List Message) (host k line : ℕ) (new : Task) → is_eviction new.purpose ≡ false → task line ≡
    None
    → (room host k ≡ Room.EvictionInProgress → ⊥) → RoomsKept task room buffer
    → RoomsKept (with_task line (Some new) task) (λ h tag. cond ((host == h) && (k == tag)) Room.NoEviction (room h tag))
    (λ h. without_used (cond (host == h) (Some k) None) (buffer h))
start_rooms task room buffer host k line new granting free idle kept = record {
  progress = λ a t is eviction. elim (changed_task line (Some new) task a t is) [
    | inl own ↦ absurd (not_evicting new t granting (same_task t new own.1) eviction)
    | inr old ↦ (
        let before = kept.progress a t old.1 eviction in
        other_room host k t.host t.tag Room.NoEviction (room t.host t.tag) Room.EvictionInProgress ((host == t.host) && (k == t.tag)) refl
        (λ same_host same_tag. idle (at_same room host k t.host t.tag same_host same_tag before)) before
        )
  ];
  alone = λ a b s t is_s is_t evicts_s evicts_t same_host same_tag. elim (changed_task line (Some new) task a s is_s) [
    | inl own ↦ absurd (not_evicting new s granting (same_task s new own.1) evicts_s)
    | inr old ↦ (elim (changed_task line (Some new) task b t is_t) [
      | inl own ↦ absurd (not_evicting new t granting (same_task t new own.1) evicts_t)
      | inr other ↦ kept.alone a b s t old.1 other.1 evicts_s evicts_t same_host same_tag
    ])
  ];
  stands = λ h tag is. (
      let parts = kept_for host k h tag Room.NoEviction (room h tag) Room.EvictionInProgress ((host == h) && (k == tag)) refl no_is_not_progress is in
      let by = kept.stands h tag parts.1 in
      record { first = by.first; t = by.t; is = kept_task line (Some new) task by.first by.t free by.is; evicts = by.evicts }
      );
  buffered = λ h tag is. (
      let parts = kept_unless host k h tag (room h tag) ((host == h) && (k == tag)) refl is in
      waits_other host k h tag (buffer h) (host == h) refl parts.0 (kept.buffered h tag parts.1)
      );
}

-- ---- Evict

progress_or : (own : Bool) (old : Room) → old ≡ Room.EvictionInProgress → cond own Room.EvictionInProgress old ≡ Room.EvictionInProgress
progress_or true old h = refl
progress_or false old h = h

progress_own : (h k : ℕ) (old : Room) (own : Bool) → ((h == h) && (k == k)) ≡ own → cond own Room.EvictionInProgress old ≡ Room.EvictionInProgress
progress_own h k old true is = refl
progress_own h k old false is = absurd (false≢true (sym is ∙ and_from _ _ (eq-eqb h h refl) (eq-eqb k k refl)))

-- the room is that of the new eviction, or the old one
progress_cases :
    {A : Type 0} (host k h tag : ℕ) (old : Room) (own : Bool) → ((host == h) && (k == tag)) ≡ own → (P : Room → Type 0)
    → P (cond own Room.EvictionInProgress old) → ((host ≡ h) → (k ≡ tag) → A) → (P old → A) → A
progress_cases host k h tag old true is P holds new before = let parts = and_parts _ _ is in new (eqb-true host h parts.0) (eqb-true k tag parts.1)
progress_cases host k h tag old false is P holds new before = before holds

not_new :
    (room : ℕ → ℕ → Room) (host : ℕ) (k : Tag) (span : Span) (s t : Task) → is_no_eviction (room host k.0) ≡ true → eviction_task host k span ≡ s
    → room t.host t.tag ≡ Room.EvictionInProgress → s.host ≡ t.host → s.tag ≡ t.tag → ⊥
not_new room host k span s t idle same progress same_host same_tag =
    not_both (room host k.0)
    (at_same room host k.0 t.host t.tag (ap (λ (x : Task). x.host) same ∙ same_host) (ap (λ (x : Task). x.tag) same ∙ same_tag) progress) idle

pub evict_rooms :
    (task : ℕ → Option Task) (room : ℕ → ℕ → Room) (buffer : ℕ → List Message) (host : ℕ) (k : Tag) (first : ℕ) (span : Span) → task first ≡ None
    → is_no_eviction (room host k.0) ≡ true → Waiting k.0 (buffer host) → RoomsKept task room buffer
    → RoomsKept (with_task first (Some (eviction_task host k span)) task) (λ h tag. cond ((host == h) && (k.0 == tag)) Room.EvictionInProgress (room h tag))
    buffer
evict_rooms task room buffer host k first span free idle waiting kept = record {
  progress = λ a t is eviction. elim (changed_task first (Some (eviction_task host k span)) task a t is) [
    | inl own ↦ subst (λ (s : Task). cond ((host == s.host) && (k.0 == s.tag)) Room.EvictionInProgress (room s.host s.tag) ≡ Room.EvictionInProgress)
        (same_task t (eviction_task host k span) own.1)
        (progress_own host k.0 (room host k.0) ((host == host) && (k.0 == k.0)) refl)
    | inr old ↦ progress_or ((host == t.host) && (k.0 == t.tag)) (room t.host t.tag) (kept.progress a t old.1 eviction)
  ];
  alone = λ a b s t is_s is_t evicts_s evicts_t same_host same_tag. elim (changed_task first (Some (eviction_task host k span)) task a s is_s) [
    | inl own ↦ (elim (changed_task first (Some (eviction_task host k span)) task b t is_t) [
      | inl other ↦ own.0 ∙ sym other.0
      | inr old ↦ absurd
          (not_new room host k span s t idle (same_task s (eviction_task host k span) own.1) (kept.progress b t old.1 evicts_t) same_host same_tag)
    ])
    | inr old ↦ (elim (changed_task first (Some (eviction_task host k span)) task b t is_t) [
      | inl own ↦ absurd
          (not_new room host k span t s idle (same_task t (eviction_task host k span) own.1) (kept.progress a s old.1 evicts_s) (sym same_host) (sym same_tag))
      | inr other ↦ kept.alone a b s t old.1 other.1 evicts_s evicts_t same_host same_tag
    ])
  ];
  stands = λ h tag is. progress_cases host k.0 h tag (room h tag) ((host == h) && (k.0 == tag)) refl (λ r. r ≡ Room.EvictionInProgress) is
      (λ same_host same_tag. record {
        first = first;
        t = eviction_task host k span;
        is = own_task first (Some (eviction_task host k span)) task;
        evicts = and_from _ _ (eq-eqb host h same_host) (eq-eqb k.0 tag same_tag);
      })
      (λ old. (let by = kept.stands h tag old in record {
        first = by.first;
        t = by.t;
        is = kept_task first
            (Some (eviction_task host k span)) task by.first by.t free by.is;
        evicts = by.evicts;
      }));
  buffered = λ h tag is. progress_cases host k.0 h tag (room h tag) ((host == h) && (k.0 == tag)) refl (λ r. is_no_eviction r ≡ false) is
      (λ same_host same_tag. subst (λ x. Waiting x (buffer h)) same_tag (subst (λ x. Waiting k.0 (buffer x)) same_host waiting))
      (kept.buffered h tag);
}

-- ---- Finish

pub evicts_parts : (h tag : ℕ) (t : Task) → evicts_for h tag t ≡ true → (is_eviction t.purpose ≡ true) × (t.host ≡ h) × (t.tag ≡ tag)
evicts_parts h tag t is =
    let parts = and_parts _ _ is in
    let first = and_parts _ _ parts.0 in
    (first.0, eqb-true t.host h first.1, eqb-true t.tag tag parts.1)

reserved_other : (b : Bool) (old : Room) → (b ≡ true → ⊥) → old ≡ Room.EvictionInProgress → cond b Room.Reservation old ≡ Room.EvictionInProgress
reserved_other true old none h = absurd (none refl)
reserved_other false old none h = h

reserved_old : (b : Bool) (old : Room) → cond b Room.Reservation old ≡ Room.EvictionInProgress → (b ≡ false) × (old ≡ Room.EvictionInProgress)
reserved_old true old h = cc
reserved_old false old h = (refl, h)

reserved_cases : (b : Bool) (old : Room) → is_no_eviction (cond b Room.Reservation old) ≡ false → (b ≡ true) ⊎ (is_no_eviction old ≡ false)
reserved_cases true old h = inl refl
reserved_cases false old h = inr h

another_task :
    (task : ℕ → Option Task) (line first : ℕ) (t s : Task) (h tag : ℕ) → task line ≡ Some t → task first ≡ Some s → evicts_for h tag s ≡ true
    → evicts_for h tag t ≡ false → first ≡ line → ⊥
another_task task line first t s h tag is_t is_s evicts none same =
    let tasks : s ≡ t = cc in
    false≢true (sym none ∙ (ap (evicts_for h tag) (sym tasks) ∙ evicts))

pub finish_rooms :
    (task : ℕ → Option Task) (room : ℕ → ℕ → Room) (buffer : ℕ → List Message) (line : ℕ) (t : Task) → task line ≡ Some t → RoomsKept task room buffer
    → RoomsKept (with_task line None task) (λ h tag. cond (evicts_for h tag t) Room.Reservation (room h tag)) buffer
finish_rooms task room buffer line t is_t kept = record {
  progress = λ a s is eviction. elim (changed_task line None task a s is) [
    | inl own ↦ absurd (none-some s own.1)
    | inr old ↦ reserved_other (evicts_for s.host s.tag t) (room s.host s.tag)
        (λ evicts. (let parts = evicts_parts s.host s.tag t evicts in old.0 (kept.alone a line s t old.1 is_t eviction parts.0 (sym parts.1) (sym parts.2))))
        (kept.progress a s old.1 eviction)
  ];
  alone = λ a b r s is_r is_s evicts_r evicts_s same_host same_tag. elim (changed_task line None task a r is_r) [
    | inl own ↦ absurd (none-some r own.1)
    | inr old ↦ (elim (changed_task line None task b s is_s) [
      | inl own ↦ absurd (none-some s own.1)
      | inr other ↦ kept.alone a b r s old.1 other.1 evicts_r evicts_s same_host same_tag
    ])
  ];
  stands = λ h tag is. (
      let parts = reserved_old (evicts_for h tag t) (room h tag) is in
      let by = kept.stands h tag parts.1 in
      record {
        first = by.first;
        t = by.t;
        is = other_task line None task by.first (λ same. another_task task line by.first t by.t h tag is_t by.is by.evicts parts.0 same) ∙ by.is;
        evicts = by.evicts;
      }
      );
  buffered = λ h tag is. elim (reserved_cases (evicts_for h tag t) (room h tag) is) [
    | inl evicts ↦ (
        let parts = evicts_parts h tag t evicts in
        let before = kept.progress line t is_t parts.0 in
        kept.buffered h tag (ap is_no_eviction (at_same room h tag t.host t.tag (sym parts.1) (sym parts.2) before))
        )
    | inr old ↦ kept.buffered h tag old
  ];
}
