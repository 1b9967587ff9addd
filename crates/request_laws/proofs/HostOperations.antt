-- What an operation of a host sends, by its row: nothing, its request alone, or an eviction before it.
use Rattle.std.proofs.Common.{◌≡◌, ℕ, Bool, true, false, List, [], ◌∷◌, Some, None, cond, length, refl, sym, ap, subst, inl, inr}
use Rattle.std.specs.Prelude.{nat_le, not, ◌==◌}
use Rattle.std.proofs.lemmas.Bool.{and_parts, both_ways, not-true}
use Rattle.std.proofs.lemmas.Option.{none-some, same_Some}
use Rattle.cxl_message.specs.declared.events.Event.{Event}
use Rattle.cxl_message.specs.declared.events.Op.{Op}
use Rattle.cxl_message.specs.declared.events.Sends.{Sends}
use Rattle.cxl_message.specs.declared.identifiers.Bytes64.{Bytes64}
use Rattle.cxl_message.specs.declared.messages.Message.{Message}
use Rattle.cxl_message.specs.declared.opcodes.Meta.{Meta}
use Rattle.cxl_message.specs.declared.opcodes.ReqOp.{ReqOp}
use Rattle.cxl_message.specs.declared.opcodes.SnpType.{SnpType}
use Rattle.cxl_message.specs.Events.{line_of}
use Rattle.cxl_message.specs.Lists.{is_in}
use Rattle.cxl_message.specs.Messages.{line_in, tag_of}
use Rattle.cxl_message.specs.Setup.{Configuration}
use Rattle.coherence_model.specs.Cache.{is_writable, needs_victim, victim_way, ways}
use Rattle.coherence_model.specs.Emission.{Emission, one_send, two_sends}
use Rattle.coherence_model.specs.HostOperations.{eviction_message, h1_hit, h2_request, hits, host_operates, request_alone, request_emission, request_evicting, request_message, request_with_victim}
use Rattle.coherence_model.specs.Snoops.{is_quiet}
use Rattle.coherence_model.specs.Tags.{free_tags, is_conflict_with, line_by_message}
use Rattle.coherence_model.specs.Transactions.{Kind, opened, opened_by_message}
use Rattle.request_laws.proofs.FreeTags.{IsFree, TwoFree, first_is_free, two_are_free}
use Rattle.request_laws.proofs.Options.{cond_some_cases, find_is_in, given, guarded_some, when_some}

-- a message that opens a line: a request of it or an eviction
pub record Opens (m : Message) (l t : ℕ) (k : Kind) : Type 0 where
  pub opened_there : (a s i : ℕ) (op : Op) → opened_by_message a s i op m ≡ cond (l == a) (Some (opened s i op k t)) None
  pub named : (tag : ℕ) → line_by_message tag m ≡ cond (t == tag) (Some l) None
  pub no_conflict : (tag : ℕ) → is_conflict_with tag m ≡ false
  pub line : line_in m ≡ Some l
  pub tag : tag_of m ≡ Some t

-- the kind of an operation's request
abbrev pub kind_of : Op → Kind
kind_of (Op.Load _) = Kind.ReadShared
kind_of (Op.Word _ _ _) = Kind.ReadAny
kind_of (Op.Whole _ _) = Kind.Invalidate

pub request_opens : (op : Op) (t : ℕ) → Opens (request_message op t) (line_of op) t (kind_of op)
request_opens (Op.Load line) t = record { opened_there = λ a s i op. refl; named = λ tag. refl; no_conflict = λ tag. refl; line = refl; tag = refl }
request_opens (Op.Word line place value) t = record { opened_there = λ a s i op. refl; named = λ tag. refl; no_conflict = λ tag. refl; line = refl; tag = refl }
request_opens (Op.Whole line bytes) t = record { opened_there = λ a s i op. refl; named = λ tag. refl; no_conflict = λ tag. refl; line = refl; tag = refl }

-- the kind of an eviction
abbrev pub eviction_kind : Bool → Kind
eviction_kind modified = cond modified Kind.DirtyEviction Kind.CleanEviction

-- an eviction's message
abbrev pub eviction_with : Bool → Bytes64 → ℕ → ℕ → Message
eviction_with modified bytes v t =
    cond modified (Message.MemWr Meta.Invalid SnpType.NoOp (record { 0 = t }) (record { 0 = v }) bytes) (Message.Req ReqOp.MemClnEvct Meta.Invalid SnpType.NoOp (record { 0 = t }) (record { 0 = v }))

pub eviction_opens : (modified : Bool) (bytes : Bytes64) (v t : ℕ) → Opens (eviction_with modified bytes v t) v t (eviction_kind modified)
eviction_opens true bytes v t = record { opened_there = λ a s i op. refl; named = λ tag. refl; no_conflict = λ tag. refl; line = refl; tag = refl }
eviction_opens false bytes v t = record { opened_there = λ a s i op. refl; named = λ tag. refl; no_conflict = λ tag. refl; line = refl; tag = refl }

-- a request alone: its line is quiet, and its tag free
pub record Alone (setup : Configuration) (h : ℕ) (op : Op) (past : List Event) (sends : Sends) : Type 0 where
  pub t : ℕ
  pub sent : sends ≡ Sends.One (record { host = h; message = request_message op t })
  pub quiet : is_quiet (line_of op) past ≡ true
  pub free : IsFree setup past t

-- an eviction and a request: both lines are quiet and distinct, and both tags free and distinct
pub record Evicting (setup : Configuration) (h : ℕ) (op : Op) (past : List Event) (sends : Sends) : Type 0 where
  pub v : ℕ
  pub t : ℕ
  pub u : ℕ
  pub sent : sends ≡ Sends.Two (record { host = h; message = eviction_message setup v past t }) (record { host = h; message = request_message op u })
  pub quiet : is_quiet (line_of op) past ≡ true
  pub idle : is_quiet v past ≡ true
  pub way : is_in v (ways setup past) ≡ true
  pub other : v ≡ line_of op → ⊥
  pub free : TwoFree setup past t u

-- what an operation sends, by cases
pub data Operated (setup : Configuration) (h : ℕ) (op : Op) (past : List Event) (sends : Sends) : Type 0 where
  Hits : sends ≡ Sends.Nothing → Operated setup h op past sends
  Requests : Alone setup h op past sends → Operated setup h op past sends
  Evicts : Evicting setup h op past sends → Operated setup h op past sends

alone :
    (setup : Configuration) (h : ℕ) (op : Op) (past : List Event) (w : Emission) (ts : List ℕ) → free_tags setup past ≡ ts → is_quiet (line_of op) past ≡ true
    → request_alone h op ts ≡ Some w → Operated setup h op past w.sends
alone setup h op past w [] is quiet row = absurd (none-some w row)
alone setup h op past w (t ∷ ts) is quiet row =
    let same = same_Some (one_send h (request_message op t)) w row in
    Requests (record { t = t; sent = ap (λ (x : Emission). x.sends) (sym same); quiet = quiet; free = first_is_free setup past t ts is })

evicting :
    (setup : Configuration) (h : ℕ) (op : Op) (v : ℕ) (past : List Event) (w : Emission) (ts : List ℕ) → free_tags setup past ≡ ts → is_quiet (line_of op) past ≡ true
    → is_quiet v past ≡ true → is_in v (ways setup past) ≡ true → (v ≡ line_of op → ⊥)
    → request_evicting setup h op v past ts ≡ Some w → Operated setup h op past w.sends
evicting setup h op v past w [] is quiet idle way other row = absurd (none-some w row)
evicting setup h op v past w (t ∷ []) is quiet idle way other row = absurd (none-some w row)
evicting setup h op v past w (t ∷ u ∷ ts) is quiet idle way other row =
    let same = same_Some (two_sends h (eviction_message setup v past t) (request_message op u)) w row in
    Evicts (record { v = v; t = t; u = u; sent = ap (λ (x : Emission). x.sends) (sym same); quiet = quiet; idle = idle; way = way; other = other; free = two_are_free setup past t u ts is })

with_victim :
    (setup : Configuration) (h : ℕ) (op : Op) (v : ℕ) (past : List Event) (w : Emission) → is_quiet (line_of op) past ≡ true
    → is_quiet v past ≡ true → is_in v (ways setup past) ≡ true → (v ≡ line_of op → ⊥)
    → request_with_victim setup h op past v ≡ Some w → Operated setup h op past w.sends
with_victim setup h op v past w quiet idle way other row =
    elim (cond_some_cases (is_writable setup v past) _ _ w row) [
      | inl p ↦ evicting setup h op v past w (free_tags setup past) refl quiet idle way other p.1
      | inr p ↦ alone setup h op past w (free_tags setup past) refl quiet p.1
    ]

requested :
    (setup : Configuration) (h : ℕ) (op : Op) (past : List Event) (w : Emission) → is_quiet (line_of op) past ≡ true
    → request_emission setup h op past ≡ Some w → Operated setup h op past w.sends
requested setup h op past w quiet row =
    elim (cond_some_cases (needs_victim setup (line_of op) past) _ _ w row) [
      | inl p ↦
          let victim = given (request_with_victim setup h op past) (victim_way setup past) w p.1 in
          let found = find_is_in (λ a. is_quiet a past) (ways setup past) victim.x victim.there in
          let lacks = and_parts (not (is_in (line_of op) (ways setup past))) (nat_le setup.ways (length (ways setup past))) p.0 in
          with_victim setup h op victim.x past w quiet found.1 found.0
          (λ same. both_ways (is_in (line_of op) (ways setup past)) (not-true _ lacks.0) (subst (λ x. is_in x (ways setup past) ≡ true) same found.0)) victim.gives
      | inr p ↦ alone setup h op past w (free_tags setup past) refl quiet p.1
    ]

pub operated :
    (setup : Configuration) (h s i : ℕ) (op : Op) (past : List Event) (w : Emission) → host_operates setup h s i op past ≡ Some w → Operated setup h op past w.sends
operated setup h s i op past w row =
    elim (cond_some_cases (hits setup op past) (h1_hit setup s i op past) (h2_request setup h op past) w row) [
      | inl p ↦ Hits (ap (λ (x : Emission). x.sends) (sym (when_some (is_quiet (line_of op) past) _ w p.1).1))
      | inr p ↦ let q = guarded_some (is_quiet (line_of op) past) (request_emission setup h op past) w p.1 in requested setup h op past w q.0 q.1
    ]
