-- No grant of a tag is in flight behind a BI-ConflictAck of the tag: while a conflict is open its line's request has no task. By recursion over the run.
use Rattle.std.proofs.Common.{◌≡◌, ℕ, ◌+◌, ◌≤◌, Bool, true, false, IsTrue, List, [], ◌∷◌, ◌++◌, Option, Some, None, cond, count_by, find, refl, sym, ◌∙◌, ap, subst, arith}
use Rattle.std.specs.Prelude.{not, ◌==◌, ◌&&◌}
use Rattle.std.specs.Option.{option_map_or}
use Rattle.std.proofs.lemmas.Bool.{and_from, and_parts, eq-eqb, eqb-true, false≢true, not-true, not_from_false}
use Rattle.cxl_message.specs.declared.channels.Channel.{Channel}
use Rattle.cxl_message.specs.declared.events.Event.{Event}
use Rattle.cxl_message.specs.declared.identifiers.Bytes64.{Bytes64}
use Rattle.cxl_message.specs.declared.identifiers.Line.{Line}
use Rattle.cxl_message.specs.declared.messages.Message.{Message}
use Rattle.cxl_message.specs.declared.opcodes.NdrOp.{NdrOp}
use Rattle.cxl_message.specs.Messages.{acknowledges, has_tag, message_eq}
use Rattle.cxl_message.specs.Setup.{Configuration, IsWithinLimits}
use Rattle.coherence_model.specs.DirectoryChanges.{directory}
use Rattle.coherence_model.specs.Fitting.{is_host}
use Rattle.coherence_model.specs.Flight.{in_flight, is_first_of_tag, shares_tag, takes_on, without_first, without_taken}
use Rattle.coherence_model.specs.OwnerFacts.{is_asked_with, is_open_so, purpose_fits}
use Rattle.coherence_model.specs.RequestFacts.{grants, is_ndr_with, is_task_of, ndr_count}
use Rattle.coherence_model.specs.Runs.{IsRun}
use Rattle.coherence_model.specs.Snoops.{is_snooped}
use Rattle.coherence_model.specs.Stages.{Stage, stage}
use Rattle.coherence_model.specs.Tags.{is_conflict_open}
use Rattle.coherence_model.specs.Tasks.{Task, is_eviction}
use Rattle.coherence_model.specs.Traces.{device, events_of}
use Rattle.coherence_model.specs.Transactions.{Transaction, open_at}
use Rattle.cxl_message.proofs.SameMessages.{message_eq-same}
use Rattle.request_laws.proofs.AllConflicts.{others_are_nowhere}
use Rattle.request_laws.proofs.Below.{passing_below}
use Rattle.request_laws.proofs.Counts.{count_by-append, count_by-cons}
use Rattle.request_laws.proofs.HostFacts.{conflict_tags_are_own, conflicts_have_lines}
use Rattle.request_laws.proofs.Owners.{tasks_have_requests}
use Rattle.coherence_model.proofs.OwnRuns.{events_of_run}
use Rattle.request_laws.proofs.OwnRuns.{host_is_no_device}
use Rattle.request_laws.proofs.Places.{on_channel}
use Rattle.listing_laws.proofs.Asking.{unsnooped}
use Rattle.listing_laws.proofs.Grants.{DeviceGrants, NoGrant, OneGrant, device_grants}
use Rattle.listing_laws.proofs.Induction.{Seen, always, seen_at}

-- no grant of the tag stands behind a BI-ConflictAck of the tag
abbrev pub NoGrantAfter : ℕ → List Message → Type 0
NoGrantAfter tag [] = Unit {0}
NoGrantAfter tag (m ∷ ms) = (is_ndr_with acknowledges tag m ≡ true → count_by (is_ndr_with grants tag) ms ≡ 0) × NoGrantAfter tag ms

-- ---- messages that are taken out

-- without the first equal message there are no more of a kind
less_by : (p : Message → Bool) (n : Message) (ns left : List Message) (same : Bool) → count_by p left ≤ count_by p ns → count_by p (cond same ns (n ∷ left)) ≤ count_by p (n ∷ ns)
less_by p n ns left true less = let whole = count_by-cons p n ns in omega arith
less_by p n ns left false less = let whole = count_by-cons p n ns in let rest = count_by-cons p n left in omega arith

pub count_less : (p : Message → Bool) (m : Message) (ns : List Message) → count_by p (without_first m ns) ≤ count_by p ns
count_less p m [] = omega arith
count_less p m (n ∷ ns) = less_by p n ns (without_first m ns) (message_eq m n) (count_less p m ns)

pub count_less_taken : (p : Message → Bool) (o : Option Message) (ns : List Message) → count_by p (without_taken o ns) ≤ count_by p ns
count_less_taken p None ns = omega arith
count_less_taken p (Some m) ns = count_less p m ns

-- what is at most none is none
zero_less : (n m : ℕ) → n ≤ m → m ≡ 0 → n ≡ 0
zero_less n m less zero = omega arith

-- the order stays without the first equal message, by whether the head is it
first_by : (tag : ℕ) (m n : Message) (ns left : List Message) (same : Bool) → count_by (is_ndr_with grants tag) left ≤ count_by (is_ndr_with grants tag) ns → NoGrantAfter tag (n ∷ ns) → NoGrantAfter tag left → NoGrantAfter tag (cond same ns (n ∷ left))
first_by tag m n ns left true less h later = h.1
first_by tag m n ns left false less h later = (λ is. zero_less _ _ less (h.0 is), later)

-- the order stays without the first equal message
after_first : (tag : ℕ) (m : Message) (ns : List Message) → NoGrantAfter tag ns → NoGrantAfter tag (without_first m ns)
after_first tag m [] h = tt
after_first tag m (n ∷ ns) h = first_by tag m n ns (without_first m ns) (message_eq m n) (count_less (is_ndr_with grants tag) m ns) h (after_first tag m ns h.1)

-- the order stays without a taken message
after_taken : (tag : ℕ) (o : Option Message) (ns : List Message) → NoGrantAfter tag ns → NoGrantAfter tag (without_taken o ns)
after_taken tag None ns h = h
after_taken tag (Some m) ns h = after_first tag m ns h

-- ---- messages that are sent

-- a sum of none has none
zero_tail : (b : Bool) (n : ℕ) → cond b 1 0 + n ≡ 0 → n ≡ 0
zero_tail b n e = omega arith

-- where there is no grant none is behind
after_none : (tag : ℕ) (xs : List Message) → count_by (is_ndr_with grants tag) xs ≡ 0 → NoGrantAfter tag xs
after_none tag [] none = tt
after_none tag (x ∷ xs) none =
    let rest = zero_tail (is_ndr_with grants tag x) (count_by (is_ndr_with grants tag) xs) (sym (count_by-cons (is_ndr_with grants tag) x xs) ∙ none) in
    (λ is. rest, after_none tag xs rest)

-- no grant is sent
after_others : (tag : ℕ) (ns xs : List Message) → count_by (is_ndr_with grants tag) xs ≡ 0 → NoGrantAfter tag ns → NoGrantAfter tag (ns ++ xs)
after_others tag [] xs none h = after_none tag xs none
after_others tag (n ∷ ns) xs none h =
    (λ is. (let sum = count_by-append (is_ndr_with grants tag) ns xs in let zero = h.0 is in omega arith), after_others tag ns xs none h.1)

-- where there is no BI-ConflictAck the head isn't one
no_ack : (tag : ℕ) (n : Message) (ns : List Message) → count_by (is_ndr_with acknowledges tag) (n ∷ ns) ≡ 0 → (is_ndr_with acknowledges tag n ≡ true → ⊥) × (count_by (is_ndr_with acknowledges tag) ns ≡ 0)
no_ack tag n ns none = by (is_ndr_with acknowledges tag n) refl (sym (count_by-cons (is_ndr_with acknowledges tag) n ns) ∙ none)
  where
    by : (b : Bool) → is_ndr_with acknowledges tag n ≡ b → cond b 1 0 + count_by (is_ndr_with acknowledges tag) ns ≡ 0 → (is_ndr_with acknowledges tag n ≡ true → ⊥) × (count_by (is_ndr_with acknowledges tag) ns ≡ 0)
    by true is e = absurd (omega arith)
    by false is e = (λ was. false≢true (sym is ∙ was), omega arith)

-- no BI-ConflictAck is in flight
after_grant : (tag : ℕ) (ns xs : List Message) → count_by (is_ndr_with acknowledges tag) ns ≡ 0 → NoGrantAfter tag xs → NoGrantAfter tag (ns ++ xs)
after_grant tag [] xs none h = h
after_grant tag (n ∷ ns) xs none h = let parts = no_ack tag n ns none in (λ is. absurd (parts.0 is), after_grant tag ns xs parts.1 h)

-- ---- a BI-ConflictAck that may be taken has no grant in flight

-- the first of its tag has no grant before it
head_by : (tag : ℕ) (ack n : Message) (ns : List Message) (shares : Bool) → shares_tag ack n ≡ shares → is_ndr_with acknowledges tag ack ≡ true → (is_ndr_with grants tag n ≡ true → shares_tag ack n ≡ true) → is_ndr_with grants tag ack ≡ false
    → option_map_or (message_eq ack) (cond shares (Some n) (find (shares_tag ack) ns)) false ≡ true
    → NoGrantAfter tag (n ∷ ns) → (option_map_or (message_eq ack) (find (shares_tag ack) ns) false ≡ true → count_by (is_ndr_with grants tag) ns ≡ 0) → cond (is_ndr_with grants tag n) 1 0 + count_by (is_ndr_with grants tag) ns ≡ 0
head_by tag ack n ns true is acks shared other first h later =
    let same = message_eq-same ack n first in
    let rest = h.0 (subst (λ x. is_ndr_with acknowledges tag x ≡ true) same acks) in
    let none = ap {B = ℕ} (λ x. cond x 1 0) (subst (λ x. is_ndr_with grants tag x ≡ false) same other) in
    omega arith
head_by tag ack n ns false is acks shared other first h later =
    let rest = later first in
    let none : cond {A = ℕ} (is_ndr_with grants tag n) 1 0 ≡ 0 = by (is_ndr_with grants tag n) refl in
    omega arith
  where
    by : (b : Bool) → is_ndr_with grants tag n ≡ b → cond {A = ℕ} b 1 0 ≡ 0
    by true its = absurd (false≢true (sym is ∙ shared its))
    by false its = refl

-- a grant of the tag shares it with the ack
grant_shares : (tag : ℕ) (n : Message) → is_ndr_with grants tag n ≡ true → shares_tag (Message.Ndr NdrOp.ConflictAck (record { 0 = tag })) n ≡ true
grant_shares tag n is = (and_parts _ (has_tag tag n) is).1

-- where no grant is behind a BI-ConflictAck of its tag, none is in flight when the ack is the first of the tag
pub first_ack : (tag : ℕ) (ns : List Message) → is_first_of_tag (Message.Ndr NdrOp.ConflictAck (record { 0 = tag })) ns ≡ true → NoGrantAfter tag ns → count_by (is_ndr_with grants tag) ns ≡ 0
first_ack tag [] first h = refl
first_ack tag (n ∷ ns) first h =
    let ack : Message = Message.Ndr NdrOp.ConflictAck (record { 0 = tag }) in
    count_by-cons (is_ndr_with grants tag) n ns
    ∙ head_by tag ack n ns (shares_tag ack n) refl (eq-eqb tag tag refl) (grant_shares tag n) refl first h (λ later. first_ack tag ns later h.1)

-- ---- after every run

-- what is kept of a host's view: no grant is behind a BI-ConflictAck of its tag
abbrev pub OrderSeen : ℕ → Seen
OrderSeen tag own dev fr fw ndr rs = NoGrantAfter tag ndr

module _ (setup : Configuration) (opening : List (Line × Bytes64)) (limits : IsWithinLimits setup) (h : ℕ) (host : IsTrue (is_host setup h)) (tag : ℕ) where
  -- a stage that is Asked with the tag
  asked_from : (u : ℕ) (st : Stage) → is_asked_with u st ≡ true → st ≡ Stage.Asked u
  asked_from u Stage.New h' = absurd (false≢true h')
  asked_from u (Stage.Asked v) h' = ap Stage.Asked (eqb-true v u h')
  asked_from u Stage.Early h' = absurd (false≢true h')
  asked_from u Stage.Late h' = absurd (false≢true h')
  asked_from u Stage.Writing h' = absurd (false≢true h')
  asked_from u Stage.Written h' = absurd (false≢true h')

  -- what is open with the tag for a task
  open_from : (task : Task) (o : Option Transaction) → is_open_so (purpose_fits task.purpose) tag o ≡ true → (x : Transaction) × (o ≡ Some x) × (x.tag ≡ tag)
  open_from task None is = absurd (false≢true is)
  open_from task (Some x) is = (x, refl, eqb-true x.tag tag (and_parts _ _ is).1)

  -- while a request has a task no BI-ConflictAck of its tag is in flight
  pub no_ack_at_task : (t : List Event) → IsRun setup opening t → (a : ℕ) (task : Task) → (directory setup (events_of device t)).task a ≡ Some task → is_task_of h tag task ≡ true → ndr_count acknowledges h tag t ≡ 0
  no_ack_at_task t run a task stands its = by (is_conflict_open tag (events_of h t)) refl
    where
      two : (n m : ℕ) → n + m ≡ 0 → m ≡ 0
      two n m e = omega arith

      by : (b : Bool) → is_conflict_open tag (events_of h t) ≡ b → ndr_count acknowledges h tag t ≡ 0
      by false is = two _ (ndr_count acknowledges h tag t) (others_are_nowhere setup opening limits h host t run tag is)
      by true is =
          let own = events_of_run setup opening h t run in
          let line = passing_below (λ b. is_snooped b (events_of h t) && is_asked_with tag (stage setup b (events_of h t))) setup.lines (sym (conflicts_have_lines setup opening limits h host (events_of h t) own tag) ∙ is) in
          let parts = and_parts (is_snooped line.0 (events_of h t)) _ line.2 in
          let o = open_from task (open_at a (events_of h t)) (tasks_have_requests setup opening limits h host t run tag a task stands its) in
          let same = conflict_tags_are_own setup opening limits h host (events_of h t) own line.0 a tag o.0 (asked_from tag (stage setup line.0 (events_of h t)) parts.1) o.1 o.2 in
          let named = and_parts (not (is_eviction task.purpose) && (task.host == h)) (task.tag == tag) its in
          let first = and_parts (not (is_eviction task.purpose)) (task.host == h) named.0 in
          absurd (unsnooped setup opening limits h host t run a task stands (not-true _ first.0) (eqb-true task.host h first.1) (subst (λ x. is_snooped x (events_of h t) ≡ true) (sym same) parts.0))

  -- what the device sends keeps the order
  sent_by : (e : Event) (past : List Event) → IsRun setup opening past → DeviceGrants setup opening h (events_of device past) e.cause e.sends → NoGrantAfter tag (in_flight h Channel.Ndr past)
      → NoGrantAfter tag (in_flight h Channel.Ndr past ++ on_channel h Channel.Ndr e.sends)
  sent_by e past run (NoGrant none others) old = after_others tag (in_flight h Channel.Ndr past) (on_channel h Channel.Ndr e.sends) (none tag) old
  sent_by e past run (OneGrant f) old = subst (λ xs. NoGrantAfter tag (in_flight h Channel.Ndr past ++ xs)) (sym f.sent) (by (f.t.tag == tag) refl)
    where
      by : (b : Bool) → (f.t.tag == tag) ≡ b → NoGrantAfter tag (in_flight h Channel.Ndr past ++ Message.Ndr f.c (record { 0 = f.t.tag }) ∷ [])
      by true is =
          after_grant tag (in_flight h Channel.Ndr past) (Message.Ndr f.c (record { 0 = f.t.tag }) ∷ [])
          (no_ack_at_task past run f.a.0 f.t f.stands (and_from _ _ (and_from _ _ (not_from_false _ f.request) (eq-eqb f.t.host h f.own)) is)) (λ its. refl, tt)
      by false is =
          after_others tag (in_flight h Channel.Ndr past) (Message.Ndr f.c (record { 0 = f.t.tag }) ∷ [])
          (count_by-cons (is_ndr_with grants tag) (Message.Ndr f.c (record { 0 = f.t.tag })) [] ∙ ap {B = ℕ} (λ x. cond (grants f.c && x) 1 0 + 0) is ∙ none (grants f.c)) old
        where
          none : (b : Bool) → cond {A = ℕ} (b && false) 1 0 + 0 ≡ 0
          none true = refl
          none false = refl

  -- after every run no grant of the tag is behind a BI-ConflictAck of the tag
  pub order_seen : (t : List Event) → IsRun setup opening t → seen_at (OrderSeen tag) h t
  order_seen =
      always setup opening h (host_is_no_device setup limits h host) (OrderSeen tag) (λ e past on old. after_taken tag (takes_on h Channel.Ndr e.cause) (in_flight h Channel.Ndr past) old)
      (λ e past on old. sent_by e past on.run (device_grants setup opening h (events_of device past) e.cause e.sends on.parts.row.w on.row on.parts.row.sends) old) tt
