-- Where a channel's messages were taken in the order sent, those in flight are the rest, and the oldest may be taken.
use Rattle.std.proofs.Common.{◌≡◌, ◌≤◌, ◌+◌, ℕ, Bool, true, false, IsTrue, List, [], ◌∷◌, ◌++◌, Option, Some, None, find, length, refl, sym, ◌∙◌, ap, append_assoc, arith}
use Rattle.std.specs.Prelude.{not, ◌||◌}
use Rattle.std.specs.List.{list_any}
use Rattle.std.specs.Option.{option_len, option_map_or}
use Rattle.std.proofs.lemmas.Bool.{and_from, and_parts, cond-true, eq-eqb, or_left}
use Rattle.std.proofs.lemmas.List.{length-append}
use Rattle.cxl_message.specs.declared.channels.Channel.{Channel}
use Rattle.cxl_message.specs.declared.events.Event.{Event}
use Rattle.cxl_message.specs.declared.identifiers.Bytes64.{Bytes64}
use Rattle.cxl_message.specs.declared.identifiers.Line.{Line}
use Rattle.cxl_message.specs.declared.messages.Message.{Message}
use Rattle.cxl_message.specs.Messages.{is_conflict_ack, message_eq}
use Rattle.cxl_message.specs.Setup.{Configuration}
use Rattle.coherence_model.specs.Flight.{in_flight, is_first_of_tag, sends_on, sent_on, shares_tag, taken_on, takes_on, without_first, without_taken}
use Rattle.coherence_model.specs.Runs.{IsRun, is_allowed, is_run}
use Rattle.coherence_model.specs.Words.{with_last}
use Rattle.coherence_lemmas.proofs.Allowed.{allowed_parts}
use Rattle.coherence_lemmas.proofs.Flight.{taken_is_there}
use Rattle.cxl_message.proofs.SameMessages.{same-message_eq}
use Rattle.coherence_lemmas.proofs.Queues.{length-without_taken}
use Rattle.run_laws.specs.Laws.{OldestMayBeTaken, RestIsInFlight}

-- as many were sent as were taken and are in flight
with_last-length : (o : Option Message) (ms : List Message) → length (with_last o ms) ≡ length ms + option_len o
with_last-length None ms = omega arith
with_last-length (Some m) ms = length-append ms (m ∷ [])

sent-length :
    (setup : Configuration) (opening : List (Line × Bytes64)) (t : List Event) → IsRun setup opening t → (h : ℕ) (c : Channel)
    → length (sent_on h c t) ≡ length (taken_on h c t) + length (in_flight h c t)
sent-length setup opening [] run h c = refl
sent-length setup opening (e ∷ past) run h c =
    let runs = and_parts (is_run setup opening past) (is_allowed setup opening past e) run in
    let take = (allowed_parts setup opening past e runs.1).take in
    let old = sent-length setup opening past runs.0 h c in
    let left = length-without_taken (takes_on h c e.cause) (in_flight h c past) (λ m. taken_is_there h c e.cause past m take) in
    let sent = length-append (sent_on h c past) (sends_on h c e) in
    let flying = length-append (without_taken (takes_on h c e.cause) (in_flight h c past)) (sends_on h c e) in
    omega (arith, old, left, sent, flying, with_last-length (takes_on h c e.cause) (taken_on h c past))

-- of two ways to cut a list, the later cut has what lies between
pub record Cut (sent front rest more : List Message) : Type 0 where
  pub middle : List Message
  pub before : sent ≡ front ++ middle
  pub after : rest ≡ middle ++ more

cut : (sent front rest more : List Message) → sent ++ more ≡ front ++ rest → length front ≤ length sent → Cut sent front rest more
cut sent [] rest more e le = record { middle = sent; before = refl; after = sym e }
cut [] (m ∷ front) rest more e le = absurd (omega arith)
cut (n ∷ sent) (m ∷ front) rest more e le =
    let head : n ≡ m = cc in
    let tail : sent ++ more ≡ front ++ rest = cc in
    let inner = cut sent front rest more tail (omega arith) in
    record { middle = inner.middle; before = cc (head, inner.before); after = inner.after }

-- a message is itself
same_message : (m : Message) → message_eq m m ≡ true
same_message m = same-message_eq m m refl

-- past an event that takes nothing there, or the next message
rest_by :
    (o : Option Message) (sent taken flying rest more : List Message) → length sent ≡ length taken + length flying
    → ((m : Message) → o ≡ Some m → 1 ≤ length flying) → ((others : List Message) → sent ≡ taken ++ others → flying ≡ others)
    → sent ++ more ≡ with_last o taken ++ rest → without_taken o flying ++ more ≡ rest
rest_by None sent taken flying rest more counted there old e =
    let parts = cut sent taken rest more e (omega arith) in
    ap (λ ms. ms ++ more) (old parts.middle parts.before) ∙ sym parts.after
rest_by (Some m) sent taken flying rest more counted there old e =
    let one = there m refl in
    let parts = cut sent (taken ++ m ∷ []) rest more e (omega (arith, one, counted, length-append taken (m ∷ []))) in
    let flies : flying ≡ m ∷ parts.middle = old (m ∷ parts.middle) (parts.before ∙ append_assoc taken (m ∷ []) parts.middle) in
    ap (λ ms. without_first m ms ++ more) flies ∙ ap (λ ms. ms ++ more) (cond-true (message_eq m m) parts.middle (m ∷ without_first m parts.middle) (same_message m)) ∙ sym parts.after

-- something is there where a message is in flight
some_there : (m : Message) (ms : List Message) → IsTrue (list_any (message_eq m) ms) → 1 ≤ length ms
some_there m [] there = cc
some_there m (n ∷ ms) there = omega arith

pub rest_is_in_flight : RestIsInFlight
rest_is_in_flight setup opening [] run h c rest e = e
rest_is_in_flight setup opening (f ∷ past) run h c rest e =
    let runs = and_parts (is_run setup opening past) (is_allowed setup opening past f) run in
    let take = (allowed_parts setup opening past f runs.1).take in
    rest_by (takes_on h c f.cause) (sent_on h c past) (taken_on h c past) (in_flight h c past) rest (sends_on h c f) (sent-length setup opening past runs.0 h c)
    (λ m takes. some_there m (in_flight h c past) (taken_is_there h c f.cause past m take takes))
    (λ others. rest_is_in_flight setup opening past runs.0 h c others) e

-- what shares its own tag
ack_shares : (m : Message) → is_conflict_ack m ≡ true → shares_tag m m ≡ true
ack_shares (Message.Req _ _ _ _ _) ack = cc
ack_shares (Message.MemWr _ _ _ _ _) ack = cc
ack_shares (Message.BiConflict _) ack = cc
ack_shares (Message.BiRsp _ _ _) ack = cc
ack_shares (Message.Ndr op tag) ack = eq-eqb tag.0 tag.0 refl
ack_shares (Message.MemData _ _) ack = cc
ack_shares (Message.BiSnp _ _ _ _) ack = cc
ack_shares (Message.Credit _) ack = cc

-- the oldest message is the first of its tag, if it is a BI-ConflictAck
oldest_by : (ack : Bool) (m : Message) (ms : List Message) → is_conflict_ack m ≡ ack → (not ack || is_first_of_tag m (m ∷ ms)) ≡ true
oldest_by false m ms is = refl
oldest_by true m ms is =
    ap (λ found. option_map_or (message_eq m) found false) (cond-true (shares_tag m m) (Some m) (find (shares_tag m) ms) (ack_shares m is)) ∙ same_message m

pub oldest_may_be_taken : OldestMayBeTaken
oldest_may_be_taken m ms = and_from _ _ (or_left _ _ (same_message m)) (oldest_by (is_conflict_ack m) m ms refl)
