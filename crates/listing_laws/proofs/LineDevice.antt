-- A line's numbers are kept by the device's events.
use Rattle.std.proofs.Common.{◌≡◌, ℕ, ◌+◌, ◌≤◌, Bool, true, false, List, [], ◌∷◌, ◌++◌, Option, Some, None, cond, count_by, refl, sym, ◌∙◌, ap, subst, arith, inl, inr}
use Rattle.std.specs.Prelude.{option_and_then, ◌==◌, ◌&&◌}
use Rattle.std.proofs.lemmas.Bool.{cases_eq, eq-eqb, false≢true, ne_eqb}
use Rattle.std.proofs.lemmas.Option.{none-some}
use Rattle.cxl_message.specs.declared.channels.Channel.{Channel}
use Rattle.cxl_message.specs.declared.events.Cause.{Cause}
use Rattle.cxl_message.specs.declared.events.Event.{Event}
use Rattle.cxl_message.specs.declared.events.Sends.{Sends}
use Rattle.cxl_message.specs.declared.identifiers.BiTag.{BiTag}
use Rattle.cxl_message.specs.declared.messages.Message.{Message}
use Rattle.cxl_message.specs.declared.opcodes.RspOp.{RspOp}
use Rattle.cxl_message.specs.declared.states.Listing.{Listing}
use Rattle.cxl_message.specs.Codes.{listing_code}
use Rattle.cxl_message.specs.Lists.{is_in}
use Rattle.cxl_message.specs.Setup.{Configuration}
use Rattle.coherence_model.specs.Buffers.{buffered_requests, buffered_writes, requests_after, writes_after}
use Rattle.coherence_model.specs.Cache.{copy}
use Rattle.coherence_model.specs.Copies.{is_shared_response, keeps_shared}
use Rattle.coherence_model.specs.DeviceTakes.{device_takes}
use Rattle.coherence_model.specs.DirectoryChanges.{answered_lines, directory, directory_after, listing_after_response}
use Rattle.coherence_model.specs.Emission.{Emission}
use Rattle.coherence_model.specs.Flight.{takes_on, without_taken}
use Rattle.coherence_model.specs.ListingFacts.{grants_ownership}
use Rattle.coherence_model.specs.RequestFacts.{grants, is_ndr_with}
use Rattle.coherence_model.specs.SentSnoops.{SentSnoop, sent_snoop_after, sent_snoop_at, snoop_after_response}
use Rattle.coherence_model.specs.SnoopFacts.{answers_line, answers_line_by}
use Rattle.coherence_model.specs.Transactions.{Transaction, open_at}
use Rattle.coherence_model.specs.Words.{one_if}
use Rattle.coherence_lemmas.proofs.DeviceTakes.{v2_response-inv}
use Rattle.request_laws.proofs.Each.{Each}
use Rattle.request_laws.proofs.HostPlaces.{Taken, one_taken, takes_off}
use Rattle.request_laws.proofs.Places.{on_channel}
use Rattle.snoop_laws.proofs.Counts.{counts_alike}
use Rattle.snoop_laws.proofs.Sending.{credit_off}
use Rattle.listing_laws.proofs.AnswersTaken.{answers_fewer, answers_same, answers_stay, count_weaker}
use Rattle.listing_laws.proofs.Copies.{valid_count, writable_count}
use Rattle.listing_laws.proofs.HostLines.{flag}
use Rattle.listing_laws.proofs.Lines.{LineKept, answers_shared, writes_shared}
use Rattle.listing_laws.proofs.Numbers.{Kept, kept_as, kept_given_up, kept_shared}
use Rattle.listing_laws.proofs.Owners.{granted_so, grants_shared, split_grants}
use Rattle.listing_laws.proofs.SentGrants.{granted_sent}
use Rattle.listing_laws.proofs.UnderWay.{count_both, count_moved}
use Rattle.listing_laws.proofs.WriteBackLines.{cleans_line, writes_line}

-- both cases are the same
either_same : {A : Type 0} (b : Bool) (x : A) → cond b x x ≡ x
either_same true x = refl
either_same false x = refl

-- each message has what holds of all
pub each_true : (ms : List Message) → Each (λ m. Unit {0}) ms
each_true [] = tt
each_true (m ∷ ms) = (tt, each_true ms)

-- a listing is at most 2
pub listed_few : (l : Listing) → listing_code l ≤ 2
listed_few Listing.I = omega arith
listed_few Listing.S = omega arith
listed_few Listing.A = omega arith

-- one of at most one leaves none
alone_zero : (n m : ℕ) → n ≡ 1 + m → n ≤ 1 → m ≡ 0
alone_zero n m e few = omega arith

-- what is at most none is none
less_zero : (n m : ℕ) → n ≤ m → m ≡ 0 → n ≡ 0
less_zero n m less zero = omega arith

-- none in front adds nothing
zero_front : (n : ℕ) → 0 + n ≡ n
zero_front n = omega arith

cond_one : (b : Bool) → b ≡ true → ◌≡◌ {A = ℕ} (cond b 1 0) 1
cond_one true h = refl
cond_one false h = absurd (false≢true h)

module _ (setup : Configuration) (h : ℕ) (own dev later : List Event) (a : ℕ) (fr fw ndr rs : List Message)
    (old : LineKept h a (copy setup a own) (open_at a own) dev fr (buffered_requests h dev) fw (buffered_writes h dev) ndr rs (listing_code ((directory setup dev).listed a h))) where
  -- the buffered requests
  abbrev hr : List Message
  hr = buffered_requests h dev

  -- the buffered writes
  abbrev hw : List Message
  hw = buffered_writes h dev

  -- the line's listing
  abbrev listing : Listing
  listing = (directory setup dev).listed a h

  -- what is kept after a cause
  abbrev pub Next : Cause → Sends → Type 0
  Next cause sends =
      LineKept h a (copy setup a own) (open_at a own) later (without_taken (takes_on h Channel.Req cause) fr) (requests_after h cause hr) (without_taken (takes_on h Channel.Rwd cause) fw) (writes_after h cause hw)
      (ndr ++ on_channel h Channel.Ndr sends) (without_taken (takes_on h Channel.BiRsp cause) rs) (listing_code ((directory_after setup cause sends dev (directory setup dev)).listed a h))

  -- where the device's snoops stay, the answers in flight count as before
  answers_kept : ((f : ℕ) → sent_snoop_at h f later ≡ sent_snoop_at h f dev) → count_by (answers_line h a later) rs ≡ count_by (answers_line h a dev) rs
  answers_kept same = counts_alike (answers_line h a later) (answers_line h a dev) rs (λ m there. answers_stay h a dev later same m)

  -- with the same snoops as many BIRspS are in flight
  shared_kept : ((f : ℕ) → sent_snoop_at h f later ≡ sent_snoop_at h f dev) → count_by (answers_shared h a later) rs ≡ count_by (answers_shared h a dev) rs
  shared_kept same = counts_alike (answers_shared h a later) (answers_shared h a dev) rs (λ m there. ap (λ b. b && keeps_shared m) (answers_stay h a dev later same m))

  -- where no grant is sent, the grants count as before
  zeros : (s g n : ℕ) → s + g ≡ n → n ≡ 0 → (s ≡ 0) × (g ≡ 0)
  zeros s g n e z = (omega arith, omega arith)

  -- messages without grants leave the grants of what is open, by what is open
  grants_kept_by : (xs : List Message) (o : Option Transaction) → ((tag : ℕ) → count_by (is_ndr_with grants tag) xs ≡ 0)
      → (granted_so grants_shared (ndr ++ xs) o ≡ granted_so grants_shared ndr o) × (granted_so grants_ownership (ndr ++ xs) o ≡ granted_so grants_ownership ndr o)
  grants_kept_by xs None none = (refl, refl)
  grants_kept_by xs (Some o) none =
      let both = zeros _ _ _ (split_grants o.tag xs) (none o.tag) in
      let s = granted_sent grants_shared ndr xs o in
      let g = granted_sent grants_ownership ndr xs o in
      let first = both.0 in
      let second = both.1 in
      (omega arith, omega arith)

  -- messages without grants leave the grants of what is open
  pub grants_kept : (xs : List Message) → ((tag : ℕ) → count_by (is_ndr_with grants tag) xs ≡ 0)
      → (granted_so grants_shared (ndr ++ xs) (open_at a own) ≡ granted_so grants_shared ndr (open_at a own)) × (granted_so grants_ownership (ndr ++ xs) (open_at a own) ≡ granted_so grants_ownership ndr (open_at a own))
  grants_kept xs none = grants_kept_by xs (open_at a own) none

  -- ---- takes

  -- where nothing is sent no grant is
  none_sent : (sends : Sends) → sends ≡ Sends.Nothing → (tag : ℕ) → count_by (is_ndr_with grants tag) (on_channel h Channel.Ndr sends) ≡ 0
  none_sent sends none tag = ap (λ x. count_by (is_ndr_with grants tag) (on_channel h Channel.Ndr x)) none

  -- a take, by what it does to the answers in flight and to the listing
  take_by : (k : ℕ) (m : Message) (sends : Sends) → sends ≡ Sends.Nothing → Taken (takes_on h Channel.Req (Cause.Take k m)) fr → Taken (takes_on h Channel.Rwd (Cause.Take k m)) fw → (r s : ℕ) (l : ℕ)
      → count_by (answers_line h a later) (without_taken (takes_on h Channel.BiRsp (Cause.Take k m)) rs) ≡ r → count_by (answers_shared h a later) (without_taken (takes_on h Channel.BiRsp (Cause.Take k m)) rs) ≡ s
      → listing_code ((directory_after setup (Cause.Take k m) sends dev (directory setup dev)).listed a h) ≡ l
      → Kept (valid_count (copy setup a own)) (writable_count (copy setup a own)) (granted_so grants_shared ndr (open_at a own)) (granted_so grants_ownership ndr (open_at a own)) (count_by (writes_line a) fw + count_by (writes_line a) hw)
      (count_by (writes_shared a) fw + count_by (writes_shared a) hw) (count_by (cleans_line a) fr + count_by (cleans_line a) hr) r s l
      → Next (Cause.Take k m) sends
  take_by k m sends none taken_r taken_w r s l er es el kept =
      let g = grants_kept (on_channel h Channel.Ndr sends) (none_sent sends none) in
      kept_as _ _ _ _ _ _ _ _ _ _ _ _ _ _ _ _ _ _ _ _ refl refl g.0 g.1 (count_moved (writes_line a) (takes_on h Channel.Rwd (Cause.Take k m)) fw hw taken_w) (count_moved (writes_shared a) (takes_on h Channel.Rwd (Cause.Take k m)) fw hw taken_w)
      (count_moved (cleans_line a) (takes_on h Channel.Req (Cause.Take k m)) fr hr taken_r) er es el kept

  -- a take that is no answer of this host keeps the line's numbers
  other_take : (k : ℕ) (m : Message) (sends : Sends) → sends ≡ Sends.Nothing → Taken (takes_on h Channel.Req (Cause.Take k m)) fr → Taken (takes_on h Channel.Rwd (Cause.Take k m)) fw → takes_on h Channel.BiRsp (Cause.Take k m) ≡ None
      → ((f : ℕ) → sent_snoop_at h f later ≡ sent_snoop_at h f dev) → listing_code ((directory_after setup (Cause.Take k m) sends dev (directory setup dev)).listed a h) ≡ listing_code listing → Next (Cause.Take k m) sends
  other_take k m sends none taken_r taken_w off same el =
      take_by k m sends none taken_r taken_w _ _ _ (ap (λ x. count_by (answers_line h a later) (without_taken x rs)) off ∙ answers_kept same) (ap (λ x. count_by (answers_shared h a later) (without_taken x rs)) off ∙ shared_kept same) el old

  -- an answer of the host
  module _ (op : RspOp) (first low : ℕ) (q : SentSnoop) (asked : sent_snoop_at h first dev ≡ Some q)
      (snoops : (f : ℕ) → sent_snoop_at h f later ≡ cond (first == f) (option_and_then (snoop_after_response op (f + low)) (sent_snoop_at h f dev)) (sent_snoop_at h f dev)) where
    abbrev answer : Message
    answer = Message.BiRsp op (record { 0 = first }) low

    abbrev rest : List Message
    rest = without_taken (takes_on h Channel.BiRsp (Cause.Take h (Message.BiRsp op (record { 0 = first }) low))) rs

    response_code : (b : Bool) → listing_code (cond b Listing.S Listing.I) ≡ one_if b
    response_code true = refl
    response_code false = refl

    listing_is : (hit : Bool) → answers_line_by op h first (first + low) a dev ≡ hit
        → cond ((h == h) && answers_line_by op h first (first + low) a dev) (listing_after_response op) listing ≡ cond hit (listing_after_response op) listing
    listing_is hit is = ap (λ b. cond (b && answers_line_by op h first (first + low) a dev) (listing_after_response op) listing) (eq-eqb h h refl) ∙ ap (λ b. cond b (listing_after_response op) listing) is

    hit_line : (sends : Sends) → sends ≡ Sends.Nothing → Taken (takes_on h Channel.Req (Cause.Take h answer)) fr → Taken (takes_on h Channel.Rwd (Cause.Take h answer)) fw → count_by (answers_line h a dev) rs ≤ 1
        → ((p : Message → Bool) → count_by p rs ≡ cond (p answer) 1 0 + count_by p rest) → answers_line_by op h first (first + low) a dev ≡ true → Next (Cause.Take h answer) sends
    hit_line sends none taken_r taken_w few less is =
        let one = less (answers_line h a dev) ∙ ap {B = ℕ} (λ n. n + count_by (answers_line h a dev) rest) (cond_one _ is) in
        let zero = alone_zero _ _ one few in
        let later_zero = less_zero _ _ (count_weaker (answers_line h a later) (answers_line h a dev) (answers_fewer h a dev later op first low q asked snoops) rest) zero in
        let shared_zero = less_zero _ _ (count_both (answers_line h a later) keeps_shared rest) later_zero in
        let shared_old = less_zero _ _ (count_both (answers_line h a dev) keeps_shared rest) zero in
        let r : count_by (answers_line h a dev) rs ≡ 1 + 0 = omega arith in
        take_by h answer sends none taken_r taken_w 0 0 (one_if (is_shared_response op)) later_zero shared_zero
        (ap listing_code (listing_is true is) ∙ response_code (is_shared_response op))
        (by (is_shared_response op) refl r (less (answers_shared h a dev) ∙ ap {B = ℕ} (λ b. cond (b && is_shared_response op) 1 0 + count_by (answers_shared h a dev) rest) is) shared_old)
      where
        by : (b : Bool) → is_shared_response op ≡ b → count_by (answers_line h a dev) rs ≡ 1 + 0 → count_by (answers_shared h a dev) rs ≡ cond (is_shared_response op) 1 0 + count_by (answers_shared h a dev) rest
            → count_by (answers_shared h a dev) rest ≡ 0
            → Kept (valid_count (copy setup a own)) (writable_count (copy setup a own)) (granted_so grants_shared ndr (open_at a own)) (granted_so grants_ownership ndr (open_at a own)) (count_by (writes_line a) fw + count_by (writes_line a) hw)
            (count_by (writes_shared a) fw + count_by (writes_shared a) hw) (count_by (cleans_line a) fr + count_by (cleans_line a) hr) 0 0 (one_if b)
        by true is r s zero =
            let s' : count_by (answers_shared h a dev) rs ≡ 1 + 0 = s ∙ ap {B = ℕ} (λ x. cond x 1 0 + count_by (answers_shared h a dev) rest) is ∙ ap (λ n. 1 + n) zero in
            kept_shared _ _ _ _ _ _ _ 0 0 (listing_code listing) (omega arith) refl (flag _) (kept_as _ _ _ _ _ _ _ _ _ _ _ _ _ _ _ _ _ _ _ _ refl refl refl refl refl refl refl (sym r) (sym s') refl old)
        by false is r s zero =
            let s' : count_by (answers_shared h a dev) rs ≡ 0 = s ∙ ap {B = ℕ} (λ x. cond x 1 0 + count_by (answers_shared h a dev) rest) is ∙ ap (λ n. 0 + n) zero in
            kept_given_up _ _ _ _ _ _ _ 0 0 (listing_code listing) (omega arith) refl (kept_as _ _ _ _ _ _ _ _ _ _ _ _ _ _ _ _ _ _ _ _ refl refl refl refl refl refl refl (sym r) (sym s') refl old)

    missed_line : (sends : Sends) → sends ≡ Sends.Nothing → Taken (takes_on h Channel.Req (Cause.Take h answer)) fr → Taken (takes_on h Channel.Rwd (Cause.Take h answer)) fw
        → ((p : Message → Bool) → count_by p rs ≡ cond (p answer) 1 0 + count_by p rest) → answers_line_by op h first (first + low) a dev ≡ false → Next (Cause.Take h answer) sends
    missed_line sends none taken_r taken_w less is =
        take_by h answer sends none taken_r taken_w _ _ _
        (counts_alike (answers_line h a later) (answers_line h a dev) rest (λ m there. answers_same h a dev later op first low q asked snoops is m) ∙ sym (less (answers_line h a dev) ∙ ap {B = ℕ} (λ b. cond b 1 0 + count_by (answers_line h a dev) rest) is ∙ zero_front _))
        (counts_alike (answers_shared h a later) (answers_shared h a dev) rest (λ m there. ap (λ b. b && keeps_shared m) (answers_same h a dev later op first low q asked snoops is m))
        ∙ sym (less (answers_shared h a dev) ∙ ap {B = ℕ} (λ b. cond (b && is_shared_response op) 1 0 + count_by (answers_shared h a dev) rest) is ∙ zero_front _))
        (ap listing_code (listing_is false is)) old

    pub answer_line : (sends : Sends) → sends ≡ Sends.Nothing → Taken (takes_on h Channel.Req (Cause.Take h answer)) fr → Taken (takes_on h Channel.Rwd (Cause.Take h answer)) fw → count_by (answers_line h a dev) rs ≤ 1
        → ((p : Message → Bool) → count_by p rs ≡ cond (p answer) 1 0 + count_by p rest) → (hit : Bool) → answers_line_by op h first (first + low) a dev ≡ hit → Next (Cause.Take h answer) sends
    answer_line sends none taken_r taken_w few less true is = hit_line sends none taken_r taken_w few less is
    answer_line sends none taken_r taken_w few less false is = missed_line sends none taken_r taken_w less is

  -- ---- takes, by the message

  -- another host's answer
  others_answer : (k : ℕ) (op : RspOp) (bitag : BiTag) (low : ℕ) (sends : Sends) → sends ≡ Sends.Nothing → Taken (takes_on h Channel.Req (Cause.Take k (Message.BiRsp op bitag low))) fr → Taken (takes_on h Channel.Rwd (Cause.Take k (Message.BiRsp op bitag low))) fw
      → ((f : ℕ) → sent_snoop_at h f later ≡ sent_snoop_after h f (Cause.Take k (Message.BiRsp op bitag low)) sends (sent_snoop_at h f dev)) → (k == h) ≡ false → Next (Cause.Take k (Message.BiRsp op bitag low)) sends
  others_answer k op bitag low sends none taken_r taken_w snoops other =
      let m : Message = Message.BiRsp op bitag low in
      other_take k m sends none taken_r taken_w (ap (λ b. cond (b && true) (Some m) None) other)
      (λ f. snoops f ∙ ap (λ b. cond b (cond (bitag.0 == f) (option_and_then (snoop_after_response op (f + low)) (sent_snoop_at h f dev)) (sent_snoop_at h f dev)) (sent_snoop_at h f dev)) other)
      (ap (λ b. listing_code (cond (b && is_in a (answered_lines op k bitag.0 (bitag.0 + low) dev)) (listing_after_response op) listing)) (ne_eqb h k (λ same. false≢true (sym other ∙ eq-eqb k h (sym same)))))

  -- a taken answer of this host keeps the line's numbers
  own_answer : (k : ℕ) (op : RspOp) (bitag : BiTag) (low : ℕ) (sends : Sends) (w : Emission) → device_takes setup k (Message.BiRsp op bitag low) dev ≡ Some w → sends ≡ Sends.Nothing
      → Taken (takes_on h Channel.Req (Cause.Take k (Message.BiRsp op bitag low))) fr → Taken (takes_on h Channel.Rwd (Cause.Take k (Message.BiRsp op bitag low))) fw
      → Taken (takes_on h Channel.BiRsp (Cause.Take k (Message.BiRsp op bitag low))) rs → count_by (answers_line h a dev) rs ≤ 1
      → ((f : ℕ) → sent_snoop_at h f later ≡ sent_snoop_after h f (Cause.Take k (Message.BiRsp op bitag low)) sends (sent_snoop_at h f dev)) → k ≡ h → Next (Cause.Take k (Message.BiRsp op bitag low)) sends
  own_answer k op bitag low sends w row none taken_r taken_w taken_s few snoops same =
      subst (λ x. Next (Cause.Take x (Message.BiRsp op bitag low)) sends) (sym same)
      (let m : Message = Message.BiRsp op bitag low in
      let inv = v2_response-inv op (bitag.0 + low) (sent_snoop_at k bitag.0 dev) w row in
      let mine : takes_on h Channel.BiRsp (Cause.Take h m) ≡ Some m = ap (λ b. cond (b && true) (Some m) None) (eq-eqb h h refl) in
      answer_line op bitag.0 low inv.q (subst (λ x. sent_snoop_at x bitag.0 dev ≡ Some inv.q) same inv.asked)
      (λ f. snoops f ∙ ap (λ b. cond b (cond (bitag.0 == f) (option_and_then (snoop_after_response op (f + low)) (sent_snoop_at h f dev)) (sent_snoop_at h f dev)) (sent_snoop_at h f dev)) (eq-eqb k h same))
      sends none (subst (λ x. Taken (takes_on h Channel.Req (Cause.Take x m)) fr) same taken_r) (subst (λ x. Taken (takes_on h Channel.Rwd (Cause.Take x m)) fw) same taken_w) few
      (one_taken (takes_on h Channel.BiRsp (Cause.Take h m)) m rs (subst (λ x. Taken (takes_on h Channel.BiRsp (Cause.Take x m)) rs) same taken_s) mine)
      (answers_line_by op h bitag.0 (bitag.0 + low) a dev) refl)

  -- a line's numbers are kept by a take of the device
  pub take_device : (k : ℕ) (m : Message) (sends : Sends) (w : Emission) → device_takes setup k m dev ≡ Some w → sends ≡ Sends.Nothing → Taken (takes_on h Channel.Req (Cause.Take k m)) fr → Taken (takes_on h Channel.Rwd (Cause.Take k m)) fw
      → Taken (takes_on h Channel.BiRsp (Cause.Take k m)) rs → count_by (answers_line h a dev) rs ≤ 1
      → ((f : ℕ) → sent_snoop_at h f later ≡ sent_snoop_after h f (Cause.Take k m) sends (sent_snoop_at h f dev)) → Next (Cause.Take k m) sends
  take_device k (Message.Req op meta snp tag line) sends w row none taken_r taken_w taken_s few snoops =
      other_take k (Message.Req op meta snp tag line) sends none taken_r taken_w (takes_off h k Channel.BiRsp (Message.Req op meta snp tag line) refl) (λ f. snoops f ∙ either_same (k == h) _) refl
  take_device k (Message.MemWr meta snp tag line bytes) sends w row none taken_r taken_w taken_s few snoops =
      other_take k (Message.MemWr meta snp tag line bytes) sends none taken_r taken_w (takes_off h k Channel.BiRsp (Message.MemWr meta snp tag line bytes) refl) (λ f. snoops f ∙ either_same (k == h) _) refl
  take_device k (Message.BiConflict tag) sends w row none taken_r taken_w taken_s few snoops =
      other_take k (Message.BiConflict tag) sends none taken_r taken_w (takes_off h k Channel.BiRsp (Message.BiConflict tag) refl) (λ f. snoops f ∙ either_same (k == h) _) refl
  take_device k (Message.BiRsp op bitag low) sends w row none taken_r taken_w taken_s few snoops = elim (cases_eq k h) [
    | inl same ↦ own_answer k op bitag low sends w row none taken_r taken_w taken_s few snoops same
    | inr differ ↦ others_answer k op bitag low sends none taken_r taken_w snoops (ne_eqb k h differ)
  ]
  take_device k (Message.Ndr op tag) sends w row none taken_r taken_w taken_s few snoops = absurd (none-some w row)
  take_device k (Message.MemData tag bytes) sends w row none taken_r taken_w taken_s few snoops = absurd (none-some w row)
  take_device k (Message.BiSnp op bitag line span) sends w row none taken_r taken_w taken_s few snoops = absurd (none-some w row)
  take_device k (Message.Credit c) sends w row none taken_r taken_w taken_s few snoops =
      other_take k (Message.Credit c) sends none taken_r taken_w (takes_off h k Channel.BiRsp (Message.Credit c) (credit_off c).1) (λ f. snoops f ∙ either_same (k == h) _) refl
