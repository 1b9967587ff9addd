-- A line's numbers are kept by each event of the device.
use Rattle.std.proofs.Common.{◌≡◌, ℕ, ◌+◌, ◌≤◌, Bool, true, false, IsTrue, List, [], ◌∷◌, Option, Some, None, cond, count_by, refl, sym, ◌∙◌, ap, subst, arith, ◌⊎◌, inl, inr}
use Rattle.std.specs.Prelude.{is_some, not, option_and_then, ◌==◌, ◌&&◌, ◌||◌}
use Rattle.std.specs.Option.{option_map_or}
use Rattle.std.proofs.lemmas.Bool.{cases_eq, eq-eqb, eqb-true, false≢true, ne_eqb}
use Rattle.std.proofs.lemmas.Option.{none-some}
use Rattle.cxl_message.specs.declared.channels.Channel.{Channel}
use Rattle.cxl_message.specs.declared.events.Act.{Act}
use Rattle.cxl_message.specs.declared.events.Cause.{Cause}
use Rattle.cxl_message.specs.declared.events.Event.{Event}
use Rattle.cxl_message.specs.declared.events.Sends.{Sends}
use Rattle.cxl_message.specs.declared.identifiers.Bytes64.{Bytes64}
use Rattle.cxl_message.specs.declared.identifiers.Line.{Line}
use Rattle.cxl_message.specs.declared.identifiers.Tag.{Tag}
use Rattle.cxl_message.specs.declared.messages.Message.{Message}
use Rattle.cxl_message.specs.declared.opcodes.RspOp.{RspOp}
use Rattle.cxl_message.specs.declared.states.Listing.{Listing}
use Rattle.cxl_message.specs.Codes.{listing_code}
use Rattle.cxl_message.specs.Lists.{is_in}
use Rattle.cxl_message.specs.Messages.{line_in}
use Rattle.cxl_message.specs.Setup.{Configuration}
use Rattle.coherence_model.specs.Buffers.{buffered_requests, buffered_writes, message_with, requests_after, without_tag, without_used, writes_after}
use Rattle.coherence_model.specs.Cache.{copy}
use Rattle.coherence_model.specs.Copies.{asks_for_grant, keeps_shared}
use Rattle.coherence_model.specs.DeviceActs.{Request, buffered_request, request_in, served_by}
use Rattle.coherence_model.specs.Directory.{Directory}
use Rattle.coherence_model.specs.DirectoryChanges.{directory, directory_after_clean, directory_after_serve, listings_after_finish}
use Rattle.coherence_model.specs.Emission.{Emission}
use Rattle.coherence_model.specs.Fitting.{is_host}
use Rattle.coherence_model.specs.ListingFacts.{grants_ownership}
use Rattle.coherence_model.specs.RequestFacts.{grants, is_ndr_with}
use Rattle.coherence_model.specs.SentSnoops.{is_asked, sent_snoop_at, snoop_by_sends, unanswered_lines, SentSnoop}
use Rattle.coherence_model.specs.SnoopFacts.{answers_line, answers_line_by}
use Rattle.coherence_model.specs.Transactions.{open_at}
use Rattle.coherence_lemmas.proofs.DeviceActs.{Cleaned, Served, Started}
use Rattle.coherence_lemmas.proofs.Options.{and_then_some}
use Rattle.request_laws.proofs.DevicePlaces.{request_is}
use Rattle.request_laws.proofs.Each.{found_message}
use Rattle.request_laws.proofs.Places.{on_channel}
use Rattle.snoop_laws.proofs.Counts.{Among, counts_alike}
use Rattle.snoop_laws.proofs.Places.{IsAnswering}
use Rattle.listing_laws.proofs.Copies.{valid_count, writable_count}
use Rattle.listing_laws.proofs.LineDevice.{Next, each_true, grants_kept}
use Rattle.listing_laws.proofs.LineDeviceActs.{act_by, none_cleaned, serve_other, serve_write, start_listed}
use Rattle.listing_laws.proofs.Lines.{LineKept, answers_shared, writes_shared}
use Rattle.listing_laws.proofs.Numbers.{Kept, kept_as, kept_cleaned}
use Rattle.listing_laws.proofs.Owners.{granted_so, grants_shared}
use Rattle.listing_laws.proofs.WriteBackLines.{cleans_line, writes_line}

-- a message that asks for a grant cleans nothing
asking_cleans : (a : ℕ) (m : Message) (r : Request) → request_in m ≡ Some r → asks_for_grant r.op ≡ true → cleans_line a m ≡ false
asking_cleans a m r is asks =
    let req = request_is m r is in
    ap (cleans_line a) req.is ∙ ap (λ b. not b && (req.line.0 == a)) (ap asks_for_grant (sym req.same_op) ∙ asks)

module _ (setup : Configuration) (opening : List (Line × Bytes64)) (h : ℕ) (host : IsTrue (is_host setup h)) (own dev later : List Event) (a : ℕ) (fr fw ndr rs : List Message)
    (old : LineKept h a (copy setup a own) (open_at a own) dev fr (buffered_requests h dev) fw (buffered_writes h dev) ndr rs (listing_code ((directory setup dev).listed a h)))
    (ungranted : granted_so grants_shared ndr (open_at a own) + granted_so grants_ownership ndr (open_at a own) ≡ 0 ⊎ ((1 ≤ count_by (writes_line a) fw + count_by (writes_line a) (buffered_writes h dev) → ⊥) × (1 ≤ count_by (cleans_line a) fr + count_by (cleans_line a) (buffered_requests h dev) → ⊥))) where
  -- the buffered requests
  abbrev hr : List Message
  hr = buffered_requests h dev

  -- the buffered writes
  abbrev hw : List Message
  hw = buffered_writes h dev

  -- the directory
  abbrev D : Directory
  D = directory setup dev

  -- the line's numbers are kept after an act
  abbrev NextAct : Act → Sends → Type 0
  NextAct act sends = Next setup h own dev later a fr fw ndr rs old (Cause.Act act) sends

  -- no grant is sent to this host
  abbrev Silent : Sends → Type 0
  Silent sends = (n : ℕ) → count_by (is_ndr_with grants n) (on_channel h Channel.Ndr sends) ≡ 0

  -- this host's snoops stay
  abbrev SameSnoops : Type 0
  SameSnoops = (f : ℕ) → sent_snoop_at h f later ≡ sent_snoop_at h f dev

  -- ---- Serve

  -- a served BIConflict keeps the line's numbers
  serve_conflict : (tag : Tag) (sends : Sends) → Silent sends → SameSnoops → (t : Tag) → message_with tag.0 hw ≡ Some (Message.BiConflict t) → NextAct (Act.Serve h tag) sends
  serve_conflict tag sends none same t found =
      let fm = found_message (λ x. Unit {0}) tag.0 (Message.BiConflict t) hw (each_true hw) found in
      let gone : writes_after h (Cause.Act (Act.Serve h tag)) hw ≡ without_tag tag.0 hw = ap (λ b. without_used (cond b (Some tag.0) None) hw) (eq-eqb h h refl) in
      let w = fm.less (writes_line a) in
      let s = fm.less (writes_shared a) in
      act_by setup opening h host own dev later a fr fw ndr rs old ungranted (Act.Serve h tag) sends none same _ _ _ _ (ap (λ x. count_by (writes_line a) fw + count_by (writes_line a) x) gone)
      (ap (λ x. count_by (writes_shared a) fw + count_by (writes_shared a) x) gone) refl (ap (λ x. listing_code ((directory_after_serve setup h x D).listed a h)) found)
      (kept_as _ _ _ _ _ _ _ _ _ _ _ _ _ _ _ _ _ _ _ _ refl refl refl refl (omega arith) (omega arith) refl refl refl refl old)

  -- a serve for this host keeps the line's numbers
  serve_own : (tag : Tag) (sends : Sends) → Silent sends → SameSnoops → (m answer : Message) → served_by m ≡ Some answer → message_with tag.0 hw ≡ Some m → NextAct (Act.Serve h tag) sends
  serve_own tag sends none same (Message.Req _ _ _ _ _) answer is found = absurd (none-some answer is)
  serve_own tag sends none same (Message.MemWr meta snp t line bytes) answer is found =
      serve_write setup opening h host own dev later a fr fw ndr rs old ungranted tag sends none same meta snp t line bytes found (line.0 == a) refl
  serve_own tag sends none same (Message.BiConflict t) answer is found = serve_conflict tag sends none same t found
  serve_own tag sends none same (Message.BiRsp _ _ _) answer is found = absurd (none-some answer is)
  serve_own tag sends none same (Message.Ndr _ _) answer is found = absurd (none-some answer is)
  serve_own tag sends none same (Message.MemData _ _) answer is found = absurd (none-some answer is)
  serve_own tag sends none same (Message.BiSnp _ _ _ _) answer is found = absurd (none-some answer is)
  serve_own tag sends none same (Message.Credit _) answer is found = absurd (none-some answer is)

  -- so does this act
  pub serve_line : (k : ℕ) (tag : Tag) (sends : Sends) (w : Emission) → Silent sends → SameSnoops → Served k (message_with tag.0 (buffered_writes k dev)) w → NextAct (Act.Serve k tag) sends
  serve_line k tag sends w none same inv = elim (cases_eq k h) [
    | inl own_host ↦ subst (λ x. NextAct (Act.Serve x tag) sends) (sym own_host)
        (serve_own tag sends none same inv.m inv.answer inv.answers (subst (λ x. message_with tag.0 (buffered_writes x dev) ≡ Some inv.m) own_host inv.found))
    | inr differ ↦ serve_other setup opening h host own dev later a fr fw ndr rs old ungranted k tag sends none same (ne_eqb k h differ) inv.m inv.found
  ]

  -- ---- Clean

  -- the listing after a cleaned MemClnEvct
  clean_listing : (k line : ℕ) (hit : Bool) → ((h == k) && ((a == line) || false)) ≡ hit → (directory_after_clean setup k (Some line) D).listed a h ≡ cond hit Listing.I (D.listed a h)
  clean_listing k line hit is = ap (λ b. cond b Listing.I (D.listed a h)) is

  -- a clean for this host keeps the line's numbers
  clean_own : (tag : Tag) (sends : Sends) → Silent sends → SameSnoops → (m : Message) (r : Request) → message_with tag.0 hr ≡ Some m → request_in m ≡ Some r → asks_for_grant r.op ≡ false → (here : Bool) → (r.line == a) ≡ here
      → NextAct (Act.Clean h tag) sends
  clean_own tag sends none same m r found is eviction here at =
      let req = request_is m r is in
      let fm = found_message (λ x. Unit {0}) tag.0 m hr (each_true hr) found in
      let gone : requests_after h (Cause.Act (Act.Clean h tag)) hr ≡ without_tag tag.0 hr = ap (λ b. without_used (cond b (Some tag.0) None) hr) (eq-eqb h h refl) in
      let cleans : cleans_line a m ≡ (r.line == a) = ap (cleans_line a) req.is ∙ ap (λ b. not b && (req.line.0 == a)) (ap asks_for_grant (sym req.same_op) ∙ eviction) ∙ ap (λ n. n == a) (sym req.same_line) in
      let line : option_and_then line_in (message_with tag.0 hr) ≡ Some r.line = ap (option_and_then line_in) found ∙ ap line_in req.is ∙ ap Some (sym req.same_line) in
      let listing = ap (λ x. listing_code ((directory_after_clean setup h x D).listed a h)) line in
      act_by setup opening h host own dev later a fr fw ndr rs old ungranted (Act.Clean h tag) sends none same _ _ _ _ refl refl (ap (λ x. count_by (cleans_line a) fr + count_by (cleans_line a) x) gone)
      (listing ∙ ap listing_code (clean_listing h r.line here (ap (λ b. b && ((a == r.line) || false)) (eq-eqb h h refl) ∙ hit here at)))
      (by here (fm.less (cleans_line a) ∙ ap {B = ℕ} (λ b. cond b 1 0 + count_by (cleans_line a) (without_tag tag.0 hr)) (cleans ∙ at)))
    where
      or_none : (b : Bool) → (b || false) ≡ b
      or_none true = refl
      or_none false = refl

      hit : (b : Bool) → (r.line == a) ≡ b → ((a == r.line) || false) ≡ b
      hit true e = or_none (a == r.line) ∙ eq-eqb a r.line (sym (eqb-true r.line a e))
      hit false e = or_none (a == r.line) ∙ ne_eqb a r.line (λ s. false≢true (sym e ∙ eq-eqb r.line a (sym s)))

      by : (b : Bool) → count_by (cleans_line a) hr ≡ cond b 1 0 + count_by (cleans_line a) (without_tag tag.0 hr)
          → Kept (valid_count (copy setup a own)) (writable_count (copy setup a own)) (granted_so grants_shared ndr (open_at a own)) (granted_so grants_ownership ndr (open_at a own)) (count_by (writes_line a) fw + count_by (writes_line a) hw)
          (count_by (writes_shared a) fw + count_by (writes_shared a) hw) (count_by (cleans_line a) fr + count_by (cleans_line a) (without_tag tag.0 hr)) (count_by (answers_line h a dev) rs) (count_by (answers_shared h a dev) rs)
          (listing_code (cond b Listing.I (D.listed a h)))
      by true e =
          kept_cleaned _ _ _ _ _ _ _ _ _ (listing_code (D.listed a h)) (none_cleaned setup opening h host own dev later a fr fw ndr rs old ungranted (omega arith))
          (kept_as _ _ _ _ _ _ _ _ _ _ _ _ _ (1 + (count_by (cleans_line a) fr + count_by (cleans_line a) (without_tag tag.0 hr))) _ _ _ _ _ _ refl refl refl refl refl refl (omega arith) refl refl refl old)
      by false e = kept_as _ _ _ _ _ _ _ _ _ _ _ _ _ _ _ _ _ _ _ _ refl refl refl refl refl refl (omega arith) refl refl refl old

  -- a clean for another host keeps the line's numbers
  clean_other : (k : ℕ) (tag : Tag) (sends : Sends) → Silent sends → SameSnoops → (k == h) ≡ false → NextAct (Act.Clean k tag) sends
  clean_other k tag sends none same other =
      act_by setup opening h host own dev later a fr fw ndr rs old ungranted (Act.Clean k tag) sends none same _ _ _ _ refl refl
      (ap (λ b. count_by (cleans_line a) fr + count_by (cleans_line a) (without_used (cond b (Some tag.0) None) hr)) other)
      (ap listing_code (stays (option_and_then line_in (message_with tag.0 (buffered_requests k dev))))) old
    where
      stays : (line : Option ℕ) → (directory_after_clean setup k line D).listed a h ≡ D.listed a h
      stays None = refl
      stays (Some line) = ap (λ b. cond (b && is_in a (line ∷ [])) Listing.I (D.listed a h)) (ne_eqb h k (λ same'. false≢true (sym other ∙ eq-eqb k h (sym same'))))

  -- so does this act
  pub clean_line : (k : ℕ) (tag : Tag) (sends : Sends) (w : Emission) → Silent sends → SameSnoops → Cleaned k (buffered_request k tag dev) D w → NextAct (Act.Clean k tag) sends
  clean_line k tag sends w none same inv = elim (cases_eq k h) [
    | inl own_host ↦ (
        let chain = and_then_some request_in (message_with tag.0 (buffered_requests k dev)) inv.r inv.found in
        subst (λ x. NextAct (Act.Clean x tag) sends) (sym own_host)
        (clean_own tag sends none same chain.x inv.r (subst (λ x. message_with tag.0 (buffered_requests x dev) ≡ Some chain.x) own_host chain.found) chain.same inv.eviction (inv.r.line == a) refl)
        )
    | inr differ ↦ clean_other k tag sends none same (ne_eqb k h differ)
  ]

  -- ---- Start

  -- so does this act
  pub start_line : (k : ℕ) (tag : Tag) (sends : Sends) (w : Emission) → Silent sends → SameSnoops → Started setup k (buffered_request k tag dev) D dev w → NextAct (Act.Start k tag) sends
  start_line k tag sends w none same inv =
      act_by setup opening h host own dev later a fr fw ndr rs old ungranted (Act.Start k tag) sends none same _ _ _ _ refl refl (elim (cases_eq k h) [
        | inl own_host ↦ own_started own_host
        | inr differ ↦ ap (λ b. count_by (cleans_line a) fr + count_by (cleans_line a) (without_used (cond b (Some tag.0) None) hr)) (ne_eqb k h differ)
      ]) (ap (λ f. listing_code (f a h)) (start_listed k (message_with tag.0 (buffered_requests k dev)) D)) old
    where
      own_started : k ≡ h → count_by (cleans_line a) fr + count_by (cleans_line a) (requests_after h (Cause.Act (Act.Start k tag)) hr) ≡ count_by (cleans_line a) fr + count_by (cleans_line a) hr
      own_started own_host =
          let chain = and_then_some request_in (message_with tag.0 (buffered_requests k dev)) inv.r inv.found in
          let found = subst (λ x. message_with tag.0 (buffered_requests x dev) ≡ Some chain.x) own_host chain.found in
          let fm = found_message (λ x. Unit {0}) tag.0 chain.x hr (each_true hr) found in
          let less = fm.less (cleans_line a) ∙ ap {B = ℕ} (λ b. cond b 1 0 + count_by (cleans_line a) (without_tag tag.0 hr)) (asking_cleans a chain.x inv.r chain.same inv.grant) in
          ap (λ b. count_by (cleans_line a) fr + count_by (cleans_line a) (without_used (cond b (Some tag.0) None) hr)) (eq-eqb k h own_host) ∙ add_zero _ _ _ less
        where
          add_zero : (f n m : ℕ) → n ≡ 0 + m → f + m ≡ f + n
          add_zero f n m e = omega arith

  -- ---- Snoop

  -- a new snoop leaves what the answers in flight answer
  snooped_stays : (k : ℕ) (line : Line) (sends : Sends) → is_asked k line.0 dev ≡ false → ((f : ℕ) → sent_snoop_at h f later ≡ cond ((k == h) && (line.0 == f)) (snoop_by_sends sends) (sent_snoop_at h f dev))
      → (m : Message) → IsAnswering (λ f. sent_snoop_at h f dev) m → answers_line h a later m ≡ answers_line h a dev m
  snooped_stays k line sends fresh snoops (Message.Req _ _ _ _ _) for = refl
  snooped_stays k line sends fresh snoops (Message.MemWr _ _ _ _ _) for = refl
  snooped_stays k line sends fresh snoops (Message.BiConflict _) for = refl
  snooped_stays k line sends fresh snoops (Message.BiRsp op bitag low) for = by op
    where
      same_there : sent_snoop_at h bitag.0 later ≡ sent_snoop_at h bitag.0 dev
      same_there = snoops bitag.0 ∙ ap (λ b. cond b (snoop_by_sends sends) (sent_snoop_at h bitag.0 dev)) (other (k == h) refl (line.0 == bitag.0) refl)
        where
          other : (x : Bool) → (k == h) ≡ x → (y : Bool) → (line.0 == bitag.0) ≡ y → (x && y) ≡ false
          other true own_host true at =
              absurd (false≢true (sym fresh ∙ ap (λ g. is_asked g line.0 dev) (eqb-true k h own_host) ∙ ap (λ f. is_asked h f dev) (eqb-true line.0 bitag.0 at) ∙ ap is_some for.is))
          other true own_host false at = refl
          other false own_host y at = refl

      left : is_in a (unanswered_lines h bitag.0 later) ≡ is_in a (unanswered_lines h bitag.0 dev)
      left = ap (λ o. is_in a (option_map_or (λ (q : SentSnoop). q.unanswered) o [])) same_there

      by : (op' : RspOp) → answers_line_by op' h bitag.0 (bitag.0 + low) a later ≡ answers_line_by op' h bitag.0 (bitag.0 + low) a dev
      by RspOp.I = refl
      by RspOp.S = refl
      by RspOp.E = refl
      by RspOp.IBlk = left
      by RspOp.SBlk = left
      by RspOp.EBlk = left
  snooped_stays k line sends fresh snoops (Message.Ndr _ _) for = refl
  snooped_stays k line sends fresh snoops (Message.MemData _ _) for = refl
  snooped_stays k line sends fresh snoops (Message.BiSnp _ _ _ _) for = refl
  snooped_stays k line sends fresh snoops (Message.Credit _) for = refl

  -- so does this act
  pub snoop_line : (k : ℕ) (line : Line) (sends : Sends) → Silent sends → is_asked k line.0 dev ≡ false → ((f : ℕ) → sent_snoop_at h f later ≡ cond ((k == h) && (line.0 == f)) (snoop_by_sends sends) (sent_snoop_at h f dev))
      → ((m : Message) → Among m rs → IsAnswering (λ f. sent_snoop_at h f dev) m) → NextAct (Act.Snoop k line) sends
  snoop_line k line sends none fresh snoops answering =
      let g = grants_kept setup h own dev later a fr fw ndr rs old (on_channel h Channel.Ndr sends) none in
      kept_as _ _ _ _ _ _ _ _ _ _ _ _ _ _ _ _ _ _ _ _ refl refl g.0 g.1 refl refl refl
      (counts_alike (answers_line h a later) (answers_line h a dev) rs (λ m there. snooped_stays k line sends fresh snoops m (answering m there)))
      (counts_alike (answers_shared h a later) (answers_shared h a dev) rs (λ m there. ap (λ b. b && keeps_shared m) (snooped_stays k line sends fresh snoops m (answering m there)))) refl old

  -- ---- Finish

  -- a finish that leaves this host's listing keeps the line's numbers
  pub finish_other : (line : Line) (sends : Sends) → Silent sends → SameSnoops → listings_after_finish line.0 sends D.listed a h ≡ D.listed a h → NextAct (Act.Finish line) sends
  finish_other line sends none same listing = act_by setup opening h host own dev later a fr fw ndr rs old ungranted (Act.Finish line) sends none same _ _ _ _ refl refl refl (ap listing_code listing) old
