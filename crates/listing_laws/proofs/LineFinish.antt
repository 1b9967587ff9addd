-- A line's numbers are kept by Finish, and so by each event of the device.
use Rattle.std.proofs.Common.{◌≡◌, ℕ, ◌+◌, ◌≤◌, Bool, true, IsTrue, List, [], ◌∷◌, ◌++◌, Option, Some, None, cond, count_by, refl, sym, ◌∙◌, ap, arith, ◌⊎◌, inl, inr}
use Rattle.std.specs.Prelude.{◌&&◌}
use Rattle.std.proofs.lemmas.Bool.{cases_eq, eq-eqb, ne_eqb}
use Rattle.std.proofs.lemmas.Option.{none-some}
use Rattle.cxl_message.specs.declared.channels.Channel.{Channel}
use Rattle.cxl_message.specs.declared.events.Act.{Act}
use Rattle.cxl_message.specs.declared.events.Cause.{Cause}
use Rattle.cxl_message.specs.declared.events.Event.{Event}
use Rattle.cxl_message.specs.declared.events.Sends.{Sends}
use Rattle.cxl_message.specs.declared.identifiers.Bytes64.{Bytes64}
use Rattle.cxl_message.specs.declared.identifiers.Line.{Line}
use Rattle.cxl_message.specs.declared.messages.Message.{Message}
use Rattle.cxl_message.specs.declared.opcodes.NdrOp.{NdrOp}
use Rattle.cxl_message.specs.Codes.{listing_code}
use Rattle.cxl_message.specs.Setup.{Configuration}
use Rattle.coherence_model.specs.Buffers.{buffered_requests, buffered_writes, message_with}
use Rattle.coherence_model.specs.Cache.{copy}
use Rattle.coherence_model.specs.Copies.{keeps_shared}
use Rattle.coherence_model.specs.DeviceActs.{buffered_request}
use Rattle.coherence_model.specs.DeviceRows.{device_emission}
use Rattle.coherence_model.specs.Directory.{Directory, victim_block}
use Rattle.coherence_model.specs.DirectoryChanges.{directory, granted_listing, listings_after_finish}
use Rattle.coherence_model.specs.Emission.{Emission}
use Rattle.coherence_model.specs.Fitting.{is_host}
use Rattle.coherence_model.specs.Flight.{takes_on}
use Rattle.coherence_model.specs.ListingFacts.{grants_ownership}
use Rattle.coherence_model.specs.RequestFacts.{grants, is_ndr_with}
use Rattle.coherence_model.specs.SentSnoops.{sent_snoop_after, sent_snoop_at}
use Rattle.coherence_model.specs.SnoopFacts.{answers_line}
use Rattle.coherence_model.specs.Transactions.{Transaction, open_at}
use Rattle.coherence_model.specs.Words.{one_if}
use Rattle.coherence_lemmas.proofs.DeviceActs.{v3_serve-inv, v4_clean-inv, v5_start-inv, v7_snoop-inv}
use Rattle.coherence_lemmas.proofs.Rows.{device_take-inv}
use Rattle.coherence_lemmas.proofs.TakesSendNothing.{device_takes_silent}
use Rattle.request_laws.proofs.HostPlaces.{Taken}
use Rattle.request_laws.proofs.Places.{on_channel}
use Rattle.snoop_laws.proofs.Counts.{Among, counts_alike}
use Rattle.snoop_laws.proofs.Places.{IsAnswering}
use Rattle.listing_laws.proofs.AnswersTaken.{answers_stay}
use Rattle.listing_laws.proofs.Copies.{valid_count, writable_count}
use Rattle.listing_laws.proofs.Grants.{DeviceGrants, FinishedFor, GrantOf, NoGrant, OneGrant, OwningGrant, SharedGrant, SoleGrant, device_grants}
use Rattle.listing_laws.proofs.HostLines.{flag}
use Rattle.listing_laws.proofs.LineDevice.{Next, take_device}
use Rattle.listing_laws.proofs.LineDeviceActs.{GrantFacts, act_by, evict_listed}
use Rattle.listing_laws.proofs.LineDeviceEvents.{clean_line, finish_other, serve_line, snoop_line, start_line}
use Rattle.listing_laws.proofs.Lines.{LineKept, answers_shared, writes_shared}
use Rattle.listing_laws.proofs.Numbers.{Kept, kept_as, kept_granted, kept_granted_shared}
use Rattle.listing_laws.proofs.Owners.{granted_so, grants_shared, split_grants}
use Rattle.listing_laws.proofs.SentGrants.{granted_sent, one_ndr}
use Rattle.listing_laws.proofs.WriteBackLines.{cleans_line, writes_line}

-- a sum of none has none
zeros : (s g n : ℕ) → s + g ≡ n → n ≡ 0 → (s ≡ 0) × (g ≡ 0)
zeros s g n e z = (omega arith, omega arith)

-- equal finishes are of the same line
same_finish : (k l : Line) → ◌≡◌ {A = Cause} (Cause.Act (Act.Finish k)) (Cause.Act (Act.Finish l)) → k ≡ l
same_finish k l e = cc

module _ (setup : Configuration) (opening : List (Line × Bytes64)) (h : ℕ) (host : IsTrue (is_host setup h)) (own dev later : List Event) (a : ℕ) (fr fw ndr rs : List Message)
    (old : LineKept h a (copy setup a own) (open_at a own) dev fr (buffered_requests h dev) fw (buffered_writes h dev) ndr rs (listing_code ((directory setup dev).listed a h)))
    (ungranted : granted_so grants_shared ndr (open_at a own) + granted_so grants_ownership ndr (open_at a own) ≡ 0 ⊎ ((1 ≤ count_by (writes_line a) fw + count_by (writes_line a) (buffered_writes h dev) → ⊥) × (1 ≤ count_by (cleans_line a) fr + count_by (cleans_line a) (buffered_requests h dev) → ⊥)))
    (answering : (m : Message) → Among m rs → IsAnswering (λ f. sent_snoop_at h f dev) m)
    (facts : (cause : Cause) (sends : Sends) (f : FinishedFor setup opening h dev cause sends) → f.a.0 ≡ a → GrantFacts setup h a f.t.tag own dev fr fw ndr rs)
    (elsewhere : (cause : Cause) (sends : Sends) (f : FinishedFor setup opening h dev cause sends) → (f.a.0 ≡ a → ⊥) → (o : Transaction) → open_at a own ≡ Some o → count_by (is_ndr_with grants o.tag) (on_channel h Channel.Ndr sends) ≡ 0) where
  -- the directory
  abbrev D : Directory
  D = directory setup dev

  -- the line's numbers are kept after an act
  abbrev NextAct : Act → Sends → Type 0
  NextAct act sends = Next setup h own dev later a fr fw ndr rs old (Cause.Act act) sends

  -- an act with other grants and another listing
  finish_by : (line : Line) (sends : Sends) → ((f : ℕ) → sent_snoop_at h f later ≡ sent_snoop_at h f dev) → (s g l : ℕ) → granted_so grants_shared (ndr ++ on_channel h Channel.Ndr sends) (open_at a own) ≡ s
      → granted_so grants_ownership (ndr ++ on_channel h Channel.Ndr sends) (open_at a own) ≡ g → listing_code (listings_after_finish line.0 sends D.listed a h) ≡ l
      → Kept (valid_count (copy setup a own)) (writable_count (copy setup a own)) s g (count_by (writes_line a) fw + count_by (writes_line a) (buffered_writes h dev)) (count_by (writes_shared a) fw + count_by (writes_shared a) (buffered_writes h dev))
      (count_by (cleans_line a) fr + count_by (cleans_line a) (buffered_requests h dev)) (count_by (answers_line h a dev) rs) (count_by (answers_shared h a dev) rs) l
      → NextAct (Act.Finish line) sends
  finish_by line sends same s g l es eg el kept =
      kept_as _ _ _ _ _ _ _ _ _ _ _ _ _ _ _ _ _ _ _ _ refl refl es eg refl refl refl (counts_alike (answers_line h a later) (answers_line h a dev) rs (λ m there. answers_stay h a dev later same m))
      (counts_alike (answers_shared h a later) (answers_shared h a dev) rs (λ m there. ap (λ b. b && keeps_shared m) (answers_stay h a dev later same m))) el kept

  -- the sent grant adds to those of the open request
  sent_so : (p : NdrOp → Bool) (cause : Cause) (sends : Sends) (f : FinishedFor setup opening h dev cause sends) (o : Transaction) → open_at a own ≡ Some o → o.tag ≡ f.t.tag
      → granted_so p (ndr ++ on_channel h Channel.Ndr sends) (open_at a own) ≡ granted_so p ndr (open_at a own) + one_if (p f.c && true)
  sent_so p cause sends f o there tag =
      ap (λ xs. granted_so p (ndr ++ xs) (open_at a own)) f.sent ∙ ap (granted_so p (ndr ++ Message.Ndr f.c (record { 0 = f.t.tag }) ∷ [])) there
      ∙ granted_sent p ndr (Message.Ndr f.c (record { 0 = f.t.tag }) ∷ []) o ∙ ap (λ n. granted_so p ndr (Some o) + n) (one_ndr p o.tag f.c f.t.tag ∙ ap (λ b. one_if (p f.c && b)) (eq-eqb f.t.tag o.tag (sym tag)))
      ∙ ap (λ x. granted_so p ndr x + one_if (p f.c && true)) (sym there)

  -- the sum where there was none
  sum_is : (n m k z : ℕ) → n ≡ m + k → m ≡ 0 → k ≡ z → n ≡ z
  sum_is n m k z e zero is = omega arith

  -- a finish of this line for this host keeps the line's numbers
  finish_own : (line : Line) (sends : Sends) → ((f : ℕ) → sent_snoop_at h f later ≡ sent_snoop_at h f dev) → (f : FinishedFor setup opening h dev (Cause.Act (Act.Finish line)) sends) → line ≡ f.a → f.a.0 ≡ a → NextAct (Act.Finish line) sends
  finish_own line sends same f at here =
      let x = facts (Cause.Act (Act.Finish line)) sends f here in
      let none = zeros _ _ 0 x.ungranted refl in
      by x none (sent_so grants_shared (Cause.Act (Act.Finish line)) sends f x.o x.there x.same_tag) (sent_so grants_ownership (Cause.Act (Act.Finish line)) sends f x.o x.there x.same_tag)
      (ap (λ (l : Line). listing_code (listings_after_finish l.0 sends D.listed a h)) at ∙ ap listing_code (f.lists D.listed a ∙ ap (λ b. cond b (granted_listing f.c) (D.listed a h)) (eq-eqb a f.a.0 (sym here)))) f.grant
    where
      owned : GrantFacts setup h a f.t.tag own dev fr fw ndr rs → (granted_so grants_shared ndr (open_at a own) ≡ 0) × (granted_so grants_ownership ndr (open_at a own) ≡ 0)
          → granted_so grants_shared (ndr ++ on_channel h Channel.Ndr sends) (open_at a own) ≡ granted_so grants_shared ndr (open_at a own) + one_if (grants_shared f.c && true)
          → granted_so grants_ownership (ndr ++ on_channel h Channel.Ndr sends) (open_at a own) ≡ granted_so grants_ownership ndr (open_at a own) + one_if (grants_ownership f.c && true)
          → listing_code (listings_after_finish line.0 sends D.listed a h) ≡ listing_code (granted_listing f.c) → f.c ≡ NdrOp.CmpE → NextAct (Act.Finish line) sends
      owned x none es eg el is =
          finish_by line sends same 0 1 2 (sum_is _ _ _ 0 es none.0 (ap (λ c. one_if (grants_shared c && true)) is)) (sum_is _ _ _ 1 eg none.1 (ap (λ c. one_if (grants_ownership c && true)) is))
          (el ∙ ap (λ c. listing_code (granted_listing c)) is)
          (kept_granted _ _ _ _ _ _ _ (listing_code (D.listed a h)) x.unwritten x.unevicted x.unwritable x.unanswered (flag _)
          (kept_as _ _ _ _ _ _ _ _ _ _ _ _ _ _ _ _ _ _ _ _ refl refl (sym none.0) (sym none.1) refl refl refl refl refl refl old))

      by : GrantFacts setup h a f.t.tag own dev fr fw ndr rs → (granted_so grants_shared ndr (open_at a own) ≡ 0) × (granted_so grants_ownership ndr (open_at a own) ≡ 0)
          → granted_so grants_shared (ndr ++ on_channel h Channel.Ndr sends) (open_at a own) ≡ granted_so grants_shared ndr (open_at a own) + one_if (grants_shared f.c && true)
          → granted_so grants_ownership (ndr ++ on_channel h Channel.Ndr sends) (open_at a own) ≡ granted_so grants_ownership ndr (open_at a own) + one_if (grants_ownership f.c && true)
          → listing_code (listings_after_finish line.0 sends D.listed a h) ≡ listing_code (granted_listing f.c) → GrantOf setup f.a.0 f.t D f.c → NextAct (Act.Finish line) sends
      by x none es eg el (SharedGrant is purpose) =
          finish_by line sends same 1 0 1 (sum_is _ _ _ 1 es none.0 (ap (λ c. one_if (grants_shared c && true)) is)) (sum_is _ _ _ 0 eg none.1 (ap (λ c. one_if (grants_ownership c && true)) is))
          (el ∙ ap (λ c. listing_code (granted_listing c)) is)
          (kept_granted_shared _ _ _ _ _ _ _ (listing_code (D.listed a h)) x.unwritten x.unevicted x.unwritable x.unanswered (flag _)
          (kept_as _ _ _ _ _ _ _ _ _ _ _ _ _ _ _ _ _ _ _ _ refl refl (sym none.0) (sym none.1) refl refl refl refl refl refl old))
      by x none es eg el (SoleGrant is purpose alone) = owned x none es eg el is
      by x none es eg el (OwningGrant is purpose) = owned x none es eg el is

  -- a finish of another line leaves the grants of this one, by what is open
  stays_so : (cause : Cause) (sends : Sends) (f : FinishedFor setup opening h dev cause sends) → (f.a.0 ≡ a → ⊥) → (o : Option Transaction) → open_at a own ≡ o
      → (granted_so grants_shared (ndr ++ on_channel h Channel.Ndr sends) o ≡ granted_so grants_shared ndr o) × (granted_so grants_ownership (ndr ++ on_channel h Channel.Ndr sends) o ≡ granted_so grants_ownership ndr o)
  stays_so cause sends f other None is = (refl, refl)
  stays_so cause sends f other (Some o) is =
      let both = zeros _ _ _ (split_grants o.tag (on_channel h Channel.Ndr sends)) (elsewhere cause sends f other o is) in
      let s = granted_sent grants_shared ndr (on_channel h Channel.Ndr sends) o in
      let g = granted_sent grants_ownership ndr (on_channel h Channel.Ndr sends) o in
      let first = both.0 in
      let second = both.1 in
      (omega arith, omega arith)

  -- a finish of another line keeps the line's numbers
  finish_elsewhere : (line : Line) (sends : Sends) → ((f : ℕ) → sent_snoop_at h f later ≡ sent_snoop_at h f dev) → (f : FinishedFor setup opening h dev (Cause.Act (Act.Finish line)) sends) → line ≡ f.a → (f.a.0 ≡ a → ⊥) → NextAct (Act.Finish line) sends
  finish_elsewhere line sends same f at other =
      let g = stays_so (Cause.Act (Act.Finish line)) sends f other (open_at a own) refl in
      finish_by line sends same _ _ _ g.0 g.1
      (ap (λ (l : Line). listing_code (listings_after_finish l.0 sends D.listed a h)) at ∙ ap listing_code (f.lists D.listed a ∙ ap (λ b. cond b (granted_listing f.c) (D.listed a h)) (ne_eqb a f.a.0 (λ s. other (sym s))))) old

  -- a finish keeps the line's numbers
  finish_line : (line : Line) (sends : Sends) → ((f : ℕ) → sent_snoop_at h f later ≡ sent_snoop_at h f dev) → DeviceGrants setup opening h dev (Cause.Act (Act.Finish line)) sends → NextAct (Act.Finish line) sends
  finish_line line sends same (NoGrant none others) = finish_other setup opening h host own dev later a fr fw ndr rs old ungranted line sends none same (others line refl D.listed a)
  finish_line line sends same (OneGrant f) =
      let at = same_finish line f.a f.acts in
      elim (cases_eq f.a.0 a) [
        | inl here ↦ finish_own line sends same f at here
        | inr other ↦ finish_elsewhere line sends same f at other
      ]

  -- ---- by the cause

  -- only a finish sends grants
  silent : (cause : Cause) (sends : Sends) → DeviceGrants setup opening h dev cause sends → ((l : Line) → cause ≡ Cause.Act (Act.Finish l) → ⊥) → (tag : ℕ) → count_by (is_ndr_with grants tag) (on_channel h Channel.Ndr sends) ≡ 0
  silent cause sends (NoGrant none others) unfinished = none
  silent cause sends (OneGrant f) unfinished = absurd (unfinished f.a f.acts)

  -- an act of the device keeps the line's numbers
  act_line : (act : Act) (sends : Sends) (w : Emission) → device_emission setup opening (Cause.Act act) dev ≡ Some w → DeviceGrants setup opening h dev (Cause.Act act) sends
      → ((f : ℕ) → sent_snoop_at h f later ≡ sent_snoop_after h f (Cause.Act act) sends (sent_snoop_at h f dev)) → NextAct act sends
  act_line (Act.Conflict line) sends w row g snoops = absurd (none-some w row)
  act_line (Act.WriteBack line) sends w row g snoops = absurd (none-some w row)
  act_line (Act.Answer line) sends w row g snoops = absurd (none-some w row)
  act_line (Act.AnswerBlock line) sends w row g snoops = absurd (none-some w row)
  act_line (Act.HostReturn c) sends w row g snoops = absurd (none-some w row)
  act_line (Act.Serve k tag) sends w row g snoops =
      serve_line setup opening h host own dev later a fr fw ndr rs old ungranted k tag sends w (silent (Cause.Act (Act.Serve k tag)) sends g (λ l e. cc)) snoops (v3_serve-inv k (message_with tag.0 (buffered_writes k dev)) w row)
  act_line (Act.Clean k tag) sends w row g snoops =
      clean_line setup opening h host own dev later a fr fw ndr rs old ungranted k tag sends w (silent (Cause.Act (Act.Clean k tag)) sends g (λ l e. cc)) snoops (v4_clean-inv k (buffered_request k tag dev) D w row)
  act_line (Act.Start k tag) sends w row g snoops =
      start_line setup opening h host own dev later a fr fw ndr rs old ungranted k tag sends w (silent (Cause.Act (Act.Start k tag)) sends g (λ l e. cc)) snoops (v5_start-inv setup k (buffered_request k tag dev) D dev w row)
  act_line (Act.Evict k tag) sends w row g snoops =
      act_by setup opening h host own dev later a fr fw ndr rs old ungranted (Act.Evict k tag) sends (silent (Cause.Act (Act.Evict k tag)) sends g (λ l e. cc)) snoops _ _ _ _ refl refl refl
      (ap (λ f. listing_code (f a h)) (evict_listed k tag (victim_block D) D)) old
  act_line (Act.Snoop k line) sends w row g snoops =
      snoop_line setup opening h host own dev later a fr fw ndr rs old ungranted k line sends (silent (Cause.Act (Act.Snoop k line)) sends g (λ l e. cc)) (v7_snoop-inv k line.0 (D.task line.0) D dev w row).unasked snoops answering
  act_line (Act.Finish line) sends w row g snoops = finish_line line sends snoops g
  act_line (Act.DeviceReturn k c) sends w row g snoops =
      act_by setup opening h host own dev later a fr fw ndr rs old ungranted (Act.DeviceReturn k c) sends (silent (Cause.Act (Act.DeviceReturn k c)) sends g (λ l e. cc)) snoops _ _ _ _ refl refl refl refl old

  -- a line's numbers are kept by each event of the device
  pub device_line : (cause : Cause) (sends : Sends) (w : Emission) → device_emission setup opening cause dev ≡ Some w → sends ≡ w.sends → Taken (takes_on h Channel.Req cause) fr → Taken (takes_on h Channel.Rwd cause) fw → Taken (takes_on h Channel.BiRsp cause) rs
      → count_by (answers_line h a dev) rs ≤ 1 → ((f : ℕ) → sent_snoop_at h f later ≡ sent_snoop_after h f cause sends (sent_snoop_at h f dev)) → Next setup h own dev later a fr fw ndr rs old cause sends
  device_line (Cause.Op s i op) sends w row sent taken_r taken_w taken_s few snoops = absurd (none-some w row)
  device_line (Cause.Take k m) sends w row sent taken_r taken_w taken_s few snoops =
      let passed = (device_take-inv setup opening k m dev w row).same in
      take_device setup h own dev later a fr fw ndr rs old k m sends w passed (sent ∙ device_takes_silent setup k m dev w passed) taken_r taken_w taken_s few snoops
  device_line (Cause.Act act) sends w row sent taken_r taken_w taken_s few snoops = act_line act sends w row (device_grants setup opening h dev (Cause.Act act) sends w row sent) snoops
