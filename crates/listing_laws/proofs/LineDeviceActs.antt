-- A line's numbers are kept by the device's acts.
use Rattle.std.proofs.Common.{◌≡◌, ℕ, ◌+◌, ◌≤◌, Bool, true, false, IsTrue, List, [], ◌∷◌, Option, Some, None, cond, count_by, refl, sym, ◌∙◌, ap, arith, ◌⊎◌, inl, inr}
use Rattle.std.specs.Prelude.{nat_le, ◌==◌, ◌&&◌, ◌||◌}
use Rattle.std.proofs.lemmas.Bool.{eq-eqb, eqb-true, false≢true, ltb-true, ne_eqb, or_left}
use Rattle.cxl_message.specs.declared.channels.Channel.{Channel}
use Rattle.cxl_message.specs.declared.events.Act.{Act}
use Rattle.cxl_message.specs.declared.events.Cause.{Cause}
use Rattle.cxl_message.specs.declared.events.Event.{Event}
use Rattle.cxl_message.specs.declared.events.Sends.{Sends}
use Rattle.cxl_message.specs.declared.identifiers.Bytes64.{Bytes64}
use Rattle.cxl_message.specs.declared.identifiers.Line.{Line}
use Rattle.cxl_message.specs.declared.identifiers.Tag.{Tag}
use Rattle.cxl_message.specs.declared.messages.Message.{Message}
use Rattle.cxl_message.specs.declared.opcodes.Meta.{Meta}
use Rattle.cxl_message.specs.declared.opcodes.SnpType.{SnpType}
use Rattle.cxl_message.specs.declared.opcodes.Span.{Span}
use Rattle.cxl_message.specs.declared.states.Listing.{Listing}
use Rattle.cxl_message.specs.Codes.{listing_code}
use Rattle.cxl_message.specs.Lists.{is_in}
use Rattle.cxl_message.specs.Setup.{Configuration}
use Rattle.coherence_model.specs.Buffers.{buffered_requests, buffered_writes, message_with, requests_after, without_tag, without_used, writes_after}
use Rattle.coherence_model.specs.Cache.{copy}
use Rattle.coherence_model.specs.Copies.{is_shared_meta, keeps_shared}
use Rattle.coherence_model.specs.Directory.{Directory, has_entry, is_listed}
use Rattle.coherence_model.specs.DirectoryChanges.{directory, directory_after, directory_after_evict, directory_after_serve, directory_after_start, listing_after_write}
use Rattle.coherence_model.specs.Fitting.{is_host}
use Rattle.coherence_model.specs.ListingFacts.{grants_ownership}
use Rattle.coherence_model.specs.RequestFacts.{grants, is_ndr_with}
use Rattle.coherence_model.specs.SentSnoops.{sent_snoop_at}
use Rattle.coherence_model.specs.SnoopFacts.{answers_line}
use Rattle.coherence_model.specs.Transactions.{Transaction, open_at}
use Rattle.coherence_model.specs.Words.{one_if}
use Rattle.request_laws.proofs.Below.{any_below}
use Rattle.request_laws.proofs.Each.{FoundMessage, found_message}
use Rattle.request_laws.proofs.Places.{on_channel}
use Rattle.snoop_laws.proofs.Counts.{counts_alike}
use Rattle.listing_laws.proofs.AnswersTaken.{answers_stay}
use Rattle.listing_laws.proofs.Copies.{valid_count, writable_count}
use Rattle.listing_laws.proofs.HostLines.{flag}
use Rattle.listing_laws.proofs.LineDevice.{Next, each_true, grants_kept, listed_few}
use Rattle.listing_laws.proofs.Lines.{LineKept, answers_shared, writes_shared}
use Rattle.listing_laws.proofs.Numbers.{Kept, kept_as, kept_served, kept_served_shared}
use Rattle.listing_laws.proofs.Owners.{granted_so, grants_shared}
use Rattle.listing_laws.proofs.UnderWay.{count_both}
use Rattle.listing_laws.proofs.WriteBackLines.{cleans_line, writes_line}

-- what a line's request is when its task is finished
pub record GrantFacts (setup : Configuration) (h a tag : ℕ) (own dev : List Event) (fr fw ndr rs : List Message) : Type 0 where
  pub o : Transaction
  pub there : open_at a own ≡ Some o
  pub same_tag : o.tag ≡ tag
  pub ungranted : granted_so grants_shared ndr (open_at a own) + granted_so grants_ownership ndr (open_at a own) ≡ 0
  pub unwritten : count_by (writes_line a) fw + count_by (writes_line a) (buffered_writes h dev) ≡ 0
  pub unevicted : count_by (cleans_line a) fr + count_by (cleans_line a) (buffered_requests h dev) ≡ 0
  pub unwritable : writable_count (copy setup a own) ≡ 0
  pub unanswered : count_by (answers_line h a dev) rs ≡ 0

-- a start leaves the listings
pub start_listed : (k : ℕ) (m : Option Message) (D : Directory) → (directory_after_start k m D).listed ≡ D.listed
start_listed k None D = refl
start_listed k (Some (Message.Req _ _ _ _ _)) D = refl
start_listed k (Some (Message.MemWr _ _ _ _ _)) D = refl
start_listed k (Some (Message.BiConflict _)) D = refl
start_listed k (Some (Message.BiRsp _ _ _)) D = refl
start_listed k (Some (Message.Ndr _ _)) D = refl
start_listed k (Some (Message.MemData _ _)) D = refl
start_listed k (Some (Message.BiSnp _ _ _ _)) D = refl
start_listed k (Some (Message.Credit _)) D = refl

-- an eviction task leaves the listings
pub evict_listed : (k : ℕ) (t : Tag) (b : Option (ℕ × Span)) (D : Directory) → (directory_after_evict k t b D).listed ≡ D.listed
evict_listed k t None D = refl
evict_listed k t (Some b) D = refl

module _ (setup : Configuration) (opening : List (Line × Bytes64)) (h : ℕ) (host : IsTrue (is_host setup h)) (own dev later : List Event) (a : ℕ) (fr fw ndr rs : List Message)
    (old : LineKept h a (copy setup a own) (open_at a own) dev fr (buffered_requests h dev) fw (buffered_writes h dev) ndr rs (listing_code ((directory setup dev).listed a h)))
    (ungranted : granted_so grants_shared ndr (open_at a own) + granted_so grants_ownership ndr (open_at a own) ≡ 0 ⊎ ((1 ≤ count_by (writes_line a) fw + count_by (writes_line a) (buffered_writes h dev) → ⊥) × (1 ≤ count_by (cleans_line a) fr + count_by (cleans_line a) (buffered_requests h dev) → ⊥))) where
  -- the buffered requests
  abbrev hr : List Message
  hr = buffered_requests h dev

  -- the buffered writes
  abbrev hw : List Message
  hw = buffered_writes h dev

  -- the directory
  abbrev D : Directory
  D = directory setup dev

  -- where something is written or cleaned, nothing is granted
  none_written : 1 ≤ count_by (writes_line a) fw + count_by (writes_line a) hw → granted_so grants_shared ndr (open_at a own) + granted_so grants_ownership ndr (open_at a own) ≡ 0
  none_written some = elim ungranted [ inl none ↦ none | inr neither ↦ absurd (neither.0 some) ]

  -- while a MemClnEvct is under way nothing is granted
  pub none_cleaned : 1 ≤ count_by (cleans_line a) fr + count_by (cleans_line a) hr → granted_so grants_shared ndr (open_at a own) + granted_so grants_ownership ndr (open_at a own) ≡ 0
  none_cleaned some = elim ungranted [ inl none ↦ none | inr neither ↦ absurd (neither.1 some) ]

  -- an act, by what it does to the buffers and to the listing, that sends no grant and no snoop
  pub act_by : (act : Act) (sends : Sends) → ((tag : ℕ) → count_by (is_ndr_with grants tag) (on_channel h Channel.Ndr sends) ≡ 0) → ((f : ℕ) → sent_snoop_at h f later ≡ sent_snoop_at h f dev) → (w ws e l : ℕ)
      → count_by (writes_line a) fw + count_by (writes_line a) (writes_after h (Cause.Act act) hw) ≡ w → count_by (writes_shared a) fw + count_by (writes_shared a) (writes_after h (Cause.Act act) hw) ≡ ws
      → count_by (cleans_line a) fr + count_by (cleans_line a) (requests_after h (Cause.Act act) hr) ≡ e → listing_code ((directory_after setup (Cause.Act act) sends dev D).listed a h) ≡ l
      → Kept (valid_count (copy setup a own)) (writable_count (copy setup a own)) (granted_so grants_shared ndr (open_at a own)) (granted_so grants_ownership ndr (open_at a own)) w ws e (count_by (answers_line h a dev) rs) (count_by (answers_shared h a dev) rs) l
      → Next setup h own dev later a fr fw ndr rs old (Cause.Act act) sends
  act_by act sends none same w ws e l ew es ee el kept =
      let g = grants_kept setup h own dev later a fr fw ndr rs old (on_channel h Channel.Ndr sends) none in
      kept_as _ _ _ _ _ _ _ _ _ _ _ _ _ _ _ _ _ _ _ _ refl refl g.0 g.1 ew es ee (counts_alike (answers_line h a later) (answers_line h a dev) rs (λ m there. answers_stay h a dev later same m))
      (counts_alike (answers_shared h a later) (answers_shared h a dev) rs (λ m there. ap (λ b. b && keeps_shared m) (answers_stay h a dev later same m))) el kept

  -- ---- Serve

  -- the line's numbers are kept after a serve
  abbrev pub NextServe : (k : ℕ) (tag : Tag) (sends : Sends) → Type 0
  NextServe k tag sends = Next setup h own dev later a fr fw ndr rs old (Cause.Act (Act.Serve k tag)) sends

  -- a serve for another host keeps the line's numbers
  pub serve_other : (k : ℕ) (tag : Tag) (sends : Sends) → ((n : ℕ) → count_by (is_ndr_with grants n) (on_channel h Channel.Ndr sends) ≡ 0) → ((f : ℕ) → sent_snoop_at h f later ≡ sent_snoop_at h f dev) → (k == h) ≡ false
      → (m : Message) → message_with tag.0 (buffered_writes k dev) ≡ Some m → NextServe k tag sends
  serve_other k tag sends none same other m found =
      let gone = ap (λ b. without_used (cond b (Some tag.0) None) hw) other in
      act_by (Act.Serve k tag) sends none same _ _ _ _ (ap (λ x. count_by (writes_line a) fw + count_by (writes_line a) x) gone) (ap (λ x. count_by (writes_shared a) fw + count_by (writes_shared a) x) gone) refl
      (ap (λ x. listing_code ((directory_after_serve setup k x D).listed a h)) found ∙ ap listing_code (stays m)) old
    where
      stays : (m : Message) → (directory_after_serve setup k (Some m) D).listed a h ≡ D.listed a h
      stays (Message.Req _ _ _ _ _) = refl
      stays (Message.MemWr meta _ _ line _) =
          ap (λ b. cond (b && is_in a (line.0 ∷ [])) (listing_after_write meta (has_entry setup D line.0)) (D.listed a h)) (ne_eqb h k (λ same'. false≢true (sym other ∙ eq-eqb k h (sym same'))))
      stays (Message.BiConflict _) = refl
      stays (Message.BiRsp _ _ _) = refl
      stays (Message.Ndr _ _) = refl
      stays (Message.MemData _ _) = refl
      stays (Message.BiSnp _ _ _ _) = refl
      stays (Message.Credit _) = refl

  -- either is the first where the second is false
  or_none : (b : Bool) → (b || false) ≡ b
  or_none true = refl
  or_none false = refl

  -- the listing after a served MemWr of the host
  written_listing : (meta : Meta) (line : ℕ) (here : Bool) → (line == a) ≡ here → cond ((h == h) && is_in a (line ∷ [])) (listing_after_write meta (has_entry setup D line)) (D.listed a h) ≡ cond here (listing_after_write meta (has_entry setup D a)) (D.listed a h)
  written_listing meta line true is =
      let same = eqb-true line a is in
      ap (λ b. cond (b && is_in a (line ∷ [])) (listing_after_write meta (has_entry setup D line)) (D.listed a h)) (eq-eqb h h refl)
      ∙ ap (λ b. cond b (listing_after_write meta (has_entry setup D line)) (D.listed a h)) (or_none (a == line) ∙ eq-eqb a line (sym same)) ∙ ap (λ x. listing_after_write meta (has_entry setup D x)) same
  written_listing meta line false is =
      ap (λ b. cond (b && is_in a (line ∷ [])) (listing_after_write meta (has_entry setup D line)) (D.listed a h)) (eq-eqb h h refl)
      ∙ ap (λ b. cond b (listing_after_write meta (has_entry setup D line)) (D.listed a h)) (or_none (a == line) ∙ ne_eqb a line (λ same. false≢true (sym is ∙ eq-eqb line a (sym same))))

  -- who is listed A has an entry
  listed_entry : listing_code (D.listed a h) ≡ 2 → has_entry setup D a ≡ true
  listed_entry two = or_left _ _ (any_below (is_listed D a) setup.hosts h (ltb-true h setup.hosts host) (ap (nat_le 1) two))

  -- the listing after a served MemWr
  write_code : (b has : Bool) → has ≡ true → listing_code (cond (b && has) Listing.S Listing.I) ≡ one_if b
  write_code true true h' = refl
  write_code true false h' = absurd (false≢true h')
  write_code false has h' = refl

  -- a line with a MemWr under way is listed A
  owned : (v x s g w ws e r rs' l : ℕ) → Kept v x s g (1 + w) ws e r rs' l → l ≤ 2 → l ≡ 2
  owned v x s g w ws e r rs' l h' few = omega arith

  -- a served MemWr keeps the line's numbers
  pub serve_write : (tag : Tag) (sends : Sends) → ((n : ℕ) → count_by (is_ndr_with grants n) (on_channel h Channel.Ndr sends) ≡ 0) → ((f : ℕ) → sent_snoop_at h f later ≡ sent_snoop_at h f dev)
      → (meta : Meta) (snp : SnpType) (t : Tag) (line : Line) (bytes : Bytes64) → message_with tag.0 hw ≡ Some (Message.MemWr meta snp t line bytes) → (here : Bool) → (line.0 == a) ≡ here → NextServe h tag sends
  serve_write tag sends none same meta snp t line bytes found here is =
      let m : Message = Message.MemWr meta snp t line bytes in
      let fm = found_message (λ x. Unit {0}) tag.0 m hw (each_true hw) found in
      let gone : writes_after h (Cause.Act (Act.Serve h tag)) hw ≡ without_tag tag.0 hw = ap (λ b. without_used (cond b (Some tag.0) None) hw) (eq-eqb h h refl) in
      act_by (Act.Serve h tag) sends none same _ _ _ _ (ap (λ x. count_by (writes_line a) fw + count_by (writes_line a) x) gone) (ap (λ x. count_by (writes_shared a) fw + count_by (writes_shared a) x) gone) refl
      (ap (λ x. listing_code ((directory_after_serve setup h x D).listed a h)) found ∙ ap listing_code (written_listing meta line.0 here is)) (by here is fm (fm.less (writes_line a)) (fm.less (writes_shared a)))
    where
      by : (here : Bool) → (line.0 == a) ≡ here → FoundMessage (λ x. Unit {0}) tag.0 (Message.MemWr meta snp t line bytes) hw → count_by (writes_line a) hw ≡ cond (line.0 == a) 1 0 + count_by (writes_line a) (without_tag tag.0 hw)
          → count_by (writes_shared a) hw ≡ cond ((line.0 == a) && is_shared_meta meta) 1 0 + count_by (writes_shared a) (without_tag tag.0 hw)
          → Kept (valid_count (copy setup a own)) (writable_count (copy setup a own)) (granted_so grants_shared ndr (open_at a own)) (granted_so grants_ownership ndr (open_at a own))
          (count_by (writes_line a) fw + count_by (writes_line a) (without_tag tag.0 hw)) (count_by (writes_shared a) fw + count_by (writes_shared a) (without_tag tag.0 hw)) (count_by (cleans_line a) fr + count_by (cleans_line a) hr)
          (count_by (answers_line h a dev) rs) (count_by (answers_shared h a dev) rs) (listing_code (cond here (listing_after_write meta (has_entry setup D a)) (D.listed a h)))
      by false is' fm ew es =
          let w : count_by (writes_line a) hw ≡ 0 + count_by (writes_line a) (without_tag tag.0 hw) = ew ∙ ap {B = ℕ} (λ b. cond b 1 0 + count_by (writes_line a) (without_tag tag.0 hw)) is' in
          let s : count_by (writes_shared a) hw ≡ 0 + count_by (writes_shared a) (without_tag tag.0 hw) = es ∙ ap {B = ℕ} (λ b. cond (b && is_shared_meta meta) 1 0 + count_by (writes_shared a) (without_tag tag.0 hw)) is' in
          kept_as _ _ _ _ _ _ _ _ _ _ _ _ _ _ _ _ _ _ _ _ refl refl refl refl (omega arith) (omega arith) refl refl refl refl old
      by true is' fm ew es =
          let w : count_by (writes_line a) hw ≡ 1 + count_by (writes_line a) (without_tag tag.0 hw) = ew ∙ ap {B = ℕ} (λ b. cond b 1 0 + count_by (writes_line a) (without_tag tag.0 hw)) is' in
          let s : count_by (writes_shared a) hw ≡ cond (is_shared_meta meta) 1 0 + count_by (writes_shared a) (without_tag tag.0 hw) = es ∙ ap {B = ℕ} (λ b. cond (b && is_shared_meta meta) 1 0 + count_by (writes_shared a) (without_tag tag.0 hw)) is' in
          shares (is_shared_meta meta) refl w s
        where
          shares : (b : Bool) → is_shared_meta meta ≡ b → count_by (writes_line a) hw ≡ 1 + count_by (writes_line a) (without_tag tag.0 hw) → count_by (writes_shared a) hw ≡ cond (is_shared_meta meta) 1 0 + count_by (writes_shared a) (without_tag tag.0 hw)
              → Kept (valid_count (copy setup a own)) (writable_count (copy setup a own)) (granted_so grants_shared ndr (open_at a own)) (granted_so grants_ownership ndr (open_at a own))
              (count_by (writes_line a) fw + count_by (writes_line a) (without_tag tag.0 hw)) (count_by (writes_shared a) fw + count_by (writes_shared a) (without_tag tag.0 hw)) (count_by (cleans_line a) fr + count_by (cleans_line a) hr)
              (count_by (answers_line h a dev) rs) (count_by (answers_shared h a dev) rs) (listing_code (listing_after_write meta (has_entry setup D a)))
          shares true its w s =
              let s' : count_by (writes_shared a) hw ≡ 1 + count_by (writes_shared a) (without_tag tag.0 hw) = s ∙ ap {B = ℕ} (λ b. cond b 1 0 + count_by (writes_shared a) (without_tag tag.0 hw)) its in
              let few = listed_few (D.listed a h) in
              let before = kept_as _ _ _ _ _ _ _ _ _ (1 + (count_by (writes_line a) fw + count_by (writes_line a) (without_tag tag.0 hw))) _ (1 + (count_by (writes_shared a) fw + count_by (writes_shared a) (without_tag tag.0 hw))) _ _ _ _ _ _ _ _
              refl refl refl refl (omega arith) (omega arith) refl refl refl refl old in
              let entry = listed_entry (owned _ _ _ _ _ _ _ _ _ _ before few) in
              kept_as _ _ _ _ _ _ _ _ _ _ _ _ _ _ _ _ _ _ _ _ refl refl refl refl refl refl refl refl refl (write_code (is_shared_meta meta) (has_entry setup D a) entry ∙ ap one_if its)
              (kept_served_shared _ _ _ _ _ _ _ _ _ (listing_code (D.listed a h)) (flag _) few (none_written (omega arith)) before)
          shares false its w s =
              let s' : count_by (writes_shared a) hw ≡ 0 + count_by (writes_shared a) (without_tag tag.0 hw) = s ∙ ap {B = ℕ} (λ b. cond b 1 0 + count_by (writes_shared a) (without_tag tag.0 hw)) its in
              let few = listed_few (D.listed a h) in
              let part_fw = count_both (writes_line a) keeps_shared fw in
              let part_hw = count_both (writes_line a) keeps_shared (without_tag tag.0 hw) in
              let before = kept_as _ _ _ _ _ _ _ _ _ (1 + (count_by (writes_line a) fw + count_by (writes_line a) (without_tag tag.0 hw))) _ (count_by (writes_shared a) fw + count_by (writes_shared a) (without_tag tag.0 hw)) _ _ _ _ _ _ _ _
              refl refl refl refl (omega arith) (omega arith) refl refl refl refl old in
              let entry = listed_entry (owned _ _ _ _ _ _ _ _ _ _ before few) in
              kept_as _ _ _ _ _ _ _ _ _ _ _ _ _ _ _ _ _ _ _ _ refl refl refl refl refl refl refl refl refl (write_code (is_shared_meta meta) (has_entry setup D a) entry ∙ ap one_if its)
              (kept_served _ _ _ _ _ _ _ _ _ (listing_code (D.listed a h)) (omega arith) few (none_written (omega arith)) before)
