-- The lines of an evicted block for which a host's answer was taken don't list it: by recursion over the run.
use Rattle.std.proofs.Common.{◌≡◌, ℕ, ◌+◌, Bool, true, false, IsTrue, List, [], ◌∷◌, Option, Some, None, cond, refl, sym, ◌∙◌, ap, subst, inl, inr}
use Rattle.std.specs.Prelude.{nat_le, option_and_then, ◌&&◌, ◌==◌, ◌||◌}
use Rattle.std.proofs.lemmas.Bool.{and_parts, cases_Bool, cond-false, cond-true, eq-eqb, eqb-true, false≢true, false_from_ne_true}
use Rattle.std.proofs.lemmas.Option.{none-some, same_Some}
use Rattle.cxl_message.specs.declared.events.Act.{Act}
use Rattle.cxl_message.specs.declared.events.Cause.{Cause}
use Rattle.cxl_message.specs.declared.events.Event.{Event}
use Rattle.cxl_message.specs.declared.events.Sends.{Sends}
use Rattle.cxl_message.specs.declared.identifiers.Bytes64.{Bytes64}
use Rattle.cxl_message.specs.declared.identifiers.Line.{Line}
use Rattle.cxl_message.specs.declared.identifiers.Tag.{Tag}
use Rattle.cxl_message.specs.declared.messages.Message.{Message}
use Rattle.cxl_message.specs.declared.opcodes.Meta.{Meta}
use Rattle.cxl_message.specs.declared.opcodes.ReqOp.{ReqOp}
use Rattle.cxl_message.specs.declared.opcodes.RspOp.{RspOp}
use Rattle.cxl_message.specs.declared.opcodes.SnpType.{SnpType}
use Rattle.cxl_message.specs.declared.opcodes.Span.{Span}
use Rattle.cxl_message.specs.declared.states.Listing.{Listing}
use Rattle.cxl_message.specs.Codes.{listing_code}
use Rattle.cxl_message.specs.Lists.{is_in, without}
use Rattle.cxl_message.specs.Setup.{Configuration}
use Rattle.cxl_message.specs.Spans.{covers, lines_of}
use Rattle.coherence_model.specs.Buffers.{buffered_requests, buffered_writes, message_with}
use Rattle.coherence_model.specs.Copies.{is_shared_meta}
use Rattle.coherence_model.specs.DeviceActs.{snoop_op}
use Rattle.coherence_model.specs.Directory.{Directory, has_entry, is_listed, victim_block}
use Rattle.coherence_model.specs.DirectoryChanges.{answered_lines, directory, directory_after, directory_after_evict, directory_after_serve, directory_after_start, directory_after_clean, listing_after_response, listing_after_write, listings_after_finish, with_listed, with_listing, with_task, directory_after_finish}
use Rattle.coherence_model.specs.Fitting.{cause_fits, is_device, is_host, write_tag_exists}
use Rattle.coherence_model.specs.Rows.{row_emission}
use Rattle.coherence_model.specs.Runs.{IsRun, is_allowed, is_run}
use Rattle.coherence_model.specs.Traces.{device, events_of}
use Rattle.cxl_message.specs.Messages.{line_in}
use Rattle.coherence_model.specs.HostActs.{is_data_snoop}
use Rattle.coherence_model.specs.SentSnoops.{SentSnoop, sent_snoop_after, sent_snoop_at, snoop_after_response, snoop_by_sends, still_asking}
use Rattle.coherence_model.specs.Tasks.{Purpose, Task, eviction_task, is_eviction, purpose_of, request_task}
use Rattle.entry_laws.proofs.Blocks.{covers_first}
use Rattle.coherence_lemmas.proofs.Allowed.{AllowedParts, allowed_parts}
use Rattle.coherence_lemmas.proofs.Rows.{device_row as whole_row}
use Rattle.entry_laws.proofs.DeviceRows.{DeviceRow, FinishRow, SnoopRow, TakenAnswer, device_row}
use Rattle.request_laws.proofs.AllPlaces.{other_events, own_events}
use Rattle.entry_laws.proofs.Entries.{victim_evictable, victim_free}
use Rattle.weight_laws.proofs.Listings.{DeviceKnown, only_one, relisted_as}
use Rattle.weight_laws.proofs.SharedRuns.{data_purpose}
use Rattle.weight_laws.proofs.Sums.{in_lines, in_without}

-- an evicted line that isn't left without an answer doesn't list the host
abbrev pub AreUnlisted : Configuration → (ℕ → ℕ → Option SentSnoop) → Directory → Type 0
AreUnlisted setup asked D =
    (h f : ℕ) (q : SentSnoop) (task : Task) → asked h f ≡ Some q → D.task f ≡ Some task → is_eviction task.purpose ≡ true
    → (b : ℕ) → covers f task.span b ≡ true → is_in b q.unanswered ≡ false → is_listed D b h ≡ false

-- an eviction doesn't serve a shared read
no_eviction : (p : Purpose) → p ≡ Purpose.SharedRead → is_eviction p ≡ true → ⊥
no_eviction p same is = false≢true (ap is_eviction (sym same) ∙ is)

-- a request's task is no eviction
requests_evict_none : (op : ReqOp) (meta : Meta) → is_eviction (purpose_of op meta) ≡ true → ⊥
requests_evict_none ReqOp.MemRd Meta.Invalid h = false≢true h
requests_evict_none ReqOp.MemRd Meta.Any h = false≢true h
requests_evict_none ReqOp.MemRd Meta.Shared h = false≢true h
requests_evict_none ReqOp.MemInv meta h = false≢true h
requests_evict_none ReqOp.MemClnEvct meta h = false≢true h

module _ (setup : Configuration) (mine : List Event) (known : DeviceKnown setup mine) (inv : AreUnlisted setup (λ g a. sent_snoop_at g a mine) (directory setup mine)) where
  abbrev D : Directory
  D = directory setup mine

  abbrev asked : ℕ → ℕ → Option SentSnoop
  asked g a = sent_snoop_at g a mine

  -- ---- an answer

  -- the answer leaves host k unlisted, or the task over the line serves a shared read
  answer_listing : (op : RspOp) (k first low : ℕ) (row : TakenAnswer op k first (first + low) mine) (f b : ℕ) (task : Task) → D.task f ≡ Some task → is_eviction task.purpose ≡ true → covers f task.span b ≡ true
      → is_in b (answered_lines op k first (first + low) mine) ≡ true → nat_le 1 (listing_code (listing_after_response op)) ≡ false
  answer_listing RspOp.I k first low row f b task stands evicts covered there = refl
  answer_listing RspOp.S k first low row f b task stands evicts covered there =
      let parts = and_parts _ _ row.answers in
      let of = known.kept.snoops k first row.q row.asked in
      let own = subst (λ x. covers first of.t.span x ≡ true) (sym (only_one b (first + low) there)) (of.within (first + low) parts.0) in
      let same = known.kept.tasks.apart f first b task of.t stands of.is covered own in
      let one = same_Some of.t task (sym of.is ∙ ap D.task (sym same) ∙ stands) in
      absurd (no_eviction task.purpose (data_purpose task.purpose task.span (ap (λ (x : Task). is_data_snoop (snoop_op x.purpose x.span)) (sym one) ∙ ap is_data_snoop (sym of.op) ∙ parts.1)) evicts)
  answer_listing RspOp.E k first low row f b task stands evicts covered there = absurd (false≢true row.answers)
  answer_listing RspOp.IBlk k first low row f b task stands evicts covered there = refl
  answer_listing RspOp.SBlk k first low row f b task stands evicts covered there = absurd (false≢true row.answers)
  answer_listing RspOp.EBlk k first low row f b task stands evicts covered there = absurd (false≢true row.answers)

  -- after an answer for the block itself
  own_answer : (op : RspOp) (k f low : ℕ) (row : TakenAnswer op k f (f + low) mine) (q : SentSnoop) (task : Task) → option_and_then (snoop_after_response op (f + low)) (asked k f) ≡ Some q → D.task f ≡ Some task → is_eviction task.purpose ≡ true
      → (b : ℕ) → covers f task.span b ≡ true → is_in b q.unanswered ≡ false → (is_in b (answered_lines op k f (f + low) mine) ≡ false → is_listed D b k ≡ false)
  own_answer RspOp.I k f low row q task left stands evicts b covered none other =
      let left_is = sym (ap (option_and_then (snoop_after_response RspOp.I (f + low))) row.asked) ∙ left in
      let lines = left_lines row.q (without (f + low) row.q.unanswered) q left_is in
      let single : (b == (f + low)) ≡ false = false_from_ne_true (b == (f + low)) (λ same. false≢true (sym other ∙ ap (λ x. x || false) same)) in
      inv k f row.q task row.asked stands evicts b covered
      (false_from_ne_true (is_in b row.q.unanswered) (λ there. false≢true (sym none ∙ ap (is_in b) lines ∙ in_without b (f + low) row.q.unanswered there single)))
    where
      left_lines : (r : SentSnoop) (zs : List ℕ) (x : SentSnoop) → still_asking r zs ≡ Some x → x.unanswered ≡ zs
      left_lines r [] x e = absurd (none-some x e)
      left_lines r (z ∷ zs) x e = ap (λ (y : SentSnoop). y.unanswered) (sym (same_Some (record r { unanswered = z ∷ zs }) x e))
  own_answer RspOp.S k f low row q task left stands evicts b covered none other =
      let parts = and_parts _ _ row.answers in
      let of = known.kept.snoops k f row.q row.asked in
      let one = same_Some of.t task (sym of.is ∙ stands) in
      absurd (no_eviction task.purpose (data_purpose task.purpose task.span (ap (λ (x : Task). is_data_snoop (snoop_op x.purpose x.span)) (sym one) ∙ ap is_data_snoop (sym of.op) ∙ parts.1)) evicts)
  own_answer RspOp.E k f low row q task left stands evicts b covered none other = absurd (false≢true row.answers)
  own_answer RspOp.IBlk k f low row q task left stands evicts b covered none other = absurd (none-some q (sym (ap (option_and_then (snoop_after_response RspOp.IBlk (f + low))) row.asked) ∙ left))
  own_answer RspOp.SBlk k f low row q task left stands evicts b covered none other = absurd (false≢true row.answers)
  own_answer RspOp.EBlk k f low row q task left stands evicts b covered none other = absurd (false≢true row.answers)

  same_ask : (b : Bool) (x : Option SentSnoop) (q : SentSnoop) → cond b x x ≡ Some q → x ≡ Some q
  same_ask true x q e = e
  same_ask false x q e = e

  -- the listing of host h for line b after an answer of host k
  after_answer : (op : RspOp) (k first low : ℕ) → TakenAnswer op k first (first + low) mine → (h f b : ℕ) (task : Task) → D.task f ≡ Some task → is_eviction task.purpose ≡ true → covers f task.span b ≡ true
      → (h ≡ k → is_in b (answered_lines op k first (first + low) mine) ≡ false → is_listed D b h ≡ false) → ((h ≡ k → ⊥) → is_listed D b h ≡ false)
      → nat_le 1 (listing_code (with_listing (answered_lines op k first (first + low) mine) k (listing_after_response op) D.listed b h)) ≡ false
  after_answer op k first low row h f b task stands evicts covered own other =
      elim (cases_Bool (h == k)) [
        | inl here ↦ elim (cases_Bool (is_in b (answered_lines op k first (first + low) mine))) [
          | inl there ↦ ap (λ x. nat_le 1 (listing_code (cond x (listing_after_response op) (D.listed b h)))) (ap (λ y. y && is_in b (answered_lines op k first (first + low) mine)) here ∙ there)
              ∙ answer_listing op k first low row f b task stands evicts covered there
          | inr none ↦ ap (λ x. nat_le 1 (listing_code (cond x (listing_after_response op) (D.listed b h)))) (ap (λ y. y && is_in b (answered_lines op k first (first + low) mine)) here ∙ none) ∙ own (eqb-true h k here) none
        ]
        | inr foreign ↦ ap (λ x. nat_le 1 (listing_code (cond x (listing_after_response op) (D.listed b h)))) (ap (λ y. y && is_in b (answered_lines op k first (first + low) mine)) foreign)
            ∙ other (λ same. false≢true (sym foreign ∙ eq-eqb h k same))
      ]

  answer_step : (op : RspOp) (k first low : ℕ) → TakenAnswer op k first (first + low) mine
      → AreUnlisted setup (λ g a. cond (k == g) (cond (first == a) (option_and_then (snoop_after_response op (a + low)) (asked g a)) (asked g a)) (asked g a))
      (with_listed setup (answered_lines op k first (first + low) mine) k (listing_after_response op) D)
  answer_step op k first low row h f q task is stands evicts b covered none =
      elim (cases_Bool (k == h)) [
        | inr foreign ↦
            let old = sym (cond-false (k == h) _ (asked h f) foreign) ∙ is in
            let unlisted = inv h f q task old stands evicts b covered none in
            after_answer op k first low row h f b task stands evicts covered (λ same other. unlisted) (λ other. unlisted)
        | inl own ↦
            let host = eqb-true k h own in
            let first_cond = sym (cond-true (k == h) (cond (first == f) (option_and_then (snoop_after_response op (f + low)) (asked h f)) (asked h f)) (asked h f) own) ∙ is in
            elim (cases_Bool (first == f)) [
              | inr elsewhere ↦
                  let old = sym (cond-false (first == f) (option_and_then (snoop_after_response op (f + low)) (asked h f)) (asked h f) elsewhere) ∙ first_cond in
                  let unlisted = inv h f q task old stands evicts b covered none in
                  after_answer op k first low row h f b task stands evicts covered (λ same other. unlisted) (λ other. unlisted)
              | inl here ↦
                  let line = eqb-true first f here in
                  let left = sym (cond-true (first == f) (option_and_then (snoop_after_response op (f + low)) (asked h f)) (asked h f) here) ∙ first_cond in
                  after_answer op k first low row h f b task stands evicts covered
                  (λ same other. own_line op k first low row h f host line q task left stands evicts b covered none other) (λ other. absurd (other (sym host)))
            ]
      ]
    where
      own_line : (op : RspOp) (k first low : ℕ) (row : TakenAnswer op k first (first + low) mine) (h f : ℕ) → k ≡ h → first ≡ f → (q : SentSnoop) (task : Task) → option_and_then (snoop_after_response op (f + low)) (asked h f) ≡ Some q → D.task f ≡ Some task → is_eviction task.purpose ≡ true
          → (b : ℕ) → covers f task.span b ≡ true → is_in b q.unanswered ≡ false → is_in b (answered_lines op k first (first + low) mine) ≡ false → is_listed D b h ≡ false
      own_line op k first low row h f host line q task left stands evicts b covered none other =
          subst (λ g. is_listed D b g ≡ false) host
          (own_answer op k first low row q task
          (subst (λ a. option_and_then (snoop_after_response op (a + low)) (asked k a) ≡ Some q) (sym line) (subst (λ g. option_and_then (snoop_after_response op (f + low)) (asked g f) ≡ Some q) (sym host) left))
          (subst (λ a. D.task a ≡ Some task) (sym line) stands) evicts b (subst (λ a. covers a task.span b ≡ true) (sym line) covered) none other)

  -- ---- acts

  -- a served message
  serve_write : (k : ℕ) → IsTrue (is_host setup k) → (tag : ℕ) (meta : Meta) (snp : SnpType) (own : Tag) (line : Line) (bytes : Bytes64) → message_with tag (buffered_writes k mine) ≡ Some (Message.MemWr meta snp own line bytes)
      → AreUnlisted setup asked (with_listed setup (line.0 ∷ []) k (listing_after_write meta (has_entry setup D line.0)) D)
  serve_write k host tag meta snp own line bytes is h f q task ask stands evicts b covered none =
      relisted_as (line.0 ∷ []) k (listing_after_write meta (has_entry setup D line.0)) D.listed b h (nat_le 1) (λ same there. by_meta (is_shared_meta meta) refl (only_one b line.0 there)) (inv h f q task ask stands evicts b covered none)
    where
      by_meta : (shared : Bool) → is_shared_meta meta ≡ shared → b ≡ line.0 → nat_le 1 (listing_code (cond (is_shared_meta meta && has_entry setup D line.0) Listing.S Listing.I)) ≡ false
      by_meta true shared same =
          let serves = known.shared k host tag meta snp own line bytes is shared in
          let one_line = known.kept.tasks.apart f serves.first b task serves.task stands serves.stands covered (subst (λ x. covers serves.first serves.task.span x ≡ true) (sym same) serves.covered) in
          let one = same_Some serves.task task (sym serves.stands ∙ ap D.task (sym one_line) ∙ stands) in
          absurd (no_eviction task.purpose (ap (λ (x : Task). x.purpose) (sym one) ∙ serves.purpose) evicts)
      by_meta false shared same = ap (λ x. nat_le 1 (listing_code (cond (x && has_entry setup D line.0) Listing.S Listing.I))) shared

  serve_step : (k : ℕ) → IsTrue (is_host setup k) → (tag : ℕ) (found : Option Message) → message_with tag (buffered_writes k mine) ≡ found → AreUnlisted setup asked (directory_after_serve setup k found D)
  serve_step k host tag None is = inv
  serve_step k host tag (Some (Message.Req op meta snp own line)) is = inv
  serve_step k host tag (Some (Message.MemWr meta snp own line bytes)) is = serve_write k host tag meta snp own line bytes is
  serve_step k host tag (Some (Message.BiConflict own)) is = inv
  serve_step k host tag (Some (Message.BiRsp op bitag low)) is = inv
  serve_step k host tag (Some (Message.Ndr op own)) is = inv
  serve_step k host tag (Some (Message.MemData own bytes)) is = inv
  serve_step k host tag (Some (Message.BiSnp op bitag line span)) is = inv
  serve_step k host tag (Some (Message.Credit c)) is = inv

  clean_step : (k : ℕ) (found : Option ℕ) → AreUnlisted setup asked (directory_after_clean setup k found D)
  clean_step k None = inv
  clean_step k (Some a) = λ h f q task ask stands evicts b covered none.
      relisted_as (a ∷ []) k Listing.I D.listed b h (nat_le 1) (λ same there. refl) (inv h f q task ask stands evicts b covered none)

  -- a task that is set
  set_task : (first : ℕ) (new : Task) (h f : ℕ) (q : SentSnoop) (task : Task) → ((first ≡ f) → new ≡ task → is_eviction task.purpose ≡ true → ⊥) → asked h f ≡ Some q
      → with_task first (Some new) D.task f ≡ Some task → is_eviction task.purpose ≡ true → (b : ℕ) → covers f task.span b ≡ true → is_in b q.unanswered ≡ false → is_listed D b h ≡ false
  set_task first new h f q task never ask stands evicts b covered none = by_line (f == first) refl stands
    where
      by_line : (here : Bool) → (f == first) ≡ here → cond here (Some new) (D.task f) ≡ Some task → is_listed D b h ≡ false
      by_line true is e = absurd (never (sym (eqb-true f first is)) (same_Some new task e) evicts)
      by_line false is e = inv h f q task ask e evicts b covered none

  start_step : (k : ℕ) (found : Option Message) → AreUnlisted setup asked (directory_after_start k found D)
  start_step k None = inv
  start_step k (Some (Message.Req op meta snp tag line)) = λ h f q task ask stands evicts b covered none.
      set_task line.0 (request_task k tag op meta) h f q task (λ same new evicts. requests_evict_none op meta (ap (λ (x : Task). is_eviction x.purpose) new ∙ evicts)) ask stands evicts b covered none
  start_step k (Some (Message.MemWr _ _ _ _ _)) = inv
  start_step k (Some (Message.BiConflict _)) = inv
  start_step k (Some (Message.BiRsp _ _ _)) = inv
  start_step k (Some (Message.Ndr _ _)) = inv
  start_step k (Some (Message.MemData _ _)) = inv
  start_step k (Some (Message.BiSnp _ _ _ _)) = inv
  start_step k (Some (Message.Credit _)) = inv

  evict_step : (k : ℕ) (tag : Tag) (found : Option (ℕ × Span)) → victim_block D ≡ found → AreUnlisted setup asked (directory_after_evict k tag found D)
  evict_step k tag None is = inv
  evict_step k tag (Some block) is = λ h f q task ask stands evicts b covered none.
      set_task block.0 (eviction_task k tag block.1) h f q task
      (λ same new evicts.
      let of = known.kept.snoops h f q ask in
      victim_free setup.lines D known.kept.tasks block (victim_evictable D block is) f f of.t of.is (covers_first f of.t.span) (subst (λ x. covers block.0 block.1 x ≡ true) same (covers_first block.0 block.1)))
      ask stands evicts b covered none

  snoop_step : (k line : ℕ) (sends : Sends) → SnoopRow setup k line sends mine → AreUnlisted setup (λ g a. cond ((k == g) && (line == a)) (snoop_by_sends sends) (asked g a)) D
  snoop_step k line sends row h f q task ask stands evicts b covered none = by_line ((k == h) && (line == f)) refl ask
    where
      by_line : (here : Bool) → ((k == h) && (line == f)) ≡ here → cond here (snoop_by_sends sends) (asked h f) ≡ Some q → is_listed D b h ≡ false
      by_line true is e =
          let line_is = eqb-true line f (and_parts _ _ is).1 in
          let one = same_Some row.t task (sym row.task ∙ ap D.task line_is ∙ stands) in
          let lines : lines_of line row.t.span ≡ q.unanswered = ap (λ (x : SentSnoop). x.unanswered) (same_Some _ q (sym (ap snoop_by_sends row.sent) ∙ e)) in
          absurd (false≢true (sym none ∙ ap (is_in b) (sym lines) ∙ in_lines line row.t.span b (subst (λ x. covers x row.t.span b ≡ true) (sym line_is) (subst (λ (x : Task). covers f x.span b ≡ true) (sym one) covered))))
      by_line false is e = inv h f q task e stands evicts b covered none

  -- a task that ends
  granted_elsewhere : (a : ℕ) (t : Task) → D.task a ≡ Some t → (sends : Sends) (h f b : ℕ) (task : Task) → (f ≡ a → ⊥) → D.task f ≡ Some task → covers f task.span b ≡ true → is_listed D b h ≡ false
      → nat_le 1 (listing_code (listings_after_finish a sends D.listed b h)) ≡ false
  granted_elsewhere a t is Sends.Nothing h f b task other stands covered old = old
  granted_elsewhere a t is (Sends.One o) h f b task other stands covered old =
      relisted_as (a ∷ []) o.host _ D.listed b h (nat_le 1)
      (λ same there. absurd (other (known.kept.tasks.apart f a b task t stands is covered (subst (λ x. covers a t.span x ≡ true) (sym (only_one b a there)) (covers_first a t.span))))) old
  granted_elsewhere a t is (Sends.Two o p) h f b task other stands covered old =
      relisted_as (a ∷ []) o.host _ D.listed b h (nat_le 1)
      (λ same there. absurd (other (known.kept.tasks.apart f a b task t stands is covered (subst (λ x. covers a t.span x ≡ true) (sym (only_one b a there)) (covers_first a t.span))))) old

  finish_step : (a : ℕ) (sends : Sends) → FinishRow setup a sends mine → AreUnlisted setup asked (directory_after_finish setup a sends D)
  finish_step a sends row h f q task ask stands evicts b covered none = by_line (f == a) refl stands
    where
      by_line : (here : Bool) → (f == a) ≡ here → cond here None (D.task f) ≡ Some task → nat_le 1 (listing_code (listings_after_finish a sends D.listed b h)) ≡ false
      by_line true is e = absurd (none-some task e)
      by_line false is e =
          granted_elsewhere a row.t row.task sends h f b task (λ same. false≢true (sym is ∙ eq-eqb f a same)) e covered (inv h f q task ask e evicts b covered none)

  take_step : (k : ℕ) (m : Message) (sends : Sends) → DeviceRow setup (Cause.Take k m) sends mine → AreUnlisted setup (λ g a. sent_snoop_after g a (Cause.Take k m) sends (asked g a)) (directory_after setup (Cause.Take k m) sends mine D)
  take_step k (Message.Req _ _ _ _ _) sends row = λ h f q task ask. inv h f q task (same_ask (k == h) (asked h f) q ask)
  take_step k (Message.MemWr _ _ _ _ _) sends row = λ h f q task ask. inv h f q task (same_ask (k == h) (asked h f) q ask)
  take_step k (Message.BiConflict _) sends row = λ h f q task ask. inv h f q task (same_ask (k == h) (asked h f) q ask)
  take_step k (Message.BiRsp op bitag low) sends row = answer_step op k bitag.0 low row
  take_step k (Message.Ndr _ _) sends row = λ h f q task ask. inv h f q task (same_ask (k == h) (asked h f) q ask)
  take_step k (Message.MemData _ _) sends row = λ h f q task ask. inv h f q task (same_ask (k == h) (asked h f) q ask)
  take_step k (Message.BiSnp _ _ _ _) sends row = λ h f q task ask. inv h f q task (same_ask (k == h) (asked h f) q ask)
  take_step k (Message.Credit _) sends row = λ h f q task ask. inv h f q task (same_ask (k == h) (asked h f) q ask)

  pub answered_step : (cause : Cause) (sends : Sends) → cause_fits setup device cause ≡ true → DeviceRow setup cause sends mine → AreUnlisted setup (λ g a. sent_snoop_after g a cause sends (asked g a)) (directory_after setup cause sends mine D)
  answered_step (Cause.Op s i op) sends fits row = inv
  answered_step (Cause.Take k m) sends fits row = take_step k m sends row
  answered_step (Cause.Act (Act.Conflict _)) sends fits row = inv
  answered_step (Cause.Act (Act.WriteBack _)) sends fits row = inv
  answered_step (Cause.Act (Act.Answer _)) sends fits row = inv
  answered_step (Cause.Act (Act.AnswerBlock _)) sends fits row = inv
  answered_step (Cause.Act (Act.HostReturn _)) sends fits row = inv
  answered_step (Cause.Act (Act.Serve k tag)) sends fits row = serve_step k (and_parts (is_device device) (is_host setup k) (and_parts (is_device device && is_host setup k) (write_tag_exists setup tag) fits).0).1 tag.0 (message_with tag.0 (buffered_writes k mine)) refl
  answered_step (Cause.Act (Act.Clean k tag)) sends fits row = clean_step k (option_and_then line_in (message_with tag.0 (buffered_requests k mine)))
  answered_step (Cause.Act (Act.Start k tag)) sends fits row = start_step k (message_with tag.0 (buffered_requests k mine))
  answered_step (Cause.Act (Act.Evict k tag)) sends fits row = evict_step k tag (victim_block D) refl
  answered_step (Cause.Act (Act.Snoop k line)) sends fits row = snoop_step k line.0 sends row
  answered_step (Cause.Act (Act.Finish line)) sends fits row = finish_step line.0 sends row
  answered_step (Cause.Act (Act.DeviceReturn _ _)) sends fits row = inv

-- after every run
pub are_unlisted :
    (setup : Configuration) (opening : List (Line × Bytes64)) → ((t : List Event) → IsRun setup opening t → DeviceKnown setup (events_of device t)) → (t : List Event) → IsRun setup opening t
    → AreUnlisted setup (λ g a. sent_snoop_at g a (events_of device t)) (directory setup (events_of device t))
are_unlisted setup opening known [] run = λ h f q task ask. absurd (none-some q ask)
are_unlisted setup opening known (e ∷ past) run =
    let runs = and_parts (is_run setup opening past) (is_allowed setup opening past e) run in
    by_agent setup opening e past (allowed_parts setup opening past e runs.1) (known past runs.0) (are_unlisted setup opening known past runs.0) (e.agent == device) refl
  where
    by_agent : (setup : Configuration) (opening : List (Line × Bytes64)) (e : Event) (past : List Event) → AllowedParts setup opening past e → DeviceKnown setup (events_of device past) → AreUnlisted setup (λ g a. sent_snoop_at g a (events_of device past)) (directory setup (events_of device past))
        → (own : Bool) → (e.agent == device) ≡ own → AreUnlisted setup (λ g a. sent_snoop_at g a (events_of device (e ∷ past))) (directory setup (events_of device (e ∷ past)))
    by_agent setup opening e past parts known inv true is =
        let same = eqb-true e.agent device is in
        let fits = subst (λ g. cause_fits setup g e.cause ≡ true) same parts.profile.cause in
        let bare = sym (whole_row setup opening device e.cause (events_of device past) refl) ∙ subst (λ g. row_emission setup opening g e.cause (events_of g past) ≡ Some parts.row.w) same parts.row.row in
        subst (λ mine. AreUnlisted setup (λ g a. sent_snoop_at g a mine) (directory setup mine)) (own_events device e past is)
        (answered_step setup (events_of device past) known inv e.cause e.sends fits (device_row setup opening e.cause e.sends (events_of device past) parts.row.w fits bare parts.row.sends))
    by_agent setup opening e past parts known inv false is = subst (λ mine. AreUnlisted setup (λ g a. sent_snoop_at g a mine) (directory setup mine)) (other_events device e past is) inv
