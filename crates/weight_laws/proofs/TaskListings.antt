-- What an answer, a served message or a clean does to the weight of the tasks: no more hosts are to be asked.
use Rattle.std.proofs.Common.{◌≡◌, ℕ, ◌+◌, ◌≤◌, Bool, true, false, IsTrue, List, [], ◌∷◌, Option, Some, None, cond, sum_by, refl, sym, ◌∙◌, ap, subst, arith}
use Rattle.std.specs.Prelude.{is_some, nat_le, not, option_and_then, ◌&&◌, ◌==◌, ◌||◌}
use Rattle.std.specs.List.{list_any}
use Rattle.std.proofs.lemmas.Bool.{and_parts, eq-eqb, false≢true}
use Rattle.std.proofs.lemmas.Option.{same_Some}
use Rattle.cxl_message.specs.declared.events.Event.{Event}
use Rattle.cxl_message.specs.declared.identifiers.Line.{Line}
use Rattle.cxl_message.specs.declared.identifiers.Tag.{Tag}
use Rattle.cxl_message.specs.declared.identifiers.Bytes64.{Bytes64}
use Rattle.cxl_message.specs.declared.messages.Message.{Message}
use Rattle.cxl_message.specs.declared.opcodes.Meta.{Meta}
use Rattle.cxl_message.specs.declared.opcodes.RspOp.{RspOp}
use Rattle.cxl_message.specs.declared.opcodes.SnpType.{SnpType}
use Rattle.cxl_message.specs.declared.opcodes.Span.{Span}
use Rattle.cxl_message.specs.declared.states.Listing.{Listing}
use Rattle.cxl_message.specs.Codes.{listing_code}
use Rattle.cxl_message.specs.Lists.{below, is_in}
use Rattle.cxl_message.specs.Setup.{Configuration}
use Rattle.cxl_message.specs.Spans.{covers}
use Rattle.coherence_model.specs.Buffers.{buffered_writes, message_with}
use Rattle.coherence_model.specs.Copies.{is_shared_meta}
use Rattle.coherence_model.specs.DeviceActs.{snoop_op}
use Rattle.coherence_model.specs.Directory.{Directory, has_entry, is_to_ask}
use Rattle.coherence_model.specs.DirectoryChanges.{answered_lines, directory, directory_after_clean, directory_after_serve, listing_after_response, listing_after_write, with_listed}
use Rattle.coherence_model.specs.Fitting.{is_host}
use Rattle.coherence_model.specs.HostActs.{is_data_snoop}
use Rattle.coherence_model.specs.Snoops.{invalidates_block}
use Rattle.coherence_model.specs.SentSnoops.{SentSnoop, sent_snoop_at, snoop_after_response}
use Rattle.coherence_model.specs.Tasks.{Purpose, Task}
use Rattle.entry_laws.proofs.DeviceRows.{TakenAnswer}
use Rattle.weight_laws.proofs.Answered.{AreUnlisted}
use Rattle.weight_laws.proofs.Listings.{DeviceKnown, only_one, relisted_passes}
use Rattle.weight_laws.proofs.SharedRuns.{data_purpose}
use Rattle.weight_laws.proofs.Sums.{below_le}
use Rattle.weight_laws.proofs.TaskWeights.{to_ask_less, weight_less, weight_of}

-- the weight of all tasks, by a directory and the hosts that are Asked
abbrev pub tasks_weight : Configuration → Directory → (ℕ → ℕ → Bool) → ℕ
tasks_weight setup D asked = sum_by (λ a. weight_of setup D asked a (D.task a)) (below setup.lines)

-- a snoop that takes all copies away is no BISnpData, and of one line no BISnpInvBlk
pub one_no_block : (p : Purpose) → invalidates_block (snoop_op p Span.One) ≡ false
one_no_block Purpose.SharedRead = refl
one_no_block Purpose.OwningRead = refl
one_no_block Purpose.Invalidation = refl
one_no_block Purpose.Eviction = refl

pub none_of : (p : ℕ → Bool) (xs : List ℕ) → ((x : ℕ) → is_in x xs ≡ true → p x ≡ false) → list_any p xs ≡ false
none_of p [] none = refl
none_of p (x ∷ xs) none = ap (λ b. b || list_any p xs) (none x (ap (λ b. b || is_in x xs) (eq-eqb x x refl))) ∙ none_of p xs (λ y there. none y (in_rest y there))
  where
    in_rest : (y : ℕ) → is_in y xs ≡ true → is_in y (x ∷ xs) ≡ true
    in_rest y there = either (y == x) there
      where
        either : (b : Bool) {c : Bool} → c ≡ true → (b || c) ≡ true
        either true e = refl
        either false e = e

module _ (setup : Configuration) (mine : List Event) (known : DeviceKnown setup mine) (unlisted : AreUnlisted setup (λ g a. sent_snoop_at g a mine) (directory setup mine)) where
  abbrev D : Directory
  D = directory setup mine

  abbrev asked : ℕ → ℕ → Bool
  asked g a = is_some (sent_snoop_at g a mine)

  -- with the same tasks and hosts Asked, listings by which no more hosts are to be asked
  pub relisted_weighs : (lines : List ℕ) (k : ℕ) (l : Listing) → ((listing_code l == 2) ≡ false)
      → ((a : ℕ) (t : Task) → D.task a ≡ Some t → (t.purpose ≡ Purpose.SharedRead → ⊥) → (b : ℕ) → covers a t.span b ≡ true → is_in b lines ≡ true → nat_le 1 (listing_code l) ≡ true → ⊥)
      → (asked' : ℕ → ℕ → Bool) → ((a : ℕ) (t : Task) → D.task a ≡ Some t → (g : ℕ) → (is_to_ask t.purpose (with_listed setup lines k l D) a t g && not (asked' g a)) ≡ true → is_to_ask t.purpose D a t g ≡ true → (is_to_ask t.purpose D a t g && not (asked g a)) ≡ true)
      → tasks_weight setup (with_listed setup lines k l D) asked' ≤ tasks_weight setup D asked
  relisted_weighs lines k l low never asked' still =
      below_le (λ a. weight_of setup (with_listed setup lines k l D) asked' a (D.task a)) (λ a. weight_of setup D asked a (D.task a)) setup.lines
      (λ a less. weight_less setup D (with_listed setup lines k l D) asked asked' a (D.task a) refl
      (λ t is g below ask. still a t is g ask
      (to_ask_less t.purpose D (with_listed setup lines k l D) a t g
      (λ any. relisted_passes lines k l D.listed a g (λ n. n == 2) (λ same there passes. false≢true (sym low ∙ passes)) any)
      (λ other b covered listed. relisted_passes lines k l D.listed b g (nat_le 1) (λ same there passes. never a t is other b covered there passes) listed)
      (and_parts (is_to_ask t.purpose (with_listed setup lines k l D) a t g) (not (asked' g a)) ask).0)))

  same_asked : (a : ℕ) (t : Task) (g : ℕ) (D' : Directory) → (is_to_ask t.purpose D' a t g && not (asked g a)) ≡ true → is_to_ask t.purpose D a t g ≡ true → (is_to_ask t.purpose D a t g && not (asked g a)) ≡ true
  same_asked a t g D' ask old = both (is_to_ask t.purpose D a t g) (not (asked g a)) old (and_parts (is_to_ask t.purpose D' a t g) (not (asked g a)) ask).1
    where
      both : (x y : Bool) → x ≡ true → y ≡ true → (x && y) ≡ true
      both true y e f = f
      both false y e f = e

  -- a clean
  pub clean_weighs : (k : ℕ) (found : Option ℕ) → tasks_weight setup (directory_after_clean setup k found D) asked ≤ tasks_weight setup D asked
  clean_weighs k None = omega arith
  clean_weighs k (Some a) =
      relisted_weighs (a ∷ []) k Listing.I refl (λ b t is other c covered there passes. false≢true passes) asked (λ b t is g ask old. same_asked b t g (with_listed setup (a ∷ []) k Listing.I D) ask old)

  -- a served message
  low_listing : (meta : Meta) (has : Bool) → (listing_code (listing_after_write meta has) == 2) ≡ false
  low_listing meta has = by_test (is_shared_meta meta && has)
    where
      by_test : (b : Bool) → (listing_code (cond b Listing.S Listing.I) == 2) ≡ false
      by_test true = refl
      by_test false = refl

  shared_listing : (shared has : Bool) → nat_le 1 (listing_code (cond (shared && has) Listing.S Listing.I)) ≡ true → shared ≡ true
  shared_listing true has h = refl
  shared_listing false has h = absurd (false≢true h)

  serve_found : (k : ℕ) → IsTrue (is_host setup k) → (tag : ℕ) (meta : Meta) (snp : SnpType) (own : Tag) (line : Line) (bytes : Bytes64) → message_with tag (buffered_writes k mine) ≡ Some (Message.MemWr meta snp own line bytes)
      → tasks_weight setup (with_listed setup (line.0 ∷ []) k (listing_after_write meta (has_entry setup D line.0)) D) asked ≤ tasks_weight setup D asked
  serve_found k host tag meta snp own line bytes is =
      relisted_weighs (line.0 ∷ []) k (listing_after_write meta (has_entry setup D line.0)) (low_listing meta (has_entry setup D line.0))
      (λ a t stands other b covered there passes.
      let serves = known.shared k host tag meta snp own line bytes is (shared_listing (is_shared_meta meta) (has_entry setup D line.0) passes) in
      let one_line = known.kept.tasks.apart a serves.first b t serves.task stands serves.stands covered (subst (λ x. covers serves.first serves.task.span x ≡ true) (sym (only_one b line.0 there)) serves.covered) in
      let one = same_Some serves.task t (sym serves.stands ∙ ap D.task (sym one_line) ∙ stands) in
      other (ap (λ (x : Task). x.purpose) (sym one) ∙ serves.purpose))
      asked (λ a t stands g ask old. same_asked a t g (with_listed setup (line.0 ∷ []) k (listing_after_write meta (has_entry setup D line.0)) D) ask old)

  pub serve_weighs : (k : ℕ) → IsTrue (is_host setup k) → (tag : ℕ) (found : Option Message) → message_with tag (buffered_writes k mine) ≡ found → tasks_weight setup (directory_after_serve setup k found D) asked ≤ tasks_weight setup D asked
  serve_weighs k host tag None is = omega arith
  serve_weighs k host tag (Some (Message.Req _ _ _ _ _)) is = omega arith
  serve_weighs k host tag (Some (Message.MemWr meta snp own line bytes)) is = serve_found k host tag meta snp own line bytes is
  serve_weighs k host tag (Some (Message.BiConflict _)) is = omega arith
  serve_weighs k host tag (Some (Message.BiRsp _ _ _)) is = omega arith
  serve_weighs k host tag (Some (Message.Ndr _ _)) is = omega arith
  serve_weighs k host tag (Some (Message.MemData _ _)) is = omega arith
  serve_weighs k host tag (Some (Message.BiSnp _ _ _ _)) is = omega arith
  serve_weighs k host tag (Some (Message.Credit _)) is = omega arith

  -- ---- answers

  abbrev pub left_asking : RspOp → ℕ → ℕ → ℕ → ℕ → ℕ → Option SentSnoop
  left_asking op k first low g a = cond (k == g) (cond (first == a) (option_and_then (snoop_after_response op (a + low)) (sent_snoop_at g a mine)) (sent_snoop_at g a mine)) (sent_snoop_at g a mine)

  pub low_response : (op : RspOp) → (listing_code (listing_after_response op) == 2) ≡ false
  low_response RspOp.I = refl
  low_response RspOp.S = refl
  low_response RspOp.E = refl
  low_response RspOp.IBlk = refl
  low_response RspOp.SBlk = refl
  low_response RspOp.EBlk = refl

  -- a line that is listed S by an answer is that of a shared read
  pub answer_never : (op : RspOp) (k first low : ℕ) (row : TakenAnswer op k first (first + low) mine) (a : ℕ) (t : Task) → D.task a ≡ Some t → (t.purpose ≡ Purpose.SharedRead → ⊥) → (b : ℕ) → covers a t.span b ≡ true
      → is_in b (answered_lines op k first (first + low) mine) ≡ true → nat_le 1 (listing_code (listing_after_response op)) ≡ true → ⊥
  answer_never RspOp.I k first low row a t is other b covered there passes = false≢true passes
  answer_never RspOp.S k first low row a t is other b covered there passes =
      let parts = and_parts _ _ row.answers in
      let of = known.kept.snoops k first row.q row.asked in
      let own = subst (λ x. covers first of.t.span x ≡ true) (sym (only_one b (first + low) there)) (of.within (first + low) parts.0) in
      let line = known.kept.tasks.apart a first b t of.t is of.is covered own in
      let one = same_Some of.t t (sym of.is ∙ ap D.task (sym line) ∙ is) in
      other (data_purpose t.purpose t.span (ap (λ (x : Task). is_data_snoop (snoop_op x.purpose x.span)) (sym one) ∙ ap is_data_snoop (sym of.op) ∙ parts.1))
  answer_never RspOp.E k first low row a t is other b covered there passes = false≢true row.answers
  answer_never RspOp.IBlk k first low row a t is other b covered there passes = false≢true passes
  answer_never RspOp.SBlk k first low row a t is other b covered there passes = false≢true row.answers
  answer_never RspOp.EBlk k first low row a t is other b covered there passes = false≢true row.answers
