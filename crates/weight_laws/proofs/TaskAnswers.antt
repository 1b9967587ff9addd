-- A host whose last answer to a task was taken isn't to be asked by it any more, so an answer raises the weight of no task.
use Rattle.std.proofs.Common.{◌≡◌, ℕ, ◌+◌, ◌≤◌, Bool, true, false, List, [], ◌∷◌, Some, cond, refl, sym, ◌∙◌, ap, subst, inl, inr}
use Rattle.std.specs.Prelude.{is_some, nat_le, not, option_and_then, ◌&&◌, ◌==◌, ◌||◌}
use Rattle.std.specs.List.{list_any}
use Rattle.std.specs.Option.{option_map_or}
use Rattle.std.proofs.lemmas.Bool.{and_parts, cases_Bool, cond-false, cond-true, eq-eqb, eqb-true, false≢true, false_from_ne_true, not-true}
use Rattle.std.proofs.lemmas.Option.{same_Some}
use Rattle.cxl_message.specs.declared.events.Event.{Event}
use Rattle.cxl_message.specs.declared.opcodes.RspOp.{RspOp}
use Rattle.cxl_message.specs.declared.states.Listing.{Listing}
use Rattle.cxl_message.specs.Codes.{listing_code}
use Rattle.cxl_message.specs.Lists.{is_in, without}
use Rattle.cxl_message.specs.Setup.{Configuration}
use Rattle.cxl_message.specs.Spans.{covers, lines_of}
use Rattle.coherence_model.specs.DeviceActs.{snoop_op}
use Rattle.coherence_model.specs.Directory.{Directory, is_listed, is_to_ask}
use Rattle.coherence_model.specs.DirectoryChanges.{answered_lines, directory, listing_after_response, with_listed}
use Rattle.coherence_model.specs.HostActs.{is_data_snoop}
use Rattle.coherence_model.specs.SentSnoops.{SentSnoop, sent_snoop_at, snoop_after_response, still_asking, unanswered_lines}
use Rattle.coherence_model.specs.Snoops.{invalidates_block}
use Rattle.coherence_model.specs.Tasks.{Purpose, Task, is_eviction}
use Rattle.entry_laws.proofs.Blocks.{covers_listed, covers_one}
use Rattle.entry_laws.proofs.DeviceRows.{TakenAnswer}
use Rattle.weight_laws.proofs.Answered.{AreUnlisted}
use Rattle.weight_laws.proofs.Listings.{DeviceKnown}
use Rattle.weight_laws.proofs.SharedRuns.{data_purpose}
use Rattle.weight_laws.proofs.Sums.{in_without}
use Rattle.weight_laws.proofs.TaskListings.{answer_never, left_asking, low_response, none_of, one_no_block, relisted_weighs, tasks_weight}

-- nothing is left
left_none : (q : SentSnoop) (zs : List ℕ) → is_some (still_asking q zs) ≡ false → zs ≡ []
left_none q [] e = refl
left_none q (z ∷ zs) e = absurd (false≢true (sym e))

listed_false : (x y : Bool) → y ≡ false → (x && y) ≡ false
listed_false true y e = e
listed_false false y e = refl

module _ (setup : Configuration) (mine : List Event) (known : DeviceKnown setup mine) (unlisted : AreUnlisted setup (λ g a. sent_snoop_at g a mine) (directory setup mine)) where
  abbrev D : Directory
  D = directory setup mine

  -- the directory after an answer of host k
  abbrev After : List ℕ → ℕ → Listing → Directory
  After lines k l = with_listed setup lines k l D

  -- a line that is answered
  answered_line : (lines : List ℕ) (k : ℕ) (l : Listing) (b : ℕ) → is_in b lines ≡ true → (After lines k l).listed b k ≡ l
  answered_line lines k l b there = ap (λ x. cond (x && is_in b lines) l (D.listed b k)) (eq-eqb k k refl) ∙ ap (λ x. cond x l (D.listed b k)) there

  other_line : (lines : List ℕ) (k : ℕ) (l : Listing) (b : ℕ) → is_in b lines ≡ false → (After lines k l).listed b k ≡ D.listed b k
  other_line lines k l b none = ap (λ x. cond (x && is_in b lines) l (D.listed b k)) (eq-eqb k k refl) ∙ ap (λ x. cond x l (D.listed b k)) none

  -- no line of an evicted block lists the host
  block_unlisted : (lines : List ℕ) (k f : ℕ) (q : SentSnoop) (t : Task) → sent_snoop_at k f mine ≡ Some q → D.task f ≡ Some t → is_eviction t.purpose ≡ true
      → ((b : ℕ) → is_in b lines ≡ false → is_in b q.unanswered ≡ false) → list_any (λ b. is_listed (After lines k Listing.I) b k) (lines_of f t.span) ≡ false
  block_unlisted lines k f q t is stands evicts rest =
      none_of (λ b. is_listed (After lines k Listing.I) b k) (lines_of f t.span) (λ b there. by_line b (covers_listed f t.span b there) (is_in b lines) refl)
    where
      by_line : (b : ℕ) → covers f t.span b ≡ true → (here : Bool) → is_in b lines ≡ here → is_listed (After lines k Listing.I) b k ≡ false
      by_line b covered true here = ap (λ l. nat_le 1 (listing_code l)) (answered_line lines k Listing.I b here)
      by_line b covered false here = ap (λ l. nat_le 1 (listing_code l)) (other_line lines k Listing.I b here) ∙ unlisted k f q t is stands evicts b covered (rest b here)

  -- a request's task asks for its own line alone
  own_line : (k f x : ℕ) (q : SentSnoop) (t : Task) → sent_snoop_at k f mine ≡ Some q → D.task f ≡ Some t → is_eviction t.purpose ≡ false → is_in x q.unanswered ≡ true → f ≡ x
  own_line k f x q t is stands request there =
      let of = known.kept.snoops k f q is in
      let one = same_Some of.t t (sym of.is ∙ stands) in
      let covered = subst (λ (y : Task). covers f y.span x ≡ true) one (of.within x there) in
      covers_one f x (subst (λ s. covers f s x ≡ true) ((known.named f t stands).2 request) covered)

  -- after BIRspI for the last line
  invalid_settled : (k f x : ℕ) (q : SentSnoop) (t : Task) → sent_snoop_at k f mine ≡ Some q → D.task f ≡ Some t → is_in x q.unanswered ≡ true → without x q.unanswered ≡ [] → (p : Purpose) → p ≡ t.purpose → is_to_ask p (After (x ∷ []) k Listing.I) f t k ≡ false
  invalid_settled k f x q t is stands there gone Purpose.SharedRead p =
      let line = own_line k f x q t is stands (ap is_eviction (sym p)) there in
      listed_false (not (t.host == k)) _ (ap (λ l. listing_code l == 2) (answered_line (x ∷ []) k Listing.I f (ap (λ b. b || false) (eq-eqb f x line))))
  invalid_settled k f x q t is stands there gone Purpose.OwningRead p =
      let line = own_line k f x q t is stands (ap is_eviction (sym p)) there in
      listed_false (not (t.host == k)) _ (ap (λ l. nat_le 1 (listing_code l)) (answered_line (x ∷ []) k Listing.I f (ap (λ b. b || false) (eq-eqb f x line))))
  invalid_settled k f x q t is stands there gone Purpose.Invalidation p =
      let line = own_line k f x q t is stands (ap is_eviction (sym p)) there in
      listed_false (not (t.host == k)) _ (ap (λ l. nat_le 1 (listing_code l)) (answered_line (x ∷ []) k Listing.I f (ap (λ b. b || false) (eq-eqb f x line))))
  invalid_settled k f x q t is stands there gone Purpose.Eviction p =
      block_unlisted (x ∷ []) k f q t is stands (ap is_eviction (sym p)) (λ b other. false_from_ne_true (is_in b q.unanswered) (λ left. false≢true (sym (ap (is_in b) gone) ∙ in_without b x q.unanswered left (apart b other))))
    where
      apart : (b : ℕ) → is_in b (x ∷ []) ≡ false → (b == x) ≡ false
      apart b other = false_from_ne_true (b == x) (λ same. false≢true (sym other ∙ ap (λ y. y || false) same))

  -- after BIRspS
  shared_settled : (k f x : ℕ) (q : SentSnoop) (t : Task) → sent_snoop_at k f mine ≡ Some q → D.task f ≡ Some t → is_in x q.unanswered ≡ true → t.purpose ≡ Purpose.SharedRead → (p : Purpose) → p ≡ t.purpose → is_to_ask p (After (x ∷ []) k Listing.S) f t k ≡ false
  shared_settled k f x q t is stands there reads Purpose.SharedRead p =
      let line = own_line k f x q t is stands (ap is_eviction (sym p)) there in
      listed_false (not (t.host == k)) _ (ap (λ l. listing_code l == 2) (answered_line (x ∷ []) k Listing.S f (ap (λ b. b || false) (eq-eqb f x line))))
  shared_settled k f x q t is stands there reads Purpose.OwningRead p = let e = p ∙ reads in cc
  shared_settled k f x q t is stands there reads Purpose.Invalidation p = let e = p ∙ reads in cc
  shared_settled k f x q t is stands there reads Purpose.Eviction p = let e = p ∙ reads in cc

  -- a snoop for a request is no BISnpInvBlk
  no_request : (k f : ℕ) (q : SentSnoop) (t : Task) → sent_snoop_at k f mine ≡ Some q → D.task f ≡ Some t → invalidates_block q.op ≡ true → is_eviction t.purpose ≡ false → ⊥
  no_request k f q t is stands block request =
      let of = known.kept.snoops k f q is in
      let one = same_Some of.t t (sym of.is ∙ stands) in
      false≢true (sym (one_no_block t.purpose) ∙ ap (λ s. invalidates_block (snoop_op t.purpose s)) (sym ((known.named f t stands).2 request))
      ∙ ap (λ (y : Task). invalidates_block (snoop_op y.purpose y.span)) (sym one) ∙ ap invalidates_block (sym of.op) ∙ block)

  -- after BIRspIBlk
  whole_settled : (k f : ℕ) (q : SentSnoop) (t : Task) → sent_snoop_at k f mine ≡ Some q → D.task f ≡ Some t → invalidates_block q.op ≡ true → (p : Purpose) → p ≡ t.purpose → is_to_ask p (After (unanswered_lines k f mine) k Listing.I) f t k ≡ false
  whole_settled k f q t is stands block Purpose.SharedRead p = absurd (no_request k f q t is stands block (ap is_eviction (sym p)))
  whole_settled k f q t is stands block Purpose.OwningRead p = absurd (no_request k f q t is stands block (ap is_eviction (sym p)))
  whole_settled k f q t is stands block Purpose.Invalidation p = absurd (no_request k f q t is stands block (ap is_eviction (sym p)))
  whole_settled k f q t is stands block Purpose.Eviction p =
      block_unlisted (unanswered_lines k f mine) k f q t is stands (ap is_eviction (sym p)) (λ b other. sym (ap (λ x. is_in b (option_map_or (λ (r : SentSnoop). r.unanswered) x [])) is) ∙ other)

  -- a host that isn't Asked any more isn't to be asked
  settled : (op : RspOp) (k f low : ℕ) (row : TakenAnswer op k f (f + low) mine) (t : Task) → D.task f ≡ Some t → is_some (option_and_then (snoop_after_response op (f + low)) (sent_snoop_at k f mine)) ≡ false
      → is_to_ask t.purpose (After (answered_lines op k f (f + low) mine) k (listing_after_response op)) f t k ≡ false
  settled RspOp.I k f low row t stands gone =
      invalid_settled k f (f + low) row.q t row.asked stands row.answers (left_none row.q (without (f + low) row.q.unanswered) (sym (ap (λ x. is_some (option_and_then (snoop_after_response RspOp.I (f + low)) x)) row.asked) ∙ gone)) t.purpose refl
  settled RspOp.S k f low row t stands gone =
      let parts = and_parts _ _ row.answers in
      let of = known.kept.snoops k f row.q row.asked in
      let one = same_Some of.t t (sym of.is ∙ stands) in
      shared_settled k f (f + low) row.q t row.asked stands parts.0
      (data_purpose t.purpose t.span (ap (λ (x : Task). is_data_snoop (snoop_op x.purpose x.span)) (sym one) ∙ ap is_data_snoop (sym of.op) ∙ parts.1)) t.purpose refl
  settled RspOp.E k f low row t stands gone = absurd (false≢true row.answers)
  settled RspOp.IBlk k f low row t stands gone = whole_settled k f row.q t row.asked stands (and_parts _ _ row.answers).0 t.purpose refl
  settled RspOp.SBlk k f low row t stands gone = absurd (false≢true row.answers)
  settled RspOp.EBlk k f low row t stands gone = absurd (false≢true row.answers)

  -- who is still to be asked after an answer was to be asked before
  still_asked : (op : RspOp) (k first low : ℕ) (row : TakenAnswer op k first (first + low) mine) (a : ℕ) (t : Task) → D.task a ≡ Some t → (g : ℕ)
      → (is_to_ask t.purpose (After (answered_lines op k first (first + low) mine) k (listing_after_response op)) a t g && not (is_some (left_asking setup mine known unlisted op k first low g a))) ≡ true
      → is_to_ask t.purpose D a t g ≡ true → (is_to_ask t.purpose D a t g && not (is_some (sent_snoop_at g a mine))) ≡ true
  still_asked op k first low row a t is g ask old =
      let parts = and_parts (is_to_ask t.purpose (After (answered_lines op k first (first + low) mine) k (listing_after_response op)) a t g) (not (is_some (left_asking setup mine known unlisted op k first low g a))) ask in
      let free = not-true (is_some (left_asking setup mine known unlisted op k first low g a)) parts.1 in
      elim (cases_Bool (k == g)) [
        | inr foreign ↦ both (is_to_ask t.purpose D a t g) (is_some (sent_snoop_at g a mine)) old (sym (ap is_some (cond-false (k == g) _ (sent_snoop_at g a mine) foreign)) ∙ free)
        | inl own ↦
            let inner = sym (ap is_some (cond-true (k == g) (cond (first == a) (option_and_then (snoop_after_response op (a + low)) (sent_snoop_at g a mine)) (sent_snoop_at g a mine)) (sent_snoop_at g a mine) own)) ∙ free in
            elim (cases_Bool (first == a)) [
              | inr elsewhere ↦ both (is_to_ask t.purpose D a t g) (is_some (sent_snoop_at g a mine)) old (sym (ap is_some (cond-false (first == a) (option_and_then (snoop_after_response op (a + low)) (sent_snoop_at g a mine)) (sent_snoop_at g a mine) elsewhere)) ∙ inner)
              | inl here ↦
                  let gone = sym (ap is_some (cond-true (first == a) (option_and_then (snoop_after_response op (a + low)) (sent_snoop_at g a mine)) (sent_snoop_at g a mine) here)) ∙ inner in
                  absurd (false≢true (sym (own_settled op k first low row a g (eqb-true first a here) (eqb-true k g own) t is gone) ∙ parts.0))
            ]
      ]
    where
      both : (x y : Bool) → x ≡ true → y ≡ false → (x && not y) ≡ true
      both true true e f = absurd (false≢true (sym f))
      both true false e f = refl
      both false y e f = absurd (false≢true e)

      own_settled : (op : RspOp) (k first low : ℕ) (row : TakenAnswer op k first (first + low) mine) (a g : ℕ) → first ≡ a → k ≡ g → (t : Task) → D.task a ≡ Some t → is_some (option_and_then (snoop_after_response op (a + low)) (sent_snoop_at g a mine)) ≡ false
          → is_to_ask t.purpose (After (answered_lines op k first (first + low) mine) k (listing_after_response op)) a t g ≡ false
      own_settled op k first low row a g line host t is gone =
          subst (λ x. is_to_ask t.purpose (After (answered_lines op k first (first + low) mine) k (listing_after_response op)) x t g ≡ false) line
          (subst (λ x. is_to_ask t.purpose (After (answered_lines op k first (first + low) mine) k (listing_after_response op)) first t x ≡ false) host
          (settled op k first low row t (subst (λ x. D.task x ≡ Some t) (sym line) is)
          (subst (λ x. is_some (option_and_then (snoop_after_response op (x + low)) (sent_snoop_at k x mine)) ≡ false) (sym line) (subst (λ x. is_some (option_and_then (snoop_after_response op (a + low)) (sent_snoop_at x a mine)) ≡ false) (sym host) gone))))

  -- an answer
  pub answer_weighs : (op : RspOp) (k first low : ℕ) → TakenAnswer op k first (first + low) mine
      → tasks_weight setup (After (answered_lines op k first (first + low) mine) k (listing_after_response op)) (λ g a. is_some (left_asking setup mine known unlisted op k first low g a)) ≤ tasks_weight setup D (λ g a. is_some (sent_snoop_at g a mine))
  answer_weighs op k first low row =
      relisted_weighs setup mine known unlisted (answered_lines op k first (first + low) mine) k (listing_after_response op) (low_response setup mine known unlisted op) (answer_never setup mine known unlisted op k first low row)
      (λ g a. is_some (left_asking setup mine known unlisted op k first low g a)) (still_asked op k first low row)
