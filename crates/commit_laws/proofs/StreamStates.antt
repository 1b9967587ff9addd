-- A stream waits exactly where a request of its last operation is open: what operations, takes and acts do to that, over any functions that say what is open, which streams wait and how many operations each began.
use Rattle.std.proofs.Common.{◌≡◌, ℕ, ◌+◌, ◌⊎◌, Bool, true, false, cond, Option, Some, None, refl, ap, sym, subst, ◌∙◌, arith, inl, inr}
use Rattle.std.specs.Prelude.{if◌then◌else◌, not, option_and_then, ◌==◌, ◌&&◌, ◌||◌}
use Rattle.std.specs.Option.{option_or}
use Rattle.std.proofs.lemmas.Bool.{cases_Bool, eq-eqb, eqb-true, false≢true, ne_eqb}
use Rattle.std.proofs.lemmas.Option.{none-some, same_Some}
use Rattle.cxl_message.specs.declared.events.Cause.{Cause}
use Rattle.cxl_message.specs.declared.events.Commit.{Commit}
use Rattle.cxl_message.specs.declared.events.Op.{Op}
use Rattle.cxl_message.specs.declared.identifiers.Bytes64.{Bytes64}
use Rattle.cxl_message.specs.declared.messages.Message.{Message}
use Rattle.coherence_model.specs.Streams.{begins_for, commits_for}
use Rattle.coherence_model.specs.Transactions.{Kind, Transaction, is_request, open_after_take, opened}
use Rattle.request_laws.proofs.OpenLines.{after_take, opening_line}
use Rattle.commit_laws.proofs.TakenNames.{NamesKept, take_names}

-- a request of a stream is open at some line
pub record Awaited (f : ℕ → Option Transaction) (s : ℕ) : Type 0 where
  pub line : ℕ
  pub o : Transaction
  pub there : f line ≡ Some o
  pub request : is_request o.kind ≡ true
  pub stream : o.stream ≡ s

-- the stream of what is open waits, it is of the last operation begun, and that operation is one of those that P allows
pub record Expected (P : ℕ → ℕ → Op → Type 0) (waits : ℕ → Bool) (begun : ℕ → ℕ) (o : Transaction) : Type 0 where
  pub waiting : waits o.stream ≡ true
  pub index : o.index + 1 ≡ begun o.stream
  pub named : P o.stream o.index o.op

-- a stream waits exactly where a request of its last operation is open, and then one is
pub record StreamsKept (P : ℕ → ℕ → Op → Type 0) (f : ℕ → Option Transaction) (waits : ℕ → Bool) (begun : ℕ → ℕ) : Type 0 where
  pub awaited : (s : ℕ) → waits s ≡ true → Awaited f s
  pub expected : (a : ℕ) (o : Transaction) → f a ≡ Some o → is_request o.kind ≡ true → Expected P waits begun o
  pub alone : (a b : ℕ) (o p : Transaction) → f a ≡ Some o → f b ≡ Some p → is_request o.kind ≡ true → is_request p.kind ≡ true → o.stream ≡ p.stream → a ≡ b

-- which streams wait after a cause and a commit
abbrev pub after_waits : Cause → Option Commit → (ℕ → Bool) → ℕ → Bool
after_waits cause commit waits s = not (commits_for s commit) && (begins_for s cause || waits s)

-- how many operations each stream began after a cause
abbrev pub after_begun : Cause → (ℕ → ℕ) → ℕ → ℕ
after_begun cause begun s = (if begins_for s cause then 1 else 0) + begun s

-- ---- counts

-- another stream begins no more
pub not_more : (b : Bool) (i n : ℕ) → b ≡ false → i ≡ n → i ≡ cond b 1 0 + n
not_more true i n is same = absurd (false≢true (sym is))
not_more false i n is same = omega arith

-- its own stream begins one more
pub one_more_begun : (b : Bool) (i n : ℕ) → b ≡ true → i ≡ n → i + 1 ≡ cond b 1 0 + n
one_more_begun true i n is same = omega arith
one_more_begun false i n is same = absurd (false≢true is)

-- ---- nothing changes for the streams

-- the same with other functions that are equal everywhere
pub kept_as :
    (P : ℕ → ℕ → Op → Type 0) (f : ℕ → Option Transaction) (waits later : ℕ → Bool) (begun more : ℕ → ℕ) → ((s : ℕ) → later s ≡ waits s) → ((s : ℕ) → begun s ≡ more s)
    → StreamsKept P f waits begun → StreamsKept P f later more
kept_as P f waits later begun more same_waits same_begun kept = record {
  awaited = λ s w. kept.awaited s (sym (same_waits s) ∙ w);
  expected = λ a o there request.
      let e = kept.expected a o there request in
      record { waiting = same_waits o.stream ∙ e.waiting; index = e.index ∙ same_begun o.stream; named = e.named };
  alone = kept.alone;
}

-- ---- an operation that hits

-- a stream that waits after an operation that hits waited before
hit_waits : (b w : Bool) → not b && (b || w) ≡ true → w ≡ true
hit_waits true w h = absurd (false≢true h)
hit_waits false w h = h

-- a stream that waits isn't one that doesn't
other_stream : (waits : ℕ → Bool) (k s : ℕ) → waits k ≡ false → waits s ≡ true → (k == s) ≡ false
other_stream waits k s idle waiting = ne_eqb k s (λ same. false≢true (sym idle ∙ ap waits same ∙ waiting))

-- an operation that hits keeps the streams
pub hit_keeps :
    (P : ℕ → ℕ → Op → Type 0) (f : ℕ → Option Transaction) (waits : ℕ → Bool) (begun : ℕ → ℕ) (k i : ℕ) (op : Op) (v : Bytes64) → waits k ≡ false → StreamsKept P f waits begun
    → StreamsKept P f (after_waits (Cause.Op k i op) (Some (record { stream = k; index = i; op = op; value = v })) waits) (after_begun (Cause.Op k i op) begun)
hit_keeps P f waits begun k i op v idle kept = record {
  awaited = λ s w. kept.awaited s (hit_waits (k == s) (waits s) w);
  expected = λ a o there request.
      let e = kept.expected a o there request in
      let other = other_stream waits k o.stream idle e.waiting in
      record {
        waiting = ap (λ (b : Bool). not b && (b || waits o.stream)) other ∙ e.waiting;
        index = not_more (k == o.stream) (o.index + 1) (begun o.stream) other e.index;
        named = e.named;
      };
  alone = kept.alone;
}

-- ---- an operation whose request opens a line

-- what is open after one more line was opened: that, or what was open before at another line
pub record OpenedBefore (f : ℕ → Option Transaction) (l a : ℕ) (p : Transaction) : Type 0 where
  pub other : (l == a) ≡ false
  pub there : f a ≡ Some p

-- what is open after a line was opened, by cases
opened_cases :
    (f : ℕ → Option Transaction) (l : ℕ) (x : Transaction) (a : ℕ) (p : Transaction) (here : Bool) → (l == a) ≡ here → option_or (cond here (Some x) None) (f a) ≡ Some p
    → ((l ≡ a) × (x ≡ p)) ⊎ OpenedBefore f l a p
opened_cases f l x a p true is there = inl (eqb-true l a is, same_Some x p there)
opened_cases f l x a p false is there = inr (record { other = is; there = there })

-- another line has what it had
other_line : (f : ℕ → Option Transaction) (l : ℕ) (x : Transaction) (a : ℕ) (o : Transaction) → f l ≡ None → f a ≡ Some o → opening_line l x f a ≡ Some o
other_line f l x a o none there =
    ap (λ (b : Bool). option_or (cond b (Some x) None) (f a)) (ne_eqb l a (λ same. none-some o (sym none ∙ ap f same ∙ there))) ∙ there

module _ (P : ℕ → ℕ → Op → Type 0) (f : ℕ → Option Transaction) (waits : ℕ → Bool) (begun : ℕ → ℕ) (l k i : ℕ) (op : Op) (kind : Kind) (tag : ℕ)
    (none : f l ≡ None) (idle : waits k ≡ false) (order : i ≡ begun k) (named : P k i op) (request : is_request kind ≡ true) (kept : StreamsKept P f waits begun) where
  -- the request
  abbrev pub new_one : Transaction
  new_one = opened k i op kind tag

  -- the request is open for its line
  new_there : opening_line l new_one f l ≡ Some new_one
  new_there = ap (λ (b : Bool). option_or (cond b (Some new_one) None) (f l)) (eq-eqb l l refl)

  -- each stream that waits then has a request open
  request_awaited : (s : ℕ) → (k == s) || waits s ≡ true → Awaited (opening_line l new_one f) s
  request_awaited s w =
      elim (cases_Bool (k == s)) [
        | inl is ↦ record { line = l; o = new_one; there = new_there; request = request; stream = eqb-true k s is }
        | inr other ↦
            let old = kept.awaited s (sym (ap (λ (b : Bool). b || waits s) other) ∙ w) in
            record { line = old.line; o = old.o; there = other_line f l new_one old.line old.o none old.there; request = old.request; stream = old.stream }
      ]

  -- the stream of the new request waits for it
  new_expected : Expected P (after_waits (Cause.Op k i op) None waits) (after_begun (Cause.Op k i op) begun) new_one
  new_expected = record {
    waiting = ap (λ (b : Bool). b || waits k) (eq-eqb k k refl);
    index = one_more_begun (k == k) i (begun k) (eq-eqb k k refl) order;
    named = named;
  }

  -- the streams of older requests wait for theirs
  old_expected : (p : Transaction) → Expected P waits begun p → Expected P (after_waits (Cause.Op k i op) None waits) (after_begun (Cause.Op k i op) begun) p
  old_expected p e =
      let other = other_stream waits k p.stream idle e.waiting in
      record {
        waiting = ap (λ (b : Bool). b || waits p.stream) other ∙ e.waiting;
        index = not_more (k == p.stream) (p.index + 1) (begun p.stream) other e.index;
        named = e.named;
      }

  -- so do those of all
  request_expected : (a : ℕ) (p : Transaction) → opening_line l new_one f a ≡ Some p → is_request p.kind ≡ true
      → Expected P (after_waits (Cause.Op k i op) None waits) (after_begun (Cause.Op k i op) begun) p
  request_expected a p there asks =
      elim (opened_cases f l new_one a p (l == a) refl there) [
        | inl own ↦ subst (Expected P (after_waits (Cause.Op k i op) None waits) (after_begun (Cause.Op k i op) begun)) own.1 new_expected
        | inr before ↦ old_expected p (kept.expected a p before.there asks)
      ]

  -- the stream of the new request had none before
  had_none : (b : ℕ) (p : Transaction) → f b ≡ Some p → is_request p.kind ≡ true → k ≡ p.stream → ⊥
  had_none b p there asks same = false≢true (sym idle ∙ ap waits same ∙ (kept.expected b p there asks).waiting)

  -- no stream has two requests open
  request_alone : (a b : ℕ) (o p : Transaction) → opening_line l new_one f a ≡ Some o → opening_line l new_one f b ≡ Some p → is_request o.kind ≡ true → is_request p.kind ≡ true
      → o.stream ≡ p.stream → a ≡ b
  request_alone a b o p here there asks too same =
      elim (opened_cases f l new_one a o (l == a) refl here) [
        | inl own ↦
            elim (opened_cases f l new_one b p (l == b) refl there) [
              | inl own_too ↦ sym own.0 ∙ own_too.0
              | inr before ↦ absurd (had_none b p before.there too (ap (λ (y : Transaction). y.stream) own.1 ∙ same))
            ]
        | inr before ↦
            elim (opened_cases f l new_one b p (l == b) refl there) [
              | inl own ↦ absurd (had_none a o before.there asks (ap (λ (y : Transaction). y.stream) own.1 ∙ sym same))
              | inr both ↦ kept.alone a b o p before.there both.there asks too same
            ]
      ]

  -- an operation that sends its request keeps the streams
  pub request_keeps : StreamsKept P (opening_line l new_one f) (after_waits (Cause.Op k i op) None waits) (after_begun (Cause.Op k i op) begun)
  request_keeps = record { awaited = request_awaited; expected = request_expected; alone = request_alone }

-- ---- an eviction that opens a line

module _ (P : ℕ → ℕ → Op → Type 0) (f : ℕ → Option Transaction) (waits : ℕ → Bool) (begun : ℕ → ℕ) (v : ℕ) (y : Transaction) (none : f v ≡ None) (other : is_request y.kind ≡ false)
    (kept : StreamsKept P f waits begun) where
  -- each stream that waits has its request open still
  eviction_awaited : (s : ℕ) → waits s ≡ true → Awaited (opening_line v y f) s
  eviction_awaited s w =
      let old = kept.awaited s w in
      record { line = old.line; o = old.o; there = other_line f v y old.line old.o none old.there; request = old.request; stream = old.stream }

  -- a request that is open was open before
  was_there : (a : ℕ) (p : Transaction) → opening_line v y f a ≡ Some p → is_request p.kind ≡ true → f a ≡ Some p
  was_there a p there asks =
      elim (opened_cases f v y a p (v == a) refl there) [
        | inl own ↦ absurd (false≢true (sym other ∙ ap (λ (x : Transaction). is_request x.kind) own.1 ∙ asks))
        | inr before ↦ before.there
      ]

  -- the eviction of a victim keeps the streams
  pub eviction_keeps : StreamsKept P (opening_line v y f) waits begun
  eviction_keeps = record {
    awaited = eviction_awaited;
    expected = λ a p there asks. kept.expected a p (was_there a p there asks) asks;
    alone = λ a b o p here there asks too same. kept.alone a b o p (was_there a o here asks) (was_there b p there too) asks too same;
  }

-- ---- a take

-- something stays open after a take
abbrev pub Still : Message → Transaction → Type 0
Still m q = (p : Transaction) × (open_after_take m q ≡ Some p)

-- a take that fills a line: the request there is done and commits its operation, and all else stays as it was
pub record Fills (f : ℕ → Option Transaction) (m : Message) (commit : Option Commit) : Type 0 where
  pub line : ℕ
  pub o : Transaction
  pub there : f line ≡ Some o
  pub request : is_request o.kind ≡ true
  pub value : Bytes64
  pub commits : commit ≡ Some (record { stream = o.stream; index = o.index; op = o.op; value = value })
  pub gone : open_after_take m o ≡ None
  pub others : (b : ℕ) (q : Transaction) → f b ≡ Some q → (b ≡ line → ⊥) → open_after_take m q ≡ Some q

-- a take that commits nothing leaves each request open
pub record LeavesRequests (f : ℕ → Option Transaction) (m : Message) (commit : Option Commit) : Type 0 where
  pub none : commit ≡ None
  pub stays : (a : ℕ) (q : Transaction) → f a ≡ Some q → is_request q.kind ≡ true → Still m q

-- what is open after a take
abbrev pub taking : Message → (ℕ → Option Transaction) → ℕ → Option Transaction
taking m f a = option_and_then (open_after_take m) (f a)

-- a request that is open after a take was one before, by the same names
record WasOpen (f : ℕ → Option Transaction) (m : Message) (a : ℕ) (p : Transaction) : Type 0 where
  pub q : Transaction
  pub there : f a ≡ Some q
  pub stays : open_after_take m q ≡ Some p
  pub names : NamesKept q p
  pub request : is_request q.kind ≡ true

-- what is open after a take was open before
was_open : (f : ℕ → Option Transaction) (m : Message) (a : ℕ) (p : Transaction) → taking m f a ≡ Some p → is_request p.kind ≡ true → WasOpen f m a p
was_open f m a p there asks =
    let was = after_take m (f a) p there in
    let names = take_names m was.0 p was.2 in
    record { q = was.0; there = was.1; stays = was.2; names = names; request = ap is_request (sym names.kind) ∙ asks }

-- what has the same names is expected alike
expected_named : (P : ℕ → ℕ → Op → Type 0) (waits : ℕ → Bool) (begun : ℕ → ℕ) (q p : Transaction) → NamesKept q p → Expected P waits begun q → Expected P waits begun p
expected_named P waits begun q p names e = record {
  waiting = ap waits names.stream ∙ e.waiting;
  index = ap (λ (n : ℕ). n + 1) names.index ∙ e.index ∙ ap begun (sym names.stream);
  named = subst (λ (s : ℕ). P s p.index p.op) (sym names.stream) (subst (λ (i : ℕ). P q.stream i p.op) (sym names.index) (subst (λ (o : Op). P q.stream q.index o) (sym names.op) e.named));
}

-- no stream has two requests open after a take
alone_taken :
    (P : ℕ → ℕ → Op → Type 0) (f : ℕ → Option Transaction) (waits : ℕ → Bool) (begun : ℕ → ℕ) (m : Message) → StreamsKept P f waits begun → (a b : ℕ) (o p : Transaction)
    → taking m f a ≡ Some o → taking m f b ≡ Some p → is_request o.kind ≡ true → is_request p.kind ≡ true → o.stream ≡ p.stream → a ≡ b
alone_taken P f waits begun m kept a b o p here there asks too same =
    let x = was_open f m a o here asks in
    let y = was_open f m b p there too in
    kept.alone a b x.q y.q x.there y.there x.request y.request (sym x.names.stream ∙ same ∙ y.names.stream)

-- a take that leaves the requests
pub leaving_keeps :
    (P : ℕ → ℕ → Op → Type 0) (f : ℕ → Option Transaction) (waits : ℕ → Bool) (begun : ℕ → ℕ) (m : Message) → ((a : ℕ) (q : Transaction) → f a ≡ Some q → is_request q.kind ≡ true → Still m q)
    → StreamsKept P f waits begun → StreamsKept P (taking m f) waits begun
leaving_keeps P f waits begun m stays kept = record {
  awaited = λ s w.
      let old = kept.awaited s w in
      let still = stays old.line old.o old.there old.request in
      let names = take_names m old.o still.0 still.1 in
      record { line = old.line; o = still.0; there = ap (option_and_then (open_after_take m)) old.there ∙ still.1; request = ap is_request names.kind ∙ old.request; stream = names.stream ∙ old.stream };
  expected = λ a p there asks.
      let was = was_open f m a p there asks in
      expected_named P waits begun was.q p was.names (kept.expected a was.q was.there was.request);
  alone = alone_taken P f waits begun m kept;
}

-- a stream that waits after a fill isn't the filled one's, and waited before
fill_waits : (b w : Bool) → not b && w ≡ true → (b ≡ false) × (w ≡ true)
fill_waits true w h = absurd (false≢true h)
fill_waits false w h = (refl, h)

-- a take that fills a line
pub filling_keeps :
    (P : ℕ → ℕ → Op → Type 0) (f : ℕ → Option Transaction) (waits : ℕ → Bool) (begun : ℕ → ℕ) (m : Message) (commit : Option Commit) (x : Fills f m commit)
    → StreamsKept P f waits begun → StreamsKept P (taking m f) (λ s. not (x.o.stream == s) && waits s) begun
filling_keeps P f waits begun m commit x kept = record {
  awaited = λ s w.
      let parts = fill_waits (x.o.stream == s) (waits s) w in
      let old = kept.awaited s parts.1 in
      let elsewhere : old.line ≡ x.line → ⊥ = λ same.
      let one = same_Some x.o old.o (sym x.there ∙ ap f (sym same) ∙ old.there) in
      false≢true (sym parts.0 ∙ eq-eqb x.o.stream s (ap (λ (y : Transaction). y.stream) one ∙ old.stream)) in
      record { line = old.line; o = old.o; there = ap (option_and_then (open_after_take m)) old.there ∙ x.others old.line old.o old.there elsewhere; request = old.request; stream = old.stream };
  expected = λ a p there asks.
      let was = was_open f m a p there asks in
      let e = expected_named P waits begun was.q p was.names (kept.expected a was.q was.there was.request) in
      let elsewhere : a ≡ x.line → ⊥ = λ same. none-some p (sym x.gone ∙ ap (λ (y : Transaction). open_after_take m y) (same_Some x.o was.q (sym x.there ∙ ap f (sym same) ∙ was.there)) ∙ was.stays) in
      let other = ne_eqb x.o.stream p.stream (λ same. elsewhere (sym (kept.alone x.line a x.o was.q x.there was.there x.request was.request (same ∙ was.names.stream)))) in
      record { waiting = ap (λ (b : Bool). not b && waits p.stream) other ∙ e.waiting; index = e.index; named = e.named };
  alone = alone_taken P f waits begun m kept;
}
