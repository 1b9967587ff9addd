-- What every event of the device keeps of its directory: tasks apart, entries complete, and each snoop that was sent by a standing task.
use Rattle.std.proofs.Common.{◌≡◌, ℕ, ◌+◌, Bool, true, false, List, [], ◌∷◌, Option, Some, None, cond, refl, sym, ◌∙◌, subst, inl, inr, ◌≤◌, arith}
use Rattle.std.specs.Prelude.{nat_le, not, option_and_then, ◌&&◌, ◌==◌, count_by}
use Rattle.std.proofs.lemmas.Bool.{and_parts, eqb-true, false≢true, or_cases, or_right}
use Rattle.std.proofs.lemmas.Option.{none-some, same_Some}
use Rattle.cxl_message.specs.declared.events.Event.{Event}
use Rattle.cxl_message.specs.declared.messages.Message.{Message}
use Rattle.cxl_message.specs.declared.opcodes.RspOp.{RspOp}
use Rattle.cxl_message.specs.declared.states.Listing.{Listing}
use Rattle.cxl_message.specs.Codes.{listing_code}
use Rattle.cxl_message.specs.Lists.{is_in, without}
use Rattle.cxl_message.specs.Setup.{Configuration}
use Rattle.cxl_message.specs.Spans.{covers}
use Rattle.coherence_model.specs.Copies.{is_shared_meta}
use Rattle.coherence_model.specs.DeviceActs.{snoop_op}
use Rattle.coherence_model.specs.Directory.{Directory, has_entry}
use Rattle.coherence_model.specs.DirectoryChanges.{answered_lines, directory_after_serve, directory_after_clean, listing_after_response, listing_after_write, with_listed, with_listing}
use Rattle.coherence_model.specs.Fitting.{is_host}
use Rattle.coherence_model.specs.SentSnoops.{SentSnoop, sent_snoop_at, snoop_after_response, still_asking}
use Rattle.coherence_model.specs.Tasks.{Task, is_eviction}
use Rattle.entry_laws.proofs.Blocks.{in_filter}
use Rattle.entry_laws.proofs.DeviceRows.{TakenAnswer}
use Rattle.entry_laws.proofs.Entries.{EntriesKept, entry_before, keep_entries, count_filter}
use Rattle.entry_laws.proofs.Tasks.{TasksKept, busy_from}

-- a snoop that was sent to a host and has lines without an answer: a task stands at its first line, sent it and covers these lines, none twice
pub record SnoopKept (setup : Configuration) (task : ℕ → Option Task) (h a : ℕ) (q : SentSnoop) : Type 0 where
  pub host : is_host setup h ≡ true
  pub t : Task
  pub is : task a ≡ Some t
  pub op : q.op ≡ snoop_op t.purpose t.span
  pub span : q.span ≡ t.span
  pub other : is_eviction t.purpose ≡ false → t.host ≡ h → ⊥
  pub within : (b : ℕ) → is_in b q.unanswered ≡ true → covers a t.span b ≡ true
  pub once : (b : ℕ) → count_by (λ c. b == c) q.unanswered ≤ 1

abbrev pub SnoopsKept : Configuration → (ℕ → Option Task) → (ℕ → ℕ → Option SentSnoop) → Type 0
SnoopsKept setup task asked = (h a : ℕ) (q : SentSnoop) → asked h a ≡ Some q → SnoopKept setup task h a q

-- what is kept of the directory and of the snoops that were sent
pub record DirectoryKept (setup : Configuration) (D : Directory) (asked : ℕ → ℕ → Option SentSnoop) : Type 0 where
  pub tasks : TasksKept setup.lines D.task
  pub entries : EntriesKept setup D
  pub snoops : SnoopsKept setup D.task asked

-- ---- snoops

in_without : (b a : ℕ) (xs : List ℕ) → is_in b (without a xs) ≡ true → is_in b xs ≡ true
in_without b a xs h = (and_parts _ _ (sym (in_filter b (λ y. not (a == y)) xs) ∙ h)).0

-- a snoop that is left is the old one with fewer lines
pub record IsLess (q old : SentSnoop) : Type 0 where
  pub op : q.op ≡ old.op
  pub span : q.span ≡ old.span
  pub lines : (b : ℕ) → is_in b q.unanswered ≡ true → is_in b old.unanswered ≡ true
  pub fewer : (b : ℕ) → count_by (λ c. b == c) q.unanswered ≤ count_by (λ c. b == c) old.unanswered

asking_less :
    (old q : SentSnoop) (left : List ℕ) → ((b : ℕ) → is_in b left ≡ true → is_in b old.unanswered ≡ true)
    → ((b : ℕ) → count_by (λ c. b == c) left ≤ count_by (λ c. b == c) old.unanswered) → still_asking old left ≡ Some q → IsLess q old
asking_less old q [] less fewer h = absurd (none-some q h)
asking_less old q (c ∷ cs) less fewer h =
    let same : record old { unanswered = c ∷ cs } ≡ q = same_Some _ _ h in
    subst (λ p. IsLess p old) same (record { op = refl; span = refl; lines = less; fewer = fewer })

line_less : (a : ℕ) (old q : SentSnoop) → still_asking old (without a old.unanswered) ≡ Some q → IsLess q old
line_less a old q h =
    asking_less old q (without a old.unanswered) (λ b. in_without b a old.unanswered) (λ b. count_filter (λ c. b == c) (λ y. not (a == y)) old.unanswered) h

response_less : (op : RspOp) (a : ℕ) (old q : SentSnoop) → snoop_after_response op a old ≡ Some q → IsLess q old
response_less RspOp.I a old q h = line_less a old q h
response_less RspOp.S a old q h = line_less a old q h
response_less RspOp.E a old q h = line_less a old q h
response_less RspOp.IBlk a old q h = absurd (none-some q h)
response_less RspOp.SBlk a old q h = absurd (none-some q h)
response_less RspOp.EBlk a old q h = absurd (none-some q h)

-- a snoop after an answer is what is left of one that stood before
pub record LeftOf (old : Option SentSnoop) (q : SentSnoop) : Type 0 where
  pub before : SentSnoop
  pub is : old ≡ Some before
  pub less : IsLess q before

same_left : (old : Option SentSnoop) (q : SentSnoop) → old ≡ Some q → LeftOf old q
same_left old q h = record { before = q; is = h; less = record { op = refl; span = refl; lines = λ b there. there; fewer = λ b. omega arith } }

answered_left : (op : RspOp) (a : ℕ) (old : Option SentSnoop) (q : SentSnoop) → option_and_then (snoop_after_response op a) old ≡ Some q → LeftOf old q
answered_left op a None q h = absurd (none-some q h)
answered_left op a (Some before) q h = record { before = before; is = refl; less = response_less op a before q h }

left_after_take :
    (mine here : Bool) (op : RspOp) (a : ℕ) (old : Option SentSnoop) (q : SentSnoop)
    → cond mine (cond here (option_and_then (snoop_after_response op a) old) old) old ≡ Some q → LeftOf old q
left_after_take true true op a old q h = answered_left op a old q h
left_after_take true false op a old q h = same_left old q h
left_after_take false here op a old q h = same_left old q h

left_kept :
    (setup : Configuration) (task : ℕ → Option Task) (h a : ℕ) (q : SentSnoop) (old : Option SentSnoop) → LeftOf old q
    → ((p : SentSnoop) → old ≡ Some p → SnoopKept setup task h a p) → SnoopKept setup task h a q
left_kept setup task h a q old left kept =
    let before = kept left.before left.is in
    record {
      host = before.host;
      t = before.t;
      is = before.is;
      op = left.less.op ∙ before.op;
      span = left.less.span ∙ before.span;
      other = before.other;
      within = λ b there. before.within b (left.less.lines b there);
      once = λ b. (let few = before.once b in let fewer = left.less.fewer b in omega arith);
    }

-- snoops of tasks that stand still are kept
pub snoops_kept_by :
    (setup : Configuration) (task later : ℕ → Option Task) (asked : ℕ → ℕ → Option SentSnoop)
    → ((h a : ℕ) (q : SentSnoop) → asked h a ≡ Some q → (t : Task) → task a ≡ Some t → later a ≡ Some t) → SnoopsKept setup task asked
    → SnoopsKept setup later asked
snoops_kept_by setup task later asked stays kept h a q is =
    let before = kept h a q is in
    record {
      host = before.host;
      t = before.t;
      is = stays h a q is before.t before.is;
      op = before.op;
      span = before.span;
      other = before.other;
      within = before.within;
      once = before.once;
    }

-- ---- listings

-- where some lines are listed that have an entry, or are unlisted, the directory is kept
relisted :
    (setup : Configuration) (D : Directory) (asked later : ℕ → ℕ → Option SentSnoop) (lines : List ℕ) (h : ℕ) (l : Listing) → DirectoryKept setup D asked
    → ((a : ℕ) → is_in a lines ≡ true → nat_le 1 (listing_code l) ≡ true → has_entry setup D a ≡ true)
    → SnoopsKept setup D.task later → DirectoryKept setup (with_listed setup lines h l D) later
relisted setup D asked later lines h l kept had snoops = record {
  tasks = kept.tasks;
  entries = keep_entries setup D (record D { listed = with_listing lines h l D.listed }) kept.entries refl
      (λ a within has. elim (entry_before setup D (record D { listed = with_listing lines h l D.listed }) lines h l refl a (λ is. is) has) [
        | inl old ↦ old
        | inr new ↦ had a new.0 new.1
      ]);
  snoops = snoops;
}

pub only_in : (a b : ℕ) → is_in a (b ∷ []) ≡ true → b ≡ a
only_in a b h = elim (or_cases (a == b) false h) [ inl same ↦ sym (eqb-true a b same) | inr none ↦ absurd (false≢true none) ]

-- a line that an answer lists had an entry: the task that asked covers it
answered_had :
    (setup : Configuration) (D : Directory) (mine : List Event) (op : RspOp) (h first b : ℕ) → DirectoryKept setup D (λ h a. sent_snoop_at h a mine)
    → TakenAnswer op h first b mine → (a : ℕ) → is_in a (answered_lines op h first b mine) ≡ true → nat_le 1 (listing_code (listing_after_response op)) ≡ true →
    has_entry setup D a ≡ true
answered_had setup D mine RspOp.I h first b kept row a there listed = absurd (false≢true listed)
answered_had setup D mine RspOp.S h first b kept row a there listed =
    let asked = and_parts _ _ row.answers in
    let snoop = kept.snoops h first row.q row.asked in
    let busy = busy_from setup.lines D kept.tasks b first snoop.t snoop.is (snoop.within b asked.0) in
    subst (λ x. has_entry setup D x ≡ true) (only_in a b there) (or_right _ _ busy)
answered_had setup D mine RspOp.E h first b kept row a there listed = absurd (false≢true row.answers)
answered_had setup D mine RspOp.IBlk h first b kept row a there listed = absurd (false≢true listed)
answered_had setup D mine RspOp.SBlk h first b kept row a there listed = absurd (false≢true row.answers)
answered_had setup D mine RspOp.EBlk h first b kept row a there listed = absurd (false≢true row.answers)

pub answer_step :
    (setup : Configuration) (D : Directory) (mine : List Event) (op : RspOp) (h first low : ℕ) → DirectoryKept setup D (λ g a. sent_snoop_at g a mine)
    → TakenAnswer op h first (first + low) mine
    → DirectoryKept setup (with_listed setup (answered_lines op h first (first + low) mine) h (listing_after_response op) D)
    (λ g a. cond (h == g) (cond (first == a) (option_and_then (snoop_after_response op (a + low)) (sent_snoop_at g a mine)) (sent_snoop_at g a mine))
    (sent_snoop_at g a mine))
answer_step setup D mine op h first low kept row =
    relisted setup D (λ g a. sent_snoop_at g a mine) _ (answered_lines op h first (first + low) mine) h (listing_after_response op) kept
    (answered_had setup D mine op h first (first + low) kept row)
    (λ g a q is. left_kept setup D.task g a q (sent_snoop_at g a mine) (left_after_take (h == g) (first == a) op (a + low) (sent_snoop_at g a mine) q is)
    (kept.snoops g a))

shared_entry : (shared has : Bool) → nat_le 1 (listing_code (cond (shared && has) Listing.S Listing.I)) ≡ true → has ≡ true
shared_entry true true h = refl
shared_entry true false h = absurd (false≢true h)
shared_entry false has h = absurd (false≢true h)

pub serve_step :
    (setup : Configuration) (D : Directory) (asked : ℕ → ℕ → Option SentSnoop) (h : ℕ) (found : Option Message) → DirectoryKept setup D asked
    → DirectoryKept setup (directory_after_serve setup h found D) asked
serve_step setup D asked h None kept = kept
serve_step setup D asked h (Some (Message.Req op meta snp tag line)) kept = kept
serve_step setup D asked h (Some (Message.MemWr meta snp tag line bytes)) kept =
    relisted setup D asked asked (line.0 ∷ []) h (listing_after_write meta (has_entry setup D line.0)) kept
    (λ a there listed. subst (λ x. has_entry setup D x ≡ true) (only_in a line.0 there)
    (shared_entry (is_shared_meta meta) (has_entry setup D line.0) listed)) kept.snoops
serve_step setup D asked h (Some (Message.BiConflict tag)) kept = kept
serve_step setup D asked h (Some (Message.BiRsp op bitag low)) kept = kept
serve_step setup D asked h (Some (Message.Ndr op tag)) kept = kept
serve_step setup D asked h (Some (Message.MemData tag bytes)) kept = kept
serve_step setup D asked h (Some (Message.BiSnp op bitag line span)) kept = kept
serve_step setup D asked h (Some (Message.Credit c)) kept = kept

pub clean_step :
    (setup : Configuration) (D : Directory) (asked : ℕ → ℕ → Option SentSnoop) (h : ℕ) (found : Option ℕ) → DirectoryKept setup D asked
    → DirectoryKept setup (directory_after_clean setup h found D) asked
clean_step setup D asked h None kept = kept
clean_step setup D asked h (Some b) kept = relisted setup D asked asked (b ∷ []) h Listing.I kept (λ a there listed. absurd (false≢true listed)) kept.snoops
