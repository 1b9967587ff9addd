-- A line that is open, or written back for a snoop, has no writable copy, and what is written back isn't open. By recursion over a host's own events.
use Rattle.std.proofs.Common.{◌≡◌, ℕ, ◌≤◌, Bool, true, false, List, [], ◌∷◌, ◌++◌, Option, Some, None, cond, filter, find, refl, sym, ◌∙◌, ap, subst, arith, ◌⊎◌, inl, inr}
use Rattle.std.specs.Prelude.{is_some, nat_le, not, option_and_then, ◌-◌, ◌==◌}
use Rattle.std.specs.Option.{option_or}
use Rattle.std.proofs.lemmas.Bool.{cond-false, cond-true, eq-eqb, eqb-true, false≢true, le-leb, leb-false, leb-true}
use Rattle.std.proofs.lemmas.Option.{none-some}
use Rattle.cxl_message.specs.declared.events.Act.{Act}
use Rattle.cxl_message.specs.declared.events.Cause.{Cause}
use Rattle.cxl_message.specs.declared.events.Commit.{Commit}
use Rattle.cxl_message.specs.declared.events.Event.{Event}
use Rattle.cxl_message.specs.declared.events.Op.{Op}
use Rattle.cxl_message.specs.declared.events.Sends.{Sends}
use Rattle.cxl_message.specs.declared.identifiers.Bytes64.{Bytes64}
use Rattle.cxl_message.specs.declared.identifiers.Line.{Line}
use Rattle.cxl_message.specs.declared.messages.Message.{Message}
use Rattle.cxl_message.specs.declared.identifiers.BiTag.{BiTag}
use Rattle.cxl_message.specs.declared.opcodes.NdrOp.{NdrOp}
use Rattle.cxl_message.specs.declared.opcodes.SnpOp.{SnpOp}
use Rattle.cxl_message.specs.declared.opcodes.Span.{Span}
use Rattle.cxl_message.specs.Codes.{copy_code}
use Rattle.cxl_message.specs.Events.{line_of}
use Rattle.cxl_message.specs.Lists.{is_in}
use Rattle.cxl_message.specs.Setup.{Configuration}
use Rattle.cxl_message.specs.Spans.{covers, lines_of}
use Rattle.coherence_model.specs.Cache.{copy, is_modified, is_writable}
use Rattle.coherence_model.specs.Copies.{Copy, is_in_whole_block, keeps_shared, no_copy, shared}
use Rattle.coherence_model.specs.Emission.{Emission}
use Rattle.coherence_model.specs.Fitting.{is_device}
use Rattle.coherence_model.specs.HostOperations.{eviction_message, request_message}
use Rattle.coherence_model.specs.HostRows.{host_emission}
use Rattle.coherence_model.specs.HostActs.{host_acts, response_for, write_back_message}
use Rattle.coherence_model.specs.HostTakes.{host_takes}
use Rattle.coherence_model.specs.Snoops.{Snoop, buffered_snoops, is_quiet, is_snooped, is_whole_block, snoop_at, snoops_after, snoops_after_answer}
use Rattle.coherence_model.specs.Stages.{Stage, conflict_end, stage, stage_after, stage_after_ack, stage_after_completion, was_completed}
use Rattle.coherence_model.specs.Transactions.{Transaction, is_open, open_after, open_after_take, open_at, opened}
use Rattle.coherence_model.specs.Words.{one_if}
use Rattle.coherence_lemmas.proofs.HostActs.{WrittenBack, h10_return-inv, h7_conflict-inv, h8_write_back-inv, h9_answer-inv, h9_answer_block-inv}
use Rattle.coherence_lemmas.proofs.HostOperations.{Hit}
use Rattle.coherence_lemmas.proofs.HostTakes.{h4_snoop-inv}
use Rattle.coherence_lemmas.proofs.Rows.{host_take-inv}
use Rattle.request_laws.proofs.BufferedSnoops.{snooped-total, total, total-answer, total-append, total-cons, total-filter}
use Rattle.request_laws.proofs.Counts.{covers-lines, times}
use Rattle.request_laws.proofs.HostOperations.{eviction_kind, kind_of, request_opens}
use Rattle.request_laws.proofs.OpenLines.{one_opens, quiet_parts, two_open, victim_opens}
use Rattle.request_laws.proofs.OwnRuns.{host_goes_on}
use Rattle.coherence_model.specs.OwnRuns.{is_own_run}
use Rattle.listing_laws.proofs.Copies.{alone_copy, copy_next, evicting_copy, hit_copy, missed_unwritable, response_unwritable, store_hits, without_line, writable_count}
use Rattle.listing_laws.proofs.Fits.{AreFit, open_lines_fit}
use Rattle.listing_laws.proofs.HostNumbers.{HostKept, fewer, fills_line, opens_line, same_less, snoops_line, writes_line}
use Rattle.listing_laws.proofs.Operations.{AloneRow, EvictingRow, OperationRow, RowAlone, RowEvicts, RowHits, operation_row}
use Rattle.listing_laws.proofs.Takes.{Fill, fill_copy, take_commits}

-- whether a stage is Writing or Written
abbrev pub is_write_stage : Stage → Bool
is_write_stage Stage.New = false
is_write_stage (Stage.Asked _) = false
is_write_stage Stage.Early = false
is_write_stage Stage.Late = false
is_write_stage Stage.Writing = true
is_write_stage Stage.Written = true

-- a Bool as a number is at most 1
pub flag : (b : Bool) → one_if b ≤ 1
flag true = omega arith
flag false = omega arith

-- a Bool that is false is 0
pub flag_down : (b : Bool) → b ≡ false → one_if b ≡ 0
flag_down true h = absurd (false≢true (sym h))
flag_down false h = refl

-- a Bool that is true is 1
pub flag_up : (b : Bool) → b ≡ true → one_if b ≡ 1
flag_up true h = refl
flag_up false h = absurd (false≢true h)

-- what implies is at most what it implies
pub flags : (b c : Bool) → (c ≡ true → b ≡ true) → one_if c ≤ one_if b
flags true c h = flag c
flags false true h = absurd (false≢true (h refl))
flags false false h = omega arith

-- what is known of line a after a cause
abbrev KeptNext : Configuration → Cause → Sends → Option Commit → List Event → ℕ → Type 0
KeptNext setup cause sends commit own a =
    HostKept (writable_count (copy_next setup cause sends commit own a)) (one_if (is_some (open_after a cause sends (open_at a own))))
    (one_if (is_some (find (λ (s : Snoop). is_in a s.unanswered) (snoops_after cause (buffered_snoops own))))) (one_if (is_write_stage (stage_after setup a cause own (stage setup a own))))

-- a line at a host: what is open, what is dirty and what is writable exclude one another
abbrev pub HostKeptLine : Configuration → List Event → ℕ → Type 0
HostKeptLine setup own a = HostKept (writable_count (copy setup a own)) (one_if (is_open a own)) (one_if (is_snooped a own)) (one_if (is_write_stage (stage setup a own)))

-- ---- operations

-- a dropped line adds no writable copy
pub lost_writable : (d : Option ℕ) (a : ℕ) (c : Copy) → writable_count (without_line d a c) ≤ writable_count c
lost_writable None a c = omega arith
lost_writable (Some v) a c = by (a == v)
  where
    by : (b : Bool) → writable_count (cond b no_copy c) ≤ writable_count c
    by true = omega arith
    by false = omega arith

module _ (setup : Configuration) (own : List Event) (a : ℕ) (old : HostKeptLine setup own a) where
  -- the writable copy
  abbrev x : ℕ
  x = writable_count (copy setup a own)

  -- the line is snooped
  abbrev n : ℕ
  n = one_if (is_snooped a own)

  -- the line is at a write stage
  abbrev z : ℕ
  z = one_if (is_write_stage (stage setup a own))

  -- a line that is opened, where it was quiet
  opened_kept : (l : ℕ) (y : Transaction) (c' : Copy) (o : Option Transaction) (here : Bool) → (l == a) ≡ here → is_quiet l own ≡ true → (l ≡ a → writable_count c' ≡ 0)
      → (here ≡ false → HostKept (writable_count c') (one_if (is_some o)) n z) → HostKept (writable_count c') (one_if (is_some (option_or (cond here (Some y) None) o))) n z
  opened_kept l y c' o true is quiet low rest =
      let same = eqb-true l a is in
      opens_line 0 (writable_count c') n z refl (same_less 0 _ (low same)) (flag_down _ (ap (λ b. is_snooped b own) (sym same) ∙ (quiet_parts l own quiet).1)) (flag _)
  opened_kept l y c' o false is quiet low rest = rest refl

  -- a hit keeps the line
  hit_kept : (h s i : ℕ) (op : Op) (w : Emission) (sends : Sends) (commit : Option Commit) → Hit setup s i op own w → sends ≡ w.sends → commit ≡ w.commit → KeptNext setup (Cause.Op s i op) sends commit own a
  hit_kept h s i op w sends commit hit sent committed =
      subst (λ o. HostKept (writable_count (copy_next setup (Cause.Op s i op) sends commit own a)) (one_if (is_some o)) n z)
      (sym (ap (λ y. open_after a (Cause.Op s i op) y (open_at a own)) (sent ∙ ap (λ (y : Emission). y.sends) hit.emits)))
      (elim (hit_copy setup s i op own w sends commit a hit sent committed) [
        | inl same ↦ subst (λ c. HostKept (writable_count c) (one_if (is_open a own)) n z) (sym same) old
        | inr store ↦ (
            let one : x ≡ 1 = flag_up _ (subst (λ l. is_writable setup l own ≡ true) store.0 (store_hits setup op own store.1 hit.on_copy)) in
            let new : writable_count (copy_next setup (Cause.Op s i op) sends commit own a) ≡ 1 = ap writable_count store.2 in
            fewer x (writable_count (copy_next setup (Cause.Op s i op) sends commit own a)) (one_if (is_open a own)) (one_if (is_open a own)) n n z z (omega arith) (omega arith) (omega arith) (omega arith) old
            )
      ])

  -- a miss that sends a request keeps the line
  alone_kept : (h s i : ℕ) (op : Op) (w : Emission) (sends : Sends) (commit : Option Commit) → AloneRow setup h op own sends commit → KeptNext setup (Cause.Op s i op) sends commit own a
  alone_kept h s i op w sends commit row =
      let c' = copy_next setup (Cause.Op s i op) sends commit own a in
      let less : writable_count c' ≤ x = subst (λ c. writable_count c ≤ x) (sym (alone_copy setup s i h op row.t own w sends commit row.d a row.sent row.uncommitted row.drops)) (lost_writable row.d a (copy setup a own)) in
      let y : Transaction = opened s i op (kind_of op) row.t in
      subst (λ o. HostKept (writable_count c') (one_if (is_some o)) n z)
      (sym (ap (λ v. open_after a (Cause.Op s i op) v (open_at a own)) row.sent ∙ one_opens a s i h op (request_message op row.t) (line_of op) row.t (kind_of op) own (request_opens op row.t)))
      (opened_kept (line_of op) y c' (open_at a own) (line_of op == a) refl row.quiet
      (λ same. (let none : x ≡ 0 = flag_down _ (subst (λ l. is_writable setup l own ≡ false) same (missed_unwritable setup op own row.miss)) in omega arith))
      (λ other. fewer x (writable_count c') (one_if (is_open a own)) (one_if (is_open a own)) n n z z less (omega arith) (omega arith) (omega arith) old))

  -- a miss that sends an eviction too keeps the line
  evicting_kept : (h s i : ℕ) (op : Op) (w : Emission) (sends : Sends) (commit : Option Commit) → EvictingRow setup h op own sends commit → KeptNext setup (Cause.Op s i op) sends commit own a
  evicting_kept h s i op w sends commit row =
      let c' = copy_next setup (Cause.Op s i op) sends commit own a in
      let is : c' ≡ cond (row.v == a) no_copy (copy setup a own) = evicting_copy setup s i h op row.v row.t row.u own sends commit a row.sent row.uncommitted in
      let less : writable_count c' ≤ x = subst (λ c. writable_count c ≤ x) (sym is) (lower (row.v == a)) in
      let k = eviction_kind (is_modified setup row.v own) in
      let y : Transaction = opened s i op (kind_of op) row.u in
      let e : Transaction = opened s i op k row.t in
      subst (λ o. HostKept (writable_count c') (one_if (is_some o)) n z)
      (sym (ap (λ v. open_after a (Cause.Op s i op) v (open_at a own)) row.sent
      ∙ two_open a s i h op (eviction_message setup row.v own row.t) (request_message op row.u) row.v row.t k (line_of op) row.u (kind_of op) own (victim_opens setup row.v own row.t) (request_opens op row.u)))
      (opened_kept row.v e c' (option_or (cond (line_of op == a) (Some y) None) (open_at a own)) (row.v == a) refl row.idle
      (λ same. ap writable_count (is ∙ cond-true (row.v == a) no_copy (copy setup a own) (eq-eqb row.v a same)))
      (λ other. opened_kept (line_of op) y c' (open_at a own) (line_of op == a) refl row.quiet
      (λ same. (let none : x ≡ 0 = flag_down _ (subst (λ l. is_writable setup l own ≡ false) same (missed_unwritable setup op own row.miss)) in omega arith))
      (λ another. fewer x (writable_count c') (one_if (is_open a own)) (one_if (is_open a own)) n n z z less (omega arith) (omega arith) (omega arith) old)))
    where
      lower : (b : Bool) → writable_count (cond b no_copy (copy setup a own)) ≤ x
      lower true = omega arith
      lower false = omega arith

  -- an operation keeps the line
  operation_kept : (h s i : ℕ) (op : Op) (w : Emission) (sends : Sends) (commit : Option Commit) → OperationRow setup h s i op own w sends commit → sends ≡ w.sends → commit ≡ w.commit
      → KeptNext setup (Cause.Op s i op) sends commit own a
  operation_kept h s i op w sends commit (RowHits hit) sent committed = hit_kept h s i op w sends commit hit sent committed
  operation_kept h s i op w sends commit (RowAlone row) sent committed = alone_kept h s i op w sends commit row
  operation_kept h s i op w sends commit (RowEvicts row) sent committed = evicting_kept h s i op w sends commit row

  -- ---- takes

  -- what stays open was open
  still_some : {A : Type 0} (f : A → Option A) (o : Option A) → is_some (option_and_then f o) ≡ true → is_some o ≡ true
  still_some f None h = h
  still_some f (Some y) h = refl

  -- a take opens nothing
  open_less : (m : Message) → one_if (is_some (option_and_then (open_after_take m) (open_at a own))) ≤ one_if (is_open a own)
  open_less m = flags (is_open a own) _ (still_some (open_after_take m) (open_at a own))

  -- a take that closes the line leaves nothing open
  closed_by : (m : Message) (o : Transaction) → open_at a own ≡ Some o → open_after_take m o ≡ None → one_if (is_some (option_and_then (open_after_take m) (open_at a own))) ≡ 0
  closed_by m o there closed = ap (λ y. one_if (is_some (option_and_then (open_after_take m) y))) there ∙ ap (λ y. one_if (is_some y)) closed

  -- a filled copy is writable at most once
  filled_low : (c : NdrOp) (later : Copy) → writable_count later ≤ 1
  filled_low c later = flag _

  -- a take keeps the line, by whether it fills
  take_by : (k : ℕ) (m : Message) (sends : Sends) (commit : Option Commit) (n' z' : ℕ) → n' ≤ n → z' ≤ z → AreFit (λ b. open_at b own) → (commit ≡ None) ⊎ Fill own m commit
      → HostKept (writable_count (copy_next setup (Cause.Take k m) sends commit own a)) (one_if (is_some (option_and_then (open_after_take m) (open_at a own)))) n' z'
  take_by k m sends commit n' z' ln lz fit done = elim done [
    | inl none ↦ (
        let same : writable_count (copy_next setup (Cause.Take k m) sends commit own a) ≡ x = ap (λ y. writable_count (copy_next setup (Cause.Take k m) sends y own a)) none in
        let less = open_less m in
        fewer x _ (one_if (is_open a own)) _ n n' z z' (omega arith) less ln lz old
        )
    | inr f ↦ by f (f.l == a) refl
  ]
    where
      by : (f : Fill own m commit) (here : Bool) → (f.l == a) ≡ here
          → HostKept (writable_count (copy_next setup (Cause.Take k m) sends commit own a)) (one_if (is_some (option_and_then (open_after_take m) (open_at a own)))) n' z'
      by f true is =
          let there : open_at a own ≡ Some f.o = ap (λ b. open_at b own) (sym (eqb-true f.l a is)) ∙ f.there in
          let was : one_if (is_open a own) ≡ 1 = ap (λ y. one_if (is_some y)) there in
          let now = closed_by m f.o there f.closed in
          let few = flag (nat_le 2 (copy_code (copy_next setup (Cause.Take k m) sends commit own a).state)) in
          let filled = fills_line x (writable_count (copy_next setup (Cause.Take k m) sends commit own a)) n z few (subst (λ o. HostKept x o n z) was old) in
          fewer _ _ 0 _ n n' z z' (omega arith) (same_less 0 _ now) ln lz filled
      by f false is =
          let same : writable_count (copy_next setup (Cause.Take k m) sends commit own a) ≡ x = ap writable_count (fill_copy setup k m own sends commit f fit a ∙ cond-false (f.l == a) _ (copy setup a own) is) in
          let less = open_less m in
          fewer x _ (one_if (is_open a own)) _ n n' z z' (omega arith) less ln lz old

  -- a completion starts no write
  written_completed : (tag : ℕ) (st : Stage) → one_if (is_write_stage (stage_after_completion setup tag st)) ≤ one_if (is_write_stage st)
  written_completed tag Stage.New = omega arith
  written_completed tag (Stage.Asked t) = omega arith
  written_completed tag Stage.Early = omega arith
  written_completed tag Stage.Late = omega arith
  written_completed tag Stage.Writing = flag _
  written_completed tag Stage.Written = omega arith

  -- a BI-ConflictAck starts no write
  written_acked : (tag : ℕ) (st : Stage) → one_if (is_write_stage (stage_after_ack tag a own st)) ≤ one_if (is_write_stage st)
  written_acked tag Stage.New = omega arith
  written_acked tag (Stage.Asked t) = by (t == tag)
    where
      ends : (b : Bool) → one_if (is_write_stage (cond b Stage.Late Stage.Early)) ≤ 0
      ends true = omega arith
      ends false = omega arith

      by : (b : Bool) → one_if (is_write_stage (cond b (conflict_end (open_at a own)) (Stage.Asked t))) ≤ 0
      by true = ends (was_completed (open_at a own))
      by false = omega arith
  written_acked tag Stage.Early = omega arith
  written_acked tag Stage.Late = omega arith
  written_acked tag Stage.Writing = omega arith
  written_acked tag Stage.Written = omega arith

  -- the line isn't snooped more than before
  snooped_less : (ss : List Snoop) → total a ss ≤ total a (buffered_snoops own) → one_if (is_some (find (λ (s : Snoop). is_in a s.unanswered) ss)) ≤ n
  snooped_less ss less = flags (is_snooped a own) _ (λ is.
      let some = leb-true 1 (total a ss) (sym (snooped-total a ss) ∙ is) in
      snooped-total a (buffered_snoops own) ∙ le-leb 1 (total a (buffered_snoops own)) (omega arith))

  -- whether the line is snooped with one more snoop
  abbrev with_snoop : SnpOp → ℕ → Span → ℕ
  with_snoop op first span = one_if (is_some (find (λ (y : Snoop). is_in a y.unanswered) (buffered_snoops own ++ record { op = op; first = first; span = span; unanswered = lines_of first span } ∷ [])))

  -- a taken snoop keeps the line
  snoop_kept : (k : ℕ) (op : SnpOp) (bitag : BiTag) (line : Line) (span : Span) (sends : Sends) (commit : Option Commit) → commit ≡ None
      → KeptNext setup (Cause.Take k (Message.BiSnp op bitag line span)) sends commit own a
  snoop_kept k op bitag line span sends commit none =
      let m : Message = Message.BiSnp op bitag line span in
      subst (λ c. HostKept (writable_count (copy_next setup (Cause.Take k m) sends c own a)) (one_if (is_some (option_and_then (open_after_take m) (open_at a own)))) (with_snoop op line.0 span) (one_if (is_write_stage (cond (covers line.0 span a) Stage.New (stage setup a own)))))
      (sym none) (subst (λ o. HostKept x (one_if (is_some o)) (with_snoop op line.0 span) (one_if (is_write_stage (cond (covers line.0 span a) Stage.New (stage setup a own))))) (sym (unchanged (open_at a own))) (by (covers line.0 span a) refl))
    where
      unchanged : (o : Option Transaction) → option_and_then (open_after_take (Message.BiSnp op bitag line span)) o ≡ o
      unchanged None = refl
      unchanged (Some y) = refl

      by : (c : Bool) → covers line.0 span a ≡ c → HostKept x (one_if (is_open a own)) (with_snoop op line.0 span) (one_if (is_write_stage (cond c Stage.New (stage setup a own))))
      by true is = snoops_line x (one_if (is_open a own)) n (with_snoop op line.0 span) z (flag _) old
      by false is =
          let few = leb-false 1 (times a (lines_of line.0 span)) (sym (covers-lines line.0 a span) ∙ is) in
          let sum = total-append a (buffered_snoops own) (record { op = op; first = line.0; span = span; unanswered = lines_of line.0 span } ∷ []) in
          let one = total-cons a (record { op = op; first = line.0; span = span; unanswered = lines_of line.0 span }) [] in
          let less = snooped_less (buffered_snoops own ++ record { op = op; first = line.0; span = span; unanswered = lines_of line.0 span } ∷ []) (omega arith) in
          fewer x x (one_if (is_open a own)) (one_if (is_open a own)) n (with_snoop op line.0 span) z z (omega arith) (omega arith) less (omega arith) old

  -- a take keeps the line
  take_kept : (h k : ℕ) (m : Message) (w : Emission) (sends : Sends) (commit : Option Commit) → host_takes setup h m own ≡ Some w → commit ≡ w.commit → AreFit (λ b. open_at b own)
      → KeptNext setup (Cause.Take k m) sends commit own a
  take_kept h k (Message.Req op meta snp tag line) w sends commit row committed fit = absurd (none-some w row)
  take_kept h k (Message.MemWr meta snp tag line bytes) w sends commit row committed fit = absurd (none-some w row)
  take_kept h k (Message.BiConflict tag) w sends commit row committed fit = absurd (none-some w row)
  take_kept h k (Message.BiRsp op bitag low) w sends commit row committed fit = absurd (none-some w row)
  take_kept h k (Message.Ndr NdrOp.Cmp tag) w sends commit row committed fit =
      take_by k (Message.Ndr NdrOp.Cmp tag) sends commit n _ (omega arith) (written_completed tag.0 (stage setup a own)) fit (take_commits setup h (Message.Ndr NdrOp.Cmp tag) own w commit row committed fit)
  take_kept h k (Message.Ndr NdrOp.CmpS tag) w sends commit row committed fit =
      take_by k (Message.Ndr NdrOp.CmpS tag) sends commit n z (omega arith) (omega arith) fit (take_commits setup h (Message.Ndr NdrOp.CmpS tag) own w commit row committed fit)
  take_kept h k (Message.Ndr NdrOp.CmpE tag) w sends commit row committed fit =
      take_by k (Message.Ndr NdrOp.CmpE tag) sends commit n z (omega arith) (omega arith) fit (take_commits setup h (Message.Ndr NdrOp.CmpE tag) own w commit row committed fit)
  take_kept h k (Message.Ndr NdrOp.ConflictAck tag) w sends commit row committed fit =
      take_by k (Message.Ndr NdrOp.ConflictAck tag) sends commit n _ (omega arith) (written_acked tag.0 (stage setup a own)) fit (take_commits setup h (Message.Ndr NdrOp.ConflictAck tag) own w commit row committed fit)
  take_kept h k (Message.MemData tag bytes) w sends commit row committed fit =
      take_by k (Message.MemData tag bytes) sends commit n z (omega arith) (omega arith) fit (take_commits setup h (Message.MemData tag bytes) own w commit row committed fit)
  take_kept h k (Message.BiSnp op bitag line span) w sends commit row committed fit =
      snoop_kept k op bitag line span sends commit (committed ∙ ap (λ (y : Emission). y.commit) (h4_snoop-inv line.0 span own w row).emits)
  take_kept h k (Message.Credit c) w sends commit row committed fit =
      take_by k (Message.Credit c) sends commit n z (omega arith) (omega arith) fit (take_commits setup h (Message.Credit c) own w commit row committed fit)

  -- ---- acts

  -- the line is kept after an act
  abbrev ActNext : Act → Sends → Type 0
  ActNext act sends = KeptNext setup (Cause.Act act) sends None own a

  -- a BIConflict starts no write
  asked_less : (b : Bool) (t : ℕ) (st : Stage) → one_if (is_write_stage (cond b (Stage.Asked t) st)) ≤ one_if (is_write_stage st)
  asked_less true t st = omega arith
  asked_less false t st = omega arith

  -- a response leaves no more writable copies
  response_less : (b : Bool) (m : Message) (c : Copy) → writable_count (cond b (cond (keeps_shared m) (shared c) no_copy) c) ≤ writable_count c
  response_less true m c = same_less_zero _ (writable_count c) (response_unwritable m c)
    where
      same_less_zero : (p q : ℕ) → p ≡ 0 → p ≤ q
      same_less_zero p q e = omega arith
  response_less false m c = omega arith

  -- a dropped copy isn't writable
  gone_less : (b : Bool) (c : Copy) → writable_count (cond b no_copy c) ≤ writable_count c
  gone_less true c = omega arith
  gone_less false c = omega arith

  -- an act keeps the line
  act_kept : (h : ℕ) (act : Act) (w : Emission) (sends : Sends) → host_acts setup h act own ≡ Some w → sends ≡ w.sends → ActNext act sends
  act_kept h (Act.Conflict line) w sends row sent =
      fewer x x (one_if (is_open a own)) (one_if (is_open a own)) n n z _ (omega arith) (omega arith) (omega arith) (asked_less (line.0 == a) _ (stage setup a own)) old
  act_kept h (Act.WriteBack line) w sends row sent =
      let inv = h8_write_back-inv setup h line.0 own (snoop_at line.0 own) w row in
      let m = write_back_message setup inv.s.op line.0 own in
      subst (ActNext (Act.WriteBack line)) (sym (sent ∙ ap (λ (y : Emission). y.sends) inv.emits)) (by inv m (line.0 == a) refl)
    where
      by : (inv : WrittenBack setup h line.0 own (snoop_at line.0 own) w) (m : Message) (here : Bool) → (line.0 == a) ≡ here
          → HostKept (writable_count (cond here (cond (keeps_shared m) (shared (copy setup a own)) no_copy) (copy setup a own))) (one_if (is_open a own)) n (one_if (is_write_stage (cond here Stage.Writing (stage setup a own))))
      by inv m true is =
          subst (λ o. HostKept (writable_count (cond (keeps_shared m) (shared (copy setup a own)) no_copy)) o n 1) (sym (flag_down _ (ap (λ b. is_open b own) (sym (eqb-true line.0 a is)) ∙ inv.closed)))
          (writes_line _ n (response_unwritable m (copy setup a own)) (flag _))
      by inv m false is = old
  act_kept h (Act.Answer line) w sends row sent =
      let inv = h9_answer-inv setup h line.0 own (snoop_at line.0 own) w row in
      subst (ActNext (Act.Answer line)) (sym (sent ∙ ap (λ (y : Emission). y.sends) inv.emits))
      (fewer x _ (one_if (is_open a own)) (one_if (is_open a own)) n _ z z (response_less (line.0 == a) (Message.BiRsp (response_for setup inv.s.op line.0 own) (record { 0 = inv.s.first }) (line.0 - inv.s.first)) (copy setup a own)) (omega arith)
      (snooped_less (snoops_after_answer line.0 (buffered_snoops own)) (total-answer a line.0 (buffered_snoops own))) (omega arith) old)
  act_kept h (Act.AnswerBlock line) w sends row sent =
      fewer x _ (one_if (is_open a own)) (one_if (is_open a own)) n _ z z (gone_less (is_in_whole_block line.0 a own) (copy setup a own)) (omega arith)
      (snooped_less (filter (λ s. not (is_whole_block line.0 s)) (buffered_snoops own)) (total-filter a (λ s. not (is_whole_block line.0 s)) (buffered_snoops own))) (omega arith) old
  act_kept h (Act.HostReturn c) w sends row sent = old
  act_kept h (Act.Serve k tag) w sends row sent = absurd (none-some w row)
  act_kept h (Act.Clean k tag) w sends row sent = absurd (none-some w row)
  act_kept h (Act.Start k tag) w sends row sent = absurd (none-some w row)
  act_kept h (Act.Evict k tag) w sends row sent = absurd (none-some w row)
  act_kept h (Act.Snoop k line) w sends row sent = absurd (none-some w row)
  act_kept h (Act.Finish line) w sends row sent = absurd (none-some w row)
  act_kept h (Act.DeviceReturn k c) w sends row sent = absurd (none-some w row)

-- no act of a host commits
pub act_uncommitted : (setup : Configuration) (h : ℕ) (act : Act) (own : List Event) (w : Emission) → host_acts setup h act own ≡ Some w → w.commit ≡ None
act_uncommitted setup h (Act.Conflict line) own w row = ap (λ (y : Emission). y.commit) (h7_conflict-inv setup h line.0 own (open_at line.0 own) w row).emits
act_uncommitted setup h (Act.WriteBack line) own w row = ap (λ (y : Emission). y.commit) (h8_write_back-inv setup h line.0 own (snoop_at line.0 own) w row).emits
act_uncommitted setup h (Act.Answer line) own w row = ap (λ (y : Emission). y.commit) (h9_answer-inv setup h line.0 own (snoop_at line.0 own) w row).emits
act_uncommitted setup h (Act.AnswerBlock line) own w row = ap (λ (y : Emission). y.commit) (h9_answer_block-inv setup h line.0 own w row).emits
act_uncommitted setup h (Act.HostReturn c) own w row = ap (λ (y : Emission). y.commit) (h10_return-inv h c own w row).emits
act_uncommitted setup h (Act.Serve k tag) own w row = absurd (none-some w row)
act_uncommitted setup h (Act.Clean k tag) own w row = absurd (none-some w row)
act_uncommitted setup h (Act.Start k tag) own w row = absurd (none-some w row)
act_uncommitted setup h (Act.Evict k tag) own w row = absurd (none-some w row)
act_uncommitted setup h (Act.Snoop k line) own w row = absurd (none-some w row)
act_uncommitted setup h (Act.Finish line) own w row = absurd (none-some w row)
act_uncommitted setup h (Act.DeviceReturn k c) own w row = absurd (none-some w row)

-- an event of the host keeps the line
cause_kept : (setup : Configuration) (h : ℕ) (cause : Cause) (own : List Event) (sends : Sends) (commit : Option Commit) (w : Emission) → host_emission setup h cause own ≡ Some w → sends ≡ w.sends → commit ≡ w.commit
    → AreFit (λ b. open_at b own) → (a : ℕ) → HostKeptLine setup own a → KeptNext setup cause sends commit own a
cause_kept setup h (Cause.Op s i op) own sends commit w row sent committed fit a old = operation_kept setup own a old h s i op w sends commit (operation_row setup h s i op own w sends commit row sent committed) sent committed
cause_kept setup h (Cause.Take k m) own sends commit w row sent committed fit a old = take_kept setup own a old h k m w sends commit (host_take-inv setup h k m own w row).same committed fit
cause_kept setup h (Cause.Act act) own sends commit w row sent committed fit a old =
    subst (λ c. KeptNext setup (Cause.Act act) sends c own a) (sym (committed ∙ act_uncommitted setup h act own w row)) (act_kept setup own a old h act w sends row sent)

-- a host's line is kept, by recursion over the host's own events
pub host_lines_kept : (setup : Configuration) (opening : List (Line × Bytes64)) (h : ℕ) → is_device h ≡ false → (own : List Event) → is_own_run setup opening h own ≡ true → (a : ℕ) → HostKeptLine setup own a
host_lines_kept setup opening h host [] run a = omega arith
host_lines_kept setup opening h host (e ∷ past) run a =
    let on = host_goes_on setup opening h host e past run in
    cause_kept setup h e.cause past e.sends e.commit on.step.w on.step.row on.step.sends on.step.commit (open_lines_fit setup opening h host past on.before) a (host_lines_kept setup opening h host past on.before a)
