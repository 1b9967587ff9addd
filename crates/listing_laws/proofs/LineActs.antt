-- A line's numbers are kept by the acts of its host.
use Rattle.std.proofs.Common.{◌≡◌, ℕ, ◌+◌, ◌≤◌, Bool, true, false, List, ◌++◌, Option, Some, None, cond, count_by, refl, sym, ◌∙◌, ap, subst, arith, inl, inr}
use Rattle.std.specs.Prelude.{is_some, nat_le, not, ◌-◌, ◌==◌, ◌&&◌, ◌||◌}
use Rattle.std.specs.List.{list_all}
use Rattle.std.specs.Option.{option_map_or}
use Rattle.std.proofs.lemmas.Bool.{and_parts, eq-eqb, eqb-true, false≢true, ne_eqb, not-true, or_cases}
use Rattle.std.proofs.lemmas.Option.{none-some}
use Rattle.cxl_message.specs.declared.channels.Channel.{Channel}
use Rattle.cxl_message.specs.declared.events.Act.{Act}
use Rattle.cxl_message.specs.declared.events.Cause.{Cause}
use Rattle.cxl_message.specs.declared.events.Event.{Event}
use Rattle.cxl_message.specs.declared.events.Sends.{Sends}
use Rattle.cxl_message.specs.declared.identifiers.Line.{Line}
use Rattle.cxl_message.specs.declared.messages.Message.{Message}
use Rattle.cxl_message.specs.declared.opcodes.RspOp.{RspOp}
use Rattle.cxl_message.specs.declared.opcodes.SnpOp.{SnpOp}
use Rattle.cxl_message.specs.Codes.{copy_code}
use Rattle.cxl_message.specs.Lists.{is_in}
use Rattle.cxl_message.specs.Setup.{Configuration}
use Rattle.coherence_model.specs.Cache.{copy, has_copy, is_modified}
use Rattle.coherence_model.specs.Copies.{is_in_whole_block, is_shared_response, keeps_shared, no_copy, shared}
use Rattle.coherence_model.specs.Emission.{Emission}
use Rattle.coherence_model.specs.HostActs.{host_acts, is_data_snoop, is_ready, may_answer_in_block, response_for, stays_shared, write_back_message}
use Rattle.coherence_model.specs.ListingFacts.{grants_ownership}
use Rattle.coherence_model.specs.SnoopFacts.{answers_line, answers_line_by}
use Rattle.coherence_model.specs.Snoops.{Snoop, is_snooped, snoop_at, whole_block_at}
use Rattle.coherence_model.specs.Stages.{Stage, is_early, is_early_or_written, is_new, is_new_or_late, stage}
use Rattle.coherence_model.specs.Transactions.{Kind, is_open, open_at}
use Rattle.coherence_model.specs.Words.{one_if}
use Rattle.coherence_lemmas.proofs.HostActs.{Answered, BlockAnswered, WrittenBack, h10_return-inv, h7_conflict-inv, h8_write_back-inv, h9_answer-inv, h9_answer_block-inv}
use Rattle.request_laws.proofs.Counts.{all_holds}
use Rattle.request_laws.proofs.FreeTags.{nothing_there}
use Rattle.request_laws.proofs.Places.{on_channel}
use Rattle.snoop_laws.proofs.Counts.{any_counts}
use Rattle.listing_laws.proofs.Copies.{copy_next, response_unwritable, response_valid, valid_count, writable_count}
use Rattle.listing_laws.proofs.Early.{EarlyKept, granted}
use Rattle.listing_laws.proofs.HostLines.{HostKeptLine, flag, flag_up, flags, is_write_stage}
use Rattle.listing_laws.proofs.Lines.{LineKept, answers_shared, count_quiet, quiet_one, writes_shared}
use Rattle.listing_laws.proofs.Numbers.{kept_answered, kept_as, kept_written}
use Rattle.listing_laws.proofs.Owners.{OpenAs, granted_so, grants_shared}
use Rattle.listing_laws.proofs.UnderWay.{count_one}
use Rattle.listing_laws.proofs.WriteBackLines.{cleans_line, writes_line}

-- what a line that is ready to be answered says: it isn't open, or its conflict ended early
data ReadyLine (setup : Configuration) (own : List Event) (a : ℕ) : Type 0 where
  ReadyClosed : is_open a own ≡ false → (stage setup a own ≡ Stage.Writing → ⊥) → ReadyLine setup own a
  ReadyEarly : stage setup a own ≡ Stage.Early → ReadyLine setup own a

-- at stage New or Late nothing is written
no_stage : (st : Stage) → is_new_or_late st ≡ true → st ≡ Stage.Writing → ⊥
no_stage Stage.New h e = cc
no_stage (Stage.Asked t) h e = cc
no_stage Stage.Early h e = cc
no_stage Stage.Late h e = cc
no_stage Stage.Writing h e = false≢true h
no_stage Stage.Written h e = cc

-- a snooped line with a write has nothing open
written_closed : (o n z x : ℕ) → (o + x ≤ 1) × (n + z + o ≤ 2) × (n + z + x ≤ 2) → n ≡ 1 → z ≡ 1 → o ≡ 0
written_closed o n z x h en ez = omega arith

-- what is 0 isn't open
not_open : (b : Bool) → one_if b ≡ 0 → b ≡ false
not_open true h = absurd (omega arith)
not_open false h = refl

-- a snooped line at stage Early or Written may be answered, by its stage
ended_by : (setup : Configuration) (own : List Event) (a : ℕ) (st : Stage) → stage setup a own ≡ st → is_early_or_written st ≡ true → is_snooped a own ≡ true → HostKeptLine setup own a → ReadyLine setup own a
ended_by setup own a Stage.New is h snooped kept = absurd (false≢true h)
ended_by setup own a (Stage.Asked t) is h snooped kept = absurd (false≢true h)
ended_by setup own a Stage.Early is h snooped kept = ReadyEarly is
ended_by setup own a Stage.Late is h snooped kept = absurd (false≢true h)
ended_by setup own a Stage.Writing is h snooped kept = absurd (false≢true h)
ended_by setup own a Stage.Written is h snooped kept =
    ReadyClosed (not_open (is_open a own) (written_closed _ _ _ _ kept (flag_up _ snooped) (ap (λ st. one_if (is_write_stage st)) is))) (λ e. no_writing (sym is ∙ e))
  where
    no_writing : Stage.Written ≡ Stage.Writing → ⊥
    no_writing e = cc

-- a snooped line that is ready has a stage at which it may be answered
ready_line : (setup : Configuration) (own : List Event) (a : ℕ) → is_ready setup a own ≡ true → is_snooped a own ≡ true → HostKeptLine setup own a → ReadyLine setup own a
ready_line setup own a ready snooped kept = elim (or_cases (is_early_or_written (stage setup a own)) _ ready) [
  | inl ended ↦ ended_by setup own a (stage setup a own) refl ended snooped kept
  | inr waiting ↦ (
      let three = and_parts (is_new_or_late (stage setup a own) && not (is_open a own)) (not (is_modified setup a own)) waiting in
      let two = and_parts (is_new_or_late (stage setup a own)) (not (is_open a own)) three.0 in
      ReadyClosed (not-true _ two.1) (no_stage (stage setup a own) two.0)
      )
]

-- an offset goes back to the line
sum_back : (first line : ℕ) → first ≤ line → first + (line - first) ≡ line
sum_back first line h = omega arith

-- an answer for one line answers that line
answer_is : (b : Bool) (h f x a : ℕ) (dev : List Event) → answers_line_by (cond b RspOp.S RspOp.I) h f x a dev ≡ ((a == x) || false)
answer_is true h f x a dev = refl
answer_is false h f x a dev = refl

-- BIRspS says that the copy is shared
response_shared : (b : Bool) → is_shared_response (cond b RspOp.S RspOp.I) ≡ b
response_shared true = refl
response_shared false = refl

cond_flag : (b : Bool) → cond b 1 0 ≡ one_if b
cond_flag true = refl
cond_flag false = refl

module _ (setup : Configuration) (h : ℕ) (own dev : List Event) (a : ℕ) (fr hr fw hw ndr rs : List Message) (l : ℕ)
    (host_kept : HostKeptLine setup own a) (early : is_snooped a own ≡ true → stage setup a own ≡ Stage.Early → EarlyKept ndr (open_at a own))
    (no_writes : (stage setup a own ≡ Stage.Writing → ⊥) → (OpenAs own a Kind.DirtyEviction → ⊥) → count_by (writes_line a) fw + count_by (writes_line a) hw ≡ 0)
    (no_answers : is_snooped a own ≡ true → count_by (answers_line h a dev) rs ≡ 0)
    (first_below : (line : ℕ) (s : Snoop) → snoop_at line own ≡ Some s → s.first ≤ line)
    (same_block : (line : ℕ) → is_some (whole_block_at line own) ≡ true → is_in_whole_block line a own ≡ answers_line h a dev (Message.BiRsp RspOp.IBlk (record { 0 = line }) 0))
    (block_snooped : (line : ℕ) → is_in_whole_block line a own ≡ true → is_snooped a own ≡ true)
    (old : LineKept h a (copy setup a own) (open_at a own) dev fr hr fw hw ndr rs l) where
  -- the line's numbers are kept after an act
  abbrev Next : Act → Sends → Type 0
  Next act sends =
      LineKept h a (copy_next setup (Cause.Act act) sends None own a) (open_at a own) dev (fr ++ on_channel h Channel.Req sends) hr (fw ++ on_channel h Channel.Rwd sends) hw ndr (rs ++ on_channel h Channel.BiRsp sends) l

  -- a line that isn't open has nothing open
  closed_open : is_open a own ≡ false → open_at a own ≡ None
  closed_open closed = nothing_there (open_at a own) closed

  -- a line that isn't open has no grants
  closed_grants : is_open a own ≡ false → granted ndr (open_at a own) ≡ 0
  closed_grants closed = ap (granted ndr) (closed_open closed)

  -- a line that isn't open has no dirty eviction
  closed_dirty : is_open a own ≡ false → OpenAs own a Kind.DirtyEviction → ⊥
  closed_dirty closed o = none-some o.x (sym (closed_open closed) ∙ o.there)

  -- a line that is ready has nothing granted and nothing written
  ready_none : ReadyLine setup own a → is_snooped a own ≡ true → (granted ndr (open_at a own) ≡ 0) × (count_by (writes_line a) fw + count_by (writes_line a) hw ≡ 0)
  ready_none (ReadyClosed closed unwritten) snooped = (closed_grants closed, no_writes unwritten (closed_dirty closed))
  ready_none (ReadyEarly is) snooped =
      let kept = early snooped is in
      (kept.none, no_writes (λ st. no_writing (sym is ∙ st)) (λ o. kept.other o.x o.there o.kind))
    where
      no_writing : Stage.Early ≡ Stage.Writing → ⊥
      no_writing e = cc

  -- ---- write-backs

  -- a write back keeps the line's numbers
  back_line : (line : Line) (w : Emission) (sends : Sends) (inv : WrittenBack setup h line.0 own (snoop_at line.0 own) w) → sends ≡ Sends.One (record { host = h; message = write_back_message setup inv.s.op line.0 own }) → (here : Bool) → (line.0 == a) ≡ here
      → LineKept h a (cond here (cond (keeps_shared (write_back_message setup inv.s.op line.0 own)) (shared (copy setup a own)) no_copy) (copy setup a own)) (open_at a own) dev
      (fr ++ on_channel h Channel.Req sends) hr (fw ++ on_channel h Channel.Rwd sends) hw ndr (rs ++ on_channel h Channel.BiRsp sends) l
  back_line line w sends inv sent true is =
      let m = write_back_message setup inv.s.op line.0 own in
      let same = eqb-true line.0 a is in
      let closed = closed_open (subst (λ x. is_open x own ≡ false) same inv.closed) in
      let s0 : granted_so grants_shared ndr (open_at a own) ≡ 0 = ap (granted_so grants_shared ndr) closed in
      let g0 : granted_so grants_ownership ndr (open_at a own) ≡ 0 = ap (granted_so grants_ownership ndr) closed in
      let code : copy_code (copy setup a own).state ≡ 3 = eqb-true _ 3 (subst (λ x. is_modified setup x own ≡ true) same inv.modified) in
      let one : writable_count (copy setup a own) ≡ 1 = ap (λ n. one_if (nat_le 2 n)) code in
      let n = one_if (keeps_shared m) in
      let w1 = count_one (writes_line a) h Channel.Rwd sends m fw sent in
      let x1 : cond {A = ℕ} (line.0 == a) 1 0 ≡ 1 = ap {B = ℕ} (λ b. cond b 1 0) is in
      let w2 = count_one (writes_shared a) h Channel.Rwd sends m fw sent in
      let x2 : cond {A = ℕ} ((line.0 == a) && keeps_shared m) 1 0 ≡ one_if (keeps_shared m) = ap {B = ℕ} (λ b. cond (b && keeps_shared m) 1 0) is ∙ cond_flag (keeps_shared m) in
      kept_as _ _ _ _ _ _ _ _ _ _ _ _ _ _ _ _ _ _ _ _ (response_valid m (copy setup a own)) (response_unwritable m (copy setup a own)) s0 g0 (omega arith) (omega arith)
      (ap (λ k. k + count_by (cleans_line a) hr) (count_quiet (cleans_line a) h Channel.Req sends m fr sent refl)) (count_quiet (answers_line h a dev) h Channel.BiRsp sends m rs sent refl)
      (count_quiet (answers_shared h a dev) h Channel.BiRsp sends m rs sent refl) refl
      (kept_written n (valid_count (copy setup a own)) _ _ _ _ _ _ (flag (keeps_shared m)) (kept_as _ _ _ _ _ _ _ _ _ _ _ _ _ _ _ _ _ _ _ _ refl (sym one) (sym s0) (sym g0) refl refl refl refl refl refl old))
  back_line line w sends inv sent false is =
      quiet_one h a (copy setup a own) (open_at a own) dev fr hr fw hw ndr rs l sends (write_back_message setup inv.s.op line.0 own) sent is refl refl old

  -- ---- answers

  -- an answer with BIRspS keeps a copy that was there
  shared_valid : (op : SnpOp) → one_if (stays_shared setup op a own) ≤ valid_count (copy setup a own)
  shared_valid op = flags (has_copy setup a own) (stays_shared setup op a own) (λ stays. (and_parts (is_data_snoop op && not (is_early (stage setup a own))) (has_copy setup a own) stays).1)

  -- an answer keeps the line's numbers
  answer_line : (line : Line) (w : Emission) (sends : Sends) (inv : Answered setup h line.0 own (snoop_at line.0 own) w)
      → sends ≡ Sends.One (record { host = h; message = Message.BiRsp (response_for setup inv.s.op line.0 own) (record { 0 = inv.s.first }) (line.0 - inv.s.first) }) → (here : Bool) → (line.0 == a) ≡ here
      → LineKept h a (cond here (cond (keeps_shared (Message.BiRsp (response_for setup inv.s.op line.0 own) (record { 0 = inv.s.first }) (line.0 - inv.s.first))) (shared (copy setup a own)) no_copy) (copy setup a own)) (open_at a own) dev
      (fr ++ on_channel h Channel.Req sends) hr (fw ++ on_channel h Channel.Rwd sends) hw ndr (rs ++ on_channel h Channel.BiRsp sends) l
  answer_line line w sends inv sent true is =
      let m : Message = Message.BiRsp (response_for setup inv.s.op line.0 own) (record { 0 = inv.s.first }) (line.0 - inv.s.first) in
      let same = eqb-true line.0 a is in
      let snooped : is_snooped a own ≡ true = subst (λ x. is_snooped x own ≡ true) same (ap is_some inv.snooped) in
      let ready = ready_line setup own a (subst (λ x. is_ready setup x own ≡ true) same inv.ready) snooped host_kept in
      let none = ready_none ready snooped in
      let stays = stays_shared setup inv.s.op line.0 own in
      let back = sum_back inv.s.first line.0 (first_below line.0 inv.s inv.snooped) in
      let names : answers_line h a dev m ≡ true = answer_is stays h inv.s.first (inv.s.first + (line.0 - inv.s.first)) a dev ∙ ap (λ x. (a == x) || false) (back ∙ same) ∙ ap (λ b. b || false) (eq-eqb a a refl) in
      let keeps : keeps_shared m ≡ stays = response_shared stays in
      let n = one_if (keeps_shared m) in
      let less : n ≤ valid_count (copy setup a own) =
      subst (λ k. k ≤ valid_count (copy setup a own)) (ap one_if (sym (keeps ∙ ap (λ x. stays_shared setup inv.s.op x own) same))) (shared_valid inv.s.op) in
      let r1 = count_one (answers_line h a dev) h Channel.BiRsp sends m rs sent in
      let x1 : cond {A = ℕ} (answers_line h a dev m) 1 0 ≡ 1 = ap {B = ℕ} (λ b. cond b 1 0) names in
      let r2 = count_one (answers_shared h a dev) h Channel.BiRsp sends m rs sent in
      let x2 : cond {A = ℕ} (answers_line h a dev m && keeps_shared m) 1 0 ≡ one_if (keeps_shared m) = ap {B = ℕ} (λ b. cond (b && keeps_shared m) 1 0) names ∙ cond_flag (keeps_shared m) in
      kept_as _ _ _ _ _ _ _ _ _ _ _ _ _ _ _ _ _ _ _ _ (response_valid m (copy setup a own)) (response_unwritable m (copy setup a own)) refl refl
      (ap (λ k. k + count_by (writes_line a) hw) (count_quiet (writes_line a) h Channel.Rwd sends m fw sent refl)) (ap (λ k. k + count_by (writes_shared a) hw) (count_quiet (writes_shared a) h Channel.Rwd sends m fw sent refl))
      (ap (λ k. k + count_by (cleans_line a) hr) (count_quiet (cleans_line a) h Channel.Req sends m fr sent refl)) (omega arith) (omega arith) refl
      (kept_answered n (valid_count (copy setup a own)) (writable_count (copy setup a own)) _ _ _ _ _ _ _ _ less (flag (keeps_shared m)) none.0 none.1 (no_answers snooped) old)
  answer_line line w sends inv sent false is =
      let back = sum_back inv.s.first line.0 (first_below line.0 inv.s inv.snooped) in
      quiet_one h a (copy setup a own) (open_at a own) dev fr hr fw hw ndr rs l sends (Message.BiRsp (response_for setup inv.s.op line.0 own) (record { 0 = inv.s.first }) (line.0 - inv.s.first)) sent refl refl
      (answer_is (stays_shared setup inv.s.op line.0 own) h inv.s.first (inv.s.first + (line.0 - inv.s.first)) a dev ∙ ap (λ x. (a == x) || false) back
      ∙ ap (λ b. b || false) (ne_eqb a line.0 (λ same. false≢true (sym is ∙ eq-eqb line.0 a (sym same))))) old

  -- each line of a block that is answered may be answered
  block_may : (line : ℕ) (o : Option Snoop) → whole_block_at line own ≡ o → option_map_or (λ (s : Snoop). list_all (may_answer_in_block setup own) s.unanswered) o false ≡ true → is_in_whole_block line a own ≡ true
      → may_answer_in_block setup own a ≡ true
  block_may line None is may within = absurd (false≢true may)
  block_may line (Some s) is may within =
      all_holds (may_answer_in_block setup own) a s.unanswered may (any_counts (λ y. a == y) s.unanswered (ap (λ o. option_map_or (λ (z : Snoop). is_in a z.unanswered) o false) (sym is) ∙ within))

  -- at stage New nothing is written
  new_not_writing : (st : Stage) → is_new st ≡ true → st ≡ Stage.Writing → ⊥
  new_not_writing Stage.New n e = cc
  new_not_writing (Stage.Asked t) n e = cc
  new_not_writing Stage.Early n e = cc
  new_not_writing Stage.Late n e = cc
  new_not_writing Stage.Writing n e = false≢true n
  new_not_writing Stage.Written n e = cc

  -- what holds of a block needs the block
  block_found : (o : Option Snoop) (p : Snoop → Bool) → option_map_or p o false ≡ true → is_some o ≡ true
  block_found None p e = absurd (false≢true e)
  block_found (Some s) p e = refl

  -- no count where the second is false
  no_both : (b : Bool) → ◌≡◌ {A = ℕ} (cond (b && false) 1 0) 0
  no_both true = refl
  no_both false = refl

  -- an answer for a block keeps the line's numbers
  block_line : (line : Line) (w : Emission) (sends : Sends) (inv : BlockAnswered setup h line.0 own w) → sends ≡ Sends.One (record { host = h; message = Message.BiRsp RspOp.IBlk (record { 0 = line.0 }) 0 }) → (here : Bool) → is_in_whole_block line.0 a own ≡ here
      → LineKept h a (cond here no_copy (copy setup a own)) (open_at a own) dev (fr ++ on_channel h Channel.Req sends) hr (fw ++ on_channel h Channel.Rwd sends) hw ndr (rs ++ on_channel h Channel.BiRsp sends) l
  block_line line w sends inv sent true is =
      let m : Message = Message.BiRsp RspOp.IBlk (record { 0 = line.0 }) 0 in
      let may = block_may line.0 (whole_block_at line.0 own) refl inv.may is in
      let three = and_parts (is_new (stage setup a own) && not (is_open a own)) (not (is_modified setup a own)) may in
      let two = and_parts (is_new (stage setup a own)) (not (is_open a own)) three.0 in
      let closed = not-true _ two.1 in
      let names : answers_line h a dev m ≡ true = sym (same_block line.0 (block_found (whole_block_at line.0 own) _ inv.may)) ∙ is in
      let none = no_writes (new_not_writing (stage setup a own) two.0) (closed_dirty closed) in
      let r1 = count_one (answers_line h a dev) h Channel.BiRsp sends m rs sent in
      let x1 : cond {A = ℕ} (answers_line h a dev m) 1 0 ≡ 1 = ap {B = ℕ} (λ b. cond b 1 0) names in
      let r2 = count_one (answers_shared h a dev) h Channel.BiRsp sends m rs sent in
      let x2 : cond {A = ℕ} (answers_line h a dev m && false) 1 0 ≡ 0 = no_both (answers_line h a dev m) in
      kept_as _ _ _ _ _ _ _ _ _ _ _ _ _ _ _ _ _ _ _ _ refl refl refl refl
      (ap (λ k. k + count_by (writes_line a) hw) (count_quiet (writes_line a) h Channel.Rwd sends m fw sent refl)) (ap (λ k. k + count_by (writes_shared a) hw) (count_quiet (writes_shared a) h Channel.Rwd sends m fw sent refl))
      (ap (λ k. k + count_by (cleans_line a) hr) (count_quiet (cleans_line a) h Channel.Req sends m fr sent refl)) (omega arith) (omega arith) refl
      (kept_answered 0 (valid_count (copy setup a own)) (writable_count (copy setup a own)) _ _ _ _ _ _ _ _ (omega arith) (omega arith) (closed_grants closed) none (no_answers (block_snooped line.0 is)) old)
  block_line line w sends inv sent false is =
      quiet_one h a (copy setup a own) (open_at a own) dev fr hr fw hw ndr rs l sends (Message.BiRsp RspOp.IBlk (record { 0 = line.0 }) 0) sent refl refl
      (sym (same_block line.0 (block_found (whole_block_at line.0 own) _ inv.may)) ∙ is) old

  -- a line's numbers are kept by an act
  pub act_line : (act : Act) (w : Emission) (sends : Sends) → host_acts setup h act own ≡ Some w → sends ≡ w.sends → Next act sends
  act_line (Act.Conflict line) w sends row sent =
      let inv = h7_conflict-inv setup h line.0 own (open_at line.0 own) w row in
      quiet_one h a (copy setup a own) (open_at a own) dev fr hr fw hw ndr rs l sends (Message.BiConflict (record { 0 = inv.o.tag })) (sent ∙ ap (λ (y : Emission). y.sends) inv.emits) refl refl refl old
  act_line (Act.WriteBack line) w sends row sent =
      let inv = h8_write_back-inv setup h line.0 own (snoop_at line.0 own) w row in
      let one = sent ∙ ap (λ (y : Emission). y.sends) inv.emits in
      subst (λ c. LineKept h a c (open_at a own) dev (fr ++ on_channel h Channel.Req sends) hr (fw ++ on_channel h Channel.Rwd sends) hw ndr (rs ++ on_channel h Channel.BiRsp sends) l)
      (sym (ap (λ x. copy_next setup (Cause.Act (Act.WriteBack line)) x None own a) one)) (back_line line w sends inv one (line.0 == a) refl)
  act_line (Act.Answer line) w sends row sent =
      let inv = h9_answer-inv setup h line.0 own (snoop_at line.0 own) w row in
      let one = sent ∙ ap (λ (y : Emission). y.sends) inv.emits in
      subst (λ c. LineKept h a c (open_at a own) dev (fr ++ on_channel h Channel.Req sends) hr (fw ++ on_channel h Channel.Rwd sends) hw ndr (rs ++ on_channel h Channel.BiRsp sends) l)
      (sym (ap (λ x. copy_next setup (Cause.Act (Act.Answer line)) x None own a) one)) (answer_line line w sends inv one (line.0 == a) refl)
  act_line (Act.AnswerBlock line) w sends row sent =
      let inv = h9_answer_block-inv setup h line.0 own w row in block_line line w sends inv (sent ∙ ap (λ (y : Emission). y.sends) inv.emits) (is_in_whole_block line.0 a own) refl
  act_line (Act.HostReturn c) w sends row sent =
      quiet_one h a (copy setup a own) (open_at a own) dev fr hr fw hw ndr rs l sends (Message.Credit c) (sent ∙ ap (λ (y : Emission). y.sends) (h10_return-inv h c own w row).emits) refl refl refl old
  act_line (Act.Serve k tag) w sends row sent = absurd (none-some w row)
  act_line (Act.Clean k tag) w sends row sent = absurd (none-some w row)
  act_line (Act.Start k tag) w sends row sent = absurd (none-some w row)
  act_line (Act.Evict k tag) w sends row sent = absurd (none-some w row)
  act_line (Act.Snoop k line) w sends row sent = absurd (none-some w row)
  act_line (Act.Finish line) w sends row sent = absurd (none-some w row)
  act_line (Act.DeviceReturn k c) w sends row sent = absurd (none-some w row)
