-- The snoops that a host holds are kept: disjoint, sound, and a line with a conflict or write-back stays snooped.
use Rattle.std.proofs.Common.{◌≡◌, ℕ, ◌+◌, ◌≤◌, Bool, true, false, List, [], ◌∷◌, ◌++◌, Some, refl, sym, ◌∙◌, ap, subst, arith, inl, inr}
use Rattle.std.specs.Prelude.{not, ◌&&◌, ◌==◌, ◌||◌}
use Rattle.std.specs.List.{list_all}
use Rattle.std.proofs.lemmas.Bool.{and_parts, eqb-true, false≢true, le-leb, leb-true, leb-false, not-true}
use Rattle.cxl_message.specs.declared.events.Act.{Act}
use Rattle.cxl_message.specs.declared.events.Cause.{Cause}
use Rattle.cxl_message.specs.declared.events.Event.{Event}
use Rattle.cxl_message.specs.declared.identifiers.Bytes64.{Bytes64}
use Rattle.cxl_message.specs.declared.identifiers.Line.{Line}
use Rattle.cxl_message.specs.declared.messages.Message.{Message}
use Rattle.cxl_message.specs.declared.opcodes.SnpOp.{SnpOp}
use Rattle.cxl_message.specs.declared.opcodes.Span.{Span}
use Rattle.cxl_message.specs.Setup.{Configuration}
use Rattle.cxl_message.specs.Spans.{lines_of}
use Rattle.coherence_model.specs.Cache.{is_modified}
use Rattle.coherence_model.specs.Emission.{Emission, nothing}
use Rattle.coherence_model.specs.Fitting.{is_device}
use Rattle.coherence_model.specs.HostActs.{may_answer_in_block}
use Rattle.coherence_model.specs.HostRows.{host_emission}
use Rattle.coherence_model.specs.Snoops.{Snoop, buffered_snoops, is_snooped, is_whole_block, snoops_after}
use Rattle.coherence_model.specs.Stages.{Stage, is_early_or_written, is_new, is_new_or_late, stage}
use Rattle.coherence_model.specs.Transactions.{is_open}
use Rattle.request_laws.proofs.BufferedSnoops.{AreSound, kept_by_block_answer, snooped-total, sound-answer, sound-append, sound-filter, sound-taken, total, total-answer, total-answer_other, total-append, total-cons, total-filter}
use Rattle.request_laws.proofs.Counts.{all_holds, times, times-lines}
use Rattle.request_laws.proofs.HostTakes.{answer_row, block_row, take_row}
use Rattle.request_laws.proofs.Options.{when_some}
use Rattle.request_laws.proofs.OwnRuns.{host_goes_on}
use Rattle.coherence_model.specs.OwnRuns.{is_own_run}

-- the snoops are sound, and no line is in them twice
pub record SnoopsKept (ss : List Snoop) : Type 0 where
  pub sound : AreSound ss
  pub apart : (a : ℕ) → total a ss ≤ 1

-- a line is snooped just where it counts
pub snooped_counts : (a : ℕ) (past : List Event) → is_snooped a past ≡ true → 1 ≤ total a (buffered_snoops past)
snooped_counts a past h = leb-true 1 (total a (buffered_snoops past)) (sym (snooped-total a (buffered_snoops past)) ∙ h)

pub counts_snooped : (a : ℕ) (past : List Event) → 1 ≤ total a (buffered_snoops past) → is_snooped a past ≡ true
counts_snooped a past h = snooped-total a (buffered_snoops past) ∙ le-leb 1 (total a (buffered_snoops past)) h

pub not_snooped : (a : ℕ) (past : List Event) → is_snooped a past ≡ false → total a (buffered_snoops past) ≡ 0
not_snooped a past h = let few = leb-false 1 (total a (buffered_snoops past)) (sym (snooped-total a (buffered_snoops past)) ∙ h) in omega arith

apart_taken : (n m : ℕ) → n ≤ 1 → m ≤ 1 → (1 ≤ m → n ≡ 0) → n + (m + 0) ≤ 1
apart_taken n m h k free = grind arith

snoop_taken : (past : List Event) (op : SnpOp) (first : ℕ) (span : Span) → SnoopsKept (buffered_snoops past) → list_all (λ a. not (is_snooped a past)) (lines_of first span) ≡ true
    → SnoopsKept (buffered_snoops past ++ record { op = op; first = first; span = span; unanswered = lines_of first span } ∷ [])
snoop_taken past op first span kept free =
    let s : Snoop = record { op = op; first = first; span = span; unanswered = lines_of first span } in
    record {
      sound = sound-append (buffered_snoops past) (s ∷ []) kept.sound (sound-taken op first span, tt);
      apart = λ a.
          subst (λ n. n ≤ 1) (sym (total-append a (buffered_snoops past) (s ∷ []) ∙ ap (λ n. total a (buffered_snoops past) + n) (total-cons a s [])))
          (apart_taken (total a (buffered_snoops past)) (times a (lines_of first span)) (kept.apart a) (times-lines first a span)
          (λ here. not_snooped a past (not-true _ (all_holds (λ b. not (is_snooped b past)) a (lines_of first span) free here))));
    }

fewer : (past : List Event) (ss : List Snoop) → AreSound ss → ((a : ℕ) → total a ss ≤ total a (buffered_snoops past)) → SnoopsKept (buffered_snoops past) → SnoopsKept ss
fewer past ss sound less kept = record { sound = sound; apart = λ a. let n = less a in let m = kept.apart a in omega arith }

take_keeps_snoops : (setup : Configuration) (h : ℕ) (host : ℕ) (m : Message) (past : List Event) (w : Emission) → host_emission setup h (Cause.Take host m) past ≡ Some w
    → SnoopsKept (buffered_snoops past) → SnoopsKept (snoops_after (Cause.Take host m) (buffered_snoops past))
take_keeps_snoops setup h host (Message.Req _ _ _ _ _) past w row kept = kept
take_keeps_snoops setup h host (Message.MemWr _ _ _ _ _) past w row kept = kept
take_keeps_snoops setup h host (Message.BiConflict _) past w row kept = kept
take_keeps_snoops setup h host (Message.BiRsp _ _ _) past w row kept = kept
take_keeps_snoops setup h host (Message.Ndr _ _) past w row kept = kept
take_keeps_snoops setup h host (Message.MemData _ _) past w row kept = kept
take_keeps_snoops setup h host (Message.BiSnp op bitag line span) past w row kept =
    snoop_taken past op line.0 span kept
    (when_some (list_all (λ a. not (is_snooped a past)) (lines_of line.0 span)) nothing w (take_row setup h (Message.BiSnp op bitag line span) past w row)).0
take_keeps_snoops setup h host (Message.Credit _) past w row kept = kept

act_keeps_snoops : (act : Act) (past : List Event) → SnoopsKept (buffered_snoops past) → SnoopsKept (snoops_after (Cause.Act act) (buffered_snoops past))
act_keeps_snoops (Act.Conflict _) past kept = kept
act_keeps_snoops (Act.WriteBack _) past kept = kept
act_keeps_snoops (Act.Answer line) past kept =
    fewer past _ (sound-answer line.0 (buffered_snoops past) kept.sound) (λ a. total-answer a line.0 (buffered_snoops past)) kept
act_keeps_snoops (Act.AnswerBlock line) past kept =
    fewer past _ (sound-filter (λ s. not (is_whole_block line.0 s)) (buffered_snoops past) kept.sound) (λ a. total-filter a (λ s. not (is_whole_block line.0 s)) (buffered_snoops past)) kept
act_keeps_snoops (Act.HostReturn _) past kept = kept
act_keeps_snoops (Act.Serve _ _) past kept = kept
act_keeps_snoops (Act.Clean _ _) past kept = kept
act_keeps_snoops (Act.Start _ _) past kept = kept
act_keeps_snoops (Act.Evict _ _) past kept = kept
act_keeps_snoops (Act.Snoop _ _) past kept = kept
act_keeps_snoops (Act.Finish _) past kept = kept
act_keeps_snoops (Act.DeviceReturn _ _) past kept = kept

cause_keeps_snoops : (setup : Configuration) (h : ℕ) (cause : Cause) (past : List Event) (w : Emission) → host_emission setup h cause past ≡ Some w
    → SnoopsKept (buffered_snoops past) → SnoopsKept (snoops_after cause (buffered_snoops past))
cause_keeps_snoops setup h (Cause.Op s i op) past w row kept = kept
cause_keeps_snoops setup h (Cause.Take host m) past w row kept = take_keeps_snoops setup h host m past w row kept
cause_keeps_snoops setup h (Cause.Act act) past w row kept = act_keeps_snoops act past kept

pub snoops_kept : (setup : Configuration) (opening : List (Line × Bytes64)) (h : ℕ) → is_device h ≡ false → (mine : List Event) → is_own_run setup opening h mine ≡ true → SnoopsKept (buffered_snoops mine)
snoops_kept setup opening h host [] run = record { sound = tt; apart = λ a. omega arith }
snoops_kept setup opening h host (e ∷ past) run =
    let on = host_goes_on setup opening h host e past run in
    cause_keeps_snoops setup h e.cause past on.step.w on.step.row (snoops_kept setup opening h host past on.before)

-- whether a stage waits for a message, so that its line may not be answered
abbrev pub is_held : Stage → Bool
is_held Stage.New = false
is_held (Stage.Asked _) = true
is_held Stage.Early = false
is_held Stage.Late = false
is_held Stage.Writing = true
is_held Stage.Written = false

held_waits : (st : Stage) → is_held st ≡ true → (is_early_or_written st ≡ false) × (is_new_or_late st ≡ false) × (is_new st ≡ false)
held_waits Stage.New h = cc
held_waits (Stage.Asked t) h = (refl, refl, refl)
held_waits Stage.Early h = cc
held_waits Stage.Late h = cc
held_waits Stage.Writing h = (refl, refl, refl)
held_waits Stage.Written h = cc

-- a held line isn't ready
held_not_ready : (st : Stage) (o m : Bool) → is_held st ≡ true → (is_early_or_written st || (is_new_or_late st && o && m)) ≡ true → ⊥
held_not_ready Stage.New o m h k = cc
held_not_ready (Stage.Asked t) o m h k = cc
held_not_ready Stage.Early o m h k = cc
held_not_ready Stage.Late o m h k = cc
held_not_ready Stage.Writing o m h k = cc
held_not_ready Stage.Written o m h k = cc

answer_keeps : (setup : Configuration) (h a l : ℕ) (past : List Event) (w : Emission) (here : Bool) → (a == l) ≡ here → host_emission setup h (Cause.Act (Act.Answer (record { 0 = l }))) past ≡ Some w
    → is_held (stage setup a past) ≡ true → 1 ≤ total a (buffered_snoops past) → 1 ≤ total a (snoops_after (Cause.Act (Act.Answer (record { 0 = l }))) (buffered_snoops past))
answer_keeps setup h a l past w true is row held snooped =
    let answer = answer_row setup h l past w row in
    absurd (held_not_ready (stage setup l past) (not (is_open l past)) (not (is_modified setup l past)) (subst (λ x. is_held (stage setup x past) ≡ true) (eqb-true a l is) held) answer.ready)
answer_keeps setup h a l past w false is row held snooped = subst (λ n. 1 ≤ n) (sym (total-answer_other a l is (buffered_snoops past))) snooped

block_keeps : (setup : Configuration) (h a l : ℕ) (past : List Event) (w : Emission) → host_emission setup h (Cause.Act (Act.AnswerBlock (record { 0 = l }))) past ≡ Some w
    → SnoopsKept (buffered_snoops past) → is_held (stage setup a past) ≡ true → 1 ≤ total a (buffered_snoops past) → 1 ≤ total a (snoops_after (Cause.Act (Act.AnswerBlock (record { 0 = l }))) (buffered_snoops past))
block_keeps setup h a l past w row kept held snooped =
    let block = block_row setup h l past w row in
    elim (kept_by_block_answer a l block.s (buffered_snoops past) kept.sound (kept.apart l) block.there snooped) [
      | inl stays ↦ stays
      | inr gone ↦
          let may = all_holds (may_answer_in_block setup past) a block.s.unanswered block.all gone in
          absurd (false≢true (sym (held_waits (stage setup a past) held).2 ∙ (and_parts _ _ (and_parts _ _ may).0).0))
    ]

act_stays : (setup : Configuration) (h a : ℕ) (act : Act) (past : List Event) (w : Emission) → host_emission setup h (Cause.Act act) past ≡ Some w
    → SnoopsKept (buffered_snoops past) → is_held (stage setup a past) ≡ true → 1 ≤ total a (buffered_snoops past) → 1 ≤ total a (snoops_after (Cause.Act act) (buffered_snoops past))
act_stays setup h a (Act.Conflict _) past w row kept held snooped = snooped
act_stays setup h a (Act.WriteBack _) past w row kept held snooped = snooped
act_stays setup h a (Act.Answer line) past w row kept held snooped = answer_keeps setup h a line.0 past w (a == line.0) refl row held snooped
act_stays setup h a (Act.AnswerBlock line) past w row kept held snooped = block_keeps setup h a line.0 past w row kept held snooped
act_stays setup h a (Act.HostReturn _) past w row kept held snooped = snooped
act_stays setup h a (Act.Serve _ _) past w row kept held snooped = snooped
act_stays setup h a (Act.Clean _ _) past w row kept held snooped = snooped
act_stays setup h a (Act.Start _ _) past w row kept held snooped = snooped
act_stays setup h a (Act.Evict _ _) past w row kept held snooped = snooped
act_stays setup h a (Act.Snoop _ _) past w row kept held snooped = snooped
act_stays setup h a (Act.Finish _) past w row kept held snooped = snooped
act_stays setup h a (Act.DeviceReturn _ _) past w row kept held snooped = snooped

appended : (a : ℕ) (ss ts : List Snoop) → 1 ≤ total a ss → 1 ≤ total a (ss ++ ts)
appended a ss ts h = let sum = total-append a ss ts in omega arith

pub take_stays : (a host : ℕ) (m : Message) (past : List Event) → 1 ≤ total a (buffered_snoops past) → 1 ≤ total a (snoops_after (Cause.Take host m) (buffered_snoops past))
take_stays a host (Message.Req _ _ _ _ _) past snooped = snooped
take_stays a host (Message.MemWr _ _ _ _ _) past snooped = snooped
take_stays a host (Message.BiConflict _) past snooped = snooped
take_stays a host (Message.BiRsp _ _ _) past snooped = snooped
take_stays a host (Message.Ndr _ _) past snooped = snooped
take_stays a host (Message.MemData _ _) past snooped = snooped
take_stays a host (Message.BiSnp op bitag line span) past snooped = appended a (buffered_snoops past) (record { op = op; first = line.0; span = span; unanswered = lines_of line.0 span } ∷ []) snooped
take_stays a host (Message.Credit _) past snooped = snooped

-- a line with a conflict or a write-back stays snooped
pub stays_snooped : (setup : Configuration) (h a : ℕ) (cause : Cause) (past : List Event) (w : Emission) → host_emission setup h cause past ≡ Some w
    → SnoopsKept (buffered_snoops past) → is_held (stage setup a past) ≡ true → 1 ≤ total a (buffered_snoops past) → 1 ≤ total a (snoops_after cause (buffered_snoops past))
stays_snooped setup h a (Cause.Op s i op) past w row kept held snooped = snooped
stays_snooped setup h a (Cause.Take host m) past w row kept held snooped = take_stays a host m past snooped
stays_snooped setup h a (Cause.Act act) past w row kept held snooped = act_stays setup h a act past w row kept held snooped
