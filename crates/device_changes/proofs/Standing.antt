-- The task that stands for a line, and its lines.
use Rattle.std.proofs.Common.{◌≡◌, ℕ, ◌+◌, ◌<◌, true, List, ◌∷◌, [], Some, ap, sym, subst, arith}
use Rattle.std.proofs.lemmas.Bool.{and_parts}
use Rattle.cxl_message.specs.declared.events.Sends.{Sends}
use Rattle.cxl_message.specs.declared.opcodes.RspOp.{RspOp}
use Rattle.cxl_message.specs.Codes.{span_len}
use Rattle.cxl_message.specs.Lists.{is_in}
use Rattle.coherence_model.specs.DeviceActs.{snoop_op}
use Rattle.coherence_model.specs.Snoops.{invalidates_block}
use Rattle.block_snoop.specs.Answering.{are_all_left}
use Rattle.snoop_filter.specs.Filters.{FilterRecord}
use Rattle.snoop_filter.specs.Rows.{FilterRow, has_row, held_in}
use Rattle.device_record.specs.Answers.{is_answer_to, reads_shared}
use Rattle.device_record.specs.Record.{TaskRecord, left_at, task_at}
use Rattle.device_record.specs.RowChanges.{rows_granted}
use Rattle.device_changes.specs.Acting.{IsAnswer, StandsAt}
use Rattle.device_changes.specs.FilterLines.{AreHeld}
use Rattle.device_changes.proofs.FilterLines.{held_has_row, held_set}

-- the task that is found is the one that stands
pub the_task : (a : ℕ) (tasks : List TaskRecord) (s t : TaskRecord) → task_at a tasks ≡ Some s → Some t ≡ task_at a tasks → t ≡ s
the_task a tasks s t stands found = cc

-- an answer by BIRspS is for a line that has a row
pub shared_row : (op : RspOp) (h a low : ℕ) (tasks : List TaskRecord) (f : FilterRecord) → IsAnswer op h a low tasks f → op ≡ RspOp.S → has_row (a + low) f.rows ≡ true
shared_row op h a low tasks f answer is =
    let t = answer.stands.task in
    let shared : is_answer_to RspOp.S h (a + low) t ≡ true = subst (λ (o : RspOp). is_answer_to o h (a + low) t ≡ true) is answer.answers in
    let left = answer.left (a + low) (and_parts (is_in (a + low) (left_at h t)) (reads_shared t.purpose) shared).0 in
    held_has_row f.rows (a + low) (answer.stands.held (a + low) left.0 left.1)

-- an answer for the whole block is the same for each of its lines
pub block_answer : (op : RspOp) (h a low : ℕ) (tasks : List TaskRecord) (f : FilterRecord) → IsAnswer op h a low tasks f → op ≡ RspOp.IBlk → IsAnswer RspOp.IBlk h a 0 tasks f
block_answer op h a low tasks f answer is =
    record { stands = answer.stands; answers = subst (λ (o : RspOp). is_answer_to o h (a + low) answer.stands.task ≡ true) is answer.answers; left = answer.left }

-- such an answer comes where all lines are left
pub all_left : (h a : ℕ) (tasks : List TaskRecord) (f : FilterRecord) (answer : IsAnswer RspOp.IBlk h a 0 tasks f) → are_all_left answer.stands.task.span (left_at h answer.stands.task) ≡ true
all_left h a tasks f answer =
    let t = answer.stands.task in (and_parts (invalidates_block (snoop_op t.purpose t.span)) (are_all_left t.span (left_at h t)) answer.answers).1

-- a grant leaves held what is held
pub granted_held : (a : ℕ) (sends : Sends) (rows : List FilterRow) (b : ℕ) → held_in b rows ≡ true → held_in b (rows_granted a sends rows) ≡ true
granted_held a Sends.Nothing rows b held = held
granted_held a (Sends.One o) rows b held = held_set (a ∷ []) o.host _ b rows held
granted_held a (Sends.Two o p) rows b held = held_set (a ∷ []) o.host _ b rows held

-- the lines of the task that stands are held after its grant
pub still_standing : (a n : ℕ) (sends : Sends) (tasks : List TaskRecord) (old new : FilterRecord) (stands : StandsAt a tasks old) (t : TaskRecord) → Some t ≡ task_at a tasks
    → new ≡ record old { rows = rows_granted a sends old.rows } → n ≡ span_len t.span → AreHeld new.rows a n
still_standing a n sends tasks old new stands t found is long b from low =
    let same = the_task a tasks stands.task t stands.found found in
    let here : b < a + span_len stands.task.span = omega (arith, low, long, ap (λ (x : TaskRecord). span_len x.span) same) in
    subst (λ (f : FilterRecord). held_in b f.rows ≡ true) (sym is) (granted_held a sends old.rows b (stands.held b from here))
