-- What rows answer, by what their decisions emit.
use Rattle.std.proofs.Common.{Bool, List, None, Option, Some, ap, cond, false, refl, sym, true, ℕ, ◌∙◌, ◌≡◌}
use Rattle.std.specs.Prelude.{Err, Ok, Result, ◌&&◌}
use Rattle.std.specs.Option.{option_map_or, option_or}
use Rattle.std.proofs.lemmas.Bool.{eq-eqb}
use Rattle.cxl_message.specs.declared.channels.Channel.{Channel}
use Rattle.cxl_message.specs.declared.events.Act.{Act}
use Rattle.cxl_message.specs.declared.events.Op.{Op}
use Rattle.cxl_message.specs.declared.events.Sends.{Sends}
use Rattle.cxl_message.specs.declared.identifiers.Bytes64.{Bytes64}
use Rattle.cxl_message.specs.declared.messages.Message.{Message}
use Rattle.cxl_message.specs.declared.opcodes.Meta.{Meta}
use Rattle.cxl_message.specs.declared.opcodes.ReqOp.{ReqOp}
use Rattle.cxl_message.specs.declared.opcodes.SnpType.{SnpType}
use Rattle.cxl_message.specs.declared.states.RuleNo.{RuleNo}
use Rattle.cxl_message.specs.Codes.{channel_eq}
use Rattle.cxl_message.specs.Messages.{channel_of}
use Rattle.cxl_message.specs.Opening.{zero_bytes}
use Rattle.coherence_model.specs.Emission.{Emission, nothing}
use Rattle.coherence_model.specs.HostOperations.{request_message}
use Rattle.coherence_model.specs.HostTakes.{fill_emission}
use Rattle.coherence_model.specs.Refusals.{Answer, unless_lacking}
use Rattle.coherence_model.specs.Transactions.{Transaction}
use Rattle.event_room.specs.declared.messages.MessageHead.{MessageHead}
use Rattle.event_room.specs.Heads.{with_payload}
use Rattle.host_plans.specs.declared.plans.Plan.{Plan}
use Rattle.host_plans.specs.Plans.{planned_emission}
use Rattle.host_record.specs.HostRecord.{HostRecord}
use Rattle.host_record.specs.Tables.{lookup}
use Rattle.host_record.specs.View.{View}
use Rattle.host_record.specs.ViewAnswers.{lacking_by, row_or}
use Rattle.host_record.specs.ViewRows.{is_dirty}
use Rattle.host_record.specs.Ways.{Way, copy_in}
use Rattle.host_rows.specs.declared.answers.HostRefusal.{HostRefusal}
use Rattle.host_rows.specs.declared.taking.TakeRow.{TakeRow}
use Rattle.host_rows.specs.Answers.{as_result}
use Rattle.host_rows.specs.Rows.{act_emission, filled_held, filled_with, head_channel, row_emission, short_of_plan, short_of_two, short_on, take_emission}

-- ---- takes send nothing

with_sends : (bytes : Bytes64) (found : Option Transaction) → (filled_with bytes found).sends ≡ Sends.Nothing
with_sends bytes None = refl
with_sends bytes (Some o) = refl

some_sends : (o : Transaction) (bytes : Option Bytes64) → (option_map_or (fill_emission o) bytes nothing).sends ≡ Sends.Nothing
some_sends o None = refl
some_sends o (Some bytes) = refl

held_sends : (found : Option Transaction) → (filled_held found).sends ≡ Sends.Nothing
held_sends None = refl
held_sends (Some o) = some_sends o o.bytes

row_sends : (row : TakeRow) (bytes : Bytes64) (found : Option Transaction) → (row_emission row bytes found).sends ≡ Sends.Nothing
row_sends TakeRow.Quiet bytes found = refl
row_sends TakeRow.Held bytes found = held_sends found
row_sends TakeRow.Carried bytes found = with_sends bytes found
row_sends TakeRow.Zeros bytes found = with_sends zero_bytes found

take_sends : (m : Message) (k : HostRecord) (row : TakeRow) → (take_emission m k row).sends ≡ Sends.Nothing
take_sends (Message.Req op meta snp tag line) k row = refl
take_sends (Message.MemWr meta snp tag line bytes) k row = refl
take_sends (Message.BiConflict tag) k row = refl
take_sends (Message.BiRsp op bitag low) k row = refl
take_sends (Message.Ndr op tag) k row = row_sends row zero_bytes (lookup k.opened tag.0)
take_sends (Message.MemData tag bytes) k row = row_sends row bytes (lookup k.opened tag.0)
take_sends (Message.BiSnp op bitag line span) k row = refl
take_sends (Message.Credit c) k row = refl

-- ---- answers of rows

-- a row that doesn't hold
pub row_breaks : (rule : RuleNo) (v : View) (o : Option Emission) → None ≡ o → ◌≡◌ {A = Result Emission HostRefusal} (Err (HostRefusal.Broken rule)) (as_result (row_or rule v o))
row_breaks rule v o none = ap (λ x. as_result (row_or rule v x)) none

-- a take whose row holds
pub take_goes : (rule : RuleNo) (v : View) (m : Message) (k : HostRecord) (row : TakeRow) (o : Option Emission) → Some (take_emission m k row) ≡ o
    → ◌≡◌ {A = Result Emission HostRefusal} (Ok (take_emission m k row)) (as_result (row_or rule v o))
take_goes rule v m k row o holds =
    sym (ap (λ s. as_result (unless_lacking (lacking_by v s) (Answer.Emits (take_emission m k row)))) (take_sends m k row)) ∙ ap (λ x. as_result (row_or rule v x)) holds

-- the channel of a message doesn't depend on its payload
channel_is : (head : MessageHead) (bytes : Bytes64) → channel_of (with_payload head bytes) ≡ head_channel head
channel_is (MessageHead.Req op meta snp tag line) bytes = refl
channel_is (MessageHead.MemWr meta snp tag line) bytes = refl
channel_is (MessageHead.BiConflict tag) bytes = refl
channel_is (MessageHead.BiRsp op bitag low) bytes = refl
channel_is (MessageHead.Ndr op tag) bytes = refl
channel_is (MessageHead.MemData tag) bytes = refl
channel_is (MessageHead.BiSnp op bitag line span) bytes = refl
channel_is (MessageHead.Credit c) bytes = refl

-- what is lacking for the message of an act
pub act_short : (v : View) (h : ℕ) (act : Act) (k : HostRecord) (head : MessageHead) → lacking_by v (act_emission h act k head).sends ≡ short_on v 1 (head_channel head)
act_short v h act k head = ap (short_on v 1) (channel_is head _)

-- an act whose row holds and whose credits reach
pub act_goes : (rule : RuleNo) (v : View) (h : ℕ) (act : Act) (k : HostRecord) (head : MessageHead) (o : Option Emission) → Some (act_emission h act k head) ≡ o → short_on v 1 (head_channel head) ≡ None
    → ◌≡◌ {A = Result Emission HostRefusal} (Ok (act_emission h act k head)) (as_result (row_or rule v o))
act_goes rule v h act k head o holds enough =
    sym (ap (λ s. as_result (unless_lacking s (Answer.Emits (act_emission h act k head)))) (act_short v h act k head ∙ enough)) ∙ ap (λ x. as_result (row_or rule v x)) holds

-- an act whose row holds and whose credits don't reach
pub act_lacks : (rule : RuleNo) (v : View) (h : ℕ) (act : Act) (k : HostRecord) (head : MessageHead) (c : Channel) (o : Option Emission) → Some (act_emission h act k head) ≡ o → short_on v 1 (head_channel head) ≡ Some c
    → ◌≡◌ {A = Result Emission HostRefusal} (Err (HostRefusal.NoCredit c)) (as_result (row_or rule v o))
act_lacks rule v h act k head c o holds short =
    sym (ap (λ s. as_result (unless_lacking s (Answer.Emits (act_emission h act k head)))) (act_short v h act k head ∙ short)) ∙ ap (λ x. as_result (row_or rule v x)) holds

-- ---- what is lacking for a plan

request_channel : (op : Op) (t : ℕ) → channel_of (request_message op t) ≡ Channel.Req
request_channel (Op.Load line) t = refl
request_channel (Op.Word line place value) t = refl
request_channel (Op.Whole line bytes) t = refl

two_short : (v : View) (h : ℕ) (b : Bool) (m n r : Message) → channel_of m ≡ Channel.Rwd → channel_of n ≡ Channel.Req → channel_of r ≡ Channel.Req
    → lacking_by v (Sends.Two (record { host = h; message = cond b m n }) (record { host = h; message = r })) ≡ short_of_two v b
two_short v h true m n r first other request =
    λ j. option_or (short_on v (cond (eq-eqb h h refl j && channel_eq (first j) (request j)) 2 1) (first j)) (short_on v 1 (request j))
two_short v h false m n r first other request =
    λ j. option_or (short_on v (cond (eq-eqb h h refl j && channel_eq (other j) (request j)) 2 1) (other j)) (short_on v 1 (request j))

pub plan_short : (v : View) (h s i : ℕ) (ways : List Way) (op : Op) (plan : Plan) → lacking_by v (planned_emission h s i ways op plan).sends ≡ short_of_plan v (λ a. is_dirty (copy_in ways a)) plan
plan_short v h s i ways op Plan.Hit = refl
plan_short v h s i ways op (Plan.Request tag) = ap (short_on v 1) (request_channel op tag.0)
plan_short v h s i ways op (Plan.Drop victim tag) = ap (short_on v 1) (request_channel op tag.0)
plan_short v h s i ways op (Plan.Replace victim lower tag) =
    two_short v h (is_dirty (copy_in ways victim.0))
    (Message.MemWr Meta.Invalid SnpType.NoOp (record { 0 = lower.0 }) (record { 0 = victim.0 }) (copy_in ways victim.0).bytes)
    (Message.Req ReqOp.MemClnEvct Meta.Invalid SnpType.NoOp (record { 0 = lower.0 }) (record { 0 = victim.0 }))
    (request_message op tag.0) refl refl (request_channel op tag.0)
