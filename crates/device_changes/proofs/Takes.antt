-- What the takes of the device ask, where they may be done.
use Rattle.std.proofs.Common.{◌≡◌, ℕ, ◌+◌, ◌<◌, ◌≤◌, true, false, Option, Some, None, length, refl, ap, sym, ◌∙◌, subst, arith}
use Rattle.std.specs.Prelude.{is_none, nat_lt, ◌&&◌}
use Rattle.std.specs.Option.{option_map_or}
use Rattle.std.proofs.lemmas.Bool.{and_parts, ltb-true}
use Rattle.cxl_message.specs.declared.channels.Channel.{Channel}
use Rattle.cxl_message.specs.declared.events.Cause.{Cause}
use Rattle.cxl_message.specs.declared.events.Sends.{Sends}
use Rattle.cxl_message.specs.declared.identifiers.BiTag.{BiTag}
use Rattle.cxl_message.specs.declared.messages.Message.{Message}
use Rattle.cxl_message.specs.declared.opcodes.RspOp.{RspOp}
use Rattle.cxl_message.specs.Codes.{span_len}
use Rattle.cxl_message.specs.Formed.{cause_formed}
use Rattle.cxl_message.specs.Messages.{channel_of}
use Rattle.cxl_message.specs.Profile.{in_profile}
use Rattle.cxl_message.specs.Setup.{Configuration}
use Rattle.coherence_lemmas.proofs.Options.{if_some, when_some}
use Rattle.coherence_model.specs.Buffers.{message_with}
use Rattle.coherence_model.specs.Emission.{Emission, nothing}
use Rattle.coherence_model.specs.Fitting.{cause_fits, goes_to, is_addressed, is_host, message_fits}
use Rattle.coherence_model.specs.Traces.{device}
use Rattle.device_record.specs.Answers.{credit_taken, has_room_for, is_answer_to, take_row}
use Rattle.device_record.specs.Record.{CreditRecord, DeviceRecord, TaskRecord, credits_at, request_with, requests_at, task_at, writes_at}
use Rattle.device_record.specs.Steady.{IsSteady}
use Rattle.device_tables.specs.Crediting.{HasMore}
use Rattle.device_state.specs.Agent.{AgentRecord}
use Rattle.device_changes.specs.Acting.{IsAnswer}
use Rattle.device_changes.specs.Passing.{MayStep, MayTake}
use Rattle.device_changes.proofs.Acts.{stands_of}
use Rattle.device_changes.proofs.Asked.{found_first}
use Rattle.device_changes.proofs.Passing.{passed}

-- the host of a message that may be taken exists
pub take_host : (setup : Configuration) (k : DeviceRecord) (h : ℕ) (m : Message) (w : Emission) → MayStep setup k (Cause.Take h m) w → h < setup.hosts
take_host setup k h m w may =
    let fits = (and_parts (cause_formed (Cause.Take h m)) (cause_fits setup device (Cause.Take h m)) (passed setup (Cause.Take h m) k w may.answer).passes).1 in
    let first = (and_parts (is_addressed setup device h && goes_to device m && in_profile m) (message_fits setup m) fits).0 in
    let second = (and_parts (is_addressed setup device h && goes_to device m) (in_profile m) first).0 in
    ltb-true h setup.hosts (and_parts (is_host setup h) true (and_parts (is_addressed setup device h) (goes_to device m) second).0).0

-- each number of a host may be one more
pub has_more : (setup : Configuration) (k : DeviceRecord) (h : ℕ) → IsSteady setup k → HasMore (credits_at h k.credits)
has_more setup k h steady =
    let most = steady.limits.credits.1 in
    let held = steady.credits h in
    record {
      req = (let a = held.req in omega arith);
      rwd = (let a = held.rwd in omega arith);
      rsp = (let a = held.rsp in omega arith);
      ndr = (let a = held.ndr in omega arith);
      drs = (let a = held.drs in omega arith);
      snp = (let a = held.snp in omega arith);
    }

credit_quiet : (credits : ℕ) (c : Channel) (r : CreditRecord) (w : Emission) → credit_taken credits c r ≡ Some w → w ≡ nothing
credit_quiet credits Channel.Req r w is = cc
credit_quiet credits Channel.Rwd r w is = cc
credit_quiet credits Channel.BiRsp r w is = cc
credit_quiet credits Channel.Ndr r w is = (when_some (nat_lt r.ndr_left credits) nothing w is).same
credit_quiet credits Channel.Drs r w is = (when_some (nat_lt r.drs_left credits) nothing w is).same
credit_quiet credits Channel.BiSnp r w is = (when_some (nat_lt r.snp_left credits) nothing w is).same
credit_quiet credits Channel.CreditUp r w is = cc
credit_quiet credits Channel.CreditDown r w is = cc

-- a take sends nothing
take_quiet : (setup : Configuration) (h : ℕ) (m : Message) (k : DeviceRecord) (w : Emission) → take_row setup h m k ≡ Some w → w ≡ nothing
take_quiet setup h (Message.Req op meta snp tag line) k w is = (when_some (is_none (request_with tag.0 (requests_at h k.requests))) nothing w is).same
take_quiet setup h (Message.MemWr meta snp tag line bytes) k w is = (when_some (is_none (message_with tag.0 (writes_at h k.writes))) nothing w is).same
take_quiet setup h (Message.BiConflict tag) k w is = (when_some (is_none (message_with tag.0 (writes_at h k.writes))) nothing w is).same
take_quiet setup h (Message.BiRsp op bitag low) k w is = (when_some (option_map_or (is_answer_to op h (bitag.0 + low)) (task_at bitag.0 k.tasks) false) nothing w is).same
take_quiet setup h (Message.Ndr op tag) k w is = cc
take_quiet setup h (Message.MemData tag bytes) k w is = cc
take_quiet setup h (Message.BiSnp op bitag line span) k w is = cc
take_quiet setup h (Message.Credit c) k w is = credit_quiet setup.credits c (credits_at h k.credits) w is

-- a message by which the device may step may be taken, and nothing is sent
pub record Taken (setup : Configuration) (h : ℕ) (m : Message) (k : DeviceRecord) (w : Emission) : Type 0 where
  pub may : MayTake setup h m k
  pub sends : w.sends ≡ Sends.Nothing

pub taken : (setup : Configuration) (k : DeviceRecord) (h : ℕ) (m : Message) (w : Emission) → MayStep setup k (Cause.Take h m) w → Taken setup h m k w
taken setup k h m w may =
    let both = if_some (has_room_for setup.credits h (channel_of m) k) (take_row setup h m k) w (passed setup (Cause.Take h m) k w may.answer).row in
    let quiet = take_quiet setup h m k w both.same in
    record {
      may = record { steady = may.before; host = take_host setup k h m w may; room = both.holds; row = both.same ∙ ap (λ (x : Emission). Some x) quiet };
      sends = ap (λ (x : Emission). x.sends) quiet;
    }

-- one more request has room
pub request_room : (setup : Configuration) (k : DeviceRecord) (h : ℕ) → IsSteady setup k → has_room_for setup.credits h Channel.Req k ≡ true → length (requests_at h k.requests) < setup.credits
request_room setup k h steady room =
    let few = steady.requests h in let low = ltb-true (credits_at h k.credits).req_held setup.credits room in omega (arith, few, low)

-- one more RwD message has room
pub write_room : (setup : Configuration) (k : DeviceRecord) (h : ℕ) → IsSteady setup k → has_room_for setup.credits h Channel.Rwd k ≡ true → length (writes_at h k.writes) < setup.credits
write_room setup k h steady room =
    let few = steady.writes h in let low = ltb-true (credits_at h k.credits).rwd_held setup.credits room in omega (arith, few, low)

answer_by : (op : RspOp) (h : ℕ) (first : ℕ) (low : ℕ) (setup : Configuration) (k : DeviceRecord) → IsSteady setup k → (o : Option TaskRecord) → task_at first k.tasks ≡ o
    → option_map_or (is_answer_to op h (first + low)) o false ≡ true → IsAnswer op h first low k.tasks k.filter
answer_by op h first low setup k steady None found holds = cc
answer_by op h first low setup k steady (Some t) found holds =
    let placed = steady.tasks first t found in
    let at = found_first first t k.tasks found in
    record {
      stands = stands_of setup k steady first t found;
      answers = holds;
      left = λ b there. (subst (λ n. n ≤ b) at (placed.left h b there).0, subst (λ n. b < n + span_len t.span) at (placed.left h b there).1);
    }

-- an answer that may be taken is one to the snoop of a task
pub answer_may : (setup : Configuration) (k : DeviceRecord) (h : ℕ) (op : RspOp) (bitag : BiTag) (low : ℕ) → MayTake setup h (Message.BiRsp op bitag low) k → IsAnswer op h bitag.0 low k.tasks k.filter
answer_may setup k h op bitag low may =
    answer_by op h bitag.0 low setup k may.steady (task_at bitag.0 k.tasks) refl
    (when_some (option_map_or (is_answer_to op h (bitag.0 + low)) (task_at bitag.0 k.tasks) false) nothing nothing may.row).holds

-- what the parts of the tables are seen as may take as the tables may
pub take_inside : (d e : AgentRecord) (m n : Message) (h : ℕ) → d ≡ e → m ≡ n → MayTake e.setup h m e.kept → MayTake d.setup h n d.kept
take_inside d e m n h seen is may = subst (λ (x : AgentRecord). MayTake x.setup h n x.kept) (sym seen) (subst (λ (x : Message). MayTake e.setup h x e.kept) is may)
