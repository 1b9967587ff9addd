-- What a host's rows say of a taken message and of an act: when they hold, and what is sent.
use Rattle.std.proofs.Common.{◌≡◌, ℕ, Bool, true, false, List, Option, Some, None, cond, refl, sym, ◌∙◌, ap}
use Rattle.std.specs.Prelude.{is_none, not, ◌&&◌}
use Rattle.std.specs.List.{list_all}
use Rattle.std.specs.Option.{option_map_or}
use Rattle.std.proofs.lemmas.Bool.{and_parts, false≢true, not-true}
use Rattle.std.proofs.lemmas.Option.{none-some}
use Rattle.cxl_message.specs.declared.events.Event.{Event}
use Rattle.cxl_message.specs.declared.events.Sends.{Sends}
use Rattle.cxl_message.specs.declared.identifiers.Bytes64.{Bytes64}
use Rattle.cxl_message.specs.declared.messages.Message.{Message}
use Rattle.cxl_message.specs.declared.opcodes.NdrOp.{NdrOp}
use Rattle.cxl_message.specs.declared.opcodes.RspOp.{RspOp}
use Rattle.cxl_message.specs.Opening.{zero_bytes}
use Rattle.cxl_message.specs.Setup.{Configuration}
use Rattle.cxl_message.specs.Spans.{lines_of}
use Rattle.coherence_model.specs.Cache.{is_modified}
use Rattle.coherence_model.specs.Credits.{has_room, lacks_credit}
use Rattle.coherence_model.specs.Emission.{Emission, nothing}
use Rattle.coherence_model.specs.HostActs.{h7_conflict, h8_write_back, h9_answer, h9_answer_block, is_answered_alone, is_ready, may_answer_block, may_answer_in_block, may_conflict, write_back_message}
use Rattle.coherence_model.specs.HostTakes.{fill_emission, grant_emission, data_emission, h3_completion, h3_data, h3_grant, host_takes, host_takes_ndr, is_write_back_tag, may_grant}
use Rattle.coherence_model.specs.Snoops.{Snoop, is_snooped, snoop_at, whole_block_at}
use Rattle.coherence_model.specs.Stages.{is_new, is_new_or_late, stage}
use Rattle.coherence_model.specs.Tags.{is_conflict_open, open_with}
use Rattle.coherence_model.specs.Transactions.{Transaction, is_open, is_read, is_request, open_at}
use Rattle.coherence_model.specs.Words.{when}
use Rattle.coherence_model.specs.WriteBacks.{is_write_back_open}
use Rattle.request_laws.proofs.Options.{guarded_some, when_some}

abbrev pub sends_of : Emission → Sends
sends_of w = w.sends

when_sends : (b : Bool) (x w : Emission) → sends_of x ≡ Sends.Nothing → when b x ≡ Some w → sends_of w ≡ Sends.Nothing
when_sends b x w none h = ap sends_of (sym (when_some b x w h).1) ∙ none

grant_sends : (o : Transaction) (bytes : Option Bytes64) → sends_of (grant_emission o bytes) ≡ Sends.Nothing
grant_sends o None = grant_branch (is_read o.kind)
  where
    grant_branch : (b : Bool) → sends_of (cond b nothing (fill_emission o zero_bytes)) ≡ Sends.Nothing
    grant_branch true = refl
    grant_branch false = refl
grant_sends o (Some bytes) = refl

data_branch : (b : Bool) (o : Transaction) (bytes : Bytes64) → sends_of (cond b nothing (fill_emission o bytes)) ≡ Sends.Nothing
data_branch true o bytes = refl
data_branch false o bytes = refl

completion_sends : (b : Bool) (o : Option Transaction) (w : Emission) → h3_completion b o ≡ Some w → sends_of w ≡ Sends.Nothing
completion_sends b None w h = when_sends b nothing w refl h
completion_sends b (Some o) w h = when_sends (not (is_request o.kind)) nothing w refl h

granted_sends : (c : NdrOp) (o : Option Transaction) (w : Emission) → h3_grant c o ≡ Some w → sends_of w ≡ Sends.Nothing
granted_sends c None w h = absurd (none-some w h)
granted_sends c (Some o) w h = when_sends (may_grant c o.kind && is_none o.grant) (grant_emission o o.bytes) w (grant_sends o o.bytes) h

data_sends : (bytes : Bytes64) (o : Option Transaction) (w : Emission) → h3_data bytes o ≡ Some w → sends_of w ≡ Sends.Nothing
data_sends bytes None w h = absurd (none-some w h)
data_sends bytes (Some o) w h = when_sends (is_read o.kind && is_none o.bytes) (data_emission o bytes) w (data_branch (is_none o.grant) o bytes) h

ndr_sends : (setup : Configuration) (op : NdrOp) (tag : ℕ) (past : List Event) (w : Emission) → host_takes_ndr setup op tag past ≡ Some w → sends_of w ≡ Sends.Nothing
ndr_sends setup NdrOp.Cmp tag past w h = completion_sends (is_write_back_tag setup tag past) (open_with tag past) w h
ndr_sends setup NdrOp.CmpS tag past w h = granted_sends NdrOp.CmpS (open_with tag past) w h
ndr_sends setup NdrOp.CmpE tag past w h = granted_sends NdrOp.CmpE (open_with tag past) w h
ndr_sends setup NdrOp.ConflictAck tag past w h = when_sends (is_conflict_open tag past) nothing w refl h

-- a take sends nothing
pub takes_send_nothing : (setup : Configuration) (h : ℕ) (m : Message) (past : List Event) (w : Emission) → host_takes setup h m past ≡ Some w → sends_of w ≡ Sends.Nothing
takes_send_nothing setup h (Message.Req _ _ _ _ _) past w row = absurd (none-some w row)
takes_send_nothing setup h (Message.MemWr _ _ _ _ _) past w row = absurd (none-some w row)
takes_send_nothing setup h (Message.BiConflict _) past w row = absurd (none-some w row)
takes_send_nothing setup h (Message.BiRsp _ _ _) past w row = absurd (none-some w row)
takes_send_nothing setup h (Message.Ndr op tag) past w row = ndr_sends setup op tag.0 past w row
takes_send_nothing setup h (Message.MemData tag bytes) past w row = data_sends bytes (open_with tag.0 past) w row
takes_send_nothing setup h (Message.BiSnp op bitag line span) past w row = when_sends (list_all (λ a. not (is_snooped a past)) (lines_of line.0 span)) nothing w refl row
takes_send_nothing setup h (Message.Credit c) past w row = when_sends (lacks_credit setup h c past) nothing w refl row

-- a take's row without its room
pub take_row : (setup : Configuration) (h : ℕ) (m : Message) (past : List Event) (w : Emission) → cond (has_room setup h m past) (host_takes setup h m past) None ≡ Some w → host_takes setup h m past ≡ Some w
take_row setup h m past w row = (guarded_some (has_room setup h m past) (host_takes setup h m past) w row).1

-- a conflict: something that may conflict is open at a snooped line at stage New, and BIConflict is sent with its tag
pub record ConflictRow (setup : Configuration) (h l : ℕ) (past : List Event) (sends : Sends) : Type 0 where
  pub o : Transaction
  pub there : open_at l past ≡ Some o
  pub snooped : is_snooped l past ≡ true
  pub new : is_new (stage setup l past) ≡ true
  pub may : may_conflict o.kind ≡ true
  pub sent : sends ≡ Sends.One (record { host = h; message = Message.BiConflict (record { 0 = o.tag }) })

conflict_from : (setup : Configuration) (h l : ℕ) (past : List Event) (w : Emission) (open_there : Option Transaction) → open_at l past ≡ open_there → h7_conflict setup h l past open_there ≡ Some w → ConflictRow setup h l past w.sends
conflict_from setup h l past w None is row = absurd (none-some w row)
conflict_from setup h l past w (Some o) is row =
    let given = when_some (is_snooped l past && is_new (stage setup l past) && may_conflict o.kind) _ w row in
    let may = and_parts _ _ given.0 in
    let new = and_parts _ _ may.0 in
    record { o = o; there = is; snooped = new.0; new = new.1; may = may.1; sent = ap sends_of (sym given.1) }

pub conflict_row : (setup : Configuration) (h l : ℕ) (past : List Event) (w : Emission) → h7_conflict setup h l past (open_at l past) ≡ Some w → ConflictRow setup h l past w.sends
conflict_row setup h l past w row = conflict_from setup h l past w (open_at l past) refl row

-- a write-back: a snooped line at stage New or Late that isn't Open, with a modified copy, and the write-back tag is free
pub record WriteBackRow (setup : Configuration) (h l : ℕ) (past : List Event) (sends : Sends) : Type 0 where
  pub s : Snoop
  pub there : snoop_at l past ≡ Some s
  pub ready : is_new_or_late (stage setup l past) ≡ true
  pub closed : is_open l past ≡ false
  pub modified : is_modified setup l past ≡ true
  pub free : is_write_back_open setup past ≡ false
  pub sent : sends ≡ Sends.One (record { host = h; message = write_back_message setup s.op l past })

write_back_from : (setup : Configuration) (h l : ℕ) (past : List Event) (w : Emission) (snoop : Option Snoop) → snoop_at l past ≡ snoop → h8_write_back setup h l past snoop ≡ Some w → WriteBackRow setup h l past w.sends
write_back_from setup h l past w None is row = absurd (none-some w row)
write_back_from setup h l past w (Some s) is row =
    let given = when_some (is_new_or_late (stage setup l past) && not (is_open l past) && is_modified setup l past && not (is_write_back_open setup past)) _ w row in
    let four = and_parts _ _ given.0 in
    let three = and_parts _ _ four.0 in
    let two = and_parts _ _ three.0 in
    record { s = s; there = is; ready = two.0; closed = not-true _ two.1; modified = three.1; free = not-true _ four.1; sent = ap sends_of (sym given.1) }

pub write_back_row : (setup : Configuration) (h l : ℕ) (past : List Event) (w : Emission) → h8_write_back setup h l past (snoop_at l past) ≡ Some w → WriteBackRow setup h l past w.sends
write_back_row setup h l past w row = write_back_from setup h l past w (snoop_at l past) refl row

-- an answer: a snooped line that is ready
pub record AnswerRow (setup : Configuration) (h l : ℕ) (past : List Event) (sends : Sends) : Type 0 where
  pub s : Snoop
  pub there : snoop_at l past ≡ Some s
  pub ready : is_ready setup l past ≡ true
  pub op : RspOp
  pub low : ℕ
  pub sent : sends ≡ Sends.One (record { host = h; message = Message.BiRsp op (record { 0 = s.first }) low })

answer_from : (setup : Configuration) (h l : ℕ) (past : List Event) (w : Emission) (snoop : Option Snoop) → snoop_at l past ≡ snoop → h9_answer setup h l past snoop ≡ Some w → AnswerRow setup h l past w.sends
answer_from setup h l past w None is row = absurd (none-some w row)
answer_from setup h l past w (Some s) is row =
    let given = when_some (is_ready setup l past && is_answered_alone setup s past) _ w row in
    record { s = s; there = is; ready = (and_parts _ _ given.0).0; op = _; low = _; sent = ap sends_of (sym given.1) }

pub answer_row : (setup : Configuration) (h l : ℕ) (past : List Event) (w : Emission) → h9_answer setup h l past (snoop_at l past) ≡ Some w → AnswerRow setup h l past w.sends
answer_row setup h l past w row = answer_from setup h l past w (snoop_at l past) refl row

-- an answer to a block: each of its lines is New, not Open and not modified
pub record BlockRow (setup : Configuration) (h first : ℕ) (past : List Event) (sends : Sends) : Type 0 where
  pub s : Snoop
  pub there : whole_block_at first past ≡ Some s
  pub all : list_all (may_answer_in_block setup past) s.unanswered ≡ true
  pub sent : sends ≡ Sends.One (record { host = h; message = Message.BiRsp RspOp.IBlk (record { 0 = first }) 0 })

block_found : (setup : Configuration) (h first : ℕ) (past : List Event) (sends : Sends) (found : Option Snoop) → whole_block_at first past ≡ found
    → option_map_or (λ (s : Snoop). list_all (may_answer_in_block setup past) s.unanswered) found false ≡ true
    → sends ≡ Sends.One (record { host = h; message = Message.BiRsp RspOp.IBlk (record { 0 = first }) 0 }) → BlockRow setup h first past sends
block_found setup h first past sends None is may sent = absurd (false≢true may)
block_found setup h first past sends (Some s) is may sent = record { s = s; there = is; all = may; sent = sent }

pub block_row : (setup : Configuration) (h first : ℕ) (past : List Event) (w : Emission) → h9_answer_block setup h first past ≡ Some w → BlockRow setup h first past w.sends
block_row setup h first past w row =
    let given = when_some (may_answer_block setup first past) _ w row in
    block_found setup h first past w.sends (whole_block_at first past) refl given.0 (ap sends_of (sym given.1))
