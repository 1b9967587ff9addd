-- How far a snooped line is at its host, by the host's own events, newest first.
use Rattle.std.specs.Prelude.{Bool, List, Option, [], false, if◌then◌else◌, is_some, true, ℕ, ◌==◌, ◌∷◌}
use Rattle.std.specs.Option.{option_map_or}
use Rattle.cxl_message.specs.declared.events.Act.{Act}
use Rattle.cxl_message.specs.declared.events.Cause.{Cause}
use Rattle.cxl_message.specs.declared.events.Event.{Event}
use Rattle.cxl_message.specs.declared.messages.Message.{Message}
use Rattle.cxl_message.specs.declared.opcodes.NdrOp.{NdrOp}
use Rattle.cxl_message.specs.Setup.{Configuration}
use Rattle.cxl_message.specs.Spans.{covers}
use Rattle.coherence_model.specs.Transactions.{Transaction, open_at}

-- the stage of a snooped line; Early and Late are the two ends of a conflict (CXL 3.1, ch. 3: early and late conflict; own rule: the other stages)
pub data Stage : Type 0 where
  New : Stage
  Asked : ℕ → Stage
  Early : Stage
  Late : Stage
  Writing : Stage
  Written : Stage

-- whether a line's Cmp, Cmp-S or Cmp-E was taken: nothing is open any more, or it waits for its MemData alone (own rule)
abbrev pub was_completed : Option Transaction → Bool
was_completed o = option_map_or (λ o. is_some o.grant) o true

-- how a conflict ends: Late where the Cmp message of the Req came before the BI-ConflictAck, else Early (CXL 3.1, ch. 3: early and late conflict)
abbrev pub conflict_end : Option Transaction → Stage
conflict_end o = if was_completed o then Stage.Late else Stage.Early

-- the stage of line a after a BI-ConflictAck with this tag (CXL 3.1, ch. 3: the conflict handshake)
abbrev pub stage_after_ack : ℕ → ℕ → List Event → Stage → Stage
stage_after_ack tag a past Stage.New = Stage.New
stage_after_ack tag a past (Stage.Asked t) = if t == tag then conflict_end (open_at a past) else Stage.Asked t
stage_after_ack tag a past Stage.Early = Stage.Early
stage_after_ack tag a past Stage.Late = Stage.Late
stage_after_ack tag a past Stage.Writing = Stage.Writing
stage_after_ack tag a past Stage.Written = Stage.Written

-- the stage after a Cmp with this tag: the write-back's ends the writing (own rule)
abbrev pub stage_after_completion : Configuration → ℕ → Stage → Stage
stage_after_completion setup tag Stage.New = Stage.New
stage_after_completion setup tag (Stage.Asked t) = Stage.Asked t
stage_after_completion setup tag Stage.Early = Stage.Early
stage_after_completion setup tag Stage.Late = Stage.Late
stage_after_completion setup tag Stage.Writing = if tag == setup.tags then Stage.Written else Stage.Writing
stage_after_completion setup tag Stage.Written = Stage.Written

-- the stage of line a after an NDR message with this tag (own rule)
abbrev pub stage_after_ndr : Configuration → NdrOp → ℕ → ℕ → List Event → Stage → Stage
stage_after_ndr setup NdrOp.Cmp tag a past old = stage_after_completion setup tag old
stage_after_ndr setup NdrOp.CmpS tag a past old = old
stage_after_ndr setup NdrOp.CmpE tag a past old = old
stage_after_ndr setup NdrOp.ConflictAck tag a past old = stage_after_ack tag a past old

-- the stage of line a after a message was taken: New after a snoop of it (own rule)
abbrev pub stage_after_take : Configuration → ℕ → Message → List Event → Stage → Stage
stage_after_take setup a (Message.Req _ _ _ _ _) past old = old
stage_after_take setup a (Message.MemWr _ _ _ _ _) past old = old
stage_after_take setup a (Message.BiConflict _) past old = old
stage_after_take setup a (Message.BiRsp _ _ _) past old = old
stage_after_take setup a (Message.Ndr op tag) past old = stage_after_ndr setup op tag.0 a past old
stage_after_take setup a (Message.MemData _ _) past old = old
stage_after_take setup a (Message.BiSnp _ _ line span) past old = if covers line.0 span a then Stage.New else old
stage_after_take setup a (Message.Credit _) past old = old

-- the stage of line a after an act: Asked after its Conflict, with the tag of what is open, and Writing after its WriteBack (own rule)
abbrev pub stage_after_act : ℕ → Act → List Event → Stage → Stage
stage_after_act a (Act.Conflict line) past old = if line.0 == a then Stage.Asked (option_map_or (λ o. o.tag) (open_at a past) 0) else old
stage_after_act a (Act.WriteBack line) past old = if line.0 == a then Stage.Writing else old
stage_after_act a (Act.Answer _) past old = old
stage_after_act a (Act.AnswerBlock _) past old = old
stage_after_act a (Act.HostReturn _) past old = old
stage_after_act a (Act.Serve _ _) past old = old
stage_after_act a (Act.Clean _ _) past old = old
stage_after_act a (Act.Start _ _) past old = old
stage_after_act a (Act.Evict _ _) past old = old
stage_after_act a (Act.Snoop _ _) past old = old
stage_after_act a (Act.Finish _) past old = old
stage_after_act a (Act.DeviceReturn _ _) past old = old

-- the stage of line a after a cause (own rule)
abbrev pub stage_after : Configuration → ℕ → Cause → List Event → Stage → Stage
stage_after setup a (Cause.Op _ _ _) past old = old
stage_after setup a (Cause.Take _ m) past old = stage_after_take setup a m past old
stage_after setup a (Cause.Act act) past old = stage_after_act a act past old

-- the stage of line a since the last snoop of it; it means something while the line is Snooped (own rule)
abbrev pub stage : Configuration → ℕ → List Event → Stage
stage setup a [] = Stage.New
stage setup a (e ∷ past) = stage_after setup a e.cause past (stage setup a past)

-- whether a stage is New (own rule)
abbrev pub is_new : Stage → Bool
is_new Stage.New = true
is_new (Stage.Asked _) = false
is_new Stage.Early = false
is_new Stage.Late = false
is_new Stage.Writing = false
is_new Stage.Written = false

-- whether a stage is New or Late (own rule)
abbrev pub is_new_or_late : Stage → Bool
is_new_or_late Stage.New = true
is_new_or_late (Stage.Asked _) = false
is_new_or_late Stage.Early = false
is_new_or_late Stage.Late = true
is_new_or_late Stage.Writing = false
is_new_or_late Stage.Written = false

-- whether a stage is Early or Written (own rule)
abbrev pub is_early_or_written : Stage → Bool
is_early_or_written Stage.New = false
is_early_or_written (Stage.Asked _) = false
is_early_or_written Stage.Early = true
is_early_or_written Stage.Late = false
is_early_or_written Stage.Writing = false
is_early_or_written Stage.Written = true

-- whether a stage is Early (own rule)
abbrev pub is_early : Stage → Bool
is_early Stage.New = false
is_early (Stage.Asked _) = false
is_early Stage.Early = true
is_early Stage.Late = false
is_early Stage.Writing = false
is_early Stage.Written = false
