-- Which hosts the device has asked by its snoops, by the device's own events, newest first.
use Rattle.std.specs.Prelude.{Bool, List, None, Option, Some, [], if◌then◌else◌, is_some, option_and_then, option_map, ℕ, ◌&&◌, ◌+◌, ◌==◌, ◌∷◌}
use Rattle.std.specs.Option.{option_map_or}
use Rattle.cxl_message.specs.declared.events.Act.{Act}
use Rattle.cxl_message.specs.declared.events.Cause.{Cause}
use Rattle.cxl_message.specs.declared.events.Event.{Event}
use Rattle.cxl_message.specs.declared.events.Sends.{Sends}
use Rattle.cxl_message.specs.declared.messages.Message.{Message}
use Rattle.cxl_message.specs.declared.opcodes.RspOp.{RspOp}
use Rattle.cxl_message.specs.declared.opcodes.SnpOp.{SnpOp}
use Rattle.cxl_message.specs.declared.opcodes.Span.{Span}
use Rattle.cxl_message.specs.Lists.{without}
use Rattle.coherence_model.specs.Snoops.{Snoop, snoop_of}

-- a snoop that was sent: its opcode, its span, and the lines that have no answer taken (CXL 3.1, ch. 3: BISnp)
pub record SentSnoop : Type 0 where
  pub op : SnpOp
  pub span : Span
  pub unanswered : List ℕ

-- the snoop as it was sent (own rule)
abbrev pub as_sent : Snoop → SentSnoop
as_sent s = record { op = s.op; span = s.span; unanswered = s.unanswered }

-- the snoop that an event sends (own rule)
abbrev pub snoop_by_sends : Sends → Option SentSnoop
snoop_by_sends Sends.Nothing = None
snoop_by_sends (Sends.One o) = option_map as_sent (snoop_of o.message)
snoop_by_sends (Sends.Two _ _) = None

-- the snoop with the lines that are left, or none where no line is left (own rule)
abbrev pub still_asking : SentSnoop → List ℕ → Option SentSnoop
still_asking q [] = None
still_asking q (b ∷ bs) = Some (record q { unanswered = b ∷ bs })

-- the snoop after an answer: a block's answer is for all lines, another one for the line that it names (CXL 3.1, ch. 3: BIRspIBlk)
abbrev pub snoop_after_response : RspOp → ℕ → SentSnoop → Option SentSnoop
snoop_after_response RspOp.I a q = still_asking q (without a q.unanswered)
snoop_after_response RspOp.S a q = still_asking q (without a q.unanswered)
snoop_after_response RspOp.E a q = still_asking q (without a q.unanswered)
snoop_after_response RspOp.IBlk a q = None
snoop_after_response RspOp.SBlk a q = None
snoop_after_response RspOp.EBlk a q = None

-- the snoop with first line a after a taken message of its host (own rule)
abbrev pub sent_snoop_after_take : ℕ → Message → Option SentSnoop → Option SentSnoop
sent_snoop_after_take a (Message.Req _ _ _ _ _) old = old
sent_snoop_after_take a (Message.MemWr _ _ _ _ _) old = old
sent_snoop_after_take a (Message.BiConflict _) old = old
sent_snoop_after_take a (Message.BiRsp op bitag low) old = if bitag.0 == a then option_and_then (snoop_after_response op (a + low)) old else old
sent_snoop_after_take a (Message.Ndr _ _) old = old
sent_snoop_after_take a (Message.MemData _ _) old = old
sent_snoop_after_take a (Message.BiSnp _ _ _ _) old = old
sent_snoop_after_take a (Message.Credit _) old = old

-- the snoop of host h with first line a after an act: Snoop sends it (own rule)
abbrev pub sent_snoop_after_act : ℕ → ℕ → Act → Sends → Option SentSnoop → Option SentSnoop
sent_snoop_after_act h a (Act.Conflict _) sends old = old
sent_snoop_after_act h a (Act.WriteBack _) sends old = old
sent_snoop_after_act h a (Act.Answer _) sends old = old
sent_snoop_after_act h a (Act.AnswerBlock _) sends old = old
sent_snoop_after_act h a (Act.HostReturn _) sends old = old
sent_snoop_after_act h a (Act.Serve _ _) sends old = old
sent_snoop_after_act h a (Act.Clean _ _) sends old = old
sent_snoop_after_act h a (Act.Start _ _) sends old = old
sent_snoop_after_act h a (Act.Evict _ _) sends old = old
sent_snoop_after_act h a (Act.Snoop host line) sends old = if (host == h) && (line.0 == a) then snoop_by_sends sends else old
sent_snoop_after_act h a (Act.Finish _) sends old = old
sent_snoop_after_act h a (Act.DeviceReturn _ _) sends old = old

-- the snoop of host h with first line a after a cause (own rule)
abbrev pub sent_snoop_after : ℕ → ℕ → Cause → Sends → Option SentSnoop → Option SentSnoop
sent_snoop_after h a (Cause.Op _ _ _) sends old = old
sent_snoop_after h a (Cause.Take host m) sends old = if host == h then sent_snoop_after_take a m old else old
sent_snoop_after h a (Cause.Act act) sends old = sent_snoop_after_act h a act sends old

-- the snoop with first line a by which host h is Asked: some of its lines have no answer taken (own rule)
abbrev pub sent_snoop_at : ℕ → ℕ → List Event → Option SentSnoop
sent_snoop_at h a [] = None
sent_snoop_at h a (e ∷ past) = sent_snoop_after h a e.cause e.sends (sent_snoop_at h a past)

-- whether host h is Asked by the task with first line a (own rule)
abbrev pub is_asked : ℕ → ℕ → List Event → Bool
is_asked h a mine = is_some (sent_snoop_at h a mine)

-- the lines of that snoop that have no answer taken (own rule)
abbrev pub unanswered_lines : ℕ → ℕ → List Event → List ℕ
unanswered_lines h a mine = option_map_or (λ q. q.unanswered) (sent_snoop_at h a mine) []
