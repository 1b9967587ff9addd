-- Which snoops a host holds, by the host's own events, newest first.
use Rattle.std.specs.Prelude.{Bool, List, None, Option, Some, [], false, filter, find, if◌then◌else◌, is_some, length, not, true, ℕ, ◌&&◌, ◌++◌, ◌==◌, ◌∷◌}
use Rattle.cxl_message.specs.declared.channels.Channel.{Channel}
use Rattle.cxl_message.specs.declared.events.Act.{Act}
use Rattle.cxl_message.specs.declared.events.Cause.{Cause}
use Rattle.cxl_message.specs.declared.events.Event.{Event}
use Rattle.cxl_message.specs.declared.messages.Message.{Message}
use Rattle.cxl_message.specs.declared.opcodes.SnpOp.{SnpOp}
use Rattle.cxl_message.specs.declared.opcodes.Span.{Span}
use Rattle.cxl_message.specs.Codes.{span_len}
use Rattle.cxl_message.specs.Lists.{is_in, without}
use Rattle.cxl_message.specs.Spans.{lines_of}
use Rattle.coherence_model.specs.Credits.{owed_count}
use Rattle.coherence_model.specs.Transactions.{is_open}
use Rattle.coherence_model.specs.Words.{with_last}

-- a buffered snoop: its opcode, its first line, its span, and the lines that have no answer yet (CXL 3.1, ch. 3: BISnp)
pub record Snoop : Type 0 where
  pub op : SnpOp
  pub first : ℕ
  pub span : Span
  pub unanswered : List ℕ

-- the snoop that a message brings, if it is one (CXL 3.1, ch. 3: BISnp)
abbrev pub snoop_of : Message → Option Snoop
snoop_of (Message.Req _ _ _ _ _) = None
snoop_of (Message.MemWr _ _ _ _ _) = None
snoop_of (Message.BiConflict _) = None
snoop_of (Message.BiRsp _ _ _) = None
snoop_of (Message.Ndr _ _) = None
snoop_of (Message.MemData _ _) = None
snoop_of (Message.BiSnp op _ line span) = Some (record { op = op; first = line.0; span = span; unanswered = lines_of line.0 span })
snoop_of (Message.Credit _) = None

-- whether a snoop's opcode is BISnpInvBlk (CXL 3.1, ch. 3: the opcodes)
abbrev pub invalidates_block : SnpOp → Bool
invalidates_block SnpOp.Cur = false
invalidates_block SnpOp.Dat = false
invalidates_block SnpOp.Inv = false
invalidates_block SnpOp.CurBlk = false
invalidates_block SnpOp.DatBlk = false
invalidates_block SnpOp.InvBlk = true

-- whether a snoop is a BISnpInvBlk with this first line, none of whose lines was answered (own rule)
abbrev pub is_whole_block : ℕ → Snoop → Bool
is_whole_block first s = invalidates_block s.op && (s.first == first) && (length s.unanswered == span_len s.span)

-- the snoop with the lines that are left, or no snoop where none is left (own rule)
abbrev pub snoop_left : Snoop → List ℕ → List Snoop
snoop_left s [] = []
snoop_left s (b ∷ bs) = record s { unanswered = b ∷ bs } ∷ []

-- the buffered snoops after the answer for line a (own rule)
abbrev pub snoops_after_answer : ℕ → List Snoop → List Snoop
snoops_after_answer a [] = []
snoops_after_answer a (s ∷ ss) = if is_in a s.unanswered then snoop_left s (without a s.unanswered) ++ ss else s ∷ snoops_after_answer a ss

-- the buffered snoops after an act: an answer takes away its line, an answer to a block the whole snoop (own rule)
abbrev pub snoops_after_act : Act → List Snoop → List Snoop
snoops_after_act (Act.Conflict _) old = old
snoops_after_act (Act.WriteBack _) old = old
snoops_after_act (Act.Answer line) old = snoops_after_answer line.0 old
snoops_after_act (Act.AnswerBlock line) old = filter (λ s. not (is_whole_block line.0 s)) old
snoops_after_act (Act.HostReturn _) old = old
snoops_after_act (Act.Serve _ _) old = old
snoops_after_act (Act.Clean _ _) old = old
snoops_after_act (Act.Start _ _) old = old
snoops_after_act (Act.Evict _ _) old = old
snoops_after_act (Act.Snoop _ _) old = old
snoops_after_act (Act.Finish _) old = old
snoops_after_act (Act.DeviceReturn _ _) old = old

-- the buffered snoops after a cause: a taken snoop is the last (own rule)
abbrev pub snoops_after : Cause → List Snoop → List Snoop
snoops_after (Cause.Op _ _ _) old = old
snoops_after (Cause.Take _ m) old = with_last (snoop_of m) old
snoops_after (Cause.Act act) old = snoops_after_act act old

-- the buffered snoops, in the order taken (own rule)
abbrev pub buffered_snoops : List Event → List Snoop
buffered_snoops [] = []
buffered_snoops (e ∷ past) = snoops_after e.cause (buffered_snoops past)

-- the buffered snoop that has line a without an answer (own rule)
abbrev pub snoop_at : ℕ → List Event → Option Snoop
snoop_at a mine = find (λ s. is_in a s.unanswered) (buffered_snoops mine)

-- whether line a is Snooped: from the take of a BISnp that covers it to the answer for it (own rule)
abbrev pub is_snooped : ℕ → List Event → Bool
is_snooped a mine = is_some (snoop_at a mine)

-- whether line a is neither Open nor Snooped (own rule)
abbrev pub is_quiet : ℕ → List Event → Bool
is_quiet a mine = not (is_open a mine) && not (is_snooped a mine)

-- the buffered BISnpInvBlk with this first line, none of whose lines was answered (own rule)
abbrev pub whole_block_at : ℕ → List Event → Option Snoop
whole_block_at first mine = find (is_whole_block first) (buffered_snoops mine)

-- how many messages of a channel a host holds buffered: only snoops are (own rule)
abbrev pub host_buffered : Channel → List Event → ℕ
host_buffered Channel.Req mine = 0
host_buffered Channel.Rwd mine = 0
host_buffered Channel.BiRsp mine = 0
host_buffered Channel.Ndr mine = 0
host_buffered Channel.Drs mine = 0
host_buffered Channel.BiSnp mine = length (buffered_snoops mine)
host_buffered Channel.CreditUp mine = 0
host_buffered Channel.CreditDown mine = 0

-- `Owed` at a host (own rule)
abbrev pub host_owed : ℕ → Channel → List Event → ℕ
host_owed h c mine = owed_count h c (host_buffered c mine) mine
