-- Which Tags of a host are in use, by the host's own events, newest first.
use Rattle.std.specs.Prelude.{Bool, List, None, Option, Some, [], false, filter, if◌then◌else◌, is_some, not, option_and_then, ℕ, ◌&&◌, ◌==◌, ◌||◌, ◌∷◌}
use Rattle.std.specs.List.{list_any}
use Rattle.std.specs.Option.{option_or}
use Rattle.cxl_message.specs.declared.events.Cause.{Cause}
use Rattle.cxl_message.specs.declared.events.Event.{Event}
use Rattle.cxl_message.specs.declared.events.Sends.{Sends}
use Rattle.cxl_message.specs.declared.messages.Message.{Message}
use Rattle.cxl_message.specs.Events.{outs}
use Rattle.cxl_message.specs.Lists.{below}
use Rattle.cxl_message.specs.Messages.{has_tag, is_conflict_ack, line_in}
use Rattle.cxl_message.specs.Setup.{Configuration}
use Rattle.coherence_model.specs.Transactions.{Transaction, open_at}

-- the line of a request or eviction with this tag (own rule)
abbrev pub line_by_message : ℕ → Message → Option ℕ
line_by_message tag m = if has_tag tag m then line_in m else None

-- the line for which an operation's messages take this tag (own rule)
abbrev pub line_by_sends : ℕ → Sends → Option ℕ
line_by_sends tag Sends.Nothing = None
line_by_sends tag (Sends.One o) = line_by_message tag o.message
line_by_sends tag (Sends.Two o p) = option_or (line_by_message tag o.message) (line_by_message tag p.message)

-- the line of the last request or eviction that took this tag, after a cause (own rule)
abbrev pub tagged_after : ℕ → Cause → Sends → Option ℕ → Option ℕ
tagged_after tag (Cause.Op _ _ _) sends old = option_or (line_by_sends tag sends) old
tagged_after tag (Cause.Take _ _) sends old = old
tagged_after tag (Cause.Act _) sends old = old

-- the line of the last request or eviction that took this tag (own rule)
abbrev pub tagged_line : ℕ → List Event → Option ℕ
tagged_line tag [] = None
tagged_line tag (e ∷ past) = tagged_after tag e.cause e.sends (tagged_line tag past)

-- what is open, if it has this tag (own rule)
abbrev pub if_tagged : ℕ → Transaction → Option Transaction
if_tagged tag o = if o.tag == tag then Some o else None

-- what is open with this tag (own rule)
abbrev pub open_with : ℕ → List Event → Option Transaction
open_with tag mine = option_and_then (if_tagged tag) (option_and_then (λ a. open_at a mine) (tagged_line tag mine))

-- whether a message is a BIConflict with this tag (CXL 3.1, ch. 3: the messages)
abbrev pub is_conflict_with : ℕ → Message → Bool
is_conflict_with tag (Message.Req _ _ _ _ _) = false
is_conflict_with tag (Message.MemWr _ _ _ _ _) = false
is_conflict_with tag (Message.BiConflict t) = t.0 == tag
is_conflict_with tag (Message.BiRsp _ _ _) = false
is_conflict_with tag (Message.Ndr _ _) = false
is_conflict_with tag (Message.MemData _ _) = false
is_conflict_with tag (Message.BiSnp _ _ _ _) = false
is_conflict_with tag (Message.Credit _) = false

-- whether a BIConflict with this tag is sent (CXL 3.1, ch. 3: the messages)
abbrev pub sends_conflict : ℕ → Sends → Bool
sends_conflict tag sends = list_any (λ o. is_conflict_with tag o.message) (outs sends)

-- whether the BI-ConflictAck with this tag is taken (CXL 3.1, ch. 3: the messages)
abbrev pub takes_conflict_ack : ℕ → Cause → Bool
takes_conflict_ack tag (Cause.Op _ _ _) = false
takes_conflict_ack tag (Cause.Take _ m) = is_conflict_ack m && has_tag tag m
takes_conflict_ack tag (Cause.Act _) = false

-- whether a BIConflict with this tag has no BI-ConflictAck taken, so that some line is Asked with it (CXL 3.1, ch. 3: the conflict handshake)
abbrev pub is_conflict_open : ℕ → List Event → Bool
is_conflict_open tag [] = false
is_conflict_open tag (e ∷ past) = not (takes_conflict_ack tag e.cause) && (sends_conflict tag e.sends || is_conflict_open tag past)

-- whether a tag is in use: its request or eviction is open, or its conflict is (own rule)
abbrev pub is_tag_used : ℕ → List Event → Bool
is_tag_used tag mine = is_some (open_with tag mine) || is_conflict_open tag mine

-- the tags that aren't in use, ascending (own rule)
abbrev pub free_tags : Configuration → List Event → List ℕ
free_tags setup mine = filter (λ tag. not (is_tag_used tag mine)) (below setup.tags)
