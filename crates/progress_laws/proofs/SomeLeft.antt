-- A snoop that a host holds, or that waits for answers at the device, has a line without an answer: by recursion over the agent's own events.
use Rattle.std.proofs.Common.{◌≡◌, ℕ, ◌≤◌, Bool, true, false, List, [], ◌∷◌, ◌++◌, Option, Some, None, cond, length, subst, arith}
use Rattle.std.specs.Prelude.{not, option_and_then, option_map, ◌&&◌, ◌==◌}
use Rattle.std.proofs.lemmas.Option.{none-some, same_Some}
use Rattle.cxl_message.specs.declared.events.Act.{Act}
use Rattle.cxl_message.specs.declared.events.Cause.{Cause}
use Rattle.cxl_message.specs.declared.events.Event.{Event}
use Rattle.cxl_message.specs.declared.events.Sends.{Sends}
use Rattle.cxl_message.specs.declared.messages.Message.{Message}
use Rattle.cxl_message.specs.declared.opcodes.RspOp.{RspOp}
use Rattle.cxl_message.specs.declared.opcodes.Span.{Span}
use Rattle.cxl_message.specs.Lists.{is_in, without}
use Rattle.cxl_message.specs.Spans.{lines_of}
use Rattle.coherence_model.specs.SentSnoops.{SentSnoop, as_sent, sent_snoop_after, sent_snoop_after_act, sent_snoop_after_take, sent_snoop_at, snoop_after_response, snoop_by_sends, still_asking}
use Rattle.coherence_model.specs.Snoops.{Snoop, buffered_snoops, is_whole_block, snoop_left, snoop_of, snoops_after, snoops_after_act, snoops_after_answer}
use Rattle.step_laws.proofs.Counts.{Each, each_append, each_filter}

-- a snoop with a line
abbrev pub HasLine : Snoop → Type 0
HasLine s = 1 ≤ length s.unanswered

lines_there : (first : ℕ) (span : Span) → 1 ≤ length (lines_of first span)
lines_there first Span.One = omega arith
lines_there first Span.Two = omega arith
lines_there first Span.Four = omega arith

left_there : (s : Snoop) (zs : List ℕ) → Each HasLine (snoop_left s zs)
left_there s [] = tt
left_there s (z ∷ zs) = (omega arith, tt)

answer_by : (s : Snoop) (ss rest : List Snoop) (zs : List ℕ) (here : Bool) → HasLine s → Each HasLine ss → Each HasLine rest → Each HasLine (cond here (snoop_left s zs ++ ss) (s ∷ rest))
answer_by s ss rest zs true has each later = each_append HasLine (snoop_left s zs) ss (left_there s zs) each
answer_by s ss rest zs false has each later = (has, later)

answer_there : (a : ℕ) (ss : List Snoop) → Each HasLine ss → Each HasLine (snoops_after_answer a ss)
answer_there a [] each = tt
answer_there a (s ∷ ss) each = answer_by s ss (snoops_after_answer a ss) (without a s.unanswered) (is_in a s.unanswered) each.0 each.1 (answer_there a ss each.1)

act_there : (act : Act) (ss : List Snoop) → Each HasLine ss → Each HasLine (snoops_after_act act ss)
act_there (Act.Conflict _) ss each = each
act_there (Act.WriteBack _) ss each = each
act_there (Act.Answer line) ss each = answer_there line.0 ss each
act_there (Act.AnswerBlock line) ss each = each_filter HasLine (λ s. not (is_whole_block line.0 s)) ss each
act_there (Act.HostReturn _) ss each = each
act_there (Act.Serve _ _) ss each = each
act_there (Act.Clean _ _) ss each = each
act_there (Act.Start _ _) ss each = each
act_there (Act.Evict _ _) ss each = each
act_there (Act.Snoop _ _) ss each = each
act_there (Act.Finish _) ss each = each
act_there (Act.DeviceReturn _ _) ss each = each

cause_there : (cause : Cause) (ss : List Snoop) → Each HasLine ss → Each HasLine (snoops_after cause ss)
cause_there (Cause.Op s i op) ss each = each
cause_there (Cause.Take h (Message.Req _ _ _ _ _)) ss each = each
cause_there (Cause.Take h (Message.MemWr _ _ _ _ _)) ss each = each
cause_there (Cause.Take h (Message.BiConflict _)) ss each = each
cause_there (Cause.Take h (Message.BiRsp _ _ _)) ss each = each
cause_there (Cause.Take h (Message.Ndr _ _)) ss each = each
cause_there (Cause.Take h (Message.MemData _ _)) ss each = each
cause_there (Cause.Take h (Message.BiSnp op bitag line span)) ss each = each_append HasLine ss _ each (lines_there line.0 span, tt)
cause_there (Cause.Take h (Message.Credit _)) ss each = each
cause_there (Cause.Act act) ss each = act_there act ss each

-- each snoop that an agent holds has a line
pub held_have_lines : (mine : List Event) → Each HasLine (buffered_snoops mine)
held_have_lines [] = tt
held_have_lines (e ∷ past) = cause_there e.cause (buffered_snoops past) (held_have_lines past)

-- ---- at the device

abbrev pub HasLeft : Option SentSnoop → Type 0
HasLeft found = (q : SentSnoop) → found ≡ Some q → 1 ≤ length q.unanswered

none_has : HasLeft None
none_has q is = absurd (none-some q is)

some_has : (r : SentSnoop) → 1 ≤ length r.unanswered → HasLeft (Some r)
some_has r has q is = subst (λ (x : SentSnoop). 1 ≤ length x.unanswered) (same_Some r q is) has

asking_has : (r : SentSnoop) (zs : List ℕ) → HasLeft (still_asking r zs)
asking_has r [] = none_has
asking_has r (z ∷ zs) = some_has (record r { unanswered = z ∷ zs }) (omega arith)

response_has : (op : RspOp) (a : ℕ) (old : Option SentSnoop) → HasLeft (option_and_then (snoop_after_response op a) old)
response_has op a None = none_has
response_has RspOp.I a (Some r) = asking_has r (without a r.unanswered)
response_has RspOp.S a (Some r) = asking_has r (without a r.unanswered)
response_has RspOp.E a (Some r) = asking_has r (without a r.unanswered)
response_has RspOp.IBlk a (Some r) = none_has
response_has RspOp.SBlk a (Some r) = none_has
response_has RspOp.EBlk a (Some r) = none_has

if_has : (b : Bool) (x y : Option SentSnoop) → HasLeft x → HasLeft y → HasLeft (cond b x y)
if_has true x y f g = f
if_has false x y f g = g

take_has : (a : ℕ) (m : Message) (old : Option SentSnoop) → HasLeft old → HasLeft (sent_snoop_after_take a m old)
take_has a (Message.Req _ _ _ _ _) old inv = inv
take_has a (Message.MemWr _ _ _ _ _) old inv = inv
take_has a (Message.BiConflict _) old inv = inv
take_has a (Message.BiRsp op bitag low) old inv = if_has (bitag.0 == a) _ old (response_has op _ old) inv
take_has a (Message.Ndr _ _) old inv = inv
take_has a (Message.MemData _ _) old inv = inv
take_has a (Message.BiSnp _ _ _ _) old inv = inv
take_has a (Message.Credit _) old inv = inv

brought_has : (m : Message) → HasLeft (option_map as_sent (snoop_of m))
brought_has (Message.Req _ _ _ _ _) = none_has
brought_has (Message.MemWr _ _ _ _ _) = none_has
brought_has (Message.BiConflict _) = none_has
brought_has (Message.BiRsp _ _ _) = none_has
brought_has (Message.Ndr _ _) = none_has
brought_has (Message.MemData _ _) = none_has
brought_has (Message.BiSnp op bitag line span) = some_has (record { op = op; span = span; unanswered = lines_of line.0 span }) (lines_there line.0 span)
brought_has (Message.Credit _) = none_has

sends_has : (sends : Sends) → HasLeft (snoop_by_sends sends)
sends_has Sends.Nothing = none_has
sends_has (Sends.One o) = brought_has o.message
sends_has (Sends.Two _ _) = none_has

sent_act_has : (h a : ℕ) (act : Act) (sends : Sends) (old : Option SentSnoop) → HasLeft old → HasLeft (sent_snoop_after_act h a act sends old)
sent_act_has h a (Act.Conflict _) sends old inv = inv
sent_act_has h a (Act.WriteBack _) sends old inv = inv
sent_act_has h a (Act.Answer _) sends old inv = inv
sent_act_has h a (Act.AnswerBlock _) sends old inv = inv
sent_act_has h a (Act.HostReturn _) sends old inv = inv
sent_act_has h a (Act.Serve _ _) sends old inv = inv
sent_act_has h a (Act.Clean _ _) sends old inv = inv
sent_act_has h a (Act.Start _ _) sends old inv = inv
sent_act_has h a (Act.Evict _ _) sends old inv = inv
sent_act_has h a (Act.Snoop host line) sends old inv = if_has ((host == h) && (line.0 == a)) (snoop_by_sends sends) old (sends_has sends) inv
sent_act_has h a (Act.Finish _) sends old inv = inv
sent_act_has h a (Act.DeviceReturn _ _) sends old inv = inv

cause_has : (h a : ℕ) (cause : Cause) (sends : Sends) (old : Option SentSnoop) → HasLeft old → HasLeft (sent_snoop_after h a cause sends old)
cause_has h a (Cause.Op _ _ _) sends old inv = inv
cause_has h a (Cause.Take host m) sends old inv = if_has (host == h) _ old (take_has a m old inv) inv
cause_has h a (Cause.Act act) sends old inv = sent_act_has h a act sends old inv

-- each snoop that waits for answers has a line
pub sent_have_lines : (h a : ℕ) (mine : List Event) → HasLeft (sent_snoop_at h a mine)
sent_have_lines h a [] = none_has
sent_have_lines h a (e ∷ past) = cause_has h a e.cause e.sends (sent_snoop_at h a past) (sent_have_lines h a past)
