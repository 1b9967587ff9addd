-- How much the numbers of a summary rise at most.
use Rattle.std.proofs.Common.{List, Option, Some, None, [], ◌∷◌, ◌+◌, ◌*◌, ◌≤◌, arith, length}
use Rattle.cxl_message.specs.declared.events.Act.{Act}
use Rattle.cxl_message.specs.declared.events.Cause.{Cause}
use Rattle.cxl_message.specs.declared.events.Commit.{Commit}
use Rattle.cxl_message.specs.declared.events.Event.{Event}
use Rattle.cxl_message.specs.declared.events.Op.{Op}
use Rattle.cxl_message.specs.declared.events.Sends.{Sends}
use Rattle.cxl_message.specs.declared.messages.Message.{Message}
use Rattle.step_driver.specs.declared.summary.Summary.{Summary}
use Rattle.step_driver.specs.Summaries.{summary_of, total, with_act, with_cause, with_commit, with_committed, with_event, with_message, with_operation, with_sends}

act_adds : (act : Act) (s : Summary) → total (with_act act s) ≤ total s + 1
act_adds (Act.Conflict _) s = omega arith
act_adds (Act.WriteBack _) s = omega arith
act_adds (Act.Answer _) s = omega arith
act_adds (Act.AnswerBlock _) s = omega arith
act_adds (Act.HostReturn _) s = omega arith
act_adds (Act.Serve _ _) s = omega arith
act_adds (Act.Clean _ _) s = omega arith
act_adds (Act.Start _ _) s = omega arith
act_adds (Act.Evict _ _) s = omega arith
act_adds (Act.Snoop _ _) s = omega arith
act_adds (Act.Finish _) s = omega arith
act_adds (Act.DeviceReturn _ _) s = omega arith

operation_adds : (sends : Sends) (s : Summary) → total (with_operation sends (record s { operations = s.operations + 1 })) ≤ total s + 2
operation_adds Sends.Nothing s = omega arith
operation_adds (Sends.One _) s = omega arith
operation_adds (Sends.Two _ _) s = omega arith

pub cause_adds : (cause : Cause) (sends : Sends) (s : Summary) → total (with_cause cause sends s) ≤ total s + 2
cause_adds (Cause.Op _ _ _) sends s = operation_adds sends s
cause_adds (Cause.Take _ _) sends s = omega arith
cause_adds (Cause.Act act) sends s = let one = act_adds act s in omega (arith, one)

pub message_adds : (m : Message) (s : Summary) → total (with_message m s) ≤ total s + 1
message_adds (Message.Req _ _ _ _ _) s = omega arith
message_adds (Message.MemWr _ _ _ _ _) s = omega arith
message_adds (Message.BiConflict _) s = omega arith
message_adds (Message.BiRsp _ _ _) s = omega arith
message_adds (Message.Ndr _ _) s = omega arith
message_adds (Message.MemData _ _) s = omega arith
message_adds (Message.BiSnp _ _ _ _) s = omega arith
message_adds (Message.Credit _) s = omega arith

pub sends_add : (sends : Sends) (s : Summary) → total (with_sends sends s) ≤ total s + 2
sends_add Sends.Nothing s = omega arith
sends_add (Sends.One o) s = let one = message_adds o.message s in omega (arith, one)
sends_add (Sends.Two o p) s =
    let one = message_adds o.message s in
    let two = message_adds p.message (with_message o.message s) in
    omega (arith, one, two)

committed_adds : (op : Op) (s : Summary) → total (with_committed op s) ≤ total s + 1
committed_adds (Op.Load _) s = omega arith
committed_adds (Op.Word _ _ _) s = omega arith
committed_adds (Op.Whole _ _) s = omega arith

commit_adds : (commit : Option Commit) (s : Summary) → total (with_commit commit s) ≤ total s + 1
commit_adds None s = omega arith
commit_adds (Some c) s = committed_adds c.op s

event_adds : (e : Event) (s : Summary) → total (with_event e s) ≤ total s + 6
event_adds e s =
    let begun : Summary = record s { events = s.events + 1 } in
    let caused = with_cause e.cause e.sends begun in
    let sent = with_sends e.sends caused in
    let one = cause_adds e.cause e.sends begun in
    let two = sends_add e.sends caused in
    let three = commit_adds e.commit sent in
    omega (arith, one, two, three)

-- each event adds at most six
pub summary_is_small : (t : List Event) → total (summary_of t) ≤ 6 * length t
summary_is_small [] = omega arith
summary_is_small (e ∷ t) =
    let less = summary_is_small t in
    let more = event_adds e (summary_of t) in
    omega (arith, less, more)
