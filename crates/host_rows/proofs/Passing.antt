-- What it says of a message that its take passes and its row holds: its lines are low, and there is room for it.
use Rattle.std.proofs.Common.{Bool, None, Option, Some, arith, false, length, refl, sym, true, ℕ, ◌+◌, ◌≡◌, ◌≤◌}
use Rattle.std.specs.Prelude.{is_some, nat_le, nat_lt, option_map, ◌&&◌}
use Rattle.std.proofs.lemmas.Bool.{and_parts, false≢true, leb-true, ltb-true}
use Rattle.std.proofs.lemmas.Option.{none-some}
use Rattle.cxl_message.specs.declared.channels.Channel.{Channel}
use Rattle.cxl_message.specs.declared.events.Act.{Act}
use Rattle.cxl_message.specs.declared.events.Cause.{Cause}
use Rattle.cxl_message.specs.declared.messages.Message.{Message}
use Rattle.cxl_message.specs.declared.opcodes.Span.{Span}
use Rattle.cxl_message.specs.Codes.{span_len}
use Rattle.cxl_message.specs.Setup.{Configuration, IsWithinLimits}
use Rattle.coherence_model.specs.Emission.{Emission, nothing, one_send}
use Rattle.coherence_model.specs.HostActs.{host_returns}
use Rattle.coherence_model.specs.Refusals.{cause_passes}
use Rattle.coherence_model.specs.Words.{when}
use Rattle.host_record.specs.HostRecord.{HostRecord, view_in}
use Rattle.host_record.specs.View.{left_of, owed_of}
use Rattle.host_record.specs.ViewRows.{acts_by, has_room_by, return_by, takes_by}
use Rattle.host_rows.specs.Messages.{IsLow}
use Rattle.host_tables.specs.Kept.{IsOwed, IsRoomy}

some_lines : (span : Span) → 1 ≤ span_len span
some_lines Span.One = omega arith
some_lines Span.Two = omega arith
some_lines Span.Four = omega arith

-- the lines of a message that may be taken are low
pub low_by : (setup : Configuration) → IsWithinLimits setup → (h g : ℕ) (m : Message) → cause_passes setup h (Cause.Take g m) ≡ true → IsLow m
low_by setup limits h g (Message.Req op meta snp tag line) passes = tt
low_by setup limits h g (Message.MemWr meta snp tag line bytes) passes = tt
low_by setup limits h g (Message.BiConflict tag) passes = tt
low_by setup limits h g (Message.BiRsp op bitag low) passes = tt
low_by setup limits h g (Message.Ndr op tag) passes = tt
low_by setup limits h g (Message.MemData tag bytes) passes = tt
low_by setup limits h g (Message.BiSnp op bitag line span) passes =
    let within : line.0 + span_len span ≤ setup.lines =
    leb-true (line.0 + span_len span) setup.lines (and_parts _ _ (and_parts _ _ (and_parts _ _ passes).1).1).0
    in
    let some = some_lines span in
    let most : setup.lines ≤ 65536 = limits.lines.1 in
    omega arith
low_by setup limits h g (Message.Credit c) passes = tt

given : (b : Bool) (x w : Emission) → when b x ≡ Some w → b ≡ true
given true x w is = refl
given false x w is = absurd (none-some w is)

-- where the row of a take holds, there is room for the message
pub roomy_by : (setup : Configuration) (m : Message) (k : HostRecord) (w : Emission) → IsLow m → has_room_by setup m (view_in k) ≡ true → takes_by setup m (view_in k) ≡ Some w → IsRoomy setup m k
roomy_by setup (Message.Req op meta snp tag line) k w low room is = tt
roomy_by setup (Message.MemWr meta snp tag line bytes) k w low room is = tt
roomy_by setup (Message.BiConflict tag) k w low room is = tt
roomy_by setup (Message.BiRsp op bitag l) k w low room is = tt
roomy_by setup (Message.Ndr op tag) k w low room is = ltb-true k.ndr_owed setup.credits room
roomy_by setup (Message.MemData tag bytes) k w low room is = ltb-true k.drs_owed setup.credits room
roomy_by setup (Message.BiSnp op bitag line span) k w low room is =
    let less = ltb-true (k.bi_snp_owed + length k.snoops) setup.credits room in (low, omega arith)
roomy_by setup (Message.Credit c) k w low room is = ltb-true (left_of (view_in k) c) setup.credits (given (nat_lt (left_of (view_in k) c) setup.credits) nothing w is)

-- the same, by what the row decides
pub roomy_some : {A : Type 0} → (setup : Configuration) (m : Message) (k : HostRecord) (f : A → Emission) (x : Option A) → IsLow m → has_room_by setup m (view_in k) ≡ true
    → option_map f x ≡ takes_by setup m (view_in k) → is_some x ≡ true → IsRoomy setup m k
roomy_some setup m k f None low room is some = absurd (false≢true some)
roomy_some setup m k f (Some row) low room is some = roomy_by setup m k (f row) low room (sym is)

returned_by : (h : ℕ) (c : Channel) (k : HostRecord) (w : Emission) → return_by h c (view_in k) ≡ Some w → 1 ≤ owed_of (view_in k) c
returned_by h c k w is = leb-true 1 (owed_of (view_in k) c) (and_parts _ _ (given (host_returns c && nat_le 1 (owed_of (view_in k) c)) (one_send h (Message.Credit c)) w is)).1

-- where the row of an act holds, a Credit that it gives back is owed
owed_by : (setup : Configuration) (h : ℕ) (act : Act) (k : HostRecord) (w : Emission) → acts_by setup h act (view_in k) ≡ Some w → IsOwed act k
owed_by setup h (Act.Conflict line) k w is = tt
owed_by setup h (Act.WriteBack line) k w is = tt
owed_by setup h (Act.Answer line) k w is = tt
owed_by setup h (Act.AnswerBlock line) k w is = tt
owed_by setup h (Act.HostReturn c) k w is = returned_by h c k w is
owed_by setup h (Act.Serve host tag) k w is = tt
owed_by setup h (Act.Clean host tag) k w is = tt
owed_by setup h (Act.Start host tag) k w is = tt
owed_by setup h (Act.Evict host tag) k w is = tt
owed_by setup h (Act.Snoop host line) k w is = tt
owed_by setup h (Act.Finish line) k w is = tt
owed_by setup h (Act.DeviceReturn host c) k w is = tt

-- the same, by what the row decides
pub owed_some : {A : Type 0} → (setup : Configuration) (h : ℕ) (act : Act) (k : HostRecord) (f : A → Emission) (x : Option A) → option_map f x ≡ acts_by setup h act (view_in k) → is_some x ≡ true → IsOwed act k
owed_some setup h act k f None is some = absurd (false≢true some)
owed_some setup h act k f (Some row) is some = owed_by setup h act k (f row) (sym is)
