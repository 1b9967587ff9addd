-- What may be taken from BISnp and BIRsp, and what is known of snoops after a run.
use Rattle.std.proofs.Common.{◌≡◌, ℕ, true, IsTrue, List, refl, ap}
use Rattle.std.specs.Prelude.{is_some}
use Rattle.std.proofs.lemmas.Bool.{and_parts}
use Rattle.cxl_message.specs.declared.channels.Channel.{Channel}
use Rattle.cxl_message.specs.declared.events.Event.{Event}
use Rattle.cxl_message.specs.declared.identifiers.Bytes64.{Bytes64}
use Rattle.cxl_message.specs.declared.identifiers.Line.{Line}
use Rattle.cxl_message.specs.declared.messages.Message.{Message}
use Rattle.cxl_message.specs.Setup.{Configuration, IsWithinLimits}
use Rattle.coherence_model.specs.DeviceTakes.{device_takes}
use Rattle.coherence_model.specs.Fitting.{is_host}
use Rattle.coherence_model.specs.Flight.{in_flight, is_takeable}
use Rattle.coherence_model.specs.HostTakes.{host_takes}
use Rattle.coherence_model.specs.Runs.{IsRun}
use Rattle.coherence_model.specs.Traces.{device, events_of}
use Rattle.request_laws.proofs.OwnRuns.{host_is_no_device}
use Rattle.snoop_laws.proofs.Laws.{answers_may_be_taken, snoops_may_be_taken}
use Rattle.snoop_laws.proofs.WholeLaw.{snoops_placed}
use Rattle.progress_laws.proofs.Messages.{IsOf, each_there, flying_of}
use Rattle.progress_laws.proofs.Room.{has_room_for, no_credit_on}
use Rattle.progress_laws.proofs.Stuck.{SnoopsKnown}
use Rattle.progress_laws.proofs.Takes.{device_emits, host_emits}
use Rattle.progress_laws.specs.Laws.{MayBeTaken}

module _ (setup : Configuration) (opening : List (Line × Bytes64)) (limits : IsWithinLimits setup) (t : List Event) (run : IsRun setup opening t) (h : ℕ) (host : IsTrue (is_host setup h)) where
  on_snoops : (m : Message) → IsOf Channel.BiSnp m → IsTrue (is_takeable m (in_flight h Channel.BiSnp t)) → is_some (host_takes setup h m (events_of h t)) ≡ true
  on_snoops (Message.Req op meta snp tag line) of there = let c = of.channel in cc
  on_snoops (Message.MemWr meta snp tag line bytes) of there = let c = of.channel in cc
  on_snoops (Message.BiConflict tag) of there = let c = of.channel in cc
  on_snoops (Message.BiRsp op bitag low) of there = let c = of.channel in cc
  on_snoops (Message.Ndr op tag) of there = let c = of.channel in cc
  on_snoops (Message.MemData tag bytes) of there = let c = of.channel in cc
  on_snoops (Message.BiSnp op bitag line span) of there = ap is_some (snoops_may_be_taken setup opening limits t run h host op bitag line span there)
  on_snoops (Message.Credit c) of there = absurd (no_credit_on c Channel.BiSnp refl of.channel)

  on_answers : (m : Message) → IsOf Channel.BiRsp m → IsTrue (is_takeable m (in_flight h Channel.BiRsp t)) → is_some (device_takes setup h m (events_of device t)) ≡ true
  on_answers (Message.Req op meta snp tag line) of there = let c = of.channel in cc
  on_answers (Message.MemWr meta snp tag line bytes) of there = let c = of.channel in cc
  on_answers (Message.BiConflict tag) of there = let c = of.channel in cc
  on_answers (Message.BiRsp op bitag low) of there = ap is_some (answers_may_be_taken setup opening limits t run h host op bitag low there)
  on_answers (Message.Ndr op tag) of there = let c = of.channel in cc
  on_answers (Message.MemData tag bytes) of there = let c = of.channel in cc
  on_answers (Message.BiSnp op bitag line span) of there = let c = of.channel in cc
  on_answers (Message.Credit c) of there = absurd (no_credit_on c Channel.BiRsp refl of.channel)

pub snoops_taken : MayBeTaken Channel.BiSnp
snoops_taken setup opening limits t run h host m takeable =
    let there = (and_parts _ _ takeable).0 in
    let of = each_there (IsOf Channel.BiSnp) m (in_flight h Channel.BiSnp t) (flying_of setup opening h Channel.BiSnp t run) there in
    host_emits setup opening h h m (events_of h t) (host_is_no_device setup limits h host) (has_room_for setup opening t run h Channel.BiSnp m of.channel there)
    (on_snoops setup opening limits t run h host m of takeable)

pub answers_taken : MayBeTaken Channel.BiRsp
answers_taken setup opening limits t run h host m takeable =
    let there = (and_parts _ _ takeable).0 in
    let of = each_there (IsOf Channel.BiRsp) m (in_flight h Channel.BiRsp t) (flying_of setup opening h Channel.BiRsp t run) there in
    device_emits setup opening h m (events_of device t) (has_room_for setup opening t run h Channel.BiRsp m of.channel there)
    (on_answers setup opening limits t run h host m of takeable)

pub snoops_known : (setup : Configuration) (opening : List (Line × Bytes64)) → IsWithinLimits setup → (t : List Event) → IsRun setup opening t → SnoopsKnown setup opening t
snoops_known setup opening limits t run = record {
  placed = snoops_placed setup opening limits t run;
  snoops = λ h host. snoops_taken setup opening limits t run h host;
  answers = λ h host. answers_taken setup opening limits t run h host;
}
