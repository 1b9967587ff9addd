-- What may be taken from a channel has its row's condition.
use Rattle.std.proofs.Common.{◌≡◌, ℕ, ◌+◌, ◌≤◌, Bool, true, false, List, [], ◌∷◌, Option, Some, None, cond, find, refl, sym, ◌∙◌, ap, arith}
use Rattle.std.specs.Prelude.{count_by, is_none, is_some}
use Rattle.std.specs.List.{list_any}
use Rattle.std.proofs.lemmas.Bool.{and_parts, cond-true, eq-eqb}
use Rattle.cxl_message.specs.declared.channels.Channel.{Channel}
use Rattle.cxl_message.specs.declared.events.Cause.{Cause}
use Rattle.cxl_message.specs.declared.events.Event.{Event}
use Rattle.cxl_message.specs.declared.identifiers.Bytes64.{Bytes64}
use Rattle.cxl_message.specs.declared.identifiers.Line.{Line}
use Rattle.cxl_message.specs.declared.messages.Message.{Message}
use Rattle.cxl_message.specs.Messages.{has_tag, message_eq}
use Rattle.cxl_message.specs.Setup.{Configuration}
use Rattle.coherence_model.specs.Buffers.{buffered_requests, message_with}
use Rattle.coherence_model.specs.Credits.{has_room, lacking_channel}
use Rattle.coherence_model.specs.DeviceTakes.{device_takes, v1_take}
use Rattle.coherence_model.specs.Emission.{nothing}
use Rattle.coherence_model.specs.Fitting.{is_device}
use Rattle.coherence_model.specs.Flight.{in_flight}
use Rattle.coherence_model.specs.HostTakes.{host_takes}
use Rattle.coherence_model.specs.Rows.{emission}
use Rattle.coherence_model.specs.Runs.{IsRun}
use Rattle.coherence_model.specs.Tags.{open_with}
use Rattle.coherence_model.specs.Traces.{device, events_of}
use Rattle.coherence_model.specs.Transactions.{Kind, Transaction}
use Rattle.coherence_model.specs.Words.{when}
use Rattle.coherence_lemmas.proofs.Options.{some_is}
use Rattle.coherence_lemmas.proofs.Rows.{device_row, emission_from, host_row}
use Rattle.coherence_lemmas.proofs.TakesSendNothing.{device_takes_silent, host_takes_silent}
use Rattle.request_laws.proofs.AllPlaces.{placed}
use Rattle.request_laws.proofs.Balances.{Balanced, BalancedAs, here}
use Rattle.request_laws.proofs.Counts.{any_counts, count_by-cons}
use Rattle.request_laws.proofs.OwnRuns.{host_is_no_device}
use Rattle.progress_laws.proofs.Messages.{IsOf, each_there, flying_of, passes}
use Rattle.progress_laws.proofs.Room.{has_room_for, no_credit_on}
use Rattle.progress_laws.specs.Laws.{MayBeTaken}

-- a take whose row holds, with room, is emitted: it sends nothing, so it needs no credits
pub host_emits :
    (setup : Configuration) (opening : List (Line × Bytes64)) (h k : ℕ) (m : Message) (mine : List Event) → is_device h ≡ false → has_room setup h m mine ≡ true
    → is_some (host_takes setup h m mine) ≡ true → is_some (emission setup opening h (Cause.Take k m) mine) ≡ true
host_emits setup opening h k m mine no_device room some =
    let w = some_is (host_takes setup h m mine) some in
    ap is_some (emission_from setup opening h (Cause.Take k m) mine w.x (host_row setup opening h (Cause.Take k m) mine no_device ∙ cond-true (has_room setup h m mine) (host_takes setup h m mine) None room ∙ w.found)
    (ap (λ s. lacking_channel setup s mine) (host_takes_silent setup h m mine w.x w.found)))

pub device_emits :
    (setup : Configuration) (opening : List (Line × Bytes64)) (k : ℕ) (m : Message) (mine : List Event) → has_room setup k m mine ≡ true
    → is_some (device_takes setup k m mine) ≡ true → is_some (emission setup opening device (Cause.Take k m) mine) ≡ true
device_emits setup opening k m mine room some =
    let w = some_is (device_takes setup k m mine) some in
    ap is_some (emission_from setup opening device (Cause.Take k m) mine w.x (device_row setup opening device (Cause.Take k m) mine refl ∙ cond-true (has_room setup k m mine) (device_takes setup k m mine) None room ∙ w.found)
    (ap (λ s. lacking_channel setup s mine) (device_takes_silent setup k m mine w.x w.found)))

-- no message with a tag is among those that have none
none_by : (tag : ℕ) (n : Message) (ns : List Message) (here : Bool) → cond here 1 0 + count_by (has_tag tag) ns ≡ 0 → (count_by (has_tag tag) ns ≡ 0 → is_none (message_with tag ns) ≡ true) → is_none (cond here (Some n) (find (has_tag tag) ns)) ≡ true
none_by tag n ns true e later = absurd (omega arith)
none_by tag n ns false e later = later (omega arith)

pub none_with : (tag : ℕ) (ns : List Message) → count_by (has_tag tag) ns ≡ 0 → is_none (message_with tag ns) ≡ true
none_with tag [] e = refl
none_with tag (n ∷ ns) e = none_by tag n ns (has_tag tag n) (sym (count_by-cons (has_tag tag) n ns) ∙ e) (none_with tag ns)

pub v1_holds : (tag : ℕ) (buffered : List Message) → is_none (message_with tag buffered) ≡ true → is_some (v1_take tag buffered) ≡ true
v1_holds tag buffered h = ap (λ b. is_some (when b nothing)) h

-- at most one Req message of a tag is under way
few_as : (l : Kind) (b g y r w nc ng d k : ℕ) → BalancedAs l b g y r w nc ng d k → r ≤ 1
few_as Kind.ReadShared b g y r w nc ng d k e = omega arith
few_as Kind.ReadAny b g y r w nc ng d k e = omega arith
few_as Kind.Invalidate b g y r w nc ng d k e = omega arith
few_as Kind.CleanEviction b g y r w nc ng d k e = omega arith
few_as Kind.DirtyEviction b g y r w nc ng d k e = omega arith

few_requests : (o : Option Transaction) (b r w nc ng d k : ℕ) → Balanced o b r w nc ng d k → r ≤ 1
few_requests None b r w nc ng d k e = omega arith
few_requests (Some o) b r w nc ng d k e = few_as o.kind b (here o.grant) (here o.bytes) r w nc ng d k e

-- no Req message with the tag of one in flight is buffered
request_row :
    (setup : Configuration) (opening : List (Line × Bytes64)) (h tag : ℕ) → is_device h ≡ false → (t : List Event) → IsRun setup opening t
    → list_any (has_tag tag) (in_flight h Channel.Req t) ≡ true → is_some (v1_take tag (buffered_requests h (events_of device t))) ≡ true
request_row setup opening h tag no_device t run there =
    let some = any_counts (has_tag tag) (in_flight h Channel.Req t) there in
    let few = few_requests (open_with tag (events_of h t)) _ _ _ _ _ _ _ (placed setup opening h tag no_device t run).balanced in
    v1_holds tag (buffered_requests h (events_of device t)) (none_with tag (buffered_requests h (events_of device t)) (omega arith))

request_taken :
    (setup : Configuration) (opening : List (Line × Bytes64)) (h : ℕ) → is_device h ≡ false → (t : List Event) → IsRun setup opening t → (m : Message) → IsOf Channel.Req m
    → list_any (message_eq m) (in_flight h Channel.Req t) ≡ true → is_some (device_takes setup h m (events_of device t)) ≡ true
request_taken setup opening h no_device t run (Message.Req op meta snp tag line) of there =
    request_row setup opening h tag.0 no_device t run (passes (has_tag tag.0) (Message.Req op meta snp tag line) (in_flight h Channel.Req t) (eq-eqb tag.0 tag.0 refl) there)
request_taken setup opening h no_device t run (Message.MemWr meta snp tag line bytes) of there = let c = of.channel in cc
request_taken setup opening h no_device t run (Message.BiConflict tag) of there = let c = of.channel in cc
request_taken setup opening h no_device t run (Message.BiRsp op bitag low) of there = let c = of.channel in cc
request_taken setup opening h no_device t run (Message.Ndr op tag) of there = let c = of.channel in cc
request_taken setup opening h no_device t run (Message.MemData tag bytes) of there = let c = of.channel in cc
request_taken setup opening h no_device t run (Message.BiSnp op bitag line span) of there = let c = of.channel in cc
request_taken setup opening h no_device t run (Message.Credit c) of there = absurd (no_credit_on c Channel.Req refl of.channel)

pub requests_may_be_taken : MayBeTaken Channel.Req
requests_may_be_taken setup opening limits t run h host m takeable =
    let there = (and_parts _ _ takeable).0 in
    let of = each_there (IsOf Channel.Req) m (in_flight h Channel.Req t) (flying_of setup opening h Channel.Req t run) there in
    device_emits setup opening h m (events_of device t) (has_room_for setup opening t run h Channel.Req m of.channel there)
    (request_taken setup opening h (host_is_no_device setup limits h host) t run m of there)
