-- A take whose row holds, of a message that is in flight, is in the profile.
use Rattle.std.proofs.Common.{◌≡◌, ℕ, Bool, true, false, List, [], ◌∷◌, Option, Some, None, cond, refl, sym, ◌∙◌, subst, inl, inr}
use Rattle.std.specs.Prelude.{◌==◌, ◌||◌, not, is_none, nat_le}
use Rattle.std.specs.List.{list_any}
use Rattle.std.proofs.lemmas.Bool.{and_from, and_parts, cond-false, eq-eqb, false≢true, or_right}
use Rattle.std.proofs.lemmas.Option.{none-some}
use Rattle.cxl_message.specs.declared.channels.Channel.{Channel}
use Rattle.cxl_message.specs.declared.events.Cause.{Cause}
use Rattle.cxl_message.specs.declared.events.Commit.{Commit}
use Rattle.cxl_message.specs.declared.events.Event.{Event}
use Rattle.cxl_message.specs.declared.events.Out.{Out}
use Rattle.cxl_message.specs.declared.events.Sends.{Sends}
use Rattle.cxl_message.specs.declared.identifiers.Bytes64.{Bytes64}
use Rattle.cxl_message.specs.declared.identifiers.Line.{Line}
use Rattle.cxl_message.specs.declared.messages.Message.{Message}
use Rattle.cxl_message.specs.declared.opcodes.NdrOp.{NdrOp}
use Rattle.cxl_message.specs.Channels.{goes_to_device}
use Rattle.cxl_message.specs.Events.{outs}
use Rattle.cxl_message.specs.Formed.{out_formed}
use Rattle.cxl_message.specs.Messages.{channel_of, message_eq}
use Rattle.cxl_message.specs.Opening.{zero_bytes}
use Rattle.cxl_message.specs.Setup.{Configuration, IsWithinLimits}
use Rattle.coherence_model.specs.Credits.{has_room}
use Rattle.coherence_model.specs.DeviceRows.{device_emission}
use Rattle.coherence_model.specs.DeviceTakes.{device_takes}
use Rattle.coherence_model.specs.Emission.{Emission, nothing}
use Rattle.coherence_model.specs.Fitting.{is_addressed, is_device, is_host, out_fits}
use Rattle.coherence_model.specs.Flight.{in_flight, is_takeable}
use Rattle.coherence_model.specs.HostRows.{host_emission}
use Rattle.coherence_model.specs.HostTakes.{fill_emission, grant_emission, host_takes, host_takes_ndr, is_write_back_tag}
use Rattle.coherence_model.specs.Next.{receiver}
use Rattle.coherence_model.specs.Rows.{row_holds}
use Rattle.coherence_model.specs.Rules.{p0_profile}
use Rattle.coherence_model.specs.Runs.{IsRun}
use Rattle.coherence_model.specs.Tags.{open_with}
use Rattle.coherence_model.specs.Traces.{device, events_of}
use Rattle.coherence_model.specs.Transactions.{Transaction, is_read}
use Rattle.coherence_lemmas.proofs.Allowed.{allowed_parts, emitted}
use Rattle.coherence_lemmas.proofs.DeviceTakes.{v1_credit-inv, v1_take-inv, v2_response-inv}
use Rattle.coherence_lemmas.proofs.HostTakes.{h3_completion-inv, h3_data-inv, h3_grant-inv, h4_snoop-inv, h5_conflict_ack-inv, h6_credit-inv}
use Rattle.cxl_message.proofs.SameMessages.{message_eq-same}
use Rattle.coherence_lemmas.proofs.Options.{if_some}
use Rattle.coherence_model.specs.Buffers.{buffered_requests, buffered_writes}
use Rattle.coherence_model.specs.SentSnoops.{sent_snoop_at}
use Rattle.step_laws.proofs.Counts.{Each, each_from_all}
use Rattle.step_laws.proofs.Emissions.{CauseGood, EmissionFits, MessageGood, event-profiled, host-agent, host-low, nothing-fits}
use Rattle.step_laws.proofs.Flight.{OnChannel, each-in_flight}
use Rattle.step_laws.proofs.OpenTransactions.{TransactionFits, tagged_fits}
use Rattle.coherence_model.specs.OwnRuns.{IsOwnRun}
use Rattle.coherence_model.proofs.OwnRuns.{events_of_run}
use Rattle.step_laws.proofs.OwnRuns.{host_is_no_device}
use Rattle.step_laws.proofs.Takes.{take_event}

-- a message that is sent is well formed, in the profile and fits
sent-good : (setup : Configuration) (g : ℕ) (o : Out) → out_formed o ≡ true → out_fits setup g o ≡ true → MessageGood setup o.message
sent-good setup g o formed fits =
    let a = and_parts _ _ fits in
    record { formed = (and_parts _ _ formed).1; profile = (and_parts _ _ a.0).1; fits = a.1 }

both-tests : (P Q R : Out → Type 0) → ((o : Out) → P o → Q o → R o) → (os : List Out) → Each P os → Each Q os → Each R os
both-tests P Q R h [] e f = tt
both-tests P Q R h (o ∷ os) e f = (h o e.0 f.0, both-tests P Q R h os e.1 f.1)

sent-all :
    (setup : Configuration) (opening : List (Line × Bytes64)) (h : ℕ) (c : Channel) (t : List Event) → IsRun setup opening t
    → Each (λ e. Each (OnChannel (MessageGood setup) h c) (outs e.sends)) t
sent-all setup opening h c [] run = tt
sent-all setup opening h c (e ∷ past) run =
    let parts = and_parts _ _ run in
    let profile = (allowed_parts setup opening past e parts.1).profile in
    let formed = (and_parts _ _ (and_parts _ _ profile.formed).0).1 in (
      both-tests (λ o. out_formed o ≡ true) (λ o. out_fits setup e.agent o ≡ true) (OnChannel (MessageGood setup) h c)
          (λ o is fits on. sent-good setup e.agent o is fits) (outs e.sends)
          (each_from_all out_formed (outs e.sends) formed) (each_from_all (out_fits setup e.agent) (outs e.sends) profile.sends),
      sent-all setup opening h c past parts.0,
    )

-- each message in flight is well formed, in the profile and fits
pub in_flight-good :
    (setup : Configuration) (opening : List (Line × Bytes64)) (h : ℕ) (c : Channel) (t : List Event) → IsRun setup opening t
    → Each (MessageGood setup) (in_flight h c t)
in_flight-good setup opening h c t run = each-in_flight (MessageGood setup) h c t (sent-all setup opening h c t run)

found-step : (P : Message → Type 0) (m n : Message) (b later : Bool) → message_eq m n ≡ b → (b || later) ≡ true → P n → (later ≡ true → P m) → P m
found-step P m n true later is any here rest = subst P (sym (message_eq-same m n is)) here
found-step P m n false later is any here rest = rest any

-- what holds of each message in flight holds of one that is there
in-list : (P : Message → Type 0) (m : Message) (ms : List Message) → Each P ms → list_any (message_eq m) ms ≡ true → P m
in-list P m [] e any = absurd (false≢true any)
in-list P m (n ∷ ns) e any = found-step P m n (message_eq m n) (list_any (message_eq m) ns) refl any e.0 (in-list P m ns e.1)

-- the receiver may take it
take-way :
    (setup : Configuration) → IsWithinLimits setup → (h : ℕ) (up : Bool) → is_host setup h ≡ true
    → (is_addressed setup (cond up device h) h ≡ true) × (cond (is_device (cond up device h)) up (not up) ≡ true) × (nat_le (cond up device h) 16 ≡ true) ×
    ((is_device (cond up device h) || is_host setup (cond up device h)) ≡ true)
take-way setup limits h true host = (and_from _ _ host refl, refl, refl, refl)
take-way setup limits h false host =
    let agent = host-agent setup limits h host in (
      and_from _ _ host (or_right (is_device h) (h == h) (eq-eqb h h refl)),
      cond-false (is_device h) false true
          (host_is_no_device setup limits h host),
      agent.0,
      agent.1,
    )

take-cause :
    (setup : Configuration) → IsWithinLimits setup → (h : ℕ) (m : Message) → is_host setup h ≡ true → MessageGood setup m
    → CauseGood setup (receiver h (channel_of m)) (Cause.Take h m)
take-cause setup limits h m host good =
    let way = take-way setup limits h (goes_to_device (channel_of m)) host in
    record {
      low = way.2;
      agent = way.3;
      formed = and_from _ _ (host-low setup limits h host) good.formed;
      fits = and_from _ _ (and_from _ _ (and_from _ _ way.0 way.1) good.profile) good.fits;
    }

-- a fill commits what was open
fill-fits : (setup : Configuration) (g : ℕ) (o : Transaction) (bytes : Bytes64) → TransactionFits setup o → EmissionFits setup g (fill_emission o bytes)
fill-fits setup g o bytes fits = record { sends = tt; commit_formed = and_from _ _ fits.stream fits.place; commit_fits = fits.line }

either-fits : (setup : Configuration) (g : ℕ) (b : Bool) (w x : Emission) → EmissionFits setup g w → EmissionFits setup g x → EmissionFits setup g (cond b w x)
either-fits setup g true w x fits other = fits
either-fits setup g false w x fits other = other

granted-fits :
    (setup : Configuration) (g : ℕ) (o : Transaction) (bytes : Option Bytes64) → TransactionFits setup o → EmissionFits setup g (grant_emission o bytes)
granted-fits setup g o None fits = either-fits setup g (is_read o.kind) nothing (fill_emission o zero_bytes) (nothing-fits setup g)
    (fill-fits setup g o zero_bytes fits)
granted-fits setup g o (Some bytes) fits = fill-fits setup g o bytes fits

silent-fits : (setup : Configuration) (g : ℕ) (w : Emission) → w ≡ nothing → EmissionFits setup g w
silent-fits setup g w is = subst (EmissionFits setup g) (sym is) (nothing-fits setup g)

ndr-fits :
    (setup : Configuration) (opening : List (Line × Bytes64)) (g : ℕ) (mine : List Event) → IsOwnRun setup opening g mine → (op : NdrOp) (tag : ℕ) (w : Emission)
    → host_takes_ndr setup op tag mine ≡ Some w → EmissionFits setup g w
ndr-fits setup opening g mine run NdrOp.Cmp tag w is = elim (h3_completion-inv (is_write_back_tag setup tag mine)
    (open_with tag mine) w is) [ inl written ↦ silent-fits setup g w written.emits | inr evicted ↦ silent-fits setup g w evicted.emits ]
ndr-fits setup opening g mine run NdrOp.CmpS tag w is =
    let inv = h3_grant-inv NdrOp.CmpS (open_with tag mine) w is in
    subst (EmissionFits setup g) (sym inv.emits) (granted-fits setup g inv.o inv.o.bytes (tagged_fits setup opening g mine run tag inv.o inv.is_open))
ndr-fits setup opening g mine run NdrOp.CmpE tag w is =
    let inv = h3_grant-inv NdrOp.CmpE (open_with tag mine) w is in
    subst (EmissionFits setup g) (sym inv.emits) (granted-fits setup g inv.o inv.o.bytes (tagged_fits setup opening g mine run tag inv.o inv.is_open))
ndr-fits setup opening g mine run NdrOp.ConflictAck tag w is = silent-fits setup g w (h5_conflict_ack-inv tag mine w is).emits

-- what a host emits at a take
host_takes-fits :
    (setup : Configuration) (opening : List (Line × Bytes64)) (g : ℕ) (mine : List Event) → IsOwnRun setup opening g mine → (m : Message) (w : Emission)
    → host_takes setup g m mine ≡ Some w → EmissionFits setup g w
host_takes-fits setup opening g mine run (Message.Req op meta snp tag line) w is = absurd (none-some w is)
host_takes-fits setup opening g mine run (Message.MemWr meta snp tag line bytes) w is = absurd (none-some w is)
host_takes-fits setup opening g mine run (Message.BiConflict tag) w is = absurd (none-some w is)
host_takes-fits setup opening g mine run (Message.BiRsp op bitag low) w is = absurd (none-some w is)
host_takes-fits setup opening g mine run (Message.Ndr op tag) w is = ndr-fits setup opening g mine run op tag.0 w is
host_takes-fits setup opening g mine run (Message.MemData tag bytes) w is =
    let inv = h3_data-inv bytes (open_with tag.0 mine) w is in
    subst (EmissionFits setup g) (sym inv.emits)
    (either-fits setup g (is_none inv.o.grant) nothing (fill_emission inv.o bytes) (nothing-fits setup g)
    (fill-fits setup g inv.o bytes (tagged_fits setup opening g mine run tag.0 inv.o inv.is_open)))
host_takes-fits setup opening g mine run (Message.BiSnp op bitag line span) w is = silent-fits setup g w (h4_snoop-inv line.0 span mine w is).emits
host_takes-fits setup opening g mine run (Message.Credit c) w is = silent-fits setup g w (h6_credit-inv setup g c mine w is).emits

-- what the device emits at a take
device_takes-fits :
    (setup : Configuration) (h : ℕ) (mine : List Event) (m : Message) (w : Emission) → device_takes setup h m mine ≡ Some w → EmissionFits setup device w
device_takes-fits setup h mine (Message.Req op meta snp tag line) w is = silent-fits setup device w (v1_take-inv tag.0 (buffered_requests h mine) w is).emits
device_takes-fits setup h mine (Message.MemWr meta snp tag line bytes) w is = silent-fits setup device w (v1_take-inv tag.0 (buffered_writes h mine) w is).emits
device_takes-fits setup h mine (Message.BiConflict tag) w is = silent-fits setup device w (v1_take-inv tag.0 (buffered_writes h mine) w is).emits
device_takes-fits setup h mine (Message.BiRsp op bitag low) w is = silent-fits setup device w (v2_response-inv op _ (sent_snoop_at h bitag.0 mine) w is).emits
device_takes-fits setup h mine (Message.Ndr op tag) w is = absurd (none-some w is)
device_takes-fits setup h mine (Message.MemData tag bytes) w is = absurd (none-some w is)
device_takes-fits setup h mine (Message.BiSnp op bitag line span) w is = absurd (none-some w is)
device_takes-fits setup h mine (Message.Credit c) w is = silent-fits setup device w (v1_credit-inv setup h c mine w is).emits

-- what the receiver of a message emits at its take
taken-fits :
    (setup : Configuration) → IsWithinLimits setup → (opening : List (Line × Bytes64)) (h : ℕ) (m : Message) (up : Bool) (mine : List Event)
    → is_host setup h ≡ true → IsOwnRun setup opening (cond up device h) mine → (w : Emission)
    → cond (is_device (cond up device h)) (device_emission setup opening (Cause.Take h m) mine)
    (host_emission setup (cond up device h) (Cause.Take h m) mine) ≡ Some w
    → EmissionFits setup (cond up device h) w
taken-fits setup limits opening h m true mine host run w is = device_takes-fits setup h mine m w
    (if_some (has_room setup h m mine) (device_takes setup h m mine) w is).same
taken-fits setup limits opening h m false mine host run w is =
    let at_host = sym (cond-false (is_device h) (device_emission setup opening (Cause.Take h m) mine) (host_emission setup h (Cause.Take h m) mine)
    (host_is_no_device setup limits h host)) ∙ is in
    host_takes-fits setup opening h mine run m w (if_some (has_room setup h m mine) (host_takes setup h m mine) w at_host).same

-- a take whose row holds at the message's receiver is in the profile
pub take_profiled :
    (setup : Configuration) → IsWithinLimits setup → (opening : List (Line × Bytes64)) (t : List Event) → IsRun setup opening t
    → (h : ℕ) (m : Message) (sends : Sends) (commit : Option Commit) → is_host setup h ≡ true → is_takeable m (in_flight h (channel_of m) t) ≡ true
    → row_holds setup opening (take_event (receiver h (channel_of m)) h m sends commit) (events_of (receiver h (channel_of m)) t) ≡ true
    → p0_profile setup (take_event (receiver h (channel_of m)) h m sends commit) ≡ true
take_profiled setup limits opening t run h m sends commit host takeable row =
    let g : ℕ = receiver h (channel_of m) in
    let mine : List Event = events_of g t in
    let good = in-list (MessageGood setup) m (in_flight h (channel_of m) t) (in_flight-good setup opening h (channel_of m) t run) (and_parts _ _ takeable).0 in
    let by = emitted setup opening (take_event g h m sends commit) mine row in
    event-profiled setup g (Cause.Take h m) sends commit by.w by.sends by.commit (take-cause setup limits h m host good)
    (taken-fits setup limits opening h m (goes_to_device (channel_of m)) mine host (events_of_run setup opening g t run) by.w by.row)
