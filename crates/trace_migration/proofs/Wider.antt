-- What fits version 1 fits version 2.
use Rattle.std.proofs.Common.{ℕ, ◌<◌, ◌^◌, List, [], ◌∷◌, refl, arith}
use Rattle.std.specs.List.{AllByRecursion}
use Rattle.cxl_message.specs.Setup.{Configuration}
use Rattle.cxl_message.specs.declared.events.Act.{Act}
use Rattle.cxl_message.specs.declared.events.Cause.{Cause}
use Rattle.cxl_message.specs.declared.events.Event.{Event}
use Rattle.cxl_message.specs.declared.events.Out.{Out}
use Rattle.cxl_message.specs.declared.identifiers.Bytes64.{Bytes64}
use Rattle.cxl_message.specs.declared.identifiers.Line.{Line}
use Rattle.cxl_message.specs.declared.messages.Message.{Message}
use Rattle.cxl_message.specs.Events.{outs}
use Rattle.cxl_codec.specs.Events.{ActInRange, CauseInRange, EventFitsIn}
use Rattle.cxl_codec.specs.Messages.{MessageInRange}
use Rattle.cxl_codec.specs.Traces.{TraceFitsIn}
use Rattle.cxl_codec.specs.declared.versions.Version.{Version}
use Rattle.trace_stream.specs.Runs.{NamesFit}

wider_tag : (tag : ℕ) → tag < 2 ^ 16 → tag < 2 ^ 32
wider_tag tag short = omega arith

wider_message : (message : Message) → MessageInRange Version.One message → MessageInRange Version.Two message
wider_message (Message.Req op meta snp tag line) fits = (wider_tag tag.0 fits.0, fits.1)
wider_message (Message.MemWr meta snp tag line bytes) fits = (wider_tag tag.0 fits.0, fits.1, fits.2)
wider_message (Message.BiConflict tag) fits = wider_tag tag.0 fits
wider_message (Message.BiRsp op bitag low) fits = fits
wider_message (Message.Ndr op tag) fits = wider_tag tag.0 fits
wider_message (Message.MemData tag bytes) fits = (wider_tag tag.0 fits.0, fits.1)
wider_message (Message.BiSnp op bitag line span) fits = fits
wider_message (Message.Credit channel) fits = fits

wider_act : (act : Act) → ActInRange Version.One act → ActInRange Version.Two act
wider_act (Act.Conflict line) fits = fits
wider_act (Act.WriteBack line) fits = fits
wider_act (Act.Answer line) fits = fits
wider_act (Act.AnswerBlock line) fits = fits
wider_act (Act.HostReturn channel) fits = fits
wider_act (Act.Serve host tag) fits = wider_tag tag.0 fits
wider_act (Act.Clean host tag) fits = wider_tag tag.0 fits
wider_act (Act.Start host tag) fits = wider_tag tag.0 fits
wider_act (Act.Evict host tag) fits = wider_tag tag.0 fits
wider_act (Act.Snoop host line) fits = fits
wider_act (Act.Finish line) fits = fits
wider_act (Act.DeviceReturn host channel) fits = fits

wider_cause : (cause : Cause) → CauseInRange Version.One cause → CauseInRange Version.Two cause
wider_cause (Cause.Op stream index op) fits = fits
wider_cause (Cause.Take host message) fits = wider_message message fits
wider_cause (Cause.Act act) fits = wider_act act fits

wider_outs : (outs : List Out) → AllByRecursion (λ o. MessageInRange Version.One o.message) outs → AllByRecursion (λ o. MessageInRange Version.Two o.message) outs
wider_outs [] fits = tt
wider_outs (o ∷ outs) fits = (wider_message o.message fits.0, wider_outs outs fits.1)

wider_event : (e : Event) → EventFitsIn Version.One e → EventFitsIn Version.Two e
wider_event e fits = record { formed = fits.formed; cause = wider_cause e.cause fits.cause; sends = wider_outs (outs e.sends) fits.sends; commit = fits.commit }

wider_events : (events : List Event) → AllByRecursion (EventFitsIn Version.One) events → AllByRecursion (EventFitsIn Version.Two) events
wider_events [] fits = tt
wider_events (e ∷ events) fits = (wider_event e fits.0, wider_events events fits.1)

pub fits_two : (version : Version) (setup : Configuration) (names : List (ℕ × List ℕ)) (opening : List (Line × Bytes64)) (events : List Event) → TraceFitsIn version setup names opening events
    → TraceFitsIn Version.Two setup names opening events
fits_two Version.One setup names opening events fits = record {
  limits = record { limits = fits.limits.limits; tags = refl };
  each_name = fits.each_name;
  each_opening = fits.each_opening;
  each_event = wider_events events fits.each_event;
  count = fits.count;
}
fits_two Version.Two setup names opening events fits = fits

-- names that fit version 1, where there are none, fit version 2
pub names_fit_two : (version : Version) (streams : ℕ) (names : List (ℕ × List ℕ)) → NamesFit version streams names → NamesFit Version.Two streams names
names_fit_two Version.One streams [] none = (refl, refl)
names_fit_two Version.One streams (n ∷ names) none = absurd cc
names_fit_two Version.Two streams names fit = fit
