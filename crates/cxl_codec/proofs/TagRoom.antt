-- Where a version has room for an event, it has room for each of its tags.
use Rattle.std.proofs.Common.{◌≡◌, ℕ, List, [], ◌∷◌, Bool, true, Option, Some, None, IsTrue, refl, ◌&&◌}
use Rattle.std.specs.List.{list_all}
use Rattle.std.proofs.lemmas.Bool.{and_parts, and_from}
use Rattle.cxl_message.specs.declared.messages.Message.{Message}
use Rattle.cxl_message.specs.declared.events.Cause.{Cause}
use Rattle.cxl_message.specs.declared.events.Out.{Out}
use Rattle.cxl_message.specs.declared.events.Sends.{Sends}
use Rattle.cxl_message.specs.declared.events.Event.{Event}
use Rattle.cxl_message.specs.Events.{outs, tag_of_act}
use Rattle.cxl_message.specs.Messages.{tag_of}
use Rattle.cxl_codec.specs.declared.versions.Version.{Version}
use Rattle.cxl_codec.specs.VersionOne.{cause_fits_version_one, message_fits_version_one}
use Rattle.cxl_codec.specs.Versions.{cause_fits, event_fits, has_tag_room, message_fits}

-- version 2 has room for every tag
any_tag : (tag : Option ℕ) → IsTrue (has_tag_room Version.Two tag)
any_tag None = refl
any_tag (Some t) = refl

-- version 1 as it was asked
cause_one : (cause : Cause) → IsTrue (cause_fits_version_one cause) → IsTrue (cause_fits Version.One cause)
cause_one (Cause.Op stream index op) fits = refl
cause_one (Cause.Take host message) fits = fits
cause_one (Cause.Act act) fits = fits

cause_two : (cause : Cause) → IsTrue (cause_fits Version.Two cause)
cause_two (Cause.Op stream index op) = refl
cause_two (Cause.Take host message) = any_tag (tag_of message)
cause_two (Cause.Act act) = any_tag (tag_of_act act)

outs_two : (os : List Out) → IsTrue (list_all (λ o. message_fits Version.Two o.message) os)
outs_two [] = refl
outs_two (o ∷ os) = and_from (message_fits Version.Two o.message) _ (any_tag (tag_of o.message)) (outs_two os)

-- room for the cause
pub cause_room : (version : Version) (e : Event) → IsTrue (event_fits version e) → IsTrue (cause_fits version e.cause)
cause_room Version.One e fits = cause_one e.cause (and_parts (cause_fits_version_one e.cause) _ fits).0
cause_room Version.Two e fits = cause_two e.cause

-- room for what is sent
pub sends_room : (version : Version) (e : Event) → IsTrue (event_fits version e) → IsTrue (list_all (λ o. message_fits version o.message) (outs e.sends))
sends_room Version.One e fits = (and_parts (cause_fits_version_one e.cause) _ fits).1
sends_room Version.Two e fits = outs_two (outs e.sends)
