-- What version 1 of a trace has room for: tags below 65,536, and at most 64 tags in a setup. Every rule here is an own rule.
use Rattle.std.specs.Prelude.{ℕ, Bool, true, ◌&&◌, Option, nat_le, nat_lt}
use Rattle.std.specs.List.{list_all}
use Rattle.std.specs.Option.{option_map_or}
use Rattle.cxl_message.specs.declared.messages.Message.{Message}
use Rattle.cxl_message.specs.declared.events.Act.{Act}
use Rattle.cxl_message.specs.declared.events.Cause.{Cause}
use Rattle.cxl_message.specs.declared.events.Event.{Event}
use Rattle.cxl_message.specs.Events.{outs, tag_of_act}
use Rattle.cxl_message.specs.Messages.{tag_of}
use Rattle.cxl_message.specs.Setup.{Configuration}
use Rattle.cxl_codec.specs.declared.version_one.TheConstants.{MOST_SHORT_TAGS}

-- a tag, if there is one, that version 1 has room for
abbrev pub is_short_tag : Option ℕ → Bool
is_short_tag tag = option_map_or (λ t. nat_lt t 65536) tag true

-- a message whose tag version 1 has room for
abbrev pub message_fits_version_one : Message → Bool
message_fits_version_one message = is_short_tag (tag_of message)

-- an act whose tag version 1 has room for
abbrev pub act_fits_version_one : Act → Bool
act_fits_version_one act = is_short_tag (tag_of_act act)

-- a cause whose tag version 1 has room for
abbrev pub cause_fits_version_one : Cause → Bool
cause_fits_version_one (Cause.Op stream index op) = true
cause_fits_version_one (Cause.Take host message) = message_fits_version_one message
cause_fits_version_one (Cause.Act act) = act_fits_version_one act

-- an event all of whose tags version 1 has room for
abbrev pub fits_version_one : Event → Bool
fits_version_one e = cause_fits_version_one e.cause && list_all (λ o. message_fits_version_one o.message) (outs e.sends)

-- a setup whose number of tags version 1 has room for
abbrev pub setup_fits_version_one : Configuration → Bool
setup_fits_version_one setup = nat_le setup.tags MOST_SHORT_TAGS
