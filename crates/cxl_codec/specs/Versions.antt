-- The versions of traces: how wide a tag is, and what each has room for. Every rule here is an own rule.
use Rattle.std.specs.Prelude.{ℕ, Bool, true, List, [], ◌∷◌, Option, ◌^◌, nat_lt}
use Rattle.std.specs.Int.{Width, w16, w32}
use Rattle.std.specs.Option.{option_map_or}
use Rattle.cxl_message.specs.declared.messages.Message.{Message}
use Rattle.cxl_message.specs.declared.events.Act.{Act}
use Rattle.cxl_message.specs.declared.events.Cause.{Cause}
use Rattle.cxl_message.specs.declared.events.Event.{Event}
use Rattle.cxl_message.specs.Events.{tag_of_act}
use Rattle.cxl_message.specs.Messages.{tag_of}
use Rattle.cxl_message.specs.Setup.{Configuration}
use Rattle.cxl_codec.specs.declared.versions.Version.{Version}
use Rattle.cxl_codec.specs.VersionOne.{fits_version_one, setup_fits_version_one}

-- the number of a version
abbrev pub version_number : Version → ℕ
version_number Version.One = 1
version_number Version.Two = 2

-- the versions that there are
abbrev pub versions : List Version
versions = Version.One ∷ Version.Two ∷ []

-- how wide a tag is
abbrev pub tag_width : Version → Width
tag_width Version.One = w16
tag_width Version.Two = w32

-- what every tag is below
abbrev pub tag_limit : Version → ℕ
tag_limit Version.One = 2 ^ 16
tag_limit Version.Two = 2 ^ 32

-- whether a version has room for a tag
abbrev pub tag_fits : Version → ℕ → Bool
tag_fits Version.One tag = nat_lt tag 65536
tag_fits Version.Two tag = true

-- whether it has room for a tag, if there is one
abbrev pub has_tag_room : Version → Option ℕ → Bool
has_tag_room version tag = option_map_or (λ t. tag_fits version t) tag true

-- whether it has room for the tag of a message
abbrev pub message_fits : Version → Message → Bool
message_fits version message = has_tag_room version (tag_of message)

-- whether it has room for the tag of an act
abbrev pub act_fits : Version → Act → Bool
act_fits version act = has_tag_room version (tag_of_act act)

-- whether it has room for the tag of a cause
abbrev pub cause_fits : Version → Cause → Bool
cause_fits version (Cause.Op stream index op) = true
cause_fits version (Cause.Take host message) = message_fits version message
cause_fits version (Cause.Act act) = act_fits version act

-- whether it has room for every tag of an event
abbrev pub event_fits : Version → Event → Bool
event_fits Version.One e = fits_version_one e
event_fits Version.Two e = true

-- whether it has room for the number of tags of a setup
abbrev pub setup_fits : Version → Configuration → Bool
setup_fits Version.One setup = setup_fits_version_one setup
setup_fits Version.Two setup = true
