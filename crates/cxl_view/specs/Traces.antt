-- A whole trace as text. Every rule here is an own rule.
use Rattle.std.specs.Prelude.{ℕ, List, [], ◌∷◌, ◌++◌, ◌+◌, codes}
use Rattle.std.specs.List.{flat_map}
use Rattle.cxl_message.specs.Setup.{Configuration}
use Rattle.cxl_message.specs.declared.identifiers.Bytes64.{Bytes64}
use Rattle.cxl_message.specs.declared.identifiers.Line.{Line}
use Rattle.cxl_message.specs.declared.events.Event.{Event}
use Rattle.cxl_codec.specs.declared.versions.Version.{Version}
use Rattle.cxl_codec.specs.Versions.{version_number}
use Rattle.cxl_view.specs.Events.{field, bytes_field, event_lines}
use Rattle.cxl_view.specs.Tallies.{counts_of, tally_lines}

-- the first line: the version and the numbers of the setup
abbrev pub setup_line : Version → Configuration → List ℕ
setup_line version setup =
    field (codes "trace ") (version_number version) ++ field (codes " hosts ") setup.hosts ++ field (codes " lines ") setup.lines ++ field (codes " filter ") setup.entries
    ++ field (codes " ways ") setup.ways ++ field (codes " tags ") setup.tags ++ field (codes " credits ") setup.credits ++ 10 ∷ []

-- the line of a stream: its host
abbrev pub stream_line : ℕ → ℕ → List ℕ
stream_line stream host = field (codes "stream ") stream ++ field (codes " host ") host ++ 10 ∷ []

-- the lines of streams, the first of which has this number
abbrev pub stream_lines : ℕ → List ℕ → List ℕ
stream_lines stream [] = []
stream_lines stream (host ∷ hosts) = stream_line stream host ++ stream_lines (stream + 1) hosts

-- the lines of a header
abbrev pub header_lines : Version → Configuration → List ℕ
header_lines version setup = setup_line version setup ++ stream_lines 0 setup.streams

-- the line of a stream's name
abbrev pub name_line : ℕ × List ℕ → List ℕ
name_line named = field (codes "name ") named.0 ++ 32 ∷ named.1 ++ 10 ∷ []

-- the line of an opening
abbrev pub opening_line : Line × Bytes64 → List ℕ
opening_line opened = field (codes "open ") opened.0.0 ++ bytes_field (codes " ") opened.1.0 ++ 10 ∷ []

-- the front of a shown trace: its header, the names, the openings, and the events, the oldest first
abbrev pub front_bytes : Version → Configuration → List (ℕ × List ℕ) → List (Line × Bytes64) → List Event → List ℕ
front_bytes version setup names openings events = header_lines version setup ++ flat_map name_line names ++ flat_map opening_line openings ++ event_lines 0 events

-- a shown trace: its front, and what is counted of its events
abbrev pub shown_bytes : Version → Configuration → List (ℕ × List ℕ) → List (Line × Bytes64) → List Event → List ℕ
shown_bytes version setup names openings events = front_bytes version setup names openings events ++ tally_lines (counts_of setup.lines events)
