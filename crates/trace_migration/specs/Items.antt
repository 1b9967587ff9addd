-- The parts of a trace, found again among its items. Every rule here is an own rule.
use Rattle.std.specs.Prelude.{List, [], ◌∷◌, ℕ}
use Rattle.std.specs.List.{flat_map}
use Rattle.cxl_message.specs.Setup.{Configuration}
use Rattle.cxl_message.specs.declared.events.Event.{Event}
use Rattle.cxl_message.specs.declared.identifiers.Bytes64.{Bytes64}
use Rattle.cxl_message.specs.declared.identifiers.Line.{Line}
use Rattle.trace_stream.specs.declared.items.Item.{Item}

-- the setup of an item, if it is a header
abbrev pub setup_part : Item → List Configuration
setup_part (Item.Header version setup) = setup ∷ []
setup_part (Item.Name stream name) = []
setup_part (Item.Opened line bytes) = []
setup_part (Item.Event e) = []
setup_part (Item.End count) = []
setup_part Item.More = []

-- the stream of an item with its name, if it is one
abbrev pub name_part : Item → List (ℕ × List ℕ)
name_part (Item.Header version setup) = []
name_part (Item.Name stream name) = (stream, name.items) ∷ []
name_part (Item.Opened line bytes) = []
name_part (Item.Event e) = []
name_part (Item.End count) = []
name_part Item.More = []

-- the line of an item with its bytes, if it is an opening
abbrev pub opening_part : Item → List (Line × Bytes64)
opening_part (Item.Header version setup) = []
opening_part (Item.Name stream name) = []
opening_part (Item.Opened line bytes) = (line, bytes) ∷ []
opening_part (Item.Event e) = []
opening_part (Item.End count) = []
opening_part Item.More = []

-- the event of an item, if it is one
abbrev pub event_part : Item → List Event
event_part (Item.Header version setup) = []
event_part (Item.Name stream name) = []
event_part (Item.Opened line bytes) = []
event_part (Item.Event e) = e ∷ []
event_part (Item.End count) = []
event_part Item.More = []

-- the setups among some items
abbrev pub setups_in : List Item → List Configuration
setups_in items = flat_map setup_part items

-- the streams that are named, in their order
abbrev pub names_in : List Item → List (ℕ × List ℕ)
names_in items = flat_map name_part items

-- the lines that are opened, in their order
abbrev pub openings_in : List Item → List (Line × Bytes64)
openings_in items = flat_map opening_part items

-- the events, oldest first
abbrev pub events_in : List Item → List Event
events_in items = flat_map event_part items
