-- The text of items. Every rule here is an own rule.
use Rattle.std.specs.Prelude.{ℕ, List, [], ◌∷◌, ◌++◌, ◌+◌}
use Rattle.std.specs.List.{flat_map}
use Rattle.cxl_message.specs.declared.events.Event.{Event}
use Rattle.trace_stream.specs.declared.items.Item.{Item}
use Rattle.cxl_view.specs.Events.{event_line}
use Rattle.cxl_view.specs.Tallies.{Counts, counts_of}
use Rattle.cxl_view.specs.Traces.{header_lines, name_line, opening_line}

-- the lines of an item before which so many events stand: the end record has none
abbrev pub item_text : ℕ → Item → List ℕ
item_text number (Item.Header version setup) = header_lines version setup
item_text number (Item.Name stream name) = name_line (stream, name.items)
item_text number (Item.Opened line bytes) = opening_line (line, bytes)
item_text number (Item.Event e) = event_line number e
item_text number (Item.End count) = []
item_text number Item.More = []

-- the event of an item, if it is one
abbrev pub event_part : Item → List Event
event_part (Item.Header version setup) = []
event_part (Item.Name stream name) = []
event_part (Item.Opened line bytes) = []
event_part (Item.Event e) = e ∷ []
event_part (Item.End count) = []
event_part Item.More = []

-- how many events stand before what follows an item
abbrev pub number_after : ℕ → Item → ℕ
number_after number (Item.Header version setup) = number
number_after number (Item.Name stream name) = number
number_after number (Item.Opened line bytes) = number
number_after number (Item.Event e) = number + 1
number_after number (Item.End count) = number
number_after number Item.More = number

-- the lines of items before which so many events stand
abbrev pub shown_from : ℕ → List Item → List ℕ
shown_from number [] = []
shown_from number (item ∷ items) = item_text number item ++ shown_from (number_after number item) items

-- the text of items: the lines of each, in order, where each event has the number of those before it
abbrev pub shown_items : List Item → List ℕ
shown_items items = shown_from 0 items

-- the events among items, oldest first
abbrev pub events_in : List Item → List Event
events_in items = flat_map event_part items

-- how many lines the setup in their header has, and 0 where there is none
abbrev pub lines_in : List Item → ℕ
lines_in [] = 0
lines_in (Item.Header version setup ∷ items) = setup.lines
lines_in (Item.Name stream name ∷ items) = lines_in items
lines_in (Item.Opened line bytes ∷ items) = lines_in items
lines_in (Item.Event e ∷ items) = lines_in items
lines_in (Item.End count ∷ items) = lines_in items
lines_in (Item.More ∷ items) = lines_in items

-- what is counted of the events among items
abbrev pub counts_in : List Item → Counts
counts_in items = counts_of (lines_in items) (events_in items)
