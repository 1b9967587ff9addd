-- How the act of a number is searched among the allowed acts, one act after another.
use Rattle.std.specs.Prelude.{List, Option, [], if◌then◌else◌, None, Some, ◌-◌, ◌==◌, ◌∷◌}
use Rattle.cxl_message.specs.declared.events.Act.{Act}
use Rattle.device_acts.specs.declared.searching.Search.{Search}

-- a search after one act more (own rule)
abbrev pub searched_act : Act → Search → Search
searched_act act (Search.Skip n) = if n == 0 then Search.Found act else Search.Skip (n - 1)
searched_act act (Search.Found found) = Search.Found found

-- a search after so many acts more, in their order (own rule)
abbrev pub searched : List Act → Search → Search
searched [] search = search
searched (act ∷ acts) search = searched acts (searched_act act search)

-- what a search has found (own rule)
abbrev pub found : Search → Option Act
found (Search.Skip _) = None
found (Search.Found act) = Some act
