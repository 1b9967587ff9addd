-- What comes before the first event of a trace. Every rule here is an own rule.
use Rattle.std.specs.Prelude.{◌≡◌, List, [], ◌∷◌, ◌++◌, ℕ}
use Rattle.cxl_message.specs.Setup.{Configuration}
use Rattle.cxl_message.specs.declared.events.Event.{Event}
use Rattle.cxl_codec.specs.declared.versions.Version.{Version}
use Rattle.trace_stream.specs.declared.items.Item.{Item}
use Rattle.trace_stream.specs.declared.stages.Stage.{Stage}
use Rattle.trace_stream.specs.Runs.{Follow, IsTraceIn}
use Rattle.trace_migration.specs.declared.heads.Head.{Head}
use Rattle.trace_migration.specs.Items.{names_in, openings_in, setups_in}

-- the head has what these items have before the first event
pub record IsHead (items : List Item) (head : Head) : Type 0 where
  pub header : (setup : Configuration) → setups_in items ≡ setup ∷ [] → head.setup ≡ setup
  pub named : names_in items ≡ head.names
  pub opened : openings_in items ≡ head.opening

-- a trace goes on by this item behind those of which the head has what it should
pub record GoesOnBy (items : List Item) (item : Item) (head : Head) : Type 0 where
  pub taken : IsHead items head
  pub follow : Follow Stage.Start (items ++ item ∷ [])

-- the bytes are a trace that has this head
pub record IsHeadOf (bytes : List ℕ) (head : Head) : Type 0 where
  pub version : Version
  pub events : List Event
  pub trace : IsTraceIn bytes version head.setup head.names head.opening events
