-- The version that a script needs has room for its trace.
use Rattle.std.proofs.Common.{Bool, IsTrue, List, [], false, length, refl, true, ◌≡◌, ◌∷◌, ℕ}
use Rattle.std.proofs.lemmas.Bool.{and_parts, eqb-true, leb-true}
use Rattle.cxl_codec.specs.Versions.{event_fits, setup_fits}
use Rattle.cxl_message.specs.declared.events.Event.{Event}
use Rattle.cxl_message.specs.Script.{ScriptValue}
use Rattle.coherence_model.specs.Rules.{p0_profile}
use Rattle.script_text.specs.Script.{IsScript}
use Rattle.trace_stream.specs.Runs.{NamesFit}
use Rattle.step_driver.specs.Outputs.{fits_version_one, version_if, version_of}
use Rattle.step_driver.proofs.ShortTags.{tags_are_short}

-- a list without members
none_in : {X : Type 0} (xs : List X) → length xs ≡ 0 → xs ≡ []
none_in [] none = refl
none_in (x ∷ xs) none = absurd cc

-- for its events, where they keep P0
event_room : (b : Bool) (script : ScriptValue) (e : Event) → fits_version_one script ≡ b → IsTrue (p0_profile script.setup e) → IsTrue (event_fits (version_if b) e)
event_room true script e fits kept = tags_are_short script.setup (leb-true script.setup.tags 64 (and_parts _ _ fits).0) e kept
event_room false script e fits kept = refl

pub event_has_room : (script : ScriptValue) (e : Event) → IsTrue (p0_profile script.setup e) → IsTrue (event_fits (version_of script) e)
event_has_room script e kept = event_room (fits_version_one script) script e refl kept

-- for its number of tags
setup_room : (b : Bool) (script : ScriptValue) → fits_version_one script ≡ b → IsTrue (setup_fits (version_if b) script.setup)
setup_room true script fits = (and_parts _ _ fits).0
setup_room false script fits = refl

pub setup_has_room : (script : ScriptValue) → IsTrue (setup_fits (version_of script) script.setup)
setup_has_room script = setup_room (fits_version_one script) script refl

-- for its names
names_room : (b : Bool) (script : ScriptValue) → fits_version_one script ≡ b → IsScript script → NamesFit (version_if b) (length script.setup.streams) script.names
names_room true script fits is = none_in script.names (eqb-true (length script.names) 0 (and_parts _ _ fits).1)
names_room false script fits is = (is.names.ascending, is.named)

pub names_have_room : (script : ScriptValue) → IsScript script → NamesFit (version_of script) (length script.setup.streams) script.names
names_have_room script is = names_room (fits_version_one script) script refl is
