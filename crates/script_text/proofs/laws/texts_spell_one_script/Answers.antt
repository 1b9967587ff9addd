use Rattle.script_text.proofs.Readings.{texts_spell_one_script}
use Rattle.script_text.proofs.laws.texts_spell_one_script.Goals as goal

pub returns : goal.returns
returns c = record { one = texts_spell_one_script }
