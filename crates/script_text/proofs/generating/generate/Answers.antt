use Rattle.std.proofs.Common.{ℕ, ◌≡◌, ◌*◌, ◌∙◌, List, [], ap, sym, subst}
use Rattle.cxl_message.specs.Script.{ScriptValue}
use Rattle.cxl_message.specs.Setup.{Configuration}
use Rattle.cxl_message.specs.declared.events.Op.{Op}
use Rattle.cxl_message.specs.declared.identifiers.Bytes64.{Bytes64}
use Rattle.cxl_message.specs.declared.identifiers.Line.{Line}
use Rattle.script_text.specs.Drafts.{script_of}
use Rattle.script_text.specs.Generator.{drawn_picks, generated}
use Rattle.script_text.specs.Script.{IsScript}
use Rattle.script_text.proofs.Generated.{generated_is_script}
use Rattle.script_text.proofs.generating.generate.Goals as goal

pub new-requires-3 : goal.new-requires-3
new-requires-3 c =
    let drawn = c.in_ok-operations.ensures.drawn in
    let picked = c.in_ok-picks.ensures.drawn in
    let picks : c.in_ok-picks.picks.items ≡ (generated c.args.count c.args.seed).picks = ap (λ (p : List ℕ × ℕ). p.0) picked ∙ ap (λ (p : List (List Op) × ℕ). (drawn_picks p.1 (8 * c.args.count)).0) drawn in
    let with_parts : Configuration → List (ℕ × List ℕ) → List (Line × Bytes64) → List (List Op) → List ℕ → ScriptValue = λ setup names opening operations picks.
    record { setup = setup; names = names; room = 200000; opening = opening; operations = operations; picks = picks } in
    let made = script_of (record { setup = c.large_machine.result; names = c.new.result; room = 200000; opening = c.new-2.result; operations = c.in_ok-operations.operations; picks = c.in_ok-picks.picks; count = c.args.count }) in
    let is : made ≡ generated c.args.count c.args.seed =
    ap (λ setup. with_parts setup made.names made.opening made.operations made.picks) c.large_machine.ensures
    ∙ ap (λ names. with_parts (generated c.args.count c.args.seed).setup names made.opening made.operations made.picks) c.new.ensures
    ∙ ap (λ opening. with_parts (generated c.args.count c.args.seed).setup [] opening made.operations made.picks) c.new-2.ensures
    ∙ ap (λ (p : List (List Op) × ℕ). with_parts (generated c.args.count c.args.seed).setup [] [] p.0 made.picks) drawn
    ∙ ap (with_parts (generated c.args.count c.args.seed).setup [] [] (generated c.args.count c.args.seed).operations) picks in
    subst IsScript (sym is) (generated_is_script c.args.count c.args.seed c.requires.few)
