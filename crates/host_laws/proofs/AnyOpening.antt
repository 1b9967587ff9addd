-- An own run of a host doesn't depend on the opening: its rows don't look at memory.
use Rattle.std.proofs.Common.{List, [], ap, false, refl, sym, true, ℕ, ◌∙◌, ◌∷◌, ◌≡◌}
use Rattle.std.proofs.lemmas.Bool.{and_from, and_parts, eqb-true}
use Rattle.std.specs.Option.{option_map_or}
use Rattle.std.specs.Prelude.{◌==◌}
use Rattle.cxl_message.specs.declared.events.Event.{Event}
use Rattle.cxl_message.specs.declared.identifiers.Bytes64.{Bytes64}
use Rattle.cxl_message.specs.declared.identifiers.Line.{Line}
use Rattle.cxl_message.specs.Setup.{Configuration}
use Rattle.coherence_model.specs.Fitting.{is_device}
use Rattle.coherence_model.specs.Rows.{is_emitted, row_holds}
use Rattle.coherence_model.proofs.Allowed.{own_half_by_parts, own_half_parts}
use Rattle.coherence_lemmas.proofs.Allowed.{emitted}
use Rattle.cxl_message.proofs.SameEvents.{same-sends_eq, same_commits}
use Rattle.coherence_lemmas.proofs.Rows.{emission_from, host_row}
use Rattle.coherence_model.specs.OwnRuns.{is_own_run}

row_any : (setup : Configuration) (o p : List (Line × Bytes64)) (e : Event) (mine : List Event) → is_device e.agent ≡ false → row_holds setup o e mine ≡ true → row_holds setup p e mine ≡ true
row_any setup o p e mine host row =
    let by = emitted setup o e mine row in
    let same = host_row setup p e.agent e.cause mine host ∙ sym (host_row setup o e.agent e.cause mine host) ∙ by.row in
    ap (λ x. option_map_or (is_emitted e) x false) (emission_from setup p e.agent e.cause mine by.w same by.paid)
    ∙ and_from _ _ (same-sends_eq e.sends by.w.sends by.sends) (same_commits e.commit by.w.commit by.commit)

pub any_opening : (setup : Configuration) (o p : List (Line × Bytes64)) (h : ℕ) → is_device h ≡ false → (mine : List Event) → is_own_run setup o h mine ≡ true → is_own_run setup p h mine ≡ true
any_opening setup o p h host [] run = refl
any_opening setup o p h host (e ∷ mine) run =
    let parts = and_parts (is_own_run setup o h mine) _ run in
    let own = and_parts (e.agent == h) _ parts.1 in
    let halves = own_half_parts setup o e mine own.1 in
    let agent = eqb-true e.agent h own.0 in
    and_from _ _ (any_opening setup o p h host mine parts.0)
    (and_from _ _ own.0 (own_half_by_parts setup p e mine halves.0 halves.1 (row_any setup o p e mine (ap is_device agent ∙ host) halves.2)))
