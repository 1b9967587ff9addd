-- A header comes first, and names, openings and the end record aren't counted.
use Rattle.std.proofs.Common.{ℕ, OnOk, ap, refl, subst, sym, ◌++◌, ◌∙◌, ◌∷◌, ◌≡◌, []}
use Rattle.cxl_view.specs.Tallies.{counts_of}
use Rattle.trace_stream.specs.declared.items.Found.{Found}
use Rattle.trace_stream.specs.declared.stages.Stage.{Stage}
use Rattle.trace_stream.specs.Items.{item_of}
use Rattle.trace_stream.specs.Runs.{Follow}
use Rattle.trace_viewer.specs.Items.{counts_in}
use Rattle.trace_viewer.proofs.Parts.{header_counted, in_any_case, silent_counted}
use Rattle.trace_viewer.proofs.showing.show_item.Goals as goal

pub returns-in-Header-clause-counted : goal.returns-in-Header-clause-counted
returns-in-Header-clause-counted c items =
    let room = c.args.room.now in
    subst (λ (found : Found). Follow Stage.Start (items ++ item_of room found ∷ []) → c.args.tallies.now ≡ counts_in items → OnOk c.render_header.result (c.new.result ≡ counts_in (items ++ item_of room found ∷ []))) (sym c.in-Header.is)
    (λ follow same. in_any_case c.render_header.result (c.new.ensures ∙ ap (λ (n : ℕ). counts_of n []) c.lines.ensures.lines ∙ header_counted items room.version room.setup follow))

pub returns-in-Name-clause-counted : goal.returns-in-Name-clause-counted
returns-in-Name-clause-counted c items =
    let room = c.args.room.now in
    let old = c.args.tallies.now in
    subst (λ (found : Found). Follow Stage.Start (items ++ item_of room found ∷ []) → old ≡ counts_in items → OnOk c.render_name.result (old ≡ counts_in (items ++ item_of room found ∷ []))) (sym c.in-Name.is)
    (λ follow same. in_any_case c.render_name.result (same ∙ silent_counted items (item_of room Found.Name) refl refl))

pub returns-in-Opened-clause-counted : goal.returns-in-Opened-clause-counted
returns-in-Opened-clause-counted c items =
    let room = c.args.room.now in
    let old = c.args.tallies.now in
    subst (λ (found : Found). Follow Stage.Start (items ++ item_of room found ∷ []) → old ≡ counts_in items → OnOk c.render_opening.result (old ≡ counts_in (items ++ item_of room found ∷ []))) (sym c.in-Opened.is)
    (λ follow same. in_any_case c.render_opening.result (same ∙ silent_counted items (item_of room Found.Opened) refl refl))

pub returns-in-End-clause-counted : goal.returns-in-End-clause-counted
returns-in-End-clause-counted c items =
    let room = c.args.room.now in
    let old = c.args.tallies.now in
    subst (λ (found : Found). Follow Stage.Start (items ++ item_of room found ∷ []) → old ≡ counts_in items → old ≡ counts_in (items ++ item_of room found ∷ [])) (sym c.in-End.is)
    (λ follow same. same ∙ silent_counted items (item_of room (Found.End c.in-End.count)) refl refl)

pub returns-in-More-clause-counted : goal.returns-in-More-clause-counted
returns-in-More-clause-counted c items =
    let room = c.args.room.now in
    let old = c.args.tallies.now in
    subst (λ (found : Found). Follow Stage.Start (items ++ item_of room found ∷ []) → old ≡ counts_in items → old ≡ counts_in (items ++ item_of room found ∷ [])) (sym c.in-More.is)
    (λ follow same. same ∙ silent_counted items (item_of room Found.More) refl refl)
