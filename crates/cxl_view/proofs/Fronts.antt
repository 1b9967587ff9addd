-- How the front of a shown trace goes on.
use Rattle.std.proofs.Common.{◌≡◌, ℕ, ◌+◌, List, [], ◌∷◌, ◌++◌, length, sym, ap, ◌∙◌, append_assoc, arith}
use Rattle.std.specs.List.{flat_map}
use Rattle.std.proofs.lemmas.Grind.{flat_map-append}
use Rattle.std.proofs.lemmas.List.{append-nil}
use Rattle.cxl_message.specs.declared.events.Event.{Event}
use Rattle.cxl_view.specs.Events.{event_line, event_lines}
use Rattle.cxl_view.specs.Laws.{FrontsGoOn}
use Rattle.cxl_view.specs.Traces.{header_lines, name_line, opening_line}

-- one line more, behind all parts
events_more : (number : ℕ) (events : List Event) (e : Event) → event_lines number (events ++ e ∷ []) ≡ event_lines number events ++ event_line (number + length events) e
events_more number [] e =
    let same : number ≡ number + 0 = omega arith in
    append-nil (event_line number e) ∙ ap (λ n. event_line n e) same
events_more number (f ∷ events) e =
    let same : (number + 1) + length events ≡ number + length (f ∷ events) = omega arith in
    ap (λ (lines : List ℕ). event_line number f ++ lines) (events_more (number + 1) events e ∙ ap (λ n. event_lines (number + 1) events ++ event_line n e) same)
    ∙ sym (append_assoc (event_line number f) (event_lines (number + 1) events) (event_line (number + length (f ∷ events)) e))

one_more : {X : Type 0} (line : X → List ℕ) (xs : List X) (x : X) → flat_map line (xs ++ x ∷ []) ≡ flat_map line xs ++ line x
one_more line xs x = flat_map-append line xs (x ∷ []) ∙ ap (λ (lines : List ℕ). flat_map line xs ++ lines) (append-nil (line x))

-- nothing behind the last part
none_behind : (a : List ℕ) → (a ++ []) ++ [] ≡ a
none_behind a = append-nil (a ++ []) ∙ append-nil a

pub goes_on : FrontsGoOn
goes_on = record {
  first = λ version setup. let h : List ℕ = header_lines version setup in append-nil ((h ++ []) ++ []) ∙ none_behind h;
  name = λ version setup names named.
      let h : List ℕ = header_lines version setup in
      let ns : List ℕ = flat_map name_line names in
      none_behind (h ++ flat_map name_line (names ++ named ∷ [])) ∙ ap (λ (bytes : List ℕ). h ++ bytes) (one_more name_line names named)
      ∙ sym (append_assoc h ns (name_line named)) ∙ ap (λ (bytes : List ℕ). bytes ++ name_line named) (sym (none_behind (h ++ ns)));
  opening = λ version setup names openings opened.
      let h : List ℕ = header_lines version setup ++ flat_map name_line names in
      let os : List ℕ = flat_map opening_line openings in
      append-nil (h ++ flat_map opening_line (openings ++ opened ∷ [])) ∙ ap (λ (bytes : List ℕ). h ++ bytes) (one_more opening_line openings opened)
      ∙ sym (append_assoc h os (opening_line opened)) ∙ ap (λ (bytes : List ℕ). bytes ++ opening_line opened) (sym (append-nil (h ++ os)));
  event = λ version setup names openings events e.
      let h : List ℕ = (header_lines version setup ++ flat_map name_line names) ++ flat_map opening_line openings in
      let same : 0 + length events ≡ length events = omega arith in
      ap (λ (bytes : List ℕ). h ++ bytes) (events_more 0 events e ∙ ap (λ n. event_lines 0 events ++ event_line n e) same)
      ∙ sym (append_assoc h (event_lines 0 events) (event_line (length events) e));
}
