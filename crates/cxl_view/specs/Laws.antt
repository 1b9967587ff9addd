-- Laws of shown text. Every rule here is an own rule.
use Rattle.std.specs.Prelude.{◌≡◌, ℕ, List, [], ◌∷◌, ◌++◌, count_by, length, map, nat_eq, sum_by}
use Rattle.std.specs.List.{IsDistinct}
use Rattle.cxl_message.specs.Setup.{Configuration}
use Rattle.cxl_message.specs.declared.identifiers.Bytes64.{Bytes64}
use Rattle.cxl_message.specs.declared.identifiers.Line.{Line}
use Rattle.cxl_message.specs.declared.events.Event.{Event}
use Rattle.cxl_message.specs.Events.{is_load, is_whole}
use Rattle.cxl_codec.specs.declared.versions.Version.{Version}
use Rattle.cxl_view.specs.Events.{event_line}
use Rattle.cxl_view.specs.Tallies.{begun_ops, counts_of, is_word}
use Rattle.cxl_view.specs.Traces.{front_bytes, header_lines, name_line, opening_line}

-- how the front of a shown trace goes on: by a name while there is no opening, by an opening while there is no event, and by an event
pub record FrontsGoOn : Type 0 where
  pub first : (version : Version) (setup : Configuration) → front_bytes version setup [] [] [] ≡ header_lines version setup
  pub name : (version : Version) (setup : Configuration) (names : List (ℕ × List ℕ)) (named : ℕ × List ℕ)
      → front_bytes version setup (names ++ named ∷ []) [] [] ≡ front_bytes version setup names [] [] ++ name_line named
  pub opening : (version : Version) (setup : Configuration) (names : List (ℕ × List ℕ)) (openings : List (Line × Bytes64)) (opened : Line × Bytes64)
      → front_bytes version setup names (openings ++ opened ∷ []) [] ≡ front_bytes version setup names openings [] ++ opening_line opened
  pub event : (version : Version) (setup : Configuration) (names : List (ℕ × List ℕ)) (openings : List (Line × Bytes64)) (events : List Event) (e : Event)
      → front_bytes version setup names openings (events ++ e ∷ []) ≡ front_bytes version setup names openings events ++ event_line (length events) e

-- each line stands once among those counted, and over all lines the counts are those of the operations, kind by kind
pub record CountsAddUp : Type 0 where
  pub once : (lines : ℕ) (events : List Event) → IsDistinct nat_eq (map (λ counted. counted.0) (counts_of lines events).on_lines)
  pub loads : (lines : ℕ) (events : List Event) → sum_by (λ counted. counted.1.loads) (counts_of lines events).on_lines ≡ count_by is_load (begun_ops lines events)
  pub words : (lines : ℕ) (events : List Event) → sum_by (λ counted. counted.1.words) (counts_of lines events).on_lines ≡ count_by is_word (begun_ops lines events)
  pub wholes : (lines : ℕ) (events : List Event) → sum_by (λ counted. counted.1.wholes) (counts_of lines events).on_lines ≡ count_by is_whole (begun_ops lines events)
