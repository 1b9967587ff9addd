-- The lines of streams, one after the other.
use Rattle.std.proofs.Common.{◌≡◌, ℕ, ◌+◌, ◌<◌, ◌≤◌, List, ◌++◌, length, drop, slice_index, sym, ap, ◌∙◌, append_assoc}
use Rattle.std.proofs.lemmas.List.{append-nil, drop_all, drop_more}
use Rattle.cxl_view.specs.Traces.{stream_line, stream_lines}

-- one line more
pub stream_put : (hosts : List ℕ) (i : ℕ) (items next all : List ℕ) → i < length hosts → next ≡ items ++ stream_line i (slice_index hosts i) → items ++ stream_lines i (drop i hosts) ≡ all
    → next ++ stream_lines (i + 1) (drop (i + 1) hosts) ≡ all
stream_put hosts i items next all below put so_far =
    ap (λ (n : List ℕ). n ++ stream_lines (i + 1) (drop (i + 1) hosts)) put
    ∙ append_assoc items (stream_line i (slice_index hosts i)) (stream_lines (i + 1) (drop (i + 1) hosts))
    ∙ ap (λ (xs : List ℕ). items ++ stream_lines i xs) (sym (drop_more hosts i 0 below)) ∙ so_far

-- all lines
pub streams_put : (hosts : List ℕ) (i : ℕ) (items all : List ℕ) → length hosts ≤ i → items ++ stream_lines i (drop i hosts) ≡ all → items ≡ all
streams_put hosts i items all end so_far =
    sym (append-nil items) ∙ ap (λ (xs : List ℕ). items ++ stream_lines i xs) (sym (drop_all i hosts end)) ∙ so_far
