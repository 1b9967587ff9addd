-- The flat memory: lines of 64 bytes, with no cache, no filter and no messages. A history is a list of commits, newest first.
use Rattle.std.specs.Prelude.{Bool, List, [], if◌then◌else◌, nat_lt, true, ℕ, ◌&&◌, ◌==◌, ◌∷◌}
use Rattle.cxl_message.specs.declared.events.Commit.{Commit}
use Rattle.cxl_message.specs.declared.identifiers.Bytes64.{Bytes64}
use Rattle.cxl_message.specs.declared.identifiers.Line.{Line}
use Rattle.cxl_message.specs.Codes.{bytes_eq}
use Rattle.cxl_message.specs.Events.{line_of}
use Rattle.cxl_message.specs.Formed.{place_exists}
use Rattle.cxl_message.specs.Opening.{bytes_at}
use Rattle.cxl_message.specs.Stores.{line_after}

-- line a of the flat memory after a history: the opening's bytes, changed by each operation on the line (own rule)
abbrev pub flat_line : List (Line × Bytes64) → ℕ → List Commit → Bytes64
flat_line opening a [] = bytes_at opening a
flat_line opening a (c ∷ older) = if line_of c.op == a then line_after c.op (flat_line opening a older) else flat_line opening a older

-- whether a commit is legal: its line and place exist, and its value is the flat memory's line after it (own rule)
abbrev pub commit_is_legal : ℕ → List (Line × Bytes64) → Commit → List Commit → Bool
commit_is_legal lines opening c older =
    nat_lt (line_of c.op) lines && place_exists c.op && bytes_eq c.value (line_after c.op (flat_line opening (line_of c.op) older))

-- whether each commit of a history is legal after those before it (own rule)
abbrev pub is_legal : ℕ → List (Line × Bytes64) → List Commit → Bool
is_legal lines opening [] = true
is_legal lines opening (c ∷ older) = is_legal lines opening older && commit_is_legal lines opening c older
