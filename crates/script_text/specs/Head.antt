-- Reading the seven lines that a script begins with, as the parser does.
use Rattle.std.specs.Prelude.{ℕ, List, [], Option, Some, None, Result, Ok, Err, ◌==◌, codes, if◌then◌else◌, length}
use Rattle.std.specs.Option.{option_map, option_and_then}
use Rattle.std.specs.Str.{bytes_eq}
use Rattle.cxl_message.specs.Setup.{Configuration, is_within}
use Rattle.script_text.specs.declared.refusals.ScriptReason.{ScriptReason}
use Rattle.script_text.specs.declared.refusals.ScriptRefusal.{ScriptRefusal}
use Rattle.script_text.specs.Words.{parts_at, number_in}
use Rattle.cxl_message.specs.declared.limits.TheConstants.{MAX_CREDITS, MAX_ENTRIES, MAX_HOSTS, MAX_LINES, MAX_TAGS, MAX_WAYS, MIN_CREDITS, MIN_TAGS}
use Rattle.script_text.specs.declared.limits.TheConstants.{MAX_ROOM}

infixl 10 ◌>>=◌
abbrev pub ◌>>=◌ : {A B : Type 0} → Result A ScriptRefusal → (A → Result B ScriptRefusal) → Result B ScriptRefusal
(Ok x) >>= f = f x
(Err e) >>= f = Err e

-- the number behind this word
unfoldable pub number_behind : List ℕ → List ℕ → Option ℕ
number_behind word text = option_and_then (λ parts. if bytes_eq parts.0 word then number_in parts.1 else None) (parts_at 32 text)

-- the number in the first line, behind this word, and what follows the line
unfoldable pub setting_in : List ℕ → List ℕ → Option (ℕ × List ℕ)
setting_in word text = option_and_then (λ parts. option_map (λ n. (n, parts.1)) (number_behind word parts.0)) (parts_at 10 text)

-- a number that was found, or why it is refused
abbrev pub limited : ℕ → ℕ → ℕ → Option (ℕ × List ℕ) → Result (ℕ × List ℕ) ScriptRefusal
limited line least most None = Err (ScriptRefusal.Bad line ScriptReason.Spelling)
limited line least most (Some found) = if is_within least most found.0 then Ok found else Err (ScriptRefusal.Bad line ScriptReason.Range)

-- the number in the line of this number, or why the line is refused
unfoldable pub number_at : ℕ → List ℕ → ℕ → ℕ → List ℕ → Result (ℕ × List ℕ) ScriptRefusal
number_at line word least most text =
    if length text == 0 then Err (ScriptRefusal.Bad line ScriptReason.Missing) else limited line least most (setting_in word text)

-- a setup of these numbers, without streams
abbrev pub without_streams : ℕ → ℕ → ℕ → ℕ → ℕ → ℕ → Configuration
without_streams hosts lines entries ways tags credits = record { hosts = hosts; lines = lines; entries = entries; ways = ways; tags = tags; credits = credits; streams = [] }

-- the setup and the room of the seven lines, and what follows them
unfoldable pub head_at : List ℕ → Result (Configuration × ℕ × List ℕ) ScriptRefusal
head_at text = do
  hosts ← number_at 1 (codes "hosts") 1 MAX_HOSTS text
  lines ← number_at 2 (codes "lines") 1 MAX_LINES hosts.1
  entries ← number_at 3 (codes "filter") 1 MAX_ENTRIES lines.1
  ways ← number_at 4 (codes "ways") 1 MAX_WAYS entries.1
  tags ← number_at 5 (codes "tags") MIN_TAGS MAX_TAGS ways.1
  credits ← number_at 6 (codes "credits") MIN_CREDITS MAX_CREDITS tags.1
  room ← number_at 7 (codes "room") 1 MAX_ROOM credits.1
  Ok (without_streams hosts.0 lines.0 entries.0 ways.0 tags.0 credits.0, room.0, room.1)
