-- What the device knows of its lines: which hosts are listed, which tasks stand, and which lines have an entry in the filter.
use Rattle.std.specs.Prelude.{Bool, List, None, Option, [], find, if◌then◌else◌, nat_le, not, option_map, ℕ, ◌&&◌, ◌==◌, ◌||◌}
use Rattle.std.specs.List.{list_all, list_any}
use Rattle.cxl_message.specs.declared.opcodes.Span.{Span}
use Rattle.cxl_message.specs.declared.states.Listing.{Listing}
use Rattle.cxl_message.specs.Codes.{listing_code}
use Rattle.cxl_message.specs.Lists.{below, is_in}
use Rattle.cxl_message.specs.Setup.{Configuration}
use Rattle.cxl_message.specs.Spans.{aligned, lines_of}
use Rattle.coherence_model.specs.Tasks.{Purpose, Task, task_covers}

-- the listing by line and host, the task by first line, and the lines with an entry, oldest first (own rule)
pub record Directory : Type 0 where
  pub listed : ℕ → ℕ → Listing
  pub task : ℕ → Option Task
  pub entries : List ℕ

-- no host is listed, no task stands and no line has an entry (own rule)
abbrev pub empty_directory : Directory
empty_directory = record { listed = λ a h. Listing.I; task = λ a. None; entries = [] }

-- whether line a is Busy: it is a line of a task, whose first line is a multiple of its span (own rule)
abbrev pub is_busy : Directory → ℕ → Bool
is_busy D a = task_covers a a (D.task a) || task_covers a (aligned 2 a) (D.task (aligned 2 a)) || task_covers a (aligned 4 a) (D.task (aligned 4 a))

-- whether host h is listed S or A for line a (own rule)
abbrev pub is_listed : Directory → ℕ → ℕ → Bool
is_listed D a h = nat_le 1 (listing_code (D.listed a h))

-- whether host h is listed A for line a (own rule)
abbrev pub is_listed_any : Directory → ℕ → ℕ → Bool
is_listed_any D a h = listing_code (D.listed a h) == 2

-- whether line a has an entry: some host is listed, or it is Busy (own rule)
abbrev pub has_entry : Configuration → Directory → ℕ → Bool
has_entry setup D a = list_any (is_listed D a) (below setup.hosts) || is_busy D a

-- whether a line may be evicted: it has an entry and isn't Busy (own rule)
abbrev pub may_evict : Directory → ℕ → Bool
may_evict D a = is_in a D.entries && not (is_busy D a)

-- whether every line of a block may be evicted (own rule)
abbrev pub may_evict_block : Directory → ℕ → Span → Bool
may_evict_block D first span = list_all (may_evict D) (lines_of first span)

-- the largest aligned block of 4, 2 or 1 lines around line a in which every line may be evicted (own rule)
abbrev pub block_around : Directory → ℕ → ℕ × Span
block_around D a =
    if may_evict_block D (aligned 4 a) Span.Four then (aligned 4 a, Span.Four)
    else (if may_evict_block D (aligned 2 a) Span.Two then (aligned 2 a, Span.Two) else (a, Span.One))

-- the victim block: the one around the oldest entry whose line isn't Busy (own rule)
abbrev pub victim_block : Directory → Option (ℕ × Span)
victim_block D = option_map (block_around D) (find (λ a. not (is_busy D a)) D.entries)

-- whether a task with first line a is to ask host g: a MemRd Shared another that is listed A, other requests another that is listed, an eviction each that is listed in its block (own rule)
abbrev pub is_to_ask : Purpose → Directory → ℕ → Task → ℕ → Bool
is_to_ask Purpose.SharedRead D a t g = not (t.host == g) && is_listed_any D a g
is_to_ask Purpose.OwningRead D a t g = not (t.host == g) && is_listed D a g
is_to_ask Purpose.Invalidation D a t g = not (t.host == g) && is_listed D a g
is_to_ask Purpose.Eviction D a t g = list_any (λ b. is_listed D b g) (lines_of a t.span)
