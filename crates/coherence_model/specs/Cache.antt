-- The copies and the ways of a host, by the host's own events, newest first: one look-back, since a dropped victim is named by no message.
use Rattle.std.specs.Prelude.{Bool, List, None, Option, Some, [], false, filter, find, if◌then◌else◌, length, nat_le, not, true, ℕ, ◌&&◌, ◌++◌, ◌==◌, ◌||◌, ◌∷◌}
use Rattle.std.specs.Option.{option_map_or}
use Rattle.cxl_message.specs.declared.events.Act.{Act}
use Rattle.cxl_message.specs.declared.events.Cause.{Cause}
use Rattle.cxl_message.specs.declared.events.Event.{Event}
use Rattle.cxl_message.specs.declared.events.Sends.{Sends}
use Rattle.cxl_message.specs.Codes.{copy_code}
use Rattle.cxl_message.specs.Lists.{is_in, without}
use Rattle.cxl_message.specs.Messages.{line_in}
use Rattle.cxl_message.specs.Setup.{Configuration}
use Rattle.coherence_model.specs.Copies.{Copy, copy_after, no_copy}
use Rattle.coherence_model.specs.Snoops.{is_quiet}
use Rattle.coherence_model.specs.Transactions.{has_request}

-- what a host keeps of its lines: the copy of each line, and the lines that have a way, oldest first (own rule)
pub record Cache : Type 0 where
  pub copies : ℕ → Copy
  pub ways : List ℕ

-- whether a copy's state isn't I (CXL 3.1, ch. 3: the states)
abbrev pub is_valid : Copy → Bool
is_valid c = nat_le 1 (copy_code c.state)

-- the ways with a line brought in: last, or in its place where it has a way (own rule)
abbrev pub with_way : Option ℕ → List ℕ → List ℕ
with_way None ways = ways
with_way (Some a) ways = if is_in a ways then ways else ways ++ a ∷ []

-- the ways without a line (own rule)
abbrev pub without_way : Option ℕ → List ℕ → List ℕ
without_way None ways = ways
without_way (Some a) ways = without a ways

-- the ways after the messages of an operation: an evicted victim's leaves, the line's own comes in (own rule)
abbrev pub ways_after_op : Sends → List ℕ → List ℕ
ways_after_op Sends.Nothing ways = ways
ways_after_op (Sends.One o) ways = with_way (line_in o.message) ways
ways_after_op (Sends.Two v o) ways = with_way (line_in o.message) (without_way (line_in v.message) ways)

-- whether an act may take a copy away: WriteBack, Answer and AnswerBlock (own rule)
abbrev pub may_give_up : Act → Bool
may_give_up (Act.Conflict _) = false
may_give_up (Act.WriteBack _) = true
may_give_up (Act.Answer _) = true
may_give_up (Act.AnswerBlock _) = true
may_give_up (Act.HostReturn _) = false
may_give_up (Act.Serve _ _) = false
may_give_up (Act.Clean _ _) = false
may_give_up (Act.Start _ _) = false
may_give_up (Act.Evict _ _) = false
may_give_up (Act.Snoop _ _) = false
may_give_up (Act.Finish _) = false
may_give_up (Act.DeviceReturn _ _) = false

-- the ways, or those of them that keep their place, where a copy may have gone (own rule)
abbrev pub ways_if_given_up : Bool → (ℕ → Bool) → List ℕ → List ℕ
ways_if_given_up true keeps ways = filter keeps ways
ways_if_given_up false keeps ways = ways

-- the ways after a cause: a line whose copy is given up stays only with an open request (own rule)
abbrev pub ways_after : Cause → Sends → (ℕ → Bool) → List ℕ → List ℕ
ways_after (Cause.Op _ _ _) sends keeps ways = ways_after_op sends ways
ways_after (Cause.Take _ _) sends keeps ways = ways
ways_after (Cause.Act act) sends keeps ways = ways_if_given_up (may_give_up act) keeps ways

-- whether a line keeps its way: it has a copy or an open request (own rule)
abbrev pub keeps_way : List Event → (ℕ → Copy) → ℕ → Bool
keeps_way mine copies a = is_valid (copies a) || has_request a mine

-- whether a line needs a new way and there is none free (own rule)
abbrev pub lacks_way : Configuration → ℕ → List ℕ → Bool
lacks_way setup a ways = not (is_in a ways) && nat_le setup.ways (length ways)

-- the first idle way: its line is neither Open nor Snooped (own rule)
abbrev pub first_idle : List Event → List ℕ → Option ℕ
first_idle mine ways = find (λ a. is_quiet a mine) ways

-- the line that a lone request pushes out: the first idle way, where its own line lacks a way (own rule)
abbrev pub pushed_out : Configuration → Option ℕ → List Event → List ℕ → Option ℕ
pushed_out setup None past ways = None
pushed_out setup (Some a) past ways = if lacks_way setup a ways then first_idle past ways else None

-- the line whose shared copy an event drops without a message: an operation that sends its request alone does (own rule)
abbrev pub dropped_line : Configuration → Cause → Sends → List Event → List ℕ → Option ℕ
dropped_line setup (Cause.Op _ _ _) Sends.Nothing past ways = None
dropped_line setup (Cause.Op _ _ _) (Sends.One o) past ways = pushed_out setup (line_in o.message) past ways
dropped_line setup (Cause.Op _ _ _) (Sends.Two _ _) past ways = None
dropped_line setup (Cause.Take _ _) sends past ways = None
dropped_line setup (Cause.Act _) sends past ways = None

-- the cache without a dropped line (own rule)
abbrev pub without_dropped : Option ℕ → Cache → Cache
without_dropped None old = old
without_dropped (Some v) old = record { copies = λ a. if a == v then no_copy else old.copies a; ways = without v old.ways }

-- the copy of each line after an event that drops nothing (own rule)
abbrev pub copies_after : Event → List Event → (ℕ → Copy) → ℕ → Copy
copies_after e past old a = copy_after a e.cause e.sends e.commit past (old a)

-- the cache after an event that drops nothing (own rule)
abbrev pub cache_after : Event → List Event → Cache → Cache
cache_after e past old =
    record { copies = copies_after e past old.copies; ways = ways_after e.cause e.sends (keeps_way (e ∷ past) (copies_after e past old.copies)) old.ways }

-- the empty cache (own rule)
abbrev pub empty_cache : Cache
empty_cache = record { copies = λ a. no_copy; ways = [] }

-- the cache: each event first drops a line, if it drops one, and then fills, stores to, evicts, writes back or answers for lines (own rule)
abbrev pub cache : Configuration → List Event → Cache
cache setup [] = empty_cache
cache setup (e ∷ past) = let old = cache setup past in cache_after e past (without_dropped (dropped_line setup e.cause e.sends past old.ways) old)

-- the copy of line a (CXL 3.1, ch. 3: the states I, S, E and M; own rule: when they change)
abbrev pub copy : Configuration → ℕ → List Event → Copy
copy setup a mine = (cache setup mine).copies a

-- whether the copy of line a isn't I (own rule)
abbrev pub has_copy : Configuration → ℕ → List Event → Bool
has_copy setup a mine = is_valid (copy setup a mine)

-- whether the copy of line a is E or M (own rule)
abbrev pub is_writable : Configuration → ℕ → List Event → Bool
is_writable setup a mine = nat_le 2 (copy_code (copy setup a mine).state)

-- whether the copy of line a is M (own rule)
abbrev pub is_modified : Configuration → ℕ → List Event → Bool
is_modified setup a mine = copy_code (copy setup a mine).state == 3

-- `Ways`: the lines with a copy or an open request, by the operation that last brought them in (own rule)
abbrev pub ways : Configuration → List Event → List ℕ
ways setup mine = (cache setup mine).ways

-- the victim: the first idle way (own rule)
abbrev pub victim_way : Configuration → List Event → Option ℕ
victim_way setup mine = first_idle mine (ways setup mine)

-- whether an operation on line a that doesn't hit needs a victim: the line has no way, and all ways are taken (own rule)
abbrev pub needs_victim : Configuration → ℕ → List Event → Bool
needs_victim setup a mine = lacks_way setup a (ways setup mine)

-- whether it needs an eviction too: there is a victim, and its copy is E or M (own rule)
abbrev pub needs_eviction : Configuration → ℕ → List Event → Bool
needs_eviction setup a mine = needs_victim setup a mine && option_map_or (λ v. is_writable setup v mine) (victim_way setup mine) false
