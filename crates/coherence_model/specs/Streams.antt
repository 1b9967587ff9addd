-- How far the streams of a host are, by the host's own events, newest first.
use Rattle.std.specs.Prelude.{Bool, List, Option, [], false, if◌then◌else◌, not, ℕ, ◌&&◌, ◌+◌, ◌==◌, ◌||◌, ◌∷◌}
use Rattle.std.specs.Option.{option_map_or}
use Rattle.cxl_message.specs.declared.events.Cause.{Cause}
use Rattle.cxl_message.specs.declared.events.Commit.{Commit}
use Rattle.cxl_message.specs.declared.events.Event.{Event}

-- whether a cause begins an operation of stream s (own rule)
abbrev pub begins_for : ℕ → Cause → Bool
begins_for s (Cause.Op stream _ _) = stream == s
begins_for s (Cause.Take _ _) = false
begins_for s (Cause.Act _) = false

-- how many operations stream s began (own rule)
abbrev pub begun_count : ℕ → List Event → ℕ
begun_count s [] = 0
begun_count s (e ∷ past) = (if begins_for s e.cause then 1 else 0) + begun_count s past

-- whether a commit is one of stream s (own rule)
abbrev pub commits_for : ℕ → Option Commit → Bool
commits_for s c = option_map_or (λ c. c.stream == s) c false

-- whether the last operation of stream s has no commit yet (own rule)
abbrev pub stream_waits : ℕ → List Event → Bool
stream_waits s [] = false
stream_waits s (e ∷ past) = not (commits_for s e.commit) && (begins_for s e.cause || stream_waits s past)
