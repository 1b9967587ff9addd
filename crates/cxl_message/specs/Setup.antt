-- The setup of a machine. Every number here is an own rule.
use Rattle.std.specs.Prelude.{ℕ, Bool, List, Option, Some, None, ◌&&◌, not, nat_lt, nat_le, ◌≤◌, IsTrue, if◌then◌else◌, length, slice_get}
use Rattle.std.specs.List.{list_all}
use Rattle.cxl_message.specs.declared.configuration.SetupRefusal.{SetupRefusal}
use Rattle.cxl_message.specs.declared.limits.TheConstants.{MAX_CREDITS, MAX_ENTRIES, MAX_HOSTS, MAX_LINES, MAX_STREAMS, MAX_TAGS, MAX_WAYS, MIN_CREDITS, MIN_TAGS}

-- how many hosts, lines, filter entries, ways, tags and credits there are, and the host of each stream
pub record Configuration : Type 0 where
  pub hosts : ℕ
  pub lines : ℕ
  pub entries : ℕ
  pub ways : ℕ
  pub tags : ℕ
  pub credits : ℕ
  pub streams : List ℕ

-- the host of a stream, if there is such a stream
abbrev pub stream_host : Configuration → ℕ → Option ℕ
stream_host setup stream = slice_get setup.streams stream

-- whether a number is within its limits
abbrev pub is_within : ℕ → ℕ → ℕ → Bool
is_within least most n = nat_le least n && nat_le n most

-- whether there are at most so many streams, each on a host that there is
abbrev pub streams_fit : Configuration → Bool
streams_fit setup = nat_le (length setup.streams) MAX_STREAMS && list_all (λ h. nat_lt h setup.hosts) setup.streams

-- every number of a setup is within its limits
pub record IsWithinLimits (setup : Configuration) : Type 0 where
  pub hosts : (1 ≤ setup.hosts) × (setup.hosts ≤ MAX_HOSTS)
  pub lines : (1 ≤ setup.lines) × (setup.lines ≤ MAX_LINES)
  pub entries : (1 ≤ setup.entries) × (setup.entries ≤ MAX_ENTRIES)
  pub ways : (1 ≤ setup.ways) × (setup.ways ≤ MAX_WAYS)
  pub tags : (MIN_TAGS ≤ setup.tags) × (setup.tags ≤ MAX_TAGS)
  pub credits : (MIN_CREDITS ≤ setup.credits) × (setup.credits ≤ MAX_CREDITS)
  pub streams : length setup.streams ≤ MAX_STREAMS
  pub stream_hosts : IsTrue (list_all (λ h. nat_lt h setup.hosts) setup.streams)

-- the first number of a setup that is outside its limits, if one is
abbrev pub setup_refusal : Configuration → Option SetupRefusal
setup_refusal setup =
    if not (is_within 1 MAX_HOSTS setup.hosts) then Some SetupRefusal.Hosts
    else (if not (is_within 1 MAX_LINES setup.lines) then Some SetupRefusal.Lines
    else (if not (is_within 1 MAX_ENTRIES setup.entries) then Some SetupRefusal.Entries
    else (if not (is_within 1 MAX_WAYS setup.ways) then Some SetupRefusal.Ways
    else (if not (is_within MIN_TAGS MAX_TAGS setup.tags) then Some SetupRefusal.Tags
    else (if not (is_within MIN_CREDITS MAX_CREDITS setup.credits) then Some SetupRefusal.Credits
    else (if not (streams_fit setup) then Some SetupRefusal.Streams
    else None))))))
