-- The 64 places in which a setup keeps the hosts of its streams.
use Rattle.std.specs.Prelude.{ℕ, ◌-◌, List, ◌++◌, length, replicate}

-- the hosts, and zeros after them (own rule)
abbrev pub padded : List ℕ → List ℕ
padded hosts = hosts ++ replicate (64 - length hosts) 0
