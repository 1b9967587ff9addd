-- How a setup keeps the hosts of its streams: in 64 places, those past the last stream zero.
use Rattle.std.specs.Prelude.{ℕ, ◌≡◌, ◌≤◌, List, length, take}
use Rattle.std.proofs.Common.{ap, sym, ◌∙◌}
use Rattle.cxl_message.specs.declared.configuration.Setup.TheInside.{Inside}
use Rattle.cxl_message.specs.Setup.{Configuration, IsWithinLimits}
use Rattle.cxl_message.specs.Padding.{padded}

-- the numbers that a setup keeps
abbrev pub configuration_of : Inside → Configuration
configuration_of a = record { hosts = a.hosts; lines = a.lines; entries = a.entries; ways = a.ways; tags = a.tags; credits = a.credits; streams = take a.count a.places }

-- how a setup keeps these numbers
abbrev pub inside_of : Configuration → Inside
inside_of d = record { hosts = d.hosts; lines = d.lines; entries = d.entries; ways = d.ways; tags = d.tags; credits = d.credits; places = padded d.streams; count = length d.streams }

-- the places are those of so many streams, and the numbers are within their limits
pub record IsKept (a : Inside) : Type 0 where
  pub few : a.count ≤ 64
  pub places : a.places ≡ padded (take a.count a.places)
  pub count : length (take a.count a.places) ≡ a.count
  pub within : IsWithinLimits (configuration_of a)

-- the same fields but for the places and their count
abbrev with_places : Inside → List ℕ × ℕ → Inside
with_places a p = record { hosts = a.hosts; lines = a.lines; entries = a.entries; ways = a.ways; tags = a.tags; credits = a.credits; places = p.0; count = p.1 }

-- what is kept is found again from its numbers
pub restored : (a : Inside) → IsKept a → inside_of (configuration_of a) ≡ a
restored a h =
    ap (λ places. with_places a (places, length (take a.count a.places))) (sym h.places) ∙ ap (λ count. with_places a (a.places, count)) h.count
