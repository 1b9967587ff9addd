-- How a table's links make an order (own rule). A name is 0, or a place and 1.
use Rattle.std.specs.Prelude.{List, None, Option, Some, [], length, slice_get, slice_set, ℕ, zero, suc, ◌≡◌, ◌<◌, ◌==◌, ◌^◌, ◌∷◌, if◌then◌else◌}
use Rattle.std.specs.Option.{option_map_or}
use Rattle.linked_order.specs.declared.links.Link.{Link}
use Rattle.linked_order.specs.Orders.{IsOnce}

-- the names of a place's neighbours (own rule)
abbrev pub older_at : List Link → ℕ → ℕ
older_at links a = option_map_or (λ (l : Link). l.older) (slice_get links a) 0

abbrev pub newer_at : List Link → ℕ → ℕ
newer_at links a = option_map_or (λ (l : Link). l.newer) (slice_get links a) 0

-- the places from a name on, so many at most (own rule)
abbrev pub walk : ℕ → ℕ → List Link → List ℕ
walk zero name links = []
walk (suc n) zero links = []
walk (suc n) (suc a) links = a ∷ walk n (newer_at links a) links

-- the links from a name on are those of a list: each place has its neighbours' names, and the last has this one (own rule)
abbrev pub IsChain : List Link → ℕ → ℕ → List ℕ → ℕ → Type 0
IsChain links prev name [] last = (name ≡ 0) × (last ≡ prev)
IsChain links prev name (x ∷ xs) last = (name ≡ suc x) × (x < length links) × (older_at links x ≡ prev) × IsChain links (suc x) (newer_at links x) xs last

-- a table with its oldest and newest name and its length has this order (own rule)
pub record IsLinked (links : List Link) (oldest newest len : ℕ) (listed : List ℕ) : Type 0 where
  pub chain : IsChain links 0 oldest listed newest
  pub size : length listed ≡ len
  pub once : IsOnce listed
  pub few : length links < 2 ^ 32

-- the table with one name set at a place (own rule)
abbrev pub with_newer : ℕ → ℕ → List Link → List Link
with_newer zero name links = links
with_newer (suc a) name links = slice_set links a (record { older = older_at links a; newer = name })

abbrev pub with_older : ℕ → ℕ → List Link → List Link
with_older zero name links = links
with_older (suc a) name links = slice_set links a (record { older = name; newer = newer_at links a })

-- a place is put last (own rule)
abbrev pub put_last : ℕ → ℕ → List Link → List Link
put_last a last links = slice_set (with_newer last (suc a) links) a (record { older = last; newer = 0 })

-- a place is taken out (own rule)
abbrev pub taken_out : ℕ → List Link → List Link
taken_out a links = with_older (newer_at links a) (older_at links a) (with_newer (older_at links a) (newer_at links a) links)

-- the name, or another where it is this one (own rule)
abbrev pub renamed : ℕ → ℕ → ℕ → ℕ
renamed name this other = if name == this then other else name

-- the place of a name, or none where it names none (own rule)
abbrev pub named : ℕ → Option ℕ
named zero = None
named (suc a) = Some a
