-- The numbers that are kept beside the queues. All of it is an own rule.
use Rattle.std.specs.Prelude.{List, Some, length, slice_get, ℕ, ◌≡◌, ◌≤◌}
use Rattle.link_queues.specs.Links.{LinkRecord, takeable_on}

-- a number for each host: how many of its messages may be taken
pub record IsCounted (links : LinkRecord) (takeable : List ℕ) : Type 0 where
  pub hosts : length takeable ≡ links.hosts
  pub counts : (h n : ℕ) → slice_get takeable h ≡ Some n → n ≡ length (takeable_on links h)
  pub most : (h n : ℕ) → slice_get takeable h ≡ Some n → n ≤ 1536
