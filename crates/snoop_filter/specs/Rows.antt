-- Rows of a filter: which hosts are listed for a line, and whether it is held.
use Rattle.std.specs.Prelude.{Bool, List, Option, false, find, nat_le, slice_get, unwrap_or, ℕ, ◌==◌, ◌||◌}
use Rattle.std.specs.List.{list_any}
use Rattle.std.specs.Option.{option_map_or}
use Rattle.cxl_message.specs.declared.states.Listing.{Listing}
use Rattle.cxl_message.specs.Codes.{listing_code}

-- a row: its line, the listing of each host, and whether it is held (own rule)
pub record FilterRow : Type 0 where
  pub line : ℕ
  pub listings : List Listing
  pub held : Bool

-- whether a listing is S or A (own rule)
abbrev pub is_some_listing : Listing → Bool
is_some_listing l = nat_le 1 (listing_code l)

-- whether a row stands: some host is listed, or it is held (own rule)
abbrev pub stands : FilterRow → Bool
stands r = list_any is_some_listing r.listings || r.held

-- the row of line a, if there is one (own rule)
abbrev pub row_at : ℕ → List FilterRow → Option FilterRow
row_at a rows = find (λ r. r.line == a) rows

-- whether line a has a row (own rule)
abbrev pub has_row : ℕ → List FilterRow → Bool
has_row a rows = list_any (λ r. a == r.line) rows

-- how a row lists host h (own rule)
abbrev pub listing_of : ℕ → FilterRow → Listing
listing_of h r = unwrap_or (slice_get r.listings h) Listing.I

-- how host h is listed for line a: I where it has no row (own rule)
abbrev pub listed_in : ℕ → ℕ → List FilterRow → Listing
listed_in a h rows = option_map_or (listing_of h) (row_at a rows) Listing.I

-- whether line a has a row that is held (own rule)
abbrev pub held_in : ℕ → List FilterRow → Bool
held_in a rows = option_map_or (λ r. r.held) (row_at a rows) false
