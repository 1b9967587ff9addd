-- Who is asked about a block.
use Rattle.std.specs.Prelude.{Bool, List, filter, not, ℕ, ◌&&◌, ◌==◌}
use Rattle.std.specs.List.{list_any}
use Rattle.cxl_message.specs.Codes.{listing_code}
use Rattle.cxl_message.specs.Lists.{below}
use Rattle.snoop_filter.specs.declared.blocks.Block.{Block}
use Rattle.snoop_filter.specs.Filters.{FilterRecord}
use Rattle.snoop_filter.specs.Rows.{FilterRow, is_some_listing, listed_in}
use Rattle.snoop_filter.specs.Victims.{block_lines}
use Rattle.block_snoop.specs.declared.purposes.Purpose.{Purpose}

-- whether host g is listed for a line of a block (own rule)
abbrev pub lists_block : Block → List FilterRow → ℕ → Bool
lists_block b rows g = list_any (λ a. is_some_listing (listed_in a g rows)) (block_lines b)

-- whether host g is to be asked about a block: for a shared copy of host h another that is listed A, for its only copy another that is listed S or A, for an eviction each that is listed for a line of the block (own rule)
abbrev pub is_asked_for : Purpose → Block → List FilterRow → ℕ → Bool
is_asked_for (Purpose.SharedFor h) b rows g = not (h == g) && (listing_code (listed_in b.first.0 g rows) == 2)
is_asked_for (Purpose.OwnedFor h) b rows g = not (h == g) && is_some_listing (listed_in b.first.0 g rows)
is_asked_for Purpose.Evicting b rows g = lists_block b rows g

-- the hosts to ask about a block, ascending (own rule)
abbrev pub hosts_asked : FilterRecord → Block → Purpose → List ℕ
hosts_asked f b purpose = filter (is_asked_for purpose b f.rows) (below f.hosts)
