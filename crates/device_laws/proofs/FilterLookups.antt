-- Rows as they are kept: what is found in them is what the directory says.
use Rattle.std.proofs.Common.{◌≡◌, ℕ, ◌<◌, Bool, true, false, List, [], ◌∷◌, Option, Some, None, cond, find, map, refl, ap, sym, ◌∙◌, arith}
use Rattle.std.specs.Prelude.{is_some, not, option_map, unwrap_or, ◌&&◌, ◌==◌, ◌||◌}
use Rattle.std.specs.List.{list_all, list_any}
use Rattle.std.specs.Option.{option_map_or}
use Rattle.std.proofs.lemmas.Bool.{eqb-true, false_from_ne_true, false≢true, or_parts}
use Rattle.cxl_message.specs.declared.opcodes.Span.{Span}
use Rattle.cxl_message.specs.declared.states.Listing.{Listing}
use Rattle.cxl_message.specs.Lists.{below, is_in}
use Rattle.cxl_message.specs.Setup.{Configuration}
use Rattle.cxl_message.specs.Spans.{aligned, lines_of}
use Rattle.coherence_model.specs.Directory.{Directory, block_around, has_entry, is_busy, is_listed, may_evict, may_evict_block, victim_block}
use Rattle.entry_laws.proofs.Blocks.{any_at}
use Rattle.entry_laws.proofs.Entries.{EntriesKept}
use Rattle.snoop_filter.specs.declared.blocks.Block.{Block}
use Rattle.snoop_filter.specs.Rows.{FilterRow, has_row, held_in, is_some_listing, listed_in, listing_of, row_at, stands}
use Rattle.snoop_filter.specs.Victims.{block_from, idle_block_around, is_idle_block, is_idle_in, victim_in}
use Rattle.device_record.specs.Kept.{kept_row, kept_rows}
use Rattle.device_laws.proofs.Tables.{any_table, get_table}

-- ---- tests by number

pub same_eq : (a b : ℕ) → (a == b) ≡ (b == a)
same_eq a b = grind arith

-- the row of a line among rows of some lines
found_by : (hosts : ℕ) (D : Directory) (a x : ℕ) (rest : Option FilterRow) (xs : List ℕ) (b : Bool) → (x == a) ≡ b → rest ≡ cond (is_in a xs) (Some (kept_row hosts D a)) None
    → cond b (Some (kept_row hosts D x)) rest ≡ cond ((a == x) || is_in a xs) (Some (kept_row hosts D a)) None
found_by hosts D a x rest xs true is more =
    ap (λ y. Some (kept_row hosts D y)) (eqb-true x a is) ∙ sym (ap (λ c. cond (c || is_in a xs) (Some (kept_row hosts D a)) None) (same_eq a x ∙ is))
found_by hosts D a x rest xs false is more = more ∙ sym (ap (λ c. cond (c || is_in a xs) (Some (kept_row hosts D a)) None) (same_eq a x ∙ is))

row_found : (hosts : ℕ) (D : Directory) (a : ℕ) (xs : List ℕ) → row_at a (map (kept_row hosts D) xs) ≡ cond (is_in a xs) (Some (kept_row hosts D a)) None
row_found hosts D a [] = refl
row_found hosts D a (x ∷ xs) = found_by hosts D a x (row_at a (map (kept_row hosts D) xs)) xs (x == a) refl (row_found hosts D a xs)

-- a row stands for the lines of the entries
pub has_row_is : (hosts : ℕ) (D : Directory) (a : ℕ) (xs : List ℕ) → has_row a (map (kept_row hosts D) xs) ≡ is_in a xs
has_row_is hosts D a xs = any_table (λ (r : FilterRow). a == r.line) (kept_row hosts D) xs

-- ---- with entries that are kept

entry_by : (setup : Configuration) (D : Directory) → EntriesKept setup D → (a : ℕ) → a < setup.lines → (b : Bool) → is_in a D.entries ≡ b → b ≡ has_entry setup D a
entry_by setup D kept a low true is = sym (kept.there a is).1
entry_by setup D kept a low false is = sym (false_from_ne_true (has_entry setup D a) (λ has. false≢true (sym is ∙ kept.all a low has)))

-- a line that exists is among the entries exactly where it has an entry
pub entry_is : (setup : Configuration) (D : Directory) → EntriesKept setup D → (a : ℕ) → a < setup.lines → is_in a D.entries ≡ has_entry setup D a
entry_is setup D kept a low = entry_by setup D kept a low (is_in a D.entries) refl

-- so a row stands for it exactly then
pub has_row_entry : (setup : Configuration) (D : Directory) → EntriesKept setup D → (a : ℕ) → a < setup.lines → has_row a (kept_rows setup.hosts D) ≡ has_entry setup D a
has_row_entry setup D kept a low = has_row_is setup.hosts D a D.entries ∙ entry_is setup D kept a low

held_by : (setup : Configuration) (D : Directory) (a : ℕ) (b : Bool) → b ≡ has_entry setup D a
    → option_map_or (λ (r : FilterRow). r.held) (cond b (Some (kept_row setup.hosts D a)) None) false ≡ is_busy D a
held_by setup D a true is = refl
held_by setup D a false is = sym (or_parts (list_any (is_listed D a) (below setup.hosts)) (is_busy D a) (sym is)).1

-- its row is held exactly where it is Busy
pub held_is : (setup : Configuration) (D : Directory) → EntriesKept setup D → (a : ℕ) → a < setup.lines → held_in a (kept_rows setup.hosts D) ≡ is_busy D a
held_is setup D kept a low =
    ap (λ o. option_map_or (λ (r : FilterRow). r.held) o false) (row_found setup.hosts D a D.entries) ∙ held_by setup D a (is_in a D.entries) (entry_is setup D kept a low)

pub unlisted : (l : Listing) → is_some_listing l ≡ false → l ≡ Listing.I
unlisted Listing.I h = refl
unlisted Listing.S h = absurd (false≢true (sym h))
unlisted Listing.A h = absurd (false≢true (sym h))

listed_by : (setup : Configuration) (D : Directory) (a h : ℕ) → h < setup.hosts → (b : Bool) → b ≡ has_entry setup D a
    → option_map_or (listing_of h) (cond b (Some (kept_row setup.hosts D a)) None) Listing.I ≡ D.listed a h
listed_by setup D a h low true is = ap (λ o. unwrap_or o Listing.I) (get_table (D.listed a) setup.hosts h low)
listed_by setup D a h low false is =
    let none = (or_parts (list_any (is_listed D a) (below setup.hosts)) (is_busy D a) (sym is)).0 in
    sym (unlisted (D.listed a h) (false_from_ne_true _ (λ listed. false≢true (sym none ∙ any_at (is_listed D a) setup.hosts h low listed))))

-- a host is listed in the rows as it is listed
pub listed_is : (setup : Configuration) (D : Directory) → EntriesKept setup D → (a h : ℕ) → a < setup.lines → h < setup.hosts → listed_in a h (kept_rows setup.hosts D) ≡ D.listed a h
listed_is setup D kept a h low host =
    ap (λ o. option_map_or (listing_of h) o Listing.I) (row_found setup.hosts D a D.entries) ∙ listed_by setup D a h host (is_in a D.entries) (entry_is setup D kept a low)

-- a row stands exactly where its line has an entry
pub stands_is : (setup : Configuration) (D : Directory) (a : ℕ) → stands (kept_row setup.hosts D a) ≡ has_entry setup D a
stands_is setup D a = ap (λ b. b || is_busy D a) (any_table is_some_listing (D.listed a) (below setup.hosts))

-- ---- the victim

idle_by : (hosts : ℕ) (D : Directory) (a : ℕ) (b : Bool) → option_map_or (λ (r : FilterRow). not r.held) (cond b (Some (kept_row hosts D a)) None) false ≡ (b && not (is_busy D a))
idle_by hosts D a true = refl
idle_by hosts D a false = refl

-- a line has a row that isn't held exactly where it may be evicted
pub idle_is : (hosts : ℕ) (D : Directory) (a : ℕ) → is_idle_in (kept_rows hosts D) a ≡ may_evict D a
idle_is hosts D a = ap (λ o. option_map_or (λ (r : FilterRow). not r.held) o false) (row_found hosts D a D.entries) ∙ idle_by hosts D a (is_in a D.entries)

all_same : (p q : ℕ → Bool) → ((x : ℕ) → p x ≡ q x) → (xs : List ℕ) → list_all p xs ≡ list_all q xs
all_same p q same [] = refl
all_same p q same (x ∷ xs) = ap (λ b. b && list_all p xs) (same x) ∙ ap (λ b. q x && b) (all_same p q same xs)

idle_block_is : (hosts : ℕ) (D : Directory) (first : ℕ) (span : Span) → is_idle_block (kept_rows hosts D) first span ≡ may_evict_block D first span
idle_block_is hosts D first span = all_same (is_idle_in (kept_rows hosts D)) (may_evict D) (idle_is hosts D) (lines_of first span)

-- a block as its first line and its span
abbrev pub block_of : ℕ × Span → Block
block_of b = block_from b.0 b.1

block_by : (a : ℕ) (four two : Bool)
    → cond four (block_from (aligned 4 a) Span.Four) (cond two (block_from (aligned 2 a) Span.Two) (block_from a Span.One)) ≡ block_of (cond four (aligned 4 a, Span.Four) (cond two (aligned 2 a, Span.Two) (a, Span.One)))
block_by a true two = refl
block_by a false true = refl
block_by a false false = refl

block_is : (hosts : ℕ) (D : Directory) (a : ℕ) → idle_block_around (kept_rows hosts D) a ≡ block_of (block_around D a)
block_is hosts D a =
    (λ i. cond (idle_block_is hosts D (aligned 4 a) Span.Four i) (block_from (aligned 4 a) Span.Four)
    (cond (idle_block_is hosts D (aligned 2 a) Span.Two i) (block_from (aligned 2 a) Span.Two) (block_from a Span.One)))
    ∙ block_by a (may_evict_block D (aligned 4 a) Span.Four) (may_evict_block D (aligned 2 a) Span.Two)

oldest_by : (hosts : ℕ) (D : Directory) (block : ℕ → Block) (x : ℕ) (xs : List ℕ) (b : Bool)
    → option_map (λ (r : FilterRow). block r.line) (find (λ (r : FilterRow). not r.held) (map (kept_row hosts D) xs)) ≡ option_map block (find (λ a. not (is_busy D a)) xs)
    → option_map (λ (r : FilterRow). block r.line) (cond b (Some (kept_row hosts D x)) (find (λ (r : FilterRow). not r.held) (map (kept_row hosts D) xs)))
    ≡ option_map block (cond b (Some x) (find (λ a. not (is_busy D a)) xs))
oldest_by hosts D block x xs true more = refl
oldest_by hosts D block x xs false more = more

oldest_is : (hosts : ℕ) (D : Directory) (block : ℕ → Block) (xs : List ℕ)
    → option_map (λ (r : FilterRow). block r.line) (find (λ (r : FilterRow). not r.held) (map (kept_row hosts D) xs)) ≡ option_map block (find (λ a. not (is_busy D a)) xs)
oldest_is hosts D block [] = refl
oldest_is hosts D block (x ∷ xs) = oldest_by hosts D block x xs (not (is_busy D x)) (oldest_is hosts D block xs)

named : (D : Directory) (o : Option ℕ) → option_map (λ a. block_of (block_around D a)) o ≡ option_map block_of (option_map (block_around D) o)
named D None = refl
named D (Some a) = refl

-- the victim is that of the directory
pub victim_is : (hosts : ℕ) (D : Directory) → victim_in (kept_rows hosts D) ≡ option_map block_of (victim_block D)
victim_is hosts D =
    oldest_is hosts D (idle_block_around (kept_rows hosts D)) D.entries
    ∙ ap (λ block. option_map block (find (λ a. not (is_busy D a)) D.entries)) (λ i a. block_is hosts D a i)
    ∙ named D (find (λ a. not (is_busy D a)) D.entries)

some_named : (o : Option (ℕ × Span)) → is_some (option_map block_of o) ≡ is_some o
some_named None = refl
some_named (Some b) = refl

-- there is one where the directory has one
pub is_some_victim : (hosts : ℕ) (D : Directory) → is_some (victim_in (kept_rows hosts D)) ≡ is_some (victim_block D)
is_some_victim hosts D = ap is_some (victim_is hosts D) ∙ some_named (victim_block D)
