-- Headers: what is read is spelled so, and what is spelled is read again.
use Rattle.std.proofs.Common.{◌≡◌, ℕ, zero, suc, ◌+◌, ◌-◌, ◌*◌, ◌^◌, ◌<◌, ◌≤◌, List, [], ◌∷◌, ◌++◌, length, Some, Ok, refl, sym, ap, subst, ◌∙◌, arith, rules, tests}
use Rattle.std.specs.Prelude.{IsTrue, nat_lt, map, find, ◌==◌}
use Rattle.std.specs.List.{list_all, AllByRecursion}
use Rattle.std.specs.Int.{w16, byte_at}
use Rattle.std.proofs.lemmas.Bool.{lt-ltb, ltb-true, and_parts, and_from, le-leb, leb-true}
use Rattle.cxl_message.specs.Setup.{Configuration, IsWithinLimits}
use Rattle.cxl_codec.specs.declared.fields.FieldName.{FieldName}
use Rattle.cxl_codec.specs.declared.versions.Version.{Version}
use Rattle.cxl_codec.specs.Versions.{setup_fits, version_number, versions}
use Rattle.cxl_codec.specs.Cells.{Cell, field, free, number}
use Rattle.cxl_codec.specs.Header.{HeaderFits, HeaderFitsIn, VersionedFits, header_cells, magic_cells, setup_cells, stream_cells, tags_cells, versioned_cells}
use Rattle.cxl_codec.specs.Reading.{field_of, within}
use Rattle.cxl_codec.specs.ReadingFiles.{header_at, least_low, magic_at, most_low, setup_at, streams_at, tags_at, version_at, versioned_at}
use Rattle.cxl_codec.proofs.Meanings.{found}
use Rattle.cxl_codec.proofs.Outcomes.{IsBytes, Sound, IsRead, Spells, Meets, then_sound, ends_sound, then_read, ends_read}
use Rattle.cxl_codec.proofs.Parts.{Within, field_meets, free_meets, run_meets, table_by, within_meets}
use Rattle.cxl_codec.proofs.MessageReads.{short_meets}
use Rattle.cxl_codec.proofs.FileReads.{exact_meets}

-- the four bytes that begin every trace
IsMagic : ℕ → Type 0
IsMagic n = n ≡ 0x54

-- the reader of the first four bytes meets the grammar
magic_meets : Meets IsMagic (λ n. magic_cells) magic_at
unfolding IsMagic magic_at
magic_meets = record {
  sound =
      then_sound _ _ _ (exact_meets FieldName.Magic 0x43 (omega arith)) _ _ (λ _ _.
      then_sound _ _ _ (exact_meets FieldName.Magic 0x58 (omega arith)) _ _ (λ _ _.
      then_sound _ _ _ (exact_meets FieldName.Magic 0x4c (omega arith)) _ _ (λ _ _.
      ends_sound _ _ _ (exact_meets FieldName.Magic 0x54 (omega arith)) _ (λ last. last) (λ last l. (l, refl)))));
  complete = λ n fits.
      then_read _ _ _ ((exact_meets FieldName.Magic 0x43 (omega arith)).complete 0x43 refl) _ _ _
      (then_read _ _ _ ((exact_meets FieldName.Magic 0x58 (omega arith)).complete 0x58 refl) _ _ _
      (then_read _ _ _ ((exact_meets FieldName.Magic 0x4c (omega arith)).complete 0x4c refl) _ _ _
      (ends_read _ _ _ ((exact_meets FieldName.Magic 0x54 (omega arith)).complete n fits) (λ last. last))));
}

-- the hosts of at most 64 streams, none of them above the limit
abbrev StreamsFit : ℕ → List ℕ → Type 0
StreamsFit most hosts = (length hosts ≤ 64) × AllByRecursion (λ h. h ≤ most) hosts

-- the reader of the streams' hosts meets the grammar
streams_meets : (hosts : ℕ) → hosts ≤ 16 → Meets (StreamsFit (hosts - 1)) stream_cells (streams_at hosts)
unfolding streams_at
streams_meets hosts le = record {
  sound =
      then_sound _ _ _ (within_meets FieldName.StreamCount 0 64 (omega arith) (omega arith)) _ _ (λ count c.
      ends_sound _ _ _ (run_meets FieldName.StreamHost (hosts - 1) (omega arith) count) _ (λ streams. streams) (λ streams s.
      ((omega (arith, s.0, c.1), s.1), ap (λ (n : ℕ). field FieldName.StreamCount n ∷ map (field FieldName.StreamHost) streams) (sym s.0))));
  complete = λ streams fits.
      then_read _ _ _ ((within_meets FieldName.StreamCount 0 64 (omega arith) (omega arith)).complete (length streams) (omega arith, fits.0)) _ _ _
      (ends_read _ _ _ ((run_meets FieldName.StreamHost (hosts - 1) (omega arith) (length streams)).complete streams (refl, fits.1)) (λ streams. streams));
}

-- hosts below a number, as a test
hosts_below : (n : ℕ) (hosts : List ℕ) → 1 ≤ n → AllByRecursion (λ h. h ≤ n - 1) hosts → IsTrue (list_all (λ h. nat_lt h n) hosts)
hosts_below n [] least fits = refl
hosts_below n (h ∷ hosts) least fits = and_from _ _ (lt-ltb h n (omega (arith, fits.0))) (hosts_below n hosts least fits.1)

-- and back, from the test
hosts_from : (n : ℕ) (hosts : List ℕ) → IsTrue (list_all (λ h. nat_lt h n) hosts) → AllByRecursion (λ h. h ≤ n - 1) hosts
hosts_from n [] fits = tt
hosts_from n (h ∷ hosts) fits = let parts : IsTrue (nat_lt h n) × IsTrue (list_all (λ k. nat_lt k n) hosts) = and_parts _ _ fits in (omega (arith, ltb-true h n parts.0), hosts_from n hosts parts.1)

-- the setup whose header has these numbers
setup_of : (hosts lines high low ways tags credits : ℕ) (streams : List ℕ) → Configuration
setup_of hosts lines high low ways tags credits streams = record { hosts = hosts; lines = lines + 1; entries = 256 * high + low + 1; ways = ways + 1; tags = tags; credits = credits; streams = streams }

-- ---- the number of tags

-- how many tags a version has room for
abbrev TagsFit : Version → ℕ → Type 0
TagsFit Version.One n = Within 2 64 n
TagsFit Version.Two n = Within 2 1024 n

-- the limits of the second byte
lows_fit : (high : ℕ) → high ≤ 4 → (least_low high ≤ most_low high) × (most_low high < 256)
lows_fit zero le = (omega arith, omega arith)
lows_fit (suc zero) le = (omega arith, omega arith)
lows_fit (suc (suc zero)) le = (omega arith, omega arith)
lows_fit (suc (suc (suc zero))) le = (omega arith, omega arith)
lows_fit (suc (suc (suc (suc zero)))) le = (omega arith, omega arith)
lows_fit (suc (suc (suc (suc (suc high))))) le = absurd (omega (arith, le))

-- two bytes within their limits are a number of tags
tags_from : (high low : ℕ) → high ≤ 4 → Within (least_low high) (most_low high) low → Within 2 1024 (256 * high + low)
tags_from zero low le w = (omega (arith, w.0), omega (arith, w.1))
tags_from (suc zero) low le w = (omega arith, omega (arith, w.1))
tags_from (suc (suc zero)) low le w = (omega arith, omega (arith, w.1))
tags_from (suc (suc (suc zero))) low le w = (omega arith, omega (arith, w.1))
tags_from (suc (suc (suc (suc zero)))) low le w = (omega arith, omega (arith, w.1))
tags_from (suc (suc (suc (suc (suc high))))) low le w = absurd (omega (arith, le))

-- and back
low_from : (high low : ℕ) → high ≤ 4 → low < 256 → Within 2 1024 (256 * high + low) → Within (least_low high) (most_low high) low
low_from zero low le lt w = (omega (arith, w.0), omega (arith, lt))
low_from (suc zero) low le lt w = (omega arith, omega (arith, lt))
low_from (suc (suc zero)) low le lt w = (omega arith, omega (arith, lt))
low_from (suc (suc (suc zero))) low le lt w = (omega arith, omega (arith, lt))
low_from (suc (suc (suc (suc zero)))) low le lt w = (omega arith, omega (arith, w.1))
low_from (suc (suc (suc (suc (suc high))))) low le lt w = absurd (omega (arith, le))

-- the two bytes of a number of tags
two_cells : (high low : ℕ) → low < 256 → high ≤ 4 → tags_cells Version.Two (256 * high + low) ≡ field FieldName.Tags high ∷ field FieldName.Tags low ∷ []
two_cells high low lt le =
    let e1 : byte_at 1 (256 * high + low) ≡ high = omega (arith, lt, le) in
    let e2 : byte_at 0 (256 * high + low) ≡ low = omega (arith, lt) in
    rw (e1, e2) refl

-- the reader of the second byte meets the grammar
low_meets : (high : ℕ) → high ≤ 4 → Meets (Within (least_low high) (most_low high)) (λ n. field FieldName.Tags n ∷ []) (field_of FieldName.Tags (within (least_low high) (most_low high)))
low_meets high le = within_meets FieldName.Tags (least_low high) (most_low high) (lows_fit high le).0 (lows_fit high le).1

-- a number of tags that is read is spelled so
tags_sound : (version : Version) → Sound (Spells (TagsFit version) (tags_cells version)) (tags_at version)
unfolding tags_at
tags_sound Version.One = (within_meets FieldName.Tags 2 64 (omega arith) (omega arith)).sound
tags_sound Version.Two =
    then_sound _ _ _ (within_meets FieldName.Tags 0 4 (omega arith) (omega arith)) _ _ (λ high h.
    ends_sound _ _ _ (low_meets high h.1) _ (λ low. 256 * high + low) (λ low l.
    (tags_from high low h.1 l, sym (two_cells high low (omega (arith, l.1, (lows_fit high h.1).1)) h.1))))

-- a number of tags that is spelled is read again
tags_read : (version : Version) (n : ℕ) → TagsFit version n → IsRead (tags_at version) n (tags_cells version n)
unfolding tags_at
tags_read Version.One n fits = (within_meets FieldName.Tags 2 64 (omega arith) (omega arith)).complete n fits
tags_read Version.Two n fits =
    let high : ℕ = byte_at 1 n in
    let low : ℕ = byte_at 0 n in
    let whole : 256 * high + low ≡ n = omega (arith, fits.1) in
    let le : high ≤ 4 = omega (arith, fits.1) in
    let lt : low < 256 = omega arith in
    let both : Within 2 1024 (256 * high + low) = (omega (arith, whole, fits.0), omega (arith, whole, fits.1)) in
    subst (λ (value : ℕ). IsRead (tags_at Version.Two) value (tags_cells Version.Two n)) whole
    (then_read _ _ _ ((within_meets FieldName.Tags 0 4 (omega arith) (omega arith)).complete high (omega arith, le)) _ _ _
    (ends_read _ _ _ ((low_meets high le).complete low (low_from high low le lt both)) (λ low. 256 * high + low)))

-- the reader of the number of tags meets the grammar
pub tags_meets : (version : Version) → Meets (TagsFit version) (tags_cells version) (tags_at version)
tags_meets version = record { sound = tags_sound version; complete = tags_read version }

-- a number of tags that a version has room for is one that there may be
tags_limits : (version : Version) (n : ℕ) → TagsFit version n → Within 2 1024 n
tags_limits Version.One n fits = (fits.0, omega (arith, fits.1))
tags_limits Version.Two n fits = fits

-- and the version has room for its setup
tags_room : (version : Version) (s : Configuration) → TagsFit version s.tags → IsTrue (setup_fits version s)
tags_room Version.One s fits = le-leb s.tags 64 fits.1
tags_room Version.Two s fits = refl

-- and back
tags_fit : (version : Version) (s : Configuration) → HeaderFitsIn version s → TagsFit version s.tags
tags_fit Version.One s fits = (fits.limits.tags.0, leb-true s.tags 64 fits.tags)
tags_fit Version.Two s fits = fits.limits.tags

-- ---- setups

-- numbers that are read give a setup within its limits
within_limits : (hosts lines high low ways tags credits : ℕ) (streams : List ℕ) → Within 1 16 hosts → lines < 2 ^ 16 → Within 0 15 high → low < 256 → ways < 256 → Within 2 1024 tags → Within 2 64 credits
    → StreamsFit (hosts - 1) streams → IsWithinLimits (setup_of hosts lines high low ways tags credits streams)
unfolding setup_of
within_limits hosts lines high low ways tags credits streams h l i o w t c s = record {
  hosts = h;
  lines = (omega arith, omega arith);
  entries = (omega arith, omega (arith, i.1));
  ways = (omega arith, omega arith);
  tags = t;
  credits = c;
  streams = s.0;
  stream_hosts = hosts_below hosts streams h.0 s.1;
}

-- a setup is found again from the numbers of its header
rebuilt : (s : Configuration) → IsWithinLimits s → setup_of s.hosts (s.lines - 1) (byte_at 1 (s.entries - 1)) (byte_at 0 (s.entries - 1)) (s.ways - 1) s.tags s.credits s.streams ≡ s
unfolding setup_of
rebuilt s fits =
    let e1 : s.lines - 1 + 1 ≡ s.lines = omega (arith, fits.lines.0) in
    let e2 : 256 * byte_at 1 (s.entries - 1) + byte_at 0 (s.entries - 1) + 1 ≡ s.entries = omega (arith, fits.entries.0, fits.entries.1) in
    let e3 : s.ways - 1 + 1 ≡ s.ways = omega (arith, fits.ways.0) in
    rw (e1, e2, e3) refl

module _ (version : Version) where
  -- the setup has these cells
  cells_of_setup : (hosts lines high low ways tags credits : ℕ) (streams : List ℕ) → high < 256 → low < 256 → setup_cells version (setup_of hosts lines high low ways tags credits streams)
      ≡ field FieldName.Hosts hosts ∷ number w16 lines ++ (field FieldName.Entries high ∷ free low ∷ free ways ∷ (tags_cells version tags ++ (field FieldName.Credits credits ∷ stream_cells streams)))
  unfolding setup_of
  cells_of_setup hosts lines high low ways tags credits streams i o =
      let e1 : lines + 1 - 1 ≡ lines = omega arith in
      let e2 : byte_at 1 (256 * high + low + 1 - 1) ≡ high = omega arith in
      let e3 : byte_at 0 (256 * high + low + 1 - 1) ≡ low = omega arith in
      let e4 : ways + 1 - 1 ≡ ways = omega arith in
      rw (e1, e2, e3, e4) refl

  -- a setup that is read is spelled so
  setup_sound : Sound (Spells (HeaderFitsIn version) (setup_cells version)) (setup_at version)
  unfolding setup_at setup_of
  setup_sound =
      then_sound _ _ _ (within_meets FieldName.Hosts 1 16 (omega arith) (omega arith)) _ _ (λ hosts h.
      then_sound _ _ _ short_meets _ _ (λ lines l.
      then_sound _ _ _ (within_meets FieldName.Entries 0 15 (omega arith) (omega arith)) _ _ (λ high i.
      then_sound _ _ _ free_meets _ _ (λ low o.
      then_sound _ _ _ free_meets _ _ (λ ways w.
      then_sound _ _ _ (tags_meets version) _ _ (λ tags t.
      then_sound _ _ _ (within_meets FieldName.Credits 2 64 (omega arith) (omega arith)) _ _ (λ credits c.
      ends_sound _ _ _ (streams_meets hosts h.1) _ (λ streams. setup_of hosts lines high low ways tags credits streams) (λ streams s.
      let limits : IsWithinLimits (setup_of hosts lines high low ways tags credits streams) = within_limits hosts lines high low ways tags credits streams h l i o w (tags_limits version tags t) c s in
      (record { limits = limits; tags = tags_room version (setup_of hosts lines high low ways tags credits streams) t }, sym (cells_of_setup hosts lines high low ways tags credits streams (omega (arith, i.1)) o))))))))))

  -- a setup that is spelled is read again
  setup_read : (s : Configuration) → HeaderFitsIn version s → IsRead (setup_at version) s (setup_cells version s)
  unfolding setup_at setup_of
  setup_read s fits =
      let high : ℕ = byte_at 1 (s.entries - 1) in
      let low : ℕ = byte_at 0 (s.entries - 1) in
      subst (λ (value : Configuration). IsRead (setup_at version) value (setup_cells version s)) (rebuilt s fits.limits)
      (then_read _ _ _ ((within_meets FieldName.Hosts 1 16 (omega arith) (omega arith)).complete s.hosts fits.limits.hosts) _ _ _
      (then_read _ _ _ (short_meets.complete (s.lines - 1) (omega (arith, fits.limits.lines.0, fits.limits.lines.1))) _ _ _
      (then_read _ _ _ ((within_meets FieldName.Entries 0 15 (omega arith) (omega arith)).complete high (omega arith, omega (arith, fits.limits.entries.0, fits.limits.entries.1))) _ _ _
      (then_read _ _ _ (free_meets.complete low (omega arith)) _ _ _
      (then_read _ _ _ (free_meets.complete (s.ways - 1) (omega (arith, fits.limits.ways.0, fits.limits.ways.1))) _ _ _
      (then_read _ _ _ ((tags_meets version).complete s.tags (tags_fit version s fits)) _ _ _
      (then_read _ _ _ ((within_meets FieldName.Credits 2 64 (omega arith) (omega arith)).complete s.credits fits.limits.credits) _ _ _
      (ends_read _ _ _ ((streams_meets s.hosts fits.limits.hosts.1).complete s.streams (fits.limits.streams, hosts_from s.hosts s.streams fits.limits.stream_hosts)) (λ streams. setup_of s.hosts (s.lines - 1) high low (s.ways - 1) s.tags s.credits streams)))))))))

  -- the reader of setups meets the grammar
  pub setup_meets : Meets (HeaderFitsIn version) (setup_cells version) (setup_at version)
  setup_meets = record { sound = setup_sound; complete = setup_read }

  -- a setup that is read is one within its limits
  pub setup_within : (bytes : List ℕ) → IsBytes bytes → (s : Configuration) (rest : List ℕ) → setup_at version bytes ≡ Ok (s, rest) → IsWithinLimits s
  setup_within bytes each s rest e = (found (HeaderFitsIn version) (setup_cells version) (setup_at version) setup_meets bytes each s rest e).fits.limits

-- ---- headers

-- the reader of headers of version 1 meets the grammar
pub header_meets : Meets HeaderFits header_cells header_at
unfolding header_at IsMagic
header_meets = record {
  sound =
      then_sound _ _ _ magic_meets _ _ (λ _ _.
      then_sound _ _ _ (exact_meets FieldName.Version 1 (omega arith)) _ _ (λ _ _.
      ends_sound _ _ _ (setup_meets Version.One) _ (λ setup. setup) (λ setup s. (s, refl))));
  complete = λ setup fits.
      then_read _ _ _ (magic_meets.complete 0x54 refl) _ _ _
      (then_read _ _ _ ((exact_meets FieldName.Version 1 (omega arith)).complete 1 refl) _ _ _
      (ends_read _ _ _ ((setup_meets Version.One).complete setup fits) (λ setup. setup)));
}

-- each version is found by its number
version_again : (v : Version) → Unit {0} → find (λ w. version_number w == version_number v) versions ≡ Some v
version_again Version.One fits = refl
version_again Version.Two fits = refl

-- the reader of a version meets the grammar
version_meets : Meets (λ (v : Version). Unit {0}) (λ v. field FieldName.Version (version_number v) ∷ []) version_at
version_meets = field_meets FieldName.Version (λ (v : Version). Unit {0}) version_number (λ b. find (λ v. version_number v == b) versions)
    (table_by (λ (v : Version). Unit {0}) version_number versions (tt, (tt, tt)) version_again refl (Version.One, tt))

-- the reader of headers of either version meets the grammar
pub versioned_meets : Meets VersionedFits versioned_cells versioned_at
unfolding versioned_at IsMagic
versioned_meets = record {
  sound =
      then_sound _ _ _ magic_meets _ _ (λ _ _.
      then_sound _ _ _ version_meets _ _ (λ version _.
      ends_sound _ _ _ (setup_meets version) _ (λ setup. (version, setup)) (λ setup s. (s, refl))));
  complete = λ headed fits.
      then_read _ _ _ (magic_meets.complete 0x54 refl) _ _ _
      (then_read _ _ _ (version_meets.complete headed.0 tt) _ _ _
      (ends_read _ _ _ ((setup_meets headed.0).complete headed.1 fits) (λ setup. (headed.0, setup))));
}
