-- What the rows read of a kept record is what they read of the events: after each list that the host's own half allows.
use Rattle.coherence_model.specs.OwnerFacts.{is_writing}
use Rattle.host_record.specs.Ways.{copy_in}
use Rattle.std.proofs.Common.{Bool, List, None, Option, Some, [], ap, arith, cond, false, find, inl, inr, length, map, refl, sym, true, ℕ, ◌∙◌, ◌∷◌, ◌≡◌, ◌≤◌}
use Rattle.std.proofs.lemmas.Bool.{cases_lt, false≢true, false_from_ne_true}
use Rattle.std.specs.List.{list_any}
use Rattle.std.specs.Option.{option_flatten}
use Rattle.std.specs.Prelude.{is_some, not, option_and_then, option_map, unwrap_or, ◌&&◌, ◌||◌}
use Rattle.cxl_message.specs.declared.events.Event.{Event}
use Rattle.cxl_message.specs.Lists.{below, is_in}
use Rattle.cxl_message.specs.Setup.{Configuration}
use Rattle.coherence_model.specs.Cache.{copy, has_copy, ways}
use Rattle.coherence_model.specs.Copies.{no_copy}
use Rattle.coherence_model.specs.Snoops.{is_quiet, is_snooped}
use Rattle.coherence_model.specs.Stages.{Stage, stage}
use Rattle.coherence_model.specs.Streams.{begun_count, stream_waits}
use Rattle.coherence_model.specs.Tags.{is_conflict_open, open_with, tagged_line}
use Rattle.coherence_model.specs.Transactions.{Transaction, has_request, open_at}
use Rattle.coherence_model.specs.WriteBacks.{is_write_back_open}
use Rattle.request_laws.proofs.Below.{any_below, both_same, passing_below}
use Rattle.request_laws.proofs.Conflicts.{ConflictsAre}
use Rattle.request_laws.proofs.OpenLines.{LeadBack, tagged_found}
use Rattle.request_laws.proofs.WriteBacks.{WritesAre}
use Rattle.host_laws.proofs.CacheKept.{CacheKeeps}
use Rattle.host_laws.proofs.Keeps.{Keeps}
use Rattle.host_laws.proofs.Opens.{found_line}
use Rattle.host_laws.proofs.Ranges.{Ranges, unsnooped_far}
use Rattle.host_laws.proofs.TableLemmas.{get_table, none_past}
use Rattle.host_laws.proofs.WayLists.{copy_kept, lines_kept}
use Rattle.host_record.specs.HostRecord.{StreamPlace, open_in, stream_in, view_in}
use Rattle.host_record.specs.Stands.{kept_host}
use Rattle.host_record.specs.Tables.{lookup, place_or}
use Rattle.host_record.specs.View.{view_of}

-- a table of options, read at a place
pub lookup_table : {X : Type 0} (f : ℕ → Option X) (n k : ℕ) → (n ≤ k → f k ≡ None) → lookup (map f (below n)) k ≡ f k
lookup_table f n k far = elim (cases_lt k n) [
  | inl low ↦ ap option_flatten (get_table f n k low)
  | inr high ↦ ap option_flatten (none_past f n k high) ∙ sym (far high)
]

pub place_table : {X : Type 0} (x : X) (f : ℕ → X) (n k : ℕ) → (n ≤ k → f k ≡ x) → place_or x (map f (below n)) k ≡ f k
place_table x f n k far = elim (cases_lt k n) [
  | inl low ↦ ap (λ o. unwrap_or o x) (get_table f n k low)
  | inr high ↦ ap (λ o. unwrap_or o x) (none_past f n k high) ∙ sym (far high)
]

-- copies

copy_by : (setup : Configuration) (mine : List Event) (a : ℕ) (b : Bool) → CacheKeeps setup mine → is_in a (ways setup mine) ≡ b → cond b (copy setup a mine) no_copy ≡ copy setup a mine
copy_by setup mine a true k is = refl
copy_by setup mine a false k is = sym (k.no_bytes a (none (has_copy setup a mine) (has_request a mine) (sym (k.ways_are a) ∙ is)))
  where
    none : (v r : Bool) → (v || r) ≡ false → v ≡ false
    none true r h = h
    none false r h = refl

pub copy_is : (setup : Configuration) (h : ℕ) (mine : List Event) → CacheKeeps setup mine → (a : ℕ) → copy_in (kept_host setup h mine).ways a ≡ copy setup a mine
copy_is setup h mine k a = copy_kept (λ b. copy setup b mine) a (ways setup mine) ∙ copy_by setup mine a (is_in a (ways setup mine)) k refl

-- what is open

no_high_tag : (setup : Configuration) (mine : List Event) (t : ℕ) → LeadBack setup (λ a. open_at a mine) (λ u. tagged_line u mine) → setup.tags ≤ t → (x : Option Transaction) → open_with t mine ≡ x → x ≡ None
no_high_tag setup mine t back far None is = refl
no_high_tag setup mine t back far (Some o) is =
    let found = found_line mine t o is in
    let low = (back found.a o found.there).tag in
    let same = found.tag in
    absurd (omega arith)

pub none_with_high : (setup : Configuration) (mine : List Event) (t : ℕ) → LeadBack setup (λ a. open_at a mine) (λ u. tagged_line u mine) → setup.tags ≤ t → open_with t mine ≡ None
none_with_high setup mine t back far = no_high_tag setup mine t back far (open_with t mine) refl

no_high_line : (setup : Configuration) (mine : List Event) (a : ℕ) → LeadBack setup (λ b. open_at b mine) (λ u. tagged_line u mine) → setup.lines ≤ a → (x : Option Transaction) → open_at a mine ≡ x → x ≡ None
no_high_line setup mine a back far None is = refl
no_high_line setup mine a back far (Some o) is = let low = (back a o is).line in absurd (omega arith)

pub none_at_high : (setup : Configuration) (mine : List Event) (a : ℕ) → LeadBack setup (λ b. open_at b mine) (λ u. tagged_line u mine) → setup.lines ≤ a → open_at a mine ≡ None
none_at_high setup mine a back far = no_high_line setup mine a back far (open_at a mine) refl

pub with_is : (setup : Configuration) (h : ℕ) (mine : List Event) → LeadBack setup (λ a. open_at a mine) (λ u. tagged_line u mine) → (t : ℕ) → lookup (kept_host setup h mine).opened t ≡ open_with t mine
with_is setup h mine back t = lookup_table (λ u. open_with u mine) setup.tags t (none_with_high setup mine t back)

pub line_tag_is : (setup : Configuration) (h : ℕ) (mine : List Event) → LeadBack setup (λ a. open_at a mine) (λ u. tagged_line u mine) → (a : ℕ) → lookup (kept_host setup h mine).line_tags a ≡ option_map (λ o. o.tag) (open_at a mine)
line_tag_is setup h mine back a = lookup_table (λ b. option_map (λ (o : Transaction). o.tag) (open_at b mine)) setup.lines a (λ far. ap (option_map (λ (o : Transaction). o.tag)) (none_at_high setup mine a back far))

at_by : (setup : Configuration) (mine : List Event) → LeadBack setup (λ a. open_at a mine) (λ u. tagged_line u mine) → (a : ℕ) (x : Option Transaction) → open_at a mine ≡ x
    → option_and_then (λ t. open_with t mine) (option_map (λ (o : Transaction). o.tag) x) ≡ x
at_by setup mine back a None is = refl
at_by setup mine back a (Some o) is = tagged_found (λ b. open_at b mine) (λ u. tagged_line u mine) a o is (back a o is).back

pub open_is : (setup : Configuration) (h : ℕ) (mine : List Event) → LeadBack setup (λ a. open_at a mine) (λ u. tagged_line u mine) → (a : ℕ) → open_in (kept_host setup h mine) a ≡ open_at a mine
open_is setup h mine back a =
    ap (λ (f : ℕ → Option Transaction). option_and_then f (lookup (kept_host setup h mine).line_tags a)) (λ j t. with_is setup h mine back t j)
    ∙ ap (option_and_then (λ t. open_with t mine)) (line_tag_is setup h mine back a)
    ∙ at_by setup mine back a (open_at a mine) refl

-- conflicts, stages, busy lines

no_high_conflict : (setup : Configuration) (mine : List Event) (t : ℕ) → ConflictsAre setup mine → setup.tags ≤ t → is_conflict_open t mine ≡ true → ⊥
no_high_conflict setup mine t k far is =
    let found = k.found t is in
    let low = (k.asked found.0 t found.1).tag in
    omega arith

pub conflict_is : (setup : Configuration) (h : ℕ) (mine : List Event) → ConflictsAre setup mine → (t : ℕ) → place_or false (kept_host setup h mine).conflicts t ≡ is_conflict_open t mine
conflict_is setup h mine k t = place_table false (λ u. is_conflict_open u mine) setup.tags t (λ far. false_from_ne_true (is_conflict_open t mine) (no_high_conflict setup mine t k far))

pub stage_is : (setup : Configuration) (h : ℕ) (mine : List Event) → Ranges setup mine → (a : ℕ) → place_or Stage.New (kept_host setup h mine).stages a ≡ stage setup a mine
stage_is setup h mine k a = place_table Stage.New (λ b. stage setup b mine) setup.lines a (k.stages a)

not_not : (b : Bool) → not (not b) ≡ b
not_not true = refl
not_not false = refl

pub quiet_far : (setup : Configuration) (mine : List Event) → LeadBack setup (λ b. open_at b mine) (λ u. tagged_line u mine) → Ranges setup mine → (a : ℕ) → setup.lines ≤ a → is_quiet a mine ≡ true
quiet_far setup mine back k a far =
    ap (λ x. not (is_some x) && not (is_snooped a mine)) (none_at_high setup mine a back far) ∙ ap (λ b. not b) (unsnooped_far setup mine k a far)

pub quiet_is : (setup : Configuration) (h : ℕ) (mine : List Event) → LeadBack setup (λ b. open_at b mine) (λ u. tagged_line u mine) → Ranges setup mine → (a : ℕ) → not (place_or false (kept_host setup h mine).busy a) ≡ is_quiet a mine
quiet_is setup h mine back k a =
    ap not (place_table false (λ b. not (is_quiet b mine)) setup.lines a (λ far. ap not (quiet_far setup mine back k a far))) ∙ not_not (is_quiet a mine)

-- the write-back

find_step : (b : Bool) (x : ℕ) (found : Option ℕ) (any : Bool) → is_some found ≡ any → is_some (cond b (Some x) found) ≡ (b || any)
find_step true x found any is = refl
find_step false x found any is = is

find_some : (p : ℕ → Bool) (xs : List ℕ) → is_some (find p xs) ≡ list_any p xs
find_some p [] = refl
find_some p (x ∷ xs) = find_step (p x) x (find p xs) (list_any p xs) (find_some p xs)

writing_from : (st : Stage) → is_writing st ≡ true → st ≡ Stage.Writing
writing_from Stage.New h = absurd (false≢true h)
writing_from (Stage.Asked t) h = absurd (false≢true h)
writing_from Stage.Early h = absurd (false≢true h)
writing_from Stage.Late h = absurd (false≢true h)
writing_from Stage.Writing h = refl
writing_from Stage.Written h = absurd (false≢true h)

pub writing_is : (setup : Configuration) (h : ℕ) (mine : List Event) → WritesAre setup mine → is_some (kept_host setup h mine).writing ≡ is_write_back_open setup mine
writing_is setup h mine k =
    find_some (λ a. is_writing (stage setup a mine)) (below setup.lines)
    ∙ both_same (list_any (λ a. is_writing (stage setup a mine)) (below setup.lines)) (is_write_back_open setup mine)
    (λ is. let some = passing_below (λ a. is_writing (stage setup a mine)) setup.lines is in (k.written some.0 (writing_from (stage setup some.0 mine) some.2)).still)
    (λ is. let found = k.found is in any_below (λ a. is_writing (stage setup a mine)) setup.lines found.0 (k.written found.0 found.1).line (ap is_writing found.1))

-- streams

pub stream_is : (setup : Configuration) (h : ℕ) (mine : List Event) → Ranges setup mine → (s : ℕ) → stream_in (kept_host setup h mine).streams s ≡ record { begun = begun_count s mine; waits = stream_waits s mine }
stream_is setup h mine k s =
    place_table {X = StreamPlace} (record { begun = 0; waits = false }) (λ u. record { begun = begun_count u mine; waits = stream_waits u mine }) (length setup.streams) s
    (λ far. λ j. record { begun = k.begun s far j; waits = k.waits s far j })

-- all that the rows read
pub view_is : (setup : Configuration) (h : ℕ) (mine : List Event) → Keeps setup mine → Ranges setup mine → view_in (kept_host setup h mine) ≡ view_of setup h mine
view_is setup h mine k r =
    let v = view_of setup h mine in
    let copies = copy_is setup h mine k.cache in
    let lines = lines_kept (λ b. copy setup b mine) (ways setup mine) in
    let at = open_is setup h mine k.back in
    let with = with_is setup h mine k.back in
    let conflict = conflict_is setup h mine k.conflicts in
    let stages = stage_is setup h mine r in
    let quiet = quiet_is setup h mine k.back r in
    let writing = writing_is setup h mine k.writes in
    let streams = stream_is setup h mine r in
    λ j. record {
      copy = λ a. copies a j;
      ways = lines j;
      open_at = λ a. at a j;
      open_with = λ t. with t j;
      conflict = λ t. conflict t j;
      snoops = v.snoops;
      stage = λ a. stages a j;
      quiet = λ a. quiet a j;
      writing = writing j;
      begun = λ s. (streams s j).begun;
      waits = λ s. (streams s j).waits;
      req_left = v.req_left;
      rwd_left = v.rwd_left;
      bi_rsp_left = v.bi_rsp_left;
      ndr_owed = v.ndr_owed;
      drs_owed = v.drs_owed;
      bi_snp_owed = v.bi_snp_owed;
    }
