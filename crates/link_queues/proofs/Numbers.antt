-- What may be taken of a host's messages changes by messages of this host alone.
use Rattle.std.proofs.Common.{◌≡◌, ◌⊎◌, Bool, true, false, ℕ, zero, suc, ◌+◌, ◌/◌, ◌<◌, ◌≤◌, List, [], ◌∷◌, ◌++◌, Option, Some, None, get_or, length, inl, inr, refl, ap, sym, ◌∙◌, subst, arith}
use Rattle.std.specs.Prelude.{flat_map, option_map, slice_get, slice_set, ◌==◌}
use Rattle.std.proofs.lemmas.Bool.{eq-eqb, eqb-true, false≢true}
use Rattle.std.proofs.lemmas.List.{length-append}
use Rattle.std.proofs.lemmas.Option.{none-some, same_Some, slice_get_read}
use Rattle.cxl_message.specs.declared.channels.Channel.{Channel}
use Rattle.coherence_model.specs.Next.{channels}
use Rattle.link_queues.specs.Counted.{IsCounted}
use Rattle.link_queues.specs.Links.{LinkRecord, changed_on, messages_in, queue_place, set_if, takeable_on, waiting_on}
use Rattle.link_queues.specs.Queues.{QueueRecord, takeable_in}
use Rattle.link_queues.proofs.Flights.{host_there}

-- ---- lists with a place set

set_length : {X : Type 0} (xs : List X) (k : ℕ) (x : X) → length (slice_set xs k x) ≡ length xs
set_length [] k x = refl
set_length (y ∷ xs) zero x = refl
set_length (y ∷ xs) (suc k) x = ap suc (set_length xs k x)

get_other : {X : Type 0} (xs : List X) (k j : ℕ) (x : X) → (j ≡ k → ⊥) → slice_get (slice_set xs k x) j ≡ slice_get xs j
get_other [] k j x other = refl
get_other (y ∷ xs) zero zero x other = absurd (other refl)
get_other (y ∷ xs) zero (suc j) x other = refl
get_other (y ∷ xs) (suc k) zero x other = refl
get_other (y ∷ xs) (suc k) (suc j) x other = get_other xs k j x (λ same. other (ap suc same))

get_same : {X : Type 0} (xs : List X) (k : ℕ) (x y : X) → slice_get (slice_set xs k x) k ≡ Some y → x ≡ y
get_same [] k x y there = cc
get_same (z ∷ xs) zero x y there = same_Some x y there
get_same (z ∷ xs) (suc k) x y there = get_same xs k x y there

-- ---- other hosts

-- a queue at another place is as it was
place_stays : (queues : List QueueRecord) (k j : ℕ) (o : Option QueueRecord) → (j ≡ k → ⊥) → slice_get (set_if k o queues) j ≡ slice_get queues j
place_stays queues k j None other = refl
place_stays queues k j (Some q) other = get_other queues k j q other

-- two hosts have no place together
places_differ : (h g : ℕ) (c d : Channel) → (g ≡ h → ⊥) → queue_place g d ≡ queue_place h c → ⊥
places_differ h g c d other same = other (sym (host_there g d) ∙ ap (λ k. k / 8) same ∙ host_there h c)

-- so what waits for another host waits still
waiting_stays : (links : LinkRecord) (h g : ℕ) (c : Channel) (change : QueueRecord → QueueRecord) → (g ≡ h → ⊥) → (d : Channel)
    → waiting_on (changed_on h c change links) g d ≡ waiting_on links g d
waiting_stays links h g c change other d =
    ap messages_in (place_stays links.queues (queue_place h c) (queue_place g d) (option_map change (slice_get links.queues (queue_place h c))) (places_differ h g c d other))

takeable_stays : (links : LinkRecord) (h g : ℕ) (c : Channel) (change : QueueRecord → QueueRecord) → (g ≡ h → ⊥) → takeable_on (changed_on h c change links) g ≡ takeable_on links g
takeable_stays links h g c change other = λ i. flat_map (λ d. takeable_in (waiting_stays links h g c change other d i)) channels

-- a host's messages changed and are counted again
pub counted_again : (links new : LinkRecord) (takeable : List ℕ) (h : ℕ) (c : Channel) (change : QueueRecord → QueueRecord) (n : ℕ) → IsCounted links takeable → new ≡ changed_on h c change links
    → n ≡ length (takeable_on new h) → n ≤ 1536 → IsCounted new (slice_set takeable h n)
counted_again links new takeable h c change n counted is again most = record {
  hosts = set_length takeable h n ∙ counted.hosts ∙ ap (λ (l : LinkRecord). l.hosts) (sym is);
  counts = counts;
  most = bounds;
}
  where
    which : (g m : ℕ) → slice_get (slice_set takeable h n) g ≡ Some m → ((g ≡ h) × (n ≡ m)) ⊎ ((g ≡ h → ⊥) × (slice_get takeable g ≡ Some m))
    which g m there = by_same (g == h) refl
      where
        by_same : (same : Bool) → (g == h) ≡ same → ((g ≡ h) × (n ≡ m)) ⊎ ((g ≡ h → ⊥) × (slice_get takeable g ≡ Some m))
        by_same true at =
            let equal = eqb-true g h at in
            inl (equal, get_same takeable h n m (ap (slice_get (slice_set takeable h n)) (sym equal) ∙ there))
        by_same false at =
            let differ : g ≡ h → ⊥ = λ equal. false≢true (sym at ∙ eq-eqb g h equal) in
            inr (differ, sym (get_other takeable h g n differ) ∙ there)

    counts : (g m : ℕ) → slice_get (slice_set takeable h n) g ≡ Some m → m ≡ length (takeable_on new g)
    counts g m there = by (which g m there)
      where
        by : ((g ≡ h) × (n ≡ m)) ⊎ ((g ≡ h → ⊥) × (slice_get takeable g ≡ Some m)) → m ≡ length (takeable_on new g)
        by (inl here) = sym here.1 ∙ again ∙ ap (λ k. length (takeable_on new k)) (sym here.0)
        by (inr else) =
            counted.counts g m else.1 ∙ ap length (sym (takeable_stays links h g c change else.0)) ∙ ap (λ (l : LinkRecord). length (takeable_on l g)) (sym is)

    bounds : (g m : ℕ) → slice_get (slice_set takeable h n) g ≡ Some m → m ≤ 1536
    bounds g m there = by (which g m there)
      where
        by : ((g ≡ h) × (n ≡ m)) ⊎ ((g ≡ h → ⊥) × (slice_get takeable g ≡ Some m)) → m ≤ 1536
        by (inl here) = subst (λ k. k ≤ 1536) here.1 most
        by (inr else) = counted.most g m else.1

-- ---- counting for the first time

-- the numbers of the hosts so far
pub record IsCountedTo (links : LinkRecord) (takeable : List ℕ) (n : ℕ) : Type 0 where
  pub length_is : length takeable ≡ n
  pub counts : (h m : ℕ) → slice_get takeable h ≡ Some m → m ≡ length (takeable_on links h)
  pub most : (h m : ℕ) → slice_get takeable h ≡ Some m → m ≤ 1536

pub none_counted : (links : LinkRecord) → IsCountedTo links [] 0
none_counted links = record { length_is = refl; counts = λ h m there. absurd (none-some m there); most = λ h m there. absurd (none-some m there) }

appended : (xs : List ℕ) (x y k : ℕ) → slice_get (xs ++ x ∷ []) k ≡ Some y → (slice_get xs k ≡ Some y) ⊎ ((k ≡ length xs) × (x ≡ y))
appended [] x y zero at = inr (refl, same_Some x y at)
appended [] x y (suc k) at = absurd cc
appended (z ∷ xs) x y zero at = inl at
appended (z ∷ xs) x y (suc k) at = later (appended xs x y k at)
  where
    later : (slice_get xs k ≡ Some y) ⊎ ((k ≡ length xs) × (x ≡ y)) → (slice_get xs k ≡ Some y) ⊎ ((suc k ≡ suc (length xs)) × (x ≡ y))
    later (inl there) = inl there
    later (inr last) = inr (ap suc last.0, last.1)

-- one host more
pub one_more_counted : (links : LinkRecord) (takeable : List ℕ) (h n : ℕ) → IsCountedTo links takeable h → n ≡ length (takeable_on links h) → n ≤ 1536 → IsCountedTo links (takeable ++ n ∷ []) (h + 1)
one_more_counted links takeable h n before here most = record {
  length_is = let a = before.length_is in length-append takeable (n ∷ []) ∙ ap (λ k. k + 1) a;
  counts = λ g m there. counts g m (appended takeable n m g there);
  most = λ g m there. bounds g m (appended takeable n m g there);
}
  where
    counts : (g m : ℕ) → (slice_get takeable g ≡ Some m) ⊎ ((g ≡ length takeable) × (n ≡ m)) → m ≡ length (takeable_on links g)
    counts g m (inl there) = before.counts g m there
    counts g m (inr last) = sym last.1 ∙ here ∙ ap (λ k. length (takeable_on links k)) (sym (last.0 ∙ before.length_is))

    bounds : (g m : ℕ) → (slice_get takeable g ≡ Some m) ⊎ ((g ≡ length takeable) × (n ≡ m)) → m ≤ 1536
    bounds g m (inl there) = before.most g m there
    bounds g m (inr last) = subst (λ k. k ≤ 1536) last.1 most

-- all hosts
pub all_counted : (links : LinkRecord) (takeable : List ℕ) (n : ℕ) → IsCountedTo links takeable n → n ≡ links.hosts → IsCounted links takeable
all_counted links takeable n to all = record { hosts = to.length_is ∙ all; counts = to.counts; most = to.most }

-- the number that is kept of a host
pub kept_number : (links now : LinkRecord) (takeable : List ℕ) (h n : ℕ) → links ≡ now → IsCounted links takeable → h < now.hosts → n ≡ get_or takeable h n
    → (n ≡ length (takeable_on now h)) × (n ≤ 1536)
kept_number links now takeable h n same counted low read =
    let hosts : links.hosts ≡ now.hosts = ap (λ (l : LinkRecord). l.hosts) same in
    let there = slice_get_read takeable (length takeable) h n refl (subst (λ k. h < k) (sym (counted.hosts ∙ hosts)) low) read in
    (counted.counts h n there ∙ ap (λ (l : LinkRecord). length (takeable_on l h)) same, counted.most h n there)
