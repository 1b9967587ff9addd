-- What holds of the copies and ways of a host after each list of events that its own half allows.
use Rattle.std.proofs.Common.{Bool, List, None, Option, Some, ap, arith, cond, false, length, refl, subst, sym, true, ℕ, ◌∙◌, ◌∷◌, ◌≡◌, ◌≤◌}
use Rattle.std.proofs.lemmas.Bool.{and_parts, eqb-true, false≢true, ne_eqb, not-true, or_left, or_right}
use Rattle.std.specs.Option.{option_map_or}
use Rattle.std.specs.Prelude.{is_some, nat_le, not, ◌&&◌, ◌==◌, ◌||◌}
use Rattle.cxl_message.specs.declared.events.Event.{Event}
use Rattle.cxl_message.specs.declared.events.Op.{Op}
use Rattle.cxl_message.specs.declared.identifiers.Bytes64.{Bytes64}
use Rattle.cxl_message.specs.declared.states.CopyState.{CopyState}
use Rattle.cxl_message.specs.Codes.{copy_code}
use Rattle.cxl_message.specs.Events.{is_load, line_of}
use Rattle.cxl_message.specs.Lists.{is_in, without}
use Rattle.cxl_message.specs.Setup.{Configuration}
use Rattle.coherence_model.specs.Cache.{Cache, copy, has_copy, is_valid, is_writable, needs_victim, victim_way, ways, with_way}
use Rattle.coherence_model.specs.Copies.{Copy, modified, no_copy}
use Rattle.coherence_model.specs.HostOperations.{eviction_message, hits}
use Rattle.coherence_model.specs.Snoops.{is_quiet}
use Rattle.coherence_model.specs.Transactions.{Transaction, has_request, is_request, open_at, opened}
use Rattle.request_laws.proofs.HostOperations.{eviction_kind, kind_of}
use Rattle.request_laws.proofs.Options.{find_is_in}
use Rattle.host_laws.proofs.CacheSteps.{cache_requested, copy_evicting, copy_hit, none_dropped, victim_dropped, ways_evicting}
use Rattle.host_laws.proofs.Events.{evicting_event, hit_event, request_event}
use Rattle.host_laws.proofs.Opens.{evicted, request_open, two_open_at}
use Rattle.host_laws.proofs.WayFacts.{few_with_way, fewer_without, flip, in_with_way, in_without, or_false, room_for}

-- the ways are the lines with a copy or an open request; a copy I has no bytes; there are few enough
pub record CacheKeeps (setup : Configuration) (mine : List Event) : Type 0 where
  pub ways_are : (a : ℕ) → is_in a (ways setup mine) ≡ (has_copy setup a mine || has_request a mine)
  pub no_bytes : (a : ℕ) → has_copy setup a mine ≡ false → copy setup a mine ≡ no_copy
  pub few : length (ways setup mine) ≤ setup.ways

-- what an event does to copies, ways and open requests
pub record Makes (setup : Configuration) (e : Event) (mine : List Event) (f : ℕ → Copy) (held : List ℕ) (r : ℕ → Bool) : Type 0 where
  pub copies : (a : ℕ) → copy setup a (e ∷ mine) ≡ f a
  pub lines : ways setup (e ∷ mine) ≡ held
  pub requests : (a : ℕ) → has_request a (e ∷ mine) ≡ r a

pub made : (setup : Configuration) (e : Event) (mine : List Event) (f : ℕ → Copy) (held : List ℕ) (r : ℕ → Bool) → Makes setup e mine f held r
    → ((a : ℕ) → is_in a held ≡ (is_valid (f a) || r a)) → ((a : ℕ) → is_valid (f a) ≡ false → f a ≡ no_copy) → length held ≤ setup.ways → CacheKeeps setup (e ∷ mine)
made setup e mine f held r makes are bare few = record {
  ways_are = λ a. ap (is_in a) makes.lines ∙ are a ∙ ap (λ c. is_valid c || r a) (sym (makes.copies a)) ∙ ap (λ b. has_copy setup a (e ∷ mine) || b) (sym (makes.requests a));
  no_bytes = λ a none. makes.copies a ∙ bare a (ap is_valid (sym (makes.copies a)) ∙ none);
  few = subst (λ ws. length ws ≤ setup.ways) (sym makes.lines) few;
}

-- a copy that is either one that is there or an old one
pub either_bare : (b : Bool) (c old : Copy) → (is_valid c ≡ false → c ≡ no_copy) → (is_valid old ≡ false → old ≡ no_copy) → is_valid (cond b c old) ≡ false → cond b c old ≡ no_copy
either_bare true c old bare bare' = bare
either_bare false c old bare bare' = bare'

pub never_bare : (c : Copy) → is_valid c ≡ true → is_valid c ≡ false → c ≡ no_copy
never_bare c valid none = absurd (false≢true (sym none ∙ valid))

-- whether a request is open, by what is
abbrev pub asks : Option Transaction → Bool
asks x = option_map_or (λ o. is_request o.kind) x false

requests_here : (b : Bool) (x : Transaction) (y : Option Transaction) → asks (cond b (Some x) y) ≡ cond b (is_request x.kind) (asks y)
requests_here true x y = refl
requests_here false x y = refl

kinds_request : (op : Op) → is_request (kind_of op) ≡ true
kinds_request (Op.Load line) = refl
kinds_request (Op.Word line place value) = refl
kinds_request (Op.Whole line bytes) = refl

kinds_evict : (modified : Bool) → is_request (eviction_kind modified) ≡ false
kinds_evict true = refl
kinds_evict false = refl

pub quiet_parts : (a : ℕ) (mine : List Event) → is_quiet a mine ≡ true → open_at a mine ≡ None
quiet_parts a mine quiet = closed (open_at a mine) (not-true _ (and_parts _ _ quiet).0)
  where
    closed : (x : Option Transaction) → is_some x ≡ false → x ≡ None
    closed None h = refl
    closed (Some o) h = absurd (false≢true (sym h))

-- an operation that hits

writable_is_valid : (s : CopyState) → nat_le 2 (copy_code s) ≡ true → nat_le 1 (copy_code s) ≡ true
writable_is_valid CopyState.I h = absurd (false≢true h)
writable_is_valid CopyState.S h = refl
writable_is_valid CopyState.E h = refl
writable_is_valid CopyState.M h = refl

hit_is_valid : (setup : Configuration) (op : Op) (mine : List Event) → hits setup op mine ≡ true → has_copy setup (line_of op) mine ≡ true
hit_is_valid setup (Op.Load line) mine hit = hit
hit_is_valid setup (Op.Word line place value) mine hit = writable_is_valid (copy setup line.0 mine).state hit
hit_is_valid setup (Op.Whole line bytes) mine hit = writable_is_valid (copy setup line.0 mine).state hit

-- the copy that a hit leaves
abbrev pub hit_copy : Op → Bytes64 → Copy → Copy
hit_copy op value old = cond (is_load op) old (modified value)

hit_copy_valid : (op : Op) (value : Bytes64) (old : Copy) → is_valid old ≡ true → is_valid (hit_copy op value old) ≡ true
hit_copy_valid (Op.Load line) value old valid = valid
hit_copy_valid (Op.Word line place new) value old valid = refl
hit_copy_valid (Op.Whole line new) value old valid = refl

-- a copy at one line that is there before and after
pub put_are : (f : ℕ → Copy) (l a : ℕ) (c : Copy) (here : Bool) → (l == a) ≡ here → is_valid (f l) ≡ true → is_valid c ≡ true → (w r : Bool) → w ≡ (is_valid (f a) || r) → w ≡ (is_valid (cond here c (f a)) || r)
put_are f l a c true is old new w r was = was ∙ or_left (is_valid (f a)) r (subst (λ k. is_valid (f k) ≡ true) (eqb-true l a is) old) ∙ sym (or_left (is_valid c) r new)
put_are f l a c false is old new w r was = was

pub hit_keeps : (setup : Configuration) (h s i : ℕ) (op : Op) (value : Bytes64) (mine : List Event) → CacheKeeps setup mine → hits setup op mine ≡ true → CacheKeeps setup (hit_event h s i op value ∷ mine)
hit_keeps setup h s i op value mine k hit =
    let valid = hit_is_valid setup op mine hit in
    made setup (hit_event h s i op value) mine (λ a. cond (line_of op == a) (hit_copy op value (copy setup (line_of op) mine)) (copy setup a mine)) (ways setup mine) (λ a. has_request a mine)
    (record { copies = λ a. copy_hit h s i op value setup mine a ∙ same_line setup op value mine a (line_of op == a) refl; lines = refl; requests = λ a. refl })
    (λ a. put_are (λ b. copy setup b mine) (line_of op) a (hit_copy op value (copy setup (line_of op) mine)) (line_of op == a) refl valid (hit_copy_valid op value (copy setup (line_of op) mine) valid) _ (has_request a mine) (k.ways_are a))
    (λ a. either_bare (line_of op == a) (hit_copy op value (copy setup (line_of op) mine)) (copy setup a mine) (never_bare _ (hit_copy_valid op value (copy setup (line_of op) mine) valid)) (k.no_bytes a))
    k.few
  where
    same_line : (setup : Configuration) (op : Op) (value : Bytes64) (mine : List Event) (a : ℕ) (b : Bool) → (line_of op == a) ≡ b
        → cond b (cond (is_load op) (copy setup a mine) (modified value)) (copy setup a mine) ≡ cond b (hit_copy op value (copy setup (line_of op) mine)) (copy setup a mine)
    same_line setup op value mine a true is = ap (λ l. hit_copy op value (copy setup l mine)) (sym (eqb-true (line_of op) a is))
    same_line setup op value mine a false is = refl

-- a request

brought_are : (l a : ℕ) (w v r : Bool) (here : Bool) → (l == a) ≡ here → w ≡ (v || r) → (w || (a == l)) ≡ (v || cond here true r)
brought_are l a w v r true is was = or_right w (a == l) (flip l a true is) ∙ sym (or_right v true refl)
brought_are l a w v r false is was = ap (λ b. w || b) (flip l a false is) ∙ sym (or_false w) ∙ was

dropped_are : (f : ℕ → Copy) (g : ℕ → Bool) (v a : ℕ) (w : Bool) (gone : Bool) → (v == a) ≡ gone → g v ≡ false → w ≡ (is_valid (f a) || g a) → (not gone && w) ≡ (is_valid (cond gone no_copy (f a)) || g a)
dropped_are f g v a w true is none was = sym (ap g (sym (eqb-true v a is)) ∙ none)
dropped_are f g v a w false is none was = was

-- the requests that are open after an operation
abbrev pub requests_with : Op → List Event → ℕ → Bool
requests_with op mine a = cond (line_of op == a) true (has_request a mine)

request_asks : (h s i : ℕ) (op : Op) (tag : ℕ) (mine : List Event) (a : ℕ) → has_request a (request_event h s i op tag ∷ mine) ≡ requests_with op mine a
request_asks h s i op tag mine a =
    ap asks (request_open h s i op tag mine a) ∙ requests_here (line_of op == a) (opened s i op (kind_of op) tag) (open_at a mine)
    ∙ ap (λ b. cond (line_of op == a) b (has_request a mine)) (kinds_request op)

pub request_keeps : (setup : Configuration) (h s i : ℕ) (op : Op) (tag : ℕ) (mine : List Event) → CacheKeeps setup mine → needs_victim setup (line_of op) mine ≡ false → CacheKeeps setup (request_event h s i op tag ∷ mine)
request_keeps setup h s i op tag mine k enough =
    let is = cache_requested setup h s i op tag mine None (none_dropped setup (line_of op) mine enough) in
    made setup (request_event h s i op tag) mine (λ a. copy setup a mine) (with_way (Some (line_of op)) (ways setup mine)) (requests_with op mine)
    (record { copies = λ a. ap (λ (c : Cache). c.copies a) is; lines = ap (λ (c : Cache). c.ways) is; requests = request_asks h s i op tag mine })
    (λ a. in_with_way a (line_of op) (ways setup mine) ∙ brought_are (line_of op) a (is_in a (ways setup mine)) (has_copy setup a mine) (has_request a mine) (line_of op == a) refl (k.ways_are a))
    k.no_bytes
    (few_with_way setup.ways (line_of op) (ways setup mine) (room_for setup (line_of op) (ways setup mine) enough) k.few)

-- a request that takes a victim's way

pub record IsVictim (setup : Configuration) (l v : ℕ) (mine : List Event) : Type 0 where
  pub there : is_in v (ways setup mine) ≡ true
  pub closed : open_at v mine ≡ None
  pub out : is_in l (ways setup mine) ≡ false
  pub other : v ≡ l → ⊥

pub is_victim : (setup : Configuration) (l v : ℕ) (mine : List Event) → needs_victim setup l mine ≡ true → victim_way setup mine ≡ Some v → IsVictim setup l v mine
is_victim setup l v mine needs victim =
    let found = find_is_in (λ a. is_quiet a mine) (ways setup mine) v victim in
    let out = not-true _ (and_parts _ _ needs).0 in
    record { there = found.0; closed = quiet_parts v mine found.1; out = out; other = λ same. false≢true (sym out ∙ ap (λ x. is_in x (ways setup mine)) (sym same) ∙ found.0) }

-- the copies without the victim's
abbrev pub without_victim : ℕ → (ℕ → Copy) → ℕ → Copy
without_victim v f a = cond (v == a) no_copy (f a)

flipped : (f : ℕ → Copy) (v a : ℕ) (b : Bool) → (v == a) ≡ b → cond (a == v) no_copy (f a) ≡ cond b no_copy (f a)
flipped f v a b is = ap (λ x. cond x no_copy (f a)) (flip v a b is)

taken_are : (setup : Configuration) (l v : ℕ) (mine : List Event) → CacheKeeps setup mine → IsVictim setup l v mine → (a : ℕ)
    → is_in a (with_way (Some l) (without v (ways setup mine))) ≡ (is_valid (without_victim v (λ b. copy setup b mine) a) || cond (l == a) true (has_request a mine))
taken_are setup l v mine k victim a =
    in_with_way a l (without v (ways setup mine))
    ∙ ap (λ b. b || (a == l)) (in_without v a (ways setup mine))
    ∙ brought_are l a (not (v == a) && is_in a (ways setup mine)) (is_valid (without_victim v (λ b. copy setup b mine) a)) (has_request a mine) (l == a) refl
    (dropped_are (λ b. copy setup b mine) (λ b. has_request b mine) v a (is_in a (ways setup mine)) (v == a) refl (ap asks victim.closed) (k.ways_are a))

taken_few : (setup : Configuration) (l v : ℕ) (mine : List Event) → CacheKeeps setup mine → IsVictim setup l v mine → length (with_way (Some l) (without v (ways setup mine))) ≤ setup.ways
taken_few setup l v mine k victim =
    let fewer = fewer_without v (ways setup mine) victim.there in
    let few = k.few in
    few_with_way setup.ways l (without v (ways setup mine)) (λ out. omega arith) (omega arith)

pub drop_keeps : (setup : Configuration) (h s i : ℕ) (op : Op) (tag v : ℕ) (mine : List Event) → CacheKeeps setup mine → needs_victim setup (line_of op) mine ≡ true → victim_way setup mine ≡ Some v
    → CacheKeeps setup (request_event h s i op tag ∷ mine)
drop_keeps setup h s i op tag v mine k needs victim =
    let is = cache_requested setup h s i op tag mine (Some v) (victim_dropped setup (line_of op) v mine needs victim) in
    let who = is_victim setup (line_of op) v mine needs victim in
    made setup (request_event h s i op tag) mine (without_victim v (λ b. copy setup b mine)) (with_way (Some (line_of op)) (without v (ways setup mine))) (requests_with op mine)
    (record { copies = λ a. ap (λ (c : Cache). c.copies a) is ∙ flipped (λ b. copy setup b mine) v a (v == a) refl; lines = ap (λ (c : Cache). c.ways) is; requests = request_asks h s i op tag mine })
    (taken_are setup (line_of op) v mine k who)
    (λ a. either_bare (v == a) no_copy (copy setup a mine) (λ x. refl) (k.no_bytes a))
    (taken_few setup (line_of op) v mine k who)

evict_requests : (op : Op) (v a : ℕ) (mine : List Event) (modified gone : Bool) → (v == a) ≡ gone → open_at v mine ≡ None → (v ≡ line_of op → ⊥)
    → cond gone (is_request (eviction_kind modified)) (cond (line_of op == a) (is_request (kind_of op)) (has_request a mine)) ≡ requests_with op mine a
evict_requests op v a mine modified true is closed other =
    let same = eqb-true v a is in
    kinds_evict modified ∙ sym (ap asks closed) ∙ ap (λ x. has_request x mine) same ∙ sym (ap (λ b. cond b true (has_request a mine)) (ne_eqb (line_of op) a (λ e. other (same ∙ sym e))))
evict_requests op v a mine modified false is closed other = ap (λ b. cond (line_of op == a) b (has_request a mine)) (kinds_request op)

evicting_asks : (setup : Configuration) (h s i : ℕ) (op : Op) (v t u : ℕ) (mine : List Event) (a : ℕ) → open_at v mine ≡ None → (v ≡ line_of op → ⊥)
    → has_request a (evicting_event h s i op (eviction_message setup v mine t) u ∷ mine) ≡ requests_with op mine a
evicting_asks setup h s i op v t u mine a closed other =
    let m = Rattle.coherence_model.specs.Cache.is_modified setup v mine in
    ap asks (two_open_at setup h s i op v t u mine a)
    ∙ requests_here (v == a) (evicted s i op m t) (cond (line_of op == a) (Some (opened s i op (kind_of op) u)) (open_at a mine))
    ∙ ap (cond (v == a) (is_request (eviction_kind m))) (requests_here (line_of op == a) (opened s i op (kind_of op) u) (open_at a mine))
    ∙ evict_requests op v a mine m (v == a) refl closed other

pub evict_keeps : (setup : Configuration) (h s i : ℕ) (op : Op) (v t u : ℕ) (mine : List Event) → CacheKeeps setup mine → needs_victim setup (line_of op) mine ≡ true → victim_way setup mine ≡ Some v
    → CacheKeeps setup (evicting_event h s i op (eviction_message setup v mine t) u ∷ mine)
evict_keeps setup h s i op v t u mine k needs victim =
    let who = is_victim setup (line_of op) v mine needs victim in
    made setup (evicting_event h s i op (eviction_message setup v mine t) u) mine (without_victim v (λ b. copy setup b mine)) (with_way (Some (line_of op)) (without v (ways setup mine))) (requests_with op mine)
    (record { copies = copy_evicting setup h s i op v t u mine; lines = ways_evicting setup h s i op v t u mine; requests = λ a. evicting_asks setup h s i op v t u mine a who.closed who.other })
    (taken_are setup (line_of op) v mine k who)
    (λ a. either_bare (v == a) no_copy (copy setup a mine) (λ x. refl) (k.no_bytes a))
    (taken_few setup (line_of op) v mine k who)
