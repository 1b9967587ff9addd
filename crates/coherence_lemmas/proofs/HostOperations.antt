-- What the rows H1 and H2 say where they emit something.
use Rattle.std.proofs.Common.{◌≡◌, ◌⊎◌, ℕ, Bool, true, false, List, [], ◌∷◌, Some, cond, refl, inl, inr}
use Rattle.std.specs.Prelude.{option_and_then}
use Rattle.cxl_message.specs.declared.events.Event.{Event}
use Rattle.cxl_message.specs.declared.events.Op.{Op}
use Rattle.cxl_message.specs.Events.{line_of}
use Rattle.cxl_message.specs.Setup.{Configuration}
use Rattle.coherence_model.specs.Cache.{copy, is_writable, needs_victim, victim_way}
use Rattle.coherence_model.specs.Emission.{Emission, one_commit, one_send, two_sends}
use Rattle.cxl_message.specs.Stores.{line_after}
use Rattle.coherence_model.specs.HostOperations.{eviction_message, h1_hit, h2_request, hits, host_operates, request_alone, request_emission, request_evicting, request_message, request_with_victim}
use Rattle.coherence_model.specs.Snoops.{is_quiet}
use Rattle.coherence_model.specs.Tags.{free_tags}
use Rattle.coherence_lemmas.proofs.Options.{and_then_some, if_some, when_some}

-- H1: the operation hits a quiet line, and commits
pub record Hit (setup : Configuration) (s i : ℕ) (op : Op) (mine : List Event) (w : Emission) : Type 0 where
  pub on_copy : hits setup op mine ≡ true
  pub quiet : is_quiet (line_of op) mine ≡ true
  pub emits : w ≡ one_commit s i op (line_after op (copy setup (line_of op) mine).bytes)

-- H2: a request alone, with the lowest free tag
pub record RequestAlone (h : ℕ) (op : Op) (tags : List ℕ) (w : Emission) : Type 0 where
  pub tag : ℕ
  pub rest : List ℕ
  pub free : tags ≡ tag ∷ rest
  pub emits : w ≡ one_send h (request_message op tag)

-- H2: an eviction and a request, with the two lowest free tags
pub record RequestEvicting (setup : Configuration) (h : ℕ) (op : Op) (v : ℕ) (mine : List Event) (tags : List ℕ) (w : Emission) : Type 0 where
  pub eviction_tag : ℕ
  pub tag : ℕ
  pub rest : List ℕ
  pub free : tags ≡ eviction_tag ∷ tag ∷ rest
  pub emits : w ≡ two_sends h (eviction_message setup v mine eviction_tag) (request_message op tag)

-- H2: no victim is needed
pub record WithoutVictim (setup : Configuration) (h : ℕ) (op : Op) (mine : List Event) (w : Emission) : Type 0 where
  pub needs : needs_victim setup (line_of op) mine ≡ false
  pub alone : RequestAlone h op (free_tags setup mine) w

-- H2: a shared victim is dropped
pub record WithSharedVictim (setup : Configuration) (h : ℕ) (op : Op) (mine : List Event) (w : Emission) : Type 0 where
  pub v : ℕ
  pub needs : needs_victim setup (line_of op) mine ≡ true
  pub victim : victim_way setup mine ≡ Some v
  pub shared : is_writable setup v mine ≡ false
  pub alone : RequestAlone h op (free_tags setup mine) w

-- H2: a writable victim is evicted
pub record WithWritableVictim (setup : Configuration) (h : ℕ) (op : Op) (mine : List Event) (w : Emission) : Type 0 where
  pub v : ℕ
  pub needs : needs_victim setup (line_of op) mine ≡ true
  pub victim : victim_way setup mine ≡ Some v
  pub writable : is_writable setup v mine ≡ true
  pub evicting : RequestEvicting setup h op v mine (free_tags setup mine) w

-- H2: the operation doesn't hit a quiet line, and sends its request in one of three ways
pub record Missed (setup : Configuration) (h : ℕ) (op : Op) (mine : List Event) (w : Emission) : Type 0 where
  pub no_copy : hits setup op mine ≡ false
  pub quiet : is_quiet (line_of op) mine ≡ true
  pub how : WithoutVictim setup h op mine w ⊎ (WithSharedVictim setup h op mine w ⊎ WithWritableVictim setup h op mine w)

pub request_alone-inv : (h : ℕ) (op : Op) (tags : List ℕ) (w : Emission) → request_alone h op tags ≡ Some w → RequestAlone h op tags w
request_alone-inv h op [] w e = cc
request_alone-inv h op (t ∷ ts) w e = record { tag = t; rest = ts; free = refl; emits = cc }

pub request_evicting-inv :
    (setup : Configuration) (h : ℕ) (op : Op) (v : ℕ) (mine : List Event) (tags : List ℕ) (w : Emission)
    → request_evicting setup h op v mine tags ≡ Some w → RequestEvicting setup h op v mine tags w
request_evicting-inv setup h op v mine [] w e = cc
request_evicting-inv setup h op v mine (t ∷ []) w e = cc
request_evicting-inv setup h op v mine (t ∷ u ∷ ts) w e = record { eviction_tag = t; tag = u; rest = ts; free = refl; emits = cc }

-- with a victim, by whether it is writable
with_victim :
    (setup : Configuration) (h : ℕ) (op : Op) (mine : List Event) (v : ℕ) (w : Emission) (writable : Bool) → is_writable setup v mine ≡ writable
    → needs_victim setup (line_of op) mine ≡ true → victim_way setup mine ≡ Some v
    → cond writable (request_evicting setup h op v mine (free_tags setup mine)) (request_alone h op (free_tags setup mine)) ≡ Some w
    → WithSharedVictim setup h op mine w ⊎ WithWritableVictim setup h op mine w
with_victim setup h op mine v w true is needs victim e =
    inr (record { v = v; needs = needs; victim = victim; writable = is; evicting = request_evicting-inv setup h op v mine (free_tags setup mine) w e })
with_victim setup h op mine v w false is needs victim e =
    inl (record { v = v; needs = needs; victim = victim; shared = is; alone = request_alone-inv h op (free_tags setup mine) w e })

request_by :
    (setup : Configuration) (h : ℕ) (op : Op) (mine : List Event) (w : Emission) (needs : Bool) → needs_victim setup (line_of op) mine ≡ needs
    → cond needs (option_and_then (request_with_victim setup h op mine) (victim_way setup mine)) (request_alone h op (free_tags setup mine)) ≡ Some w
    → WithoutVictim setup h op mine w ⊎ (WithSharedVictim setup h op mine w ⊎ WithWritableVictim setup h op mine w)
request_by setup h op mine w true is e =
    let chain = and_then_some (request_with_victim setup h op mine) (victim_way setup mine) w e in
    inr (with_victim setup h op mine chain.x w (is_writable setup chain.x mine) refl is chain.found chain.same)
request_by setup h op mine w false is e = inl (record { needs = is; alone = request_alone-inv h op (free_tags setup mine) w e })

pub h1_hit-inv :
    (setup : Configuration) (s i : ℕ) (op : Op) (mine : List Event) (w : Emission) → hits setup op mine ≡ true → h1_hit setup s i op mine ≡ Some w
    → Hit setup s i op mine w
h1_hit-inv setup s i op mine w hit e = let given = when_some (is_quiet (line_of op) mine) _ w e in record { on_copy = hit; quiet = given.holds; emits = given.same }

pub h2_request-inv :
    (setup : Configuration) (h : ℕ) (op : Op) (mine : List Event) (w : Emission) → hits setup op mine ≡ false → h2_request setup h op mine ≡ Some w
    → Missed setup h op mine w
h2_request-inv setup h op mine w miss e =
    let passed = if_some (is_quiet (line_of op) mine) (request_emission setup h op mine) w e in
    record { no_copy = miss; quiet = passed.holds; how = request_by setup h op mine w (needs_victim setup (line_of op) mine) refl passed.same }

operates :
    (setup : Configuration) (h s i : ℕ) (op : Op) (mine : List Event) (w : Emission) (hit : Bool) → hits setup op mine ≡ hit
    → cond hit (h1_hit setup s i op mine) (h2_request setup h op mine) ≡ Some w → Hit setup s i op mine w ⊎ Missed setup h op mine w
operates setup h s i op mine w true is e = inl (h1_hit-inv setup s i op mine w is e)
operates setup h s i op mine w false is e = inr (h2_request-inv setup h op mine w is e)

-- an operation that emits something hits by H1 or requests by H2
pub host_operates-inv :
    (setup : Configuration) (h s i : ℕ) (op : Op) (mine : List Event) (w : Emission)
    → host_operates setup h s i op mine ≡ Some w → Hit setup s i op mine w ⊎ Missed setup h op mine w
host_operates-inv setup h s i op mine w e = operates setup h s i op mine w (hits setup op mine) refl e
