-- The tags that an operation takes: they exist, aren't in use, and are two where there are two messages.
use Rattle.std.proofs.Common.{◌≡◌, ℕ, zero, suc, ◌+◌, ◌<◌, ◌≤◌, Bool, true, false, List, ◌∷◌, Option, Some, None, cond, filter, refl, sym, subst, arith}
use Rattle.std.specs.Prelude.{is_some, not}
use Rattle.std.specs.List.{range_with_len}
use Rattle.std.proofs.lemmas.Bool.{not-true, or_parts}
use Rattle.cxl_message.specs.declared.events.Event.{Event}
use Rattle.cxl_message.specs.Setup.{Configuration}
use Rattle.coherence_model.specs.Tags.{free_tags, is_conflict_open, is_tag_used, open_with}

-- the first number that a filter keeps of the numbers from a on, and what is left
pub record FirstKept (p : ℕ → Bool) (a n t : ℕ) (ts : List ℕ) : Type 0 where
  pub least : a ≤ t
  pub most : t < a + n
  pub passes : p t ≡ true
  pub next : ℕ
  pub left : ℕ
  pub rest : ts ≡ filter p (range_with_len next left)
  pub later : t < next
  pub within : next + left ≡ a + n

kept_here : (p : ℕ → Bool) (a n t : ℕ) (ts : List ℕ) (b : Bool) → p a ≡ b
    → (filter p (range_with_len (a + 1) n) ≡ t ∷ ts → FirstKept p (a + 1) n t ts)
    → cond b (a ∷ filter p (range_with_len (a + 1) n)) (filter p (range_with_len (a + 1) n)) ≡ t ∷ ts → FirstKept p a (suc n) t ts
kept_here p a n t ts true is later h =
    let same : a ≡ t = cc in
    let rest : ts ≡ filter p (range_with_len (a + 1) n) = cc in
    record { least = omega arith; most = omega arith; passes = subst (λ x. p x ≡ true) same is; next = a + 1; left = n; rest = rest; later = omega arith; within = omega arith }
kept_here p a n t ts false is later h =
    let r = later h in
    let least = r.least in
    let most = r.most in
    let within = r.within in
    record { least = omega arith; most = omega arith; passes = r.passes; next = r.next; left = r.left; rest = r.rest; later = r.later; within = omega arith }

pub first_kept : (p : ℕ → Bool) (a n t : ℕ) (ts : List ℕ) → filter p (range_with_len a n) ≡ t ∷ ts → FirstKept p a n t ts
first_kept p a zero t ts h = cc
first_kept p a (suc n) t ts h = kept_here p a n t ts (p a) refl (first_kept p (a + 1) n t ts) h

-- a tag that may be taken
pub record IsFree (setup : Configuration) (mine : List Event) (t : ℕ) : Type 0 where
  pub exists : t < setup.tags
  pub closed : open_with t mine ≡ None
  pub quiet : is_conflict_open t mine ≡ false

pub nothing_there : {A : Type 0} (o : Option A) → is_some o ≡ false → o ≡ None
nothing_there None h = refl
nothing_there (Some x) h = cc

free_from : (setup : Configuration) (mine : List Event) (t : ℕ) → t < setup.tags → not (is_tag_used t mine) ≡ true → IsFree setup mine t
free_from setup mine t less unused =
    let parts = or_parts (is_some (open_with t mine)) (is_conflict_open t mine) (not-true _ unused) in
    record { exists = less; closed = nothing_there (open_with t mine) parts.0; quiet = parts.1 }

-- the lowest free tag may be taken
pub first_is_free : (setup : Configuration) (mine : List Event) (t : ℕ) (ts : List ℕ) → free_tags setup mine ≡ t ∷ ts → IsFree setup mine t
first_is_free setup mine t ts h =
    let k = first_kept (λ tag. not (is_tag_used tag mine)) 0 setup.tags t ts h in
    let most = k.most in
    free_from setup mine t (omega arith) k.passes

-- so may the next one, which is another
pub record TwoFree (setup : Configuration) (mine : List Event) (t u : ℕ) : Type 0 where
  pub first : IsFree setup mine t
  pub second : IsFree setup mine u
  pub distinct : t ≡ u → ⊥

pub two_are_free : (setup : Configuration) (mine : List Event) (t u : ℕ) (ts : List ℕ) → free_tags setup mine ≡ t ∷ u ∷ ts → TwoFree setup mine t u
two_are_free setup mine t u ts h =
    let k = first_kept (λ tag. not (is_tag_used tag mine)) 0 setup.tags t (u ∷ ts) h in
    let j = first_kept (λ tag. not (is_tag_used tag mine)) k.next k.left u ts (sym k.rest) in
    let later = k.later in
    let within = k.within in
    let most = j.most in
    let least = j.least in
    record { first = first_is_free setup mine t (u ∷ ts) h; second = free_from setup mine u (omega arith) j.passes; distinct = λ same. omega arith }
