-- The operations that a stream began are as many as its host counts.
use Rattle.std.proofs.Common.{◌≡◌, ℕ, ◌+◌, Bool, true, false, cond, List, [], ◌∷◌, length, Some, refl, ap, sym, ◌∙◌, arith}
use Rattle.std.specs.Prelude.{◌==◌}
use Rattle.std.proofs.lemmas.Bool.{and_parts, eq-eqb, eqb-true, false≢true}
use Rattle.std.proofs.lemmas.List.{length-append}
use Rattle.std.proofs.lemmas.Option.{same_Some}
use Rattle.cxl_message.specs.declared.events.Cause.{Cause}
use Rattle.cxl_message.specs.declared.events.Event.{Event}
use Rattle.cxl_message.specs.declared.events.Op.{Op}
use Rattle.cxl_message.specs.Setup.{Configuration, stream_host}
use Rattle.coherence_model.specs.Fitting.{cause_fits}
use Rattle.coherence_model.specs.Runs.{is_allowed, is_run}
use Rattle.coherence_model.specs.Streams.{begins_for, begun_count}
use Rattle.coherence_model.specs.Traces.{events_of}
use Rattle.coherence_lemmas.proofs.Allowed.{allowed_parts}
use Rattle.commit_laws.specs.Begun.{begun_by, operations_of}
use Rattle.commit_laws.specs.Laws.{BegunAreCounted}
use Rattle.commit_laws.specs.OwnLaws.{OwnAreCounted}
use Rattle.commit_laws.proofs.Streams.{fits_host}

-- ---- by own events

-- one operation of the stream, or none
one_case : (b : Bool) (op : Op) → length (cond b (op ∷ []) []) ≡ cond b 1 0
one_case true op = refl
one_case false op = refl

own_one : (s : ℕ) (cause : Cause) → length (begun_by s cause) ≡ cond (begins_for s cause) 1 0
own_one s (Cause.Op k i op) = one_case (k == s) op
own_one s (Cause.Take h m) = refl
own_one s (Cause.Act act) = refl

pub own_are_counted : OwnAreCounted
own_are_counted s [] = refl
own_are_counted s (e ∷ past) =
    let before = own_are_counted s past in
    let both = length-append (operations_of s past) (begun_by s e.cause) in
    let one = own_one s e.cause in
    omega (arith, before, both, one)

-- ---- in a run

-- an own operation counts once, and nothing else does
begun_case : (b own : Bool) (op : Op) → (b ≡ true → own ≡ true) → length (cond b (op ∷ []) []) ≡ cond own (cond b 1 0) 0
begun_case true true op sure = refl
begun_case true false op sure = absurd (false≢true (sure refl))
begun_case false true op sure = refl
begun_case false false op sure = refl

-- what begins nothing counts for none
none_begun : (n : ℕ) (own : Bool) → n ≡ 0 → n ≡ cond own 0 0
none_begun n true is = is
none_begun n false is = is

-- so does a cause of any agent
begun_once :
    (setup : Configuration) (s h g : ℕ) (cause : Cause) → stream_host setup s ≡ Some h → cause_fits setup g cause ≡ true
    → length (begun_by s cause) ≡ cond (g == h) (cond (begins_for s cause) 1 0) 0
begun_once setup s h g (Cause.Op k i op) host fits =
    begun_case (k == s) (g == h) op
    (λ is. eq-eqb g h (same_Some g h (sym (sym host ∙ ap (stream_host setup) (sym (eqb-true k s is)) ∙ fits_host setup g k i op fits))))
begun_once setup s h g (Cause.Take k m) host fits = none_begun 0 (g == h) refl
begun_once setup s h g (Cause.Act act) host fits = none_begun 0 (g == h) refl

-- one more event of a host's own, or of another
count_more : (s : ℕ) (own : Bool) (e : Event) (mine : List Event) → begun_count s (cond own (e ∷ mine) mine) ≡ cond own (cond (begins_for s e.cause) 1 0) 0 + begun_count s mine
count_more s true e mine = refl
count_more s false e mine = omega arith

pub begun_are_counted : BegunAreCounted
begun_are_counted setup opening [] run s h host = refl
begun_are_counted setup opening (e ∷ past) run s h host =
    let runs = and_parts (is_run setup opening past) (is_allowed setup opening past e) run in
    let before = begun_are_counted setup opening past runs.0 s h host in
    let both = length-append (operations_of s past) (begun_by s e.cause) in
    let one = begun_once setup s h e.agent e.cause host (allowed_parts setup opening past e runs.1).profile.cause in
    let more = count_more s (e.agent == h) e (events_of h past) in
    omega (arith, before, both, one, more)
