-- What driving comes to: each event is picked from the choices, so it is allowed, and an operation is the script's.
use Rattle.std.proofs.Common.{◌≡◌, ℕ, zero, suc, ◌≤◌, Bool, true, false, IsTrue, cond, List, [], ◌∷◌, length, Option, Some, None, refl, ap, sym, subst, ◌∙◌, arith, inl, inr}
use Rattle.std.specs.Prelude.{flat_map, nat_lt, not, option_map, option_to_list, slice_get, sum_by, ◌%◌, ◌&&◌, ◌==◌}
use Rattle.std.specs.List.{list_all}
use Rattle.std.specs.Option.{option_map_or}
use Rattle.std.proofs.lemmas.Bool.{and_from, and_parts, cases_Bool, eq-eqb, lt-ltb, false≢true}
use Rattle.std.proofs.lemmas.List.Sums.{sum_by-cons}
use Rattle.std.proofs.lemmas.Option.{none-some, slice_get_within}
use Rattle.cxl_message.specs.declared.events.Cause.{Cause}
use Rattle.cxl_message.specs.declared.events.Event.{Event}
use Rattle.cxl_message.specs.declared.events.Op.{Op}
use Rattle.cxl_message.specs.Events.{line_of}
use Rattle.cxl_message.specs.Formed.{place_exists}
use Rattle.cxl_message.specs.Script.{ScriptValue}
use Rattle.coherence_model.specs.Choices.{Stream, choices, is_done, operation_step, stream_step, streams_of}
use Rattle.coherence_model.specs.Driven.{driven_on, go_on, pick_from, pick_now, picks_left}
use Rattle.coherence_model.specs.Emission.{Emission}
use Rattle.coherence_model.specs.Next.{event_with, next_steps}
use Rattle.coherence_model.specs.Refusals.{cause_passes}
use Rattle.coherence_model.specs.Rows.{emission}
use Rattle.coherence_model.specs.Rules.{most_operations, s0_stream_order}
use Rattle.coherence_model.specs.Runs.{IsRun, is_allowed}
use Rattle.coherence_model.specs.Streams.{begun_count, stream_waits}
use Rattle.coherence_model.specs.Traces.{events_of}
use Rattle.coherence_model.specs.Weight.{is_operation}
use Rattle.step_laws.proofs.Counts.{Each, each_append, each_from_all, each_weaker}
use Rattle.step_laws.proofs.Emitted.{emitted_events_are_allowed}
use Rattle.step_laws.proofs.Laws.{next_steps_are_allowed}
use Rattle.commit_laws.proofs.Fronts.{scripted_follows}
use Rattle.commit_laws.proofs.Scripted.{AreScripted, IsOfScript}
use Rattle.commit_laws.proofs.Streams.{IsStreamOf, each_at, host_there, streams_are}
use Rattle.driven_laws.specs.Laws.{ReachedIsFollowed}
use Rattle.driven_laws.specs.Reached.{IsPicked, IsReached}
use Rattle.driven_laws.specs.Scripts.{IsDrivable, is_placed}

-- ---- lists

-- what holds of each element of each part holds of each element of all
pub each_joined : {X Y : Type 0} (P : Y → Type 0) (f : X → List Y) (Q : X → Type 0) → ((x : X) → Q x → Each P (f x)) → (xs : List X) → Each Q xs → Each P (flat_map f xs)
each_joined P f Q h [] all = tt
each_joined P f Q h (x ∷ xs) all = each_append P (f x) (flat_map f xs) (h x all.0) (each_joined P f Q h xs all.1)

-- the element of a list of lists is one of a list that passes
pub passes_at : {X : Type 0} (p : X → Bool) (lists : List (List X)) (s i : ℕ) (xs : List X) (x : X) → list_all (λ xs. list_all p xs) lists ≡ true
    → slice_get lists s ≡ Some xs → slice_get xs i ≡ Some x → p x ≡ true
passes_at p lists s i xs x all at is =
    each_at (λ y. p y ≡ true) xs i x (each_from_all p xs (each_at (λ ys. list_all p ys ≡ true) lists s xs (each_from_all (λ ys. list_all p ys) lists all) at)) is

-- ---- the choices

-- a choice is allowed, and an operation is the script's
pub record IsChoice (script : ScriptValue) (t : List Event) (e : Event) : Type 0 where
  pub allowed : IsTrue (is_allowed script.setup script.opening t e)
  pub scripted : IsOfScript script e.agent e.cause

-- a cause that is no operation is as the script's
no_operation : (script : ScriptValue) (g : ℕ) (cause : Cause) → not (is_operation cause) ≡ true → IsOfScript script g cause
no_operation script g (Cause.Op s i op) other = absurd (false≢true other)
no_operation script g (Cause.Take h m) other = tt
no_operation script g (Cause.Act act) other = tt

-- a next step is such a choice
next_choice : (script : ScriptValue) (t : List Event) (e : Event) → (is_allowed script.setup script.opening t e && not (is_operation e.cause)) ≡ true → IsChoice script t e
next_choice script t e passes =
    let parts = and_parts (is_allowed script.setup script.opening t e) (not (is_operation e.cause)) passes in
    record { allowed = parts.0; scripted = no_operation script e.agent e.cause parts.1 }

-- a stream has fewer operations than S0 allows
few_listed : (lists : List (List Op)) (s : ℕ) (ops : List Op) → slice_get lists s ≡ Some ops → length ops ≤ sum_by length lists
few_listed [] s ops is = absurd (none-some ops is)
few_listed (xs ∷ lists) zero ops is =
    let same : xs ≡ ops = cc in
    let sums = sum_by-cons length xs lists in
    subst (λ (ys : List Op). length ys ≤ sum_by length (xs ∷ lists)) same (omega arith)
few_listed (xs ∷ lists) (suc s) ops is = let rest = few_listed lists s ops is in let sums = sum_by-cons length xs lists in omega arith

-- the next index of a stream is one that S0 allows
pub in_order :
    (script : ScriptValue) → IsDrivable script → (s : ℕ) (ops : List Op) (op : Op) (mine : List Event) → slice_get script.operations s ≡ Some ops
    → slice_get ops (begun_count s mine) ≡ Some op → nat_lt (begun_count s mine) most_operations ≡ true
in_order script can s ops op mine list is =
    let within = slice_get_within ops (begun_count s mine) op is in
    let few = few_listed script.operations s ops list in
    let count = can.count in
    lt-ltb (begun_count s mine) most_operations (omega arith)

-- the operation of a stream is one that its host may have
pub cause_is_fit :
    (script : ScriptValue) → IsDrivable script → (s g i : ℕ) (ops : List Op) (op : Op) → slice_get script.setup.streams s ≡ Some g → slice_get script.operations s ≡ Some ops
    → slice_get ops i ≡ Some op → cause_passes script.setup g (Cause.Op s i op) ≡ true
cause_is_fit script can s g i ops op host list is =
    let placed = and_parts (nat_lt (line_of op) script.setup.lines) (place_exists op) (passes_at (is_placed script.setup.lines) script.operations s i ops op can.operations list is) in
    let low = slice_get_within script.setup.streams s g host in
    let few = can.limits.streams in
    let there = host_there script.setup can.limits s g host in
    and_from _ _ (and_from _ _ (lt-ltb s 64 (omega arith)) placed.1)
    (and_from _ _ (and_from _ _ there (ap (λ (o : Option ℕ). option_map_or (λ h. h == g) o false) host ∙ eq-eqb g g refl)) placed.0)

-- the step that a cause's row gives
stepped :
    (script : ScriptValue) (t : List Event) (g : ℕ) (cause : Cause) (P : Event → Type 0)
    → ((w : Emission) → emission script.setup script.opening g cause (events_of g t) ≡ Some w → P (event_with g cause w))
    → (o : Option Emission) → emission script.setup script.opening g cause (events_of g t) ≡ o → Each P (option_to_list (option_map (event_with g cause) o))
stepped script t g cause P h None is = tt
stepped script t g cause P h (Some w) is = (h w is, tt)

-- the operation of a stream at its host is a choice
operation_choice :
    (script : ScriptValue) → IsDrivable script → (t : List Event) → IsRun script.setup script.opening t → (s : Stream) → IsStreamOf script s → (op : Op)
    → stream_waits s.number (events_of s.host t) ≡ false → slice_get s.operations (begun_count s.number (events_of s.host t)) ≡ Some op
    → Each (IsChoice script t) (operation_step script t s (Some op))
operation_choice script can t run s of op waits is =
    let mine = events_of s.host t in
    let i = begun_count s.number mine in
    let order : s0_stream_order (Cause.Op s.number i op) mine ≡ true =
    and_from _ _ (and_from _ _ (eq-eqb i i refl) (in_order script can s.number s.operations op mine of.operations is)) (ap not waits) in
    let passes = cause_is_fit script can s.number s.host i s.operations op of.host of.operations is in
    stepped script t s.host (Cause.Op s.number i op) (IsChoice script t)
    (λ w emits. record {
      allowed = emitted_events_are_allowed script.setup script.opening can.limits t run s.host (Cause.Op s.number i op) w passes order refl emits;
      scripted = record { host = of.host; list = s.operations; operations = of.operations; is = is };
    }) (emission script.setup script.opening s.host (Cause.Op s.number i op) mine) refl

-- an operation that may be there
perhaps :
    (script : ScriptValue) → IsDrivable script → (t : List Event) → IsRun script.setup script.opening t → (s : Stream) → IsStreamOf script s
    → stream_waits s.number (events_of s.host t) ≡ false → (o : Option Op) → slice_get s.operations (begun_count s.number (events_of s.host t)) ≡ o
    → Each (IsChoice script t) (operation_step script t s o)
perhaps script can t run s of waits None is = tt
perhaps script can t run s of waits (Some op) is = operation_choice script can t run s of op waits is

-- the choice of a stream, whether it waits or not
by_waiting :
    (script : ScriptValue) → IsDrivable script → (t : List Event) → IsRun script.setup script.opening t → (s : Stream) → IsStreamOf script s → (waits : Bool)
    → stream_waits s.number (events_of s.host t) ≡ waits
    → Each (IsChoice script t) (operation_step script t s (cond waits None (slice_get s.operations (begun_count s.number (events_of s.host t)))))
by_waiting script can t run s of true is = tt
by_waiting script can t run s of false is = perhaps script can t run s of is (slice_get s.operations (begun_count s.number (events_of s.host t))) refl

-- what a stream adds to the choices is such
stream_choice :
    (script : ScriptValue) → IsDrivable script → (t : List Event) → IsRun script.setup script.opening t → (s : Stream) → IsStreamOf script s → Each (IsChoice script t) (stream_step script t s)
stream_choice script can t run s of = by_waiting script can t run s of (stream_waits s.number (events_of s.host t)) refl

-- after a run each choice is allowed, and an operation is the script's
pub choices_are : (script : ScriptValue) → IsDrivable script → (t : List Event) → IsRun script.setup script.opening t → Each (IsChoice script t) (choices script t)
choices_are script can t run =
    each_append (IsChoice script t) (next_steps script.setup script.opening t) (flat_map (stream_step script t) (streams_of script))
    (each_weaker _ (IsChoice script t) (next_choice script t) (next_steps script.setup script.opening t)
    (each_from_all (λ e. is_allowed script.setup script.opening t e && not (is_operation e.cause)) (next_steps script.setup script.opening t)
    (next_steps_are_allowed script.setup script.opening can.limits t run)))
    (each_joined (IsChoice script t) (stream_step script t) (IsStreamOf script) (stream_choice script can t run) (streams_of script) (streams_are script))

-- what is picked is one of the choices
picked : (P : Event → Type 0) (p : ℕ) (cs : List Event) (e : Event) → Each P cs → pick_from p cs ≡ Some e → P e
picked P p [] e all is = absurd (none-some e is)
picked P p (c ∷ cs) e all is = each_at P (c ∷ cs) (p % length (c ∷ cs)) e all is

-- so what is picked is such a choice
pub picked_choice : (script : ScriptValue) → IsDrivable script → (t : List Event) → IsRun script.setup script.opening t → (e : Event) → IsPicked script t e → IsChoice script t e
picked_choice script can t run e pick = picked (IsChoice script t) pick.0 (choices script t) e (choices_are script can t run) pick.1

-- each trace that driving comes to is a run
pub reached_is_run : (script : ScriptValue) → IsDrivable script → (t : List Event) → IsReached script t → IsRun script.setup script.opening t
reached_is_run script can [] reached = refl
reached_is_run script can (e ∷ past) reached =
    let before = reached_is_run script can past reached.0 in
    and_from _ _ before (picked_choice script can past before e reached.1).allowed

-- ---- driving

-- driving on from a trace keeps what holds of it and of each picked event
drive_step :
    (script : ScriptValue) (n : ℕ) (p : ℕ) (picks : List ℕ) (t : List Event) → IsReached script t → (o : Option Event) → pick_from p (choices script t) ≡ o
    → ((u : List Event) → IsReached script u → IsReached script (driven_on n script picks u)) → IsReached script (go_on o t (driven_on n script picks))
drive_step script n p picks t reached None is more = reached
drive_step script n p picks t reached (Some e) is more = more (e ∷ t) (reached, (p, is))

-- what is done ends
pub driving_stops : (script : ScriptValue) (n : ℕ) (picks : List ℕ) (t : List Event) → is_done script t ≡ true → driven_on (suc n) script picks t ≡ t
driving_stops script n picks t done = rw (done, driven_on) refl

-- what isn't done goes on with what is picked
pub driving_goes_on :
    (script : ScriptValue) (n : ℕ) (picks : List ℕ) (t : List Event) → is_done script t ≡ false
    → driven_on (suc n) script picks t ≡ go_on (pick_from (pick_now picks) (choices script t)) t (driven_on n script (picks_left picks))
driving_goes_on script n picks t done = rw (done, driven_on) refl

-- driving on from what was reached reaches
pub driving_reaches : (script : ScriptValue) (n : ℕ) (picks : List ℕ) (t : List Event) → IsReached script t → IsReached script (driven_on n script picks t)
driving_reaches script zero picks t reached = reached
driving_reaches script (suc n) picks t reached =
    elim (cases_Bool (is_done script t)) [
      | inl done ↦ subst (IsReached script) (sym (driving_stops script n picks t done)) reached
      | inr more ↦
          subst (IsReached script) (sym (driving_goes_on script n picks t more))
          (drive_step script n (pick_now picks) (picks_left picks) t reached (pick_from (pick_now picks) (choices script t)) refl (driving_reaches script n (picks_left picks)))
    ]

-- ---- the operations of what was reached

-- all operations of a reached trace are the script's
pub reached_scripted : (script : ScriptValue) → IsDrivable script → (t : List Event) → IsReached script t → AreScripted script t
reached_scripted script can [] reached = tt
reached_scripted script can (e ∷ past) reached =
    ((picked_choice script can past (reached_is_run script can past reached.0) e reached.1).scripted, reached_scripted script can past reached.0)

-- so it follows the script
pub reached_is_followed : ReachedIsFollowed
reached_is_followed script can t reached = scripted_follows script t (reached_is_run script can t reached) (reached_scripted script can t reached)
