-- The streams of a script: each has its host and its operations at its number.
use Rattle.std.proofs.Common.{◌≡◌, ℕ, zero, suc, ◌+◌, ◌-◌, ◌≤◌, true, false, List, [], ◌∷◌, length, Option, Some, None, ap, subst, ◌∙◌, arith, inl, inr}
use Rattle.std.specs.Prelude.{nat_lt, slice_get, ◌&&◌, ◌==◌}
use Rattle.std.specs.Option.{option_map_or}
use Rattle.std.proofs.lemmas.Bool.{and_parts, eqb-true, false≢true}
use Rattle.std.proofs.lemmas.Option.{none-some, slice_get_within, slice_get_cases}
use Rattle.cxl_message.specs.declared.events.Cause.{Cause}
use Rattle.cxl_message.specs.declared.events.Op.{Op}
use Rattle.cxl_message.specs.Events.{line_of}
use Rattle.cxl_message.specs.Script.{ScriptValue}
use Rattle.coherence_model.specs.Choices.{Stream, streams_from, streams_of}
use Rattle.coherence_model.specs.Fitting.{is_device, cause_fits, is_host}
use Rattle.step_laws.proofs.Counts.{Each, each_from_all, each_weaker}
use Rattle.step_laws.proofs.OwnRuns.{host_is_no_device}
use Rattle.cxl_message.specs.Setup.{Configuration, IsWithinLimits, stream_host}
use Rattle.commit_laws.specs.Begun.{ListsEachStream}

-- ---- lists

-- what holds of each element holds of the one at a place
pub each_at : {X : Type 0} (P : X → Type 0) (xs : List X) (n : ℕ) (x : X) → Each P xs → slice_get xs n ≡ Some x → P x
each_at P [] n x all is = absurd (none-some x is)
each_at P (y ∷ ys) zero x all is = let same : y ≡ x = cc in subst P same all.0
each_at P (y ∷ ys) (suc n) x all is = each_at P ys n x all.1 is

-- ---- the streams in their order

-- a stream has its host and its operations in two lists, at a place
pub record IsStreamAt (hosts : List ℕ) (lists : List (List Op)) (n : ℕ) (s : Stream) : Type 0 where
  pub from : n ≤ s.number
  pub host : slice_get hosts (s.number - n) ≡ Some s.host
  pub operations : slice_get lists (s.number - n) ≡ Some s.operations

-- a distance that is one greater
one_on : (n k : ℕ) → n + 1 ≤ k → k - n ≡ suc (k - (n + 1))
one_on n k le = omega arith

-- the distance of a number to itself
itself : (n : ℕ) → n - n ≡ 0
itself n = omega arith

-- a stream of the tails is one of the lists
later_stream : (h : ℕ) (hosts : List ℕ) (ops : List Op) (lists : List (List Op)) (n : ℕ) (s : Stream) → IsStreamAt hosts lists (n + 1) s → IsStreamAt (h ∷ hosts) (ops ∷ lists) n s
later_stream h hosts ops lists n s is =
    let from = is.from in
    record {
      from = omega arith;
      host = ap (slice_get (h ∷ hosts)) (one_on n s.number from) ∙ is.host;
      operations = ap (slice_get (ops ∷ lists)) (one_on n s.number from) ∙ is.operations;
    }

-- each stream has its host and its operations at its place
streams_at : (n : ℕ) (hosts : List ℕ) (lists : List (List Op)) → Each (IsStreamAt hosts lists n) (streams_from n hosts lists)
streams_at n [] lists = tt
streams_at n (h ∷ hosts) [] = tt
streams_at n (h ∷ hosts) (ops ∷ lists) = (
  record { from = omega arith; host = ap (slice_get (h ∷ hosts)) (itself n); operations = ap (slice_get (ops ∷ lists)) (itself n) },
  each_weaker (IsStreamAt hosts lists (n + 1)) (IsStreamAt (h ∷ hosts) (ops ∷ lists) n) (later_stream h hosts ops lists n) (streams_from (n + 1) hosts lists) (streams_at (n + 1) hosts lists),
)

-- a stream of a script
pub record IsStreamOf (script : ScriptValue) (s : Stream) : Type 0 where
  pub host : slice_get script.setup.streams s.number ≡ Some s.host
  pub operations : slice_get script.operations s.number ≡ Some s.operations

-- counted from 0 the place is the number
stream_at_zero : (script : ScriptValue) (s : Stream) → IsStreamAt script.setup.streams script.operations 0 s → IsStreamOf script s
stream_at_zero script s is =
    let whole : s.number ≡ s.number - 0 = omega arith in
    record {
      host = ap (slice_get script.setup.streams) whole ∙ is.host;
      operations = ap (slice_get script.operations) whole ∙ is.operations;
    }

-- each stream of a script is one
pub streams_are : (script : ScriptValue) → Each (IsStreamOf script) (streams_of script)
streams_are script = each_weaker (IsStreamAt script.setup.streams script.operations 0) (IsStreamOf script) (stream_at_zero script) (streams_of script) (streams_at 0 script.setup.streams script.operations)

-- streams that are numbered from n on stand in the order of their numbers
stream_from : (hosts : List ℕ) (lists : List (List Op)) (n s h : ℕ) (ops : List Op) → slice_get hosts s ≡ Some h → slice_get lists s ≡ Some ops
    → slice_get (streams_from n hosts lists) s ≡ Some (record { number = s + n; host = h; operations = ops })
stream_from [] lists n s h ops host list = absurd (none-some h host)
stream_from (g ∷ hosts) [] n s h ops host list = absurd (none-some ops list)
stream_from (g ∷ hosts) (xs ∷ lists) n zero h ops host list =
    let same : g ≡ h = cc in
    let one : xs ≡ ops = cc in
    let none : n ≡ zero + n = omega arith in
    λ i. Some (record { number = none i; host = same i; operations = one i })
stream_from (g ∷ hosts) (xs ∷ lists) n (suc s) h ops host list =
    let moved : s + (n + 1) ≡ suc s + n = omega arith in
    stream_from hosts lists (n + 1) s h ops host list ∙ ap (λ (k : ℕ). Some (record { number = k; host = h; operations = ops })) moved

-- a stream stands at its number
pub stream_at : (script : ScriptValue) (s h : ℕ) (ops : List Op) → slice_get script.setup.streams s ≡ Some h → slice_get script.operations s ≡ Some ops
    → slice_get (streams_of script) s ≡ Some (record { number = s; host = h; operations = ops })
stream_at script s h ops host list =
    let whole : s + 0 ≡ s = omega arith in
    stream_from script.setup.streams script.operations 0 s h ops host list ∙ ap (λ (k : ℕ). Some (record { number = k; host = h; operations = ops })) whole

-- there are at most as many streams as hosts of streams
pub few_streams : (n : ℕ) (hosts : List ℕ) (lists : List (List Op)) → length (streams_from n hosts lists) ≤ length hosts
few_streams n [] lists = omega arith
few_streams n (h ∷ hosts) [] = omega arith
few_streams n (h ∷ hosts) (ops ∷ lists) = let rest = few_streams (n + 1) hosts lists in omega (arith, rest)

-- ---- hosts

-- the host of a stream is one that there is
pub host_there : (setup : Configuration) → IsWithinLimits setup → (s h : ℕ) → stream_host setup s ≡ Some h → nat_lt h setup.hosts ≡ true
host_there setup limits s h is = each_at (λ h. nat_lt h setup.hosts ≡ true) setup.streams s h (each_from_all (λ h. nat_lt h setup.hosts) setup.streams limits.stream_hosts) is

-- and isn't the device
pub not_the_device : (setup : Configuration) → IsWithinLimits setup → (s h : ℕ) → stream_host setup s ≡ Some h → is_device h ≡ false
not_the_device setup limits s h is = host_is_no_device setup limits h (host_there setup limits s h is)

-- what is there and is g is g
hosted : (o : Option ℕ) (g : ℕ) → option_map_or (λ h. h == g) o false ≡ true → o ≡ Some g
hosted None g is = absurd (false≢true is)
hosted (Some h) g is = ap Some (eqb-true h g is)

-- an operation that fits is one of its stream's host
pub fits_host : (setup : Configuration) (g k i : ℕ) (op : Op) → cause_fits setup g (Cause.Op k i op) ≡ true → stream_host setup k ≡ Some g
fits_host setup g k i op fits =
    let two = (and_parts (is_host setup g && option_map_or (λ h. h == g) (stream_host setup k) false) (nat_lt (line_of op) setup.lines) fits).0 in
    hosted (stream_host setup k) g (and_parts (is_host setup g) (option_map_or (λ h. h == g) (stream_host setup k) false) two).1

-- ---- hosts and operations

-- where there are as many lists as streams, a stream has its operations
pub list_of : (script : ScriptValue) → ListsEachStream script → (s h : ℕ) → stream_host script.setup s ≡ Some h → (ops : List Op) × (slice_get script.operations s ≡ Some ops)
list_of script lists s h host =
    elim ((slice_get_cases script.operations s).1) [
      | inl there ↦ (there.0, there.2)
      | inr over ↦
          let within = slice_get_within script.setup.streams s h host in
          let past = over.0 in
          absurd (omega (arith, within, past, lists))
    ]

-- and operations have a host
pub host_of : (script : ScriptValue) → ListsEachStream script → (s : ℕ) (ops : List Op) → slice_get script.operations s ≡ Some ops → (h : ℕ) × (stream_host script.setup s ≡ Some h)
host_of script lists s ops list =
    elim ((slice_get_cases script.setup.streams s).1) [
      | inl there ↦ (there.0, there.2)
      | inr over ↦
          let within = slice_get_within script.operations s ops list in
          let past = over.0 in
          absurd (omega (arith, within, past, lists))
    ]
