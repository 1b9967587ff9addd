-- Scans over the streams of a script.
use Rattle.std.proofs.Common.{Bool, List, Some, None, [], ap, arith, drop, false, get_or, length, length-append, sym, true, ℕ, ◌&&◌, ◌++◌, ◌+◌, ◌-◌, ◌<◌, ◌≡◌, ◌≢◌, ◌≤◌, ◌∙◌, ◌∷◌, refl, zero, suc}
use Rattle.std.specs.List.{list_all}
use Rattle.std.specs.Prelude.{flat_map, slice_get}
use Rattle.std.proofs.lemmas.Bool.{eq-eqb, ne_eqb}
use Rattle.std.proofs.lemmas.List.{drop_all, drop_more}
use Rattle.std.proofs.lemmas.List.Concat.{flat_map-cons}
use Rattle.std.proofs.lemmas.Option.{get_or_from_slice_get, same_Some, slice_get-get_or, slice_get_within}
use Rattle.cxl_message.specs.declared.events.Event.{Event}
use Rattle.cxl_message.specs.declared.events.Op.{Op}
use Rattle.cxl_message.specs.Script.{ScriptValue}
use Rattle.coherence_model.specs.Choices.{Stream, is_all_begun, streams_from, streams_of}
use Rattle.coherence_model.specs.Streams.{begun_count}
use Rattle.coherence_model.specs.Traces.{events_of}
use Rattle.choice_laws.specs.Answered.{next_answer}
use Rattle.commit_laws.proofs.Streams.{stream_at}
use Rattle.step_driver.specs.Picks.{IsOfferOf}
use Rattle.step_driver.specs.Driver.{IsAsked, IsCounted, IsStreamOf, one_if}

-- ---- lists

-- what stands at a place of a list stands first behind it
left_at : {X : Type 0} (xs : List X) (k : ℕ) (x : X) → slice_get xs k ≡ Some x → drop k xs ≡ x ∷ drop (k + 1) xs
left_at {X} xs k x found = drop_more xs k x (slice_get_within xs k x found) ∙ ap (λ (y : X). y ∷ drop (k + 1) xs) (get_or_from_slice_get xs k x x found)

-- one more passes
pub all_more : {X : Type 0} (p : X → Bool) (xs : List X) (k : ℕ) (x : X) (all : Bool) → slice_get xs k ≡ Some x → p x ≡ true → list_all p (drop k xs) ≡ all → list_all p (drop (k + 1) xs) ≡ all
all_more p xs k x all found passes before = ap (λ (b : Bool). b && list_all p (drop (k + 1) xs)) (sym passes) ∙ ap (list_all p) (sym (left_at xs k x found)) ∙ before

-- one doesn't
pub all_stops : {X : Type 0} (p : X → Bool) (xs : List X) (k : ℕ) (x : X) (all : Bool) → slice_get xs k ≡ Some x → p x ≡ false → list_all p (drop k xs) ≡ all → false ≡ all
all_stops p xs k x all found fails before = ap (λ (b : Bool). b && list_all p (drop (k + 1) xs)) (sym fails) ∙ ap (list_all p) (sym (left_at xs k x found)) ∙ before

-- each passed
pub all_passed : {X : Type 0} (p : X → Bool) (xs : List X) (k : ℕ) (all : Bool) → length xs ≤ k → list_all p (drop k xs) ≡ all → true ≡ all
all_passed p xs k all le before = ap (list_all p) (sym (drop_all k xs le)) ∙ before

-- ---- the streams of a script

-- a stream of a script with its operations
pub record IsThere (script : ScriptValue) (k : ℕ) (ops : List Op) : Type 0 where
  pub host : ℕ
  pub is : slice_get script.setup.streams k ≡ Some host
  pub at : slice_get (streams_of script) k ≡ Some (record { number = k; host = host; operations = ops })

-- the stream that stands there
abbrev pub stream_of : {script : ScriptValue} {k : ℕ} {ops : List Op} → IsThere script k ops → Stream
stream_of {script} {k} {ops} there = record { number = k; host = there.host; operations = ops }

pub stream_there : (script : ScriptValue) (k : ℕ) (ops : List Op) → k < length script.setup.streams → slice_get script.operations k ≡ Some ops → IsThere script k ops
stream_there script k ops below list =
    let is = slice_get-get_or script.setup.streams k 0 below in
    record { host = get_or script.setup.streams k 0; is = is; at = stream_at script k (get_or script.setup.streams k 0) ops is list }

few_streams : (n : ℕ) (hosts : List ℕ) (lists : List (List Op)) → length (streams_from n hosts lists) ≤ length hosts
few_streams n [] lists = omega arith
few_streams n (h ∷ hosts) [] = omega arith
few_streams n (h ∷ hosts) (ops ∷ lists) = let rest = few_streams (n + 1) hosts lists in omega arith

-- no stream stands behind the last host
pub streams_end : (script : ScriptValue) (k : ℕ) → length script.setup.streams ≤ k → length (streams_of script) ≤ k
streams_end script k le = let few = few_streams 0 script.setup.streams script.operations in omega (arith, few, le)

-- ---- whether all are begun

begun_is : (script : ScriptValue) (counts : List ℕ) (t : List Event) (k n : ℕ) (ops : List Op) → IsCounted script counts t → (there : IsThere script k ops) → get_or counts k 0 ≡ n → begun_count k (events_of there.host t) ≡ n
begun_is script counts t k n ops counted there is = sym (counted k there.host there.is) ∙ is

pub begun_more :
    (script : ScriptValue) (counts : List ℕ) (t : List Event) (k : ℕ) (ops : List Op) → IsCounted script counts t → IsThere script k ops → get_or counts k 0 ≡ length ops
    → list_all (is_all_begun t) (drop k (streams_of script)) ≡ list_all (is_all_begun t) (streams_of script)
    → list_all (is_all_begun t) (drop (k + 1) (streams_of script)) ≡ list_all (is_all_begun t) (streams_of script)
begun_more script counts t k ops counted there is before =
    all_more (is_all_begun t) (streams_of script) k (record { number = k; host = there.host; operations = ops }) (list_all (is_all_begun t) (streams_of script)) there.at
    (eq-eqb (begun_count k (events_of there.host t)) (length ops) (begun_is script counts t k (length ops) ops counted there is)) before

pub begun_stops :
    (script : ScriptValue) (counts : List ℕ) (t : List Event) (k : ℕ) (ops : List Op) → IsCounted script counts t → IsThere script k ops → get_or counts k 0 ≢ length ops
    → list_all (is_all_begun t) (drop k (streams_of script)) ≡ list_all (is_all_begun t) (streams_of script) → false ≡ list_all (is_all_begun t) (streams_of script)
begun_stops script counts t k ops counted there other before =
    all_stops (is_all_begun t) (streams_of script) k (record { number = k; host = there.host; operations = ops }) (list_all (is_all_begun t) (streams_of script)) there.at
    (ne_eqb (begun_count k (events_of there.host t)) (length ops) (λ same. other (counted k there.host there.is ∙ same))) before

-- ---- what streams are offered

-- what the streams from number k on are offered
abbrev pub offers_from : ScriptValue → List Event → ℕ → List Event
offers_from script t k = flat_map (next_answer script t) (drop k (streams_of script))

list_there : (script : ScriptValue) (k : ℕ) → length script.operations ≡ length script.setup.streams → k < length script.setup.streams → slice_get script.operations k ≡ Some (get_or script.operations k [])
list_there script k lists below = slice_get-get_or script.operations k [] (omega (arith, lists, below))

-- a stream of a script, with what it is offered first among what the streams from it on are
pub record IsFirst (script : ScriptValue) (t : List Event) (k : ℕ) : Type 0 where
  pub y : Stream
  pub number : y.number ≡ k
  pub stream : IsStreamOf script y
  pub parts : offers_from script t k ≡ next_answer script t y ++ offers_from script t (k + 1)

pub first_from : (script : ScriptValue) (t : List Event) (k : ℕ) → length script.operations ≡ length script.setup.streams → k < length script.setup.streams → IsFirst script t k
first_from script t k lists below =
    let list = list_there script k lists below in
    let there = stream_there script k (get_or script.operations k []) below list in
    let y : Stream = record { number = k; host = there.host; operations = get_or script.operations k [] } in
    record {
      y = y;
      number = refl;
      stream = record { host = there.is; operations = list };
      parts = ap (flat_map (next_answer script t)) (left_at (streams_of script) k y there.at) ∙ flat_map-cons (next_answer script t) y (drop (k + 1) (streams_of script));
    }

-- no stream is left
pub offers_end : (script : ScriptValue) (t : List Event) (k : ℕ) → length script.setup.streams ≤ k → offers_from script t k ≡ []
offers_end script t k le = ap (flat_map (next_answer script t)) (drop_all k (streams_of script) (streams_end script k le))

-- ---- counting

-- so many are offered before stream k
abbrev pub CountedTo : ScriptValue → List Event → ℕ → ℕ → Type 0
CountedTo script t k n = n + length (offers_from script t k) ≡ length (offers_from script t 0)

-- the table says it of stream k
told_at : (script : ScriptValue) (offered : List Bool) (t : List Event) (k : ℕ) (b : Bool) → IsAsked script offered t → get_or offered k false ≡ b → (first : IsFirst script t k) → length (next_answer script t first.y) ≡ one_if b
told_at script offered t k b asked is first = asked first.y first.stream ∙ ap (λ n. one_if (get_or offered n false)) first.number ∙ ap one_if is

pub counted_more :
    (script : ScriptValue) (offered : List Bool) (t : List Event) (k n : ℕ) (b : Bool) → length script.operations ≡ length script.setup.streams → k < length script.setup.streams → IsAsked script offered t → get_or offered k false ≡ b
    → CountedTo script t k n → CountedTo script t (k + 1) (n + one_if b)
counted_more script offered t k n b lists below asked is before =
    let first = first_from script t k lists below in
    let told = told_at script offered t k b asked is first in
    let part = ap length first.parts in
    let sum = length-append (next_answer script t first.y) (offers_from script t (k + 1)) in
    omega (arith, told, part, sum, before)

pub all_counted : (script : ScriptValue) (t : List Event) (k n : ℕ) → length script.setup.streams ≤ k → CountedTo script t k n → n ≡ length (offers_from script t 0)
all_counted script t k n le before = let none = ap length (offers_end script t k le) in omega (arith, none, before)

-- ---- picking

-- what is looked for stands so far behind the streams before k
abbrev pub SoughtFrom : ScriptValue → List Event → ℕ → ℕ → ℕ → Type 0
SoughtFrom script t sought k left = slice_get (offers_from script t k) left ≡ slice_get (offers_from script t 0) sought

behind : {X : Type 0} (xs ys : List X) (left : ℕ) → length xs ≤ left → slice_get ys (left - length xs) ≡ slice_get (xs ++ ys) left
behind [] ys left some = let e : left - 0 ≡ left = omega arith in ap (slice_get ys) e
behind (x ∷ xs) ys zero some = absurd (omega (arith, some))
behind (x ∷ xs) ys (suc n) some = let e : suc n - length (x ∷ xs) ≡ n - length xs = omega arith in ap (slice_get ys) e ∙ behind xs ys n (omega (arith, some))

pub passed :
    (script : ScriptValue) (offered : List Bool) (t : List Event) (sought k left : ℕ) (b : Bool) → length script.operations ≡ length script.setup.streams → k < length script.setup.streams → IsAsked script offered t → get_or offered k false ≡ b
    → one_if b ≤ left → SoughtFrom script t sought k left → SoughtFrom script t sought (k + 1) (left - one_if b)
passed script offered t sought k left b lists below asked is some before =
    let first = first_from script t k lists below in
    let told = told_at script offered t k b asked is first in
    let e : left - one_if b ≡ left - length (next_answer script t first.y) = omega (arith, told) in
    ap (slice_get (offers_from script t (k + 1))) e ∙ behind (next_answer script t first.y) (offers_from script t (k + 1)) left (omega (arith, told, some)) ∙ ap (λ xs. slice_get xs left) (sym first.parts) ∙ before

-- streams of one number are one
same_stream : (script : ScriptValue) (x y : Stream) → IsStreamOf script x → IsStreamOf script y → x.number ≡ y.number → x ≡ y
same_stream script x y one other same =
    let host : x.host ≡ y.host = same_Some x.host y.host (sym one.host ∙ ap (slice_get script.setup.streams) same ∙ other.host) in
    let operations : x.operations ≡ y.operations = same_Some x.operations y.operations (sym one.operations ∙ ap (slice_get script.operations) same ∙ other.operations) in
    λ i. record { number = same i; host = host i; operations = operations i }

front : {X : Type 0} (xs ys : List X) → length xs ≡ 1 → slice_get (xs ++ ys) 0 ≡ slice_get xs 0
front [] ys one = absurd (omega (arith, one))
front (x ∷ xs) ys one = refl

pub found :
    (script : ScriptValue) (offered : List Bool) (t : List Event) (sought k left : ℕ) → length script.operations ≡ length script.setup.streams → k < length script.setup.streams → IsAsked script offered t → get_or offered k false ≡ true
    → left ≡ 0 → SoughtFrom script t sought k left → IsOfferOf script t (slice_get (offers_from script t 0) sought) k
found script offered t sought k left lists below asked is none before =
    let first = first_from script t k lists below in
    record {
      below = below;
      is = λ y stream number.
          let one = asked y stream ∙ ap (λ n. one_if (get_or offered n false)) number ∙ ap one_if is in
          let same = same_stream script first.y y first.stream stream (first.number ∙ sym number) in
          (one, sym before ∙ ap (slice_get (offers_from script t k)) none ∙ ap (λ xs. slice_get xs 0) (first.parts ∙ ap (λ z. next_answer script t z ++ offers_from script t (k + 1)) same) ∙ front (next_answer script t y) (offers_from script t (k + 1)) one);
    }

pub none_found : (script : ScriptValue) (t : List Event) (sought k left : ℕ) → length script.setup.streams ≤ k → SoughtFrom script t sought k left → slice_get (offers_from script t 0) sought ≡ None
none_found script t sought k left le before = sym before ∙ ap (λ xs. slice_get xs left) (offers_end script t k le)
