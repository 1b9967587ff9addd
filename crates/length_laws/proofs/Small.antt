-- How many operations a run has at most, and so how many events and what weight.
use Rattle.std.proofs.Common.{◌≡◌, ℕ, ◌+◌, ◌-◌, ◌*◌, ◌<◌, ◌≤◌, ◌^◌, Bool, true, false, List, [], ◌∷◌, cond, length, sum_by, refl, ap, sym, subst, ◌∙◌, arith}
use Rattle.std.specs.Prelude.{nat_lt, not, ◌==◌, ◌&&◌}
use Rattle.std.proofs.Math.Nat.{mul-le-mul, mul-suc}
use Rattle.std.proofs.lemmas.Bool.{and_parts, eqb-true, ltb-true}
use Rattle.std.proofs.lemmas.List.{length-append}
use Rattle.std.proofs.lemmas.List.Sums.{sum_by-cons}
use Rattle.cxl_message.specs.declared.events.Cause.{Cause}
use Rattle.cxl_message.specs.declared.events.Event.{Event}
use Rattle.cxl_message.specs.declared.events.Op.{Op}
use Rattle.cxl_message.specs.declared.identifiers.Bytes64.{Bytes64}
use Rattle.cxl_message.specs.declared.identifiers.Line.{Line}
use Rattle.cxl_message.specs.Setup.{Configuration}
use Rattle.coherence_model.specs.Choices.{Stream, streams_of}
use Rattle.coherence_model.specs.Fitting.{cause_fits}
use Rattle.coherence_model.specs.Rules.{most_operations, s0_stream_order}
use Rattle.coherence_model.specs.Runs.{IsRun, is_allowed, is_run}
use Rattle.coherence_model.specs.Streams.{begun_count, stream_waits}
use Rattle.coherence_model.specs.Traces.{events_of}
use Rattle.coherence_model.specs.Weight.{weight}
use Rattle.coherence_lemmas.proofs.Allowed.{allowed_parts}
use Rattle.step_laws.proofs.Counts.{Each, each_weaker}
use Rattle.cxl_message.specs.declared.limits.TheConstants.{MAX_STREAMS}
use Rattle.weight_laws.proofs.Lengths.{weight_and_length}
use Rattle.commit_laws.specs.Begun.{begun_by, operations_of}
use Rattle.commit_laws.proofs.Begun.{begun_are_counted}
use Rattle.commit_laws.proofs.Lengths.{begun_of}
use Rattle.commit_laws.proofs.OwnScript.{lists_from, run_scripted, script_of}
use Rattle.commit_laws.proofs.OwnStreams.{in_order_parts}
use Rattle.commit_laws.proofs.Streams.{IsStreamOf, few_streams, fits_host, streams_are}
use Rattle.length_laws.specs.Laws.{LengthFits, OperationsAreFew, WeightFits}
use Rattle.length_laws.proofs.Short.{total_begun}

-- one more of the stream, where its index is below the most
one_by : (s k : ℕ) (op : Op) (n : ℕ) (b : Bool) → (k == s) ≡ b → (k ≡ s → n < most_operations) → n ≤ most_operations → n + length (cond b (op ∷ []) []) ≤ most_operations
one_by s k op n true is less le = let l = less (eqb-true k s is) in omega (arith, l)
one_by s k op n false is less le = omega (arith, le)

-- nothing more of it
none_more : (n : ℕ) → n ≤ most_operations → n + 0 ≤ most_operations
none_more n le = omega (arith, le)

-- so many after any cause
most_step :
    (setup : Configuration) (opening : List (Line × Bytes64)) (past : List Event) → IsRun setup opening past → (s g : ℕ) (cause : Cause) → cause_fits setup g cause ≡ true
    → s0_stream_order cause (events_of g past) ≡ true → length (operations_of s past) ≤ most_operations → length (operations_of s past) + length (begun_by s cause) ≤ most_operations
most_step setup opening past run s g (Cause.Op k i op) fits order before =
    let mine = events_of g past in
    let low = ltb-true i most_operations (and_parts (i == begun_count k mine) (nat_lt i most_operations) (and_parts ((i == begun_count k mine) && nat_lt i most_operations) (not (stream_waits k mine)) order).0).1 in
    let at : i ≡ length (operations_of k past) = (in_order_parts k i op mine order).index ∙ sym (begun_are_counted setup opening past run k g (fits_host setup g k i op fits)) in
    one_by s k op (length (operations_of s past)) (k == s) refl
    (λ same. subst (λ (n : ℕ). n < most_operations) (at ∙ ap (λ (r : ℕ). length (operations_of r past)) same) low) before
most_step setup opening past run s g (Cause.Take h m) fits order before = none_more (length (operations_of s past)) before
most_step setup opening past run s g (Cause.Act act) fits order before = none_more (length (operations_of s past)) before

-- a stream has at most so many operations in a run
most_begun : (setup : Configuration) (opening : List (Line × Bytes64)) (t : List Event) → IsRun setup opening t → (s : ℕ) → length (operations_of s t) ≤ most_operations
most_begun setup opening [] run s = omega arith
most_begun setup opening (e ∷ past) run s =
    let runs = and_parts (is_run setup opening past) (is_allowed setup opening past e) run in
    let parts = allowed_parts setup opening past e runs.1 in
    let both = length-append (operations_of s past) (begun_by s e.cause) in
    let step = most_step setup opening past runs.0 s e.agent e.cause parts.profile.cause parts.stream (most_begun setup opening past runs.0 s) in
    sums _ _ _ both step
  where
    sums : (n a b : ℕ) → n ≡ a + b → a + b ≤ most_operations → n ≤ most_operations
    sums n a b both le = omega (arith, both, le)

-- a sum of terms each of which is at most k
sum_most : (f : Stream → ℕ) (k : ℕ) (xs : List Stream) → Each (λ x. f x ≤ k) xs → sum_by f xs ≤ k * length xs
sum_most f k [] all = omega arith
sum_most f k (x ∷ xs) all =
    let rest = sum_most f k xs all.1 in
    let here = all.0 in
    let first = sum_by-cons f x xs in
    let product = mul-suc k (length xs) in
    omega (arith, rest, here, first, product)

pub operations_are_few : OperationsAreFew
operations_are_few setup opening limits t run =
    let script = script_of setup opening t in
    let all = total_begun script t (run_scripted setup opening t run) in
    let most = sum_most (begun_of t) most_operations (streams_of script)
    (each_weaker (IsStreamOf script) (λ y. begun_of t y ≤ most_operations)
    (λ y of. subst (λ (n : ℕ). n ≤ most_operations) (begun_are_counted setup opening t run y.number y.host of.host) (most_begun setup opening t run y.number)) (streams_of script) (streams_are script)) in
    let few = few_streams 0 setup.streams (lists_from 0 setup.streams t) in
    let streams = limits.streams in
    sums _ _ _ _ all most few streams
  where
    sums : (c s k n : ℕ) → c ≤ s → s ≤ most_operations * k → k ≤ n → n ≤ MAX_STREAMS → c ≤ most_operations * MAX_STREAMS
    sums c s k n a b d f = omega (arith, a, b, d, f)

-- 16 hosts and 64 streams
paid : (w n c h : ℕ) → w + n ≤ (108 * h - 3) * c → c ≤ most_operations * MAX_STREAMS → h ≤ 16 → w + n ≤ 1725 * (most_operations * MAX_STREAMS)
paid w n c h both few hosts =
    let hosts_few : 108 * h - 3 ≤ 1725 = omega (arith, hosts) in
    let wide : (108 * h - 3) * c ≤ 1725 * (most_operations * MAX_STREAMS) = mul-le-mul hosts_few few in
    omega (arith, both, wide)

pub weight_fits : WeightFits
weight_fits setup opening limits t run =
    let all = paid (weight setup t) (length t) _ setup.hosts (weight_and_length setup opening limits t run) (operations_are_few setup opening limits t run) limits.hosts.1 in
    below (weight setup t) (length t) all
  where
    below : (w n : ℕ) → w + n ≤ 1725 * (most_operations * MAX_STREAMS) → w < 2 ^ 49
    below w n h = omega (arith, h)

pub length_fits : LengthFits
length_fits setup opening limits t run =
    let all = paid (weight setup t) (length t) _ setup.hosts (weight_and_length setup opening limits t run) (operations_are_few setup opening limits t run) limits.hosts.1 in
    below (weight setup t) (length t) all
  where
    below : (w n : ℕ) → w + n ≤ 1725 * (most_operations * MAX_STREAMS) → n < 2 ^ 49
    below w n h = omega (arith, h)
