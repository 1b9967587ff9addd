-- The commits of a run that follows a script are those done of its streams, over all streams.
use Rattle.std.proofs.Common.{◌≡◌, ℕ, ◌+◌, ◌≤◌, Bool, true, false, cond, List, [], ◌∷◌, length, map, take, refl, ap, sym, ◌∙◌, arith}
use Rattle.std.specs.Prelude.{count_by, ◌==◌}
use Rattle.std.proofs.lemmas.Bool.{eq-eqb, eqb-true}
use Rattle.std.proofs.lemmas.List.{length-append, length-take-le}
use Rattle.cxl_message.specs.declared.events.Commit.{Commit}
use Rattle.cxl_message.specs.declared.events.Event.{Event}
use Rattle.cxl_message.specs.Script.{ScriptValue}
use Rattle.coherence_model.specs.Choices.{Stream, streams_of}
use Rattle.coherence_model.specs.Runs.{IsRun}
use Rattle.coherence_model.specs.Traces.{history}
use Rattle.step_laws.proofs.Counts.{all_from_each, count_by-cons, each_from_all, each_weaker, sum_by-same}
use Rattle.cxl_message.specs.Setup.{IsWithinLimits}
use Rattle.commit_laws.specs.Begun.{Follows, ListsEachStream, is_all_committed}
use Rattle.commit_laws.specs.Commits.{committed, named_by}
use Rattle.commit_laws.specs.Laws.{CommitsAreSummed, CompleteIsCounted}
use Rattle.commit_laws.proofs.Fronts.{are_scripted}
use Rattle.commit_laws.proofs.Lengths.{done_of, done_within, numbered_long}
use Rattle.commit_laws.proofs.Named.{committed_more, names_done, no_other}
use Rattle.commit_laws.proofs.Streams.{IsStreamOf, streams_are}
use Rattle.commit_laws.proofs.Sums.{counted_by_stream, lengths_same, sum_equal}

-- one or none
one_long : (b : Bool) (c : Commit) → length (map named_by (cond b (c ∷ []) [])) ≡ cond b 1 0
one_long true c = refl
one_long false c = refl

-- the commits of a stream are as many as are its
committed_long : (s : ℕ) (past : List Commit) → length (committed s past) ≡ count_by (λ (c : Commit). c.stream == s) past
committed_long s [] = refl
committed_long s (c ∷ past) =
    let rest = committed_long s past in
    let more = ap length (committed_more s c past) in
    let both = length-append (committed s past) (map named_by (cond (c.stream == s) (c ∷ []) [])) in
    let one = one_long (c.stream == s) c in
    let counted = count_by-cons (λ (d : Commit). d.stream == s) c past in
    sums _ _ _ _ _ rest (more ∙ both) one counted
  where
    sums : (n a b w m : ℕ) → a ≡ w → n ≡ a + b → b ≡ cond (c.stream == s) 1 0 → m ≡ cond (c.stream == s) 1 0 + w → n ≡ m
    sums n a b w m rest more one counted = omega (arith, rest, more, one, counted)

-- and as many as its commits
done_counted :
    (script : ScriptValue) → IsWithinLimits script.setup → ListsEachStream script → (t : List Event) → IsRun script.setup script.opening t → Follows script t → (y : Stream) → IsStreamOf script y
    → count_by (λ (c : Commit). c.stream == y.number) (history t) ≡ done_of t y
done_counted script limits lists t run follows y of =
    sym (committed_long y.number (history t))
    ∙ ap length (names_done script limits y.number y.host y.operations of.host of.operations t run (are_scripted script lists t run follows))
    ∙ numbered_long 0 (take (done_of t y) y.operations) ∙ length-take-le (done_of t y) y.operations (done_within script t run follows y of)

pub commits_are_summed : CommitsAreSummed
commits_are_summed script limits lists t run follows =
    counted_by_stream script.setup.streams script.operations lists (history t) (no_other script t run (are_scripted script lists t run follows))
    ∙ sum_by-same (λ y. count_by (λ (c : Commit). c.stream == y.number) (history t)) (done_of t) (streams_of script)
    (each_weaker (IsStreamOf script) (λ y. count_by (λ (c : Commit). c.stream == y.number) (history t) ≡ done_of t y) (done_counted script limits lists t run follows) (streams_of script) (streams_are script))

pub complete_is_counted : CompleteIsCounted
complete_is_counted script limits lists t run follows =
    let summed = commits_are_summed script limits lists t run follows in
    let all = lengths_same 0 script.setup.streams script.operations lists in (
      λ complete.
          summed
          ∙ sum_by-same (done_of t) (λ y. length y.operations) (streams_of script)
          (each_weaker (λ y. is_all_committed t y ≡ true) (λ y. done_of t y ≡ length y.operations) (λ y is. eqb-true (done_of t y) (length y.operations) is) (streams_of script)
          (each_from_all (is_all_committed t) (streams_of script) complete))
          ∙ all,
      λ counted.
          all_from_each (is_all_committed t) (streams_of script)
          (each_weaker (λ y. done_of t y ≡ length y.operations) (λ y. is_all_committed t y ≡ true) (λ y is. eq-eqb (done_of t y) (length y.operations) is) (streams_of script)
          (sum_equal (done_of t) (λ y. length y.operations) (streams_of script)
          (each_weaker (IsStreamOf script) (λ y. done_of t y ≤ length y.operations) (done_within script t run follows) (streams_of script) (streams_are script))
          (sym summed ∙ counted ∙ sym all))),
    )
