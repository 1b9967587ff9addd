-- The commits of a run that follows a script are of the script's operations.
use Rattle.std.proofs.Common.{◌≡◌, ℕ, true, length, take, ap, ◌∙◌, arith}
use Rattle.std.specs.Prelude.{not}
use Rattle.std.specs.List.{list_all}
use Rattle.std.proofs.lemmas.Bool.{and_parts, eqb-true, not-true}
use Rattle.std.proofs.lemmas.List.{take_all}
use Rattle.coherence_model.specs.Choices.{is_all_begun, streams_of}
use Rattle.coherence_model.specs.Pending.{is_pending}
use Rattle.coherence_model.specs.Streams.{begun_count, stream_waits}
use Rattle.coherence_model.specs.Traces.{events_of}
use Rattle.step_laws.proofs.Counts.{each_from_all}
use Rattle.commit_laws.specs.Commits.{numbered}
use Rattle.commit_laws.specs.Laws.{FollowedCommits, FollowingIsComplete}
use Rattle.commit_laws.proofs.Fronts.{are_scripted}
use Rattle.commit_laws.proofs.Named.{names_done, no_other}
use Rattle.commit_laws.proofs.Rest.{all_done, at_rest_no_stream_waits}
use Rattle.commit_laws.proofs.Streams.{each_at, host_of, stream_at}

pub followed_commits : FollowedCommits
followed_commits script limits lists t run follows s h ops host list = names_done script limits s h ops host list t run (are_scripted script lists t run follows)

pub following_is_complete : FollowingIsComplete
following_is_complete script limits lists t run follows done =
    let parts = and_parts (list_all (is_all_begun t) (streams_of script)) (not (is_pending script.setup t)) done in
    let idle = not-true (is_pending script.setup t) parts.1 in
    let named = are_scripted script lists t run follows in
    record {
      streams = λ s ops list.
          let host = host_of script lists s ops list in
          let mine = events_of host.0 t in
          let begun = eqb-true (begun_count s mine) (length ops)
          (each_at (λ y. is_all_begun t y ≡ true) (streams_of script) s _ (each_from_all (is_all_begun t) (streams_of script) parts.0) (stream_at script s host.0 ops host.1 list)) in
          names_done script limits s host.0 ops host.1 list t run named
          ∙ ap (λ (n : ℕ). numbered 0 (take n ops))
          (all_done (begun_count s mine) (length ops) (stream_waits s mine) (at_rest_no_stream_waits script.setup script.opening limits t run idle s host.0 host.1) begun)
          ∙ ap (numbered 0) (take_all (length ops) ops (omega arith));
      no_other = no_other script t run named;
    }
