-- Ways and credits of a host's own runs.
use Rattle.std.proofs.Common.{arith, ℕ, ◌+◌, ◌-◌, ◌≡◌, ◌≤◌}
use Rattle.coherence_model.specs.Credits.{returned_count, taken_count}
use Rattle.coherence_model.specs.Snoops.{host_buffered}
use Rattle.request_laws.proofs.OwnRuns.{host_is_no_device}
use Rattle.host_laws.specs.OwnFacts.{HeldWithinCredits, OwedAndBufferedAreHeld, SentWithinCredits, WaysAreExact, WaysAreFew}
use Rattle.host_laws.proofs.Credits.{purses}
use Rattle.host_laws.proofs.Keeps.{keeps}

pub ways_are_exact : WaysAreExact
ways_are_exact setup opening limits h low mine run a = (keeps setup opening h (host_is_no_device setup limits h low) mine run).cache.ways_are a

pub ways_are_few : WaysAreFew
ways_are_few setup opening limits h low mine run = (keeps setup opening h (host_is_no_device setup limits h low) mine run).cache.few

pub sent_within_credits : SentWithinCredits
sent_within_credits setup opening limits h low mine run c credited = (purses setup opening h (host_is_no_device setup limits h low) mine run).sent c credited

both_held : (t r b : ℕ) → r + b ≤ t → ((t - b) - r) + b ≡ t - r
both_held t r b within = omega arith

pub owed_and_buffered_are_held : OwedAndBufferedAreHeld
owed_and_buffered_are_held setup opening limits h low mine run c credited =
    let p = (purses setup opening h (host_is_no_device setup limits h low) mine run).held c credited in
    both_held (taken_count h c mine) (returned_count h c mine) (host_buffered c mine) p.within

pub held_within_credits : HeldWithinCredits
held_within_credits setup opening limits h low mine run c credited = ((purses setup opening h (host_is_no_device setup limits h low) mine run).held c credited).few
