-- Facts of a host over every list of its own events that its rules allow, whatever its peers did: its ways, and its credits.
use Rattle.std.specs.Prelude.{IsTrue, List, length, ℕ, ◌+◌, ◌||◌, ◌≡◌, ◌≤◌}
use Rattle.cxl_message.specs.declared.channels.Channel.{Channel}
use Rattle.cxl_message.specs.declared.events.Event.{Event}
use Rattle.cxl_message.specs.Channels.{has_credits}
use Rattle.cxl_message.specs.Lists.{is_in}
use Rattle.cxl_message.specs.Setup.{Configuration}
use Rattle.coherence_model.specs.Cache.{has_copy, ways}
use Rattle.coherence_model.specs.Credits.{earned_count, held_count, sent_count}
use Rattle.coherence_model.specs.OwnRuns.{ForEachHostRun}
use Rattle.coherence_model.specs.Snoops.{host_buffered, host_owed}
use Rattle.coherence_model.specs.Transactions.{has_request}

-- a line has a way exactly where it has a copy or an open request
abbrev pub WaysAreExact : Type 0
WaysAreExact = ForEachHostRun (λ setup h mine. (a : ℕ) → is_in a (ways setup mine) ≡ (has_copy setup a mine || has_request a mine))

-- there are at most the setup's ways
abbrev pub WaysAreFew : Type 0
WaysAreFew = ForEachHostRun (λ setup h mine. length (ways setup mine) ≤ setup.ways)

-- a fact on each channel with credits
abbrev pub ForEachPurse : (Configuration → ℕ → Channel → List Event → Type 0) → Type 0
ForEachPurse Fact = ForEachHostRun (λ setup h mine. (c : Channel) → IsTrue (has_credits c) → Fact setup h c mine)

-- no more was sent than the credits and the Credits taken
abbrev pub SentWithinCredits : Type 0
SentWithinCredits = ForEachPurse (λ setup h c mine. sent_count h c mine ≤ setup.credits + earned_count h c mine)

-- what is owed and what is buffered are together what is held
abbrev pub OwedAndBufferedAreHeld : Type 0
OwedAndBufferedAreHeld = ForEachPurse (λ setup h c mine. host_owed h c mine + host_buffered c mine ≡ held_count h c mine)

-- and that is never more than the credits
abbrev pub HeldWithinCredits : Type 0
HeldWithinCredits = ForEachPurse (λ setup h c mine. held_count h c mine ≤ setup.credits)
