-- The laws, by the balance of the totals.
use Rattle.std.proofs.Common.{◌≡◌, Bool, true, IsTrue, List, [], ◌∷◌, refl, arith}
use Rattle.std.specs.Prelude.{◌==◌}
use Rattle.std.specs.List.{list_all}
use Rattle.std.proofs.lemmas.Bool.{and_from, eq-eqb}
use Rattle.cxl_message.specs.declared.channels.Channel.{Channel}
use Rattle.cxl_message.specs.Channels.{has_credits}
use Rattle.cxl_message.specs.Lists.{below}
use Rattle.coherence_model.specs.CreditFacts.{credited_channels, credits_counted}
use Rattle.credit_laws.specs.Laws.{BufferedAndOwedAreHeld, CreditsAddUp, CreditsOfChannelsAddUp, HeldWithinCredits, ReturnedAreEarnedOrInFlight, ReturnedWereTaken, SentAreTakenOrInFlight, SentWithinCredits}
use Rattle.credit_laws.proofs.Balance.{balanced}

pub credits_of_channels_add_up : CreditsOfChannelsAddUp
credits_of_channels_add_up setup opening t run h c credited =
    let balance = balanced setup opening h c credited t run in
    omega (arith, balance.messages, balance.credits, balance.within, balance.held)

-- what passes everywhere passes in a list
all_pass : {A : Type 0} (test : A → Bool) (xs : List A) → ((x : A) → test x ≡ true) → list_all test xs ≡ true
all_pass test [] each = refl
all_pass test (x ∷ xs) each = and_from _ _ (each x) (all_pass test xs each)

-- what passes at the six channels that have credits
six_pass : (test : Channel → Bool) → ((c : Channel) → IsTrue (has_credits c) → test c ≡ true) → list_all test credited_channels ≡ true
six_pass test each =
    and_from _ _ (each Channel.Req refl) (and_from _ _ (each Channel.Rwd refl) (and_from _ _ (each Channel.BiRsp refl)
    (and_from _ _ (each Channel.Ndr refl) (and_from _ _ (each Channel.Drs refl) (and_from _ _ (each Channel.BiSnp refl) refl)))))

pub credits_add_up : CreditsAddUp
credits_add_up setup opening t run =
    all_pass (λ h. list_all (λ c. credits_counted setup t h c == setup.credits) credited_channels) (below setup.hosts)
    (λ h. six_pass (λ c. credits_counted setup t h c == setup.credits) (λ c credited. eq-eqb (credits_counted setup t h c) setup.credits (credits_of_channels_add_up setup opening t run h c credited)))

pub sent_are_taken_or_in_flight : SentAreTakenOrInFlight
sent_are_taken_or_in_flight setup opening t run h c credited = (balanced setup opening h c credited t run).messages

pub returned_are_earned_or_in_flight : ReturnedAreEarnedOrInFlight
returned_are_earned_or_in_flight setup opening t run h c credited = (balanced setup opening h c credited t run).credits

pub sent_within_credits : SentWithinCredits
sent_within_credits setup opening t run h c credited = (balanced setup opening h c credited t run).within

pub returned_were_taken : ReturnedWereTaken
returned_were_taken setup opening t run h c credited = let balance = balanced setup opening h c credited t run in omega (arith, balance.held)

pub held_within_credits : HeldWithinCredits
held_within_credits setup opening t run h c credited =
    let balance = balanced setup opening h c credited t run in
    omega (arith, balance.messages, balance.credits, balance.within)

pub buffered_and_owed_are_held : BufferedAndOwedAreHeld
buffered_and_owed_are_held setup opening t run h c credited = let balance = balanced setup opening h c credited t run in omega (arith, balance.held)
