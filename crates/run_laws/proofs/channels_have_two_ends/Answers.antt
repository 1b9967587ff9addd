-- By recursion over the run: another agent's event neither sends nor takes there.
use Rattle.coherence_lemmas.proofs.Channels.{sent_on-own, taken_on-own}
use Rattle.run_laws.proofs.channels_have_two_ends.Goals as goal

pub returns-clause-sent : goal.returns-clause-sent
returns-clause-sent c = sent_on-own

pub returns-clause-taken : goal.returns-clause-taken
returns-clause-taken c = taken_on-own
