-- By the places of requests, writes, grants and snoops, and by the credits of the channels.
use Rattle.progress_laws.proofs.HostTakes.{completions_taken, credits_down_taken, credits_up_taken, data_taken}
use Rattle.progress_laws.proofs.SnoopTakes.{answers_taken, snoops_taken}
use Rattle.progress_laws.proofs.Takes.{requests_may_be_taken}
use Rattle.progress_laws.proofs.Writes.{writes_may_be_taken}
use Rattle.progress_laws.proofs.messages_may_be_taken.Goals as goal

pub returns-clause-requests : goal.returns-clause-requests
returns-clause-requests c = requests_may_be_taken

pub returns-clause-writes : goal.returns-clause-writes
returns-clause-writes c = writes_may_be_taken

pub returns-clause-answers : goal.returns-clause-answers
returns-clause-answers c = answers_taken

pub returns-clause-completions : goal.returns-clause-completions
returns-clause-completions c = completions_taken

pub returns-clause-data_sent : goal.returns-clause-data_sent
returns-clause-data_sent c = data_taken

pub returns-clause-snoops : goal.returns-clause-snoops
returns-clause-snoops c = snoops_taken

pub returns-clause-credits_up : goal.returns-clause-credits_up
returns-clause-credits_up c = credits_up_taken

pub returns-clause-credits_down : goal.returns-clause-credits_down
returns-clause-credits_down c = credits_down_taken
