-- By the places of lines, and since tasks share no line.
use Rattle.snoop_laws.proofs.Laws.{answers_may_be_taken, snoops_may_be_taken}
use Rattle.snoop_laws.proofs.snoop_messages_may_be_taken.Goals as goal

pub returns-clause-snoops : goal.returns-clause-snoops
returns-clause-snoops c = snoops_may_be_taken

pub returns-clause-answers : goal.returns-clause-answers
returns-clause-answers c = answers_may_be_taken
