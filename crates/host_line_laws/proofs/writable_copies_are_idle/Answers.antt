-- By four numbers of a line that each row keeps.
use Rattle.host_line_laws.proofs.Laws.{open_lines_are_unwritable, writing_lines_are_given_up, written_lines_are_given_up}
use Rattle.host_line_laws.proofs.writable_copies_are_idle.Goals as goal

pub returns-clause-opened : goal.returns-clause-opened
returns-clause-opened c = open_lines_are_unwritable

pub returns-clause-writing : goal.returns-clause-writing
returns-clause-writing c = writing_lines_are_given_up

pub returns-clause-written : goal.returns-clause-written
returns-clause-written c = written_lines_are_given_up
