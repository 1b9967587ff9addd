-- A commit on another line changes nothing.
use Rattle.history_laws.proofs.Apart.{flat_line_is_kept, flat_line_is_own, legal_by_lines, legal_is_kept, parts_are_legal}
use Rattle.history_laws.proofs.lines_are_apart.Goals as goal

pub returns-clause-own : goal.returns-clause-own
returns-clause-own c = flat_line_is_own

pub returns-clause-kept : goal.returns-clause-kept
returns-clause-kept c = flat_line_is_kept

pub returns-clause-legal : goal.returns-clause-legal
returns-clause-legal c = legal_is_kept

pub returns-clause-parts : goal.returns-clause-parts
returns-clause-parts c = parts_are_legal

pub returns-clause-lines : goal.returns-clause-lines
returns-clause-lines c = legal_by_lines
