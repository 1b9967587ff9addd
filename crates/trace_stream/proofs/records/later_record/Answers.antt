-- An end record is alike in both versions.
use Rattle.trace_stream.proofs.records.later_record.Goals as goal

pub returns-then-begins : goal.returns-then-begins
returns-then-begins c = c.end_record.ensures c.args.version _
