-- The line of an act is read alike in both versions.
use Rattle.cxl_codec.proofs.acts.read_act_fields.Goals as goal

pub returns-in-Line : goal.returns-in-Line
returns-in-Line c = rw c.in-Line.is (c.read_line_act.ensures c.args.version)
