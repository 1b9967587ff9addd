-- The last of the bytes that wait are forgotten.
use Rattle.trace_stream.proofs.InPlace.{left_off}
use Rattle.trace_stream.proofs.waiting.Waiting.leave.Goals as goal

pub returns-then-self-ne0 : goal.returns-then-self-ne0
returns-then-self-ne0 c = left_off c.self.inside.bytes.items c.args.self.now c.self.inside.start c.args.count c.len.result _ c.self.view_is c.len.ensures.value c.truncate.ensures.items

pub returns-else-self-ne0 : goal.returns-else-self-ne0
returns-else-self-ne0 c = left_off c.self.inside.bytes.items c.args.self.now c.self.inside.start c.args.count c.len.result _ c.self.view_is c.len.ensures.value c.truncate.ensures.items
