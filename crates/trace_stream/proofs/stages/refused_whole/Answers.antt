-- Whether a name is refused is the same for every name.
use Rattle.trace_stream.proofs.stages.refused_whole.Goals as goal

pub returns-in-Name : goal.returns-in-Name
returns-in-Name c = rw c.in-Name.is (c.refused_name.ensures c.args.room.now.name)
