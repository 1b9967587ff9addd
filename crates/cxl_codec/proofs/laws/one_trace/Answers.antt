use Rattle.cxl_codec.proofs.TraceReads.{determined}
use Rattle.cxl_codec.proofs.laws.one_trace.Goals as goal

pub returns : goal.returns
returns c = determined
