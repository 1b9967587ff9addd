-- 64 zeros are read whole.
use Rattle.cxl_codec.proofs.ZeroRuns.{zeros_read}
use Rattle.cxl_codec.proofs.reading.read_zeros.Goals as goal

pub returns : goal.returns
returns c = zeros_read _ _ _ _ (c.all_zero.ensures.0 c.if-all_zero.true) c.in-Ok.ensures
