-- Each table is one of a constant look-back.
use Rattle.host_record.proofs.Opened.{records_begin}
use Rattle.host_record.proofs.records_begin.Goals as goal

pub returns : goal.returns
returns c = records_begin
