-- A header is read alike whatever the version.
use Rattle.cxl_codec.specs.declared.versions.Version.{Version}
use Rattle.trace_stream.proofs.records.record_at.Goals as goal

pub returns-in-Start : goal.returns-in-Start
returns-in-Start c = rw c.in-Start.is (c.first_record.ensures Version.One)
