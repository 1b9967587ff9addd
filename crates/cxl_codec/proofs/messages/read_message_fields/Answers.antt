-- A snoop is read alike in both versions.
use Rattle.cxl_codec.proofs.messages.read_message_fields.Goals as goal

pub returns-in-BiSnp : goal.returns-in-BiSnp
returns-in-BiSnp c = rw c.in-BiSnp.is (c.read_snoop.ensures c.args.version)
