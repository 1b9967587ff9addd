-- The numbers of a setup that is read are within their limits.
use Rattle.std.proofs.Common.{arith, rules}
use Rattle.cxl_codec.specs.ReadingFiles.{setup_at}
use Rattle.cxl_codec.proofs.Meanings.{bytes_from}
use Rattle.cxl_codec.proofs.HeaderReads.{setup_within}
use Rattle.cxl_codec.proofs.headers.read_setup.Goals as goal

pub setup_within-setup-requires : goal.setup_within-setup-requires
unfolding setup_at
setup_within-setup-requires c =
    setup_within c.args.version c.args.bytes.now (bytes_from c.args.bytes.now (λ i. omega (arith, c.type_inv.bytes i))) _ c.in_ok-streams.rest.now (search rules)
