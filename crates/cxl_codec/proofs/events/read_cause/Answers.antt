-- An operation is read alike in both versions.
use Rattle.std.proofs.Common.{rules}
use Rattle.cxl_codec.specs.ReadingRooms.{begun_at, begun_fields_at}
use Rattle.cxl_codec.specs.ReadingEvents.{cause_at, cause_fields_at}
use Rattle.cxl_codec.proofs.events.read_cause.Goals as goal

pub returns-in-Op-clause-gives : goal.returns-in-Op-clause-gives
unfolding begun_at begun_fields_at cause_at cause_fields_at
returns-in-Op-clause-gives c =
    let gives = c.read_begun.ensures.gives c.args.version in
    search (rules, gives)
