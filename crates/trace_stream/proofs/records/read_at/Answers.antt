use Rattle.trace_stream.proofs.KindsLifted.{says_open}
use Rattle.trace_stream.proofs.records.read_at.Goals as goal

pub returns-in_default : goal.returns-in_default
returns-in_default c = record {
  says = says_open c.args.stage c.args.place c.args.bytes.now _ c.in_default.not-Ended c.outcome_at.ensures.says;
  length = c.outcome_at.ensures.length;
  within = c.outcome_at.ensures.within;
  some = c.outcome_at.ensures.some;
  below = c.outcome_at.ensures.below;
}
