-- The walk and the head are after the same items.
use Rattle.trace_migration.specs.Walks.{left}
use Rattle.trace_migration.proofs.Surveyed.{SurveyAt}
use Rattle.trace_migration.proofs.surveys.survey.Given as goal

abbrev pub invariant-loop-found : goal.invariant-loop-found
invariant-loop-found l = SurveyAt l.bytes l.walk l.head

abbrev pub decreases-loop-found : goal.decreases-loop-found
decreases-loop-found l = left l.walk
