-- What is known of an operation that goes, and what its messages open. All of it is an own rule.
use Rattle.std.specs.Prelude.{IsTrue, ℕ, ◌+◌, ◌<◌, ◌^◌, ◌≡◌}
use Rattle.cxl_message.specs.declared.events.Op.{Op}
use Rattle.cxl_message.specs.declared.events.Sends.{Sends}
use Rattle.cxl_message.specs.Formed.{place_exists}
use Rattle.coherence_model.specs.Emission.{Emission}
use Rattle.host_record.specs.HostChanges.{opened_by, with_opened}
use Rattle.host_record.specs.HostRecord.{HostRecord, stream_in}
use Rattle.host_plans.specs.declared.plans.Plan.{Plan}
use Rattle.host_plans.specs.Plans.{planned_emission}

-- an operation goes by its plan: it emits what the plan says, its place exists, and its stream may begin one more
pub record GoesOn (h s i : ℕ) (k : HostRecord) (op : Op) (plan : Plan) (w : Emission) : Type 0 where
  pub emits : w ≡ planned_emission h s i k.ways op plan
  pub place : IsTrue (place_exists op)
  pub begins : (stream_in k.streams s).begun + 1 < 2 ^ 32

-- what is kept after the messages of an operation opened what they do
abbrev pub opened_all : ℕ → ℕ → Op → Sends → HostRecord → HostRecord
opened_all s i op Sends.Nothing k = k
opened_all s i op (Sends.One o) k = with_opened (opened_by s i op o.message) k
opened_all s i op (Sends.Two o p) k = with_opened (opened_by s i op p.message) (with_opened (opened_by s i op o.message) k)
