-- The model's answers of a host as calls give them. All of it is an own rule.
use Rattle.std.specs.Prelude.{Err, Ok, Result}
use Rattle.cxl_message.specs.declared.events.Event.{Event}
use Rattle.coherence_model.specs.Emission.{Emission}
use Rattle.coherence_model.specs.Refusals.{Answer}
use Rattle.host_plans.specs.declared.plans.Unplanned.{Unplanned}
use Rattle.host_rows.specs.declared.answers.HostRefusal.{HostRefusal}

-- an answer as a call gives it
abbrev pub as_result : Answer → Result Emission HostRefusal
as_result (Answer.Emits w) = Ok w
as_result Answer.NoSuchLine = Err HostRefusal.NoSuchLine
as_result Answer.Again = Err HostRefusal.Again
as_result Answer.NoTag = Err HostRefusal.NoTag
as_result Answer.NoWay = Err HostRefusal.NoWay
as_result (Answer.NoCredit c) = Err (HostRefusal.NoCredit c)
as_result (Answer.Broken rule) = Err (HostRefusal.Broken rule)

-- the refusal of an operation without a plan
abbrev pub refused_as : Unplanned → HostRefusal
refused_as Unplanned.NoSuchLine = HostRefusal.NoSuchLine
refused_as Unplanned.Again = HostRefusal.Again
refused_as Unplanned.NoTag = HostRefusal.NoTag
refused_as Unplanned.NoWay = HostRefusal.NoWay

-- what an event sends and commits
abbrev pub emission_in : Event → Emission
emission_in e = record { sends = e.sends; commit = e.commit }

-- the answer of a call that leaves the event in a room: what the event sends and commits, or the refusal
abbrev pub told : {A : Type 0} → Result A HostRefusal → Event → Result Emission HostRefusal
told (Ok row) e = Ok (emission_in e)
told (Err refusal) e = Err refusal
