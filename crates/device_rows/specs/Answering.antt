-- An answer of the device as the model has it.
use Rattle.std.specs.Prelude.{List}
use Rattle.std.specs.declared.result.Result.{Result}
use Rattle.cxl_message.specs.declared.identifiers.Bytes64.{Bytes64}
use Rattle.coherence_model.specs.Emission.{Emission}
use Rattle.coherence_model.specs.Refusals.{Answer}
use Rattle.device_state.specs.declared.decisions.Decision.{Decision}
use Rattle.device_state.specs.Decisions.{emission_by}
use Rattle.device_rows.specs.declared.answers.DeviceRefusal.{DeviceRefusal}

-- an answer of a call as the model has it (own rule)
abbrev pub answered : Result Emission DeviceRefusal → Answer
answered (Result.Ok w) = Answer.Emits w
answered (Result.Err (DeviceRefusal.NoCredit c)) = Answer.NoCredit c
answered (Result.Err (DeviceRefusal.Broken rule)) = Answer.Broken rule

-- what was decided as the model has it, with the bytes of memory (own rule)
abbrev pub decided : List Bytes64 → Result Decision DeviceRefusal → Answer
decided memory (Result.Ok d) = Answer.Emits (emission_by memory d)
decided memory (Result.Err (DeviceRefusal.NoCredit c)) = Answer.NoCredit c
decided memory (Result.Err (DeviceRefusal.Broken rule)) = Answer.Broken rule
