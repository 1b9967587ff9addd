-- What an agent answers to a cause after its own events: an emission, or the first refusal in the agent's order. Every order here is an own rule.
use Rattle.std.specs.Prelude.{Bool, List, None, Option, Some, false, if◌then◌else◌, is_none, length, nat_lt, not, true, ℕ, ◌&&◌}
use Rattle.cxl_message.specs.declared.channels.Channel.{Channel}
use Rattle.cxl_message.specs.declared.events.Cause.{Cause}
use Rattle.cxl_message.specs.declared.events.Event.{Event}
use Rattle.cxl_message.specs.declared.events.Op.{Op}
use Rattle.cxl_message.specs.declared.identifiers.Bytes64.{Bytes64}
use Rattle.cxl_message.specs.declared.identifiers.Line.{Line}
use Rattle.cxl_message.specs.declared.states.RuleNo.{RuleNo}
use Rattle.cxl_message.specs.Events.{line_of}
use Rattle.cxl_message.specs.Formed.{cause_formed}
use Rattle.cxl_message.specs.Setup.{Configuration}
use Rattle.coherence_model.specs.Cache.{needs_eviction, needs_victim, victim_way}
use Rattle.coherence_model.specs.Credits.{lacking_channel}
use Rattle.coherence_model.specs.DeviceRows.{device_emission, device_rule}
use Rattle.coherence_model.specs.Emission.{Emission}
use Rattle.coherence_model.specs.Fitting.{cause_fits}
use Rattle.coherence_model.specs.HostOperations.{hits, host_operates}
use Rattle.coherence_model.specs.HostRows.{host_emission, host_rule}
use Rattle.coherence_model.specs.Rules.{s0_stream_order}
use Rattle.coherence_model.specs.Snoops.{is_quiet}
use Rattle.coherence_model.specs.Tags.{free_tags}
use Rattle.coherence_model.specs.Traces.{device}

-- what an agent answers: an emission, or why it refuses (own rule)
pub data Answer : Type 0 where
  Emits : Emission → Answer
  NoSuchLine : Answer
  Again : Answer
  NoTag : Answer
  NoWay : Answer
  NoCredit : Channel → Answer
  Broken : RuleNo → Answer

-- how many free tags an operation on line a needs that doesn't hit: two where an eviction is needed (own rule)
abbrev pub tags_needed : Configuration → ℕ → List Event → ℕ
tags_needed setup a mine = if needs_eviction setup a mine then 2 else 1

-- whether an operation doesn't hit and too few tags are free (own rule)
abbrev pub is_short_of_tags : Configuration → Op → List Event → Bool
is_short_of_tags setup op mine = not (hits setup op mine) && nat_lt (length (free_tags setup mine)) (tags_needed setup (line_of op) mine)

-- whether an operation doesn't hit, a victim is needed and no way is idle (own rule)
abbrev pub is_short_of_ways : Configuration → Op → List Event → Bool
is_short_of_ways setup op mine = not (hits setup op mine) && needs_victim setup (line_of op) mine && is_none (victim_way setup mine)

-- NoCredit for the channel whose credits don't reach, or else the answer (own rule)
abbrev pub unless_lacking : Option Channel → Answer → Answer
unless_lacking None answer = answer
unless_lacking (Some c) answer = Answer.NoCredit c

-- the answer to an operation whose line, tags, ways and credits are there: P0 and S0 are tried last (own rule)
abbrev pub profile_then_order : Bool → Bool → Emission → Answer
profile_then_order false s0 w = Answer.Broken RuleNo.P0
profile_then_order true false w = Answer.Broken RuleNo.S0
profile_then_order true true w = Answer.Emits w

-- whether an agent may have a cause: it is well formed, and what it names exists (own rule)
abbrev pub cause_passes : Configuration → ℕ → Cause → Bool
cause_passes setup g cause = cause_formed cause && cause_fits setup g cause

-- the answer to an operation by what its row emits (own rule)
abbrev pub answer_to_operation : Configuration → ℕ → Cause → List Event → Option Emission → Answer
answer_to_operation setup h cause mine None = Answer.Broken (host_rule setup cause mine)
answer_to_operation setup h cause mine (Some w) =
    unless_lacking (lacking_channel setup w.sends mine) (profile_then_order (cause_passes setup h cause) (s0_stream_order cause mine) w)

-- the answer to a take or an act by what its row emits: the row, then the credits (own rule)
abbrev pub answer_to_row : Configuration → RuleNo → List Event → Option Emission → Answer
answer_to_row setup rule mine None = Answer.Broken rule
answer_to_row setup rule mine (Some w) = unless_lacking (lacking_channel setup w.sends mine) (Answer.Emits w)

-- a host's answer to an operation: NoSuchLine, Again, NoTag, NoWay, NoCredit, P0, S0 (own rule)
abbrev pub operation_answer : Configuration → ℕ → ℕ → ℕ → Op → List Event → Answer
operation_answer setup h s i op mine =
    if not (nat_lt (line_of op) setup.lines) then Answer.NoSuchLine
    else (if not (is_quiet (line_of op) mine) then Answer.Again
    else (if is_short_of_tags setup op mine then Answer.NoTag
    else (if is_short_of_ways setup op mine then Answer.NoWay
    else answer_to_operation setup h (Cause.Op s i op) mine (host_operates setup h s i op mine))))

-- a host's answer to a take or an act: P0, the row, NoCredit (own rule)
abbrev pub host_row_answer : Configuration → ℕ → Cause → List Event → Answer
host_row_answer setup h cause mine =
    if cause_passes setup h cause
    then answer_to_row setup (host_rule setup cause mine) mine (host_emission setup h cause mine)
    else Answer.Broken RuleNo.P0

-- a host's answer after its own events (own rule)
abbrev pub host_answer : Configuration → ℕ → Cause → List Event → Answer
host_answer setup h (Cause.Op s i op) mine = operation_answer setup h s i op mine
host_answer setup h (Cause.Take host m) mine = host_row_answer setup h (Cause.Take host m) mine
host_answer setup h (Cause.Act act) mine = host_row_answer setup h (Cause.Act act) mine

-- the device's answer after its own events: P0, the row, NoCredit (own rule)
abbrev pub device_answer : Configuration → List (Line × Bytes64) → Cause → List Event → Answer
device_answer setup opening cause mine =
    if cause_passes setup device cause
    then answer_to_row setup (device_rule cause) mine (device_emission setup opening cause mine)
    else Answer.Broken RuleNo.P0
