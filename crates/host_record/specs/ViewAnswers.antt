-- What a host answers over a view: an emission, or the first refusal in its order; and the acts that are allowed, in theirs. All of it is an own rule.
use Rattle.std.specs.Prelude.{Bool, List, None, Option, Some, [], false, flat_map, if◌then◌else◌, is_none, length, nat_lt, not, ℕ, ◌&&◌, ◌++◌, ◌==◌, ◌∷◌}
use Rattle.std.specs.Option.{option_map_or, option_or}
use Rattle.cxl_message.specs.declared.channels.Channel.{Channel}
use Rattle.cxl_message.specs.declared.events.Act.{Act}
use Rattle.cxl_message.specs.declared.events.Cause.{Cause}
use Rattle.cxl_message.specs.declared.events.Op.{Op}
use Rattle.cxl_message.specs.declared.events.Out.{Out}
use Rattle.cxl_message.specs.declared.events.Sends.{Sends}
use Rattle.cxl_message.specs.declared.identifiers.Line.{Line}
use Rattle.cxl_message.specs.declared.states.RuleNo.{RuleNo}
use Rattle.cxl_message.specs.Channels.{has_credits}
use Rattle.cxl_message.specs.Events.{line_of}
use Rattle.cxl_message.specs.Messages.{channel_of}
use Rattle.cxl_message.specs.Setup.{Configuration}
use Rattle.coherence_model.specs.Credits.{credits_needed}
use Rattle.coherence_model.specs.Emission.{Emission}
use Rattle.coherence_model.specs.HostRows.{host_act_rule, host_take_rule}
use Rattle.coherence_model.specs.Next.{host_return_channels}
use Rattle.coherence_model.specs.Refusals.{Answer, cause_passes, profile_then_order, unless_lacking}
use Rattle.coherence_model.specs.Rules.{most_operations}
use Rattle.coherence_model.specs.Snoops.{Snoop, is_whole_block}
use Rattle.host_record.specs.View.{View, left_of}
use Rattle.host_record.specs.ViewRows.{acts_by, emission_by, hits_copy, lacks_room, may_write, operates_by, spare_tags, victim}

-- the channel of a sent message, where fewer than n of its credits are left
abbrev pub short_of : View → ℕ → Out → Option Channel
short_of v n o = if has_credits (channel_of o.message) && nat_lt (left_of v (channel_of o.message)) n then Some (channel_of o.message) else None

-- the first channel, in the order of the messages, whose credits don't reach
abbrev pub lacking_by : View → Sends → Option Channel
lacking_by v Sends.Nothing = None
lacking_by v (Sends.One o) = short_of v 1 o
lacking_by v (Sends.Two o p) = option_or (short_of v (credits_needed o p) o) (short_of v 1 p)

-- how many free tags an operation on line a needs that doesn't hit
abbrev pub needs_tags : Configuration → ℕ → View → ℕ
needs_tags setup a v = if lacks_room setup v a && option_map_or (λ b. may_write (v.copy b)) (victim v) false then 2 else 1

-- whether an operation doesn't hit and too few tags are free
abbrev pub short_of_tags : Configuration → Op → View → Bool
short_of_tags setup op v = not (hits_copy op (v.copy (line_of op))) && nat_lt (length (spare_tags setup v)) (needs_tags setup (line_of op) v)

-- whether an operation doesn't hit, a victim is needed and no way is idle
abbrev pub short_of_ways : Configuration → Op → View → Bool
short_of_ways setup op v = not (hits_copy op (v.copy (line_of op))) && lacks_room setup v (line_of op) && is_none (victim v)

-- whether an operation's index is its stream's next, and the last one has its commit
abbrev pub in_order : ℕ → ℕ → View → Bool
in_order s i v = (i == v.begun s) && nat_lt i most_operations && not (v.waits s)

-- the row of an operation
abbrev pub rule_by : Op → View → RuleNo
rule_by op v = if hits_copy op (v.copy (line_of op)) then RuleNo.H1 else RuleNo.H2

-- the answer to an operation by what its row emits
abbrev pub operation_or : Configuration → ℕ → ℕ → ℕ → Op → View → Option Emission → Answer
operation_or setup h s i op v None = Answer.Broken (rule_by op v)
operation_or setup h s i op v (Some w) = unless_lacking (lacking_by v w.sends) (profile_then_order (cause_passes setup h (Cause.Op s i op)) (in_order s i v) w)

-- the answer to a take or an act by what its row emits
abbrev pub row_or : RuleNo → View → Option Emission → Answer
row_or rule v None = Answer.Broken rule
row_or rule v (Some w) = unless_lacking (lacking_by v w.sends) (Answer.Emits w)

-- the answer to an operation: NoSuchLine, Again, NoTag, NoWay, NoCredit, P0, S0
abbrev pub operation_answer_by : Configuration → ℕ → ℕ → ℕ → Op → View → Answer
operation_answer_by setup h s i op v =
    if not (nat_lt (line_of op) setup.lines) then Answer.NoSuchLine
    else (if not (v.quiet (line_of op)) then Answer.Again
    else (if short_of_tags setup op v then Answer.NoTag
    else (if short_of_ways setup op v then Answer.NoWay
    else operation_or setup h s i op v (operates_by setup h s i op v))))

-- the answer of a host: to a take or an act P0, the row, NoCredit
abbrev pub answers_by : Configuration → ℕ → Cause → View → Answer
answers_by setup h (Cause.Op s i op) v = operation_answer_by setup h s i op v
answers_by setup h (Cause.Take g m) v =
    if cause_passes setup h (Cause.Take g m) then row_or (host_take_rule m) v (emission_by setup h (Cause.Take g m) v) else Answer.Broken RuleNo.P0
answers_by setup h (Cause.Act act) v =
    if cause_passes setup h (Cause.Act act) then row_or (host_act_rule act) v (emission_by setup h (Cause.Act act) v) else Answer.Broken RuleNo.P0

-- an act in a list where its row gave an emission whose credits reach, else none
abbrev pub act_if : Configuration → ℕ → View → Act → Option Emission → List Act
act_if setup h v act None = []
act_if setup h v act (Some w) = if is_none (lacking_by v w.sends) then act ∷ [] else []

-- the act in a list where its row holds, credits included
abbrev pub act_list : Configuration → ℕ → View → Act → List Act
act_list setup h v act = act_if setup h v act (acts_by setup h act v)

-- the first of two lists that isn't empty
abbrev pub or_acts : List Act → List Act → List Act
or_acts [] ys = ys
or_acts (x ∷ xs) ys = x ∷ xs

-- the one of Conflict, WriteBack and Answer that is allowed for a line
abbrev pub line_acts_by : Configuration → ℕ → View → ℕ → List Act
line_acts_by setup h v a =
    let line : Line = record { 0 = a } in
    or_acts (act_list setup h v (Act.Conflict line)) (or_acts (act_list setup h v (Act.WriteBack line)) (act_list setup h v (Act.Answer line)))

-- AnswerBlock for a buffered snoop, if none of its lines was answered
abbrev pub block_acts_by : Configuration → ℕ → View → Snoop → List Act
block_acts_by setup h v s = if is_whole_block s.first s then act_list setup h v (Act.AnswerBlock (record { 0 = s.first })) else []

-- the acts for a buffered snoop
abbrev pub snoop_acts_by : Configuration → ℕ → View → Snoop → List Act
snoop_acts_by setup h v s = or_acts (block_acts_by setup h v s) (flat_map (line_acts_by setup h v) s.unanswered)

-- the acts that are allowed, in their order: for each buffered snoop, then the returns
abbrev pub allowed_by : Configuration → ℕ → View → List Act
allowed_by setup h v = flat_map (snoop_acts_by setup h v) v.snoops ++ flat_map (λ c. act_list setup h v (Act.HostReturn c)) host_return_channels
