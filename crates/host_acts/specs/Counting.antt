-- The allowed acts of an agent, counted and picked without a list of them. All of it is an own rule.
use Rattle.std.specs.Prelude.{Bool, List, None, Option, Some, [], false, filter_map, if◌then◌else◌, is_none, length, nat_lt, sum_by, ℕ, ◌&&◌, ◌+◌, ◌-◌, ◌==◌, ◌∷◌}
use Rattle.std.specs.Option.{option_map_or}
use Rattle.cxl_message.specs.declared.channels.Channel.{Channel}
use Rattle.cxl_message.specs.declared.events.Act.{Act}
use Rattle.coherence_model.specs.Next.{host_return_channels}
use Rattle.coherence_model.specs.Snoops.{Snoop, is_whole_block}
use Rattle.host_record.specs.HostRecord.{view_in}
use Rattle.host_record.specs.Stands.{acts_in}
use Rattle.host_record.specs.ViewAnswers.{lacking_by}
use Rattle.host_record.specs.ViewRows.{acts_by}
use Rattle.host_tables.specs.Agent.{AgentRecord}

-- the allowed acts of an agent, in their order
abbrev pub acts_of_agent : AgentRecord → List Act
acts_of_agent agent = acts_in agent.setup agent.host agent.kept

-- whether an act's row holds, credits included
abbrev pub may_act : AgentRecord → Act → Bool
may_act agent act = option_map_or (λ w. is_none (lacking_by (view_in agent.kept) w.sends)) (acts_by agent.setup agent.host act (view_in agent.kept)) false

-- the one of Conflict, WriteBack and Answer that is allowed for a line
abbrev pub line_act_of : AgentRecord → ℕ → Option Act
line_act_of agent a =
    if may_act agent (Act.Conflict (record { 0 = a })) then Some (Act.Conflict (record { 0 = a }))
    else (if may_act agent (Act.WriteBack (record { 0 = a })) then Some (Act.WriteBack (record { 0 = a }))
    else (if may_act agent (Act.Answer (record { 0 = a })) then Some (Act.Answer (record { 0 = a })) else None))

-- whether AnswerBlock is allowed for a snoop
abbrev pub may_answer_whole : AgentRecord → Snoop → Bool
may_answer_whole agent s = is_whole_block s.first s && may_act agent (Act.AnswerBlock (record { 0 = s.first }))

-- how many acts are allowed for a snoop: AnswerBlock alone, or those for its lines
abbrev pub snoop_act_count_of : AgentRecord → Snoop → ℕ
snoop_act_count_of agent s = if may_answer_whole agent s then 1 else length (filter_map (line_act_of agent) s.unanswered)

-- the return of a Credit for a channel, where it is allowed
abbrev pub return_act_of : AgentRecord → Channel → Option Act
return_act_of agent c = if may_act agent (Act.HostReturn c) then Some (Act.HostReturn c) else None

-- how many acts are allowed
abbrev pub act_count_of : AgentRecord → ℕ
act_count_of agent = sum_by (snoop_act_count_of agent) agent.kept.snoops + length (filter_map (return_act_of agent) host_return_channels)

-- one more that may have an act: the act of number k is its own, or one of the rest
abbrev pub nth_or : Option Act → (ℕ → Option Act) → ℕ → Option Act
nth_or None rest k = rest k
nth_or (Some act) rest k = if k == 0 then Some act else rest (k - 1)

-- the act of number k of those that some have
abbrev pub nth_of : {X : Type 0} → (X → Option Act) → List X → ℕ → Option Act
nth_of act [] k = None
nth_of act (x ∷ xs) k = nth_or (act x) (nth_of act xs) k

-- the allowed act of a snoop with number k
abbrev pub snoop_act_at_of : AgentRecord → Snoop → ℕ → Option Act
snoop_act_at_of agent s k =
    if may_answer_whole agent s then (if k == 0 then Some (Act.AnswerBlock (record { 0 = s.first })) else None)
    else nth_of (line_act_of agent) s.unanswered k

-- the allowed return with number k
abbrev pub return_at_of : AgentRecord → ℕ → Option Act
return_at_of agent k = nth_of (return_act_of agent) host_return_channels k

-- the allowed act with number k of some snoops and then of the returns
abbrev pub pick_of : AgentRecord → List Snoop → ℕ → Option Act
pick_of agent [] k = return_at_of agent k
pick_of agent (s ∷ ss) k = if nat_lt k (snoop_act_count_of agent s) then snoop_act_at_of agent s k else pick_of agent ss (k - snoop_act_count_of agent s)

-- the allowed act with number k
abbrev pub act_at_of : AgentRecord → ℕ → Option Act
act_at_of agent k = pick_of agent agent.kept.snoops k
