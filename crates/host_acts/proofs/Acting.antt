-- Whether an act may be done, by the head of what it sends.
use Rattle.std.proofs.Common.{None, Option, Some, ap, false, sym, ◌∙◌, ◌≡◌}
use Rattle.std.specs.Prelude.{is_none}
use Rattle.std.specs.Option.{option_map_or}
use Rattle.cxl_message.specs.declared.events.Act.{Act}
use Rattle.coherence_model.specs.Emission.{Emission}
use Rattle.event_room.specs.declared.messages.MessageHead.{MessageHead}
use Rattle.host_acts.specs.Counting.{may_act}
use Rattle.host_record.specs.HostRecord.{view_in}
use Rattle.host_record.specs.ViewAnswers.{lacking_by}
use Rattle.host_record.specs.ViewRows.{acts_by}
use Rattle.host_rows.specs.Rows.{act_emission, head_channel, short_on}
use Rattle.host_rows.proofs.Deciding.{act_short}
use Rattle.host_tables.specs.Agent.{AgentRecord}

pub act_may : (agent : AgentRecord) (act : Act) (head : MessageHead) → Some (act_emission agent.host act agent.kept head) ≡ acts_by agent.setup agent.host act (view_in agent.kept)
    → is_none (short_on (view_in agent.kept) 1 (head_channel head)) ≡ may_act agent act
act_may agent act head holds =
    sym (ap (λ c. is_none c) (act_short (view_in agent.kept) agent.host act agent.kept head))
    ∙ ap (λ (o : Option Emission). option_map_or (λ w. is_none (lacking_by (view_in agent.kept) w.sends)) o false) holds

pub act_may_not : (agent : AgentRecord) (act : Act) → None ≡ acts_by agent.setup agent.host act (view_in agent.kept) → false ≡ may_act agent act
act_may_not agent act fails = ap (λ (o : Option Emission). option_map_or (λ w. is_none (lacking_by (view_in agent.kept) w.sends)) o false) fails
