-- The event in the room is the answer, or the refusal is.
use Rattle.std.proofs.Common.{Ok, ap, ◌∙◌}
use Rattle.machine_agents.proofs.Answers.{event_is_made, host_seen, refusal_is_made}
use Rattle.machine_agents.proofs.hosts.MachineHost.event_of.Goals as goal

pub returns-in-Ok : goal.returns-in-Ok
returns-in-Ok c = record {
  answer = host_seen _ _ _ c.self.view_is (λ setup h mine stands.
      ap Ok c.event.ensures ∙ event_is_made c.self.inside.agent c.args.cause.now c.would_into.new.room c.would_into.result _ c.in-Ok.is c.would_into.ensures.answer c.would_into.ensures.agent c.would_into.ensures.cause setup h mine stands);
}

pub returns-in-Err : goal.returns-in-Err
returns-in-Err c = record { answer = host_seen _ _ _ c.self.view_is (refusal_is_made c.self.inside.agent c.args.cause.now c.would_into.new.room c.would_into.result _ c.in-Err.is c.would_into.ensures.answer) }
