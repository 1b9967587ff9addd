-- The answer by value is what the room holds, or the refusal.
use Rattle.std.proofs.Common.{ap, sym, ◌∙◌}
use Rattle.std.specs.Prelude.{Ok}
use Rattle.host_rows.specs.Answers.{told}
use Rattle.host_home.proofs.agent.HostAgent.would.Goals as goal

pub returns-in-Ok : goal.returns-in-Ok
returns-in-Ok c = record {
  answer = λ setup h mine s. ap Ok c.of.ensures ∙ ap (λ r. told r c.would_into.new.room) (sym c.in-Ok.is) ∙ c.would_into.ensures.answer setup h mine s;
}

pub returns-in-Err : goal.returns-in-Err
returns-in-Err c = record { answer = λ setup h mine s. ap (λ r. told r c.would_into.new.room) (sym c.in-Err.is) ∙ c.would_into.ensures.answer setup h mine s }
