-- What is taken or done may be, and what is sent by it changes what is kept but for the bytes.
use Rattle.std.proofs.Common.{◌∙◌, ap, sym, subst}
use Rattle.cxl_message.specs.declared.events.Cause.{Cause}
use Rattle.cxl_message.specs.declared.events.Sends.{Sends}
use Rattle.device_record.specs.Changes.{device_after}
use Rattle.device_record.specs.Record.{DeviceRecord}
use Rattle.device_state.specs.Agent.{AgentRecord}
use Rattle.device_state.specs.Decisions.{emission_by}
use Rattle.device_changes.specs.Passing.{MayStep}
use Rattle.device_changes.proofs.Heads.{after_alike}
use Rattle.device_changes.proofs.Takes.{taken}
use Rattle.device_changes.proofs.changes.change.Goals as goal

pub take-requires : goal.take-requires
take-requires c =
    let d = c.args.tables.now in
    let w = emission_by d.kept.memory c.args.decision in
    let may = subst (λ (x : Cause). MayStep d.setup d.kept x w) c.in-Take.is c.requires.may in
    (taken d.setup d.kept c.in-Take.host c.in-Take.message w may).may

pub make-requires : goal.make-requires
make-requires c =
    let d = c.args.tables.now in
    subst (λ (x : Cause). MayStep d.setup d.kept x (emission_by d.kept.memory c.args.decision)) c.in-Act.is c.requires.may

pub returns-in-Take : goal.returns-in-Take
returns-in-Take c =
    let d = c.args.tables.now in
    let w = emission_by d.kept.memory c.args.decision in
    let may = subst (λ (x : Cause). MayStep d.setup d.kept x w) c.in-Take.is c.requires.may in
    let quiet = (taken d.setup d.kept c.in-Take.host c.in-Take.message w may).sends in
    record {
      changed = c.take.ensures ∙ ap {B = AgentRecord} (λ (x : Cause). record d { kept = device_after d.setup x Sends.Nothing d.kept }) (sym c.in-Take.is)
          ∙ ap {B = AgentRecord} (λ (x : Sends). record d { kept = device_after d.setup c.args.cause.now x d.kept }) (sym quiet);
    }

pub returns-in-Act : goal.returns-in-Act
returns-in-Act c =
    let d = c.args.tables.now in
    let w = emission_by d.kept.memory c.args.decision in
    record {
      changed = c.make.ensures ∙ ap {B = AgentRecord} (λ (k : DeviceRecord). record d { kept = k }) (after_alike d.setup d.kept.memory c.args.decision c.in-Act.act d.kept)
          ∙ ap {B = AgentRecord} (λ (x : Cause). record d { kept = device_after d.setup x w.sends d.kept }) (sym c.in-Act.is);
    }
