-- What an act sends is paid for.
use Rattle.std.proofs.Common.{◌∙◌, ap, sym, subst, List}
use Rattle.device_record.specs.Record.{CreditRecord}
use Rattle.device_state.specs.Agent.{AgentRecord}
use Rattle.device_state.specs.Decisions.{emission_by, heads_sent}
use Rattle.device_changes.specs.Paying.{MayPay}
use Rattle.device_changes.proofs.Heads.{pays_alike}
use Rattle.device_changes.proofs.Paying.{act_pays}
use Rattle.device_changes.proofs.changes.make.Goals as goal

pub pay-requires : goal.pay-requires
pay-requires c =
    let d = c.args.tables.now in
    let w = emission_by d.kept.memory c.args.decision in
    let pays = pays_alike d.kept.memory c.args.decision d.kept.credits (act_pays d.setup d.kept c.args.act.now w c.requires) in
    let credits = ap (λ (x : AgentRecord). x.kept.credits) (c.tables.view_is ∙ c.act_on.ensures) in
    subst (λ (cs : List CreditRecord). MayPay (heads_sent c.args.decision) cs) (sym credits) pays
