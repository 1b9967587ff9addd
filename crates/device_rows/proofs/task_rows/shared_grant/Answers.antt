-- One other host is listed.
use Rattle.std.proofs.Common.{◌∙◌, ap, sym, arith, ℕ, Bool, cond}
use Rattle.std.specs.Prelude.{not, ◌==◌, ◌&&◌}
use Rattle.cxl_message.specs.declared.opcodes.NdrOp.{NdrOp}
use Rattle.snoop_filter.specs.Rows.{is_some_listing, listed_in}
use Rattle.device_rows.proofs.Hosts.{none_more, passes_below}
use Rattle.device_rows.proofs.task_rows.shared_grant.Goals as goal

pub returns-then-shares : goal.returns-then-shares
returns-then-shares c =
    let t = c.args.task.now in
    sym (ap (λ (b : Bool). cond b NdrOp.CmpS NdrOp.CmpE) (passes_below (λ (g : ℕ). not (t.host == g) && is_some_listing (listed_in t.first g c.args.filter.now.rows)) c.args.filter.now.hosts c.loop-host.host
    (omega (arith, c.loop-host-test.true, c.hosts-host-end.ensures.hosts)) (sym c.shares.ensures ∙ c.if-shares.true)))

pub loop-host-preserved : goal.loop-host-preserved
loop-host-preserved c =
    none_more (λ (g : ℕ). not (c.args.task.now.host == g) && is_some_listing (listed_in c.args.task.now.first g c.args.filter.now.rows)) c.loop-host.host c.loop-host.invariant
    (sym c.shares.ensures ∙ c.if-shares.false)
