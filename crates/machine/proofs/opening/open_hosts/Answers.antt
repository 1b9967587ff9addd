-- One host more stands for no events.
use Rattle.std.proofs.Common.{[], ap, length, subst, sym, ◌++◌, ◌+◌, ◌∙◌, ◌∷◌, ◌≡◌}
use Rattle.std.proofs.lemmas.List.{length-append}
use Rattle.machine.proofs.Opened.{one_more_stands}
use Rattle.machine.specs.Stands.{HostsStandFor}
use Rattle.machine.proofs.opening.open_hosts.Goals as goal

pub loop-host-preserved : goal.loop-host-preserved
loop-host-preserved c =
    let count : length (c.loop-host.hosts.items ++ c.in_ok-agent.agent ∷ []) ≡ c.loop-host.host + 1 = length-append c.loop-host.hosts.items (c.in_ok-agent.agent ∷ []) ∙ ap (λ n. n + 1) c.loop-host.invariant.0 in (
      ap length c.in_ok-push.ensures.items ∙ count,
      subst (λ xs. HostsStandFor xs c.args.setup.now []) (sym c.in_ok-push.ensures.items)
          (one_more_stands c.loop-host.hosts.items c.in_ok-agent.agent c.args.setup.now c.loop-host.host c.loop-host.invariant.0 c.loop-host.invariant.1 c.in_ok-agent.ensures.stands),
    )
