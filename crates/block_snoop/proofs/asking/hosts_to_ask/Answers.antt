-- One more host is asked or not.
use Rattle.std.proofs.Common.{◌∙◌, ap, sym, arith, List, ℕ, [], ◌∷◌, ◌++◌, ◌+◌, ◌≤◌, ◌≡◌}
use Rattle.std.specs.Prelude.{filter}
use Rattle.arrayvec.specs.ArrayVec.{array_vec_len}
use Rattle.cxl_message.specs.Lists.{below}
use Rattle.block_snoop.specs.Asking.{is_asked_for}
use Rattle.block_snoop.proofs.Hosts.{no_more_asked, one_more_asked}
use Rattle.block_snoop.proofs.asking.hosts_to_ask.Goals as goal
use Rattle.block_snoop.proofs.asking.hosts_to_ask.Goals.{then-is_asked, else-is_asked}

pub loop-host-preserved : goal.loop-host-preserved
loop-host-preserved c =
    let test = is_asked_for c.args.purpose c.args.block c.args.filter.now.rows in
    elim c.if-is_asked.branch [
      | then-is_asked w ↦
          let yes = one_more_asked test c.loop-host.host (sym c.is_asked.ensures.asked ∙ w.if-is_asked.true) in
          (ap (λ a. a.items) w.asked-is ∙ w.push.ensures.items ∙ ap (λ (l : List ℕ). l ++ c.loop-host.host ∷ []) c.loop-host.invariant.0 ∙ sym yes, omega (arith, ap (λ a. array_vec_len a) w.asked-is, w.push.ensures.len, c.loop-host.invariant.1))
      | else-is_asked w ↦
          let no = no_more_asked test c.loop-host.host (sym c.is_asked.ensures.asked ∙ w.if-is_asked.false) in
          (ap (λ a. a.items) w.asked-is ∙ c.loop-host.invariant.0 ∙ sym no, omega (arith, ap (λ a. array_vec_len a) w.asked-is, c.loop-host.invariant.1))
    ]
