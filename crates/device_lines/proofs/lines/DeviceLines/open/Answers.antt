-- Each line has its slot, and each message that may be buffered finds one spare.
use Rattle.std.proofs.Common.{◌≡◌, ◌∙◌, ◌+◌, ◌*◌, ℕ, [], ap, arith, map, replicate, subst, ◌≤◌}
use Rattle.cxl_message.specs.Lists.{below}
use Rattle.cxl_message.specs.Opening.{bytes_at}
use Rattle.line_pool.specs.Pools.{Pool}
use Rattle.device_lines.proofs.Opened.{no_messages_seen, opened_shared}
use Rattle.device_lines.proofs.lines.DeviceLines.open.Goals as goal

pub invariant_of-result : goal.invariant_of-result
invariant_of-result c =
    let hosts : c.from.result ≡ c.hosts-2.result = omega (arith, c.from.ensures, c.hosts.ensures.hosts, c.hosts-2.ensures.hosts) in
    let credits : c.from-2.result ≡ c.credits-2.result = omega (arith, c.from-2.ensures, c.credits.ensures.credits, c.credits-2.ensures.credits) in
    let product : c.from.result * c.from-2.result ≡ c.hosts-2.result * c.credits-2.result = λ i. hosts i * credits i in
    opened_shared c.fill.new.pool c.in_ok-lines.lines.items c.in_ok-buffers.buffers.items c.args.opening.now c.lines-2.result c.hosts-2.result c.credits-2.result c.in_ok-lines.ensures.filled c.in_ok-buffers.ensures
    (omega (arith, product, ap (λ (p : Pool). p.spare) c.in_ok-pool.ensures.opened, c.in_ok-lines.ensures.spare, c.lines.ensures.lines, c.lines-2.ensures.lines))
    (omega (arith, c.credits-2.ensures.credits, c.credits-2.ensures.within.credits.1))

pub returns : goal.returns
returns c =
    let memory = c.in_ok-lines.ensures.filled.bytes ∙ ap (λ (n : ℕ). map (bytes_at c.args.opening.now) (below n)) c.lines-2.ensures.lines in
    let writes = no_messages_seen c.fill.new.pool c.in_ok-buffers.buffers.items c.hosts-2.result c.in_ok-buffers.ensures ∙ ap (λ (n : ℕ). replicate n []) c.hosts-2.ensures.hosts in
    record { opened = λ i. record { memory = memory i; writes = writes i; room = c.credits-2.ensures.credits i } }
