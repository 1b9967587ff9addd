-- One stream after another is passed, until the offer that is looked for.
use Rattle.std.proofs.Common.{arith, length, List, ap, false, true, subst, sym, ◌-◌, ◌+◌, ◌<◌, ◌∙◌, ◌≡◌, ℕ}
use Rattle.step_driver.proofs.Scans.{SoughtFrom, found, none_found, passed}
use Rattle.step_driver.proofs.table.StreamTable.offer_at.Goals.{else-self-stream, then-self-stream+else-left-eq0}
use Rattle.step_driver.proofs.table.StreamTable.offer_at.Goals as goal

pub returns-then-left-eq0 : goal.returns-then-left-eq0
returns-then-left-eq0 c t asked =
    let script = c.args.script.now in
    let size : length c.streams-stream-end.result.now ≡ length script.setup.streams = ap (λ (hs : List ℕ). length hs) (c.streams-stream-end.ensures.streams ∙ ap (λ s. s.streams) c.setup.ensures.setup) in
    found script c.args.self.now.offered t c.args.k c.loop-stream.stream c.loop-stream.left c.requires.drivable.lists (omega (arith, size, c.loop-stream-test.true)) asked c.if-self-stream.true (omega (arith, c.if-left-eq0.true)) (c.loop-stream.invariant t asked)

pub loop-stream-preserved : goal.loop-stream-preserved
loop-stream-preserved c t asked =
    let script = c.args.script.now in
    let size : length c.streams-stream-end.result.now ≡ length script.setup.streams = ap (λ (hs : List ℕ). length hs) (c.streams-stream-end.ensures.streams ∙ ap (λ s. s.streams) c.setup.ensures.setup) in
    let low : c.loop-stream.stream < length script.setup.streams = omega (arith, size, c.loop-stream-test.true) in
    elim c.if-self-stream.branch [
      | then-self-stream+else-left-eq0 w ↦
          subst (SoughtFrom script t c.args.k (c.loop-stream.stream + 1)) (sym w.left-is)
          (passed script c.args.self.now.offered t c.args.k c.loop-stream.stream c.loop-stream.left true c.requires.drivable.lists low asked w.if-self-stream.true (omega (arith, w.if-left-eq0.false)) (c.loop-stream.invariant t asked))
      | else-self-stream w ↦
          let same : c.loop-stream.left - 0 ≡ c.loop-stream.left = omega arith in
          subst (SoughtFrom script t c.args.k (c.loop-stream.stream + 1)) (same ∙ sym w.left-is)
          (passed script c.args.self.now.offered t c.args.k c.loop-stream.stream c.loop-stream.left false c.requires.drivable.lists low asked w.if-self-stream.false (omega arith) (c.loop-stream.invariant t asked))
    ]

pub returns : goal.returns
returns c t asked =
    let script = c.args.script.now in
    let size : length c.streams-stream-end.result.now ≡ length script.setup.streams = ap (λ (hs : List ℕ). length hs) (c.streams-stream-end.ensures.streams ∙ ap (λ s. s.streams) c.setup.ensures.setup) in
    none_found script t c.args.k c.loop-stream.stream c.loop-stream.left (omega (arith, size, c.loop-stream-test.false)) (c.loop-stream.invariant t asked)
