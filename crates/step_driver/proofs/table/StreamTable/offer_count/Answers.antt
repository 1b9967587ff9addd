-- One stream after another is counted where its host offers an operation.
use Rattle.std.proofs.Common.{List, ap, arith, false, length, subst, sym, true, ℕ, ◌+◌, ◌<◌, ◌∙◌, ◌≡◌}
use Rattle.step_driver.proofs.Scans.{CountedTo, all_counted, counted_more}
use Rattle.step_driver.proofs.table.StreamTable.offer_count.Goals.{else-self-stream, then-self-stream}
use Rattle.step_driver.proofs.table.StreamTable.offer_count.Goals as goal

pub loop-stream-preserved : goal.loop-stream-preserved
loop-stream-preserved c =
    let script = c.args.script.now in
    let offered = c.args.self.now.offered in
    let at = c.loop-stream.stream in
    let n = c.loop-stream.count in
    let size : length c.streams-stream-end.result.now ≡ length script.setup.streams = ap (λ (hs : List ℕ). length hs) (c.streams-stream-end.ensures.streams ∙ ap (λ s. s.streams) c.setup.ensures.setup) in
    let low : at < length script.setup.streams = omega (arith, size, c.loop-stream-test.true) in
    let few = c.loop-stream.invariant.few in
    elim c.if-self-stream.branch [
      | then-self-stream w ↦
          record {
            few = omega (arith, few, w.count-is);
            counted = λ t asked. subst (CountedTo script t (at + 1)) (sym w.count-is) (counted_more script offered t at n true c.requires.drivable.lists low asked w.if-self-stream.true (c.loop-stream.invariant.counted t asked));
          }
      | else-self-stream w ↦
          let same : n + 0 ≡ n = omega arith in
          record {
            few = omega (arith, few, w.count-is);
            counted = λ t asked. subst (CountedTo script t (at + 1)) (same ∙ sym w.count-is) (counted_more script offered t at n false c.requires.drivable.lists low asked w.if-self-stream.false (c.loop-stream.invariant.counted t asked));
          }
    ]

pub returns-clause-count : goal.returns-clause-count
returns-clause-count c t asked =
    let script = c.args.script.now in
    let size : length c.streams-stream-end.result.now ≡ length script.setup.streams = ap (λ (hs : List ℕ). length hs) (c.streams-stream-end.ensures.streams ∙ ap (λ s. s.streams) c.setup.ensures.setup) in
    all_counted script t c.loop-stream.stream c.loop-stream.count (omega (arith, size, c.loop-stream-test.false)) (c.loop-stream.invariant.counted t asked)
