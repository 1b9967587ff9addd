-- A mark adds its number at the loop's place.
use Rattle.std.proofs.Common.{arith, length, ◌<◌, ◌≤◌, subst, ℕ}
use Rattle.std.proofs.Math.ListN.{length-set}
use Rattle.std.proofs.lemmas.List.{length-replicate, take_all}
use Rattle.board_trial.specs.Trial.{HasMade}
use Rattle.board_trial.proofs.Closings.{made_more, made_none}
use Rattle.board_trial.proofs.stage.mark_hits.Goals as goal

pub loop-place-init : goal.loop-place-init
loop-place-init g c =
    let few = c.requires.may.2 in
    (made_none c.args.board.now c.args.host.seat c.requires.may.0, c.requires.may.1, omega (arith, few), omega arith, omega (arith, length-replicate {A = ℕ}))

pub mark_hit-requires : goal.mark_hit-requires
mark_hit-requires g c =
    let i = c.loop-place.invariant in
    let room = i.2 in
    (i.0.board, i.1, omega (arith, room))

pub loop-place-preserved : goal.loop-place-preserved
loop-place-preserved g c =
    let l = c.loop-place in
    let i = l.invariant in
    let room = i.2 in
    let more = c.in_ok-numbers.ensures.room in
    let long = i.4 in
    let less : l.place < length l.numbers = omega (arith, long) in (
      made_more c.args.board.now c.args.host.seat l.seat c.mark_hit.new.seat l.numbers l.place _ less i.0 c.in_ok-numbers.ensures.made,
      c.in_ok-numbers.ensures.shows,
      omega (arith, room, more),
      omega arith,
      omega (arith, length-set {A = ℕ}, long),
    )

pub returns : goal.returns
returns g c =
    let l = c.loop-place in
    let long = l.invariant.4 in
    let all : length l.numbers ≤ l.place = omega (arith, long) in
    subst (λ ns. HasMade c.args.board.now c.args.host.seat ns l.seat) (take_all l.place l.numbers all) l.invariant.0
