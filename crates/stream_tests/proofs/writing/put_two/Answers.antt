-- What was put is what went.
use Rattle.std.proofs.Common.{[], ◌∷◌}
use Rattle.std.proofs.lemmas.Result.{on_ok_weaker}
use Rattle.stream_tests.proofs.writing.put_two.Goals as goal

pub returns-clause-trace : goal.returns-clause-trace
returns-clause-trace g c =
    let writer = c.args.writer.now in
    let version = writer.version in
    let setup = c.args.setup.now in
    let names = writer.names in
    let opening = c.args.opening.now in
    let first = c.args.first.now in
    let second = c.args.second.now in
    let start = writer.out.gone in
    let one = c.in_ok-put.ensures.goes_on start version setup names opening [] c.in_ok-begin.ensures.begun in
    let two = c.in_ok-put_room.ensures.goes_on start version setup names opening (first ∷ []) one in
    on_ok_weaker c.end.result (λ ends. ends start version setup names opening (first ∷ second ∷ []) two) c.end.ensures.trace
