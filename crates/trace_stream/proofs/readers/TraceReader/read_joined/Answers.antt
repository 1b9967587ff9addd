-- An item that stands at the front of the bytes that wait and of a piece.
use Rattle.std.proofs.Common.{◌≡◌, ◌≤◌, length, arith, ap}
use Rattle.trace_stream.specs.declared.items.Item.{Item}
use Rattle.trace_stream.specs.Items.{item_of}
use Rattle.trace_stream.specs.Readings.{Reading}
use Rattle.trace_stream.proofs.InPlace.{Left, all_taken, item_some, leaves, short_waiting}
use Rattle.trace_stream.proofs.readers.TraceReader.read_joined.Goals as goal

pub returns-in-More-clause-all : goal.returns-in-More-clause-all
returns-in-More-clause-all c same =
    all_taken c.args.self.now c.take-count.new.self c.args.piece.now c.take-count.result c.take-count.ensures.after c.take-count.ensures.count
    (short_waiting c.take-count.new.self (item_of c.step.new.room c.in-Ok.found) c.in-Ok.ensures.answer same)

pub returns-in_default-clause-answer : goal.returns-in_default-clause-answer
returns-in_default-clause-answer c =
    let size : length c.self.inside.waiting ≡ length c.step.new.self.waiting = ap (λ (r : Reading). length r.waiting) c.self.view_is in
    let taken : c.take-count.result ≤ length c.args.piece.now = omega (arith, c.take-count.ensures.count) in
    let fewer : c.min-behind.result ≤ c.take-count.result = omega (arith, c.min-behind.ensures) in
    let behind : c.min-behind.result ≤ length c.step.new.self.waiting = omega (arith, c.min-behind.ensures, c.len.ensures.value, size) in
    (leaves c.args.self.now c.take-count.new.self c.step.new.self c.leave.new.self c.args.piece.now c.take-count.result c.min-behind.result (item_of c.step.new.room c.in-Ok.found) c.take-count.ensures.after taken c.in-Ok.ensures.answer
    c.in-Ok.ensures.after fewer behind c.leave.ensures (item_some c.step.new.room c.in-Ok.found c.in_default.not-More)).answered

pub returns-in_default-clause-after : goal.returns-in_default-clause-after
returns-in_default-clause-after c =
    let size : length c.self.inside.waiting ≡ length c.step.new.self.waiting = ap (λ (r : Reading). length r.waiting) c.self.view_is in
    let taken : c.take-count.result ≤ length c.args.piece.now = omega (arith, c.take-count.ensures.count) in
    let fewer : c.min-behind.result ≤ c.take-count.result = omega (arith, c.min-behind.ensures) in
    let behind : c.min-behind.result ≤ length c.step.new.self.waiting = omega (arith, c.min-behind.ensures, c.len.ensures.value, size) in
    (leaves c.args.self.now c.take-count.new.self c.step.new.self c.leave.new.self c.args.piece.now c.take-count.result c.min-behind.result (item_of c.step.new.room c.in-Ok.found) c.take-count.ensures.after taken c.in-Ok.ensures.answer
    c.in-Ok.ensures.after fewer behind c.leave.ensures (item_some c.step.new.room c.in-Ok.found c.in_default.not-More)).after

pub returns-in_default-clause-within : goal.returns-in_default-clause-within
returns-in_default-clause-within c = omega (arith, c.take-count.ensures.count)

pub returns-in_default-clause-all : goal.returns-in_default-clause-all
returns-in_default-clause-all c same =
    let more : item_of c.step.new.room c.in-Ok.found ≡ Item.More = cc in absurd (item_some c.step.new.room c.in-Ok.found c.in_default.not-More more)
