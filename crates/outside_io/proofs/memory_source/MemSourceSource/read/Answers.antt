use Rattle.std.proofs.Common.{◌≡◌, ◌-◌, length, take, drop, arith, take_all, length-drop, ap, ◌∙◌}
use Rattle.outside_io.specs.Memory.{SourceState}
use Rattle.outside_io.proofs.Bytes.{read_at}
use Rattle.outside_io.proofs.memory_source.MemSourceSource.read.Goals as goal

pub returns-clause-bytes : goal.returns-clause-bytes
returns-clause-bytes c =
    let at = c.self.inside.at in
    let bytes = c.deref-2.result.now in
    let here : drop at c.self.inside.bytes.items ≡ c.args.self.now.left = ap (λ (s : SourceState). s.left) c.self.view_is in
    let behind : length (drop at bytes) ≡ length bytes - at = length-drop at bytes in
    let rest : take (length bytes - at) (drop at bytes) ≡ c.args.self.now.left =
    take_all _ _ (omega arith) ∙ ap (drop at) c.deref-2.ensures.value ∙ here in
    read_at _ _ _ _ c.args.into.now at c.self.inside.chunk _ here rest c.copy_from_slice.ensures.after (omega (arith, c.min.ensures, c.min-count.ensures)) c.self.invariant.0
