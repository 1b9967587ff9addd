-- The parts of a header stand one behind the other.
use Rattle.std.proofs.Common.{◌≡◌, ◌++◌, ◌∷◌, [], List, ℕ, length, ap, ◌∙◌, arith}
use Rattle.std.proofs.lemmas.Grind.{common_steps}
use Rattle.cxl_codec.specs.Cells.{bytes_of}
use Rattle.cxl_codec.specs.Header.{tags_cells}
use Rattle.cxl_codec.proofs.Puts.{header_put}
use Rattle.cxl_codec.proofs.headers.encode_header_in.Goals as goal

pub returns-clause-ok : goal.returns-clause-ok
returns-clause-ok c =
    let setup = c.args.setup.now in
    let tags = c.put_tags.ensures.items ∙ ap (λ (n : ℕ). c.put.new.out.items ++ bytes_of (tags_cells c.args.version n)) c.tags.ensures.tags in
    let streams = c.put-3.ensures.items ∙ ap (λ (hosts : List ℕ). c.put-2.new.out.items ++ hosts) c.streams-streams.ensures.streams in
    let two = c.put-2.ensures.items ∙ ap (λ (hosts : List ℕ). c.put_tags.new.out.items ++ c.credits.result ∷ length hosts ∷ []) c.streams-streams.ensures.streams ∙ ap (λ (n : ℕ). c.put_tags.new.out.items ++ n ∷ length setup.streams ∷ []) c.credits.ensures.credits in
    let all = header_put c.args.version setup.tags setup.credits setup.streams _ _ _ _ _ _ _ c.in_ok-reserve.ensures.items c.put.ensures.items tags two streams in
    grind (arith, common_steps, all)
