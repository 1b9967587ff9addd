-- After the hosts stand the zeros that were there.
use Rattle.std.proofs.Common.{◌++◌, length, drop, ap, ◌∙◌}
use Rattle.std.specs.Prelude.{replicate}
use Rattle.cxl_message.proofs.configuration.places_of.Goals as goal
use Rattle.std.proofs.lemmas.List.{drop-replicate}

pub returns : goal.returns
returns c =
    ap (λ hosts. hosts ++ drop (length c.args.streams.now) (replicate 64 0)) c.copy_from_slice.ensures.after
    ∙ ap (λ zeros. c.args.streams.now ++ zeros) (drop-replicate (length c.args.streams.now) 64 0)
