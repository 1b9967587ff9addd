-- A stream that comes after the last, with a name that is spelled as one, keeps the streams in order.
use Rattle.std.proofs.Common.{◌≡◌, true, rules, is_ok}
use Rattle.cxl_message.specs.Names.{is_after_last_named, is_name}
use Rattle.cxl_message.proofs.NamesAdded.{names_pushed}
use Rattle.cxl_message.proofs.names.Names.add.Goals as goal

pub invariant_of-self : goal.invariant_of-self
invariant_of-self c =
    let after : is_after_last_named c.self.inside.named.items c.args.stream ≡ true = search rules in
    let spelled : is_name c.args.name.now ≡ true = search rules in
    names_pushed (is_ok c.push.result) _ _ c.name_of_stream.result c.args.stream c.args.name.now c.self.invariant after spelled c.push.ensures.items c.name_of_stream.ensures
