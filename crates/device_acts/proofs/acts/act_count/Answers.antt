-- The search that skips the most passes all.
use Rattle.std.proofs.Common.{◌∙◌, sym}
use Rattle.device_acts.proofs.Few.{all_counted, all_passed}
use Rattle.device_acts.proofs.Passing.{same_skip, skips_or_found}
use Rattle.device_acts.proofs.acts.act_count.Goals as goal

pub unreachable-requires : goal.unreachable-requires
unreachable-requires c =
    let d = c.args.tables.now in
    skips_or_found c.pass_all.new.search _ c.in-Found.field-0 (all_passed d.setup d.kept c.pass_all.new.search c.requires c.pass_all.ensures) c.in-Found.is

pub returns : goal.returns
returns c =
    let d = c.args.tables.now in
    all_counted d.setup d.kept c.requires c.in-Skip.left (same_skip c.in-Skip.left _ (sym c.in-Skip.is ∙ all_passed d.setup d.kept c.pass_all.new.search c.requires c.pass_all.ensures))
