-- A message is there where it is something.
use Rattle.std.proofs.Common.{◌∙◌, ap}
use Rattle.std.specs.Prelude.{is_some}
use Rattle.device_lines.specs.Lines.{served_message}
use Rattle.device_lines.proofs.Regions.{some_mapped}
use Rattle.device_lines.proofs.lines.DeviceLines.has_tag.Goals as goal

pub returns : goal.returns
returns c = record { tag = c.is_some.ensures ∙ ap is_some c.with_tag.ensures.served ∙ some_mapped served_message _ }
