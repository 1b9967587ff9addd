use Rattle.script_text.proofs.Appending.{script_parts}
use Rattle.script_text.proofs.printing.print_script.Goals as goal

pub returns : goal.returns
returns c = record { spelled = script_parts c.args.script.now _ _ _ _ _ c.new-out.ensures.items c.in_ok-put_head.ensures c.in_ok-put_openings.ensures c.in_ok-put_streams.ensures c.in_ok-put_picks.ensures }
