-- The version has room for each tag of the event.
use Rattle.std.proofs.Common.{IsTrue, sym, subst}
use Rattle.std.specs.List.{list_all}
use Rattle.cxl_message.specs.declared.events.Cause.{Cause}
use Rattle.cxl_message.specs.declared.events.Sends.{Sends}
use Rattle.cxl_message.specs.Events.{outs}
use Rattle.cxl_codec.specs.Versions.{cause_fits, message_fits}
use Rattle.cxl_codec.proofs.TagRoom.{cause_room, sends_room}
use Rattle.cxl_codec.proofs.events.encode_room_in.Goals as goal

pub put_cause-requires-clause-fits : goal.put_cause-requires-clause-fits
put_cause-requires-clause-fits c =
    subst (λ (cause : Cause). IsTrue (cause_fits c.args.version cause)) (sym c.cause.ensures) (cause_room c.args.version c.args.room.now c.requires.version)

pub put_sends-requires-clause-fits : goal.put_sends-requires-clause-fits
put_sends-requires-clause-fits c =
    subst (λ (sends : Sends). IsTrue (list_all (λ o. message_fits c.args.version o.message) (outs sends))) (sym c.sends.ensures) (sends_room c.args.version c.args.room.now c.requires.version)
