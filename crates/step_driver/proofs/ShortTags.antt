-- Version 1 has room for the tags of an event that keeps P0, where the setup has at most 64.
use Rattle.std.proofs.Common.{arith, refl, ◌≤◌, IsTrue, ℕ}
use Rattle.std.specs.List.{list_all}
use Rattle.std.specs.Prelude.{nat_le, nat_lt}
use Rattle.std.proofs.lemmas.Bool.{and_from, and_parts, leb-true, lt-ltb, ltb-true}
use Rattle.cxl_message.specs.declared.events.Act.{Act}
use Rattle.cxl_message.specs.declared.events.Cause.{Cause}
use Rattle.cxl_message.specs.declared.events.Event.{Event}
use Rattle.cxl_message.specs.declared.events.Out.{Out}
use Rattle.cxl_message.specs.declared.events.Sends.{Sends}
use Rattle.cxl_message.specs.declared.messages.Message.{Message}
use Rattle.cxl_message.specs.declared.opcodes.NdrOp.{NdrOp}
use Rattle.cxl_message.specs.Events.{outs}
use Rattle.cxl_message.specs.Setup.{Configuration}
use Rattle.cxl_codec.specs.VersionOne.{act_fits_version_one, cause_fits_version_one, fits_version_one, message_fits_version_one}
use Rattle.coherence_model.specs.Fitting.{act_fits, cause_fits, message_fits, out_fits}
use Rattle.coherence_model.specs.Rules.{p0_profile}

-- a request's tag
below_tags : (tags t : ℕ) → tags ≤ 64 → IsTrue (nat_lt t tags) → IsTrue (nat_lt t 65536)
below_tags tags t few low = lt-ltb t 65536 (omega (arith, few, ltb-true t tags low))

-- a write's tag
up_to_tags : (tags t : ℕ) → tags ≤ 64 → IsTrue (nat_le t tags) → IsTrue (nat_lt t 65536)
up_to_tags tags t few low = lt-ltb t 65536 (omega (arith, few, leb-true t tags low))

message_short : (setup : Configuration) → setup.tags ≤ 64 → (m : Message) → IsTrue (message_fits setup m) → IsTrue (message_fits_version_one m)
message_short setup few (Message.Req op meta snp tag line) fits = below_tags setup.tags tag.0 few (and_parts _ _ fits).0
message_short setup few (Message.MemWr meta snp tag line bytes) fits = up_to_tags setup.tags tag.0 few (and_parts _ _ fits).0
message_short setup few (Message.BiConflict tag) fits = below_tags setup.tags tag.0 few fits
message_short setup few (Message.BiRsp op bitag low) fits = refl
message_short setup few (Message.Ndr NdrOp.Cmp tag) fits = up_to_tags setup.tags tag.0 few fits
message_short setup few (Message.Ndr NdrOp.CmpS tag) fits = below_tags setup.tags tag.0 few fits
message_short setup few (Message.Ndr NdrOp.CmpE tag) fits = below_tags setup.tags tag.0 few fits
message_short setup few (Message.Ndr NdrOp.ConflictAck tag) fits = below_tags setup.tags tag.0 few fits
message_short setup few (Message.MemData tag bytes) fits = below_tags setup.tags tag.0 few fits
message_short setup few (Message.BiSnp op bitag line span) fits = refl
message_short setup few (Message.Credit channel) fits = refl

act_short : (setup : Configuration) → setup.tags ≤ 64 → (g : ℕ) (act : Act) → IsTrue (act_fits setup g act) → IsTrue (act_fits_version_one act)
act_short setup few g (Act.Conflict line) fits = refl
act_short setup few g (Act.WriteBack line) fits = refl
act_short setup few g (Act.Answer line) fits = refl
act_short setup few g (Act.AnswerBlock line) fits = refl
act_short setup few g (Act.HostReturn channel) fits = refl
act_short setup few g (Act.Serve host tag) fits = up_to_tags setup.tags tag.0 few (and_parts _ _ fits).1
act_short setup few g (Act.Clean host tag) fits = below_tags setup.tags tag.0 few (and_parts _ _ fits).1
act_short setup few g (Act.Start host tag) fits = below_tags setup.tags tag.0 few (and_parts _ _ fits).1
act_short setup few g (Act.Evict host tag) fits = below_tags setup.tags tag.0 few (and_parts _ _ fits).1
act_short setup few g (Act.Snoop host line) fits = refl
act_short setup few g (Act.Finish line) fits = refl
act_short setup few g (Act.DeviceReturn host channel) fits = refl

cause_short : (setup : Configuration) → setup.tags ≤ 64 → (g : ℕ) (cause : Cause) → IsTrue (cause_fits setup g cause) → IsTrue (cause_fits_version_one cause)
cause_short setup few g (Cause.Op stream index op) fits = refl
cause_short setup few g (Cause.Take host m) fits = message_short setup few m (and_parts _ _ fits).1
cause_short setup few g (Cause.Act act) fits = act_short setup few g act fits

out_short : (setup : Configuration) → setup.tags ≤ 64 → (g : ℕ) (o : Out) → IsTrue (out_fits setup g o) → IsTrue (message_fits_version_one o.message)
out_short setup few g o fits = message_short setup few o.message (and_parts _ _ fits).1

sends_short : (setup : Configuration) → setup.tags ≤ 64 → (g : ℕ) (sends : Sends) → IsTrue (list_all (out_fits setup g) (outs sends)) → IsTrue (list_all (λ o. message_fits_version_one o.message) (outs sends))
sends_short setup few g Sends.Nothing fits = refl
sends_short setup few g (Sends.One o) fits = and_from _ _ (out_short setup few g o (and_parts _ _ fits).0) refl
sends_short setup few g (Sends.Two o p) fits =
    let rest = (and_parts _ _ fits).1 in
    and_from _ _ (out_short setup few g o (and_parts _ _ fits).0) (and_from _ _ (out_short setup few g p (and_parts _ _ rest).0) refl)

-- version 1 has room for the tags of an event that keeps P0
pub tags_are_short : (setup : Configuration) → setup.tags ≤ 64 → (e : Event) → IsTrue (p0_profile setup e) → IsTrue (fits_version_one e)
tags_are_short setup few e kept =
    let named = (and_parts _ _ kept).0 in
    let sent = (and_parts _ _ named).1 in
    let caused = (and_parts _ _ (and_parts _ _ named).0).1 in
    and_from _ _ (cause_short setup few e.agent e.cause caused) (sends_short setup few e.agent e.sends sent)
