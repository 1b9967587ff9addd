-- No row of the device commits.
use Rattle.std.proofs.Common.{◌≡◌, ℕ, List, Option, Some, None, refl, ◌∙◌, ap}
use Rattle.std.proofs.lemmas.Option.{none-some}
use Rattle.cxl_message.specs.declared.events.Act.{Act}
use Rattle.cxl_message.specs.declared.events.Cause.{Cause}
use Rattle.cxl_message.specs.declared.events.Commit.{Commit}
use Rattle.cxl_message.specs.declared.events.Event.{Event}
use Rattle.cxl_message.specs.declared.identifiers.Bytes64.{Bytes64}
use Rattle.cxl_message.specs.declared.identifiers.Line.{Line}
use Rattle.cxl_message.specs.declared.messages.Message.{Message}
use Rattle.cxl_message.specs.declared.opcodes.NdrOp.{NdrOp}
use Rattle.cxl_message.specs.Setup.{Configuration}
use Rattle.coherence_lemmas.proofs.DeviceActs.{v3_serve-inv, v4_clean-inv, v5_start-inv, v6_evict-inv, v7_snoop-inv, v8_finish-inv, v9_return-inv}
use Rattle.coherence_lemmas.proofs.DeviceTakes.{v1_credit-inv, v1_take-inv, v2_response-inv}
use Rattle.coherence_lemmas.proofs.Rows.{device_take-inv}
use Rattle.coherence_model.specs.Buffers.{buffered_requests, buffered_writes, message_with}
use Rattle.coherence_model.specs.DeviceActs.{buffered_request, device_acts, finish_emission}
use Rattle.coherence_model.specs.DeviceRows.{device_emission}
use Rattle.coherence_model.specs.DeviceTakes.{device_takes}
use Rattle.coherence_model.specs.DirectoryChanges.{directory}
use Rattle.coherence_model.specs.Emission.{Emission}
use Rattle.coherence_model.specs.SentSnoops.{sent_snoop_at}
use Rattle.coherence_model.specs.Tasks.{Purpose}

-- what an emission commits
abbrev commit_of : Emission → Option Commit
commit_of w = w.commit

-- a take commits nothing
take_uncommitted : (setup : Configuration) (k : ℕ) (m : Message) (dev : List Event) (w : Emission) → device_takes setup k m dev ≡ Some w → w.commit ≡ None
take_uncommitted setup k (Message.Req _ _ _ tag _) dev w row = ap commit_of (v1_take-inv tag.0 (buffered_requests k dev) w row).emits
take_uncommitted setup k (Message.MemWr _ _ tag _ _) dev w row = ap commit_of (v1_take-inv tag.0 (buffered_writes k dev) w row).emits
take_uncommitted setup k (Message.BiConflict tag) dev w row = ap commit_of (v1_take-inv tag.0 (buffered_writes k dev) w row).emits
take_uncommitted setup k (Message.BiRsp op bitag low) dev w row = ap commit_of (v2_response-inv op _ (sent_snoop_at k bitag.0 dev) w row).emits
take_uncommitted setup k (Message.Ndr _ _) dev w row = absurd (none-some w row)
take_uncommitted setup k (Message.MemData _ _) dev w row = absurd (none-some w row)
take_uncommitted setup k (Message.BiSnp _ _ _ _) dev w row = absurd (none-some w row)
take_uncommitted setup k (Message.Credit c) dev w row = ap commit_of (v1_credit-inv setup k c dev w row).emits

-- nor does a finished task
finish_uncommitted : (purpose : Purpose) (c : NdrOp) (host t : ℕ) (bytes : Bytes64) → (finish_emission purpose c host t bytes).commit ≡ None
finish_uncommitted Purpose.SharedRead c host t bytes = refl
finish_uncommitted Purpose.OwningRead c host t bytes = refl
finish_uncommitted Purpose.Invalidation c host t bytes = refl
finish_uncommitted Purpose.Eviction c host t bytes = refl

-- nor does any act
act_uncommitted : (setup : Configuration) (opening : List (Line × Bytes64)) (act : Act) (dev : List Event) (w : Emission) → device_acts setup opening act dev ≡ Some w → w.commit ≡ None
act_uncommitted setup opening (Act.Conflict line) dev w row = absurd (none-some w row)
act_uncommitted setup opening (Act.WriteBack line) dev w row = absurd (none-some w row)
act_uncommitted setup opening (Act.Answer line) dev w row = absurd (none-some w row)
act_uncommitted setup opening (Act.AnswerBlock line) dev w row = absurd (none-some w row)
act_uncommitted setup opening (Act.HostReturn c) dev w row = absurd (none-some w row)
act_uncommitted setup opening (Act.Serve k t) dev w row = ap commit_of (v3_serve-inv k (message_with t.0 (buffered_writes k dev)) w row).emits
act_uncommitted setup opening (Act.Clean k t) dev w row = ap commit_of (v4_clean-inv k (buffered_request k t dev) (directory setup dev) w row).emits
act_uncommitted setup opening (Act.Start k t) dev w row = ap commit_of (v5_start-inv setup k (buffered_request k t dev) (directory setup dev) dev w row).emits
act_uncommitted setup opening (Act.Evict k t) dev w row = ap commit_of (v6_evict-inv setup k (buffered_request k t dev) (directory setup dev) dev w row).emits
act_uncommitted setup opening (Act.Snoop k line) dev w row = ap commit_of (v7_snoop-inv k line.0 ((directory setup dev).task line.0) (directory setup dev) dev w row).emits
act_uncommitted setup opening (Act.Finish line) dev w row =
    let inv = v8_finish-inv setup opening line.0 ((directory setup dev).task line.0) (directory setup dev) dev w row in
    ap commit_of inv.emits ∙ finish_uncommitted inv.t.purpose _ inv.t.host inv.t.tag _
act_uncommitted setup opening (Act.DeviceReturn k c) dev w row = ap commit_of (v9_return-inv k c dev w row).emits

-- no row of the device commits
pub device_uncommitted : (setup : Configuration) (opening : List (Line × Bytes64)) (cause : Cause) (dev : List Event) (w : Emission) → device_emission setup opening cause dev ≡ Some w → w.commit ≡ None
device_uncommitted setup opening (Cause.Op s i op) dev w row = absurd (none-some w row)
device_uncommitted setup opening (Cause.Take k m) dev w row = take_uncommitted setup k m dev w (device_take-inv setup opening k m dev w row).same
device_uncommitted setup opening (Cause.Act act) dev w row = act_uncommitted setup opening act dev w row
