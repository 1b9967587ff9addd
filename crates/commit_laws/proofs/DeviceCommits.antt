-- The device commits nothing.
use Rattle.std.proofs.Common.{◌≡◌, ℕ, List, Some, None, refl}
use Rattle.std.proofs.lemmas.Option.{none-some}
use Rattle.cxl_message.specs.declared.events.Act.{Act}
use Rattle.cxl_message.specs.declared.events.Cause.{Cause}
use Rattle.cxl_message.specs.declared.events.Event.{Event}
use Rattle.cxl_message.specs.declared.identifiers.Bytes64.{Bytes64}
use Rattle.cxl_message.specs.declared.identifiers.Line.{Line}
use Rattle.cxl_message.specs.declared.messages.Message.{Message}
use Rattle.cxl_message.specs.declared.opcodes.NdrOp.{NdrOp}
use Rattle.cxl_message.specs.Setup.{Configuration}
use Rattle.coherence_model.specs.Buffers.{buffered_requests, buffered_writes, message_with}
use Rattle.coherence_model.specs.DeviceActs.{buffered_request, device_acts, finish_emission}
use Rattle.coherence_model.specs.DeviceRows.{device_emission}
use Rattle.coherence_model.specs.DeviceTakes.{device_takes}
use Rattle.coherence_model.specs.DirectoryChanges.{directory}
use Rattle.coherence_model.specs.Emission.{Emission}
use Rattle.coherence_model.specs.SentSnoops.{sent_snoop_at}
use Rattle.coherence_model.specs.Tasks.{Purpose}
use Rattle.coherence_lemmas.proofs.DeviceActs.{v3_serve-inv, v4_clean-inv, v5_start-inv, v6_evict-inv, v7_snoop-inv, v8_finish-inv, v9_return-inv}
use Rattle.coherence_lemmas.proofs.DeviceTakes.{v1_credit-inv, v1_take-inv, v2_response-inv}
use Rattle.coherence_lemmas.proofs.Rows.{device_take-inv}
use Rattle.commit_laws.proofs.HostEffects.{commit_as}

-- no take of the device commits
take_commits_none : (setup : Configuration) (h : ℕ) (m : Message) (mine : List Event) (w : Emission) → device_takes setup h m mine ≡ Some w → w.commit ≡ None
take_commits_none setup h (Message.Req _ _ _ tag _) mine w e = commit_as w _ (v1_take-inv tag.0 (buffered_requests h mine) w e).emits refl
take_commits_none setup h (Message.MemWr _ _ tag _ _) mine w e = commit_as w _ (v1_take-inv tag.0 (buffered_writes h mine) w e).emits refl
take_commits_none setup h (Message.BiConflict tag) mine w e = commit_as w _ (v1_take-inv tag.0 (buffered_writes h mine) w e).emits refl
take_commits_none setup h (Message.BiRsp op bitag low) mine w e = commit_as w _ (v2_response-inv op _ (sent_snoop_at h bitag.0 mine) w e).emits refl
take_commits_none setup h (Message.Ndr _ _) mine w e = absurd (none-some w e)
take_commits_none setup h (Message.MemData _ _) mine w e = absurd (none-some w e)
take_commits_none setup h (Message.BiSnp _ _ _ _) mine w e = absurd (none-some w e)
take_commits_none setup h (Message.Credit c) mine w e = commit_as w _ (v1_credit-inv setup h c mine w e).emits refl

-- nor does the end of a task
finish_commits_none : (p : Purpose) (c : NdrOp) (h tag : ℕ) (bytes : Bytes64) → (finish_emission p c h tag bytes).commit ≡ None
finish_commits_none Purpose.SharedRead c h tag bytes = refl
finish_commits_none Purpose.OwningRead c h tag bytes = refl
finish_commits_none Purpose.Invalidation c h tag bytes = refl
finish_commits_none Purpose.Eviction c h tag bytes = refl

-- nor does any act of the device
act_commits_none : (setup : Configuration) (opening : List (Line × Bytes64)) (act : Act) (mine : List Event) (w : Emission) → device_acts setup opening act mine ≡ Some w → w.commit ≡ None
act_commits_none setup opening (Act.Conflict _) mine w is = absurd (none-some w is)
act_commits_none setup opening (Act.WriteBack _) mine w is = absurd (none-some w is)
act_commits_none setup opening (Act.Answer _) mine w is = absurd (none-some w is)
act_commits_none setup opening (Act.AnswerBlock _) mine w is = absurd (none-some w is)
act_commits_none setup opening (Act.HostReturn _) mine w is = absurd (none-some w is)
act_commits_none setup opening (Act.Serve h tag) mine w is = commit_as w _ (v3_serve-inv h (message_with tag.0 (buffered_writes h mine)) w is).emits refl
act_commits_none setup opening (Act.Clean h tag) mine w is = commit_as w _ (v4_clean-inv h (buffered_request h tag mine) (directory setup mine) w is).emits refl
act_commits_none setup opening (Act.Start h tag) mine w is = commit_as w _ (v5_start-inv setup h (buffered_request h tag mine) (directory setup mine) mine w is).emits refl
act_commits_none setup opening (Act.Evict h tag) mine w is = commit_as w _ (v6_evict-inv setup h (buffered_request h tag mine) (directory setup mine) mine w is).emits refl
act_commits_none setup opening (Act.Snoop h line) mine w is = commit_as w _ (v7_snoop-inv h line.0 ((directory setup mine).task line.0) (directory setup mine) mine w is).emits refl
act_commits_none setup opening (Act.Finish line) mine w is =
    let by = v8_finish-inv setup opening line.0 ((directory setup mine).task line.0) (directory setup mine) mine w is in commit_as w _ by.emits (finish_commits_none by.t.purpose _ by.t.host by.t.tag _)
act_commits_none setup opening (Act.DeviceReturn h c) mine w is = commit_as w _ (v9_return-inv h c mine w is).emits refl

-- no row of the device commits
pub device_commits_none :
    (setup : Configuration) (opening : List (Line × Bytes64)) (cause : Cause) (mine : List Event) (w : Emission) → device_emission setup opening cause mine ≡ Some w → w.commit ≡ None
device_commits_none setup opening (Cause.Op _ _ _) mine w is = absurd (none-some w is)
device_commits_none setup opening (Cause.Take h m) mine w is = take_commits_none setup h m mine w (device_take-inv setup opening h m mine w is).same
device_commits_none setup opening (Cause.Act act) mine w is = act_commits_none setup opening act mine w is
