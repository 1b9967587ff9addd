-- No take sends a message, at a host or at the device.
use Rattle.std.proofs.Common.{◌≡◌, ℕ, Bool, true, false, List, Option, Some, None, refl, ◌∙◌, ap, inl, inr}
use Rattle.std.specs.Prelude.{if◌then◌else◌, is_none}
use Rattle.cxl_message.specs.declared.events.Event.{Event}
use Rattle.cxl_message.specs.declared.events.Sends.{Sends}
use Rattle.cxl_message.specs.declared.identifiers.Bytes64.{Bytes64}
use Rattle.cxl_message.specs.declared.messages.Message.{Message}
use Rattle.cxl_message.specs.declared.opcodes.NdrOp.{NdrOp}
use Rattle.cxl_message.specs.Setup.{Configuration}
use Rattle.coherence_model.specs.Buffers.{buffered_requests, buffered_writes}
use Rattle.coherence_model.specs.DeviceTakes.{device_takes}
use Rattle.coherence_model.specs.Emission.{Emission, nothing}
use Rattle.coherence_model.specs.HostTakes.{data_emission, fill_emission, grant_emission, host_takes, host_takes_ndr, is_write_back_tag}
use Rattle.coherence_model.specs.SentSnoops.{sent_snoop_at}
use Rattle.coherence_model.specs.Tags.{open_with}
use Rattle.coherence_model.specs.Transactions.{Transaction, is_read}
use Rattle.coherence_lemmas.proofs.DeviceTakes.{v1_credit-inv, v1_take-inv, v2_response-inv}
use Rattle.coherence_lemmas.proofs.HostTakes.{h3_completion-inv, h3_data-inv, h3_grant-inv, h4_snoop-inv, h5_conflict_ack-inv, h6_credit-inv}

-- nothing is sent
abbrev pub IsSilent : Emission → Type 0
IsSilent w = w.sends ≡ Sends.Nothing

-- what is the same as a silent emission is silent
silent_as : (w x : Emission) → w ≡ x → IsSilent x → IsSilent w
silent_as w x same silent = ap (λ (y : Emission). y.sends) same ∙ silent

-- one of two silent emissions is silent
silent_either : (test : Bool) (x y : Emission) → IsSilent x → IsSilent y → IsSilent (if test then x else y)
silent_either true x y hx hy = hx
silent_either false x y hx hy = hy

pub grant_silent : (o : Transaction) (bytes : Option Bytes64) → IsSilent (grant_emission o bytes)
grant_silent o None = silent_either (is_read o.kind) nothing _ refl refl
grant_silent o (Some bytes) = refl

pub data_silent : (o : Transaction) (bytes : Bytes64) → IsSilent (data_emission o bytes)
data_silent o bytes = silent_either (is_none o.grant) nothing (fill_emission o bytes) refl refl

ndr_silent : (setup : Configuration) (op : NdrOp) (tag : ℕ) (mine : List Event) (w : Emission) → host_takes_ndr setup op tag mine ≡ Some w → IsSilent w
ndr_silent setup NdrOp.Cmp tag mine w e = elim (h3_completion-inv (is_write_back_tag setup tag mine) (open_with tag mine) w e) [
  | inl written ↦ silent_as w nothing written.emits refl
  | inr evicted ↦ silent_as w nothing evicted.emits refl
]
ndr_silent setup NdrOp.CmpS tag mine w e = let inv = h3_grant-inv NdrOp.CmpS (open_with tag mine) w e in silent_as w _ inv.emits (grant_silent inv.o inv.o.bytes)
ndr_silent setup NdrOp.CmpE tag mine w e = let inv = h3_grant-inv NdrOp.CmpE (open_with tag mine) w e in silent_as w _ inv.emits (grant_silent inv.o inv.o.bytes)
ndr_silent setup NdrOp.ConflictAck tag mine w e = silent_as w nothing (h5_conflict_ack-inv tag mine w e).emits refl

-- a host sends nothing at a take
pub host_takes_silent : (setup : Configuration) (h : ℕ) (m : Message) (mine : List Event) (w : Emission) → host_takes setup h m mine ≡ Some w → IsSilent w
host_takes_silent setup h (Message.Req _ _ _ _ _) mine w e = cc
host_takes_silent setup h (Message.MemWr _ _ _ _ _) mine w e = cc
host_takes_silent setup h (Message.BiConflict _) mine w e = cc
host_takes_silent setup h (Message.BiRsp _ _ _) mine w e = cc
host_takes_silent setup h (Message.Ndr op tag) mine w e = ndr_silent setup op tag.0 mine w e
host_takes_silent setup h (Message.MemData tag bytes) mine w e = let inv = h3_data-inv bytes (open_with tag.0 mine) w e in silent_as w _ inv.emits (data_silent inv.o bytes)
host_takes_silent setup h (Message.BiSnp _ _ line span) mine w e = silent_as w nothing (h4_snoop-inv line.0 span mine w e).emits refl
host_takes_silent setup h (Message.Credit c) mine w e = silent_as w nothing (h6_credit-inv setup h c mine w e).emits refl

-- so does the device
pub device_takes_silent : (setup : Configuration) (h : ℕ) (m : Message) (mine : List Event) (w : Emission) → device_takes setup h m mine ≡ Some w → IsSilent w
device_takes_silent setup h (Message.Req _ _ _ tag _) mine w e = silent_as w nothing (v1_take-inv tag.0 (buffered_requests h mine) w e).emits refl
device_takes_silent setup h (Message.MemWr _ _ tag _ _) mine w e = silent_as w nothing (v1_take-inv tag.0 (buffered_writes h mine) w e).emits refl
device_takes_silent setup h (Message.BiConflict tag) mine w e = silent_as w nothing (v1_take-inv tag.0 (buffered_writes h mine) w e).emits refl
device_takes_silent setup h (Message.BiRsp op bitag low) mine w e = silent_as w nothing (v2_response-inv op _ (sent_snoop_at h bitag.0 mine) w e).emits refl
device_takes_silent setup h (Message.Ndr _ _) mine w e = cc
device_takes_silent setup h (Message.MemData _ _) mine w e = cc
device_takes_silent setup h (Message.BiSnp _ _ _ _) mine w e = cc
device_takes_silent setup h (Message.Credit c) mine w e = silent_as w nothing (v1_credit-inv setup h c mine w e).emits refl
