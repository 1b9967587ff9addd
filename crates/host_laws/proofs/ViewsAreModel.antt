-- The rows over a view of a list of own events are the model's rows.
use Rattle.std.proofs.lemmas.Bool.{false≢true}
use Rattle.std.proofs.Common.{Bool, List, None, Option, ap, cond, false, length, refl, sym, true, ℕ, ◌+◌, ◌∙◌, ◌≡◌}
use Rattle.std.specs.Prelude.{nat_lt, not, ◌||◌}
use Rattle.cxl_message.specs.declared.channels.Channel.{Channel}
use Rattle.cxl_message.specs.declared.events.Act.{Act}
use Rattle.cxl_message.specs.declared.events.Cause.{Cause}
use Rattle.cxl_message.specs.declared.events.Event.{Event}
use Rattle.cxl_message.specs.declared.events.Op.{Op}
use Rattle.cxl_message.specs.declared.messages.Message.{Message}
use Rattle.cxl_message.specs.declared.opcodes.NdrOp.{NdrOp}
use Rattle.cxl_message.specs.Channels.{credit_channel, goes_to_device}
use Rattle.cxl_message.specs.Messages.{channel_of}
use Rattle.cxl_message.specs.Setup.{Configuration}
use Rattle.coherence_model.specs.Credits.{has_room, held_count}
use Rattle.coherence_model.specs.Emission.{Emission}
use Rattle.coherence_model.specs.HostActs.{host_acts}
use Rattle.coherence_model.specs.HostOperations.{host_operates}
use Rattle.coherence_model.specs.HostRows.{host_emission}
use Rattle.coherence_model.specs.HostTakes.{h6_credit, host_takes_ndr}
use Rattle.coherence_model.specs.Snoops.{buffered_snoops, host_owed}
use Rattle.host_record.specs.Laws.{ActsAreModel, OperationsAreModel}
use Rattle.host_record.specs.View.{view_of}
use Rattle.host_record.specs.ViewRows.{acts_by, credit_by, emission_by, has_room_by, ndr_by, operates_by}

-- what is owed and what is buffered are held
pub record OwesHeld (h : ℕ) (mine : List Event) : Type 0 where
  pub ndr : host_owed h Channel.Ndr mine ≡ held_count h Channel.Ndr mine
  pub drs : host_owed h Channel.Drs mine ≡ held_count h Channel.Drs mine
  pub bi_snp : host_owed h Channel.BiSnp mine + length (buffered_snoops mine) ≡ held_count h Channel.BiSnp mine

pub operation_is : (setup : Configuration) (h s i : ℕ) (op : Op) (mine : List Event) → operates_by setup h s i op (view_of setup h mine) ≡ host_operates setup h s i op mine
operation_is setup h s i op mine = refl

pub ndr_is : (setup : Configuration) (h : ℕ) (op : NdrOp) (tag : ℕ) (mine : List Event) → ndr_by setup op tag (view_of setup h mine) ≡ host_takes_ndr setup op tag mine
ndr_is setup h NdrOp.Cmp tag mine = refl
ndr_is setup h NdrOp.CmpS tag mine = refl
ndr_is setup h NdrOp.CmpE tag mine = refl
ndr_is setup h NdrOp.ConflictAck tag mine = refl

pub act_is : (setup : Configuration) (h : ℕ) (act : Act) (mine : List Event) → acts_by setup h act (view_of setup h mine) ≡ host_acts setup h act mine
act_is setup h (Act.Conflict line) mine = refl
act_is setup h (Act.WriteBack line) mine = refl
act_is setup h (Act.Answer line) mine = refl
act_is setup h (Act.AnswerBlock line) mine = refl
act_is setup h (Act.HostReturn Channel.Req) mine = refl
act_is setup h (Act.HostReturn Channel.Rwd) mine = refl
act_is setup h (Act.HostReturn Channel.BiRsp) mine = refl
act_is setup h (Act.HostReturn Channel.Ndr) mine = refl
act_is setup h (Act.HostReturn Channel.Drs) mine = refl
act_is setup h (Act.HostReturn Channel.BiSnp) mine = refl
act_is setup h (Act.HostReturn Channel.CreditUp) mine = refl
act_is setup h (Act.HostReturn Channel.CreditDown) mine = refl
act_is setup h (Act.Serve host tag) mine = refl
act_is setup h (Act.Clean host tag) mine = refl
act_is setup h (Act.Start host tag) mine = refl
act_is setup h (Act.Evict host tag) mine = refl
act_is setup h (Act.Snoop host line) mine = refl
act_is setup h (Act.Finish line) mine = refl
act_is setup h (Act.DeviceReturn host c) mine = refl

in_room : (b c : Bool) (x y : Option Emission) → b ≡ c → x ≡ y → cond b x None ≡ cond c y None
in_room b c x y same is = ap (λ z. cond b z None) is ∙ ap (λ d. cond d y None) same

no_room : (b c : Bool) → ◌≡◌ {A = Option Emission} (cond b None None) (cond c None None)
no_room true true = refl
no_room true false = refl
no_room false true = refl
no_room false false = refl

-- a take that its host may have: a Credit goes to the host
abbrev pub GoesToHost : Cause → Type 0
GoesToHost (Cause.Op s i op) = Unit {0}
GoesToHost (Cause.Take g m) = goes_to_device (channel_of m) ≡ false
GoesToHost (Cause.Act act) = Unit {0}

pub credit_is : (setup : Configuration) (h : ℕ) (c : Channel) (mine : List Event) → goes_to_device (credit_channel c) ≡ false → credit_by setup c (view_of setup h mine) ≡ h6_credit setup h c mine
credit_is setup h Channel.Req mine to = refl
credit_is setup h Channel.Rwd mine to = refl
credit_is setup h Channel.BiRsp mine to = refl
credit_is setup h Channel.Ndr mine to = absurd (false≢true (sym to))
credit_is setup h Channel.Drs mine to = absurd (false≢true (sym to))
credit_is setup h Channel.BiSnp mine to = absurd (false≢true (sym to))
credit_is setup h Channel.CreditUp mine to = absurd (false≢true (sym to))
credit_is setup h Channel.CreditDown mine to = absurd (false≢true (sym to))

pub take_is : (setup : Configuration) (h g : ℕ) (m : Message) (mine : List Event) → OwesHeld h mine → goes_to_device (channel_of m) ≡ false
    → emission_by setup h (Cause.Take g m) (view_of setup h mine) ≡ host_emission setup h (Cause.Take g m) mine
take_is setup h g (Message.Req op meta snp tag line) mine held to = absurd (false≢true (sym to))
take_is setup h g (Message.MemWr meta snp tag line bytes) mine held to = absurd (false≢true (sym to))
take_is setup h g (Message.BiConflict tag) mine held to = absurd (false≢true (sym to))
take_is setup h g (Message.BiRsp op bitag low) mine held to = absurd (false≢true (sym to))
take_is setup h g (Message.Ndr op tag) mine held to =
    in_room _ _ _ _ (ap (λ n. not true || nat_lt n setup.credits) held.ndr) (ndr_is setup h op tag.0 mine)
take_is setup h g (Message.MemData tag bytes) mine held to = in_room _ _ _ _ (ap (λ n. not true || nat_lt n setup.credits) held.drs) refl
take_is setup h g (Message.BiSnp op bitag line span) mine held to = in_room _ _ _ _ (ap (λ n. not true || nat_lt n setup.credits) held.bi_snp) refl
take_is setup h g (Message.Credit c) mine held to = ap (λ b. cond b (credit_by setup c (view_of setup h mine)) None) (credits_roomy c) ∙ credit_is setup h c mine to ∙ ap (λ b. cond b (h6_credit setup h c mine) None) (sym (credits_roomy_too setup h c mine))
  where
    credits_roomy : (c : Channel) → has_room_by setup (Message.Credit c) (view_of setup h mine) ≡ true
    credits_roomy Channel.Req = refl
    credits_roomy Channel.Rwd = refl
    credits_roomy Channel.BiRsp = refl
    credits_roomy Channel.Ndr = refl
    credits_roomy Channel.Drs = refl
    credits_roomy Channel.BiSnp = refl
    credits_roomy Channel.CreditUp = refl
    credits_roomy Channel.CreditDown = refl

    credits_roomy_too : (setup : Configuration) (h : ℕ) (c : Channel) (mine : List Event) → has_room setup h (Message.Credit c) mine ≡ true
    credits_roomy_too setup h Channel.Req mine = refl
    credits_roomy_too setup h Channel.Rwd mine = refl
    credits_roomy_too setup h Channel.BiRsp mine = refl
    credits_roomy_too setup h Channel.Ndr mine = refl
    credits_roomy_too setup h Channel.Drs mine = refl
    credits_roomy_too setup h Channel.BiSnp mine = refl
    credits_roomy_too setup h Channel.CreditUp mine = refl
    credits_roomy_too setup h Channel.CreditDown mine = refl

pub operations_are_model : OperationsAreModel
operations_are_model setup h mine s i op = operation_is setup h s i op mine

pub acts_are_model : ActsAreModel
acts_are_model setup h mine act = act_is setup h act mine
