-- Which events send on the channels of snoops and of answers: on the first Snoop alone, on the second Answer and AnswerBlock alone.
use Rattle.std.proofs.Common.{◌≡◌, ℕ, Bool, true, false, List, [], ◌∷◌, Some, cond, refl, sym, ◌∙◌, ap, subst, inl, inr}
use Rattle.std.specs.Prelude.{filter, map, ◌&&◌, ◌==◌}
use Rattle.std.proofs.lemmas.Bool.{false≢true}
use Rattle.std.proofs.lemmas.Option.{none-some, same_Some}
use Rattle.cxl_message.specs.declared.channels.Channel.{Channel}
use Rattle.cxl_message.specs.declared.events.Event.{Event}
use Rattle.cxl_message.specs.declared.events.Op.{Op}
use Rattle.cxl_message.specs.declared.events.Out.{Out}
use Rattle.cxl_message.specs.declared.events.Sends.{Sends}
use Rattle.cxl_message.specs.declared.identifiers.Bytes64.{Bytes64}
use Rattle.cxl_message.specs.declared.messages.Message.{Message}
use Rattle.cxl_message.specs.declared.opcodes.NdrOp.{NdrOp}
use Rattle.cxl_message.specs.Codes.{channel_eq}
use Rattle.cxl_message.specs.Events.{outs}
use Rattle.cxl_message.specs.Messages.{channel_of}
use Rattle.cxl_message.specs.Setup.{Configuration}
use Rattle.coherence_model.specs.Cache.{is_modified}
use Rattle.coherence_model.specs.DeviceActs.{finish_emission, served_by}
use Rattle.coherence_model.specs.Emission.{Emission}
use Rattle.coherence_model.specs.Flight.{is_on}
use Rattle.coherence_model.specs.HostOperations.{eviction_message, host_operates, request_message}
use Rattle.coherence_model.specs.Tasks.{Purpose}
use Rattle.coherence_lemmas.proofs.HostOperations.{RequestAlone, host_operates-inv}

-- the messages that are sent on a channel of a host
abbrev pub sent_there : ℕ → Channel → Sends → List Message
sent_there h c sends = map (λ (o : Out). o.message) (filter (is_on h c) (outs sends))

dropped : (own on : Bool) (o : Out) → on ≡ false → map (λ (p : Out). p.message) (cond (own && on) (o ∷ []) []) ≡ []
dropped true true o off = absurd (false≢true (sym off))
dropped true false o off = refl
dropped false on o off = refl

-- a message of another channel
pub one_off : (h k : ℕ) (c : Channel) (m : Message) → channel_eq (channel_of m) c ≡ false → sent_there h c (Sends.One (record { host = k; message = m })) ≡ []
one_off h k c m off = dropped (k == h) (channel_eq (channel_of m) c) (record { host = k; message = m }) off

both_dropped : (own on off : Bool) (o p : Out) → on ≡ false → off ≡ false → map (λ (x : Out). x.message) (cond (own && on) (o ∷ cond (own && off) (p ∷ []) []) (cond (own && off) (p ∷ []) [])) ≡ []
both_dropped true true off o p h k = absurd (false≢true (sym h))
both_dropped true false true o p h k = absurd (false≢true (sym k))
both_dropped true false false o p h k = refl
both_dropped false on off o p h k = refl

pub two_off : (h k : ℕ) (c : Channel) (m n : Message) → channel_eq (channel_of m) c ≡ false → channel_eq (channel_of n) c ≡ false
    → sent_there h c (Sends.Two (record { host = k; message = m }) (record { host = k; message = n })) ≡ []
two_off h k c m n first second =
    both_dropped (k == h) (channel_eq (channel_of m) c) (channel_eq (channel_of n) c) (record { host = k; message = m }) (record { host = k; message = n }) first second

-- a message of the channel
pub one_on : (h k : ℕ) (c : Channel) (m : Message) → (k == h) ≡ true → channel_eq (channel_of m) c ≡ true → sent_there h c (Sends.One (record { host = k; message = m })) ≡ m ∷ []
one_on h k c m own on = by (k == h) (channel_eq (channel_of m) c) own on
  where
    by : (x y : Bool) → x ≡ true → y ≡ true → map (λ (p : Out). p.message) (cond (x && y) (record { host = k; message = m } ∷ []) []) ≡ m ∷ []
    by true true p q = refl
    by true false p q = absurd (false≢true q)
    by false y p q = absurd (false≢true p)

pub other_host : (h k : ℕ) (c : Channel) (m : Message) → (k == h) ≡ false → sent_there h c (Sends.One (record { host = k; message = m })) ≡ []
other_host h k c m other = by (k == h) other
  where
    by : (x : Bool) → x ≡ false → map (λ (p : Out). p.message) (cond (x && channel_eq (channel_of m) c) (record { host = k; message = m } ∷ []) []) ≡ []
    by true p = absurd (false≢true (sym p))
    by false p = refl

-- ---- the device

pub credit_off : (c : Channel) → (channel_eq (channel_of (Message.Credit c)) Channel.BiSnp ≡ false) × (channel_eq (channel_of (Message.Credit c)) Channel.BiRsp ≡ false)
credit_off Channel.Req = (refl, refl)
credit_off Channel.Rwd = (refl, refl)
credit_off Channel.BiRsp = (refl, refl)
credit_off Channel.Ndr = (refl, refl)
credit_off Channel.Drs = (refl, refl)
credit_off Channel.BiSnp = (refl, refl)
credit_off Channel.CreditUp = (refl, refl)
credit_off Channel.CreditDown = (refl, refl)

pub served_off : (m answer : Message) → served_by m ≡ Some answer → channel_eq (channel_of answer) Channel.BiSnp ≡ false
served_off (Message.Req _ _ _ _ _) answer h = absurd (none-some answer h)
served_off (Message.MemWr _ _ tag _ _) answer h = subst (λ n. channel_eq (channel_of n) Channel.BiSnp ≡ false) (same_Some (Message.Ndr NdrOp.Cmp tag) answer h) refl
served_off (Message.BiConflict tag) answer h = subst (λ n. channel_eq (channel_of n) Channel.BiSnp ≡ false) (same_Some (Message.Ndr NdrOp.ConflictAck tag) answer h) refl
served_off (Message.BiRsp _ _ _) answer h = absurd (none-some answer h)
served_off (Message.Ndr _ _) answer h = absurd (none-some answer h)
served_off (Message.MemData _ _) answer h = absurd (none-some answer h)
served_off (Message.BiSnp _ _ _ _) answer h = absurd (none-some answer h)
served_off (Message.Credit _) answer h = absurd (none-some answer h)

pub finish_off : (h : ℕ) (purpose : Purpose) (c : NdrOp) (k tag : ℕ) (bytes : Bytes64) → sent_there h Channel.BiSnp (finish_emission purpose c k tag bytes).sends ≡ []
finish_off h Purpose.SharedRead c k tag bytes = two_off h k Channel.BiSnp (Message.Ndr c (record { 0 = tag })) (Message.MemData (record { 0 = tag }) bytes) refl refl
finish_off h Purpose.OwningRead c k tag bytes = two_off h k Channel.BiSnp (Message.Ndr NdrOp.CmpE (record { 0 = tag })) (Message.MemData (record { 0 = tag }) bytes) refl refl
finish_off h Purpose.Invalidation c k tag bytes = one_off h k Channel.BiSnp (Message.Ndr NdrOp.CmpE (record { 0 = tag })) refl
finish_off h Purpose.Eviction c k tag bytes = refl

-- ---- a host

request_off : (op : Op) (tag : ℕ) → channel_eq (channel_of (request_message op tag)) Channel.BiRsp ≡ false
request_off (Op.Load line) tag = refl
request_off (Op.Word line _ _) tag = refl
request_off (Op.Whole line _) tag = refl

either_off : (b : Bool) (m n : Message) (c : Channel) → channel_eq (channel_of m) c ≡ false → channel_eq (channel_of n) c ≡ false → channel_eq (channel_of (cond b m n)) c ≡ false
either_off true m n c first second = first
either_off false m n c first second = second

eviction_off : (setup : Configuration) (v : ℕ) (mine : List Event) (tag : ℕ) → channel_eq (channel_of (eviction_message setup v mine tag)) Channel.BiRsp ≡ false
eviction_off setup v mine tag = either_off (is_modified setup v mine) _ _ Channel.BiRsp refl refl

sends_as : (h : ℕ) (c : Channel) (w x : Emission) → w ≡ x → sent_there h c x.sends ≡ [] → sent_there h c w.sends ≡ []
sends_as h c w x same off = ap (λ (y : Emission). sent_there h c y.sends) same ∙ off

alone_off : (h k : ℕ) (op : Op) (tags : List ℕ) (w : Emission) → RequestAlone k op tags w → sent_there h Channel.BiRsp w.sends ≡ []
alone_off h k op tags w r = sends_as h Channel.BiRsp w _ r.emits (one_off h k Channel.BiRsp (request_message op r.tag) (request_off op r.tag))

pub operation_off : (setup : Configuration) (h k s i : ℕ) (op : Op) (mine : List Event) (w : Emission) → host_operates setup k s i op mine ≡ Some w → sent_there h Channel.BiRsp w.sends ≡ []
operation_off setup h k s i op mine w row = elim (host_operates-inv setup k s i op mine w row) [
  | inl hit ↦ sends_as h Channel.BiRsp w _ hit.emits refl
  | inr missed ↦ (elim missed.how [
    | inl without ↦ alone_off h k op _ w without.alone
    | inr with_victim ↦ (elim with_victim [
      | inl shared ↦ alone_off h k op _ w shared.alone
      | inr writable ↦ (
          let e = writable.evicting in
          sends_as h Channel.BiRsp w _ e.emits
          (two_off h k Channel.BiRsp (eviction_message setup writable.v mine e.eviction_tag) (request_message op e.tag) (eviction_off setup writable.v mine e.eviction_tag) (request_off op e.tag))
          )
    ])
  ])
]
