-- What the device sends, as a tag of a host sees it.
use Rattle.std.proofs.Common.{◌≡◌, ℕ, ◌+◌, Bool, true, false, [], ◌∷◌, Option, Some, cond, count_by, map, refl, ◌∙◌, ap, subst, arith}
use Rattle.std.specs.Prelude.{◌&&◌, ◌==◌}
use Rattle.std.proofs.lemmas.Option.{none-some}
use Rattle.cxl_message.specs.declared.channels.Channel.{Channel}
use Rattle.cxl_message.specs.declared.events.Out.{Out}
use Rattle.cxl_message.specs.declared.events.Sends.{Sends}
use Rattle.cxl_message.specs.declared.messages.Message.{Message}
use Rattle.cxl_message.specs.declared.opcodes.NdrOp.{NdrOp}
use Rattle.cxl_message.specs.Codes.{channel_eq}
use Rattle.cxl_message.specs.Messages.{channel_of}
use Rattle.coherence_model.specs.DeviceActs.{served_by}
use Rattle.coherence_model.specs.RequestFacts.{grants, is_ndr_with}
use Rattle.coherence_model.specs.WriteBacks.{completes}
use Rattle.request_laws.proofs.Counts.{count_by-cons}
use Rattle.request_laws.proofs.Places.{is_write_of, on_channel}

-- how many of what is sent on a channel of a host pass
abbrev pub sent_there : (Message → Bool) → ℕ → Channel → Sends → ℕ
sent_there p h c sends = count_by p (on_channel h c sends)

one_by : (b : Bool) (o : Out) (p : Message → Bool) → count_by p (map (λ (x : Out). x.message) (cond b (o ∷ []) [])) ≡ cond (b && p o.message) 1 0
one_by true o p = count_by-cons p o.message [] ∙ zero_more (cond (p o.message) 1 0)
  where
    zero_more : (n : ℕ) → n + 0 ≡ n
    zero_more n = omega arith
one_by false o p = refl

pub one_there : (p : Message → Bool) (h k : ℕ) (c : Channel) (m : Message) → sent_there p h c (Sends.One (record { host = k; message = m })) ≡ cond (((k == h) && channel_eq (channel_of m) c) && p m) 1 0
one_there p h k c m = one_by ((k == h) && channel_eq (channel_of m) c) (record { host = k; message = m }) p

two_by : (b d : Bool) (o q : Out) (p : Message → Bool)
    → count_by p (map (λ (x : Out). x.message) (cond b (o ∷ cond d (q ∷ []) []) (cond d (q ∷ []) []))) ≡ cond (b && p o.message) 1 0 + cond (d && p q.message) 1 0
two_by true d o q p = count_by-cons p o.message (map (λ (x : Out). x.message) (cond d (q ∷ []) [])) ∙ ap (λ n. cond (p o.message) 1 0 + n) (one_by d q p)
two_by false d o q p = one_by d q p ∙ zero_front (cond (d && p q.message) 1 0)
  where
    zero_front : (n : ℕ) → n ≡ 0 + n
    zero_front n = omega arith

pub two_there : (p : Message → Bool) (h k : ℕ) (c : Channel) (m n : Message)
    → sent_there p h c (Sends.Two (record { host = k; message = m }) (record { host = k; message = n }))
    ≡ cond (((k == h) && channel_eq (channel_of m) c) && p m) 1 0 + cond (((k == h) && channel_eq (channel_of n) c) && p n) 1 0
two_there p h k c m n = two_by ((k == h) && channel_eq (channel_of m) c) ((k == h) && channel_eq (channel_of n) c) (record { host = k; message = m }) (record { host = k; message = n }) p

-- the answer to a served message: Cmp where that is a MemWr
pub record ServedBy (tag : ℕ) (m answer : Message) : Type 0 where
  pub completion : is_ndr_with completes tag answer ≡ is_write_of tag m
  pub no_grant : is_ndr_with grants tag answer ≡ false
  pub no_data : channel_eq (channel_of answer) Channel.Drs ≡ false
  pub on_ndr : channel_eq (channel_of answer) Channel.Ndr ≡ true

served_as : (tag : ℕ) (m answer x : Message) → ◌≡◌ {A = Option Message} (Some x) (Some answer) → ServedBy tag m x → ServedBy tag m answer
served_as tag m answer x same by = subst (ServedBy tag m) (some_same same) by
  where
    some_same : ◌≡◌ {A = Option Message} (Some x) (Some answer) → x ≡ answer
    some_same e = cc

pub served : (tag : ℕ) (m answer : Message) → served_by m ≡ Some answer → ServedBy tag m answer
served tag (Message.Req _ _ _ _ _) answer e = absurd (none-some answer e)
served tag (Message.MemWr meta snp t line bytes) answer e = served_as tag (Message.MemWr meta snp t line bytes) answer (Message.Ndr NdrOp.Cmp t) e (record { completion = refl; no_grant = refl; no_data = refl; on_ndr = refl })
served tag (Message.BiConflict t) answer e = served_as tag (Message.BiConflict t) answer (Message.Ndr NdrOp.ConflictAck t) e (record { completion = refl; no_grant = refl; no_data = refl; on_ndr = refl })
served tag (Message.BiRsp _ _ _) answer e = absurd (none-some answer e)
served tag (Message.Ndr _ _) answer e = absurd (none-some answer e)
served tag (Message.MemData _ _) answer e = absurd (none-some answer e)
served tag (Message.BiSnp _ _ _ _) answer e = absurd (none-some answer e)
served tag (Message.Credit _) answer e = absurd (none-some answer e)
