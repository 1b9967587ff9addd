-- What is open waits: for its grant, or as a read for its MemData. By recursion over a host's own events.
use Rattle.std.proofs.Common.{◌≡◌, ℕ, Bool, true, false, List, [], ◌∷◌, Option, Some, None, cond, refl, sym, ◌∙◌, ap, subst, ◌⊎◌, inl, inr}
use Rattle.std.specs.Prelude.{is_none, ◌&&◌, ◌==◌}
use Rattle.std.specs.Option.{option_or}
use Rattle.std.proofs.lemmas.Bool.{and_parts}
use Rattle.std.proofs.lemmas.Option.{none-some, same_Some}
use Rattle.cxl_message.specs.declared.events.Cause.{Cause}
use Rattle.cxl_message.specs.declared.events.Event.{Event}
use Rattle.cxl_message.specs.declared.events.Op.{Op}
use Rattle.cxl_message.specs.declared.events.Sends.{Sends}
use Rattle.cxl_message.specs.declared.identifiers.Bytes64.{Bytes64}
use Rattle.cxl_message.specs.declared.messages.Message.{Message}
use Rattle.cxl_message.specs.declared.opcodes.NdrOp.{NdrOp}
use Rattle.coherence_model.specs.Transactions.{Transaction, is_read, is_request, open_after, open_after_completion, open_after_data, open_after_take, open_at, opened_by_message, opened_by_sends}
use Rattle.coherence_lemmas.proofs.Options.{none_is}
use Rattle.request_laws.proofs.OpenLines.{after_take}

-- it wasn't granted, or it is a read without its MemData
abbrev pub Waits : Transaction → Type 0
Waits o = (o.grant ≡ None) ⊎ ((is_read o.kind ≡ true) × (o.bytes ≡ None))

waits_as : (o p : Transaction) → o ≡ p → Waits o → Waits p
waits_as o p same h = subst Waits same h

-- what is opened
opened_if : (b : Bool) (y x : Transaction) → Waits y → cond b (Some y) None ≡ Some x → Waits x
opened_if true y x h e = waits_as y x (same_Some y x e) h
opened_if false y x h e = absurd (none-some x e)

message_waits : (a s i : ℕ) (op : Op) (m : Message) (x : Transaction) → opened_by_message a s i op m ≡ Some x → Waits x
message_waits a s i op (Message.Req request meta snp tag line) x e = opened_if (line.0 == a) _ x (inl refl) e
message_waits a s i op (Message.MemWr meta snp tag line bytes) x e = opened_if (line.0 == a) _ x (inl refl) e
message_waits a s i op (Message.BiConflict _) x e = absurd (none-some x e)
message_waits a s i op (Message.BiRsp _ _ _) x e = absurd (none-some x e)
message_waits a s i op (Message.Ndr _ _) x e = absurd (none-some x e)
message_waits a s i op (Message.MemData _ _) x e = absurd (none-some x e)
message_waits a s i op (Message.BiSnp _ _ _ _) x e = absurd (none-some x e)
message_waits a s i op (Message.Credit _) x e = absurd (none-some x e)

either_waits : (o p : Option Transaction) (x : Transaction) → ((y : Transaction) → o ≡ Some y → Waits y) → ((y : Transaction) → p ≡ Some y → Waits y) → option_or o p ≡ Some x → Waits x
either_waits None p x f g e = g x e
either_waits (Some y) p x f g e = f x e

sends_wait : (a s i : ℕ) (op : Op) (sends : Sends) (x : Transaction) → opened_by_sends a s i op sends ≡ Some x → Waits x
sends_wait a s i op Sends.Nothing x e = absurd (none-some x e)
sends_wait a s i op (Sends.One o) x e = message_waits a s i op o.message x e
sends_wait a s i op (Sends.Two o p) x e =
    either_waits (opened_by_message a s i op o.message) (opened_by_message a s i op p.message) x (message_waits a s i op o.message) (message_waits a s i op p.message) e

-- what stays open after a take
granted_waits : (c : NdrOp) (o p : Transaction) (b : Bool) → (is_read o.kind && is_none o.bytes) ≡ b → cond b (Some (record o { grant = Some c })) None ≡ Some p → Waits p
granted_waits c o p true is e =
    let parts = and_parts _ _ is in
    let same = same_Some (record o { grant = Some c }) p e in
    inr (ap (λ (x : Transaction). is_read x.kind) (sym same) ∙ parts.0, ap (λ (x : Transaction). x.bytes) (sym same) ∙ none_is o.bytes parts.1)
granted_waits c o p false is e = absurd (none-some p e)

completion_waits : (c : NdrOp) (o p : Transaction) → Waits o → open_after_completion c o ≡ Some p → Waits p
completion_waits NdrOp.Cmp o p h e = opened_if (is_request o.kind) o p h e
completion_waits NdrOp.CmpS o p h e = granted_waits NdrOp.CmpS o p (is_read o.kind && is_none o.bytes) refl e
completion_waits NdrOp.CmpE o p h e = granted_waits NdrOp.CmpE o p (is_read o.kind && is_none o.bytes) refl e
completion_waits NdrOp.ConflictAck o p h e = waits_as o p (same_Some o p e) h

data_waits : (bytes : Bytes64) (o p : Transaction) (b : Bool) → is_none o.grant ≡ b → cond b (Some (record o { bytes = Some bytes })) None ≡ Some p → Waits p
data_waits bytes o p true is e = inl (ap (λ (x : Transaction). x.grant) (sym (same_Some (record o { bytes = Some bytes }) p e)) ∙ none_is o.grant is)
data_waits bytes o p false is e = absurd (none-some p e)

named_waits : (b : Bool) (o p : Transaction) (x : Option Transaction) → Waits o → (x ≡ Some p → Waits p) → cond b x (Some o) ≡ Some p → Waits p
named_waits true o p x h named e = named e
named_waits false o p x h named e = waits_as o p (same_Some o p e) h

take_waits : (m : Message) (o p : Transaction) → Waits o → open_after_take m o ≡ Some p → Waits p
take_waits (Message.Req _ _ _ _ _) o p h e = waits_as o p (same_Some o p e) h
take_waits (Message.MemWr _ _ _ _ _) o p h e = waits_as o p (same_Some o p e) h
take_waits (Message.BiConflict _) o p h e = waits_as o p (same_Some o p e) h
take_waits (Message.BiRsp _ _ _) o p h e = waits_as o p (same_Some o p e) h
take_waits (Message.Ndr c tag) o p h e = named_waits (tag.0 == o.tag) o p (open_after_completion c o) h (completion_waits c o p h) e
take_waits (Message.MemData tag bytes) o p h e = named_waits (tag.0 == o.tag) o p (open_after_data bytes o) h (data_waits bytes o p (is_none o.grant) refl) e
take_waits (Message.BiSnp _ _ _ _) o p h e = waits_as o p (same_Some o p e) h
take_waits (Message.Credit _) o p h e = waits_as o p (same_Some o p e) h

cause_waits : (a : ℕ) (cause : Cause) (sends : Sends) (old : Option Transaction) → ((o : Transaction) → old ≡ Some o → Waits o) → (p : Transaction) → open_after a cause sends old ≡ Some p → Waits p
cause_waits a (Cause.Op s i op) sends old inv p e = either_waits (opened_by_sends a s i op sends) old p (sends_wait a s i op sends) inv e
cause_waits a (Cause.Take host m) sends old inv p e = let was = after_take m old p e in take_waits m was.0 p (inv was.0 was.1) was.2
cause_waits a (Cause.Act act) sends old inv p e = inv p e

pub open_waits : (a : ℕ) (mine : List Event) (o : Transaction) → open_at a mine ≡ Some o → Waits o
open_waits a [] o e = absurd (none-some o e)
open_waits a (e ∷ past) o is = cause_waits a e.cause e.sends (open_at a past) (open_waits a past) o is
