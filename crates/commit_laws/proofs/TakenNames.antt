-- A take keeps the names of what stays open: its stream, its index, its operation and its kind.
use Rattle.std.proofs.Common.{◌≡◌, Bool, true, false, cond, Option, Some, None, refl, subst}
use Rattle.std.specs.Prelude.{is_none, ◌==◌, ◌&&◌}
use Rattle.std.proofs.lemmas.Option.{none-some, same_Some}
use Rattle.cxl_message.specs.declared.messages.Message.{Message}
use Rattle.cxl_message.specs.declared.opcodes.NdrOp.{NdrOp}
use Rattle.coherence_model.specs.Transactions.{Transaction, is_read, is_request, open_after_completion, open_after_data, open_after_take}

-- the names are the same
pub record NamesKept (o p : Transaction) : Type 0 where
  pub stream : p.stream ≡ o.stream
  pub index : p.index ≡ o.index
  pub op : p.op ≡ o.op
  pub kind : p.kind ≡ o.kind

-- by itself
names_same : (o : Transaction) → NamesKept o o
names_same o = record { stream = refl; index = refl; op = refl; kind = refl }

-- by what is the same
names_as : (o x p : Transaction) → x ≡ p → NamesKept o x → NamesKept o p
names_as o x p same names = subst (NamesKept o) same names

-- what stays open if a test holds
names_if : (b : Bool) (o x p : Transaction) → NamesKept o x → cond b (Some x) None ≡ Some p → NamesKept o p
names_if true o x p names h = names_as o x p (same_Some x p h) names
names_if false o x p names h = absurd (none-some p h)

-- after an NDR message
names_completed : (c : NdrOp) (o p : Transaction) → open_after_completion c o ≡ Some p → NamesKept o p
names_completed NdrOp.Cmp o p h = names_if (is_request o.kind) o o p (names_same o) h
names_completed NdrOp.CmpS o p h = names_if (is_read o.kind && is_none o.bytes) o (record o { grant = Some NdrOp.CmpS }) p (record { stream = refl; index = refl; op = refl; kind = refl }) h
names_completed NdrOp.CmpE o p h = names_if (is_read o.kind && is_none o.bytes) o (record o { grant = Some NdrOp.CmpE }) p (record { stream = refl; index = refl; op = refl; kind = refl }) h
names_completed NdrOp.ConflictAck o p h = names_as o o p (same_Some o p h) (names_same o)

-- after a message with the tag or another one
names_tagged : (b : Bool) (o p : Transaction) (x : Option Transaction) → (x ≡ Some p → NamesKept o p) → cond b x (Some o) ≡ Some p → NamesKept o p
names_tagged true o p x tagged h = tagged h
names_tagged false o p x tagged h = names_as o o p (same_Some o p h) (names_same o)

-- after any message
pub take_names : (m : Message) (o p : Transaction) → open_after_take m o ≡ Some p → NamesKept o p
take_names (Message.Req _ _ _ _ _) o p h = names_as o o p (same_Some o p h) (names_same o)
take_names (Message.MemWr _ _ _ _ _) o p h = names_as o o p (same_Some o p h) (names_same o)
take_names (Message.BiConflict _) o p h = names_as o o p (same_Some o p h) (names_same o)
take_names (Message.BiRsp _ _ _) o p h = names_as o o p (same_Some o p h) (names_same o)
take_names (Message.Ndr c tag) o p h = names_tagged (tag.0 == o.tag) o p (open_after_completion c o) (names_completed c o p) h
take_names (Message.MemData tag bytes) o p h =
    names_tagged (tag.0 == o.tag) o p (open_after_data bytes o) (names_if (is_none o.grant) o (record o { bytes = Some bytes }) p (record { stream = refl; index = refl; op = refl; kind = refl })) h
take_names (Message.BiSnp _ _ _ _) o p h = names_as o o p (same_Some o p h) (names_same o)
take_names (Message.Credit _) o p h = names_as o o p (same_Some o p h) (names_same o)
