-- What is known of a line's value at one host: its copy, its MemWr under way and its MemData have the flat memory's bytes.
use Rattle.std.proofs.Common.{◌≡◌, ℕ, ◌+◌, ◌≤◌, Bool, true, false, List, ◌++◌, Option, Some, None, cond, count_by, refl, sym, ◌∙◌, subst, arith, ◌⊎◌, inl}
use Rattle.std.specs.Prelude.{nat_le, ◌==◌}
use Rattle.std.proofs.lemmas.Bool.{false≢true}
use Rattle.std.proofs.lemmas.Option.{none-some}
use Rattle.cxl_message.specs.declared.events.Commit.{Commit}
use Rattle.cxl_message.specs.declared.identifiers.Bytes64.{Bytes64}
use Rattle.cxl_message.specs.declared.identifiers.Line.{Line}
use Rattle.cxl_message.specs.declared.messages.Message.{Message}
use Rattle.cxl_message.specs.declared.states.CopyState.{CopyState}
use Rattle.cxl_message.specs.Codes.{copy_code}
use Rattle.cxl_message.specs.Events.{line_of}
use Rattle.cxl_message.specs.Messages.{has_tag}
use Rattle.coherence_model.specs.Cache.{is_valid}
use Rattle.coherence_model.specs.Copies.{Copy}
use Rattle.cxl_message.specs.Stores.{line_after}
use Rattle.coherence_model.specs.FlatMemory.{flat_line}
use Rattle.coherence_model.specs.Transactions.{Transaction, is_read}
use Rattle.coherence_model.specs.ValueFacts.{data_in, written_bytes}
use Rattle.coherence_model.specs.Words.{one_if}
use Rattle.request_laws.proofs.Counts.{count_by-append}
use Rattle.request_laws.proofs.Each.{Each, each_of_none, each_weaker}
use Rattle.request_laws.proofs.Options.{guarded_some}
use Rattle.listing_laws.proofs.Copies.{valid_count, writable_count}
use Rattle.listing_laws.proofs.WriteBackLines.{writes_line}
use Rattle.std.specs.Option.{option_to_list}

-- a MemWr of line a has these bytes
abbrev pub Writes : ℕ → Bytes64 → Message → Type 0
Writes a v m = (b : Bytes64) → written_bytes a m ≡ Some b → b ≡ v

-- a MemData with this tag has these bytes
abbrev pub Brings : ℕ → Bytes64 → Message → Type 0
Brings tag v m = has_tag tag m ≡ true → (b : Bytes64) → data_in m ≡ Some b → b ≡ v

-- the MemData of an open read, in flight or taken, has these bytes
pub record DataHas (v : Bytes64) (x : Transaction) (drs : List Message) : Type 0 where
  pub flying : Each (Brings x.tag v) drs
  pub taken : (b : Bytes64) → x.bytes ≡ Some b → b ≡ v

-- the MemData of what is open, if it is a read, has these bytes
abbrev pub ReadsHave : Bytes64 → Option Transaction → List Message → Type 0
ReadsHave v o drs = (x : Transaction) → o ≡ Some x → is_read x.kind ≡ true → DataHas v x drs

-- a host's copy of a line, its MemWr of it and the MemData for its open read have these bytes
pub record HostHas (a : ℕ) (v : Bytes64) (c : Copy) (o : Option Transaction) (fw held drs : List Message) : Type 0 where
  pub copied : is_valid c ≡ true → c.bytes ≡ v
  pub flying : Each (Writes a v) fw
  pub waiting : Each (Writes a v) held
  pub reads : ReadsHave v o drs

-- whether a copy is M
abbrev pub is_dirty : Copy → Bool
is_dirty c = copy_code c.state == 3

-- a host has no copy M of the line and no MemWr of it under way
pub record IsClean (a : ℕ) (c : Copy) (fw held : List Message) : Type 0 where
  pub copied : is_dirty c ≡ false
  pub unwritten : count_by (writes_line a) fw + count_by (writes_line a) held ≡ 0

-- the flat memory's line after a commit, if there is one
abbrev pub value_next : Option Commit → ℕ → Bytes64 → Bytes64
value_next None a v = v
value_next (Some c) a v = cond (line_of c.op == a) (line_after c.op v) v

-- the flat memory's line after one more commit
pub flat_next : (opening : List (Line × Bytes64)) (a : ℕ) (commit : Option Commit) (older : List Commit)
    → flat_line opening a (option_to_list commit ++ older) ≡ value_next commit a (flat_line opening a older)
flat_next opening a None older = refl
flat_next opening a (Some c) older = refl

-- what an event of the host leaves, its commit having made these bytes of the line: where they are others, the host owned the line
pub record HostMoved (a : ℕ) (v next : Bytes64) (c later : Copy) (o : Option Transaction) (fw fw' held drs : List Message) (owns : ℕ) : Type 0 where
  pub has : HostHas a next later o fw' held drs
  pub others : (next ≡ v) ⊎ (1 ≤ owns)
  pub clean : IsClean a later fw' held → IsClean a c fw held × (next ≡ v)

-- where the bytes are the same
pub moved : (a : ℕ) (v next : Bytes64) (c later : Copy) (o : Option Transaction) (fw fw' held drs : List Message) (owns : ℕ) → next ≡ v → HostHas a v later o fw' held drs
    → (IsClean a later fw' held → IsClean a c fw held) → HostMoved a v next c later o fw fw' held drs owns
moved a v next c later o fw fw' held drs owns same has clean =
    record { has = subst (λ x. HostHas a x later o fw' held drs) (sym same) has; others = inl same; clean = λ k. (clean k, same) }

-- ---- states of a copy

-- a copy M is writable
pub dirty_high : (s : CopyState) → (copy_code s == 3) ≡ true → nat_le 2 (copy_code s) ≡ true
dirty_high CopyState.I h = absurd (false≢true h)
dirty_high CopyState.S h = absurd (false≢true h)
dirty_high CopyState.E h = refl
dirty_high CopyState.M h = refl

-- a writable copy is not I
high_valid : (s : CopyState) → nat_le 2 (copy_code s) ≡ true → nat_le 1 (copy_code s) ≡ true
high_valid CopyState.I h = absurd (false≢true h)
high_valid CopyState.S h = absurd (false≢true h)
high_valid CopyState.E h = refl
high_valid CopyState.M h = refl

-- a writable copy is valid
pub writable_valid : (c : Copy) → nat_le 2 (copy_code c.state) ≡ true → is_valid c ≡ true
writable_valid c h = high_valid c.state h

-- an open line has no writable copy: x counts the copy, o what is open
pub open_low : (x o n z : ℕ) → (o + x ≤ 1) × (n + z + o ≤ 2) × (n + z + x ≤ 2) → o ≡ 1 → x ≡ 0
open_low x o n z h e = omega arith

-- what counts 0 fails
unset : (b : Bool) → one_if b ≡ 0 → b ≡ false
unset true h = absurd (omega arith)
unset false h = refl

-- where what follows fails, so does what it follows from
pub clean_by : (b d : Bool) → (b ≡ true → d ≡ true) → d ≡ false → b ≡ false
clean_by true d h f = absurd (false≢true (sym f ∙ h refl))
clean_by false d h f = refl

-- a copy that isn't writable isn't M
pub undirty : (c : Copy) → nat_le 2 (copy_code c.state) ≡ false → is_dirty c ≡ false
undirty c h = clean_by (is_dirty c) (nat_le 2 (copy_code c.state)) (dirty_high c.state) h

-- the same, counted
pub unwritable_clean : (c : Copy) → writable_count c ≡ 0 → is_dirty c ≡ false
unwritable_clean c h = undirty c (unset (nat_le 2 (copy_code c.state)) h)

-- a copy that counts 0 is I
pub invalid : (c : Copy) → valid_count c ≡ 0 → is_valid c ≡ true → ⊥
invalid c h is = false≢true (sym (unset (is_valid c) h) ∙ is)

-- ---- MemWr of a line

-- a message with bytes for a line is a MemWr of it
written_line : (a : ℕ) (m : Message) (b : Bytes64) → written_bytes a m ≡ Some b → writes_line a m ≡ true
written_line a (Message.Req _ _ _ _ _) b h = absurd (none-some b h)
written_line a (Message.MemWr _ _ _ line bytes) b h = (guarded_some (line.0 == a) (Some bytes) b h).0
written_line a (Message.BiConflict _) b h = absurd (none-some b h)
written_line a (Message.BiRsp _ _ _) b h = absurd (none-some b h)
written_line a (Message.Ndr _ _) b h = absurd (none-some b h)
written_line a (Message.MemData _ _) b h = absurd (none-some b h)
written_line a (Message.BiSnp _ _ _ _) b h = absurd (none-some b h)
written_line a (Message.Credit _) b h = absurd (none-some b h)

-- where there is no MemWr of the line, each has any bytes
pub none_written : (a : ℕ) (v : Bytes64) (ms : List Message) → count_by (writes_line a) ms ≡ 0 → Each (Writes a v) ms
none_written a v ms none = each_weaker _ (Writes a v) (λ m h b is. h (written_line a m b is) b is) ms (each_of_none (Writes a v) (writes_line a) ms none)

-- two numbers that are 0 together
pub both_none : (n m : ℕ) → n + m ≡ 0 → (n ≡ 0) × (m ≡ 0)
both_none n m h = (omega arith, omega arith)

-- where none is under way with more in flight, none was before
pub none_before : (a : ℕ) (fw xs held : List Message) → count_by (writes_line a) (fw ++ xs) + count_by (writes_line a) held ≡ 0 → count_by (writes_line a) fw + count_by (writes_line a) held ≡ 0
none_before a fw xs held h = let sum = count_by-append (writes_line a) fw xs in omega arith

-- where no MemData has the tag, each has any bytes
pub none_brought : (tag : ℕ) (v : Bytes64) (ms : List Message) → count_by (has_tag tag) ms ≡ 0 → Each (Brings tag v) ms
none_brought tag v ms none = each_of_none (λ m. (b : Bytes64) → data_in m ≡ Some b → b ≡ v) (has_tag tag) ms none
