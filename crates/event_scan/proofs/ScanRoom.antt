-- The parts that are to come of an event record are never more than a scan has room for.
use Rattle.std.proofs.Common.{◌≡◌, ℕ, zero, suc, ◌+◌, ◌-◌, ◌<◌, ◌≤◌, Bool, true, false, cond, List, [], ◌∷◌, ◌++◌, drop, length, Option, Some, None, refl, sym, ap, subst, ◌∙◌, arith, inl, inr}
use Rattle.std.specs.Prelude.{◌&&◌, ◌==◌, ◌||◌, max, nat_le, nat_lt, option_map}
use Rattle.std.proofs.lemmas.Bool.{le-ltb}
use Rattle.std.proofs.lemmas.List.{length-append}
use Rattle.cxl_message.specs.declared.opcodes.SnpOp.{SnpOp}
use Rattle.cxl_codec.specs.declared.kinds.CauseKind.{CauseKind}
use Rattle.cxl_codec.specs.declared.kinds.OpKind.{OpKind}
use Rattle.cxl_codec.specs.declared.kinds.ActKind.{ActKind}
use Rattle.cxl_codec.specs.declared.kinds.MessageKind.{MessageKind}
use Rattle.event_scan.specs.declared.scans.Part.{Part}
use Rattle.cxl_codec.specs.Events.{event_cells, EventFits}
use Rattle.cxl_codec.specs.Grammar.{IsCutShort}
use Rattle.event_scan.specs.Scanning.{op_parts, act_parts, span_part, message_parts, cause_parts, sends_parts, commit_parts, HasRoom, IsBehind, IsOver, ToCome, after_byte, after_first, all_parts, depth, event_parts, need, scan, turned}
use Rattle.event_scan.proofs.Scanning.{no_more, scan_step, scan_stop, scan_nil, known, over_all, over_last, over_seen}
use Rattle.event_scan.proofs.ScanFields.{passed}
use Rattle.event_scan.proofs.ScanReads.{kind_value}
use Rattle.event_scan.proofs.ScanBehind.{not_cut}

-- each part takes a place at least
depth_some : (p : Part) → 1 ≤ depth p
depth_some (Part.Within least most) = omega arith
depth_some Part.BlockSpan = omega arith
depth_some (Part.Free count) = omega arith
depth_some (Part.Zeros count) = omega arith
depth_some Part.Cause = omega arith
depth_some Part.Op = omega arith
depth_some Part.Act = omega arith
depth_some Part.Message = omega arith
depth_some Part.Sends = omega arith
depth_some Part.Commit = omega arith

-- all of the parts stand at once
need_length : (ps : List Part) → length ps ≤ need ps
unfolding need
need_length [] = omega arith
need_length (p ∷ ps) = omega (arith, depth_some p)

-- parts before others
need_append : (next ps : List Part) → need (next ++ ps) ≤ max (need next + length ps) (need ps)
unfolding need
need_append [] ps = omega arith
need_append (p ∷ next) ps = omega (arith, need_append next ps, length-append next ps)

-- the parts that stand in place of a part
InPlace : (p : Part) (next : List Part) → Type 0
InPlace p next = need next ≤ depth p

-- the same parts
in_place : (p : Part) (next ps : List Part) → next ≡ ps → InPlace p ps → InPlace p next
in_place p next ps e le = subst (λ (qs : List Part). InPlace p qs) (sym e) le

-- at most one part in place of a part
one_in_place : (p q : Part) (t : Bool) (next : List Part) → depth q ≡ 1 → cond t (Some (q ∷ [])) (Some []) ≡ Some next → InPlace p next
unfolding need InPlace
one_in_place p q true next one e =
    let is : next ≡ q ∷ [] = cc in
    in_place p next (q ∷ []) is (omega (arith, one, depth_some p))
one_in_place p q false next one e =
    let is : next ≡ [] = cc in
    in_place p next [] is (omega arith)

-- no part in place of a part
none_in_place : (p : Part) (t : Bool) (next : List Part) → cond t (Some []) None ≡ Some next → InPlace p next
unfolding need InPlace
none_in_place p t next e = in_place p next [] (passed t [] next e).1 (omega arith)

-- the zeros after a zero
zeros_in_place : (count : ℕ) (t : Bool) (next : List Part) → cond t (cond (nat_lt 1 count) (Some (Part.Zeros (count - 1) ∷ [])) (Some [])) None ≡ Some next → InPlace (Part.Zeros count) next
zeros_in_place count true next e = one_in_place (Part.Zeros count) (Part.Zeros (count - 1)) (nat_lt 1 count) next refl e
zeros_in_place count false next e = absurd cc

-- the parts of each operation
op_in_place : (kind : OpKind) → InPlace Part.Op (op_parts kind)
unfolding need InPlace
op_in_place OpKind.Load = omega arith
op_in_place OpKind.Word = omega arith
op_in_place OpKind.Whole = omega arith

-- the parts of each act
act_in_place : (kind : ActKind) → InPlace Part.Act (act_parts kind)
unfolding need InPlace
act_in_place (ActKind.Line kind) = omega arith
act_in_place (ActKind.Tagged kind) = omega arith
act_in_place ActKind.HostReturn = omega arith
act_in_place ActKind.Snoop = omega arith
act_in_place ActKind.DeviceReturn = omega arith

-- the span of a snoop is one byte
span_depth : (op : SnpOp) → depth (span_part op) ≡ 1
span_depth SnpOp.Cur = refl
span_depth SnpOp.Dat = refl
span_depth SnpOp.Inv = refl
span_depth SnpOp.CurBlk = refl
span_depth SnpOp.DatBlk = refl
span_depth SnpOp.InvBlk = refl

-- the parts of each message
message_in_place : (kind : MessageKind) → InPlace Part.Message (message_parts kind)
unfolding need InPlace
message_in_place (MessageKind.Req op) = omega arith
message_in_place MessageKind.MemWr = omega arith
message_in_place MessageKind.BiConflict = omega arith
message_in_place (MessageKind.BiRsp op) = omega arith
message_in_place (MessageKind.Ndr op) = omega arith
message_in_place MessageKind.MemData = omega arith
message_in_place (MessageKind.BiSnp op) = omega (arith, span_depth op)
message_in_place MessageKind.Credit = omega arith

-- the parts of each cause
cause_in_place : (kind : CauseKind) → InPlace Part.Cause (cause_parts kind)
unfolding need InPlace
cause_in_place CauseKind.Op = omega arith
cause_in_place CauseKind.Take = omega arith
cause_in_place CauseKind.Act = omega arith

-- the parts of so many sent messages
sends_in_place : (n : ℕ) → InPlace Part.Sends (sends_parts n)
unfolding need InPlace
sends_in_place zero = omega arith
sends_in_place (suc zero) = omega arith
sends_in_place (suc (suc n)) = omega arith

-- the parts after each flag of a commit
commit_in_place : (n : ℕ) → InPlace Part.Commit (commit_parts n)
unfolding need InPlace
commit_in_place zero = omega arith
commit_in_place (suc n) = omega arith

-- the parts of a kind
kind_in_place : {A : Type 0} (p : Part) (parts : A → List Part) (found : Option A) (next : List Part) → ((a : A) → InPlace p (parts a)) → option_map parts found ≡ Some next → InPlace p next
kind_in_place p parts found next each e =
    let k = kind_value parts found next e in
    in_place p next (parts k.0) k.2 (each k.0)

-- what comes in place of a part needs no more places
need_next : (p : Part) (b : ℕ) (next : List Part) → after_byte p b ≡ Some next → InPlace p next
need_next (Part.Within least most) b next e = none_in_place (Part.Within least most) (nat_le least b && nat_le b most) next e
need_next Part.BlockSpan b next e = none_in_place Part.BlockSpan (b == 2 || b == 4) next e
need_next (Part.Free count) b next e = one_in_place (Part.Free count) (Part.Free (count - 1)) (nat_lt 1 count) next refl e
need_next (Part.Zeros count) b next e = zeros_in_place count (b == 0) next e
need_next Part.Cause b next e = kind_in_place Part.Cause cause_parts _ next cause_in_place e
need_next Part.Op b next e = kind_in_place Part.Op op_parts _ next op_in_place e
need_next Part.Act b next e = kind_in_place Part.Act act_parts _ next act_in_place e
need_next Part.Message b next e = kind_in_place Part.Message message_parts _ next message_in_place e
need_next Part.Sends b next e = in_place Part.Sends next (sends_parts b) (passed (nat_le b 2) (sends_parts b) next e).1 (sends_in_place b)
need_next Part.Commit b next e = in_place Part.Commit next (commit_parts b) (passed (nat_le b 1) (commit_parts b) next e).1 (commit_in_place b)

-- further bytes never need more places
need_scan : (ps qs : List Part) (bytes : List ℕ) → scan ps bytes ≡ Some qs → need qs ≤ need ps
unfolding need InPlace
need_scan ps qs [] e =
    let same : Some ps ≡ Some qs = sym (scan_nil ps) ∙ e in
    let is : qs ≡ ps = cc in
    omega (arith, ap need is)
need_scan [] qs (b ∷ bytes) e = absurd (no_more b bytes qs e)
need_scan (p ∷ ps) qs (b ∷ bytes) e = elim (known (after_byte p b)) [
  | inl n ↦ omega (arith, need_scan (n.0 ++ ps) qs bytes (sym (scan_step p ps b bytes n.0 n.1) ∙ e), need_append n.0 ps, need_next p b n.0 n.1)
  | inr n ↦
      let stop : None ≡ Some qs = sym (scan_stop p ps b bytes n) ∙ e in
      absurd cc
]

-- no more parts are to come behind bytes of an event record than there is room for
pub has_room : (front seen : List ℕ) (old new : ToCome) → IsBehind front old → scan (all_parts old) seen ≡ Some (all_parts new) → HasRoom new
unfolding need
has_room front seen old new behind e =
    let first : need (all_parts old) ≤ need event_parts = need_scan event_parts (all_parts old) front behind.scanned in
    let then : need (all_parts new) ≤ need (all_parts old) = need_scan (all_parts old) (all_parts new) seen e in
    omega (arith, first, then)

-- the parts behind the next one leave it room
pub room_behind : (to_come : ToCome) (p : Part) → HasRoom to_come → to_come.next ≡ p → depth p + length to_come.others ≤ 6
unfolding need
room_behind to_come p room is = omega (arith, room, ap depth is)

-- at most so many parts stand behind any next one
pub few_behind : (to_come : ToCome) → HasRoom to_come → length to_come.others ≤ 8
few_behind to_come room = omega (arith, room_behind to_come to_come.next room refl)

-- ---- where a scan ends

-- nothing comes after a byte of the next part, which is this one
pub over_part : (to_come : ToCome) (p : Part) (byte : ℕ) → to_come.next ≡ p → IsOver (turned (after_byte p byte) (all_parts to_come)) → IsOver (after_first (all_parts to_come) byte)
over_part to_come p byte is over = subst (λ (q : Part). IsOver (turned (after_byte q byte) (all_parts to_come))) (sym is) over

-- nothing comes where nothing stands in place of the last part
over_turned : (found : Option (List Part)) (p : Part) (others : List Part) → others ≡ [] → ((next : List Part) → found ≡ Some next → next ≡ []) → IsOver (turned found (p ∷ others))
over_turned None p others none each q qs e = absurd cc
over_turned (Some next) p others none each q qs e =
    let is : next ≡ [] = each next refl in
    let both : Some [] ≡ Some (q ∷ qs) = ap (λ (ps : List Part). Some (ps ++ [])) (sym is) ∙ ap (λ (ps : List Part). Some (next ++ ps)) (sym none) ∙ e in
    absurd cc

-- the last part was a byte within limits
pub over_within : (to_come : ToCome) (least most byte : ℕ) → to_come.next ≡ Part.Within least most → to_come.others ≡ [] → IsOver (after_first (all_parts to_come) byte)
over_within to_come least most byte is none =
    over_part to_come (Part.Within least most) byte is (over_turned (after_byte (Part.Within least most) byte) to_come.next to_come.others none (λ next e. (passed (nat_le least byte && nat_le byte most) [] next e).1))

-- the last part was the span of a block
pub over_span : (to_come : ToCome) (byte : ℕ) → to_come.next ≡ Part.BlockSpan → to_come.others ≡ [] → IsOver (after_first (all_parts to_come) byte)
over_span to_come byte is none =
    over_part to_come Part.BlockSpan byte is (over_turned (after_byte Part.BlockSpan byte) to_come.next to_come.others none (λ next e. (passed (byte == 2 || byte == 4) [] next e).1))

-- the last part was the last zero
pub over_zero : (to_come : ToCome) (count byte : ℕ) → to_come.next ≡ Part.Zeros count → count ≤ 1 → to_come.others ≡ [] → IsOver (after_first (all_parts to_come) byte)
over_zero to_come count byte is last none =
    let one : after_byte (Part.Zeros count) byte ≡ cond (byte == 0) (Some []) None = rw (le-ltb 1 count last) refl in
    over_part to_come (Part.Zeros count) byte is (over_turned (after_byte (Part.Zeros count) byte) to_come.next to_come.others none (λ next e. (passed (byte == 0) [] next (sym one ∙ e)).1))

-- the last part were bytes of any value, and all of them are there
pub over_free : (to_come : ToCome) (count : ℕ) (bytes : List ℕ) → to_come.next ≡ Part.Free count → to_come.others ≡ [] → 0 < length bytes → count ≤ length bytes → IsOver (scan (all_parts to_come) bytes)
over_free to_come count bytes is none some enough =
    let all : Part.Free count ∷ [] ≡ all_parts to_come = ap (λ (p : Part). p ∷ []) (sym is) ∙ ap (λ (ps : List Part). to_come.next ∷ ps) (sym none) in
    subst (λ (ps : List Part). IsOver (scan ps bytes)) all (over_last (Part.Free count ∷ []) bytes (drop (max count 1) bytes) (over_all count [] bytes some enough))

-- where nothing comes behind the bytes that are left, the record isn't cut short
pub settles : (front bytes seen rest : List ℕ) (old now : ToCome) → IsBehind front old → bytes ≡ seen ++ rest → scan (all_parts old) seen ≡ Some (all_parts now) → (HasRoom now → IsOver (scan (all_parts now) rest))
    → IsCutShort EventFits event_cells (front ++ bytes) → ⊥
settles front bytes seen rest old now behind parts e over cut =
    not_cut front bytes old behind (over_seen (all_parts old) (all_parts now) bytes seen rest parts e (over (has_room front seen old now behind e))) cut
