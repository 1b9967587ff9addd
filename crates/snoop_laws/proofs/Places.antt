-- Where the lines of each snoop are: in a BISnp in flight to the host, held there, or in a BIRsp in flight.
use Rattle.std.proofs.Common.{◌≡◌, ℕ, ◌+◌, ◌≤◌, Bool, true, false, List, [], ◌∷◌, Option, None, Some, cond, count_by, length, sum_by, refl, ◌∙◌, arith, inl}
use Rattle.std.specs.Prelude.{◌&&◌, ◌==◌}
use Rattle.std.specs.Option.{option_map_or}
use Rattle.std.proofs.lemmas.Bool.{eq-eqb, false≢true}
use Rattle.cxl_message.specs.declared.messages.Message.{Message}
use Rattle.cxl_message.specs.declared.opcodes.RspOp.{RspOp}
use Rattle.cxl_message.specs.declared.opcodes.SnpOp.{SnpOp}
use Rattle.cxl_message.specs.declared.opcodes.Span.{Span}
use Rattle.cxl_message.specs.Lists.{is_in}
use Rattle.cxl_message.specs.Spans.{covers, lines_of}
use Rattle.coherence_model.specs.DeviceTakes.{is_answered_by}
use Rattle.coherence_model.specs.SentSnoops.{SentSnoop}
use Rattle.coherence_model.specs.Snoops.{Snoop, snoop_of}
use Rattle.snoop_laws.proofs.Counts.{Among, among_counts, any_counts, counts_any, times}
use Rattle.snoop_laws.proofs.Parts.{Part, part_once}

-- the lines of a snoop without an answer
abbrev pub left_of : Option SentSnoop → List ℕ
left_of q = option_map_or (λ q. q.unanswered) q []

-- whether a message is the snoop with first line f, and one of line x
abbrev pub brings : ℕ → ℕ → Message → Bool
brings f x m = option_map_or (λ s. (s.first == f) && covers s.first s.span x) (snoop_of m) false

-- how often line x is left in a snoop, if its first line is f
abbrev pub holds : ℕ → ℕ → Snoop → ℕ
holds f x s = cond (s.first == f) (times x s.unanswered) 0

abbrev pub held : ℕ → ℕ → List Snoop → ℕ
held f x ss = sum_by (holds f x) ss

-- the lines that an answer for line a names, of those that are left
abbrev pub named_lines : RspOp → ℕ → List ℕ → List ℕ
named_lines RspOp.I a left = a ∷ []
named_lines RspOp.S a left = a ∷ []
named_lines RspOp.E a left = a ∷ []
named_lines RspOp.IBlk a left = left
named_lines RspOp.SBlk a left = left
named_lines RspOp.EBlk a left = left

-- whether a message is an answer for line x to the snoop with first line f, of which some lines are left
abbrev pub answers : List ℕ → ℕ → ℕ → Message → Bool
answers left f x (Message.Req _ _ _ _ _) = false
answers left f x (Message.MemWr _ _ _ _ _) = false
answers left f x (Message.BiConflict _) = false
answers left f x (Message.BiRsp op bitag low) = (bitag.0 == f) && is_in x (named_lines op (bitag.0 + low) left)
answers left f x (Message.Ndr _ _) = false
answers left f x (Message.MemData _ _) = false
answers left f x (Message.BiSnp _ _ _ _) = false
answers left f x (Message.Credit _) = false

-- a snoop in flight was sent so
pub record Brought (asked : ℕ → Option SentSnoop) (op : SnpOp) (first : ℕ) (span : Span) : Type 0 where
  pub q : SentSnoop
  pub is : asked first ≡ Some q
  pub op_same : q.op ≡ op
  pub span_same : q.span ≡ span

abbrev pub IsBrought : (ℕ → Option SentSnoop) → Message → Type 0
IsBrought asked (Message.Req _ _ _ _ _) = Unit {0}
IsBrought asked (Message.MemWr _ _ _ _ _) = Unit {0}
IsBrought asked (Message.BiConflict _) = Unit {0}
IsBrought asked (Message.BiRsp _ _ _) = Unit {0}
IsBrought asked (Message.Ndr _ _) = Unit {0}
IsBrought asked (Message.MemData _ _) = Unit {0}
IsBrought asked (Message.BiSnp op _ line span) = Brought asked op line.0 span
IsBrought asked (Message.Credit _) = Unit {0}

-- a snoop that the host holds was sent so, and some of its lines are left
pub record IsHeld (asked : ℕ → Option SentSnoop) (s : Snoop) : Type 0 where
  pub sent : Brought asked s.op s.first s.span
  pub part : Part s.unanswered (lines_of s.first s.span)
  pub some : 1 ≤ length s.unanswered

-- an answer in flight is one to a snoop that was sent
pub record Answering (asked : ℕ → Option SentSnoop) (op : RspOp) (first a : ℕ) : Type 0 where
  pub q : SentSnoop
  pub is : asked first ≡ Some q
  pub answered : is_answered_by op a q ≡ true

abbrev pub IsAnswering : (ℕ → Option SentSnoop) → Message → Type 0
IsAnswering asked (Message.Req _ _ _ _ _) = Unit {0}
IsAnswering asked (Message.MemWr _ _ _ _ _) = Unit {0}
IsAnswering asked (Message.BiConflict _) = Unit {0}
IsAnswering asked (Message.BiRsp op bitag low) = Answering asked op bitag.0 (bitag.0 + low)
IsAnswering asked (Message.Ndr _ _) = Unit {0}
IsAnswering asked (Message.MemData _ _) = Unit {0}
IsAnswering asked (Message.BiSnp _ _ _ _) = Unit {0}
IsAnswering asked (Message.Credit _) = Unit {0}

-- each line of each snoop is in as many places as it is left, and each place belongs to a snoop that was sent
pub record Placed (asked : ℕ → Option SentSnoop) (bs : List Message) (ss : List Snoop) (rs : List Message) : Type 0 where
  pub lines : (f x : ℕ) → times x (left_of (asked f)) ≡ count_by (brings f x) bs + held f x ss + count_by (answers (left_of (asked f)) f x) rs
  pub brought : (m : Message) → Among m bs → IsBrought asked m
  pub holding : (s : Snoop) → Among s ss → IsHeld asked s
  pub answering : (m : Message) → Among m rs → IsAnswering asked m

-- what was sent: some lines of the snoop's span are left
pub record IsSent (first : ℕ) (q : SentSnoop) : Type 0 where
  pub part : Part q.unanswered (lines_of first q.span)
  pub some : 1 ≤ length q.unanswered

abbrev pub AreSent : (ℕ → Option SentSnoop) → Type 0
AreSent asked = (f : ℕ) (q : SentSnoop) → asked f ≡ Some q → IsSent f q

once_by : (asked : ℕ → Option SentSnoop) → AreSent asked → (f x : ℕ) (found : Option SentSnoop) → asked f ≡ found → times x (left_of found) ≤ 1
once_by asked sent f x None is = omega arith
once_by asked sent f x (Some q) is = part_once x f q.span q.unanswered (sent f q is).part

-- each line is left once at most
pub once : (asked : ℕ → Option SentSnoop) → AreSent asked → (f x : ℕ) → times x (left_of (asked f)) ≤ 1
once asked sent f x = once_by asked sent f x (asked f) refl

-- ---- facts of a snoop stay where the snoop stays

pub brought_by : (asked later : ℕ → Option SentSnoop) (op : SnpOp) (first : ℕ) (span : Span) → later first ≡ asked first → Brought asked op first span → Brought later op first span
brought_by asked later op first span same is = record { q = is.q; is = same ∙ is.is; op_same = is.op_same; span_same = is.span_same }

pub holding_by : (asked later : ℕ → Option SentSnoop) (s : Snoop) → later s.first ≡ asked s.first → IsHeld asked s → IsHeld later s
holding_by asked later s same is = record { sent = brought_by asked later s.op s.first s.span same is.sent; part = is.part; some = is.some }

pub answering_by : (asked later : ℕ → Option SentSnoop) (op : RspOp) (first a : ℕ) → later first ≡ asked first → Answering asked op first a → Answering later op first a
answering_by asked later op first a same is = record { q = is.q; is = same ∙ is.is; answered = is.answered }

-- ---- lists of lines

in_by : (b : Bool) (n : ℕ) → n ≤ 1 → (b ≡ true → 1 ≤ n) → (1 ≤ n → b ≡ true) → cond b 1 0 ≡ n
in_by true n few some back = let one = some refl in omega arith
in_by false n few some back = by n few back
  where
    by : (n : ℕ) → n ≤ 1 → (1 ≤ n → false ≡ true) → 0 ≡ n
    by n few back = grind (arith, few, λ (h : 1 ≤ n). false≢true (back h))

-- a line that is in a list once at most counts where it is in it
pub in_times : (x : ℕ) (xs : List ℕ) → times x xs ≤ 1 → cond (is_in x xs) 1 0 ≡ times x xs
in_times x xs few = in_by (is_in x xs) (times x xs) few (any_counts (λ y. x == y) xs) (counts_any (λ y. x == y) xs)

-- a number of a list that isn't empty
pub record Element (xs : List ℕ) : Type 0 where
  pub x : ℕ
  pub is : 1 ≤ times x xs

pub element : (xs : List ℕ) → 1 ≤ length xs → Element xs
element [] some = absurd (omega arith)
element (x ∷ xs) some = record { x = x; is = among_counts (λ y. x == y) x (x ∷ xs) (eq-eqb x x refl) (inl refl) }
