-- The snoops that a host holds, in the order taken, with room for so many. All of it is an own rule.
use Rattle.std.specs.Prelude.{Bool, List, [], filter, find, is_some, length, not, ℕ, ◌++◌, ◌==◌, ◌∷◌}
use Rattle.cxl_message.specs.declared.opcodes.SnpOp.{SnpOp}
use Rattle.cxl_message.specs.declared.opcodes.Span.{Span}
use Rattle.cxl_message.specs.Lists.{is_in, without}
use Rattle.cxl_message.specs.Spans.{lines_of}
use Rattle.coherence_model.specs.Snoops.{Snoop, is_whole_block, snoops_after_answer}

-- a snoop after the answer for a line
abbrev pub answered : ℕ → Snoop → Snoop
answered a s = record s { unanswered = without a s.unanswered }

-- whether a snoop has no other line than this without an answer
abbrev pub has_no_other : ℕ → Snoop → Bool
has_no_other a s = length (without a s.unanswered) == 0

-- whether no snoop has a line without an answer
abbrev pub is_free : List Snoop → ℕ → Bool
is_free ss a = not (is_some (find (λ s. is_in a s.unanswered) ss))

-- what stands for a snoop that isn't there
abbrev pub no_snoop : Snoop
no_snoop = record { op = SnpOp.Inv; first = 0; span = Span.One; unanswered = [] }

-- the snoops, and how many have room
pub record SnoopsRecord : Type 0 where
  pub snoops : List Snoop
  pub room : ℕ

-- with one more taken: all of its lines are without an answer
abbrev pub with_taken : SnpOp → ℕ → Span → SnoopsRecord → SnoopsRecord
with_taken op first span r = record r { snoops = r.snoops ++ record { op = op; first = first; span = span; unanswered = lines_of first span } ∷ [] }

-- after the answer for a line: a snoop without a line left goes
abbrev pub with_line_answered : ℕ → SnoopsRecord → SnoopsRecord
with_line_answered a r = record r { snoops = snoops_after_answer a r.snoops }

-- after the answer for a whole block with this first line
abbrev pub with_block_answered : ℕ → SnoopsRecord → SnoopsRecord
with_block_answered a r = record r { snoops = filter (λ s. not (is_whole_block a s)) r.snoops }
