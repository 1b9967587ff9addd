-- A whole block that a host holds is the one that the device asked for, and a snoop's lines don't stand before its first.
use Rattle.std.proofs.Common.{◌≡◌, ℕ, ◌≤◌, true, false, IsTrue, List, Option, Some, None, cond, refl, sym, ◌∙◌, ap, arith}
use Rattle.std.specs.Prelude.{is_some, length, ◌==◌}
use Rattle.std.specs.Option.{option_map_or}
use Rattle.std.proofs.lemmas.Bool.{and_parts, eq-eqb, eqb-true, false≢true, leb-true}
use Rattle.cxl_message.specs.declared.events.Event.{Event}
use Rattle.cxl_message.specs.declared.identifiers.Bytes64.{Bytes64}
use Rattle.cxl_message.specs.declared.identifiers.Line.{Line}
use Rattle.cxl_message.specs.declared.messages.Message.{Message}
use Rattle.cxl_message.specs.declared.opcodes.RspOp.{RspOp}
use Rattle.cxl_message.specs.declared.opcodes.Span.{Span}
use Rattle.cxl_message.specs.Codes.{span_len}
use Rattle.cxl_message.specs.Lists.{is_in}
use Rattle.cxl_message.specs.Setup.{Configuration, IsWithinLimits}
use Rattle.cxl_message.specs.Spans.{lines_of}
use Rattle.coherence_model.specs.Copies.{is_in_whole_block}
use Rattle.coherence_model.specs.Fitting.{is_host}
use Rattle.coherence_model.specs.Runs.{IsRun}
use Rattle.coherence_model.specs.SentSnoops.{sent_snoop_at, unanswered_lines}
use Rattle.coherence_model.specs.SnoopFacts.{answers_line}
use Rattle.coherence_model.specs.Snoops.{Snoop, buffered_snoops, invalidates_block, is_snooped, is_whole_block, snoop_at, whole_block_at}
use Rattle.coherence_model.specs.Traces.{device, events_of}
use Rattle.request_laws.proofs.OwnRuns.{host_is_no_device}
use Rattle.request_laws.proofs.SnoopsKept.{counts_snooped}
use Rattle.snoop_laws.proofs.AnswerSteps.{found_snoop}
use Rattle.snoop_laws.proofs.Below.{both_same}
use Rattle.snoop_laws.proofs.Counts.{Among, among_sums, any_counts, counts_any, times}
use Rattle.snoop_laws.proofs.Parts.{part_covered, part_long, part_times}
use Rattle.snoop_laws.proofs.Places.{holds, left_of}
use Rattle.snoop_laws.proofs.Runs.{PlacedAfter, are_sent, placed_after}

-- a span has as many lines as its length says
lines_long : (first : ℕ) (span : Span) → length (lines_of first span) ≡ span_len span
lines_long first Span.One = refl
lines_long first Span.Two = refl
lines_long first Span.Four = refl

module _ (setup : Configuration) (opening : List (Line × Bytes64)) (limits : IsWithinLimits setup) (h : ℕ) (host : IsTrue (is_host setup h)) (t : List Event) (run : IsRun setup opening t) where
  -- the host's own events
  abbrev own : List Event
  own = events_of h t

  -- the device's own events
  abbrev dev : List Event
  dev = events_of device t

  -- where each snooped line is after the run
  placed : PlacedAfter h t
  placed = placed_after setup opening h (host_is_no_device setup limits h host) t run

  -- a snooped line doesn't stand before the first of its snoop
  pub first_below : (line : ℕ) (s : Snoop) → snoop_at line own ≡ Some s → s.first ≤ line
  first_below line s found =
      let here = found_snoop (λ (z : Snoop). is_in line z.unanswered) s (buffered_snoops own) found in
      let held = placed.holding s here.0 in
      let covered = part_covered line s.first s.span s.unanswered held.part (any_counts (λ y. line == y) s.unanswered here.1) in
      leb-true s.first line (and_parts _ _ covered).0

  -- a line of a whole block that is held
  record InBlock (line a : ℕ) : Type 0 where
    s : Snoop
    held : Among s (buffered_snoops own)
    whole : is_whole_block line s ≡ true
    has : is_in a s.unanswered ≡ true

  -- a line that is unanswered in the block's snoop is in the block
  in_block_by : (line a : ℕ) (o : Option Snoop) → whole_block_at line own ≡ o → option_map_or (λ (s : Snoop). is_in a s.unanswered) o false ≡ true → InBlock line a
  in_block_by line a None is within = absurd (false≢true within)
  in_block_by line a (Some s) is within =
      let here = found_snoop (is_whole_block line) s (buffered_snoops own) is in
      record { s = s; held = here.0; whole = here.1; has = within }

  -- a line in a buffered whole block is snooped
  pub block_snooped : (line a : ℕ) → is_in_whole_block line a own ≡ true → is_snooped a own ≡ true
  block_snooped line a within =
      let b = in_block_by line a (whole_block_at line own) refl within in
      let some = any_counts (λ y. a == y) b.s.unanswered b.has in
      let more = among_sums (λ (s : Snoop). times a s.unanswered) b.s (buffered_snoops own) b.held in
      counts_snooped a own (omega arith)

  -- a whole block's snoop starts at the line and has all its lines unanswered
  first_is : (line : ℕ) (s : Snoop) → is_whole_block line s ≡ true → (s.first ≡ line) × (length s.unanswered ≡ span_len s.span)
  first_is line s whole =
      let parts = and_parts _ _ whole in
      let named = and_parts (invalidates_block s.op) (s.first == line) parts.0 in
      (eqb-true s.first line named.1, eqb-true (length s.unanswered) (span_len s.span) parts.1)

  -- a line of a buffered whole block is asked for at the device
  asked_in : (line a : ℕ) → is_in_whole_block line a own ≡ true → is_in a (unanswered_lines h line dev) ≡ true
  asked_in line a within =
      let b = in_block_by line a (whole_block_at line own) refl within in
      let some = any_counts (λ y. a == y) b.s.unanswered b.has in
      let one : holds line a b.s ≡ times a b.s.unanswered = ap (λ c. cond c (times a b.s.unanswered) 0) (eq-eqb b.s.first line (first_is line b.s b.whole).0) in
      let more = among_sums (holds line a) b.s (buffered_snoops own) b.held in
      let lines = placed.lines line a in
      counts_any (λ y. a == y) (unanswered_lines h line dev) (omega arith)

  -- a line that the device's snoop asks for is unanswered in the buffered block
  held_in_by : (line a : ℕ) (o : Option Snoop) → whole_block_at line own ≡ o → is_some o ≡ true → is_in a (unanswered_lines h line dev) ≡ true → option_map_or (λ (s : Snoop). is_in a s.unanswered) o false ≡ true
  held_in_by line a None is found there = absurd (false≢true found)
  held_in_by line a (Some s) is found there =
      let here = found_snoop (is_whole_block line) s (buffered_snoops own) is in
      let held = placed.holding s here.0 in
      let first = first_is line s here.1 in
      let all = part_long s.unanswered (lines_of s.first s.span) held.part (first.1 ∙ sym (lines_long s.first s.span)) in
      let sent = are_sent setup opening t run h s.first held.sent.q held.sent.is in
      let left : left_of (sent_snoop_at h line dev) ≡ held.sent.q.unanswered = ap (λ f. left_of (sent_snoop_at h f dev)) (sym first.0) ∙ ap left_of held.sent.is in
      let some = any_counts (λ y. a == y) held.sent.q.unanswered (ap (is_in a) (sym left) ∙ there) in
      let part = part_times a held.sent.q.unanswered (lines_of s.first held.sent.q.span) sent.part in
      let same : times a (lines_of s.first held.sent.q.span) ≡ times a s.unanswered = ap (λ x. times a (lines_of s.first x)) held.sent.span_same ∙ ap (times a) (sym all) in
      counts_any (λ y. a == y) s.unanswered (omega arith)

  -- the lines of a whole block that is held are those that the device waits for
  pub same_block : (line a : ℕ) → is_some (whole_block_at line own) ≡ true → is_in_whole_block line a own ≡ answers_line h a dev (Message.BiRsp RspOp.IBlk (record { 0 = line }) 0)
  same_block line a found = both_same (is_in_whole_block line a own) (is_in a (unanswered_lines h line dev)) (asked_in line a) (held_in_by line a (whole_block_at line own) refl found)
