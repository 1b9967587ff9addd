-- The grants of what is open after the device sends one: those of the line that its task is for grow, all others stay.
use Rattle.std.proofs.Common.{◌≡◌, ℕ, ◌+◌, Bool, true, false, IsTrue, List, [], ◌∷◌, ◌++◌, Option, Some, None, cond, count_by, refl, ◌∙◌, ap, arith}
use Rattle.std.specs.Prelude.{◌==◌, ◌&&◌}
use Rattle.std.proofs.lemmas.Bool.{and_from, and_parts, eq-eqb, eqb-true, false≢true, ne_eqb, not_from_false}
use Rattle.cxl_message.specs.declared.events.Cause.{Cause}
use Rattle.cxl_message.specs.declared.events.Event.{Event}
use Rattle.cxl_message.specs.declared.events.Sends.{Sends}
use Rattle.cxl_message.specs.declared.identifiers.Bytes64.{Bytes64}
use Rattle.cxl_message.specs.declared.identifiers.Line.{Line}
use Rattle.cxl_message.specs.declared.messages.Message.{Message}
use Rattle.cxl_message.specs.declared.opcodes.NdrOp.{NdrOp}
use Rattle.cxl_message.specs.Setup.{Configuration, IsWithinLimits}
use Rattle.coherence_model.specs.Fitting.{is_host}
use Rattle.coherence_model.specs.OwnerFacts.{is_open_so, purpose_fits}
use Rattle.coherence_model.specs.RequestFacts.{is_ndr_with, is_task_of}
use Rattle.coherence_model.specs.Runs.{IsRun}
use Rattle.coherence_model.specs.Tasks.{Purpose, Task}
use Rattle.coherence_model.specs.Traces.{device, events_of}
use Rattle.coherence_model.specs.Transactions.{Kind, Transaction, is_request, open_at}
use Rattle.coherence_model.specs.Words.{one_if}
use Rattle.request_laws.proofs.Counts.{count_by-append, count_by-cons}
use Rattle.request_laws.proofs.OpenLines.{open_tags_are_distinct}
use Rattle.coherence_model.proofs.OwnRuns.{events_of_run}
use Rattle.request_laws.proofs.Owners.{tasks_have_requests}
use Rattle.listing_laws.proofs.Grants.{FinishedFor}
use Rattle.listing_laws.proofs.Owners.{granted_so}

-- more grants in flight
pub granted_sent : (p : NdrOp → Bool) (ndr xs : List Message) (o : Transaction) → granted_so p (ndr ++ xs) (Some o) ≡ granted_so p ndr (Some o) + count_by (is_ndr_with p o.tag) xs
granted_sent p ndr xs o = let sum = count_by-append (is_ndr_with p o.tag) ndr xs in omega arith

-- one NDR message counts where it has the tag and such an opcode
pub one_ndr : (p : NdrOp → Bool) (tag : ℕ) (c : NdrOp) (t : ℕ) → count_by (is_ndr_with p tag) (Message.Ndr c (record { 0 = t }) ∷ []) ≡ one_if (p c && (t == tag))
one_ndr p tag c t = count_by-cons (is_ndr_with p tag) (Message.Ndr c (record { 0 = t })) [] ∙ by (p c && (t == tag))
  where
    by : (b : Bool) → cond b 1 0 + 0 ≡ one_if b
    by true = omega arith
    by false = omega arith

-- what fits a read's purpose is a request
request_purpose : (purpose : Purpose) (k : Kind) → purpose_fits purpose k ≡ true → is_request k ≡ true
request_purpose Purpose.SharedRead Kind.ReadShared h = refl
request_purpose Purpose.SharedRead Kind.ReadAny h = absurd (false≢true h)
request_purpose Purpose.SharedRead Kind.Invalidate h = absurd (false≢true h)
request_purpose Purpose.SharedRead Kind.CleanEviction h = absurd (false≢true h)
request_purpose Purpose.SharedRead Kind.DirtyEviction h = absurd (false≢true h)
request_purpose Purpose.OwningRead Kind.ReadShared h = absurd (false≢true h)
request_purpose Purpose.OwningRead Kind.ReadAny h = refl
request_purpose Purpose.OwningRead Kind.Invalidate h = absurd (false≢true h)
request_purpose Purpose.OwningRead Kind.CleanEviction h = absurd (false≢true h)
request_purpose Purpose.OwningRead Kind.DirtyEviction h = absurd (false≢true h)
request_purpose Purpose.Invalidation Kind.ReadShared h = absurd (false≢true h)
request_purpose Purpose.Invalidation Kind.ReadAny h = absurd (false≢true h)
request_purpose Purpose.Invalidation Kind.Invalidate h = refl
request_purpose Purpose.Invalidation Kind.CleanEviction h = absurd (false≢true h)
request_purpose Purpose.Invalidation Kind.DirtyEviction h = absurd (false≢true h)
request_purpose Purpose.Eviction k h = absurd (false≢true h)

-- the request that a finished task is for
pub record GrantedLine (own : List Event) (a : ℕ) (task : Task) : Type 0 where
  pub x : Transaction
  pub there : open_at a own ≡ Some x
  pub tag : x.tag ≡ task.tag
  pub fits : purpose_fits task.purpose x.kind ≡ true
  pub request : is_request x.kind ≡ true

-- the line of a task's open request, by what is open
granted_line_by : (own : List Event) (a : ℕ) (task : Task) (o : Option Transaction) → open_at a own ≡ o → is_open_so (purpose_fits task.purpose) task.tag o ≡ true → GrantedLine own a task
granted_line_by own a task None is h = absurd (false≢true h)
granted_line_by own a task (Some x) is h =
    let parts = and_parts (purpose_fits task.purpose x.kind) (x.tag == task.tag) h in
    record { x = x; there = is; tag = eqb-true x.tag task.tag parts.1; fits = parts.0; request = request_purpose task.purpose x.kind parts.0 }

module _ (setup : Configuration) (opening : List (Line × Bytes64)) (limits : IsWithinLimits setup) (h : ℕ) (host : IsTrue (is_host setup h)) (t : List Event) (run : IsRun setup opening t) (cause : Cause) (sends : Sends)
    (f : FinishedFor setup opening h (events_of device t) cause sends) where
  -- the finished task is of the host and the tag
  its : is_task_of h f.t.tag f.t ≡ true
  its = and_from _ _ (and_from _ _ (not_from_false _ f.request) (eq-eqb f.t.host h f.own)) (eq-eqb f.t.tag f.t.tag refl)

  -- the line of a finished task has its request open
  pub granted_line : GrantedLine (events_of h t) f.a.0 f.t
  granted_line = granted_line_by (events_of h t) f.a.0 f.t (open_at f.a.0 (events_of h t)) refl (tasks_have_requests setup opening limits h host t run f.t.tag f.a.0 f.t f.stands its)

  -- what is open for another line has another tag
  pub other_line : (a : ℕ) (o : Transaction) → open_at a (events_of h t) ≡ Some o → (f.a.0 ≡ a → ⊥) → (f.t.tag == o.tag) ≡ false
  other_line a o there other =
      let line = granted_line in
      ne_eqb f.t.tag o.tag (λ same. other (open_tags_are_distinct setup opening limits h host (events_of h t) (events_of_run setup opening h t run) f.a.0 a line.x o line.there there (line.tag ∙ same)))

  -- no grant of another line is sent
  pub sent_elsewhere : (p : NdrOp → Bool) (a : ℕ) (o : Transaction) → open_at a (events_of h t) ≡ Some o → (f.a.0 ≡ a → ⊥) → count_by (is_ndr_with p o.tag) (Message.Ndr f.c (record { 0 = f.t.tag }) ∷ []) ≡ 0
  sent_elsewhere p a o there other = one_ndr p o.tag f.c f.t.tag ∙ ap (λ b. one_if (p f.c && b)) (other_line a o there other) ∙ none (p f.c)
    where
      none : (b : Bool) → one_if (b && false) ≡ 0
      none true = refl
      none false = refl
