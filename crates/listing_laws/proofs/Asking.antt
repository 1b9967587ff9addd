-- While a host's request has its task, no snoop of that line is under way at that host: a task asks others alone, and tasks share no line.
use Rattle.std.proofs.Common.{◌≡◌, ℕ, ◌+◌, true, false, IsTrue, List, [], ◌∷◌, Some, sym, ◌∙◌, ap, subst, inl, inr}
use Rattle.std.specs.Prelude.{◌==◌}
use Rattle.std.specs.Option.{option_map_or}
use Rattle.std.proofs.lemmas.Bool.{and_parts, eqb-true, false≢true, or_cases}
use Rattle.std.proofs.lemmas.Option.{same_Some}
use Rattle.cxl_message.specs.declared.channels.Channel.{Channel}
use Rattle.cxl_message.specs.declared.events.Event.{Event}
use Rattle.cxl_message.specs.declared.identifiers.Bytes64.{Bytes64}
use Rattle.cxl_message.specs.declared.identifiers.Line.{Line}
use Rattle.cxl_message.specs.declared.messages.Message.{Message}
use Rattle.cxl_message.specs.declared.opcodes.RspOp.{RspOp}
use Rattle.cxl_message.specs.Lists.{is_in}
use Rattle.cxl_message.specs.Setup.{Configuration, IsWithinLimits}
use Rattle.coherence_model.specs.DirectoryChanges.{directory}
use Rattle.coherence_model.specs.Fitting.{is_host}
use Rattle.coherence_model.specs.Flight.{in_flight}
use Rattle.coherence_model.specs.Runs.{IsRun}
use Rattle.coherence_model.specs.SentSnoops.{SentSnoop, sent_snoop_at}
use Rattle.coherence_model.specs.SnoopFacts.{answers_line, answers_line_by}
use Rattle.coherence_model.specs.Snoops.{is_snooped, snoop_at}
use Rattle.coherence_model.specs.Tasks.{Task, is_eviction}
use Rattle.coherence_model.specs.Traces.{device, events_of}
use Rattle.coherence_lemmas.proofs.Options.{some_is}
use Rattle.entry_laws.proofs.Blocks.{covers_first}
use Rattle.entry_laws.proofs.DirectorySteps.{DirectoryKept}
use Rattle.entry_laws.proofs.Kept.{directory_is_kept}
use Rattle.coherence_model.proofs.OwnRuns.{events_of_run}
use Rattle.request_laws.proofs.OwnRuns.{host_is_no_device}
use Rattle.snoop_laws.proofs.Counts.{Among}
use Rattle.snoop_laws.proofs.Laws.{held_snoops_were_sent}
use Rattle.snoop_laws.proofs.Places.{Answering, IsAnswering}
use Rattle.snoop_laws.proofs.Runs.{placed_after}

-- a snoop that has line a without an answer
pub record AskedFor (h a : ℕ) (dev : List Event) : Type 0 where
  pub f : ℕ
  pub q : SentSnoop
  pub asked : sent_snoop_at h f dev ≡ Some q
  pub has : is_in a q.unanswered ≡ true

-- a line among one that is in the list is in the list
alone_in : (a b : ℕ) (xs : List ℕ) → is_in a (b ∷ []) ≡ true → is_in b xs ≡ true → is_in a xs ≡ true
alone_in a b xs here there = elim (or_cases (a == b) false here) [
  | inl same ↦ subst (λ x. is_in x xs ≡ true) (sym (eqb-true a b same)) there
  | inr none ↦ absurd (false≢true none)
]

-- an answer for the line in flight is an answer to a snoop that asks for it
answer_by : (op : RspOp) (h f b a : ℕ) (dev : List Event) → answers_line_by op h f b a dev ≡ true → Answering (λ g. sent_snoop_at h g dev) op f b → AskedFor h a dev
answer_by RspOp.I h f b a dev is for = record { f = f; q = for.q; asked = for.is; has = alone_in a b for.q.unanswered is for.answered }
answer_by RspOp.S h f b a dev is for = record { f = f; q = for.q; asked = for.is; has = alone_in a b for.q.unanswered is (and_parts _ _ for.answered).0 }
answer_by RspOp.E h f b a dev is for = absurd (false≢true for.answered)
answer_by RspOp.IBlk h f b a dev is for = record { f = f; q = for.q; asked = for.is; has = ap (λ o. is_in a (option_map_or (λ (q : SentSnoop). q.unanswered) o [])) (sym for.is) ∙ is }
answer_by RspOp.SBlk h f b a dev is for = absurd (false≢true for.answered)
answer_by RspOp.EBlk h f b a dev is for = absurd (false≢true for.answered)

-- an answer for a line is to a snoop that has the line
pub answer_asks : (h a : ℕ) (dev : List Event) (m : Message) → answers_line h a dev m ≡ true → IsAnswering (λ g. sent_snoop_at h g dev) m → AskedFor h a dev
answer_asks h a dev (Message.Req _ _ _ _ _) is for = absurd (false≢true is)
answer_asks h a dev (Message.MemWr _ _ _ _ _) is for = absurd (false≢true is)
answer_asks h a dev (Message.BiConflict _) is for = absurd (false≢true is)
answer_asks h a dev (Message.BiRsp op bitag low) is for = answer_by op h bitag.0 (bitag.0 + low) a dev is for
answer_asks h a dev (Message.Ndr _ _) is for = absurd (false≢true is)
answer_asks h a dev (Message.MemData _ _) is for = absurd (false≢true is)
answer_asks h a dev (Message.BiSnp _ _ _ _) is for = absurd (false≢true is)
answer_asks h a dev (Message.Credit _) is for = absurd (false≢true is)

module _ (setup : Configuration) (opening : List (Line × Bytes64)) (limits : IsWithinLimits setup) (h : ℕ) (host : IsTrue (is_host setup h)) (t : List Event) (run : IsRun setup opening t) where
  -- the device's own events
  abbrev dev : List Event
  dev = events_of device t

  -- no snoop has the line of the host's own task
  pub unasked : (a : ℕ) (task : Task) → (directory setup dev).task a ≡ Some task → is_eviction task.purpose ≡ false → task.host ≡ h → AskedFor h a dev → ⊥
  unasked a task stands request own asked =
      let kept : DirectoryKept setup (directory setup dev) (λ g b. sent_snoop_at g b dev) = directory_is_kept setup opening dev (events_of_run setup opening device t run) in
      let s = kept.snoops h asked.f asked.q asked.asked in
      let first = kept.tasks.apart asked.f a a s.t task s.is stands (s.within a asked.has) (covers_first a task.span) in
      let same = same_Some s.t task (sym s.is ∙ ap (directory setup dev).task first ∙ stands) in
      s.other (ap (λ (x : Task). is_eviction x.purpose) same ∙ request) (ap (λ (x : Task). x.host) same ∙ own)

  -- a snooped line is asked for at the device
  snooped_asked : (a : ℕ) → is_snooped a (events_of h t) ≡ true → AskedFor h a dev
  snooped_asked a is =
      let found = some_is (snoop_at a (events_of h t)) is in
      let sent = held_snoops_were_sent setup opening limits t run h host a found.x found.found in
      record { f = found.x.first; q = sent.sent; asked = sent.asked; has = sent.unanswered }

  -- nor is the line Snooped at that host
  pub unsnooped : (a : ℕ) (task : Task) → (directory setup dev).task a ≡ Some task → is_eviction task.purpose ≡ false → task.host ≡ h → is_snooped a (events_of h t) ≡ true → ⊥
  unsnooped a task stands request own is = unasked a task stands request own (snooped_asked a is)

  -- nor is an answer for it in flight
  pub unanswered : (a : ℕ) (task : Task) → (directory setup dev).task a ≡ Some task → is_eviction task.purpose ≡ false → task.host ≡ h → (m : Message) → Among m (in_flight h Channel.BiRsp t)
      → answers_line h a dev m ≡ true → ⊥
  unanswered a task stands request own m there is =
      unasked a task stands request own (answer_asks h a dev m is ((placed_after setup opening h (host_is_no_device setup limits h host) t run).answering m there))
