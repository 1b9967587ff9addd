-- At stage Early nothing is granted, and no modified eviction is open: the grant would have passed the BI-ConflictAck. By recursion over the run.
use Rattle.std.proofs.Common.{◌≡◌, ℕ, ◌+◌, ◌≤◌, Bool, true, false, IsTrue, List, [], ◌∷◌, ◌++◌, Option, Some, None, cond, count_by, filter, find, refl, sym, ◌∙◌, ap, subst, arith}
use Rattle.std.specs.Prelude.{is_some, not, option_and_then, ◌==◌, ◌||◌}
use Rattle.std.specs.Option.{option_map_or}
use Rattle.std.proofs.lemmas.Bool.{and_parts, eqb-true, false≢true, le-leb, leb-false, leb-true}
use Rattle.std.proofs.lemmas.Option.{none-some, same_Some}
use Rattle.cxl_message.specs.declared.channels.Channel.{Channel}
use Rattle.cxl_message.specs.declared.events.Act.{Act}
use Rattle.cxl_message.specs.declared.events.Cause.{Cause}
use Rattle.cxl_message.specs.declared.events.Commit.{Commit}
use Rattle.cxl_message.specs.declared.events.Event.{Event}
use Rattle.cxl_message.specs.declared.events.Sends.{Sends}
use Rattle.cxl_message.specs.declared.identifiers.Bytes64.{Bytes64}
use Rattle.cxl_message.specs.declared.identifiers.Line.{Line}
use Rattle.cxl_message.specs.declared.messages.Message.{Message}
use Rattle.cxl_message.specs.declared.opcodes.NdrOp.{NdrOp}
use Rattle.cxl_message.specs.declared.opcodes.SnpOp.{SnpOp}
use Rattle.cxl_message.specs.declared.opcodes.Span.{Span}
use Rattle.cxl_message.specs.Lists.{is_in}
use Rattle.cxl_message.specs.Setup.{Configuration, IsWithinLimits}
use Rattle.cxl_message.specs.Spans.{covers, lines_of}
use Rattle.coherence_model.specs.Emission.{Emission}
use Rattle.coherence_model.specs.Fitting.{cause_fits, is_device, is_host}
use Rattle.coherence_model.specs.Flight.{in_flight, takes_on, without_taken}
use Rattle.coherence_model.specs.HostActs.{may_conflict}
use Rattle.coherence_model.specs.HostRows.{host_emission}
use Rattle.coherence_model.specs.HostTakes.{host_takes}
use Rattle.coherence_model.specs.ListingFacts.{grants_ownership}
use Rattle.coherence_model.specs.RequestFacts.{grants, is_ndr_with}
use Rattle.coherence_model.specs.Rules.{k0_takeable}
use Rattle.coherence_model.specs.Runs.{IsRun}
use Rattle.coherence_model.specs.Snoops.{Snoop, buffered_snoops, is_snooped, is_whole_block, snoops_after, snoops_after_answer}
use Rattle.coherence_model.specs.Stages.{Stage, conflict_end, stage, stage_after, stage_after_ack, stage_after_completion, was_completed}
use Rattle.coherence_model.specs.Tags.{tagged_line}
use Rattle.coherence_model.specs.Traces.{device, events_of}
use Rattle.coherence_model.specs.Transactions.{Kind, Transaction, open_after, open_after_take, open_at}
use Rattle.coherence_model.specs.Words.{one_if}
use Rattle.coherence_lemmas.proofs.Rows.{host_take-inv}
use Rattle.request_laws.proofs.AllPlaces.{taken}
use Rattle.request_laws.proofs.BufferedSnoops.{snooped-total, total, total-answer, total-append, total-cons, total-filter}
use Rattle.request_laws.proofs.Counts.{covers-lines, times}
use Rattle.request_laws.proofs.HostPlaces.{Taken}
use Rattle.request_laws.proofs.OpenLines.{LeadBack, after_take, open_leads_back, take_keeps}
use Rattle.coherence_model.proofs.OwnRuns.{events_of_run}
use Rattle.request_laws.proofs.OwnRuns.{host_is_no_device}
use Rattle.request_laws.proofs.Places.{on_channel}
use Rattle.listing_laws.proofs.AskedTags.{AskedFit, asked_fit, operation_leaves}
use Rattle.listing_laws.proofs.Asking.{unsnooped}
use Rattle.listing_laws.proofs.GrantOrder.{first_ack, order_seen}
use Rattle.listing_laws.proofs.Grants.{DeviceGrants, NoGrant, OneGrant, device_grants}
use Rattle.listing_laws.proofs.Induction.{DeviceEvent, HostEvent, Seen, after_device, after_host, always, seen_at}
use Rattle.listing_laws.proofs.Operations.{operation_row}
use Rattle.listing_laws.proofs.Owners.{granted_so, grants_shared, split_grants}
use Rattle.listing_laws.proofs.SentGrants.{granted_sent, sent_elsewhere}
use Rattle.listing_laws.proofs.TakenGrants.{grants_stay, picks_ownership, picks_shared}

-- all grants of what is open
abbrev pub granted : List Message → Option Transaction → ℕ
granted ndr o = granted_so grants_shared ndr o + granted_so grants_ownership ndr o

-- what is known of a line at stage Early: nothing of it is granted, and no modified eviction is open
pub record EarlyKept (ndr : List Message) (o : Option Transaction) : Type 0 where
  pub none : granted ndr o ≡ 0
  pub other : (x : Transaction) → o ≡ Some x → x.kind ≡ Kind.DirtyEviction → ⊥

-- what is kept of a host's view: at stage Early nothing is granted
abbrev pub EarlySeen : Configuration → ℕ → Seen
EarlySeen setup a own dev fr fw ndr rs = is_snooped a own ≡ true → stage setup a own ≡ Stage.Early → EarlyKept ndr (open_at a own)

-- ---- takes

module _ (setup : Configuration) (h k : ℕ) (own : List Event) (w : Emission) (back : LeadBack setup (λ b. open_at b own) (λ t. tagged_line t own)) (a : ℕ) (ndr : List Message) where
  -- what stays open after a take has as many grants as before
  pub granted_stays : (m : Message) → cause_fits setup h (Cause.Take k m) ≡ true → Taken (takes_on h Channel.Ndr (Cause.Take k m)) ndr → host_takes setup h m own ≡ Some w → (o y : Transaction) → open_at a own ≡ Some o
      → open_after_take m o ≡ Some y → granted (without_taken (takes_on h Channel.Ndr (Cause.Take k m)) ndr) (Some y) ≡ granted ndr (Some o)
  granted_stays m fits taken row o y there e =
      let s = grants_stay grants_shared picks_shared setup h k own w back a o y there ndr m fits taken row e in
      let g = grants_stay grants_ownership picks_ownership setup h k own w back a o y there ndr m fits taken row e in
      omega arith

  -- so where nothing was granted nothing is
  early_taken : (m : Message) → cause_fits setup h (Cause.Take k m) ≡ true → Taken (takes_on h Channel.Ndr (Cause.Take k m)) ndr → host_takes setup h m own ≡ Some w → EarlyKept ndr (open_at a own)
      → EarlyKept (without_taken (takes_on h Channel.Ndr (Cause.Take k m)) ndr) (option_and_then (open_after_take m) (open_at a own))
  early_taken m fits taken row old = record {
    none = none_left (option_and_then (open_after_take m) (open_at a own)) refl;
    other = λ y there dirty.
        let was = after_take m (open_at a own) y there in
        old.other was.0 was.1 (sym (take_keeps m was.0 y was.2).kind ∙ dirty);
  }
    where
      none_left : (o : Option Transaction) → option_and_then (open_after_take m) (open_at a own) ≡ o → granted (without_taken (takes_on h Channel.Ndr (Cause.Take k m)) ndr) o ≡ 0
      none_left None is = refl
      none_left (Some y) is =
          let was = after_take m (open_at a own) y is in
          granted_stays m fits taken row was.0 y was.1 was.2 ∙ ap (granted ndr) (sym was.1) ∙ old.none

-- ---- stages

-- a completion makes no line Early
early_completed : (setup : Configuration) (tag : ℕ) (st : Stage) → stage_after_completion setup tag st ≡ Stage.Early → st ≡ Stage.Early
early_completed setup tag Stage.New h = h
early_completed setup tag (Stage.Asked u) h = h
early_completed setup tag Stage.Early h = h
early_completed setup tag Stage.Late h = h
early_completed setup tag Stage.Writing h = by (tag == setup.tags) h
  where
    by : (b : Bool) → cond b Stage.Written Stage.Writing ≡ Stage.Early → Stage.Writing ≡ Stage.Early
    by true e = cc
    by false e = e
early_completed setup tag Stage.Written h = h

-- a line comes to stage Early by the BI-ConflictAck of its tag, where its request is open and not granted
data EarlyAfter (tag a : ℕ) (own : List Event) (st : Stage) : Type 0 where
  Already : st ≡ Stage.Early → EarlyAfter tag a own st
  Ends : st ≡ Stage.Asked tag → was_completed (open_at a own) ≡ false → EarlyAfter tag a own st

-- at the end of a conflict a line is Early where nothing was completed
early_end : (b : Bool) → cond b Stage.Late Stage.Early ≡ Stage.Early → b ≡ false
early_end true e = cc
early_end false e = refl

-- a line that is Early after a BI-ConflictAck was Early before, or its request isn't completed
early_acked : (tag a : ℕ) (own : List Event) (st : Stage) → stage_after_ack tag a own st ≡ Stage.Early → EarlyAfter tag a own st
early_acked tag a own Stage.New h = cc
early_acked tag a own (Stage.Asked u) h = by (u == tag) refl h
  where
    by : (b : Bool) → (u == tag) ≡ b → cond b (conflict_end (open_at a own)) (Stage.Asked u) ≡ Stage.Early → EarlyAfter tag a own (Stage.Asked u)
    by true is e = Ends (ap Stage.Asked (eqb-true u tag is)) (early_end (was_completed (open_at a own)) e)
    by false is e = cc
early_acked tag a own Stage.Early h = Already refl
early_acked tag a own Stage.Late h = cc
early_acked tag a own Stage.Writing h = cc
early_acked tag a own Stage.Written h = cc

-- what isn't completed is open without a grant
uncompleted : (o : Option Transaction) → was_completed o ≡ false → (x : Transaction) × (o ≡ Some x) × (x.grant ≡ None)
uncompleted None h = absurd (false≢true (sym h))
uncompleted (Some x) h = (x, refl, by x.grant h)
  where
    by : (g : Option NdrOp) → is_some g ≡ false → g ≡ None
    by None e = refl
    by (Some c) e = absurd (false≢true (sym e))

-- no conflict is declared for a dirty eviction
no_conflict_dirty : (k : Kind) → may_conflict k ≡ true → k ≡ Kind.DirtyEviction → ⊥
no_conflict_dirty Kind.ReadShared may e = cc
no_conflict_dirty Kind.ReadAny may e = cc
no_conflict_dirty Kind.Invalidate may e = cc
no_conflict_dirty Kind.CleanEviction may e = cc
no_conflict_dirty Kind.DirtyEviction may e = false≢true may

-- ---- snoops

-- a line that is snooped in no more snoops than the buffered ones is snooped
pub snooped_before : (a : ℕ) (own : List Event) (ss : List Snoop) → total a ss ≤ total a (buffered_snoops own) → is_some (find (λ (s : Snoop). is_in a s.unanswered) ss) ≡ true → is_snooped a own ≡ true
snooped_before a own ss less is =
    let some = leb-true 1 (total a ss) (sym (snooped-total a ss) ∙ is) in
    snooped-total a (buffered_snoops own) ∙ le-leb 1 (total a (buffered_snoops own)) (omega arith)

-- the line is unanswered in one of the snoops
abbrev snooped_so : ℕ → List Snoop → Bool
snooped_so a ss = is_some (find (λ (s : Snoop). is_in a s.unanswered) ss)

-- a snoop that doesn't cover the line doesn't ask for it
uncovered_less : (a : ℕ) (own : List Event) (op : SnpOp) (first : ℕ) (span : Span) → covers first span a ≡ false
    → total a (buffered_snoops own ++ record { op = op; first = first; span = span; unanswered = lines_of first span } ∷ []) ≤ total a (buffered_snoops own)
uncovered_less a own op first span is =
    let few = leb-false 1 (times a (lines_of first span)) (sym (covers-lines first a span) ∙ is) in
    let sum = total-append a (buffered_snoops own) (record { op = op; first = first; span = span; unanswered = lines_of first span } ∷ []) in
    let one = total-cons a (record { op = op; first = first; span = span; unanswered = lines_of first span }) [] in
    omega arith

-- what is kept after a take
abbrev AfterTake : Configuration → ℕ → ℕ → Message → ℕ → List Event → List Message → Type 0
AfterTake setup h k m a own ndr =
    snooped_so a (snoops_after (Cause.Take k m) (buffered_snoops own)) ≡ true → stage_after setup a (Cause.Take k m) own (stage setup a own) ≡ Stage.Early
    → EarlyKept (without_taken (takes_on h Channel.Ndr (Cause.Take k m)) ndr) (option_and_then (open_after_take m) (open_at a own))

module _ (setup : Configuration) (h k : ℕ) (own : List Event) (w : Emission) (back : LeadBack setup (λ b. open_at b own) (λ t. tagged_line t own)) (a : ℕ) (ndr : List Message) (fit : AskedFit (stage setup a own) (open_at a own))
    (old : is_snooped a own ≡ true → stage setup a own ≡ Stage.Early → EarlyKept ndr (open_at a own)) where
  -- at the end of a conflict
  acked : (tag : ℕ) → (count_by (is_ndr_with grants tag) ndr ≡ 0) → stage setup a own ≡ Stage.Asked tag → was_completed (open_at a own) ≡ false → EarlyKept ndr (open_at a own)
  acked tag zero st open_still =
      let o = uncompleted (open_at a own) open_still in
      let fits = fit tag st o.0 o.1 in
      let both = split_grants o.0.tag ndr in
      let zero' : count_by (is_ndr_with grants o.0.tag) ndr ≡ 0 = ap (λ n. count_by (is_ndr_with grants n) ndr) fits.tag ∙ zero in
      let s : one_if (option_map_or grants_shared o.0.grant false) ≡ 0 = ap (λ g. one_if (option_map_or grants_shared g false)) o.2 in
      let g : one_if (option_map_or grants_ownership o.0.grant false) ≡ 0 = ap (λ g. one_if (option_map_or grants_ownership g false)) o.2 in
      let none : granted ndr (Some o.0) ≡ 0 = omega arith in
      record {
        none = ap (granted ndr) o.1 ∙ none;
        other = λ y there dirty. no_conflict_dirty o.0.kind fits.may (ap (λ (x : Transaction). x.kind) (same_Some o.0 y (sym o.1 ∙ there)) ∙ dirty);
      }

  -- a take keeps it
  take_early : (m : Message) → cause_fits setup h (Cause.Take k m) ≡ true → Taken (takes_on h Channel.Ndr (Cause.Take k m)) ndr → host_takes setup h m own ≡ Some w
      → ((tag : ℕ) → m ≡ Message.Ndr NdrOp.ConflictAck (record { 0 = tag }) → count_by (is_ndr_with grants tag) ndr ≡ 0) → AfterTake setup h k m a own ndr
  take_early (Message.Req op meta snp tag line) fits taken row ends snooped st = absurd (none-some w row)
  take_early (Message.MemWr meta snp tag line bytes) fits taken row ends snooped st = absurd (none-some w row)
  take_early (Message.BiConflict tag) fits taken row ends snooped st = absurd (none-some w row)
  take_early (Message.BiRsp op bitag low) fits taken row ends snooped st = absurd (none-some w row)
  take_early (Message.Ndr NdrOp.Cmp tag) fits taken row ends snooped st =
      early_taken setup h k own w back a ndr (Message.Ndr NdrOp.Cmp tag) fits taken row (old snooped (early_completed setup tag.0 (stage setup a own) st))
  take_early (Message.Ndr NdrOp.CmpS tag) fits taken row ends snooped st = early_taken setup h k own w back a ndr (Message.Ndr NdrOp.CmpS tag) fits taken row (old snooped st)
  take_early (Message.Ndr NdrOp.CmpE tag) fits taken row ends snooped st = early_taken setup h k own w back a ndr (Message.Ndr NdrOp.CmpE tag) fits taken row (old snooped st)
  take_early (Message.Ndr NdrOp.ConflictAck tag) fits taken row ends snooped st =
      early_taken setup h k own w back a ndr (Message.Ndr NdrOp.ConflictAck tag) fits taken row (by (early_acked tag.0 a own (stage setup a own) st))
    where
      by : EarlyAfter tag.0 a own (stage setup a own) → EarlyKept ndr (open_at a own)
      by (Already is) = old snooped is
      by (Ends is still) = acked tag.0 (ends tag.0 refl) is still
  take_early (Message.MemData tag bytes) fits taken row ends snooped st = early_taken setup h k own w back a ndr (Message.MemData tag bytes) fits taken row (old snooped st)
  take_early (Message.BiSnp op bitag line span) fits taken row ends snooped st =
      early_taken setup h k own w back a ndr (Message.BiSnp op bitag line span) fits taken row (by (covers line.0 span a) refl st)
    where
      by : (b : Bool) → covers line.0 span a ≡ b → cond b Stage.New (stage setup a own) ≡ Stage.Early → EarlyKept ndr (open_at a own)
      by true is e = cc
      by false is e = old (snooped_before a own (buffered_snoops own ++ record { op = op; first = line.0; span = span; unanswered = lines_of line.0 span } ∷ []) (uncovered_less a own op line.0 span is) snooped) e
  take_early (Message.Credit c) fits taken row ends snooped st = early_taken setup h k own w back a ndr (Message.Credit c) fits taken row (old snooped st)

  -- a BIConflict makes no line Early
  asked_not : (b : Bool) (t : ℕ) (st : Stage) → cond b (Stage.Asked t) st ≡ Stage.Early → st ≡ Stage.Early
  asked_not true t st e = cc
  asked_not false t st e = e

  -- a write back makes no line Early
  writing_not : (b : Bool) (st : Stage) → cond b Stage.Writing st ≡ Stage.Early → st ≡ Stage.Early
  writing_not true st e = cc
  writing_not false st e = e

  -- a host's act keeps it
  act_early : (act : Act) → snooped_so a (snoops_after (Cause.Act act) (buffered_snoops own)) ≡ true → stage_after setup a (Cause.Act act) own (stage setup a own) ≡ Stage.Early → EarlyKept ndr (open_at a own)
  act_early (Act.Conflict line) snooped st = old snooped (asked_not (line.0 == a) _ (stage setup a own) st)
  act_early (Act.WriteBack line) snooped st = old snooped (writing_not (line.0 == a) (stage setup a own) st)
  act_early (Act.Answer line) snooped st = old (snooped_before a own (snoops_after_answer line.0 (buffered_snoops own)) (total-answer a line.0 (buffered_snoops own)) snooped) st
  act_early (Act.AnswerBlock line) snooped st = old (snooped_before a own (filter (λ s. not (is_whole_block line.0 s)) (buffered_snoops own)) (total-filter a (λ s. not (is_whole_block line.0 s)) (buffered_snoops own)) snooped) st
  act_early (Act.HostReturn c) snooped st = old snooped st
  act_early (Act.Serve k' tag) snooped st = old snooped st
  act_early (Act.Clean k' tag) snooped st = old snooped st
  act_early (Act.Start k' tag) snooped st = old snooped st
  act_early (Act.Evict k' tag) snooped st = old snooped st
  act_early (Act.Snoop k' line) snooped st = old snooped st
  act_early (Act.Finish line) snooped st = old snooped st
  act_early (Act.DeviceReturn k' c) snooped st = old snooped st

  -- an event of the host keeps it
  host_early : (cause : Cause) (sends : Sends) (commit : Option Commit) → cause_fits setup h cause ≡ true → Taken (takes_on h Channel.Ndr cause) ndr → host_emission setup h cause own ≡ Some w → sends ≡ w.sends → commit ≡ w.commit
      → ((tag : ℕ) → cause ≡ Cause.Take k (Message.Ndr NdrOp.ConflictAck (record { 0 = tag })) → count_by (is_ndr_with grants tag) ndr ≡ 0) → ((k' : ℕ) (m : Message) → cause ≡ Cause.Take k' m → k' ≡ k)
      → snooped_so a (snoops_after cause (buffered_snoops own)) ≡ true → stage_after setup a cause own (stage setup a own) ≡ Stage.Early
      → EarlyKept (without_taken (takes_on h Channel.Ndr cause) ndr) (open_after a cause sends (open_at a own))
  host_early (Cause.Op s i op) sends commit fits taken row sent committed ends mine snooped st =
      subst (EarlyKept ndr) (sym (operation_leaves setup h s i op own w sends commit a (operation_row setup h s i op own w sends commit row sent committed) sent snooped)) (old snooped st)
  host_early (Cause.Take k' m) sends commit fits taken row sent committed ends mine snooped st =
      let same = mine k' m refl in
      subst (λ x. EarlyKept (without_taken (takes_on h Channel.Ndr (Cause.Take x m)) ndr) (option_and_then (open_after_take m) (open_at a own))) (sym same)
      (take_early m (subst (λ x. cause_fits setup h (Cause.Take x m) ≡ true) same fits) (subst (λ x. Taken (takes_on h Channel.Ndr (Cause.Take x m)) ndr) same taken) (host_take-inv setup h k' m own w row).same
      (λ tag is. ends tag (ap (Cause.Take k') is ∙ ap (λ x. Cause.Take x (Message.Ndr NdrOp.ConflictAck (record { 0 = tag }))) same)) snooped st)
  host_early (Cause.Act act) sends commit fits taken row sent committed ends mine snooped st = act_early act snooped st

-- what is addressed to a host isn't the device's
addressed : (at_device own : Bool) → at_device ≡ false → (at_device || own) ≡ true → own ≡ true
addressed true own none is = absurd (false≢true (sym none))
addressed false own none is = is

-- a host takes its own messages alone
pub own_take : (setup : Configuration) (h k : ℕ) (m : Message) → is_device h ≡ false → cause_fits setup h (Cause.Take k m) ≡ true → k ≡ h
own_take setup h k m host fits =
    let named = and_parts _ _ fits in
    let right = and_parts _ _ named.0 in
    let ways = and_parts _ _ right.0 in
    let there = and_parts _ _ ways.0 in
    eqb-true k h (addressed (is_device h) (k == h) host there.1)

module _ (setup : Configuration) (opening : List (Line × Bytes64)) (limits : IsWithinLimits setup) (h : ℕ) (host : IsTrue (is_host setup h)) (a : ℕ) where
  -- the host isn't the device
  abbrev agent : is_device h ≡ false
  agent = host_is_no_device setup limits h host

  -- nothing is granted when a BI-ConflictAck of the tag is taken
  ends_by : (e : Event) (past : List Event) (on : HostEvent setup opening h e past) (tag : ℕ) (cause : Cause) → e.cause ≡ cause → cause ≡ Cause.Take h (Message.Ndr NdrOp.ConflictAck (record { 0 = tag }))
      → count_by (is_ndr_with grants tag) (in_flight h Channel.Ndr past) ≡ 0
  ends_by e past on tag cause is acks =
      let take = subst (λ c. k0_takeable c past ≡ true) (is ∙ acks) on.parts.take in
      first_ack tag (in_flight h Channel.Ndr past) (and_parts _ _ take).1 (order_seen setup opening limits h host tag past on.run)

  -- an event of the host keeps it after a run
  early_by_host : (e : Event) (past : List Event) → HostEvent setup opening h e past → seen_at (EarlySeen setup a) h past → after_host (EarlySeen setup a) h e past
  early_by_host e past on old =
      let own = events_of_run setup opening h past on.run in
      host_early setup h h (events_of h past) on.parts.row.w (open_leads_back setup opening h agent (events_of h past) own) a (in_flight h Channel.Ndr past) (asked_fit setup opening h agent (events_of h past) own a) old
      e.cause e.sends e.commit on.fits (taken setup opening h e past on.parts Channel.Ndr) on.row on.parts.row.sends on.parts.row.commit (λ tag is. ends_by e past on tag e.cause refl is)
      (λ k m is. takes_own k m is)
    where
      takes_own : (k : ℕ) (m : Message) → e.cause ≡ Cause.Take k m → k ≡ h
      takes_own k m is = own_take setup h k m agent (subst (λ c. cause_fits setup h c ≡ true) is on.fits)

  -- messages without grants of the open tag grant nothing
  granted_none : (ndr xs : List Message) (o : Option Transaction) → ((x : Transaction) → o ≡ Some x → count_by (is_ndr_with grants x.tag) xs ≡ 0) → granted ndr o ≡ 0 → granted (ndr ++ xs) o ≡ 0
  granted_none ndr xs None none old = refl
  granted_none ndr xs (Some x) none old =
      let s = granted_sent grants_shared ndr xs x in
      let g = granted_sent grants_ownership ndr xs x in
      let split = split_grants x.tag xs in
      let zero = none x refl in
      omega arith

  -- no grant is sent for a snooped line
  sent_none : (e : Event) (past : List Event) → IsRun setup opening past → DeviceGrants setup opening h (events_of device past) e.cause e.sends → is_snooped a (events_of h past) ≡ true
      → (x : Transaction) → open_at a (events_of h past) ≡ Some x → count_by (is_ndr_with grants x.tag) (on_channel h Channel.Ndr e.sends) ≡ 0
  sent_none e past run (NoGrant none others) snooped x there = none x.tag
  sent_none e past run (OneGrant f) snooped x there =
      ap (count_by (is_ndr_with grants x.tag)) f.sent
      ∙ sent_elsewhere setup opening limits h host past run e.cause e.sends f grants a x there
      (λ same. unsnooped setup opening limits h host past run f.a.0 f.t f.stands f.request f.own (subst (λ l. is_snooped l (events_of h past) ≡ true) (sym same) snooped))

  -- an event of the device keeps it after a run
  early_by_device : (e : Event) (past : List Event) → DeviceEvent setup opening e past → seen_at (EarlySeen setup a) h past → after_device (EarlySeen setup a) h e past
  early_by_device e past on old snooped st =
      let before = old snooped st in
      record {
        none = granted_none (in_flight h Channel.Ndr past) (on_channel h Channel.Ndr e.sends) (open_at a (events_of h past))
            (sent_none e past on.run (device_grants setup opening h (events_of device past) e.cause e.sends on.parts.row.w on.row on.parts.row.sends) snooped) before.none;
        other = before.other;
      }

  -- after every run a line at stage Early has no grant and no modified eviction
  pub early_seen : (t : List Event) → IsRun setup opening t → seen_at (EarlySeen setup a) h t
  early_seen = always setup opening h agent (EarlySeen setup a) early_by_host early_by_device (λ snooped st. cc)
