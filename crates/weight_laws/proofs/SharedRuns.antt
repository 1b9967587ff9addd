-- After every run a buffered MemWr Shared is for a line of a task that serves a shared read.
use Rattle.std.proofs.Common.{◌≡◌, ℕ, ◌+◌, ◌≤◌, Bool, true, false, IsTrue, List, [], ◌∷◌, Option, Some, None, cond, count_by, refl, sym, ◌∙◌, ap, subst, arith, ◌⊎◌, inl, inr}
use Rattle.std.specs.Prelude.{◌&&◌, ◌==◌}
use Rattle.std.specs.List.{list_all, list_any}
use Rattle.std.proofs.lemmas.Bool.{and_parts, eq-eqb, eqb-true, false≢true}
use Rattle.cxl_message.specs.declared.channels.Channel.{Channel}
use Rattle.cxl_message.specs.declared.events.Cause.{Cause}
use Rattle.cxl_message.specs.declared.events.Event.{Event}
use Rattle.cxl_message.specs.declared.identifiers.Bytes64.{Bytes64}
use Rattle.cxl_message.specs.declared.identifiers.Line.{Line}
use Rattle.cxl_message.specs.declared.identifiers.Tag.{Tag}
use Rattle.cxl_message.specs.declared.messages.Message.{Message}
use Rattle.cxl_message.specs.declared.opcodes.Meta.{Meta}
use Rattle.cxl_message.specs.declared.opcodes.NdrOp.{NdrOp}
use Rattle.cxl_message.specs.declared.opcodes.SnpType.{SnpType}
use Rattle.cxl_message.specs.declared.opcodes.Span.{Span}
use Rattle.cxl_message.specs.Lists.{is_in}
use Rattle.cxl_message.specs.Messages.{message_eq}
use Rattle.cxl_message.specs.Setup.{Configuration, IsWithinLimits}
use Rattle.cxl_message.specs.Spans.{covers}
use Rattle.coherence_model.specs.Buffers.{buffered_writes, message_with, write_used_by, writes_after}
use Rattle.coherence_model.specs.Copies.{is_shared_meta}
use Rattle.coherence_model.specs.DeviceActs.{snoop_op}
use Rattle.coherence_model.specs.Fitting.{cause_fits, is_device, is_host}
use Rattle.coherence_model.specs.Flight.{in_flight, sends_on, takes_on}
use Rattle.coherence_model.specs.HostActs.{is_data_snoop}
use Rattle.coherence_model.specs.RequestFacts.{is_ndr_with}
use Rattle.coherence_model.specs.Rows.{row_emission}
use Rattle.coherence_model.specs.Runs.{IsRun, is_allowed, is_run}
use Rattle.coherence_model.specs.Rules.{k0_takeable}
use Rattle.coherence_model.specs.Snoops.{Snoop, snoop_at}
use Rattle.coherence_model.specs.Stages.{Stage, stage}
use Rattle.coherence_model.specs.Tags.{open_with}
use Rattle.coherence_model.specs.Tasks.{Purpose}
use Rattle.coherence_model.specs.Traces.{device, events_of}
use Rattle.coherence_model.specs.Transactions.{Kind, Transaction}
use Rattle.coherence_model.specs.WriteBacks.{completes, is_write_back_open}
use Rattle.coherence_model.proofs.OwnRuns.{events_of_run}
use Rattle.coherence_lemmas.proofs.Allowed.{AllowedParts, allowed_parts}
use Rattle.coherence_lemmas.proofs.Directions.{take_parts}
use Rattle.coherence_lemmas.proofs.Flight.{taken_is_there}
use Rattle.coherence_lemmas.proofs.Rows.{host_row}
use Rattle.entry_laws.proofs.Laws.{snoops_have_tasks}
use Rattle.request_laws.proofs.AllPlaces.{neither, only_sent, only_taken, other_events, own_events, placed}
use Rattle.request_laws.proofs.Balances.{Balanced, BalancedAs, here}
use Rattle.request_laws.proofs.Counts.{any_counts}
use Rattle.request_laws.proofs.DeviceCauses.{each_there}
use Rattle.request_laws.proofs.Each.{Each, each_append, each_of_none, each_weaker, each_with_last, each_without_taken, each_without_used, found_message}
use Rattle.request_laws.proofs.OwnRuns.{host_is_no_device}
use Rattle.request_laws.proofs.Places.{is_write_of}
use Rattle.progress_laws.proofs.Messages.{passes}
use Rattle.snoop_laws.proofs.Laws.{held_snoops_were_sent}
use Rattle.weight_laws.specs.ListingLaws.{ServesShared}
use Rattle.weight_laws.proofs.Sums.{in_cases}
use Rattle.weight_laws.proofs.SharedWrites.{WritesBack, host_keeps, host_sends, message_kept}

-- ---- with a MemWr of the write-back tag under way no Cmp with it is

none_as : (l : Kind) (b g y r w nc ng d k : ℕ) → BalancedAs l b g y r w nc ng d k → 1 ≤ w → nc ≡ 0
none_as Kind.ReadShared b g y r w nc ng d k e some = omega arith
none_as Kind.ReadAny b g y r w nc ng d k e some = omega arith
none_as Kind.Invalidate b g y r w nc ng d k e some = omega arith
none_as Kind.CleanEviction b g y r w nc ng d k e some = absurd (omega arith)
none_as Kind.DirtyEviction b g y r w nc ng d k e some = omega arith

no_completion : (o : Option Transaction) (b r w nc ng d k : ℕ) → b ≤ 1 → Balanced o b r w nc ng d k → 1 ≤ w → nc ≡ 0
no_completion None b r w nc ng d k few e some = omega arith
no_completion (Some o) b r w nc ng d k few e some = none_as o.kind b (here o.grant) (here o.bytes) r w nc ng d k e some

at_most_one : (b : Bool) → cond b 1 0 ≤ 1
at_most_one true = omega arith
at_most_one false = omega arith

-- ---- messages that aren't of the write-back tag

each_both : (P Q R : Message → Type 0) → ((m : Message) → P m → Q m → R m) → (ms : List Message) → Each P ms → Each Q ms → Each R ms
each_both P Q R f [] h k = tt
each_both P Q R f (m ∷ ms) h k = (f m h.0 k.0, each_both P Q R f ms h.1 k.1)

another : (setup : Configuration) (snoops snoops' : ℕ → Option Snoop) (stages stages' : ℕ → Stage) (m : Message) → (is_write_of setup.tags m ≡ true → ⊥) → WritesBack setup snoops stages m → WritesBack setup snoops' stages' m
another setup snoops snoops' stages stages' (Message.Req _ _ _ _ _) other was = tt
another setup snoops snoops' stages stages' (Message.MemWr meta snp tag line bytes) other was = λ shared. absurd (other (eq-eqb tag.0 setup.tags (was shared).0))
another setup snoops snoops' stages stages' (Message.BiConflict _) other was = tt
another setup snoops snoops' stages stages' (Message.BiRsp _ _ _) other was = tt
another setup snoops snoops' stages stages' (Message.Ndr _ _) other was = tt
another setup snoops snoops' stages stages' (Message.MemData _ _) other was = tt
another setup snoops snoops' stages stages' (Message.BiSnp _ _ _ _) other was = tt
another setup snoops snoops' stages stages' (Message.Credit _) other was = tt

-- ---- over the run

abbrev Said : Configuration → ℕ → List Event → Message → Type 0
Said setup h t = WritesBack setup (λ a. snoop_at a (events_of h t)) (λ a. stage setup a (events_of h t))

-- what is said of the RwD messages of host h in flight and buffered
abbrev pub AreWriteBacks : Configuration → ℕ → List Event → Type 0
AreWriteBacks setup h t = Each (Said setup h t) (in_flight h Channel.Rwd t) × Each (Said setup h t) (buffered_writes h (events_of device t))

zero_or_more : (n : ℕ) → (n ≡ 0) ⊎ (1 ≤ n)
zero_or_more n = grind arith

-- what the device holds after its event
held_after : (P : Message → Type 0) (h : ℕ) (cause : Cause) (flying held : List Message) → ((m : Message) → takes_on h Channel.Rwd cause ≡ Some m → list_any (message_eq m) flying ≡ true) → Each P flying → Each P held → Each P (writes_after h cause held)
held_after P h (Cause.Op _ _ _) flying held there fs hs = hs
held_after P h (Cause.Take k m) flying held there fs hs = each_with_last P (takes_on h Channel.Rwd (Cause.Take k m)) held (λ n takes. each_there P n flying fs (there n takes)) hs
held_after P h (Cause.Act act) flying held there fs hs = each_without_used P (write_used_by h act) held hs

module _ (setup : Configuration) (opening : List (Line × Bytes64)) (h : ℕ) (no_device : is_device h ≡ false) (e : Event) (past : List Event) (run : IsRun setup opening past)
    (parts : AllowedParts setup opening past e) (inv : AreWriteBacks setup h past) where
  abbrev mine : List Event
  mine = events_of h past

  abbrev After : Message → Type 0
  After = WritesBack setup (λ a. snoop_at a (e ∷ mine)) (λ a. stage setup a (e ∷ mine))

  -- the old messages, by whether one has the write-back tag
  old_kept : (e.agent == h) ≡ true → Each After (in_flight h Channel.Rwd past) × Each After (buffered_writes h (events_of device past))
  old_kept is =
      let same = eqb-true e.agent h is in
      let row = sym (host_row setup opening h e.cause mine no_device) ∙ subst (λ g. row_emission setup opening g e.cause (events_of g past) ≡ Some parts.row.w) same parts.row.row in
      elim (zero_or_more (count_by (is_write_of setup.tags) (in_flight h Channel.Rwd past) + count_by (is_write_of setup.tags) (buffered_writes h (events_of device past)))) [
        | inl none ↦ (
          each_both (λ m. is_write_of setup.tags m ≡ true → ⊥) (Said setup h past) After (λ m other was. another setup _ _ _ _ m other was) (in_flight h Channel.Rwd past)
              (each_of_none (λ m. ⊥) (is_write_of setup.tags) (in_flight h Channel.Rwd past) (omega arith)) inv.0,
          each_both (λ m. is_write_of setup.tags m ≡ true → ⊥) (Said setup h past) After (λ m other was. another setup _ _ _ _ m other was) (buffered_writes h (events_of device past))
              (each_of_none (λ m. ⊥) (is_write_of setup.tags) (buffered_writes h (events_of device past)) (omega arith)) inv.1,
        )
        | inr some ↦
            let zero = no_completion (open_with setup.tags mine) _ _ _ _ _ _ _ (at_most_one ((setup.tags == setup.tags) && is_write_back_open setup mine)) (placed setup opening h setup.tags no_device past run).balanced some in
            let keeps = host_keeps setup h e.cause mine parts.row.w row (λ k tag cause_is tag_is a writing. taken_none k tag cause_is tag_is zero) in (
              each_weaker (Said setup h past) After (λ m was. message_kept setup e.cause mine m keeps was) (in_flight h Channel.Rwd past) inv.0,
              each_weaker (Said setup h past) After (λ m was. message_kept setup e.cause mine m keeps was) (buffered_writes h (events_of device past)) inv.1,
            )
      ]
    where
      taken_by : (k tag : ℕ) → e.cause ≡ Cause.Take k (Message.Ndr NdrOp.Cmp (record { 0 = tag })) → k ≡ h
      taken_by k tag cause_is =
          sym (take_parts setup e.agent k (Message.Ndr NdrOp.Cmp (record { 0 = tag })) (subst (λ c. IsTrue (cause_fits setup e.agent c)) cause_is parts.profile.cause)).receiver ∙ eqb-true e.agent h is

      taken_none : (k tag : ℕ) → e.cause ≡ Cause.Take k (Message.Ndr NdrOp.Cmp (record { 0 = tag })) → tag ≡ setup.tags → count_by (is_ndr_with completes setup.tags) (in_flight h Channel.Ndr past) ≡ 0 → ⊥
      taken_none k tag cause_is tag_is zero =
          let there = (and_parts _ _ (subst (λ c. IsTrue (k0_takeable c past)) cause_is parts.take)).0 in
          let addressed = taken_by k tag cause_is in
          let some = any_counts (is_ndr_with completes setup.tags) (in_flight h Channel.Ndr past)
          (passes (is_ndr_with completes setup.tags) (Message.Ndr NdrOp.Cmp (record { 0 = tag })) (in_flight h Channel.Ndr past) (eq-eqb tag setup.tags tag_is)
          (subst (λ g. list_any (message_eq (Message.Ndr NdrOp.Cmp (record { 0 = tag }))) (in_flight g Channel.Ndr past) ≡ true) addressed there)) in
          omega arith

  by_own : (e.agent == h) ≡ true → AreWriteBacks setup h (e ∷ past)
  by_own is =
      let same = eqb-true e.agent h is in
      let other : (e.agent == device) ≡ false = ap (λ g. g == device) same ∙ no_device in
      let row = sym (host_row setup opening h e.cause mine no_device) ∙ subst (λ g. row_emission setup opening g e.cause (events_of g past) ≡ Some parts.row.w) same parts.row.row in
      let old = old_kept is in
      let flying = each_append After (in_flight h Channel.Rwd past) (sends_on h Channel.Rwd e) old.0 (host_sends setup h e.cause mine parts.row.w e.sends row parts.row.sends) in
      subst (λ own. Each (WritesBack setup (λ a. snoop_at a own) (λ a. stage setup a own)) (in_flight h Channel.Rwd (e ∷ past)) × Each (WritesBack setup (λ a. snoop_at a own) (λ a. stage setup a own)) (buffered_writes h (events_of device (e ∷ past)))) (own_events h e past is)
      (subst (Each After) (only_sent setup opening h e past parts Channel.Rwd other) flying, subst (λ dev. Each After (buffered_writes h dev)) (other_events device e past other) old.1)

  by_device : (e.agent == h) ≡ false → (e.agent == device) ≡ true → AreWriteBacks setup h (e ∷ past)
  by_device other is =
      let held = held_after (Said setup h past) h e.cause (in_flight h Channel.Rwd past) (buffered_writes h (events_of device past)) (λ m takes. taken_is_there h Channel.Rwd e.cause past m parts.take takes) inv.0 inv.1 in
      let flying = each_without_taken (Said setup h past) (takes_on h Channel.Rwd e.cause) (in_flight h Channel.Rwd past) inv.0 in
      subst (λ own. Each (WritesBack setup (λ a. snoop_at a own) (λ a. stage setup a own)) (in_flight h Channel.Rwd (e ∷ past)) × Each (WritesBack setup (λ a. snoop_at a own) (λ a. stage setup a own)) (buffered_writes h (events_of device (e ∷ past)))) (other_events h e past other)
      (subst (Each (Said setup h past)) (only_taken setup opening h e past parts Channel.Rwd other) flying, subst (λ dev. Each (Said setup h past) (buffered_writes h dev)) (own_events device e past is) held)

  by_other : (e.agent == h) ≡ false → (e.agent == device) ≡ false → AreWriteBacks setup h (e ∷ past)
  by_other other another_one =
      subst (λ own. Each (WritesBack setup (λ a. snoop_at a own) (λ a. stage setup a own)) (in_flight h Channel.Rwd (e ∷ past)) × Each (WritesBack setup (λ a. snoop_at a own) (λ a. stage setup a own)) (buffered_writes h (events_of device (e ∷ past)))) (other_events h e past other)
      (subst (Each (Said setup h past)) (neither setup opening h e past parts Channel.Rwd another_one other) inv.0, subst (λ dev. Each (Said setup h past) (buffered_writes h dev)) (other_events device e past another_one) inv.1)

  by_agent : (own dev : Bool) → (e.agent == h) ≡ own → (e.agent == device) ≡ dev → AreWriteBacks setup h (e ∷ past)
  by_agent true dev is its = by_own is
  by_agent false true is its = by_device is its
  by_agent false false is its = by_other is its

  pub goes_on : AreWriteBacks setup h (e ∷ past)
  goes_on = by_agent (e.agent == h) (e.agent == device) refl refl

are_write_backs : (setup : Configuration) (opening : List (Line × Bytes64)) (h : ℕ) → is_device h ≡ false → (t : List Event) → IsRun setup opening t → AreWriteBacks setup h t
are_write_backs setup opening h no_device [] run = (tt, tt)
are_write_backs setup opening h no_device (e ∷ past) run =
    let runs = and_parts (is_run setup opening past) (is_allowed setup opening past e) run in
    goes_on setup opening h no_device e past runs.0 (allowed_parts setup opening past e runs.1) (are_write_backs setup opening h no_device past runs.0)

pub data_purpose : (p : Purpose) (span : Span) → is_data_snoop (snoop_op p span) ≡ true → p ≡ Purpose.SharedRead
data_purpose Purpose.SharedRead span h = refl
data_purpose Purpose.OwningRead span h = absurd (no_data span h)
  where
    no_data : (span : Span) → is_data_snoop (snoop_op Purpose.OwningRead span) ≡ true → ⊥
    no_data Span.One h = false≢true h
    no_data Span.Two h = false≢true h
    no_data Span.Four h = false≢true h
data_purpose Purpose.Invalidation span h = absurd (no_data span h)
  where
    no_data : (span : Span) → is_data_snoop (snoop_op Purpose.OwningRead span) ≡ true → ⊥
    no_data Span.One h = false≢true h
    no_data Span.Two h = false≢true h
    no_data Span.Four h = false≢true h
data_purpose Purpose.Eviction span h = absurd (no_data span h)
  where
    no_data : (span : Span) → is_data_snoop (snoop_op Purpose.OwningRead span) ≡ true → ⊥
    no_data Span.One h = false≢true h
    no_data Span.Two h = false≢true h
    no_data Span.Four h = false≢true h

-- what holds of all numbers of a list holds of one that is in it
all_in : (p : ℕ → Bool) (a : ℕ) (xs : List ℕ) → list_all p xs ≡ true → is_in a xs ≡ true → p a ≡ true
all_in p a [] all there = absurd (false≢true there)
all_in p a (x ∷ xs) all there =
    let both = and_parts (p x) (list_all p xs) all in
    elim (in_cases a x xs there) [
      | inl same ↦ subst (λ y. p y ≡ true) (sym same) both.0
      | inr later ↦ all_in p a xs both.1 later
    ]

-- a buffered MemWr Shared is for such a line
pub shared_writes_serve :
    (setup : Configuration) (opening : List (Line × Bytes64)) → IsWithinLimits setup → (t : List Event) → IsRun setup opening t → (h : ℕ) → IsTrue (is_host setup h)
    → (tag : ℕ) (meta : Meta) (snp : SnpType) (own_tag : Tag) (line : Line) (bytes : Bytes64) → message_with tag (buffered_writes h (events_of device t)) ≡ Some (Message.MemWr meta snp own_tag line bytes) → is_shared_meta meta ≡ true
    → ServesShared setup (events_of device t) line.0
shared_writes_serve setup opening limits t run h host tag meta snp own_tag line bytes found shared =
    let inv = are_write_backs setup opening h (host_is_no_device setup limits h host) t run in
    let said = (found_message (Said setup h t) tag (Message.MemWr meta snp own_tag line bytes) (buffered_writes h (events_of device t)) inv.1 found).holds shared in
    let writing = said.1 in
    let was = held_snoops_were_sent setup opening limits t run h host line.0 writing.s writing.there in
    let of = snoops_have_tasks setup opening (events_of device t) (events_of_run setup opening device t run) h writing.s.first was.sent was.asked in
    record {
      first = writing.s.first;
      task = of.task;
      stands = of.stands;
      covered = all_in (covers writing.s.first of.task.span) line.0 was.sent.unanswered of.lines was.unanswered;
      purpose = data_purpose of.task.purpose of.task.span (ap is_data_snoop (sym of.op ∙ was.op_same) ∙ writing.shared);
    }
