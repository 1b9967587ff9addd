-- After every run each host has the flat memory's line, and memory has it where no host holds a copy M or has a MemWr under way: by recursion over the run.
use Rattle.std.proofs.Common.{◌≡◌, ℕ, ◌+◌, ◌≤◌, Bool, true, false, IsTrue, List, [], ◌∷◌, Some, refl, sym, ◌∙◌, ap, subst, arith, inl, inr}
use Rattle.std.specs.Prelude.{◌==◌, ◌||◌}
use Rattle.std.proofs.lemmas.Bool.{and_parts, eq-eqb, eqb-true, false≢true, ne_eqb}
use Rattle.std.proofs.lemmas.Option.{none-some}
use Rattle.cxl_message.specs.declared.channels.Channel.{Channel}
use Rattle.cxl_message.specs.declared.events.Event.{Event}
use Rattle.cxl_message.specs.declared.identifiers.Bytes64.{Bytes64}
use Rattle.cxl_message.specs.declared.identifiers.Line.{Line}
use Rattle.cxl_message.specs.declared.messages.Message.{Message}
use Rattle.cxl_message.specs.Setup.{Configuration, IsWithinLimits}
use Rattle.coherence_lemmas.proofs.Allowed.{AllowedParts, allowed_parts}
use Rattle.coherence_lemmas.proofs.Rows.{device_row, host_row}
use Rattle.coherence_model.specs.Buffers.{buffered_writes, writes_after}
use Rattle.coherence_model.specs.Cache.{copy}
use Rattle.coherence_model.specs.DeviceRows.{device_emission}
use Rattle.coherence_model.specs.Fitting.{cause_fits, is_host}
use Rattle.coherence_model.specs.FlatMemory.{flat_line}
use Rattle.coherence_model.specs.Flight.{in_flight, takes_on, without_taken}
use Rattle.coherence_model.specs.HostRows.{host_emission}
use Rattle.coherence_model.specs.Memory.{memory}
use Rattle.coherence_model.specs.Rows.{row_emission}
use Rattle.coherence_model.specs.Runs.{IsRun, is_allowed, is_run}
use Rattle.coherence_model.specs.Traces.{device, events_of, history}
use Rattle.coherence_model.specs.Transactions.{open_at}
use Rattle.request_laws.proofs.AllPlaces.{neither, only_sent, only_taken, other_events, own_events, taken, there}
use Rattle.request_laws.proofs.OwnRuns.{host_is_no_device}
use Rattle.listing_laws.proofs.Copies.{valid_count, writable_count}
use Rattle.value_laws.proofs.DeviceCommits.{device_uncommitted}
use Rattle.value_laws.proofs.DeviceEvents.{CleanAt, device_moved}
use Rattle.value_laws.proofs.Has.{HostHas, IsClean, both_none, flat_next, invalid, none_written, value_next}
use Rattle.value_laws.proofs.HostEvents.{AfterEvent, HasAt, cause_moved}
use Rattle.value_laws.proofs.HostFacts.{EarlyUnwritable, OwnersApart, nothing_read, owning_grants, shared_grants, written_count}
use Rattle.value_laws.proofs.Memory.{memory_moved}

-- each host has these bytes of a line, and memory where all hosts are clean
pub record ValueKept (setup : Configuration) (opening : List (Line × Bytes64)) (a : ℕ) (v : Bytes64) (t : List Event) : Type 0 where
  pub hosts : (h : ℕ) → is_host setup h ≡ true → HasAt setup a v h t
  pub stored : ((h : ℕ) → is_host setup h ≡ true → CleanAt setup a h t) → memory opening a (events_of device t) ≡ v

-- the same with equal events and messages
has_as : (setup : Configuration) (a : ℕ) (v : Bytes64) (h : ℕ) (own own' dev dev' : List Event) (fw fw' drs drs' : List Message) → own ≡ own' → dev ≡ dev' → fw ≡ fw' → drs ≡ drs'
    → HostHas a v (copy setup a own) (open_at a own) fw (buffered_writes h dev) drs → HostHas a v (copy setup a own') (open_at a own') fw' (buffered_writes h dev') drs'
has_as setup a v h own own' dev dev' fw fw' drs drs' eo ed ew es has =
    subst (λ x. HostHas a v (copy setup a own') (open_at a own') fw' (buffered_writes h dev') x) es (subst (λ x. HostHas a v (copy setup a own') (open_at a own') x (buffered_writes h dev') drs) ew
    (subst (λ x. HostHas a v (copy setup a own') (open_at a own') fw (buffered_writes h x) drs) ed (subst (λ x. HostHas a v (copy setup a x) (open_at a x) fw (buffered_writes h dev) drs) eo has)))

-- the same, the other way round
clean_as : (setup : Configuration) (a h : ℕ) (own own' dev dev' : List Event) (fw fw' : List Message) → own ≡ own' → dev ≡ dev' → fw ≡ fw' → IsClean a (copy setup a own') fw' (buffered_writes h dev') → IsClean a (copy setup a own) fw (buffered_writes h dev)
clean_as setup a h own own' dev dev' fw fw' eo ed ew clean =
    subst (λ x. IsClean a (copy setup a own) x (buffered_writes h dev)) (sym ew) (subst (λ x. IsClean a (copy setup a own) fw' (buffered_writes h x)) (sym ed) (subst (λ x. IsClean a (copy setup a x) fw' (buffered_writes h dev')) (sym eo) clean))

-- four numbers that are 0 together
four_zero : (n m k l : ℕ) → n + m + k + l ≡ 0 → (n ≡ 0) × (m ≡ 0) × (k + l ≡ 0)
four_zero n m k l h = (omega arith, omega arith, omega arith)

-- who owns the line or gets it, with its MemWr
with_written : (x w g : ℕ) → 1 ≤ x + g → 1 ≤ x + w + g
with_written x w g h = omega arith

-- hosts that differ
other_than : (g h : ℕ) → (g == h) ≡ false → g ≡ h → ⊥
other_than g h differ same = false≢true (sym differ ∙ eq-eqb g h same)

module _ (setup : Configuration) (opening : List (Line × Bytes64)) (limits : IsWithinLimits setup) (a : ℕ) (v : Bytes64) (e : Event) (past : List Event) (run : IsRun setup opening past) (parts : AllowedParts setup opening past e)
    (owners : OwnersApart setup a past) (kept : ValueKept setup opening a v past) where
  -- the line's bytes after the event
  abbrev next : Bytes64
  next = value_next e.commit a v

  -- ---- an event of the device

  module _ (is : (e.agent == device) ≡ true) where
    -- the row of the device emits
    device_emits : device_emission setup opening e.cause (events_of device past) ≡ Some parts.row.w
    device_emits =
        sym (device_row setup opening device e.cause (events_of device past) refl) ∙ subst (λ g. row_emission setup opening g e.cause (events_of g past) ≡ Some parts.row.w) (eqb-true e.agent device is) parts.row.row

    -- its cause names what exists
    device_fits : cause_fits setup device e.cause ≡ true
    device_fits = subst (λ g. IsTrue (cause_fits setup g e.cause)) (eqb-true e.agent device is) parts.profile.cause

    -- the device commits nothing
    same_value : next ≡ v
    same_value = ap (λ x. value_next x a v) (parts.row.commit ∙ device_uncommitted setup opening e.cause (events_of device past) parts.row.w device_emits)

    -- the device isn't a host
    no_host : (h : ℕ) → is_host setup h ≡ true → (e.agent == h) ≡ false
    no_host h host = ap (λ g. g == h) (eqb-true e.agent device is) ∙ ne_eqb device h (λ same. false≢true (sym (host_is_no_device setup limits h host) ∙ eq-eqb h device (sym same)))

    -- what the event leaves at each host
    device_has : (h : ℕ) → is_host setup h ≡ true → HasAt setup a v h (e ∷ past)
    device_has h host =
        let other = no_host h host in
        has_as setup a v h _ _ _ _ _ _ _ _ (other_events h e past other) (own_events device e past is) (only_taken setup opening h e past parts Channel.Rwd other) (only_sent setup opening h e past parts Channel.Drs other)
        (device_moved setup opening limits past run a v owners kept.stored h host (kept.hosts h host) e.cause parts.row.w e.sends device_emits parts.row.sends (there setup opening h e past parts Channel.Rwd))

    -- hosts that are clean after the event
    device_clean : ((h : ℕ) → is_host setup h ≡ true → CleanAt setup a h (e ∷ past)) → (h : ℕ) → is_host setup h ≡ true
        → IsClean a (copy setup a (events_of h past)) (without_taken (takes_on h Channel.Rwd e.cause) (in_flight h Channel.Rwd past)) (writes_after h e.cause (buffered_writes h (events_of device past)))
    device_clean clean h host =
        let other = no_host h host in
        clean_as setup a h (events_of h past) _ (e ∷ events_of device past) _ _ _ (other_events h e past other) (own_events device e past is) (only_taken setup opening h e past parts Channel.Rwd other) (clean h host)

    -- an event of the device keeps the value
    by_device : ValueKept setup opening a next (e ∷ past)
    by_device = record {
      hosts = λ h host. subst (λ x. HasAt setup a x h (e ∷ past)) (sym same_value) (device_has h host);
      stored = λ clean.
          ap (memory opening a) (sym (own_events device e past is))
          ∙ memory_moved setup opening a v (events_of device past) (λ k. copy setup a (events_of k past)) (λ k. in_flight k Channel.Rwd past) (λ k host. (kept.hosts k host).waiting) kept.stored e.cause parts.row.w device_emits device_fits
          (λ k. taken setup opening k e past parts Channel.Rwd) (device_clean clean)
          ∙ sym same_value;
    }

  -- ---- an event of a host

  module _ (other : (e.agent == device) ≡ false) (host : is_host setup e.agent ≡ true) (early : EarlyUnwritable setup a (events_of e.agent past)) where
    -- the row of the host emits
    host_emits : host_emission setup e.agent e.cause (events_of e.agent past) ≡ Some parts.row.w
    host_emits = sym (host_row setup opening e.agent e.cause (events_of e.agent past) other) ∙ parts.row.row

    -- what the event leaves at the host itself
    move : AfterEvent setup opening limits e.agent host past run a v (kept.hosts e.agent host) e.cause e.sends e.commit
    move =
        cause_moved setup opening limits e.agent host past run a v (kept.hosts e.agent host) e.cause parts.row.w e.sends e.commit host_emits parts.row.sends parts.row.commit parts.profile.cause
        (λ c. there setup opening e.agent e past parts c) early

    -- the host is the agent
    own : (e.agent == e.agent) ≡ true
    own = eq-eqb e.agent e.agent refl

    -- the host has the new bytes
    own_has : HasAt setup a next e.agent (e ∷ past)
    own_has =
        has_as setup a next e.agent (e ∷ events_of e.agent past) _ (events_of device past) _ _ _ _ _ (own_events e.agent e past own) (other_events device e past other) (only_sent setup opening e.agent e past parts Channel.Rwd other)
        (only_taken setup opening e.agent e past parts Channel.Drs other) move.has

    -- another host where the bytes changed has nothing of the line
    bare : (h : ℕ) → is_host setup h ≡ true → (e.agent == h) ≡ false → 1 ≤ writable_count (copy setup a (events_of e.agent past)) + owning_grants a e.agent past → HasAt setup a next h past
    bare h its differ owns =
        let none = four_zero (valid_count (copy setup a (events_of h past))) (written_count a h past) (shared_grants a h past) (owning_grants a h past) (owners.apart e.agent h host its (other_than e.agent h differ) (with_written _ (written_count a e.agent past) _ owns)) in
        let writes = both_none _ _ none.1 in
        record {
          copied = λ valid. absurd (invalid (copy setup a (events_of h past)) none.0 valid);
          flying = none_written a next _ writes.0;
          waiting = none_written a next _ writes.1;
          reads = nothing_read setup opening limits h its past run a next none.2;
        }

    -- so has each other host
    others_has : (h : ℕ) → is_host setup h ≡ true → (e.agent == h) ≡ false → HasAt setup a next h (e ∷ past)
    others_has h its differ =
        has_as setup a next h (events_of h past) _ (events_of device past) _ _ _ _ _ (other_events h e past differ) (other_events device e past other) (neither setup opening h e past parts Channel.Rwd other differ)
        (neither setup opening h e past parts Channel.Drs differ other)
        (elim move.others [ inl same ↦ subst (λ x. HasAt setup a x h past) (sym same) (kept.hosts h its) | inr owns ↦ bare h its differ owns ])

    -- each host, by whether it is the agent
    has_by : (h : ℕ) → is_host setup h ≡ true → (b : Bool) → (e.agent == h) ≡ b → HasAt setup a next h (e ∷ past)
    has_by h its true is = subst (λ k. HasAt setup a next k (e ∷ past)) (eqb-true e.agent h is) own_has
    has_by h its false is = others_has h its is

    -- where the host is clean after the event it was, and the bytes are the same
    own_clean : CleanAt setup a e.agent (e ∷ past) → CleanAt setup a e.agent past × (next ≡ v)
    own_clean clean =
        move.clean (clean_as setup a e.agent (e ∷ events_of e.agent past) _ (events_of device past) _ _ _ (own_events e.agent e past own) (other_events device e past other) (only_sent setup opening e.agent e past parts Channel.Rwd other) clean)

    -- each host that is clean after the event was clean
    clean_by : ((h : ℕ) → is_host setup h ≡ true → CleanAt setup a h (e ∷ past)) → (h : ℕ) → is_host setup h ≡ true → (b : Bool) → (e.agent == h) ≡ b → CleanAt setup a h past
    clean_by clean h its true is = subst (λ k. CleanAt setup a k past) (eqb-true e.agent h is) (own_clean (clean e.agent host)).0
    clean_by clean h its false is =
        clean_as setup a h (events_of h past) _ (events_of device past) _ _ _ (other_events h e past is) (other_events device e past other) (neither setup opening h e past parts Channel.Rwd other is) (clean h its)

    -- an event of a host keeps the value
    by_host : ValueKept setup opening a next (e ∷ past)
    by_host = record {
      hosts = λ h its. has_by h its (e.agent == h) refl;
      stored = λ clean.
          ap (memory opening a) (sym (other_events device e past other)) ∙ kept.stored (λ h its. clean_by clean h its (e.agent == h) refl) ∙ sym (own_clean (clean e.agent host)).1;
    }

  -- ---- any event

  -- by whether the agent is the device
  step_by : ((h : ℕ) → is_host setup h ≡ true → EarlyUnwritable setup a (events_of h past)) → (b : Bool) → (e.agent == device) ≡ b → (b || is_host setup e.agent) ≡ true → ValueKept setup opening a next (e ∷ past)
  step_by early true is agent = by_device is
  step_by early false is agent = by_host is agent (early e.agent agent)

  -- each event keeps the value
  pub value_next_kept : ((h : ℕ) → is_host setup h ≡ true → EarlyUnwritable setup a (events_of h past)) → ValueKept setup opening a next (e ∷ past)
  value_next_kept early = step_by early (e.agent == device) refl parts.profile.agent

module _ (setup : Configuration) (opening : List (Line × Bytes64)) (limits : IsWithinLimits setup) (a : ℕ) (owners : (t : List Event) → IsRun setup opening t → OwnersApart setup a t)
    (early : (t : List Event) → IsRun setup opening t → (h : ℕ) → is_host setup h ≡ true → EarlyUnwritable setup a (events_of h t)) where
  -- after every run a line's value is the flat memory's
  pub value_kept : (t : List Event) → IsRun setup opening t → ValueKept setup opening a (flat_line opening a (history t)) t
  value_kept [] run = record {
    hosts = λ h host. record { copied = λ is. absurd (false≢true is); flying = tt; waiting = tt; reads = λ x open_now. absurd (none-some x open_now) };
    stored = λ clean. refl;
  }
  value_kept (e ∷ past) run =
      let runs = and_parts (is_run setup opening past) (is_allowed setup opening past e) run in
      subst (λ v. ValueKept setup opening a v (e ∷ past)) (sym (flat_next opening a e.commit (history past)))
      (value_next_kept setup opening limits a (flat_line opening a (history past)) e past runs.0 (allowed_parts setup opening past e runs.1) (owners past runs.0) (value_kept past runs.0) (early past runs.0))
