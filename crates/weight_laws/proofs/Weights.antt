-- The weight after one more event of a run, by the parts of the host or of the device whose event it is.
use Rattle.std.proofs.Common.{◌≡◌, ℕ, ◌+◌, ◌-◌, ◌*◌, ◌≤◌, ◌<◌, Bool, true, false, List, ◌∷◌, Some, cond, length, sum_by, refl, sym, ◌∙◌, ap, subst, arith, inl, inr}
use Rattle.std.specs.Prelude.{if◌then◌else◌, is_some, nat_le, nat_lt, ◌==◌}
use Rattle.std.proofs.lemmas.Bool.{and_parts, eq-eqb, eqb-true, false≢true, le-leb, lt-ltb, ltb-true, ne_eqb, or_cases}
use Rattle.cxl_message.specs.declared.channels.Channel.{Channel}
use Rattle.cxl_message.specs.declared.events.Event.{Event}
use Rattle.cxl_message.specs.declared.identifiers.Bytes64.{Bytes64}
use Rattle.cxl_message.specs.declared.identifiers.Line.{Line}
use Rattle.cxl_message.specs.Events.{outs}
use Rattle.cxl_message.specs.Lists.{below}
use Rattle.cxl_message.specs.Setup.{Configuration, IsWithinLimits}
use Rattle.coherence_model.specs.Buffers.{buffered_requests, buffered_writes, device_owed, requests_after, writes_after}
use Rattle.coherence_model.specs.Credits.{held_count}
use Rattle.coherence_model.specs.DeviceRows.{device_emission}
use Rattle.coherence_model.specs.DirectoryChanges.{directory}
use Rattle.coherence_model.specs.Fitting.{cause_fits, is_device, is_host}
use Rattle.coherence_model.specs.HostRows.{host_emission}
use Rattle.coherence_model.specs.Rows.{row_emission}
use Rattle.coherence_model.specs.Runs.{IsRun, is_allowed, is_run}
use Rattle.coherence_model.specs.SentSnoops.{sent_snoop_at}
use Rattle.coherence_model.specs.Traces.{device, events_of}
use Rattle.coherence_model.specs.Weight.{buffers_weight, device_weight, host_weight, is_operation, weight, weight_is_bounded}
use Rattle.coherence_lemmas.proofs.Allowed.{AllowedParts, allowed_parts}
use Rattle.coherence_lemmas.proofs.Rows.{device_row, host_row}
use Rattle.credit_laws.proofs.Laws.{buffered_and_owed_are_held}
use Rattle.request_laws.proofs.AllPlaces.{other_events, own_events}
use Rattle.request_laws.proofs.OwnRuns.{host_is_no_device}
use Rattle.weight_laws.proofs.Answered.{are_unlisted}
use Rattle.weight_laws.proofs.BufferWeights.{HostPart, requests_weight, requests_weight_after}
use Rattle.weight_laws.proofs.DeviceWeights.{DeviceWeighs, device_row_weighs}
use Rattle.weight_laws.proofs.FlightWeights.{flight_changes, sent_weight, took}
use Rattle.weight_laws.proofs.Held.{IsDeviceSound, IsHostSound, device_held, device_held_changes, device_is_sound, device_returns_now, device_takes_now, host_held, host_held_changes, host_is_sound}
use Rattle.weight_laws.proofs.HostWeights.{host_row_weighs, host_weight_is, lowers, raises}
use Rattle.weight_laws.proofs.Listings.{device_known}
use Rattle.weight_laws.proofs.StageWeights.{lines_weight}
use Rattle.weight_laws.proofs.Sums.{below_le, below_one}
use Rattle.weight_laws.proofs.TaskListings.{tasks_weight}
use Rattle.weight_laws.specs.Laws.{WeightsAreBounded}

-- the buffers of a host: two for each message that the device holds, four for each RwD message, and the Req messages less two each
buffers_are :
    (setup : Configuration) (opening : List (Line × Bytes64)) (h : ℕ) (t : List Event) → IsRun setup opening t
    → buffers_weight setup (events_of device t) h + 2 * length (buffered_requests h (events_of device t))
    ≡ 2 * device_held h (events_of device t) + 4 * length (buffered_writes h (events_of device t)) + requests_weight setup h (events_of device t)
buffers_are setup opening h t run =
    let mine : List Event = events_of device t in
    let req : length (buffered_requests h mine) + device_owed h Channel.Req mine ≡ held_count h Channel.Req mine = buffered_and_owed_are_held setup opening t run h Channel.Req refl in
    let rwd : length (buffered_writes h mine) + device_owed h Channel.Rwd mine ≡ held_count h Channel.Rwd mine = buffered_and_owed_are_held setup opening t run h Channel.Rwd refl in
    let rsp : 0 + device_owed h Channel.BiRsp mine ≡ held_count h Channel.BiRsp mine = buffered_and_owed_are_held setup opening t run h Channel.BiRsp refl in
    sums (device_owed h Channel.Req mine) (device_owed h Channel.Rwd mine) (device_owed h Channel.BiRsp mine) (length (buffered_requests h mine)) (length (buffered_writes h mine)) _ _ _ (requests_weight setup h mine) req rwd rsp
  where
    sums : (a b c n m x y z r : ℕ) → n + a ≡ x → m + b ≡ y → 0 + c ≡ z → 2 * (0 + a + b + c) + 6 * m + r + 2 * n ≡ 2 * (x + y + z) + 4 * m + r
    sums a b c n m x y z r ex ey ez = omega arith

module _ (setup : Configuration) (opening : List (Line × Bytes64)) (limits : IsWithinLimits setup) (e : Event) (past : List Event) (whole : IsRun setup opening (e ∷ past)) (run : IsRun setup opening past) (parts : AllowedParts setup opening past e) where
  some_hosts : 1 ≤ setup.hosts
  some_hosts = limits.hosts.0

  -- ---- an event of a host

  module _ (h : ℕ) (is : (e.agent == h) ≡ true) (less : h < setup.hosts) where
    abbrev mine : List Event
    mine = events_of h past

    no_device : is_device h ≡ false
    no_device = host_is_no_device setup limits h (lt-ltb h setup.hosts less)

    row : host_emission setup h e.cause mine ≡ Some parts.row.w
    row = sym (host_row setup opening h e.cause mine no_device) ∙ subst (λ g. row_emission setup opening g e.cause (events_of g past) ≡ Some parts.row.w) (eqb-true e.agent h is) parts.row.row

    own_change : host_weight setup h (events_of h (e ∷ past)) + (sent_weight setup.hosts (outs e.sends) + lowers e.cause) ≤ host_weight setup h mine + (took setup.hosts e.cause + raises setup.hosts e.cause)
    own_change =
        let before = host_weight_is setup opening h past run in
        let now = host_weight_is setup opening h (e ∷ past) whole in
        let own = own_events h e past is in
        let after : host_weight setup h (events_of h (e ∷ past)) ≡ 2 * host_held h (e ∷ mine) + lines_weight setup (e ∷ mine) = now ∙ ap (λ xs. 2 * host_held h xs + lines_weight setup xs) (sym own) in
        let held = host_held_changes h e mine (host_is_sound setup opening h past run) (subst (IsHostSound h) (sym own) (host_is_sound setup opening h (e ∷ past) whole)) in
        let weighs = host_row_weighs setup some_hosts h e.cause mine parts.row.w e.sends row parts.row.sends in
        sums _ _ (host_held h mine) (host_held h (e ∷ mine)) (lines_weight setup mine) (lines_weight setup (e ∷ mine)) _ _ _ _ _ _ before after held weighs
      where
        sums : (hw hw' hh hh' l l' ret tak s d k u : ℕ) → hw ≡ 2 * hh + l → hw' ≡ 2 * hh' + l' → hh' + ret ≡ hh + tak → l' + 2 * tak + s + d ≤ l + 2 * ret + k + u → hw' + (s + d) ≤ hw + (k + u)
        sums hw hw' hh hh' l l' ret tak s d k u before after held weighs = omega arith

    -- all hosts
    hosts_change : sum_by (λ g. host_weight setup g (events_of g (e ∷ past))) (below setup.hosts) + (sent_weight setup.hosts (outs e.sends) + lowers e.cause)
        ≤ sum_by (λ g. host_weight setup g (events_of g past)) (below setup.hosts) + (took setup.hosts e.cause + raises setup.hosts e.cause)
    hosts_change =
        below_one (λ g. host_weight setup g (events_of g (e ∷ past))) (λ g. host_weight setup g (events_of g past)) setup.hosts h (sent_weight setup.hosts (outs e.sends) + lowers e.cause) (took setup.hosts e.cause + raises setup.hosts e.cause) less
        (λ g there other. no_more (ap (host_weight setup g) (sym (other_events g e past (ne_eqb e.agent g (λ same. other (sym same ∙ eqb-true e.agent h is))))))) own_change
      where
        no_more : {x y : ℕ} → x ≡ y → x ≤ y
        no_more {x} {y} same = subst (λ z. x ≤ z) same (omega arith)

    -- the whole weight
    host_event : weight setup (e ∷ past) + lowers e.cause ≤ weight setup past + raises setup.hosts e.cause
    host_event =
        let flight = flight_changes setup opening e past parts in
        let hosts = hosts_change in
        let same : device_weight setup (events_of device (e ∷ past)) ≡ device_weight setup (events_of device past) = ap (device_weight setup) (sym (other_events device e past (ap (λ g. g == device) (eqb-true e.agent h is) ∙ no_device))) in
        sums _ _ _ _ _ _ (took setup.hosts e.cause) (sent_weight setup.hosts (outs e.sends)) _ _ flight hosts same
      where
        sums : (f f' w w' x x' k s d u : ℕ) → f' + k ≡ f + s → w' + (s + d) ≤ w + (k + u) → x' ≡ x → f' + w' + x' + d ≤ f + w + x + u
        sums f f' w w' x x' k s d u a b c = omega arith

  -- ---- an event of the device

  module _ (is : (e.agent == device) ≡ true) where
    abbrev dev : List Event
    dev = events_of device past

    bare : device_emission setup opening e.cause dev ≡ Some parts.row.w
    bare = sym (device_row setup opening device e.cause dev refl) ∙ subst (λ g. row_emission setup opening g e.cause (events_of g past) ≡ Some parts.row.w) (eqb-true e.agent device is) parts.row.row

    weighs : DeviceWeighs setup e.cause e.sends dev
    weighs =
        device_row_weighs setup opening some_hosts dev (device_known setup opening limits past run) (are_unlisted setup opening (device_known setup opening limits) past run) e.cause e.sends parts.row.w
        (subst (λ g. cause_fits setup g e.cause ≡ true) (eqb-true e.agent device is) parts.profile.cause) bare parts.row.sends

    -- the buffers of one host
    buffers_change : (g x y : ℕ) → HostPart setup g e.cause e.sends dev x y → buffers_weight setup (e ∷ dev) g + x ≤ buffers_weight setup dev g + y
    buffers_change g x y part =
        let own = own_events device e past is in
        let before = buffers_are setup opening g past run in
        let after = subst (λ xs. buffers_weight setup xs g + 2 * length (buffered_requests g xs) ≡ 2 * device_held g xs + 4 * length (buffered_writes g xs) + requests_weight setup g xs) (sym own) (buffers_are setup opening g (e ∷ past) whole) in
        let held = device_held_changes g e dev (device_is_sound setup opening g past run) (subst (IsDeviceSound g) (sym own) (device_is_sound setup opening g (e ∷ past) whole)) in
        sums (buffers_weight setup dev g) (buffers_weight setup (e ∷ dev) g) (length (buffered_requests g dev)) (length (requests_after g e.cause (buffered_requests g dev))) (device_held g dev) (device_held g (e ∷ dev))
        (length (buffered_writes g dev)) (length (writes_after g e.cause (buffered_writes g dev))) (requests_weight setup g dev) (requests_weight_after setup g e.cause dev) (device_returns_now g e.sends) (device_takes_now g e.cause) x y before after held part
      where
        sums : (b b' n n' h h' m m' r r' ret tak x y : ℕ) → b + 2 * n ≡ 2 * h + 4 * m + r → b' + 2 * n' ≡ 2 * h' + 4 * m' + r' → h' + ret ≡ h + tak → 4 * m' + r' + 2 * n + 2 * tak + x ≤ 4 * m + r + 2 * n' + 2 * ret + y → b' + x ≤ b + y
        sums b b' n n' h h' m m' r r' ret tak x y before after held part = omega arith

    device_change : device_weight setup (e ∷ dev) + sent_weight setup.hosts (outs e.sends) + 1 ≤ device_weight setup dev + took setup.hosts e.cause
    device_change =
        let all = below_one (buffers_weight setup (e ∷ dev)) (buffers_weight setup dev) setup.hosts weighs.k weighs.x weighs.y weighs.here
        (λ g there other. let one = buffers_change g 0 0 (weighs.others g other) in omega arith) (buffers_change weighs.k weighs.x weighs.y weighs.own) in
        let tasks = weighs.tasks in
        let total = weighs.total in
        sums (sum_by (buffers_weight setup dev) (below setup.hosts)) (sum_by (buffers_weight setup (e ∷ dev)) (below setup.hosts)) (tasks_weight setup (directory setup dev) (λ g a. is_some (sent_snoop_at g a dev)))
        (tasks_weight setup (directory setup (e ∷ dev)) (λ g a. is_some (sent_snoop_at g a (e ∷ dev)))) weighs.x weighs.y weighs.z weighs.v (sent_weight setup.hosts (outs e.sends)) (took setup.hosts e.cause) all tasks total
      where
        sums : (b b' t t' x y z v s k : ℕ) → b' + x ≤ b + y → t' + z ≤ t + v → y + v + s + 1 ≤ k + x + z → b' + t' + s + 1 ≤ b + t + k
        sums b b' t t' x y z v s k one two three = omega arith

    device_event : weight setup (e ∷ past) + 1 ≤ weight setup past
    device_event =
        let flight = flight_changes setup opening e past parts in
        let hosts = below_le (λ g. host_weight setup g (events_of g (e ∷ past))) (λ g. host_weight setup g (events_of g past)) setup.hosts
        (λ g there. no_more (ap (host_weight setup g) (sym (other_events g e past (other_host g there))))) in
        let own : device_weight setup (events_of device (e ∷ past)) ≡ device_weight setup (e ∷ dev) = ap (device_weight setup) (sym (own_events device e past is)) in
        let change = device_change in
        sums _ _ _ _ _ _ _ (took setup.hosts e.cause) (sent_weight setup.hosts (outs e.sends)) flight hosts own change
      where
        no_more : {x y : ℕ} → x ≡ y → x ≤ y
        no_more {x} {y} same = subst (λ z. x ≤ z) same (omega arith)

        other_host : (g : ℕ) → g < setup.hosts → (e.agent == g) ≡ false
        other_host g there = ne_eqb e.agent g (λ same. false≢true (sym (host_is_no_device setup limits g (lt-ltb g setup.hosts there)) ∙ eq-eqb g device (sym same ∙ eqb-true e.agent device is)))

        sums : (f f' w w' x x' x'' k s : ℕ) → f' + k ≡ f + s → w' ≤ w → x'' ≡ x' → x' + s + 1 ≤ x + k → f' + w' + x'' + 1 ≤ f + w + x
        sums f f' w w' x x' x'' k s a b c d = omega arith

  bounded_by : (operation : Bool) → is_operation e.cause ≡ operation → weight setup (e ∷ past) + cond operation 0 1 ≤ weight setup past + cond operation (108 * setup.hosts - 4) 0
      → (if operation then nat_le (weight setup (e ∷ past)) (weight setup past + (108 * setup.hosts - 4)) else nat_lt (weight setup (e ∷ past)) (weight setup past)) ≡ true
  bounded_by true same h = le-leb (weight setup (e ∷ past)) (weight setup past + (108 * setup.hosts - 4)) (omega arith)
  bounded_by false same h = lt-ltb (weight setup (e ∷ past)) (weight setup past) (omega arith)

  -- an operation isn't the device's
  device_lowers : (e.agent == device) ≡ true → weight setup (e ∷ past) + lowers e.cause ≤ weight setup past + raises setup.hosts e.cause
  device_lowers is = let less = device_event is in by_operation (is_operation e.cause) less
    where
      by_operation : (b : Bool) → weight setup (e ∷ past) + 1 ≤ weight setup past → weight setup (e ∷ past) + cond b 0 1 ≤ weight setup past + cond b (108 * setup.hosts - 4) 0
      by_operation true h = omega arith
      by_operation false h = omega arith

  pub event_weighs : weight_is_bounded setup past e ≡ true
  event_weighs =
      bounded_by (is_operation e.cause) refl
      (elim (or_cases (is_device e.agent) (is_host setup e.agent) parts.profile.agent) [
        | inl own ↦ device_lowers own
        | inr host ↦ host_event e.agent (eq-eqb e.agent e.agent refl) (ltb-true e.agent setup.hosts host)
      ])

pub weights_are_bounded : WeightsAreBounded
weights_are_bounded setup opening limits past e whole =
    let runs = and_parts (is_run setup opening past) (is_allowed setup opening past e) whole in
    event_weighs setup opening limits e past whole runs.0 (allowed_parts setup opening past e runs.1)
