-- Where no step is next: nothing is in flight, nothing is owed, and no RwD message is buffered, so that the credits are back.
use Rattle.std.proofs.Common.{◌≡◌, ℕ, ◌+◌, ◌≤◌, ◌<◌, Bool, true, false, IsTrue, List, [], ◌∷◌, ◌++◌, Some, cond, filter, flat_map, length, refl, sym, ap, subst, arith}
use Rattle.std.specs.Prelude.{count_by, nat_le, ◌&&◌}
use Rattle.std.specs.List.{list_all}
use Rattle.std.proofs.lemmas.Bool.{and_from, and_parts, le-leb, lt-ltb}
use Rattle.std.proofs.lemmas.Option.{none-some, same_Some}
use Rattle.cxl_message.specs.declared.channels.Channel.{Channel}
use Rattle.cxl_message.specs.declared.events.Act.{Act}
use Rattle.cxl_message.specs.declared.events.Cause.{Cause}
use Rattle.cxl_message.specs.declared.events.Event.{Event}
use Rattle.cxl_message.specs.declared.identifiers.Bytes64.{Bytes64}
use Rattle.cxl_message.specs.declared.identifiers.Line.{Line}
use Rattle.cxl_message.specs.declared.messages.Message.{Message}
use Rattle.cxl_message.specs.declared.opcodes.NdrOp.{NdrOp}
use Rattle.cxl_message.specs.Channels.{credit_channel, has_credits}
use Rattle.cxl_message.specs.Lists.{below}
use Rattle.cxl_message.specs.Messages.{channel_of, message_eq}
use Rattle.cxl_message.specs.Setup.{Configuration, IsWithinLimits}
use Rattle.coherence_model.specs.Buffers.{buffered_requests, buffered_writes, device_owed, message_with}
use Rattle.coherence_model.specs.CreditFacts.{credits_in_flight}
use Rattle.coherence_model.specs.Credits.{credits_left, owed_count}
use Rattle.coherence_model.specs.DeviceActs.{device_returns, served_by}
use Rattle.coherence_model.specs.Emission.{one_send}
use Rattle.coherence_model.specs.Fitting.{is_host}
use Rattle.coherence_model.specs.Flight.{in_flight, is_takeable}
use Rattle.coherence_model.specs.HostActs.{host_returns}
use Rattle.coherence_model.specs.Next.{act_step, channels, device_return_acts, device_return_channels, host_return_channels, next_device_acts, next_host_acts, next_steps, next_takes, receiver, request_acts, sender, snoop_acts, step_of, task_acts, task_lines, write_acts}
use Rattle.coherence_model.specs.Runs.{IsRun}
use Rattle.coherence_model.specs.SnoopFacts.{snoops_are_placed}
use Rattle.coherence_model.specs.Snoops.{buffered_snoops, host_owed}
use Rattle.coherence_model.specs.Traces.{device, events_of}
use Rattle.coherence_model.specs.Words.{when}
use Rattle.coherence_model.proofs.OwnRuns.{events_of_run}
use Rattle.coherence_lemmas.proofs.DeviceActs.{v3_serve-inv}
use Rattle.coherence_lemmas.proofs.Options.{some_is}
use Rattle.credit_laws.specs.Laws.{buffered_count}
use Rattle.credit_laws.proofs.Laws.{buffered_and_owed_are_held, credits_of_channels_add_up}
use Rattle.entry_laws.specs.Laws.{may_do, named_tag}
use Rattle.entry_laws.proofs.Laws.{writes_go_on}
use Rattle.request_laws.proofs.OwnRuns.{host_is_no_device}
use Rattle.run_laws.proofs.InOrder.{oldest_may_be_taken}
use Rattle.step_laws.proofs.Counts.{Each}
use Rattle.progress_laws.proofs.HostTakes.{completions_taken, credits_down_taken, credits_up_taken, data_taken}
use Rattle.progress_laws.proofs.Nothing.{below_empty, channel_empty, device_act_not, each_empty, first_empty, host_act_not, last_empty, not_emitted, one_paid}
use Rattle.progress_laws.proofs.Takes.{requests_may_be_taken}
use Rattle.progress_laws.proofs.Writes.{writes_may_be_taken}
use Rattle.progress_laws.specs.Laws.{may_take}

-- what may be taken of one channel after a run
abbrev pub TakesOf : Configuration → List (Line × Bytes64) → List Event → Channel → Type 0
TakesOf setup opening t c = (h : ℕ) → IsTrue (is_host setup h) → (m : Message) → IsTrue (is_takeable m (in_flight h c t)) → IsTrue (may_take setup opening t h c m)

-- what is known of snoops after a run: where their lines are, and that their messages may be taken
pub record SnoopsKnown (setup : Configuration) (opening : List (Line × Bytes64)) (t : List Event) : Type 0 where
  pub placed : IsTrue (snoops_are_placed setup t)
  pub snoops : TakesOf setup opening t Channel.BiSnp
  pub answers : TakesOf setup opening t Channel.BiRsp

-- the first of a filtered list, where it passes
first_passes : (f : Message → List Event) (m : Message) (rest : List Message) (b : Bool) → b ≡ true → flat_map f (cond b (m ∷ rest) rest) ≡ [] → f m ≡ []
first_passes f m rest true is e = first_empty (f m) (flat_map f rest) e
first_passes f m rest false is e = cc

pub when_is : {A : Type 0} (b : Bool) (x : A) → b ≡ true → when b x ≡ Some x
when_is true x is = refl
when_is false x is = cc

zero_unless : (n : ℕ) → (1 ≤ n → ⊥) → n ≡ 0
zero_unless n h = grind (arith, h)

served_on_ndr : (m answer : Message) → served_by m ≡ Some answer → channel_of answer ≡ Channel.Ndr
served_on_ndr (Message.Req _ _ _ _ _) answer is = absurd (none-some answer is)
served_on_ndr (Message.MemWr meta snp tag line bytes) answer is = ap channel_of (sym (same_Some (Message.Ndr NdrOp.Cmp tag) answer is))
served_on_ndr (Message.BiConflict tag) answer is = ap channel_of (sym (same_Some (Message.Ndr NdrOp.ConflictAck tag) answer is))
served_on_ndr (Message.BiRsp _ _ _) answer is = absurd (none-some answer is)
served_on_ndr (Message.Ndr _ _) answer is = absurd (none-some answer is)
served_on_ndr (Message.MemData _ _) answer is = absurd (none-some answer is)
served_on_ndr (Message.BiSnp _ _ _ _) answer is = absurd (none-some answer is)
served_on_ndr (Message.Credit _) answer is = absurd (none-some answer is)

module _ (setup : Configuration) (opening : List (Line × Bytes64)) (limits : IsWithinLimits setup) (t : List Event) (run : IsRun setup opening t) (stuck : next_steps setup opening t ≡ []) (known : SnoopsKnown setup opening t) where
  abbrev dev : List Event
  dev = events_of device t

  some_credits : 1 ≤ setup.credits
  some_credits = let two = limits.credits.0 in omega arith

  -- ---- the parts of the next steps

  abbrev all_takes : List Event
  all_takes = flat_map (λ h. flat_map (next_takes setup opening t h) channels) (below setup.hosts)

  abbrev all_host_acts : List Event
  all_host_acts = flat_map (next_host_acts setup opening t) (below setup.hosts)

  agents_empty : all_takes ++ all_host_acts ≡ []
  agents_empty = first_empty (all_takes ++ all_host_acts) (next_device_acts setup opening t) stuck

  takes_empty : (h : ℕ) (c : Channel) → h < setup.hosts → next_takes setup opening t h c ≡ []
  takes_empty h c less =
      channel_empty (next_takes setup opening t h)
      (below_empty (λ g. flat_map (next_takes setup opening t g) channels) setup.hosts h (first_empty all_takes all_host_acts agents_empty) less) c

  pub host_empty : (h : ℕ) → h < setup.hosts → next_host_acts setup opening t h ≡ []
  host_empty h less =
      below_empty (next_host_acts setup opening t) setup.hosts h
      (last_empty all_takes all_host_acts agents_empty) less

  device_empty : next_device_acts setup opening t ≡ []
  device_empty = last_empty (all_takes ++ all_host_acts) (next_device_acts setup opening t) stuck

  abbrev all_writes : List Event
  all_writes = flat_map (λ h. flat_map (write_acts setup opening t h) (buffered_writes h dev)) (below setup.hosts)

  abbrev all_requests : List Event
  all_requests = flat_map (λ h. flat_map (request_acts setup opening t h) (buffered_requests h dev)) (below setup.hosts)

  abbrev all_tasks : List Event
  all_tasks = flat_map (task_acts setup opening t) (task_lines setup dev)

  abbrev all_returns : List Event
  all_returns = flat_map (device_return_acts setup opening t) (below setup.hosts)

  works_empty : (all_writes ++ all_requests) ++ all_tasks ≡ []
  works_empty = first_empty ((all_writes ++ all_requests) ++ all_tasks) all_returns device_empty

  buffers_empty : all_writes ++ all_requests ≡ []
  buffers_empty = first_empty (all_writes ++ all_requests) all_tasks works_empty

  pub writes_empty : (h : ℕ) → h < setup.hosts → flat_map (write_acts setup opening t h) (buffered_writes h dev) ≡ []
  writes_empty h less =
      below_empty (λ g. flat_map (write_acts setup opening t g) (buffered_writes g dev)) setup.hosts h (first_empty all_writes all_requests buffers_empty) less

  pub requests_empty : (h : ℕ) → h < setup.hosts → flat_map (request_acts setup opening t h) (buffered_requests h dev) ≡ []
  requests_empty h less =
      below_empty (λ g. flat_map (request_acts setup opening t g) (buffered_requests g dev)) setup.hosts h (last_empty all_writes all_requests buffers_empty) less

  pub tasks_empty : flat_map (task_acts setup opening t) (task_lines setup dev) ≡ []
  tasks_empty = last_empty (all_writes ++ all_requests) all_tasks works_empty

  returns_empty : (h : ℕ) → h < setup.hosts → device_return_acts setup opening t h ≡ []
  returns_empty h less = below_empty (device_return_acts setup opening t) setup.hosts h (last_empty ((all_writes ++ all_requests) ++ all_tasks) all_returns device_empty) less

  -- ---- nothing is in flight

  may : (c : Channel) → TakesOf setup opening t c
  may Channel.Req = λ h host. requests_may_be_taken setup opening limits t run h host
  may Channel.Rwd = λ h host. writes_may_be_taken setup opening limits t run h host
  may Channel.BiRsp = known.answers
  may Channel.Ndr = λ h host. completions_taken setup opening limits t run h host
  may Channel.Drs = λ h host. data_taken setup opening limits t run h host
  may Channel.BiSnp = known.snoops
  may Channel.CreditUp = λ h host. credits_up_taken setup opening limits t run h host
  may Channel.CreditDown = λ h host. credits_down_taken setup opening limits t run h host

  flight_by : (h : ℕ) (c : Channel) (ms : List Message) → in_flight h c t ≡ ms → h < setup.hosts → ms ≡ []
  flight_by h c [] is less = refl
  flight_by h c (m ∷ later) is less =
      let oldest = oldest_may_be_taken m later in
      let w = some_is _ (may c h (lt-ltb h setup.hosts less) m (subst (λ ms. is_takeable m ms ≡ true) (sym is) oldest)) in
      absurd (not_emitted setup opening t (receiver h c) (Cause.Take h m) w.x
      (first_passes (λ n. step_of setup opening t (receiver h c) (Cause.Take h n)) m (filter (λ n. is_takeable n (m ∷ later)) later) (is_takeable m (m ∷ later)) oldest
      (subst (λ ms. flat_map (λ n. step_of setup opening t (receiver h c) (Cause.Take h n)) (filter (λ n. is_takeable n ms) ms) ≡ []) is (takes_empty h c less))) w.found)

  pub no_flight : (h : ℕ) (c : Channel) → h < setup.hosts → in_flight h c t ≡ []
  no_flight h c less = flight_by h c (in_flight h c t) refl less

  -- ---- nothing is owed

  host_return : (h : ℕ) (c : Channel) → h < setup.hosts → host_returns c ≡ true → act_step setup opening t h (Act.HostReturn c) ≡ [] → host_owed h c (events_of h t) ≡ 0
  host_return h c less returns e =
      zero_unless (host_owed h c (events_of h t))
      (λ some. host_act_not setup opening t h (Act.HostReturn c) (one_send h (Message.Credit c)) (host_is_no_device setup limits h (lt-ltb h setup.hosts less)) e
      (when_is (host_returns c && nat_le 1 (host_owed h c (events_of h t))) _ (and_from _ _ returns (le-leb 1 (host_owed h c (events_of h t)) some)))
      (one_paid setup h (Message.Credit c) (events_of h t) (one_send h (Message.Credit c)) refl (λ credited. absurd (no_credits c credited))))
    where
      no_credits : (c : Channel) → has_credits (credit_channel c) ≡ true → ⊥
      no_credits Channel.Req e = cc
      no_credits Channel.Rwd e = cc
      no_credits Channel.BiRsp e = cc
      no_credits Channel.Ndr e = cc
      no_credits Channel.Drs e = cc
      no_credits Channel.BiSnp e = cc
      no_credits Channel.CreditUp e = cc
      no_credits Channel.CreditDown e = cc

  host_returned : (h : ℕ) → h < setup.hosts → Each (λ c. act_step setup opening t h (Act.HostReturn c) ≡ []) host_return_channels
  host_returned h less =
      each_empty (λ c. act_step setup opening t h (Act.HostReturn c)) host_return_channels
      (last_empty (flat_map (snoop_acts setup opening t h) (buffered_snoops (events_of h t))) (flat_map (λ c. act_step setup opening t h (Act.HostReturn c)) host_return_channels) (host_empty h less))

  device_return : (h : ℕ) (c : Channel) → device_returns c ≡ true → act_step setup opening t device (Act.DeviceReturn h c) ≡ [] → device_owed h c dev ≡ 0
  device_return h c returns e =
      zero_unless (device_owed h c dev)
      (λ some. device_act_not setup opening t (Act.DeviceReturn h c) (one_send h (Message.Credit c)) e
      (when_is (device_returns c && nat_le 1 (device_owed h c dev)) _ (and_from _ _ returns (le-leb 1 (device_owed h c dev) some)))
      (one_paid setup h (Message.Credit c) dev (one_send h (Message.Credit c)) refl (λ credited. absurd (no_credits c credited))))
    where
      no_credits : (c : Channel) → has_credits (credit_channel c) ≡ true → ⊥
      no_credits Channel.Req e = cc
      no_credits Channel.Rwd e = cc
      no_credits Channel.BiRsp e = cc
      no_credits Channel.Ndr e = cc
      no_credits Channel.Drs e = cc
      no_credits Channel.BiSnp e = cc
      no_credits Channel.CreditUp e = cc
      no_credits Channel.CreditDown e = cc

  device_returned : (h : ℕ) → h < setup.hosts → Each (λ c. act_step setup opening t device (Act.DeviceReturn h c) ≡ []) device_return_channels
  device_returned h less =
      each_empty (λ c. act_step setup opening t device (Act.DeviceReturn h c)) device_return_channels (returns_empty h less)

  -- ---- the credits are back

  left_is : (h : ℕ) (c : Channel) → h < setup.hosts → has_credits c ≡ true → owed_count h c (buffered_count h c (events_of (receiver h c) t)) (events_of (receiver h c) t) ≡ 0
      → credits_left setup h c (events_of (sender h c) t) + buffered_count h c (events_of (receiver h c) t) ≡ setup.credits
  left_is h c less credited owed =
      let sum = credits_of_channels_add_up setup opening t run h c credited in
      let held = buffered_and_owed_are_held setup opening t run h c credited in
      let none : length (in_flight h c t) ≡ 0 = ap length (no_flight h c less) in
      let back : credits_in_flight h c t ≡ 0 = ap (count_by (message_eq (Message.Credit c))) (no_flight h (credit_channel c) less) in
      omega arith

  pub ndr_left : (h : ℕ) → h < setup.hosts → credits_left setup h Channel.Ndr dev ≡ setup.credits
  ndr_left h less = let sum = left_is h Channel.Ndr less refl (host_return h Channel.Ndr less refl (host_returned h less).0) in omega arith

  pub drs_left : (h : ℕ) → h < setup.hosts → credits_left setup h Channel.Drs dev ≡ setup.credits
  drs_left h less = let sum = left_is h Channel.Drs less refl (host_return h Channel.Drs less refl (host_returned h less).1.0) in omega arith

  pub snoops_left : (h : ℕ) → h < setup.hosts → credits_left setup h Channel.BiSnp dev + length (buffered_snoops (events_of h t)) ≡ setup.credits
  snoops_left h less = left_is h Channel.BiSnp less refl (host_return h Channel.BiSnp less refl (host_returned h less).1.1.0)

  pub requests_left : (h : ℕ) → h < setup.hosts → credits_left setup h Channel.Req (events_of h t) + length (buffered_requests h dev) ≡ setup.credits
  requests_left h less = left_is h Channel.Req less refl (device_return h Channel.Req refl (device_returned h less).0)

  pub writes_left : (h : ℕ) → h < setup.hosts → credits_left setup h Channel.Rwd (events_of h t) + length (buffered_writes h dev) ≡ setup.credits
  writes_left h less = left_is h Channel.Rwd less refl (device_return h Channel.Rwd refl (device_returned h less).1.0)

  pub answers_left : (h : ℕ) → h < setup.hosts → credits_left setup h Channel.BiRsp (events_of h t) ≡ setup.credits
  answers_left h less = let sum = left_is h Channel.BiRsp less refl (device_return h Channel.BiRsp refl (device_returned h less).1.1.0) in omega arith

  -- ---- no RwD message is buffered

  writes_by : (h : ℕ) (ms : List Message) → buffered_writes h dev ≡ ms → h < setup.hosts → ms ≡ []
  writes_by h [] is less = refl
  writes_by h (m ∷ ms) is less =
      let all = subst (λ ns. list_all (λ n. may_do setup opening dev (Act.Serve h (named_tag n))) ns ≡ true) is (writes_go_on setup opening (events_of device t) (events_of_run setup opening device t run) h) in
      let w = some_is _ (and_parts (may_do setup opening dev (Act.Serve h (named_tag m))) _ all).0 in
      let inv = v3_serve-inv h (message_with (named_tag m).0 (buffered_writes h dev)) w.x w.found in
      let on = served_on_ndr inv.m inv.answer inv.answers in
      let left = ndr_left h less in
      let some = some_credits in
      absurd (device_act_not setup opening t (Act.Serve h (named_tag m)) w.x
      (first_empty (write_acts setup opening t h m) (flat_map (write_acts setup opening t h) ms) (subst (λ ns. flat_map (write_acts setup opening t h) ns ≡ []) is (writes_empty h less))) w.found
      (one_paid setup h inv.answer dev w.x inv.emits (λ credited. subst (λ c. 1 ≤ credits_left setup h c dev) (sym on) (omega arith))))

  pub no_writes : (h : ℕ) → h < setup.hosts → buffered_writes h dev ≡ []
  no_writes h less = writes_by h (buffered_writes h dev) refl less

  pub writes_full : (h : ℕ) → h < setup.hosts → credits_left setup h Channel.Rwd (events_of h t) ≡ setup.credits
  writes_full h less = let sum = writes_left h less in let none : length (buffered_writes h dev) ≡ 0 = ap length (no_writes h less) in omega arith
