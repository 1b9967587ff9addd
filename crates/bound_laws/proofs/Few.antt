-- There are few next steps: by the credits of the channels, and by the lines.
use Rattle.std.proofs.Common.{◌≡◌, ℕ, ◌+◌, ◌*◌, ◌≤◌, List, ◌++◌, length, refl, arith}
use Rattle.std.specs.Prelude.{filter, flat_map, is_some, option_map}
use Rattle.std.proofs.lemmas.List.FromFn.{length-range_with_len}
use Rattle.std.proofs.lemmas.List.{length-append}
use Rattle.cxl_message.specs.declared.channels.Channel.{Channel}
use Rattle.cxl_message.specs.declared.events.Act.{Act}
use Rattle.cxl_message.specs.declared.events.Cause.{Cause}
use Rattle.cxl_message.specs.declared.events.Event.{Event}
use Rattle.cxl_message.specs.declared.identifiers.Bytes64.{Bytes64}
use Rattle.cxl_message.specs.declared.identifiers.Line.{Line}
use Rattle.cxl_message.specs.declared.identifiers.Tag.{Tag}
use Rattle.cxl_message.specs.declared.messages.Message.{Message}
use Rattle.cxl_message.specs.declared.opcodes.Span.{Span}
use Rattle.cxl_message.specs.Codes.{span_len}
use Rattle.cxl_message.specs.Lists.{below}
use Rattle.cxl_message.specs.Setup.{Configuration, IsWithinLimits}
use Rattle.coherence_model.specs.Buffers.{buffered_requests, buffered_writes}
use Rattle.coherence_model.specs.DirectoryChanges.{directory}
use Rattle.coherence_model.specs.Flight.{in_flight, is_takeable}
use Rattle.coherence_model.specs.Next.{act_step, block_acts, channels, device_return_acts, device_return_channels, host_return_channels, line_acts, next_device_acts, next_host_acts, next_steps, next_takes, or_else, receiver, request_acts, snoop_acts, step_of, tag_or_zero, task_acts, task_lines, write_acts}
use Rattle.coherence_model.specs.Runs.{IsRun}
use Rattle.coherence_model.specs.Snoops.{Snoop, buffered_snoops, is_whole_block}
use Rattle.coherence_model.specs.Traces.{device, events_of}
use Rattle.coherence_model.proofs.OwnRuns.{events_of_run}
use Rattle.credit_laws.proofs.Laws.{buffered_and_owed_are_held, held_within_credits}
use Rattle.step_laws.proofs.Counts.{each_holds, each_weaker}
use Rattle.step_laws.proofs.HeldSnoops.{SnoopFits, held_snoops_fit}
use Rattle.bound_laws.specs.Laws.{NextStepsAreFew, most_next_steps}
use Rattle.bound_laws.proofs.Joined.{filter_short, joined_within, one_at_most, one_if_may, or_else_short}
use Rattle.bound_laws.proofs.Rooms.{in_flight_fits}

-- a cause has one step at most
one_step : (setup : Configuration) (opening : List (Line × Bytes64)) (t : List Event) (g : ℕ) (cause : Cause) → length (step_of setup opening t g cause) ≤ 1
one_step setup opening t g cause = one_at_most (option_map _ _)

-- numbers below so many are so many
count_below : (n m : ℕ) → n ≤ m → length (below n) ≤ m
count_below n m le = let long = length-range_with_len 0 n in omega (arith, long, le)

-- a span has four lines at most
four_lines : (span : Span) → span_len span ≤ 4
four_lines Span.One = omega arith
four_lines Span.Two = omega arith
four_lines Span.Four = omega arith

module _ (setup : Configuration) (opening : List (Line × Bytes64)) (limits : IsWithinLimits setup) (t : List Event) (run : IsRun setup opening t) where
  -- an act has one step at most
  one_act : (g : ℕ) (act : Act) → length (act_step setup opening t g act) ≤ 1
  one_act g act = one_step setup opening t g (Cause.Act act)

  -- a channel has at most 192 takes
  few_on_channel : (h : ℕ) (c : Channel) → length (next_takes setup opening t h c) ≤ 192
  few_on_channel h c =
      let waiting = in_flight h c t in
      let kept = filter (λ m. is_takeable m waiting) waiting in
      let fits = in_flight_fits setup opening t run h c in
      let most = limits.credits.1 in
      let short = filter_short (λ (m : Message). is_takeable m waiting) waiting in
      let all = joined_within (λ (m : Message). step_of setup opening t (receiver h c) (Cause.Take h m)) 1 192 kept (omega (arith, fits, most, short))
      (each_holds (λ (m : Message). length (step_of setup opening t (receiver h c) (Cause.Take h m)) ≤ 1) (λ m. one_step setup opening t (receiver h c) (Cause.Take h m)) kept) in
      omega (arith, all)

  -- a host has at most 1536 takes
  few_takes : (h : ℕ) → length (flat_map (next_takes setup opening t h) channels) ≤ 1536
  few_takes h =
      let all = joined_within (next_takes setup opening t h) 192 8 channels (omega arith) (each_holds (λ c. length (next_takes setup opening t h c) ≤ 192) (few_on_channel h) channels) in
      omega (arith, all)

  -- a snooped line has one act at most
  one_line_act : (h a : ℕ) → length (line_acts setup opening t h a) ≤ 1
  one_line_act h a =
      or_else_short 1 (act_step setup opening t h (Act.Conflict (record { 0 = a }))) _ (one_act h (Act.Conflict (record { 0 = a })))
      (or_else_short 1 (act_step setup opening t h (Act.WriteBack (record { 0 = a }))) _ (one_act h (Act.WriteBack (record { 0 = a }))) (one_act h (Act.Answer (record { 0 = a }))))

  -- what is one at most is four at most
  four_if_one : (n : ℕ) → n ≤ 1 → n ≤ 4
  four_if_one n le = omega (arith, le)

  -- a held snoop has four acts at most
  few_snoop_acts : (h : ℕ) (s : Snoop) → SnoopFits setup s → length (snoop_acts setup opening t h s) ≤ 4
  few_snoop_acts h s fits =
      let lines = four_lines s.span in
      let short = fits.short in
      or_else_short 4 (block_acts setup opening t h s) (flat_map (line_acts setup opening t h) s.unanswered)
      (four_if_one (length (block_acts setup opening t h s))
      (one_if_may (is_whole_block s.first s) (act_step setup opening t h (Act.AnswerBlock (record { 0 = s.first }))) (one_act h (Act.AnswerBlock (record { 0 = s.first })))))
      (joined_within (line_acts setup opening t h) 1 4 s.unanswered (omega (arith, lines, short)) (each_holds (λ a. length (line_acts setup opening t h a) ≤ 1) (one_line_act h) s.unanswered))

  -- a host holds at most 64 snoops
  few_snoops : (h : ℕ) → length (buffered_snoops (events_of h t)) ≤ 64
  few_snoops h =
      let held = held_within_credits setup opening t run h Channel.BiSnp refl in
      let parts = buffered_and_owed_are_held setup opening t run h Channel.BiSnp refl in
      let most = limits.credits.1 in
      omega arith

  -- a host has at most 259 acts
  few_host_acts : (h : ℕ) → length (next_host_acts setup opening t h) ≤ 259
  few_host_acts h =
      let mine = events_of h t in
      let answers = joined_within (snoop_acts setup opening t h) 4 64 (buffered_snoops mine) (few_snoops h)
      (each_weaker (SnoopFits setup) (λ s. length (snoop_acts setup opening t h s) ≤ 4) (few_snoop_acts h) (buffered_snoops mine) (held_snoops_fit setup opening h mine (events_of_run setup opening h t run))) in
      let returns = joined_within (λ (c : Channel). act_step setup opening t h (Act.HostReturn c)) 1 3 host_return_channels (omega arith)
      (each_holds (λ (c : Channel). length (act_step setup opening t h (Act.HostReturn c)) ≤ 1) (λ c. one_act h (Act.HostReturn c)) host_return_channels) in
      let both = length-append (flat_map (snoop_acts setup opening t h) (buffered_snoops mine)) (flat_map (λ (c : Channel). act_step setup opening t h (Act.HostReturn c)) host_return_channels) in
      omega (arith, answers, returns, both)

  -- the device holds at most 64 writes of a host, and as many requests
  few_writes : (h : ℕ) → length (buffered_writes h (events_of device t)) ≤ 64
  few_writes h =
      let held = held_within_credits setup opening t run h Channel.Rwd refl in
      let parts = buffered_and_owed_are_held setup opening t run h Channel.Rwd refl in
      let most = limits.credits.1 in
      omega arith

  few_requests : (h : ℕ) → length (buffered_requests h (events_of device t)) ≤ 64
  few_requests h =
      let held = held_within_credits setup opening t run h Channel.Req refl in
      let parts = buffered_and_owed_are_held setup opening t run h Channel.Req refl in
      let most = limits.credits.1 in
      omega arith

  -- so it has 64 acts for each
  few_write_acts : (h : ℕ) → length (flat_map (write_acts setup opening t h) (buffered_writes h (events_of device t))) ≤ 64
  few_write_acts h =
      joined_within (write_acts setup opening t h) 1 64 (buffered_writes h (events_of device t)) (few_writes h)
      (each_holds (λ m. length (write_acts setup opening t h m) ≤ 1) (λ m. one_act device (Act.Serve h (record { 0 = tag_or_zero m }))) (buffered_writes h (events_of device t)))

  one_request_act : (h : ℕ) (m : Message) → length (request_acts setup opening t h m) ≤ 1
  one_request_act h m =
      let tag : Tag = record { 0 = tag_or_zero m } in
      or_else_short 1 (act_step setup opening t device (Act.Clean h tag)) (or_else (act_step setup opening t device (Act.Start h tag)) (act_step setup opening t device (Act.Evict h tag))) (one_act device (Act.Clean h tag))
      (or_else_short 1 (act_step setup opening t device (Act.Start h tag)) (act_step setup opening t device (Act.Evict h tag)) (one_act device (Act.Start h tag)) (one_act device (Act.Evict h tag)))

  few_request_acts : (h : ℕ) → length (flat_map (request_acts setup opening t h) (buffered_requests h (events_of device t))) ≤ 64
  few_request_acts h =
      joined_within (request_acts setup opening t h) 1 64 (buffered_requests h (events_of device t)) (few_requests h)
      (each_holds (λ m. length (request_acts setup opening t h m) ≤ 1) (one_request_act h) (buffered_requests h (events_of device t)))

  -- a task has at most 17 acts
  few_task_acts : (a : ℕ) → length (task_acts setup opening t a) ≤ 17
  few_task_acts a =
      let most = limits.hosts.1 in
      let asks = joined_within (λ (h : ℕ). act_step setup opening t device (Act.Snoop h (record { 0 = a }))) 1 16 (below setup.hosts) (count_below setup.hosts 16 most)
      (each_holds (λ (h : ℕ). length (act_step setup opening t device (Act.Snoop h (record { 0 = a }))) ≤ 1) (λ h. one_act device (Act.Snoop h (record { 0 = a }))) (below setup.hosts)) in
      let ends = one_act device (Act.Finish (record { 0 = a })) in
      let both = length-append (flat_map (λ (h : ℕ). act_step setup opening t device (Act.Snoop h (record { 0 = a }))) (below setup.hosts)) (act_step setup opening t device (Act.Finish (record { 0 = a }))) in
      omega (arith, asks, ends, both)

  -- the device gives back at most three credits of a host next
  few_returns : (h : ℕ) → length (device_return_acts setup opening t h) ≤ 3
  few_returns h =
      joined_within (λ (c : Channel). act_step setup opening t device (Act.DeviceReturn h c)) 1 3 device_return_channels (omega arith)
      (each_holds (λ (c : Channel). length (act_step setup opening t device (Act.DeviceReturn h c)) ≤ 1) (λ c. one_act device (Act.DeviceReturn h c)) device_return_channels)

  -- for each of at most 16 hosts
  each_host : (f : ℕ → List Event) (k : ℕ) → ((h : ℕ) → length (f h) ≤ k) → length (flat_map f (below setup.hosts)) ≤ k * 16
  each_host f k few = joined_within f k 16 (below setup.hosts) (count_below setup.hosts 16 limits.hosts.1) (each_holds (λ h. length (f h) ≤ k) few (below setup.hosts))

  -- and of at most 65536 tasks
  each_task : length (flat_map (task_acts setup opening t) (task_lines setup (events_of device t))) ≤ 17 * 65536
  each_task =
      let kept = filter_short (λ (a : ℕ). is_some ((directory setup (events_of device t)).task a)) (below setup.lines) in
      let lines = count_below setup.lines 65536 limits.lines.1 in
      joined_within (task_acts setup opening t) 17 65536 (task_lines setup (events_of device t)) (omega (arith, kept, lines))
      (each_holds (λ a. length (task_acts setup opening t a) ≤ 17) few_task_acts (task_lines setup (events_of device t)))

  -- four lists joined are as long as the four together
  four_parts : (a b c d : List Event) → length (a ++ b ++ c ++ d) ≡ length a + length b + length c + length d
  four_parts a b c d =
      let x = length-append (a ++ b ++ c) d in
      let y = length-append (a ++ b) c in
      let z = length-append a b in
      omega (arith, x, y, z)

  three_parts : (a b c : List Event) → length (a ++ b ++ c) ≡ length a + length b + length c
  three_parts a b c =
      let x = length-append (a ++ b) c in
      let y = length-append a b in
      omega (arith, x, y)

  few_device_acts : length (next_device_acts setup opening t) ≤ 64 * 16 + 64 * 16 + 17 * 65536 + 3 * 16
  few_device_acts =
      let mine = events_of device t in
      let all = four_parts (flat_map (λ h. flat_map (write_acts setup opening t h) (buffered_writes h mine)) (below setup.hosts))
      (flat_map (λ h. flat_map (request_acts setup opening t h) (buffered_requests h mine)) (below setup.hosts))
      (flat_map (task_acts setup opening t) (task_lines setup mine)) (flat_map (device_return_acts setup opening t) (below setup.hosts)) in
      let writes = each_host (λ h. flat_map (write_acts setup opening t h) (buffered_writes h mine)) 64 few_write_acts in
      let requests = each_host (λ h. flat_map (request_acts setup opening t h) (buffered_requests h mine)) 64 few_request_acts in
      let tasks = each_task in
      let returns = each_host (device_return_acts setup opening t) 3 few_returns in
      sums _ _ _ _ _ all writes requests tasks returns
    where
      sums : (n a b c d : ℕ) → n ≡ a + b + c + d → a ≤ 64 * 16 → b ≤ 64 * 16 → c ≤ 17 * 65536 → d ≤ 3 * 16 → n ≤ 64 * 16 + 64 * 16 + 17 * 65536 + 3 * 16
      sums n a b c d all ha hb hc hd = omega (arith, all, ha, hb, hc, hd)

  pub few_steps : length (next_steps setup opening t) ≤ most_next_steps
  few_steps =
      let takes = each_host (λ h. flat_map (next_takes setup opening t h) channels) 1536 few_takes in
      let acts = each_host (next_host_acts setup opening t) 259 few_host_acts in
      let device_acts = few_device_acts in
      let all = three_parts (flat_map (λ h. flat_map (next_takes setup opening t h) channels) (below setup.hosts)) (flat_map (next_host_acts setup opening t) (below setup.hosts)) (next_device_acts setup opening t) in
      sums _ _ _ _ all takes acts device_acts
    where
      sums : (n a c d : ℕ) → n ≡ a + c + d → a ≤ 1536 * 16 → c ≤ 259 * 16 → d ≤ 64 * 16 + 64 * 16 + 17 * 65536 + 3 * 16 → n ≤ most_next_steps
      sums n a c d all ha hc hd = omega (arith, all, ha, hc, hd)

pub next_steps_are_few : NextStepsAreFew
next_steps_are_few setup opening limits t run = few_steps setup opening limits t run
