-- Where no step is next, no task stands and no Req message is buffered.
use Rattle.std.proofs.Common.{◌≡◌, ℕ, zero, suc, ◌+◌, ◌≤◌, ◌<◌, Bool, true, false, List, [], ◌∷◌, Option, Some, None, cond, filter, find, flat_map, length, refl, sym, ◌∙◌, ap, subst, arith, ◌⊎◌, inl, inr}
use Rattle.std.specs.Prelude.{count_by, is_some, nat_le, not, ◌&&◌, ◌==◌, ◌||◌}
use Rattle.std.specs.List.{list_all, list_any, range_with_len}
use Rattle.std.specs.Option.{option_map_or, option_or}
use Rattle.std.proofs.lemmas.Bool.{and_parts, eq-eqb, eqb-true, false≢true, false_from_ne_true, le-leb, ltb-true, not_from_false, or_cases, or_left}
use Rattle.cxl_message.specs.declared.channels.Channel.{Channel}
use Rattle.cxl_message.specs.declared.events.Act.{Act}
use Rattle.cxl_message.specs.declared.events.Event.{Event}
use Rattle.cxl_message.specs.declared.events.Out.{Out}
use Rattle.cxl_message.specs.declared.identifiers.Bytes64.{Bytes64}
use Rattle.cxl_message.specs.declared.identifiers.Line.{Line}
use Rattle.cxl_message.specs.declared.messages.Message.{Message}
use Rattle.cxl_message.specs.declared.opcodes.NdrOp.{NdrOp}
use Rattle.cxl_message.specs.Codes.{channel_eq}
use Rattle.cxl_message.specs.Lists.{below, is_in}
use Rattle.cxl_message.specs.Setup.{Configuration, IsWithinLimits}
use Rattle.cxl_message.specs.Spans.{covers}
use Rattle.coherence_model.specs.Buffers.{buffered_requests}
use Rattle.coherence_model.specs.Credits.{channel_short_of, credits_left, credits_needed, lacking_channel}
use Rattle.coherence_model.specs.DeviceActs.{buffered_request, finish_emission, grant_with_data, snoop_message}
use Rattle.coherence_model.specs.Directory.{is_busy}
use Rattle.coherence_model.specs.DirectoryChanges.{directory}
use Rattle.coherence_model.specs.Emission.{Emission}
use Rattle.coherence_model.specs.Flight.{in_flight}
use Rattle.coherence_model.specs.Next.{act_step, next_steps, or_else, request_acts, task_acts}
use Rattle.coherence_model.specs.Runs.{IsRun}
use Rattle.coherence_model.specs.SentSnoops.{SentSnoop, is_asked, sent_snoop_at, unanswered_lines}
use Rattle.coherence_model.specs.SnoopFacts.{answers_have_snoops, answers_line, snoop_has_task, snoop_is_placed, snoop_place_count, snoops_line, unanswered_count}
use Rattle.coherence_model.specs.Snoops.{Snoop, buffered_snoops, is_snooped}
use Rattle.coherence_model.specs.Tasks.{Purpose, Task, task_covers}
use Rattle.coherence_model.specs.Traces.{device, events_of}
use Rattle.coherence_model.specs.Words.{one_if}
use Rattle.coherence_model.proofs.OwnRuns.{events_of_run}
use Rattle.coherence_lemmas.proofs.DeviceActs.{v4_clean-inv, v5_start-inv, v6_evict-inv, v7_snoop-inv, v8_finish-inv}
use Rattle.coherence_lemmas.proofs.Options.{some_is}
use Rattle.entry_laws.specs.Laws.{may_do, named_tag, request_may_go_on}
use Rattle.entry_laws.proofs.Blocks.{all_below, any_at, any_below, below_all, covers_parts, some_lines}
use Rattle.entry_laws.proofs.Laws.{busy_lines_are_covered, snoops_have_tasks, some_request_goes_on, tasks_are_named, tasks_are_placed, tasks_go_on}
use Rattle.request_laws.proofs.Counts.{any_counts}
use Rattle.step_laws.proofs.Counts.{Each}
use Rattle.progress_laws.proofs.Nothing.{below_empty, device_act_not, each_empty, else_empty, first_empty, last_empty, one_paid, reaches}
use Rattle.progress_laws.proofs.SomeLeft.{HasLine, held_have_lines, sent_have_lines}
use Rattle.progress_laws.proofs.Stuck.{SnoopsKnown, drs_left, ndr_left, no_flight, requests_empty, snoops_left, tasks_empty}
use Rattle.progress_laws.proofs.StuckSnoops.{unsnooped}

-- ---- lists

here_or_later : (a x : ℕ) → a ≤ x → (a ≡ x) ⊎ (a + 1 ≤ x)
here_or_later a x h = grind arith

kept_first : {Y : Type 0} (f : ℕ → List Y) (a : ℕ) (rest : List ℕ) (b : Bool) → b ≡ true → flat_map f (cond b (a ∷ rest) rest) ≡ [] → f a ≡ []
kept_first f a rest true is e = first_empty (f a) (flat_map f rest) e
kept_first f a rest false is e = cc

kept_rest : {Y : Type 0} (f : ℕ → List Y) (a : ℕ) (rest : List ℕ) (b : Bool) → flat_map f (cond b (a ∷ rest) rest) ≡ [] → flat_map f rest ≡ []
kept_rest f a rest true e = last_empty (f a) (flat_map f rest) e
kept_rest f a rest false e = e

filter_empty : {Y : Type 0} (f : ℕ → List Y) (p : ℕ → Bool) (a n x : ℕ) → flat_map f (filter p (range_with_len a n)) ≡ [] → a ≤ x → x < a + n → p x ≡ true → f x ≡ []
filter_empty f p a zero x e least most passes = absurd (omega arith)
filter_empty f p a (suc n) x e least most passes =
    elim (here_or_later a x least) [
      | inl same ↦ subst (λ y. f y ≡ []) same (kept_first f a (filter p (range_with_len (a + 1) n)) (p a) (ap p same ∙ passes) e)
      | inr later ↦ filter_empty f p (a + 1) n x (kept_rest f a (filter p (range_with_len (a + 1) n)) (p a) e) later (omega arith) passes
    ]

-- some element passes a test that none of the list can pass
none_passes_by : {X : Type 0} (p : X → Bool) (x : X) (xs : List X) → (p x ≡ true → ⊥) → (list_any p xs ≡ true → ⊥) → (p x || list_any p xs) ≡ true → ⊥
none_passes_by p x xs first later some = elim (or_cases (p x) (list_any p xs) some) [ inl e ↦ first e | inr e ↦ later e ]

none_passes : {X : Type 0} (p : X → Bool) (P : X → Type 0) (xs : List X) → Each P xs → ((x : X) → P x → p x ≡ true → ⊥) → list_any p xs ≡ true → ⊥
none_passes p P [] each never some = false≢true some
none_passes p P (x ∷ xs) each never some = none_passes_by p x xs (never x each.0) (none_passes p P xs each.1 never) some

pub none_below : (p : ℕ → Bool) (n : ℕ) → ((x : ℕ) → x < n → p x ≡ false) → list_any p (below n) ≡ false
none_below p n none = false_from_ne_true (list_any p (below n)) (λ some. let found = any_below p n some in false≢true (sym (none found.0 found.1) ∙ found.2))

pub at_most_two : (b : Bool) → cond b 2 1 ≤ 2
at_most_two true = omega arith
at_most_two false = omega arith

-- the credits reach for what ends a task
pub two_paid : (setup : Configuration) (o p : Out) (mine : List Event) → channel_short_of setup (credits_needed o p) o mine ≡ None → channel_short_of setup 1 p mine ≡ None
    → option_or (channel_short_of setup (credits_needed o p) o mine) (channel_short_of setup 1 p mine) ≡ None
two_paid setup o p mine e f = ap (λ x. option_or x (channel_short_of setup 1 p mine)) e ∙ f

grant_paid : (setup : Configuration) (c : NdrOp) (h tag : ℕ) (bytes : Bytes64) (mine : List Event) → 2 ≤ credits_left setup h Channel.Ndr mine → 2 ≤ credits_left setup h Channel.Drs mine
    → lacking_channel setup (grant_with_data c h tag bytes).sends mine ≡ None
grant_paid setup c h tag bytes mine ndr drs =
    let first : Out = record { host = h; message = Message.Ndr c (record { 0 = tag }) } in
    let second : Out = record { host = h; message = Message.MemData (record { 0 = tag }) bytes } in
    let few = at_most_two ((h == h) && channel_eq Channel.Ndr Channel.Drs) in
    two_paid setup first second mine (reaches setup (credits_needed first second) h first.message mine (λ credited. omega arith)) (reaches setup 1 h second.message mine (λ credited. omega arith))

finish_paid : (setup : Configuration) (purpose : Purpose) (c : NdrOp) (h tag : ℕ) (bytes : Bytes64) (mine : List Event) → 2 ≤ credits_left setup h Channel.Ndr mine → 2 ≤ credits_left setup h Channel.Drs mine
    → lacking_channel setup (finish_emission purpose c h tag bytes).sends mine ≡ None
finish_paid setup Purpose.SharedRead c h tag bytes mine ndr drs = grant_paid setup c h tag bytes mine ndr drs
finish_paid setup Purpose.OwningRead c h tag bytes mine ndr drs = grant_paid setup NdrOp.CmpE h tag bytes mine ndr drs
finish_paid setup Purpose.Invalidation c h tag bytes mine ndr drs = reaches setup 1 h (Message.Ndr NdrOp.CmpE (record { 0 = tag })) mine (λ credited. omega arith)
finish_paid setup Purpose.Eviction c h tag bytes mine ndr drs = refl

module _ (setup : Configuration) (opening : List (Line × Bytes64)) (limits : IsWithinLimits setup) (t : List Event) (run : IsRun setup opening t) (stuck : next_steps setup opening t ≡ []) (known : SnoopsKnown setup opening t) where
  abbrev dev : List Event
  dev = events_of device t

  -- ---- no snoop is held

  held_by : (h : ℕ) → h < setup.hosts → (ss : List Snoop) → buffered_snoops (events_of h t) ≡ ss → Each HasLine ss → ss ≡ []
  held_by h less [] is each = refl
  held_by h less (s ∷ ss) is each = absurd (by_lines s.unanswered refl each.0)
    where
      by_lines : (zs : List ℕ) → s.unanswered ≡ zs → 1 ≤ length zs → ⊥
      by_lines [] lines some = omega arith
      by_lines (b ∷ bs) lines some =
          let here = ap (is_in b) lines ∙ or_left (b == b) (is_in b bs) (eq-eqb b b refl) in
          false≢true (sym (unsnooped setup opening limits t run stuck known h less b) ∙ ap (λ rs. is_some (find (λ (r : Snoop). is_in b r.unanswered) rs)) is ∙ ap (λ x. is_some (cond x (Some s) (find (λ (r : Snoop). is_in b r.unanswered) ss))) here)

  pub none_held : (h : ℕ) → h < setup.hosts → buffered_snoops (events_of h t) ≡ []
  none_held h less = held_by h less (buffered_snoops (events_of h t)) refl (held_have_lines (events_of h t))

  some_credits : 2 ≤ setup.credits
  some_credits = limits.credits.0

  -- ---- no host is Asked

  nowhere : (h : ℕ) → h < setup.hosts → (b : ℕ) → snoop_place_count h b t ≡ 0
  nowhere h less b =
      let snoops : count_by (snoops_line b) (in_flight h Channel.BiSnp t) ≡ 0 = ap (count_by (snoops_line b)) (no_flight setup opening limits t run stuck known h Channel.BiSnp less) in
      let answers : count_by (answers_line h b dev) (in_flight h Channel.BiRsp t) ≡ 0 = ap (count_by (answers_line h b dev)) (no_flight setup opening limits t run stuck known h Channel.BiRsp less) in
      let held : one_if (is_snooped b (events_of h t)) ≡ 0 = ap one_if (unsnooped setup opening limits t run stuck known h less b) in
      omega arith

  none_unanswered : (h : ℕ) → h < setup.hosts → (b : ℕ) → b < setup.lines → unanswered_count setup h b dev ≡ 0
  none_unanswered h less b line =
      let all = all_below (λ g. list_all (λ a. snoop_is_placed setup t g a && snoop_has_task setup t g a) (below setup.lines) && answers_have_snoops t g) setup.hosts known.placed h less in
      let one = all_below (λ a. snoop_is_placed setup t h a && snoop_has_task setup t h a) setup.lines (and_parts _ _ all).0 b line in
      eqb-true (unanswered_count setup h b dev) (snoop_place_count h b t) (and_parts _ _ (and_parts _ _ one).0).0 ∙ nowhere h less b

  asked_by : (h a : ℕ) → h < setup.hosts → (q : SentSnoop) → sent_snoop_at h a dev ≡ Some q → (zs : List ℕ) → q.unanswered ≡ zs → 1 ≤ length zs → ⊥
  asked_by h a less q is [] lines some = omega arith
  asked_by h a less q is (b ∷ bs) lines some =
      let of = snoops_have_tasks setup opening (events_of device t) (events_of_run setup opening device t run) h a q is in
      let placed = (tasks_are_placed setup opening (events_of device t) (events_of_run setup opening device t run) a of.task of.stands).1 in
      let covered = covers_parts a of.task.span b (and_parts _ _ (subst (λ zs. list_all (covers a of.task.span) zs ≡ true) lines of.lines)).0 in
      let long = some_lines of.task.span in
      let none = none_unanswered h less b (omega arith) in
      let here : is_in b (unanswered_lines h a dev) ≡ true = ap (λ x. is_in b (option_map_or (λ (r : SentSnoop). r.unanswered) x [])) is ∙ ap (is_in b) lines ∙ or_left (b == b) (is_in b bs) (eq-eqb b b refl) in
      let more = any_counts (λ first. is_in b (unanswered_lines h first dev)) (below setup.lines) (any_at (λ first. is_in b (unanswered_lines h first dev)) setup.lines a (omega arith) here) in
      omega arith

  asked_if : (h a : ℕ) → h < setup.hosts → (found : Option SentSnoop) → sent_snoop_at h a dev ≡ found → is_some found ≡ false
  asked_if h a less None is = refl
  asked_if h a less (Some q) is = absurd (asked_by h a less q is q.unanswered refl (sent_have_lines h a dev q is))

  pub not_asked : (h a : ℕ) → h < setup.hosts → is_asked h a dev ≡ false
  not_asked h a less = asked_if h a less (sent_snoop_at h a dev) refl

  -- ---- no task stands

  ndr_credits : (h : ℕ) → h < setup.hosts → 2 ≤ credits_left setup h Channel.Ndr dev
  ndr_credits h less = let full = ndr_left setup opening limits t run stuck known h less in let some = some_credits in omega arith

  drs_credits : (h : ℕ) → h < setup.hosts → 2 ≤ credits_left setup h Channel.Drs dev
  drs_credits h less = let full = drs_left setup opening limits t run stuck known h less in let some = some_credits in omega arith

  snoop_credits : (h : ℕ) → h < setup.hosts → 1 ≤ credits_left setup h Channel.BiSnp dev
  snoop_credits h less =
      let sum = snoops_left setup opening limits t run stuck known h less in
      let none : length (buffered_snoops (events_of h t)) ≡ 0 = ap length (none_held h less) in
      let some = some_credits in
      omega arith

  task_stuck : (a : ℕ) (task : Task) → (directory setup dev).task a ≡ Some task → ⊥
  task_stuck a task is =
      let placed = (tasks_are_placed setup opening (events_of device t) (events_of_run setup opening device t run) a task is).1 in
      let long = some_lines task.span in
      let empty = filter_empty (task_acts setup opening t) (λ b. is_some ((directory setup dev).task b)) 0 setup.lines a (tasks_empty setup opening limits t run stuck known) (omega arith) (omega arith) (ap is_some is) in
      let snoops = first_empty (flat_map (λ g. act_step setup opening t device (Act.Snoop g (record { 0 = a }))) (below setup.hosts)) (act_step setup opening t device (Act.Finish (record { 0 = a }))) empty in
      let finish = last_empty (flat_map (λ g. act_step setup opening t device (Act.Snoop g (record { 0 = a }))) (below setup.hosts)) (act_step setup opening t device (Act.Finish (record { 0 = a }))) empty in
      elim (or_cases (list_any (λ g. may_do setup opening dev (Act.Snoop g (record { 0 = a }))) (below setup.hosts)) (may_do setup opening dev (Act.Finish (record { 0 = a })))
      (tasks_go_on setup opening (events_of device t) (events_of_run setup opening device t run) a (ap is_some is) (below_all (λ g. not (is_asked g a dev)) setup.hosts (λ g less. not_from_false _ (not_asked g a less))))) [
        | inl some ↦
            let g = any_below (λ g. may_do setup opening dev (Act.Snoop g (record { 0 = a }))) setup.hosts some in
            let w = some_is _ g.2 in
            let inv = v7_snoop-inv g.0 a ((directory setup dev).task a) (directory setup dev) dev w.x w.found in
            device_act_not setup opening t (Act.Snoop g.0 (record { 0 = a })) w.x (below_empty (λ k. act_step setup opening t device (Act.Snoop k (record { 0 = a }))) setup.hosts g.0 snoops g.1) w.found
            (one_paid setup g.0 (snoop_message a inv.t) dev w.x inv.emits (λ credited. snoop_credits g.0 g.1))
        | inr done ↦
            let w = some_is _ done in
            let inv = v8_finish-inv setup opening a ((directory setup dev).task a) (directory setup dev) dev w.x w.found in
            let less = ltb-true inv.t.host setup.hosts (tasks_are_named setup opening (events_of device t) (events_of_run setup opening device t run) a inv.t inv.found).0 in
            device_act_not setup opening t (Act.Finish (record { 0 = a })) w.x finish w.found
            (ap (λ (x : Emission). lacking_channel setup x.sends dev) inv.emits ∙ finish_paid setup inv.t.purpose _ inv.t.host inv.t.tag _ dev (ndr_credits inv.t.host less) (drs_credits inv.t.host less))
      ]

  task_by : (a : ℕ) (found : Option Task) → (directory setup dev).task a ≡ found → found ≡ None
  task_by a None is = refl
  task_by a (Some task) is = absurd (task_stuck a task is)

  pub no_task : (a : ℕ) → (directory setup dev).task a ≡ None
  no_task a = task_by a ((directory setup dev).task a) refl

  pub not_busy : (a : ℕ) → is_busy (directory setup dev) a ≡ false
  not_busy a = busy_lines_are_covered setup opening (events_of device t) (events_of_run setup opening device t run) a ∙ none_below (λ first. task_covers a first ((directory setup dev).task first)) setup.lines (λ first less. ap (task_covers a first) (no_task first))

  -- ---- no Req message is buffered

  request_stuck : (h : ℕ) → h < setup.hosts → (m : Message) → request_acts setup opening t h m ≡ [] → request_may_go_on setup opening dev h m ≡ true → ⊥
  request_stuck h less m e may =
      let three = else_empty (act_step setup opening t device (Act.Clean h (named_tag m))) (or_else (act_step setup opening t device (Act.Start h (named_tag m))) (act_step setup opening t device (Act.Evict h (named_tag m)))) e in
      let two = else_empty (act_step setup opening t device (Act.Start h (named_tag m))) (act_step setup opening t device (Act.Evict h (named_tag m))) three.1 in
      elim (or_cases (may_do setup opening dev (Act.Clean h (named_tag m)) || may_do setup opening dev (Act.Start h (named_tag m))) (may_do setup opening dev (Act.Evict h (named_tag m))) may) [
        | inl first ↦
            elim (or_cases (may_do setup opening dev (Act.Clean h (named_tag m))) (may_do setup opening dev (Act.Start h (named_tag m))) first) [
              | inl clean ↦
                  let w = some_is _ clean in
                  let inv = v4_clean-inv h (buffered_request h (named_tag m) dev) (directory setup dev) w.x w.found in
                  let some = ndr_credits h less in
                  device_act_not setup opening t (Act.Clean h (named_tag m)) w.x three.0 w.found (one_paid setup h (Message.Ndr NdrOp.Cmp inv.r.tag) dev w.x inv.emits (λ credited. omega arith))
              | inr start ↦
                  let w = some_is _ start in
                  let inv = v5_start-inv setup h (buffered_request h (named_tag m) dev) (directory setup dev) dev w.x w.found in
                  device_act_not setup opening t (Act.Start h (named_tag m)) w.x two.0 w.found (ap (λ (x : Emission). lacking_channel setup x.sends dev) inv.emits)
            ]
        | inr evict ↦
            let w = some_is _ evict in
            let inv = v6_evict-inv setup h (buffered_request h (named_tag m) dev) (directory setup dev) dev w.x w.found in
            device_act_not setup opening t (Act.Evict h (named_tag m)) w.x two.1 w.found (ap (λ (x : Emission). lacking_channel setup x.sends dev) inv.emits)
      ]

  none_goes_on : (h : ℕ) → h < setup.hosts → list_any (request_may_go_on setup opening dev h) (buffered_requests h dev) ≡ true → ⊥
  none_goes_on h less some =
      none_passes (request_may_go_on setup opening dev h) (λ m. request_acts setup opening t h m ≡ []) (buffered_requests h dev)
      (each_empty (request_acts setup opening t h) (buffered_requests h dev) (requests_empty setup opening limits t run stuck known h less)) (λ m. request_stuck h less m) some

  some_goes_on : list_any (λ h. nat_le 1 (length (buffered_requests h dev))) (below setup.hosts) ≡ true → ⊥
  some_goes_on some =
      let any = some_request_goes_on setup opening limits (events_of device t) (events_of_run setup opening device t run) (below_all (λ a. not (is_busy (directory setup dev) a)) setup.lines (λ a less. not_from_false _ (not_busy a))) some in
      let found = any_below (λ h. list_any (request_may_go_on setup opening dev h) (buffered_requests h dev)) setup.hosts any in
      none_goes_on found.0 found.1 found.2

  requests_by : (h : ℕ) → h < setup.hosts → (ms : List Message) → buffered_requests h dev ≡ ms → ms ≡ []
  requests_by h less [] is = refl
  requests_by h less (m ∷ ms) is = absurd (some_goes_on (any_at (λ g. nat_le 1 (length (buffered_requests g dev))) setup.hosts h less (ap (λ ns. nat_le 1 (length ns)) is ∙ more (length ms))))
    where
      more : (n : ℕ) → nat_le 1 (suc n) ≡ true
      more n = le-leb 1 (suc n) (omega arith)

  pub no_requests : (h : ℕ) → h < setup.hosts → buffered_requests h dev ≡ []
  no_requests h less = requests_by h less (buffered_requests h dev) refl
