-- The acts among the next steps are those that each agent tells by its own events.
use Rattle.std.proofs.Common.{◌≡◌, ℕ, Bool, true, false, List, [], ◌∷◌, ◌++◌, map, Option, Some, None, cond, refl, ap, sym, ◌∙◌}
use Rattle.std.specs.Prelude.{filter, flat_map, option_and_then, option_map, option_to_list, ◌==◌}
use Rattle.std.proofs.lemmas.Bool.{cond-false}
use Rattle.std.proofs.lemmas.List.Concat.{flat_map-cons}
use Rattle.cxl_message.specs.declared.events.Act.{Act}
use Rattle.cxl_message.specs.declared.events.Cause.{Cause}
use Rattle.cxl_message.specs.declared.events.Event.{Event}
use Rattle.cxl_message.specs.declared.identifiers.Bytes64.{Bytes64}
use Rattle.cxl_message.specs.declared.identifiers.Line.{Line}
use Rattle.cxl_message.specs.declared.identifiers.Tag.{Tag}
use Rattle.cxl_message.specs.declared.messages.Message.{Message}
use Rattle.cxl_message.specs.Lists.{below}
use Rattle.cxl_message.specs.Setup.{Configuration}
use Rattle.coherence_model.specs.Buffers.{buffered_requests, buffered_writes}
use Rattle.coherence_model.specs.DeviceRows.{device_emission}
use Rattle.coherence_model.specs.Emission.{Emission}
use Rattle.coherence_model.specs.Fitting.{is_device}
use Rattle.coherence_model.specs.HostRows.{host_emission}
use Rattle.coherence_model.specs.Next.{device_return_channels, event_with, host_return_channels, next_device_acts, next_host_acts, or_else, tag_or_zero, task_lines}
use Rattle.coherence_model.specs.Rows.{emission, if_paid}
use Rattle.coherence_model.specs.Snoops.{Snoop, buffered_snoops, is_whole_block}
use Rattle.coherence_model.specs.Traces.{device, events_of}
use Rattle.step_laws.proofs.Counts.{Each, each_append}
use Rattle.next_laws.specs.Told.{act_of_cause, act_told, acts_of, device_acts_told, host_acts_told, told}
use Rattle.next_laws.proofs.Lists.{each_part, map_joined}

-- ---- the own events of own events

filter_step : {X : Type 0} (p : X → Bool) (x : X) (ys zs : List X) (b : Bool) → p x ≡ b → filter p ys ≡ zs → filter p (cond b (x ∷ ys) ys) ≡ cond b (x ∷ zs) zs
filter_step p x ys zs true is same = ap (λ c. cond c (x ∷ filter p ys) (filter p ys)) is ∙ ap (λ l. x ∷ l) same
filter_step p x ys zs false is same = same

filter_twice : {X : Type 0} (p : X → Bool) (xs : List X) → filter p (filter p xs) ≡ filter p xs
filter_twice p [] = refl
filter_twice p (x ∷ xs) = filter_step p x (filter p xs) (filter p xs) (p x) refl (filter_twice p xs)

own_of_own : (g : ℕ) (t : List Event) → events_of g (events_of g t) ≡ events_of g t
own_of_own g t = filter_twice (λ (e : Event). e.agent == g) t

-- ---- the acts of an agent, by what is made of each act

each_or_else : (P : Event → Type 0) (xs ys : List Event) → Each P xs → Each P ys → Each P (or_else xs ys)
each_or_else P [] ys a b = b
each_or_else P (x ∷ xs) ys a b = a

each_if : (P : Event → Type 0) (b : Bool) (xs : List Event) → Each P xs → Each P (cond b xs [])
each_if P true xs a = a
each_if P false xs a = tt

abbrev line_by : (Act → List Event) → ℕ → List Event
line_by E a =
    let line : Line = record { 0 = a } in
    or_else (E (Act.Conflict line)) (or_else (E (Act.WriteBack line)) (E (Act.Answer line)))

abbrev block_by : (Act → List Event) → Snoop → List Event
block_by E s = cond (is_whole_block s.first s) (E (Act.AnswerBlock (record { 0 = s.first }))) []

abbrev snoop_by : (Act → List Event) → Snoop → List Event
snoop_by E s = or_else (block_by E s) (flat_map (line_by E) s.unanswered)

abbrev host_by : (Act → List Event) → List Snoop → List Event
host_by E snoops = flat_map (snoop_by E) snoops ++ flat_map (λ c. E (Act.HostReturn c)) host_return_channels

each_line_by : (P : Event → Type 0) (E : Act → List Event) → ((act : Act) → Each P (E act)) → (a : ℕ) → Each P (line_by E a)
each_line_by P E all a =
    each_or_else P (E (Act.Conflict (record { 0 = a }))) _ (all (Act.Conflict (record { 0 = a })))
    (each_or_else P (E (Act.WriteBack (record { 0 = a }))) _ (all (Act.WriteBack (record { 0 = a }))) (all (Act.Answer (record { 0 = a }))))

each_snoop_by : (P : Event → Type 0) (E : Act → List Event) → ((act : Act) → Each P (E act)) → (s : Snoop) → Each P (snoop_by E s)
each_snoop_by P E all s =
    each_or_else P (block_by E s) (flat_map (line_by E) s.unanswered) (each_if P (is_whole_block s.first s) _ (all (Act.AnswerBlock (record { 0 = s.first }))))
    (each_part P (line_by E) s.unanswered (each_line_by P E all))

each_host_by : (P : Event → Type 0) (E : Act → List Event) (snoops : List Snoop) → ((act : Act) → Each P (E act)) → Each P (host_by E snoops)
each_host_by P E snoops all =
    each_append P (flat_map (snoop_by E) snoops) (flat_map (λ c. E (Act.HostReturn c)) host_return_channels)
    (each_part P (snoop_by E) snoops (each_snoop_by P E all)) (each_part P (λ c. E (Act.HostReturn c)) host_return_channels (λ c. all (Act.HostReturn c)))

abbrev write_by : (Act → List Event) → ℕ → Message → List Event
write_by E h m = E (Act.Serve h (record { 0 = tag_or_zero m }))

abbrev request_by : (Act → List Event) → ℕ → Message → List Event
request_by E h m =
    let tag : Tag = record { 0 = tag_or_zero m } in
    or_else (E (Act.Clean h tag)) (or_else (E (Act.Start h tag)) (E (Act.Evict h tag)))

abbrev task_by : (Act → List Event) → ℕ → ℕ → List Event
task_by E hosts a = flat_map (λ h. E (Act.Snoop h (record { 0 = a }))) (below hosts) ++ E (Act.Finish (record { 0 = a }))

abbrev return_by : (Act → List Event) → ℕ → List Event
return_by E h = flat_map (λ c. E (Act.DeviceReturn h c)) device_return_channels

abbrev device_by : (Act → List Event) → Configuration → List Event → List Event
device_by E setup mine =
    flat_map (λ h. flat_map (write_by E h) (buffered_writes h mine)) (below setup.hosts)
    ++ flat_map (λ h. flat_map (request_by E h) (buffered_requests h mine)) (below setup.hosts)
    ++ flat_map (task_by E setup.hosts) (task_lines setup mine) ++ flat_map (return_by E) (below setup.hosts)

each_request_by : (P : Event → Type 0) (E : Act → List Event) → ((act : Act) → Each P (E act)) → (h : ℕ) (m : Message) → Each P (request_by E h m)
each_request_by P E all h m =
    let tag : Tag = record { 0 = tag_or_zero m } in
    each_or_else P (E (Act.Clean h tag)) _ (all (Act.Clean h tag)) (each_or_else P (E (Act.Start h tag)) _ (all (Act.Start h tag)) (all (Act.Evict h tag)))

each_task_by : (P : Event → Type 0) (E : Act → List Event) → ((act : Act) → Each P (E act)) → (hosts a : ℕ) → Each P (task_by E hosts a)
each_task_by P E all hosts a =
    each_append P (flat_map (λ h. E (Act.Snoop h (record { 0 = a }))) (below hosts)) (E (Act.Finish (record { 0 = a })))
    (each_part P (λ h. E (Act.Snoop h (record { 0 = a }))) (below hosts) (λ h. all (Act.Snoop h (record { 0 = a })))) (all (Act.Finish (record { 0 = a })))

each_device_by : (P : Event → Type 0) (E : Act → List Event) (setup : Configuration) (mine : List Event) → ((act : Act) → Each P (E act)) → Each P (device_by E setup mine)
each_device_by P E setup mine all =
    let writes = each_part P (λ h. flat_map (write_by E h) (buffered_writes h mine)) (below setup.hosts)
    (λ h. each_part P (write_by E h) (buffered_writes h mine) (λ m. all (Act.Serve h (record { 0 = tag_or_zero m })))) in
    let requests = each_part P (λ h. flat_map (request_by E h) (buffered_requests h mine)) (below setup.hosts)
    (λ h. each_part P (request_by E h) (buffered_requests h mine) (each_request_by P E all h)) in
    let tasks = each_part P (task_by E setup.hosts) (task_lines setup mine) (each_task_by P E all setup.hosts) in
    let returns = each_part P (return_by E) (below setup.hosts) (λ h. each_part P (λ c. E (Act.DeviceReturn h c)) device_return_channels (λ c. all (Act.DeviceReturn h c))) in
    each_append P _ _ (each_append P _ _ (each_append P _ _ writes requests) tasks) returns

-- ---- events of acts

-- an event is one of an agent's acts
abbrev IsActOf : ℕ → Event → Type 0
IsActOf g e = (e.agent ≡ g) × ((act : Act) × (e.cause ≡ Cause.Act act))

-- the event of an act at an agent by its own events, as a list of one or none
abbrev act_by : Configuration → List (Line × Bytes64) → ℕ → List Event → Act → List Event
act_by setup opening g mine act = option_to_list (option_map (event_with g (Cause.Act act)) (emission setup opening g (Cause.Act act) mine))

act_of_option : (g : ℕ) (act : Act) (o : Option Emission) → Each (IsActOf g) (option_to_list (option_map (event_with g (Cause.Act act)) o))
act_of_option g act None = tt
act_of_option g act (Some w) = ((refl, (act, refl)), tt)

-- an event of an act, as it is told
one_act : (g : ℕ) (e : Event) → IsActOf g e → told e ∷ [] ≡ map (act_told g) (act_of_cause e.cause)
one_act g e is = (λ i. (is.0 i, is.1.1 i) ∷ []) ∙ ap (λ c. map (act_told g) (act_of_cause c)) (sym is.1.1)

-- events of acts, as they are told
acts_are_told : (g : ℕ) (es : List Event) → Each (IsActOf g) es → map told es ≡ map (act_told g) (acts_of es)
acts_are_told g [] each = refl
acts_are_told g (e ∷ es) each =
    ap (λ xs. xs ++ map told es) (one_act g e each.0) ∙ ap (λ xs. map (act_told g) (act_of_cause e.cause) ++ xs) (acts_are_told g es each.1)
    ∙ sym (map_joined (act_told g) (act_of_cause e.cause) (acts_of es)) ∙ ap (map (act_told g)) (sym (flat_map-cons (λ (x : Event). act_of_cause x.cause) e es))

-- ---- a host

no_opening : (setup : Configuration) (opening : List (Line × Bytes64)) (h : ℕ) (cause : Cause) (mine : List Event) → is_device h ≡ false → emission setup opening h cause mine ≡ emission setup [] h cause mine
no_opening setup opening h cause mine host =
    ap (option_and_then (if_paid setup mine)) (cond-false (is_device h) (device_emission setup opening cause mine) (host_emission setup h cause mine) host
    ∙ sym (cond-false (is_device h) (device_emission setup [] cause mine) (host_emission setup h cause mine) host))

-- a host's acts are those by its own events, whatever the opening
host_acts_are_own : (setup : Configuration) (opening : List (Line × Bytes64)) (t : List Event) (h : ℕ) → is_device h ≡ false → next_host_acts setup opening t h ≡ next_host_acts setup [] (events_of h t) h
host_acts_are_own setup opening t h host =
    (λ i. host_by (λ act. option_to_list (option_map (event_with h (Cause.Act act)) (no_opening setup opening h (Cause.Act act) (events_of h t) host i))) (buffered_snoops (events_of h t)))
    ∙ ap (λ mine. host_by (act_by setup [] h mine) (buffered_snoops mine)) (sym (own_of_own h t))

each_host_act : (setup : Configuration) (t : List Event) (h : ℕ) → Each (IsActOf h) (next_host_acts setup [] t h)
each_host_act setup t h =
    each_host_by (IsActOf h) (act_by setup [] h (events_of h t)) (buffered_snoops (events_of h t)) (λ act. act_of_option h act (emission setup [] h (Cause.Act act) (events_of h t)))

pub host_acts_are_told : (setup : Configuration) (opening : List (Line × Bytes64)) (t : List Event) (h : ℕ) → is_device h ≡ false → map told (next_host_acts setup opening t h) ≡ host_acts_told setup t h
host_acts_are_told setup opening t h host =
    ap (map told) (host_acts_are_own setup opening t h host) ∙ acts_are_told h (next_host_acts setup [] (events_of h t) h) (each_host_act setup (events_of h t) h)

-- ---- the device

-- the device's acts are those by its own events
device_acts_are_own : (setup : Configuration) (opening : List (Line × Bytes64)) (t : List Event) → next_device_acts setup opening t ≡ next_device_acts setup opening (events_of device t)
device_acts_are_own setup opening t = ap (λ mine. device_by (act_by setup opening device mine) setup mine) (sym (own_of_own device t))

each_device_act : (setup : Configuration) (opening : List (Line × Bytes64)) (t : List Event) → Each (IsActOf device) (next_device_acts setup opening t)
each_device_act setup opening t =
    each_device_by (IsActOf device) (act_by setup opening device (events_of device t)) setup (events_of device t)
    (λ act. act_of_option device act (emission setup opening device (Cause.Act act) (events_of device t)))

pub device_acts_are_told : (setup : Configuration) (opening : List (Line × Bytes64)) (t : List Event) → map told (next_device_acts setup opening t) ≡ device_acts_told setup opening t
device_acts_are_told setup opening t =
    ap (map told) (device_acts_are_own setup opening t) ∙ acts_are_told device (next_device_acts setup opening (events_of device t)) (each_device_act setup opening (events_of device t))
