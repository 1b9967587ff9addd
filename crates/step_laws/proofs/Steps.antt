-- How often an event stands in lists of steps: of one act, of one list or else another, of none.
use Rattle.std.proofs.Common.{◌≡◌, ℕ, ◌≤◌, Bool, true, false, List, [], ◌∷◌, Option, Some, None, cond, refl, ◌∙◌, subst, arith}
use Rattle.std.specs.Prelude.{◌==◌, ◌&&◌, is_some, option_and_then, option_map, option_to_list}
use Rattle.std.proofs.lemmas.Bool.{cond-false, eq-eqb}
use Rattle.cxl_message.specs.declared.events.Act.{Act}
use Rattle.cxl_message.specs.declared.events.Cause.{Cause}
use Rattle.cxl_message.specs.declared.events.Commit.{Commit}
use Rattle.cxl_message.specs.declared.events.Event.{Event}
use Rattle.cxl_message.specs.declared.events.Sends.{Sends}
use Rattle.cxl_message.specs.declared.identifiers.Bytes64.{Bytes64}
use Rattle.cxl_message.specs.declared.identifiers.Line.{Line}
use Rattle.cxl_message.specs.Setup.{Configuration}
use Rattle.coherence_model.specs.DeviceActs.{device_acts}
use Rattle.coherence_model.specs.DeviceRows.{device_emission}
use Rattle.coherence_model.specs.Emission.{Emission}
use Rattle.coherence_model.specs.Fitting.{is_device}
use Rattle.coherence_model.specs.HostActs.{host_acts}
use Rattle.coherence_model.specs.HostRows.{host_emission}
use Rattle.coherence_model.specs.Next.{act_step, event_with, or_else, step_of}
use Rattle.coherence_model.specs.Rows.{if_paid, row_emission, row_holds}
use Rattle.coherence_model.specs.Traces.{device, events_of}
use Rattle.step_laws.specs.Events.{act_eq}
use Rattle.step_laws.proofs.Counts.{counted}
use Rattle.step_laws.proofs.Events.{count-step_of, is_step}
use Rattle.step_laws.proofs.Takes.{times}

-- an act of agent g, as an event
abbrev pub act_event : ℕ → Act → Sends → Option Commit → Event
act_event g act sends commit = record { agent = g; cause = Cause.Act act; sends = sends; commit = commit }

-- how often an event stands in the list of one act
pub times-act :
    (setup : Configuration) (opening : List (Line × Bytes64)) (t : List Event) (e : Event) (g : ℕ) (act : Act)
    → times e (act_step setup opening t g act) ≡ counted (is_step e g (Cause.Act act) && row_holds setup opening e (events_of e.agent t))
times-act setup opening t e g act = count-step_of setup opening t e g (Cause.Act act)

false-step : (b row : Bool) → b ≡ false → counted (b && row) ≡ 0
false-step b row e = rw e

pub times-act-none :
    (setup : Configuration) (opening : List (Line × Bytes64)) (t : List Event) (e : Event) (g : ℕ) (act : Act) → is_step e g (Cause.Act act) ≡ false
    → times e (act_step setup opening t g act) ≡ 0
times-act-none setup opening t e g act other = times-act setup opening t e g act ∙ false-step (is_step e g (Cause.Act act)) _ other

own-step : (b at row : Bool) → at ≡ true → counted ((b && at) && row) ≡ counted (b && row)
own-step true at row e = rw e
own-step false at row e = refl

-- an agent's own act in the list of one of its acts
pub times-own : (setup : Configuration) (opening : List (Line × Bytes64)) (t : List Event) (g : ℕ) (act : Act) (sends : Sends) (commit : Option Commit) (other : Act)
    → times (act_event g act sends commit) (act_step setup opening t g other) ≡ counted
    (act_eq act other && row_holds setup opening (act_event g act sends commit) (events_of g t))
times-own setup opening t g act sends commit other =
    times-act setup opening t (act_event g act sends commit) g other ∙ own-step (act_eq act other) (g == g) _ (eq-eqb g g refl)

-- a list, or else another
pub or-none : (e : Event) (xs ys : List Event) → times e xs ≡ 0 → times e ys ≡ 0 → times e (or_else xs ys) ≡ 0
or-none e [] ys h k = k
or-none e (x ∷ xs) ys h k = h

pub or-left : (e : Event) (xs ys : List Event) → times e ys ≡ 0 → times e (or_else xs ys) ≡ times e xs
or-left e [] ys h = h
or-left e (x ∷ xs) ys h = refl

pub or-right : (e : Event) (xs ys : List Event) → times e xs ≡ 0 → (1 ≤ times e ys → xs ≡ []) → times e (or_else xs ys) ≡ times e ys
or-right e [] ys h k = refl
or-right e (x ∷ xs) ys h k = first-none (times e (x ∷ xs)) (times e ys) h (λ one. not_empty x xs (k one))
  where
    not_empty : (x : Event) (xs : List Event) → x ∷ xs ≡ [] → ⊥
    not_empty x xs same = cc

    first-none : (n m : ℕ) → n ≡ 0 → (1 ≤ m → ⊥) → n ≡ m
    first-none n m h k = grind arith

-- steps that are there if a test holds
pub times-if : (e : Event) (b : Bool) (xs : List Event) → times e (cond b xs []) ≡ cond b (times e xs) 0
times-if e true xs = refl
times-if e false xs = refl

-- an act whose row doesn't hold is no step
empty-step :
    (g : ℕ) (cause : Cause) (o : Option Emission) (paid : Emission → Option Emission) → (is_some o ≡ true → ⊥)
    → option_to_list (option_map (event_with g cause) (option_and_then paid o)) ≡ []
empty-step g cause None paid never = refl
empty-step g cause (Some w) paid never = absurd (never refl)

pub no-step :
    (setup : Configuration) (opening : List (Line × Bytes64)) (t : List Event) (g : ℕ) (cause : Cause)
    → (is_some (row_emission setup opening g cause (events_of g t)) ≡ true → ⊥) → step_of setup opening t g cause ≡ []
no-step setup opening t g cause never = empty-step g cause (row_emission setup opening g cause (events_of g t)) (if_paid setup (events_of g t)) never

pub no-host-act :
    (setup : Configuration) (opening : List (Line × Bytes64)) (t : List Event) (g : ℕ) (act : Act) → is_device g ≡ false
    → (is_some (host_acts setup g act (events_of g t)) ≡ true → ⊥) → act_step setup opening t g act ≡ []
no-host-act setup opening t g act host never =
    no-step setup opening t g (Cause.Act act)
    (λ some. never (subst (λ o. is_some o ≡ true) (cond-false (is_device g) (device_emission setup opening (Cause.Act act) (events_of g t))
    (host_emission setup g (Cause.Act act) (events_of g t)) host) some))

pub no-device-act :
    (setup : Configuration) (opening : List (Line × Bytes64)) (t : List Event) (act : Act)
    → (is_some (device_acts setup opening act (events_of device t)) ≡ true → ⊥) → act_step setup opening t device act ≡ []
no-device-act setup opening t act never = no-step setup opening t device (Cause.Act act) never

-- the first of three lists that isn't empty
pub three-none : (e : Event) (xs ys zs : List Event) → times e xs ≡ 0 → times e ys ≡ 0 → times e zs ≡ 0 → times e (or_else xs (or_else ys zs)) ≡ 0
three-none e xs ys zs h k l = or-none e xs (or_else ys zs) h (or-none e ys zs k l)

pub three-first : (e : Event) (xs ys zs : List Event) → times e ys ≡ 0 → times e zs ≡ 0 → times e (or_else xs (or_else ys zs)) ≡ times e xs
three-first e xs ys zs k l = or-left e xs (or_else ys zs) (or-none e ys zs k l)

pub three-second :
    (e : Event) (xs ys zs : List Event) → times e xs ≡ 0 → times e zs ≡ 0 → (1 ≤ times e ys → xs ≡ []) → times e (or_else xs (or_else ys zs)) ≡ times e ys
three-second e xs ys zs h l empty =
    let inner = or-left e ys zs l in
    or-right e xs (or_else ys zs) h (λ one. empty (subst (λ n. 1 ≤ n) inner one)) ∙ inner

pub three-third :
    (e : Event) (xs ys zs : List Event) → times e xs ≡ 0 → times e ys ≡ 0 → (1 ≤ times e zs → xs ≡ []) → (1 ≤ times e zs → ys ≡ [])
    → times e (or_else xs (or_else ys zs)) ≡ times e zs
three-third e xs ys zs h k empty next =
    let inner = or-right e ys zs k next in
    or-right e xs (or_else ys zs) h (λ one. empty (subst (λ n. 1 ≤ n) inner one)) ∙ inner

-- what is counted once under two tests
pub counted-one : (x y : Bool) → 1 ≤ counted (x && y) → (x ≡ true) × (y ≡ true)
counted-one true true h = (refl, refl)
counted-one true false h = absurd (omega arith)
counted-one false y h = absurd (omega arith)
