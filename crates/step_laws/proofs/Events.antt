-- Acts, causes and events are the same where their tests say so, and how often an event stands in the list of one step.
use Rattle.std.proofs.Common.{◌≡◌, ℕ, Bool, true, false, IsTrue, List, Option, Some, None, refl, ◌∙◌, ap, subst}
use Rattle.std.specs.Prelude.{◌==◌, ◌&&◌, count_by, option_map, option_to_list}
use Rattle.std.specs.Option.{option_eq, option_map_or}
use Rattle.std.proofs.lemmas.Bool.{and_parts, and_from, eq-eqb, eqb-true, false≢true}
use Rattle.cxl_message.specs.declared.events.Act.{Act}
use Rattle.cxl_message.specs.declared.events.Cause.{Cause}
use Rattle.cxl_message.specs.declared.events.Event.{Event}
use Rattle.cxl_message.specs.declared.events.Op.{Op}
use Rattle.cxl_message.specs.declared.identifiers.Bytes64.{Bytes64}
use Rattle.cxl_message.specs.declared.identifiers.Line.{Line}
use Rattle.cxl_message.specs.declared.identifiers.Tag.{Tag}
use Rattle.cxl_message.specs.Events.{commit_eq, sends_eq}
use Rattle.cxl_message.specs.Setup.{Configuration}
use Rattle.coherence_model.specs.Emission.{Emission}
use Rattle.coherence_model.specs.Next.{event_with, step_of}
use Rattle.coherence_model.specs.Rows.{emission, is_emitted, row_holds}
use Rattle.coherence_model.specs.Traces.{events_of}
use Rattle.cxl_message.proofs.SameNames.{channel_eq-same, same-channel_eq}
use Rattle.cxl_message.proofs.SameEvents.{op_eq-same, same-op_eq, same_commits, same-sends_eq}
use Rattle.cxl_message.proofs.SameMessages.{message_eq-same, same-message_eq}
use Rattle.step_laws.specs.Events.{act_eq, cause_eq, event_eq}
use Rattle.step_laws.proofs.Counts.{count_by-one, counted}

ap2 : {A B C : Type 0} (f : A → B → C) {a b : A} {c d : B} → a ≡ b → c ≡ d → f a c ≡ f b d
ap2 f p q = cc

line-same : (a b : Line) → IsTrue (a.0 == b.0) → a ≡ b
line-same a b h = ap {B = Line} (λ n. record { 0 = n }) (eqb-true a.0 b.0 h)

tag-same : (s t : Tag) → IsTrue (s.0 == t.0) → s ≡ t
tag-same s t h = ap {B = Tag} (λ n. record { 0 = n }) (eqb-true s.0 t.0 h)

-- acts are the same where their test says so
pub act_eq-same : (a b : Act) → IsTrue (act_eq a b) → a ≡ b
act_eq-same (Act.Conflict a) (Act.Conflict b) h = ap {B = Act} Act.Conflict (line-same a b h)
act_eq-same (Act.WriteBack a) (Act.WriteBack b) h = ap {B = Act} Act.WriteBack (line-same a b h)
act_eq-same (Act.Answer a) (Act.Answer b) h = ap {B = Act} Act.Answer (line-same a b h)
act_eq-same (Act.AnswerBlock a) (Act.AnswerBlock b) h = ap {B = Act} Act.AnswerBlock (line-same a b h)
act_eq-same (Act.HostReturn c) (Act.HostReturn d) h = ap {B = Act} Act.HostReturn (channel_eq-same c d h)
act_eq-same (Act.Serve g s) (Act.Serve h t) e = let p = and_parts _ _ e in ap2 {C = Act} Act.Serve (eqb-true g h p.0) (tag-same s t p.1)
act_eq-same (Act.Clean g s) (Act.Clean h t) e = let p = and_parts _ _ e in ap2 {C = Act} Act.Clean (eqb-true g h p.0) (tag-same s t p.1)
act_eq-same (Act.Start g s) (Act.Start h t) e = let p = and_parts _ _ e in ap2 {C = Act} Act.Start (eqb-true g h p.0) (tag-same s t p.1)
act_eq-same (Act.Evict g s) (Act.Evict h t) e = let p = and_parts _ _ e in ap2 {C = Act} Act.Evict (eqb-true g h p.0) (tag-same s t p.1)
act_eq-same (Act.Snoop g a) (Act.Snoop h b) e = let p = and_parts _ _ e in ap2 {C = Act} Act.Snoop (eqb-true g h p.0) (line-same a b p.1)
act_eq-same (Act.Finish a) (Act.Finish b) h = ap {B = Act} Act.Finish (line-same a b h)
act_eq-same (Act.DeviceReturn g c) (Act.DeviceReturn h d) e = let p = and_parts _ _ e in ap2 {C = Act} Act.DeviceReturn (eqb-true g h p.0) (channel_eq-same c d p.1)
act_eq-same _ _ h = absurd (false≢true h)

pub act_eq_self : (a : Act) → IsTrue (act_eq a a)
act_eq_self (Act.Conflict a) = eq-eqb a.0 a.0 refl
act_eq_self (Act.WriteBack a) = eq-eqb a.0 a.0 refl
act_eq_self (Act.Answer a) = eq-eqb a.0 a.0 refl
act_eq_self (Act.AnswerBlock a) = eq-eqb a.0 a.0 refl
act_eq_self (Act.HostReturn c) = same-channel_eq c c refl
act_eq_self (Act.Serve g s) = and_from _ _ (eq-eqb g g refl) (eq-eqb s.0 s.0 refl)
act_eq_self (Act.Clean g s) = and_from _ _ (eq-eqb g g refl) (eq-eqb s.0 s.0 refl)
act_eq_self (Act.Start g s) = and_from _ _ (eq-eqb g g refl) (eq-eqb s.0 s.0 refl)
act_eq_self (Act.Evict g s) = and_from _ _ (eq-eqb g g refl) (eq-eqb s.0 s.0 refl)
act_eq_self (Act.Snoop g a) = and_from _ _ (eq-eqb g g refl) (eq-eqb a.0 a.0 refl)
act_eq_self (Act.Finish a) = eq-eqb a.0 a.0 refl
act_eq_self (Act.DeviceReturn g c) = and_from _ _ (eq-eqb g g refl) (same-channel_eq c c refl)

operation_same : (s i r j : ℕ) (op other : Op) → s ≡ r → i ≡ j → op ≡ other → Cause.Op s i op ≡ Cause.Op r j other
operation_same s i r j op other a b c = cc

-- causes are the same where their test says so
pub cause_eq-same : (c d : Cause) → IsTrue (cause_eq c d) → c ≡ d
cause_eq-same (Cause.Op s i op) (Cause.Op r j other) h =
    let p = and_parts _ _ h in
    let q = and_parts _ _ p.0 in
    operation_same s i r j op other (eqb-true s r q.0) (eqb-true i j q.1) (op_eq-same op other p.1)
cause_eq-same (Cause.Take g m) (Cause.Take h n) e = let p = and_parts _ _ e in ap2 {C = Cause} Cause.Take (eqb-true g h p.0) (message_eq-same m n p.1)
cause_eq-same (Cause.Act a) (Cause.Act b) h = ap {B = Cause} Cause.Act (act_eq-same a b h)
cause_eq-same _ _ h = absurd (false≢true h)

pub cause_eq_self : (c : Cause) → IsTrue (cause_eq c c)
cause_eq_self (Cause.Op s i op) = and_from _ _ (and_from _ _ (eq-eqb s s refl) (eq-eqb i i refl)) (same-op_eq op op refl)
cause_eq_self (Cause.Take g m) = and_from _ _ (eq-eqb g g refl) (same-message_eq m m refl)
cause_eq_self (Cause.Act a) = act_eq_self a

-- an event is the same as itself
pub event_eq_self : (e : Event) → IsTrue (event_eq e e)
event_eq_self e =
    and_from _ _ (and_from _ _ (and_from _ _ (cause_eq_self e.cause) (eq-eqb e.agent e.agent refl)) (same-sends_eq e.sends e.sends refl))
    (same_commits e.commit e.commit refl)

-- whether an event has this agent and this cause
abbrev pub is_step : Event → ℕ → Cause → Bool
is_step e g cause = cause_eq e.cause cause && (e.agent == g)

emitted-step : (step sends commit : Bool) → counted (step && sends && commit) ≡ counted (step && (sends && commit))
emitted-step true sends commit = refl
emitted-step false sends commit = refl

none-step : (b : Bool) → counted false ≡ counted (b && false)
none-step true = refl
none-step false = refl

-- how often an event stands in the list of what a cause emits
count-emitted :
    (e : Event) (g : ℕ) (cause : Cause) (o : Option Emission)
    → count_by (event_eq e) (option_to_list (option_map (event_with g cause) o)) ≡ counted (is_step e g cause && option_map_or (is_emitted e) o false)
count-emitted e g cause None = none-step (is_step e g cause)
count-emitted e g cause (Some w) = count_by-one (event_eq e) (event_with g cause w) ∙ emitted-step (is_step e g cause) (sends_eq e.sends w.sends)
    (option_eq commit_eq e.commit w.commit)

own-step :
    (setup : Configuration) (opening : List (Line × Bytes64)) (t : List Event) (e : Event) (g : ℕ) (cause : Cause) (b : Bool) → is_step e g cause ≡ b
    → counted (b && option_map_or (is_emitted e) (emission setup opening g cause (events_of g t)) false) ≡ counted
    (b && row_holds setup opening e (events_of e.agent t))
own-step setup opening t e g cause false h = refl
own-step setup opening t e g cause true h =
    let p = and_parts _ _ h in
    subst (λ x. counted (option_map_or (is_emitted e) (emission setup opening g x (events_of g t)) false) ≡ counted
    (row_holds setup opening e (events_of e.agent t))) (cause_eq-same e.cause cause p.0)
    (subst (λ x. counted (option_map_or (is_emitted e) (emission setup opening x e.cause (events_of x t)) false) ≡ counted
    (row_holds setup opening e (events_of e.agent t))) (eqb-true e.agent g p.1) refl)

-- how often an event stands in the list of one step: once where it has that agent and cause and its row holds
pub count-step_of :
    (setup : Configuration) (opening : List (Line × Bytes64)) (t : List Event) (e : Event) (g : ℕ) (cause : Cause)
    → count_by (event_eq e) (step_of setup opening t g cause) ≡ counted (is_step e g cause && row_holds setup opening e (events_of e.agent t))
count-step_of setup opening t e g cause =
    count-emitted e g cause (emission setup opening g cause (events_of g t)) ∙ own-step setup opening t e g cause (is_step e g cause) refl
