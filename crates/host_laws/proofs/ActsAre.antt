-- The acts by a host's record are those of the model's next steps, in their order.
use Rattle.std.proofs.Common.{Bool, List, None, Option, Some, [], ap, cond, false, flat_map, refl, sym, true, ℕ, ◌++◌, ◌∙◌, ◌∷◌, ◌≡◌}
use Rattle.std.proofs.lemmas.Bool.{and_parts, false≢true}
use Rattle.std.specs.Prelude.{is_none, option_and_then, option_map, option_to_list, ◌==◌}
use Rattle.cxl_message.specs.declared.channels.Channel.{Channel}
use Rattle.cxl_message.specs.declared.events.Act.{Act}
use Rattle.cxl_message.specs.declared.events.Cause.{Cause}
use Rattle.cxl_message.specs.declared.events.Event.{Event}
use Rattle.cxl_message.specs.declared.identifiers.Bytes64.{Bytes64}
use Rattle.cxl_message.specs.declared.identifiers.Line.{Line}
use Rattle.cxl_message.specs.Setup.{Configuration}
use Rattle.coherence_model.specs.Credits.{lacking_channel}
use Rattle.coherence_model.specs.Emission.{Emission}
use Rattle.coherence_model.specs.Fitting.{is_device}
use Rattle.coherence_model.specs.HostActs.{host_acts}
use Rattle.coherence_model.specs.Next.{event_with, host_return_channels, next_host_acts, or_else}
use Rattle.coherence_model.specs.Rows.{emission, if_paid}
use Rattle.coherence_model.specs.Snoops.{Snoop, buffered_snoops, is_whole_block}
use Rattle.coherence_model.specs.Traces.{events_of}
use Rattle.coherence_lemmas.proofs.Rows.{host_row}
use Rattle.coherence_model.specs.Words.{when}
use Rattle.coherence_model.specs.OwnRuns.{is_own_run}
use Rattle.host_laws.proofs.AnswersAre.{AllFromHost, act_from, lacking_is}
use Rattle.host_laws.proofs.Keeps.{Keeps}
use Rattle.host_laws.proofs.Lookups.{view_is}
use Rattle.host_laws.proofs.Ranges.{Ranges}
use Rattle.host_laws.proofs.ViewsAreModel.{act_is}
use Rattle.host_record.specs.Stands.{act_of_cause, acts_after, acts_in, kept_host}
use Rattle.host_record.specs.View.{view_of}
use Rattle.host_record.specs.ViewAnswers.{act_if, act_list, allowed_by, block_acts_by, line_acts_by, or_acts, snoop_acts_by}

-- the acts of some events
abbrev pub acts_of : List Event → List Act
acts_of es = flat_map (λ (e : Event). act_of_cause e.cause) es

acts_append : (xs ys : List Event) → acts_of (xs ++ ys) ≡ acts_of xs ++ acts_of ys
acts_append [] ys = refl
acts_append (x ∷ xs) ys = ap (λ zs. act_of_cause x.cause ++ zs) (acts_append xs ys) ∙ sym (append_assoc (act_of_cause x.cause) (acts_of xs) (acts_of ys))
  where
    append_assoc : (a b c : List Act) → (a ++ b) ++ c ≡ a ++ (b ++ c)
    append_assoc [] b c = refl
    append_assoc (y ∷ a) b c = ap (λ zs. y ∷ zs) (append_assoc a b c)

acts_flat : {X : Type 0} (f : X → List Event) (g : X → List Act) (xs : List X) → ((x : X) → acts_of (f x) ≡ g x) → acts_of (flat_map f xs) ≡ flat_map g xs
acts_flat f g [] is = refl
acts_flat f g (x ∷ xs) is = acts_append (f x) (flat_map f xs) ∙ ap (λ zs. zs ++ acts_of (flat_map f xs)) (is x) ∙ ap (λ zs. g x ++ zs) (acts_flat f g xs is)

-- the step of an act after own events, where its row holds
abbrev step_with : Configuration → List (Line × Bytes64) → ℕ → List Event → Act → List Event
step_with setup opening h mine act = option_to_list (option_map (event_with h (Cause.Act act)) (emission setup opening h (Cause.Act act) mine))

act_in_step : (h : ℕ) (act : Act) (o : Option Emission) → acts_of (option_to_list (option_map (event_with h (Cause.Act act)) o)) ≡ cond (is_none o) [] (act ∷ [])
act_in_step h act None = refl
act_in_step h act (Some w) = refl

paid_act : (setup : Configuration) (h : ℕ) (mine : List Event) (act : Act) (x : Option Emission) → ((w : Emission) → x ≡ Some w → AllFromHost h w.sends)
    → cond (is_none (option_and_then (if_paid setup mine) x)) [] (act ∷ []) ≡ act_if setup h (view_of setup h mine) act x
paid_act setup h mine act None from = refl
paid_act setup h mine act (Some w) from =
    by (lacking_channel setup w.sends mine) w ∙ ap (λ l. cond (is_none l) (act ∷ []) []) (sym (lacking_is setup h mine w.sends (from w refl)))
  where
    by : (l : Option Channel) (w : Emission) → cond (is_none (when (is_none l) w)) [] (act ∷ []) ≡ cond (is_none l) (act ∷ []) []
    by None w = refl
    by (Some c) w = refl

step_is : (setup : Configuration) (opening : List (Line × Bytes64)) (h : ℕ) → is_device h ≡ false → (mine : List Event) (act : Act) → acts_of (step_with setup opening h mine act) ≡ act_list setup h (view_of setup h mine) act
step_is setup opening h host mine act =
    act_in_step h act (emission setup opening h (Cause.Act act) mine)
    ∙ ap (λ o. cond (is_none (option_and_then (if_paid setup mine) o)) [] (act ∷ [])) (host_row setup opening h (Cause.Act act) mine host)
    ∙ paid_act setup h mine act (host_acts setup h act mine) (act_from setup h act mine)
    ∙ ap (act_if setup h (view_of setup h mine) act) (sym (act_is setup h act mine))

-- the first of two that isn't empty
or_is : (h : ℕ) (act : Act) (o : Option Emission) (ys : List Event) → acts_of (or_else (option_to_list (option_map (event_with h (Cause.Act act)) o)) ys) ≡ or_acts (acts_of (option_to_list (option_map (event_with h (Cause.Act act)) o))) (acts_of ys)
or_is h act None ys = refl
or_is h act (Some w) ys = refl

or_cond : (h : ℕ) (act : Act) (b : Bool) (o : Option Emission) (ys : List Event)
    → acts_of (or_else (cond b (option_to_list (option_map (event_with h (Cause.Act act)) o)) []) ys) ≡ or_acts (cond b (acts_of (option_to_list (option_map (event_with h (Cause.Act act)) o))) []) (acts_of ys)
or_cond h act true o ys = or_is h act o ys
or_cond h act false o ys = refl

abbrev line_with : Configuration → List (Line × Bytes64) → ℕ → List Event → ℕ → List Event
line_with setup opening h mine a =
    or_else (step_with setup opening h mine (Act.Conflict (record { 0 = a })))
    (or_else (step_with setup opening h mine (Act.WriteBack (record { 0 = a }))) (step_with setup opening h mine (Act.Answer (record { 0 = a }))))

line_is : (setup : Configuration) (opening : List (Line × Bytes64)) (h : ℕ) → is_device h ≡ false → (mine : List Event) (a : ℕ) → acts_of (line_with setup opening h mine a) ≡ line_acts_by setup h (view_of setup h mine) a
line_is setup opening h host mine a =
    let c = Act.Conflict (record { 0 = a }) in
    let w = Act.WriteBack (record { 0 = a }) in
    let r = Act.Answer (record { 0 = a }) in
    or_is h c (emission setup opening h (Cause.Act c) mine) _
    ∙ ap (λ zs. or_acts zs (acts_of (or_else (step_with setup opening h mine w) (step_with setup opening h mine r)))) (step_is setup opening h host mine c)
    ∙ ap (or_acts (act_list setup h (view_of setup h mine) c))
    (or_is h w (emission setup opening h (Cause.Act w) mine) _
    ∙ ap (λ zs. or_acts zs (acts_of (step_with setup opening h mine r))) (step_is setup opening h host mine w)
    ∙ ap (or_acts (act_list setup h (view_of setup h mine) w)) (step_is setup opening h host mine r))

abbrev snoop_with : Configuration → List (Line × Bytes64) → ℕ → List Event → Snoop → List Event
snoop_with setup opening h mine s =
    or_else (cond (is_whole_block s.first s) (step_with setup opening h mine (Act.AnswerBlock (record { 0 = s.first }))) []) (flat_map (line_with setup opening h mine) s.unanswered)

snoop_is : (setup : Configuration) (opening : List (Line × Bytes64)) (h : ℕ) → is_device h ≡ false → (mine : List Event) (s : Snoop) → acts_of (snoop_with setup opening h mine s) ≡ snoop_acts_by setup h (view_of setup h mine) s
snoop_is setup opening h host mine s =
    let b = Act.AnswerBlock (record { 0 = s.first }) in
    or_cond h b (is_whole_block s.first s) (emission setup opening h (Cause.Act b) mine) (flat_map (line_with setup opening h mine) s.unanswered)
    ∙ ap (λ zs. or_acts (cond (is_whole_block s.first s) zs []) (acts_of (flat_map (line_with setup opening h mine) s.unanswered))) (step_is setup opening h host mine b)
    ∙ ap (or_acts (block_acts_by setup h (view_of setup h mine) s)) (acts_flat (line_with setup opening h mine) (line_acts_by setup h (view_of setup h mine)) s.unanswered (line_is setup opening h host mine))

abbrev acts_with : Configuration → List (Line × Bytes64) → ℕ → List Event → List Event
acts_with setup opening h mine = flat_map (snoop_with setup opening h mine) (buffered_snoops mine) ++ flat_map (λ c. step_with setup opening h mine (Act.HostReturn c)) host_return_channels

acts_with_is : (setup : Configuration) (opening : List (Line × Bytes64)) (h : ℕ) → is_device h ≡ false → (mine : List Event) → acts_of (acts_with setup opening h mine) ≡ allowed_by setup h (view_of setup h mine)
acts_with_is setup opening h host mine =
    acts_append (flat_map (snoop_with setup opening h mine) (buffered_snoops mine)) _
    ∙ ap (λ zs. zs ++ acts_of (flat_map (λ c. step_with setup opening h mine (Act.HostReturn c)) host_return_channels)) (acts_flat (snoop_with setup opening h mine) (snoop_acts_by setup h (view_of setup h mine)) (buffered_snoops mine) (snoop_is setup opening h host mine))
    ∙ ap (λ zs. flat_map (snoop_acts_by setup h (view_of setup h mine)) (buffered_snoops mine) ++ zs)
    (acts_flat (λ c. step_with setup opening h mine (Act.HostReturn c)) (λ c. act_list setup h (view_of setup h mine) (Act.HostReturn c)) host_return_channels (λ c. step_is setup opening h host mine (Act.HostReturn c)))

-- the acts of the next steps of a host, in any trace with these own events
pub next_acts_are : (setup : Configuration) (opening : List (Line × Bytes64)) (h : ℕ) → is_device h ≡ false → (t mine : List Event) → events_of h t ≡ mine → Keeps setup mine → Ranges setup mine
    → acts_of (next_host_acts setup opening t h) ≡ acts_in setup h (kept_host setup h mine)
next_acts_are setup opening h host t mine own k r =
    ap (λ m. acts_of (acts_with setup opening h m)) own
    ∙ acts_with_is setup opening h host mine
    ∙ ap (allowed_by setup h) (sym (view_is setup h mine k r))

-- an own run is its own events
own_event_stays : (h : ℕ) (e : Event) (mine kept : List Event) (own : Bool) → own ≡ true → kept ≡ mine → cond own (e ∷ kept) kept ≡ e ∷ mine
own_event_stays h e mine kept true is same = ap (λ xs. e ∷ xs) same
own_event_stays h e mine kept false is same = absurd (false≢true is)

pub own_events : (setup : Configuration) (opening : List (Line × Bytes64)) (h : ℕ) (mine : List Event) → is_own_run setup opening h mine ≡ true → events_of h mine ≡ mine
own_events setup opening h [] run = refl
own_events setup opening h (e ∷ mine) run =
    let parts = and_parts (is_own_run setup opening h mine) _ run in
    own_event_stays h e mine (events_of h mine) (e.agent == h) (and_parts (e.agent == h) _ parts.1).0 (own_events setup opening h mine parts.0)

pub host_acts_are : (setup : Configuration) (opening : List (Line × Bytes64)) (h : ℕ) → is_device h ≡ false → (mine : List Event) → is_own_run setup opening h mine ≡ true → Keeps setup mine → Ranges setup mine
    → acts_in setup h (kept_host setup h mine) ≡ acts_after setup h mine
host_acts_are setup opening h host mine run k r = sym (next_acts_are setup [] h host mine mine (own_events setup opening h mine run) k r)
