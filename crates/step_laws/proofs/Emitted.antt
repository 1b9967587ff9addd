-- What a row emits for a cause that passes is an allowed event.
use Rattle.std.proofs.Common.{◌≡◌, ℕ, true, false, List, Some, refl, ◌∙◌, ap}
use Rattle.std.specs.Prelude.{◌==◌, nat_lt}
use Rattle.std.specs.Option.{option_map_or}
use Rattle.std.proofs.lemmas.Bool.{and_from, and_parts, eq-eqb}
use Rattle.cxl_message.specs.declared.events.Act.{Act}
use Rattle.cxl_message.specs.declared.events.Cause.{Cause}
use Rattle.cxl_message.specs.declared.events.Event.{Event}
use Rattle.cxl_message.specs.declared.identifiers.Bytes64.{Bytes64}
use Rattle.cxl_message.specs.declared.identifiers.Line.{Line}
use Rattle.cxl_message.specs.Formed.{cause_formed}
use Rattle.cxl_message.specs.Messages.{channel_of}
use Rattle.cxl_message.specs.Setup.{Configuration, IsWithinLimits}
use Rattle.coherence_model.proofs.Allowed.{allowed_by_halves, own_half_by_parts}
use Rattle.coherence_model.specs.Emission.{Emission}
use Rattle.coherence_model.specs.Fitting.{act_fits, cause_fits}
use Rattle.coherence_model.specs.Next.{event_with, receiver}
use Rattle.coherence_model.specs.Rows.{emission, is_emitted, row_holds}
use Rattle.coherence_model.specs.Runs.{IsRun, is_allowed}
use Rattle.coherence_model.specs.Traces.{device, events_of}
use Rattle.coherence_lemmas.proofs.Directions.{take_parts}
use Rattle.cxl_message.proofs.SameEvents.{same-sends_eq, same_commits}
use Rattle.step_laws.specs.Laws.{EmittedEventsAreAllowed}
use Rattle.step_laws.proofs.Counting.{device-act-allowed, host-act-allowed, take-allowed}
use Rattle.step_laws.proofs.DeviceNext.{named-snoop, named-with_tag, swap-step}
use Rattle.step_laws.proofs.OperationSound.{operation_profiled}
use Rattle.coherence_model.proofs.OwnRuns.{events_of_run}

-- the event that an emission makes is emitted by its row
own-row :
    (setup : Configuration) (opening : List (Line × Bytes64)) (g : ℕ) (cause : Cause) (w : Emission) (mine : List Event)
    → emission setup opening g cause mine ≡ Some w → row_holds setup opening (event_with g cause w) mine ≡ true
own-row setup opening g cause w mine is =
    ap (λ o. option_map_or (is_emitted (event_with g cause w)) o false) is ∙ and_from _ _ (same-sends_eq w.sends w.sends refl) (same_commits w.commit w.commit refl)

-- the tests of an act that the profile makes are those by which it is allowed
act-named :
    (setup : Configuration) → IsWithinLimits setup → (opening : List (Line × Bytes64)) (t : List Event) → IsRun setup opening t
    → (g : ℕ) (act : Act) (w : Emission) → act_fits setup g act ≡ true → row_holds setup opening (event_with g (Cause.Act act) w) (events_of g t) ≡ true
    → is_allowed setup opening t (event_with g (Cause.Act act) w) ≡ true
act-named setup limits opening t run g (Act.Conflict line) w fits row = host-act-allowed setup limits opening t run g (Act.Conflict line) w.sends w.commit
    (λ f. (and_parts _ _ f).0) ∙ and_from _ _ (and_parts _ _ fits).0 row
act-named setup limits opening t run g (Act.WriteBack line) w fits row = host-act-allowed setup limits opening t run g (Act.WriteBack line) w.sends w.commit
    (λ f. (and_parts _ _ f).0) ∙ and_from _ _ (and_parts _ _ fits).0 row
act-named setup limits opening t run g (Act.Answer line) w fits row = host-act-allowed setup limits opening t run g (Act.Answer line) w.sends w.commit
    (λ f. (and_parts _ _ f).0) ∙ and_from _ _ (and_parts _ _ fits).0 row
act-named setup limits opening t run g (Act.AnswerBlock line) w fits row = host-act-allowed setup limits opening t run g (Act.AnswerBlock line) w.sends w.commit
    (λ f. (and_parts _ _ f).0) ∙ and_from _ _ (and_parts _ _ fits).0 row
act-named setup limits opening t run g (Act.HostReturn c) w fits row = host-act-allowed setup limits opening t run g (Act.HostReturn c) w.sends w.commit (λ f. f)
    ∙ and_from _ _ fits row
act-named setup limits opening t run g (Act.Serve h tag) w fits row = device-act-allowed setup limits opening t run g (Act.Serve h tag) w.sends w.commit
    (named-with_tag g h setup.hosts _) ∙ and_from _ _ (named-with_tag g h setup.hosts _ fits) row
act-named setup limits opening t run g (Act.Clean h tag) w fits row = device-act-allowed setup limits opening t run g (Act.Clean h tag) w.sends w.commit
    (named-with_tag g h setup.hosts _) ∙ and_from _ _ (named-with_tag g h setup.hosts _ fits) row
act-named setup limits opening t run g (Act.Start h tag) w fits row = device-act-allowed setup limits opening t run g (Act.Start h tag) w.sends w.commit
    (named-with_tag g h setup.hosts _) ∙ and_from _ _ (named-with_tag g h setup.hosts _ fits) row
act-named setup limits opening t run g (Act.Evict h tag) w fits row = device-act-allowed setup limits opening t run g (Act.Evict h tag) w.sends w.commit
    (named-with_tag g h setup.hosts _) ∙ and_from _ _ (named-with_tag g h setup.hosts _ fits) row
act-named setup limits opening t run g (Act.Snoop h line) w fits row =
    let names = named-snoop (g == device) (nat_lt h setup.hosts) (nat_lt line.0 setup.lines) in
    device-act-allowed setup limits opening t run g (Act.Snoop h line) w.sends w.commit names ∙ and_from _ _ (names fits) row
act-named setup limits opening t run g (Act.Finish line) w fits row =
    let names = swap-step (g == device) (nat_lt line.0 setup.lines) in
    device-act-allowed setup limits opening t run g (Act.Finish line) w.sends w.commit names ∙ and_from _ _ (names fits) row
act-named setup limits opening t run g (Act.DeviceReturn h c) w fits row =
    let names = swap-step (g == device) (nat_lt h setup.hosts) in
    device-act-allowed setup limits opening t run g (Act.DeviceReturn h c) w.sends w.commit names ∙ and_from _ _ (names fits) row

-- what a row emits for a cause that passes, in the stream's order and of a message that may be taken, is allowed
pub emitted_events_are_allowed : EmittedEventsAreAllowed
emitted_events_are_allowed setup opening limits t run g (Cause.Op s i op) w passes order take is =
    let e : Event = event_with g (Cause.Op s i op) w in
    let mine : List Event = events_of g t in
    let row = own-row setup opening g (Cause.Op s i op) w mine is in
    let parts = and_parts (cause_formed (Cause.Op s i op)) (cause_fits setup g (Cause.Op s i op)) passes in
    allowed_by_halves setup opening t e (own_half_by_parts setup opening e mine
    (operation_profiled setup limits opening g mine (events_of_run setup opening g t run) s i op w.sends w.commit parts.0 parts.1 row) order row) take
emitted_events_are_allowed setup opening limits t run g (Cause.Take h m) w passes order take is =
    let row = own-row setup opening g (Cause.Take h m) w (events_of g t) is in
    let parts = and_parts (cause_formed (Cause.Take h m)) (cause_fits setup g (Cause.Take h m)) passes in
    let way = take_parts setup g h m parts.1 in
    take-allowed setup limits opening t run g h m w.sends w.commit ∙ and_from _ _ way.host
    (and_from _ _ (and_from _ _ (eq-eqb g (receiver h (channel_of m)) way.receiver) row) take)
emitted_events_are_allowed setup opening limits t run g (Cause.Act act) w passes order take is =
    act-named setup limits opening t run g act w (and_parts (cause_formed (Cause.Act act)) (cause_fits setup g (Cause.Act act)) passes).1
    (own-row setup opening g (Cause.Act act) w (events_of g t) is)
