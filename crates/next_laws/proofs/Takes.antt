-- The takes among the next steps are those of the messages that may be taken.
use Rattle.std.proofs.Common.{◌≡◌, ℕ, Bool, true, false, cond, IsTrue, List, [], ◌∷◌, map, Option, Some, None, refl, ap, sym, ◌∙◌}
use Rattle.std.specs.Prelude.{filter, flat_map, is_some, option_map, option_to_list}
use Rattle.std.proofs.lemmas.Bool.{false≢true}
use Rattle.cxl_message.specs.declared.channels.Channel.{Channel}
use Rattle.cxl_message.specs.declared.events.Cause.{Cause}
use Rattle.cxl_message.specs.declared.events.Event.{Event}
use Rattle.cxl_message.specs.declared.identifiers.Bytes64.{Bytes64}
use Rattle.cxl_message.specs.declared.identifiers.Line.{Line}
use Rattle.cxl_message.specs.declared.messages.Message.{Message}
use Rattle.cxl_message.specs.Messages.{channel_of}
use Rattle.cxl_message.specs.Setup.{Configuration, IsWithinLimits}
use Rattle.coherence_model.specs.Emission.{Emission}
use Rattle.coherence_model.specs.Fitting.{is_host}
use Rattle.coherence_model.specs.Flight.{in_flight, is_takeable}
use Rattle.coherence_model.specs.Next.{channels, event_with, next_takes, receiver, step_of}
use Rattle.coherence_model.specs.Rows.{emission}
use Rattle.coherence_model.specs.Runs.{IsRun}
use Rattle.coherence_model.specs.Traces.{events_of}
use Rattle.step_laws.proofs.Counts.{Each, each_both, each_filter, each_holds}
use Rattle.step_laws.proofs.Flight.{in_flight-channel}
use Rattle.progress_laws.specs.Laws.{MayBeTaken}
use Rattle.progress_laws.proofs.HostTakes.{completions_taken, credits_down_taken, credits_up_taken, data_taken}
use Rattle.progress_laws.proofs.SnoopTakes.{answers_taken, snoops_taken}
use Rattle.progress_laws.proofs.Takes.{requests_may_be_taken}
use Rattle.progress_laws.proofs.Writes.{writes_may_be_taken}
use Rattle.next_laws.specs.Told.{take_told, takeable_among, takes_told, told}
use Rattle.next_laws.proofs.Lists.{map_parts, parts_of_images, single_parts}

-- what may be taken of any channel may be taken there
all_may : (c : Channel) → MayBeTaken c
all_may Channel.Req = requests_may_be_taken
all_may Channel.Rwd = writes_may_be_taken
all_may Channel.BiRsp = answers_taken
all_may Channel.Ndr = completions_taken
all_may Channel.Drs = data_taken
all_may Channel.BiSnp = snoops_taken
all_may Channel.CreditUp = credits_up_taken
all_may Channel.CreditDown = credits_down_taken

-- what a filter keeps passes
kept_pass : {X : Type 0} (p : X → Bool) (x : X) (ys : List X) (b : Bool) → p x ≡ b → Each (λ y. p y ≡ true) ys → Each (λ y. p y ≡ true) (cond b (x ∷ ys) ys)
kept_pass p x ys true is rest = (is, rest)
kept_pass p x ys false is rest = rest

all_pass : {X : Type 0} (p : X → Bool) (xs : List X) → Each (λ x. p x ≡ true) (filter p xs)
all_pass p [] = tt
all_pass p (x ∷ xs) = kept_pass p x (filter p xs) (p x) refl (all_pass p xs)

-- the step of a cause whose row emits, as it is told
one_step : (g : ℕ) (cause : Cause) (o : Option Emission) → is_some o ≡ true → map told (option_to_list (option_map (event_with g cause) o)) ≡ (g, cause) ∷ []
one_step g cause (Some w) is = refl
one_step g cause None is = absurd (false≢true is)

-- the take of what may be taken of a channel, as it is told
take_is_told :
    (setup : Configuration) (opening : List (Line × Bytes64)) → IsWithinLimits setup → (t : List Event) → IsRun setup opening t → (h : ℕ) → IsTrue (is_host setup h) → (c : Channel) (m : Message)
    → channel_of m ≡ c → is_takeable m (in_flight h c t) ≡ true → map told (step_of setup opening t (receiver h c) (Cause.Take h m)) ≡ take_told h m ∷ []
take_is_told setup opening limits t run h host c m on may =
    one_step (receiver h c) (Cause.Take h m) (emission setup opening (receiver h c) (Cause.Take h m) (events_of (receiver h c) t)) (all_may c setup opening limits t run h host m may)
    ∙ ap (λ d. (receiver h d, Cause.Take h m) ∷ []) (sym on)

-- the takes of a channel
channel_takes :
    (setup : Configuration) (opening : List (Line × Bytes64)) → IsWithinLimits setup → (t : List Event) → IsRun setup opening t → (h : ℕ) → IsTrue (is_host setup h) → (c : Channel)
    → map told (next_takes setup opening t h c) ≡ map (take_told h) (takeable_among (in_flight h c t))
channel_takes setup opening limits t run h host c =
    let waiting = in_flight h c t in
    let one : (m : Message) → List Event = λ m. step_of setup opening t (receiver h c) (Cause.Take h m) in
    map_parts told one (λ m. take_told h m ∷ []) (takeable_among waiting)
    (each_both (λ m. channel_of m ≡ c) (λ m. is_takeable m waiting ≡ true) (λ m. map told (one m) ≡ take_told h m ∷ []) (take_is_told setup opening limits t run h host c) (takeable_among waiting)
    (each_filter (λ m. channel_of m ≡ c) (λ m. is_takeable m waiting) waiting (in_flight-channel h c t)) (all_pass (λ m. is_takeable m waiting) waiting))
    ∙ single_parts (λ m. take_told h m ∷ []) (take_told h) (takeable_among waiting) (each_holds (λ m. take_told h m ∷ [] ≡ take_told h m ∷ []) (λ m. refl) (takeable_among waiting))

-- the takes of a host's channels
pub host_takes_are_told :
    (setup : Configuration) (opening : List (Line × Bytes64)) → IsWithinLimits setup → (t : List Event) → IsRun setup opening t → (h : ℕ) → IsTrue (is_host setup h)
    → map told (flat_map (next_takes setup opening t h) channels) ≡ takes_told t h
host_takes_are_told setup opening limits t run h host =
    map_parts told (next_takes setup opening t h) (λ c. map (take_told h) (takeable_among (in_flight h c t))) channels
    (each_holds _ (channel_takes setup opening limits t run h host) channels)
    ∙ parts_of_images (take_told h) (λ c. takeable_among (in_flight h c t)) channels
