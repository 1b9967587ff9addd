-- Where a list joined from others is empty, each of them is; and where an act isn't next, its row doesn't hold or its credits don't reach.
use Rattle.std.proofs.Common.{◌≡◌, ℕ, zero, suc, ◌+◌, ◌≤◌, ◌<◌, Bool, true, false, List, [], ◌∷◌, ◌++◌, Option, Some, None, cond, flat_map, refl, ◌∙◌, ap, subst, arith, ◌⊎◌, inl, inr}
use Rattle.std.specs.Prelude.{nat_lt, option_map, option_to_list, ◌&&◌}
use Rattle.std.specs.List.{range_with_len}
use Rattle.std.proofs.lemmas.Bool.Decides.{nat_tests}
use Rattle.cxl_message.specs.declared.channels.Channel.{Channel}
use Rattle.cxl_message.specs.declared.events.Act.{Act}
use Rattle.cxl_message.specs.declared.events.Cause.{Cause}
use Rattle.cxl_message.specs.declared.events.Event.{Event}
use Rattle.cxl_message.specs.declared.identifiers.Bytes64.{Bytes64}
use Rattle.cxl_message.specs.declared.identifiers.Line.{Line}
use Rattle.cxl_message.specs.declared.messages.Message.{Message}
use Rattle.cxl_message.specs.Channels.{has_credits}
use Rattle.cxl_message.specs.Lists.{below}
use Rattle.cxl_message.specs.Messages.{channel_of}
use Rattle.cxl_message.specs.Setup.{Configuration}
use Rattle.coherence_model.specs.Credits.{channel_short_of, credits_left, lacking_channel}
use Rattle.coherence_model.specs.DeviceActs.{device_acts}
use Rattle.coherence_model.specs.Emission.{Emission, one_send}
use Rattle.coherence_model.specs.Fitting.{is_device}
use Rattle.coherence_model.specs.HostActs.{host_acts}
use Rattle.coherence_model.specs.Next.{act_step, channels, event_with, or_else, step_of}
use Rattle.coherence_model.specs.Rows.{emission}
use Rattle.coherence_model.specs.Traces.{device, events_of}
use Rattle.coherence_lemmas.proofs.Rows.{device_row, emission_from, host_row}
use Rattle.step_laws.proofs.Counts.{Each}

-- ---- lists

pub first_empty : {X : Type 0} (xs ys : List X) → xs ++ ys ≡ [] → xs ≡ []
first_empty [] ys e = refl
first_empty (x ∷ xs) ys e = cc

pub last_empty : {X : Type 0} (xs ys : List X) → xs ++ ys ≡ [] → ys ≡ []
last_empty [] ys e = e
last_empty (x ∷ xs) ys e = cc

pub each_empty : {X Y : Type 0} (f : X → List Y) (xs : List X) → flat_map f xs ≡ [] → Each (λ x. f x ≡ []) xs
each_empty f [] e = tt
each_empty f (x ∷ xs) e = (first_empty (f x) (flat_map f xs) e, each_empty f xs (last_empty (f x) (flat_map f xs) e))

here_or_later : (a x : ℕ) → a ≤ x → (a ≡ x) ⊎ (a + 1 ≤ x)
here_or_later a x h = grind arith

range_empty : {Y : Type 0} (f : ℕ → List Y) (a n x : ℕ) → flat_map f (range_with_len a n) ≡ [] → a ≤ x → x < a + n → f x ≡ []
range_empty f a zero x e least most = absurd (omega arith)
range_empty f a (suc n) x e least most =
    elim (here_or_later a x least) [
      | inl same ↦ subst (λ y. f y ≡ []) same (first_empty (f a) (flat_map f (range_with_len (a + 1) n)) e)
      | inr later ↦ range_empty f (a + 1) n x (last_empty (f a) (flat_map f (range_with_len (a + 1) n)) e) later (omega arith)
    ]

pub below_empty : {Y : Type 0} (f : ℕ → List Y) (n x : ℕ) → flat_map f (below n) ≡ [] → x < n → f x ≡ []
below_empty f n x e less = range_empty f 0 n x e (omega arith) (omega arith)

pub channel_empty : {Y : Type 0} (f : Channel → List Y) → flat_map f channels ≡ [] → (c : Channel) → f c ≡ []
channel_empty f e c = by_channel c
  where
    parts : Each (λ x. f x ≡ []) channels
    parts = each_empty f channels e

    by_channel : (c : Channel) → f c ≡ []
    by_channel Channel.Req = parts.0
    by_channel Channel.Rwd = parts.1.0
    by_channel Channel.BiRsp = parts.1.1.0
    by_channel Channel.Ndr = parts.1.1.1.0
    by_channel Channel.Drs = parts.1.1.1.1.0
    by_channel Channel.BiSnp = parts.1.1.1.1.1.0
    by_channel Channel.CreditUp = parts.1.1.1.1.1.1.0
    by_channel Channel.CreditDown = parts.1.1.1.1.1.1.1.0

-- the first of two lists that isn't empty
pub else_empty : (xs ys : List Event) → or_else xs ys ≡ [] → (xs ≡ []) × (ys ≡ [])
else_empty [] ys e = (refl, e)
else_empty (x ∷ xs) ys e = cc

-- ---- steps

emitted_by : (g : ℕ) (cause : Cause) (o : Option Emission) (w : Emission) → option_to_list (option_map (event_with g cause) o) ≡ [] → o ≡ Some w → ⊥
emitted_by g cause None w e is = cc
emitted_by g cause (Some x) w e is = cc

-- what isn't next isn't emitted
pub not_emitted : (setup : Configuration) (opening : List (Line × Bytes64)) (t : List Event) (g : ℕ) (cause : Cause) (w : Emission) → step_of setup opening t g cause ≡ [] → emission setup opening g cause (events_of g t) ≡ Some w → ⊥
not_emitted setup opening t g cause w e is = emitted_by g cause (emission setup opening g cause (events_of g t)) w e is

pub host_act_not :
    (setup : Configuration) (opening : List (Line × Bytes64)) (t : List Event) (h : ℕ) (act : Act) (w : Emission) → is_device h ≡ false → act_step setup opening t h act ≡ []
    → host_acts setup h act (events_of h t) ≡ Some w → lacking_channel setup w.sends (events_of h t) ≡ None → ⊥
host_act_not setup opening t h act w no_device e row paid =
    not_emitted setup opening t h (Cause.Act act) w e (emission_from setup opening h (Cause.Act act) (events_of h t) w (host_row setup opening h (Cause.Act act) (events_of h t) no_device ∙ row) paid)

pub device_act_not :
    (setup : Configuration) (opening : List (Line × Bytes64)) (t : List Event) (act : Act) (w : Emission) → act_step setup opening t device act ≡ []
    → device_acts setup opening act (events_of device t) ≡ Some w → lacking_channel setup w.sends (events_of device t) ≡ None → ⊥
device_act_not setup opening t act w e row paid =
    not_emitted setup opening t device (Cause.Act act) w e (emission_from setup opening device (Cause.Act act) (events_of device t) w (device_row setup opening device (Cause.Act act) (events_of device t) refl ∙ row) paid)

-- ---- credits that reach

not_short : (credited : Bool) (left n : ℕ) (c : Channel) → (credited ≡ true → n ≤ left) → cond (credited && nat_lt left n) (Some c) None ≡ None
not_short false left n c enough = refl
not_short true left n c enough = ap (λ b. cond b (Some c) None) (not_less left n (enough refl))
  where
    not_less : (x y : ℕ) → y ≤ x → nat_lt x y ≡ false
    not_less x y h = grind (arith, nat_tests)

-- n credits reach for a message of a channel
pub reaches : (setup : Configuration) (n h : ℕ) (m : Message) (mine : List Event) → (has_credits (channel_of m) ≡ true → n ≤ credits_left setup h (channel_of m) mine)
    → channel_short_of setup n (record { host = h; message = m }) mine ≡ None
reaches setup n h m mine enough = not_short (has_credits (channel_of m)) (credits_left setup h (channel_of m) mine) n (channel_of m) enough

pub one_paid : (setup : Configuration) (h : ℕ) (m : Message) (mine : List Event) (w : Emission) → w ≡ one_send h m → (has_credits (channel_of m) ≡ true → 1 ≤ credits_left setup h (channel_of m) mine) → lacking_channel setup w.sends mine ≡ None
one_paid setup h m mine w is enough = ap (λ (x : Emission). lacking_channel setup x.sends mine) is ∙ reaches setup 1 h m mine enough
