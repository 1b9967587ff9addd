-- Where no channel lacks a credit, those left reach for all that is sent on a channel.
use Rattle.std.proofs.Common.{◌≡◌, ◌≤◌, ℕ, Bool, true, false, IsTrue, List, [], ◌∷◌, Option, Some, None, cond, length, refl, sym, ◌∙◌, ap, subst, arith}
use Rattle.std.specs.Prelude.{filter, nat_lt, ◌&&◌, ◌==◌}
use Rattle.std.specs.Option.{option_or}
use Rattle.std.proofs.lemmas.Bool.{and_from, and_parts, cond-true, eq-eqb, eqb-true, ltb-false}
use Rattle.cxl_message.specs.declared.channels.Channel.{Channel}
use Rattle.cxl_message.specs.declared.events.Event.{Event}
use Rattle.cxl_message.specs.declared.events.Out.{Out}
use Rattle.cxl_message.specs.declared.events.Sends.{Sends}
use Rattle.cxl_message.specs.Channels.{has_credits}
use Rattle.cxl_message.specs.Codes.{channel_eq}
use Rattle.cxl_message.specs.Events.{outs}
use Rattle.cxl_message.specs.Messages.{channel_of}
use Rattle.cxl_message.specs.Setup.{Configuration}
use Rattle.coherence_model.specs.Credits.{channel_short_of, credits_left, credits_needed, lacking_channel}
use Rattle.coherence_model.specs.Flight.{is_on}
use Rattle.cxl_message.proofs.SameNames.{channel_eq-same, same-channel_eq}

-- how many of the sent messages go on channel c of host h
abbrev pub count_on : ℕ → Channel → List Out → ℕ
count_on h c os = length (filter (is_on h c) os)

-- a message on a channel has that host and that channel
pub record OnChannel (h : ℕ) (c : Channel) (o : Out) : Type 0 where
  pub host : o.host ≡ h
  pub channel : channel_of o.message ≡ c

pub on_channel : (h : ℕ) (c : Channel) (o : Out) → IsTrue (is_on h c o) → OnChannel h c o
on_channel h c o on = let parts = and_parts _ _ on in record { host = eqb-true o.host h parts.0; channel = channel_eq-same (channel_of o.message) c parts.1 }

-- a test whose branch with something gave nothing failed
not_short : (test : Bool) (c : Channel) → cond test (Some c) None ≡ None → test ≡ false
not_short true c e = cc
not_short false c e = refl

second_fails : (x y : Bool) → (x && y) ≡ false → x ≡ true → y ≡ false
second_fails true y e t = e
second_fails false y e t = cc

-- where n credits don't lack for a message on channel c, n are left
enough : (setup : Configuration) (n h : ℕ) (c : Channel) (o : Out) (mine : List Event)
    → has_credits c ≡ true → IsTrue (is_on h c o) → channel_short_of setup n o mine ≡ None → n ≤ credits_left setup h c mine
enough setup n h c o mine credited on e =
    let at = on_channel h c o on in
    let there : nat_lt (credits_left setup o.host (channel_of o.message) mine) n ≡ false =
    second_fails (has_credits (channel_of o.message)) _ (not_short _ (channel_of o.message) e) (ap has_credits at.channel ∙ credited) in
    subst (λ x. n ≤ credits_left setup x c mine) at.host (subst (λ x. n ≤ credits_left setup o.host x mine) at.channel (ltb-false (credits_left setup o.host (channel_of o.message) mine) n there))

-- one message, on the channel or not
one_reaches : (setup : Configuration) (h : ℕ) (c : Channel) (o : Out) (mine : List Event) (on : Bool) → is_on h c o ≡ on
    → has_credits c ≡ true → channel_short_of setup 1 o mine ≡ None → length (cond on (o ∷ []) []) ≤ credits_left setup h c mine
one_reaches setup h c o mine true is credited e = enough setup 1 h c o mine credited is e
one_reaches setup h c o mine false is credited e = omega arith

-- two messages on one channel need two credits for the first
both_needed : (h : ℕ) (c : Channel) (o p : Out) → IsTrue (is_on h c o) → IsTrue (is_on h c p) → credits_needed o p ≡ 2
both_needed h c o p ono onp =
    let first = on_channel h c o ono in
    let second = on_channel h c p onp in
    cond-true ((o.host == p.host) && channel_eq (channel_of o.message) (channel_of p.message)) 2 1
    (and_from _ _ (eq-eqb o.host p.host (first.host ∙ sym second.host)) (same-channel_eq (channel_of o.message) (channel_of p.message) (first.channel ∙ sym second.channel)))

at_least_one : (both : Bool) → 1 ≤ cond both 2 1
at_least_one true = omega arith
at_least_one false = omega arith

-- of two messages, by which are on the channel
two_reach : (setup : Configuration) (h : ℕ) (c : Channel) (o p : Out) (mine : List Event) (ono onp : Bool) → is_on h c o ≡ ono → is_on h c p ≡ onp
    → has_credits c ≡ true → channel_short_of setup (credits_needed o p) o mine ≡ None → channel_short_of setup 1 p mine ≡ None
    → length (cond ono (o ∷ cond onp (p ∷ []) []) (cond onp (p ∷ []) [])) ≤ credits_left setup h c mine
two_reach setup h c o p mine true true iso isp credited eo ep =
    enough setup 2 h c o mine credited iso (subst (λ n. channel_short_of setup n o mine ≡ None) (both_needed h c o p iso isp) eo)
two_reach setup h c o p mine true false iso isp credited eo ep =
    let needed = enough setup (credits_needed o p) h c o mine credited iso eo in
    let least = at_least_one ((o.host == p.host) && channel_eq (channel_of o.message) (channel_of p.message)) in
    omega arith
two_reach setup h c o p mine false true iso isp credited eo ep = enough setup 1 h c p mine credited isp ep
two_reach setup h c o p mine false false iso isp credited eo ep = omega arith

-- neither of two options has something
neither : (x y : Option Channel) → option_or x y ≡ None → (x ≡ None) × (y ≡ None)
neither None y e = (refl, e)
neither (Some c) y e = cc

-- the credits left reach for all that is sent on a channel
pub credits_reach : (setup : Configuration) (h : ℕ) (c : Channel) (sends : Sends) (mine : List Event)
    → has_credits c ≡ true → lacking_channel setup sends mine ≡ None → count_on h c (outs sends) ≤ credits_left setup h c mine
credits_reach setup h c Sends.Nothing mine credited e = omega arith
credits_reach setup h c (Sends.One o) mine credited e = one_reaches setup h c o mine (is_on h c o) refl credited e
credits_reach setup h c (Sends.Two o p) mine credited e =
    let both = neither (channel_short_of setup (credits_needed o p) o mine) (channel_short_of setup 1 p mine) e in
    two_reach setup h c o p mine (is_on h c o) (is_on h c p) refl refl credited both.0 both.1
