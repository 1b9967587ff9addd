-- The credits left and owed after each event.
use Rattle.std.proofs.Common.{Bool, List, None, Some, [], ap, arith, cond, false, filter, length, map, refl, subst, sym, true, ℕ, ◌+◌, ◌-◌, ◌<◌, ◌∙◌, ◌∷◌, ◌≡◌, ◌≤◌}
use Rattle.std.proofs.lemmas.Bool.{and_from, and_right, eq-eqb, false≢true, false_from_ne_true}
use Rattle.std.specs.Option.{option_len}
use Rattle.std.specs.Prelude.{◌==◌}
use Rattle.cxl_message.specs.declared.channels.Channel.{Channel}
use Rattle.cxl_message.specs.declared.events.Act.{Act}
use Rattle.cxl_message.specs.declared.events.Cause.{Cause}
use Rattle.cxl_message.specs.declared.events.Event.{Event}
use Rattle.cxl_message.specs.declared.events.Op.{Op}
use Rattle.cxl_message.specs.declared.events.Out.{Out}
use Rattle.cxl_message.specs.declared.messages.Message.{Message}
use Rattle.cxl_message.specs.Channels.{has_credits}
use Rattle.cxl_message.specs.Codes.{channel_eq}
use Rattle.cxl_message.specs.Events.{outs}
use Rattle.cxl_message.specs.Messages.{channel_of, message_eq}
use Rattle.cxl_message.specs.Setup.{Configuration}
use Rattle.coherence_model.specs.Credits.{credits_left, earned_count, is_credit_for, owed_count, returned_count, sent_count, taken_count, takes_credit}
use Rattle.coherence_model.specs.Flight.{is_on, sends_on, takes_on}
use Rattle.coherence_model.specs.HostOperations.{request_message}
use Rattle.coherence_lemmas.proofs.CreditsReach.{credits_reach}
use Rattle.cxl_message.proofs.SameMessages.{message_eq-same}
use Rattle.credit_laws.proofs.Counting.{sends_counted}
use Rattle.host_laws.proofs.Events.{act_event, evicting_event, request_event}
use Rattle.host_laws.proofs.HostEvents.{OwnStep}

-- whether a message is a Credit
abbrev pub is_credit : Message → Bool
is_credit (Message.Req _ _ _ _ _) = false
is_credit (Message.MemWr _ _ _ _ _) = false
is_credit (Message.BiConflict _) = false
is_credit (Message.BiRsp _ _ _) = false
is_credit (Message.Ndr _ _) = false
is_credit (Message.MemData _ _) = false
is_credit (Message.BiSnp _ _ _ _) = false
is_credit (Message.Credit _) = true

pub no_credit : (m : Message) (c : Channel) → is_credit m ≡ false → message_eq m (Message.Credit c) ≡ false
no_credit m c none = false_from_ne_true (message_eq m (Message.Credit c)) (λ is. false≢true (sym none ∙ ap is_credit (message_eq-same m (Message.Credit c) is)))

-- how many messages and Credits an event sends and takes

on_by : (h : ℕ) (c : Channel) (m : Message) (b : Bool) → channel_eq (channel_of m) c ≡ b → is_on h c (record { host = h; message = m }) ≡ b
on_by h c m true is = and_from (h == h) (channel_eq (channel_of m) c) (eq-eqb h h refl) is
on_by h c m false is = and_right (h == h) (channel_eq (channel_of m) c) is

one_sent : (o : Out) (b : Bool) → length (map (λ (x : Out). x.message) (cond b (o ∷ []) [])) ≡ cond b 1 0
one_sent o true = refl
one_sent o false = refl

two_sent : (o p : Out) (b c : Bool) → length (map (λ (x : Out). x.message) (cond b (o ∷ cond c (p ∷ []) []) (cond c (p ∷ []) []))) ≡ cond b 1 0 + cond c 1 0
two_sent o p true true = refl
two_sent o p true false = refl
two_sent o p false true = refl
two_sent o p false false = refl

pub act_sends : (h : ℕ) (c : Channel) (act : Act) (m : Message) (b : Bool) → channel_eq (channel_of m) c ≡ b → length (sends_on h c (act_event h act m)) ≡ cond b 1 0
act_sends h c act m b is = one_sent (record { host = h; message = m }) (is_on h c (record { host = h; message = m })) ∙ ap (λ x. cond x 1 0) (on_by h c m b is)

request_channel : (op : Op) (tag : ℕ) → channel_of (request_message op tag) ≡ Channel.Req
request_channel (Op.Load line) tag = refl
request_channel (Op.Word line place value) tag = refl
request_channel (Op.Whole line bytes) tag = refl

pub request_sends : (h s i : ℕ) (op : Op) (tag : ℕ) (c : Channel) → length (sends_on h c (request_event h s i op tag)) ≡ cond (channel_eq Channel.Req c) 1 0
request_sends h s i op tag c =
    one_sent (record { host = h; message = request_message op tag }) (is_on h c (record { host = h; message = request_message op tag }))
    ∙ ap (λ x. cond x 1 0) (on_by h c (request_message op tag) (channel_eq Channel.Req c) (ap (λ d. channel_eq d c) (request_channel op tag)))

pub evict_sends : (h s i : ℕ) (op : Op) (m : Message) (tag : ℕ) (c : Channel) (b : Bool) → channel_eq (channel_of m) c ≡ b → length (sends_on h c (evicting_event h s i op m tag)) ≡ cond b 1 0 + cond (channel_eq Channel.Req c) 1 0
evict_sends h s i op m tag c b is =
    two_sent (record { host = h; message = m }) (record { host = h; message = request_message op tag }) (is_on h c (record { host = h; message = m })) (is_on h c (record { host = h; message = request_message op tag }))
    ∙ ap (λ x. cond x 1 0 + cond (is_on h c (record { host = h; message = request_message op tag })) 1 0) (on_by h c m b is)
    ∙ ap (λ x. cond b 1 0 + cond x 1 0) (on_by h c (request_message op tag) (channel_eq Channel.Req c) (ap (λ d. channel_eq d c) (request_channel op tag)))

pub take_takes : (h : ℕ) (c : Channel) (m : Message) (b : Bool) → channel_eq (channel_of m) c ≡ b → option_len (takes_on h c (Cause.Take h m)) ≡ cond b 1 0
take_takes h c m b is = one (is_on h c (record { host = h; message = m })) ∙ ap (λ x. cond x 1 0) (on_by h c m b is)
  where
    one : (b : Bool) → option_len (cond b (Some m) None) ≡ cond b 1 0
    one true = refl
    one false = refl

pub take_earns_none : (h : ℕ) (c : Channel) (m : Message) → is_credit m ≡ false → takes_credit h c (Cause.Take h m) ≡ false
take_earns_none h c m none = and_right (h == h) (message_eq m (Message.Credit c)) (no_credit m c none)

pub take_earns : (h : ℕ) (c d : Channel) (b : Bool) → message_eq (Message.Credit d) (Message.Credit c) ≡ b → takes_credit h c (Cause.Take h (Message.Credit d)) ≡ b
take_earns h c d true is = and_from (h == h) (message_eq (Message.Credit d) (Message.Credit c)) (eq-eqb h h refl) is
take_earns h c d false is = and_right (h == h) (message_eq (Message.Credit d) (Message.Credit c)) is

credit_by : (h : ℕ) (c : Channel) (m : Message) (b : Bool) → message_eq m (Message.Credit c) ≡ b → is_credit_for h c (record { host = h; message = m }) ≡ b
credit_by h c m true is = and_from (h == h) (message_eq m (Message.Credit c)) (eq-eqb h h refl) is
credit_by h c m false is = and_right (h == h) (message_eq m (Message.Credit c)) is

pub act_returns : (h : ℕ) (c : Channel) (act : Act) (m : Message) (b : Bool) → message_eq m (Message.Credit c) ≡ b → length (filter (is_credit_for h c) (outs (act_event h act m).sends)) ≡ cond b 1 0
act_returns h c act m b is = one (is_credit_for h c (record { host = h; message = m })) ∙ ap (λ x. cond x 1 0) (credit_by h c m b is)
  where
    one : (b : Bool) → length {A = Out} (cond b (record { host = h; message = m } ∷ []) []) ≡ cond b 1 0
    one true = refl
    one false = refl

request_no_credit : (op : Op) (tag : ℕ) → is_credit (request_message op tag) ≡ false
request_no_credit (Op.Load line) tag = refl
request_no_credit (Op.Word line place value) tag = refl
request_no_credit (Op.Whole line bytes) tag = refl

pub request_returns : (h s i : ℕ) (op : Op) (tag : ℕ) (c : Channel) → length (filter (is_credit_for h c) (outs (request_event h s i op tag).sends)) ≡ 0
request_returns h s i op tag c =
    ap (λ b. length {A = Out} (cond b (record { host = h; message = request_message op tag } ∷ []) [])) (credit_by h c (request_message op tag) false (no_credit (request_message op tag) c (request_no_credit op tag)))

pub evict_returns : (h s i : ℕ) (op : Op) (m : Message) (tag : ℕ) (c : Channel) → is_credit m ≡ false → length (filter (is_credit_for h c) (outs (evicting_event h s i op m tag).sends)) ≡ 0
evict_returns h s i op m tag c none =
    ap (λ b. length {A = Out} (cond b (record { host = h; message = m } ∷ filter (is_credit_for h c) (record { host = h; message = request_message op tag } ∷ [])) (filter (is_credit_for h c) (record { host = h; message = request_message op tag } ∷ [])))) (credit_by h c m false (no_credit m c none))
    ∙ request_returns h s i op tag c

-- left

left_as : (c e s : ℕ) → (c + (0 + e)) - (0 + s) ≡ (c + e) - s
left_as c e s = omega arith

left_less : (c e s n : ℕ) → (c + (0 + e)) - (n + s) ≡ ((c + e) - s) - n
left_less c e s n = omega arith

left_more : (c e s : ℕ) → s ≤ c + e → (c + (1 + e)) - (0 + s) ≡ ((c + e) - s) + 1
left_more c e s within = omega arith

pub left_same : (setup : Configuration) (h : ℕ) (c : Channel) (e : Event) (mine : List Event) → takes_credit h c e.cause ≡ false → length (sends_on h c e) ≡ 0 → credits_left setup h c (e ∷ mine) ≡ credits_left setup h c mine
left_same setup h c e mine none sent =
    ap (λ b. (setup.credits + (cond b 1 0 + earned_count h c mine)) - (length (sends_on h c e) + sent_count h c mine)) none
    ∙ ap (λ n. (setup.credits + (0 + earned_count h c mine)) - (n + sent_count h c mine)) sent
    ∙ left_as setup.credits (earned_count h c mine) (sent_count h c mine)

pub left_sent : (setup : Configuration) (h : ℕ) (c : Channel) (n : ℕ) (e : Event) (mine : List Event) → takes_credit h c e.cause ≡ false → length (sends_on h c e) ≡ n → credits_left setup h c (e ∷ mine) ≡ credits_left setup h c mine - n
left_sent setup h c n e mine none sent =
    ap (λ b. (setup.credits + (cond b 1 0 + earned_count h c mine)) - (length (sends_on h c e) + sent_count h c mine)) none
    ∙ ap (λ k. (setup.credits + (0 + earned_count h c mine)) - (k + sent_count h c mine)) sent
    ∙ left_less setup.credits (earned_count h c mine) (sent_count h c mine) n

pub left_earned : (setup : Configuration) (h : ℕ) (c : Channel) (e : Event) (mine : List Event) → sent_count h c mine ≤ setup.credits + earned_count h c mine
    → takes_credit h c e.cause ≡ true → length (sends_on h c e) ≡ 0 → credits_left setup h c (e ∷ mine) ≡ credits_left setup h c mine + 1
left_earned setup h c e mine within takes sent =
    ap (λ b. (setup.credits + (cond b 1 0 + earned_count h c mine)) - (length (sends_on h c e) + sent_count h c mine)) takes
    ∙ ap (λ n. (setup.credits + (1 + earned_count h c mine)) - (n + sent_count h c mine)) sent
    ∙ left_more setup.credits (earned_count h c mine) (sent_count h c mine) within

-- owed, with some messages buffered before and after

owed_as : (t r b : ℕ) → ((0 + t) - b) - (0 + r) ≡ (t - b) - r
owed_as t r b = omega arith

owed_less : (t r b : ℕ) → ((0 + t) - b) - (1 + r) ≡ ((t - b) - r) - 1
owed_less t r b = omega arith

owed_more : (t r b : ℕ) → r + b ≤ t → ((1 + t) - b) - (0 + r) ≡ ((t - b) - r) + 1
owed_more t r b within = omega arith

owed_buffered : (t r b : ℕ) → ((1 + t) - (b + 1)) - (0 + r) ≡ (t - b) - r
owed_buffered t r b = omega arith

owed_freed : (t r b b' : ℕ) → r + b ≤ t → b' ≤ b → ((0 + t) - b') - (0 + r) ≡ ((t - b) - r) + (b - b')
owed_freed t r b b' within fewer = omega arith

pub owed_same : (h : ℕ) (c : Channel) (b : ℕ) (e : Event) (mine : List Event) → option_len (takes_on h c e.cause) ≡ 0 → length (filter (is_credit_for h c) (outs e.sends)) ≡ 0 → owed_count h c b (e ∷ mine) ≡ owed_count h c b mine
owed_same h c b e mine taken given =
    ap (λ n. ((n + taken_count h c mine) - b) - (length (filter (is_credit_for h c) (outs e.sends)) + returned_count h c mine)) taken
    ∙ ap (λ n. ((0 + taken_count h c mine) - b) - (n + returned_count h c mine)) given ∙ owed_as (taken_count h c mine) (returned_count h c mine) b

pub owed_taken : (h : ℕ) (c : Channel) (b : ℕ) (e : Event) (mine : List Event) → returned_count h c mine + b ≤ taken_count h c mine
    → option_len (takes_on h c e.cause) ≡ 1 → length (filter (is_credit_for h c) (outs e.sends)) ≡ 0 → owed_count h c b (e ∷ mine) ≡ owed_count h c b mine + 1
owed_taken h c b e mine within taken given =
    ap (λ n. ((n + taken_count h c mine) - b) - (length (filter (is_credit_for h c) (outs e.sends)) + returned_count h c mine)) taken
    ∙ ap (λ n. ((1 + taken_count h c mine) - b) - (n + returned_count h c mine)) given ∙ owed_more (taken_count h c mine) (returned_count h c mine) b within

pub owed_kept : (h : ℕ) (c : Channel) (b : ℕ) (e : Event) (mine : List Event) → option_len (takes_on h c e.cause) ≡ 1 → length (filter (is_credit_for h c) (outs e.sends)) ≡ 0 → owed_count h c (b + 1) (e ∷ mine) ≡ owed_count h c b mine
owed_kept h c b e mine taken given =
    ap (λ n. ((n + taken_count h c mine) - (b + 1)) - (length (filter (is_credit_for h c) (outs e.sends)) + returned_count h c mine)) taken
    ∙ ap (λ n. ((1 + taken_count h c mine) - (b + 1)) - (n + returned_count h c mine)) given ∙ owed_buffered (taken_count h c mine) (returned_count h c mine) b

pub owed_returned : (h : ℕ) (c : Channel) (b : ℕ) (e : Event) (mine : List Event) → option_len (takes_on h c e.cause) ≡ 0 → length (filter (is_credit_for h c) (outs e.sends)) ≡ 1 → owed_count h c b (e ∷ mine) ≡ owed_count h c b mine - 1
owed_returned h c b e mine taken given =
    ap (λ n. ((n + taken_count h c mine) - b) - (length (filter (is_credit_for h c) (outs e.sends)) + returned_count h c mine)) taken
    ∙ ap (λ n. ((0 + taken_count h c mine) - b) - (n + returned_count h c mine)) given ∙ owed_less (taken_count h c mine) (returned_count h c mine) b

pub owed_answered : (h : ℕ) (c : Channel) (b b' : ℕ) (e : Event) (mine : List Event) → returned_count h c mine + b ≤ taken_count h c mine → b' ≤ b
    → option_len (takes_on h c e.cause) ≡ 0 → length (filter (is_credit_for h c) (outs e.sends)) ≡ 0 → owed_count h c b' (e ∷ mine) ≡ owed_count h c b mine + (b - b')
owed_answered h c b b' e mine within fewer taken given =
    ap (λ n. ((n + taken_count h c mine) - b') - (length (filter (is_credit_for h c) (outs e.sends)) + returned_count h c mine)) taken
    ∙ ap (λ n. ((0 + taken_count h c mine) - b') - (n + returned_count h c mine)) given ∙ owed_freed (taken_count h c mine) (returned_count h c mine) b b' within fewer

-- what was sent is within the credits

pub within_step : (setup : Configuration) (h : ℕ) (c : Channel) (e : Event) (mine : List Event) → has_credits c ≡ true → OwnStep setup h mine e → sent_count h c mine ≤ setup.credits + earned_count h c mine → sent_count h c (e ∷ mine) ≤ setup.credits + earned_count h c (e ∷ mine)
within_step setup h c e mine credited own before =
    let reach = credits_reach setup h c own.w.sends mine credited own.paid in
    let there = subst (λ sends. Rattle.coherence_lemmas.proofs.CreditsReach.count_on h c (outs sends) ≤ credits_left setup h c mine) (sym own.sends) reach in
    let count = sends_counted h c e in
    omega (arith, there, count, before)
