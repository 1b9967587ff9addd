-- The messages under way from a host to the device, in flight or buffered: what the device's events and the host's own leave of them.
use Rattle.std.proofs.Common.{◌≡◌, ℕ, ◌+◌, ◌≤◌, Bool, true, false, List, [], ◌∷◌, ◌++◌, Option, Some, None, cond, count_by, refl, sym, ◌∙◌, ap, subst, arith, inl, inr}
use Rattle.std.specs.Prelude.{◌&&◌}
use Rattle.cxl_message.specs.declared.channels.Channel.{Channel}
use Rattle.cxl_message.specs.declared.events.Cause.{Cause}
use Rattle.cxl_message.specs.declared.events.Sends.{Sends}
use Rattle.cxl_message.specs.declared.messages.Message.{Message}
use Rattle.cxl_message.specs.Codes.{channel_eq}
use Rattle.cxl_message.specs.Messages.{channel_of}
use Rattle.coherence_model.specs.Buffers.{request_used_by, requests_after, write_used_by, writes_after}
use Rattle.coherence_model.specs.Flight.{takes_on, without_taken}
use Rattle.coherence_model.specs.Words.{with_last}
use Rattle.request_laws.proofs.Counts.{count_by-append, count_by-cons}
use Rattle.request_laws.proofs.DeviceCauses.{WasThere}
use Rattle.request_laws.proofs.Each.{Each, each_append, each_with_last, each_without_taken, each_without_used}
use Rattle.request_laws.proofs.HostPlaces.{Taken}
use Rattle.request_laws.proofs.Places.{if_there, on_channel, sent_one, sent_two}
use Rattle.snoop_laws.proofs.Counts.{Among, found_among}

-- what holds of each message holds of one among them
pub each_at : (P : Message → Type 0) (m : Message) (ms : List Message) → Each P ms → Among m ms → P m
each_at P m [] each there = absurd there
each_at P m (n ∷ ns) each there = elim there [
  | inl same ↦ subst P (sym same) each.0
  | inr later ↦ each_at P m ns each.1 later
]

-- each message has what holds of each one that is there
pub each_from : (P : Message → Type 0) (ms : List Message) → ((m : Message) → Among m ms → P m) → Each P ms
each_from P [] each = tt
each_from P (m ∷ ms) each = (each m (inl refl), each_from P ms (λ n there. each n (inr there)))

-- a message that counts is among them
pub record Counted (p : Message → Bool) (ms : List Message) : Type 0 where
  pub m : Message
  pub there : Among m ms
  pub passes : p m ≡ true

counted_by : (p : Message → Bool) (n : Message) (ns : List Message) (b : Bool) → p n ≡ b → 1 ≤ cond b 1 0 + count_by p ns → (1 ≤ count_by p ns → Counted p ns) → Counted p (n ∷ ns)
counted_by p n ns true is some later = record { m = n; there = inl refl; passes = is }
counted_by p n ns false is some later = let rest = later (omega arith) in record { m = rest.m; there = inr rest.there; passes = rest.passes }

pub counted : (p : Message → Bool) (ms : List Message) → 1 ≤ count_by p ms → Counted p ms
counted p [] some = absurd (omega arith)
counted p (n ∷ ns) some = counted_by p n ns (p n) refl (subst (λ k. 1 ≤ k) (count_by-cons p n ns) some) (counted p ns)

-- fewer pass two tests than one
both_less : (b c : Bool) (n m : ℕ) → n ≤ m → cond (b && c) 1 0 + n ≤ cond b 1 0 + m
both_less true true n m h = omega arith
both_less true false n m h = omega arith
both_less false c n m h = omega arith

pub count_both : (p q : Message → Bool) (ms : List Message) → count_by (λ m. p m && q m) ms ≤ count_by p ms
count_both p q [] = omega arith
count_both p q (m ∷ ms) =
    let both = count_by-cons (λ n. p n && q n) m ms in
    let one = count_by-cons p m ms in
    let step = both_less (p m) (q m) (count_by (λ n. p n && q n) ms) (count_by p ms) (count_both p q ms) in
    omega arith

-- ---- what is sent

count_there : (p : Message → Bool) (b : Bool) (m : Message) → count_by p (if_there b m) ≡ cond b (cond (p m) 1 0) 0
count_there p true m = count_by-cons p m [] ∙ zero_more (cond (p m) 1 0)
  where
    zero_more : (n : ℕ) → n + 0 ≡ n
    zero_more n = omega arith
count_there p false m = refl

-- how many of what a host sends on one of its channels pass, where it sends nothing, one message or two
pub count_none : (p : Message → Bool) (h : ℕ) (c : Channel) (sends : Sends) (fl : List Message) → sends ≡ Sends.Nothing → count_by p (fl ++ on_channel h c sends) ≡ count_by p fl
count_none p h c sends fl none =
    let sum = count_by-append p fl (on_channel h c sends) in
    let zero = ap (λ x. count_by p (on_channel h c x)) none in
    omega arith

pub count_one : (p : Message → Bool) (h : ℕ) (c : Channel) (sends : Sends) (m : Message) (fl : List Message) → sends ≡ Sends.One (record { host = h; message = m })
    → count_by p (fl ++ on_channel h c sends) ≡ count_by p fl + cond (channel_eq (channel_of m) c) (cond (p m) 1 0) 0
count_one p h c sends m fl one =
    let sum = count_by-append p fl (on_channel h c sends) in
    let sent = ap (λ x. count_by p (on_channel h c x)) one ∙ ap (count_by p) (sent_one h c m) ∙ count_there p (channel_eq (channel_of m) c) m in
    omega arith

pub count_two : (p : Message → Bool) (h : ℕ) (c : Channel) (sends : Sends) (m n : Message) (fl : List Message) → sends ≡ Sends.Two (record { host = h; message = m }) (record { host = h; message = n })
    → count_by p (fl ++ on_channel h c sends) ≡ count_by p fl + cond (channel_eq (channel_of m) c) (cond (p m) 1 0) 0 + cond (channel_eq (channel_of n) c) (cond (p n) 1 0) 0
count_two p h c sends m n fl two =
    let sum = count_by-append p fl (on_channel h c sends) in
    let sent = ap (λ x. count_by p (on_channel h c x)) two ∙ ap (count_by p) (sent_two h c m n) ∙ count_by-append p (if_there (channel_eq (channel_of m) c) m) (if_there (channel_eq (channel_of n) c) n) in
    let first = count_there p (channel_eq (channel_of m) c) m in
    let second = count_there p (channel_eq (channel_of n) c) n in
    omega arith

-- a message that has it, where it is there
each_there : (P : Message → Type 0) (b : Bool) (m : Message) → P m → Each P (if_there b m)
each_there P true m h = (h, tt)
each_there P false m h = tt

-- where nothing is sent each message in flight has it still
pub each_none : (P : Message → Type 0) (h : ℕ) (c : Channel) (sends : Sends) (fl : List Message) → sends ≡ Sends.Nothing → Each P fl → Each P (fl ++ on_channel h c sends)
each_none P h c sends fl none each = each_append P fl (on_channel h c sends) each (subst (λ x. Each P (on_channel h c x)) (sym none) tt)

-- where one message that has it is sent each message in flight has it still
pub each_one : (P : Message → Type 0) (h : ℕ) (c : Channel) (sends : Sends) (m : Message) (fl : List Message) → sends ≡ Sends.One (record { host = h; message = m }) → P m → Each P fl → Each P (fl ++ on_channel h c sends)
each_one P h c sends m fl one holds each =
    each_append P fl (on_channel h c sends) each (subst (λ x. Each P (on_channel h c x)) (sym one) (subst (Each P) (sym (sent_one h c m)) (each_there P (channel_eq (channel_of m) c) m holds)))

-- where two messages that have it are sent each message in flight has it still
pub each_two : (P : Message → Type 0) (h : ℕ) (c : Channel) (sends : Sends) (m n : Message) (fl : List Message) → sends ≡ Sends.Two (record { host = h; message = m }) (record { host = h; message = n }) → P m → P n → Each P fl
    → Each P (fl ++ on_channel h c sends)
each_two P h c sends m n fl two first second each =
    each_append P fl (on_channel h c sends) each
    (subst (λ x. Each P (on_channel h c x)) (sym two)
    (subst (Each P) (sym (sent_two h c m n)) (each_append P (if_there (channel_eq (channel_of m) c) m) (if_there (channel_eq (channel_of n) c) n) (each_there P (channel_eq (channel_of m) c) m first) (each_there P (channel_eq (channel_of n) c) n second))))

-- ---- the device's events

-- what holds of each message under way still does
pub requests_by_device : (P : Message → Type 0) (h : ℕ) (cause : Cause) (fl held : List Message) → WasThere (takes_on h Channel.Req cause) fl → Each P fl → Each P held
    → Each P (without_taken (takes_on h Channel.Req cause) fl) × Each P (requests_after h cause held)
requests_by_device P h (Cause.Op s i op) fl held there each each' = (each, each')
requests_by_device P h (Cause.Take k m) fl held there each each' =
    (each_without_taken P (takes_on h Channel.Req (Cause.Take k m)) fl each, each_with_last P (takes_on h Channel.Req (Cause.Take k m)) held (λ n is. each_at P n fl each (found_among n fl (there n is))) each')
requests_by_device P h (Cause.Act act) fl held there each each' = (each, each_without_used P (request_used_by h act) held each')

-- each MemWr that was in flight or buffered has it still after the device's event
pub writes_by_device : (P : Message → Type 0) (h : ℕ) (cause : Cause) (fl held : List Message) → WasThere (takes_on h Channel.Rwd cause) fl → Each P fl → Each P held
    → Each P (without_taken (takes_on h Channel.Rwd cause) fl) × Each P (writes_after h cause held)
writes_by_device P h (Cause.Op s i op) fl held there each each' = (each, each')
writes_by_device P h (Cause.Take k m) fl held there each each' =
    (each_without_taken P (takes_on h Channel.Rwd (Cause.Take k m)) fl each, each_with_last P (takes_on h Channel.Rwd (Cause.Take k m)) held (λ n is. each_at P n fl each (found_among n fl (there n is))) each')
writes_by_device P h (Cause.Act act) fl held there each each' = (each, each_without_used P (write_used_by h act) held each')

-- a take moves a message from the channel to the buffer
pub count_moved : (p : Message → Bool) (o : Option Message) (fl held : List Message) → Taken o fl → count_by p (without_taken o fl) + count_by p (with_last o held) ≡ count_by p fl + count_by p held
count_moved p None fl held taken = refl
count_moved p (Some m) fl held taken =
    let less = taken p in
    let more = count_by-append p held (m ∷ []) in
    let one = count_by-cons p m [] in
    omega arith
