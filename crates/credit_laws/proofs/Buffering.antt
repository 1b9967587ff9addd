-- A receiver buffers at most what it takes.
use Rattle.std.proofs.Common.{◌≡◌, ◌≤◌, ◌+◌, suc, ℕ, Bool, true, false, IsTrue, List, [], ◌∷◌, ◌++◌, Option, Some, None, cond, length, refl, sym, ap, subst, arith}
use Rattle.std.specs.Prelude.{filter, not, ◌&&◌, ◌==◌}
use Rattle.std.specs.Option.{option_len}
use Rattle.std.proofs.lemmas.Bool.{eq-eqb, eqb-true, false≢true}
use Rattle.std.proofs.lemmas.List.{length-append}
use Rattle.cxl_message.specs.declared.channels.Channel.{Channel}
use Rattle.cxl_message.specs.declared.events.Act.{Act}
use Rattle.cxl_message.specs.declared.events.Cause.{Cause}
use Rattle.cxl_message.specs.declared.events.Event.{Event}
use Rattle.cxl_message.specs.declared.messages.Message.{Message}
use Rattle.cxl_message.specs.Channels.{goes_to_device}
use Rattle.cxl_message.specs.Lists.{is_in, without}
use Rattle.cxl_message.specs.Messages.{has_tag}
use Rattle.cxl_message.specs.Setup.{Configuration}
use Rattle.coherence_model.specs.Buffers.{request_used_by, requests_after, without_tag, without_used, write_used_by, writes_after, device_buffered}
use Rattle.coherence_model.specs.Fitting.{cause_fits}
use Rattle.coherence_model.specs.Flight.{takes_on}
use Rattle.coherence_model.specs.Next.{receiver}
use Rattle.coherence_model.specs.Snoops.{Snoop, host_buffered, is_whole_block, snoop_left, snoop_of, snoops_after, snoops_after_act, snoops_after_answer}
use Rattle.coherence_model.specs.Traces.{events_of}
use Rattle.coherence_model.specs.Words.{with_last}
use Rattle.coherence_lemmas.proofs.Directions.{take_parts}
use Rattle.credit_laws.specs.Laws.{buffered_count}

-- one more at the end, if there is one more
length-with_last : {A : Type 0} (o : Option A) (xs : List A) → length (with_last o xs) ≡ length xs + option_len o
length-with_last None xs = omega arith
length-with_last (Some x) xs = length-append xs (x ∷ [])

-- no more are left without one
tag_by : (b : Bool) (m : Message) (ms rest : List Message) → length rest ≤ length ms → length (cond b ms (m ∷ rest)) ≤ suc (length ms)
tag_by true m ms rest less = omega arith
tag_by false m ms rest less = omega arith

without_tag-less : (tag : ℕ) (ms : List Message) → length (without_tag tag ms) ≤ length ms
without_tag-less tag [] = omega arith
without_tag-less tag (m ∷ ms) = tag_by (has_tag tag m) m ms (without_tag tag ms) (without_tag-less tag ms)

without_used-less : (used : Option ℕ) (ms : List Message) → length (without_used used ms) ≤ length ms
without_used-less None ms = omega arith
without_used-less (Some tag) ms = without_tag-less tag ms

-- the device buffers at most what it takes
requests_grow : (h : ℕ) (cause : Cause) (old : List Message) → length (requests_after h cause old) ≤ length old + option_len (takes_on h Channel.Req cause)
requests_grow h (Cause.Op s i op) old = omega arith
requests_grow h (Cause.Take k m) old = omega (arith, length-with_last (takes_on h Channel.Req (Cause.Take k m)) old)
requests_grow h (Cause.Act act) old = omega (arith, without_used-less (request_used_by h act) old)

writes_grow : (h : ℕ) (cause : Cause) (old : List Message) → length (writes_after h cause old) ≤ length old + option_len (takes_on h Channel.Rwd cause)
writes_grow h (Cause.Op s i op) old = omega arith
writes_grow h (Cause.Take k m) old = omega (arith, length-with_last (takes_on h Channel.Rwd (Cause.Take k m)) old)
writes_grow h (Cause.Act act) old = omega (arith, without_used-less (write_used_by h act) old)

device_buffers : (h : ℕ) (c : Channel) (e : Event) (mine : List Event) → device_buffered h c (e ∷ mine) ≤ device_buffered h c mine + option_len (takes_on h c e.cause)
device_buffers h Channel.Req e mine = requests_grow h e.cause _
device_buffers h Channel.Rwd e mine = writes_grow h e.cause _
device_buffers h Channel.BiRsp e mine = omega arith
device_buffers h Channel.Ndr e mine = omega arith
device_buffers h Channel.Drs e mine = omega arith
device_buffers h Channel.BiSnp e mine = omega arith
device_buffers h Channel.CreditUp e mine = omega arith
device_buffers h Channel.CreditDown e mine = omega arith

-- no more snoops are left after an answer
snoop_left-less : (s : Snoop) (bs : List ℕ) → length (snoop_left s bs) ≤ 1
snoop_left-less s [] = omega arith
snoop_left-less s (b ∷ bs) = omega arith

answer_by : (b : Bool) (s : Snoop) (left ss rest : List Snoop) → length left ≤ 1 → length rest ≤ length ss → length (cond b (left ++ ss) (s ∷ rest)) ≤ suc (length ss)
answer_by true s left ss rest one less = omega (arith, length-append left ss)
answer_by false s left ss rest one less = omega arith

snoops_after_answer-less : (a : ℕ) (ss : List Snoop) → length (snoops_after_answer a ss) ≤ length ss
snoops_after_answer-less a [] = omega arith
snoops_after_answer-less a (s ∷ ss) =
    answer_by (is_in a s.unanswered) s (snoop_left s (without a s.unanswered)) ss (snoops_after_answer a ss) (snoop_left-less s (without a s.unanswered)) (snoops_after_answer-less a ss)

filter_by : (b : Bool) (s : Snoop) (ss rest : List Snoop) → length rest ≤ length ss → length (cond b (s ∷ rest) rest) ≤ suc (length ss)
filter_by true s ss rest less = omega arith
filter_by false s ss rest less = omega arith

filter-less : (test : Snoop → Bool) (ss : List Snoop) → length (filter test ss) ≤ length ss
filter-less test [] = omega arith
filter-less test (s ∷ ss) = filter_by (test s) s ss (filter test ss) (filter-less test ss)

acts_buffer_none : (act : Act) (ss : List Snoop) → length (snoops_after_act act ss) ≤ length ss
acts_buffer_none (Act.Conflict _) ss = omega arith
acts_buffer_none (Act.WriteBack _) ss = omega arith
acts_buffer_none (Act.Answer line) ss = snoops_after_answer-less line.0 ss
acts_buffer_none (Act.AnswerBlock line) ss = filter-less (λ s. not (is_whole_block line.0 s)) ss
acts_buffer_none (Act.HostReturn _) ss = omega arith
acts_buffer_none (Act.Serve _ _) ss = omega arith
acts_buffer_none (Act.Clean _ _) ss = omega arith
acts_buffer_none (Act.Start _ _) ss = omega arith
acts_buffer_none (Act.Evict _ _) ss = omega arith
acts_buffer_none (Act.Snoop _ _) ss = omega arith
acts_buffer_none (Act.Finish _) ss = omega arith
acts_buffer_none (Act.DeviceReturn _ _) ss = omega arith

-- a snoop that is taken from its host is taken on the snoops' channel
snoop_taken_by : (same : Bool) (m : Message) → same ≡ true → 1 ≤ option_len (cond (same && true) (Some m) None)
snoop_taken_by true m is = omega arith
snoop_taken_by false m is = absurd (false≢true is)

snoop_taken : (h k : ℕ) (m : Message) → k ≡ h → option_len (snoop_of m) ≤ option_len (takes_on h Channel.BiSnp (Cause.Take k m))
snoop_taken h k (Message.Req _ _ _ _ _) same = omega arith
snoop_taken h k (Message.MemWr _ _ _ _ _) same = omega arith
snoop_taken h k (Message.BiConflict _) same = omega arith
snoop_taken h k (Message.BiRsp _ _ _) same = omega arith
snoop_taken h k (Message.Ndr _ _) same = omega arith
snoop_taken h k (Message.MemData _ _) same = omega arith
snoop_taken h k (Message.BiSnp op bitag line span) same = snoop_taken_by (k == h) (Message.BiSnp op bitag line span) (eq-eqb k h same)
snoop_taken h k (Message.Credit _) same = omega arith

-- a host takes snoops of its own alone
own_snoop : (setup : Configuration) (h k : ℕ) (m : Message) → IsTrue (cause_fits setup h (Cause.Take k m)) → option_len (snoop_of m) ≤ option_len (takes_on h Channel.BiSnp (Cause.Take k m))
own_snoop setup h k (Message.Req _ _ _ _ _) fits = omega arith
own_snoop setup h k (Message.MemWr _ _ _ _ _) fits = omega arith
own_snoop setup h k (Message.BiConflict _) fits = omega arith
own_snoop setup h k (Message.BiRsp _ _ _) fits = omega arith
own_snoop setup h k (Message.Ndr _ _) fits = omega arith
own_snoop setup h k (Message.MemData _ _) fits = omega arith
own_snoop setup h k (Message.BiSnp op bitag line span) fits = snoop_taken h k (Message.BiSnp op bitag line span) (sym (take_parts setup h k (Message.BiSnp op bitag line span) fits).receiver)
own_snoop setup h k (Message.Credit _) fits = omega arith

snoops_grow : (setup : Configuration) (h : ℕ) (cause : Cause) (old : List Snoop) → IsTrue (cause_fits setup h cause) → length (snoops_after cause old) ≤ length old + option_len (takes_on h Channel.BiSnp cause)
snoops_grow setup h (Cause.Op s i op) old fits = omega arith
snoops_grow setup h (Cause.Take k m) old fits = omega (arith, length-with_last (snoop_of m) old, own_snoop setup h k m fits)
snoops_grow setup h (Cause.Act act) old fits = omega (arith, acts_buffer_none act old)

host_buffers : (setup : Configuration) (h : ℕ) (c : Channel) (e : Event) (mine : List Event) → IsTrue (cause_fits setup h e.cause) → host_buffered c (e ∷ mine) ≤ host_buffered c mine + option_len (takes_on h c e.cause)
host_buffers setup h Channel.Req e mine fits = omega arith
host_buffers setup h Channel.Rwd e mine fits = omega arith
host_buffers setup h Channel.BiRsp e mine fits = omega arith
host_buffers setup h Channel.Ndr e mine fits = omega arith
host_buffers setup h Channel.Drs e mine fits = omega arith
host_buffers setup h Channel.BiSnp e mine fits = snoops_grow setup h e.cause _ fits
host_buffers setup h Channel.CreditUp e mine fits = omega arith
host_buffers setup h Channel.CreditDown e mine fits = omega arith

-- by which way the channel goes
buffers_by : (up : Bool) (d d1 s s1 t : ℕ) → d1 ≤ d + t → (up ≡ false → s1 ≤ s + t) → cond up d1 s1 ≤ cond up d s + t
buffers_by true d d1 s s1 t device host = device
buffers_by false d d1 s s1 t device host = host refl

-- an own event of the receiver
own_buffers : (setup : Configuration) (h : ℕ) (c : Channel) (e : Event) (mine : List Event) → IsTrue (cause_fits setup (receiver h c) e.cause) → buffered_count h c (e ∷ mine) ≤ buffered_count h c mine + option_len (takes_on h c e.cause)
own_buffers setup h c e mine fits =
    buffers_by (goes_to_device c) (device_buffered h c mine) (device_buffered h c (e ∷ mine)) (host_buffered c mine) (host_buffered c (e ∷ mine)) (option_len (takes_on h c e.cause))
    (device_buffers h c e mine) (λ down. host_buffers setup h c e mine (subst (λ g. IsTrue (cause_fits setup g e.cause)) (ap (λ up. cond up 16 h) down) fits))

buffered_by : (h : ℕ) (c : Channel) (e : Event) (mine : List Event) (taken : ℕ) (own : Bool)
    → (own ≡ true → buffered_count h c (e ∷ mine) ≤ buffered_count h c mine + taken) → buffered_count h c (cond own (e ∷ mine) mine) ≤ buffered_count h c mine + taken
buffered_by h c e mine taken true grows = grows refl
buffered_by h c e mine taken false grows = omega arith

-- what is buffered grows by at most what is taken
pub buffered_step : (setup : Configuration) (h : ℕ) (c : Channel) (e : Event) (past : List Event) → IsTrue (cause_fits setup e.agent e.cause)
    → buffered_count h c (events_of (receiver h c) (e ∷ past)) ≤ buffered_count h c (events_of (receiver h c) past) + option_len (takes_on h c e.cause)
buffered_step setup h c e past fits =
    buffered_by h c e (events_of (receiver h c) past) (option_len (takes_on h c e.cause)) (e.agent == receiver h c)
    (λ own. own_buffers setup h c e (events_of (receiver h c) past) (subst (λ g. IsTrue (cause_fits setup g e.cause)) (eqb-true e.agent (receiver h c) own) fits))
