-- The messages that the device holds buffered: each goes on its channel and is in the profile, and no two of a host and channel share a tag.
use Rattle.std.proofs.Common.{◌≡◌, ℕ, ◌+◌, ◌≤◌, Bool, true, false, List, [], ◌∷◌, Option, Some, None, cond, refl, sym, ◌∙◌, subst, arith}
use Rattle.std.specs.Prelude.{is_some, is_none, count_by}
use Rattle.std.proofs.lemmas.Bool.{eq-eqb, eqb-true, false≢true, leb-false, not-true}
use Rattle.cxl_message.specs.declared.channels.Channel.{Channel}
use Rattle.cxl_message.specs.declared.events.Cause.{Cause}
use Rattle.cxl_message.specs.declared.events.Event.{Event}
use Rattle.cxl_message.specs.declared.identifiers.Bytes64.{Bytes64}
use Rattle.cxl_message.specs.declared.identifiers.Line.{Line}
use Rattle.cxl_message.specs.declared.messages.Message.{Message}
use Rattle.cxl_message.specs.Messages.{channel_of, has_tag}
use Rattle.cxl_message.specs.Profile.{in_profile}
use Rattle.cxl_message.specs.Setup.{Configuration}
use Rattle.coherence_model.specs.Buffers.{buffered_requests, buffered_writes, message_with, request_used_by, requests_after, without_tag, without_used, write_used_by, writes_after}
use Rattle.coherence_model.specs.Credits.{has_room}
use Rattle.coherence_model.specs.DeviceRows.{device_emission}
use Rattle.coherence_model.specs.DeviceTakes.{device_takes, v1_take}
use Rattle.coherence_model.specs.Emission.{nothing}
use Rattle.coherence_model.specs.Fitting.{cause_fits, message_fits}
use Rattle.coherence_model.specs.Flight.{takes_on}
use Rattle.coherence_model.specs.Traces.{device}
use Rattle.coherence_model.specs.Words.{with_last}
use Rattle.step_laws.proofs.Counts.{Each, counted, each_append, find-is_some, count_by-cons, count_by-append, count_by-one}
use Rattle.coherence_model.specs.OwnRuns.{IsOwnRun}
use Rattle.coherence_model.proofs.OwnRuns.{own_event}
use Rattle.step_laws.proofs.OwnRuns.{device-some, guard-some, when-some}
use Rattle.coherence_lemmas.proofs.Allowed.{profiled}
use Rattle.coherence_lemmas.proofs.Flight.{taken_from}
use Rattle.step_laws.proofs.Profile.{taken_message_fits}

-- a buffered message of a channel
pub record IsBuffered (setup : Configuration) (c : Channel) (m : Message) : Type 0 where
  pub channel : channel_of m ≡ c
  pub profile : in_profile m ≡ true
  pub fits : message_fits setup m ≡ true

-- one more message, if there is one
each-with_last : (P : Message → Type 0) (o : Option Message) (ms : List Message) → ((m : Message) → o ≡ Some m → P m) → Each P ms → Each P (with_last o ms)
each-with_last P None ms new e = e
each-with_last P (Some m) ms new e = each_append P ms (m ∷ []) e (new m refl, tt)

-- fewer messages
tag-step : (P : Message → Type 0) (b : Bool) (m : Message) (ms left : List Message) → P m → Each P ms → Each P left → Each P (cond b ms (m ∷ left))
tag-step P true m ms left here all less = all
tag-step P false m ms left here all less = (here, less)

each-without_tag : (P : Message → Type 0) (tag : ℕ) (ms : List Message) → Each P ms → Each P (without_tag tag ms)
each-without_tag P tag [] e = tt
each-without_tag P tag (m ∷ ms) e = tag-step P (has_tag tag m) m ms (without_tag tag ms) e.0 e.1 (each-without_tag P tag ms e.1)

each-without_used : (P : Message → Type 0) (used : Option ℕ) (ms : List Message) → Each P ms → Each P (without_used used ms)
each-without_used P None ms e = e
each-without_used P (Some tag) ms e = each-without_tag P tag ms e

-- what is taken on a channel may be buffered
new-buffered :
    (setup : Configuration) (g h : ℕ) (c : Channel) (host : ℕ) (m n : Message) → cause_fits setup g (Cause.Take host m) ≡ true
    → takes_on h c (Cause.Take host m) ≡ Some n → IsBuffered setup c n
new-buffered setup g h c host m n fits is =
    let parts = taken_from h c host m n is in
    let message = taken_message_fits setup g host m fits in
    subst (IsBuffered setup c) parts.message (record { channel = parts.channel; profile = message.profile; fits = message.fits })

requests-fit-after :
    (setup : Configuration) (g h : ℕ) (cause : Cause) (old : List Message) → cause_fits setup g cause ≡ true → Each (IsBuffered setup Channel.Req) old
    → Each (IsBuffered setup Channel.Req) (requests_after h cause old)
requests-fit-after setup g h (Cause.Op s i op) old fits e = e
requests-fit-after setup g h (Cause.Take host m) old fits e = each-with_last _ (takes_on h Channel.Req (Cause.Take host m)) old
    (λ n is. new-buffered setup g h Channel.Req host m n fits is) e
requests-fit-after setup g h (Cause.Act act) old fits e = each-without_used _ (request_used_by h act) old e

writes-fit-after :
    (setup : Configuration) (g h : ℕ) (cause : Cause) (old : List Message) → cause_fits setup g cause ≡ true → Each (IsBuffered setup Channel.Rwd) old
    → Each (IsBuffered setup Channel.Rwd) (writes_after h cause old)
writes-fit-after setup g h (Cause.Op s i op) old fits e = e
writes-fit-after setup g h (Cause.Take host m) old fits e = each-with_last _ (takes_on h Channel.Rwd (Cause.Take host m)) old
    (λ n is. new-buffered setup g h Channel.Rwd host m n fits is) e
writes-fit-after setup g h (Cause.Act act) old fits e = each-without_used _ (write_used_by h act) old e

-- each buffered Req or RwD message
pub requests_fit :
    (setup : Configuration) (opening : List (Line × Bytes64)) (g h : ℕ) (mine : List Event) → IsOwnRun setup opening g mine
    → Each (IsBuffered setup Channel.Req) (buffered_requests h mine)
requests_fit setup opening g h [] run = tt
requests_fit setup opening g h (e ∷ mine) run =
    let own = own_event setup opening g e mine run in
    requests-fit-after setup e.agent h e.cause (buffered_requests h mine) (profiled setup e own.profile).cause
    (requests_fit setup opening g h mine own.before)

pub writes_fit :
    (setup : Configuration) (opening : List (Line × Bytes64)) (g h : ℕ) (mine : List Event) → IsOwnRun setup opening g mine
    → Each (IsBuffered setup Channel.Rwd) (buffered_writes h mine)
writes_fit setup opening g h [] run = tt
writes_fit setup opening g h (e ∷ mine) run =
    let own = own_event setup opening g e mine run in
    writes-fit-after setup e.agent h e.cause (buffered_writes h mine) (profiled setup e own.profile).cause
    (writes_fit setup opening g h mine own.before)

-- how many messages have a tag
abbrev pub tag_count : ℕ → List Message → ℕ
tag_count tag ms = count_by (has_tag tag) ms

less-step : (b c : Bool) (n m : ℕ) → m ≤ n → cond b n (cond c 1 0 + m) ≤ cond c 1 0 + n
less-step true true n m le = omega arith
less-step true false n m le = omega arith
less-step false true n m le = omega arith
less-step false false n m le = omega arith

count-cond :
    (tag : ℕ) (b : Bool) (m : Message) (ms left : List Message)
    → tag_count tag (cond b ms (m ∷ left)) ≡ cond b (tag_count tag ms) (counted (has_tag tag m) + tag_count tag left)
count-cond tag true m ms left = refl
count-cond tag false m ms left = count_by-cons (has_tag tag) m left

without_tag-less : (tag used : ℕ) (ms : List Message) → tag_count tag (without_tag used ms) ≤ tag_count tag ms
without_tag-less tag used [] = omega arith
without_tag-less tag used (m ∷ ms) =
    rw (count-cond tag (has_tag used m) m ms (without_tag used ms), count_by-cons (has_tag tag) m ms)
    (less-step (has_tag used m) (has_tag tag m) (tag_count tag ms) (tag_count tag (without_tag used ms)) (without_tag-less tag used ms))

without_used-less : (tag : ℕ) (used : Option ℕ) (ms : List Message) → tag_count tag (without_used used ms) ≤ tag_count tag ms
without_used-less tag None ms = omega arith
without_used-less tag (Some u) ms = without_tag-less tag u ms

last-less :
    (tag : ℕ) (o : Option Message) (ms : List Message) → ((m : Message) → o ≡ Some m → has_tag tag m ≡ true → tag_count tag ms ≡ 0) → tag_count tag ms ≤ 1
    → tag_count tag (with_last o ms) ≤ 1
last-less tag None ms new few = few
last-less tag (Some m) ms new few =
    let sum = count_by-append (has_tag tag) ms (m ∷ []) in
    let one = count_by-one (has_tag tag) m in
    let step = last-step (has_tag tag m) (tag_count tag ms) (new m refl) few in
    omega arith
  where
    last-step : (b : Bool) (n : ℕ) → (b ≡ true → n ≡ 0) → n ≤ 1 → n + cond b 1 0 ≤ 1
    last-step true n z few = let e = z refl in omega arith
    last-step false n z few = omega arith

-- V1: a message is taken where none with its tag is buffered
unbuffered : (tag : ℕ) (ms : List Message) → is_some (v1_take tag ms) ≡ true → tag_count tag ms ≡ 0
unbuffered tag ms some =
    let none : is_some (message_with tag ms) ≡ false = not-true _ (guard-some (is_none (message_with tag ms)) nothing some) in
    let few = leb-false 1 _ (sym (find-is_some (has_tag tag) ms) ∙ none) in
    omega arith

free-request :
    (setup : Configuration) (host : ℕ) (m : Message) (mine : List Event) (tag : ℕ) → channel_of m ≡ Channel.Req
    → is_some (device_takes setup host m mine) ≡ true → has_tag tag m ≡ true → tag_count tag (buffered_requests host mine) ≡ 0
free-request setup host (Message.Req op meta snp t line) mine tag on some has = subst (λ k. tag_count k (buffered_requests host mine) ≡ 0) (eqb-true t.0 tag has)
    (unbuffered t.0 (buffered_requests host mine) some)
free-request setup host (Message.MemWr meta snp t line bytes) mine tag on some has = cc
free-request setup host (Message.BiConflict t) mine tag on some has = cc
free-request setup host (Message.BiRsp op bitag low) mine tag on some has = cc
free-request setup host (Message.Ndr op t) mine tag on some has = cc
free-request setup host (Message.MemData t bytes) mine tag on some has = cc
free-request setup host (Message.BiSnp op bitag line span) mine tag on some has = cc
free-request setup host (Message.Credit c) mine tag on some has = absurd (false≢true has)

free-write :
    (setup : Configuration) (host : ℕ) (m : Message) (mine : List Event) (tag : ℕ) → channel_of m ≡ Channel.Rwd
    → is_some (device_takes setup host m mine) ≡ true → has_tag tag m ≡ true → tag_count tag (buffered_writes host mine) ≡ 0
free-write setup host (Message.Req op meta snp t line) mine tag on some has = cc
free-write setup host (Message.MemWr meta snp t line bytes) mine tag on some has = subst (λ k. tag_count k (buffered_writes host mine) ≡ 0) (eqb-true t.0 tag has)
    (unbuffered t.0 (buffered_writes host mine) some)
free-write setup host (Message.BiConflict t) mine tag on some has = subst (λ k. tag_count k (buffered_writes host mine) ≡ 0) (eqb-true t.0 tag has)
    (unbuffered t.0 (buffered_writes host mine) some)
free-write setup host (Message.BiRsp op bitag low) mine tag on some has = cc
free-write setup host (Message.Ndr op t) mine tag on some has = cc
free-write setup host (Message.MemData t bytes) mine tag on some has = cc
free-write setup host (Message.BiSnp op bitag line span) mine tag on some has = cc
free-write setup host (Message.Credit c) mine tag on some has = absurd (false≢true has)

requests-once-after :
    (setup : Configuration) (opening : List (Line × Bytes64)) (h : ℕ) (cause : Cause) (mine : List Event) (tag : ℕ)
    → is_some (device_emission setup opening cause mine) ≡ true → tag_count tag (buffered_requests h mine) ≤ 1
    → tag_count tag (requests_after h cause (buffered_requests h mine)) ≤ 1
requests-once-after setup opening h (Cause.Op s i op) mine tag some few = few
requests-once-after setup opening h (Cause.Take host m) mine tag some few =
    last-less tag (takes_on h Channel.Req (Cause.Take host m)) (buffered_requests h mine)
    (λ n is has.
    let parts = taken_from h Channel.Req host m n is in
    subst (λ k. tag_count tag (buffered_requests k mine) ≡ 0) parts.host
    (free-request setup host m mine tag parts.channel (when-some (has_room setup host m mine) (device_takes setup host m mine) some).1
    (subst (λ k. has_tag tag k ≡ true) (sym parts.message) has))) few
requests-once-after setup opening h (Cause.Act act) mine tag some few = let less = without_used-less tag (request_used_by h act)
    (buffered_requests h mine) in omega arith

writes-once-after :
    (setup : Configuration) (opening : List (Line × Bytes64)) (h : ℕ) (cause : Cause) (mine : List Event) (tag : ℕ)
    → is_some (device_emission setup opening cause mine) ≡ true → tag_count tag (buffered_writes h mine) ≤ 1
    → tag_count tag (writes_after h cause (buffered_writes h mine)) ≤ 1
writes-once-after setup opening h (Cause.Op s i op) mine tag some few = few
writes-once-after setup opening h (Cause.Take host m) mine tag some few =
    last-less tag (takes_on h Channel.Rwd (Cause.Take host m)) (buffered_writes h mine)
    (λ n is has.
    let parts = taken_from h Channel.Rwd host m n is in
    subst (λ k. tag_count tag (buffered_writes k mine) ≡ 0) parts.host
    (free-write setup host m mine tag parts.channel (when-some (has_room setup host m mine) (device_takes setup host m mine) some).1
    (subst (λ k. has_tag tag k ≡ true) (sym parts.message) has))) few
writes-once-after setup opening h (Cause.Act act) mine tag some few = let less = without_used-less tag (write_used_by h act) (buffered_writes h mine) in omega arith

-- no two buffered messages of a host and channel share a tag
pub requests_once :
    (setup : Configuration) (opening : List (Line × Bytes64)) (h : ℕ) (mine : List Event) → IsOwnRun setup opening device mine → (tag : ℕ)
    → tag_count tag (buffered_requests h mine) ≤ 1
requests_once setup opening h [] run tag = omega arith
requests_once setup opening h (e ∷ mine) run tag =
    let own = own_event setup opening device e mine run in
    requests-once-after setup opening h e.cause mine tag (device-some setup opening e mine (eq-eqb e.agent device own.agent) own.row)
    (requests_once setup opening h mine own.before tag)

pub writes_once :
    (setup : Configuration) (opening : List (Line × Bytes64)) (h : ℕ) (mine : List Event) → IsOwnRun setup opening device mine → (tag : ℕ)
    → tag_count tag (buffered_writes h mine) ≤ 1
writes_once setup opening h [] run tag = omega arith
writes_once setup opening h (e ∷ mine) run tag =
    let own = own_event setup opening device e mine run in
    writes-once-after setup opening h e.cause mine tag (device-some setup opening e mine (eq-eqb e.agent device own.agent) own.row)
    (writes_once setup opening h mine own.before tag)
