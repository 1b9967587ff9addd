-- What the device buffers: at most one message of a host and channel has a tag, and the setup has what each of them names.
use Rattle.std.proofs.Common.{◌≡◌, ℕ, ◌+◌, ◌<◌, ◌≤◌, Bool, true, false, List, [], ◌∷◌, ◌++◌, Option, Some, None, cond, find, refl, sym, ◌∙◌, ap, subst, arith}
use Rattle.std.specs.Prelude.{count_by, ◌&&◌, ◌==◌}
use Rattle.std.specs.List.{list_all}
use Rattle.std.proofs.lemmas.Bool.{and_from, and_parts, eqb-true, false≢true, ltb-true}
use Rattle.std.proofs.lemmas.Option.{none-some}
use Rattle.std.proofs.lemmas.List.Folds.{list_all-append}
use Rattle.std.proofs.lemmas.List.Sums.{sum_by-cons, sum_by_push}
use Rattle.cxl_message.specs.declared.channels.Channel.{Channel}
use Rattle.cxl_message.specs.declared.events.Act.{Act}
use Rattle.cxl_message.specs.declared.events.Cause.{Cause}
use Rattle.cxl_message.specs.declared.events.Event.{Event}
use Rattle.cxl_message.specs.declared.events.Sends.{Sends}
use Rattle.cxl_message.specs.declared.messages.Message.{Message}
use Rattle.cxl_message.specs.Channels.{credit_channel}
use Rattle.cxl_message.specs.Codes.{channel_eq}
use Rattle.cxl_message.specs.Messages.{channel_of, has_tag, tag_of}
use Rattle.cxl_message.specs.Profile.{in_profile}
use Rattle.cxl_message.specs.Setup.{Configuration}
use Rattle.coherence_model.specs.Buffers.{buffered_requests, buffered_writes, message_with, requests_after, without_tag, without_used, writes_after}
use Rattle.coherence_model.specs.Fitting.{goes_to, is_addressed, message_fits, take_fits}
use Rattle.coherence_model.specs.Traces.{device}
use Rattle.coherence_model.specs.Words.{with_last}
use Rattle.coherence_model.specs.OwnRuns.{IsOwnRun}
use Rattle.cxl_message.specs.declared.identifiers.Bytes64.{Bytes64}
use Rattle.cxl_message.specs.declared.identifiers.Line.{Line}
use Rattle.cxl_message.proofs.SameNames.{same-channel_eq}
use Rattle.entry_laws.proofs.DeviceRows.{DeviceRow, FoundRequest, TakenMessage}
use Rattle.entry_laws.proofs.OwnRuns.{device_event}

-- ---- how a buffer changes

-- a message of another channel changes nothing
not_taken : (mine other : Bool) (m : Message) (ms : List Message) → other ≡ false → with_last (cond (mine && other) (Some m) None) ms ≡ ms
not_taken true true m ms h = absurd (false≢true (sym h))
not_taken true false m ms h = refl
not_taken false other m ms h = refl

pub credit_is_no_request : (c : Channel) → channel_eq (credit_channel c) Channel.Req ≡ false
credit_is_no_request Channel.Req = refl
credit_is_no_request Channel.Rwd = refl
credit_is_no_request Channel.BiRsp = refl
credit_is_no_request Channel.Ndr = refl
credit_is_no_request Channel.Drs = refl
credit_is_no_request Channel.BiSnp = refl
credit_is_no_request Channel.CreditUp = refl
credit_is_no_request Channel.CreditDown = refl

pub credit_is_no_write : (c : Channel) → channel_eq (credit_channel c) Channel.Rwd ≡ false
credit_is_no_write Channel.Req = refl
credit_is_no_write Channel.Rwd = refl
credit_is_no_write Channel.BiRsp = refl
credit_is_no_write Channel.Ndr = refl
credit_is_no_write Channel.Drs = refl
credit_is_no_write Channel.BiSnp = refl
credit_is_no_write Channel.CreditUp = refl
credit_is_no_write Channel.CreditDown = refl

-- a message of the channel is taken for its host alone
taken_for :
    (P : List Message → Type 0) (host h : ℕ) (m : Message) (ms : List Message) (b : Bool) → (host == h) ≡ b
    → P ms → (host ≡ h → P (ms ++ m ∷ [])) → P (with_last (cond (b && true) (Some m) None) ms)
taken_for P host h m ms true is old more = more (eqb-true host h is)
taken_for P host h m ms false is old more = old

used_for : (P : List Message → Type 0) (b : Bool) (tag : ℕ) (ms : List Message) → P ms → P (without_tag tag ms) → P (without_used (cond b (Some tag) None) ms)
used_for P true tag ms old less = less
used_for P false tag ms old less = old

-- what holds of the buffered requests of a host still holds after an event, where takes and uses keep it
pub requests_step :
    (P : List Message → Type 0) (setup : Configuration) (h : ℕ) (cause : Cause) (sends : Sends) (mine : List Event)
    → ((m : Message) (tag : ℕ) → tag_of m ≡ Some tag → channel_of m ≡ Channel.Req → TakenMessage setup h m tag (buffered_requests h mine) → P
    (buffered_requests h mine ++ m ∷ []))
    → ((tag : ℕ) → P (without_tag tag (buffered_requests h mine)))
    → P (buffered_requests h mine) → DeviceRow setup cause sends mine → P (requests_after h cause (buffered_requests h mine))
requests_step P setup h (Cause.Op s i op) sends mine more less old row = old
requests_step P setup h (Cause.Take host (Message.Req op meta snp tag line)) sends mine more less old row =
    let m : Message = Message.Req op meta snp tag line in
    taken_for P host h m (buffered_requests h mine) (host == h) refl old
    (λ same. more m tag.0 refl refl (subst (λ x. TakenMessage setup x m tag.0 (buffered_requests x mine)) same row))
requests_step P setup h (Cause.Take host (Message.MemWr meta snp tag line bytes)) sends mine more less old row =
    subst P (sym (not_taken (host == h) _ _ _ refl)) old
requests_step P setup h (Cause.Take host (Message.BiConflict tag)) sends mine more less old row = subst P (sym (not_taken (host == h) _ _ _ refl)) old
requests_step P setup h (Cause.Take host (Message.BiRsp op bitag low)) sends mine more less old row = subst P (sym (not_taken (host == h) _ _ _ refl)) old
requests_step P setup h (Cause.Take host (Message.Ndr op tag)) sends mine more less old row = subst P (sym (not_taken (host == h) _ _ _ refl)) old
requests_step P setup h (Cause.Take host (Message.MemData tag bytes)) sends mine more less old row = subst P (sym (not_taken (host == h) _ _ _ refl)) old
requests_step P setup h (Cause.Take host (Message.BiSnp op bitag line span)) sends mine more less old row = subst P (sym (not_taken (host == h) _ _ _ refl)) old
requests_step P setup h (Cause.Take host (Message.Credit c)) sends mine more less old row =
    subst P (sym (not_taken (host == h) _ _ _ (credit_is_no_request c))) old
requests_step P setup h (Cause.Act (Act.Conflict line)) sends mine more less old row = old
requests_step P setup h (Cause.Act (Act.WriteBack line)) sends mine more less old row = old
requests_step P setup h (Cause.Act (Act.Answer line)) sends mine more less old row = old
requests_step P setup h (Cause.Act (Act.AnswerBlock line)) sends mine more less old row = old
requests_step P setup h (Cause.Act (Act.HostReturn c)) sends mine more less old row = old
requests_step P setup h (Cause.Act (Act.Serve host tag)) sends mine more less old row = old
requests_step P setup h (Cause.Act (Act.Clean host tag)) sends mine more less old row = used_for P (host == h) tag.0 (buffered_requests h mine) old (less tag.0)
requests_step P setup h (Cause.Act (Act.Start host tag)) sends mine more less old row = used_for P (host == h) tag.0 (buffered_requests h mine) old (less tag.0)
requests_step P setup h (Cause.Act (Act.Evict host tag)) sends mine more less old row = old
requests_step P setup h (Cause.Act (Act.Snoop host line)) sends mine more less old row = old
requests_step P setup h (Cause.Act (Act.Finish line)) sends mine more less old row = old
requests_step P setup h (Cause.Act (Act.DeviceReturn host c)) sends mine more less old row = old

-- the same of the buffered RwD messages
pub writes_step :
    (P : List Message → Type 0) (setup : Configuration) (h : ℕ) (cause : Cause) (sends : Sends) (mine : List Event)
    → ((m : Message) (tag : ℕ) → tag_of m ≡ Some tag → channel_of m ≡ Channel.Rwd → TakenMessage setup h m tag (buffered_writes h mine) → P
    (buffered_writes h mine ++ m ∷ []))
    → ((tag : ℕ) → P (without_tag tag (buffered_writes h mine)))
    → P (buffered_writes h mine) → DeviceRow setup cause sends mine → P (writes_after h cause (buffered_writes h mine))
writes_step P setup h (Cause.Op s i op) sends mine more less old row = old
writes_step P setup h (Cause.Take host (Message.Req op meta snp tag line)) sends mine more less old row = subst P (sym (not_taken (host == h) _ _ _ refl)) old
writes_step P setup h (Cause.Take host (Message.MemWr meta snp tag line bytes)) sends mine more less old row =
    let m : Message = Message.MemWr meta snp tag line bytes in
    taken_for P host h m (buffered_writes h mine) (host == h) refl old
    (λ same. more m tag.0 refl refl (subst (λ x. TakenMessage setup x m tag.0 (buffered_writes x mine)) same row))
writes_step P setup h (Cause.Take host (Message.BiConflict tag)) sends mine more less old row =
    let m : Message = Message.BiConflict tag in
    taken_for P host h m (buffered_writes h mine) (host == h) refl old
    (λ same. more m tag.0 refl refl (subst (λ x. TakenMessage setup x m tag.0 (buffered_writes x mine)) same row))
writes_step P setup h (Cause.Take host (Message.BiRsp op bitag low)) sends mine more less old row = subst P (sym (not_taken (host == h) _ _ _ refl)) old
writes_step P setup h (Cause.Take host (Message.Ndr op tag)) sends mine more less old row = subst P (sym (not_taken (host == h) _ _ _ refl)) old
writes_step P setup h (Cause.Take host (Message.MemData tag bytes)) sends mine more less old row = subst P (sym (not_taken (host == h) _ _ _ refl)) old
writes_step P setup h (Cause.Take host (Message.BiSnp op bitag line span)) sends mine more less old row = subst P (sym (not_taken (host == h) _ _ _ refl)) old
writes_step P setup h (Cause.Take host (Message.Credit c)) sends mine more less old row = subst P (sym (not_taken (host == h) _ _ _ (credit_is_no_write c))) old
writes_step P setup h (Cause.Act (Act.Conflict line)) sends mine more less old row = old
writes_step P setup h (Cause.Act (Act.WriteBack line)) sends mine more less old row = old
writes_step P setup h (Cause.Act (Act.Answer line)) sends mine more less old row = old
writes_step P setup h (Cause.Act (Act.AnswerBlock line)) sends mine more less old row = old
writes_step P setup h (Cause.Act (Act.HostReturn c)) sends mine more less old row = old
writes_step P setup h (Cause.Act (Act.Serve host tag)) sends mine more less old row = used_for P (host == h) tag.0 (buffered_writes h mine) old (less tag.0)
writes_step P setup h (Cause.Act (Act.Clean host tag)) sends mine more less old row = old
writes_step P setup h (Cause.Act (Act.Start host tag)) sends mine more less old row = old
writes_step P setup h (Cause.Act (Act.Evict host tag)) sends mine more less old row = old
writes_step P setup h (Cause.Act (Act.Snoop host line)) sends mine more less old row = old
writes_step P setup h (Cause.Act (Act.Finish line)) sends mine more less old row = old
writes_step P setup h (Cause.Act (Act.DeviceReturn host c)) sends mine more less old row = old

-- ---- tags are distinct

-- at most one message has a tag
abbrev pub HasDistinctTags : List Message → Type 0
HasDistinctTags ms = (tag : ℕ) → count_by (has_tag tag) ms ≤ 1

no_more : (n : ℕ) → n ≡ 0 → 0 + n ≡ 0
no_more n h = omega arith

none_counts :
    {X : Type 0} (p : X → Bool) (x : X) (xs : List X) (b : Bool) → p x ≡ b → cond b (Some x) (find p xs) ≡ None → (find p xs ≡ None → count_by p xs ≡ 0)
    → count_by p (x ∷ xs) ≡ 0
none_counts p x xs true is h later = absurd (none-some x (sym h))
none_counts p x xs false is h later = sum_by-cons (λ y. cond (p y) 1 0) x xs ∙ (ap (λ b. cond b 1 0 + count_by p xs) is ∙ no_more (count_by p xs) (later h))

-- where nothing is found nothing passes
pub count_of_none : {X : Type 0} (p : X → Bool) (xs : List X) → find p xs ≡ None → count_by p xs ≡ 0
count_of_none p [] h = refl
count_of_none p (x ∷ xs) h = none_counts p x xs (p x) refl h (count_of_none p xs)

-- one more that passes, where none did
pub one_more : (b : Bool) (n : ℕ) → n ≤ 1 → (b ≡ true → n ≡ 0) → n + cond b 1 0 ≤ 1
one_more true n few none = let zero : n ≡ 0 = none refl in omega arith
one_more false n few none = omega arith

has_own_tag : (m : Message) (tag k : ℕ) → tag_of m ≡ Some tag → has_tag k m ≡ (tag == k)
has_own_tag m tag k h = rw h

pub take_keeps_tags :
    (m : Message) (tag : ℕ) (ms : List Message) → tag_of m ≡ Some tag → message_with tag ms ≡ None → HasDistinctTags ms → HasDistinctTags (ms ++ m ∷ [])
take_keeps_tags m tag ms own free old k =
    subst (λ n. n ≤ 1) (sym (sum_by_push (λ x. cond (has_tag k x) 1 0) ms m))
    (one_more (has_tag k m) (count_by (has_tag k) ms) (old k)
    (λ has. count_of_none (has_tag k) ms (subst (λ x. message_with x ms ≡ None) (eqb-true tag k (sym (has_own_tag m tag k own) ∙ has)) free)))

fewer : (b c : Bool) (n m : ℕ) → n ≤ m → cond b m (cond c 1 0 + n) ≤ cond c 1 0 + m
fewer true true n m h = omega arith
fewer true false n m h = omega arith
fewer false c n m h = omega arith

count_chosen :
    {X : Type 0} (p : X → Bool) (b : Bool) (x : X) (xs ys : List X) → count_by p (cond b xs (x ∷ ys)) ≡ cond b (count_by p xs) (cond (p x) 1 0 + count_by p ys)
count_chosen p true x xs ys = refl
count_chosen p false x xs ys = sum_by-cons (λ y. cond (p y) 1 0) x ys

-- without a message fewer pass
pub count_without : (p : Message → Bool) (tag : ℕ) (ms : List Message) → count_by p (without_tag tag ms) ≤ count_by p ms
count_without p tag [] = omega arith
count_without p tag (m ∷ ms) =
    rw (count_chosen p (has_tag tag m) m ms (without_tag tag ms), sum_by-cons (λ y. cond (p y) 1 0) m ms)
    (fewer (has_tag tag m) (p m) (count_by p (without_tag tag ms)) (count_by p ms) (count_without p tag ms))

use_keeps_tags : (tag : ℕ) (ms : List Message) → HasDistinctTags ms → HasDistinctTags (without_tag tag ms)
use_keeps_tags tag ms old k = let less = count_without (has_tag k) tag ms in let few = old k in omega arith

none_have_tags : HasDistinctTags []
none_have_tags k = omega arith

pub requests_have_distinct_tags : (setup : Configuration) (opening : List (Line × Bytes64)) (mine : List Event) → IsOwnRun setup opening device mine → (h : ℕ) → HasDistinctTags (buffered_requests h mine)
requests_have_distinct_tags setup opening [] run h = none_have_tags
requests_have_distinct_tags setup opening (e ∷ past) run h =
    let own = device_event setup opening e past run in
    let old = requests_have_distinct_tags setup opening past own.0 h in
    requests_step HasDistinctTags setup h e.cause e.sends past
    (λ m tag own on taken. take_keeps_tags m tag (buffered_requests h past) own taken.free old) (λ tag. use_keeps_tags tag (buffered_requests h past) old) old
    own.1

pub writes_have_distinct_tags : (setup : Configuration) (opening : List (Line × Bytes64)) (mine : List Event) → IsOwnRun setup opening device mine → (h : ℕ) → HasDistinctTags (buffered_writes h mine)
writes_have_distinct_tags setup opening [] run h = none_have_tags
writes_have_distinct_tags setup opening (e ∷ past) run h =
    let own = device_event setup opening e past run in
    let old = writes_have_distinct_tags setup opening past own.0 h in
    writes_step HasDistinctTags setup h e.cause e.sends past
    (λ m tag own on taken. take_keeps_tags m tag (buffered_writes h past) own taken.free old) (λ tag. use_keeps_tags tag (buffered_writes h past) old) old own.1

-- ---- a buffered message is one that the device takes from that channel

-- whether the device may take a message of host h from channel c
abbrev pub is_taken_on : Configuration → ℕ → Channel → Message → Bool
is_taken_on setup h c m = take_fits setup device h m && channel_eq (channel_of m) c

abbrev pub AreTakenOn : Configuration → ℕ → Channel → List Message → Type 0
AreTakenOn setup h c ms = list_all (is_taken_on setup h c) ms ≡ true

take_keeps_fit :
    (setup : Configuration) (h : ℕ) (c : Channel) (m : Message) (ms : List Message) → take_fits setup device h m ≡ true → channel_of m ≡ c
    → AreTakenOn setup h c ms → AreTakenOn setup h c (ms ++ m ∷ [])
take_keeps_fit setup h c m ms fits on old =
    list_all-append (is_taken_on setup h c) ms (m ∷ []) ∙ and_from _ _ old (and_from _ _ (and_from _ _ fits (same-channel_eq (channel_of m) c on)) refl)

all_chosen :
    {X : Type 0} (p : X → Bool) (b : Bool) (x : X) (xs ys : List X) → p x ≡ true → list_all p xs ≡ true → list_all p ys ≡ true
    → list_all p (cond b xs (x ∷ ys)) ≡ true
all_chosen p true x xs ys here more less = more
all_chosen p false x xs ys here more less = and_from _ _ here less

all_without : (p : Message → Bool) (tag : ℕ) (ms : List Message) → list_all p ms ≡ true → list_all p (without_tag tag ms) ≡ true
all_without p tag [] h = refl
all_without p tag (m ∷ ms) h =
    let parts = and_parts (p m) (list_all p ms) h in
    all_chosen p (has_tag tag m) m ms (without_tag tag ms) parts.0 parts.1 (all_without p tag ms parts.1)

pub requests_are_taken :
    (setup : Configuration) (opening : List (Line × Bytes64)) (mine : List Event) → IsOwnRun setup opening device mine → (h : ℕ) → AreTakenOn setup h Channel.Req (buffered_requests h mine)
requests_are_taken setup opening [] run h = refl
requests_are_taken setup opening (e ∷ past) run h =
    let own = device_event setup opening e past run in
    let old = requests_are_taken setup opening past own.0 h in
    requests_step (AreTakenOn setup h Channel.Req) setup h e.cause e.sends past
    (λ m tag own on taken. take_keeps_fit setup h Channel.Req m (buffered_requests h past) taken.fits on old)
    (λ tag. all_without (is_taken_on setup h Channel.Req) tag (buffered_requests h past) old) old own.1

pub writes_are_taken : (setup : Configuration) (opening : List (Line × Bytes64)) (mine : List Event) → IsOwnRun setup opening device mine → (h : ℕ) → AreTakenOn setup h Channel.Rwd (buffered_writes h mine)
writes_are_taken setup opening [] run h = refl
writes_are_taken setup opening (e ∷ past) run h =
    let own = device_event setup opening e past run in
    let old = writes_are_taken setup opening past own.0 h in
    writes_step (AreTakenOn setup h Channel.Rwd) setup h e.cause e.sends past
    (λ m tag own on taken. take_keeps_fit setup h Channel.Rwd m (buffered_writes h past) taken.fits on old)
    (λ tag. all_without (is_taken_on setup h Channel.Rwd) tag (buffered_writes h past) old) old own.1

found_chosen :
    (p q : Message → Bool) (y x : Message) (rest : Option Message) (b : Bool) → q y ≡ true → cond b (Some y) rest ≡ Some x → (rest ≡ Some x → q x ≡ true)
    → q x ≡ true
found_chosen p q y x rest true here h later = let same : y ≡ x = cc in subst (λ z. q z ≡ true) same here
found_chosen p q y x rest false here h later = later h

-- what holds of all messages holds of one that is found
pub all_found : (p q : Message → Bool) (ms : List Message) (m : Message) → list_all q ms ≡ true → find p ms ≡ Some m → q m ≡ true
all_found p q [] m h is = absurd (none-some m is)
all_found p q (n ∷ ms) m h is = let parts = and_parts (q n) (list_all q ms) h in found_chosen p q n m (find p ms) (p n) parts.0 is (all_found p q ms m parts.1)

-- the line of a buffered request exists
pub request_line_exists :
    (setup : Configuration) (h tag : ℕ) (ms : List Message) (r : FoundRequest tag ms) → AreTakenOn setup h Channel.Req ms → r.line.0 < setup.lines
request_line_exists setup h tag ms r taken =
    let m : Message = Message.Req r.op r.meta r.snp r.own_tag r.line in
    let both = and_parts (take_fits setup device h m) (channel_eq (channel_of m) Channel.Req)
    (all_found (has_tag tag) (is_taken_on setup h Channel.Req) ms m taken r.found) in
    let named = and_parts (is_addressed setup device h && goes_to device m && in_profile m) (message_fits setup m) both.0 in
    ltb-true _ _ (and_parts _ _ named.1).1
