-- How often an act of the device stands among the acts of the device: once where its host and line exist and its row holds.
use Rattle.std.proofs.Common.{◌≡◌, ℕ, ◌≤◌, Bool, true, false, List, Option, Some, None, cond, refl, sym, ◌∙◌, ap, subst, arith}
use Rattle.std.specs.Prelude.{◌==◌, ◌&&◌, is_some, nat_le, nat_lt, count_by, flat_map}
use Rattle.std.proofs.lemmas.Bool.{and_parts, eq-eqb, eqb-true, ne_eqb, leb-true, false≢true}
use Rattle.std.proofs.lemmas.Bool.Decides.{nat_tests}
use Rattle.cxl_message.specs.declared.channels.Channel.{Channel}
use Rattle.cxl_message.specs.declared.events.Act.{Act}
use Rattle.cxl_message.specs.declared.events.Commit.{Commit}
use Rattle.cxl_message.specs.declared.events.Event.{Event}
use Rattle.cxl_message.specs.declared.events.Sends.{Sends}
use Rattle.cxl_message.specs.declared.identifiers.Bytes64.{Bytes64}
use Rattle.cxl_message.specs.declared.identifiers.Line.{Line}
use Rattle.cxl_message.specs.declared.identifiers.Tag.{Tag}
use Rattle.cxl_message.specs.declared.messages.Message.{Message}
use Rattle.cxl_message.specs.Lists.{below}
use Rattle.cxl_message.specs.Messages.{channel_of, has_tag, tag_of}
use Rattle.cxl_message.specs.Setup.{Configuration}
use Rattle.coherence_model.specs.Buffers.{buffered_requests, buffered_writes, message_with}
use Rattle.coherence_model.specs.DeviceActs.{Request, buffered_request, device_acts}
use Rattle.coherence_model.specs.DirectoryChanges.{directory}
use Rattle.coherence_model.specs.Next.{request_acts, tag_or_zero, write_acts}
use Rattle.coherence_model.specs.Rows.{row_holds}
use Rattle.coherence_model.specs.Traces.{device, events_of}
use Rattle.step_laws.specs.Events.{event_eq}
use Rattle.step_laws.proofs.Buffered.{IsBuffered, requests_fit, requests_once, tag_count, writes_fit, writes_once}
use Rattle.step_laws.proofs.Counts.{Each, each_holds, each_weaker, counted, count_by-flat_map, find-is_some, sum_by-below, sum_by-same}
use Rattle.step_laws.proofs.DeviceParts.{all_requests, all_serves, device-act-some, on_tag}
use Rattle.step_laws.proofs.DeviceRows.{clean-holds, clean_or_evict, clean_or_start, evict-holds, request-found, serve-holds, start-holds, start_or_evict}
use Rattle.step_laws.proofs.LineActs.{sum-under}
use Rattle.coherence_model.specs.OwnRuns.{IsOwnRun}
use Rattle.step_laws.proofs.Steps.{act_event, counted-one, no-device-act, three-first, three-second, three-third, times-act}
use Rattle.step_laws.proofs.Takes.{sorted-step, times}

-- whether messages on a channel have tags
abbrev is_tagged : Channel → Bool
is_tagged Channel.Req = true
is_tagged Channel.Rwd = true
is_tagged Channel.BiRsp = false
is_tagged Channel.Ndr = false
is_tagged Channel.Drs = false
is_tagged Channel.BiSnp = false
is_tagged Channel.CreditUp = false
is_tagged Channel.CreditDown = false

credit-untagged : (c : Channel) → is_tagged (channel_of (Message.Credit c)) ≡ true → false ≡ true
credit-untagged Channel.Req h = h
credit-untagged Channel.Rwd h = h
credit-untagged Channel.BiRsp h = h
credit-untagged Channel.Ndr h = h
credit-untagged Channel.Drs h = h
credit-untagged Channel.BiSnp h = h
credit-untagged Channel.CreditUp h = h
credit-untagged Channel.CreditDown h = h

tag-is_some : (m : Message) → is_tagged (channel_of m) ≡ true → is_some (tag_of m) ≡ true
tag-is_some (Message.Req op meta snp tag line) h = refl
tag-is_some (Message.MemWr meta snp tag line bytes) h = refl
tag-is_some (Message.BiConflict tag) h = refl
tag-is_some (Message.BiRsp op bitag low) h = h
tag-is_some (Message.Ndr op tag) h = refl
tag-is_some (Message.MemData tag bytes) h = refl
tag-is_some (Message.BiSnp op bitag line span) h = h
tag-is_some (Message.Credit c) h = credit-untagged c h

eqb_swap : (a b : ℕ) → (a == b) ≡ (b == a)
eqb_swap a b = grind (arith, nat_tests)

tag-step : (tag : ℕ) (m : Message) (o : Option ℕ) → tag_of m ≡ o → is_some o ≡ true → (tag == tag_or_zero m) ≡ has_tag tag m
tag-step tag m None is some = absurd (false≢true some)
tag-step tag m (Some k) is some = rw is (eqb_swap tag k)

-- the messages that an act of this tag is for are those that have the tag
tags-counted :
    (setup : Configuration) (c : Channel) (tag : ℕ) → is_tagged c ≡ true → (ms : List Message) → Each (IsBuffered setup c) ms
    → count_by (λ m. tag == tag_or_zero m) ms ≡ tag_count tag ms
tags-counted setup c tag tagged ms fit =
    sum_by-same (λ m. counted (tag == tag_or_zero m)) (λ m. counted (has_tag tag m)) ms
    (each_weaker _ _ (λ m buffered. ap counted (tag-step tag m (tag_of m) refl
    (tag-is_some m (subst (λ d. is_tagged d ≡ true) (sym buffered.channel) tagged)))) ms fit)

-- what is counted once under its tests
pub host-step : (b at row : Bool) (h n : ℕ) → (at ≡ true → row ≡ true → n ≡ 1) → cond b (cond (((h == h) && at) && row) n 0) 0 ≡ counted (b && (at && row))
host-step true true true h n one = rw (eq-eqb h h refl) (one refl refl)
host-step true true false h n one = rw (eq-eqb h h refl)
host-step true false row h n one = rw (eq-eqb h h refl)
host-step false at row h n one = refl

pub other-host : (h k : ℕ) (at row : Bool) (n : ℕ) → (k ≡ h → ⊥) → cond (((h == k) && at) && row) n 0 ≡ 0
other-host h k at row n other = rw (ne_eqb h k (λ e. other (sym e)))

-- what is known of the device of a run
abbrev pub AtDevice : Configuration → List (Line × Bytes64) → List Event → Type 0
AtDevice setup opening t = IsOwnRun setup opening device (events_of device t)

once-found : (n : ℕ) (b : Bool) (count : ℕ) → n ≡ count → count ≤ 1 → b ≡ nat_le 1 count → b ≡ true → n ≡ 1
once-found n b count same few is some = let one = leb-true 1 count (sym is ∙ some) in omega arith

-- acts for the buffered messages of each host: one for a tag stands once where its host exists and its row holds
messages-counted :
    (hosts : ℕ) (e : Event) (h tag : ℕ) (at row : Bool) (held : ℕ → List Message) (step : ℕ → Message → List Event)
    → ((k : ℕ) (m : Message) → times e (step k m) ≡ counted ((((h == k) && (tag == tag_or_zero m)) && at) && row))
    → (at ≡ true → row ≡ true → count_by (λ m. tag == tag_or_zero m) (held h) ≡ 1)
    → times e (flat_map (λ k. flat_map (step k) (held k)) (below hosts)) ≡ counted (nat_lt h hosts && (at && row))
messages-counted hosts e h tag at row held step stands one =
    let of_host : (k : ℕ) → times e (flat_map (step k) (held k)) ≡ cond (((h == k) && at) && row) (count_by (λ m. tag == tag_or_zero m) (held k)) 0 =
    λ k. count_by-flat_map (event_eq e) (step k) (held k)
    ∙ (sum_by-same (λ m. times e (step k m)) (λ m. cond (((h == k) && at) && row) (counted (tag == tag_or_zero m)) 0) (held k)
    (each_holds (λ m. times e (step k m) ≡ cond (((h == k) && at) && row) (counted (tag == tag_or_zero m)) 0)
    (λ m. stands k m ∙ sorted-step (h == k) (tag == tag_or_zero m) at row) (held k))
    ∙ sum-under (((h == k) && at) && row) (λ m. counted (tag == tag_or_zero m)) (held k)) in
    count_by-flat_map (event_eq e) (λ k. flat_map (step k) (held k)) (below hosts)
    ∙ (sum_by-below (λ k. times e (flat_map (step k) (held k))) h hosts (λ k other. of_host k ∙ other-host h k at row _ other)
    ∙ (ap (λ n. cond (nat_lt h hosts) n 0) (of_host h) ∙ host-step (nat_lt h hosts) at row h _ one))

-- Serve stands once where its host exists and its row holds
pub serve-counted :
    (setup : Configuration) (opening : List (Line × Bytes64)) (t : List Event) → AtDevice setup opening t
    → (g h : ℕ) (tag : Tag) (sends : Sends) (commit : Option Commit)
    → times (act_event g (Act.Serve h tag) sends commit) (all_serves setup opening t) ≡ counted
    (nat_lt h setup.hosts && ((g == device) && row_holds setup opening (act_event g (Act.Serve h tag) sends commit) (events_of g t)))
serve-counted setup opening t run g h tag sends commit =
    let mine : List Event = events_of device t in
    let e : Event = act_event g (Act.Serve h tag) sends commit in
    messages-counted setup.hosts e h tag.0 (g == device) (row_holds setup opening e (events_of g t)) (λ k. buffered_writes k mine) (write_acts setup opening t)
    (λ k m. times-act setup opening t e device (Act.Serve k (record { 0 = tag_or_zero m })))
    (λ is holds. once-found _ (is_some (message_with tag.0 (buffered_writes h mine))) (tag_count tag.0 (buffered_writes h mine))
    (tags-counted setup Channel.Rwd tag.0 refl (buffered_writes h mine) (writes_fit setup opening device h mine run)) (writes_once setup opening h mine run tag.0)
    (find-is_some (has_tag tag.0) (buffered_writes h mine))
    (ap is_some (serve-holds h (message_with tag.0 (buffered_writes h mine)) (device-act-some setup opening t g (Act.Serve h tag) sends commit is holds)).1))

-- a buffered request with a tag is the one message with the tag
request-once :
    (setup : Configuration) (opening : List (Line × Bytes64)) (t : List Event) → AtDevice setup opening t → (h : ℕ) (tag : Tag) (r : Request)
    → buffered_request h tag (events_of device t) ≡ Some r → count_by (λ m. tag.0 == tag_or_zero m) (buffered_requests h (events_of device t)) ≡ 1
request-once setup opening t run h tag r is =
    let mine : List Event = events_of device t in
    once-found _ (is_some (message_with tag.0 (buffered_requests h mine))) (tag_count tag.0 (buffered_requests h mine))
    (tags-counted setup Channel.Req tag.0 refl (buffered_requests h mine) (requests_fit setup opening device h mine run))
    (requests_once setup opening h mine run tag.0) (find-is_some (has_tag tag.0) (buffered_requests h mine))
    (ap is_some (request-found (message_with tag.0 (buffered_requests h mine)) r is).1)

-- where an act for a tag stands, its host and tag are those of the list
stands-parts :
    (h k tag tag' : ℕ) (at row : Bool) → 1 ≤ counted ((((h == k) && (tag == tag')) && at) && row) → (h ≡ k) × (tag ≡ tag') × (at ≡ true) × (row ≡ true)
stands-parts h k tag tag' at row one =
    let a = counted-one (((h == k) && (tag == tag')) && at) row one in
    let b = and_parts _ _ a.0 in
    let c = and_parts _ _ b.0 in
    (eqb-true h k c.0, eqb-true tag tag' c.1, b.1, a.1)

-- an act whose row holds for a tag, at the list's own host and tag
moved : (P : ℕ → Tag → Type 0) (h k tag tag' : ℕ) → h ≡ k → tag ≡ tag' → P h (record { 0 = tag }) → P k (record { 0 = tag' })
moved P h k tag tag' e f p = subst (λ x. P k (record { 0 = x })) f (subst (λ x. P x (record { 0 = tag })) e p)

-- Clean stands once where its host exists and its row holds
pub clean-counted :
    (setup : Configuration) (opening : List (Line × Bytes64)) (t : List Event) → AtDevice setup opening t
    → (g h : ℕ) (tag : Tag) (sends : Sends) (commit : Option Commit)
    → times (act_event g (Act.Clean h tag) sends commit) (all_requests setup opening t) ≡ counted
    (nat_lt h setup.hosts && ((g == device) && row_holds setup opening (act_event g (Act.Clean h tag) sends commit) (events_of g t)))
clean-counted setup opening t run g h tag sends commit =
    let mine : List Event = events_of device t in
    let e : Event = act_event g (Act.Clean h tag) sends commit in
    let row : Bool = row_holds setup opening e (events_of g t) in
    messages-counted setup.hosts e h tag.0 (g == device) row (λ k. buffered_requests k mine) (request_acts setup opening t)
    (λ k m. three-first e (on_tag setup opening t Act.Clean k (tag_or_zero m)) (on_tag setup opening t Act.Start k (tag_or_zero m))
    (on_tag setup opening t Act.Evict k (tag_or_zero m))
    (times-act setup opening t e device (Act.Start k (record { 0 = tag_or_zero m })))
    (times-act setup opening t e device (Act.Evict k (record { 0 = tag_or_zero m })))
    ∙ times-act setup opening t e device (Act.Clean k (record { 0 = tag_or_zero m })))
    (λ is holds. let c = clean-holds h (buffered_request h tag mine) (directory setup mine)
    (device-act-some setup opening t g (Act.Clean h tag) sends commit is holds) in request-once setup opening t run h tag c.0 c.1)

-- Start stands once where its host exists and its row holds
pub start-counted :
    (setup : Configuration) (opening : List (Line × Bytes64)) (t : List Event) → AtDevice setup opening t
    → (g h : ℕ) (tag : Tag) (sends : Sends) (commit : Option Commit)
    → times (act_event g (Act.Start h tag) sends commit) (all_requests setup opening t) ≡ counted
    (nat_lt h setup.hosts && ((g == device) && row_holds setup opening (act_event g (Act.Start h tag) sends commit) (events_of g t)))
start-counted setup opening t run g h tag sends commit =
    let mine : List Event = events_of device t in
    let e : Event = act_event g (Act.Start h tag) sends commit in
    let row : Bool = row_holds setup opening e (events_of g t) in
    let some : (g == device) ≡ true → row ≡ true → is_some (device_acts setup opening (Act.Start h tag) mine) ≡ true = device-act-some setup opening t g (Act.Start h tag) sends commit in
    let stands : (k : ℕ) (m : Message) → times e (on_tag setup opening t Act.Start k (tag_or_zero m)) ≡ counted ((((h == k) && (tag.0 == tag_or_zero m)) && (g == device)) && row) = λ k m. times-act setup opening t e device (Act.Start k (record { 0 = tag_or_zero m })) in
    messages-counted setup.hosts e h tag.0 (g == device) row (λ k. buffered_requests k mine) (request_acts setup opening t)
    (λ k m. three-second e (on_tag setup opening t Act.Clean k (tag_or_zero m)) (on_tag setup opening t Act.Start k (tag_or_zero m))
    (on_tag setup opening t Act.Evict k (tag_or_zero m))
    (times-act setup opening t e device (Act.Clean k (record { 0 = tag_or_zero m })))
    (times-act setup opening t e device (Act.Evict k (record { 0 = tag_or_zero m })))
    (λ one.
    let p = stands-parts h k tag.0 (tag_or_zero m) (g == device) row (subst (λ n. 1 ≤ n) (stands k m) one) in
    let here = moved (λ x y. is_some (device_acts setup opening (Act.Start x y) mine) ≡ true) h k tag.0 (tag_or_zero m) p.0 p.1 (some p.2 p.3) in
    no-device-act setup opening t (Act.Clean k (record { 0 = tag_or_zero m }))
    (λ clean. clean_or_start setup k (buffered_request k (record { 0 = tag_or_zero m }) mine) (directory setup mine) mine clean here))
    ∙ stands k m)
    (λ is holds. let s = start-holds setup h (buffered_request h tag mine) (directory setup mine) mine
    (some is holds) in request-once setup opening t run h tag s.0 s.1)

-- Evict stands once where its host exists and its row holds
pub evict-counted :
    (setup : Configuration) (opening : List (Line × Bytes64)) (t : List Event) → AtDevice setup opening t
    → (g h : ℕ) (tag : Tag) (sends : Sends) (commit : Option Commit)
    → times (act_event g (Act.Evict h tag) sends commit) (all_requests setup opening t) ≡ counted
    (nat_lt h setup.hosts && ((g == device) && row_holds setup opening (act_event g (Act.Evict h tag) sends commit) (events_of g t)))
evict-counted setup opening t run g h tag sends commit =
    let mine : List Event = events_of device t in
    let e : Event = act_event g (Act.Evict h tag) sends commit in
    let row : Bool = row_holds setup opening e (events_of g t) in
    let some : (g == device) ≡ true → row ≡ true → is_some (device_acts setup opening (Act.Evict h tag) mine) ≡ true = device-act-some setup opening t g (Act.Evict h tag) sends commit in
    let stands : (k : ℕ) (m : Message) → times e (on_tag setup opening t Act.Evict k (tag_or_zero m)) ≡ counted ((((h == k) && (tag.0 == tag_or_zero m)) && (g == device)) && row) = λ k m. times-act setup opening t e device (Act.Evict k (record { 0 = tag_or_zero m })) in
    let here : (k : ℕ) (m : Message) → 1 ≤ times e (on_tag setup opening t Act.Evict k (tag_or_zero m)) → is_some (device_acts setup opening (Act.Evict k (record { 0 = tag_or_zero m })) mine) ≡ true =
    λ k m one.
    let p = stands-parts h k tag.0 (tag_or_zero m) (g == device) row (subst (λ n. 1 ≤ n) (stands k m) one) in
    moved (λ x y. is_some (device_acts setup opening (Act.Evict x y) mine) ≡ true) h k tag.0 (tag_or_zero m) p.0 p.1 (some p.2 p.3) in
    messages-counted setup.hosts e h tag.0 (g == device) row (λ k. buffered_requests k mine) (request_acts setup opening t)
    (λ k m. three-third e (on_tag setup opening t Act.Clean k (tag_or_zero m)) (on_tag setup opening t Act.Start k (tag_or_zero m))
    (on_tag setup opening t Act.Evict k (tag_or_zero m))
    (times-act setup opening t e device (Act.Clean k (record { 0 = tag_or_zero m })))
    (times-act setup opening t e device (Act.Start k (record { 0 = tag_or_zero m })))
    (λ one. no-device-act setup opening t (Act.Clean k (record { 0 = tag_or_zero m }))
    (λ clean. clean_or_evict setup k (buffered_request k (record { 0 = tag_or_zero m }) mine) (directory setup mine) mine clean (here k m one)))
    (λ one. no-device-act setup opening t (Act.Start k (record { 0 = tag_or_zero m }))
    (λ start. start_or_evict setup k (buffered_request k (record { 0 = tag_or_zero m }) mine) (directory setup mine) mine start (here k m one)))
    ∙ stands k m)
    (λ is holds. let v = evict-holds setup h (buffered_request h tag mine) (directory setup mine) mine
    (some is holds) in request-once setup opening t run h tag v.0 v.1)
