-- The buffered Req messages that are kept follow each event, with their evictions and reservations.
use Rattle.std.proofs.Common.{◌≡◌, ℕ, ◌<◌, ◌≤◌, ◌+◌, Bool, true, false, List, [], ◌∷◌, ◌++◌, Option, Some, None, cond, map, refl, ap, sym, ◌∙◌, subst, arith}
use Rattle.std.specs.Prelude.{count_by, ◌&&◌, ◌==◌}
use Rattle.std.specs.Option.{option_map_or}
use Rattle.std.proofs.lemmas.Bool.{cond-false, eq-eqb, false≢true, ltb-true, ne_eqb}
use Rattle.std.proofs.lemmas.List.Sums.{sum_by-cons}
use Rattle.std.proofs.lemmas.Option.{none-some}
use Rattle.cxl_message.specs.declared.channels.Channel.{Channel}
use Rattle.cxl_message.specs.declared.events.Act.{Act}
use Rattle.cxl_message.specs.declared.events.Cause.{Cause}
use Rattle.cxl_message.specs.declared.events.Event.{Event}
use Rattle.cxl_message.specs.declared.events.Sends.{Sends}
use Rattle.cxl_message.specs.declared.identifiers.Bytes64.{Bytes64}
use Rattle.cxl_message.specs.declared.identifiers.Line.{Line}
use Rattle.cxl_message.specs.declared.identifiers.Tag.{Tag}
use Rattle.cxl_message.specs.declared.messages.Message.{Message}
use Rattle.cxl_message.specs.declared.opcodes.Meta.{Meta}
use Rattle.cxl_message.specs.declared.opcodes.ReqOp.{ReqOp}
use Rattle.cxl_message.specs.declared.opcodes.SnpType.{SnpType}
use Rattle.cxl_message.specs.Codes.{channel_eq}
use Rattle.cxl_message.specs.Lists.{below}
use Rattle.cxl_message.specs.Messages.{channel_of, has_tag, tag_of}
use Rattle.cxl_message.specs.Setup.{Configuration}
use Rattle.coherence_model.specs.Buffers.{buffered_requests, requests_after, without_tag, without_used}
use Rattle.coherence_model.specs.DirectoryChanges.{directory}
use Rattle.coherence_model.specs.Fitting.{cause_fits}
use Rattle.coherence_model.specs.Room.{Room, is_no_eviction, request_room, room_after, room_after_finish}
use Rattle.coherence_model.specs.Tasks.{Task, is_eviction}
use Rattle.coherence_model.specs.Traces.{device}
use Rattle.coherence_model.specs.Words.{with_last}
use Rattle.entry_laws.proofs.Buffered.{credit_is_no_request}
use Rattle.entry_laws.proofs.DeviceRows.{DeviceRow, TakenMessage}
use Rattle.device_record.specs.BufferChanges.{request_roomed, request_taken, requests_finished, requests_in, without_request}
use Rattle.device_record.specs.Tables.{changed_at}
use Rattle.device_record.specs.Kept.{kept_device, kept_request, kept_requests, lines_left, room_in, task_of, with_room}
use Rattle.device_record.specs.Record.{WaitingRequest}
use Rattle.device_laws.proofs.Buffers.{act_host, take_host, takes_elsewhere, takes_here, takes_other}
use Rattle.device_laws.proofs.FilterLookups.{same_eq}
use Rattle.device_laws.proofs.Lookups.{task_is}
use Rattle.device_laws.proofs.Tables.{change_table, same_table}
use Rattle.device_laws.proofs.DeviceRuns.{DeviceRun, directory_is_kept, requests_have_distinct_tags, rooms_are_kept, tasks_are_shaped}

-- ---- one buffer

-- one more at the end
more_last : (rooms : ℕ → Room) (m : Message) (ms : List Message) → map (with_room rooms) (ms ++ m ∷ []) ≡ map (with_room rooms) ms ++ with_room rooms m ∷ []
more_last rooms m [] = refl
more_last rooms m (n ∷ ms) = ap (λ l. with_room rooms n ∷ l) (more_last rooms m ms)

without_by : (rooms : ℕ → Room) (m : Message) (ms ns : List Message) (rest : List WaitingRequest) (b : Bool) → map (with_room rooms) ns ≡ rest
    → map (with_room rooms) (cond b ms (m ∷ ns)) ≡ cond b (map (with_room rooms) ms) (with_room rooms m ∷ rest)
without_by rooms m ms ns rest true same = refl
without_by rooms m ms ns rest false same = ap (λ l. with_room rooms m ∷ l) same

-- the first with a tag is gone
one_gone : (rooms : ℕ → Room) (tag : ℕ) (ms : List Message) → map (with_room rooms) (without_tag tag ms) ≡ without_request tag (map (with_room rooms) ms)
one_gone rooms tag [] = refl
one_gone rooms tag (m ∷ ms) = without_by rooms m ms (without_tag tag ms) (without_request tag (map (with_room rooms) ms)) (has_tag tag m) (one_gone rooms tag ms)

roomed_at : (new old : Room) (m : Message) (r : WaitingRequest) (b : Bool) → r ≡ record { message = m; room = old } → record { message = m; room = cond b new old } ≡ cond b (record r { room = new }) r
roomed_at new old m r true is = ap {B = WaitingRequest} (λ (x : WaitingRequest). record x { room = new }) (sym is)
roomed_at new old m r false is = sym is

roomed_by : (tag : ℕ) (new : Room) (rooms : ℕ → Room) (m : Message) (o : Option ℕ) (r : WaitingRequest) → r ≡ record { message = m; room = room_in rooms o }
    → record { message = m; room = room_in (λ t. cond (tag == t) new (rooms t)) o } ≡ cond (option_map_or (λ t. t == tag) o false) (record r { room = new }) r
roomed_by tag new rooms m None r is = sym is
roomed_by tag new rooms m (Some t) r is =
    roomed_at new (rooms t) m r (tag == t) is ∙ ap (λ b. cond b (record r { room = new }) r) (same_eq tag t)

-- the room of one tag is set
pub rooms_set : (tag : ℕ) (new : Room) (rooms : ℕ → Room) (ms : List Message) → map (with_room (λ t. cond (tag == t) new (rooms t))) ms ≡ map (request_roomed tag new) (map (with_room rooms) ms)
rooms_set tag new rooms [] = refl
rooms_set tag new rooms (m ∷ ms) = λ i. roomed_by tag new rooms m (tag_of m) (with_room rooms m) refl i ∷ rooms_set tag new rooms ms i

-- a tag that a message hasn't may have any room
other_room : (tag : ℕ) (new : Room) (rooms : ℕ → Room) (m : Message) (o : Option ℕ) → option_map_or (λ t. t == tag) o false ≡ false
    → room_in (λ t. cond (tag == t) new (rooms t)) o ≡ room_in rooms o
other_room tag new rooms m None other = refl
other_room tag new rooms m (Some t) other = cond-false (tag == t) new (rooms t) (same_eq tag t ∙ other)

none_of : (b : Bool) (n : ℕ) → cond b 1 0 + n ≡ 0 → (b ≡ false) × (n ≡ 0)
none_of true n none = absurd (omega arith)
none_of false n none = (refl, omega arith)

-- so may one that no message has
none_have : (tag : ℕ) (new : Room) (rooms : ℕ → Room) (ms : List Message) → count_by (has_tag tag) ms ≡ 0 → map (with_room (λ t. cond (tag == t) new (rooms t))) ms ≡ map (with_room rooms) ms
none_have tag new rooms [] none = refl
none_have tag new rooms (m ∷ ms) none =
    let parts = none_of (has_tag tag m) (count_by (has_tag tag) ms) (sym (sum_by-cons (λ x. cond (has_tag tag x) 1 0) m ms) ∙ none) in
    λ i. record { message = m; room = other_room tag new rooms m (tag_of m) parts.0 i } ∷ none_have tag new rooms ms parts.1 i

gone_by : (tag : ℕ) (new : Room) (rooms : ℕ → Room) (m : Message) (ms : List Message) (b : Bool) → has_tag tag m ≡ b → cond b 1 0 + count_by (has_tag tag) ms ≤ 1
    → (count_by (has_tag tag) ms ≤ 1 → map (with_room (λ t. cond (tag == t) new (rooms t))) (without_tag tag ms) ≡ map (with_room rooms) (without_tag tag ms))
    → map (with_room (λ t. cond (tag == t) new (rooms t))) (cond b ms (m ∷ without_tag tag ms)) ≡ map (with_room rooms) (cond b ms (m ∷ without_tag tag ms))
gone_by tag new rooms m ms true is few later = none_have tag new rooms ms (omega arith)
gone_by tag new rooms m ms false is few later =
    λ i. record { message = m; room = other_room tag new rooms m (tag_of m) is i } ∷ later (omega arith) i

-- where one had it and is gone, none has it
others_stay : (tag : ℕ) (new : Room) (rooms : ℕ → Room) (ms : List Message) → count_by (has_tag tag) ms ≤ 1
    → map (with_room (λ t. cond (tag == t) new (rooms t))) (without_tag tag ms) ≡ map (with_room rooms) (without_tag tag ms)
others_stay tag new rooms [] few = refl
others_stay tag new rooms (m ∷ ms) few =
    gone_by tag new rooms m ms (has_tag tag m) refl (subst (λ n. n ≤ 1) (sum_by-cons (λ x. cond (has_tag tag x) 1 0) m ms) few) (others_stay tag new rooms ms)

-- ---- the table

-- the rooms of a host where one tag's is set at host k
abbrev pub rooms_at : (k tag : ℕ) → Room → (ℕ → ℕ → Room) → ℕ → ℕ → Room
rooms_at k tag new rooms h t = cond ((k == h) && (tag == t)) new (rooms h t)

rooms_own : (k tag : ℕ) (new : Room) (rooms : ℕ → ℕ → Room) → rooms_at k tag new rooms k ≡ (λ t. cond (tag == t) new (rooms k t))
rooms_own k tag new rooms = ap {B = ℕ → Room} (λ (b : Bool) (t : ℕ). cond (b && (tag == t)) new (rooms k t)) (eq-eqb k k refl)

rooms_other : (k tag : ℕ) (new : Room) (rooms : ℕ → ℕ → Room) (h : ℕ) → (h ≡ k → ⊥) → rooms_at k tag new rooms h ≡ rooms h
rooms_other k tag new rooms h other = ap {B = ℕ → Room} (λ (b : Bool) (t : ℕ). cond (b && (tag == t)) new (rooms h t)) (ne_eqb k h (λ same. other (sym same)))

-- a request that starts: it leaves the buffer, and its room is given up
started_table : (hosts k tag : ℕ) (rooms : ℕ → ℕ → Room) (buffers : ℕ → List Message) → k < hosts → count_by (has_tag tag) (buffers k) ≤ 1
    → map (λ h. map (with_room (rooms_at k tag Room.NoEviction rooms h)) (without_used (cond (k == h) (Some tag) None) (buffers h))) (below hosts)
    ≡ changed_at k (without_request tag) (map (λ h. map (with_room (rooms h)) (buffers h)) (below hosts))
started_table hosts k tag rooms buffers low few =
    sym (change_table (λ h. map (with_room (rooms h)) (buffers h))
    (λ h. map (with_room (rooms_at k tag Room.NoEviction rooms h)) (without_used (cond (k == h) (Some tag) None) (buffers h))) hosts k (without_request tag) low
    (ap (λ b. map (with_room (rooms_at k tag Room.NoEviction rooms k)) (without_used (cond b (Some tag) None) (buffers k))) (eq-eqb k k refl)
    ∙ ap (λ (f : ℕ → Room). map (with_room f) (without_tag tag (buffers k))) (rooms_own k tag Room.NoEviction rooms)
    ∙ others_stay tag Room.NoEviction (rooms k) (buffers k) few ∙ one_gone (rooms k) tag (buffers k))
    (λ j other less. sym (ap (λ b. map (with_room (rooms_at k tag Room.NoEviction rooms j)) (without_used (cond b (Some tag) None) (buffers j))) (ne_eqb k j (λ same. other (sym same)))
    ∙ ap (λ (f : ℕ → Room). map (with_room f) (buffers j)) (rooms_other k tag Room.NoEviction rooms j other))))

-- one that is cleaned
cleaned_table : (hosts k tag : ℕ) (rooms : ℕ → ℕ → Room) (buffers : ℕ → List Message) → k < hosts
    → map (λ h. map (with_room (rooms h)) (without_used (cond (k == h) (Some tag) None) (buffers h))) (below hosts)
    ≡ changed_at k (without_request tag) (map (λ h. map (with_room (rooms h)) (buffers h)) (below hosts))
cleaned_table hosts k tag rooms buffers low =
    sym (change_table (λ h. map (with_room (rooms h)) (buffers h)) (λ h. map (with_room (rooms h)) (without_used (cond (k == h) (Some tag) None) (buffers h))) hosts k (without_request tag) low
    (ap (λ b. map (with_room (rooms k)) (without_used (cond b (Some tag) None) (buffers k))) (eq-eqb k k refl) ∙ one_gone (rooms k) tag (buffers k))
    (λ j other less. sym (ap (λ b. map (with_room (rooms j)) (without_used (cond b (Some tag) None) (buffers j))) (ne_eqb k j (λ same. other (sym same))))))

-- one whose room is set
roomed_table : (hosts k tag : ℕ) (new : Room) (rooms : ℕ → ℕ → Room) (buffers : ℕ → List Message) → k < hosts
    → map (λ h. map (with_room (rooms_at k tag new rooms h)) (buffers h)) (below hosts)
    ≡ changed_at k (map (request_roomed tag new)) (map (λ h. map (with_room (rooms h)) (buffers h)) (below hosts))
roomed_table hosts k tag new rooms buffers low =
    sym (change_table (λ h. map (with_room (rooms h)) (buffers h)) (λ h. map (with_room (rooms_at k tag new rooms h)) (buffers h)) hosts k (map (request_roomed tag new)) low
    (ap (λ (f : ℕ → Room). map (with_room f) (buffers k)) (rooms_own k tag new rooms) ∙ rooms_set tag new (rooms k) (buffers k))
    (λ j other less. sym (ap (λ (f : ℕ → Room). map (with_room f) (buffers j)) (rooms_other k tag new rooms j other))))

-- one that is taken
taken_table : (hosts k : ℕ) (m : Message) (rooms : ℕ → ℕ → Room) (buffers : ℕ → List Message) → k < hosts → channel_eq (channel_of m) Channel.Req ≡ true → with_room (rooms k) m ≡ request_taken m
    → map (λ h. map (with_room (rooms h)) (requests_after h (Cause.Take k m) (buffers h))) (below hosts)
    ≡ changed_at k (λ rs. rs ++ request_taken m ∷ []) (map (λ h. map (with_room (rooms h)) (buffers h)) (below hosts))
taken_table hosts k m rooms buffers low on fresh =
    sym (change_table (λ h. map (with_room (rooms h)) (buffers h)) (λ h. map (with_room (rooms h)) (requests_after h (Cause.Take k m) (buffers h))) hosts k (λ rs. rs ++ request_taken m ∷ []) low
    (ap (λ o. map (with_room (rooms k)) (with_last o (buffers k))) (takes_here k Channel.Req m on) ∙ more_last (rooms k) m (buffers k)
    ∙ ap (λ r. map (with_room (rooms k)) (buffers k) ++ r ∷ []) fresh)
    (λ j other less. sym (ap (λ o. map (with_room (rooms j)) (with_last o (buffers j))) (takes_elsewhere j k Channel.Req m (λ same. other (sym same))))))

stay_table : (hosts k : ℕ) (m : Message) (rooms : ℕ → ℕ → Room) (buffers : ℕ → List Message) → channel_eq (channel_of m) Channel.Req ≡ false
    → map (λ h. map (with_room (rooms h)) (requests_after h (Cause.Take k m) (buffers h))) (below hosts) ≡ map (λ h. map (with_room (rooms h)) (buffers h)) (below hosts)
stay_table hosts k m rooms buffers other =
    same_table (λ h. map (with_room (rooms h)) (requests_after h (Cause.Take k m) (buffers h))) (λ h. map (with_room (rooms h)) (buffers h)) hosts
    (λ h low. ap (λ o. map (with_room (rooms h)) (with_last o (buffers h))) (takes_other h k Channel.Req m other))

-- ---- Finish

evicted_by : (purposed : Bool) (k tag h t : ℕ) (new old : Room) → purposed ≡ true → cond ((purposed && (k == h)) && (tag == t)) new old ≡ cond ((k == h) && (tag == t)) new old
evicted_by true k tag h t new old is = refl
evicted_by false k tag h t new old is = absurd (false≢true is)

kept_by : (purposed : Bool) (k tag h t : ℕ) (new old : Room) → purposed ≡ false → cond ((purposed && (k == h)) && (tag == t)) new old ≡ old
kept_by true k tag h t new old is = absurd (false≢true (sym is))
kept_by false k tag h t new old is = refl

finish_by : (setup : Configuration) (t : Task) (rooms : ℕ → ℕ → Room) (buffers : ℕ → List Message) (requests : List (List WaitingRequest)) → requests ≡ map (λ h. map (with_room (rooms h)) (buffers h)) (below setup.hosts)
    → t.host < setup.hosts → (b : Bool) → is_eviction t.purpose ≡ b
    → map (λ h. map (with_room (λ tag. room_after_finish h tag (Some t) (rooms h tag))) (buffers h)) (below setup.hosts)
    ≡ cond b (changed_at t.host (map (request_roomed t.tag Room.Reservation)) requests) requests
finish_by setup t rooms buffers requests are low true is =
    ap (λ (f : ℕ → ℕ → Room). map (λ h. map (with_room (f h)) (buffers h)) (below setup.hosts)) (λ i h tag. evicted_by (is_eviction t.purpose) t.host t.tag h tag Room.Reservation (rooms h tag) is i)
    ∙ roomed_table setup.hosts t.host t.tag Room.Reservation rooms buffers low
    ∙ ap (changed_at t.host (map (request_roomed t.tag Room.Reservation))) (sym are)
finish_by setup t rooms buffers requests are low false is =
    ap (λ (f : ℕ → ℕ → Room). map (λ h. map (with_room (f h)) (buffers h)) (below setup.hosts)) (λ i h tag. kept_by (is_eviction t.purpose) t.host t.tag h tag Room.Reservation (rooms h tag) is i)
    ∙ sym are

finish_found : (setup : Configuration) (past : List Event) (a : ℕ) (rooms : ℕ → ℕ → Room) (buffers : ℕ → List Message) (requests : List (List WaitingRequest))
    → requests ≡ map (λ h. map (with_room (rooms h)) (buffers h)) (below setup.hosts) → (found : Option Task) → ((t : Task) → found ≡ Some t → t.host < setup.hosts)
    → map (λ h. map (with_room (λ tag. room_after_finish h tag found (rooms h tag))) (buffers h)) (below setup.hosts)
    ≡ requests_finished (task_of setup.hosts (λ b. found) (lines_left past) a) requests
finish_found setup past a rooms buffers requests are None named = sym are
finish_found setup past a rooms buffers requests are (Some t) named = finish_by setup t rooms buffers requests are (named t refl) (is_eviction t.purpose) refl

-- ---- each cause

no_eviction : (r : Room) → is_no_eviction r ≡ true → r ≡ Room.NoEviction
no_eviction Room.NoEviction is = refl
no_eviction Room.EvictionInProgress is = absurd (false≢true is)
no_eviction Room.Reservation is = absurd (false≢true is)

fresh_by : (r : Room) (b : Bool) → is_no_eviction r ≡ b → (b ≡ false → ⊥) → r ≡ Room.NoEviction
fresh_by r true is other = no_eviction r is
fresh_by r false is other = absurd (other refl)

-- a request that may be taken has no eviction
fresh_room : (setup : Configuration) (past : List Event) → DeviceRun setup past → (k : ℕ) (op : ReqOp) (meta : Meta) (snp : SnpType) (tag : Tag) (line : Line)
    → TakenMessage setup k (Message.Req op meta snp tag line) tag.0 (buffered_requests k past)
    → kept_request setup k past (Message.Req op meta snp tag line) ≡ request_taken (Message.Req op meta snp tag line)
fresh_room setup past run k op meta snp tag line row =
    ap {B = WaitingRequest} (λ (r : Room). record { message = Message.Req op meta snp tag line; room = r })
    (fresh_by (request_room setup k tag.0 past) (is_no_eviction (request_room setup k tag.0 past)) refl
    (λ evicting. (let waits = (rooms_are_kept setup past run).buffered k tag.0 evicting in none-some _ (sym row.free ∙ waits.r.found))))

requests_by : (setup : Configuration) (opening : List (Line × Bytes64)) (past : List Event) → DeviceRun setup past → (cause : Cause) (sends : Sends) → cause_fits setup device cause ≡ true
    → DeviceRow setup cause sends past
    → map (λ h. map (with_room (λ tag. room_after setup h tag cause past (request_room setup h tag past))) (requests_after h cause (buffered_requests h past))) (below setup.hosts)
    ≡ requests_in cause (kept_device setup opening past)
requests_by setup opening past run (Cause.Op s i op) sends fits row = refl
requests_by setup opening past run (Cause.Take k (Message.Req op meta snp tag line)) sends fits row =
    let m : Message = Message.Req op meta snp tag line in
    taken_table setup.hosts k m (λ h tag. request_room setup h tag past) (λ h. buffered_requests h past) (take_host setup k m fits) refl (fresh_room setup past run k op meta snp tag line row)
requests_by setup opening past run (Cause.Take k (Message.MemWr meta snp tag line bytes)) sends fits row =
    stay_table setup.hosts k (Message.MemWr meta snp tag line bytes) (λ h tag. request_room setup h tag past) (λ h. buffered_requests h past) refl
requests_by setup opening past run (Cause.Take k (Message.BiConflict tag)) sends fits row = stay_table setup.hosts k (Message.BiConflict tag) (λ h tag. request_room setup h tag past) (λ h. buffered_requests h past) refl
requests_by setup opening past run (Cause.Take k (Message.BiRsp op bitag low)) sends fits row =
    stay_table setup.hosts k (Message.BiRsp op bitag low) (λ h tag. request_room setup h tag past) (λ h. buffered_requests h past) refl
requests_by setup opening past run (Cause.Take k (Message.Ndr op tag)) sends fits row = stay_table setup.hosts k (Message.Ndr op tag) (λ h tag. request_room setup h tag past) (λ h. buffered_requests h past) refl
requests_by setup opening past run (Cause.Take k (Message.MemData tag bytes)) sends fits row = stay_table setup.hosts k (Message.MemData tag bytes) (λ h tag. request_room setup h tag past) (λ h. buffered_requests h past) refl
requests_by setup opening past run (Cause.Take k (Message.BiSnp op bitag line span)) sends fits row =
    stay_table setup.hosts k (Message.BiSnp op bitag line span) (λ h tag. request_room setup h tag past) (λ h. buffered_requests h past) refl
requests_by setup opening past run (Cause.Take k (Message.Credit c)) sends fits row =
    stay_table setup.hosts k (Message.Credit c) (λ h tag. request_room setup h tag past) (λ h. buffered_requests h past) (credit_is_no_request c)
requests_by setup opening past run (Cause.Act (Act.Conflict line)) sends fits row = refl
requests_by setup opening past run (Cause.Act (Act.WriteBack line)) sends fits row = refl
requests_by setup opening past run (Cause.Act (Act.Answer line)) sends fits row = refl
requests_by setup opening past run (Cause.Act (Act.AnswerBlock line)) sends fits row = refl
requests_by setup opening past run (Cause.Act (Act.HostReturn c)) sends fits row = refl
requests_by setup opening past run (Cause.Act (Act.Serve k tag)) sends fits row = refl
requests_by setup opening past run (Cause.Act (Act.Clean k tag)) sends fits row =
    cleaned_table setup.hosts k tag.0 (λ h tag. request_room setup h tag past) (λ h. buffered_requests h past) (act_host setup k _ fits)
requests_by setup opening past run (Cause.Act (Act.Start k tag)) sends fits row =
    started_table setup.hosts k tag.0 (λ h tag. request_room setup h tag past) (λ h. buffered_requests h past) (act_host setup k _ fits) (requests_have_distinct_tags setup past run k tag.0)
requests_by setup opening past run (Cause.Act (Act.Evict k tag)) sends fits row =
    roomed_table setup.hosts k tag.0 Room.EvictionInProgress (λ h tag. request_room setup h tag past) (λ h. buffered_requests h past) (act_host setup k _ fits)
requests_by setup opening past run (Cause.Act (Act.Snoop k line)) sends fits row = refl
requests_by setup opening past run (Cause.Act (Act.Finish line)) sends fits row =
    finish_found setup past line.0 (λ h tag. request_room setup h tag past) (λ h. buffered_requests h past) (map (kept_requests setup past) (below setup.hosts)) refl
    ((directory setup past).task line.0) (λ t is. ltb-true t.host setup.hosts (tasks_are_shaped setup past run line.0 t is).host)
    ∙ ap (λ o. requests_finished o (map (kept_requests setup past) (below setup.hosts)))
    (sym (task_is setup.hosts setup.lines (directory setup past).task (lines_left past) (directory_is_kept setup past run).tasks line.0))
requests_by setup opening past run (Cause.Act (Act.DeviceReturn k c)) sends fits row = refl

-- the buffered requests follow
pub requests_follow : (setup : Configuration) (opening : List (Line × Bytes64)) (e : Event) (past : List Event) → DeviceRun setup past → cause_fits setup device e.cause ≡ true → DeviceRow setup e.cause e.sends past
    → map (kept_requests setup (e ∷ past)) (below setup.hosts) ≡ requests_in e.cause (kept_device setup opening past)
requests_follow setup opening e past run fits row = requests_by setup opening past run e.cause e.sends fits row
