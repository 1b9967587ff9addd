-- What each of the device's own events says: the row of its cause, as facts about the device's events before it.
use Rattle.std.proofs.Common.{◌≡◌, ℕ, Bool, true, false, List, [], ◌∷◌, Option, Some, None, cond, find, refl, sym, ◌∙◌, ap, subst, not}
use Rattle.std.specs.Prelude.{◌+◌, nat_lt, option_and_then, is_none, is_some}
use Rattle.std.proofs.lemmas.Bool.{and_parts, eqb-true, false≢true, not-true}
use Rattle.std.proofs.lemmas.Option.{none-some}
use Rattle.cxl_message.specs.declared.events.Act.{Act}
use Rattle.cxl_message.specs.declared.events.Cause.{Cause}
use Rattle.cxl_message.specs.declared.events.Event.{Event}
use Rattle.cxl_message.specs.declared.events.Sends.{Sends}
use Rattle.cxl_message.specs.declared.identifiers.Bytes64.{Bytes64}
use Rattle.cxl_message.specs.declared.identifiers.Line.{Line}
use Rattle.cxl_message.specs.declared.identifiers.Tag.{Tag}
use Rattle.cxl_message.specs.declared.messages.Message.{Message}
use Rattle.cxl_message.specs.declared.opcodes.Meta.{Meta}
use Rattle.cxl_message.specs.declared.opcodes.NdrOp.{NdrOp}
use Rattle.cxl_message.specs.declared.opcodes.ReqOp.{ReqOp}
use Rattle.cxl_message.specs.declared.opcodes.RspOp.{RspOp}
use Rattle.cxl_message.specs.declared.opcodes.SnpType.{SnpType}
use Rattle.cxl_message.specs.Messages.{has_tag}
use Rattle.cxl_message.specs.Setup.{Configuration}
use Rattle.coherence_model.specs.Buffers.{buffered_requests, buffered_writes, message_with}
use Rattle.coherence_model.specs.Copies.{asks_for_grant}
use Rattle.coherence_model.specs.Credits.{has_room}
use Rattle.coherence_model.specs.DeviceActs.{Request, buffered_request, device_acts, finish_emission, has_entry_room, is_settled, request_in, shared_grant, snoop_message, v4_clean, v5_start, v6_evict, v7_snoop, v8_finish, wants_eviction}
use Rattle.coherence_model.specs.DeviceRows.{device_emission}
use Rattle.coherence_model.specs.DeviceTakes.{device_takes, is_answered_by, v1_take, v2_response}
use Rattle.coherence_model.specs.Directory.{is_busy, victim_block, is_to_ask}
use Rattle.coherence_model.specs.DirectoryChanges.{directory}
use Rattle.coherence_model.specs.Emission.{Emission}
use Rattle.coherence_model.specs.Fitting.{act_fits, cause_fits, is_host, line_exists, tag_exists, take_fits}
use Rattle.coherence_model.specs.Memory.{memory}
use Rattle.coherence_model.specs.Room.{request_room}
use Rattle.coherence_model.specs.SentSnoops.{SentSnoop, sent_snoop_at, is_asked}
use Rattle.coherence_model.specs.Tasks.{Purpose, Task, is_eviction}
use Rattle.coherence_model.specs.Traces.{device}
use Rattle.coherence_model.specs.Words.{when}

-- what stands under a condition stands only where the condition holds
pub when_parts : {A : Type 0} (p : Bool) (x y : A) → when p x ≡ Some y → (p ≡ true) × (x ≡ y)
when_parts true x y h = (refl, cc)
when_parts false x y h = absurd (none-some y h)

is_none-none : {A : Type 0} (o : Option A) → is_none o ≡ true → o ≡ None
is_none-none None h = refl
is_none-none (Some x) h = absurd (false≢true h)

-- a Req message with a tag among the buffered ones
pub record FoundRequest (tag : ℕ) (ms : List Message) : Type 0 where
  pub op : ReqOp
  pub meta : Meta
  pub snp : SnpType
  pub own_tag : Tag
  pub line : Line
  pub found : message_with tag ms ≡ Some (Message.Req op meta snp own_tag line)
  pub same : own_tag.0 ≡ tag

-- the request that it is
abbrev pub request_found : (tag : ℕ) (ms : List Message) → FoundRequest tag ms → Request
request_found tag ms f = record { op = f.op; tag = f.own_tag; line = f.line.0 }

find-found :
    {X : Type 0} (p : X → Bool) (y x : X) (rest : Option X) (b : Bool) → p y ≡ b → cond b (Some y) rest ≡ Some x → (rest ≡ Some x → p x ≡ true) → p x ≡ true
find-found p y x rest true is h later = let same : y ≡ x = cc in subst (λ z. p z ≡ true) same is
find-found p y x rest false is h later = later h

-- what is found passes
pub found_passes : {X : Type 0} (p : X → Bool) (xs : List X) (x : X) → find p xs ≡ Some x → p x ≡ true
found_passes p [] x h = absurd (none-some x h)
found_passes p (y ∷ ys) x h = find-found p y x (find p ys) (p y) refl h (found_passes p ys x)

-- a row for a buffered request holds only where that request is there
found_request :
    (tag : ℕ) (ms : List Message) (row : Option Request → Option Emission) (w : Emission) (found : Option Message) → message_with tag ms ≡ found
    → row None ≡ None → row (option_and_then request_in found) ≡ Some w → (f : FoundRequest tag ms) × (row (Some (request_found tag ms f)) ≡ Some w)
found_request tag ms row w None is none h = absurd (none-some w (sym none ∙ h))
found_request tag ms row w (Some (Message.Req op meta snp own line)) is none h =
    (record { op = op; meta = meta; snp = snp; own_tag = own; line = line; found = is; same = eqb-true own.0 tag (found_passes (has_tag tag) ms _ is) }, h)
found_request tag ms row w (Some (Message.MemWr _ _ _ _ _)) is none h = absurd (none-some w (sym none ∙ h))
found_request tag ms row w (Some (Message.BiConflict _)) is none h = absurd (none-some w (sym none ∙ h))
found_request tag ms row w (Some (Message.BiRsp _ _ _)) is none h = absurd (none-some w (sym none ∙ h))
found_request tag ms row w (Some (Message.Ndr _ _)) is none h = absurd (none-some w (sym none ∙ h))
found_request tag ms row w (Some (Message.MemData _ _)) is none h = absurd (none-some w (sym none ∙ h))
found_request tag ms row w (Some (Message.BiSnp _ _ _ _)) is none h = absurd (none-some w (sym none ∙ h))
found_request tag ms row w (Some (Message.Credit _)) is none h = absurd (none-some w (sym none ∙ h))

-- a Req or RwD message that is taken: the device may take it, and no message of the buffer has its tag
pub record TakenMessage (setup : Configuration) (h : ℕ) (m : Message) (tag : ℕ) (buffer : List Message) : Type 0 where
  pub fits : take_fits setup device h m ≡ true
  pub free : message_with tag buffer ≡ None

-- an answer that is taken: it answers a snoop that was sent
pub record TakenAnswer (op : RspOp) (h first a : ℕ) (mine : List Event) : Type 0 where
  pub q : SentSnoop
  pub asked : sent_snoop_at h first mine ≡ Some q
  pub answers : is_answered_by op a q ≡ true

-- what a taken message says
abbrev pub TakeRow : Configuration → ℕ → Message → List Event → Type 0
TakeRow setup h (Message.Req op meta snp tag line) mine = TakenMessage setup h (Message.Req op meta snp tag line) tag.0 (buffered_requests h mine)
TakeRow setup h (Message.MemWr meta snp tag line bytes) mine = TakenMessage setup h (Message.MemWr meta snp tag line bytes) tag.0 (buffered_writes h mine)
TakeRow setup h (Message.BiConflict tag) mine = TakenMessage setup h (Message.BiConflict tag) tag.0 (buffered_writes h mine)
TakeRow setup h (Message.BiRsp op bitag low) mine = TakenAnswer op h bitag.0 (bitag.0 + low) mine
TakeRow setup h (Message.Ndr _ _) mine = Unit {0}
TakeRow setup h (Message.MemData _ _) mine = Unit {0}
TakeRow setup h (Message.BiSnp _ _ _ _) mine = Unit {0}
TakeRow setup h (Message.Credit _) mine = Unit {0}

-- Clean: the request is buffered and asks for no grant
pub record CleanRow (h tag : ℕ) (mine : List Event) : Type 0 where
  pub r : FoundRequest tag (buffered_requests h mine)
  pub asks_nothing : asks_for_grant r.op ≡ false

-- Start: the request is buffered and asks for a grant, its line isn't Busy, and there is room for it
pub record StartRow (setup : Configuration) (h tag : ℕ) (mine : List Event) : Type 0 where
  pub host : is_host setup h ≡ true
  pub named : nat_lt tag setup.tags ≡ true
  pub r : FoundRequest tag (buffered_requests h mine)
  pub asks : asks_for_grant r.op ≡ true
  pub idle : is_busy (directory setup mine) r.line.0 ≡ false
  pub room : has_entry_room setup (request_room setup h tag mine) r.line.0 (directory setup mine) mine ≡ true

-- Evict: the request is buffered and asks for a grant, wants an eviction, and there is a victim block
pub record EvictRow (setup : Configuration) (h tag : ℕ) (mine : List Event) : Type 0 where
  pub host : is_host setup h ≡ true
  pub named : nat_lt tag setup.tags ≡ true
  pub r : FoundRequest tag (buffered_requests h mine)
  pub asks : asks_for_grant r.op ≡ true
  pub wants : wants_eviction setup (request_room setup h tag mine) r.line.0 (directory setup mine) mine ≡ true
  pub victim : is_some (victim_block (directory setup mine)) ≡ true

-- Snoop: a task stands at the line and is to ask the host, which exists and isn't Asked by it; its snoop is sent
pub record SnoopRow (setup : Configuration) (h a : ℕ) (sends : Sends) (mine : List Event) : Type 0 where
  pub host : is_host setup h ≡ true
  pub t : Task
  pub task : (directory setup mine).task a ≡ Some t
  pub asks : is_to_ask t.purpose (directory setup mine) a t h ≡ true
  pub fresh : is_asked h a mine ≡ false
  pub sent : sends ≡ Sends.One (record { host = h; message = snoop_message a t })

-- Finish: a task stands at the line, no host is Asked by it or to be asked, and the end of an eviction sends nothing
pub record FinishRow (setup : Configuration) (a : ℕ) (sends : Sends) (mine : List Event) : Type 0 where
  pub t : Task
  pub task : (directory setup mine).task a ≡ Some t
  pub settled : is_settled setup a t (directory setup mine) mine ≡ true
  pub quiet : is_eviction t.purpose ≡ true → sends ≡ Sends.Nothing

-- what an act says
abbrev pub ActRow : Configuration → Act → Sends → List Event → Type 0
ActRow setup (Act.Conflict _) sends mine = ⊥
ActRow setup (Act.WriteBack _) sends mine = ⊥
ActRow setup (Act.Answer _) sends mine = ⊥
ActRow setup (Act.AnswerBlock _) sends mine = ⊥
ActRow setup (Act.HostReturn _) sends mine = ⊥
ActRow setup (Act.Serve _ _) sends mine = Unit {0}
ActRow setup (Act.Clean h tag) sends mine = CleanRow h tag.0 mine
ActRow setup (Act.Start h tag) sends mine = StartRow setup h tag.0 mine
ActRow setup (Act.Evict h tag) sends mine = EvictRow setup h tag.0 mine
ActRow setup (Act.Snoop h line) sends mine = SnoopRow setup h line.0 sends mine
ActRow setup (Act.Finish line) sends mine = FinishRow setup line.0 sends mine
ActRow setup (Act.DeviceReturn _ _) sends mine = Unit {0}

-- what a cause says, with what is sent
abbrev pub DeviceRow : Configuration → Cause → Sends → List Event → Type 0
DeviceRow setup (Cause.Op _ _ _) sends mine = ⊥
DeviceRow setup (Cause.Take h m) sends mine = TakeRow setup h m mine
DeviceRow setup (Cause.Act act) sends mine = ActRow setup act sends mine

taken_answer :
    (op : RspOp) (h first a : ℕ) (mine : List Event) (w : Emission) (q : Option SentSnoop) → sent_snoop_at h first mine ≡ q → v2_response op a q ≡ Some w
    → TakenAnswer op h first a mine
taken_answer op h first a mine w None is row = absurd (none-some w row)
taken_answer op h first a mine w (Some q) is row = record { q = q; asked = is; answers = (when_parts _ _ w row).0 }

taken_message :
    (setup : Configuration) (h : ℕ) (m : Message) (tag : ℕ) (buffer : List Message) (w : Emission)
    → take_fits setup device h m ≡ true → v1_take tag buffer ≡ Some w → TakenMessage setup h m tag buffer
taken_message setup h m tag buffer w fits row =
    record { fits = fits; free = is_none-none _ (when_parts _ _ w row).0 }

take_row :
    (setup : Configuration) (h : ℕ) (m : Message) (mine : List Event) (w : Emission)
    → take_fits setup device h m ≡ true → device_takes setup h m mine ≡ Some w → TakeRow setup h m mine
take_row setup h (Message.Req op meta snp tag line) mine w fits row =
    taken_message setup h (Message.Req op meta snp tag line) tag.0 (buffered_requests h mine) w fits row
take_row setup h (Message.MemWr meta snp tag line bytes) mine w fits row =
    taken_message setup h (Message.MemWr meta snp tag line bytes) tag.0 (buffered_writes h mine) w fits row
take_row setup h (Message.BiConflict tag) mine w fits row = taken_message setup h (Message.BiConflict tag) tag.0 (buffered_writes h mine) w fits row
take_row setup h (Message.BiRsp op bitag low) mine w fits row = taken_answer op h bitag.0 (bitag.0 + low) mine w (sent_snoop_at h bitag.0 mine) refl row
take_row setup h (Message.Ndr op tag) mine w fits row = tt
take_row setup h (Message.MemData tag bytes) mine w fits row = tt
take_row setup h (Message.BiSnp op bitag line span) mine w fits row = tt
take_row setup h (Message.Credit c) mine w fits row = tt

clean_row :
    (setup : Configuration) (h : ℕ) (tag : Tag) (mine : List Event) (w : Emission) → v4_clean h (buffered_request h tag mine) (directory setup mine) ≡ Some w
    → CleanRow h tag.0 mine
clean_row setup h tag mine w row =
    let found = found_request tag.0 (buffered_requests h mine) (λ r. v4_clean h r (directory setup mine)) w (message_with tag.0 (buffered_requests h mine)) refl
    refl row in
    let parts = and_parts _ _ (when_parts _ _ w found.1).0 in
    record { r = found.0; asks_nothing = not-true _ parts.0 }

start_row :
    (setup : Configuration) (h : ℕ) (tag : Tag) (mine : List Event) (w : Emission)
    → is_host setup h ≡ true → tag_exists setup tag ≡ true → v5_start setup h (buffered_request h tag mine) (directory setup mine) mine ≡ Some w → StartRow
    setup h tag.0 mine
start_row setup h tag mine w host named row =
    let found = found_request tag.0 (buffered_requests h mine) (λ r. v5_start setup h r (directory setup mine) mine) w
    (message_with tag.0 (buffered_requests h mine)) refl refl row in
    let parts = and_parts _ _ (when_parts _ _ w found.1).0 in
    let first = and_parts _ _ parts.0 in
    record {
      host = host;
      named = named;
      r = found.0;
      asks = first.0;
      idle = not-true _ first.1;
      room = subst (λ n. has_entry_room setup (request_room setup h n mine) found.0.line.0 (directory setup mine) mine ≡ true) found.0.same parts.1;
    }

evict_row :
    (setup : Configuration) (h : ℕ) (tag : Tag) (mine : List Event) (w : Emission)
    → is_host setup h ≡ true → tag_exists setup tag ≡ true → v6_evict setup h (buffered_request h tag mine) (directory setup mine) mine ≡ Some w → EvictRow
    setup h tag.0 mine
evict_row setup h tag mine w host named row =
    let found = found_request tag.0 (buffered_requests h mine) (λ r. v6_evict setup h r (directory setup mine) mine) w
    (message_with tag.0 (buffered_requests h mine)) refl refl row in
    let parts = and_parts _ _ (when_parts _ _ w found.1).0 in
    let first = and_parts _ _ parts.0 in
    let asking = and_parts _ _ first.0 in
    record {
      host = host;
      named = named;
      r = found.0;
      asks = asking.0;
      wants = subst (λ n. wants_eviction setup (request_room setup h n mine) found.0.line.0 (directory setup mine) mine ≡ true) found.0.same first.1;
      victim = parts.1;
    }

snoop_row :
    (setup : Configuration) (h a : ℕ) (sends : Sends) (mine : List Event) (w : Emission) (task : Option Task) → (directory setup mine).task a ≡ task
    → is_host setup h ≡ true → v7_snoop h a task (directory setup mine) mine ≡ Some w → sends ≡ w.sends → SnoopRow setup h a sends mine
snoop_row setup h a sends mine w None is host row same = absurd (none-some w row)
snoop_row setup h a sends mine w (Some t) is host row same =
    let parts = when_parts _ _ w row in
    let ask = and_parts (is_to_ask t.purpose (directory setup mine) a t h) (not (is_asked h a mine)) parts.0 in
    record { host = host; t = t; task = is; asks = ask.0; fresh = not-true _ ask.1; sent = same ∙ ap (λ (x : Emission). x.sends) (sym parts.1) }

quiet_eviction :
    (purpose : Purpose) (c : NdrOp) (h tag : ℕ) (bytes : Bytes64) → is_eviction purpose ≡ true → (finish_emission purpose c h tag bytes).sends ≡ Sends.Nothing
quiet_eviction Purpose.SharedRead c h tag bytes is = absurd (false≢true is)
quiet_eviction Purpose.OwningRead c h tag bytes is = absurd (false≢true is)
quiet_eviction Purpose.Invalidation c h tag bytes is = absurd (false≢true is)
quiet_eviction Purpose.Eviction c h tag bytes is = refl

finish_row :
    (setup : Configuration) (opening : List (Line × Bytes64)) (a : ℕ) (sends : Sends) (mine : List Event) (w : Emission) (task : Option Task) →
    (directory setup mine).task a ≡ task
    → v8_finish setup opening a task (directory setup mine) mine ≡ Some w → sends ≡ w.sends → FinishRow setup a sends mine
finish_row setup opening a sends mine w None is row same = absurd (none-some w row)
finish_row setup opening a sends mine w (Some t) is row same =
    let parts = when_parts _ _ w row in
    record {
      t = t;
      task = is;
      settled = parts.0;
      quiet = λ eviction. same ∙
          (ap (λ (x : Emission). x.sends) (sym parts.1) ∙ quiet_eviction t.purpose (shared_grant setup a t (directory setup mine)) t.host t.tag
          (memory opening a mine) eviction);
    }

act_row :
    (setup : Configuration) (opening : List (Line × Bytes64)) (act : Act) (sends : Sends) (mine : List Event) (w : Emission)
    → act_fits setup device act ≡ true → device_acts setup opening act mine ≡ Some w → sends ≡ w.sends → ActRow setup act sends mine
act_row setup opening (Act.Conflict line) sends mine w fits row same = absurd (none-some w row)
act_row setup opening (Act.WriteBack line) sends mine w fits row same = absurd (none-some w row)
act_row setup opening (Act.Answer line) sends mine w fits row same = absurd (none-some w row)
act_row setup opening (Act.AnswerBlock line) sends mine w fits row same = absurd (none-some w row)
act_row setup opening (Act.HostReturn c) sends mine w fits row same = absurd (none-some w row)
act_row setup opening (Act.Serve h tag) sends mine w fits row same = tt
act_row setup opening (Act.Clean h tag) sends mine w fits row same = clean_row setup h tag mine w row
act_row setup opening (Act.Start h tag) sends mine w fits row same =
    let named = and_parts (is_host setup h) (tag_exists setup tag) fits in start_row setup h tag mine w named.0 named.1 row
act_row setup opening (Act.Evict h tag) sends mine w fits row same =
    let named = and_parts (is_host setup h) (tag_exists setup tag) fits in evict_row setup h tag mine w named.0 named.1 row
act_row setup opening (Act.Snoop h line) sends mine w fits row same =
    let named = and_parts (is_host setup h) (line_exists setup line) fits in
    snoop_row setup h line.0 sends mine w ((directory setup mine).task line.0) refl named.0 row same
act_row setup opening (Act.Finish line) sends mine w fits row same =
    finish_row setup opening line.0 sends mine w ((directory setup mine).task line.0) refl row same
act_row setup opening (Act.DeviceReturn h c) sends mine w fits row same = tt

guarded : {A : Type 0} (b : Bool) (x : Option A) (w : A) → cond b x None ≡ Some w → x ≡ Some w
guarded true x w h = h
guarded false x w h = absurd (none-some w h)

-- each cause at the device says what its row says
pub device_row :
    (setup : Configuration) (opening : List (Line × Bytes64)) (cause : Cause) (sends : Sends) (mine : List Event) (w : Emission)
    → cause_fits setup device cause ≡ true → device_emission setup opening cause mine ≡ Some w → sends ≡ w.sends → DeviceRow setup cause sends mine
device_row setup opening (Cause.Op s i op) sends mine w fits row same = absurd (none-some w row)
device_row setup opening (Cause.Take h m) sends mine w fits row same =
    take_row setup h m mine w fits (guarded (has_room setup h m mine) (device_takes setup h m mine) w row)
device_row setup opening (Cause.Act act) sends mine w fits row same = act_row setup opening act sends mine w fits row same
