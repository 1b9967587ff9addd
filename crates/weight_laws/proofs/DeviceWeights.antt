-- What each row of the device does to what the device adds to the weight, against what it takes and sends.
use Rattle.std.proofs.Common.{◌≡◌, ℕ, ◌+◌, ◌-◌, ◌*◌, ◌≤◌, ◌<◌, Bool, true, false, IsTrue, List, Option, Some, None, cond, refl, sym, ◌∙◌, ap, subst, arith}
use Rattle.std.specs.Prelude.{is_some, not, option_and_then, ◌&&◌, ◌==◌}
use Rattle.std.proofs.lemmas.Bool.{and_parts, ltb-true, ne_eqb}
use Rattle.std.proofs.lemmas.Option.{none-some, same_Some}
use Rattle.cxl_message.specs.declared.channels.Channel.{Channel}
use Rattle.cxl_message.specs.declared.events.Act.{Act}
use Rattle.cxl_message.specs.declared.events.Cause.{Cause}
use Rattle.cxl_message.specs.declared.events.Event.{Event}
use Rattle.cxl_message.specs.declared.events.Sends.{Sends}
use Rattle.cxl_message.specs.declared.identifiers.Bytes64.{Bytes64}
use Rattle.cxl_message.specs.declared.identifiers.Line.{Line}
use Rattle.cxl_message.specs.declared.identifiers.Tag.{Tag}
use Rattle.cxl_message.specs.declared.messages.Message.{Message}
use Rattle.cxl_message.specs.declared.opcodes.Meta.{Meta}
use Rattle.cxl_message.specs.declared.opcodes.NdrOp.{NdrOp}
use Rattle.cxl_message.specs.declared.opcodes.ReqOp.{ReqOp}
use Rattle.cxl_message.specs.declared.opcodes.SnpType.{SnpType}
use Rattle.cxl_message.specs.declared.opcodes.Span.{Span}
use Rattle.cxl_message.specs.Codes.{span_len}
use Rattle.cxl_message.specs.Events.{outs}
use Rattle.cxl_message.specs.Messages.{line_in}
use Rattle.cxl_message.specs.Setup.{Configuration}
use Rattle.cxl_message.specs.Spans.{covers}
use Rattle.coherence_model.specs.Buffers.{buffered_requests, buffered_writes, message_with}
use Rattle.coherence_model.specs.DeviceActs.{finish_emission, served_by, snoop_message}
use Rattle.coherence_model.specs.DeviceRows.{device_emission}
use Rattle.coherence_model.specs.DeviceTakes.{device_takes}
use Rattle.coherence_model.specs.Directory.{Directory, has_entry, is_to_ask, victim_block}
use Rattle.coherence_model.specs.DirectoryChanges.{directory, directory_after, directory_after_evict, directory_after_start}
use Rattle.coherence_model.specs.Emission.{Emission}
use Rattle.coherence_model.specs.Fitting.{cause_fits, is_device, is_host, tag_exists, write_tag_exists}
use Rattle.coherence_model.specs.Room.{Room, free_entries, is_no_eviction, request_room}
use Rattle.coherence_model.specs.SentSnoops.{SentSnoop, sent_snoop_after, sent_snoop_at}
use Rattle.coherence_model.specs.Tasks.{Purpose, Task, is_eviction, purpose_of, request_task}
use Rattle.coherence_model.specs.Traces.{device}
use Rattle.coherence_model.specs.Weight.{message_weight}
use Rattle.coherence_lemmas.proofs.DeviceActs.{v3_serve-inv, v4_clean-inv, v5_start-inv, v6_evict-inv, v8_finish-inv, v9_return-inv}
use Rattle.coherence_lemmas.proofs.Directions.{take_parts}
use Rattle.coherence_lemmas.proofs.Options.{some_is}
use Rattle.coherence_lemmas.proofs.Rows.{device_take-inv}
use Rattle.coherence_lemmas.proofs.TakesSendNothing.{device_takes_silent}
use Rattle.entry_laws.proofs.Blocks.{covers_first, some_lines}
use Rattle.entry_laws.proofs.DeviceRows.{CleanRow, DeviceRow, EvictRow, FinishRow, SnoopRow, StartRow, device_row}
use Rattle.entry_laws.proofs.Entries.{victim_evictable, victim_free, victim_within}
use Rattle.entry_laws.proofs.Tasks.{idle_has_no_task}
use Rattle.weight_laws.proofs.Answered.{AreUnlisted}
use Rattle.weight_laws.proofs.BufferRows.{clean_elsewhere, clean_here, evict_elsewhere, evict_here, finish_part, return_elsewhere, return_here, serve_elsewhere, serve_here, snoop_part, some_returned, start_elsewhere, start_here, take_answer, take_credit, take_elsewhere, take_request, take_write}
use Rattle.weight_laws.proofs.BufferWeights.{HostPart, room_most, rooms, weigh}
use Rattle.weight_laws.proofs.FlightWeights.{sent_weight, took}
use Rattle.weight_laws.proofs.Held.{device_returns_now}
use Rattle.weight_laws.proofs.Listings.{DeviceKnown}
use Rattle.weight_laws.proofs.Sums.{below_le}
use Rattle.weight_laws.proofs.TaskActs.{ended, evict_weighs, finish_weighs, snoop_weighs, start_weighs}
use Rattle.weight_laws.proofs.TaskAnswers.{answer_weighs}
use Rattle.weight_laws.proofs.TaskListings.{clean_weighs, serve_weighs, tasks_weight}
use Rattle.weight_laws.proofs.TaskWeights.{weight_less, weight_of}

-- what a cause does: to the buffers of one host, to those of the others, and to the tasks, so that the sum falls
pub record DeviceWeighs (setup : Configuration) (cause : Cause) (sends : Sends) (mine : List Event) : Type 0 where
  pub k : ℕ
  pub here : k < setup.hosts
  pub x : ℕ
  pub y : ℕ
  pub z : ℕ
  pub v : ℕ
  pub others : (g : ℕ) → (g ≡ k → ⊥) → HostPart setup g cause sends mine 0 0
  pub own : HostPart setup k cause sends mine x y
  pub tasks : tasks_weight setup (directory_after setup cause sends mine (directory setup mine)) (λ g a. is_some (sent_snoop_after g a cause sends (sent_snoop_at g a mine))) + z
      ≤ tasks_weight setup (directory setup mine) (λ g a. is_some (sent_snoop_at g a mine)) + v
  pub total : y + v + sent_weight setup.hosts (outs sends) + 1 ≤ took setup.hosts cause + x + z

-- nothing is sent
silent_sum : (hosts : ℕ) (sends : Sends) → sends ≡ Sends.Nothing → sent_weight hosts (outs sends) ≡ 0
silent_sum hosts sends none = ap (λ s. sent_weight hosts (outs s)) none

one_sum : (hosts h : ℕ) (m : Message) (sends : Sends) → sends ≡ Sends.One (record { host = h; message = m }) → sent_weight hosts (outs sends) ≡ message_weight hosts m
one_sum hosts h m sends one = ap (λ s. sent_weight hosts (outs s)) one ∙ plain (message_weight hosts m)
  where
    plain : (n : ℕ) → 0 + n ≡ n
    plain n = omega arith

not_other : (k g : ℕ) → (g ≡ k → ⊥) → (k == g) ≡ false
not_other k g other = ne_eqb k g (λ same. other (sym same))

-- what a Req message weighs once it is buffered
buffered_less : (hosts : ℕ) → 1 ≤ hosts → (room : ℕ → Room) (op : ReqOp) (meta : Meta) (snp : SnpType) (tag : Tag) (line : Line)
    → weigh hosts room (Message.Req op meta snp tag line) + 1 ≤ message_weight hosts (Message.Req op meta snp tag line)
buffered_less hosts some room ReqOp.MemRd meta snp tag line = let most = room_most hosts (room tag.0) in omega arith
buffered_less hosts some room ReqOp.MemInv meta snp tag line = let most = room_most hosts (room tag.0) in omega arith
buffered_less hosts some room ReqOp.MemClnEvct meta snp tag line = omega arith

served_weight : (hosts : ℕ) (m answer : Message) → served_by m ≡ Some answer → message_weight hosts answer ≡ 3
served_weight hosts (Message.Req _ _ _ _ _) answer is = absurd (none-some answer is)
served_weight hosts (Message.MemWr meta snp tag line bytes) answer is = ap (message_weight hosts) (sym (same_Some (Message.Ndr NdrOp.Cmp tag) answer is))
served_weight hosts (Message.BiConflict tag) answer is = ap (message_weight hosts) (sym (same_Some (Message.Ndr NdrOp.ConflictAck tag) answer is))
served_weight hosts (Message.BiRsp _ _ _) answer is = absurd (none-some answer is)
served_weight hosts (Message.Ndr _ _) answer is = absurd (none-some answer is)
served_weight hosts (Message.MemData _ _) answer is = absurd (none-some answer is)
served_weight hosts (Message.BiSnp _ _ _ _) answer is = absurd (none-some answer is)
served_weight hosts (Message.Credit _) answer is = absurd (none-some answer is)

finish_weight : (hosts : ℕ) (p : Purpose) (c : NdrOp) (h tag : ℕ) (bytes : Bytes64) → sent_weight hosts (outs (finish_emission p c h tag bytes).sends) + 1 ≤ ended p
finish_weight hosts Purpose.SharedRead c h tag bytes = omega arith
finish_weight hosts Purpose.OwningRead c h tag bytes = omega arith
finish_weight hosts Purpose.Invalidation c h tag bytes = omega arith
finish_weight hosts Purpose.Eviction c h tag bytes = omega arith

request_is_none : (op : ReqOp) (meta : Meta) → is_eviction (purpose_of op meta) ≡ false
request_is_none ReqOp.MemRd Meta.Invalid = refl
request_is_none ReqOp.MemRd Meta.Any = refl
request_is_none ReqOp.MemRd Meta.Shared = refl
request_is_none ReqOp.MemInv meta = refl
request_is_none ReqOp.MemClnEvct meta = refl

-- a request that wants an eviction has none
unevicted : (x y z : Bool) → (not x && y && z) ≡ true → y ≡ true
unevicted x y z wants = (and_parts (not x) y (and_parts (not x && y) z wants).0).1

module _ (setup : Configuration) (opening : List (Line × Bytes64)) (some : 1 ≤ setup.hosts) (mine : List Event) (known : DeviceKnown setup mine) (unlisted : AreUnlisted setup (λ g a. sent_snoop_at g a mine) (directory setup mine)) where
  abbrev D : Directory
  D = directory setup mine

  abbrev asked : ℕ → ℕ → Bool
  asked g a = is_some (sent_snoop_at g a mine)

  -- a take that answers nothing leaves the tasks
  same_tasks : (k : ℕ) → tasks_weight setup D (λ g a. is_some (cond (k == g) (sent_snoop_at g a mine) (sent_snoop_at g a mine))) + 0 ≤ tasks_weight setup D asked + 0
  same_tasks k =
      let less = below_le (λ a. weight_of setup D (λ g b. is_some (cond (k == g) (sent_snoop_at g b mine) (sent_snoop_at g b mine))) a (D.task a)) (λ a. weight_of setup D asked a (D.task a)) setup.lines
      (λ a there. weight_less setup D D asked (λ g b. is_some (cond (k == g) (sent_snoop_at g b mine) (sent_snoop_at g b mine))) a (D.task a) refl
      (λ t is g below ask. same (k == g) (is_to_ask t.purpose D a t g) (sent_snoop_at g a mine) ask)) in
      omega arith
    where
      same : (b c : Bool) (x : Option SentSnoop) → (c && not (is_some (cond b x x))) ≡ true → (c && not (is_some x)) ≡ true
      same true c x h = h
      same false c x h = h

  take_weighs : (k : ℕ) (m : Message) (sends : Sends) → k < setup.hosts → sends ≡ Sends.Nothing → DeviceRow setup (Cause.Take k m) sends mine → (w : Emission) → device_takes setup k m mine ≡ Some w → DeviceWeighs setup (Cause.Take k m) sends mine
  take_weighs k (Message.Req op meta snp tag line) sends here none row w bare = record {
    k = k;
    here = here;
    x = 0;
    y = weigh setup.hosts (rooms setup k mine) (Message.Req op meta snp tag line);
    z = 0;
    v = 0;
    others = λ g other. take_elsewhere setup mine sends g k (Message.Req op meta snp tag line) (not_other k g other);
    own = take_request setup mine sends k (Message.Req op meta snp tag line) refl;
    tasks = same_tasks k;
    total = let zero = silent_sum setup.hosts sends none in let less = buffered_less setup.hosts some (rooms setup k mine) op meta snp tag line in omega arith;
  }
  take_weighs k (Message.MemWr meta snp tag line bytes) sends here none row w bare = record {
    k = k;
    here = here;
    x = 0;
    y = 6;
    z = 0;
    v = 0;
    others = λ g other. take_elsewhere setup mine sends g k (Message.MemWr meta snp tag line bytes) (not_other k g other);
    own = take_write setup mine sends k (Message.MemWr meta snp tag line bytes) refl;
    tasks = same_tasks k;
    total = let zero = silent_sum setup.hosts sends none in omega arith;
  }
  take_weighs k (Message.BiConflict tag) sends here none row w bare = record {
    k = k;
    here = here;
    x = 0;
    y = 6;
    z = 0;
    v = 0;
    others = λ g other. take_elsewhere setup mine sends g k (Message.BiConflict tag) (not_other k g other);
    own = take_write setup mine sends k (Message.BiConflict tag) refl;
    tasks = same_tasks k;
    total = let zero = silent_sum setup.hosts sends none in omega arith;
  }
  take_weighs k (Message.BiRsp op bitag low) sends here none row w bare = record {
    k = k;
    here = here;
    x = 0;
    y = 2;
    z = 0;
    v = 0;
    others = λ g other. take_elsewhere setup mine sends g k (Message.BiRsp op bitag low) (not_other k g other);
    own = take_answer setup mine sends k (Message.BiRsp op bitag low) refl;
    tasks = let less = answer_weighs setup mine known unlisted op k bitag.0 low row in omega arith;
    total = let zero = silent_sum setup.hosts sends none in omega arith;
  }
  take_weighs k (Message.Ndr op tag) sends here none row w bare = absurd (none-some w bare)
  take_weighs k (Message.MemData tag bytes) sends here none row w bare = absurd (none-some w bare)
  take_weighs k (Message.BiSnp op bitag line span) sends here none row w bare = absurd (none-some w bare)
  take_weighs k (Message.Credit c) sends here none row w bare = record {
    k = k;
    here = here;
    x = 0;
    y = 0;
    z = 0;
    v = 0;
    others = λ g other. take_elsewhere setup mine sends g k (Message.Credit c) (not_other k g other);
    own = take_credit setup mine sends k c;
    tasks = same_tasks k;
    total = let zero = silent_sum setup.hosts sends none in omega arith;
  }

  serve_row_weighs : (k : ℕ) (tag : Tag) (sends : Sends) (w : Emission) → IsTrue (is_host setup k) → device_emission setup opening (Cause.Act (Act.Serve k tag)) mine ≡ Some w → sends ≡ w.sends → DeviceWeighs setup (Cause.Act (Act.Serve k tag)) sends mine
  serve_row_weighs k tag sends w host row sent =
      let inv = v3_serve-inv k (message_with tag.0 (buffered_writes k mine)) w row in
      let three = served_weight setup.hosts inv.m inv.answer inv.answers in
      let one = one_sum setup.hosts k inv.answer sends (sent ∙ ap (λ (x : Emission). x.sends) inv.emits) in
      let less = serve_weighs setup mine known unlisted k host tag.0 (message_with tag.0 (buffered_writes k mine)) refl in
      record {
        k = k;
        here = ltb-true k setup.hosts host;
        x = 4;
        y = 0;
        z = 0;
        v = 0;
        others = λ g other. serve_elsewhere setup mine sends g k tag (not_other k g other);
        own = serve_here setup mine sends k tag inv.m inv.found;
        tasks = omega arith;
        total = omega arith;
      }

  clean_row_weighs : (k : ℕ) (tag : Tag) (sends : Sends) (w : Emission) → IsTrue (is_host setup k) → device_emission setup opening (Cause.Act (Act.Clean k tag)) mine ≡ Some w → sends ≡ w.sends → CleanRow k tag.0 mine → DeviceWeighs setup (Cause.Act (Act.Clean k tag)) sends mine
  clean_row_weighs k tag sends w host row sent says =
      let inv = v4_clean-inv k _ (directory setup mine) w row in
      let one = one_sum setup.hosts k (Message.Ndr NdrOp.Cmp inv.r.tag) sends (sent ∙ ap (λ (x : Emission). x.sends) inv.emits) in
      let less = clean_weighs setup mine known unlisted k (option_and_then line_in (message_with tag.0 (buffered_requests k mine))) in
      record {
        k = k;
        here = ltb-true k setup.hosts host;
        x = 4;
        y = 0;
        z = 0;
        v = 0;
        others = λ g other. clean_elsewhere setup mine sends g k tag (not_other k g other);
        own = clean_here setup mine sends k tag says.r says.asks_nothing (known.distinct k tag.0);
        tasks = omega arith;
        total = omega arith;
      }

  start_row_weighs : (k : ℕ) (tag : Tag) (sends : Sends) (w : Emission) → device_emission setup opening (Cause.Act (Act.Start k tag)) mine ≡ Some w → sends ≡ w.sends → StartRow setup k tag.0 mine → DeviceWeighs setup (Cause.Act (Act.Start k tag)) sends mine
  start_row_weighs k tag sends w row sent says =
      let inv = v5_start-inv setup k _ (directory setup mine) mine w row in
      let host = ltb-true k setup.hosts says.host in
      let zero = silent_sum setup.hosts sends (sent ∙ ap (λ (x : Emission). x.sends) inv.emits) in
      let started = start_weighs setup D asked says.r.line.0 (request_task k says.r.own_tag says.r.op says.r.meta) (known.lines k tag.0 says.r) (idle_has_no_task D says.r.line.0 says.idle) (request_is_none says.r.op says.r.meta) host in
      let less = subst (λ found. tasks_weight setup (directory_after_start k found D) asked ≤ tasks_weight setup D asked + (24 * setup.hosts - 17)) (sym says.r.found) started in
      record {
        k = k;
        here = host;
        x = 24 * setup.hosts - 16;
        y = 0;
        z = 0;
        v = 24 * setup.hosts - 17;
        others = λ g other. start_elsewhere setup mine sends g k tag (not_other k g other);
        own = start_here setup mine sends some k tag says.r says.asks (known.distinct k tag.0);
        tasks = omega arith;
        total = omega arith;
      }

  evict_row_weighs : (k : ℕ) (tag : Tag) (sends : Sends) (w : Emission) → device_emission setup opening (Cause.Act (Act.Evict k tag)) mine ≡ Some w → sends ≡ w.sends → EvictRow setup k tag.0 mine → DeviceWeighs setup (Cause.Act (Act.Evict k tag)) sends mine
  evict_row_weighs k tag sends w row sent says =
      let inv = v6_evict-inv setup k _ (directory setup mine) mine w row in
      let zero = silent_sum setup.hosts sends (sent ∙ ap (λ (x : Emission). x.sends) inv.emits) in
      let block = some_is (victim_block D) says.victim in
      let may = victim_evictable D block.x block.found in
      let within = victim_within setup D known.kept.entries block.x may in
      let long = some_lines block.x.1 in
      let evicted = evict_weighs setup D asked block.x.0 k tag block.x.1 (omega arith) (free_at block.x (victim_free setup.lines D known.kept.tasks block.x may) (D.task block.x.0) refl) in
      let less = subst (λ found. tasks_weight setup (directory_after_evict k tag found D) asked ≤ tasks_weight setup D asked + (1 + 84 * setup.hosts)) (sym block.found) evicted in
      record {
        k = k;
        here = ltb-true k setup.hosts says.host;
        x = 84 * setup.hosts + 2;
        y = 0;
        z = 0;
        v = 1 + 84 * setup.hosts;
        others = λ g other. evict_elsewhere setup mine sends g k tag (not_other k g other);
        own = evict_here setup mine sends some k tag says.r says.asks (unevicted (has_entry setup D says.r.line.0) (is_no_eviction (request_room setup k tag.0 mine)) (free_entries setup mine == 0) says.wants);
        tasks = omega arith;
        total = omega arith;
      }
    where
      free_at : (block : ℕ × Span) → ((a b : ℕ) (s : Task) → D.task b ≡ Some s → covers b s.span a ≡ true → covers block.0 block.1 a ≡ true → ⊥) → (found : Option Task) → D.task block.0 ≡ found → D.task block.0 ≡ None
      free_at block free None is = is
      free_at block free (Some s) is = absurd (free block.0 block.0 s is (covers_first block.0 s.span) (covers_first block.0 block.1))

  snoop_row_weighs : (k : ℕ) (line : Line) (sends : Sends) → SnoopRow setup k line.0 sends mine → DeviceWeighs setup (Cause.Act (Act.Snoop k line)) sends mine
  snoop_row_weighs k line sends says =
      let less = snoop_weighs setup mine known k line.0 sends says in
      let one = one_sum setup.hosts k (snoop_message line.0 says.t) sends says.sent in
      record {
        k = k;
        here = ltb-true k setup.hosts says.host;
        x = 0;
        y = 0;
        z = 3 + 20 * span_len says.t.span + 1;
        v = 0;
        others = λ g other. snoop_part setup mine sends g k line;
        own = snoop_part setup mine sends k k line;
        tasks = omega arith;
        total = omega arith;
      }

  finish_row_weighs : (line : Line) (sends : Sends) (w : Emission) → device_emission setup opening (Cause.Act (Act.Finish line)) mine ≡ Some w → sends ≡ w.sends → FinishRow setup line.0 sends mine → DeviceWeighs setup (Cause.Act (Act.Finish line)) sends mine
  finish_row_weighs line sends w row sent says =
      let less = finish_weighs setup mine known line.0 sends says in
      record {
        k = 0;
        here = omega arith;
        x = 0;
        y = 0;
        z = ended says.t.purpose;
        v = 0;
        others = λ g other. finish_part setup mine sends g line;
        own = finish_part setup mine sends 0 line;
        tasks = omega arith;
        total = let few = sent_few in omega arith;
      }
    where
      sent_few : sent_weight setup.hosts (outs sends) + 1 ≤ ended says.t.purpose
      sent_few =
          let inv = v8_finish-inv setup opening line.0 (D.task line.0) D mine w row in
          let one = same_Some inv.t says.t (sym inv.found ∙ says.task) in
          subst (λ s. sent_weight setup.hosts (outs s) + 1 ≤ ended says.t.purpose) (sym (sent ∙ ap (λ (x : Emission). x.sends) inv.emits))
          (subst (λ (t : Task). sent_weight setup.hosts (outs (finish_emission inv.t.purpose _ inv.t.host inv.t.tag _).sends) + 1 ≤ ended t.purpose) one (finish_weight setup.hosts inv.t.purpose _ inv.t.host inv.t.tag _))

  return_row_weighs : (k : ℕ) (c : Channel) (sends : Sends) (w : Emission) → IsTrue (is_host setup k) → device_emission setup opening (Cause.Act (Act.DeviceReturn k c)) mine ≡ Some w → sends ≡ w.sends → DeviceWeighs setup (Cause.Act (Act.DeviceReturn k c)) sends mine
  return_row_weighs k c sends w host row sent =
      let inv = v9_return-inv k c mine w row in
      let is = sent ∙ ap (λ (x : Emission). x.sends) inv.emits in
      let one = one_sum setup.hosts k (Message.Credit c) sends is in
      let back = subst (λ s. 1 ≤ device_returns_now k s) (sym is) (some_returned k c inv.returns) in
      record {
        k = k;
        here = ltb-true k setup.hosts host;
        x = 2;
        y = 0;
        z = 0;
        v = 0;
        others = λ g other. return_elsewhere setup mine sends g k c;
        own = return_here setup mine sends k c back;
        tasks = omega arith;
        total = omega arith;
      }

  -- each row of the device
  pub device_row_weighs : (cause : Cause) (sends : Sends) (w : Emission) → cause_fits setup device cause ≡ true → device_emission setup opening cause mine ≡ Some w → sends ≡ w.sends → DeviceWeighs setup cause sends mine
  device_row_weighs (Cause.Op s i op) sends w fits row sent = absurd (none-some w row)
  device_row_weighs (Cause.Take k m) sends w fits row sent =
      let bare = (device_take-inv setup opening k m mine w row).same in
      take_weighs k m sends (ltb-true k setup.hosts (take_parts setup device k m fits).host) (sent ∙ device_takes_silent setup k m mine w bare) (device_row setup opening (Cause.Take k m) sends mine w fits row sent) w bare
  device_row_weighs (Cause.Act (Act.Conflict line)) sends w fits row sent = absurd (none-some w row)
  device_row_weighs (Cause.Act (Act.WriteBack line)) sends w fits row sent = absurd (none-some w row)
  device_row_weighs (Cause.Act (Act.Answer line)) sends w fits row sent = absurd (none-some w row)
  device_row_weighs (Cause.Act (Act.AnswerBlock line)) sends w fits row sent = absurd (none-some w row)
  device_row_weighs (Cause.Act (Act.HostReturn c)) sends w fits row sent = absurd (none-some w row)
  device_row_weighs (Cause.Act (Act.Serve k tag)) sends w fits row sent =
      serve_row_weighs k tag sends w (and_parts (is_device device) (is_host setup k) (and_parts (is_device device && is_host setup k) (write_tag_exists setup tag) fits).0).1 row sent
  device_row_weighs (Cause.Act (Act.Clean k tag)) sends w fits row sent =
      clean_row_weighs k tag sends w (and_parts (is_device device) (is_host setup k) (and_parts (is_device device && is_host setup k) (tag_exists setup tag) fits).0).1 row sent (device_row setup opening (Cause.Act (Act.Clean k tag)) sends mine w fits row sent)
  device_row_weighs (Cause.Act (Act.Start k tag)) sends w fits row sent = start_row_weighs k tag sends w row sent (device_row setup opening (Cause.Act (Act.Start k tag)) sends mine w fits row sent)
  device_row_weighs (Cause.Act (Act.Evict k tag)) sends w fits row sent = evict_row_weighs k tag sends w row sent (device_row setup opening (Cause.Act (Act.Evict k tag)) sends mine w fits row sent)
  device_row_weighs (Cause.Act (Act.Snoop k line)) sends w fits row sent = snoop_row_weighs k line sends (device_row setup opening (Cause.Act (Act.Snoop k line)) sends mine w fits row sent)
  device_row_weighs (Cause.Act (Act.Finish line)) sends w fits row sent = finish_row_weighs line sends w row sent (device_row setup opening (Cause.Act (Act.Finish line)) sends mine w fits row sent)
  device_row_weighs (Cause.Act (Act.DeviceReturn k c)) sends w fits row sent = return_row_weighs k c sends w (and_parts (is_device device) (is_host setup k) fits).1 row sent
