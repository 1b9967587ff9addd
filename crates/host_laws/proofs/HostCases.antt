-- Each own event that the host's half allows is one of a host's events, and why.
use Rattle.cxl_message.specs.Formed.{cause_formed}
use Rattle.std.proofs.Common.{Bool, IsTrue, List, None, Option, Some, ap, cond, false, inl, inr, refl, sym, subst, true, ℕ, ◌<◌, ◌∙◌, ◌≡◌}
use Rattle.std.proofs.lemmas.Bool.{and_parts, eqb-true, ltb-true}
use Rattle.std.proofs.lemmas.Option.{none-some}
use Rattle.std.specs.Prelude.{is_none, ◌&&◌, ◌==◌, ◌||◌}
use Rattle.cxl_message.specs.declared.channels.Channel.{Channel}
use Rattle.cxl_message.specs.declared.events.Act.{Act}
use Rattle.cxl_message.specs.declared.events.Cause.{Cause}
use Rattle.cxl_message.specs.declared.events.Event.{Event}
use Rattle.cxl_message.specs.declared.events.Op.{Op}
use Rattle.cxl_message.specs.declared.identifiers.BiTag.{BiTag}
use Rattle.cxl_message.specs.declared.identifiers.Bytes64.{Bytes64}
use Rattle.cxl_message.specs.declared.identifiers.Line.{Line}
use Rattle.cxl_message.specs.declared.messages.Message.{Message}
use Rattle.cxl_message.specs.declared.opcodes.NdrOp.{NdrOp}
use Rattle.cxl_message.specs.declared.opcodes.RspOp.{RspOp}
use Rattle.cxl_message.specs.declared.opcodes.SnpOp.{SnpOp}
use Rattle.cxl_message.specs.declared.opcodes.Span.{Span}
use Rattle.cxl_message.specs.Events.{line_of}
use Rattle.cxl_message.specs.Opening.{zero_bytes}
use Rattle.cxl_message.specs.Setup.{Configuration}
use Rattle.coherence_model.specs.Cache.{copy, is_writable, needs_victim, victim_way}
use Rattle.coherence_model.specs.Credits.{has_room, lacking_channel, lacks_credit}
use Rattle.coherence_model.specs.Emission.{Emission, nothing}
use Rattle.coherence_model.specs.Fitting.{cause_fits, is_device}
use Rattle.cxl_message.specs.Stores.{line_after}
use Rattle.coherence_model.specs.HostActs.{host_acts, write_back_message}
use Rattle.coherence_model.specs.HostOperations.{eviction_message, hits}
use Rattle.coherence_model.specs.HostRows.{host_emission}
use Rattle.coherence_model.specs.HostTakes.{fill_emission, grant_emission, h3_completion, host_takes, is_write_back_tag, may_grant}
use Rattle.coherence_model.specs.Next.{event_with}
use Rattle.coherence_model.specs.Rules.{s0_stream_order}
use Rattle.coherence_model.specs.Snoops.{is_quiet, snoop_at}
use Rattle.coherence_model.specs.Tags.{is_conflict_open, open_with}
use Rattle.coherence_model.specs.Transactions.{Transaction, is_read, is_request, open_at}
use Rattle.coherence_model.specs.WriteBacks.{is_write_back_open}
use Rattle.coherence_lemmas.proofs.HostActs.{Answered, BlockAnswered, ConflictDeclared, CreditReturned, WrittenBack, h7_conflict-inv, h8_write_back-inv, h9_answer-inv, h9_answer_block-inv, h10_return-inv}
use Rattle.coherence_lemmas.proofs.HostOperations.{host_operates-inv}
use Rattle.coherence_lemmas.proofs.HostTakes.{Granted, SnoopTaken, h3_completion-inv, h3_data-inv, h3_grant-inv, h4_snoop-inv, h5_conflict_ack-inv, h6_credit-inv}
use Rattle.coherence_lemmas.proofs.Options.{none_is}
use Rattle.coherence_lemmas.proofs.Rows.{host_take-inv}
use Rattle.request_laws.proofs.FreeTags.{IsFree, TwoFree, first_is_free, two_are_free}
use Rattle.host_laws.proofs.Events.{act_event, commit_of, evicting_event, hit_event, request_event, take_event}
use Rattle.host_laws.proofs.HostEvents.{ByHit, ByRequest, ByDrop, ByEviction, ByWriteEnd, ByEvictionEnd, ByGrant, ByGrantFill, ByData, ByDataFill, BySnoop, ByAck, ByCredit, ByConflict, ByWriteBack, ByAnswer, ByBlock, ByReturn, HostEvent, OwnStep, data_of, is_event, ndr}

operation_event : (setup : Configuration) (h : ℕ) (mine : List Event) (e : Event) (own : OwnStep setup h mine e) (s i : ℕ) (op : Op) → e.cause ≡ Cause.Op s i op → HostEvent setup h mine e
operation_event setup h mine e own s i op is =
    let row = subst (λ c. host_emission setup h c mine ≡ Some own.w) is own.row in
    elim (host_operates-inv setup h s i op mine own.w row) [
      | inl hit ↦ ByHit (record { s = s; i = i; op = op; on_copy = hit.on_copy; quiet = hit.quiet; is = is_event setup h mine e own _ _ hit.emits is })
      | inr miss ↦ elim miss.how [
        | inl lone ↦
            ByRequest (record {
              s = s;
              i = i;
              op = op;
              tag = lone.alone.tag;
              quiet = miss.quiet;
              free = first_is_free setup mine lone.alone.tag lone.alone.rest lone.alone.free;
              needs = lone.needs;
              is = is_event setup h mine e own _ _ lone.alone.emits is;
            })
        | inr victim ↦ elim victim [
          | inl drop ↦
              ByDrop (record {
                s = s;
                i = i;
                op = op;
                tag = drop.alone.tag;
                v = drop.v;
                quiet = miss.quiet;
                free = first_is_free setup mine drop.alone.tag drop.alone.rest drop.alone.free;
                needs = drop.needs;
                victim = drop.victim;
                is = is_event setup h mine e own _ _ drop.alone.emits is;
              })
          | inr evict ↦
              ByEviction (record {
                s = s;
                i = i;
                op = op;
                v = evict.v;
                t = evict.evicting.eviction_tag;
                u = evict.evicting.tag;
                quiet = miss.quiet;
                free = two_are_free setup mine evict.evicting.eviction_tag evict.evicting.tag evict.evicting.rest evict.evicting.free;
                needs = evict.needs;
                victim = evict.victim;
                writable = evict.writable;
                is = is_event setup h mine e own _ _ evict.evicting.emits is;
              })
        ]
      ]
    ]

-- takes

completion_event :
    (setup : Configuration) (h : ℕ) (mine : List Event) (e : Event) (own : OwnStep setup h mine e) (tag : ℕ) → has_room setup h (ndr NdrOp.Cmp tag) mine ≡ true
    → h3_completion (is_write_back_tag setup tag mine) (open_with tag mine) ≡ Some own.w → e.cause ≡ Cause.Take h (ndr NdrOp.Cmp tag) → HostEvent setup h mine e
completion_event setup h mine e own tag room row is =
    elim (h3_completion-inv (is_write_back_tag setup tag mine) (open_with tag mine) own.w row) [
      | inl ended ↦
          let parts = and_parts (tag == setup.tags) (is_write_back_open setup mine) ended.is_open in
          let same = eqb-true tag setup.tags parts.0 in
          ByWriteEnd (record {
            room = subst (λ t. has_room setup h (ndr NdrOp.Cmp t) mine ≡ true) same room;
            none = subst (λ t. open_with t mine ≡ None) same ended.none_open;
            writing = parts.1;
            is = is_event setup h mine e own nothing _ ended.emits (is ∙ ap (λ t. Cause.Take h (ndr NdrOp.Cmp t)) same);
          })
      | inr evicted ↦ ByEvictionEnd (record { tag = tag; o = evicted.o; room = room; there = evicted.is_open; eviction = evicted.eviction; is = is_event setup h mine e own nothing _ evicted.emits is })
    ]

read_of : (o : Transaction) → (is_read o.kind && is_none o.bytes) ≡ true → (is_read o.kind ≡ true) × (o.bytes ≡ None)
read_of o h = let p = and_parts _ _ h in (p.0, none_is o.bytes p.1)

-- a grant fills, or waits for the data
grant_by :
    (setup : Configuration) (h : ℕ) (mine : List Event) (e : Event) (own : OwnStep setup h mine e) (c : NdrOp) (tag : ℕ) (o : Transaction) (came : Option Bytes64) (read : Bool) → has_room setup h (ndr c tag) mine ≡ true
    → open_with tag mine ≡ Some o → may_grant c o.kind ≡ true → o.grant ≡ None → o.bytes ≡ came → is_read o.kind ≡ read → own.w ≡ grant_emission o came → e.cause ≡ Cause.Take h (ndr c tag) → HostEvent setup h mine e
grant_by setup h mine e own c tag o None true room there may first bytes kind emits is =
    ByGrant (record {
      c = c;
      tag = tag;
      o = o;
      room = room;
      there = there;
      may = may;
      first = first;
      read = kind;
      waits = bytes;
      is = is_event setup h mine e own nothing _ (emits ∙ ap (λ b. cond b nothing (fill_emission o zero_bytes)) kind) is;
    })
grant_by setup h mine e own c tag o None false room there may first bytes kind emits is =
    ByGrantFill (record {
      c = c;
      tag = tag;
      o = o;
      bytes = zero_bytes;
      room = room;
      there = there;
      may = may;
      first = first;
      ends = ap (λ b. b && is_none o.bytes) kind;
      is = is_event setup h mine e own (fill_emission o zero_bytes) _ (emits ∙ ap (λ b. cond b nothing (fill_emission o zero_bytes)) kind) is;
    })
grant_by setup h mine e own c tag o (Some b) read room there may first bytes kind emits is =
    ByGrantFill (record {
      c = c;
      tag = tag;
      o = o;
      bytes = b;
      room = room;
      there = there;
      may = may;
      first = first;
      ends = ap (λ x. is_read o.kind && is_none x) bytes ∙ and_false (is_read o.kind);
      is = is_event setup h mine e own (fill_emission o b) _ emits is;
    })
  where
    and_false : (b : Bool) → (b && false) ≡ false
    and_false true = refl
    and_false false = refl

grant_event :
    (setup : Configuration) (h : ℕ) (mine : List Event) (e : Event) (own : OwnStep setup h mine e) (c : NdrOp) (tag : ℕ) → has_room setup h (ndr c tag) mine ≡ true
    → Granted c (open_with tag mine) own.w → e.cause ≡ Cause.Take h (ndr c tag) → HostEvent setup h mine e
grant_event setup h mine e own c tag room row is =
    grant_by setup h mine e own c tag row.o row.o.bytes (is_read row.o.kind) room row.is_open row.may row.first refl refl row.emits is

data_by :
    (setup : Configuration) (h : ℕ) (mine : List Event) (e : Event) (own : OwnStep setup h mine e) (tag : ℕ) (bytes : Bytes64) (o : Transaction) (grant : Option NdrOp) → has_room setup h (data_of tag bytes) mine ≡ true
    → open_with tag mine ≡ Some o → is_read o.kind ≡ true → o.bytes ≡ None → o.grant ≡ grant → own.w ≡ cond (is_none grant) nothing (fill_emission o bytes) → e.cause ≡ Cause.Take h (data_of tag bytes) → HostEvent setup h mine e
data_by setup h mine e own tag bytes o None room there read first granted emits is =
    ByData (record { tag = tag; bytes = bytes; o = o; room = room; there = there; read = read; first = first; waits = granted; is = is_event setup h mine e own nothing _ emits is })
data_by setup h mine e own tag bytes o (Some c) room there read first granted emits is =
    ByDataFill (record {
      tag = tag;
      bytes = bytes;
      o = o;
      c = c;
      room = room;
      there = there;
      read = read;
      first = first;
      granted = granted;
      is = is_event setup h mine e own (fill_emission o bytes) _ emits is;
    })

ndr_event :
    (setup : Configuration) (h : ℕ) (mine : List Event) (e : Event) (own : OwnStep setup h mine e) (c : NdrOp) (tag : ℕ) → has_room setup h (ndr c tag) mine ≡ true
    → host_takes setup h (ndr c tag) mine ≡ Some own.w → e.cause ≡ Cause.Take h (ndr c tag) → HostEvent setup h mine e
ndr_event setup h mine e own NdrOp.Cmp tag room row is = completion_event setup h mine e own tag room row is
ndr_event setup h mine e own NdrOp.CmpS tag room row is = grant_event setup h mine e own NdrOp.CmpS tag room (h3_grant-inv NdrOp.CmpS (open_with tag mine) own.w row) is
ndr_event setup h mine e own NdrOp.CmpE tag room row is = grant_event setup h mine e own NdrOp.CmpE tag room (h3_grant-inv NdrOp.CmpE (open_with tag mine) own.w row) is
ndr_event setup h mine e own NdrOp.ConflictAck tag room row is =
    let ack = h5_conflict_ack-inv tag mine own.w row in
    ByAck (record { tag = tag; room = room; conflict = ack.is_open; is = is_event setup h mine e own nothing _ ack.emits is })

taken_event :
    (setup : Configuration) (h : ℕ) (mine : List Event) (e : Event) (own : OwnStep setup h mine e) (m : Message) → has_room setup h m mine ≡ true
    → host_takes setup h m mine ≡ Some own.w → e.cause ≡ Cause.Take h m → IsTrue (cause_fits setup h (Cause.Take h m)) → HostEvent setup h mine e
taken_event setup h mine e own (Message.Req op meta snp tag line) room row is fits = absurd (none-some own.w row)
taken_event setup h mine e own (Message.MemWr meta snp tag line bytes) room row is fits = absurd (none-some own.w row)
taken_event setup h mine e own (Message.BiConflict tag) room row is fits = absurd (none-some own.w row)
taken_event setup h mine e own (Message.BiRsp op bitag low) room row is fits = absurd (none-some own.w row)
taken_event setup h mine e own (Message.Ndr op tag) room row is fits = ndr_event setup h mine e own op tag.0 room row is
taken_event setup h mine e own (Message.MemData tag bytes) room row is fits =
    let taken = h3_data-inv bytes (open_with tag.0 mine) own.w row in
    data_by setup h mine e own tag.0 bytes taken.o taken.o.grant room taken.is_open taken.read taken.first refl taken.emits is
taken_event setup h mine e own (Message.BiSnp op bitag line span) room row is fits =
    let taken = h4_snoop-inv line.0 span mine own.w row in
    BySnoop (record {
      op = op;
      bitag = bitag;
      line = line;
      span = span;
      room = room;
      taken = record { unsnooped = taken.unsnooped; emits = refl };
      fits = fits;
      is = is_event setup h mine e own nothing _ taken.emits is;
    })
taken_event setup h mine e own (Message.Credit c) room row is fits =
    let taken = h6_credit-inv setup h c mine own.w row in
    ByCredit (record { c = c; lacks = taken.lacks; fits = fits; is = is_event setup h mine e own nothing _ taken.emits is })

-- acts

acted_event :
    (setup : Configuration) (h : ℕ) (mine : List Event) (e : Event) (own : OwnStep setup h mine e) (act : Act)
    → host_acts setup h act mine ≡ Some own.w → e.cause ≡ Cause.Act act → IsTrue (cause_fits setup h (Cause.Act act)) → HostEvent setup h mine e
acted_event setup h mine e own (Act.Conflict line) row is fits =
    let does = h7_conflict-inv setup h line.0 mine (open_at line.0 mine) own.w row in
    ByConflict (record { a = line.0; w = own.w; row = does; fits = fits; is = is_event setup h mine e own _ _ does.emits is })
acted_event setup h mine e own (Act.WriteBack line) row is fits =
    let does = h8_write_back-inv setup h line.0 mine (snoop_at line.0 mine) own.w row in
    ByWriteBack (record { a = line.0; w = own.w; row = does; fits = fits; is = is_event setup h mine e own _ _ does.emits is })
acted_event setup h mine e own (Act.Answer line) row is fits =
    let does = h9_answer-inv setup h line.0 mine (snoop_at line.0 mine) own.w row in
    ByAnswer (record { a = line.0; w = own.w; row = does; fits = fits; is = is_event setup h mine e own own.w _ refl is })
acted_event setup h mine e own (Act.AnswerBlock line) row is fits =
    let does = h9_answer_block-inv setup h line.0 mine own.w row in
    ByBlock (record { a = line.0; w = own.w; row = does; is = is_event setup h mine e own _ _ does.emits is })
acted_event setup h mine e own (Act.HostReturn c) row is fits =
    let does = h10_return-inv h c mine own.w row in
    ByReturn (record { c = c; w = own.w; row = does; is = is_event setup h mine e own _ _ does.emits is })
acted_event setup h mine e own (Act.Serve host tag) row is fits = absurd (none-some own.w row)
acted_event setup h mine e own (Act.Clean host tag) row is fits = absurd (none-some own.w row)
acted_event setup h mine e own (Act.Start host tag) row is fits = absurd (none-some own.w row)
acted_event setup h mine e own (Act.Evict host tag) row is fits = absurd (none-some own.w row)
acted_event setup h mine e own (Act.Snoop host line) row is fits = absurd (none-some own.w row)
acted_event setup h mine e own (Act.Finish line) row is fits = absurd (none-some own.w row)
acted_event setup h mine e own (Act.DeviceReturn host c) row is fits = absurd (none-some own.w row)

-- a host takes messages of its own number
own_host : (setup : Configuration) (h g : ℕ) (m : Message) → is_device h ≡ false → IsTrue (cause_fits setup h (Cause.Take g m)) → g ≡ h
own_host setup h g m host fits =
    let addressed = and_parts _ _ (and_parts _ _ (and_parts _ _ (and_parts _ _ fits).0).0).0 in
    eqb-true g h (ap (λ b. b || (g == h)) (sym host) ∙ addressed.1)

event_by : (setup : Configuration) (h : ℕ) (mine : List Event) (e : Event) → is_device h ≡ false → (own : OwnStep setup h mine e) (cause : Cause) → e.cause ≡ cause → HostEvent setup h mine e
event_by setup h mine e host own (Cause.Op s i op) is = operation_event setup h mine e own s i op is
event_by setup h mine e host own (Cause.Take g m) is =
    let row = subst (λ c. host_emission setup h c mine ≡ Some own.w) is own.row in
    let fits = subst (λ c. IsTrue (cause_fits setup h c)) is own.fits in
    let same = own_host setup h g m host fits in
    let passed = host_take-inv setup h g m mine own.w row in
    taken_event setup h mine e own m passed.holds passed.same (is ∙ ap (λ x. Cause.Take x m) same) (subst (λ x. IsTrue (cause_fits setup h (Cause.Take x m))) same fits)
event_by setup h mine e host own (Cause.Act act) is =
    acted_event setup h mine e own act (subst (λ c. host_emission setup h c mine ≡ Some own.w) is own.row) is (subst (λ c. IsTrue (cause_fits setup h c)) is own.fits)

-- each event that a host's own half allows is one of these
pub host_event : (setup : Configuration) (h : ℕ) (mine : List Event) (e : Event) → is_device h ≡ false → OwnStep setup h mine e → HostEvent setup h mine e
host_event setup h mine e host own = event_by setup h mine e host own e.cause refl
