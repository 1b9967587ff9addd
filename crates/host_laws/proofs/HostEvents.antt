-- The events that a host's own half allows, as each of its rows gives them.
use Rattle.cxl_message.specs.Formed.{cause_formed}
use Rattle.std.proofs.Common.{Bool, IsTrue, List, None, Option, Some, ap, cond, false, inl, inr, refl, sym, subst, true, ℕ, ◌<◌, ◌∙◌, ◌≡◌}
use Rattle.std.proofs.lemmas.Bool.{and_parts, eqb-true, ltb-true}
use Rattle.std.proofs.lemmas.Option.{none-some}
use Rattle.std.specs.Prelude.{is_none, ◌&&◌, ◌==◌, ◌||◌}
use Rattle.cxl_message.specs.declared.channels.Channel.{Channel}
use Rattle.cxl_message.specs.declared.events.Act.{Act}
use Rattle.cxl_message.specs.declared.events.Cause.{Cause}
use Rattle.cxl_message.specs.declared.events.Event.{Event}
use Rattle.cxl_message.specs.declared.events.Op.{Op}
use Rattle.cxl_message.specs.declared.identifiers.BiTag.{BiTag}
use Rattle.cxl_message.specs.declared.identifiers.Bytes64.{Bytes64}
use Rattle.cxl_message.specs.declared.identifiers.Line.{Line}
use Rattle.cxl_message.specs.declared.messages.Message.{Message}
use Rattle.cxl_message.specs.declared.opcodes.NdrOp.{NdrOp}
use Rattle.cxl_message.specs.declared.opcodes.RspOp.{RspOp}
use Rattle.cxl_message.specs.declared.opcodes.SnpOp.{SnpOp}
use Rattle.cxl_message.specs.declared.opcodes.Span.{Span}
use Rattle.cxl_message.specs.Events.{line_of}
use Rattle.cxl_message.specs.Opening.{zero_bytes}
use Rattle.cxl_message.specs.Setup.{Configuration}
use Rattle.coherence_model.specs.Cache.{copy, is_writable, needs_victim, victim_way}
use Rattle.coherence_model.specs.Credits.{has_room, lacking_channel, lacks_credit}
use Rattle.coherence_model.specs.Emission.{Emission, nothing}
use Rattle.coherence_model.specs.Fitting.{cause_fits, is_device}
use Rattle.cxl_message.specs.Stores.{line_after}
use Rattle.coherence_model.specs.HostActs.{host_acts, write_back_message}
use Rattle.coherence_model.specs.HostOperations.{eviction_message, hits}
use Rattle.coherence_model.specs.HostRows.{host_emission}
use Rattle.coherence_model.specs.HostTakes.{fill_emission, grant_emission, h3_completion, host_takes, is_write_back_tag, may_grant}
use Rattle.coherence_model.specs.Next.{event_with}
use Rattle.coherence_model.specs.Rules.{s0_stream_order}
use Rattle.coherence_model.specs.Snoops.{is_quiet, snoop_at}
use Rattle.coherence_model.specs.Tags.{is_conflict_open, open_with}
use Rattle.coherence_model.specs.Transactions.{Transaction, is_read, is_request, open_at}
use Rattle.coherence_model.specs.WriteBacks.{is_write_back_open}
use Rattle.coherence_lemmas.proofs.HostActs.{Answered, BlockAnswered, ConflictDeclared, CreditReturned, WrittenBack, h7_conflict-inv, h8_write_back-inv, h9_answer-inv, h9_answer_block-inv, h10_return-inv}
use Rattle.coherence_lemmas.proofs.HostOperations.{host_operates-inv}
use Rattle.coherence_lemmas.proofs.HostTakes.{Granted, SnoopTaken, h3_completion-inv, h3_data-inv, h3_grant-inv, h4_snoop-inv, h5_conflict_ack-inv, h6_credit-inv}
use Rattle.coherence_lemmas.proofs.Options.{none_is}
use Rattle.coherence_lemmas.proofs.Rows.{host_take-inv}
use Rattle.request_laws.proofs.FreeTags.{IsFree, TwoFree, first_is_free, two_are_free}
use Rattle.host_laws.proofs.Events.{act_event, commit_of, evicting_event, hit_event, request_event, take_event}

-- what the own half says of an event
pub record OwnStep (setup : Configuration) (h : ℕ) (mine : List Event) (e : Event) : Type 0 where
  pub agent : e.agent ≡ h
  pub order : IsTrue (s0_stream_order e.cause mine)
  pub formed : IsTrue (cause_formed e.cause)
  pub fits : IsTrue (cause_fits setup h e.cause)
  pub w : Emission
  pub row : host_emission setup h e.cause mine ≡ Some w
  pub paid : lacking_channel setup w.sends mine ≡ None
  pub sends : e.sends ≡ w.sends
  pub commit : e.commit ≡ w.commit

-- an event with its emission known
pub is_event : (setup : Configuration) (h : ℕ) (mine : List Event) (e : Event) (own : OwnStep setup h mine e) (w : Emission) (cause : Cause) → own.w ≡ w → e.cause ≡ cause → e ≡ event_with h cause w
is_event setup h mine e own w cause emits is =
    let sends = own.sends ∙ ap (λ (x : Emission). x.sends) emits in
    let commit = own.commit ∙ ap (λ (x : Emission). x.commit) emits in
    let agent = own.agent in
    λ j. record { agent = agent j; cause = is j; sends = sends j; commit = commit j }

-- a message with a tag
abbrev pub ndr : NdrOp → ℕ → Message
ndr c tag = Message.Ndr c (record { 0 = tag })

abbrev pub data_of : ℕ → Bytes64 → Message
data_of tag bytes = Message.MemData (record { 0 = tag }) bytes

pub record Hits (setup : Configuration) (h : ℕ) (mine : List Event) (e : Event) : Type 0 where
  pub s : ℕ
  pub i : ℕ
  pub op : Op
  pub on_copy : hits setup op mine ≡ true
  pub quiet : is_quiet (line_of op) mine ≡ true
  pub is : e ≡ hit_event h s i op (line_after op (copy setup (line_of op) mine).bytes)

-- a request alone, and the line that it drops, if it drops one
pub record Requests (setup : Configuration) (h : ℕ) (mine : List Event) (e : Event) : Type 0 where
  pub s : ℕ
  pub i : ℕ
  pub op : Op
  pub tag : ℕ
  pub quiet : is_quiet (line_of op) mine ≡ true
  pub free : IsFree setup mine tag
  pub needs : needs_victim setup (line_of op) mine ≡ false
  pub is : e ≡ request_event h s i op tag

pub record Drops (setup : Configuration) (h : ℕ) (mine : List Event) (e : Event) : Type 0 where
  pub s : ℕ
  pub i : ℕ
  pub op : Op
  pub tag : ℕ
  pub v : ℕ
  pub quiet : is_quiet (line_of op) mine ≡ true
  pub free : IsFree setup mine tag
  pub needs : needs_victim setup (line_of op) mine ≡ true
  pub victim : victim_way setup mine ≡ Some v
  pub is : e ≡ request_event h s i op tag

pub record Evicts (setup : Configuration) (h : ℕ) (mine : List Event) (e : Event) : Type 0 where
  pub s : ℕ
  pub i : ℕ
  pub op : Op
  pub v : ℕ
  pub t : ℕ
  pub u : ℕ
  pub quiet : is_quiet (line_of op) mine ≡ true
  pub free : TwoFree setup mine t u
  pub needs : needs_victim setup (line_of op) mine ≡ true
  pub victim : victim_way setup mine ≡ Some v
  pub writable : is_writable setup v mine ≡ true
  pub is : e ≡ evicting_event h s i op (eviction_message setup v mine t) u

pub record EndsWrite (setup : Configuration) (h : ℕ) (mine : List Event) (e : Event) : Type 0 where
  pub room : has_room setup h (ndr NdrOp.Cmp setup.tags) mine ≡ true
  pub none : open_with setup.tags mine ≡ None
  pub writing : is_write_back_open setup mine ≡ true
  pub is : e ≡ take_event h (ndr NdrOp.Cmp setup.tags) None

pub record EndsEviction (setup : Configuration) (h : ℕ) (mine : List Event) (e : Event) : Type 0 where
  pub tag : ℕ
  pub o : Transaction
  pub room : has_room setup h (ndr NdrOp.Cmp tag) mine ≡ true
  pub there : open_with tag mine ≡ Some o
  pub eviction : is_request o.kind ≡ false
  pub is : e ≡ take_event h (ndr NdrOp.Cmp tag) None

pub record Grants (setup : Configuration) (h : ℕ) (mine : List Event) (e : Event) : Type 0 where
  pub c : NdrOp
  pub tag : ℕ
  pub o : Transaction
  pub room : has_room setup h (ndr c tag) mine ≡ true
  pub there : open_with tag mine ≡ Some o
  pub may : may_grant c o.kind ≡ true
  pub first : o.grant ≡ None
  pub read : is_read o.kind ≡ true
  pub waits : o.bytes ≡ None
  pub is : e ≡ take_event h (ndr c tag) None

pub record GrantFills (setup : Configuration) (h : ℕ) (mine : List Event) (e : Event) : Type 0 where
  pub c : NdrOp
  pub tag : ℕ
  pub o : Transaction
  pub bytes : Bytes64
  pub room : has_room setup h (ndr c tag) mine ≡ true
  pub there : open_with tag mine ≡ Some o
  pub may : may_grant c o.kind ≡ true
  pub first : o.grant ≡ None
  pub ends : (is_read o.kind && is_none o.bytes) ≡ false
  pub is : e ≡ take_event h (ndr c tag) (Some (commit_of o.stream o.index o.op (line_after o.op bytes)))

pub record Brings (setup : Configuration) (h : ℕ) (mine : List Event) (e : Event) : Type 0 where
  pub tag : ℕ
  pub bytes : Bytes64
  pub o : Transaction
  pub room : has_room setup h (data_of tag bytes) mine ≡ true
  pub there : open_with tag mine ≡ Some o
  pub read : is_read o.kind ≡ true
  pub first : o.bytes ≡ None
  pub waits : o.grant ≡ None
  pub is : e ≡ take_event h (data_of tag bytes) None

pub record DataFills (setup : Configuration) (h : ℕ) (mine : List Event) (e : Event) : Type 0 where
  pub tag : ℕ
  pub bytes : Bytes64
  pub o : Transaction
  pub c : NdrOp
  pub room : has_room setup h (data_of tag bytes) mine ≡ true
  pub there : open_with tag mine ≡ Some o
  pub read : is_read o.kind ≡ true
  pub first : o.bytes ≡ None
  pub granted : o.grant ≡ Some c
  pub is : e ≡ take_event h (data_of tag bytes) (Some (commit_of o.stream o.index o.op (line_after o.op bytes)))

pub record TakesSnoop (setup : Configuration) (h : ℕ) (mine : List Event) (e : Event) : Type 0 where
  pub op : SnpOp
  pub bitag : BiTag
  pub line : Line
  pub span : Span
  pub room : has_room setup h (Message.BiSnp op bitag line span) mine ≡ true
  pub taken : SnoopTaken line.0 span mine nothing
  pub fits : IsTrue (cause_fits setup h (Cause.Take h (Message.BiSnp op bitag line span)))
  pub is : e ≡ take_event h (Message.BiSnp op bitag line span) None

pub record Acknowledges (setup : Configuration) (h : ℕ) (mine : List Event) (e : Event) : Type 0 where
  pub tag : ℕ
  pub room : has_room setup h (ndr NdrOp.ConflictAck tag) mine ≡ true
  pub conflict : is_conflict_open tag mine ≡ true
  pub is : e ≡ take_event h (ndr NdrOp.ConflictAck tag) None

pub record Earns (setup : Configuration) (h : ℕ) (mine : List Event) (e : Event) : Type 0 where
  pub c : Channel
  pub lacks : lacks_credit setup h c mine ≡ true
  pub fits : IsTrue (cause_fits setup h (Cause.Take h (Message.Credit c)))
  pub is : e ≡ take_event h (Message.Credit c) None

pub record Declares (setup : Configuration) (h : ℕ) (mine : List Event) (e : Event) : Type 0 where
  pub a : ℕ
  pub w : Emission
  pub row : ConflictDeclared setup h a mine (open_at a mine) w
  pub fits : IsTrue (cause_fits setup h (Cause.Act (Act.Conflict (record { 0 = a }))))
  pub is : e ≡ act_event h (Act.Conflict (record { 0 = a })) (Message.BiConflict (record { 0 = row.o.tag }))

pub record Writes (setup : Configuration) (h : ℕ) (mine : List Event) (e : Event) : Type 0 where
  pub a : ℕ
  pub w : Emission
  pub row : WrittenBack setup h a mine (snoop_at a mine) w
  pub fits : IsTrue (cause_fits setup h (Cause.Act (Act.WriteBack (record { 0 = a }))))
  pub is : e ≡ act_event h (Act.WriteBack (record { 0 = a })) (write_back_message setup row.s.op a mine)

pub record Answers (setup : Configuration) (h : ℕ) (mine : List Event) (e : Event) : Type 0 where
  pub a : ℕ
  pub w : Emission
  pub row : Answered setup h a mine (snoop_at a mine) w
  pub fits : IsTrue (cause_fits setup h (Cause.Act (Act.Answer (record { 0 = a }))))
  pub is : e ≡ event_with h (Cause.Act (Act.Answer (record { 0 = a }))) w

pub record AnswersBlock (setup : Configuration) (h : ℕ) (mine : List Event) (e : Event) : Type 0 where
  pub a : ℕ
  pub w : Emission
  pub row : BlockAnswered setup h a mine w
  pub is : e ≡ act_event h (Act.AnswerBlock (record { 0 = a })) (Message.BiRsp RspOp.IBlk (record { 0 = a }) 0)

pub record Returns (setup : Configuration) (h : ℕ) (mine : List Event) (e : Event) : Type 0 where
  pub c : Channel
  pub w : Emission
  pub row : CreditReturned h c mine w
  pub is : e ≡ act_event h (Act.HostReturn c) (Message.Credit c)

pub data HostEvent (setup : Configuration) (h : ℕ) (mine : List Event) (e : Event) : Type 0 where
  ByHit : Hits setup h mine e → HostEvent setup h mine e
  ByRequest : Requests setup h mine e → HostEvent setup h mine e
  ByDrop : Drops setup h mine e → HostEvent setup h mine e
  ByEviction : Evicts setup h mine e → HostEvent setup h mine e
  ByWriteEnd : EndsWrite setup h mine e → HostEvent setup h mine e
  ByEvictionEnd : EndsEviction setup h mine e → HostEvent setup h mine e
  ByGrant : Grants setup h mine e → HostEvent setup h mine e
  ByGrantFill : GrantFills setup h mine e → HostEvent setup h mine e
  ByData : Brings setup h mine e → HostEvent setup h mine e
  ByDataFill : DataFills setup h mine e → HostEvent setup h mine e
  BySnoop : TakesSnoop setup h mine e → HostEvent setup h mine e
  ByAck : Acknowledges setup h mine e → HostEvent setup h mine e
  ByCredit : Earns setup h mine e → HostEvent setup h mine e
  ByConflict : Declares setup h mine e → HostEvent setup h mine e
  ByWriteBack : Writes setup h mine e → HostEvent setup h mine e
  ByAnswer : Answers setup h mine e → HostEvent setup h mine e
  ByBlock : AnswersBlock setup h mine e → HostEvent setup h mine e
  ByReturn : Returns setup h mine e → HostEvent setup h mine e

-- operations
