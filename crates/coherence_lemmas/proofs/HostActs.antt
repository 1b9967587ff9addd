-- What the rows H7 to H10 say where they emit something.
use Rattle.std.proofs.Common.{◌≡◌, ◌≤◌, ◌-◌, ℕ, true, false, List, Option, Some, None, refl}
use Rattle.std.specs.Prelude.{nat_le, not, ◌&&◌}
use Rattle.std.proofs.lemmas.Bool.{and_parts, leb-true, not-true}
use Rattle.cxl_message.specs.declared.channels.Channel.{Channel}
use Rattle.cxl_message.specs.declared.events.Event.{Event}
use Rattle.cxl_message.specs.declared.messages.Message.{Message}
use Rattle.cxl_message.specs.declared.opcodes.RspOp.{RspOp}
use Rattle.cxl_message.specs.Setup.{Configuration}
use Rattle.coherence_model.specs.Cache.{is_modified}
use Rattle.coherence_model.specs.Emission.{Emission, one_send}
use Rattle.coherence_model.specs.HostActs.{h10_return, h7_conflict, h8_write_back, h9_answer, h9_answer_block, host_returns, is_answered_alone, is_ready, may_answer_block, may_conflict, response_for, write_back_message}
use Rattle.coherence_model.specs.Snoops.{Snoop, host_owed, is_snooped}
use Rattle.coherence_model.specs.Stages.{is_new, is_new_or_late, stage}
use Rattle.coherence_model.specs.Transactions.{Transaction, is_open}
use Rattle.coherence_model.specs.WriteBacks.{is_write_back_open}
use Rattle.coherence_lemmas.proofs.Options.{when_some}

-- H7: a snooped line at stage New has something open for which a conflict is declared
pub record ConflictDeclared (setup : Configuration) (h a : ℕ) (mine : List Event) (open_one : Option Transaction) (w : Emission) : Type 0 where
  pub o : Transaction
  pub opened : open_one ≡ Some o
  pub snooped : is_snooped a mine ≡ true
  pub new : is_new (stage setup a mine) ≡ true
  pub may : may_conflict o.kind ≡ true
  pub emits : w ≡ one_send h (Message.BiConflict (record { 0 = o.tag }))

pub h7_conflict-inv :
    (setup : Configuration) (h a : ℕ) (mine : List Event) (open_one : Option Transaction) (w : Emission)
    → h7_conflict setup h a mine open_one ≡ Some w → ConflictDeclared setup h a mine open_one w
h7_conflict-inv setup h a mine None w e = cc
h7_conflict-inv setup h a mine (Some o) w e =
    let given = when_some (is_snooped a mine && is_new (stage setup a mine) && may_conflict o.kind) _ w e in
    let three = and_parts _ _ given.holds in
    let two = and_parts _ _ three.0 in
    record { o = o; opened = refl; snooped = two.0; new = two.1; may = three.1; emits = given.same }

-- H8: a snooped line at stage New or Late isn't Open, its copy is M, and the write-back tag is free
pub record WrittenBack (setup : Configuration) (h a : ℕ) (mine : List Event) (snoop : Option Snoop) (w : Emission) : Type 0 where
  pub s : Snoop
  pub snooped : snoop ≡ Some s
  pub new_or_late : is_new_or_late (stage setup a mine) ≡ true
  pub closed : is_open a mine ≡ false
  pub modified : is_modified setup a mine ≡ true
  pub free : is_write_back_open setup mine ≡ false
  pub emits : w ≡ one_send h (write_back_message setup s.op a mine)

pub h8_write_back-inv :
    (setup : Configuration) (h a : ℕ) (mine : List Event) (snoop : Option Snoop) (w : Emission)
    → h8_write_back setup h a mine snoop ≡ Some w → WrittenBack setup h a mine snoop w
h8_write_back-inv setup h a mine None w e = cc
h8_write_back-inv setup h a mine (Some s) w e =
    let given = when_some (is_new_or_late (stage setup a mine) && not (is_open a mine) && is_modified setup a mine && not (is_write_back_open setup mine)) _ w e in
    let four = and_parts _ _ given.holds in
    let three = and_parts _ _ four.0 in
    let two = and_parts _ _ three.0 in
    record { s = s; snooped = refl; new_or_late = two.0; closed = not-true _ two.1; modified = three.1; free = not-true _ four.1; emits = given.same }

-- H9, Answer: the line is ready, and is answered by itself
pub record Answered (setup : Configuration) (h a : ℕ) (mine : List Event) (snoop : Option Snoop) (w : Emission) : Type 0 where
  pub s : Snoop
  pub snooped : snoop ≡ Some s
  pub ready : is_ready setup a mine ≡ true
  pub alone : is_answered_alone setup s mine ≡ true
  pub emits : w ≡ one_send h (Message.BiRsp (response_for setup s.op a mine) (record { 0 = s.first }) (a - s.first))

pub h9_answer-inv :
    (setup : Configuration) (h a : ℕ) (mine : List Event) (snoop : Option Snoop) (w : Emission)
    → h9_answer setup h a mine snoop ≡ Some w → Answered setup h a mine snoop w
h9_answer-inv setup h a mine None w e = cc
h9_answer-inv setup h a mine (Some s) w e =
    let given = when_some (is_ready setup a mine && is_answered_alone setup s mine) _ w e in
    let parts = and_parts _ _ given.holds in
    record { s = s; snooped = refl; ready = parts.0; alone = parts.1; emits = given.same }

-- H9, AnswerBlock: the whole block may be answered at once
pub record BlockAnswered (setup : Configuration) (h a : ℕ) (mine : List Event) (w : Emission) : Type 0 where
  pub may : may_answer_block setup a mine ≡ true
  pub emits : w ≡ one_send h (Message.BiRsp RspOp.IBlk (record { 0 = a }) 0)

pub h9_answer_block-inv :
    (setup : Configuration) (h a : ℕ) (mine : List Event) (w : Emission) → h9_answer_block setup h a mine ≡ Some w → BlockAnswered setup h a mine w
h9_answer_block-inv setup h a mine w e = let given = when_some (may_answer_block setup a mine) _ w e in record { may = given.holds; emits = given.same }

-- H10: a used message of a channel of the host's gives its credit back
pub record CreditReturned (h : ℕ) (c : Channel) (mine : List Event) (w : Emission) : Type 0 where
  pub returns : host_returns c ≡ true
  pub owed : 1 ≤ host_owed h c mine
  pub emits : w ≡ one_send h (Message.Credit c)

pub h10_return-inv : (h : ℕ) (c : Channel) (mine : List Event) (w : Emission) → h10_return h c mine ≡ Some w → CreditReturned h c mine w
h10_return-inv h c mine w e =
    let given = when_some (host_returns c && nat_le 1 (host_owed h c mine)) _ w e in
    let parts = and_parts _ _ given.holds in
    record { returns = parts.0; owed = leb-true 1 (host_owed h c mine) parts.1; emits = given.same }
