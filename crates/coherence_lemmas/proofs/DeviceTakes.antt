-- What the rows V1 and V2 say where they emit something.
use Rattle.std.proofs.Common.{◌≡◌, ℕ, true, List, Option, Some, None, refl}
use Rattle.cxl_message.specs.declared.channels.Channel.{Channel}
use Rattle.cxl_message.specs.declared.events.Event.{Event}
use Rattle.cxl_message.specs.declared.messages.Message.{Message}
use Rattle.cxl_message.specs.declared.opcodes.RspOp.{RspOp}
use Rattle.cxl_message.specs.Setup.{Configuration}
use Rattle.coherence_model.specs.Buffers.{message_with}
use Rattle.coherence_model.specs.Credits.{lacks_credit}
use Rattle.coherence_model.specs.DeviceTakes.{is_answered_by, v1_credit, v1_take, v2_response}
use Rattle.coherence_model.specs.Emission.{Emission, nothing}
use Rattle.coherence_model.specs.SentSnoops.{SentSnoop}
use Rattle.coherence_lemmas.proofs.HostTakes.{CreditTaken}
use Rattle.coherence_lemmas.proofs.Options.{none_is, when_some}

-- V1, Req and RwD: no message with the tag is buffered
pub record MessageTaken (tag : ℕ) (buffered : List Message) (w : Emission) : Type 0 where
  pub unused : message_with tag buffered ≡ None
  pub emits : w ≡ nothing

pub v1_take-inv : (tag : ℕ) (buffered : List Message) (w : Emission) → v1_take tag buffered ≡ Some w → MessageTaken tag buffered w
v1_take-inv tag buffered w e = let given = when_some _ nothing w e in record { unused = none_is (message_with tag buffered) given.holds; emits = given.same }

-- V1, Credit: a credit is missing
pub v1_credit-inv : (setup : Configuration) (h : ℕ) (c : Channel) (mine : List Event) (w : Emission) → v1_credit setup h c mine ≡ Some w → CreditTaken setup h c mine w
v1_credit-inv setup h c mine w e = let given = when_some (lacks_credit setup h c mine) nothing w e in record { lacks = given.holds; emits = given.same }

-- V2: the host is Asked by the snoop, and the answer is one to it
pub record ResponseTaken (op : RspOp) (a : ℕ) (snoop : Option SentSnoop) (w : Emission) : Type 0 where
  pub q : SentSnoop
  pub asked : snoop ≡ Some q
  pub answers : is_answered_by op a q ≡ true
  pub emits : w ≡ nothing

pub v2_response-inv : (op : RspOp) (a : ℕ) (snoop : Option SentSnoop) (w : Emission) → v2_response op a snoop ≡ Some w → ResponseTaken op a snoop w
v2_response-inv op a None w e = cc
v2_response-inv op a (Some q) w e = let given = when_some (is_answered_by op a q) nothing w e in record { q = q; asked = refl; answers = given.holds; emits = given.same }
