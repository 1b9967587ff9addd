-- The credits that are kept follow every event alike: by what it takes and what it sends, whatever its row.
use Rattle.std.proofs.Common.{◌≡◌, ℕ, ◌+◌, ◌-◌, ◌<◌, ◌≤◌, Bool, true, false, List, [], ◌∷◌, Some, None, cond, length, map, refl, ap, sym, ◌∙◌, arith}
use Rattle.std.specs.Prelude.{filter, ◌&&◌, ◌==◌}
use Rattle.std.specs.List.{list_all}
use Rattle.std.specs.Option.{option_len}
use Rattle.std.proofs.lemmas.Bool.{and_parts, eq-eqb, ltb-true, ne_eqb}
use Rattle.cxl_message.specs.declared.channels.Channel.{Channel}
use Rattle.cxl_message.specs.declared.events.Cause.{Cause}
use Rattle.cxl_message.specs.declared.events.Event.{Event}
use Rattle.cxl_message.specs.declared.events.Out.{Out}
use Rattle.cxl_message.specs.declared.events.Sends.{Sends}
use Rattle.cxl_message.specs.declared.identifiers.Bytes64.{Bytes64}
use Rattle.cxl_message.specs.declared.identifiers.Line.{Line}
use Rattle.cxl_message.specs.declared.messages.Message.{Message}
use Rattle.cxl_message.specs.declared.opcodes.NdrOp.{NdrOp}
use Rattle.cxl_message.specs.declared.opcodes.ReqOp.{ReqOp}
use Rattle.cxl_message.specs.declared.opcodes.RspOp.{RspOp}
use Rattle.cxl_message.specs.declared.opcodes.SnpOp.{SnpOp}
use Rattle.cxl_message.specs.Channels.{goes_to_device}
use Rattle.cxl_message.specs.Codes.{channel_eq}
use Rattle.cxl_message.specs.Events.{outs}
use Rattle.cxl_message.specs.Lists.{below}
use Rattle.cxl_message.specs.Messages.{channel_of, message_eq}
use Rattle.cxl_message.specs.Setup.{Configuration}
use Rattle.coherence_model.specs.Credits.{credits_left, earned_count, held_count, is_credit_for, returned_count, sent_count, taken_count, takes_credit}
use Rattle.coherence_model.specs.Fitting.{cause_fits, out_fits}
use Rattle.coherence_model.specs.Flight.{is_on, takes_on}
use Rattle.coherence_model.specs.Traces.{device}
use Rattle.coherence_lemmas.proofs.CreditsReach.{count_on}
use Rattle.credit_laws.proofs.Counting.{sends_counted}
use Rattle.device_record.specs.CreditChanges.{credit_sent, credit_took, credits_in, credits_paid, credits_took, out_paid}
use Rattle.device_record.specs.Kept.{kept_credits}
use Rattle.coherence_model.specs.OwnRuns.{IsOwnRun}
use Rattle.device_record.specs.Record.{CreditRecord}
use Rattle.device_laws.proofs.OwnFacts.{fits_device, returned_within, sent_within, step_of_list}
use Rattle.device_laws.proofs.Tables.{change_table, same_table}

-- ---- one host's credits after a message, if it is this host's

abbrev pub one_or : Bool → ℕ
one_or b = cond b 1 0

-- after one message that is taken
abbrev pub took_if : Bool → Message → CreditRecord → CreditRecord
took_if b m c =
    record {
      req_held = c.req_held + one_or (b && channel_eq (channel_of m) Channel.Req);
      rwd_held = c.rwd_held + one_or (b && channel_eq (channel_of m) Channel.Rwd);
      rsp_held = c.rsp_held + one_or (b && channel_eq (channel_of m) Channel.BiRsp);
      ndr_left = c.ndr_left + one_or (b && message_eq m (Message.Credit Channel.Ndr));
      drs_left = c.drs_left + one_or (b && message_eq m (Message.Credit Channel.Drs));
      snp_left = c.snp_left + one_or (b && message_eq m (Message.Credit Channel.BiSnp));
    }

-- after one message that is sent
abbrev pub paid_if : Bool → Message → CreditRecord → CreditRecord
paid_if b m c =
    record {
      req_held = c.req_held - one_or (b && message_eq m (Message.Credit Channel.Req));
      rwd_held = c.rwd_held - one_or (b && message_eq m (Message.Credit Channel.Rwd));
      rsp_held = c.rsp_held - one_or (b && message_eq m (Message.Credit Channel.BiRsp));
      ndr_left = c.ndr_left - one_or (b && channel_eq (channel_of m) Channel.Ndr);
      drs_left = c.drs_left - one_or (b && channel_eq (channel_of m) Channel.Drs);
      snp_left = c.snp_left - one_or (b && channel_eq (channel_of m) Channel.BiSnp);
    }

-- six numbers make the record
six : (c d : CreditRecord) → c.req_held ≡ d.req_held → c.rwd_held ≡ d.rwd_held → c.rsp_held ≡ d.rsp_held → c.ndr_left ≡ d.ndr_left → c.drs_left ≡ d.drs_left → c.snp_left ≡ d.snp_left → c ≡ d
six c d p q r s t u = λ i. record { req_held = p i; rwd_held = q i; rsp_held = r i; ndr_left = s i; drs_left = t i; snp_left = u i }

plus0 : (n : ℕ) → n + 0 ≡ n
plus0 n = omega arith

less0 : (n : ℕ) → n - 0 ≡ n
less0 n = omega arith

not_taken : (m : Message) (c : CreditRecord) → c ≡ took_if false m c
not_taken m c = six c (took_if false m c) (sym (plus0 c.req_held)) (sym (plus0 c.rwd_held)) (sym (plus0 c.rsp_held)) (sym (plus0 c.ndr_left)) (sym (plus0 c.drs_left)) (sym (plus0 c.snp_left))

not_sent : (m : Message) (c : CreditRecord) → c ≡ paid_if false m c
not_sent m c = six c (paid_if false m c) (sym (less0 c.req_held)) (sym (less0 c.rwd_held)) (sym (less0 c.rsp_held)) (sym (less0 c.ndr_left)) (sym (less0 c.drs_left)) (sym (less0 c.snp_left))

-- a Credit that is taken raises what is left of its channel
credit_own : (d : Channel) (c : CreditRecord) → took_if true (Message.Credit d) c ≡ credit_took (Message.Credit d) c
credit_own Channel.Req c = six _ _ (plus0 c.req_held) (plus0 c.rwd_held) (plus0 c.rsp_held) (plus0 c.ndr_left) (plus0 c.drs_left) (plus0 c.snp_left)
credit_own Channel.Rwd c = six _ _ (plus0 c.req_held) (plus0 c.rwd_held) (plus0 c.rsp_held) (plus0 c.ndr_left) (plus0 c.drs_left) (plus0 c.snp_left)
credit_own Channel.BiRsp c = six _ _ (plus0 c.req_held) (plus0 c.rwd_held) (plus0 c.rsp_held) (plus0 c.ndr_left) (plus0 c.drs_left) (plus0 c.snp_left)
credit_own Channel.Ndr c = six _ _ (plus0 c.req_held) (plus0 c.rwd_held) (plus0 c.rsp_held) refl (plus0 c.drs_left) (plus0 c.snp_left)
credit_own Channel.Drs c = six _ _ (plus0 c.req_held) (plus0 c.rwd_held) (plus0 c.rsp_held) (plus0 c.ndr_left) refl (plus0 c.snp_left)
credit_own Channel.BiSnp c = six _ _ (plus0 c.req_held) (plus0 c.rwd_held) (plus0 c.rsp_held) (plus0 c.ndr_left) (plus0 c.drs_left) refl
credit_own Channel.CreditUp c = six _ _ (plus0 c.req_held) (plus0 c.rwd_held) (plus0 c.rsp_held) (plus0 c.ndr_left) (plus0 c.drs_left) (plus0 c.snp_left)
credit_own Channel.CreditDown c = six _ _ (plus0 c.req_held) (plus0 c.rwd_held) (plus0 c.rsp_held) (plus0 c.ndr_left) (plus0 c.drs_left) (plus0 c.snp_left)

-- a message that is taken
pub taken_own : (m : Message) (c : CreditRecord) → took_if true m c ≡ credit_took m c
taken_own (Message.Req ReqOp.MemRd meta snp tag line) c = six _ _ refl (plus0 c.rwd_held) (plus0 c.rsp_held) (plus0 c.ndr_left) (plus0 c.drs_left) (plus0 c.snp_left)
taken_own (Message.Req ReqOp.MemInv meta snp tag line) c = six _ _ refl (plus0 c.rwd_held) (plus0 c.rsp_held) (plus0 c.ndr_left) (plus0 c.drs_left) (plus0 c.snp_left)
taken_own (Message.Req ReqOp.MemClnEvct meta snp tag line) c = six _ _ refl (plus0 c.rwd_held) (plus0 c.rsp_held) (plus0 c.ndr_left) (plus0 c.drs_left) (plus0 c.snp_left)
taken_own (Message.MemWr meta snp tag line bytes) c = six _ _ (plus0 c.req_held) refl (plus0 c.rsp_held) (plus0 c.ndr_left) (plus0 c.drs_left) (plus0 c.snp_left)
taken_own (Message.BiConflict tag) c = six _ _ (plus0 c.req_held) refl (plus0 c.rsp_held) (plus0 c.ndr_left) (plus0 c.drs_left) (plus0 c.snp_left)
taken_own (Message.BiRsp RspOp.I bitag low) c = six _ _ (plus0 c.req_held) (plus0 c.rwd_held) refl (plus0 c.ndr_left) (plus0 c.drs_left) (plus0 c.snp_left)
taken_own (Message.BiRsp RspOp.S bitag low) c = six _ _ (plus0 c.req_held) (plus0 c.rwd_held) refl (plus0 c.ndr_left) (plus0 c.drs_left) (plus0 c.snp_left)
taken_own (Message.BiRsp RspOp.E bitag low) c = six _ _ (plus0 c.req_held) (plus0 c.rwd_held) refl (plus0 c.ndr_left) (plus0 c.drs_left) (plus0 c.snp_left)
taken_own (Message.BiRsp RspOp.IBlk bitag low) c = six _ _ (plus0 c.req_held) (plus0 c.rwd_held) refl (plus0 c.ndr_left) (plus0 c.drs_left) (plus0 c.snp_left)
taken_own (Message.BiRsp RspOp.SBlk bitag low) c = six _ _ (plus0 c.req_held) (plus0 c.rwd_held) refl (plus0 c.ndr_left) (plus0 c.drs_left) (plus0 c.snp_left)
taken_own (Message.BiRsp RspOp.EBlk bitag low) c = six _ _ (plus0 c.req_held) (plus0 c.rwd_held) refl (plus0 c.ndr_left) (plus0 c.drs_left) (plus0 c.snp_left)
taken_own (Message.Ndr NdrOp.Cmp tag) c = six _ _ (plus0 c.req_held) (plus0 c.rwd_held) (plus0 c.rsp_held) (plus0 c.ndr_left) (plus0 c.drs_left) (plus0 c.snp_left)
taken_own (Message.Ndr NdrOp.CmpS tag) c = six _ _ (plus0 c.req_held) (plus0 c.rwd_held) (plus0 c.rsp_held) (plus0 c.ndr_left) (plus0 c.drs_left) (plus0 c.snp_left)
taken_own (Message.Ndr NdrOp.CmpE tag) c = six _ _ (plus0 c.req_held) (plus0 c.rwd_held) (plus0 c.rsp_held) (plus0 c.ndr_left) (plus0 c.drs_left) (plus0 c.snp_left)
taken_own (Message.Ndr NdrOp.ConflictAck tag) c = six _ _ (plus0 c.req_held) (plus0 c.rwd_held) (plus0 c.rsp_held) (plus0 c.ndr_left) (plus0 c.drs_left) (plus0 c.snp_left)
taken_own (Message.MemData tag bytes) c = six _ _ (plus0 c.req_held) (plus0 c.rwd_held) (plus0 c.rsp_held) (plus0 c.ndr_left) (plus0 c.drs_left) (plus0 c.snp_left)
taken_own (Message.BiSnp SnpOp.Cur bitag line span) c = six _ _ (plus0 c.req_held) (plus0 c.rwd_held) (plus0 c.rsp_held) (plus0 c.ndr_left) (plus0 c.drs_left) (plus0 c.snp_left)
taken_own (Message.BiSnp SnpOp.Dat bitag line span) c = six _ _ (plus0 c.req_held) (plus0 c.rwd_held) (plus0 c.rsp_held) (plus0 c.ndr_left) (plus0 c.drs_left) (plus0 c.snp_left)
taken_own (Message.BiSnp SnpOp.Inv bitag line span) c = six _ _ (plus0 c.req_held) (plus0 c.rwd_held) (plus0 c.rsp_held) (plus0 c.ndr_left) (plus0 c.drs_left) (plus0 c.snp_left)
taken_own (Message.BiSnp SnpOp.CurBlk bitag line span) c = six _ _ (plus0 c.req_held) (plus0 c.rwd_held) (plus0 c.rsp_held) (plus0 c.ndr_left) (plus0 c.drs_left) (plus0 c.snp_left)
taken_own (Message.BiSnp SnpOp.DatBlk bitag line span) c = six _ _ (plus0 c.req_held) (plus0 c.rwd_held) (plus0 c.rsp_held) (plus0 c.ndr_left) (plus0 c.drs_left) (plus0 c.snp_left)
taken_own (Message.BiSnp SnpOp.InvBlk bitag line span) c = six _ _ (plus0 c.req_held) (plus0 c.rwd_held) (plus0 c.rsp_held) (plus0 c.ndr_left) (plus0 c.drs_left) (plus0 c.snp_left)
taken_own (Message.Credit d) c = credit_own d c

-- a Credit that is sent lowers what is held of its channel
return_own : (d : Channel) (c : CreditRecord) → paid_if true (Message.Credit d) c ≡ credit_sent (Message.Credit d) c
return_own Channel.Req c = six _ _ refl (less0 c.rwd_held) (less0 c.rsp_held) (less0 c.ndr_left) (less0 c.drs_left) (less0 c.snp_left)
return_own Channel.Rwd c = six _ _ (less0 c.req_held) refl (less0 c.rsp_held) (less0 c.ndr_left) (less0 c.drs_left) (less0 c.snp_left)
return_own Channel.BiRsp c = six _ _ (less0 c.req_held) (less0 c.rwd_held) refl (less0 c.ndr_left) (less0 c.drs_left) (less0 c.snp_left)
return_own Channel.Ndr c = six _ _ (less0 c.req_held) (less0 c.rwd_held) (less0 c.rsp_held) (less0 c.ndr_left) (less0 c.drs_left) (less0 c.snp_left)
return_own Channel.Drs c = six _ _ (less0 c.req_held) (less0 c.rwd_held) (less0 c.rsp_held) (less0 c.ndr_left) (less0 c.drs_left) (less0 c.snp_left)
return_own Channel.BiSnp c = six _ _ (less0 c.req_held) (less0 c.rwd_held) (less0 c.rsp_held) (less0 c.ndr_left) (less0 c.drs_left) (less0 c.snp_left)
return_own Channel.CreditUp c = six _ _ (less0 c.req_held) (less0 c.rwd_held) (less0 c.rsp_held) (less0 c.ndr_left) (less0 c.drs_left) (less0 c.snp_left)
return_own Channel.CreditDown c = six _ _ (less0 c.req_held) (less0 c.rwd_held) (less0 c.rsp_held) (less0 c.ndr_left) (less0 c.drs_left) (less0 c.snp_left)

-- a message that is sent
pub sent_own : (m : Message) (c : CreditRecord) → paid_if true m c ≡ credit_sent m c
sent_own (Message.Req ReqOp.MemRd meta snp tag line) c = six _ _ (less0 c.req_held) (less0 c.rwd_held) (less0 c.rsp_held) (less0 c.ndr_left) (less0 c.drs_left) (less0 c.snp_left)
sent_own (Message.Req ReqOp.MemInv meta snp tag line) c = six _ _ (less0 c.req_held) (less0 c.rwd_held) (less0 c.rsp_held) (less0 c.ndr_left) (less0 c.drs_left) (less0 c.snp_left)
sent_own (Message.Req ReqOp.MemClnEvct meta snp tag line) c = six _ _ (less0 c.req_held) (less0 c.rwd_held) (less0 c.rsp_held) (less0 c.ndr_left) (less0 c.drs_left) (less0 c.snp_left)
sent_own (Message.MemWr meta snp tag line bytes) c = six _ _ (less0 c.req_held) (less0 c.rwd_held) (less0 c.rsp_held) (less0 c.ndr_left) (less0 c.drs_left) (less0 c.snp_left)
sent_own (Message.BiConflict tag) c = six _ _ (less0 c.req_held) (less0 c.rwd_held) (less0 c.rsp_held) (less0 c.ndr_left) (less0 c.drs_left) (less0 c.snp_left)
sent_own (Message.BiRsp RspOp.I bitag low) c = six _ _ (less0 c.req_held) (less0 c.rwd_held) (less0 c.rsp_held) (less0 c.ndr_left) (less0 c.drs_left) (less0 c.snp_left)
sent_own (Message.BiRsp RspOp.S bitag low) c = six _ _ (less0 c.req_held) (less0 c.rwd_held) (less0 c.rsp_held) (less0 c.ndr_left) (less0 c.drs_left) (less0 c.snp_left)
sent_own (Message.BiRsp RspOp.E bitag low) c = six _ _ (less0 c.req_held) (less0 c.rwd_held) (less0 c.rsp_held) (less0 c.ndr_left) (less0 c.drs_left) (less0 c.snp_left)
sent_own (Message.BiRsp RspOp.IBlk bitag low) c = six _ _ (less0 c.req_held) (less0 c.rwd_held) (less0 c.rsp_held) (less0 c.ndr_left) (less0 c.drs_left) (less0 c.snp_left)
sent_own (Message.BiRsp RspOp.SBlk bitag low) c = six _ _ (less0 c.req_held) (less0 c.rwd_held) (less0 c.rsp_held) (less0 c.ndr_left) (less0 c.drs_left) (less0 c.snp_left)
sent_own (Message.BiRsp RspOp.EBlk bitag low) c = six _ _ (less0 c.req_held) (less0 c.rwd_held) (less0 c.rsp_held) (less0 c.ndr_left) (less0 c.drs_left) (less0 c.snp_left)
sent_own (Message.Ndr NdrOp.Cmp tag) c = six _ _ (less0 c.req_held) (less0 c.rwd_held) (less0 c.rsp_held) refl (less0 c.drs_left) (less0 c.snp_left)
sent_own (Message.Ndr NdrOp.CmpS tag) c = six _ _ (less0 c.req_held) (less0 c.rwd_held) (less0 c.rsp_held) refl (less0 c.drs_left) (less0 c.snp_left)
sent_own (Message.Ndr NdrOp.CmpE tag) c = six _ _ (less0 c.req_held) (less0 c.rwd_held) (less0 c.rsp_held) refl (less0 c.drs_left) (less0 c.snp_left)
sent_own (Message.Ndr NdrOp.ConflictAck tag) c = six _ _ (less0 c.req_held) (less0 c.rwd_held) (less0 c.rsp_held) refl (less0 c.drs_left) (less0 c.snp_left)
sent_own (Message.MemData tag bytes) c = six _ _ (less0 c.req_held) (less0 c.rwd_held) (less0 c.rsp_held) (less0 c.ndr_left) refl (less0 c.snp_left)
sent_own (Message.BiSnp SnpOp.Cur bitag line span) c = six _ _ (less0 c.req_held) (less0 c.rwd_held) (less0 c.rsp_held) (less0 c.ndr_left) (less0 c.drs_left) refl
sent_own (Message.BiSnp SnpOp.Dat bitag line span) c = six _ _ (less0 c.req_held) (less0 c.rwd_held) (less0 c.rsp_held) (less0 c.ndr_left) (less0 c.drs_left) refl
sent_own (Message.BiSnp SnpOp.Inv bitag line span) c = six _ _ (less0 c.req_held) (less0 c.rwd_held) (less0 c.rsp_held) (less0 c.ndr_left) (less0 c.drs_left) refl
sent_own (Message.BiSnp SnpOp.CurBlk bitag line span) c = six _ _ (less0 c.req_held) (less0 c.rwd_held) (less0 c.rsp_held) (less0 c.ndr_left) (less0 c.drs_left) refl
sent_own (Message.BiSnp SnpOp.DatBlk bitag line span) c = six _ _ (less0 c.req_held) (less0 c.rwd_held) (less0 c.rsp_held) (less0 c.ndr_left) (less0 c.drs_left) refl
sent_own (Message.BiSnp SnpOp.InvBlk bitag line span) c = six _ _ (less0 c.req_held) (less0 c.rwd_held) (less0 c.rsp_held) (less0 c.ndr_left) (less0 c.drs_left) refl
sent_own (Message.Credit d) c = return_own d c

-- ---- tables

-- what an event takes comes from a host that exists
abbrev pub TakesBelow : ℕ → Cause → Type 0
TakesBelow hosts (Cause.Op _ _ _) = Unit {0}
TakesBelow hosts (Cause.Take k m) = k < hosts
TakesBelow hosts (Cause.Act _) = Unit {0}

abbrev pub SendsBelow : ℕ → Sends → Type 0
SendsBelow hosts Sends.Nothing = Unit {0}
SendsBelow hosts (Sends.One o) = o.host < hosts
SendsBelow hosts (Sends.Two o p) = (o.host < hosts) × (p.host < hosts)

-- the credits after the take of a cause
abbrev pub after_take : Cause → (ℕ → CreditRecord) → ℕ → CreditRecord
after_take (Cause.Op _ _ _) f h = f h
after_take (Cause.Take k m) f h = took_if (k == h) m (f h)
after_take (Cause.Act _) f h = f h

-- and after one message was sent
abbrev pub after_out : Out → (ℕ → CreditRecord) → ℕ → CreditRecord
after_out o f h = paid_if (o.host == h) o.message (f h)

-- the table after a take
take_table : (hosts : ℕ) (cause : Cause) (f : ℕ → CreditRecord) → TakesBelow hosts cause → map (after_take cause f) (below hosts) ≡ credits_took cause (map f (below hosts))
take_table hosts (Cause.Op s i op) f low = refl
take_table hosts (Cause.Take k m) f low =
    sym (change_table f (after_take (Cause.Take k m) f) hosts k (credit_took m) low
    (ap (λ b. took_if b m (f k)) (eq-eqb k k refl) ∙ taken_own m (f k))
    (λ j other less. not_taken m (f j) ∙ ap (λ b. took_if b m (f j)) (sym (ne_eqb k j (λ same. other (sym same))))))
take_table hosts (Cause.Act act) f low = refl

-- and after a message was sent
out_table : (hosts : ℕ) (o : Out) (f : ℕ → CreditRecord) → o.host < hosts → map (after_out o f) (below hosts) ≡ out_paid o (map f (below hosts))
out_table hosts o f low =
    sym (change_table f (after_out o f) hosts o.host (credit_sent o.message) low
    (ap (λ b. paid_if b o.message (f o.host)) (eq-eqb o.host o.host refl) ∙ sent_own o.message (f o.host))
    (λ j other less. not_sent o.message (f j) ∙ ap (λ b. paid_if b o.message (f j)) (sym (ne_eqb o.host j (λ same. other (sym same))))))

-- ---- counts

one_len : {X : Type 0} (b : Bool) (x : X) → length (cond b (x ∷ []) []) ≡ one_or b
one_len true x = refl
one_len false x = refl

two_len : {X : Type 0} (b c : Bool) (x y : X) → length (cond b (x ∷ cond c (y ∷ []) []) (cond c (y ∷ []) [])) ≡ one_or b + one_or c
two_len true true x y = refl
two_len true false x y = refl
two_len false true x y = refl
two_len false false x y = refl

some_len : (b : Bool) (m : Message) → option_len (cond b (Some m) None) ≡ one_or b
some_len true m = refl
some_len false m = refl

-- how many messages of a channel a cause takes, and how many Credits
abbrev taken_by : ℕ → Channel → Cause → ℕ
taken_by h c cause = option_len (takes_on h c cause)

abbrev earned_by : ℕ → Channel → Cause → ℕ
earned_by h c cause = cond (takes_credit h c cause) 1 0

-- the credits after the take, by counts
abbrev pub by_take : Configuration → List Event → Cause → ℕ → CreditRecord
by_take setup past cause h =
    record {
      req_held = held_count h Channel.Req past + taken_by h Channel.Req cause;
      rwd_held = held_count h Channel.Rwd past + taken_by h Channel.Rwd cause;
      rsp_held = held_count h Channel.BiRsp past + taken_by h Channel.BiRsp cause;
      ndr_left = credits_left setup h Channel.Ndr past + earned_by h Channel.Ndr cause;
      drs_left = credits_left setup h Channel.Drs past + earned_by h Channel.Drs cause;
      snp_left = credits_left setup h Channel.BiSnp past + earned_by h Channel.BiSnp cause;
    }

by_take_is : (setup : Configuration) (past : List Event) (cause : Cause) (h : ℕ) → by_take setup past cause h ≡ after_take cause (kept_credits setup past) h
by_take_is setup past (Cause.Op s i op) h = six _ _ (plus0 _) (plus0 _) (plus0 _) (plus0 _) (plus0 _) (plus0 _)
by_take_is setup past (Cause.Take k m) h =
    six _ _ (ap (λ n. held_count h Channel.Req past + n) (some_len ((k == h) && channel_eq (channel_of m) Channel.Req) m))
    (ap (λ n. held_count h Channel.Rwd past + n) (some_len ((k == h) && channel_eq (channel_of m) Channel.Rwd) m))
    (ap (λ n. held_count h Channel.BiRsp past + n) (some_len ((k == h) && channel_eq (channel_of m) Channel.BiRsp) m)) refl refl refl
by_take_is setup past (Cause.Act act) h = six _ _ (plus0 _) (plus0 _) (plus0 _) (plus0 _) (plus0 _) (plus0 _)

-- the credits after the event, by counts
abbrev pub by_sends : Sends → (ℕ → CreditRecord) → ℕ → CreditRecord
by_sends sends f h =
    record {
      req_held = (f h).req_held - length (filter (is_credit_for h Channel.Req) (outs sends));
      rwd_held = (f h).rwd_held - length (filter (is_credit_for h Channel.Rwd) (outs sends));
      rsp_held = (f h).rsp_held - length (filter (is_credit_for h Channel.BiRsp) (outs sends));
      ndr_left = (f h).ndr_left - count_on h Channel.Ndr (outs sends);
      drs_left = (f h).drs_left - count_on h Channel.Drs (outs sends);
      snp_left = (f h).snp_left - count_on h Channel.BiSnp (outs sends);
    }

less_by : (n : ℕ) (b : Bool) (o : Out) → n - length (cond b (o ∷ []) []) ≡ n - one_or b
less_by n b o = ap (λ k. n - k) (one_len b o)

minus_two : (n a b : ℕ) → n - (a + b) ≡ (n - a) - b
minus_two n a b = omega arith

less_two : (n : ℕ) (b c : Bool) (o p : Out) → n - length (cond b (o ∷ cond c (p ∷ []) []) (cond c (p ∷ []) [])) ≡ (n - one_or b) - one_or c
less_two n b c o p = ap (λ k. n - k) (two_len b c o p) ∙ minus_two n (one_or b) (one_or c)

-- the credits after the sends of an event
abbrev pub after_sends : Sends → (ℕ → CreditRecord) → ℕ → CreditRecord
after_sends Sends.Nothing f h = f h
after_sends (Sends.One o) f h = after_out o f h
after_sends (Sends.Two o p) f h = after_out p (after_out o f) h

by_sends_is : (sends : Sends) (f : ℕ → CreditRecord) (h : ℕ) → by_sends sends f h ≡ after_sends sends f h
by_sends_is Sends.Nothing f h = six _ _ (less0 _) (less0 _) (less0 _) (less0 _) (less0 _) (less0 _)
by_sends_is (Sends.One o) f h =
    six _ _ (less_by _ (is_credit_for h Channel.Req o) o) (less_by _ (is_credit_for h Channel.Rwd o) o) (less_by _ (is_credit_for h Channel.BiRsp o) o)
    (less_by _ (is_on h Channel.Ndr o) o) (less_by _ (is_on h Channel.Drs o) o) (less_by _ (is_on h Channel.BiSnp o) o)
by_sends_is (Sends.Two o p) f h =
    six _ _ (less_two _ (is_credit_for h Channel.Req o) (is_credit_for h Channel.Req p) o p) (less_two _ (is_credit_for h Channel.Rwd o) (is_credit_for h Channel.Rwd p) o p)
    (less_two _ (is_credit_for h Channel.BiRsp o) (is_credit_for h Channel.BiRsp p) o p)
    (less_two _ (is_on h Channel.Ndr o) (is_on h Channel.Ndr p) o p) (less_two _ (is_on h Channel.Drs o) (is_on h Channel.Drs p) o p)
    (less_two _ (is_on h Channel.BiSnp o) (is_on h Channel.BiSnp p) o p)

-- the table after the sends
sends_table : (hosts : ℕ) (sends : Sends) (f : ℕ → CreditRecord) → SendsBelow hosts sends → map (after_sends sends f) (below hosts) ≡ credits_paid sends (map f (below hosts))
sends_table hosts Sends.Nothing f low = refl
sends_table hosts (Sends.One o) f low = out_table hosts o f low
sends_table hosts (Sends.Two o p) f low = out_table hosts p (after_out o f) low.1 ∙ ap (out_paid p) (out_table hosts o f low.0)

-- held: what is taken and not given back
held_step : (h : ℕ) (c : Channel) (e : Event) (past : List Event) → returned_count h c past ≤ taken_count h c past
    → held_count h c (e ∷ past) ≡ (held_count h c past + taken_by h c e.cause) - length (filter (is_credit_for h c) (outs e.sends))
held_step h c e past within = omega arith

left_step : (setup : Configuration) (h : ℕ) (c : Channel) (e : Event) (past : List Event) → sent_count h c past ≤ setup.credits + earned_count h c past
    → credits_left setup h c (e ∷ past) ≡ (credits_left setup h c past + earned_by h c e.cause) - count_on h c (outs e.sends)
left_step setup h c e past within = let counted = sends_counted h c e in omega arith

returned_fewer : (setup : Configuration) (opening : List (Line × Bytes64)) (h : ℕ) (c : Channel) → goes_to_device c ≡ true → (mine : List Event) → IsOwnRun setup opening device mine → returned_count h c mine ≤ taken_count h c mine
returned_fewer setup opening h c up mine list = let held = returned_within setup opening h c up mine list in omega arith

-- the credits of a host after an event
credits_step : (setup : Configuration) (opening : List (Line × Bytes64)) (e : Event) (past : List Event) → IsOwnRun setup opening device past → (h : ℕ)
    → kept_credits setup (e ∷ past) h ≡ after_sends e.sends (after_take e.cause (kept_credits setup past)) h
credits_step setup opening e past list h =
    six (kept_credits setup (e ∷ past) h) (by_sends e.sends (by_take setup past e.cause) h)
    (held_step h Channel.Req e past (returned_fewer setup opening h Channel.Req refl past list)) (held_step h Channel.Rwd e past (returned_fewer setup opening h Channel.Rwd refl past list))
    (held_step h Channel.BiRsp e past (returned_fewer setup opening h Channel.BiRsp refl past list))
    (left_step setup h Channel.Ndr e past (sent_within setup opening h Channel.Ndr refl past list)) (left_step setup h Channel.Drs e past (sent_within setup opening h Channel.Drs refl past list))
    (left_step setup h Channel.BiSnp e past (sent_within setup opening h Channel.BiSnp refl past list))
    ∙ by_sends_is e.sends (by_take setup past e.cause) h
    ∙ ap (λ (f : ℕ → CreditRecord). after_sends e.sends f h) (λ i k. by_take_is setup past e.cause k i)

-- ---- hosts that exist

takes_below : (setup : Configuration) (cause : Cause) → cause_fits setup device cause ≡ true → TakesBelow setup.hosts cause
takes_below setup (Cause.Op s i op) fits = tt
takes_below setup (Cause.Take k m) fits = ltb-true k setup.hosts (and_parts _ _ (and_parts _ _ (and_parts _ _ (and_parts _ _ fits).0).0).0).0
takes_below setup (Cause.Act act) fits = tt

out_below : (setup : Configuration) (g : ℕ) (o : Out) → out_fits setup g o ≡ true → o.host < setup.hosts
out_below setup g o fits = ltb-true o.host setup.hosts (and_parts _ _ (and_parts _ _ (and_parts _ _ (and_parts _ _ fits).0).0).0).0

sends_below : (setup : Configuration) (g : ℕ) (sends : Sends) → list_all (out_fits setup g) (outs sends) ≡ true → SendsBelow setup.hosts sends
sends_below setup g Sends.Nothing fits = tt
sends_below setup g (Sends.One o) fits = out_below setup g o (and_parts _ _ fits).0
sends_below setup g (Sends.Two o p) fits = let parts = and_parts _ _ fits in (out_below setup g o parts.0, out_below setup g p (and_parts _ _ parts.1).0)

-- ---- all of them

-- the credits follow
pub credits_follow : (setup : Configuration) (opening : List (Line × Bytes64)) (e : Event) (past : List Event) → IsOwnRun setup opening device (e ∷ past)
    → map (kept_credits setup (e ∷ past)) (below setup.hosts) ≡ credits_in e.cause e.sends (map (kept_credits setup past) (below setup.hosts))
credits_follow setup opening e past list =
    let parts = step_of_list setup opening e past list in
    let cause = takes_below setup e.cause (fits_device setup opening e past parts.1) in
    let sends = sends_below setup e.agent e.sends parts.1.profile.sends in
    same_table (kept_credits setup (e ∷ past)) (after_sends e.sends (after_take e.cause (kept_credits setup past))) setup.hosts (λ h low. credits_step setup opening e past parts.0 h)
    ∙ sends_table setup.hosts e.sends (after_take e.cause (kept_credits setup past)) sends
    ∙ ap (credits_paid e.sends) (take_table setup.hosts e.cause (kept_credits setup past) cause)
