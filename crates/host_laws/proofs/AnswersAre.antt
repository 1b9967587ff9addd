-- A host's answers and acts by its record are the model's, after each list that its own half allows.
use Rattle.std.proofs.Common.{Bool, IsTrue, List, None, Option, Some, ap, cond, false, refl, subst, sym, true, ℕ, ◌-◌, ◌∙◌, ◌≡◌}
use Rattle.std.proofs.lemmas.Bool.{and_parts, false≢true}
use Rattle.std.proofs.lemmas.Option.{none-some}
use Rattle.std.specs.Prelude.{nat_lt, not, ◌&&◌}
use Rattle.cxl_message.specs.declared.channels.Channel.{Channel}
use Rattle.cxl_message.specs.declared.events.Act.{Act}
use Rattle.cxl_message.specs.declared.events.Cause.{Cause}
use Rattle.cxl_message.specs.declared.events.Event.{Event}
use Rattle.cxl_message.specs.declared.events.Op.{Op}
use Rattle.cxl_message.specs.declared.events.Out.{Out}
use Rattle.cxl_message.specs.declared.events.Sends.{Sends}
use Rattle.cxl_message.specs.declared.identifiers.Bytes64.{Bytes64}
use Rattle.cxl_message.specs.declared.messages.Message.{Message}
use Rattle.cxl_message.specs.declared.states.RuleNo.{RuleNo}
use Rattle.cxl_message.specs.Channels.{credit_channel, goes_to_device, has_credits}
use Rattle.cxl_message.specs.Events.{line_of}
use Rattle.cxl_message.specs.Messages.{channel_of}
use Rattle.cxl_message.specs.Setup.{Configuration}
use Rattle.coherence_model.specs.Cache.{copy, is_modified}
use Rattle.coherence_model.specs.Credits.{channel_short_of, credits_left, credits_needed, lacking_channel}
use Rattle.coherence_model.specs.Emission.{Emission, one_send}
use Rattle.coherence_model.specs.Fitting.{cause_fits, is_device}
use Rattle.coherence_model.specs.HostActs.{host_acts, host_returns, response_for, write_back_message}
use Rattle.coherence_model.specs.HostOperations.{host_operates, request_message}
use Rattle.coherence_model.specs.HostRows.{host_act_rule, host_emission, host_take_rule}
use Rattle.coherence_model.specs.Refusals.{Answer, answer_to_operation, answer_to_row, cause_passes, host_answer, is_short_of_tags, is_short_of_ways, profile_then_order, unless_lacking}
use Rattle.coherence_lemmas.proofs.HostActs.{h7_conflict-inv, h8_write_back-inv, h9_answer-inv, h9_answer_block-inv, h10_return-inv}
use Rattle.coherence_lemmas.proofs.TakesSendNothing.{host_takes_silent}
use Rattle.coherence_lemmas.proofs.Rows.{host_take-inv}
use Rattle.request_laws.proofs.HostOperations.{Evicts, Hits, Operated, Requests, eviction_with, operated}
use Rattle.host_laws.proofs.Keeps.{Keeps}
use Rattle.host_laws.proofs.Lookups.{view_is}
use Rattle.host_laws.proofs.Ranges.{Ranges}
use Rattle.host_laws.proofs.ViewsAreModel.{OwesHeld, act_is, take_is}
use Rattle.host_record.specs.Stands.{answer_in, kept_host}
use Rattle.host_record.specs.View.{left_of, view_of}
use Rattle.host_record.specs.ViewAnswers.{answers_by, lacking_by, operation_or, row_or, short_of}
use Rattle.host_record.specs.ViewRows.{emission_by}
use Rattle.cxl_message.specs.declared.opcodes.RspOp.{RspOp}
use Rattle.std.specs.Option.{option_or}
use Rattle.coherence_model.specs.Rules.{s0_stream_order}
use Rattle.coherence_model.specs.Snoops.{is_quiet}

-- a message that a host sends: from its own number, and to the device
pub record FromHost (h : ℕ) (o : Out) : Type 0 where
  pub host : o.host ≡ h
  pub up : goes_to_device (channel_of o.message) ≡ true

abbrev pub AllFromHost : ℕ → Sends → Type 0
AllFromHost h Sends.Nothing = Unit {0}
AllFromHost h (Sends.One o) = FromHost h o
AllFromHost h (Sends.Two o p) = FromHost h o × FromHost h p

left_is : (setup : Configuration) (h g : ℕ) (c : Channel) (n : ℕ) (mine : List Event) → g ≡ h → goes_to_device c ≡ true
    → cond (has_credits c && nat_lt (left_of (view_of setup h mine) c) n) (Some c) None
    ≡ cond (has_credits c && nat_lt (credits_left setup g c mine) n) (Some c) None
left_is setup h g Channel.Req n mine same up = ap (λ k. cond (true && nat_lt (credits_left setup k Channel.Req mine) n) (Some Channel.Req) None) (sym same)
left_is setup h g Channel.Rwd n mine same up = ap (λ k. cond (true && nat_lt (credits_left setup k Channel.Rwd mine) n) (Some Channel.Rwd) None) (sym same)
left_is setup h g Channel.BiRsp n mine same up = ap (λ k. cond (true && nat_lt (credits_left setup k Channel.BiRsp mine) n) (Some Channel.BiRsp) None) (sym same)
left_is setup h g Channel.Ndr n mine same up = absurd (false≢true up)
left_is setup h g Channel.Drs n mine same up = absurd (false≢true up)
left_is setup h g Channel.BiSnp n mine same up = absurd (false≢true up)
left_is setup h g Channel.CreditUp n mine same up = refl
left_is setup h g Channel.CreditDown n mine same up = refl

pub lacking_is : (setup : Configuration) (h : ℕ) (mine : List Event) (sends : Sends) → AllFromHost h sends → lacking_by (view_of setup h mine) sends ≡ lacking_channel setup sends mine
lacking_is setup h mine Sends.Nothing from = refl
lacking_is setup h mine (Sends.One o) from = left_is setup h o.host (channel_of o.message) 1 mine from.host from.up
lacking_is setup h mine (Sends.Two o p) from =
    ap (λ x. option_or x (short_of (view_of setup h mine) 1 p)) (left_is setup h o.host (channel_of o.message) (credits_needed o p) mine from.0.host from.0.up)
    ∙ ap (option_or (channel_short_of setup (credits_needed o p) o mine)) (left_is setup h p.host (channel_of p.message) 1 mine from.1.host from.1.up)

-- what a host's rows emit is sent by the host

request_up : (op : Op) (tag : ℕ) → goes_to_device (channel_of (request_message op tag)) ≡ true
request_up (Op.Load line) tag = refl
request_up (Op.Word line place value) tag = refl
request_up (Op.Whole line bytes) tag = refl

evict_up : (m : Bool) (bytes : Bytes64) (v t : ℕ) → goes_to_device (channel_of (eviction_with m bytes v t)) ≡ true
evict_up true bytes v t = refl
evict_up false bytes v t = refl

operated_from : (setup : Configuration) (h : ℕ) (op : Op) (mine : List Event) (sends : Sends) → Operated setup h op mine sends → AllFromHost h sends
operated_from setup h op mine sends (Hits none) = subst (AllFromHost h) (sym none) tt
operated_from setup h op mine sends (Requests one) = subst (AllFromHost h) (sym one.sent) (record { host = refl; up = request_up op one.t })
operated_from setup h op mine sends (Evicts two) =
    subst (AllFromHost h) (sym two.sent) (record { host = refl; up = evict_up (is_modified setup two.v mine) (copy setup two.v mine).bytes two.v two.t }, record { host = refl; up = request_up op two.u })

sent_from : (h : ℕ) (m : Message) (w : Emission) → w ≡ one_send h m → goes_to_device (channel_of m) ≡ true → AllFromHost h w.sends
sent_from h m w is up = subst (λ (x : Emission). AllFromHost h x.sends) (sym is) (record { host = refl; up = up })

return_up : (c : Channel) → host_returns c ≡ true → goes_to_device (credit_channel c) ≡ true
return_up Channel.Req r = absurd (false≢true r)
return_up Channel.Rwd r = absurd (false≢true r)
return_up Channel.BiRsp r = absurd (false≢true r)
return_up Channel.Ndr r = refl
return_up Channel.Drs r = refl
return_up Channel.BiSnp r = refl
return_up Channel.CreditUp r = absurd (false≢true r)
return_up Channel.CreditDown r = absurd (false≢true r)

pub act_from : (setup : Configuration) (h : ℕ) (act : Act) (mine : List Event) (w : Emission) → host_acts setup h act mine ≡ Some w → AllFromHost h w.sends
act_from setup h (Act.Conflict line) mine w row = let does = h7_conflict-inv setup h line.0 mine _ w row in sent_from h (Message.BiConflict (record { 0 = does.o.tag })) w does.emits refl
act_from setup h (Act.WriteBack line) mine w row =
    let does = h8_write_back-inv setup h line.0 mine _ w row in sent_from h (write_back_message setup does.s.op line.0 mine) w does.emits refl
act_from setup h (Act.Answer line) mine w row =
    let does = h9_answer-inv setup h line.0 mine _ w row in
    sent_from h (Message.BiRsp (response_for setup does.s.op line.0 mine) (record { 0 = does.s.first }) (line.0 - does.s.first)) w does.emits refl
act_from setup h (Act.AnswerBlock line) mine w row =
    let does = h9_answer_block-inv setup h line.0 mine w row in sent_from h (Message.BiRsp RspOp.IBlk (record { 0 = line.0 }) 0) w does.emits refl
act_from setup h (Act.HostReturn c) mine w row = let does = h10_return-inv h c mine w row in sent_from h (Message.Credit c) w does.emits (return_up c does.returns)
act_from setup h (Act.Serve host tag) mine w row = absurd (none-some w row)
act_from setup h (Act.Clean host tag) mine w row = absurd (none-some w row)
act_from setup h (Act.Start host tag) mine w row = absurd (none-some w row)
act_from setup h (Act.Evict host tag) mine w row = absurd (none-some w row)
act_from setup h (Act.Snoop host line) mine w row = absurd (none-some w row)
act_from setup h (Act.Finish line) mine w row = absurd (none-some w row)
act_from setup h (Act.DeviceReturn host c) mine w row = absurd (none-some w row)

take_from : (setup : Configuration) (h g : ℕ) (m : Message) (mine : List Event) (w : Emission) → host_emission setup h (Cause.Take g m) mine ≡ Some w → AllFromHost h w.sends
take_from setup h g m mine w row = subst (AllFromHost h) (sym (host_takes_silent setup h m mine w (host_take-inv setup h g m mine w row).same)) tt

-- answers

row_or_is : (setup : Configuration) (h : ℕ) (mine : List Event) (rule : RuleNo) (x : Option Emission) → ((w : Emission) → x ≡ Some w → AllFromHost h w.sends) → row_or rule (view_of setup h mine) x ≡ answer_to_row setup rule mine x
row_or_is setup h mine rule None from = refl
row_or_is setup h mine rule (Some w) from = ap (λ l. unless_lacking l (Answer.Emits w)) (lacking_is setup h mine w.sends (from w refl))

operation_or_is : (setup : Configuration) (h s i : ℕ) (op : Op) (mine : List Event) (x : Option Emission) → ((w : Emission) → x ≡ Some w → AllFromHost h w.sends)
    → operation_or setup h s i op (view_of setup h mine) x ≡ answer_to_operation setup h (Cause.Op s i op) mine x
operation_or_is setup h s i op mine None from = refl
operation_or_is setup h s i op mine (Some w) from =
    ap (λ l. unless_lacking l (profile_then_order (cause_passes setup h (Cause.Op s i op)) (s0_stream_order (Cause.Op s i op) mine) w)) (lacking_is setup h mine w.sends (from w refl))

pub goes_to_host_by : (setup : Configuration) (h g : ℕ) (m : Message) → is_device h ≡ false → IsTrue (cause_fits setup h (Cause.Take g m)) → goes_to_device (channel_of m) ≡ false
goes_to_host_by setup h g m host fits =
    let right = (and_parts _ _ (and_parts _ _ (and_parts _ _ fits).0).0).1 in
    not_up (goes_to_device (channel_of m)) (ap (λ b. cond b (goes_to_device (channel_of m)) (not (goes_to_device (channel_of m)))) (sym host) ∙ right)
  where
    not_up : (b : Bool) → not b ≡ true → b ≡ false
    not_up true h = sym h
    not_up false h = refl

goes_to_host : (setup : Configuration) (h g : ℕ) (m : Message) → is_device h ≡ false → cause_passes setup h (Cause.Take g m) ≡ true → goes_to_device (channel_of m) ≡ false
goes_to_host setup h g m host passes = goes_to_host_by setup h g m host (and_parts _ _ passes).1

take_answer : (setup : Configuration) (h g : ℕ) (m : Message) (mine : List Event) → is_device h ≡ false → OwesHeld h mine → (passes : Bool) → cause_passes setup h (Cause.Take g m) ≡ passes
    → cond passes (row_or (host_take_rule m) (view_of setup h mine) (emission_by setup h (Cause.Take g m) (view_of setup h mine))) (Answer.Broken RuleNo.P0)
    ≡ cond passes (answer_to_row setup (host_take_rule m) mine (host_emission setup h (Cause.Take g m) mine)) (Answer.Broken RuleNo.P0)
take_answer setup h g m mine host held true passes =
    ap (row_or (host_take_rule m) (view_of setup h mine)) (take_is setup h g m mine held (goes_to_host setup h g m host passes))
    ∙ row_or_is setup h mine (host_take_rule m) (host_emission setup h (Cause.Take g m) mine) (take_from setup h g m mine)
take_answer setup h g m mine host held false passes = refl

-- the view's answer is the model's
pub answer_is : (setup : Configuration) (h : ℕ) (cause : Cause) (mine : List Event) → is_device h ≡ false → OwesHeld h mine → answers_by setup h cause (view_of setup h mine) ≡ host_answer setup h cause mine
answer_is setup h (Cause.Op s i op) mine host held =
    ap (λ x. cond (not (nat_lt (line_of op) setup.lines)) Answer.NoSuchLine
    (cond (not (is_quiet (line_of op) mine)) Answer.Again
    (cond (is_short_of_tags setup op mine) Answer.NoTag
    (cond (is_short_of_ways setup op mine) Answer.NoWay x))))
    (operation_or_is setup h s i op mine (host_operates setup h s i op mine) (λ w row. operated_from setup h op mine w.sends (operated setup h s i op mine w row)))
answer_is setup h (Cause.Take g m) mine host held = take_answer setup h g m mine host held (cause_passes setup h (Cause.Take g m)) refl
answer_is setup h (Cause.Act act) mine host held =
    ap (λ x. cond (cause_passes setup h (Cause.Act act)) x (Answer.Broken RuleNo.P0))
    (ap (row_or (host_act_rule act) (view_of setup h mine)) (act_is setup h act mine)
    ∙ row_or_is setup h mine (host_act_rule act) (host_acts setup h act mine) (act_from setup h act mine))

-- the record's answer is the model's
pub host_answers_is : (setup : Configuration) (h : ℕ) (cause : Cause) (mine : List Event) → is_device h ≡ false → Keeps setup mine → Ranges setup mine → OwesHeld h mine → answer_in setup h cause (kept_host setup h mine) ≡ host_answer setup h cause mine
host_answers_is setup h cause mine host k r held = ap (answers_by setup h cause) (view_is setup h mine k r) ∙ answer_is setup h cause mine host held
