-- The device's answer by what is kept is its answer by its events: P0, the row, then the credits.
use Rattle.std.proofs.Common.{◌≡◌, ℕ, ◌<◌, Bool, true, false, List, Option, Some, None, cond, map, refl, ap, sym, ◌∙◌, subst}
use Rattle.std.specs.Prelude.{is_none, nat_lt, option_and_then, ◌&&◌}
use Rattle.std.specs.Option.{option_or}
use Rattle.std.proofs.lemmas.Bool.{and_parts, false≢true, ltb-true}
use Rattle.std.proofs.lemmas.Option.{none-some}
use Rattle.cxl_message.specs.declared.channels.Channel.{Channel}
use Rattle.cxl_message.specs.declared.events.Act.{Act}
use Rattle.cxl_message.specs.declared.events.Cause.{Cause}
use Rattle.cxl_message.specs.declared.events.Event.{Event}
use Rattle.cxl_message.specs.declared.events.Out.{Out}
use Rattle.cxl_message.specs.declared.events.Sends.{Sends}
use Rattle.cxl_message.specs.declared.identifiers.Bytes64.{Bytes64}
use Rattle.cxl_message.specs.declared.identifiers.Line.{Line}
use Rattle.cxl_message.specs.declared.messages.Message.{Message}
use Rattle.cxl_message.specs.declared.opcodes.NdrOp.{NdrOp}
use Rattle.cxl_message.specs.declared.states.RuleNo.{RuleNo}
use Rattle.cxl_message.specs.Channels.{credit_channel, goes_to_device}
use Rattle.cxl_message.specs.Lists.{below}
use Rattle.cxl_message.specs.Messages.{channel_of}
use Rattle.cxl_message.specs.Setup.{Configuration}
use Rattle.coherence_model.specs.Buffers.{buffered_writes, message_with}
use Rattle.coherence_model.specs.Credits.{channel_short_of, credits_left, credits_needed, has_room, lacking_channel}
use Rattle.coherence_model.specs.DeviceActs.{buffered_request, device_acts, device_returns, finish_emission, served_by}
use Rattle.coherence_model.specs.DeviceRows.{device_emission, device_rule}
use Rattle.coherence_model.specs.DeviceTakes.{device_takes}
use Rattle.coherence_model.specs.DirectoryChanges.{directory}
use Rattle.coherence_model.specs.Emission.{Emission, nothing}
use Rattle.coherence_model.specs.Fitting.{cause_fits}
use Rattle.coherence_model.specs.Refusals.{Answer, answer_to_row, cause_passes, device_answer, unless_lacking}
use Rattle.coherence_model.specs.Rows.{emission, if_paid}
use Rattle.coherence_model.specs.Tasks.{Purpose}
use Rattle.coherence_model.specs.Traces.{device}
use Rattle.coherence_model.specs.Words.{when}
use Rattle.coherence_lemmas.proofs.DeviceActs.{v3_serve-inv, v4_clean-inv, v5_start-inv, v6_evict-inv, v7_snoop-inv, v8_finish-inv, v9_return-inv}
use Rattle.coherence_lemmas.proofs.Options.{if_some}
use Rattle.coherence_lemmas.proofs.TakesSendNothing.{device_takes_silent}
use Rattle.device_record.specs.Answers.{answer_by, answer_in, emission_in, lacking_in, row_in, short_in}
use Rattle.device_record.specs.Kept.{kept_credits, kept_device}
use Rattle.coherence_model.specs.OwnRuns.{IsOwnRun}
use Rattle.device_record.specs.Record.{CreditRecord, credits_at, left_on}
use Rattle.device_laws.proofs.AnswerActs.{act_row_is}
use Rattle.device_laws.proofs.AnswerTakes.{credits_are, no_limit, take_row_is}
use Rattle.device_laws.proofs.Buffers.{act_host}
use Rattle.device_laws.proofs.OwnFacts.{device_list}
use Rattle.device_laws.proofs.DeviceRuns.{DeviceRun, tasks_are_shaped}

-- ---- the row

pub row_is : (setup : Configuration) (opening : List (Line × Bytes64)) (mine : List Event) → DeviceRun setup mine → (cause : Cause) → cause_fits setup device cause ≡ true
    → row_in setup cause (kept_device setup opening mine) ≡ device_emission setup opening cause mine
row_is setup opening mine run (Cause.Op s i op) fits = refl
row_is setup opening mine run (Cause.Take h m) fits = take_row_is setup opening mine run h m fits
row_is setup opening mine run (Cause.Act act) fits = act_row_is setup opening mine run act fits

-- ---- what a row sends goes to a host that exists

pub record IsDown (hosts : ℕ) (o : Out) : Type 0 where
  pub host : o.host < hosts
  pub down : goes_to_device (channel_of o.message) ≡ false

abbrev pub AreDown : ℕ → Sends → Type 0
AreDown hosts Sends.Nothing = Unit {0}
AreDown hosts (Sends.One o) = IsDown hosts o
AreDown hosts (Sends.Two o p) = IsDown hosts o × IsDown hosts p

served_down : (m answer : Message) → served_by m ≡ Some answer → goes_to_device (channel_of answer) ≡ false
served_down (Message.Req op meta snp tag line) answer is = absurd (none-some answer is)
served_down (Message.MemWr meta snp tag line bytes) answer is = let same : Message.Ndr NdrOp.Cmp tag ≡ answer = cc in ap (λ m. goes_to_device (channel_of m)) (sym same)
served_down (Message.BiConflict tag) answer is = let same : Message.Ndr NdrOp.ConflictAck tag ≡ answer = cc in ap (λ m. goes_to_device (channel_of m)) (sym same)
served_down (Message.BiRsp op bitag low) answer is = absurd (none-some answer is)
served_down (Message.Ndr op tag) answer is = absurd (none-some answer is)
served_down (Message.MemData tag bytes) answer is = absurd (none-some answer is)
served_down (Message.BiSnp op bitag line span) answer is = absurd (none-some answer is)
served_down (Message.Credit c) answer is = absurd (none-some answer is)

returned_down : (c : Channel) → device_returns c ≡ true → goes_to_device (credit_channel c) ≡ false
returned_down Channel.Req is = refl
returned_down Channel.Rwd is = refl
returned_down Channel.BiRsp is = refl
returned_down Channel.Ndr is = absurd (false≢true is)
returned_down Channel.Drs is = absurd (false≢true is)
returned_down Channel.BiSnp is = absurd (false≢true is)
returned_down Channel.CreditUp is = absurd (false≢true is)
returned_down Channel.CreditDown is = absurd (false≢true is)

finished_down : (hosts : ℕ) (p : Purpose) (c : NdrOp) (h tag : ℕ) (bytes : Bytes64) → h < hosts → AreDown hosts (finish_emission p c h tag bytes).sends
finished_down hosts Purpose.SharedRead c h tag bytes low = (record { host = low; down = refl }, record { host = low; down = refl })
finished_down hosts Purpose.OwningRead c h tag bytes low = (record { host = low; down = refl }, record { host = low; down = refl })
finished_down hosts Purpose.Invalidation c h tag bytes low = record { host = low; down = refl }
finished_down hosts Purpose.Eviction c h tag bytes low = tt

down_as : (hosts : ℕ) (w x : Emission) → w ≡ x → AreDown hosts x.sends → AreDown hosts w.sends
down_as hosts w x same down = subst (λ (y : Emission). AreDown hosts y.sends) (sym same) down

acts_down : (setup : Configuration) (opening : List (Line × Bytes64)) (mine : List Event) → DeviceRun setup mine → (act : Act) → cause_fits setup device (Cause.Act act) ≡ true
    → (w : Emission) → device_acts setup opening act mine ≡ Some w → AreDown setup.hosts w.sends
acts_down setup opening mine run (Act.Conflict line) fits w is = absurd (none-some w is)
acts_down setup opening mine run (Act.WriteBack line) fits w is = absurd (none-some w is)
acts_down setup opening mine run (Act.Answer line) fits w is = absurd (none-some w is)
acts_down setup opening mine run (Act.AnswerBlock line) fits w is = absurd (none-some w is)
acts_down setup opening mine run (Act.HostReturn c) fits w is = absurd (none-some w is)
acts_down setup opening mine run (Act.Serve h tag) fits w is =
    let row = v3_serve-inv h (message_with tag.0 (buffered_writes h mine)) w is in
    down_as setup.hosts w _ row.emits (record { host = act_host setup h _ fits; down = served_down row.m row.answer row.answers })
acts_down setup opening mine run (Act.Clean h tag) fits w is =
    down_as setup.hosts w _ (v4_clean-inv h (buffered_request h tag mine) (directory setup mine) w is).emits (record { host = act_host setup h _ fits; down = refl })
acts_down setup opening mine run (Act.Start h tag) fits w is = down_as setup.hosts w nothing (v5_start-inv setup h (buffered_request h tag mine) (directory setup mine) mine w is).emits tt
acts_down setup opening mine run (Act.Evict h tag) fits w is = down_as setup.hosts w nothing (v6_evict-inv setup h (buffered_request h tag mine) (directory setup mine) mine w is).emits tt
acts_down setup opening mine run (Act.Snoop h line) fits w is =
    let D = directory setup mine in
    down_as setup.hosts w _ (v7_snoop-inv h line.0 (D.task line.0) D mine w is).emits (record { host = act_host setup h _ fits; down = refl })
acts_down setup opening mine run (Act.Finish line) fits w is =
    let D = directory setup mine in
    let row = v8_finish-inv setup opening line.0 (D.task line.0) D mine w is in
    down_as setup.hosts w _ row.emits (finished_down setup.hosts row.t.purpose _ row.t.host row.t.tag _ (ltb-true row.t.host setup.hosts (tasks_are_shaped setup mine run line.0 row.t row.found).host))
acts_down setup opening mine run (Act.DeviceReturn h c) fits w is =
    let row = v9_return-inv h c mine w is in
    down_as setup.hosts w _ row.emits (record { host = ltb-true h setup.hosts fits; down = returned_down c row.returns })

pub sends_down : (setup : Configuration) (opening : List (Line × Bytes64)) (mine : List Event) → DeviceRun setup mine → (cause : Cause) → cause_fits setup device cause ≡ true
    → (w : Emission) → device_emission setup opening cause mine ≡ Some w → AreDown setup.hosts w.sends
sends_down setup opening mine run (Cause.Op s i op) fits w is = absurd (none-some w is)
sends_down setup opening mine run (Cause.Take h m) fits w is =
    let passed = if_some (has_room setup h m mine) (device_takes setup h m mine) w is in
    subst (AreDown setup.hosts) (sym (device_takes_silent setup h m mine w passed.same)) tt
sends_down setup opening mine run (Cause.Act act) fits w is = acts_down setup opening mine run act fits w is

-- ---- credits

left_by : (setup : Configuration) (mine : List Event) (n : ℕ) (h : ℕ) (m : Message) → h < setup.hosts → goes_to_device (channel_of m) ≡ false
    → short_in n (record { host = h; message = m }) (map (kept_credits setup mine) (below setup.hosts)) ≡ channel_short_of setup n (record { host = h; message = m }) mine
left_by setup mine n h (Message.Req op meta snp tag line) low down = absurd (false≢true (sym down))
left_by setup mine n h (Message.MemWr meta snp tag line bytes) low down = absurd (false≢true (sym down))
left_by setup mine n h (Message.BiConflict tag) low down = absurd (false≢true (sym down))
left_by setup mine n h (Message.BiRsp op bitag at) low down = absurd (false≢true (sym down))
left_by setup mine n h (Message.Ndr op tag) low down = ap (λ (c : CreditRecord). cond (nat_lt c.ndr_left n) (Some Channel.Ndr) None) (credits_are setup mine h low)
left_by setup mine n h (Message.MemData tag bytes) low down = ap (λ (c : CreditRecord). cond (nat_lt c.drs_left n) (Some Channel.Drs) None) (credits_are setup mine h low)
left_by setup mine n h (Message.BiSnp op bitag line span) low down = ap (λ (c : CreditRecord). cond (nat_lt c.snp_left n) (Some Channel.BiSnp) None) (credits_are setup mine h low)
left_by setup mine n h (Message.Credit c) low down =
    ap (λ b. cond (b && nat_lt (left_on (credit_channel c) (credits_at h (map (kept_credits setup mine) (below setup.hosts)))) n) (Some (credit_channel c)) None) (no_limit c)
    ∙ sym (ap (λ b. cond (b && nat_lt (credits_left setup h (credit_channel c) mine) n) (Some (credit_channel c)) None) (no_limit c))

short_is : (setup : Configuration) (mine : List Event) (n : ℕ) (o : Out) → IsDown setup.hosts o → short_in n o (map (kept_credits setup mine) (below setup.hosts)) ≡ channel_short_of setup n o mine
short_is setup mine n o down = left_by setup mine n o.host o.message down.host down.down

-- the credits reach by what is kept as they do by counting
pub lacking_is : (setup : Configuration) (mine : List Event) (sends : Sends) → AreDown setup.hosts sends → lacking_in sends (map (kept_credits setup mine) (below setup.hosts)) ≡ lacking_channel setup sends mine
lacking_is setup mine Sends.Nothing down = refl
lacking_is setup mine (Sends.One o) down = short_is setup mine 1 o down
lacking_is setup mine (Sends.Two o p) down = λ i. option_or (short_is setup mine (credits_needed o p) o down.0 i) (short_is setup mine 1 p down.1 i)

-- ---- the emission and the answer

paid_by : (setup : Configuration) (mine : List Event) (o : Option Emission) → ((w : Emission) → o ≡ Some w → AreDown setup.hosts w.sends)
    → option_and_then (λ (w : Emission). when (is_none (lacking_in w.sends (map (kept_credits setup mine) (below setup.hosts)))) w) o ≡ option_and_then (if_paid setup mine) o
paid_by setup mine None down = refl
paid_by setup mine (Some w) down = ap (λ lacking. when (is_none lacking) w) (lacking_is setup mine w.sends (down w refl))

-- what a cause sends, the credits included
pub emission_is : (setup : Configuration) (opening : List (Line × Bytes64)) (mine : List Event) → DeviceRun setup mine → (cause : Cause) → cause_fits setup device cause ≡ true
    → emission_in setup cause (kept_device setup opening mine) ≡ emission setup opening device cause mine
emission_is setup opening mine run cause fits =
    ap (option_and_then (λ (w : Emission). when (is_none (lacking_in w.sends (map (kept_credits setup mine) (below setup.hosts)))) w)) (row_is setup opening mine run cause fits)
    ∙ paid_by setup mine (device_emission setup opening cause mine) (sends_down setup opening mine run cause fits)

answered_by : (setup : Configuration) (mine : List Event) (rule : RuleNo) (o : Option Emission) → ((w : Emission) → o ≡ Some w → AreDown setup.hosts w.sends)
    → answer_by rule (map (kept_credits setup mine) (below setup.hosts)) o ≡ answer_to_row setup rule mine o
answered_by setup mine rule None down = refl
answered_by setup mine rule (Some w) down = ap (λ lacking. unless_lacking lacking (Answer.Emits w)) (lacking_is setup mine w.sends (down w refl))

passing_by : (setup : Configuration) (opening : List (Line × Bytes64)) (mine : List Event) → DeviceRun setup mine → (cause : Cause) → (b : Bool) → cause_passes setup device cause ≡ b
    → cond b (answer_by (device_rule cause) (map (kept_credits setup mine) (below setup.hosts)) (row_in setup cause (kept_device setup opening mine))) (Answer.Broken RuleNo.P0)
    ≡ cond b (answer_to_row setup (device_rule cause) mine (device_emission setup opening cause mine)) (Answer.Broken RuleNo.P0)
passing_by setup opening mine run cause true passes =
    let fits = (and_parts _ _ passes).1 in
    ap (answer_by (device_rule cause) (map (kept_credits setup mine) (below setup.hosts))) (row_is setup opening mine run cause fits)
    ∙ answered_by setup mine (device_rule cause) (device_emission setup opening cause mine) (sends_down setup opening mine run cause fits)
passing_by setup opening mine run cause false passes = refl

-- the answer
pub answer_is : (setup : Configuration) (opening : List (Line × Bytes64)) (mine : List Event) → IsOwnRun setup opening device mine → (cause : Cause)
    → answer_in setup cause (kept_device setup opening mine) ≡ device_answer setup opening cause mine
answer_is setup opening mine list cause = passing_by setup opening mine (device_list setup opening mine list) cause (cause_passes setup device cause) refl
