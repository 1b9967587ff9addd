-- What the device answers by an emission makes one more event of its list.
use Rattle.std.proofs.Common.{◌≡◌, ℕ, ◌+◌, Bool, true, false, List, ◌∷◌, Option, Some, None, cond, refl, ap, sym, ◌∙◌, subst, arith}
use Rattle.std.specs.Prelude.{nat_lt, ◌&&◌, ◌==◌}
use Rattle.std.specs.Option.{option_map_or}
use Rattle.std.proofs.lemmas.Bool.{and_from, and_parts, ltb-true}
use Rattle.std.proofs.lemmas.Option.{none-some}
use Rattle.cxl_message.specs.declared.channels.Channel.{Channel}
use Rattle.cxl_message.specs.declared.events.Act.{Act}
use Rattle.cxl_message.specs.declared.events.Cause.{Cause}
use Rattle.cxl_message.specs.declared.events.Event.{Event}
use Rattle.cxl_message.specs.declared.identifiers.Bytes64.{Bytes64}
use Rattle.cxl_message.specs.declared.identifiers.Line.{Line}
use Rattle.cxl_message.specs.declared.messages.Message.{Message}
use Rattle.cxl_message.specs.declared.states.RuleNo.{RuleNo}
use Rattle.cxl_message.specs.Formed.{cause_formed}
use Rattle.cxl_message.specs.Setup.{Configuration, IsWithinLimits}
use Rattle.coherence_model.specs.Buffers.{buffered_requests, buffered_writes}
use Rattle.coherence_model.specs.Credits.{has_room, lacking_channel}
use Rattle.coherence_model.specs.DeviceRows.{device_emission, device_rule}
use Rattle.coherence_model.specs.DeviceTakes.{device_takes}
use Rattle.coherence_model.specs.Emission.{Emission, nothing}
use Rattle.coherence_model.specs.Fitting.{cause_fits, is_host}
use Rattle.coherence_model.specs.Next.{event_with}
use Rattle.coherence_model.specs.Refusals.{Answer, answer_to_row, cause_passes, device_answer, unless_lacking}
use Rattle.coherence_model.specs.Rows.{emission, is_emitted, row_holds}
use Rattle.coherence_model.specs.Rules.{p0_profile, s0_stream_order}
use Rattle.coherence_model.specs.Runs.{own_half}
use Rattle.coherence_model.specs.SentSnoops.{sent_snoop_at}
use Rattle.coherence_model.specs.Traces.{device}
use Rattle.coherence_model.proofs.Allowed.{own_half_by_parts}
use Rattle.coherence_lemmas.proofs.DeviceTakes.{v1_credit-inv, v1_take-inv, v2_response-inv}
use Rattle.cxl_message.proofs.SameEvents.{same-sends_eq, same_commits}
use Rattle.coherence_lemmas.proofs.Options.{if_some}
use Rattle.coherence_lemmas.proofs.Rows.{emission_from}
use Rattle.step_laws.proofs.DeviceNext.{swap-step}
use Rattle.step_laws.proofs.DeviceSound.{device_act_profiled, is_named}
use Rattle.coherence_model.specs.OwnRuns.{IsOwnRun, is_own_run}
use Rattle.device_record.specs.Stands.{StandsForList}
use Rattle.device_record.specs.Changes.{device_after}
use Rattle.device_record.specs.Record.{DeviceRecord}
use Rattle.device_laws.proofs.Follows.{device_follows}

-- ---- the emission

-- an answer that emits comes of an emission
pub record Emitting (setup : Configuration) (opening : List (Line × Bytes64)) (mine : List Event) (cause : Cause) (w : Emission) : Type 0 where
  pub passes : cause_passes setup device cause ≡ true
  pub row : device_emission setup opening cause mine ≡ Some w
  pub paid : lacking_channel setup w.sends mine ≡ None

lacking_by : (w x : Emission) (lacking : Option Channel) → unless_lacking lacking (Answer.Emits x) ≡ Answer.Emits w → (lacking ≡ None) × (x ≡ w)
lacking_by w x None is = (refl, cc)
lacking_by w x (Some c) is = cc

row_by : (setup : Configuration) (mine : List Event) (rule : RuleNo) (w : Emission) (o : Option Emission) → answer_to_row setup rule mine o ≡ Answer.Emits w → (o ≡ Some w) × (lacking_channel setup w.sends mine ≡ None)
row_by setup mine rule w None is = cc
row_by setup mine rule w (Some x) is =
    let parts = lacking_by w x (lacking_channel setup x.sends mine) is in
    (ap (λ y. Some y) parts.1, subst (λ (y : Emission). lacking_channel setup y.sends mine ≡ None) parts.1 parts.0)

passing_by : (setup : Configuration) (opening : List (Line × Bytes64)) (mine : List Event) (cause : Cause) (w : Emission) (b : Bool) → cause_passes setup device cause ≡ b
    → cond b (answer_to_row setup (device_rule cause) mine (device_emission setup opening cause mine)) (Answer.Broken RuleNo.P0) ≡ Answer.Emits w → Emitting setup opening mine cause w
passing_by setup opening mine cause w true passes is =
    let parts = row_by setup mine (device_rule cause) w (device_emission setup opening cause mine) is in record { passes = passes; row = parts.0; paid = parts.1 }
passing_by setup opening mine cause w false passes is = cc

pub emitting : (setup : Configuration) (opening : List (Line × Bytes64)) (mine : List Event) (cause : Cause) (w : Emission) → device_answer setup opening cause mine ≡ Answer.Emits w → Emitting setup opening mine cause w
emitting setup opening mine cause w is = passing_by setup opening mine cause w (cause_passes setup device cause) refl is

row_holds_by : (setup : Configuration) (opening : List (Line × Bytes64)) (mine : List Event) (cause : Cause) (w : Emission) → emission setup opening device cause mine ≡ Some w → row_holds setup opening (event_with device cause w) mine ≡ true
row_holds_by setup opening mine cause w is =
    ap (λ o. option_map_or (is_emitted (event_with device cause w)) o false) is ∙ and_from _ _ (same-sends_eq w.sends w.sends refl) (same_commits w.commit w.commit refl)

-- ---- the profile

no_host : (setup : Configuration) → IsWithinLimits setup → is_host setup device ≡ true → ⊥
no_host setup limits is = let few = limits.hosts.1 in let low = ltb-true 16 setup.hosts is in omega arith

named_by : (setup : Configuration) (act : Act) → cause_fits setup device (Cause.Act act) ≡ true → IsWithinLimits setup → is_named setup act ≡ true
named_by setup (Act.Conflict line) fits limits = absurd (no_host setup limits (and_parts _ _ fits).0)
named_by setup (Act.WriteBack line) fits limits = absurd (no_host setup limits (and_parts _ _ fits).0)
named_by setup (Act.Answer line) fits limits = absurd (no_host setup limits (and_parts _ _ fits).0)
named_by setup (Act.AnswerBlock line) fits limits = absurd (no_host setup limits (and_parts _ _ fits).0)
named_by setup (Act.HostReturn c) fits limits = absurd (no_host setup limits fits)
named_by setup (Act.Serve h tag) fits limits = (and_parts _ _ fits).0
named_by setup (Act.Clean h tag) fits limits = (and_parts _ _ fits).0
named_by setup (Act.Start h tag) fits limits = (and_parts _ _ fits).0
named_by setup (Act.Evict h tag) fits limits = (and_parts _ _ fits).0
named_by setup (Act.Snoop h line) fits limits = swap-step (nat_lt h setup.hosts) (nat_lt line.0 setup.lines) fits
named_by setup (Act.Finish line) fits limits = fits
named_by setup (Act.DeviceReturn h c) fits limits = fits

-- no take commits
take_quiet : (setup : Configuration) (h : ℕ) (m : Message) (mine : List Event) (w : Emission) → device_takes setup h m mine ≡ Some w → w ≡ nothing
take_quiet setup h (Message.Req op meta snp tag line) mine w is = (v1_take-inv tag.0 (buffered_requests h mine) w is).emits
take_quiet setup h (Message.MemWr meta snp tag line bytes) mine w is = (v1_take-inv tag.0 (buffered_writes h mine) w is).emits
take_quiet setup h (Message.BiConflict tag) mine w is = (v1_take-inv tag.0 (buffered_writes h mine) w is).emits
take_quiet setup h (Message.BiRsp op bitag low) mine w is = (v2_response-inv op (bitag.0 + low) (sent_snoop_at h bitag.0 mine) w is).emits
take_quiet setup h (Message.Ndr op tag) mine w is = absurd (none-some w is)
take_quiet setup h (Message.MemData tag bytes) mine w is = absurd (none-some w is)
take_quiet setup h (Message.BiSnp op bitag line span) mine w is = absurd (none-some w is)
take_quiet setup h (Message.Credit c) mine w is = (v1_credit-inv setup h c mine w is).emits

take_profiled : (setup : Configuration) (h : ℕ) (m : Message) (w : Emission) → cause_passes setup device (Cause.Take h m) ≡ true → w ≡ nothing → p0_profile setup (event_with device (Cause.Take h m) w) ≡ true
take_profiled setup h m w passes quiet =
    let parts = and_parts (cause_formed (Cause.Take h m)) (cause_fits setup device (Cause.Take h m)) passes in
    subst (λ (x : Emission). p0_profile setup (event_with device (Cause.Take h m) x) ≡ true) (sym quiet)
    (and_from _ _ (and_from _ _ (and_from _ _ (and_from _ _ (and_from _ _ (and_from _ _ parts.0 refl) refl) refl) parts.1) refl) refl)

profile_by : (setup : Configuration) (opening : List (Line × Bytes64)) (mine : List Event) → IsWithinLimits setup → IsOwnRun setup opening device mine → (cause : Cause) (w : Emission) → Emitting setup opening mine cause w
    → row_holds setup opening (event_with device cause w) mine ≡ true → p0_profile setup (event_with device cause w) ≡ true
profile_by setup opening mine limits list (Cause.Op s i op) w by row = absurd (none-some w by.row)
profile_by setup opening mine limits list (Cause.Take h m) w by row =
    take_profiled setup h m w by.passes (take_quiet setup h m mine w (if_some (has_room setup h m mine) (device_takes setup h m mine) w by.row).same)
profile_by setup opening mine limits list (Cause.Act act) w by row =
    device_act_profiled setup limits opening mine list act w.sends w.commit (named_by setup act (and_parts _ _ by.passes).1 limits) row

order_by : (setup : Configuration) (opening : List (Line × Bytes64)) (mine : List Event) (cause : Cause) (w : Emission) → device_emission setup opening cause mine ≡ Some w → s0_stream_order cause mine ≡ true
order_by setup opening mine (Cause.Op s i op) w is = absurd (none-some w is)
order_by setup opening mine (Cause.Take h m) w is = refl
order_by setup opening mine (Cause.Act act) w is = refl

-- ---- the list goes on

pub list_goes_on : (setup : Configuration) (opening : List (Line × Bytes64)) (mine : List Event) → IsWithinLimits setup → IsOwnRun setup opening device mine → (cause : Cause) (w : Emission)
    → device_answer setup opening cause mine ≡ Answer.Emits w → IsOwnRun setup opening device (event_with device cause w ∷ mine)
list_goes_on setup opening mine limits list cause w is =
    let by = emitting setup opening mine cause w is in
    let row = row_holds_by setup opening mine cause w (emission_from setup opening device cause mine w by.row by.paid) in
    and_from (is_own_run setup opening device mine) ((device == device) && own_half setup opening (event_with device cause w) mine) list
    (own_half_by_parts setup opening (event_with device cause w) mine (profile_by setup opening mine limits list cause w by row) (order_by setup opening mine cause w by.row) row)

-- a device that stands for a list stands for the list with what it emits
pub stands_on : (k : DeviceRecord) (setup : Configuration) (opening : List (Line × Bytes64)) (mine : List Event) → StandsForList k setup opening mine → (cause : Cause) (w : Emission)
    → device_answer setup opening cause mine ≡ Answer.Emits w → StandsForList (device_after setup cause w.sends k) setup opening (event_with device cause w ∷ mine)
stands_on k setup opening mine stands cause w is =
    let list = list_goes_on setup opening mine stands.within stands.list cause w is in
    record {
      within = stands.within;
      list = list;
      same = ap (device_after setup cause w.sends) stands.same ∙ sym (device_follows setup opening (event_with device cause w) mine list);
    }
