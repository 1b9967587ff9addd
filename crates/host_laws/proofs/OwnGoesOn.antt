-- What a host answers is an event that its own half allows.
use Rattle.std.proofs.Common.{Bool, List, None, Option, Some, [], ap, cond, false, inl, inr, refl, subst, sym, true, ℕ, ◌∙◌, ◌∷◌, ◌≡◌}
use Rattle.std.specs.Prelude.{is_none, nat_lt, not, ◌==◌}
use Rattle.std.proofs.lemmas.Bool.{eqb-true, and_from, and_parts, eq-eqb}
use Rattle.std.proofs.lemmas.Option.{none-some, same_Some}
use Rattle.cxl_message.specs.declared.channels.Channel.{Channel}
use Rattle.cxl_message.specs.declared.events.Cause.{Cause}
use Rattle.cxl_message.specs.declared.events.Event.{Event}
use Rattle.cxl_message.specs.declared.identifiers.Bytes64.{Bytes64}
use Rattle.cxl_message.specs.declared.identifiers.Line.{Line}
use Rattle.cxl_message.specs.declared.messages.Message.{Message}
use Rattle.cxl_message.specs.declared.opcodes.NdrOp.{NdrOp}
use Rattle.cxl_message.specs.Events.{line_of}
use Rattle.cxl_message.specs.Formed.{cause_formed}
use Rattle.cxl_message.specs.Opening.{zero_bytes}
use Rattle.cxl_message.specs.Setup.{Configuration, IsWithinLimits}
use Rattle.coherence_model.specs.Credits.{lacking_channel}
use Rattle.coherence_model.specs.Emission.{Emission, nothing}
use Rattle.coherence_model.specs.Fitting.{cause_fits, is_device, is_host}
use Rattle.coherence_model.specs.HostRows.{host_emission, host_rule}
use Rattle.coherence_model.specs.HostTakes.{fill_emission, grant_emission, host_takes, host_takes_ndr, is_write_back_tag}
use Rattle.coherence_model.specs.Next.{event_with}
use Rattle.coherence_model.specs.Rows.{is_emitted, row_holds}
use Rattle.coherence_model.specs.Rules.{p0_profile, s0_stream_order}
use Rattle.coherence_model.specs.Tags.{open_with}
use Rattle.coherence_model.specs.Transactions.{Transaction, is_read}
use Rattle.coherence_lemmas.proofs.HostTakes.{h3_completion-inv, h3_data-inv, h3_grant-inv, h4_snoop-inv, h5_conflict_ack-inv, h6_credit-inv}
use Rattle.step_laws.proofs.Emissions.{EmissionFits, event-profiled, host-agent, nothing-fits}
use Rattle.step_laws.proofs.OpenTransactions.{TransactionFits, tagged_fits}
use Rattle.step_laws.proofs.OwnRuns.{host_is_no_device}
use Rattle.std.specs.Option.{option_map_or}
use Rattle.cxl_message.specs.declared.events.Op.{Op}
use Rattle.coherence_model.specs.HostOperations.{host_operates}
use Rattle.coherence_model.specs.Refusals.{Answer, answer_to_operation, answer_to_row, cause_passes, host_answer, is_short_of_tags, is_short_of_ways, profile_then_order, unless_lacking}
use Rattle.coherence_model.specs.Snoops.{is_quiet}
use Rattle.cxl_message.specs.declared.states.RuleNo.{RuleNo}
use Rattle.cxl_message.proofs.SameEvents.{same-sends_eq, same_commits}
use Rattle.coherence_lemmas.proofs.Rows.{emission_from, host_row, host_take-inv}
use Rattle.coherence_model.proofs.Allowed.{own_half_by_parts, own_half_parts}
use Rattle.coherence_model.specs.OwnRuns.{IsOwnRun, is_own_run}
use Rattle.step_laws.proofs.HostSound.{host_act_profiled}
use Rattle.step_laws.proofs.OperationSound.{operation_profiled}

-- a fill commits what was open
fill-fits : (setup : Configuration) (g : ℕ) (o : Transaction) (bytes : Bytes64) → TransactionFits setup o → EmissionFits setup g (fill_emission o bytes)
fill-fits setup g o bytes fits = record { sends = tt; commit_formed = and_from _ _ fits.stream fits.place; commit_fits = fits.line }

either-fits : (setup : Configuration) (g : ℕ) (b : Bool) (w x : Emission) → EmissionFits setup g w → EmissionFits setup g x → EmissionFits setup g (cond b w x)
either-fits setup g true w x fits other = fits
either-fits setup g false w x fits other = other

granted-fits :
    (setup : Configuration) (g : ℕ) (o : Transaction) (bytes : Option Bytes64) → TransactionFits setup o → EmissionFits setup g (grant_emission o bytes)
granted-fits setup g o None fits = either-fits setup g (is_read o.kind) nothing (fill_emission o zero_bytes) (nothing-fits setup g)
    (fill-fits setup g o zero_bytes fits)
granted-fits setup g o (Some bytes) fits = fill-fits setup g o bytes fits

silent-fits : (setup : Configuration) (g : ℕ) (w : Emission) → w ≡ nothing → EmissionFits setup g w
silent-fits setup g w is = subst (EmissionFits setup g) (sym is) (nothing-fits setup g)

ndr-fits :
    (setup : Configuration) (opening : List (Line × Bytes64)) (g : ℕ) (mine : List Event) → IsOwnRun setup opening g mine → (op : NdrOp) (tag : ℕ) (w : Emission)
    → host_takes_ndr setup op tag mine ≡ Some w → EmissionFits setup g w
ndr-fits setup opening g mine run NdrOp.Cmp tag w is = elim (h3_completion-inv (is_write_back_tag setup tag mine)
    (open_with tag mine) w is) [ inl written ↦ silent-fits setup g w written.emits | inr evicted ↦ silent-fits setup g w evicted.emits ]
ndr-fits setup opening g mine run NdrOp.CmpS tag w is =
    let inv = h3_grant-inv NdrOp.CmpS (open_with tag mine) w is in
    subst (EmissionFits setup g) (sym inv.emits) (granted-fits setup g inv.o inv.o.bytes (tagged_fits setup opening g mine run tag inv.o inv.is_open))
ndr-fits setup opening g mine run NdrOp.CmpE tag w is =
    let inv = h3_grant-inv NdrOp.CmpE (open_with tag mine) w is in
    subst (EmissionFits setup g) (sym inv.emits) (granted-fits setup g inv.o inv.o.bytes (tagged_fits setup opening g mine run tag inv.o inv.is_open))
ndr-fits setup opening g mine run NdrOp.ConflictAck tag w is = silent-fits setup g w (h5_conflict_ack-inv tag mine w is).emits

-- what a host emits at a take
host_takes-fits :
    (setup : Configuration) (opening : List (Line × Bytes64)) (g : ℕ) (mine : List Event) → IsOwnRun setup opening g mine → (m : Message) (w : Emission)
    → host_takes setup g m mine ≡ Some w → EmissionFits setup g w
host_takes-fits setup opening g mine run (Message.Req op meta snp tag line) w is = absurd (none-some w is)
host_takes-fits setup opening g mine run (Message.MemWr meta snp tag line bytes) w is = absurd (none-some w is)
host_takes-fits setup opening g mine run (Message.BiConflict tag) w is = absurd (none-some w is)
host_takes-fits setup opening g mine run (Message.BiRsp op bitag low) w is = absurd (none-some w is)
host_takes-fits setup opening g mine run (Message.Ndr op tag) w is = ndr-fits setup opening g mine run op tag.0 w is
host_takes-fits setup opening g mine run (Message.MemData tag bytes) w is =
    let inv = h3_data-inv bytes (open_with tag.0 mine) w is in
    subst (EmissionFits setup g) (sym inv.emits)
    (either-fits setup g (is_none inv.o.grant) nothing (fill_emission inv.o bytes) (nothing-fits setup g)
    (fill-fits setup g inv.o bytes (tagged_fits setup opening g mine run tag.0 inv.o inv.is_open)))
host_takes-fits setup opening g mine run (Message.BiSnp op bitag line span) w is = silent-fits setup g w (h4_snoop-inv line.0 span mine w is).emits
host_takes-fits setup opening g mine run (Message.Credit c) w is = silent-fits setup g w (h6_credit-inv setup g c mine w is).emits

-- what an answer emits, if it emits something
abbrev pub emitted_of : Answer → Option Emission
emitted_of (Answer.Emits w) = Some w
emitted_of Answer.NoSuchLine = None
emitted_of Answer.Again = None
emitted_of Answer.NoTag = None
emitted_of Answer.NoWay = None
emitted_of (Answer.NoCredit _) = None
emitted_of (Answer.Broken _) = None

not_refused : (b : Bool) (R X : Answer) (w : Emission) → emitted_of R ≡ None → emitted_of (cond b R X) ≡ Some w → (b ≡ false) × (emitted_of X ≡ Some w)
not_refused true R X w none is = absurd (none-some w (sym none ∙ is))
not_refused false R X w none is = (refl, is)

-- what is said by an answer that emits
pub record Answered (setup : Configuration) (h : ℕ) (cause : Cause) (mine : List Event) (w : Emission) : Type 0 where
  pub row : host_emission setup h cause mine ≡ Some w
  pub paid : lacking_channel setup w.sends mine ≡ None
  pub passes : cause_passes setup h cause ≡ true
  pub order : s0_stream_order cause mine ≡ true

ordered : (l : Option Channel) (p s : Bool) (x w : Emission) → emitted_of (unless_lacking l (profile_then_order p s x)) ≡ Some w → (l ≡ None) × (p ≡ true) × (s ≡ true) × (x ≡ w)
ordered None false s x w is = absurd (none-some w is)
ordered None true false x w is = absurd (none-some w is)
ordered None true true x w is = (refl, refl, refl, same_Some x w is)
ordered (Some c) p s x w is = absurd (none-some w is)

operation_by : (setup : Configuration) (h s i : ℕ) (op : Op) (mine : List Event) (x : Option Emission) (w : Emission) → host_operates setup h s i op mine ≡ x → emitted_of (answer_to_operation setup h (Cause.Op s i op) mine x) ≡ Some w → Answered setup h (Cause.Op s i op) mine w
operation_by setup h s i op mine None w row is = absurd (none-some w is)
operation_by setup h s i op mine (Some x) w row is =
    let parts = ordered (lacking_channel setup x.sends mine) (cause_passes setup h (Cause.Op s i op)) (s0_stream_order (Cause.Op s i op) mine) x w is in
    record { row = row ∙ ap {B = Option Emission} Some parts.3; paid = ap (λ (y : Emission). lacking_channel setup y.sends mine) (sym parts.3) ∙ parts.0; passes = parts.1; order = parts.2 }

paid_row : (l : Option Channel) (x w : Emission) → emitted_of (unless_lacking l (Answer.Emits x)) ≡ Some w → (l ≡ None) × (x ≡ w)
paid_row None x w is = (refl, same_Some x w is)
paid_row (Some c) x w is = absurd (none-some w is)

row_by : (setup : Configuration) (h : ℕ) (cause : Cause) (mine : List Event) (rule : RuleNo) (x : Option Emission) (w : Emission) → host_emission setup h cause mine ≡ x → cause_passes setup h cause ≡ true → s0_stream_order cause mine ≡ true
    → emitted_of (answer_to_row setup rule mine x) ≡ Some w → Answered setup h cause mine w
row_by setup h cause mine rule None w row passes order is = absurd (none-some w is)
row_by setup h cause mine rule (Some x) w row passes order is =
    let parts = paid_row (lacking_channel setup x.sends mine) x w is in
    record { row = row ∙ ap {B = Option Emission} Some parts.1; paid = ap (λ (y : Emission). lacking_channel setup y.sends mine) (sym parts.1) ∙ parts.0; passes = passes; order = order }

passed : (b : Bool) (X : Answer) (w : Emission) → emitted_of (cond b X (Answer.Broken RuleNo.P0)) ≡ Some w → (b ≡ true) × (emitted_of X ≡ Some w)
passed true X w is = (refl, is)
passed false X w is = absurd (none-some w is)

pub answered : (setup : Configuration) (h : ℕ) (cause : Cause) (mine : List Event) (w : Emission) → host_answer setup h cause mine ≡ Answer.Emits w → Answered setup h cause mine w
answered setup h (Cause.Op s i op) mine w is =
    let one = not_refused (not (nat_lt (line_of op) setup.lines)) Answer.NoSuchLine _ w refl (ap emitted_of is) in
    let two = not_refused (not (is_quiet (line_of op) mine)) Answer.Again _ w refl one.1 in
    let three = not_refused (is_short_of_tags setup op mine) Answer.NoTag _ w refl two.1 in
    let four = not_refused (is_short_of_ways setup op mine) Answer.NoWay _ w refl three.1 in
    operation_by setup h s i op mine (host_operates setup h s i op mine) w refl four.1
answered setup h (Cause.Take g m) mine w is =
    let one = passed (cause_passes setup h (Cause.Take g m)) _ w (ap emitted_of is) in
    row_by setup h (Cause.Take g m) mine (host_rule setup (Cause.Take g m) mine) (host_emission setup h (Cause.Take g m) mine) w refl one.0 refl one.1
answered setup h (Cause.Act act) mine w is =
    let one = passed (cause_passes setup h (Cause.Act act)) _ w (ap emitted_of is) in
    row_by setup h (Cause.Act act) mine (host_rule setup (Cause.Act act) mine) (host_emission setup h (Cause.Act act) mine) w refl one.0 refl one.1

-- the event of an answer is in the profile

event_row : (setup : Configuration) (opening : List (Line × Bytes64)) (h : ℕ) (cause : Cause) (w : Emission) (mine : List Event) → is_device h ≡ false → Answered setup h cause mine w → row_holds setup opening (event_with h cause w) mine ≡ true
event_row setup opening h cause w mine host a =
    ap (λ o. option_map_or (is_emitted (event_with h cause w)) o false) (emission_from setup opening h cause mine w (host_row setup opening h cause mine host ∙ a.row) a.paid)
    ∙ and_from _ _ (same-sends_eq w.sends w.sends refl) (same_commits w.commit w.commit refl)

pub event_profile : (setup : Configuration) → IsWithinLimits setup → (opening : List (Line × Bytes64)) (h : ℕ) → is_host setup h ≡ true → (mine : List Event) → is_own_run setup opening h mine ≡ true → (cause : Cause) (w : Emission)
    → Answered setup h cause mine w → row_holds setup opening (event_with h cause w) mine ≡ true → p0_profile setup (event_with h cause w) ≡ true
event_profile setup limits opening h host mine run (Cause.Op s i op) w a row =
    let parts = and_parts (cause_formed (Cause.Op s i op)) (cause_fits setup h (Cause.Op s i op)) a.passes in
    operation_profiled setup limits opening h mine run s i op w.sends w.commit parts.0 parts.1 row
event_profile setup limits opening h host mine run (Cause.Take g m) w a row =
    let parts = and_parts (cause_formed (Cause.Take g m)) (cause_fits setup h (Cause.Take g m)) a.passes in
    let agent = host-agent setup limits h host in
    event-profiled setup h (Cause.Take g m) w.sends w.commit w refl refl (record { low = agent.0; agent = agent.1; formed = parts.0; fits = parts.1 })
    (host_takes-fits setup opening h mine run m w (host_take-inv setup h g m mine w a.row).same)
event_profile setup limits opening h host mine run (Cause.Act act) w a row = host_act_profiled setup limits opening h mine run host act w.sends w.commit row

-- an own run goes on by what the host answers
pub goes_on : (setup : Configuration) (opening : List (Line × Bytes64)) → IsWithinLimits setup → (h : ℕ) → is_host setup h ≡ true → (mine : List Event) → is_own_run setup opening h mine ≡ true → (cause : Cause) (w : Emission)
    → host_answer setup h cause mine ≡ Answer.Emits w → is_own_run setup opening h (event_with h cause w ∷ mine) ≡ true
goes_on setup opening limits h host mine run cause w is =
    let a = answered setup h cause mine w is in
    let row = event_row setup opening h cause w mine (host_is_no_device setup limits h host) a in
    and_from _ _ run (and_from (h == h) _ (eq-eqb h h refl) (own_half_by_parts setup opening (event_with h cause w) mine (event_profile setup limits opening h host mine run cause w a row) a.order row))
