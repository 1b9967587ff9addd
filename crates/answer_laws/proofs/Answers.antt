-- An agent's answer emits what its row does, where the cause passes in its order: each refusal before the row stands where the row emits nothing.
use Rattle.std.proofs.Common.{◌≡◌, ℕ, suc, Bool, true, false, cond, List, [], ◌∷◌, length, Option, Some, None, refl, ap, sym, ◌∙◌, subst, arith}
use Rattle.std.specs.Prelude.{is_none, nat_lt, not, option_and_then, ◌&&◌, ◌==◌}
use Rattle.std.specs.Option.{option_map_or}
use Rattle.std.proofs.lemmas.Bool.{and_left, and_right, cond-false, eqb-true, false≢true, ltb-true}
use Rattle.cxl_message.specs.declared.channels.Channel.{Channel}
use Rattle.cxl_message.specs.declared.events.Cause.{Cause}
use Rattle.cxl_message.specs.declared.events.Event.{Event}
use Rattle.cxl_message.specs.declared.events.Op.{Op}
use Rattle.cxl_message.specs.declared.states.RuleNo.{RuleNo}
use Rattle.cxl_message.specs.Events.{line_of}
use Rattle.cxl_message.specs.declared.identifiers.Bytes64.{Bytes64}
use Rattle.cxl_message.specs.declared.identifiers.Line.{Line}
use Rattle.cxl_message.specs.Formed.{cause_formed}
use Rattle.cxl_message.specs.Setup.{Configuration, stream_host}
use Rattle.coherence_model.specs.Cache.{copy, is_writable, needs_victim, victim_way}
use Rattle.coherence_model.specs.Credits.{lacking_channel}
use Rattle.coherence_model.specs.DeviceRows.{device_emission, device_rule}
use Rattle.coherence_model.specs.Emission.{Emission, one_commit}
use Rattle.coherence_model.specs.Fitting.{is_device, is_host}
use Rattle.cxl_message.specs.Stores.{line_after}
use Rattle.coherence_model.specs.HostOperations.{hits, host_operates, request_alone, request_evicting}
use Rattle.coherence_model.specs.HostRows.{host_emission, host_rule}
use Rattle.coherence_model.specs.Refusals.{Answer, answer_to_operation, answer_to_row, cause_passes, device_answer, host_answer, host_row_answer, is_short_of_tags, is_short_of_ways, operation_answer, profile_then_order, unless_lacking}
use Rattle.coherence_model.specs.Rows.{emission, if_paid}
use Rattle.coherence_model.specs.Rules.{s0_stream_order}
use Rattle.coherence_model.specs.Snoops.{is_quiet}
use Rattle.coherence_model.specs.Tags.{free_tags}
use Rattle.coherence_model.specs.Traces.{device}
use Rattle.coherence_model.specs.Words.{when}
use Rattle.coherence_lemmas.proofs.Rows.{host_row}
use Rattle.answer_laws.specs.Answered.{agent_answer, emitted_of}
use Rattle.answer_laws.specs.Laws.{AnswerIsRow}

-- what a row emits with the credits for it
abbrev paid_row : Configuration → List Event → Option Emission → Option Emission
paid_row setup mine row = option_and_then (if_paid setup mine) row

-- ---- rows that emit nothing

-- the row of an operation, by the tests that it makes (own rule)
abbrev row_by : Configuration → ℕ → Op → List Event → Bool → Bool → Bool → Option ℕ → List ℕ → Emission → Option Emission
row_by setup h op mine hit quiet victim way tags x =
    cond hit (when quiet x)
    (cond quiet (cond victim (option_and_then (λ v. cond (is_writable setup v mine) (request_evicting setup h op v mine tags) (request_alone h op tags)) way) (request_alone h op tags)) None)

-- nothing, whichever way a test goes
either_way : (quiet : Bool) (o : Option Emission) → o ≡ None → cond quiet o None ≡ None
either_way true o none = none
either_way false o none = refl

-- on a line that is not quiet no row emits
not_quiet : (setup : Configuration) (h : ℕ) (op : Op) (mine : List Event) (hit quiet victim : Bool) (way : Option ℕ) (tags : List ℕ) (x : Emission) → quiet ≡ false → row_by setup h op mine hit quiet victim way tags x ≡ None
not_quiet setup h op mine true true victim way tags x no_quiet = absurd (false≢true (sym no_quiet))
not_quiet setup h op mine true false victim way tags x no_quiet = refl
not_quiet setup h op mine false true victim way tags x no_quiet = absurd (false≢true (sym no_quiet))
not_quiet setup h op mine false false victim way tags x no_quiet = refl

-- with no tag free a request alone is none
no_request : (h : ℕ) (op : Op) (tags : List ℕ) → nat_lt (length tags) 1 ≡ true → request_alone h op tags ≡ None
no_request h op [] short = refl
no_request h op (tag ∷ tags) short = let less = ltb-true (suc (length tags)) 1 short in absurd (omega arith)

-- nor is it with an eviction where not two are free
no_eviction : (setup : Configuration) (h : ℕ) (op : Op) (v : ℕ) (mine : List Event) (tags : List ℕ) → nat_lt (length tags) 2 ≡ true → request_evicting setup h op v mine tags ≡ None
no_eviction setup h op v mine [] short = refl
no_eviction setup h op v mine (tag ∷ []) short = refl
no_eviction setup h op v mine (tag ∷ other ∷ tags) short = let less = ltb-true (suc (suc (length tags))) 2 short in absurd (omega arith)

-- by whether the victim's copy is writable
victim_by :
    (setup : Configuration) (h : ℕ) (op : Op) (v : ℕ) (mine : List Event) (tags : List ℕ) (writable : Bool) → nat_lt (length tags) (cond writable 2 1) ≡ true
    → cond writable (request_evicting setup h op v mine tags) (request_alone h op tags) ≡ None
victim_by setup h op v mine tags true short = no_eviction setup h op v mine tags short
victim_by setup h op v mine tags false short = no_request h op tags short

-- by whether there is a victim
victims_by :
    (setup : Configuration) (h : ℕ) (op : Op) (mine : List Event) (tags : List ℕ) (way : Option ℕ) → nat_lt (length tags) (cond (option_map_or (λ v. is_writable setup v mine) way false) 2 1) ≡ true
    → option_and_then (λ v. cond (is_writable setup v mine) (request_evicting setup h op v mine tags) (request_alone h op tags)) way ≡ None
victims_by setup h op mine tags None short = refl
victims_by setup h op mine tags (Some v) short = victim_by setup h op v mine tags (is_writable setup v mine) short

-- with too few tags free an operation that doesn't hit emits nothing
no_tag :
    (setup : Configuration) (h : ℕ) (op : Op) (mine : List Event) (hit quiet victim : Bool) (way : Option ℕ) (tags : List ℕ) (x : Emission)
    → not hit && nat_lt (length tags) (cond (victim && option_map_or (λ v. is_writable setup v mine) way false) 2 1) ≡ true → row_by setup h op mine hit quiet victim way tags x ≡ None
no_tag setup h op mine true quiet victim way tags x short = absurd (false≢true short)
no_tag setup h op mine false quiet true way tags x short = either_way quiet _ (victims_by setup h op mine tags way short)
no_tag setup h op mine false quiet false way tags x short = either_way quiet (request_alone h op tags) (no_request h op tags short)

-- nor does one that needs a victim where no way is idle
no_way :
    (setup : Configuration) (h : ℕ) (op : Op) (mine : List Event) (hit quiet victim : Bool) (way : Option ℕ) (tags : List ℕ) (x : Emission) → not hit && victim && is_none way ≡ true
    → row_by setup h op mine hit quiet victim way tags x ≡ None
no_way setup h op mine true quiet victim way tags x short = absurd (false≢true short)
no_way setup h op mine false quiet true None tags x short = either_way quiet None refl
no_way setup h op mine false quiet true (Some v) tags x short = absurd (false≢true short)
no_way setup h op mine false quiet false way tags x short = absurd (false≢true short)

-- ---- answers

-- nothing, whether the gate is open or not
no_emission : (gate : Bool) (o : Option Emission) → o ≡ None → None ≡ cond gate o None
no_emission true o none = sym none
no_emission false o none = refl

-- a closed gate
closed : (gate : Bool) (o : Option Emission) → gate ≡ false → None ≡ cond gate o None
closed true o is = absurd (false≢true (sym is))
closed false o is = refl

-- refusals before the row where it emits nothing, else the answer to the row
answer_by :
    (setup : Configuration) (mine : List Event) (line quiet short ways gate : Bool) (row : Option Emission) (answer : Answer) → (line ≡ false → gate ≡ false)
    → (quiet ≡ false → row ≡ None) → (short ≡ true → row ≡ None) → (ways ≡ true → row ≡ None) → emitted_of answer ≡ cond gate (paid_row setup mine row) None
    → emitted_of (cond (not line) Answer.NoSuchLine (cond (not quiet) Answer.Again (cond short Answer.NoTag (cond ways Answer.NoWay answer)))) ≡ cond gate (paid_row setup mine row) None
answer_by setup mine false quiet short ways gate row answer l q s w is = closed gate (paid_row setup mine row) (l refl)
answer_by setup mine true false short ways gate row answer l q s w is = no_emission gate (paid_row setup mine row) (ap (paid_row setup mine) (q refl))
answer_by setup mine true true true ways gate row answer l q s w is = no_emission gate (paid_row setup mine row) (ap (paid_row setup mine) (s refl))
answer_by setup mine true true false true gate row answer l q s w is = no_emission gate (paid_row setup mine row) (ap (paid_row setup mine) (w refl))
answer_by setup mine true true false false gate row answer l q s w is = is

-- where the profile and the order hold, the answer emits exactly where the credits reach
paid_or_not : (w : Emission) (lacking : Option Channel) (p0 s0 : Bool) → emitted_of (unless_lacking lacking (profile_then_order p0 s0 w)) ≡ cond (p0 && s0) (when (is_none lacking) w) None
paid_or_not w (Some c) p0 s0 = no_emission (p0 && s0) None refl
paid_or_not w None false s0 = refl
paid_or_not w None true false = refl
paid_or_not w None true true = refl

-- the answer to what the row of an operation emits
row_answer :
    (setup : Configuration) (mine : List Event) (h : ℕ) (cause : Cause) (row : Option Emission)
    → emitted_of (answer_to_operation setup h cause mine row) ≡ cond (cause_passes setup h cause && s0_stream_order cause mine) (paid_row setup mine row) None
row_answer setup mine h cause None = no_emission (cause_passes setup h cause && s0_stream_order cause mine) None refl
row_answer setup mine h cause (Some w) = paid_or_not w (lacking_channel setup w.sends mine) (cause_passes setup h cause) (s0_stream_order cause mine)

-- an operation on a line that there isn't doesn't pass
no_line :
    (setup : Configuration) (h s i : ℕ) (op : Op) (mine : List Event) → nat_lt (line_of op) setup.lines ≡ false
    → cause_passes setup h (Cause.Op s i op) && s0_stream_order (Cause.Op s i op) mine ≡ false
no_line setup h s i op mine none =
    and_left (cause_passes setup h (Cause.Op s i op)) (s0_stream_order (Cause.Op s i op) mine)
    (and_right (cause_formed (Cause.Op s i op)) _ (and_right (is_host setup h && option_map_or (λ g. g == h) (stream_host setup s) false) (nat_lt (line_of op) setup.lines) none))

-- the answer to an operation
operation_answered :
    (setup : Configuration) (h s i : ℕ) (op : Op) (mine : List Event)
    → emitted_of (operation_answer setup h s i op mine)
    ≡ cond (cause_passes setup h (Cause.Op s i op) && s0_stream_order (Cause.Op s i op) mine) (paid_row setup mine (host_operates setup h s i op mine)) None
operation_answered setup h s i op mine =
    let cause = Cause.Op s i op in
    let hit = one_commit s i op (line_after op (copy setup (line_of op) mine).bytes) in
    let on_copy = hits setup op mine in
    let quiet = is_quiet (line_of op) mine in
    let victim = needs_victim setup (line_of op) mine in
    let way = victim_way setup mine in
    let tags = free_tags setup mine in
    let row = host_operates setup h s i op mine in
    answer_by setup mine (nat_lt (line_of op) setup.lines) quiet (is_short_of_tags setup op mine) (is_short_of_ways setup op mine) (cause_passes setup h cause && s0_stream_order cause mine)
    row (answer_to_operation setup h cause mine row) (no_line setup h s i op mine)
    (not_quiet setup h op mine on_copy quiet victim way tags hit) (no_tag setup h op mine on_copy quiet victim way tags hit) (no_way setup h op mine on_copy quiet victim way tags hit)
    (row_answer setup mine h cause row)

-- the answer to a take or an act by its row
paid_or_refused : (w : Emission) (lacking : Option Channel) → emitted_of (unless_lacking lacking (Answer.Emits w)) ≡ when (is_none lacking) w
paid_or_refused w (Some c) = refl
paid_or_refused w None = refl

act_answered : (setup : Configuration) (mine : List Event) (rule : RuleNo) (row : Option Emission) → emitted_of (answer_to_row setup rule mine row) ≡ paid_row setup mine row
act_answered setup mine rule None = refl
act_answered setup mine rule (Some w) = paid_or_refused w (lacking_channel setup w.sends mine)

-- behind the profile
gated : (gate : Bool) (answer : Answer) (o : Option Emission) → emitted_of answer ≡ o → emitted_of (cond gate answer (Answer.Broken RuleNo.P0)) ≡ cond gate o None
gated true answer o is = is
gated false answer o is = refl

-- with nothing more to ask
and_nothing : (b : Bool) (o : Option Emission) → cond b o None ≡ cond (b && true) o None
and_nothing true o = refl
and_nothing false o = refl

-- and where there is nothing
none_anyway : (b c : Bool) (o : Option Emission) → o ≡ None → cond b o None ≡ cond (b && c) o None
none_anyway true true o none = refl
none_anyway true false o none = none
none_anyway false c o none = refl

-- a take or an act at a host
host_row_answered :
    (setup : Configuration) (h : ℕ) (cause : Cause) (mine : List Event)
    → emitted_of (host_row_answer setup h cause mine) ≡ cond (cause_passes setup h cause && true) (paid_row setup mine (host_emission setup h cause mine)) None
host_row_answered setup h cause mine =
    let row = host_emission setup h cause mine in
    gated (cause_passes setup h cause) (answer_to_row setup (host_rule setup cause mine) mine row) (paid_row setup mine row) (act_answered setup mine (host_rule setup cause mine) row)
    ∙ and_nothing (cause_passes setup h cause) (paid_row setup mine row)

-- any cause at a host
host_answered :
    (setup : Configuration) (h : ℕ) (cause : Cause) (mine : List Event)
    → emitted_of (host_answer setup h cause mine) ≡ cond (cause_passes setup h cause && s0_stream_order cause mine) (paid_row setup mine (host_emission setup h cause mine)) None
host_answered setup h (Cause.Op s i op) mine = operation_answered setup h s i op mine
host_answered setup h (Cause.Take k m) mine = host_row_answered setup h (Cause.Take k m) mine
host_answered setup h (Cause.Act act) mine = host_row_answered setup h (Cause.Act act) mine

-- a take or an act at the device
device_row_answered :
    (setup : Configuration) (opening : List (Line × Bytes64)) (cause : Cause) (mine : List Event)
    → emitted_of (device_answer setup opening cause mine) ≡ cond (cause_passes setup device cause) (paid_row setup mine (device_emission setup opening cause mine)) None
device_row_answered setup opening cause mine =
    let row = device_emission setup opening cause mine in
    gated (cause_passes setup device cause) (answer_to_row setup (device_rule cause) mine row) (paid_row setup mine row) (act_answered setup mine (device_rule cause) row)

-- any cause at the device, which has no row for an operation
device_answered :
    (setup : Configuration) (opening : List (Line × Bytes64)) (cause : Cause) (mine : List Event)
    → emitted_of (device_answer setup opening cause mine) ≡ cond (cause_passes setup device cause && s0_stream_order cause mine) (paid_row setup mine (device_emission setup opening cause mine)) None
device_answered setup opening (Cause.Op s i op) mine =
    device_row_answered setup opening (Cause.Op s i op) mine ∙ none_anyway (cause_passes setup device (Cause.Op s i op)) (s0_stream_order (Cause.Op s i op) mine) None refl
device_answered setup opening (Cause.Take k m) mine =
    device_row_answered setup opening (Cause.Take k m) mine ∙ and_nothing (cause_passes setup device (Cause.Take k m)) (paid_row setup mine (device_emission setup opening (Cause.Take k m) mine))
device_answered setup opening (Cause.Act act) mine =
    device_row_answered setup opening (Cause.Act act) mine ∙ and_nothing (cause_passes setup device (Cause.Act act)) (paid_row setup mine (device_emission setup opening (Cause.Act act) mine))

-- a host's answer emits what its row does
pub host_answer_is_row :
    (setup : Configuration) (opening : List (Line × Bytes64)) (h : ℕ) (cause : Cause) (mine : List Event) → is_device h ≡ false
    → emitted_of (host_answer setup h cause mine) ≡ cond (cause_passes setup h cause && s0_stream_order cause mine) (emission setup opening h cause mine) None
host_answer_is_row setup opening h cause mine host =
    host_answered setup h cause mine
    ∙ ap (λ (row : Option Emission). cond (cause_passes setup h cause && s0_stream_order cause mine) (paid_row setup mine row) None) (sym (host_row setup opening h cause mine host))

-- and so does the device's
pub device_answer_is_row :
    (setup : Configuration) (opening : List (Line × Bytes64)) (cause : Cause) (mine : List Event)
    → emitted_of (device_answer setup opening cause mine) ≡ cond (cause_passes setup device cause && s0_stream_order cause mine) (emission setup opening device cause mine) None
device_answer_is_row setup opening cause mine = device_answered setup opening cause mine

-- the answer of either, by whether the agent is the device
by_agent :
    (setup : Configuration) (opening : List (Line × Bytes64)) (g : ℕ) (cause : Cause) (mine : List Event) (at : Bool) → is_device g ≡ at
    → emitted_of (agent_answer setup opening g cause mine) ≡ cond (cause_passes setup g cause && s0_stream_order cause mine) (emission setup opening g cause mine) None
by_agent setup opening g cause mine true at =
    subst (λ k. emitted_of (agent_answer setup opening k cause mine) ≡ cond (cause_passes setup k cause && s0_stream_order cause mine) (emission setup opening k cause mine) None)
    (sym (eqb-true g device at)) (device_answer_is_row setup opening cause mine)
by_agent setup opening g cause mine false at =
    ap emitted_of (cond-false (is_device g) (device_answer setup opening cause mine) (host_answer setup g cause mine) at) ∙ host_answer_is_row setup opening g cause mine at

pub answer_is_row : AnswerIsRow
answer_is_row setup opening g cause mine = by_agent setup opening g cause mine (is_device g) refl
