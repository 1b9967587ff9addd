-- A run follows a script exactly where each of its operations is the script's.
use Rattle.std.proofs.Common.{◌≡◌, ℕ, Bool, true, false, cond, List, [], ◌∷◌, ◌++◌, length, Some, refl, ap, sym, subst, ◌∙◌, append_assoc}
use Rattle.std.specs.Prelude.{slice_get, ◌==◌}
use Rattle.std.proofs.lemmas.Bool.{and_parts, cond-true, eq-eqb, eqb-true}
use Rattle.std.proofs.lemmas.Option.{none-some, same_Some}
use Rattle.cxl_message.specs.declared.events.Cause.{Cause}
use Rattle.cxl_message.specs.declared.events.Event.{Event}
use Rattle.cxl_message.specs.declared.events.Op.{Op}
use Rattle.cxl_message.specs.Script.{ScriptValue}
use Rattle.cxl_message.specs.Setup.{stream_host}
use Rattle.coherence_model.specs.Fitting.{cause_fits}
use Rattle.coherence_model.specs.Rules.{s0_stream_order}
use Rattle.coherence_model.specs.Runs.{IsRun, is_allowed, is_run}
use Rattle.coherence_model.specs.Streams.{begun_count}
use Rattle.coherence_model.specs.Traces.{events_of}
use Rattle.coherence_lemmas.proofs.Allowed.{allowed_parts, profiled}
use Rattle.coherence_model.proofs.OwnRuns.{own_event}
use Rattle.coherence_model.specs.OwnRuns.{IsOwnRun}
use Rattle.commit_laws.specs.Begun.{BeginsWith, Follows, ListsEachStream, begun_by, operations_of}
use Rattle.commit_laws.specs.Laws.{FollowedFrontIsFollowed}
use Rattle.commit_laws.proofs.Begun.{begun_are_counted, own_are_counted}
use Rattle.commit_laws.proofs.OwnStreams.{in_order_parts}
use Rattle.commit_laws.proofs.Scripted.{AreScripted, IsOfScript, IsScripted, OwnScripted}
use Rattle.commit_laws.proofs.Streams.{fits_host, list_of}

-- ---- fronts

-- a list that begins with two parts begins with the first
first_part : (ops front more : List Op) → BeginsWith ops (front ++ more) → BeginsWith ops front
first_part ops front more begins = (more ++ begins.0, begins.1 ∙ append_assoc front more begins.0)

-- so a trace that follows a script does without its last event
follows_before : (script : ScriptValue) (e : Event) (past : List Event) → Follows script (e ∷ past) → Follows script past
follows_before script e past follows s ops list = first_part ops (operations_of s past) (begun_by s e.cause) (follows s ops list)

pub followed_front : FollowedFrontIsFollowed
followed_front script [] past follows = follows
followed_front script (e ∷ later) past follows = followed_front script later past (follows_before script e (later ++ past) follows)

-- the element after a front stands at the front's length
at_seam : (xs rest : List Op) (op : Op) → slice_get ((xs ++ op ∷ []) ++ rest) (length xs) ≡ Some op
at_seam [] rest op = refl
at_seam (x ∷ xs) rest op = at_seam xs rest op

-- ---- from a script's fronts to its operations

-- what an operation begins in its stream's order is the script's, where the operations before it are as many as were begun
scripted_cause :
    (script : ScriptValue) → ListsEachStream script → (g : ℕ) (cause : Cause) (fronts : ℕ → List Op) (mine : List Event) → cause_fits script.setup g cause ≡ true → s0_stream_order cause mine ≡ true
    → ((s : ℕ) → stream_host script.setup s ≡ Some g → length (fronts s) ≡ begun_count s mine)
    → ((s : ℕ) (ops : List Op) → slice_get script.operations s ≡ Some ops → BeginsWith ops (fronts s ++ begun_by s cause)) → IsOfScript script g cause
scripted_cause script lists g (Cause.Op k i op) fronts mine fits order counted follows =
    let host = fits_host script.setup g k i op fits in
    let list = list_of script lists k g host in
    let begins = follows k list.0 list.1 in
    let whole : list.0 ≡ (fronts k ++ op ∷ []) ++ begins.0 = begins.1 ∙ ap (λ (ys : List Op). (fronts k ++ ys) ++ begins.0) (cond-true (k == k) (op ∷ []) [] (eq-eqb k k refl)) in
    let at : length (fronts k) ≡ i = counted k host ∙ sym (in_order_parts k i op mine order).index in
    record {
      host = host;
      list = list.0;
      operations = list.1;
      is = subst (λ (n : ℕ). slice_get list.0 n ≡ Some op) at (ap (λ (xs : List Op). slice_get xs (length (fronts k))) whole ∙ at_seam (fronts k) begins.0 op);
    }
scripted_cause script lists g (Cause.Take k m) fronts mine fits order counted follows = tt
scripted_cause script lists g (Cause.Act act) fronts mine fits order counted follows = tt

-- all operations of a run that follows a script are the script's
pub are_scripted : (script : ScriptValue) → ListsEachStream script → (t : List Event) → IsRun script.setup script.opening t → Follows script t → AreScripted script t
are_scripted script lists [] run follows = tt
are_scripted script lists (e ∷ past) run follows =
    let runs = and_parts (is_run script.setup script.opening past) (is_allowed script.setup script.opening past e) run in
    let parts = allowed_parts script.setup script.opening past e runs.1 in (
      scripted_cause script lists e.agent e.cause (λ s. operations_of s past) (events_of e.agent past) parts.profile.cause parts.stream
          (λ s host. begun_are_counted script.setup script.opening past runs.0 s e.agent host) follows,
      are_scripted script lists past runs.0 (follows_before script e past follows),
    )

-- so are those of one agent's own events
pub own_are_scripted : (script : ScriptValue) → ListsEachStream script → (g : ℕ) (mine : List Event) → IsOwnRun script.setup script.opening g mine → Follows script mine → OwnScripted script g mine
own_are_scripted script lists g [] run follows = tt
own_are_scripted script lists g (e ∷ past) run follows =
    let own = own_event script.setup script.opening g e past run in
    let fits = subst (λ (k : ℕ). cause_fits script.setup k e.cause ≡ true) own.agent (profiled script.setup e own.profile).cause in
    (scripted_cause script lists g e.cause (λ s. operations_of s past) past fits own.stream (λ s host. own_are_counted s past) follows, own_are_scripted script lists g past own.before (follows_before script e past follows))

-- ---- from a script's operations to its fronts

-- what stands after a front, at its length, is the first of the rest
first_of_rest : (xs rest : List Op) (op : Op) → slice_get (xs ++ rest) (length xs) ≡ Some op → (more : List Op) × (rest ≡ op ∷ more)
first_of_rest [] [] op is = absurd (none-some op is)
first_of_rest [] (r ∷ rest) op is = let same : r ≡ op = cc in (rest, ap (λ (x : Op). x ∷ rest) same)
first_of_rest (x ∷ xs) rest op is = first_of_rest xs rest op is

-- with the next operation a front is one longer
front_grows : (ops xs : List Op) (op : Op) → BeginsWith ops xs → slice_get ops (length xs) ≡ Some op → BeginsWith ops (xs ++ op ∷ [])
front_grows ops xs op begins is =
    let rest = first_of_rest xs begins.0 op (sym (ap (λ (ys : List Op). slice_get ys (length xs)) begins.1) ∙ is) in
    (rest.0, begins.1 ∙ ap (λ (ys : List Op). xs ++ ys) rest.1 ∙ sym (append_assoc xs (op ∷ []) rest.0))

-- a front with nothing more
front_stays : (ops xs : List Op) → BeginsWith ops xs → BeginsWith ops (xs ++ [])
front_stays ops xs begins = (begins.0, begins.1 ∙ sym (append_assoc xs [] begins.0))

-- an operation of another stream, or the next of this one
front_by :
    (script : ScriptValue) (g k i : ℕ) (op : Op) (s : ℕ) (ops xs : List Op) (b : Bool) → (k == s) ≡ b → slice_get script.operations s ≡ Some ops → IsScripted script g k i op → (k ≡ s → i ≡ length xs)
    → BeginsWith ops xs → BeginsWith ops (xs ++ cond b (op ∷ []) [])
front_by script g k i op s ops xs true is list named index begins =
    let same = eqb-true k s is in
    let mine = same_Some ops named.list (sym list ∙ ap (slice_get script.operations) (sym same) ∙ named.operations) in
    front_grows ops xs op begins (ap (slice_get ops) (sym (index same)) ∙ ap (λ (ys : List Op). slice_get ys i) mine ∙ named.is)
front_by script g k i op s ops xs false is list named index begins = front_stays ops xs begins

-- one more cause of a script keeps its fronts
front_step :
    (script : ScriptValue) (g : ℕ) (cause : Cause) (past : List Event) → IsRun script.setup script.opening past → s0_stream_order cause (events_of g past) ≡ true → IsOfScript script g cause
    → (s : ℕ) (ops : List Op) → slice_get script.operations s ≡ Some ops → BeginsWith ops (operations_of s past) → BeginsWith ops (operations_of s past ++ begun_by s cause)
front_step script g (Cause.Op k i op) past run order named s ops list begins =
    front_by script g k i op s ops (operations_of s past) (k == s) refl list named
    (λ same. (in_order_parts k i op (events_of g past) order).index ∙ sym (begun_are_counted script.setup script.opening past run k g named.host) ∙ ap (λ (r : ℕ). length (operations_of r past)) same) begins
front_step script g (Cause.Take k m) past run order named s ops list begins = front_stays ops (operations_of s past) begins
front_step script g (Cause.Act act) past run order named s ops list begins = front_stays ops (operations_of s past) begins

-- a run whose operations are a script's follows it
pub scripted_follows : (script : ScriptValue) (t : List Event) → IsRun script.setup script.opening t → AreScripted script t → Follows script t
scripted_follows script [] run named s ops list = (ops, refl)
scripted_follows script (e ∷ past) run named s ops list =
    let runs = and_parts (is_run script.setup script.opening past) (is_allowed script.setup script.opening past e) run in
    front_step script e.agent e.cause past runs.0 (allowed_parts script.setup script.opening past e runs.1).stream named.0 s ops list (scripted_follows script past runs.0 named.1 s ops list)
