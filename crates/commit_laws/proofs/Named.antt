-- The commits of a stream name its operations that are done, in their order: by its host's own events, and after a run.
use Rattle.std.proofs.Common.{◌≡◌, ℕ, zero, suc, ◌+◌, Bool, true, false, cond, List, [], ◌∷◌, ◌++◌, length, map, reverse, take, Option, Some, None, refl, ap, sym, subst, ◌∙◌, arith, inl, inr}
use Rattle.std.specs.Prelude.{filter, nat_lt, option_to_list, slice_get, ◌==◌}
use Rattle.std.specs.List.{list_all}
use Rattle.std.proofs.lemmas.Bool.{and_from, and_parts, cases_Bool, eq-eqb, eqb-true, false≢true, lt-ltb, ne_eqb}
use Rattle.std.proofs.lemmas.List.{append-nil, map-append, reverse-append}
use Rattle.std.proofs.lemmas.List.Elements.{filter-append}
use Rattle.std.proofs.lemmas.Option.{same_Some, slice_get_within}
use Rattle.cxl_message.specs.declared.events.Commit.{Commit}
use Rattle.cxl_message.specs.declared.events.Event.{Event}
use Rattle.cxl_message.specs.declared.events.Op.{Op}
use Rattle.cxl_message.specs.Script.{ScriptValue}
use Rattle.cxl_message.specs.Setup.{IsWithinLimits}
use Rattle.coherence_model.specs.Fitting.{is_device}
use Rattle.coherence_model.specs.Runs.{IsRun, is_allowed, is_run}
use Rattle.coherence_model.specs.Traces.{events_of, history}
use Rattle.coherence_lemmas.proofs.Allowed.{allowed_parts}
use Rattle.coherence_lemmas.proofs.Rows.{device_row}
use Rattle.request_laws.proofs.AllPlaces.{own_events}
use Rattle.coherence_model.proofs.OwnRuns.{events_of_run, own_event}
use Rattle.coherence_model.specs.OwnRuns.{IsOwnRun, is_own_run}
use Rattle.commit_laws.specs.Begun.{done_count}
use Rattle.commit_laws.specs.Commits.{committed, named_by, numbered}
use Rattle.commit_laws.proofs.DeviceCommits.{device_commits_none}
use Rattle.commit_laws.proofs.OwnStreams.{CommitsNext, NothingMore, OneMore, StreamStep, own_step, own_streams}
use Rattle.commit_laws.proofs.Scripted.{AreScripted, IsOfScript, IsScripted, OwnScripted, own_scripted, scripted_op}
use Rattle.commit_laws.proofs.Streams.{not_the_device}

-- ---- lists of commits

-- with one more of the operations taken, one more is numbered
numbered_more : (k n : ℕ) (ops : List Op) (op : Op) → slice_get ops n ≡ Some op → numbered k (take (suc n) ops) ≡ numbered k (take n ops) ++ (n + k, op) ∷ []
numbered_more k n [] op is = let within = slice_get_within [] n op is in absurd (omega arith)
numbered_more k zero (o ∷ os) op is =
    let same : o ≡ op = cc in
    let none : k ≡ 0 + k = omega arith in
    λ i. (none i, same i) ∷ []
numbered_more k (suc n) (o ∷ os) op is =
    let moved : n + (k + 1) ≡ suc n + k = omega arith in
    ap (λ (rest : List (ℕ × Op)). (k, o) ∷ rest)
    (subst (λ (j : ℕ). numbered (k + 1) (take (suc n) os) ≡ numbered (k + 1) (take n os) ++ (j, op) ∷ []) moved (numbered_more (k + 1) n os op is))

-- one more commit: its name stands last where it is the stream's
pub committed_more : (s : ℕ) (c : Commit) (past : List Commit) → committed s (c ∷ past) ≡ committed s past ++ map named_by (cond (c.stream == s) (c ∷ []) [])
committed_more s c past =
    ap (λ (cs : List Commit). map named_by (filter (λ d. d.stream == s) cs)) (reverse-append (c ∷ []) past)
    ∙ ap (map named_by) (filter-append (λ d. d.stream == s) (reverse past) (c ∷ []))
    ∙ map-append named_by (filter (λ d. d.stream == s) (reverse past)) (filter (λ d. d.stream == s) (c ∷ []))

-- a commit of the stream
committed_own : (s : ℕ) (c : Commit) (past : List Commit) → (c.stream == s) ≡ true → committed s (c ∷ past) ≡ committed s past ++ named_by c ∷ []
committed_own s c past own = committed_more s c past ∙ ap (λ (b : Bool). committed s past ++ map named_by (cond b (c ∷ []) [])) own

-- a commit of another stream adds nothing
committed_other : (s : ℕ) (c : Commit) (past : List Commit) → (c.stream == s) ≡ false → committed s (c ∷ past) ≡ committed s past
committed_other s c past other = committed_more s c past ∙ ap (λ (b : Bool). committed s past ++ map named_by (cond b (c ∷ []) [])) other ∙ append-nil (committed s past)

-- ---- one more event

-- the commits of a stream name so many of its operations
abbrev pub NamesDone : ℕ → List Op → ℕ → List Commit → Type 0
NamesDone s ops done past = committed s past ≡ numbered 0 (take done ops)

-- with the stream's next operation committed, one more is named
one_named : (s : ℕ) (ops : List Op) (done : ℕ) (c : Commit) (past : List Commit) → (c.stream == s) ≡ true → c.index ≡ done → slice_get ops done ≡ Some c.op → NamesDone s ops done past
    → NamesDone s ops (1 + done) (c ∷ past)
one_named s ops done c past own index op before =
    let whole : done ≡ done + 0 = omega arith in
    let more : suc done ≡ 1 + done = omega arith in
    committed_own s c past own
    ∙ ap (λ (xs : List (ℕ × Op)). xs ++ named_by c ∷ []) before
    ∙ ap (λ (k : ℕ). numbered 0 (take done ops) ++ (k, c.op) ∷ []) (index ∙ whole)
    ∙ sym (numbered_more 0 done ops c.op op) ∙ ap (λ (k : ℕ). numbered 0 (take k ops)) more

-- what the commit of an own event adds
own_commit :
    (script : ScriptValue) (g s : ℕ) (ops : List Op) (done later : ℕ → ℕ) (commit : Option Commit) (past : List Commit) → slice_get script.operations s ≡ Some ops
    → CommitsNext (IsScripted script g) done later commit → NamesDone s ops (done s) past → NamesDone s ops (later s) (option_to_list commit ++ past)
own_commit script g s ops done later commit past list (NothingMore none same) before =
    subst (λ (c : Option Commit). NamesDone s ops (later s) (option_to_list c ++ past)) (sym none) (subst (λ (n : ℕ). NamesDone s ops n past) (sym (same s)) before)
own_commit script g s ops done later commit past list (OneMore c commits named index more) before =
    subst (λ (x : Option Commit). NamesDone s ops (later s) (option_to_list x ++ past)) (sym commits) (subst (λ (n : ℕ). NamesDone s ops n (c ∷ past)) (sym (more s)) (by (c.stream == s) refl))
  where
    by : (own : Bool) → (c.stream == s) ≡ own → NamesDone s ops (cond own 1 0 + done s) (c ∷ past)
    by true is =
        let same = eqb-true c.stream s is in
        let at = index ∙ ap done same in
        one_named s ops (done s) c past is at (subst (λ (i : ℕ). slice_get ops i ≡ Some c.op) at (scripted_op script g s c.index c.op ops list (subst (λ (r : ℕ). IsScripted script g r c.index c.op) same named))) before
    by false is =
        let none : done s ≡ 0 + done s = omega arith in
        subst (λ (n : ℕ). NamesDone s ops n (c ∷ past)) none (committed_other s c past is ∙ before)

-- the commit of an event: none, or one of an operation of its agent
data CommitIs (script : ScriptValue) (g : ℕ) (commit : Option Commit) : Type 0 where
  NoCommit : commit ≡ None → CommitIs script g commit
  ACommit : (c : Commit) → commit ≡ Some c → IsScripted script g c.stream c.index c.op → CommitIs script g commit

-- what an event commits next is a commit of its agent
from_next : (script : ScriptValue) (g : ℕ) (done later : ℕ → ℕ) (commit : Option Commit) → CommitsNext (IsScripted script g) done later commit → CommitIs script g commit
from_next script g done later commit (NothingMore none same) = NoCommit none
from_next script g done later commit (OneMore c commits named index more) = ACommit c commits named

-- ---- own events

-- by its own events, the commits of a stream name its operations that are done
pub own_names :
    (script : ScriptValue) (g : ℕ) → is_device g ≡ false → (s : ℕ) (ops : List Op) → slice_get script.operations s ≡ Some ops → (mine : List Event) → IsOwnRun script.setup script.opening g mine
    → OwnScripted script g mine → NamesDone s ops (done_count s mine) (history mine)
own_names script g host s ops list [] run named = refl
own_names script g host s ops list (e ∷ past) run named =
    let before = (own_event script.setup script.opening g e past run).before in
    own_commit script g s ops _ _ e.commit (history past) list (own_step script g host e past run named.0 (own_streams script g host past before named.1)).commits
    (own_names script g host s ops list past before named.1)

-- ---- a run

-- what an event of a run whose operations are a script's does to its host's streams
host_event :
    (script : ScriptValue) (e : Event) (past : List Event) → IsRun script.setup script.opening (e ∷ past) → AreScripted script (e ∷ past) → (g : ℕ) → is_device g ≡ false → (e.agent == g) ≡ true
    → StreamStep (IsScripted script g) e.cause e.sends e.commit (events_of g past)
host_event script e past run named g host own =
    let before = (and_parts (is_run script.setup script.opening past) (is_allowed script.setup script.opening past e) run).0 in
    own_step script g host e (events_of g past)
    (subst (λ (mine : List Event). is_own_run script.setup script.opening g mine ≡ true) (sym (own_events g e past own)) (events_of_run script.setup script.opening g (e ∷ past) run))
    (subst (λ (k : ℕ). IsOfScript script k e.cause) (eqb-true e.agent g own) named.0)
    (own_streams script g host (events_of g past) (events_of_run script.setup script.opening g past before) (own_scripted script g past named.1))

-- the commit of such an event
event_commit : (script : ScriptValue) (e : Event) (past : List Event) → IsRun script.setup script.opening (e ∷ past) → AreScripted script (e ∷ past) → CommitIs script e.agent e.commit
event_commit script e past run named =
    elim (cases_Bool (is_device e.agent)) [
      | inl at ↦
          let parts = allowed_parts script.setup script.opening past e (and_parts (is_run script.setup script.opening past) (is_allowed script.setup script.opening past e) run).1 in
          NoCommit (parts.row.commit ∙ device_commits_none script.setup script.opening e.cause (events_of e.agent past) parts.row.w
          (sym (device_row script.setup script.opening e.agent e.cause (events_of e.agent past) at) ∙ parts.row.row))
      | inr host ↦
          from_next script e.agent _ _ e.commit (host_event script e past run named e.agent host (eq-eqb e.agent e.agent refl)).commits
    ]

-- another agent's commit isn't the stream's
foreign_commit :
    (script : ScriptValue) (g h s : ℕ) (ops : List Op) (done : ℕ) (commit : Option Commit) (past : List Commit) → slice_get script.setup.streams s ≡ Some h → (g == h) ≡ false → CommitIs script g commit
    → NamesDone s ops done past → NamesDone s ops done (option_to_list commit ++ past)
foreign_commit script g h s ops done commit past host foreign (NoCommit none) before = subst (λ (c : Option Commit). NamesDone s ops done (option_to_list c ++ past)) (sym none) before
foreign_commit script g h s ops done commit past host foreign (ACommit c commits named) before =
    subst (λ (x : Option Commit). NamesDone s ops done (option_to_list x ++ past)) (sym commits)
    (committed_other s c past (ne_eqb c.stream s (λ same.
    false≢true (sym foreign ∙ eq-eqb g h (same_Some g h (sym (subst (λ (r : ℕ). slice_get script.setup.streams r ≡ Some g) same named.host) ∙ host))))) ∙ before)

-- one more event
names_step :
    (script : ScriptValue) → IsWithinLimits script.setup → (s h : ℕ) (ops : List Op) → slice_get script.setup.streams s ≡ Some h → slice_get script.operations s ≡ Some ops → (e : Event) (past : List Event)
    → IsRun script.setup script.opening (e ∷ past) → AreScripted script (e ∷ past) → NamesDone s ops (done_count s (events_of h past)) (history past) → (own : Bool) → (e.agent == h) ≡ own
    → NamesDone s ops (done_count s (cond own (e ∷ events_of h past) (events_of h past))) (option_to_list e.commit ++ history past)
names_step script limits s h ops host list e past run named before true is =
    own_commit script h s ops _ _ e.commit (history past) list (host_event script e past run named h (not_the_device script.setup limits s h host) is).commits before
names_step script limits s h ops host list e past run named before false is =
    foreign_commit script e.agent h s ops (done_count s (events_of h past)) e.commit (history past) host is (event_commit script e past run named) before

-- the commits of a stream name its operations that are done
pub names_done :
    (script : ScriptValue) → IsWithinLimits script.setup → (s h : ℕ) (ops : List Op) → slice_get script.setup.streams s ≡ Some h → slice_get script.operations s ≡ Some ops → (t : List Event)
    → IsRun script.setup script.opening t → AreScripted script t → committed s (history t) ≡ numbered 0 (take (done_count s (events_of h t)) ops)
names_done script limits s h ops host list [] run named = refl
names_done script limits s h ops host list (e ∷ past) run named =
    let before = (and_parts (is_run script.setup script.opening past) (is_allowed script.setup script.opening past e) run).0 in
    names_step script limits s h ops host list e past run named (names_done script limits s h ops host list past before named.1) (e.agent == h) refl

-- each commit is of a stream that there is
no_other_by : (script : ScriptValue) (g : ℕ) (commit : Option Commit) (past : List Commit) → CommitIs script g commit → list_all (λ c. nat_lt c.stream (length script.operations)) past ≡ true
    → list_all (λ c. nat_lt c.stream (length script.operations)) (option_to_list commit ++ past) ≡ true
no_other_by script g commit past (NoCommit none) before =
    subst (λ (c : Option Commit). list_all (λ c. nat_lt c.stream (length script.operations)) (option_to_list c ++ past) ≡ true) (sym none) before
no_other_by script g commit past (ACommit c commits named) before =
    subst (λ (x : Option Commit). list_all (λ c. nat_lt c.stream (length script.operations)) (option_to_list x ++ past) ≡ true) (sym commits)
    (and_from _ _ (lt-ltb c.stream (length script.operations) (slice_get_within script.operations c.stream named.list named.operations)) before)

-- each commit of such a run is of a stream that there is
pub no_other : (script : ScriptValue) (t : List Event) → IsRun script.setup script.opening t → AreScripted script t → list_all (λ c. nat_lt c.stream (length script.operations)) (history t) ≡ true
no_other script [] run named = refl
no_other script (e ∷ past) run named =
    let before = (and_parts (is_run script.setup script.opening past) (is_allowed script.setup script.opening past e) run).0 in
    no_other_by script e.agent e.commit (history past) (event_commit script e past run named) (no_other script past before named.1)
