-- Any trace follows the script of the operations that it began.
use Rattle.std.proofs.Common.{◌≡◌, ℕ, zero, suc, ◌+◌, true, List, [], ◌∷◌, length, Some, refl, ap, sym, subst, ◌∙◌, arith, append-nil}
use Rattle.std.specs.Prelude.{nat_lt, slice_get}
use Rattle.std.specs.List.{list_all}
use Rattle.std.proofs.lemmas.Option.{none-some, same_Some}
use Rattle.cxl_message.specs.declared.events.Event.{Event}
use Rattle.cxl_message.specs.declared.events.Op.{Op}
use Rattle.cxl_message.specs.declared.identifiers.Bytes64.{Bytes64}
use Rattle.cxl_message.specs.declared.identifiers.Line.{Line}
use Rattle.cxl_message.specs.Script.{ScriptValue}
use Rattle.cxl_message.specs.Setup.{Configuration}
use Rattle.coherence_model.specs.Runs.{IsRun}
use Rattle.coherence_model.specs.Traces.{history}
use Rattle.commit_laws.specs.Begun.{Follows, operations_of}
use Rattle.commit_laws.specs.Laws.{CommitsAreFirst, NoOtherCommits}
use Rattle.commit_laws.proofs.Fronts.{are_scripted}
use Rattle.commit_laws.proofs.Named.{names_done, no_other}
use Rattle.commit_laws.proofs.Scripted.{AreScripted}

-- the operations of so many streams, numbered from n on (own rule)
abbrev pub lists_from : ℕ → List ℕ → List Event → List (List Op)
lists_from n [] t = []
lists_from n (h ∷ hosts) t = operations_of n t ∷ lists_from (n + 1) hosts t

-- the script of the operations that a trace began (own rule)
abbrev pub script_of : Configuration → List (Line × Bytes64) → List Event → ScriptValue
script_of setup opening t = record { setup = setup; names = []; room = 0; opening = opening; operations = lists_from 0 setup.streams t; picks = [] }

-- there are as many lists as streams
pub lists_long : (n : ℕ) (hosts : List ℕ) (t : List Event) → length (lists_from n hosts t) ≡ length hosts
lists_long n [] t = refl
lists_long n (h ∷ hosts) t = ap suc (lists_long (n + 1) hosts t)

-- each is that of its stream
pub list_at : (n : ℕ) (hosts : List ℕ) (t : List Event) (s h : ℕ) → slice_get hosts s ≡ Some h → slice_get (lists_from n hosts t) s ≡ Some (operations_of (s + n) t)
list_at n [] t s h is = absurd (none-some h is)
list_at n (g ∷ hosts) t zero h is = let none : n ≡ zero + n = omega arith in ap (λ (k : ℕ). Some (operations_of k t)) none
list_at n (g ∷ hosts) t (suc s) h is =
    let moved : s + (n + 1) ≡ suc s + n = omega arith in
    list_at (n + 1) hosts t s h is ∙ ap (λ (k : ℕ). Some (operations_of k t)) moved

-- whatever is there is that of its stream
pub list_is : (n : ℕ) (hosts : List ℕ) (t : List Event) (s : ℕ) (ops : List Op) → slice_get (lists_from n hosts t) s ≡ Some ops → operations_of (s + n) t ≡ ops
list_is n [] t s ops is = absurd (none-some ops is)
list_is n (g ∷ hosts) t zero ops is = let none : zero + n ≡ n = omega arith in ap (λ (k : ℕ). operations_of k t) none ∙ same_Some (operations_of n t) ops is
list_is n (g ∷ hosts) t (suc s) ops is =
    let moved : suc s + n ≡ s + (n + 1) = omega arith in
    ap (λ (k : ℕ). operations_of k t) moved ∙ list_is (n + 1) hosts t s ops is

-- the run follows it
pub run_follows : (setup : Configuration) (opening : List (Line × Bytes64)) (t : List Event) → Follows (script_of setup opening t) t
run_follows setup opening t s ops list =
    let whole : s ≡ s + 0 = omega arith in
    ([], sym (ap (λ (k : ℕ). operations_of k t) whole ∙ list_is 0 setup.streams t s ops list) ∙ sym (append-nil (operations_of s t)))

-- so its operations are that script's
pub run_scripted : (setup : Configuration) (opening : List (Line × Bytes64)) (t : List Event) → IsRun setup opening t → AreScripted (script_of setup opening t) t
run_scripted setup opening t run = are_scripted (script_of setup opening t) (lists_long 0 setup.streams t) t run (run_follows setup opening t)

pub commits_are_first : CommitsAreFirst
commits_are_first setup opening limits t run s h host =
    let whole : s + 0 ≡ s = omega arith in
    names_done (script_of setup opening t) limits s h (operations_of s t) host (list_at 0 setup.streams t s h host ∙ ap (λ (k : ℕ). Some (operations_of k t)) whole) t run (run_scripted setup opening t run)

pub no_other_commits : NoOtherCommits
no_other_commits setup opening t run =
    subst (λ (n : ℕ). list_all (λ c. nat_lt c.stream n) (history t) ≡ true) (lists_long 0 setup.streams t) (no_other (script_of setup opening t) t run (run_scripted setup opening t run))
