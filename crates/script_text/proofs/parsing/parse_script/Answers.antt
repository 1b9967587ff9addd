use Rattle.std.proofs.Common.{◌≡◌, ℕ, [], List, sym, ap, subst, ◌∙◌, arith}
use Rattle.std.proofs.lemmas.Bool.{eqb-true, eqb-false}
use Rattle.std.proofs.lemmas.List.{nil_from_length}
use Rattle.std.proofs.lemmas.Result.{err_from_is_err_and}
use Rattle.cxl_message.specs.Script.{ScriptValue}
use Rattle.script_text.specs.Drafts.{script_of}
use Rattle.script_text.specs.Spelling.{script_bytes}
use Rattle.script_text.proofs.LineLaws.{first_take}
use Rattle.script_text.proofs.Readings.{Reads, reads_start, reads_more, reads_end, reads_only, shorter, left_within, stops_in_head, stops_at_none, stops_at_refused, bad_since}
use Rattle.script_text.proofs.Failing.{fails_at_none, fails_at_refused, fails_in_head, first_place, next_place}
use Rattle.script_text.proofs.parsing.parse_script.Goals as goal

pub returns-in-Err-clause-bad : goal.returns-in-Err-clause-bad
returns-in-Err-clause-bad c = bad_since c.in-Err.refusal _ _ (λ line reason e. stops_in_head c.args.bytes.now _ e) c.in-Err.ensures.head

pub returns-in-Err-clause-fails : goal.returns-in-Err-clause-fails
returns-in-Err-clause-fails c = bad_since c.in-Err.refusal _ _ (λ line reason e. fails_in_head c.args.bytes.now line reason e) c.in-Err.ensures.head

pub loop-rest-init : goal.loop-rest-init
loop-rest-init c =
    let start = reads_start c.args.bytes.now _ c.in-Ok.ensures.head in
    let reads : Reads c.args.bytes.now (script_of c.new-draft.result) c.in-Ok.head.2.now = subst (λ (d : ScriptValue). Reads c.args.bytes.now d c.in-Ok.head.2.now) (sym c.new-draft.ensures.script) start in
    record { reads = reads; counted = c.new-draft.ensures.counted; place = first_place (script_of c.new-draft.result) _ _ c.new-draft.ensures.script; room = omega (arith, left_within _ _ _ reads) }

pub add-requires-clause-spelled : goal.add-requires-clause-spelled
add-requires-clause-spelled c = (first_take c.loop-rest.rest.now (c.in-Some.found.0, c.in-Some.found.1.now) (sym c.in-Some.ensures)).1

pub loop-rest-preserved : goal.loop-rest-preserved
loop-rest-preserved c =
    let line = c.in-Some.found.0 in
    let after = c.in-Some.found.1.now in
    let first = sym c.in-Some.ensures in
    let added = c.in_ok-add.ensures.added in
    let now = reads_more c.args.bytes.now (script_of c.loop-rest.draft) c.loop-rest.rest.now line after c.loop-rest.invariant.reads first added.allowed in
    record {
      reads = subst (λ (d : ScriptValue). Reads c.args.bytes.now d after) (sym added.script) now;
      counted = added.counted;
      place = next_place (script_of c.loop-rest.draft) _ c.loop-rest.number line c.loop-rest.invariant.reads.script added.allowed added.script c.loop-rest.invariant.place;
      room = omega (arith, c.loop-rest.invariant.room, shorter c.loop-rest.rest.now line after first);
    }

pub loop-rest-smaller : goal.loop-rest-smaller
loop-rest-smaller c = shorter c.loop-rest.rest.now c.in-Some.found.0 c.in-Some.found.1.now (sym c.in-Some.ensures)

pub returns-in-None-clause-bad : goal.returns-in-None-clause-bad
returns-in-None-clause-bad c =
    stops_at_none c.args.bytes.now (script_of c.loop-rest.draft) c.loop-rest.rest.now c.loop-rest.invariant.reads (eqb-false _ _ (sym c.loop-rest-test.ensures)) (sym c.in-None.ensures)

pub returns-in-None-clause-fails : goal.returns-in-None-clause-fails
returns-in-None-clause-fails c =
    fails_at_none c.args.bytes.now (script_of c.loop-rest.draft) c.loop-rest.rest.now c.loop-rest.number c.loop-rest.invariant.reads c.loop-rest.invariant.place (eqb-false _ _ (sym c.loop-rest-test.ensures)) (sym c.in-None.ensures)

pub returns-in_err-add-clause-fails : goal.returns-in_err-add-clause-fails
returns-in_err-add-clause-fails c =
    let p = err_from_is_err_and c.from_residual.result c.from_residual.ensures.1 in
    rw (p.1, p.2) (bad_since c.in_err-add.field-0.0 _ _ (λ line reason e. fails_at_refused c.args.bytes.now (script_of c.loop-rest.draft) c.loop-rest.rest.now line c.in-Some.found.0 c.in-Some.found.1.now reason c.loop-rest.invariant.reads (e.0 ∙ c.loop-rest.invariant.place) (sym c.in-Some.ensures) e.1) c.in_err-add.ensures.refused)

pub returns-in_err-add-clause-bad : goal.returns-in_err-add-clause-bad
returns-in_err-add-clause-bad c =
    let p = err_from_is_err_and c.from_residual.result c.from_residual.ensures.1 in
    rw (p.1, p.2) (bad_since c.in_err-add.field-0.0 _ _ (λ line reason e. stops_at_refused c.args.bytes.now (script_of c.loop-rest.draft) c.loop-rest.rest.now c.in-Some.found.0 c.in-Some.found.1.now reason c.loop-rest.invariant.reads (sym c.in-Some.ensures) e.1) c.in_err-add.ensures.refused)

pub returns-clause-spelled : goal.returns-clause-spelled
returns-clause-spelled c =
    let none : c.loop-rest.rest.now ≡ [] = nil_from_length _ (eqb-true _ _ (sym c.loop-rest-test.ensures)) in
    let reads = subst (λ (rest : List ℕ). Reads c.args.bytes.now (script_of c.loop-rest.draft) rest) none c.loop-rest.invariant.reads in
    reads_end c.args.bytes.now (script_of c.loop-rest.draft) reads ∙ ap script_bytes (sym c.new.ensures)

pub returns-clause-only : goal.returns-clause-only
returns-clause-only c =
    let none : c.loop-rest.rest.now ≡ [] = nil_from_length _ (eqb-true _ _ (sym c.loop-rest-test.ensures)) in
    let reads = subst (λ (rest : List ℕ). Reads c.args.bytes.now (script_of c.loop-rest.draft) rest) none c.loop-rest.invariant.reads in
    λ other is e. reads_only c.args.bytes.now (script_of c.loop-rest.draft) reads other is e ∙ sym c.new.ensures
