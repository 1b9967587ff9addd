-- The snoops are passed, and then the end.
use Rattle.std.proofs.Common.{◌∙◌, [], ◌∷◌, cond, sym}
use Rattle.std.specs.Prelude.{flat_map}
use Rattle.cxl_message.specs.declared.events.Act.{Act}
use Rattle.cxl_message.specs.Lists.{below}
use Rattle.device_record.specs.Acts.{act_if, acts_of_task}
use Rattle.device_acts.specs.Searching.{searched}
use Rattle.device_acts.specs.Sections.{first_of, snoop_for}
use Rattle.device_acts.proofs.Passing.{searched_after, stays}
use Rattle.device_acts.proofs.Tasks.{passes_unfinished}
use Rattle.device_acts.proofs.sections.pass_task.Goals as goal

pub returns-then-is_found : goal.returns-then-is_found
returns-then-is_found c =
    let d = c.args.tables.now in
    stays (acts_of_task d.setup d.kept c.args.task.now) c.args.search.now (sym c.is_found.ensures ∙ c.if-is_found.true)

pub returns-then-pass_snoops : goal.returns-then-pass_snoops
returns-then-pass_snoops c =
    let d = c.args.tables.now in
    let t = c.args.task.now in
    let s1 = c.pass_snoops.new.search in
    let ends = c.pass_if.ensures ∙ (λ i. searched (cond (c.may_finish.ensures i) (Act.Finish (record { 0 = c.first.ensures i }) ∷ []) []) s1) in
    searched_after c.args.search.now s1 c.pass_if.new.search (flat_map (snoop_for d t) (below d.setup.hosts)) (act_if d.setup d.kept (Act.Finish (first_of t))) c.pass_snoops.ensures.passed ends

pub returns-else-pass_snoops : goal.returns-else-pass_snoops
returns-else-pass_snoops c =
    let d = c.args.tables.now in
    let t = c.args.task.now in
    let s1 = c.pass_snoops.new.search in
    searched_after c.args.search.now s1 s1 (flat_map (snoop_for d t) (below d.setup.hosts)) (act_if d.setup d.kept (Act.Finish (first_of t))) c.pass_snoops.ensures.passed
    (passes_unfinished d t s1 c.requires.stands (sym c.pass_snoops.ensures.finished ∙ c.if-pass_snoops.false))
