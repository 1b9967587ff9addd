-- The sections are passed one after another.
use Rattle.std.proofs.Common.{◌∙◌, List, ap, subst, sym}
use Rattle.std.specs.Prelude.{All, flat_map, ◌++◌}
use Rattle.cxl_message.specs.Lists.{below}
use Rattle.device_record.specs.Acts.{acts_of_task, return_acts}
use Rattle.device_record.specs.Record.{TaskRecord}
use Rattle.device_state.specs.Agent.{AgentRecord}
use Rattle.device_acts.specs.Searching.{searched}
use Rattle.device_acts.specs.Sections.{Stands, serves_at, starts_at}
use Rattle.device_acts.proofs.Members.{all_stand}
use Rattle.device_acts.proofs.Passing.{searched_after}
use Rattle.device_acts.proofs.sections.pass_all.Goals as goal

pub pass_tasks-requires-clause-stand : goal.pass_tasks-requires-clause-stand
pass_tasks-requires-clause-stand c =
    let d = c.args.tables.now in
    subst (λ (ts : List TaskRecord). All (Stands d.kept) ts) (sym (c.all.ensures ∙ ap (λ (x : AgentRecord). x.kept.tasks) c.tables.view_is)) (all_stand d.setup d.kept c.requires)

pub returns : goal.returns
returns c =
    let d = c.args.tables.now in
    let hosts = below d.setup.hosts in
    let serves = flat_map (serves_at d) hosts in
    let starts = flat_map (starts_at d) hosts in
    let tasks = flat_map (acts_of_task d.setup d.kept) d.kept.tasks in
    let ends = flat_map (return_acts d.setup d.kept) hosts in
    let s0 = c.args.search.now in
    let s1 = c.pass_serves.new.search in
    let s2 = c.pass_starts.new.search in
    let s3 = c.pass_tasks.new.search in
    let s4 = c.pass_returns.new.search in
    let third = c.pass_tasks.ensures ∙ ap (λ (ts : List TaskRecord). searched (flat_map (acts_of_task d.setup d.kept) ts) s2) (c.all.ensures ∙ ap (λ (x : AgentRecord). x.kept.tasks) c.tables.view_is) in
    searched_after s0 s3 s4 ((serves ++ starts) ++ tasks) ends
    (searched_after s0 s2 s3 (serves ++ starts) tasks (searched_after s0 s1 s2 serves starts c.pass_serves.ensures c.pass_starts.ensures) third) c.pass_returns.ensures
