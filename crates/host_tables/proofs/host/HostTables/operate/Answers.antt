-- A request that keeps its way drops nothing, and one that takes a way drops its victim's.
use Rattle.std.proofs.Common.{None, Some, ap, subst, true, ℕ, ◌∙◌}
use Rattle.coherence_model.specs.Emission.{Emission}
use Rattle.event_room.specs.Parts.{commit_of, sends_of}
use Rattle.std.specs.Prelude.{option_map}
use Rattle.host_plans.specs.Plans.{PlanHolds, planned_emission}
use Rattle.host_record.specs.HostChanges.{pay_all, stream_begins}
use Rattle.host_record.specs.Ways.{add_way, drop_way_of}
use Rattle.host_tables.specs.Agent.{AgentRecord}
use Rattle.host_tables.specs.Operating.{opened_all}
use Rattle.host_tables.proofs.Changes.{drop_goes, request_goes}
use Rattle.host_tables.proofs.host.HostTables.operate.Goals as goal

pub returns-in-Request : goal.returns-in-Request
returns-in-Request c =
    let a = c.args in
    let old : AgentRecord = a.self.now in
    let w : Emission = record { sends = sends_of a.sends; commit = option_map commit_of a.commit } in
    let holds = subst (λ p. PlanHolds old.setup.ways old.setup.lines old.kept.ways old.kept.busy a.op.now p) c.in-Request.is c.requires.holds in
    let emits = c.requires.goes_on.emits ∙ ap (λ p. planned_emission old.host a.stream a.index old.kept.ways a.op.now p) c.in-Request.is in
    let entered = c.enter.ensures ∙ ap (λ (n : ℕ). record old { kept = record old.kept { ways = add_way n (drop_way_of None old.kept.ways) } }) c.line.ensures in
    let began = c.begin-in-Request.ensures ∙ ap (λ (x : AgentRecord). record x { kept = record x.kept { streams = stream_begins a.stream true x.kept.streams } }) entered in
    c.pay_all.ensures
    ∙ ap (λ (x : AgentRecord). record x { kept = pay_all (sends_of a.sends) x.kept }) c.open_all.ensures
    ∙ ap (λ (x : AgentRecord). record x { kept = pay_all (sends_of a.sends) (opened_all a.stream a.index a.op.now (sends_of a.sends) x.kept) }) began
    ∙ ap (λ k. record old { kept = k }) (request_goes old.setup old.host a.stream a.index a.op.now old.kept c.in-Request.tag w holds emits)

pub returns-in-Drop : goal.returns-in-Drop
returns-in-Drop c =
    let a = c.args in
    let old : AgentRecord = a.self.now in
    let w : Emission = record { sends = sends_of a.sends; commit = option_map commit_of a.commit } in
    let v : ℕ = c.in-Drop.victim.0 in
    let holds = subst (λ p. PlanHolds old.setup.ways old.setup.lines old.kept.ways old.kept.busy a.op.now p) c.in-Drop.is c.requires.holds in
    let emits = c.requires.goes_on.emits ∙ ap (λ p. planned_emission old.host a.stream a.index old.kept.ways a.op.now p) c.in-Drop.is in
    let entered = c.enter-in-Drop.ensures ∙ ap (λ (n : ℕ). record old { kept = record old.kept { ways = add_way n (drop_way_of (Some v) old.kept.ways) } }) c.line-in-Drop.ensures in
    let began = c.begin-in-Drop.ensures ∙ ap (λ (x : AgentRecord). record x { kept = record x.kept { streams = stream_begins a.stream true x.kept.streams } }) entered in
    c.pay_all-in-Drop.ensures
    ∙ ap (λ (x : AgentRecord). record x { kept = pay_all (sends_of a.sends) x.kept }) c.open_all-in-Drop.ensures
    ∙ ap (λ (x : AgentRecord). record x { kept = pay_all (sends_of a.sends) (opened_all a.stream a.index a.op.now (sends_of a.sends) x.kept) }) began
    ∙ ap (λ k. record old { kept = k }) (drop_goes old.setup old.host a.stream a.index a.op.now old.kept c.in-Drop.victim c.in-Drop.tag w holds emits)
