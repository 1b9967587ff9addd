-- The message of the number is served.
use Rattle.std.proofs.Common.{◌∙◌, Bool, List, [], ◌∷◌, ap, cond, sym}
use Rattle.std.specs.Prelude.{option_map, slice_get}
use Rattle.cxl_message.specs.declared.events.Act.{Act}
use Rattle.cxl_message.specs.declared.messages.Message.{Message}
use Rattle.device_record.specs.Acts.{tag_named}
use Rattle.device_record.specs.Record.{writes_at}
use Rattle.device_state.specs.Agent.{AgentRecord}
use Rattle.device_acts.specs.Searching.{searched}
use Rattle.device_acts.proofs.Passing.{no_serve, serve_is}
use Rattle.device_acts.proofs.sections.pass_serve.Goals as goal

pub returns-in-Some : goal.returns-in-Some
returns-in-Some c =
    let d = c.args.tables.now in
    let o = slice_get (writes_at c.args.host d.kept.writes) c.args.number in
    let tag = sym c.in-Some.is ∙ c.tag_at.ensures.tag ∙ ap (λ (x : AgentRecord). option_map (λ (m : Message). tag_named m) (slice_get (writes_at c.args.host x.kept.writes) c.args.number)) c.tables.view_is in
    c.pass_if.ensures ∙ ap (λ (b : Bool). searched (cond b (Act.Serve c.args.host c.in-Some.tag ∷ []) []) c.args.search.now) c.may_serve.ensures
    ∙ ap (λ (l : List Act). searched l c.args.search.now) (serve_is d.setup d.kept c.args.host c.in-Some.tag o tag)

pub returns-in-None : goal.returns-in-None
returns-in-None c =
    let d = c.args.tables.now in
    let o = slice_get (writes_at c.args.host d.kept.writes) c.args.number in
    let none = sym c.in-None.is ∙ c.tag_at.ensures.tag ∙ ap (λ (x : AgentRecord). option_map (λ (m : Message). tag_named m) (slice_get (writes_at c.args.host x.kept.writes) c.args.number)) c.tables.view_is in
    ap (λ (l : List Act). searched l c.args.search.now) (no_serve d.setup d.kept c.args.host o none)
