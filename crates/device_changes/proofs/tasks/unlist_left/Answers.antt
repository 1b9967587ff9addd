-- All lines that the host has left are of the block, and none but those.
use Rattle.std.proofs.Common.{◌≡◌, ◌∙◌, ◌+◌, List, [], Option, ap, sym, arith}
use Rattle.std.specs.List.{range_with_len}
use Rattle.std.specs.Option.{option_map_or}
use Rattle.cxl_message.specs.declared.states.Listing.{Listing}
use Rattle.cxl_message.specs.Codes.{span_len}
use Rattle.snoop_filter.specs.declared.blocks.Block.{Block}
use Rattle.snoop_filter.specs.Changes.{rows_set}
use Rattle.snoop_filter.specs.Filters.{FilterRecord}
use Rattle.snoop_filter.specs.Rows.{FilterRow}
use Rattle.device_record.specs.Record.{TaskRecord, left_at}
use Rattle.device_changes.specs.FilterLines.{rows_unlisted}
use Rattle.device_changes.proofs.Asked.{found_first}
use Rattle.device_changes.proofs.Standing.{all_left, the_task}
use Rattle.device_changes.proofs.Unlisted.{some_left_by, unlisted_all}
use Rattle.device_changes.proofs.tasks.unlist_left.Goals as goal

pub unlist_lines-requires-clause-block : goal.unlist_lines-requires-clause-block
unlist_lines-requires-clause-block c =
    ap (λ (b : Block). b.first.0) c.left_of.ensures.block ∙ found_first c.args.first c.in-Some.task.now c.args.tasks.now.tasks (sym c.in-Some.ensures.found)

pub returns : goal.returns
returns c =
    let h = c.args.host in
    let rows = c.args.filter.now.rows in
    let t = c.requires.answers.stands.task in
    let same : c.in-Some.task.now ≡ t = the_task c.args.first c.args.tasks.now.tasks t c.in-Some.task.now c.requires.answers.stands.found c.in-Some.ensures.found in
    let first : c.args.first + 0 ≡ c.args.first = omega arith in
    let count : c.span_len-count.result ≡ span_len t.span =
    c.span_len-count.ensures.lines ∙ ap (λ (b : Block). span_len b.span) c.block.ensures ∙ ap (λ (x : TaskRecord). span_len x.span) same in
    let left : c.left_of.result.left ≡ left_at h t = c.left_of.ensures.left ∙ ap (left_at h) same in
    let some = some_left_by (left_at h t) t.span (all_left h c.args.first c.args.tasks.now.tasks c.args.filter.now c.requires.answers) in
    c.unlist_lines.ensures
    ∙ ap {B = FilterRecord} (λ (rs : List FilterRow). record c.args.filter.now { rows = rs })
    ((λ i. rows_unlisted h (range_with_len (first i) (count i)) (left i) rows)
    ∙ unlisted_all h c.args.first (span_len t.span) (left_at h t) rows c.requires.answers.left some.0 some.1
    ∙ ap (λ (o : Option TaskRecord). rows_set (option_map_or (left_at h) o []) h Listing.I rows) (sym c.requires.answers.stands.found))
