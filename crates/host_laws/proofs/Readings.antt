-- Which lines are Open at a host, what is pending, and what it adds to the weight, by its record.
use Rattle.std.proofs.Common.{Bool, List, None, Option, Some, ap, arith, false, refl, true, ℕ, ◌*◌, ◌+◌, ◌∙◌, ◌≡◌}
use Rattle.std.specs.Prelude.{is_some, not, option_map, sum_by, ◌&&◌, ◌||◌}
use Rattle.std.specs.List.{list_any}
use Rattle.cxl_message.specs.declared.channels.Channel.{Channel}
use Rattle.cxl_message.specs.Lists.{below}
use Rattle.coherence_model.specs.Snoops.{Snoop, buffered_snoops, host_owed, is_quiet, is_snooped}
use Rattle.coherence_model.specs.Transactions.{Transaction, is_open, open_at}
use Rattle.coherence_model.specs.Weight.{snoop_weight, stage_weight}
use Rattle.request_laws.proofs.OwnRuns.{host_is_no_device}
use Rattle.host_record.specs.Laws.{RecordsOpen, RecordsPend, RecordsWeigh}
use Rattle.host_laws.proofs.Keeps.{keeps}
use Rattle.host_laws.proofs.Lookups.{line_tag_is, stage_is}
use Rattle.host_laws.proofs.Ranges.{ranges}
use Rattle.host_laws.proofs.TableLemmas.{any_table}

some_tag : (x : Option Transaction) → is_some (option_map (λ (o : Transaction). o.tag) x) ≡ is_some x
some_tag None = refl
some_tag (Some o) = refl

pub records_open : RecordsOpen
records_open setup opening limits h low mine run a =
    ap is_some (line_tag_is setup h mine (keeps setup opening h (host_is_no_device setup limits h low) mine run).back a) ∙ some_tag (open_at a mine)

busy_is : (o s : Bool) → not (not o && not s) ≡ (o || s)
busy_is true s = refl
busy_is false true = refl
busy_is false false = refl

pub records_pend : RecordsPend
records_pend setup opening limits h low mine run =
    any_table (λ b. b) (λ a. not (is_quiet a mine)) (below setup.lines)
    ∙ ap (λ (p : ℕ → Bool). list_any p (below setup.lines)) (λ j a. busy_is (is_open a mine) (is_snooped a mine) j)

owed_sum : (a b c : ℕ) → a + (b + c) ≡ ((0 + a) + b) + c
owed_sum a b c = omega arith

pub records_weigh : RecordsWeigh
records_weigh setup opening limits h low mine run =
    let r = ranges setup opening h (host_is_no_device setup limits h low) mine run in
    ap (λ (f : Snoop → ℕ). 2 * (host_owed h Channel.Ndr mine + (host_owed h Channel.Drs mine + host_owed h Channel.BiSnp mine)) + sum_by f (buffered_snoops mine))
    (λ j x. 2 + sum_by (λ a. stage_weight (stage_is setup h mine r a j)) x.unanswered)
    ∙ ap (λ n. 2 * n + sum_by (snoop_weight setup mine) (buffered_snoops mine)) (owed_sum (host_owed h Channel.Ndr mine) (host_owed h Channel.Drs mine) (host_owed h Channel.BiSnp mine))
