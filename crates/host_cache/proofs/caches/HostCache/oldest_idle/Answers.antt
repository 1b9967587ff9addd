use Rattle.std.proofs.Common.{ap, rules, sym, tests, ◌∙◌, ℕ, false}
use Rattle.std.specs.Prelude.{not, option_map}
use Rattle.std.proofs.lemmas.Iterator.Consumers.{YieldsList-from_rest}
use Rattle.std.proofs.lemmas.Iterator.Search.{find_from_yields_List}
use Rattle.host_record.specs.Tables.{place_or}
use Rattle.host_cache.specs.Caches.{line_named}
use Rattle.host_cache.proofs.Dropped.{idle_found}
use Rattle.host_cache.proofs.caches.HostCache.oldest_idle.Goals as goal

pub returns-in_err-line : goal.returns-in_err-line
returns-in_err-line c =
    let found = find_from_yields_List (λ a. not (place_or false c.args.busy.now a)) _ _ c.find.result c.find.ensures.ran (YieldsList-from_rest {shows = λ (n : ℕ). n} c.self.inside.order.listed c.iter.ensures.value) (λ x b q k. search (rules, tests)) in
    record { value = c.from_residual.ensures ∙ ap (option_map line_named) (sym c.in_err-line.was) ∙ idle_found _ c.self.inside.pool c.self.inside.order _ c.args.busy.now c.find.result c.self.view_is found }

pub returns : goal.returns
returns c =
    let found = find_from_yields_List (λ a. not (place_or false c.args.busy.now a)) _ _ c.find.result c.find.ensures.ran (YieldsList-from_rest {shows = λ (n : ℕ). n} c.self.inside.order.listed c.iter.ensures.value) (λ x b q k. search (rules, tests)) in
    record { value = ap (option_map line_named) (sym c.in_ok-line.was) ∙ idle_found _ c.self.inside.pool c.self.inside.order _ c.args.busy.now c.find.result c.self.view_is found }
