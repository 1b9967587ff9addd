use Rattle.std.proofs.Common.{ap, sym, ◌∙◌, ℕ}
use Rattle.std.specs.Prelude.{option_map}
use Rattle.std.proofs.lemmas.Iterator.Consumers.{YieldsList-from_rest, nth_from_yields_List}
use Rattle.host_cache.specs.Caches.{line_named}
use Rattle.host_cache.proofs.Dropped.{way_found}
use Rattle.host_cache.proofs.caches.HostCache.way_at.Goals as goal

pub returns-in_err-line : goal.returns-in_err-line
returns-in_err-line c =
    let found = nth_from_yields_List c.nth.result c.nth.new.self c.args.k c.nth.ensures.ran (YieldsList-from_rest {shows = λ (n : ℕ). n} c.self.inside.order.listed c.iter.ensures.value) in
    record { value = c.from_residual.ensures ∙ ap (option_map line_named) (sym c.in_err-line.was) ∙ way_found _ c.self.inside.pool c.self.inside.order _ c.args.k c.nth.result c.self.view_is found }

pub returns : goal.returns
returns c =
    let found = nth_from_yields_List c.nth.result c.nth.new.self c.args.k c.nth.ensures.ran (YieldsList-from_rest {shows = λ (n : ℕ). n} c.self.inside.order.listed c.iter.ensures.value) in
    record { value = ap (option_map line_named) (sym c.in_ok-line.was) ∙ way_found _ c.self.inside.pool c.self.inside.order _ c.args.k c.nth.result c.self.view_is found }
