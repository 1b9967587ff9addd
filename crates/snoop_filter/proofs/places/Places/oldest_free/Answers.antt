-- The first place of the order whose row is free.
use Rattle.std.proofs.Common.{◌≡◌, ◌∙◌, ℕ, Option, Some, None, refl, rules, tests}
use Rattle.std.specs.Prelude.{not, option_map}
use Rattle.std.proofs.lemmas.Iterator.Consumers.{YieldsList-from_first}
use Rattle.std.proofs.lemmas.Iterator.Search.{find_from_yields_List}
use Rattle.snoop_filter.specs.Places.{row_in}
use Rattle.snoop_filter.proofs.places.Places.oldest_free.Goals as goal

same_option : (o : Option ℕ) → o ≡ option_map (λ (x : ℕ). x) o
same_option None = refl
same_option (Some x) = refl

pub returns : goal.returns
returns c =
    same_option c.find.result
    ∙ find_from_yields_List (λ (p : ℕ). not (row_in c.args.self.now.rows.items p).held) _ _ c.find.result c.find.ensures.ran (YieldsList-from_first (λ (x : ℕ). x) (λ p. p) c.args.self.now.order.listed c.iter.ensures.value) (λ x b q k. search (rules, tests))
