-- The lines of a block dropped one after another are those that stay away.
use Rattle.std.proofs.Common.{Bool, List, [], ap, cond, false, filter, refl, sym, true, ℕ, ◌∙◌, ◌∷◌, ◌≡◌}
use Rattle.std.specs.Prelude.{not, ◌==◌, ◌||◌}
use Rattle.std.proofs.lemmas.Bool.{eq-eqb, eqb-true, false_from_ne_true, false≢true}
use Rattle.cxl_message.specs.Lists.{is_in}
use Rattle.host_record.specs.HostRecord.{HostRecord}
use Rattle.host_record.specs.Tables.{set_all}
use Rattle.host_record.specs.Ways.{Way, drop_way}
use Rattle.host_tables.specs.Kept.{line_dropped, lines_dropped}

-- the ways without some lines, one after another
abbrev pub ways_dropped : List ℕ → List Way → List Way
ways_dropped [] ws = ws
ways_dropped (a ∷ ls) ws = ways_dropped ls (drop_way a ws)

fields : (ls : List ℕ) (k : HostRecord) → lines_dropped ls k ≡ record k { ways = ways_dropped ls k.ways; busy = set_all ls false k.busy }
fields [] k = refl
fields (a ∷ ls) k = fields ls (line_dropped a k)

same_by : (a b : ℕ) (x : Bool) → (a == b) ≡ x → (b == a) ≡ x
same_by a b true is = eq-eqb b a (sym (eqb-true a b is))
same_by a b false is = false_from_ne_true (b == a) (λ other. false≢true (sym is ∙ eq-eqb a b (sym (eqb-true b a other))))

kept_twice : (x y : Bool) (w : Way) (rest : List Way) → cond (not x) (cond (not y) (w ∷ rest) rest) rest ≡ cond (not (x || y)) (w ∷ rest) rest
kept_twice true y w rest = refl
kept_twice false y w rest = refl

filter_step : (x : Bool) (p : Way → Bool) (w : Way) (ws : List Way) → filter p (cond x (w ∷ ws) ws) ≡ cond x (cond (p w) (w ∷ filter p ws) (filter p ws)) (filter p ws)
filter_step true p w ws = refl
filter_step false p w ws = refl

-- one more line is filtered out
filtered_more : (a : ℕ) (ls : List ℕ) (ws : List Way) → filter (λ w. not (is_in w.line ls)) (drop_way a ws) ≡ filter (λ w. not (is_in w.line (a ∷ ls))) ws
filtered_more a ls [] = refl
filtered_more a ls (w ∷ ws) =
    filter_step (not (a == w.line)) (λ v. not (is_in v.line ls)) w (drop_way a ws)
    ∙ ap (λ rest. cond (not (a == w.line)) (cond (not (is_in w.line ls)) (w ∷ rest) rest) rest) (filtered_more a ls ws)
    ∙ kept_twice (a == w.line) (is_in w.line ls) w (filter (λ v. not (is_in v.line (a ∷ ls))) ws)
    ∙ ap (λ b. cond (not (b || is_in w.line ls)) (w ∷ filter (λ v. not (is_in v.line (a ∷ ls))) ws) (filter (λ v. not (is_in v.line (a ∷ ls))) ws)) (sym (same_by a w.line (a == w.line) refl))

all_in : (ws : List Way) → ws ≡ filter (λ w. not (is_in w.line [])) ws
all_in [] = refl
all_in (w ∷ ws) = ap (λ l. w ∷ l) (all_in ws)

ways_are : (ls : List ℕ) (ws : List Way) → ways_dropped ls ws ≡ filter (λ w. not (is_in w.line ls)) ws
ways_are [] ws = all_in ws
ways_are (a ∷ ls) ws = ways_are ls (drop_way a ws) ∙ filtered_more a ls ws

pub all_dropped : (ls : List ℕ) (k : HostRecord) → lines_dropped ls k ≡ record k { ways = filter (λ w. not (is_in w.line ls)) k.ways; busy = set_all ls false k.busy }
all_dropped ls k = fields ls k ∙ ap (λ (ws : List Way). record k { ways = ws; busy = set_all ls false k.busy }) (ways_are ls k.ways)
