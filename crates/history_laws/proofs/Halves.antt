-- The even lines and the odd ones are two parts of all lines, each renumbered.
use Rattle.std.proofs.Common.{◌≡◌, ℕ, ◌+◌, ◌*◌, ◌%◌, ◌<◌, Bool, true, false, cond, List, ◌∷◌, ap, sym, ◌∙◌, arith}
use Rattle.std.specs.Prelude.{not, ◌==◌}
use Rattle.std.proofs.lemmas.Bool.{eq-eqb, false≢true}
use Rattle.cxl_message.specs.declared.events.Commit.{Commit}
use Rattle.cxl_message.specs.Events.{line_of}
use Rattle.history_laws.specs.Laws.{EvenGoesOn, JoinedBegins, JoinedIsLegal, OddGoesOn}
use Rattle.history_laws.specs.Parts.{AreRenumbered, IsRenumbered, commits_on, even_line, is_even, odd_line}
use Rattle.history_laws.proofs.Apart.{parts_are_legal}
use Rattle.history_laws.proofs.Renumbered.{renumbered_is_legal, renumbered_line}

-- twice a number is even
twice_even : (a : ℕ) → is_even (2 * a) ≡ true
twice_even a = let rest : 2 * a % 2 ≡ 0 = omega arith in eq-eqb (2 * a % 2) 0 rest

-- one more isn't
twice_odd : (a : ℕ) → is_even (2 * a + 1) ≡ false
twice_odd a = let rest : (2 * a + 1) % 2 ≡ 1 = omega arith in ap (λ (n : ℕ). n == 0) rest

-- one more commit that is kept
one_kept : (f : ℕ → ℕ) (c d : Commit) (cs ds : List Commit) (kept : Bool) → kept ≡ true → IsRenumbered f c d → AreRenumbered f cs ds → AreRenumbered f (c ∷ cs) (cond kept (d ∷ ds) ds)
one_kept f c d cs ds true is here are = (here, are)
one_kept f c d cs ds false is here are = absurd (false≢true is)

-- and one that isn't
none_kept : (f : ℕ → ℕ) (d : Commit) (cs ds : List Commit) (kept : Bool) → kept ≡ false → AreRenumbered f cs ds → AreRenumbered f cs (cond kept (d ∷ ds) ds)
none_kept f d cs ds true is are = absurd (false≢true (sym is))
none_kept f d cs ds false is are = are

pub joined_begins : JoinedBegins
joined_begins = record { evens = tt; odds = tt }

pub even_goes_on : EvenGoesOn
even_goes_on even odd whole c d joined is =
    let line = ap line_of is.op ∙ renumbered_line even_line c.op in
    let test : is_even (line_of d.op) ≡ true = ap is_even line ∙ twice_even (line_of c.op) in
    record {
      evens = one_kept even_line c d even (commits_on is_even whole) (is_even (line_of d.op)) test is joined.evens;
      odds = none_kept odd_line d odd (commits_on (λ a. not (is_even a)) whole) (not (is_even (line_of d.op))) (ap not test) joined.odds;
    }

pub odd_goes_on : OddGoesOn
odd_goes_on even odd whole c d joined is =
    let line = ap line_of is.op ∙ renumbered_line odd_line c.op in
    let test : is_even (line_of d.op) ≡ false = ap is_even line ∙ twice_odd (line_of c.op) in
    record {
      evens = none_kept even_line d even (commits_on is_even whole) (is_even (line_of d.op)) test joined.evens;
      odds = one_kept odd_line c d odd (commits_on (λ a. not (is_even a)) whole) (not (is_even (line_of d.op))) (ap not test) is joined.odds;
    }

-- the even lines are a part of twice as many, and so are the odd ones
even_below : (a n : ℕ) → a < n → 2 * a < 2 * n
even_below a n less = omega (arith, less)

odd_below : (a n : ℕ) → a < n → 2 * a + 1 < 2 * n
odd_below a n less = omega (arith, less)

-- each number is twice one number at most, or one more
even_apart : (a b : ℕ) → 2 * a ≡ 2 * b → a ≡ b
even_apart a b same = omega (arith, same)

odd_apart : (a b : ℕ) → 2 * a + 1 ≡ 2 * b + 1 → a ≡ b
odd_apart a b same = omega (arith, same)

pub joined_is_legal : JoinedIsLegal
joined_is_legal lines low high opening opens even odd whole joined legal_even legal_odd =
    parts_are_legal (2 * lines) opening is_even whole
    (renumbered_is_legal even_line lines (2 * lines) low opening (record { apart = even_apart; opened = opens.evens }) (λ a less. even_below a lines less) even (commits_on is_even whole) joined.evens
    legal_even)
    (renumbered_is_legal odd_line lines (2 * lines) high opening (record { apart = odd_apart; opened = opens.odds }) (λ a less. odd_below a lines less) odd
    (commits_on (λ a. not (is_even a)) whole) joined.odds legal_odd)
