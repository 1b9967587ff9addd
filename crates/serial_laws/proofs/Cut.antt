-- What is kept of a trace where some events have no room.
use Rattle.std.proofs.Common.{◌≡◌, ℕ, ◌<◌, ◌≤◌, Bool, true, false, cond, List, [], ◌∷◌, ◌++◌, length, reverse, refl, ap, sym, subst, ◌∙◌, arith, append-nil, append_assoc, inl, inr}
use Rattle.std.specs.Prelude.{nat_lt, ◌==◌}
use Rattle.std.proofs.lemmas.Bool.{cases_Bool, eqb-true, ltb-false, ltb-true}
use Rattle.std.proofs.lemmas.List.{reverse-append, reverse-reverse}
use Rattle.cxl_message.specs.declared.events.Event.{Event}
use Rattle.coherence_model.specs.Driven.{cut_at, driven_trace, serial_trace, without_picks}
use Rattle.coherence_model.specs.Traces.{events_of}
use Rattle.serial_laws.specs.Cuts.{HasRoom, IsCut, NoRoom, Nothing}
use Rattle.serial_laws.specs.Laws.{SerialHasRoom, SerialIsCut}

-- one event of those to come, by whether it has room
pub cut_step :
    (room : ℕ) (kept : List Event) (e : Event) (later : List Event) (b : Bool) → nat_lt (length (events_of e.agent kept)) room ≡ b
    → cut_at room kept (e ∷ later) ≡ cond b (cut_at room (e ∷ kept) later) kept
cut_step room kept e later b is = ap (λ (x : Bool). cond x (cut_at room (e ∷ kept) later) kept) is

-- what comes later, put in front of what is kept
pub one_moved : (e : Event) (later kept : List Event) → reverse (e ∷ later) ++ kept ≡ reverse later ++ (e ∷ kept)
one_moved e later kept = ap (λ (xs : List Event). xs ++ kept) (reverse-append (e ∷ []) later) ∙ append_assoc (reverse later) (e ∷ []) kept

-- what is kept is a front, and what is cut off has no room
is_cut : (room : ℕ) (kept later : List Event) → IsCut room (reverse later ++ kept) (cut_at room kept later)
is_cut room kept [] = record { later = []; all = refl; off = Nothing refl }
is_cut room kept (e ∷ later) =
    subst (λ (whole : List Event). IsCut room whole (cut_at room kept (e ∷ later))) (sym (one_moved e later kept))
    (elim (cases_Bool (nat_lt (length (events_of e.agent kept)) room)) [
      | inl has ↦ subst (IsCut room (reverse later ++ (e ∷ kept))) (sym (cut_step room kept e later true has)) (is_cut room (e ∷ kept) later)
      | inr full ↦
          subst (IsCut room (reverse later ++ (e ∷ kept))) (sym (cut_step room kept e later false full))
          (record {
            later = reverse later ++ e ∷ [];
            all = sym (append_assoc (reverse later) (e ∷ []) kept);
            off = NoRoom e (reverse later) refl (ltb-false (length (events_of e.agent kept)) room full);
          })
    ])

pub serial_is_cut : SerialIsCut
serial_is_cut script =
    let whole = driven_trace (without_picks script) in
    subst (λ (t : List Event). IsCut script.room t (serial_trace script)) (append-nil (reverse (reverse whole)) ∙ reverse-reverse whole) (is_cut script.room [] (reverse whole))

-- one more event, own or not
one_more_fits : (room : ℕ) (e : Event) (mine : List Event) (own : Bool) → length mine ≤ room → (own ≡ true → length mine < room) → length (cond own (e ∷ mine) mine) ≤ room
one_more_fits room e mine true fits has = let less = has refl in omega (arith, less)
one_more_fits room e mine false fits has = fits

-- an event that has room keeps what fits
pub fits_more : (room : ℕ) (e : Event) (t : List Event) → HasRoom room t → length (events_of e.agent t) < room → HasRoom room (e ∷ t)
fits_more room e t fits has g = one_more_fits room e (events_of g t) (e.agent == g) (fits g) (λ own. subst (λ (k : ℕ). length (events_of k t) < room) (eqb-true e.agent g own) has)

-- nothing fits
pub zero_fits : (room : ℕ) → 0 ≤ room
zero_fits room = omega arith

-- what is kept fits
cut_fits : (room : ℕ) (kept later : List Event) → HasRoom room kept → HasRoom room (cut_at room kept later)
cut_fits room kept [] fits = fits
cut_fits room kept (e ∷ later) fits =
    elim (cases_Bool (nat_lt (length (events_of e.agent kept)) room)) [
      | inl has ↦
          subst (HasRoom room) (sym (cut_step room kept e later true has))
          (cut_fits room (e ∷ kept) later (fits_more room e kept fits (ltb-true (length (events_of e.agent kept)) room has)))
      | inr full ↦ subst (HasRoom room) (sym (cut_step room kept e later false full)) fits
    ]

pub serial_has_room : SerialHasRoom
serial_has_room script = cut_fits script.room [] (reverse (driven_trace (without_picks script))) (λ g. zero_fits script.room)
