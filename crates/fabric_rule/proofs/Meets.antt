-- Notes and meetings keep the rule, and a meeting learns what begins what.
use Rattle.atomic_table.proofs.Lists.{at_set, set_again}
use Rattle.atomic_table.specs.Table.{Allows, Joins, Splits, keeps}
use Rattle.coherence_model.specs.Runs.{IsRun}
use Rattle.cxl_message.specs.Setup.{Configuration}
use Rattle.cxl_message.specs.declared.events.Event.{Event}
use Rattle.cxl_message.specs.declared.identifiers.Bytes64.{Bytes64}
use Rattle.cxl_message.specs.declared.identifiers.Line.{Line}
use Rattle.fabric_rule.proofs.Fronts.{between, between_without, goes_on_from_nothing}
use Rattle.fabric_rule.proofs.Views.{fits_end, fits_set, note_fits}
use Rattle.fabric_rule.specs.Board.{HasSeat, IsOf, KeepsOneRun, met, note_of, spent}
use Rattle.fabric_rule.specs.Fronts.{GoesOnFrom, GoesOnWithout, longer}
use Rattle.fabric_rule.specs.Steps.{IsSeat, Learnt, agent_of, seeing}
use Rattle.fabric_rule.specs.declared.view.View.{View}
use Rattle.run_laws.proofs.Runs.{front_is_run}
use Rattle.std.proofs.Common.{List, [], arith, length, refl, set, slice_index, slice_set, subst, sym, ℕ, ⊎_elim, ◌∷◌, ◌≡◌, ◌≢◌, ◌≤◌}
use Rattle.std.proofs.lemmas.Bool.{cond_both, ltb-false, ltb-true}
use Rattle.std.proofs.lemmas.List.Elements.{All-cons, All-head, All-nil, All-tail}
use Rattle.std.specs.List.{All}
use Rattle.std.specs.Prelude.{nat_lt}
use lib.ListN.{get_elem?}
use mathlib.Core.Option.{some}

-- a note is split off
pub notes : (setup : Configuration) (openings : List (Line × Bytes64)) (room id : ℕ) (v : View) → Splits (KeepsOneRun setup openings room) id v v (note_of v.seen)
notes setup openings room id v s h at =
    let k = h.3 in (
      h.0,
      h.1,
      h.2,
      record {
        word = k.word;
        is_run = k.is_run;
        events = k.events;
        rooms = k.rooms;
        views_fit = fits_end h.0 h.1 h.2 (set s.views id v) (note_of v.seen)
            (λ j u there. k.views_fit j u (subst (λ l. get_elem? l j ≡ some u) (set_again s.views id v at) there))
            (note_fits h.0 h.1 h.2 (length (set s.views id v)) v.seen (k.views_fit id v at).seen);
        host_limit = k.host_limit;
        room_limit = k.room_limit;
      },
    )

-- the longer of two
pub longer_has : (P : List Event → Type 0) (s t : List Event) → P s → P t → P (longer s t)
longer_has P s t p q = cond_both (nat_lt (length s) (length t)) t s P (λ _. q) (λ _. p)

pub longer_is_first : (s t : List Event) → length s ≤ length (longer s t)
longer_is_first s t =
    cond_both (nat_lt (length s) (length t)) t s (λ x. length s ≤ length x) (λ lt. let l = ltb-true (length s) (length t) lt in omega (arith, l)) (λ _. omega arith)

pub longer_is_second : (s t : List Event) → length t ≤ length (longer s t)
longer_is_second s t =
    cond_both (nat_lt (length s) (length t)) t s (λ x. length t ≤ length x) (λ _. omega arith) (λ ge. let l = ltb-false (length s) (length t) ge in omega (arith, l))

-- the other seat of a join
pub other_fits :
    (run : List Event) (seats : ℕ → ℕ) (hosts : ℕ) (views : List View) (id other : ℕ) (both w : View)
    → ((j : ℕ) (u : View) → get_elem? views j ≡ some u → IsOf run seats hosts j u) → (other ≡ id → ⊥) → get_elem? (set views id both) other ≡ some w → IsOf run seats hosts other w
other_fits run seats hosts views id other both w fits apart there =
    ⊎_elim
    (λ (x : (other ≡ id) × (both ≡ w)). absurd (apart x.0))
    (λ (x : (other ≢ id) × (get_elem? views other ≡ some w)). fits other w x.1)
    (at_set views id other both w there)

-- the seat of a meeting takes the note in
pub meets : (setup : Configuration) (openings : List (Line × Bytes64)) (room id : ℕ) (v : View) (other : ℕ) (w : View) → Joins (KeepsOneRun setup openings room) id v other w (met v w) spent
meets setup openings room id v other w s h at apart there =
    let run = h.0 in
    let seats = h.1 in
    let hosts = h.2 in
    let k = h.3 in
    let f = k.views_fit id v at in
    let g = other_fits run seats hosts s.views id other (met v w) w k.views_fit apart there in
    let from : List Event → Type 0 = λ t. GoesOnFrom t run in
    let both : IsOf run seats hosts id (met v w) =
    record {
      seen = longer_has from v.seen w.seen f.seen g.seen;
      agents = f.agents;
      joined = All-cons from v.seen (w.seen ∷ []) f.seen (All-cons from w.seen [] g.seen (All-nil from));
      counts = f.counts;
    } in (
      run,
      seats,
      hosts,
      record {
        word = k.word;
        is_run = k.is_run;
        events = k.events;
        rooms = k.rooms;
        views_fit = fits_set run seats hosts (set s.views id (met v w)) other spent
            (λ j u _ e. fits_set run seats hosts s.views id (met v w) (λ i y _ e'. k.views_fit i y e') both j u e)
            (note_fits run seats hosts other [] (goes_on_from_nothing run));
        host_limit = k.host_limit;
        room_limit = k.room_limit;
      },
    )

same_word : (words : List ℕ) (run : List Event) → words ≡ length run ∷ [] → slice_set words 0 (slice_index words 0) ≡ length run ∷ []
same_word words run is = subst (λ ws. slice_set ws 0 (slice_index ws 0) ≡ length run ∷ []) (sym is) refl

-- and learns that both old ones begin what it has seen
pub learns :
    (setup : Configuration) (openings : List (Line × Bytes64)) (room id : ℕ) (v w : View) (c : List (ℕ × Unit {0})) → IsSeat (v, c)
    → Allows (KeepsOneRun setup openings room) 0 id (met v w, c) 0 (λ n. n) (λ n. Learnt setup openings (met v w, c))
learns setup openings room id v w c is s h homes at word =
    let run = h.0 in
    let seats = h.1 in
    let hosts = h.2 in
    let k = h.3 in
    let f = k.views_fit id (met v w) at in
    let seen : List Event = longer v.seen w.seen in
    let g : ℕ = agent_of v.agents in
    let from : List Event → Type 0 = λ t. GoesOnFrom t run in
    let own = All-head (HasSeat seats hosts run id) (g, v.seen) [] (subst (All (HasSeat seats hosts run id)) is.own f.agents) in
    let one : GoesOnFrom v.seen run = All-head from v.seen (w.seen ∷ []) f.joined in
    let two : GoesOnFrom w.seen run = All-head from w.seen [] (All-tail from v.seen (w.seen ∷ []) f.joined) in
    let begins : List Event → Type 0 = λ t. GoesOnFrom t seen in
    let own_begins : ℕ × List Event → Type 0 = λ p. GoesOnWithout p.0 p.1 seen in
    let cut = between_without g v.seen seen run own.all f.seen (longer_is_first v.seen w.seen) in
    let new : IsOf run seats hosts id (seeing (met v w) seen) =
    record {
      seen = f.seen;
      agents = All-cons (HasSeat seats hosts run id) (g, seen) [] (record { at = own.at; seated = own.seated; all = cut.1 }) (All-nil (HasSeat seats hosts run id));
      joined = All-nil from;
      counts = f.counts;
    } in (
      seeing (met v w) seen,
      keeps,
      tt,
      (
        run,
        seats,
        hosts,
        record {
          word = same_word s.words run k.word;
          is_run = k.is_run;
          events = k.events;
          rooms = k.rooms;
          views_fit = fits_set run seats hosts s.views id (seeing (met v w) seen) (λ j u _ e. k.views_fit j u e) new;
          host_limit = k.host_limit;
          room_limit = k.room_limit;
        },
      ),
      record {
        view = refl;
        is_run = front_is_run setup openings f.seen.0 seen (subst (IsRun setup openings) f.seen.1 k.is_run);
        joined = All-cons begins v.seen (w.seen ∷ []) (between v.seen seen run one f.seen (longer_is_first v.seen w.seen))
            (All-cons begins w.seen [] (between w.seen seen run two f.seen (longer_is_second v.seen w.seen)) (All-nil begins));
        own = subst (All own_begins) (sym is.own) (All-cons own_begins (g, v.seen) [] cut.0 (All-nil own_begins));
      },
    )
