-- The opening keeps the rule: the empty run, and a seat for each host.
use Rattle.atomic_table.specs.Table.{Splits, opening}
use Rattle.coherence_lemmas.proofs.OwnEvents.{is_foreign}
use Rattle.coherence_model.specs.Traces.{device}
use Rattle.cxl_message.specs.Setup.{Configuration}
use Rattle.cxl_message.specs.declared.events.Event.{Event}
use Rattle.cxl_message.specs.declared.identifiers.Bytes64.{Bytes64}
use Rattle.cxl_message.specs.declared.identifiers.Line.{Line}
use Rattle.fabric_rule.proofs.Fronts.{goes_on_from_nothing, goes_on_here, without_here}
use Rattle.fabric_rule.proofs.Views.{fits_end, fits_set, moved, moved_else, moved_here, off}
use Rattle.fabric_rule.specs.Board.{HasSeat, IsOf, KeepsOneRun, device_view, is_seated, next_host, with_next_host}
use Rattle.fabric_rule.specs.Fronts.{GoesOnFrom}
use Rattle.fabric_rule.specs.declared.view.View.{View}
use Rattle.run_laws.proofs.OwnEvents.{is_other}
use Rattle.std.proofs.Common.{IsTrue, List, [], ap, append-nil, arith, length, refl, set, subst, suc, sym, true, zero, ℕ, ⊎_elim, ◌<◌, ◌∙◌, ◌∷◌, ◌≡◌, ◌≤◌}
use Rattle.std.proofs.lemmas.Bool.{and_from, and_parts, eqb-true, lt-ltb, ltb-true, or_cases, or_left, or_right}
use Rattle.std.proofs.lemmas.List.Elements.{All-cons, All-nil, All-weaker}
use Rattle.std.specs.List.{All, list_all}
use Rattle.std.specs.Prelude.{nat_lt, ◌==◌}
use lib.ListN.{get_elem?}
use mathlib.Core.Option.{some, some-injective, some-ne-none}

-- the first view keeps the rule of an empty run
only_first : (by : ℕ) (v : View) → get_elem? ((device_view 0) ∷ []) by ≡ some v → IsOf [] (λ g. 0) 0 by v
only_first zero v at =
    subst (IsOf [] (λ g. 0) 0 0) (some-injective _ _ at)
    record {
      seen = goes_on_here [];
      agents = All-cons (HasSeat (λ g. 0) 0 [] 0) (device, []) [] (record { at = refl; seated = refl; all = without_here device [] }) (All-nil (HasSeat (λ g. 0) 0 [] 0));
      joined = All-nil (λ t. GoesOnFrom t []);
      counts = λ _. (refl, refl);
    }
only_first (suc by) v at = absurd (some-ne-none v (sym at))

pub begins : (setup : Configuration) (openings : List (Line × Bytes64)) (room : ℕ) → room ≤ 200000 → KeepsOneRun setup openings room (opening (0 ∷ []) [] (device_view 0))
begins setup openings room few = (
  [],
  (λ g. 0),
  0,
  record { word = refl; is_run = refl; events = refl; rooms = λ g. omega arith; views_fit = only_first; host_limit = omega arith; room_limit = few },
)

-- the next host has no seat yet
not_next : (hosts g : ℕ) → hosts < 16 → IsTrue (is_seated hosts g) → g ≡ hosts → ⊥
not_next hosts g less h same =
    ⊎_elim
    (λ (is : (g == 16) ≡ true). let big = eqb-true g 16 is in absurd (omega (arith, big, same)))
    (λ (is : nat_lt g hosts ≡ true). let lt = ltb-true g hosts is in absurd (omega (arith, lt, same)))
    (or_cases (g == 16) (nat_lt g hosts) h)

seated_more : (hosts g : ℕ) → IsTrue (is_seated hosts g) → IsTrue (is_seated (suc hosts) g)
seated_more hosts g h =
    ⊎_elim
    (λ (is : (g == 16) ≡ true). or_left (g == 16) (nat_lt g (suc hosts)) is)
    (λ (is : nat_lt g hosts ≡ true). let lt = ltb-true g hosts is in or_right (g == 16) (nat_lt g (suc hosts)) (lt-ltb g (suc hosts) (omega (arith, lt))))
    (or_cases (g == 16) (nat_lt g hosts) h)

all_more : (hosts : ℕ) (t : List Event) → IsTrue (list_all (λ e. is_seated hosts e.agent) t) → IsTrue (list_all (λ e. is_seated (suc hosts) e.agent) t)
all_more hosts [] h = refl
all_more hosts (e ∷ t) h =
    let parts = and_parts (is_seated hosts e.agent) (list_all (λ f. is_seated hosts f.agent) t) h in
    and_from _ _ (seated_more hosts e.agent parts.0) (all_more hosts t parts.1)

none_of_next : (hosts : ℕ) (t : List Event) → hosts < 16 → IsTrue (list_all (λ e. is_seated hosts e.agent) t) → IsTrue (list_all (is_foreign hosts) t)
none_of_next hosts [] less h = refl
none_of_next hosts (e ∷ t) less h =
    let parts = and_parts (is_seated hosts e.agent) (list_all (λ f. is_seated hosts f.agent) t) h in
    and_from _ _ (is_other hosts e (λ same. not_next hosts e.agent less parts.0 same)) (none_of_next hosts t less parts.1)

own_more :
    (run : List Event) (seats : ℕ → ℕ) (hosts by j : ℕ) (p : ℕ × List Event) → hosts < 16 → HasSeat seats hosts run j p → HasSeat (moved seats hosts by) (suc hosts) run j p
own_more run seats hosts by j p less o =
    record { at = moved_else seats hosts by p.0 (λ same. not_next hosts p.0 less o.seated same) ∙ o.at; seated = seated_more hosts p.0 o.seated; all = o.all }

all_own_more :
    (run : List Event) (seats : ℕ → ℕ) (hosts by j : ℕ) (ps : List (ℕ × List Event)) → hosts < 16 → All (HasSeat seats hosts run j) ps → All (HasSeat (moved seats hosts by) (suc hosts) run j) ps
all_own_more run seats hosts by j ps less h = All-weaker (HasSeat seats hosts run j) (HasSeat (moved seats hosts by) (suc hosts) run j) (λ p o. own_more run seats hosts by j p less o) ps h

-- the next host's seat is split off the device's
pub opens_seat :
    (setup : Configuration) (openings : List (Line × Bytes64)) (room id : ℕ) (v : View) → v.counts_hosts ≡ true → v.hosts < 16
    → Splits (KeepsOneRun setup openings room) id v (with_next_host v) (next_host v)
opens_seat setup openings room id v with_hosts less s h at =
    let run = h.0 in
    let seats = h.1 in
    let hosts = h.2 in
    let k = h.3 in
    let f = k.views_fit id v at in
    let first = f.counts with_hosts in
    let few : hosts < 16 = subst (λ n. n < 16) first.1 less in
    let views : List View = set s.views id (with_next_host v) in
    let by : ℕ = length views in
    let now : ℕ → ℕ = moved seats hosts by in
    let old : (j : ℕ) (u : View) → get_elem? views j ≡ some u → IsOf run now (suc hosts) j u =
    fits_set run now (suc hosts) s.views id (with_next_host v)
    (λ j u apart there.
    let g = k.views_fit j u there in
    record { seen = g.seen; agents = all_own_more run seats hosts by j u.agents few g.agents; joined = g.joined; counts = λ c. absurd (apart ((g.counts c).0 ∙ sym first.0)) })
    (record { seen = f.seen; agents = all_own_more run seats hosts by id v.agents few f.agents; joined = f.joined; counts = λ c. (first.0, ap suc first.1) }) in
    let mine : HasSeat now (suc hosts) run by (v.hosts, []) =
    record {
      at = moved_here seats hosts by v.hosts first.1;
      seated = or_right (v.hosts == 16) (nat_lt v.hosts (suc hosts)) (lt-ltb v.hosts (suc hosts) (omega (arith, first.1)));
      all = (run, sym (append-nil run), subst (λ g. IsTrue (list_all (is_foreign g) run)) (sym first.1) (none_of_next hosts run few k.events));
    } in
    let new : IsOf run now (suc hosts) by (next_host v) =
    record {
      seen = goes_on_from_nothing run;
      agents = All-cons (HasSeat now (suc hosts) run by) (v.hosts, []) [] mine (All-nil (HasSeat now (suc hosts) run by));
      joined = All-nil (λ t. GoesOnFrom t run);
      counts = λ c. absurd (off c);
    } in (
      run,
      now,
      suc hosts,
      record {
        word = k.word;
        is_run = k.is_run;
        events = all_more hosts run k.events;
        rooms = k.rooms;
        views_fit = fits_end run now (suc hosts) views (next_host v) old new;
        host_limit = omega (arith, few);
        room_limit = k.room_limit;
      },
    )
