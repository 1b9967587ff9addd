-- The close: a seat takes over the agents of the others, and what it knows of the run is told.
use Rattle.atomic_table.proofs.Lists.{at_set}
use Rattle.atomic_table.specs.Table.{Final, Joins, Seen}
use Rattle.coherence_model.specs.Runs.{IsRun}
use Rattle.cxl_message.specs.Setup.{Configuration}
use Rattle.cxl_message.specs.declared.events.Event.{Event}
use Rattle.cxl_message.specs.declared.identifiers.Bytes64.{Bytes64}
use Rattle.cxl_message.specs.declared.identifiers.Line.{Line}
use Rattle.fabric_rule.proofs.Fronts.{goes_on_from_nothing, without_is_from, without_numbered}
use Rattle.fabric_rule.proofs.Meets.{longer_has, other_fits}
use Rattle.fabric_rule.proofs.Views.{fits_set, moved, moved_else, moved_here, note_fits, own_of}
use Rattle.fabric_rule.specs.Board.{HasSeat, IsOf, KeepsOneRun, spent, taken_over}
use Rattle.fabric_rule.specs.Fronts.{GoesOnFrom, HasAllOf}
use Rattle.fabric_rule.specs.Steps.{IsSeat, agent_of}
use Rattle.fabric_rule.specs.declared.view.View.{View}
use Rattle.std.proofs.Common.{List, [], ap, length, refl, set, subst, sym, ℕ, ⊎_elim, ◌∙◌, ◌≡◌, ◌≢◌}
use Rattle.std.proofs.lemmas.Bool.{cases_eq}
use Rattle.std.proofs.lemmas.List.Elements.{All-append, All-cons, All-nil, All-weaker}
use Rattle.std.specs.List.{All}
use lib.ListN.{get_elem?}
use mathlib.Core.Option.{some, some-injective}

-- an agent's own at a seat that takes another agent over
own_moved :
    (run : List Event) (seats : ℕ → ℕ) (hosts g by j : ℕ) (p : ℕ × List Event) → ((p.0 ≡ g) → by ≡ j) → HasSeat seats hosts run j p → HasSeat (moved seats g by) hosts run j p
own_moved run seats hosts g by j p here o =
    record {
      at = ⊎_elim (λ (same : p.0 ≡ g). moved_here seats g by p.0 same ∙ here same) (λ (ne : p.0 ≡ g → ⊥). moved_else seats g by p.0 ne ∙ o.at) (cases_eq p.0 g);
      seated = o.seated;
      all = o.all;
    }

all_own_moved :
    (run : List Event) (seats : ℕ → ℕ) (hosts g by j : ℕ) (ps : List (ℕ × List Event)) → ((x : ℕ) → seats x ≡ j → x ≡ g → by ≡ j) → All (HasSeat seats hosts run j) ps
    → All (HasSeat (moved seats g by) hosts run j) ps
all_own_moved run seats hosts g by j ps here h =
    All-weaker (HasSeat seats hosts run j) (HasSeat (moved seats g by) hosts run j) (λ p o. own_moved run seats hosts g by j p (λ same. here p.0 o.at same) o) ps h

-- the views after one was set, where one more place is left out
fits_set_but :
    (run : List Event) (seats : ℕ → ℕ) (hosts : ℕ) (views : List View) (id : ℕ) (w : View) (other : ℕ)
    → ((j : ℕ) (u : View) → j ≢ id → get_elem? views j ≡ some u → j ≢ other → IsOf run seats hosts j u) → IsOf run seats hosts id w
    → (j : ℕ) (u : View) → j ≢ other → get_elem? (set views id w) j ≡ some u → IsOf run seats hosts j u
fits_set_but run seats hosts views id w other others new j u away at =
    ⊎_elim
    (λ (x : (j ≡ id) × (w ≡ u)). subst (λ (y : ℕ × View). IsOf run seats hosts y.0 y.1) (λ i. (sym x.0 i, x.1 i)) new)
    (λ (x : (j ≢ id) × (get_elem? views j ≡ some u)). others j u x.0 x.1 away)
    (at_set views id j w u at)

-- every view after a seat took another's agent over
all_fit_moved :
    (run : List Event) (seats : ℕ → ℕ) (hosts : ℕ) (views : List View) (id other : ℕ) (b : View) (g : ℕ) → seats g ≡ other
    → ((j : ℕ) (u : View) → get_elem? views j ≡ some u → IsOf run seats hosts j u)
    → IsOf run (moved seats g id) hosts id b → IsOf run (moved seats g id) hosts other spent
    → (j : ℕ) (u : View) → get_elem? (set (set views id b) other spent) j ≡ some u → IsOf run (moved seats g id) hosts j u
all_fit_moved run seats hosts views id other b g sits fits both last j u at =
    fits_set run (moved seats g id) hosts (set views id b) other spent
    (λ i y away e.
    fits_set_but run (moved seats g id) hosts views id b other
    (λ n x apart e' not_other.
    let f = fits n x e' in
    record {
      seen = f.seen;
      agents = all_own_moved run seats hosts g id n x.agents (λ a there same. absurd (not_other (sym there ∙ ap seats same ∙ sits))) f.agents;
      joined = f.joined;
      counts = f.counts;
    })
    both i y away e)
    last j u at

-- a seat takes another seat's agent over
pub takes_over :
    (setup : Configuration) (openings : List (Line × Bytes64)) (room id : ℕ) (v : View) (other : ℕ) (w : View) (c : List (ℕ × Unit {0})) → IsSeat (w, c)
    → Joins (KeepsOneRun setup openings room) id v other w (taken_over v w) spent
takes_over setup openings room id v other w c is s h at apart there =
    let run = h.0 in
    let seats = h.1 in
    let hosts = h.2 in
    let k = h.3 in
    let f = k.views_fit id v at in
    let t = other_fits run seats hosts s.views id other (taken_over v w) w k.views_fit apart there in
    let g : ℕ = agent_of w.agents in
    let theirs = own_of run seats hosts other (w, c) is t in
    let now : ℕ → ℕ = moved seats g id in
    let from : List Event → Type 0 = λ x. GoesOnFrom x run in
    let mine : All (HasSeat now hosts run id) v.agents = all_own_moved run seats hosts g id id v.agents (λ x _ _. refl) f.agents in
    let taken : All (HasSeat now hosts run id) w.agents =
    subst (All (HasSeat now hosts run id)) (sym is.own)
    (All-cons (HasSeat now hosts run id) (g, w.seen) [] (record { at = moved_here seats g id g refl; seated = theirs.seated; all = theirs.all }) (All-nil (HasSeat now hosts run id))) in
    let both : IsOf run now hosts id (taken_over v w) =
    record {
      seen = longer_has from v.seen w.seen f.seen t.seen;
      agents = All-append (HasSeat now hosts run id) w.agents v.agents taken mine;
      joined = All-nil from;
      counts = f.counts;
    } in
    let last : IsOf run now hosts other spent = note_fits run now hosts other [] (goes_on_from_nothing run) in (
      run,
      now,
      hosts,
      record {
        word = k.word;
        is_run = k.is_run;
        events = k.events;
        rooms = k.rooms;
        views_fit = all_fit_moved run seats hosts s.views id other (taken_over v w) g theirs.at k.views_fit both last;
        host_limit = k.host_limit;
        room_limit = k.room_limit;
      },
    )

-- what the last seat knows at the close: there is one run, as long as the word says, and each agent's events stand in it
pub record Closed (setup : Configuration) (openings : List (Line × Bytes64)) (n : ℕ) (agents : List (ℕ × List Event)) : Type 0 where
  pub run : List Event
  pub is_run : IsRun setup openings run
  pub count : length run ≡ n
  pub all : All (λ p. HasAllOf p.0 p.1 run) agents

pub closes :
    (setup : Configuration) (openings : List (Line × Bytes64)) (room id : ℕ) (v : View) (words : List ℕ) (slots : List (Unit {0})) (n : ℕ)
    → Final (Seen (KeepsOneRun setup openings room) id v) words slots → get_elem? words 0 ≡ some n → Closed setup openings n v.agents
closes setup openings room id v words slots n final found =
    let s = final.0 in
    let h = final.1.0 in
    let at = final.1.1 in
    let k = h.3 in
    let is = sym final.2 ∙ k.word in
    record {
      run = h.0;
      is_run = k.is_run;
      count = some-injective (length h.0) n (sym (ap (λ ws. get_elem? ws 0) is) ∙ found);
      all = All-weaker (HasSeat h.1 h.2 h.0 id) (λ p. HasAllOf p.0 p.1 h.0) (λ p o. record { front = without_is_from p.0 p.1 h.0 o.all; mine = without_numbered p.0 p.1 h.0 o.all }) v.agents (k.views_fit id v at).agents;
    }
