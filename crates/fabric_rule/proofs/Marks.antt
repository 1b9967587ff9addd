-- A mark keeps the rule: the event is allowed after the run, since only other agents' events came after what was seen.
use Rattle.atomic_table.specs.Table.{Allows, Me, keeps}
use Rattle.coherence_lemmas.proofs.OwnEvents.{events_of-foreign, events_of-foreign_all, events_of-own, is_foreign}
use Rattle.coherence_model.specs.Runs.{IsRun, is_allowed, is_run}
use Rattle.coherence_model.specs.Traces.{events_of}
use Rattle.cxl_message.specs.Setup.{Configuration}
use Rattle.cxl_message.specs.declared.events.Event.{Event}
use Rattle.cxl_message.specs.declared.identifiers.Bytes64.{Bytes64}
use Rattle.cxl_message.specs.declared.identifiers.Line.{Line}
use Rattle.fabric_rule.proofs.Fronts.{goes_on_here, goes_on_more, without_here, without_more}
use Rattle.fabric_rule.proofs.Totals.{run_is_short}
use Rattle.fabric_rule.proofs.Views.{fits_set, own_of}
use Rattle.fabric_rule.specs.Board.{HasSeat, IsOf, KeepsOneRun, is_seated}
use Rattle.fabric_rule.specs.Fronts.{GoesOnFrom}
use Rattle.fabric_rule.specs.Steps.{IsSeat, Marked, agent_of, seeing}
use Rattle.fabric_rule.specs.declared.view.View.{View}
use Rattle.run_laws.proofs.OwnEvents.{is_other}
use Rattle.run_laws.proofs.Runs.{others_keep_allowed}
use Rattle.std.proofs.Common.{IsTrue, List, [], ap, arith, length, mod-eq_of_lt, refl, slice_index, slice_set, subst, suc, sym, ℕ, ⊎_elim, ◌%◌, ◌++◌, ◌+◌, ◌<◌, ◌^◌, ◌∙◌, ◌∷◌, ◌≡◌, ◌≤◌}
use Rattle.std.proofs.lemmas.Bool.{and_from, cases_eq}
use Rattle.std.proofs.lemmas.List.Elements.{All-cons, All-nil, All-weaker}
use Rattle.std.specs.List.{list_all}

-- another agent's seat past an event
own_past :
    (run : List Event) (seats : ℕ → ℕ) (hosts j : ℕ) (e : Event) (p : ℕ × List Event) → (seats e.agent ≡ j → ⊥) → HasSeat seats hosts run j p → HasSeat seats hosts (e ∷ run) j p
own_past run seats hosts j e p apart o =
    let other = is_other p.0 e (λ same. apart (ap seats same ∙ o.at)) in
    record { at = o.at; seated = o.seated; all = without_more p.0 e p.1 run other o.all }

past_fits :
    (run : List Event) (seats : ℕ → ℕ) (hosts j : ℕ) (e : Event) (u : View) → (seats e.agent ≡ j → ⊥) → IsOf run seats hosts j u → IsOf (e ∷ run) seats hosts j u
past_fits run seats hosts j e u apart f =
    record {
      seen = goes_on_more e u.seen run f.seen;
      agents = All-weaker (HasSeat seats hosts run j) (HasSeat seats hosts (e ∷ run) j) (λ p o. own_past run seats hosts j e p apart o) u.agents f.agents;
      joined = All-weaker (λ t. GoesOnFrom t run) (λ t. GoesOnFrom t (e ∷ run)) (λ t g. goes_on_more e t run g) u.joined f.joined;
      counts = f.counts;
    }

-- the marking seat's own view
marked_fits :
    (run : List Event) (seats : ℕ → ℕ) (hosts id : ℕ) (e : Event) (v : View) → seats e.agent ≡ id → e.agent ≡ agent_of v.agents → IsTrue (is_seated hosts e.agent)
    → IsOf run seats hosts id v → IsOf (e ∷ run) seats hosts id (seeing v (e ∷ run))
marked_fits run seats hosts id e v at same seated f =
    record {
      seen = goes_on_here (e ∷ run);
      agents = All-cons (HasSeat seats hosts (e ∷ run) id) (agent_of v.agents, e ∷ run) []
          (record { at = ap seats (sym same) ∙ at; seated = subst (λ g. IsTrue (is_seated hosts g)) same seated; all = without_here (agent_of v.agents) (e ∷ run) })
          (All-nil (HasSeat seats hosts (e ∷ run) id));
      joined = All-nil (λ t. GoesOnFrom t (e ∷ run));
      counts = f.counts;
    }

room_past : (room : ℕ) (run : List Event) (e : Event) → ((g : ℕ) → length (events_of g run) ≤ room) → length (events_of e.agent run) < room → (g : ℕ) → length (events_of g (e ∷ run)) ≤ room
room_past room run e rooms less g =
    ⊎_elim
    (λ (same : e.agent ≡ g).
    let own = ap length (events_of-own g e run same) in
    let fewer = subst (λ x. length (events_of x run) < room) same less in
    omega (arith, own, fewer))
    (λ (ne : e.agent ≡ g → ⊥).
    let other = ap length (events_of-foreign g e run (is_other g e ne)) in
    let old = rooms g in
    omega (arith, other, old))
    (cases_eq e.agent g)

-- the word after a mark
next_word : (words : List ℕ) (run : List Event) → words ≡ length run ∷ [] → length run ≤ 3400000 → slice_set words 0 ((slice_index words 0 + 1) % 2 ^ 64) ≡ suc (length run) ∷ []
next_word words run is short =
    subst (λ ws. slice_set ws 0 ((slice_index ws 0 + 1) % 2 ^ 64) ≡ suc (length run) ∷ []) (sym is)
    (ap (λ (n : ℕ). n ∷ []) (mod-eq_of_lt (omega arith) ∙ omega arith))

pub marks :
    (setup : Configuration) (openings : List (Line × Bytes64)) (room : ℕ) (e : Event) (id : ℕ) (me : Me (Unit {0}) View)
    → IsSeat me → e.agent ≡ agent_of me.0.agents → length (events_of (agent_of me.0.agents) me.0.seen) < room → IsTrue (is_allowed setup openings me.0.seen e)
    → Allows (KeepsOneRun setup openings room) 0 id me 0 (λ n. (n + 1) % 2 ^ 64) (Marked setup openings e me)
marks setup openings room e id me is same less may s h homes at word =
    let run = h.0 in
    let seats = h.1 in
    let hosts = h.2 in
    let k = h.3 in
    let f = k.views_fit id me.0 at in
    let own = own_of run seats hosts id me is f in
    let later = own.all.0 in
    let eq : run ≡ later ++ me.0.seen = own.all.1 in
    let foreign = subst (λ g. IsTrue (list_all (is_foreign g) later)) (sym same) own.all.2 in
    let sits : seats e.agent ≡ id = ap seats same ∙ own.at in
    let seated = subst (λ g. IsTrue (is_seated hosts g)) (sym same) own.seated in
    let may_now = subst (λ t. IsTrue (is_allowed setup openings t e)) (sym eq) (others_keep_allowed setup openings e later me.0.seen (subst (IsRun setup openings) eq k.is_run) foreign may) in
    let runs : IsRun setup openings (e ∷ run) = and_from (is_run setup openings run) (is_allowed setup openings run e) k.is_run may_now in
    let few : length (events_of e.agent run) < room =
    subst (λ t. length (events_of e.agent t) < room) (sym eq)
    (subst (λ ts. length ts < room) (sym (events_of-foreign_all e.agent later me.0.seen foreign)) (subst (λ g. length (events_of g me.0.seen) < room) (sym same) less)) in
    let short = run_is_short hosts room run k.host_limit k.room_limit k.events k.rooms in
    let number : slice_index s.words 0 ≡ length run = ap (λ ws. slice_index ws 0) k.word in (
      seeing me.0 (e ∷ run),
      keeps,
      tt,
      (
        e ∷ run,
        seats,
        hosts,
        record {
          word = next_word s.words run k.word short;
          is_run = runs;
          events = and_from (is_seated hosts e.agent) (list_all (λ x. is_seated hosts x.agent) run) seated k.events;
          rooms = room_past room run e k.rooms few;
          views_fit = fits_set (e ∷ run) seats hosts s.views id (seeing me.0 (e ∷ run))
              (λ j u apart there. past_fits run seats hosts j e u (λ here. apart (sym here ∙ sits)) (k.views_fit j u there))
              (marked_fits run seats hosts id e me.0 sits same seated f);
          host_limit = k.host_limit;
          room_limit = k.room_limit;
        },
      ),
      record {
        seen = e ∷ run;
        view = refl;
        marked = record { between = later; seen = ap (λ t. e ∷ t) eq; foreign = own.all.2 };
        number = omega (arith, number);
        is_run = runs;
      },
    )
