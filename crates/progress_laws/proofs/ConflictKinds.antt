-- What is open with the tag of an open conflict is no MemWr: by recursion over a host's own events.
use Rattle.std.proofs.Common.{◌≡◌, ℕ, Bool, true, false, List, [], ◌∷◌, Option, Some, None, cond, refl, sym, ◌∙◌, ap, subst, inl, inr}
use Rattle.std.specs.Prelude.{not, ◌&&◌, ◌==◌, ◌||◌}
use Rattle.std.specs.Option.{option_or}
use Rattle.std.proofs.lemmas.Bool.{and_parts, eqb-true, false≢true, or_cases}
use Rattle.std.proofs.lemmas.Option.{none-some, same_Some}
use Rattle.cxl_message.specs.declared.events.Act.{Act}
use Rattle.cxl_message.specs.declared.events.Cause.{Cause}
use Rattle.cxl_message.specs.declared.events.Event.{Event}
use Rattle.cxl_message.specs.declared.events.Op.{Op}
use Rattle.cxl_message.specs.declared.events.Sends.{Sends}
use Rattle.cxl_message.specs.declared.identifiers.Bytes64.{Bytes64}
use Rattle.cxl_message.specs.declared.identifiers.Line.{Line}
use Rattle.cxl_message.specs.Setup.{Configuration}
use Rattle.coherence_model.specs.Emission.{Emission}
use Rattle.coherence_model.specs.Fitting.{is_device}
use Rattle.coherence_model.specs.HostActs.{may_conflict}
use Rattle.coherence_model.specs.HostOperations.{eviction_message, request_message}
use Rattle.coherence_model.specs.HostRows.{host_emission}
use Rattle.coherence_model.specs.Tags.{is_conflict_open, is_conflict_with, sends_conflict, tagged_line, takes_conflict_ack}
use Rattle.coherence_model.specs.Cache.{is_modified}
use Rattle.coherence_model.specs.Transactions.{Transaction, open_after, open_at, opened}
use Rattle.coherence_lemmas.proofs.HostActs.{h10_return-inv}
use Rattle.request_laws.proofs.HostOperations.{Evicts, Hits, Operated, Requests, eviction_kind, kind_of, operated, request_opens}
use Rattle.request_laws.proofs.HostTakes.{answer_row, block_row, conflict_row, take_row, takes_send_nothing, write_back_row}
use Rattle.request_laws.proofs.OpenLines.{LeadBack, after_take, one_opens, open_leads_back, opening_line, take_keeps, two_open, victim_opens}
use Rattle.request_laws.proofs.OwnRuns.{host_goes_on}
use Rattle.coherence_model.specs.OwnRuns.{is_own_run}
use Rattle.cxl_message.specs.Events.{line_of}

-- what is open with the tag of an open conflict is such that a conflict is declared for it
abbrev pub ConflictsAreDeclared : (ℕ → Option Transaction) → (ℕ → Bool) → Type 0
ConflictsAreDeclared open_there conflict = (a : ℕ) (o : Transaction) → open_there a ≡ Some o → conflict o.tag ≡ true → may_conflict o.kind ≡ true

-- one more line is opened, with a tag that has no conflict
opened_by :
    (f : ℕ → Option Transaction) (conflict : ℕ → Bool) (x : Transaction) → conflict x.tag ≡ false → ConflictsAreDeclared f conflict → (a : ℕ) (o : Transaction) (here : Bool)
    → option_or (cond here (Some x) None) (f a) ≡ Some o → conflict o.tag ≡ true → may_conflict o.kind ≡ true
opened_by f conflict x free inv a o true there is = absurd (false≢true (sym free ∙ ap (λ (y : Transaction). conflict y.tag) (same_Some x o there) ∙ is))
opened_by f conflict x free inv a o false there is = inv a o there is

opened_line : (f : ℕ → Option Transaction) (conflict : ℕ → Bool) (l : ℕ) (x : Transaction) → conflict x.tag ≡ false → ConflictsAreDeclared f conflict → ConflictsAreDeclared (opening_line l x f) conflict
opened_line f conflict l x free inv a o there is = opened_by f conflict x free inv a o (l == a) there is

-- what an operation leaves
operation_declares :
    (setup : Configuration) (h s i : ℕ) (op : Op) (past : List Event) (sends : Sends) → Operated setup h op past sends
    → ConflictsAreDeclared (λ a. open_at a past) (λ t. is_conflict_open t past) → ConflictsAreDeclared (λ a. open_after a (Cause.Op s i op) sends (open_at a past)) (λ t. is_conflict_open t past)
operation_declares setup h s i op past sends (Hits none) inv a o there is =
    inv a o (ap (λ x. open_after a (Cause.Op s i op) x (open_at a past)) (sym none) ∙ there) is
operation_declares setup h s i op past sends (Requests one) inv a o there is =
    opened_line (λ b. open_at b past) (λ t. is_conflict_open t past) (line_of op) (opened s i op (kind_of op) one.t) one.free.quiet inv a o
    (sym (one_opens a s i h op (request_message op one.t) (line_of op) one.t (kind_of op) past (request_opens op one.t))
    ∙ ap (λ x. open_after a (Cause.Op s i op) x (open_at a past)) (sym one.sent) ∙ there) is
operation_declares setup h s i op past sends (Evicts two) inv a o there is =
    let k = eviction_kind (is_modified setup two.v past) in
    opened_line (opening_line (line_of op) (opened s i op (kind_of op) two.u) (λ b. open_at b past)) (λ t. is_conflict_open t past) two.v (opened s i op k two.t) two.free.first.quiet
    (opened_line (λ b. open_at b past) (λ t. is_conflict_open t past) (line_of op) (opened s i op (kind_of op) two.u) two.free.second.quiet inv) a o
    (sym (two_open a s i h op (eviction_message setup two.v past two.t) (request_message op two.u) two.v two.t k (line_of op) two.u (kind_of op) past (victim_opens setup two.v past two.t) (request_opens op two.u))
    ∙ ap (λ x. open_after a (Cause.Op s i op) x (open_at a past)) (sym two.sent) ∙ there) is

-- no operation declares a conflict
operation_sends_none : (setup : Configuration) (h : ℕ) (op : Op) (past : List Event) (sends : Sends) → Operated setup h op past sends → (tag : ℕ) → sends_conflict tag sends ≡ false
operation_sends_none setup h op past sends (Hits none) tag = ap (sends_conflict tag) none
operation_sends_none setup h op past sends (Requests one) tag = ap (sends_conflict tag) one.sent ∙ ap (λ b. b || false) ((request_opens op one.t).no_conflict tag)
operation_sends_none setup h op past sends (Evicts two) tag =
    ap (sends_conflict tag) two.sent ∙ ap (λ b. b || (is_conflict_with tag (request_message op two.u) || false)) ((victim_opens setup two.v past two.t).no_conflict tag) ∙ ap (λ b. b || false) ((request_opens op two.u).no_conflict tag)

-- an earlier conflict of an event that sends none
or_none : (x y : Bool) → x ≡ false → (x || y) ≡ true → y ≡ true
or_none true y none is = absurd (false≢true (sym none))
or_none false y none is = is

still : (t : ℕ) (cause : Cause) (sends : Sends) (past : List Event) → sends_conflict t sends ≡ false → (not (takes_conflict_ack t cause) && (sends_conflict t sends || is_conflict_open t past)) ≡ true → is_conflict_open t past ≡ true
still t cause sends past none is = or_none (sends_conflict t sends) (is_conflict_open t past) none (and_parts (not (takes_conflict_ack t cause)) (sends_conflict t sends || is_conflict_open t past) is).1

-- by an act: it opens nothing, and only Conflict declares one
act_declares :
    (setup : Configuration) (h : ℕ) (act : Act) (past : List Event) (w : Emission) (sends : Sends) → host_emission setup h (Cause.Act act) past ≡ Some w → sends ≡ w.sends
    → LeadBack setup (λ a. open_at a past) (λ b. tagged_line b past) → ConflictsAreDeclared (λ a. open_at a past) (λ t. is_conflict_open t past)
    → ConflictsAreDeclared (λ a. open_at a past) (λ t. sends_conflict t sends || is_conflict_open t past)
act_declares setup h (Act.Conflict line) past w sends row sent lead inv a o there is =
    let found = conflict_row setup h line.0 past w row in
    elim (or_cases (sends_conflict o.tag sends) (is_conflict_open o.tag past) is) [
      | inl this ↦
          let same_tag = eqb-true found.o.tag o.tag (alone (found.o.tag == o.tag) (sym (ap (sends_conflict o.tag) (sent ∙ found.sent)) ∙ this)) in
          let same_line = same_Some line.0 a (sym (lead line.0 found.o found.there).back ∙ ap (λ t. tagged_line t past) same_tag ∙ (lead a o there).back) in
          let same = same_Some found.o o (sym found.there ∙ ap (λ b. open_at b past) same_line ∙ there) in
          subst (λ (x : Transaction). may_conflict x.kind ≡ true) same found.may
      | inr was ↦ inv a o there was
    ]
  where
    alone : (b : Bool) → (b || false) ≡ true → b ≡ true
    alone true h = refl
    alone false h = h
act_declares setup h (Act.WriteBack line) past w sends row sent lead inv a o there is =
    inv a o there (or_none (sends_conflict o.tag sends) (is_conflict_open o.tag past) (ap (sends_conflict o.tag) (sent ∙ (write_back_row setup h line.0 past w row).sent)) is)
act_declares setup h (Act.Answer line) past w sends row sent lead inv a o there is =
    inv a o there (or_none (sends_conflict o.tag sends) (is_conflict_open o.tag past) (ap (sends_conflict o.tag) (sent ∙ (answer_row setup h line.0 past w row).sent)) is)
act_declares setup h (Act.AnswerBlock line) past w sends row sent lead inv a o there is =
    inv a o there (or_none (sends_conflict o.tag sends) (is_conflict_open o.tag past) (ap (sends_conflict o.tag) (sent ∙ (block_row setup h line.0 past w row).sent)) is)
act_declares setup h (Act.HostReturn c) past w sends row sent lead inv a o there is =
    inv a o there (or_none (sends_conflict o.tag sends) (is_conflict_open o.tag past) (ap (sends_conflict o.tag) (sent ∙ ap (λ (x : Emission). x.sends) (h10_return-inv h c past w row).emits)) is)
act_declares setup h (Act.Serve host tag) past w sends row sent lead inv a o there is = absurd (none-some w row)
act_declares setup h (Act.Clean host tag) past w sends row sent lead inv a o there is = absurd (none-some w row)
act_declares setup h (Act.Start host tag) past w sends row sent lead inv a o there is = absurd (none-some w row)
act_declares setup h (Act.Evict host tag) past w sends row sent lead inv a o there is = absurd (none-some w row)
act_declares setup h (Act.Snoop host line) past w sends row sent lead inv a o there is = absurd (none-some w row)
act_declares setup h (Act.Finish line) past w sends row sent lead inv a o there is = absurd (none-some w row)
act_declares setup h (Act.DeviceReturn host c) past w sends row sent lead inv a o there is = absurd (none-some w row)

cause_declares :
    (setup : Configuration) (h : ℕ) (cause : Cause) (past : List Event) (w : Emission) (sends : Sends) → host_emission setup h cause past ≡ Some w → sends ≡ w.sends
    → LeadBack setup (λ a. open_at a past) (λ b. tagged_line b past) → ConflictsAreDeclared (λ a. open_at a past) (λ t. is_conflict_open t past)
    → ConflictsAreDeclared (λ a. open_after a cause sends (open_at a past)) (λ t. not (takes_conflict_ack t cause) && (sends_conflict t sends || is_conflict_open t past))
cause_declares setup h (Cause.Op s i op) past w sends row sent lead inv a o there is =
    let done = subst (Operated setup h op past) (sym sent) (operated setup h s i op past w row) in
    operation_declares setup h s i op past sends done inv a o there (still o.tag (Cause.Op s i op) sends past (operation_sends_none setup h op past sends done o.tag) is)
cause_declares setup h (Cause.Take host m) past w sends row sent lead inv a p there is =
    let none = sent ∙ takes_send_nothing setup h m past w (take_row setup h m past w row) in
    let was = after_take m (open_at a past) p there in
    let kept = take_keeps m was.0 p was.2 in
    subst (λ k. may_conflict k ≡ true) (sym kept.kind)
    (inv a was.0 was.1 (subst (λ t. is_conflict_open t past ≡ true) kept.tag (still p.tag (Cause.Take host m) sends past (ap (sends_conflict p.tag) none) is)))
cause_declares setup h (Cause.Act act) past w sends row sent lead inv a o there is =
    act_declares setup h act past w sends row sent lead inv a o there (and_parts (not (takes_conflict_ack o.tag (Cause.Act act))) (sends_conflict o.tag sends || is_conflict_open o.tag past) is).1

pub conflicts_are_declared :
    (setup : Configuration) (opening : List (Line × Bytes64)) (h : ℕ) → is_device h ≡ false → (mine : List Event) → is_own_run setup opening h mine ≡ true
    → ConflictsAreDeclared (λ a. open_at a mine) (λ t. is_conflict_open t mine)
conflicts_are_declared setup opening h host [] run = λ a o there is. absurd (none-some o there)
conflicts_are_declared setup opening h host (e ∷ past) run =
    let on = host_goes_on setup opening h host e past run in
    cause_declares setup h e.cause past on.step.w e.sends on.step.row on.step.sends (open_leads_back setup opening h host past on.before) (conflicts_are_declared setup opening h host past on.before)
