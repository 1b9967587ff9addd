-- What Start, Evict, Snoop and Finish do to the weight of the tasks.
use Rattle.std.proofs.Common.{◌≡◌, ℕ, ◌+◌, ◌-◌, ◌*◌, ◌≤◌, ◌<◌, Bool, true, false, List, [], ◌∷◌, Option, Some, None, cond, refl, sym, ◌∙◌, ap, subst, arith}
use Rattle.std.specs.Prelude.{is_some, nat_le, not, ◌&&◌, ◌==◌}
use Rattle.std.proofs.lemmas.Bool.{and_from, and_parts, cond-false, cond-true, eq-eqb, false≢true, ltb-true, ne_eqb, not_from_false}
use Rattle.cxl_message.specs.declared.events.Event.{Event}
use Rattle.cxl_message.specs.declared.events.Sends.{Sends}
use Rattle.cxl_message.specs.declared.identifiers.Tag.{Tag}
use Rattle.cxl_message.specs.declared.opcodes.Span.{Span}
use Rattle.cxl_message.specs.Codes.{listing_code, span_len}
use Rattle.cxl_message.specs.Setup.{Configuration}
use Rattle.cxl_message.specs.Spans.{covers}
use Rattle.coherence_model.specs.Directory.{Directory, is_listed, is_listed_any, is_to_ask}
use Rattle.coherence_model.specs.DirectoryChanges.{directory, directory_after_finish, listings_after_finish, with_entry, with_task}
use Rattle.coherence_model.specs.SentSnoops.{sent_snoop_at, snoop_by_sends}
use Rattle.coherence_model.specs.Tasks.{Purpose, Task, eviction_task, is_eviction}
use Rattle.coherence_model.specs.Weight.{purpose_weight}
use Rattle.entry_laws.proofs.Blocks.{covers_first}
use Rattle.entry_laws.proofs.DeviceRows.{FinishRow, SnoopRow}
use Rattle.weight_laws.proofs.Listings.{DeviceKnown, only_one, relisted_passes}
use Rattle.weight_laws.proofs.Sums.{below_one}
use Rattle.weight_laws.proofs.TaskListings.{tasks_weight}
use Rattle.weight_laws.proofs.TaskWeights.{count_at_most, count_but_one, count_one_less, to_ask_count, to_ask_less, weight_less, weight_of}

-- what the end of a task takes away at least
abbrev pub ended : Purpose → ℕ
ended Purpose.SharedRead = 7
ended Purpose.OwningRead = 7
ended Purpose.Invalidation = 7
ended Purpose.Eviction = 1

ended_least : (p : Purpose) (lines u : ℕ) → ended p ≤ purpose_weight p lines u
ended_least Purpose.SharedRead lines u = omega arith
ended_least Purpose.OwningRead lines u = omega arith
ended_least Purpose.Invalidation lines u = omega arith
ended_least Purpose.Eviction lines u = least (4 + 20 * lines) u
  where
    least : (k u : ℕ) → 1 ≤ 1 + k * u
    least k u = omega arith

-- a request's task over all hosts but one
request_at_most : (p : Purpose) (lines u hosts : ℕ) → is_eviction p ≡ false → u + 1 ≤ hosts → purpose_weight p lines u ≤ 24 * hosts - 17
request_at_most Purpose.SharedRead lines u hosts request few = omega arith
request_at_most Purpose.OwningRead lines u hosts request few = omega arith
request_at_most Purpose.Invalidation lines u hosts request few = omega arith
request_at_most Purpose.Eviction lines u hosts request few = absurd (false≢true (sym request))

-- an eviction over four lines and all hosts
eviction_at_most : (span : Span) (u hosts : ℕ) → u ≤ hosts → purpose_weight Purpose.Eviction (span_len span) u ≤ 1 + 84 * hosts
eviction_at_most Span.One u hosts few = omega arith
eviction_at_most Span.Two u hosts few = omega arith
eviction_at_most Span.Four u hosts few = omega arith

-- a snoop for one host less
snooped_less : (p : Purpose) (span : Span) (u v : ℕ) → (is_eviction p ≡ false → span ≡ Span.One) → u + 1 ≤ v → purpose_weight p (span_len span) u + (3 + 20 * span_len span + 1) ≤ purpose_weight p (span_len span) v
snooped_less Purpose.SharedRead span u v one less = let lines : span_len span ≡ 1 = ap span_len (one refl) in omega arith
snooped_less Purpose.OwningRead span u v one less = let lines : span_len span ≡ 1 = ap span_len (one refl) in omega arith
snooped_less Purpose.Invalidation span u v one less = let lines : span_len span ≡ 1 = ap span_len (one refl) in omega arith
snooped_less Purpose.Eviction Span.One u v one less = omega arith
snooped_less Purpose.Eviction Span.Two u v one less = omega arith
snooped_less Purpose.Eviction Span.Four u v one less = omega arith

-- a requester isn't to be asked for its own request
own_not_asked : (p : Purpose) (D : Directory) (a : ℕ) (t : Task) → is_eviction p ≡ false → is_to_ask p D a t t.host ≡ false
own_not_asked Purpose.SharedRead D a t request = ap (λ b. not b && is_listed_any D a t.host) (eq-eqb t.host t.host refl)
own_not_asked Purpose.OwningRead D a t request = ap (λ b. not b && is_listed D a t.host) (eq-eqb t.host t.host refl)
own_not_asked Purpose.Invalidation D a t request = ap (λ b. not b && is_listed D a t.host) (eq-eqb t.host t.host refl)
own_not_asked Purpose.Eviction D a t request = absurd (false≢true (sym request))

-- the same listings ask the same hosts
same_listings : (p : Purpose) (D : Directory) (task : ℕ → Option Task) (entries : List ℕ) (a : ℕ) (t : Task) (g : ℕ)
    → is_to_ask p (record { listed = D.listed; task = task; entries = entries }) a t g ≡ is_to_ask p D a t g
same_listings Purpose.SharedRead D task entries a t g = refl
same_listings Purpose.OwningRead D task entries a t g = refl
same_listings Purpose.Invalidation D task entries a t g = refl
same_listings Purpose.Eviction D task entries a t g = refl

module _ (setup : Configuration) (D : Directory) (asked : ℕ → ℕ → Bool) where
  -- a task is set where none was
  set_weighs : (x : ℕ) (t : Task) (entries : List ℕ) (u : ℕ) → x < setup.lines → D.task x ≡ None
      → purpose_weight t.purpose (span_len t.span) (to_ask_count setup (record { listed = D.listed; task = with_task x (Some t) D.task; entries = entries }) asked x t) ≤ u
      → tasks_weight setup (record { listed = D.listed; task = with_task x (Some t) D.task; entries = entries }) asked ≤ tasks_weight setup D asked + u
  set_weighs x t entries u less none few =
      let E : Directory = record { listed = D.listed; task = with_task x (Some t) D.task; entries = entries } in
      let sum = below_one (λ a. weight_of setup E asked a (E.task a)) (λ a. weight_of setup D asked a (D.task a)) setup.lines x 0 u less
      (λ a there other. subst (λ found. weight_of setup E asked a found ≤ weight_of setup D asked a (D.task a)) (sym (cond-false (a == x) (Some t) (D.task a) (ne_eqb a x other)))
      (weight_less setup D E asked asked a (D.task a) refl
      (λ s is g below ask. subst (λ b. (b && not (asked g a)) ≡ true) (same_listings s.purpose D (with_task x (Some t) D.task) entries a s g) ask)))
      (at_line E (cond-true (x == x) (Some t) (D.task x) (eq-eqb x x refl)) few) in
      omega arith
    where
      at_line : (E : Directory) → E.task x ≡ Some t → purpose_weight t.purpose (span_len t.span) (to_ask_count setup E asked x t) ≤ u → weight_of setup E asked x (E.task x) + 0 ≤ weight_of setup D asked x (D.task x) + u
      at_line E is few =
          let new : weight_of setup E asked x (E.task x) ≡ purpose_weight t.purpose (span_len t.span) (to_ask_count setup E asked x t) = ap (weight_of setup E asked x) is in
          omega arith

  -- Start
  pub start_weighs : (x : ℕ) (t : Task) → x < setup.lines → D.task x ≡ None → is_eviction t.purpose ≡ false → t.host < setup.hosts
      → tasks_weight setup (record { listed = D.listed; task = with_task x (Some t) D.task; entries = with_entry x D.entries }) asked ≤ tasks_weight setup D asked + (24 * setup.hosts - 17)
  start_weighs x t less none request host =
      let E : Directory = record { listed = D.listed; task = with_task x (Some t) D.task; entries = with_entry x D.entries } in
      set_weighs x t (with_entry x D.entries) (24 * setup.hosts - 17) less none
      (request_at_most t.purpose (span_len t.span) (to_ask_count setup E asked x t) setup.hosts request
      (count_but_one (λ g. is_to_ask t.purpose E x t g && not (asked g x)) setup.hosts t.host host (ap (λ b. b && not (asked t.host x)) (own_not_asked t.purpose E x t request))))

  -- Evict
  pub evict_weighs : (x h : ℕ) (tag : Tag) (span : Span) → x < setup.lines → D.task x ≡ None
      → tasks_weight setup (record { listed = D.listed; task = with_task x (Some (eviction_task h tag span)) D.task; entries = D.entries }) asked ≤ tasks_weight setup D asked + (1 + 84 * setup.hosts)
  evict_weighs x h tag span less none =
      let E : Directory = record { listed = D.listed; task = with_task x (Some (eviction_task h tag span)) D.task; entries = D.entries } in
      set_weighs x (eviction_task h tag span) D.entries (1 + 84 * setup.hosts) less none
      (eviction_at_most span (to_ask_count setup E asked x (eviction_task h tag span)) setup.hosts (count_at_most (λ g. is_to_ask Purpose.Eviction E x (eviction_task h tag span) g && not (asked g x)) setup.hosts))

module _ (setup : Configuration) (mine : List Event) (known : DeviceKnown setup mine) where
  abbrev D : Directory
  D = directory setup mine

  abbrev asked : ℕ → ℕ → Bool
  asked g a = is_some (sent_snoop_at g a mine)

  abbrev pub asked_by : ℕ → ℕ → Sends → ℕ → ℕ → Bool
  asked_by k line sends g a = is_some (cond ((k == g) && (line == a)) (snoop_by_sends sends) (sent_snoop_at g a mine))

  -- Snoop
  pub snoop_weighs : (k a : ℕ) (sends : Sends) (row : SnoopRow setup k a sends mine)
      → tasks_weight setup D (asked_by k a sends) + (3 + 20 * span_len row.t.span + 1) ≤ tasks_weight setup D asked
  snoop_weighs k a sends row =
      let placed = (known.kept.tasks.placed a row.t row.task).1 in
      let some = some_span row.t.span in
      let sum = below_one (λ b. weight_of setup D (asked_by k a sends) b (D.task b)) (λ b. weight_of setup D asked b (D.task b)) setup.lines a (3 + 20 * span_len row.t.span + 1) 0 (omega arith)
      (λ b there other. weight_less setup D D asked (asked_by k a sends) b (D.task b) refl
      (λ t is g below ask. subst (λ x. (is_to_ask t.purpose D b t g && not (is_some x)) ≡ true) (cond-false ((k == g) && (a == b)) (snoop_by_sends sends) (sent_snoop_at g b mine) (elsewhere (k == g) (ne_eqb a b (λ same. other (sym same))))) ask))
      at_line in
      omega arith
    where
      some_span : (span : Span) → 1 ≤ span_len span
      some_span Span.One = omega arith
      some_span Span.Two = omega arith
      some_span Span.Four = omega arith

      elsewhere : (b : Bool) {c : Bool} → c ≡ false → (b && c) ≡ false
      elsewhere true e = e
      elsewhere false e = refl

      now_asked : asked_by k a sends k a ≡ true
      now_asked =
          ap is_some (cond-true ((k == k) && (a == a)) (snoop_by_sends sends) (sent_snoop_at k a mine) (and_from (k == k) (a == a) (eq-eqb k k refl) (eq-eqb a a refl))) ∙ ap (λ s. is_some (snoop_by_sends s)) row.sent

      still : (g : ℕ) → g < setup.hosts → (is_to_ask row.t.purpose D a row.t g && not (asked_by k a sends g a)) ≡ true → (is_to_ask row.t.purpose D a row.t g && not (asked g a)) ≡ true
      still g less ask = by_host ((k == g) && (a == a)) refl ask
        where
          by_host : (here : Bool) → ((k == g) && (a == a)) ≡ here → (is_to_ask row.t.purpose D a row.t g && not (is_some (cond here (snoop_by_sends sends) (sent_snoop_at g a mine)))) ≡ true → (is_to_ask row.t.purpose D a row.t g && not (asked g a)) ≡ true
          by_host true is e = absurd (false≢true (sym (ap (λ s. not (is_some (snoop_by_sends s))) row.sent) ∙ (and_parts (is_to_ask row.t.purpose D a row.t g) (not (is_some (snoop_by_sends sends))) e).1))
          by_host false is e = e

      fewer : to_ask_count setup D (asked_by k a sends) a row.t + 1 ≤ to_ask_count setup D asked a row.t
      fewer =
          count_one_less (λ g. is_to_ask row.t.purpose D a row.t g && not (asked_by k a sends g a)) (λ g. is_to_ask row.t.purpose D a row.t g && not (asked g a)) setup.hosts k (ltb-true k setup.hosts row.host) still
          (none_left (is_to_ask row.t.purpose D a row.t k) (ap not now_asked)) (and_from (is_to_ask row.t.purpose D a row.t k) (not (asked k a)) row.asks (not_from_false (asked k a) row.fresh))
        where
          none_left : (b : Bool) {c : Bool} → c ≡ false → (b && c) ≡ false
          none_left true e = e
          none_left false e = refl

      at_line : weight_of setup D (asked_by k a sends) a (D.task a) + (3 + 20 * span_len row.t.span + 1) ≤ weight_of setup D asked a (D.task a) + 0
      at_line =
          let new : weight_of setup D (asked_by k a sends) a (D.task a) ≡ purpose_weight row.t.purpose (span_len row.t.span) (to_ask_count setup D (asked_by k a sends) a row.t) = ap (weight_of setup D (asked_by k a sends) a) row.task in
          let old : weight_of setup D asked a (D.task a) ≡ purpose_weight row.t.purpose (span_len row.t.span) (to_ask_count setup D asked a row.t) = ap (weight_of setup D asked a) row.task in
          let less = snooped_less row.t.purpose row.t.span (to_ask_count setup D (asked_by k a sends) a row.t) (to_ask_count setup D asked a row.t) (known.named a row.t row.task).2 fewer in
          omega arith

  -- Finish
  granted_passes : (a : ℕ) (sends : Sends) (b g : ℕ) (test : ℕ → Bool) → (b ≡ a → ⊥) → test (listing_code (listings_after_finish a sends D.listed b g)) ≡ true → test (listing_code (D.listed b g)) ≡ true
  granted_passes a Sends.Nothing b g test other passes = passes
  granted_passes a (Sends.One o) b g test other passes = relisted_passes (a ∷ []) o.host _ D.listed b g test (λ same there is. other (only_one b a there)) passes
  granted_passes a (Sends.Two o p) b g test other passes = relisted_passes (a ∷ []) o.host _ D.listed b g test (λ same there is. other (only_one b a there)) passes

  pub finish_weighs : (a : ℕ) (sends : Sends) (row : FinishRow setup a sends mine) → tasks_weight setup (directory_after_finish setup a sends D) asked + ended row.t.purpose ≤ tasks_weight setup D asked
  finish_weighs a sends row =
      let placed = (known.kept.tasks.placed a row.t row.task).1 in
      let some = some_span row.t.span in
      let E = directory_after_finish setup a sends D in
      let sum = below_one (λ b. weight_of setup E asked b (E.task b)) (λ b. weight_of setup D asked b (D.task b)) setup.lines a (ended row.t.purpose) 0 (omega arith)
      (λ b there other. subst (λ found. weight_of setup E asked b found ≤ weight_of setup D asked b (D.task b)) (sym (cond-false (b == a) None (D.task b) (ne_eqb b a other)))
      (weight_less setup D E asked asked b (D.task b) refl
      (λ t is g below ask.
      let parts = and_parts (is_to_ask t.purpose E b t g) (not (asked g b)) ask in
      and_from (is_to_ask t.purpose D b t g) (not (asked g b))
      (to_ask_less t.purpose D E b t g (granted_passes a sends b g (λ n. n == 2) other)
      (λ not_shared c covered. granted_passes a sends c g (nat_le 1) (λ same. other (known.kept.tasks.apart b a a t row.t is row.task (subst (λ x. covers b t.span x ≡ true) same covered) (covers_first a row.t.span)))) parts.0) parts.1)))
      (at_line E (cond-true (a == a) None (D.task a) (eq-eqb a a refl))) in
      omega arith
    where
      some_span : (span : Span) → 1 ≤ span_len span
      some_span Span.One = omega arith
      some_span Span.Two = omega arith
      some_span Span.Four = omega arith

      at_line : (E : Directory) → E.task a ≡ None → weight_of setup E asked a (E.task a) + ended row.t.purpose ≤ weight_of setup D asked a (D.task a) + 0
      at_line E gone =
          let new : weight_of setup E asked a (E.task a) ≡ 0 = ap (weight_of setup E asked a) gone in
          let old : weight_of setup D asked a (D.task a) ≡ purpose_weight row.t.purpose (span_len row.t.span) (to_ask_count setup D asked a row.t) = ap (weight_of setup D asked a) row.task in
          let least = ended_least row.t.purpose (span_len row.t.span) (to_ask_count setup D asked a row.t) in
          omega arith
