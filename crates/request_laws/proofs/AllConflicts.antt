-- After every run each open conflict is in exactly one place, and no other message of a conflict is under way: by recursion over the run.
use Rattle.std.proofs.Common.{◌≡◌, ℕ, ◌+◌, Bool, true, false, IsTrue, List, [], ◌∷◌, Some, cond, count_by, refl, sym, ◌∙◌, ap, subst}
use Rattle.std.specs.Prelude.{◌==◌}
use Rattle.std.proofs.lemmas.Bool.{and_parts, eq-eqb, eqb-true}
use Rattle.cxl_message.specs.declared.channels.Channel.{Channel}
use Rattle.cxl_message.specs.declared.events.Event.{Event}
use Rattle.cxl_message.specs.declared.identifiers.Bytes64.{Bytes64}
use Rattle.cxl_message.specs.declared.identifiers.Line.{Line}
use Rattle.cxl_message.specs.declared.messages.Message.{Message}
use Rattle.cxl_message.specs.Messages.{acknowledges}
use Rattle.cxl_message.specs.Setup.{Configuration}
use Rattle.coherence_model.specs.Buffers.{buffered_writes}
use Rattle.coherence_model.specs.Fitting.{cause_fits, is_device}
use Rattle.coherence_model.specs.Flight.{in_flight}
use Rattle.coherence_model.specs.RequestFacts.{is_ndr_with, ndr_count, writes_under_way}
use Rattle.coherence_model.specs.Rows.{row_emission}
use Rattle.coherence_model.specs.Runs.{IsRun, is_allowed, is_run}
use Rattle.coherence_model.specs.Tags.{is_conflict_open, is_conflict_with}
use Rattle.coherence_model.specs.Traces.{device, events_of}
use Rattle.coherence_lemmas.proofs.Allowed.{AllowedParts, allowed_parts}
use Rattle.coherence_lemmas.proofs.Rows.{host_row}
use Rattle.request_laws.proofs.AllPlaces.{neither, only_sent, only_taken, other_events, own_events, taken}
use Rattle.request_laws.proofs.ConflictPlaces.{ConflictIs, device_conflict, host_conflict}
use Rattle.request_laws.proofs.Conflicts.{conflicts_kept}
use Rattle.request_laws.proofs.Counts.{count_by-append}
use Rattle.request_laws.proofs.OpenLines.{open_leads_back}
use Rattle.coherence_model.proofs.OwnRuns.{events_of_run}
use Rattle.request_laws.proofs.OwnRuns.{host_is_no_device}
use Rattle.request_laws.specs.PlaceLaws.{ConflictsArePlaced, OtherConflictsAreNowhere}

-- a tag's conflict, by a host's own events, the device's, and the messages in flight
abbrev pub ConflictBy : ℕ → ℕ → (own dev : List Event) → (fw ndr : List Message) → Type 0
ConflictBy h tag own dev fw ndr = ConflictIs tag fw (buffered_writes h dev) ndr (is_conflict_open tag own)

abbrev pub ConflictAt : ℕ → ℕ → List Event → Type 0
ConflictAt h tag t = ConflictBy h tag (events_of h t) (events_of device t) (in_flight h Channel.Rwd t) (in_flight h Channel.Ndr t)

conflict_as : (h tag : ℕ) (own own' dev dev' : List Event) (fw fw' ndr ndr' : List Message) → own ≡ own' → dev ≡ dev' → fw ≡ fw' → ndr ≡ ndr' → ConflictBy h tag own dev fw ndr → ConflictBy h tag own' dev' fw' ndr'
conflict_as h tag own own' dev dev' fw fw' ndr ndr' eo ed ew en inv =
    subst (λ x. ConflictBy h tag own' dev' fw' x) en (subst (λ x. ConflictBy h tag own' dev' x ndr) ew (subst (λ x. ConflictBy h tag own' x fw ndr) ed (subst (λ x. ConflictBy h tag x dev fw ndr) eo inv)))

module _ (setup : Configuration) (opening : List (Line × Bytes64)) (h tag : ℕ) (no_device : is_device h ≡ false) (e : Event) (past : List Event) (run : IsRun setup opening past)
    (parts : AllowedParts setup opening past e) (inv : ConflictAt h tag past) where
  by_own : (e.agent == h) ≡ true → ConflictAt h tag (e ∷ past)
  by_own is =
      let same = eqb-true e.agent h is in
      let other : (e.agent == device) ≡ false = ap (λ g. g == device) same ∙ no_device in
      let mine = events_of_run setup opening h past run in
      conflict_as h tag (e ∷ events_of h past) _ (events_of device past) _ _ _ _ _ (own_events h e past is) (other_events device e past other)
      (only_sent setup opening h e past parts Channel.Rwd other) (only_taken setup opening h e past parts Channel.Ndr other)
      (host_conflict setup h tag e.cause e.sends (events_of h past) parts.row.w (in_flight h Channel.Rwd past) (buffered_writes h (events_of device past)) (in_flight h Channel.Ndr past)
      (sym (host_row setup opening h e.cause (events_of h past) no_device) ∙ subst (λ g. row_emission setup opening g e.cause (events_of g past) ≡ Some parts.row.w) same parts.row.row) parts.row.sends
      (subst (λ g. IsTrue (cause_fits setup g e.cause)) same parts.profile.cause) (open_leads_back setup opening h no_device (events_of h past) mine) (conflicts_kept setup opening h no_device (events_of h past) mine)
      (taken setup opening h e past parts Channel.Ndr) inv)

  by_device : (e.agent == h) ≡ false → (e.agent == device) ≡ true → ConflictAt h tag (e ∷ past)
  by_device other is =
      let same = eqb-true e.agent device is in
      conflict_as h tag (events_of h past) _ (e ∷ events_of device past) _ _ _ _ _ (other_events h e past other) (own_events device e past is)
      (only_taken setup opening h e past parts Channel.Rwd other) (only_sent setup opening h e past parts Channel.Ndr other)
      (device_conflict setup opening h tag e.cause e.sends (events_of device past) parts.row.w (in_flight h Channel.Rwd past) (in_flight h Channel.Ndr past) (is_conflict_open tag (events_of h past))
      (subst (λ g. row_emission setup opening g e.cause (events_of g past) ≡ Some parts.row.w) same parts.row.row) parts.row.sends (taken setup opening h e past parts Channel.Rwd) inv)

  by_other : (e.agent == h) ≡ false → (e.agent == device) ≡ false → ConflictAt h tag (e ∷ past)
  by_other other another =
      conflict_as h tag (events_of h past) _ (events_of device past) _ _ _ _ _ (other_events h e past other) (other_events device e past another)
      (neither setup opening h e past parts Channel.Rwd another other) (neither setup opening h e past parts Channel.Ndr other another) inv

  by_agent : (own dev : Bool) → (e.agent == h) ≡ own → (e.agent == device) ≡ dev → ConflictAt h tag (e ∷ past)
  by_agent true dev is its = by_own is
  by_agent false true is its = by_device is its
  by_agent false false is its = by_other is its

  pub goes_on : ConflictAt h tag (e ∷ past)
  goes_on = by_agent (e.agent == h) (e.agent == device) refl refl

pub conflicts_counted : (setup : Configuration) (opening : List (Line × Bytes64)) (h tag : ℕ) → is_device h ≡ false → (t : List Event) → IsRun setup opening t → ConflictAt h tag t
conflicts_counted setup opening h tag no_device [] run = refl
conflicts_counted setup opening h tag no_device (e ∷ past) run =
    let runs = and_parts (is_run setup opening past) (is_allowed setup opening past e) run in
    goes_on setup opening h tag no_device e past runs.0 (allowed_parts setup opening past e runs.1) (conflicts_counted setup opening h tag no_device past runs.0)

-- in the words of the definitions
in_words : (h tag : ℕ) (t : List Event) (c : Bool) → is_conflict_open tag (events_of h t) ≡ c → ConflictAt h tag t → count_by (is_conflict_with tag) (writes_under_way h t) + ndr_count acknowledges h tag t ≡ cond c 1 0
in_words h tag t c is inv =
    ap (λ n. n + count_by (is_ndr_with acknowledges tag) (in_flight h Channel.Ndr t)) (count_by-append (is_conflict_with tag) (in_flight h Channel.Rwd t) (buffered_writes h (events_of device t)))
    ∙ inv ∙ ap (λ b. cond b 1 0) is

pub conflicts_are_placed : ConflictsArePlaced
conflicts_are_placed setup opening limits h host t run tag is =
    eq-eqb _ 1 (in_words h tag t true is (conflicts_counted setup opening h tag (host_is_no_device setup limits h host) t run))

pub others_are_nowhere : OtherConflictsAreNowhere
others_are_nowhere setup opening limits h host t run tag is = in_words h tag t false is (conflicts_counted setup opening h tag (host_is_no_device setup limits h host) t run)
