-- Where no step is next, any operation may begin: its line is quiet, the tags are free, and the credits are there.
use Rattle.std.proofs.Common.{◌≡◌, ℕ, zero, suc, ◌+◌, ◌≤◌, ◌<◌, Bool, true, false, IsTrue, List, [], ◌∷◌, Option, Some, None, cond, filter, find, length, refl, sym, ◌∙◌, ap, subst, arith, inl, inr}
use Rattle.std.specs.Prelude.{is_some, nat_le, not, option_and_then, ◌&&◌, ◌==◌, ◌||◌}
use Rattle.std.specs.List.{range_with_len}
use Rattle.std.specs.Option.{option_map_or}
use Rattle.std.proofs.lemmas.Bool.{and_parts, cases_Bool, cond-false, cond-true, leb-true}
use Rattle.cxl_message.specs.declared.channels.Channel.{Channel}
use Rattle.cxl_message.specs.declared.events.Cause.{Cause}
use Rattle.cxl_message.specs.declared.events.Event.{Event}
use Rattle.cxl_message.specs.declared.events.Op.{Op}
use Rattle.cxl_message.specs.declared.events.Out.{Out}
use Rattle.cxl_message.specs.declared.identifiers.Bytes64.{Bytes64}
use Rattle.cxl_message.specs.declared.identifiers.Line.{Line}
use Rattle.cxl_message.specs.Codes.{channel_eq}
use Rattle.cxl_message.specs.Events.{line_of}
use Rattle.cxl_message.specs.Lists.{is_in}
use Rattle.cxl_message.specs.Messages.{channel_of}
use Rattle.cxl_message.specs.Setup.{Configuration, IsWithinLimits}
use Rattle.coherence_model.specs.Buffers.{buffered_requests}
use Rattle.coherence_model.specs.Cache.{copy, first_idle, is_modified, is_writable, needs_victim, victim_way, ways}
use Rattle.coherence_model.specs.Credits.{credits_left, credits_needed, lacking_channel}
use Rattle.coherence_model.specs.Emission.{Emission, one_commit, one_send, two_sends}
use Rattle.cxl_message.specs.Stores.{line_after}
use Rattle.coherence_model.specs.Fitting.{is_host}
use Rattle.coherence_model.specs.HostOperations.{eviction_message, h1_hit, h2_request, hits, host_operates, request_alone, request_emission, request_evicting, request_message, request_with_victim}
use Rattle.coherence_model.specs.Next.{event_with, next_steps}
use Rattle.coherence_model.specs.Refusals.{cause_passes}
use Rattle.coherence_model.specs.Rules.{s0_stream_order}
use Rattle.coherence_model.specs.Runs.{IsRun, is_allowed}
use Rattle.coherence_model.specs.Snoops.{is_quiet}
use Rattle.coherence_model.specs.Tags.{free_tags, if_tagged, is_conflict_open, is_tag_used, tagged_line}
use Rattle.coherence_model.specs.Traces.{device, events_of}
use Rattle.coherence_model.specs.Transactions.{open_at}
use Rattle.coherence_lemmas.proofs.Rows.{emission_from, host_row}
use Rattle.request_laws.proofs.OwnRuns.{host_is_no_device}
use Rattle.step_laws.proofs.Emitted.{emitted_events_are_allowed}
use Rattle.progress_laws.proofs.Nothing.{reaches}
use Rattle.progress_laws.proofs.Stuck.{SnoopsKnown, requests_left, when_is, writes_full}
use Rattle.progress_laws.proofs.StuckDevice.{at_most_two, no_requests, two_paid}
use Rattle.progress_laws.proofs.StuckOpen.{closed, quiet}
use Rattle.progress_laws.proofs.StuckSnoops.{conflicts_closed}
use Rattle.progress_laws.specs.Laws.{may_begin}

-- ---- the tags

-- the first two of a filtered list, where each passes
pub record TwoFirst (ts : List ℕ) : Type 0 where
  pub t : ℕ
  pub u : ℕ
  pub rest : List ℕ
  pub is : ts ≡ t ∷ u ∷ rest

two_first : (p : ℕ → Bool) (a n : ℕ) → ((x : ℕ) → p x ≡ true) → 2 ≤ n → TwoFirst (filter p (range_with_len a n))
two_first p a zero each more = absurd (omega arith)
two_first p a (suc zero) each more = absurd (omega arith)
two_first p a (suc (suc n)) each more =
    let rest = filter p (range_with_len (a + 1 + 1) n) in
    record {
      t = a;
      u = a + 1;
      rest = rest;
      is = cond-true (p a) (a ∷ cond (p (a + 1)) ((a + 1) ∷ rest) rest) (cond (p (a + 1)) ((a + 1) ∷ rest) rest) (each a)
          ∙ ap (λ xs. a ∷ xs) (cond-true (p (a + 1)) ((a + 1) ∷ rest) rest (each (a + 1)));
    }

-- nothing is open with a tag where nothing is open
none_with : (tag : ℕ) (mine : List Event) → ((a : ℕ) → open_at a mine ≡ None) → (named : Option ℕ) → option_and_then (if_tagged tag) (option_and_then (λ a. open_at a mine) named) ≡ None
none_with tag mine none None = refl
none_with tag mine none (Some a) = ap (option_and_then (if_tagged tag)) (none a)

unused : (tag : ℕ) (mine : List Event) → ((a : ℕ) → open_at a mine ≡ None) → is_conflict_open tag mine ≡ false → not (is_tag_used tag mine) ≡ true
unused tag mine none conflict = ap (λ o. not (is_some o || is_conflict_open tag mine)) (none_with tag mine none (tagged_line tag mine)) ∙ ap not conflict

-- ---- the victim

idle_first : (mine : List Event) → ((a : ℕ) → is_quiet a mine ≡ true) → (ws : List ℕ) → 1 ≤ length ws → (v : ℕ) × (first_idle mine ws ≡ Some v)
idle_first mine each [] some = absurd (omega arith)
idle_first mine each (w ∷ ws) some = (w, cond-true (is_quiet w mine) (Some w) (find (λ a. is_quiet a mine) ws) (each w))

-- ---- the messages

on_req : (op : Op) (tag : ℕ) → channel_of (request_message op tag) ≡ Channel.Req
on_req (Op.Load line) tag = refl
on_req (Op.Word line place value) tag = refl
on_req (Op.Whole line bytes) tag = refl

-- what is emitted, with credits for it
pub record Begun (setup : Configuration) (mine : List Event) (row : Option Emission) : Type 0 where
  pub w : Emission
  pub row_is : row ≡ Some w
  pub paid : lacking_channel setup w.sends mine ≡ None

begun_as : (setup : Configuration) (mine : List Event) (row other : Option Emission) → other ≡ row → Begun setup mine row → Begun setup mine other
begun_as setup mine row other same b = record { w = b.w; row_is = same ∙ b.row_is; paid = b.paid }

module _ (setup : Configuration) (h : ℕ) (mine : List Event) (req : 2 ≤ credits_left setup h Channel.Req mine) (rwd : 2 ≤ credits_left setup h Channel.Rwd mine) (op : Op) (tags : TwoFirst (free_tags setup mine)) where
  request_credits : (tag : ℕ) → 2 ≤ credits_left setup h (channel_of (request_message op tag)) mine
  request_credits tag = subst (λ c. 2 ≤ credits_left setup h c mine) (sym (on_req op tag)) req

  eviction_credits : (v tag : ℕ) (modified : Bool) → is_modified setup v mine ≡ modified → 2 ≤ credits_left setup h (channel_of (eviction_message setup v mine tag)) mine
  eviction_credits v tag true is =
      subst (λ c. 2 ≤ credits_left setup h c mine) (sym (ap channel_of (cond-true (is_modified setup v mine) _ _ is))) rwd
  eviction_credits v tag false is =
      subst (λ c. 2 ≤ credits_left setup h c mine) (sym (ap channel_of (cond-false (is_modified setup v mine) _ _ is))) req

  alone_begun : Begun setup mine (request_alone h op (free_tags setup mine))
  alone_begun = record {
    w = one_send h (request_message op tags.t);
    row_is = ap (request_alone h op) tags.is;
    paid = reaches setup 1 h (request_message op tags.t) mine (λ credited. let two = request_credits tags.t in omega arith);
  }

  evicting_begun : (v : ℕ) → Begun setup mine (request_evicting setup h op v mine (free_tags setup mine))
  evicting_begun v =
      let first : Out = record { host = h; message = eviction_message setup v mine tags.t } in
      let second : Out = record { host = h; message = request_message op tags.u } in
      let few = at_most_two ((h == h) && channel_eq (channel_of first.message) (channel_of second.message)) in
      record {
        w = two_sends h first.message second.message;
        row_is = ap (request_evicting setup h op v mine) tags.is;
        paid = two_paid setup first second mine
            (reaches setup (credits_needed first second) h first.message mine (λ credited. let two = eviction_credits v tags.t (is_modified setup v mine) refl in omega arith))
            (reaches setup 1 h second.message mine (λ credited. let two = request_credits tags.u in omega arith));
      }

  victim_begun : (v : ℕ) → Begun setup mine (request_with_victim setup h op mine v)
  victim_begun v =
      elim (cases_Bool (is_writable setup v mine)) [
        | inl writable ↦ begun_as setup mine _ _ (cond-true (is_writable setup v mine) (request_evicting setup h op v mine (free_tags setup mine)) (request_alone h op (free_tags setup mine)) writable) (evicting_begun v)
        | inr other ↦ begun_as setup mine _ _ (cond-false (is_writable setup v mine) (request_evicting setup h op v mine (free_tags setup mine)) (request_alone h op (free_tags setup mine)) other) alone_begun
      ]

  request_begun : 1 ≤ setup.ways → ((a : ℕ) → is_quiet a mine ≡ true) → Begun setup mine (request_emission setup h op mine)
  request_begun some each =
      elim (cases_Bool (needs_victim setup (line_of op) mine)) [
        | inl needs ↦
            let long = leb-true setup.ways (length (ways setup mine)) (and_parts (not (is_in (line_of op) (ways setup mine))) (nat_le setup.ways (length (ways setup mine))) needs).1 in
            let v = idle_first mine each (ways setup mine) (omega arith) in
            begun_as setup mine _ _ (cond-true (needs_victim setup (line_of op) mine) (option_and_then (request_with_victim setup h op mine) (victim_way setup mine)) (request_alone h op (free_tags setup mine)) needs
            ∙ ap (option_and_then (request_with_victim setup h op mine)) v.1) (victim_begun v.0)
        | inr none ↦ begun_as setup mine _ _ (cond-false (needs_victim setup (line_of op) mine) (option_and_then (request_with_victim setup h op mine) (victim_way setup mine)) (request_alone h op (free_tags setup mine)) none) alone_begun
      ]

  operation_begun : 1 ≤ setup.ways → ((a : ℕ) → is_quiet a mine ≡ true) → (s i : ℕ) → Begun setup mine (host_operates setup h s i op mine)
  operation_begun some each s i =
      elim (cases_Bool (hits setup op mine)) [
        | inl hit ↦ record {
          w = one_commit s i op (line_after op (copy setup (line_of op) mine).bytes);
          row_is = cond-true (hits setup op mine) (h1_hit setup s i op mine) (h2_request setup h op mine) hit ∙ when_is (is_quiet (line_of op) mine) _ (each (line_of op));
          paid = refl;
        }
        | inr miss ↦ begun_as setup mine _ _ (cond-false (hits setup op mine) (h1_hit setup s i op mine) (h2_request setup h op mine) miss
            ∙ cond-true (is_quiet (line_of op) mine) (request_emission setup h op mine) None (each (line_of op))) (request_begun some each)
      ]

-- where no step is next, an operation in its stream's order may begin
pub operation_begins :
    (setup : Configuration) (opening : List (Line × Bytes64)) (limits : IsWithinLimits setup) (t : List Event) (run : IsRun setup opening t) (known : SnoopsKnown setup opening t) (stuck : next_steps setup opening t ≡ []) (h : ℕ) → IsTrue (is_host setup h) → h < setup.hosts
    → (s i : ℕ) (op : Op) → IsTrue (cause_passes setup h (Cause.Op s i op)) → IsTrue (s0_stream_order (Cause.Op s i op) (events_of h t)) → may_begin setup opening t h (Cause.Op s i op) ≡ true
operation_begins setup opening limits t run known stuck h host less s i op passes order =
    let mine : List Event = events_of h t in
    let two = limits.credits.0 in
    let full = writes_full setup opening limits t run stuck known h less in
    let sum = requests_left setup opening limits t run stuck known h less in
    let none : length (buffered_requests h (events_of device t)) ≡ 0 = ap length (no_requests setup opening limits t run stuck known h less) in
    let tags = two_first (λ tag. not (is_tag_used tag mine)) 0 setup.tags
    (λ tag. unused tag mine (closed setup opening limits t run stuck known h less) (conflicts_closed setup opening limits t run stuck known h less tag)) limits.tags.0 in
    let begun = operation_begun setup h mine (omega arith) (omega arith) op tags limits.ways.0 (quiet setup opening limits t run stuck known h less) s i in
    let emits = emission_from setup opening h (Cause.Op s i op) mine begun.w (host_row setup opening h (Cause.Op s i op) mine (host_is_no_device setup limits h host) ∙ begun.row_is) begun.paid in
    ap (λ x. option_map_or (λ w. is_allowed setup opening t (event_with h (Cause.Op s i op) w)) x false) emits
    ∙ emitted_events_are_allowed setup opening limits t run h (Cause.Op s i op) begun.w passes order refl emits
