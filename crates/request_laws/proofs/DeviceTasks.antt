-- What the device's Start, Evict and Finish leave of the places of a host's tag, by their rows.
use Rattle.std.proofs.Common.{◌≡◌, ℕ, ◌+◌, Bool, true, false, List, ◌++◌, Option, Some, None, cond, count_by, refl, sym, ◌∙◌, ap, subst, arith}
use Rattle.std.specs.Prelude.{not, option_and_then, ◌&&◌, ◌==◌}
use Rattle.std.proofs.lemmas.Bool.{eq-eqb, eqb-true}
use Rattle.cxl_message.specs.declared.channels.Channel.{Channel}
use Rattle.cxl_message.specs.declared.events.Act.{Act}
use Rattle.cxl_message.specs.declared.events.Event.{Event}
use Rattle.cxl_message.specs.declared.events.Sends.{Sends}
use Rattle.cxl_message.specs.declared.identifiers.Bytes64.{Bytes64}
use Rattle.cxl_message.specs.declared.identifiers.Line.{Line}
use Rattle.cxl_message.specs.declared.identifiers.Tag.{Tag}
use Rattle.cxl_message.specs.declared.messages.Message.{Message}
use Rattle.cxl_message.specs.declared.opcodes.NdrOp.{NdrOp}
use Rattle.cxl_message.specs.Messages.{has_tag}
use Rattle.cxl_message.specs.Setup.{Configuration}
use Rattle.coherence_model.specs.Buffers.{buffered_requests, buffered_writes, message_with, without_tag, without_used}
use Rattle.coherence_model.specs.Copies.{asks_for_grant}
use Rattle.coherence_model.specs.DeviceActs.{Request, finish_emission, request_in, shared_grant}
use Rattle.coherence_model.specs.Directory.{Directory, is_busy, victim_block}
use Rattle.coherence_model.specs.DirectoryChanges.{directory_after_evict, directory_after_start, with_task}
use Rattle.coherence_model.specs.Emission.{Emission}
use Rattle.coherence_model.specs.Memory.{memory}
use Rattle.coherence_model.specs.OwnerFacts.{purpose_fits}
use Rattle.coherence_model.specs.RequestFacts.{grants, is_ndr_with, is_task_of}
use Rattle.coherence_model.specs.Tasks.{Purpose, Task, eviction_task, is_eviction, purpose_of, request_task}
use Rattle.coherence_model.specs.Transactions.{Transaction}
use Rattle.coherence_model.specs.WriteBacks.{completes}
use Rattle.coherence_lemmas.proofs.DeviceActs.{Evicted, Finished, Started}
use Rattle.coherence_lemmas.proofs.Options.{Chained, and_then_some}
use Rattle.request_laws.proofs.Balances.{balance_as, balance_none, balance_of, balance_start}
use Rattle.request_laws.proofs.DevicePlaces.{ActAfter, ActBefore, IsRequest, Named, Silent, moved, named_by, request_is, silent_nothing, unmoved}
use Rattle.request_laws.proofs.DeviceSends.{one_there, sent_there, two_there}
use Rattle.request_laws.proofs.Each.{Each, each_without_tag, found_message}
use Rattle.request_laws.proofs.Places.{FitsRequest, FitsTask, Here, OwnRequest, on_channel, task_at}
use Rattle.request_laws.proofs.RequestKinds.{balance_finished, gives_data, grant_kind, no_eviction, purpose_is}
use Rattle.request_laws.proofs.TasksPlaced.{is_of, no_task_there, set_other, victim_has_no_task, was_there}

-- the task that a started message begins
started_task : (k : ℕ) (buffered : Option Message) (m : Message) (r : Request) (req : IsRequest m r) (D : Directory) → buffered ≡ Some m
    → (directory_after_start k buffered D).task ≡ with_task r.line (Some (request_task k req.t req.op req.meta)) D.task
started_task k buffered m r req D found =
    ap (λ x. (directory_after_start k x D).task) (found ∙ ap Some req.is) ∙ ap (λ n. with_task n (Some (request_task k req.t req.op req.meta)) D.task) (sym req.same_line)

-- whether it is the tag's
of_tag : (h tag k : ℕ) (t : Tag) (own same : Bool) → (k == h) ≡ own → (t.0 == tag) ≡ same → (e : Bool) → e ≡ false → (not e && ((k == h))) && (t.0 == tag) ≡ own && same
of_tag h tag k t own same io is e none = ap (λ x. (not x && (k == h)) && (t.0 == tag)) none ∙ ap (λ x. x && (t.0 == tag)) io ∙ ap (λ x. own && x) is

none_of : (h tag : ℕ) (task : ℕ → Option Task) (l : ℕ) → task l ≡ None → is_of h tag (task l) ≡ false
none_of h tag task l e = ap (is_of h tag) e

-- a request's own task stands at its line
new_at : (h tag l : ℕ) (new : Task) (task : ℕ → Option Task) → is_task_of h tag new ≡ true → task_at h tag (with_task l (Some new) task) (Some l) ≡ 1
new_at h tag l new task its = ap (λ b. cond (is_of h tag (cond b (Some new) (task l))) 1 0) (eq-eqb l l refl) ∙ ap (λ b. cond b 1 0) its

new_or_old : (l first : ℕ) (new t : Task) (task : ℕ → Option Task) (P : ℕ → Task → Type 0) → (here : Bool) → (l == first) ≡ here → cond here (Some new) (task l) ≡ Some t → P first new → (task l ≡ Some t → P l t) → P l t
new_or_old l first new t task P true is there k old = subst (λ x. P x t) (sym (eqb-true l first is)) (subst (P first) (some_same there) k)
  where
    some_same : ◌≡◌ {A = Option Task} (Some new) (Some t) → new ≡ t
    some_same e = cc
new_or_old l first new t task P false is there k old = old there

module _ (setup : Configuration) (h tag : ℕ) (o : Option Transaction) (a : Option ℕ) (b : ℕ) (dev : List Event) (fr fw ndr drs : List Message) (D : Directory) (inv : ActBefore h tag o a b dev fr fw ndr drs D.task) where
  -- the tag's own request starts
  started_here :
      (k : ℕ) (t : Tag) (sends : Sends) (m : Message) (r : Request) (req : IsRequest m r) → Silent h tag sends → k ≡ h → (req.t.0 == tag) ≡ true → has_tag tag m ≡ true → asks_for_grant req.op ≡ true
      → is_busy D r.line ≡ false → (left : List Message) → count_by (has_tag tag) (buffered_requests h dev) ≡ cond (has_tag tag m) 1 0 + count_by (has_tag tag) left → Each (OwnRequest tag o a) left
      → Named o a req.op req.meta req.line.0 → is_task_of h tag (request_task k req.t req.op req.meta) ≡ true
      → Here h tag o a b fr left fw (buffered_writes h dev) (ndr ++ on_channel h Channel.Ndr sends) (drs ++ on_channel h Channel.Drs sends) (with_task r.line (Some (request_task k req.t req.op req.meta)) D.task)
  started_here k t sends m r req silent own same tagged asks free left less each named its =
      let new = request_task k req.t req.op req.meta in
      let at_line : a ≡ Some r.line = named.at_line ∙ ap Some (sym req.same_line) in
      let was_none : task_at h tag D.task a ≡ 0 = ap (task_at h tag D.task) at_line ∙ ap (λ x. cond (is_of h tag x) 1 0) (no_task_there D r.line free) in
      let is_one : task_at h tag (with_task r.line (Some new) D.task) a ≡ 1 = ap (task_at h tag (with_task r.line (Some new) D.task)) at_line ∙ new_at h tag r.line new D.task its in
      moved h tag o a b fr (buffered_requests h dev) fw (buffered_writes h dev) ndr drs left (buffered_writes h dev) (on_channel h Channel.Ndr sends) (on_channel h Channel.Drs sends) D.task (with_task r.line (Some new) D.task) inv
      (balance_as o refl refl refl (ap (λ n. count_by (is_ndr_with completes tag) ndr + n) (sym silent.completions)) (ap (λ n. count_by (is_ndr_with grants tag) ndr + n) (sym silent.granted))
      (ap (λ n. count_by (has_tag tag) drs + n) (sym silent.given_data)) (sym is_one)
      (balance_of (Some named.x) o (sym named.there) _ _ _ _ _ _ _
      (balance_start named.x b (count_by (has_tag tag) fr) (count_by (has_tag tag) (buffered_requests h dev)) (count_by (has_tag tag) left) _ _ _ _ _ (less ∙ ap (λ x. cond x 1 0 + count_by (has_tag tag) left) tagged) was_none
      (λ e. grant_kind req.op req.meta asks (named.kind ∙ e)) (balance_of o (Some named.x) named.there _ _ _ _ _ _ _ inv.balanced))))
      each inv.held_writes
      (λ l t' there its'. new_or_old l r.line new t' D.task (FitsTask o a) (l == r.line) refl there
      (record { x = named.x; there = named.there; at_line = at_line; purpose = ap (purpose_fits (purpose_of req.op req.meta)) (sym named.kind) ∙ purpose_is req.op req.meta asks })
      (λ old. inv.tasks l t' old its'))

  -- another request starts
  started_other :
      (k : ℕ) (sends : Sends) (m : Message) (r : Request) (req : IsRequest m r) → Silent h tag sends → is_busy D r.line ≡ false
      → (left : List Message) → count_by (has_tag tag) (buffered_requests h dev) ≡ count_by (has_tag tag) left → Each (OwnRequest tag o a) left
      → is_task_of h tag (request_task k req.t req.op req.meta) ≡ false
      → Here h tag o a b fr left fw (buffered_writes h dev) (ndr ++ on_channel h Channel.Ndr sends) (drs ++ on_channel h Channel.Drs sends) (with_task r.line (Some (request_task k req.t req.op req.meta)) D.task)
  started_other k sends m r req silent free left same each other =
      let new = request_task k req.t req.op req.meta in
      moved h tag o a b fr (buffered_requests h dev) fw (buffered_writes h dev) ndr drs left (buffered_writes h dev) (on_channel h Channel.Ndr sends) (on_channel h Channel.Drs sends) D.task (with_task r.line (Some new) D.task) inv
      (balance_as o refl (ap (λ n. count_by (has_tag tag) fr + n) same) refl (ap (λ n. count_by (is_ndr_with completes tag) ndr + n) (sym silent.completions)) (ap (λ n. count_by (is_ndr_with grants tag) ndr + n) (sym silent.granted))
      (ap (λ n. count_by (has_tag tag) drs + n) (sym silent.given_data)) (sym (set_other h tag r.line (Some new) D.task other (none_of h tag D.task r.line (no_task_there D r.line free)) a))
      (balance_none o b _ _ _ _ _ _ inv.balanced))
      each inv.held_writes (λ l t' there its. inv.tasks l t' (was_there h tag r.line (Some new) D.task other l t' there its) its)

  -- Start
  pub start_places :
      (k : ℕ) (t : Tag) (sends : Sends) (w : Emission) → Started setup k (option_and_then request_in (message_with t.0 (buffered_requests k dev))) D dev w → sends ≡ w.sends
      → ActAfter h tag o a b (Act.Start k t) sends dev fr fw ndr drs (directory_after_start k (message_with t.0 (buffered_requests k dev)) D).task
  start_places k t sends w row sent = by_host (k == h) refl
    where
      chain : Chained request_in (message_with t.0 (buffered_requests k dev)) row.r
      chain = and_then_some request_in (message_with t.0 (buffered_requests k dev)) row.r row.found

      req : IsRequest chain.x row.r
      req = request_is chain.x row.r chain.same

      silent : Silent h tag sends
      silent = silent_nothing h tag sends (sent ∙ ap (λ (x : Emission). x.sends) row.emits)

      tasks : (directory_after_start k (message_with t.0 (buffered_requests k dev)) D).task ≡ with_task row.r.line (Some (request_task k req.t req.op req.meta)) D.task
      tasks = started_task k (message_with t.0 (buffered_requests k dev)) chain.x row.r req D chain.found

      by_host : (own : Bool) → (k == h) ≡ own
          → Here h tag o a b fr (without_used (cond own (Some t.0) None) (buffered_requests h dev)) fw (buffered_writes h dev) (ndr ++ on_channel h Channel.Ndr sends) (drs ++ on_channel h Channel.Drs sends)
          (directory_after_start k (message_with t.0 (buffered_requests k dev)) D).task
      by_host true is =
          let found = found_message (OwnRequest tag o a) t.0 chain.x (buffered_requests h dev) inv.held_requests (ap (λ n. message_with t.0 (buffered_requests n dev)) (sym (eqb-true k h is)) ∙ chain.found) in
          let each = each_without_tag (OwnRequest tag o a) t.0 (buffered_requests h dev) inv.held_requests in
          subst (λ x. Here h tag o a b fr (without_tag t.0 (buffered_requests h dev)) fw (buffered_writes h dev) (ndr ++ on_channel h Channel.Ndr sends) (drs ++ on_channel h Channel.Drs sends) x) (sym tasks)
          (by_tag (req.t.0 == tag) refl (found.less (has_tag tag)) found.holds each)
        where
          front : (n : ℕ) → 0 + n ≡ n
          front n = omega arith

          by_tag : (same : Bool) → (req.t.0 == tag) ≡ same → count_by (has_tag tag) (buffered_requests h dev) ≡ cond (has_tag tag chain.x) 1 0 + count_by (has_tag tag) (without_tag t.0 (buffered_requests h dev))
              → OwnRequest tag o a chain.x → Each (OwnRequest tag o a) (without_tag t.0 (buffered_requests h dev))
              → Here h tag o a b fr (without_tag t.0 (buffered_requests h dev)) fw (buffered_writes h dev) (ndr ++ on_channel h Channel.Ndr sends) (drs ++ on_channel h Channel.Drs sends) (with_task row.r.line (Some (request_task k req.t req.op req.meta)) D.task)
          by_tag true its less holds each =
              let tagged_m : has_tag tag chain.x ≡ true = ap (has_tag tag) req.is ∙ its in
              started_here k t sends chain.x row.r req silent (eqb-true k h is) its tagged_m (ap asks_for_grant (sym req.same_op) ∙ row.grant) row.not_busy (without_tag t.0 (buffered_requests h dev)) less each
              (named_by tag o a req.op req.meta req.snp req.t req.line (subst (FitsRequest tag o a) req.is (holds tagged_m)))
              (of_tag h tag k req.t true true is its (is_eviction (purpose_of req.op req.meta)) (no_eviction req.op req.meta))
          by_tag false other less holds each =
              started_other k sends chain.x row.r req silent row.not_busy (without_tag t.0 (buffered_requests h dev))
              (less ∙ ap (λ x. cond x 1 0 + count_by (has_tag tag) (without_tag t.0 (buffered_requests h dev))) (ap (has_tag tag) req.is ∙ other) ∙ front (count_by (has_tag tag) (without_tag t.0 (buffered_requests h dev)))) each
              (of_tag h tag k req.t true false is other (is_eviction (purpose_of req.op req.meta)) (no_eviction req.op req.meta))
      by_host false is =
          subst (λ x. Here h tag o a b fr (buffered_requests h dev) fw (buffered_writes h dev) (ndr ++ on_channel h Channel.Ndr sends) (drs ++ on_channel h Channel.Drs sends) x) (sym tasks)
          (started_other k sends chain.x row.r req silent row.not_busy (buffered_requests h dev) refl inv.held_requests
          (of_tag h tag k req.t false (req.t.0 == tag) is refl (is_eviction (purpose_of req.op req.meta)) (no_eviction req.op req.meta)))

  -- Evict
  pub evict_places :
      (k : ℕ) (t : Tag) (sends : Sends) (w : Emission) (buffered : Option Request) → Evicted setup k buffered D dev w → sends ≡ w.sends
      → ActAfter h tag o a b (Act.Evict k t) sends dev fr fw ndr drs (directory_after_evict k t (victim_block D) D).task
  evict_places k t sends w buffered row sent =
      let block = row.victim.x in
      let new = eviction_task k t block.1 in
      subst (λ x. Here h tag o a b fr (buffered_requests h dev) fw (buffered_writes h dev) (ndr ++ on_channel h Channel.Ndr sends) (drs ++ on_channel h Channel.Drs sends) x)
      (sym (ap (λ x. (directory_after_evict k t x D).task) row.victim.found))
      (unmoved h tag o a b fr (buffered_requests h dev) fw (buffered_writes h dev) ndr drs D.task (with_task block.0 (Some new) D.task) sends (silent_nothing h tag sends (sent ∙ ap (λ (x : Emission). x.sends) row.emits))
      (set_other h tag block.0 (Some new) D.task refl (none_of h tag D.task block.0 (victim_has_no_task D block row.victim.found)) a)
      (λ l t' there its. was_there h tag block.0 (Some new) D.task refl l t' there its) inv)

-- what the grant of a finished task counts
pub record FinishCounts (h tag : ℕ) (purpose : Purpose) (mine : Bool) (sends : Sends) : Type 0 where
  pub completions : sent_there (is_ndr_with completes tag) h Channel.Ndr sends ≡ 0
  pub granted : sent_there (is_ndr_with grants tag) h Channel.Ndr sends ≡ cond mine 1 0
  pub given_data : sent_there (has_tag tag) h Channel.Drs sends ≡ cond (mine && gives_data purpose) 1 0

no_completion : (own same y : Bool) → ◌≡◌ {A = ℕ} (cond ((own && true) && (false && same)) 1 0 + cond ((own && false) && y) 1 0) 0
no_completion true same y = refl
no_completion false same y = refl

one_grant : (own same y : Bool) → ◌≡◌ {A = ℕ} (cond ((own && true) && (true && same)) 1 0 + cond ((own && false) && y) 1 0) (cond ((true && own) && same) 1 0)
one_grant true true y = refl
one_grant true false y = refl
one_grant false same y = refl

one_data : (own same y : Bool) → ◌≡◌ {A = ℕ} (cond ((own && false) && y) 1 0 + cond ((own && true) && same) 1 0) (cond (((true && own) && same) && true) 1 0)
one_data true true y = refl
one_data true false y = refl
one_data false same y = refl

read_counts : (h tag k t : ℕ) (c : NdrOp) (bytes : Bytes64) (purpose : Purpose) → completes c ≡ false → grants c ≡ true → gives_data purpose ≡ true
    → FinishCounts h tag purpose ((true && (k == h)) && (t == tag)) (Sends.Two (record { host = k; message = Message.Ndr c (record { 0 = t }) }) (record { host = k; message = Message.MemData (record { 0 = t }) bytes }))
read_counts h tag k t c bytes purpose incomplete grant gives = record {
  completions = two_there (is_ndr_with completes tag) h k Channel.Ndr (Message.Ndr c (record { 0 = t })) (Message.MemData (record { 0 = t }) bytes)
      ∙ ap (λ x. cond (((k == h) && true) && (x && (t == tag))) 1 0 + cond (((k == h) && false) && (false && (t == tag))) 1 0) incomplete ∙ no_completion (k == h) (t == tag) (false && (t == tag));
  granted = two_there (is_ndr_with grants tag) h k Channel.Ndr (Message.Ndr c (record { 0 = t })) (Message.MemData (record { 0 = t }) bytes)
      ∙ ap (λ x. cond (((k == h) && true) && (x && (t == tag))) 1 0 + cond (((k == h) && false) && (false && (t == tag))) 1 0) grant ∙ one_grant (k == h) (t == tag) (false && (t == tag));
  given_data = two_there (has_tag tag) h k Channel.Drs (Message.Ndr c (record { 0 = t })) (Message.MemData (record { 0 = t }) bytes) ∙ one_data (k == h) (t == tag) (t == tag)
      ∙ ap (λ x. cond (((true && (k == h)) && (t == tag)) && x) 1 0) (sym gives);
}

no_completion_alone : (own same : Bool) → ◌≡◌ {A = ℕ} (cond ((own && true) && (false && same)) 1 0) 0
no_completion_alone true same = refl
no_completion_alone false same = refl

one_grant_alone : (own same : Bool) → ◌≡◌ {A = ℕ} (cond ((own && true) && (true && same)) 1 0) (cond ((true && own) && same) 1 0)
one_grant_alone true same = refl
one_grant_alone false same = refl

no_data_alone : (own same : Bool) → ◌≡◌ {A = ℕ} (cond ((own && false) && same) 1 0) (cond (((true && own) && same) && false) 1 0)
no_data_alone true true = refl
no_data_alone true false = refl
no_data_alone false same = refl

nothing_alone : (x : Bool) → ◌≡◌ {A = ℕ} 0 (cond (x && false) 1 0)
nothing_alone true = refl
nothing_alone false = refl

finish_counts : (h tag k t : ℕ) (c : NdrOp) (bytes : Bytes64) (purpose : Purpose) → completes c ≡ false → grants c ≡ true
    → FinishCounts h tag purpose ((not (is_eviction purpose) && (k == h)) && (t == tag)) (finish_emission purpose c k t bytes).sends
finish_counts h tag k t c bytes Purpose.SharedRead incomplete grant = read_counts h tag k t c bytes Purpose.SharedRead incomplete grant refl
finish_counts h tag k t c bytes Purpose.OwningRead incomplete grant = read_counts h tag k t NdrOp.CmpE bytes Purpose.OwningRead refl refl refl
finish_counts h tag k t c bytes Purpose.Invalidation incomplete grant = record {
  completions = one_there (is_ndr_with completes tag) h k Channel.Ndr (Message.Ndr NdrOp.CmpE (record { 0 = t })) ∙ no_completion_alone (k == h) (t == tag);
  granted = one_there (is_ndr_with grants tag) h k Channel.Ndr (Message.Ndr NdrOp.CmpE (record { 0 = t })) ∙ one_grant_alone (k == h) (t == tag);
  given_data = one_there (has_tag tag) h k Channel.Drs (Message.Ndr NdrOp.CmpE (record { 0 = t })) ∙ no_data_alone (k == h) (t == tag);
}
finish_counts h tag k t c bytes Purpose.Eviction incomplete grant = record { completions = refl; granted = refl; given_data = refl }

-- which grant a shared read gets
shared_incomplete : (b : Bool) → completes (cond b NdrOp.CmpS NdrOp.CmpE) ≡ false
shared_incomplete true = refl
shared_incomplete false = refl

shared_grants : (b : Bool) → grants (cond b NdrOp.CmpS NdrOp.CmpE) ≡ true
shared_grants true = refl
shared_grants false = refl

gone_at : (h tag l : ℕ) (task : ℕ → Option Task) → task_at h tag (with_task l None task) (Some l) ≡ 0
gone_at h tag l task = ap (λ c. cond (is_of h tag (cond c None (task l))) 1 0) (eq-eqb l l refl)

-- Finish
module _ (setup : Configuration) (opening : List (Line × Bytes64)) (h tag : ℕ) (o : Option Transaction) (a : Option ℕ) (b : ℕ) (dev : List Event) (fr fw ndr drs : List Message) (D : Directory) (inv : ActBefore h tag o a b dev fr fw ndr drs D.task) where
  pub finish_places :
      (l : ℕ) (sends : Sends) (w : Emission) → Finished setup opening l (D.task l) D dev w → sends ≡ w.sends
      → Here h tag o a b fr (buffered_requests h dev) fw (buffered_writes h dev) (ndr ++ on_channel h Channel.Ndr sends) (drs ++ on_channel h Channel.Drs sends) (with_task l None D.task)
  finish_places l sends w row sent = by_tag (is_task_of h tag row.t) refl
    where
      goes : sends ≡ (finish_emission row.t.purpose (shared_grant setup l row.t D) row.t.host row.t.tag (memory opening l dev)).sends
      goes = sent ∙ ap (λ (x : Emission). x.sends) row.emits

      sums : FinishCounts h tag row.t.purpose (is_task_of h tag row.t) sends
      sums = subst (FinishCounts h tag row.t.purpose (is_task_of h tag row.t)) (sym goes)
          (finish_counts h tag row.t.host row.t.tag (shared_grant setup l row.t D) (memory opening l dev) row.t.purpose (shared_incomplete _) (shared_grants _))

      by_tag : (mine : Bool) → is_task_of h tag row.t ≡ mine
          → Here h tag o a b fr (buffered_requests h dev) fw (buffered_writes h dev) (ndr ++ on_channel h Channel.Ndr sends) (drs ++ on_channel h Channel.Drs sends) (with_task l None D.task)
      by_tag true is =
          let fits = inv.tasks l row.t row.found is in
          let one : task_at h tag D.task a ≡ 1 = ap (task_at h tag D.task) fits.at_line ∙ ap (λ x. cond (is_of h tag x) 1 0) row.found ∙ ap (λ c. cond c 1 0) is in
          let none : task_at h tag (with_task l None D.task) a ≡ 0 = ap (task_at h tag (with_task l None D.task)) fits.at_line ∙ gone_at h tag l D.task in
          moved h tag o a b fr (buffered_requests h dev) fw (buffered_writes h dev) ndr drs (buffered_requests h dev) (buffered_writes h dev) (on_channel h Channel.Ndr sends) (on_channel h Channel.Drs sends) D.task (with_task l None D.task) inv
          (balance_as o refl refl refl (ap (λ n. count_by (is_ndr_with completes tag) ndr + n) (sym sums.completions)) (ap (λ n. count_by (is_ndr_with grants tag) ndr + n) (sym (sums.granted ∙ ap (λ c. cond c 1 0) is)))
          (ap (λ n. count_by (has_tag tag) drs + n) (sym (sums.given_data ∙ ap (λ c. cond (c && gives_data row.t.purpose) 1 0) is))) (sym none)
          (balance_of (Some fits.x) o (sym fits.there) _ _ _ _ _ _ _
          (balance_finished row.t.purpose fits.x.kind b _ _ _ _ _ _ _ fits.purpose (balance_as (Some fits.x) refl refl refl refl refl refl one (balance_of o (Some fits.x) fits.there _ _ _ _ _ _ _ inv.balanced)))))
          inv.held_requests inv.held_writes (λ l' t' there its. inv.tasks l' t' (was_there h tag l None D.task refl l' t' there its) its)
      by_tag false is =
          unmoved h tag o a b fr (buffered_requests h dev) fw (buffered_writes h dev) ndr drs D.task (with_task l None D.task) sends
          (record { completions = sums.completions; granted = sums.granted ∙ ap (λ c. cond c 1 0) is; given_data = sums.given_data ∙ ap (λ c. cond (c && gives_data row.t.purpose) 1 0) is })
          (set_other h tag l None D.task refl (ap (is_of h tag) row.found ∙ is) a) (λ l' t' there its. was_there h tag l None D.task refl l' t' there its) inv
