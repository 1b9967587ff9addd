-- After every run whose operations are a script's, a stream waits exactly where a request of its last operation is open, and each commit is the stream's next one.
use Rattle.std.proofs.Common.{◌≡◌, ℕ, ◌+◌, ◌-◌, ◌≤◌, Bool, true, false, cond, List, [], ◌∷◌, Option, Some, None, refl, ap, sym, subst, ◌∙◌, arith}
use Rattle.std.specs.Prelude.{nat_lt, not, ◌==◌, ◌&&◌, ◌||◌}
use Rattle.std.proofs.lemmas.Bool.{and_parts, eqb-true, false≢true, not-true}
use Rattle.std.proofs.lemmas.Option.{none-some}
use Rattle.cxl_message.specs.declared.events.Cause.{Cause}
use Rattle.cxl_message.specs.declared.events.Commit.{Commit}
use Rattle.cxl_message.specs.declared.events.Event.{Event}
use Rattle.cxl_message.specs.declared.events.Op.{Op}
use Rattle.cxl_message.specs.declared.events.Sends.{Sends}
use Rattle.cxl_message.specs.declared.messages.Message.{Message}
use Rattle.cxl_message.specs.Script.{ScriptValue}
use Rattle.cxl_message.specs.Setup.{Configuration}
use Rattle.coherence_model.specs.Emission.{Emission}
use Rattle.coherence_model.specs.Fitting.{is_device}
use Rattle.coherence_model.specs.HostRows.{host_emission}
use Rattle.coherence_model.specs.Rules.{most_operations, s0_stream_order}
use Rattle.coherence_model.specs.Streams.{begun_count, commits_for, stream_waits}
use Rattle.coherence_model.specs.Tags.{tagged_line}
use Rattle.coherence_model.specs.Transactions.{open_after, open_at}
use Rattle.coherence_model.proofs.Allowed.{own_half_parts}
use Rattle.coherence_lemmas.proofs.Rows.{host_take-inv}
use Rattle.request_laws.proofs.OpenLines.{LeadBack, open_leads_back}
use Rattle.request_laws.proofs.OwnRuns.{host_goes_on}
use Rattle.coherence_model.specs.OwnRuns.{is_own_run}
use Rattle.commit_laws.proofs.HostEffects.{Filled, Leaves, TakeEffect, act_commits_none, take_effect}
use Rattle.commit_laws.proofs.OperationEffects.{Committed, Exchanged, OperationEffect, Requested, operation_effect, operation_keeps}
use Rattle.commit_laws.proofs.Scripted.{IsOfScript, IsScripted, OwnScripted}
use Rattle.commit_laws.proofs.StreamStates.{StreamsKept, after_begun, after_waits, filling_keeps, kept_as, leaving_keeps}

-- ---- how many operations of each stream are done

-- the operations begun, without the one that waits
abbrev pub done_by : (ℕ → Bool) → (ℕ → ℕ) → ℕ → ℕ
done_by waits begun s = begun s - cond (waits s) 1 0

-- what an event commits: nothing, and no more is done; or the next operation of a stream, which is done then
pub data CommitsNext (P : ℕ → ℕ → Op → Type 0) (done later : ℕ → ℕ) (commit : Option Commit) : Type 0 where
  NothingMore : commit ≡ None → ((s : ℕ) → later s ≡ done s) → CommitsNext P done later commit
  OneMore : (c : Commit) → commit ≡ Some c → P c.stream c.index c.op → c.index ≡ done c.stream → ((s : ℕ) → later s ≡ cond (c.stream == s) 1 0 + done s) → CommitsNext P done later commit

-- an operation that hits is done at once
hit_done : (b w : Bool) (n : ℕ) → (b ≡ true → w ≡ false) → (cond b 1 0 + n) - cond (not b && (b || w)) 1 0 ≡ cond b 1 0 + (n - cond w 1 0)
hit_done true true n idle = absurd (false≢true (sym (idle refl)))
hit_done true false n idle = omega arith
hit_done false true n idle = omega arith
hit_done false false n idle = omega arith

-- one that sends its request is not done yet
miss_done : (b w : Bool) (n : ℕ) → (b ≡ true → w ≡ false) → (cond b 1 0 + n) - cond (b || w) 1 0 ≡ n - cond w 1 0
miss_done true true n idle = absurd (false≢true (sym (idle refl)))
miss_done true false n idle = omega arith
miss_done false true n idle = omega arith
miss_done false false n idle = omega arith

-- a fill does the operation that waits
fill_done : (b w : Bool) (n : ℕ) → (b ≡ true → (w ≡ true) × (1 ≤ n)) → (0 + n) - cond (not b && w) 1 0 ≡ cond b 1 0 + (n - cond w 1 0)
fill_done true true n waiting = let some = (waiting refl).1 in omega arith
fill_done true false n waiting = absurd (false≢true (waiting refl).0)
fill_done false true n waiting = omega arith
fill_done false false n waiting = omega arith

-- where nothing begins and nothing commits, as many are done
none_done : (w : Bool) (n : ℕ) → (0 + n) - cond w 1 0 ≡ n - cond w 1 0
none_done true n = omega arith
none_done false n = omega arith

-- nothing more, written as a sum
zero_more : (n : ℕ) → n ≡ 0 + n
zero_more n = omega arith

-- where a stream does not wait, as many are done as begun
begun_done : (i n : ℕ) (w : Bool) → w ≡ false → i ≡ n → i ≡ n - cond w 1 0
begun_done i n true idle same = absurd (false≢true (sym idle))
begun_done i n false idle same = omega arith

-- where it waits, all but the last one are done
waiting_done : (i n : ℕ) (w : Bool) → w ≡ true → i + 1 ≡ n → i ≡ n - cond w 1 0
waiting_done i n true waiting same = omega arith
waiting_done i n false waiting same = absurd (false≢true waiting)

-- what has an index before its count has one begun
some_begun : (i n : ℕ) → i + 1 ≡ n → 1 ≤ n
some_begun i n same = omega arith

-- the stream that has begun didn't wait
one_idle : (waits : ℕ → Bool) (k s : ℕ) → waits k ≡ false → (k == s) ≡ true → waits s ≡ false
one_idle waits k s idle same = ap waits (sym (eqb-true k s same)) ∙ idle

-- an operation that hits commits the stream's next index, and any other commits nothing
operation_commits :
    (P : ℕ → ℕ → Op → Type 0) (setup : Configuration) (h k i : ℕ) (op : Op) (mine : List Event) (sends : Sends) (commit : Option Commit) (waits : ℕ → Bool) (begun : ℕ → ℕ)
    → OperationEffect setup h k i op mine sends commit → waits k ≡ false → i ≡ begun k → P k i op
    → CommitsNext P (done_by waits begun) (done_by (after_waits (Cause.Op k i op) commit waits) (after_begun (Cause.Op k i op) begun)) commit
operation_commits P setup h k i op mine sends commit waits begun (Committed v commits nothing) idle order named =
    let c : Commit = record { stream = k; index = i; op = op; value = v } in
    OneMore c commits named (begun_done i (begun k) (waits k) idle order)
    (λ s. ap (λ (x : Option Commit). (cond (k == s) 1 0 + begun s) - cond (not (commits_for s x) && ((k == s) || waits s)) 1 0) commits ∙ hit_done (k == s) (waits s) (begun s) (one_idle waits k s idle))
operation_commits P setup h k i op mine sends commit waits begun (Requested none one) idle order named =
    NothingMore none
    (λ s. ap (λ (x : Option Commit). (cond (k == s) 1 0 + begun s) - cond (not (commits_for s x) && ((k == s) || waits s)) 1 0) none ∙ miss_done (k == s) (waits s) (begun s) (one_idle waits k s idle))
operation_commits P setup h k i op mine sends commit waits begun (Exchanged none two) idle order named =
    NothingMore none
    (λ s. ap (λ (x : Option Commit). (cond (k == s) 1 0 + begun s) - cond (not (commits_for s x) && ((k == s) || waits s)) 1 0) none ∙ miss_done (k == s) (waits s) (begun s) (one_idle waits k s idle))

-- ---- what an event of a host does

-- what is kept of its streams, and what it commits
pub record StreamStep (P : ℕ → ℕ → Op → Type 0) (cause : Cause) (sends : Sends) (commit : Option Commit) (past : List Event) : Type 0 where
  pub kept : StreamsKept P (λ a. open_after a cause sends (open_at a past)) (after_waits cause commit (λ s. stream_waits s past)) (after_begun cause (λ s. begun_count s past))
  pub commits :
      CommitsNext P (done_by (λ s. stream_waits s past) (λ s. begun_count s past))
      (done_by (after_waits cause commit (λ s. stream_waits s past)) (after_begun cause (λ s. begun_count s past))) commit

-- the streams of an agent's own events
abbrev pub OwnKept : (ℕ → ℕ → Op → Type 0) → List Event → Type 0
OwnKept P mine = StreamsKept P (λ a. open_at a mine) (λ s. stream_waits s mine) (λ s. begun_count s mine)

-- one that commits nothing and begins nothing
still_step :
    (P : ℕ → ℕ → Op → Type 0) (cause : Cause) (sends : Sends) (commit : Option Commit) (past : List Event) → commit ≡ None
    → ((s : ℕ) → after_waits cause None (λ r. stream_waits r past) s ≡ stream_waits s past) → ((s : ℕ) → after_begun cause (λ r. begun_count r past) s ≡ 0 + begun_count s past)
    → StreamsKept P (λ a. open_after a cause sends (open_at a past)) (λ s. stream_waits s past) (λ s. begun_count s past) → StreamStep P cause sends commit past
still_step P cause sends commit past none waits begun kept = record {
  kept = kept_as P (λ a. open_after a cause sends (open_at a past)) (λ s. stream_waits s past) (after_waits cause commit (λ s. stream_waits s past)) (λ s. begun_count s past)
      (after_begun cause (λ s. begun_count s past)) (λ s. ap (λ (c : Option Commit). after_waits cause c (λ r. stream_waits r past) s) none ∙ waits s)
      (λ s. zero_more (begun_count s past) ∙ sym (begun s)) kept;
  commits = NothingMore none
      (λ s. ap (λ (c : Option Commit). after_begun cause (λ r. begun_count r past) s - cond (after_waits cause c (λ r. stream_waits r past) s) 1 0) none
      ∙ ap (λ (w : Bool). after_begun cause (λ r. begun_count r past) s - cond w 1 0) (waits s)
      ∙ ap (λ (n : ℕ). n - cond (stream_waits s past) 1 0) (begun s) ∙ none_done (stream_waits s past) (begun_count s past));
}

-- what a take does to the streams
take_step :
    (P : ℕ → ℕ → Op → Type 0) (k : ℕ) (m : Message) (sends : Sends) (commit : Option Commit) (past : List Event) → TakeEffect (λ a. open_at a past) m commit → OwnKept P past
    → StreamStep P (Cause.Take k m) sends commit past
take_step P k m sends commit past (Leaves l) kept =
    still_step P (Cause.Take k m) sends commit past l.none (λ s. refl) (λ s. refl) (leaving_keeps P (λ a. open_at a past) (λ s. stream_waits s past) (λ s. begun_count s past) m l.stays kept)
take_step P k m sends commit past (Filled x) kept =
    let waits : ℕ → Bool = λ s. stream_waits s past in
    let begun : ℕ → ℕ = λ s. begun_count s past in
    let e = kept.expected x.line x.o x.there x.request in
    record {
      kept = kept_as P (λ a. open_after a (Cause.Take k m) sends (open_at a past)) (λ s. not (x.o.stream == s) && waits s) (after_waits (Cause.Take k m) commit waits) begun (after_begun (Cause.Take k m) begun)
          (λ s. ap (λ (c : Option Commit). not (commits_for s c) && waits s) x.commits) (λ s. zero_more (begun s)) (filling_keeps P (λ a. open_at a past) waits begun m commit x kept);
      commits = OneMore (record { stream = x.o.stream; index = x.o.index; op = x.o.op; value = x.value }) x.commits e.named
          (waiting_done x.o.index (begun x.o.stream) (waits x.o.stream) e.waiting e.index)
          (λ s. ap (λ (c : Option Commit). (0 + begun s) - cond (not (commits_for s c) && waits s) 1 0) x.commits
          ∙ fill_done (x.o.stream == s) (waits s) (begun s)
          (λ same. (subst (λ (r : ℕ). waits r ≡ true) (eqb-true x.o.stream s same) e.waiting, some_begun x.o.index (begun s) (e.index ∙ ap begun (eqb-true x.o.stream s same)))));
    }

-- what S0 says of an operation
pub record InOrder (k i : ℕ) (past : List Event) : Type 0 where
  pub idle : stream_waits k past ≡ false
  pub index : i ≡ begun_count k past

-- S0 of an operation, as facts
pub in_order_parts : (k i : ℕ) (op : Op) (past : List Event) → s0_stream_order (Cause.Op k i op) past ≡ true → InOrder k i past
in_order_parts k i op past order =
    let two = and_parts ((i == begun_count k past) && nat_lt i most_operations) (not (stream_waits k past)) order in
    record { idle = not-true (stream_waits k past) two.1; index = eqb-true i (begun_count k past) (and_parts (i == begun_count k past) (nat_lt i most_operations) two.0).0 }

-- what any cause of a host does to its streams
cause_step :
    (script : ScriptValue) (g : ℕ) (cause : Cause) (sends : Sends) (commit : Option Commit) (past : List Event) (w : Emission)
    → LeadBack script.setup (λ a. open_at a past) (λ u. tagged_line u past) → host_emission script.setup g cause past ≡ Some w → sends ≡ w.sends → commit ≡ w.commit
    → s0_stream_order cause past ≡ true → IsOfScript script g cause → OwnKept (IsScripted script g) past → StreamStep (IsScripted script g) cause sends commit past
cause_step script g (Cause.Op k i op) sends commit past w back row sent commits order named kept =
    let effect = subst (λ (s : Sends). OperationEffect script.setup g k i op past s commit) (sym sent)
    (subst (λ (c : Option Commit). OperationEffect script.setup g k i op past w.sends c) (sym commits) (operation_effect script.setup g k i op past w row)) in
    let parts = in_order_parts k i op past order in
    record {
      kept = operation_keeps (IsScripted script g) script.setup g k i op past sends commit (λ s. stream_waits s past) (λ s. begun_count s past) effect parts.idle parts.index named kept;
      commits = operation_commits (IsScripted script g) script.setup g k i op past sends commit (λ s. stream_waits s past) (λ s. begun_count s past) effect parts.idle parts.index named;
    }
cause_step script g (Cause.Take k m) sends commit past w back row sent commits order named kept =
    take_step (IsScripted script g) k m sends commit past
    (subst (λ (c : Option Commit). TakeEffect (λ a. open_at a past) m c) (sym commits) (take_effect script.setup g m past w back (host_take-inv script.setup g k m past w row).same)) kept
cause_step script g (Cause.Act act) sends commit past w back row sent commits order named kept =
    still_step (IsScripted script g) (Cause.Act act) sends commit past (commits ∙ act_commits_none script.setup g act past w row) (λ s. refl) (λ s. refl) kept

-- ---- a host's own events

-- before any event no stream waits and nothing is open
nothing_kept : (P : ℕ → ℕ → Op → Type 0) → OwnKept P []
nothing_kept P = record {
  awaited = λ s w. absurd (false≢true w);
  expected = λ a o there asks. absurd (none-some o there);
  alone = λ a b o p here there asks too same. absurd (none-some o here);
}

-- the step of the newest event, and what is kept before it
pub own_step :
    (script : ScriptValue) (g : ℕ) → is_device g ≡ false → (e : Event) (past : List Event) → is_own_run script.setup script.opening g (e ∷ past) ≡ true → IsOfScript script g e.cause
    → OwnKept (IsScripted script g) past → StreamStep (IsScripted script g) e.cause e.sends e.commit past
own_step script g host e past run named kept =
    let on = host_goes_on script.setup script.opening g host e past run in
    let halves = own_half_parts script.setup script.opening e past (and_parts (e.agent == g) _ (and_parts (is_own_run script.setup script.opening g past) _ run).1).1 in
    cause_step script g e.cause e.sends e.commit past on.step.w (open_leads_back script.setup script.opening g host past on.before) on.step.row on.step.sends on.step.commit halves.1 named kept

-- so it is after all of a host's own events
pub own_streams :
    (script : ScriptValue) (g : ℕ) → is_device g ≡ false → (mine : List Event) → is_own_run script.setup script.opening g mine ≡ true → OwnScripted script g mine → OwnKept (IsScripted script g) mine
own_streams script g host [] run named = nothing_kept (IsScripted script g)
own_streams script g host (e ∷ past) run named =
    let before = own_streams script g host past (and_parts (is_own_run script.setup script.opening g past) _ run).0 named.1 in
    (own_step script g host e past run named.0 before).kept
