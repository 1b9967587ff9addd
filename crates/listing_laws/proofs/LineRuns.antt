-- After every run a line's numbers are kept at each host.
use Rattle.std.proofs.Common.{◌≡◌, ℕ, ◌+◌, ◌≤◌, ◌<◌, Bool, true, false, IsTrue, List, ◌∷◌, ◌++◌, Option, Some, None, cond, count_by, refl, sym, ◌∙◌, ap, subst, arith, ◌⊎◌, inl, inr}
use Rattle.std.specs.Prelude.{is_some}
use Rattle.std.specs.Option.{option_map_or}
use Rattle.std.proofs.lemmas.Bool.{and_from, eq-eqb, false≢true, false_from_ne_true, not_from_false}
use Rattle.std.proofs.lemmas.Option.{same_Some}
use Rattle.cxl_message.specs.declared.channels.Channel.{Channel}
use Rattle.cxl_message.specs.declared.events.Cause.{Cause}
use Rattle.cxl_message.specs.declared.events.Commit.{Commit}
use Rattle.cxl_message.specs.declared.events.Event.{Event}
use Rattle.cxl_message.specs.declared.events.Sends.{Sends}
use Rattle.cxl_message.specs.declared.identifiers.Bytes64.{Bytes64}
use Rattle.cxl_message.specs.declared.identifiers.Line.{Line}
use Rattle.cxl_message.specs.declared.messages.Message.{Message}
use Rattle.cxl_message.specs.Codes.{listing_code}
use Rattle.cxl_message.specs.Setup.{Configuration, IsWithinLimits}
use Rattle.coherence_model.specs.Buffers.{buffered_requests, buffered_writes}
use Rattle.coherence_model.specs.Cache.{copy}
use Rattle.coherence_model.specs.DirectoryChanges.{directory}
use Rattle.coherence_model.specs.Emission.{Emission}
use Rattle.coherence_model.specs.Fitting.{cause_fits, is_device, is_host}
use Rattle.coherence_model.specs.Flight.{in_flight, takes_on, without_taken}
use Rattle.coherence_model.specs.HostRows.{host_emission}
use Rattle.coherence_model.specs.ListingFacts.{grants_ownership}
use Rattle.coherence_model.specs.RequestFacts.{grants, is_ndr_with, is_task_of}
use Rattle.coherence_model.specs.Runs.{IsRun}
use Rattle.coherence_model.specs.SnoopFacts.{answers_line}
use Rattle.coherence_model.specs.Snoops.{is_snooped}
use Rattle.coherence_model.specs.Stages.{Stage, stage}
use Rattle.coherence_model.specs.Traces.{device, events_of}
use Rattle.coherence_model.specs.Transactions.{Kind, Transaction, is_request, open_after, open_at}
use Rattle.coherence_model.specs.Words.{one_if}
use Rattle.coherence_lemmas.proofs.Rows.{host_take-inv}
use Rattle.request_laws.proofs.AllPlaces.{taken, there}
use Rattle.request_laws.proofs.HostFacts.{writing_lines}
use Rattle.request_laws.proofs.HostPlaces.{Taken, takes_here}
use Rattle.request_laws.proofs.OpenLines.{open_leads_back}
use Rattle.coherence_model.proofs.OwnRuns.{events_of_run}
use Rattle.request_laws.proofs.OwnRuns.{host_is_no_device}
use Rattle.request_laws.proofs.Owners.{unused_tags}
use Rattle.request_laws.proofs.Places.{on_channel, task_at}
use Rattle.snoop_laws.proofs.Counts.{Among, found_among, none_counted}
use Rattle.snoop_laws.proofs.Runs.{placed_after}
use Rattle.listing_laws.proofs.Asking.{unanswered}
use Rattle.listing_laws.proofs.Copies.{copy_next, writable_count}
use Rattle.listing_laws.proofs.Early.{early_seen, granted, own_take}
use Rattle.listing_laws.proofs.Fits.{open_lines_fit}
use Rattle.listing_laws.proofs.Grants.{FinishedFor}
use Rattle.listing_laws.proofs.HeldBlocks.{block_snooped, first_below, same_block}
use Rattle.listing_laws.proofs.HostLines.{HostKeptLine, act_uncommitted, flag_up, host_lines_kept, is_write_stage}
use Rattle.listing_laws.proofs.Induction.{DeviceEvent, HostEvent, after_device, after_host, always, seen_at}
use Rattle.listing_laws.proofs.LineActs.{act_line}
use Rattle.listing_laws.proofs.LineDeviceActs.{GrantFacts}
use Rattle.listing_laws.proofs.LineFinish.{device_line}
use Rattle.listing_laws.proofs.LineOperations.{operation_line}
use Rattle.listing_laws.proofs.LineTakes.{take_line}
use Rattle.listing_laws.proofs.Lines.{LineKept, LineSeen, snoop_place}
use Rattle.listing_laws.proofs.Numbers.{kept_at_start}
use Rattle.listing_laws.proofs.Operations.{operation_row}
use Rattle.listing_laws.proofs.Owners.{OpenAs, few_grants, granted_so, grants_shared, no_clean, no_grants, no_write}
use Rattle.listing_laws.proofs.SentGrants.{granted_line, sent_elsewhere}
use Rattle.listing_laws.proofs.WriteBackLines.{cleans_line, writes_line}

-- an open line isn't writable
open_low : (o x n z : ℕ) → (o + x ≤ 1) × (n + z + o ≤ 2) × (n + z + x ≤ 2) → o ≡ 1 → x ≡ 0
open_low o x n z h e = omega arith

-- an open line has no snoop with a write
open_quiet : (o x n z : ℕ) → (o + x ≤ 1) × (n + z + o ≤ 2) × (n + z + x ≤ 2) → o ≡ 1 → n ≡ 1 → z ≡ 1 → ⊥
open_quiet o x n z h eo en ez = absurd (omega arith)

-- a part is at most the whole
less_one : (n m : ℕ) → n + m ≤ 1 → n ≤ 1
less_one n m h = omega arith

-- one place has the snoop, so no answer is in flight
last_zero : (b n r : ℕ) → b + n + r ≤ 1 → n ≡ 1 → r ≡ 0
last_zero b n r h e = omega arith

-- at most one answer is in flight
last_few : (b n r : ℕ) → b + n + r ≤ 1 → r ≤ 1
last_few b n r h = omega arith

-- one of at most one leaves none
none_left : (n k : ℕ) → n + k ≤ 1 → k ≡ 1 → n ≡ 0
none_left n k h e = omega arith

-- a request is no dirty eviction
no_dirty : (k : Kind) → is_request k ≡ true → k ≡ Kind.DirtyEviction → ⊥
no_dirty k is e = false≢true (sym (ap is_request e) ∙ is)

-- a request is no clean eviction
no_clean_kind : (k : Kind) → is_request k ≡ true → k ≡ Kind.CleanEviction → ⊥
no_clean_kind k is e = false≢true (sym (ap is_request e) ∙ is)

module _ (setup : Configuration) (opening : List (Line × Bytes64)) (limits : IsWithinLimits setup) (h : ℕ) (host : IsTrue (is_host setup h)) (a : ℕ) (exists : a < setup.lines) where
  -- the host isn't the device
  abbrev agent : is_device h ≡ false
  agent = host_is_no_device setup limits h host

  -- ---- what is known of a line after a run

  module _ (t : List Event) (run : IsRun setup opening t) where
    abbrev own : List Event
    own = events_of h t

    abbrev dev : List Event
    dev = events_of device t

    host_kept : HostKeptLine setup own a
    host_kept = host_lines_kept setup opening h agent own (events_of_run setup opening h t run) a

    open_flag : (o : Transaction) → open_at a own ≡ Some o → one_if (is_some (open_at a own)) ≡ 1
    open_flag o is = ap (λ x. one_if (is_some x)) is

    unwritable : (o : Transaction) → open_at a own ≡ Some o → writable_count (copy setup a own) ≡ 0
    unwritable o is = open_low _ _ _ _ host_kept (open_flag o is)

    unwriting : (o : Transaction) → open_at a own ≡ Some o → stage setup a own ≡ Stage.Writing → ⊥
    unwriting o is st =
        open_quiet _ _ _ _ host_kept (open_flag o is) (flag_up _ (writing_lines setup opening limits h host own (events_of_run setup opening h t run) a st)) (ap (λ x. one_if (is_write_stage x)) st)

    other_kind : (o : Transaction) (k : Kind) → open_at a own ≡ Some o → (o.kind ≡ k → ⊥) → OpenAs own a k → ⊥
    other_kind o k is differ x = differ (ap (λ (y : Transaction). y.kind) (same_Some o x.x (sym is ∙ x.there)) ∙ x.kind)

    unwritten : (o : Transaction) → open_at a own ≡ Some o → is_request o.kind ≡ true
        → (count_by (writes_line a) (in_flight h Channel.Rwd t) + count_by (writes_line a) (buffered_writes h dev) ≡ 0) × (count_by (cleans_line a) (in_flight h Channel.Req t) + count_by (cleans_line a) (buffered_requests h dev) ≡ 0)
    unwritten o is request = (
      no_write setup opening limits h host t run a (unwriting o is) (other_kind o Kind.DirtyEviction is (no_dirty o.kind request)),
      no_clean setup opening limits h host t run a (other_kind o Kind.CleanEviction is (no_clean_kind o.kind request)),
    )

    few : (o : Transaction) → open_at a own ≡ Some o → granted_so grants_shared (in_flight h Channel.Ndr t) (Some o) + granted_so grants_ownership (in_flight h Channel.Ndr t) (Some o) ≤ 1
    few o is = less_one _ _ (few_grants setup opening limits h host t run a o is)

    closed_none : (o : Transaction) → open_at a own ≡ Some o → is_request o.kind ≡ false → granted_so grants_shared (in_flight h Channel.Ndr t) (Some o) + granted_so grants_ownership (in_flight h Channel.Ndr t) (Some o) ≡ 0
    closed_none o is other =
        sym (ap (granted (in_flight h Channel.Ndr t)) is) ∙ no_grants setup opening limits h host t run a (λ x there request. false≢true (sym other ∙ ap (λ (y : Transaction). is_request y.kind) (same_Some o x (sym is ∙ there)) ∙ request))

    answers_few : count_by (answers_line h a dev) (in_flight h Channel.BiRsp t) ≤ 1
    answers_few = last_few _ _ _ (snoop_place setup opening limits h host a exists t run).few

    no_answers : is_snooped a own ≡ true → count_by (answers_line h a dev) (in_flight h Channel.BiRsp t) ≡ 0
    no_answers is = last_zero _ _ _ (snoop_place setup opening limits h host a exists t run).few (flag_up _ is)

    ungranted_by : (o : Option Transaction) → open_at a own ≡ o
        → (granted_so grants_shared (in_flight h Channel.Ndr t) o + granted_so grants_ownership (in_flight h Channel.Ndr t) o ≡ 0)
        ⊎ ((1 ≤ count_by (writes_line a) (in_flight h Channel.Rwd t) + count_by (writes_line a) (buffered_writes h dev) → ⊥) × (1 ≤ count_by (cleans_line a) (in_flight h Channel.Req t) + count_by (cleans_line a) (buffered_requests h dev) → ⊥))
    ungranted_by None is = inl refl
    ungranted_by (Some o) is = by (is_request o.kind) refl
      where
        by : (b : Bool) → is_request o.kind ≡ b
            → (granted_so grants_shared (in_flight h Channel.Ndr t) (Some o) + granted_so grants_ownership (in_flight h Channel.Ndr t) (Some o) ≡ 0)
            ⊎ ((1 ≤ count_by (writes_line a) (in_flight h Channel.Rwd t) + count_by (writes_line a) (buffered_writes h dev) → ⊥) × (1 ≤ count_by (cleans_line a) (in_flight h Channel.Req t) + count_by (cleans_line a) (buffered_requests h dev) → ⊥))
        by true request =
            let none = unwritten o is request in
            let first = none.0 in
            let second = none.1 in
            inr (λ some. absurd (omega arith), λ some. absurd (omega arith))
        by false other = inl (closed_none o is other)

    -- the request of a finished task
    grant_facts : (cause : Cause) (sends : Sends) (f : FinishedFor setup opening h dev cause sends) → f.a.0 ≡ a
        → GrantFacts setup h a f.t.tag own dev (in_flight h Channel.Req t) (in_flight h Channel.Rwd t) (in_flight h Channel.Ndr t) (in_flight h Channel.BiRsp t)
    grant_facts cause sends f here =
        let line = granted_line setup opening limits h host t run cause sends f in
        let there_now : open_at a own ≡ Some line.x = ap (λ x. open_at x own) (sym here) ∙ line.there in
        let none = unwritten line.x there_now line.request in
        let its : is_task_of h line.x.tag f.t ≡ true = and_from _ _ (and_from _ _ (not_from_false _ f.request) (eq-eqb f.t.host h f.own)) (eq-eqb f.t.tag line.x.tag (sym line.tag)) in
        let stands : (directory setup dev).task a ≡ Some f.t = ap (directory setup dev).task (sym here) ∙ f.stands in
        let task : task_at h line.x.tag (directory setup dev).task (Some a) ≡ 1 = ap {B = ℕ} (λ x. cond (option_map_or (is_task_of h line.x.tag) x false) 1 0) stands ∙ ap {B = ℕ} (λ b. cond b 1 0) its in
        record {
          o = line.x;
          there = there_now;
          same_tag = line.tag;
          ungranted = ap (granted (in_flight h Channel.Ndr t)) there_now ∙ none_left _ _ (few_grants setup opening limits h host t run a line.x there_now) task;
          unwritten = none.0;
          unevicted = none.1;
          unwritable = unwritable line.x there_now;
          unanswered = none_counted (answers_line h a dev) (in_flight h Channel.BiRsp t)
              (λ m among. false_from_ne_true _ (λ is. unanswered setup opening limits h host t run a f.t stands f.request f.own m among is));
        }

    elsewhere : (cause : Cause) (sends : Sends) (f : FinishedFor setup opening h dev cause sends) → (f.a.0 ≡ a → ⊥) → (o : Transaction) → open_at a own ≡ Some o → count_by (is_ndr_with grants o.tag) (on_channel h Channel.Ndr sends) ≡ 0
    elsewhere cause sends f other o is = ap (count_by (is_ndr_with grants o.tag)) f.sent ∙ sent_elsewhere setup opening limits h host t run cause sends f grants a o is other

  -- ---- one more event

  -- an event of the device keeps the line's numbers
  line_by_device : (e : Event) (past : List Event) → DeviceEvent setup opening e past → seen_at (LineSeen setup h a) h past → after_device (LineSeen setup h a) h e past
  line_by_device e past on old =
      device_line setup opening h host (events_of h past) (events_of device past) (e ∷ events_of device past) a (in_flight h Channel.Req past) (in_flight h Channel.Rwd past) (in_flight h Channel.Ndr past) (in_flight h Channel.BiRsp past) old
      (ungranted_by past on.run (open_at a (events_of h past)) refl) (placed_after setup opening h agent past on.run).answering (grant_facts past on.run) (elsewhere past on.run) e.cause e.sends on.parts.row.w on.row on.parts.row.sends
      (taken setup opening h e past on.parts Channel.Req) (taken setup opening h e past on.parts Channel.Rwd) (taken setup opening h e past on.parts Channel.BiRsp) (answers_few past on.run) (λ f. refl)

  -- what a cause of the host leaves
  abbrev HostNext : List Event → Cause → Sends → Option Commit → Type 0
  HostNext past cause sends commit =
      LineKept h a (copy_next setup cause sends commit (events_of h past) a) (open_after a cause sends (open_at a (events_of h past))) (events_of device past) (in_flight h Channel.Req past ++ on_channel h Channel.Req sends)
      (buffered_requests h (events_of device past)) (in_flight h Channel.Rwd past ++ on_channel h Channel.Rwd sends) (buffered_writes h (events_of device past)) (without_taken (takes_on h Channel.Ndr cause) (in_flight h Channel.Ndr past))
      (in_flight h Channel.BiRsp past ++ on_channel h Channel.BiRsp sends) (listing_code ((directory setup (events_of device past)).listed a h))

  -- an event of the host keeps the line's numbers, by its cause
  host_line : (past : List Event) → IsRun setup opening past → seen_at (LineSeen setup h a) h past → (cause : Cause) (sends : Sends) (commit : Option Commit) (w : Emission) → host_emission setup h cause (events_of h past) ≡ Some w → sends ≡ w.sends
      → commit ≡ w.commit → cause_fits setup h cause ≡ true → Taken (takes_on h Channel.Ndr cause) (in_flight h Channel.Ndr past) → ((n : Message) → takes_on h Channel.Ndr cause ≡ Some n → Among n (in_flight h Channel.Ndr past))
      → HostNext past cause sends commit
  host_line past run old (Cause.Op s i op) sends commit w row sent committed fits taken among =
      operation_line setup h (events_of h past) (events_of device past) a (in_flight h Channel.Req past) (buffered_requests h (events_of device past)) (in_flight h Channel.Rwd past) (buffered_writes h (events_of device past))
      (in_flight h Channel.Ndr past) (in_flight h Channel.BiRsp past) (listing_code ((directory setup (events_of device past)).listed a h)) (λ tag unused. (unused_tags setup opening limits h host past run tag unused).granted) old s i op w sends commit
      (operation_row setup h s i op (events_of h past) w sends commit row sent committed) sent committed
  host_line past run old (Cause.Take k m) sends commit w row sent committed fits taken among =
      let own_run = events_of_run setup opening h past run in
      take_line setup h k m (events_of h past) (events_of device past) a (in_flight h Channel.Req past) (buffered_requests h (events_of device past)) (in_flight h Channel.Rwd past) (buffered_writes h (events_of device past))
      (in_flight h Channel.Ndr past) (in_flight h Channel.BiRsp past) ((directory setup (events_of device past)).listed a h) w sends commit (open_lines_fit setup opening h agent (events_of h past) own_run)
      (open_leads_back setup opening h agent (events_of h past) own_run) fits (host_take-inv setup h k m (events_of h past) w row).same sent committed taken
      (λ op t is. subst (λ x. Among x (in_flight h Channel.Ndr past)) (sym is) (among (Message.Ndr op (record { 0 = t })) (ap (λ x. takes_on h Channel.Ndr (Cause.Take k x)) is
      ∙ takes_here h k Channel.Ndr (Message.Ndr op (record { 0 = t })) (own_take setup h k m agent fits) refl)))
      (few past run) (closed_none past run) (unwritten past run) (unwritable past run) old
  host_line past run old (Cause.Act act) sends commit w row sent committed fits taken among =
      subst (HostNext past (Cause.Act act) sends) (sym (committed ∙ act_uncommitted setup h act (events_of h past) w row))
      (act_line setup h (events_of h past) (events_of device past) a (in_flight h Channel.Req past) (buffered_requests h (events_of device past)) (in_flight h Channel.Rwd past) (buffered_writes h (events_of device past))
      (in_flight h Channel.Ndr past) (in_flight h Channel.BiRsp past) (listing_code ((directory setup (events_of device past)).listed a h)) (host_kept past run) (early_seen setup opening limits h host a past run)
      (no_write setup opening limits h host past run a) (no_answers past run) (first_below setup opening limits h host past run) (λ line. same_block setup opening limits h host past run line a)
      (λ line. block_snooped setup opening limits h host past run line a) old act w sends row sent)

  -- an event of the host keeps the line's numbers
  line_by_host : (e : Event) (past : List Event) → HostEvent setup opening h e past → seen_at (LineSeen setup h a) h past → after_host (LineSeen setup h a) h e past
  line_by_host e past on old =
      host_line past on.run old e.cause e.sends e.commit on.parts.row.w on.row on.parts.row.sends on.parts.row.commit on.fits (taken setup opening h e past on.parts Channel.Ndr)
      (λ n takes. found_among n (in_flight h Channel.Ndr past) (there setup opening h e past on.parts Channel.Ndr n takes))

  -- after every run a line's numbers are kept
  pub line_seen : (t : List Event) → IsRun setup opening t → seen_at (LineSeen setup h a) h t
  line_seen = always setup opening h agent (LineSeen setup h a) line_by_host line_by_device kept_at_start
