-- After every run the commits form a legal history: each commits the flat memory's line after its operation. By recursion over the run.
use Rattle.std.proofs.Common.{◌≡◌, ℕ, ◌<◌, Bool, true, false, IsTrue, List, [], ◌∷◌, ◌++◌, Option, Some, None, refl, sym, ◌∙◌, ap, subst, inl, inr}
use Rattle.std.specs.Prelude.{nat_lt, ◌==◌, ◌||◌}
use Rattle.std.specs.Option.{option_map_or, option_to_list}
use Rattle.std.proofs.lemmas.Bool.{and_from, and_parts, eqb-true, ltb-true}
use Rattle.std.proofs.lemmas.Option.{none-some, same_Some}
use Rattle.cxl_message.specs.declared.channels.Channel.{Channel}
use Rattle.cxl_message.specs.declared.events.Cause.{Cause}
use Rattle.cxl_message.specs.declared.events.Commit.{Commit}
use Rattle.cxl_message.specs.declared.events.Event.{Event}
use Rattle.cxl_message.specs.declared.events.Op.{Op}
use Rattle.cxl_message.specs.declared.events.Sends.{Sends}
use Rattle.cxl_message.specs.declared.identifiers.Bytes64.{Bytes64}
use Rattle.cxl_message.specs.declared.identifiers.Line.{Line}
use Rattle.cxl_message.specs.declared.messages.Message.{Message}
use Rattle.cxl_message.specs.Codes.{channel_eq}
use Rattle.cxl_message.specs.Events.{line_of}
use Rattle.cxl_message.specs.Formed.{commit_formed, place_exists}
use Rattle.cxl_message.specs.Messages.{channel_of}
use Rattle.cxl_message.specs.Setup.{Configuration, IsWithinLimits}
use Rattle.coherence_lemmas.proofs.Allowed.{AllowedParts, allowed_parts}
use Rattle.cxl_message.proofs.SameNames.{same-bytes_eq}
use Rattle.coherence_lemmas.proofs.Rows.{device_row, host_row, host_take-inv}
use Rattle.coherence_model.specs.Buffers.{buffered_writes}
use Rattle.coherence_model.specs.Cache.{copy, is_valid}
use Rattle.coherence_model.specs.Emission.{Emission}
use Rattle.coherence_model.specs.Fitting.{cause_fits, commit_fits, is_host}
use Rattle.cxl_message.specs.Stores.{line_after}
use Rattle.coherence_model.specs.FlatMemory.{commit_is_legal, flat_line, is_legal}
use Rattle.coherence_model.specs.Flight.{in_flight, takes_on}
use Rattle.coherence_model.specs.HostOperations.{hits}
use Rattle.coherence_model.specs.HostRows.{host_emission}
use Rattle.coherence_model.specs.Rows.{row_emission}
use Rattle.coherence_model.specs.Runs.{IsRun, is_allowed, is_run}
use Rattle.coherence_model.specs.Traces.{device, events_of, history}
use Rattle.coherence_model.specs.Transactions.{is_read}
use Rattle.request_laws.proofs.AllPlaces.{there}
use Rattle.request_laws.proofs.DeviceCauses.{WasThere}
use Rattle.listing_laws.proofs.HostLines.{act_uncommitted}
use Rattle.listing_laws.proofs.Operations.{OperationRow, RowAlone, RowEvicts, RowHits, operation_row}
use Rattle.listing_laws.proofs.Takes.{Fill, take_commits}
use Rattle.value_laws.proofs.DeviceCommits.{device_uncommitted}
use Rattle.value_laws.proofs.Has.{writable_valid}
use Rattle.value_laws.proofs.HostEvents.{HasAt, data_channel, was_there}
use Rattle.value_laws.proofs.HostFacts.{fit, line_kept, unwritten_request}
use Rattle.value_laws.proofs.Kept.{ValueKept}
use Rattle.value_laws.proofs.Takes.{filled_bytes}

-- a hit finds a copy
hit_valid : (setup : Configuration) (op : Op) (own : List Event) → hits setup op own ≡ true → is_valid (copy setup (line_of op) own) ≡ true
hit_valid setup (Op.Load line) own hit = hit
hit_valid setup (Op.Word line place word) own hit = writable_valid (copy setup line.0 own) hit
hit_valid setup (Op.Whole line bytes) own hit = writable_valid (copy setup line.0 own) hit

-- one more commit, if there is one
legal_next : (lines : ℕ) (opening : List (Line × Bytes64)) (commit : Option Commit) (older : List Commit) → is_legal lines opening older ≡ true → ((c : Commit) → commit ≡ Some c → commit_is_legal lines opening c older ≡ true)
    → is_legal lines opening (option_to_list commit ++ older) ≡ true
legal_next lines opening None older before legal = before
legal_next lines opening (Some c) older before legal = and_from (is_legal lines opening older) _ before (legal c refl)

abbrev commit_value : Commit → Bytes64
commit_value c = c.value

module _ (setup : Configuration) (opening : List (Line × Bytes64)) (limits : IsWithinLimits setup) (h : ℕ) (host : IsTrue (is_host setup h)) (t : List Event) (run : IsRun setup opening t) (flat : ℕ → Bytes64)
    (has : (a : ℕ) → a < setup.lines → HasAt setup a (flat a) h t) where
  -- the host's own events
  abbrev own : List Event
  own = events_of h t

  -- a commit has the flat memory's line after its operation
  abbrev IsFlat : Commit → Type 0
  IsFlat c = line_of c.op < setup.lines → c.value ≡ line_after c.op (flat (line_of c.op))

  -- one commit is the other
  flat_as : (x c : Commit) (commit : Option Commit) → commit ≡ Some x → commit ≡ Some c → IsFlat x → IsFlat c
  flat_as x c commit e f holds = subst IsFlat (same_Some x c (sym e ∙ f)) holds

  -- a hit commits the line
  hit_flat : (s i : ℕ) (op : Op) → hits setup op own ≡ true → IsFlat (record { stream = s; index = i; op = op; value = line_after op (copy setup (line_of op) own).bytes })
  hit_flat s i op hit exists = ap (line_after op) ((has (line_of op) exists).copied (hit_valid setup op own hit))

  -- so does an operation that commits
  operation_flat : (s i : ℕ) (op : Op) (w : Emission) (sends : Sends) (commit : Option Commit) (c : Commit) → OperationRow setup h s i op own w sends commit → commit ≡ w.commit → commit ≡ Some c → IsFlat c
  operation_flat s i op w sends commit c (RowHits hit) committed is = flat_as _ c commit (committed ∙ ap (λ (y : Emission). y.commit) hit.emits) is (hit_flat s i op hit.on_copy)
  operation_flat s i op w sends commit c (RowAlone row) committed is = absurd (none-some c (sym row.uncommitted ∙ is))
  operation_flat s i op w sends commit c (RowEvicts row) committed is = absurd (none-some c (sym row.uncommitted ∙ is))

  -- so does a fill
  fill_flat : (k : ℕ) (m : Message) (commit : Option Commit) (f : Fill own m commit) → cause_fits setup h (Cause.Take k m) ≡ true → ((c : Channel) → WasThere (takes_on h c (Cause.Take k m)) (in_flight h c t))
      → IsFlat (record { stream = f.o.stream; index = f.o.index; op = f.o.op; value = line_after f.o.op f.bytes })
  fill_flat k m commit f fits arrives exists =
      let line = ((fit setup opening limits h host t run f.l f.o f.there).asked f.request).1 in
      let old = has f.l (subst (λ l. l < setup.lines) line exists) in
      filled_bytes setup h own f.l (flat f.l) (in_flight h Channel.Rwd t) (buffered_writes h (events_of device t)) (in_flight h Channel.Ndr t) (in_flight h Channel.Drs t) old k m
      (λ b is. was_there setup opening limits h host t run f.l (flat f.l) old k m Channel.Drs fits (arrives Channel.Drs) (data_channel m b is)) (fit setup opening limits h host t run) (line_kept setup opening limits h host t run f.l)
      (λ op tag is. was_there setup opening limits h host t run f.l (flat f.l) old k m Channel.Ndr fits (arrives Channel.Ndr) (ap (λ x. channel_eq (channel_of x) Channel.Ndr) is)) (unwritten_request setup opening limits h host t run f.l)
      commit f f.there (is_read f.o.kind) refl
      ∙ ap (λ l. line_after f.o.op (flat l)) (sym line)

  -- so does each cause that commits
  cause_flat : (cause : Cause) (w : Emission) (sends : Sends) (commit : Option Commit) (c : Commit) → host_emission setup h cause own ≡ Some w → sends ≡ w.sends → commit ≡ w.commit → cause_fits setup h cause ≡ true
      → ((ch : Channel) → WasThere (takes_on h ch cause) (in_flight h ch t)) → commit ≡ Some c → IsFlat c
  cause_flat (Cause.Op s i op) w sends commit c row sent committed fits arrives is = operation_flat s i op w sends commit c (operation_row setup h s i op own w sends commit row sent committed) committed is
  cause_flat (Cause.Take k m) w sends commit c row sent committed fits arrives is = elim (take_commits setup h m own w commit (host_take-inv setup h k m own w row).same committed (fit setup opening limits h host t run)) [
    | inl none ↦ absurd (none-some c (sym none ∙ is))
    | inr f ↦ flat_as _ c commit f.committed is (fill_flat k m commit f fits arrives)
  ]
  cause_flat (Cause.Act act) w sends commit c row sent committed fits arrives is = absurd (none-some c (sym (committed ∙ act_uncommitted setup h act own w row) ∙ is))

module _ (setup : Configuration) (opening : List (Line × Bytes64)) (limits : IsWithinLimits setup)
    (kept : (a : ℕ) → a < setup.lines → (t : List Event) → IsRun setup opening t → ValueKept setup opening a (flat_line opening a (history t)) t) where
  module _ (e : Event) (past : List Event) (run : IsRun setup opening past) (parts : AllowedParts setup opening past e) where
    -- so does each event that commits
    commit_flat : (c : Commit) → e.commit ≡ Some c → line_of c.op < setup.lines → (b : Bool) → (e.agent == device) ≡ b → (b || is_host setup e.agent) ≡ true → c.value ≡ line_after c.op (flat_line opening (line_of c.op) (history past))
    commit_flat c is exists true its agent =
        let emits = sym (device_row setup opening device e.cause (events_of device past) refl) ∙ subst (λ g. row_emission setup opening g e.cause (events_of g past) ≡ Some parts.row.w) (eqb-true e.agent device its) parts.row.row in
        absurd (none-some c (sym (parts.row.commit ∙ device_uncommitted setup opening e.cause (events_of device past) parts.row.w emits) ∙ is))
    commit_flat c is exists false other agent =
        cause_flat setup opening limits e.agent agent past run (λ a. flat_line opening a (history past)) (λ a less. (kept a less past run).hosts e.agent agent) e.cause parts.row.w e.sends e.commit c
        (sym (host_row setup opening e.agent e.cause (events_of e.agent past) other) ∙ parts.row.row) parts.row.sends parts.row.commit parts.profile.cause (λ ch. there setup opening e.agent e past parts ch) is exists

    -- each commit is legal
    pub commit_legal : (c : Commit) → e.commit ≡ Some c → commit_is_legal setup.lines opening c (history past) ≡ true
    commit_legal c is =
        let exists : nat_lt (line_of c.op) setup.lines ≡ true = ap (λ x. option_map_or (commit_fits setup) x true) (sym is) ∙ parts.profile.commit in
        let formed : commit_formed c ≡ true = ap (λ x. option_map_or commit_formed x true) (sym is) ∙ (and_parts _ (option_map_or commit_formed e.commit true) parts.profile.formed).1 in
        and_from _ _ (and_from _ _ exists (and_parts (nat_lt c.stream 64) (place_exists c.op) formed).1)
        (same-bytes_eq c.value _ (commit_flat c is (ltb-true (line_of c.op) setup.lines exists) (e.agent == device) refl parts.profile.agent))

  -- after every run the history is legal
  pub run_legal : (t : List Event) → IsRun setup opening t → is_legal setup.lines opening (history t) ≡ true
  run_legal [] run = refl
  run_legal (e ∷ past) run =
      let runs = and_parts (is_run setup opening past) (is_allowed setup opening past e) run in
      legal_next setup.lines opening e.commit (history past) (run_legal past runs.0) (commit_legal e past runs.0 (allowed_parts setup opening past e runs.1))
