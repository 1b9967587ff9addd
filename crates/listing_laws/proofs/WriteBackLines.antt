-- Each write-back under way is of a line at stage Writing: by recursion over the run.
use Rattle.std.proofs.Common.{◌≡◌, ℕ, ◌+◌, ◌≤◌, ◌<◌, Bool, true, false, IsTrue, List, ◌∷◌, ◌++◌, Some, cond, count_by, refl, sym, ◌∙◌, ap, arith, ◌⊎◌, inl, inr}
use Rattle.std.specs.Prelude.{not, ◌==◌, ◌&&◌}
use Rattle.std.proofs.lemmas.Bool.{and_parts, cond-false, cond-true, eq-eqb, eqb-true, false≢true, ne_eqb}
use Rattle.std.proofs.lemmas.Option.{none-some}
use Rattle.cxl_message.specs.declared.channels.Channel.{Channel}
use Rattle.cxl_message.specs.declared.events.Act.{Act}
use Rattle.cxl_message.specs.declared.events.Cause.{Cause}
use Rattle.cxl_message.specs.declared.events.Event.{Event}
use Rattle.cxl_message.specs.declared.events.Op.{Op}
use Rattle.cxl_message.specs.declared.events.Sends.{Sends}
use Rattle.cxl_message.specs.declared.identifiers.Bytes64.{Bytes64}
use Rattle.cxl_message.specs.declared.identifiers.Line.{Line}
use Rattle.cxl_message.specs.declared.messages.Message.{Message}
use Rattle.cxl_message.specs.declared.opcodes.Meta.{Meta}
use Rattle.cxl_message.specs.declared.opcodes.NdrOp.{NdrOp}
use Rattle.cxl_message.specs.declared.opcodes.ReqOp.{ReqOp}
use Rattle.cxl_message.specs.declared.opcodes.SnpType.{SnpType}
use Rattle.cxl_message.specs.Setup.{Configuration, IsWithinLimits}
use Rattle.cxl_message.specs.Spans.{covers}
use Rattle.coherence_model.specs.Buffers.{buffered_writes}
use Rattle.coherence_model.specs.Cache.{copy, is_modified}
use Rattle.coherence_model.specs.Copies.{asks_for_grant}
use Rattle.coherence_model.specs.Emission.{Emission}
use Rattle.coherence_model.specs.Fitting.{cause_fits, is_host}
use Rattle.coherence_model.specs.Flight.{in_flight, takes_on}
use Rattle.coherence_model.specs.HostActs.{host_acts, write_back_message}
use Rattle.coherence_model.specs.HostOperations.{eviction_message, request_message}
use Rattle.coherence_model.specs.HostRows.{host_emission}
use Rattle.coherence_model.specs.HostTakes.{host_takes}
use Rattle.coherence_model.specs.RequestFacts.{is_ndr_with, is_write_with, ndr_count, writes_under_way}
use Rattle.coherence_model.specs.Runs.{IsRun}
use Rattle.coherence_model.specs.Snoops.{snoop_at}
use Rattle.coherence_model.specs.Stages.{Stage, is_new, stage, stage_after, stage_after_ack, stage_after_completion}
use Rattle.coherence_model.specs.Traces.{device, events_of}
use Rattle.coherence_model.specs.Transactions.{open_at}
use Rattle.coherence_model.specs.WriteBacks.{completes, is_write_back_open, takes_completion}
use Rattle.coherence_lemmas.proofs.Directions.{take_parts}
use Rattle.coherence_lemmas.proofs.HostActs.{h10_return-inv, h7_conflict-inv, h8_write_back-inv, h9_answer-inv, h9_answer_block-inv}
use Rattle.coherence_lemmas.proofs.HostTakes.{h4_snoop-inv}
use Rattle.coherence_lemmas.proofs.Rows.{host_take-inv}
use Rattle.coherence_lemmas.proofs.TakesSendNothing.{host_takes_silent}
use Rattle.request_laws.proofs.AllPlaces.{there}
use Rattle.request_laws.proofs.Conflicts.{uncovered}
use Rattle.request_laws.proofs.Counts.{count_by-append}
use Rattle.request_laws.proofs.Each.{Each, each_of_none, each_weaker}
use Rattle.request_laws.proofs.HostPlaces.{takes_here}
use Rattle.request_laws.proofs.OpenPlaced.{write_tagged}
use Rattle.request_laws.proofs.Owners.{other_write_backs, write_backs_are_placed}
use Rattle.coherence_model.proofs.OwnRuns.{events_of_run}
use Rattle.request_laws.proofs.OwnRuns.{host_is_no_device}
use Rattle.request_laws.proofs.Places.{is_write_of, on_channel}
use Rattle.request_laws.proofs.WriteBacks.{WritesAre, writes_kept}
use Rattle.snoop_laws.proofs.Counts.{Among, among_counts, found_among}
use Rattle.listing_laws.proofs.Induction.{DeviceEvent, HostEvent, Seen, after_device, after_host, always, seen_at}
use Rattle.listing_laws.proofs.Operations.{OperationRow, RowAlone, RowEvicts, RowHits, operation_row}
use Rattle.listing_laws.proofs.UnderWay.{each_none, each_one, each_two, writes_by_device}

-- whether a message is a MemWr of line a
abbrev pub writes_line : ℕ → Message → Bool
writes_line a (Message.Req _ _ _ _ _) = false
writes_line a (Message.MemWr _ _ _ line _) = line.0 == a
writes_line a (Message.BiConflict _) = false
writes_line a (Message.BiRsp _ _ _) = false
writes_line a (Message.Ndr _ _) = false
writes_line a (Message.MemData _ _) = false
writes_line a (Message.BiSnp _ _ _ _) = false
writes_line a (Message.Credit _) = false

-- whether a message is a MemClnEvct of line a
abbrev pub cleans_line : ℕ → Message → Bool
cleans_line a (Message.Req op _ _ _ line) = not (asks_for_grant op) && (line.0 == a)
cleans_line a (Message.MemWr _ _ _ _ _) = false
cleans_line a (Message.BiConflict _) = false
cleans_line a (Message.BiRsp _ _ _) = false
cleans_line a (Message.Ndr _ _) = false
cleans_line a (Message.MemData _ _) = false
cleans_line a (Message.BiSnp _ _ _ _) = false
cleans_line a (Message.Credit _) = false

-- ---- write-backs

-- a message with the write-back tag writes back a line at stage Writing
abbrev pub Back : Configuration → List Event → Message → Type 0
Back setup own m = (l : ℕ) → is_write_with l setup.tags m ≡ true → stage setup l own ≡ Stage.Writing

-- a line at stage Writing stays so until the Cmp of the write-back
still_acted : (setup : Configuration) (h : ℕ) (act : Act) (own : List Event) (w : Emission) (l : ℕ) → host_acts setup h act own ≡ Some w → stage setup l own ≡ Stage.Writing
    → stage_after setup l (Cause.Act act) own (stage setup l own) ≡ Stage.Writing
still_acted setup h (Act.Conflict line) own w l row st =
    let inv = h7_conflict-inv setup h line.0 own (open_at line.0 own) w row in
    cond-false (line.0 == l) _ (stage setup l own) (ne_eqb line.0 l (λ same. false≢true (sym (ap is_new (ap (λ x. stage setup x own) same ∙ st)) ∙ inv.new))) ∙ st
still_acted setup h (Act.WriteBack line) own w l row st = by (line.0 == l)
  where
    by : (b : Bool) → cond b Stage.Writing (stage setup l own) ≡ Stage.Writing
    by true = refl
    by false = st
still_acted setup h (Act.Answer line) own w l row st = st
still_acted setup h (Act.AnswerBlock line) own w l row st = st
still_acted setup h (Act.HostReturn c) own w l row st = st
still_acted setup h (Act.Serve k tag) own w l row st = st
still_acted setup h (Act.Clean k tag) own w l row st = st
still_acted setup h (Act.Start k tag) own w l row st = st
still_acted setup h (Act.Evict k tag) own w l row st = st
still_acted setup h (Act.Snoop k line) own w l row st = st
still_acted setup h (Act.Finish line) own w l row st = st
still_acted setup h (Act.DeviceReturn k c) own w l row st = st

-- a take that completes no write back leaves a line at stage Writing
still_taken : (setup : Configuration) (h k : ℕ) (m : Message) (own : List Event) (w : Emission) (l : ℕ) → host_takes setup h m own ≡ Some w → WritesAre setup own → takes_completion setup.tags (Cause.Take k m) ≡ false
    → stage setup l own ≡ Stage.Writing → stage_after setup l (Cause.Take k m) own (stage setup l own) ≡ Stage.Writing
still_taken setup h k (Message.Req _ _ _ _ _) own w l row writes incomplete st = st
still_taken setup h k (Message.MemWr _ _ _ _ _) own w l row writes incomplete st = st
still_taken setup h k (Message.BiConflict _) own w l row writes incomplete st = st
still_taken setup h k (Message.BiRsp _ _ _) own w l row writes incomplete st = st
still_taken setup h k (Message.Ndr NdrOp.Cmp tag) own w l row writes incomplete st = ap (stage_after_completion setup tag.0) st ∙ cond-false (tag.0 == setup.tags) Stage.Written Stage.Writing incomplete
still_taken setup h k (Message.Ndr NdrOp.CmpS tag) own w l row writes incomplete st = st
still_taken setup h k (Message.Ndr NdrOp.CmpE tag) own w l row writes incomplete st = st
still_taken setup h k (Message.Ndr NdrOp.ConflictAck tag) own w l row writes incomplete st = ap (stage_after_ack tag.0 l own) st
still_taken setup h k (Message.MemData _ _) own w l row writes incomplete st = st
still_taken setup h k (Message.BiSnp op bitag line span) own w l row writes incomplete st =
    cond-false (covers line.0 span l) Stage.New (stage setup l own) (uncovered own l line.0 span (h4_snoop-inv line.0 span own w row).unsnooped (writes.written l st).snooped) ∙ st
still_taken setup h k (Message.Credit _) own w l row writes incomplete st = st

-- an event that completes no write back leaves a line at stage Writing
still : (setup : Configuration) (h : ℕ) (cause : Cause) (own : List Event) (w : Emission) (l : ℕ) → host_emission setup h cause own ≡ Some w → WritesAre setup own → takes_completion setup.tags cause ≡ false
    → stage setup l own ≡ Stage.Writing → stage_after setup l cause own (stage setup l own) ≡ Stage.Writing
still setup h (Cause.Op s i op) own w l row writes incomplete st = st
still setup h (Cause.Take k m) own w l row writes incomplete st = still_taken setup h k m own w l (host_take-inv setup h k m own w row).same writes incomplete st
still setup h (Cause.Act act) own w l row writes incomplete st = still_acted setup h act own w l row st

-- a request is no MemWr
request_no_write : (l tags t : ℕ) (op : Op) → is_write_with l tags (request_message op t) ≡ true → ⊥
request_no_write l tags t (Op.Load line) h = false≢true h
request_no_write l tags t (Op.Word line place word) h = false≢true h
request_no_write l tags t (Op.Whole line bytes) h = false≢true h

-- an eviction has another tag than the write-back
eviction_no_back : (b : Bool) (bytes : Bytes64) (l tags v t : ℕ) → t < tags
    → is_write_with l tags (cond b (Message.MemWr Meta.Invalid SnpType.NoOp (record { 0 = t }) (record { 0 = v }) bytes) (Message.Req ReqOp.MemClnEvct Meta.Invalid SnpType.NoOp (record { 0 = t }) (record { 0 = v }))) ≡ true → ⊥
eviction_no_back true bytes l tags v t less h = let same = eqb-true t tags (and_parts (v == l) (t == tags) h).1 in absurd (omega arith)
eviction_no_back false bytes l tags v t less h = false≢true h

-- what an emission sends
abbrev sends_of : Emission → Sends
sends_of w = w.sends

module _ (setup : Configuration) (h : ℕ) (own later : List Event) (fl : List Message) (each : Each (Back setup later) fl) where
  -- what the host sends keeps it
  operation_backs : (s i : ℕ) (op : Op) (w : Emission) (e : Event) → OperationRow setup h s i op own w e.sends e.commit → e.sends ≡ w.sends → Each (Back setup later) (fl ++ on_channel h Channel.Rwd e.sends)
  operation_backs s i op w e (RowHits hit) sent = each_none (Back setup later) h Channel.Rwd e.sends fl (sent ∙ ap sends_of hit.emits) each
  operation_backs s i op w e (RowAlone row) sent =
      each_one (Back setup later) h Channel.Rwd e.sends (request_message op row.t) fl row.sent (λ l is. absurd (request_no_write l setup.tags row.t op is)) each
  operation_backs s i op w e (RowEvicts row) sent =
      each_two (Back setup later) h Channel.Rwd e.sends (eviction_message setup row.v own row.t) (request_message op row.u) fl row.sent
      (λ l is. absurd (eviction_no_back (is_modified setup row.v own) (copy setup row.v own).bytes l setup.tags row.v row.t row.free.first.exists is)) (λ l is. absurd (request_no_write l setup.tags row.u op is)) each

  -- an act's write back is of a line at stage Writing
  act_backs : (act : Act) (w : Emission) (sends : Sends) → host_acts setup h act own ≡ Some w → sends ≡ w.sends → ((line : Line) → act ≡ Act.WriteBack line → stage setup line.0 later ≡ Stage.Writing)
      → Each (Back setup later) (fl ++ on_channel h Channel.Rwd sends)
  act_backs (Act.Conflict line) w sends row sent begun =
      each_one (Back setup later) h Channel.Rwd sends _ fl (sent ∙ ap sends_of (h7_conflict-inv setup h line.0 own (open_at line.0 own) w row).emits) (λ l is. absurd (false≢true is)) each
  act_backs (Act.WriteBack line) w sends row sent begun =
      let inv = h8_write_back-inv setup h line.0 own (snoop_at line.0 own) w row in
      each_one (Back setup later) h Channel.Rwd sends (write_back_message setup inv.s.op line.0 own) fl (sent ∙ ap sends_of inv.emits)
      (λ l is. ap (λ x. stage setup x later) (sym (eqb-true line.0 l (and_parts (line.0 == l) _ is).0)) ∙ begun line refl) each
  act_backs (Act.Answer line) w sends row sent begun =
      each_one (Back setup later) h Channel.Rwd sends _ fl (sent ∙ ap sends_of (h9_answer-inv setup h line.0 own (snoop_at line.0 own) w row).emits) (λ l is. absurd (false≢true is)) each
  act_backs (Act.AnswerBlock line) w sends row sent begun =
      each_one (Back setup later) h Channel.Rwd sends _ fl (sent ∙ ap sends_of (h9_answer_block-inv setup h line.0 own w row).emits) (λ l is. absurd (false≢true is)) each
  act_backs (Act.HostReturn c) w sends row sent begun = each_one (Back setup later) h Channel.Rwd sends _ fl (sent ∙ ap sends_of (h10_return-inv h c own w row).emits) (λ l is. absurd (false≢true is)) each
  act_backs (Act.Serve k tag) w sends row sent begun = absurd (none-some w row)
  act_backs (Act.Clean k tag) w sends row sent begun = absurd (none-some w row)
  act_backs (Act.Start k tag) w sends row sent begun = absurd (none-some w row)
  act_backs (Act.Evict k tag) w sends row sent begun = absurd (none-some w row)
  act_backs (Act.Snoop k line) w sends row sent begun = absurd (none-some w row)
  act_backs (Act.Finish line) w sends row sent begun = absurd (none-some w row)
  act_backs (Act.DeviceReturn k c) w sends row sent begun = absurd (none-some w row)

-- the write-backs under way, as the host and the device see them
abbrev pub BacksSeen : Configuration → ℕ → Seen
BacksSeen setup h own dev fr fw ndr rs = Each (Back setup own) fw × Each (Back setup own) (buffered_writes h dev)

-- a completion that is taken was in flight
completed_there : (setup : Configuration) (k : ℕ) (m : Message) (ns : List Message) → takes_completion setup.tags (Cause.Take k m) ≡ true → Among m ns → 1 ≤ count_by (is_ndr_with completes setup.tags) ns
completed_there setup k (Message.Req _ _ _ _ _) ns is among = absurd (false≢true is)
completed_there setup k (Message.MemWr _ _ _ _ _) ns is among = absurd (false≢true is)
completed_there setup k (Message.BiConflict _) ns is among = absurd (false≢true is)
completed_there setup k (Message.BiRsp _ _ _) ns is among = absurd (false≢true is)
completed_there setup k (Message.Ndr op tag) ns is among = among_counts (is_ndr_with completes setup.tags) (Message.Ndr op tag) ns is among
completed_there setup k (Message.MemData _ _) ns is among = absurd (false≢true is)
completed_there setup k (Message.BiSnp _ _ _ _) ns is among = absurd (false≢true is)
completed_there setup k (Message.Credit _) ns is among = absurd (false≢true is)

-- one of at most one leaves none
at_most_one : (n m : ℕ) → (n + m ≡ 1) ⊎ (n + m ≡ 0) → 1 ≤ m → n ≡ 0
at_most_one n m (inl e) h = omega arith
at_most_one n m (inr e) h = omega arith

-- a sum of none has none
both_zero : (n m : ℕ) → n + m ≡ 0 → (n ≡ 0) × (m ≡ 0)
both_zero n m e = (omega arith, omega arith)

module _ (setup : Configuration) (opening : List (Line × Bytes64)) (limits : IsWithinLimits setup) (h : ℕ) (host : IsTrue (is_host setup h)) where
  -- an event that completes no write back keeps it, by its cause
  cause_backs : (e : Event) (past : List Event) (cause : Cause) (w : Emission) → e.cause ≡ cause → host_emission setup h cause (events_of h past) ≡ Some w → e.sends ≡ w.sends → e.commit ≡ w.commit
      → (fl : List Message) → Each (Back setup (e ∷ events_of h past)) fl → Each (Back setup (e ∷ events_of h past)) (fl ++ on_channel h Channel.Rwd e.sends)
  cause_backs e past (Cause.Op s i op) w is row sent committed fl each =
      operation_backs setup h (events_of h past) (e ∷ events_of h past) fl each s i op w e (operation_row setup h s i op (events_of h past) w e.sends e.commit row sent committed) sent
  cause_backs e past (Cause.Take k m) w is row sent committed fl each =
      each_none (Back setup (e ∷ events_of h past)) h Channel.Rwd e.sends fl (sent ∙ host_takes_silent setup h m (events_of h past) w (host_take-inv setup h k m (events_of h past) w row).same) each
  cause_backs e past (Cause.Act act) w is row sent committed fl each =
      act_backs setup h (events_of h past) (e ∷ events_of h past) fl each act w e.sends row sent
      (λ line same. ap (λ c. stage_after setup line.0 c (events_of h past) (stage setup line.0 (events_of h past))) (is ∙ ap Cause.Act same)
      ∙ cond-true (line.0 == line.0) Stage.Writing (stage setup line.0 (events_of h past)) (eq-eqb line.0 line.0 refl))

  -- at the Cmp of a write-back no write-back is under way
  none_back : (past : List Event) (k : ℕ) (m : Message) → IsRun setup opening past → takes_completion setup.tags (Cause.Take k m) ≡ true → Among m (in_flight h Channel.Ndr past)
      → (count_by (is_write_of setup.tags) (in_flight h Channel.Rwd past) ≡ 0) × (count_by (is_write_of setup.tags) (buffered_writes h (events_of device past)) ≡ 0)
  none_back past k m run is among =
      let cmp = completed_there setup k m (in_flight h Channel.Ndr past) is among in
      let none = at_most_one (count_by (is_write_of setup.tags) (writes_under_way h past)) (ndr_count completes h setup.tags past) (by (is_write_back_open setup (events_of h past)) refl) cmp in
      both_zero (count_by (is_write_of setup.tags) (in_flight h Channel.Rwd past)) (count_by (is_write_of setup.tags) (buffered_writes h (events_of device past)))
      (sym (count_by-append (is_write_of setup.tags) (in_flight h Channel.Rwd past) (buffered_writes h (events_of device past))) ∙ none)
    where
      by : (b : Bool) → is_write_back_open setup (events_of h past) ≡ b
          → (count_by (is_write_of setup.tags) (writes_under_way h past) + ndr_count completes h setup.tags past ≡ 1) ⊎ (count_by (is_write_of setup.tags) (writes_under_way h past) + ndr_count completes h setup.tags past ≡ 0)
      by true is' = inl (write_backs_are_placed setup opening limits h host past run is')
      by false is' = inr (other_write_backs setup opening limits h host past run is')

  -- a completed write back leaves none under way
  ended : (past : List Event) (later : List Event) (cause : Cause) → IsRun setup opening past → takes_completion setup.tags cause ≡ true → ((n : Message) → takes_on h Channel.Ndr cause ≡ Some n → Among n (in_flight h Channel.Ndr past))
      → cause_fits setup h cause ≡ true → Each (Back setup later) (in_flight h Channel.Rwd past) × Each (Back setup later) (buffered_writes h (events_of device past))
  ended past later (Cause.Op s i op) run is among fits = absurd (false≢true is)
  ended past later (Cause.Take k (Message.Req _ _ _ _ _)) run is among fits = absurd (false≢true is)
  ended past later (Cause.Take k (Message.MemWr _ _ _ _ _)) run is among fits = absurd (false≢true is)
  ended past later (Cause.Take k (Message.BiConflict _)) run is among fits = absurd (false≢true is)
  ended past later (Cause.Take k (Message.BiRsp _ _ _)) run is among fits = absurd (false≢true is)
  ended past later (Cause.Take k (Message.Ndr op tag)) run is among fits =
      let m = Message.Ndr op tag in
      let none = none_back past k m run is (among m (takes_here h k Channel.Ndr m (sym (take_parts setup h k m fits).receiver) refl)) in (
        each_weaker _ (Back setup later) (λ n back l with_tag. back (write_tagged l setup.tags n with_tag) l with_tag) (in_flight h Channel.Rwd past) (each_of_none (Back setup later) (is_write_of setup.tags) (in_flight h Channel.Rwd past) none.0),
        each_weaker _ (Back setup later) (λ n back l with_tag. back (write_tagged l setup.tags n with_tag) l with_tag) (buffered_writes h (events_of device past))
            (each_of_none (Back setup later) (is_write_of setup.tags) (buffered_writes h (events_of device past)) none.1),
      )
  ended past later (Cause.Take k (Message.MemData _ _)) run is among fits = absurd (false≢true is)
  ended past later (Cause.Take k (Message.BiSnp _ _ _ _)) run is among fits = absurd (false≢true is)
  ended past later (Cause.Take k (Message.Credit _)) run is among fits = absurd (false≢true is)
  ended past later (Cause.Act act) run is among fits = absurd (false≢true is)

  -- an event of the host keeps it
  backs_by_host : (e : Event) (past : List Event) → HostEvent setup opening h e past → seen_at (BacksSeen setup h) h past → after_host (BacksSeen setup h) h e past
  backs_by_host e past on old = by (takes_completion setup.tags e.cause) refl
    where
      by : (b : Bool) → takes_completion setup.tags e.cause ≡ b → after_host (BacksSeen setup h) h e past
      by true is =
          let kept = ended past (e ∷ events_of h past) e.cause on.run is (λ n takes. found_among n (in_flight h Channel.Ndr past) (there setup opening h e past on.parts Channel.Ndr n takes)) on.fits in
          (cause_backs e past e.cause on.parts.row.w refl on.row on.parts.row.sends on.parts.row.commit (in_flight h Channel.Rwd past) kept.0, kept.1)
      by false is =
          let writes = writes_kept setup opening h (host_is_no_device setup limits h host) (events_of h past) (events_of_run setup opening h past on.run) in
          let stays : (m : Message) → Back setup (events_of h past) m → Back setup (e ∷ events_of h past) m = λ m back l with_tag. still setup h e.cause (events_of h past) on.parts.row.w l on.row writes is (back l with_tag) in (
            cause_backs e past e.cause on.parts.row.w refl on.row on.parts.row.sends on.parts.row.commit (in_flight h Channel.Rwd past) (each_weaker _ _ stays (in_flight h Channel.Rwd past) old.0),
            each_weaker _ _ stays (buffered_writes h (events_of device past)) old.1,
          )

  -- an event of the device keeps it
  backs_by_device : (e : Event) (past : List Event) → DeviceEvent setup opening e past → seen_at (BacksSeen setup h) h past → after_device (BacksSeen setup h) h e past
  backs_by_device e past on old =
      writes_by_device (Back setup (events_of h past)) h e.cause (in_flight h Channel.Rwd past) (buffered_writes h (events_of device past)) (there setup opening h e past on.parts Channel.Rwd) old.0 old.1

  -- after every run each write-back under way is of a line at stage Writing
  pub backs_seen : (t : List Event) → IsRun setup opening t → seen_at (BacksSeen setup h) h t
  backs_seen = always setup opening h (host_is_no_device setup limits h host) (BacksSeen setup h) backs_by_host backs_by_device (tt, tt)
