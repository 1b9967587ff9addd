-- Causes, sends, commits and events: what is read is spelled so, and what is spelled is read again.
use Rattle.std.proofs.Common.{◌≡◌, ℕ, zero, suc, true, List, [], ◌∷◌, ◌++◌, Option, Some, None, refl, sym, ap, subst, append_assoc, arith}
use Rattle.std.specs.Prelude.{IsTrue, IfSome}
use Rattle.std.specs.List.{list_all, AllByRecursion}
use Rattle.std.specs.Option.{option_map_or}
use Rattle.std.proofs.lemmas.Bool.{leb-true, le-leb, and_parts, and_from}
use Rattle.std.proofs.lemmas.List.{append-nil}
use Rattle.cxl_message.specs.declared.events.Cause.{Cause}
use Rattle.cxl_message.specs.declared.events.Out.{Out}
use Rattle.cxl_message.specs.declared.events.Sends.{Sends}
use Rattle.cxl_message.specs.declared.events.Commit.{Commit}
use Rattle.cxl_message.specs.declared.events.Event.{Event}
use Rattle.cxl_message.specs.Events.{outs}
use Rattle.cxl_message.specs.Formed.{cause_formed, out_formed, commit_formed}
use Rattle.cxl_codec.specs.declared.versions.Version.{Version}
use Rattle.cxl_codec.specs.declared.fields.FieldName.{FieldName}
use Rattle.cxl_codec.specs.declared.kinds.CauseKind.{CauseKind}
use Rattle.cxl_codec.specs.Cells.{Cell, kind, field}
use Rattle.cxl_codec.specs.Kinds.{cause_kind_code}
use Rattle.cxl_codec.specs.Messages.{MessageInRange}
use Rattle.cxl_codec.specs.Events.{cause_cells, out_cells, sends_cells, commit_cells, event_cells_in, CauseInRange, CommitInRange, EventFitsIn}
use Rattle.cxl_codec.specs.Reading.{Read}
use Rattle.cxl_codec.specs.ReadingEvents.{cause_fields_at, cause_at, out_at, outs_at, sends_at, flagged_at, commit_at, event_at}
use Rattle.cxl_codec.proofs.Outcomes.{Sound, After, IsRead, Spells, Meets, then_sound, done_sound, ends_sound, then_read, done_read, ends_read}
use Rattle.cxl_codec.proofs.Parts.{Within, payload_meets}
use Rattle.cxl_codec.proofs.Tables.{cause_kind_meets}
use Rattle.cxl_codec.proofs.MessageReads.{line_meets, message_meets}
use Rattle.cxl_codec.proofs.ActReads.{host_meets, stream_meets, count_meets, flag_meets, agent_meets, below_next, within_from, op_meets, act_meets}

module _ (version : Version) where
  -- ---- causes

  -- a cause that has cells
  abbrev pub CauseFits : Cause → Type 0
  CauseFits c = IsTrue (cause_formed c) × (CauseInRange version) c

  -- what is read after the kind byte of a cause
  cause_fields_sound : (k : CauseKind) → Sound (After (Spells CauseFits (cause_cells version)) (kind (cause_kind_code k) ∷ [])) ((cause_fields_at version) k)
  unfolding cause_fields_at
  cause_fields_sound CauseKind.Op =
      then_sound _ _ _ stream_meets _ _ (λ stream s.
      then_sound _ _ _ line_meets _ _ (λ index i.
      ends_sound _ _ _ op_meets _ (λ op. Cause.Op stream index op) (λ op o. ((and_from _ _ (below_next 63 64 stream refl s) o.0, (i, o.1)), refl))))
  cause_fields_sound CauseKind.Take =
      then_sound _ _ _ host_meets _ _ (λ host h.
      ends_sound _ _ _ (message_meets version) _ (λ message. Cause.Take host message) (λ message m. ((and_from _ _ (below_next 15 16 host refl h) m.0, m.1), refl)))
  cause_fields_sound CauseKind.Act =
      ends_sound _ _ _ (act_meets version) _ (λ act. Cause.Act act) (λ act a. ((a.0, a.1), refl))

  -- a cause that is read is spelled so
  cause_sound : Sound (Spells CauseFits (cause_cells version)) (cause_at version)
  unfolding cause_at
  cause_sound = then_sound _ _ _ cause_kind_meets _ _ (λ k _. cause_fields_sound k)

  -- a cause that is spelled is read again
  cause_read : (c : Cause) → CauseFits c → IsRead (cause_at version) c ((cause_cells version) c)
  unfolding cause_at cause_fields_at
  cause_read (Cause.Op stream index op) fits =
      let parts = and_parts _ _ fits.0 in
      then_read _ _ _ (cause_kind_meets.complete CauseKind.Op tt) _ _ _
      (then_read _ _ _ (stream_meets.complete stream (within_from 63 64 stream refl parts.0)) _ _ _
      (then_read _ _ _ (line_meets.complete index fits.1.0) _ _ _
      (ends_read _ _ _ (op_meets.complete op (parts.1, fits.1.1)) (λ op. Cause.Op stream index op))))
  cause_read (Cause.Take host message) fits =
      let parts = and_parts _ _ fits.0 in
      then_read _ _ _ (cause_kind_meets.complete CauseKind.Take tt) _ _ _
      (then_read _ _ _ (host_meets.complete host (within_from 15 16 host refl parts.0)) _ _ _
      (ends_read _ _ _ ((message_meets version).complete message (parts.1, fits.1)) (λ message. Cause.Take host message)))
  cause_read (Cause.Act act) fits =
      then_read _ _ _ (cause_kind_meets.complete CauseKind.Act tt) _ _ _
      (ends_read _ _ _ ((act_meets version).complete act (fits.0, fits.1)) (λ act. Cause.Act act))

  -- the reader of causes meets the grammar
  pub cause_meets : Meets CauseFits (cause_cells version) (cause_at version)
  cause_meets = record { sound = cause_sound; complete = cause_read }

  -- ---- sends

  -- a sent message that has cells
  abbrev pub OutFits : Out → Type 0
  OutFits o = IsTrue (out_formed o) × (MessageInRange version) o.message

  -- a sent message that is read is spelled so
  out_sound : Sound (Spells OutFits (out_cells version)) (out_at version)
  unfolding out_at
  out_sound =
      then_sound _ _ _ host_meets _ _ (λ host h.
      ends_sound _ _ _ (message_meets version) _ (λ message. record { host = host; message = message }) (λ message m. ((and_from _ _ (below_next 15 16 host refl h) m.0, m.1), refl)))

  -- a sent message that is spelled is read again
  out_read : (o : Out) → OutFits o → IsRead (out_at version) o ((out_cells version) o)
  unfolding out_at
  out_read o fits =
      let parts = and_parts _ _ fits.0 in
      then_read _ _ _ (host_meets.complete o.host (within_from 15 16 o.host refl parts.0)) _ _ _
      (ends_read _ _ _ ((message_meets version).complete o.message (parts.1, fits.1)) (λ message. record { host = o.host; message = message }))

  -- the reader of sent messages meets the grammar
  out_meets : Meets OutFits (out_cells version) (out_at version)
  out_meets = record { sound = out_sound; complete = out_read }

  -- sends that have cells
  abbrev pub SendsFit : Sends → Type 0
  SendsFit s = IsTrue (list_all out_formed (outs s)) × AllByRecursion (λ o. (MessageInRange version) o.message) (outs s)

  -- what is read after the number of sends
  outs_sound : (n : ℕ) → Within 0 2 n → Sound (After (Spells SendsFit (sends_cells version)) (field FieldName.SendCount n ∷ [])) ((outs_at version) n)
  unfolding outs_at
  outs_sound zero fits = done_sound _ Sends.Nothing ((refl, tt), refl)
  outs_sound (suc zero) fits =
      ends_sound _ _ _ out_meets _ (λ first. Sends.One first) (λ first f.
      ((and_from _ _ f.0 refl, (f.1, tt)), ap (λ (cs : List Cell). field FieldName.SendCount 1 ∷ cs) (sym (append-nil ((out_cells version) first)))))
  outs_sound (suc (suc zero)) fits =
      then_sound _ _ _ out_meets _ _ (λ first f.
      ends_sound _ _ _ out_meets _ (λ second. Sends.Two first second) (λ second s.
      ((and_from _ _ f.0 (and_from _ _ s.0 refl), (f.1, (s.1, tt))), ap (λ (cs : List Cell). field FieldName.SendCount 2 ∷ (out_cells version) first ++ cs) (sym (append-nil ((out_cells version) second))))))
  outs_sound (suc (suc (suc n))) fits = absurd (omega (arith, fits.1))

  -- sends that are read are spelled so
  sends_sound : Sound (Spells SendsFit (sends_cells version)) (sends_at version)
  unfolding sends_at
  sends_sound = then_sound _ _ _ count_meets _ _ outs_sound

  -- cells that are the same are read alike
  same_cells : {X : Type 0} (reads : List ℕ → Read X) (x : X) (cs ds : List Cell) → cs ≡ ds → IsRead reads x cs → IsRead reads x ds
  same_cells reads x cs ds e r = subst (λ (all : List Cell). IsRead reads x all) e r

  -- sends that are spelled are read again
  sends_read : (s : Sends) → SendsFit s → IsRead (sends_at version) s ((sends_cells version) s)
  unfolding sends_at outs_at
  sends_read Sends.Nothing fits = then_read _ _ _ (count_meets.complete 0 (omega arith, omega arith)) _ _ _ (done_read Sends.Nothing)
  sends_read (Sends.One first) fits =
      let parts = and_parts _ _ fits.0 in
      same_cells (sends_at version) _ _ _ (ap (λ (cs : List Cell). field FieldName.SendCount 1 ∷ cs) (sym (append-nil ((out_cells version) first))))
      (then_read _ _ _ (count_meets.complete 1 (omega arith, omega arith)) _ _ _
      (ends_read _ _ _ (out_meets.complete first (parts.0, fits.1.0)) (λ first. Sends.One first)))
  sends_read (Sends.Two first second) fits =
      let parts = and_parts _ _ fits.0 in
      let more = and_parts _ _ parts.1 in
      same_cells (sends_at version) _ _ _ (ap (λ (cs : List Cell). field FieldName.SendCount 2 ∷ (out_cells version) first ++ cs) (sym (append-nil ((out_cells version) second))))
      (then_read _ _ _ (count_meets.complete 2 (omega arith, omega arith)) _ _ _
      (then_read _ _ _ (out_meets.complete first (parts.0, fits.1.0)) _ _ _
      (ends_read _ _ _ (out_meets.complete second (more.0, fits.1.1.0)) (λ second. Sends.Two first second))))

  -- the reader of sends meets the grammar
  sends_meets : Meets SendsFit (sends_cells version) (sends_at version)
  sends_meets = record { sound = sends_sound; complete = sends_read }

  -- ---- commits

  -- a commit, or none, that has cells
  abbrev pub CommitFits : Option Commit → Type 0
  CommitFits c = IsTrue (option_map_or commit_formed c true) × IfSome c CommitInRange

  -- what is read after the flag before a commit
  flagged_sound : (n : ℕ) → Within 0 1 n → Sound (After (Spells CommitFits commit_cells) (field FieldName.CommitFlag n ∷ [])) (flagged_at n)
  unfolding flagged_at
  flagged_sound zero fits = done_sound _ None ((refl, tt), refl)
  flagged_sound (suc zero) fits =
      then_sound _ _ _ stream_meets _ _ (λ stream s.
      then_sound _ _ _ line_meets _ _ (λ index i.
      then_sound _ _ _ op_meets _ _ (λ op o.
      ends_sound _ _ _ payload_meets _ (λ value. Some (record { stream = stream; index = index; op = op; value = value })) (λ value v.
      ((and_from _ _ (below_next 63 64 stream refl s) o.0, record { index = i; op = o.1; value = v }), refl)))))
  flagged_sound (suc (suc n)) fits = absurd (omega (arith, fits.1))

  -- a commit that is read is spelled so
  commit_sound : Sound (Spells CommitFits commit_cells) commit_at
  unfolding commit_at
  commit_sound = then_sound _ _ _ flag_meets _ _ flagged_sound

  -- a commit that is spelled is read again
  commit_read : (c : Option Commit) → CommitFits c → IsRead commit_at c (commit_cells c)
  unfolding commit_at flagged_at
  commit_read None fits = then_read _ _ _ (flag_meets.complete 0 (omega arith, omega arith)) _ _ _ (done_read None)
  commit_read (Some c) fits =
      let parts = and_parts _ _ fits.0 in
      then_read _ _ _ (flag_meets.complete 1 (omega arith, omega arith)) _ _ _
      (then_read _ _ _ (stream_meets.complete c.stream (within_from 63 64 c.stream refl parts.0)) _ _ _
      (then_read _ _ _ (line_meets.complete c.index fits.1.index) _ _ _
      (then_read _ _ _ (op_meets.complete c.op (parts.1, fits.1.op)) _ _ _
      (ends_read _ _ _ (payload_meets.complete c.value fits.1.value) (λ value. Some (record { stream = c.stream; index = c.index; op = c.op; value = value }))))))

  -- the reader of commits meets the grammar
  commit_meets : Meets CommitFits commit_cells commit_at
  commit_meets = record { sound = commit_sound; complete = commit_read }

  -- ---- events

  -- an event fits where its parts do
  event_fits : (e : Event) → Within 0 16 e.agent → CauseFits e.cause → SendsFit e.sends → CommitFits e.commit → (EventFitsIn version) e
  event_fits e a c s m = record {
    formed = and_from _ _ (and_from _ _ (and_from _ _ (le-leb _ _ a.1) c.0) s.0) m.0;
    cause = c.1;
    sends = s.1;
    commit = m.1;
  }

  -- and only there
  event_parts : (e : Event) → (EventFitsIn version) e → Within 0 16 e.agent × CauseFits e.cause × SendsFit e.sends × CommitFits e.commit
  event_parts e fits =
      let last = and_parts _ _ fits.formed in
      let third = and_parts _ _ last.0 in
      let second = and_parts _ _ third.0 in
      ((omega arith, leb-true _ _ second.0), (second.1, fits.cause), (third.1, fits.sends), (last.1, fits.commit))

  -- the parts of an event, grouped as they are read
  regrouped : (a : Cell) (xs ys zs : List Cell) → a ∷ (xs ++ (ys ++ zs)) ≡ a ∷ xs ++ ys ++ zs
  regrouped a xs ys zs = ap (λ (cs : List Cell). a ∷ cs) (sym (append_assoc xs ys zs))

  -- an event that is read is spelled so
  event_sound : Sound (Spells (EventFitsIn version) (event_cells_in version)) (event_at version)
  unfolding event_at
  event_sound =
      then_sound _ _ _ agent_meets _ _ (λ agent a.
      then_sound _ _ _ cause_meets _ _ (λ cause c.
      then_sound _ _ _ sends_meets _ _ (λ sends s.
      ends_sound _ _ _ commit_meets _ (λ commit. record { agent = agent; cause = cause; sends = sends; commit = commit }) (λ commit m.
      (event_fits (record { agent = agent; cause = cause; sends = sends; commit = commit }) a c s m, regrouped (field FieldName.Agent agent) ((cause_cells version) cause) ((sends_cells version) sends) (commit_cells commit))))))

  -- an event that is spelled is read again
  event_read : (e : Event) → (EventFitsIn version) e → IsRead (event_at version) e ((event_cells_in version) e)
  unfolding event_at
  event_read e fits =
      let parts = event_parts e fits in
      same_cells (event_at version) _ _ _ (regrouped (field FieldName.Agent e.agent) ((cause_cells version) e.cause) ((sends_cells version) e.sends) (commit_cells e.commit))
      (then_read _ _ _ (agent_meets.complete e.agent parts.0) _ _ _
      (then_read _ _ _ (cause_meets.complete e.cause parts.1) _ _ _
      (then_read _ _ _ (sends_meets.complete e.sends parts.2) _ _ _
      (ends_read _ _ _ (commit_meets.complete e.commit parts.3) (λ commit. record { agent = e.agent; cause = e.cause; sends = e.sends; commit = commit })))))

  -- the reader of events meets the grammar
  pub event_meets : Meets (EventFitsIn version) (event_cells_in version) (event_at version)
  event_meets = record { sound = event_sound; complete = event_read }
