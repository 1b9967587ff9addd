-- What is open for a line at stage Asked has the tag of its conflict, and is such as a conflict is declared for. By recursion over a host's own events.
use Rattle.std.proofs.Common.{◌≡◌, ℕ, Bool, true, false, List, [], ◌∷◌, Option, Some, None, cond, refl, sym, ◌∙◌, ap, subst}
use Rattle.std.specs.Prelude.{◌==◌}
use Rattle.std.specs.Option.{option_map_or, option_or}
use Rattle.std.proofs.lemmas.Bool.{eqb-true, false≢true, ne_eqb}
use Rattle.std.proofs.lemmas.Option.{none-some, same_Some}
use Rattle.cxl_message.specs.declared.events.Act.{Act}
use Rattle.cxl_message.specs.declared.events.Cause.{Cause}
use Rattle.cxl_message.specs.declared.events.Commit.{Commit}
use Rattle.cxl_message.specs.declared.events.Event.{Event}
use Rattle.cxl_message.specs.declared.events.Op.{Op}
use Rattle.cxl_message.specs.declared.events.Sends.{Sends}
use Rattle.cxl_message.specs.declared.identifiers.Bytes64.{Bytes64}
use Rattle.cxl_message.specs.declared.identifiers.Line.{Line}
use Rattle.cxl_message.specs.declared.messages.Message.{Message}
use Rattle.cxl_message.specs.declared.opcodes.NdrOp.{NdrOp}
use Rattle.cxl_message.specs.Events.{line_of}
use Rattle.cxl_message.specs.Setup.{Configuration}
use Rattle.cxl_message.specs.Spans.{covers}
use Rattle.coherence_model.specs.Cache.{is_modified}
use Rattle.coherence_model.specs.Emission.{Emission}
use Rattle.coherence_model.specs.Fitting.{is_device}
use Rattle.coherence_model.specs.HostActs.{host_acts, may_conflict}
use Rattle.coherence_model.specs.HostOperations.{eviction_message, request_message}
use Rattle.coherence_model.specs.HostRows.{host_emission}
use Rattle.coherence_model.specs.Snoops.{is_quiet, is_snooped}
use Rattle.coherence_model.specs.Stages.{Stage, conflict_end, stage, stage_after, stage_after_ack, stage_after_completion, was_completed}
use Rattle.coherence_model.specs.Transactions.{Transaction, open_after, open_at, opened}
use Rattle.coherence_lemmas.proofs.HostActs.{h7_conflict-inv}
use Rattle.request_laws.proofs.Conflicts.{conflicts_kept}
use Rattle.request_laws.proofs.HostOperations.{eviction_kind, kind_of, request_opens}
use Rattle.request_laws.proofs.OpenLines.{after_take, one_opens, quiet_parts, take_keeps, two_open, victim_opens}
use Rattle.request_laws.proofs.OwnRuns.{host_goes_on}
use Rattle.request_laws.proofs.SnoopsKept.{counts_snooped}
use Rattle.coherence_model.specs.OwnRuns.{is_own_run}
use Rattle.listing_laws.proofs.Operations.{OperationRow, RowAlone, RowEvicts, RowHits, operation_row}

-- ---- an operation opens no snooped line

-- a quiet line's request opens nothing for a snooped line
unopened : (l a : ℕ) (y : Transaction) (o : Option Transaction) (own : List Event) → is_quiet l own ≡ true → is_snooped a own ≡ true → option_or (cond (l == a) (Some y) None) o ≡ o
unopened l a y o own quiet snooped =
    ap (λ b. option_or (cond b (Some y) None) o) (ne_eqb l a (λ same. false≢true (sym (quiet_parts l own quiet).1 ∙ ap (λ x. is_snooped x own) same ∙ snooped)))

-- an operation leaves what is open for a snooped line
pub operation_leaves : (setup : Configuration) (h s i : ℕ) (op : Op) (own : List Event) (w : Emission) (sends : Sends) (commit : Option Commit) (a : ℕ) → OperationRow setup h s i op own w sends commit → sends ≡ w.sends
    → is_snooped a own ≡ true → open_after a (Cause.Op s i op) sends (open_at a own) ≡ open_at a own
operation_leaves setup h s i op own w sends commit a (RowHits hit) sent snooped = ap (λ x. open_after a (Cause.Op s i op) x (open_at a own)) (sent ∙ ap (λ (y : Emission). y.sends) hit.emits)
operation_leaves setup h s i op own w sends commit a (RowAlone row) sent snooped =
    ap (λ x. open_after a (Cause.Op s i op) x (open_at a own)) row.sent
    ∙ one_opens a s i h op (request_message op row.t) (line_of op) row.t (kind_of op) own (request_opens op row.t)
    ∙ unopened (line_of op) a (opened s i op (kind_of op) row.t) (open_at a own) own row.quiet snooped
operation_leaves setup h s i op own w sends commit a (RowEvicts row) sent snooped =
    let k = eviction_kind (is_modified setup row.v own) in
    ap (λ x. open_after a (Cause.Op s i op) x (open_at a own)) row.sent
    ∙ two_open a s i h op (eviction_message setup row.v own row.t) (request_message op row.u) row.v row.t k (line_of op) row.u (kind_of op) own (victim_opens setup row.v own row.t) (request_opens op row.u)
    ∙ unopened row.v a (opened s i op k row.t) (option_or (cond (line_of op == a) (Some (opened s i op (kind_of op) row.u)) None) (open_at a own)) own row.idle snooped
    ∙ unopened (line_of op) a (opened s i op (kind_of op) row.u) (open_at a own) own row.quiet snooped

-- ---- conflicts

-- what is open has the conflict's tag, and a conflict may be declared for it
pub record AskedFits (t : ℕ) (o : Transaction) : Type 0 where
  pub tag : o.tag ≡ t
  pub may : may_conflict o.kind ≡ true

-- the open request of an Asked line fits its conflict
abbrev pub AskedFit : Stage → Option Transaction → Type 0
AskedFit st open_there = (t : ℕ) → st ≡ Stage.Asked t → (o : Transaction) → open_there ≡ Some o → AskedFits t o

-- what ends a conflict leaves no Asked line
no_end : (b : Bool) (t : ℕ) → cond b Stage.Late Stage.Early ≡ Stage.Asked t → ⊥
no_end true t e = cc
no_end false t e = cc

-- a line that is Asked after a BI-ConflictAck was Asked with the tag before
acked_back : (tag a : ℕ) (own : List Event) (t : ℕ) (st : Stage) → stage_after_ack tag a own st ≡ Stage.Asked t → st ≡ Stage.Asked t
acked_back tag a own t Stage.New h = h
acked_back tag a own t (Stage.Asked u) h = by (u == tag) h
  where
    by : (b : Bool) → cond b (conflict_end (open_at a own)) (Stage.Asked u) ≡ Stage.Asked t → Stage.Asked u ≡ Stage.Asked t
    by true e = absurd (no_end (was_completed (open_at a own)) t e)
    by false e = e
acked_back tag a own t Stage.Early h = h
acked_back tag a own t Stage.Late h = h
acked_back tag a own t Stage.Writing h = h
acked_back tag a own t Stage.Written h = h

completed_back : (setup : Configuration) (tag t : ℕ) (st : Stage) → stage_after_completion setup tag st ≡ Stage.Asked t → st ≡ Stage.Asked t
completed_back setup tag t Stage.New h = h
completed_back setup tag t (Stage.Asked u) h = h
completed_back setup tag t Stage.Early h = h
completed_back setup tag t Stage.Late h = h
completed_back setup tag t Stage.Writing h = by (tag == setup.tags) h
  where
    by : (b : Bool) → cond b Stage.Written Stage.Writing ≡ Stage.Asked t → Stage.Writing ≡ Stage.Asked t
    by true e = cc
    by false e = e
completed_back setup tag t Stage.Written h = h

-- a line that is Asked after a snoop came was Asked with the tag before
new_back : (b : Bool) (t : ℕ) (st : Stage) → cond b Stage.New st ≡ Stage.Asked t → st ≡ Stage.Asked t
new_back true t st h = cc
new_back false t st h = h

-- a line that is Asked after a take was Asked with the tag before
take_back : (setup : Configuration) (k : ℕ) (m : Message) (own : List Event) (a t : ℕ) → stage_after setup a (Cause.Take k m) own (stage setup a own) ≡ Stage.Asked t → stage setup a own ≡ Stage.Asked t
take_back setup k (Message.Req _ _ _ _ _) own a t st = st
take_back setup k (Message.MemWr _ _ _ _ _) own a t st = st
take_back setup k (Message.BiConflict _) own a t st = st
take_back setup k (Message.BiRsp _ _ _) own a t st = st
take_back setup k (Message.Ndr NdrOp.Cmp tag) own a t st = completed_back setup tag.0 t (stage setup a own) st
take_back setup k (Message.Ndr NdrOp.CmpS tag) own a t st = st
take_back setup k (Message.Ndr NdrOp.CmpE tag) own a t st = st
take_back setup k (Message.Ndr NdrOp.ConflictAck tag) own a t st = acked_back tag.0 a own t (stage setup a own) st
take_back setup k (Message.MemData _ _) own a t st = st
take_back setup k (Message.BiSnp _ _ line span) own a t st = new_back (covers line.0 span a) t (stage setup a own) st
take_back setup k (Message.Credit _) own a t st = st

module _ (setup : Configuration) (opening : List (Line × Bytes64)) (h : ℕ) (own : List Event) (a : ℕ) (old : AskedFit (stage setup a own) (open_at a own)) where
  -- a take keeps the tag of an Asked line
  take_asked : (k : ℕ) (m : Message) (sends : Sends) → AskedFit (stage_after setup a (Cause.Take k m) own (stage setup a own)) (open_after a (Cause.Take k m) sends (open_at a own))
  take_asked k m sends t st p there =
      let was = after_take m (open_at a own) p there in
      let kept = take_keeps m was.0 p was.2 in
      let fits = old t (take_back setup k m own a t st) was.0 was.1 in
      record { tag = kept.tag ∙ fits.tag; may = ap may_conflict kept.kind ∙ fits.may }

  -- a BIConflict asks with the tag of the open request
  began : (line : ℕ) (b : Bool) (w : Emission) → (line == a) ≡ b → host_acts setup h (Act.Conflict (record { 0 = line })) own ≡ Some w → AskedFit (cond b (Stage.Asked (option_map_or (λ o. o.tag) (open_at a own) 0)) (stage setup a own)) (open_at a own)
  began line true w is row t st o there =
      let inv = h7_conflict-inv setup h line own (open_at line own) w row in
      let tag : option_map_or (λ (x : Transaction). x.tag) (open_at a own) 0 ≡ t = asked_tag _ t st in
      let same = same_Some inv.o o (sym inv.opened ∙ ap (λ x. open_at x own) (eqb-true line a is) ∙ there) in
      record { tag = sym (ap (λ x. option_map_or (λ (y : Transaction). y.tag) x 0) there) ∙ tag; may = subst (λ (x : Transaction). may_conflict x.kind ≡ true) same inv.may }
    where
      asked_tag : (u v : ℕ) → Stage.Asked u ≡ Stage.Asked v → u ≡ v
      asked_tag u v e = cc
  began line false w is row t st o there = old t st o there

  -- a write back leaves the Asked lines
  write_back : (b : Bool) → AskedFit (cond b Stage.Writing (stage setup a own)) (open_at a own)
  write_back true = λ t st o there. absurd (no_writing t st)
    where
      no_writing : (t : ℕ) → Stage.Writing ≡ Stage.Asked t → ⊥
      no_writing t e = cc
  write_back false = old

  -- a host's act keeps the tag of an Asked line
  act_asked : (act : Act) (sends : Sends) (w : Emission) → host_acts setup h act own ≡ Some w → AskedFit (stage_after setup a (Cause.Act act) own (stage setup a own)) (open_at a own)
  act_asked (Act.Conflict line) sends w row = began line.0 (line.0 == a) w refl row
  act_asked (Act.WriteBack line) sends w row = write_back (line.0 == a)
  act_asked (Act.Answer _) sends w row = old
  act_asked (Act.AnswerBlock _) sends w row = old
  act_asked (Act.HostReturn _) sends w row = old
  act_asked (Act.Serve _ _) sends w row = old
  act_asked (Act.Clean _ _) sends w row = old
  act_asked (Act.Start _ _) sends w row = old
  act_asked (Act.Evict _ _) sends w row = old
  act_asked (Act.Snoop _ _) sends w row = old
  act_asked (Act.Finish _) sends w row = old
  act_asked (Act.DeviceReturn _ _) sends w row = old

  -- an event of the host keeps the tag of an Asked line
  cause_asked : (cause : Cause) (sends : Sends) (commit : Option Commit) (w : Emission) → host_emission setup h cause own ≡ Some w → sends ≡ w.sends → commit ≡ w.commit
      → ((t : ℕ) → stage setup a own ≡ Stage.Asked t → is_snooped a own ≡ true) → AskedFit (stage_after setup a cause own (stage setup a own)) (open_after a cause sends (open_at a own))
  cause_asked (Cause.Op s i op) sends commit w row sent committed snooped t st o there =
      old t st o (sym (operation_leaves setup h s i op own w sends commit a (operation_row setup h s i op own w sends commit row sent committed) sent (snooped t st)) ∙ there)
  cause_asked (Cause.Take k m) sends commit w row sent committed snooped t st o there = take_asked k m sends t st o there
  cause_asked (Cause.Act act) sends commit w row sent committed snooped t st o there = act_asked act sends w row t st o there

-- what is open for an Asked line fits its conflict, by recursion over the host's own events
pub asked_fit : (setup : Configuration) (opening : List (Line × Bytes64)) (h : ℕ) → is_device h ≡ false → (own : List Event) → is_own_run setup opening h own ≡ true → (a : ℕ) → AskedFit (stage setup a own) (open_at a own)
asked_fit setup opening h host [] run a = λ t st o there. absurd (none-some o there)
asked_fit setup opening h host (e ∷ past) run a =
    let on = host_goes_on setup opening h host e past run in
    cause_asked setup opening h past a (asked_fit setup opening h host past on.before a) e.cause e.sends e.commit on.step.w on.step.row on.step.sends on.step.commit
    (λ t st. counts_snooped a past ((conflicts_kept setup opening h host past on.before).asked a t st).snooped)
