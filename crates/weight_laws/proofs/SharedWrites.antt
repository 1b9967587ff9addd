-- A MemWr Shared under way is the write-back for a BISnpData that its host holds: by recursion over the run.
use Rattle.std.proofs.Common.{◌≡◌, ℕ, Bool, true, false, List, [], ◌∷◌, ◌++◌, Option, Some, cond, filter, find, refl, sym, ◌∙◌, ap, subst}
use Rattle.std.specs.Prelude.{is_some, length, map, not, ◌&&◌, ◌==◌, ◌||◌}
use Rattle.std.specs.Option.{option_or}
use Rattle.std.proofs.lemmas.Bool.{cond-false, cond-true, eq-eqb, false≢true, ne_eqb}
use Rattle.std.proofs.lemmas.List.Folds.{find-append}
use Rattle.std.proofs.lemmas.Option.{none-some, same_Some}
use Rattle.cxl_message.specs.declared.channels.Channel.{Channel}
use Rattle.cxl_message.specs.declared.events.Act.{Act}
use Rattle.cxl_message.specs.declared.events.Cause.{Cause}
use Rattle.cxl_message.specs.declared.events.Event.{Event}
use Rattle.cxl_message.specs.declared.events.Op.{Op}
use Rattle.cxl_message.specs.declared.events.Out.{Out}
use Rattle.cxl_message.specs.declared.events.Sends.{Sends}
use Rattle.cxl_message.specs.declared.messages.Message.{Message}
use Rattle.cxl_message.specs.declared.opcodes.Meta.{Meta}
use Rattle.cxl_message.specs.declared.opcodes.NdrOp.{NdrOp}
use Rattle.cxl_message.specs.declared.opcodes.ReqOp.{ReqOp}
use Rattle.cxl_message.specs.declared.opcodes.RspOp.{RspOp}
use Rattle.cxl_message.specs.declared.opcodes.SnpOp.{SnpOp}
use Rattle.cxl_message.specs.declared.opcodes.SnpType.{SnpType}
use Rattle.cxl_message.specs.Codes.{span_len}
use Rattle.cxl_message.specs.Events.{outs}
use Rattle.cxl_message.specs.Lists.{is_in, without}
use Rattle.cxl_message.specs.Setup.{Configuration}
use Rattle.cxl_message.specs.Spans.{covers, lines_of}
use Rattle.coherence_model.specs.Cache.{copy, is_modified}
use Rattle.coherence_model.specs.Copies.{is_shared_meta}
use Rattle.coherence_model.specs.Emission.{Emission}
use Rattle.coherence_model.specs.Flight.{is_on}
use Rattle.coherence_model.specs.HostActs.{is_data_snoop, write_back_message, write_back_meta}
use Rattle.coherence_model.specs.HostOperations.{eviction_message, request_message}
use Rattle.coherence_model.specs.HostRows.{host_emission}
use Rattle.coherence_model.specs.Snoops.{Snoop, buffered_snoops, invalidates_block, is_whole_block, snoop_at, snoop_left, snoops_after, snoops_after_answer}
use Rattle.coherence_model.specs.Stages.{Stage, is_early_or_written, is_new, is_new_or_late, stage, stage_after, stage_after_ack, stage_after_completion}
use Rattle.coherence_lemmas.proofs.HostActs.{h10_return-inv}
use Rattle.request_laws.proofs.Conflicts.{uncovered}
use Rattle.request_laws.proofs.Each.{Each}
use Rattle.request_laws.proofs.HostOperations.{Evicts, Hits, Operated, Requests, operated}
use Rattle.request_laws.proofs.HostTakes.{answer_row, block_row, conflict_row, take_row, takes_send_nothing, write_back_row}
use Rattle.coherence_lemmas.proofs.HostTakes.{h4_snoop-inv}
use Rattle.request_laws.proofs.SnoopsKept.{snooped_counts}
use Rattle.weight_laws.proofs.Sums.{in_without, not_in_without}

-- a MemWr Shared is that of a line at stage Writing, for a BISnpData
pub record IsWriting (setup : Configuration) (snoop : Option Snoop) (st : Stage) : Type 0 where
  pub s : Snoop
  pub there : snoop ≡ Some s
  pub shared : is_data_snoop s.op ≡ true
  pub stage_is : st ≡ Stage.Writing

-- what is said of each message of RwD
abbrev pub WritesBack : Configuration → (ℕ → Option Snoop) → (ℕ → Stage) → Message → Type 0
WritesBack setup snoops stages (Message.Req _ _ _ _ _) = Unit {0}
WritesBack setup snoops stages (Message.MemWr meta _ tag line _) = is_shared_meta meta ≡ true → (tag.0 ≡ setup.tags) × IsWriting setup (snoops line.0) (stages line.0)
WritesBack setup snoops stages (Message.BiConflict _) = Unit {0}
WritesBack setup snoops stages (Message.BiRsp _ _ _) = Unit {0}
WritesBack setup snoops stages (Message.Ndr _ _) = Unit {0}
WritesBack setup snoops stages (Message.MemData _ _) = Unit {0}
WritesBack setup snoops stages (Message.BiSnp _ _ _ _) = Unit {0}
WritesBack setup snoops stages (Message.Credit _) = Unit {0}

-- ---- what stays

-- a snoop that is still held after the answer for another line
answer_keeps_by : (a b : ℕ) (r s : Snoop) (ss rest : List Snoop) (gone here : Bool) → is_in b r.unanswered ≡ gone → is_in a r.unanswered ≡ here → (a == b) ≡ false
    → ((find (λ (z : Snoop). is_in a z.unanswered) ss ≡ Some s) → (x : Snoop) × (find (λ (z : Snoop). is_in a z.unanswered) rest ≡ Some x) × (x.op ≡ s.op))
    → cond here (Some r) (find (λ (z : Snoop). is_in a z.unanswered) ss) ≡ Some s
    → (x : Snoop) × (find (λ (z : Snoop). is_in a z.unanswered) (cond gone (snoop_left r (without b r.unanswered) ++ ss) (r ∷ rest)) ≡ Some x) × (x.op ≡ s.op)
answer_keeps_by a b r s ss rest true true gone here other later found =
    left_keeps a r s (without b r.unanswered) ss (in_without a b r.unanswered here other) (same_Some r s found)
  where
    left_by : (a z : ℕ) (zs : List ℕ) (r s : Snoop) (ss : List Snoop) → is_in a (z ∷ zs) ≡ true → r ≡ s
        → (x : Snoop) × (find (λ (y : Snoop). is_in a y.unanswered) (record r { unanswered = z ∷ zs } ∷ ss) ≡ Some x) × (x.op ≡ s.op)
    left_by a z zs r s ss there same = (
      record r { unanswered = z ∷ zs },
      cond-true (is_in a (z ∷ zs)) (Some (record r { unanswered = z ∷ zs })) (find (λ (y : Snoop). is_in a y.unanswered) ss) there,
      ap (λ (y : Snoop). y.op) same,
    )

    left_keeps : (a : ℕ) (r s : Snoop) (zs : List ℕ) (ss : List Snoop) → is_in a zs ≡ true → r ≡ s → (x : Snoop) × (find (λ (y : Snoop). is_in a y.unanswered) (snoop_left r zs ++ ss) ≡ Some x) × (x.op ≡ s.op)
    left_keeps a r s [] ss there same = absurd (false≢true there)
    left_keeps a r s (z ∷ zs) ss there same = left_by a z zs r s ss there same
answer_keeps_by a b r s ss rest true false gone here other later found =
    left_none a r (without b r.unanswered) ss s (not_in_without a b r.unanswered here) found
  where
    left_none : (a : ℕ) (r : Snoop) (zs : List ℕ) (ss : List Snoop) (s : Snoop) → is_in a zs ≡ false → find (λ (y : Snoop). is_in a y.unanswered) ss ≡ Some s → (x : Snoop) × (find (λ (y : Snoop). is_in a y.unanswered) (snoop_left r zs ++ ss) ≡ Some x) × (x.op ≡ s.op)
    left_none a r [] ss s none found = (s, found, refl)
    left_none a r (z ∷ zs) ss s none found = (s, cond-false (is_in a (z ∷ zs)) (Some (record r { unanswered = z ∷ zs })) (find (λ (y : Snoop). is_in a y.unanswered) ss) none ∙ found, refl)
answer_keeps_by a b r s ss rest false true gone here other later found =
    (r, cond-true (is_in a r.unanswered) (Some r) (find (λ (z : Snoop). is_in a z.unanswered) rest) here, ap (λ (y : Snoop). y.op) (same_Some r s found))
answer_keeps_by a b r s ss rest false false gone here other later found =
    let x = later found in (x.0, cond-false (is_in a r.unanswered) (Some r) (find (λ (z : Snoop). is_in a z.unanswered) rest) here ∙ x.1, x.2)

answer_keeps : (a b : ℕ) (ss : List Snoop) (s : Snoop) → (a == b) ≡ false → find (λ (z : Snoop). is_in a z.unanswered) ss ≡ Some s → (x : Snoop) × (find (λ (z : Snoop). is_in a z.unanswered) (snoops_after_answer b ss) ≡ Some x) × (x.op ≡ s.op)
answer_keeps a b [] s other found = absurd (none-some s found)
answer_keeps a b (r ∷ ss) s other found =
    answer_keeps_by a b r s ss (snoops_after_answer b ss) (is_in b r.unanswered) (is_in a r.unanswered) refl refl other (answer_keeps a b ss s other) found

-- a snoop that a filter keeps is found as before
filter_keeps_by : (p q : Snoop → Bool) (r s : Snoop) (ss : List Snoop) (here keep : Bool) → p r ≡ here → q r ≡ keep → q s ≡ true → (find p ss ≡ Some s → find p (filter q ss) ≡ Some s) → cond here (Some r) (find p ss) ≡ Some s
    → find p (cond keep (r ∷ filter q ss) (filter q ss)) ≡ Some s
filter_keeps_by p q r s ss true true here keep kept later found = cond-true (p r) (Some r) (find p (filter q ss)) here ∙ found
filter_keeps_by p q r s ss true false here keep kept later found = absurd (false≢true (sym keep ∙ ap q (same_Some r s found) ∙ kept))
filter_keeps_by p q r s ss false true here keep kept later found = cond-false (p r) (Some r) (find p (filter q ss)) here ∙ later found
filter_keeps_by p q r s ss false false here keep kept later found = later found

filter_keeps : (p q : Snoop → Bool) (ss : List Snoop) (s : Snoop) → q s ≡ true → find p ss ≡ Some s → find p (filter q ss) ≡ Some s
filter_keeps p q [] s kept found = absurd (none-some s found)
filter_keeps p q (r ∷ ss) s kept found = filter_keeps_by p q r s ss (p r) (q r) refl refl kept (filter_keeps p q ss s kept) found

data_is_no_block : (op : SnpOp) → is_data_snoop op ≡ true → invalidates_block op ≡ false
data_is_no_block SnpOp.Cur h = refl
data_is_no_block SnpOp.Dat h = refl
data_is_no_block SnpOp.Inv h = refl
data_is_no_block SnpOp.CurBlk h = refl
data_is_no_block SnpOp.DatBlk h = refl
data_is_no_block SnpOp.InvBlk h = absurd (false≢true h)

not_ready : (st : Stage) (x y : Bool) → st ≡ Stage.Writing → (is_early_or_written st || (is_new_or_late st && x && y)) ≡ true → ⊥
not_ready st x y writing ready = false≢true (sym (ap (λ z. is_early_or_written z || (is_new_or_late z && x && y)) writing) ∙ ready)

-- a cause keeps what is said of a line at stage Writing
abbrev pub Keeps : Configuration → Cause → List Event → Type 0
Keeps setup cause mine =
    (a : ℕ) → IsWriting setup (snoop_at a mine) (stage setup a mine)
    → IsWriting setup (find (λ (s : Snoop). is_in a s.unanswered) (snoops_after cause (buffered_snoops mine))) (stage_after setup a cause mine (stage setup a mine))

same_keeps : (setup : Configuration) (snoop : Option Snoop) (st st' : Stage) → st' ≡ st → IsWriting setup snoop st → IsWriting setup snoop st'
same_keeps setup snoop st st' same is = record { s = is.s; there = is.there; shared = is.shared; stage_is = same ∙ is.stage_is }

take_keeps : (setup : Configuration) (h k : ℕ) (m : Message) (mine : List Event) (w : Emission) → host_emission setup h (Cause.Take k m) mine ≡ Some w
    → ((tag : ℕ) → m ≡ Message.Ndr NdrOp.Cmp (record { 0 = tag }) → tag ≡ setup.tags → (a : ℕ) → stage setup a mine ≡ Stage.Writing → ⊥) → Keeps setup (Cause.Take k m) mine
take_keeps setup h k (Message.Req _ _ _ _ _) mine w row other a is = is
take_keeps setup h k (Message.MemWr _ _ _ _ _) mine w row other a is = is
take_keeps setup h k (Message.BiConflict _) mine w row other a is = is
take_keeps setup h k (Message.BiRsp _ _ _) mine w row other a is = is
take_keeps setup h k (Message.Ndr NdrOp.Cmp tag) mine w row other a is =
    same_keeps setup (snoop_at a mine) (stage setup a mine) _
    (ap (stage_after_completion setup tag.0) is.stage_is ∙ cond-false (tag.0 == setup.tags) Stage.Written Stage.Writing (ne_eqb tag.0 setup.tags (λ same. other tag.0 refl same a is.stage_is)) ∙ sym is.stage_is) is
take_keeps setup h k (Message.Ndr NdrOp.CmpS tag) mine w row other a is = is
take_keeps setup h k (Message.Ndr NdrOp.CmpE tag) mine w row other a is = is
take_keeps setup h k (Message.Ndr NdrOp.ConflictAck tag) mine w row other a is =
    same_keeps setup (snoop_at a mine) (stage setup a mine) _ (ap (stage_after_ack tag.0 a mine) is.stage_is ∙ sym is.stage_is) is
take_keeps setup h k (Message.MemData _ _) mine w row other a is = is
take_keeps setup h k (Message.BiSnp op bitag line span) mine w row other a is =
    let free = (h4_snoop-inv line.0 span mine w (take_row setup h (Message.BiSnp op bitag line span) mine w row)).unsnooped in
    let new : Snoop = record { op = op; first = line.0; span = span; unanswered = lines_of line.0 span } in
    let outside = uncovered mine a line.0 span free (snooped_counts a mine (ap is_some is.there)) in
    record {
      s = is.s;
      there = find-append (λ (s : Snoop). is_in a s.unanswered) (buffered_snoops mine) (new ∷ []) ∙ ap (λ x. option_or x (find (λ (s : Snoop). is_in a s.unanswered) (new ∷ []))) is.there;
      shared = is.shared;
      stage_is = cond-false (covers line.0 span a) Stage.New (stage setup a mine) outside ∙ is.stage_is;
    }
take_keeps setup h k (Message.Credit _) mine w row other a is = is

-- a line that an act changes at another stage isn't the one at stage Writing
other_line : (setup : Configuration) (mine : List Event) (l a : ℕ) (p : Stage → Bool) → p Stage.Writing ≡ false → p (stage setup l mine) ≡ true → stage setup a mine ≡ Stage.Writing → (l == a) ≡ false
other_line setup mine l a p none is writing = ne_eqb l a (λ same. false≢true (sym none ∙ ap p (sym writing) ∙ ap (λ x. p (stage setup x mine)) (sym same) ∙ is))

new_is_ready : (st : Stage) → is_new st ≡ true → is_new_or_late st ≡ true
new_is_ready Stage.New h = refl
new_is_ready (Stage.Asked t) h = absurd (false≢true h)
new_is_ready Stage.Early h = absurd (false≢true h)
new_is_ready Stage.Late h = absurd (false≢true h)
new_is_ready Stage.Writing h = absurd (false≢true h)
new_is_ready Stage.Written h = absurd (false≢true h)

act_keeps : (setup : Configuration) (h : ℕ) (act : Act) (mine : List Event) (w : Emission) → host_emission setup h (Cause.Act act) mine ≡ Some w → Keeps setup (Cause.Act act) mine
act_keeps setup h (Act.Conflict line) mine w row a is =
    let r = conflict_row setup h line.0 mine w row in
    same_keeps setup (snoop_at a mine) (stage setup a mine) _
    (cond-false (line.0 == a) _ (stage setup a mine) (other_line setup mine line.0 a is_new_or_late refl (new_is_ready (stage setup line.0 mine) r.new) is.stage_is)) is
act_keeps setup h (Act.WriteBack line) mine w row a is =
    let r = write_back_row setup h line.0 mine w row in
    same_keeps setup (snoop_at a mine) (stage setup a mine) _
    (cond-false (line.0 == a) Stage.Writing (stage setup a mine) (other_line setup mine line.0 a is_new_or_late refl r.ready is.stage_is)) is
act_keeps setup h (Act.Answer line) mine w row a is =
    let r = answer_row setup h line.0 mine w row in
    let other = ne_eqb a line.0 (λ same. not_ready (stage setup line.0 mine) _ _ (ap (λ x. stage setup x mine) (sym same) ∙ is.stage_is) r.ready) in
    let x = answer_keeps a line.0 (buffered_snoops mine) is.s other is.there in
    record { s = x.0; there = x.1; shared = ap is_data_snoop x.2 ∙ is.shared; stage_is = is.stage_is }
act_keeps setup h (Act.AnswerBlock line) mine w row a is =
    record {
      s = is.s;
      there = filter_keeps (λ (s : Snoop). is_in a s.unanswered) (λ s. not (is_whole_block line.0 s)) (buffered_snoops mine) is.s (not_whole is.s (data_is_no_block is.s.op is.shared)) is.there;
      shared = is.shared;
      stage_is = is.stage_is;
    }
  where
    not_whole : (s : Snoop) → invalidates_block s.op ≡ false → not (is_whole_block line.0 s) ≡ true
    not_whole s none = ap (λ b. not (b && (s.first == line.0) && (length s.unanswered == span_len s.span))) none
act_keeps setup h (Act.HostReturn _) mine w row a is = is
act_keeps setup h (Act.Serve _ _) mine w row a is = is
act_keeps setup h (Act.Clean _ _) mine w row a is = is
act_keeps setup h (Act.Start _ _) mine w row a is = is
act_keeps setup h (Act.Evict _ _) mine w row a is = is
act_keeps setup h (Act.Snoop _ _) mine w row a is = is
act_keeps setup h (Act.Finish _) mine w row a is = is
act_keeps setup h (Act.DeviceReturn _ _) mine w row a is = is

pub host_keeps : (setup : Configuration) (h : ℕ) (cause : Cause) (mine : List Event) (w : Emission) → host_emission setup h cause mine ≡ Some w
    → ((k tag : ℕ) → cause ≡ Cause.Take k (Message.Ndr NdrOp.Cmp (record { 0 = tag })) → tag ≡ setup.tags → (a : ℕ) → stage setup a mine ≡ Stage.Writing → ⊥) → Keeps setup cause mine
host_keeps setup h (Cause.Op s i op) mine w row other = λ a is. is
host_keeps setup h (Cause.Take k m) mine w row other = take_keeps setup h k m mine w row (λ tag same. other k tag (ap (Cause.Take k) same))
host_keeps setup h (Cause.Act act) mine w row other = act_keeps setup h act mine w row

-- ---- what is sent

-- whether a message is a MemWr Shared
abbrev pub is_shared_write : Message → Bool
is_shared_write (Message.Req _ _ _ _ _) = false
is_shared_write (Message.MemWr meta _ _ _ _) = is_shared_meta meta
is_shared_write (Message.BiConflict _) = false
is_shared_write (Message.BiRsp _ _ _) = false
is_shared_write (Message.Ndr _ _) = false
is_shared_write (Message.MemData _ _) = false
is_shared_write (Message.BiSnp _ _ _ _) = false
is_shared_write (Message.Credit _) = false

other_write : (setup : Configuration) (snoops : ℕ → Option Snoop) (stages : ℕ → Stage) (m : Message) → is_shared_write m ≡ false → WritesBack setup snoops stages m
other_write setup snoops stages (Message.Req _ _ _ _ _) none = tt
other_write setup snoops stages (Message.MemWr meta snp tag line bytes) none = λ is. absurd (false≢true (sym none ∙ is))
other_write setup snoops stages (Message.BiConflict _) none = tt
other_write setup snoops stages (Message.BiRsp _ _ _) none = tt
other_write setup snoops stages (Message.Ndr _ _) none = tt
other_write setup snoops stages (Message.MemData _ _) none = tt
other_write setup snoops stages (Message.BiSnp _ _ _ _) none = tt
other_write setup snoops stages (Message.Credit _) none = tt

-- the messages of a channel among those sent
sent_by : (P : Message → Type 0) (h : ℕ) (c : Channel) (o : Out) (os : List Out) (on : Bool) → P o.message → Each P (map (λ (x : Out). x.message) (filter (is_on h c) os)) → Each P (map (λ (x : Out). x.message) (cond on (o ∷ filter (is_on h c) os) (filter (is_on h c) os)))
sent_by P h c o os true here later = (here, later)
sent_by P h c o os false here later = later

pub one_sent : (P : Message → Type 0) (h k : ℕ) (c : Channel) (m : Message) → P m → Each P (map (λ (x : Out). x.message) (filter (is_on h c) (outs (Sends.One (record { host = k; message = m })))))
one_sent P h k c m here = sent_by P h c (record { host = k; message = m }) [] (is_on h c (record { host = k; message = m })) here tt

pub two_sent : (P : Message → Type 0) (h k : ℕ) (c : Channel) (m n : Message) → P m → P n → Each P (map (λ (x : Out). x.message) (filter (is_on h c) (outs (Sends.Two (record { host = k; message = m }) (record { host = k; message = n })))))
two_sent P h k c m n here there =
    sent_by P h c (record { host = k; message = m }) (record { host = k; message = n } ∷ []) (is_on h c (record { host = k; message = m })) here
    (sent_by P h c (record { host = k; message = n }) [] (is_on h c (record { host = k; message = n })) there tt)

request_is_none : (op : Op) (tag : ℕ) → is_shared_write (request_message op tag) ≡ false
request_is_none (Op.Load line) tag = refl
request_is_none (Op.Word line place value) tag = refl
request_is_none (Op.Whole line bytes) tag = refl

eviction_is_none : (setup : Configuration) (v : ℕ) (mine : List Event) (tag : ℕ) → is_shared_write (eviction_message setup v mine tag) ≡ false
eviction_is_none setup v mine tag = by_copy (is_modified setup v mine)
  where
    by_copy : (b : Bool) → is_shared_write (cond b (Message.MemWr Meta.Invalid SnpType.NoOp (record { 0 = tag }) (record { 0 = v }) (copy setup v mine).bytes) (Message.Req ReqOp.MemClnEvct Meta.Invalid SnpType.NoOp (record { 0 = tag }) (record { 0 = v }))) ≡ false
    by_copy true = refl
    by_copy false = refl

-- the messages that a host sends, by what holds after its event
abbrev AfterCause : Configuration → Cause → List Event → Message → Type 0
AfterCause setup cause mine =
    WritesBack setup (λ a. find (λ (s : Snoop). is_in a s.unanswered) (snoops_after cause (buffered_snoops mine))) (λ a. stage_after setup a cause mine (stage setup a mine))

meta_is : (op : SnpOp) → is_shared_meta (write_back_meta op) ≡ true → is_data_snoop op ≡ true
meta_is SnpOp.Cur h = absurd (false≢true h)
meta_is SnpOp.Dat h = refl
meta_is SnpOp.Inv h = absurd (false≢true h)
meta_is SnpOp.CurBlk h = absurd (false≢true h)
meta_is SnpOp.DatBlk h = absurd (false≢true h)
meta_is SnpOp.InvBlk h = absurd (false≢true h)

-- on a channel of host h
abbrev OnRwd : ℕ → Sends → List Message
OnRwd h sends = map (λ (o : Out). o.message) (filter (is_on h Channel.Rwd) (outs sends))

pub host_sends : (setup : Configuration) (h : ℕ) (cause : Cause) (mine : List Event) (w : Emission) (sends : Sends) → host_emission setup h cause mine ≡ Some w → sends ≡ w.sends → Each (AfterCause setup cause mine) (map (λ (o : Out). o.message) (filter (is_on h Channel.Rwd) (outs sends)))
host_sends setup h (Cause.Op s i op) mine w sends row sent = by_operation (subst (Operated setup h op mine) (sym sent) (operated setup h s i op mine w row))
  where
    by_operation : Operated setup h op mine sends → Each (AfterCause setup (Cause.Op s i op) mine) (OnRwd h sends)
    by_operation (Hits none) = subst (λ x. Each (AfterCause setup (Cause.Op s i op) mine) (OnRwd h x)) (sym none) tt
    by_operation (Requests one) =
        subst (λ x. Each (AfterCause setup (Cause.Op s i op) mine) (OnRwd h x)) (sym one.sent)
        (one_sent (AfterCause setup (Cause.Op s i op) mine) h h Channel.Rwd (request_message op one.t) (other_write setup _ _ (request_message op one.t) (request_is_none op one.t)))
    by_operation (Evicts two) =
        subst (λ x. Each (AfterCause setup (Cause.Op s i op) mine) (OnRwd h x)) (sym two.sent)
        (two_sent (AfterCause setup (Cause.Op s i op) mine) h h Channel.Rwd (eviction_message setup two.v mine two.t) (request_message op two.u)
        (other_write setup _ _ (eviction_message setup two.v mine two.t) (eviction_is_none setup two.v mine two.t)) (other_write setup _ _ (request_message op two.u) (request_is_none op two.u)))
host_sends setup h (Cause.Take k m) mine w sends row sent =
    subst (λ x. Each (AfterCause setup (Cause.Take k m) mine) (OnRwd h x)) (sym (sent ∙ takes_send_nothing setup h m mine w (take_row setup h m mine w row))) tt
host_sends setup h (Cause.Act (Act.Conflict line)) mine w sends row sent =
    let r = conflict_row setup h line.0 mine w row in
    subst (λ x. Each (AfterCause setup (Cause.Act (Act.Conflict line)) mine) (OnRwd h x)) (sym (sent ∙ r.sent)) (one_sent (AfterCause setup (Cause.Act (Act.Conflict line)) mine) h h Channel.Rwd (Message.BiConflict (record { 0 = r.o.tag })) tt)
host_sends setup h (Cause.Act (Act.WriteBack line)) mine w sends row sent =
    let r = write_back_row setup h line.0 mine w row in
    subst (λ x. Each (AfterCause setup (Cause.Act (Act.WriteBack line)) mine) (OnRwd h x)) (sym (sent ∙ r.sent))
    (one_sent (AfterCause setup (Cause.Act (Act.WriteBack line)) mine) h h Channel.Rwd (write_back_message setup r.s.op line.0 mine)
    (λ shared. (refl, record { s = r.s; there = r.there; shared = meta_is r.s.op shared; stage_is = cond-true (line.0 == line.0) Stage.Writing (stage setup line.0 mine) (eq-eqb line.0 line.0 refl) })))
host_sends setup h (Cause.Act (Act.Answer line)) mine w sends row sent =
    let r = answer_row setup h line.0 mine w row in
    subst (λ x. Each (AfterCause setup (Cause.Act (Act.Answer line)) mine) (OnRwd h x)) (sym (sent ∙ r.sent)) (one_sent (AfterCause setup (Cause.Act (Act.Answer line)) mine) h h Channel.Rwd (Message.BiRsp r.op (record { 0 = r.s.first }) r.low) tt)
host_sends setup h (Cause.Act (Act.AnswerBlock line)) mine w sends row sent =
    let r = block_row setup h line.0 mine w row in
    subst (λ x. Each (AfterCause setup (Cause.Act (Act.AnswerBlock line)) mine) (OnRwd h x)) (sym (sent ∙ r.sent)) (one_sent (AfterCause setup (Cause.Act (Act.AnswerBlock line)) mine) h h Channel.Rwd (Message.BiRsp RspOp.IBlk (record { 0 = line.0 }) 0) tt)
host_sends setup h (Cause.Act (Act.HostReturn c)) mine w sends row sent =
    let inv = h10_return-inv h c mine w row in
    subst (λ x. Each (AfterCause setup (Cause.Act (Act.HostReturn c)) mine) (OnRwd h x)) (sym (sent ∙ ap (λ (x : Emission). x.sends) inv.emits)) (one_sent (AfterCause setup (Cause.Act (Act.HostReturn c)) mine) h h Channel.Rwd (Message.Credit c) tt)
host_sends setup h (Cause.Act (Act.Serve _ _)) mine w sends row sent = absurd (none-some w row)
host_sends setup h (Cause.Act (Act.Clean _ _)) mine w sends row sent = absurd (none-some w row)
host_sends setup h (Cause.Act (Act.Start _ _)) mine w sends row sent = absurd (none-some w row)
host_sends setup h (Cause.Act (Act.Evict _ _)) mine w sends row sent = absurd (none-some w row)
host_sends setup h (Cause.Act (Act.Snoop _ _)) mine w sends row sent = absurd (none-some w row)
host_sends setup h (Cause.Act (Act.Finish _)) mine w sends row sent = absurd (none-some w row)
host_sends setup h (Cause.Act (Act.DeviceReturn _ _)) mine w sends row sent = absurd (none-some w row)

-- what a host's event keeps of a message
pub message_kept : (setup : Configuration) (cause : Cause) (mine : List Event) (m : Message) → ((a : ℕ) → IsWriting setup (snoop_at a mine) (stage setup a mine)
    → IsWriting setup (find (λ (s : Snoop). is_in a s.unanswered) (snoops_after cause (buffered_snoops mine))) (stage_after setup a cause mine (stage setup a mine)))
    → WritesBack setup (λ a. snoop_at a mine) (λ a. stage setup a mine) m → WritesBack setup (λ a. find (λ (s : Snoop). is_in a s.unanswered) (snoops_after cause (buffered_snoops mine))) (λ a. stage_after setup a cause mine (stage setup a mine)) m
message_kept setup cause mine (Message.Req _ _ _ _ _) keeps was = tt
message_kept setup cause mine (Message.MemWr meta snp tag line bytes) keeps was = λ shared. let is = was shared in (is.0, keeps line.0 is.1)
message_kept setup cause mine (Message.BiConflict _) keeps was = tt
message_kept setup cause mine (Message.BiRsp _ _ _) keeps was = tt
message_kept setup cause mine (Message.Ndr _ _) keeps was = tt
message_kept setup cause mine (Message.MemData _ _) keeps was = tt
message_kept setup cause mine (Message.BiSnp _ _ _ _) keeps was = tt
message_kept setup cause mine (Message.Credit _) keeps was = tt
