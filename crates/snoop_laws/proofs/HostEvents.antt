-- An event of a host keeps the lines of its snoops in their places.
use Rattle.std.proofs.Common.{◌≡◌, ℕ, Bool, true, false, List, [], ◌∷◌, ◌++◌, Option, None, Some, cond, refl, sym, ◌∙◌, ap, subst}
use Rattle.std.specs.Prelude.{◌&&◌, ◌==◌, ◌||◌}
use Rattle.std.specs.List.{list_all, list_any}
use Rattle.std.specs.Option.{option_map_or}
use Rattle.std.proofs.lemmas.Bool.{and_parts, eq-eqb, false≢true}
use Rattle.std.proofs.lemmas.List.{append-nil}
use Rattle.std.proofs.lemmas.Option.{none-some}
use Rattle.cxl_message.specs.declared.channels.Channel.{Channel}
use Rattle.cxl_message.specs.declared.events.Act.{Act}
use Rattle.cxl_message.specs.declared.events.Cause.{Cause}
use Rattle.cxl_message.specs.declared.events.Event.{Event}
use Rattle.cxl_message.specs.declared.events.Sends.{Sends}
use Rattle.cxl_message.specs.declared.messages.Message.{Message}
use Rattle.cxl_message.specs.Codes.{channel_eq}
use Rattle.cxl_message.specs.Messages.{channel_of, message_eq}
use Rattle.cxl_message.specs.Setup.{Configuration}
use Rattle.coherence_model.specs.Emission.{Emission, one_send}
use Rattle.coherence_model.specs.Fitting.{cause_fits, is_device}
use Rattle.coherence_model.specs.Flight.{takes_on, without_taken}
use Rattle.coherence_model.specs.HostActs.{host_acts, may_answer_in_block, write_back_message}
use Rattle.coherence_model.specs.HostRows.{host_emission}
use Rattle.coherence_model.specs.SentSnoops.{SentSnoop}
use Rattle.coherence_model.specs.Snoops.{Snoop, buffered_snoops, snoop_at, snoops_after, whole_block_at}
use Rattle.coherence_model.specs.Transactions.{open_at}
use Rattle.coherence_lemmas.proofs.HostActs.{h10_return-inv, h7_conflict-inv, h8_write_back-inv, h9_answer-inv, h9_answer_block-inv}
use Rattle.coherence_lemmas.proofs.Rows.{host_take-inv}
use Rattle.coherence_lemmas.proofs.TakesSendNothing.{host_takes_silent}
use Rattle.snoop_laws.proofs.AnswerSteps.{placed_answered}
use Rattle.snoop_laws.proofs.BlockSteps.{placed_block}
use Rattle.snoop_laws.proofs.Places.{AreSent, Placed}
use Rattle.snoop_laws.proofs.Sending.{credit_off, one_off, one_on, operation_off, sent_there}
use Rattle.snoop_laws.proofs.SnoopSteps.{placed_taken}

-- no new answer is in flight
none_answered : (asked : ℕ → Option SentSnoop) (bs : List Message) (ss : List Snoop) (rs more : List Message) → more ≡ [] → Placed asked bs ss rs → Placed asked bs ss (rs ++ more)
none_answered asked bs ss rs more none placed = subst (λ ms. Placed asked bs ss ms) (sym (ap (λ ms. rs ++ ms) none ∙ append-nil rs)) placed

addressed : (at_device own : Bool) → at_device ≡ false → (at_device || own) ≡ true → own ≡ true
addressed true own none h = absurd (false≢true (sym none))
addressed false own none h = h

-- a host takes its own messages alone
own_take : (setup : Configuration) (h k : ℕ) (m : Message) → is_device h ≡ false → cause_fits setup h (Cause.Take k m) ≡ true → (k == h) ≡ true
own_take setup h k m host fits =
    let named = and_parts _ _ fits in
    let right = and_parts _ _ named.0 in
    let ways = and_parts _ _ right.0 in
    let there = and_parts _ _ ways.0 in
    addressed (is_device h) (k == h) host there.1

found_block : (o : Option Snoop) (p : Snoop → Bool) → option_map_or p o false ≡ true → (s : Snoop) × (o ≡ Some s)
found_block None p h = absurd (false≢true h)
found_block (Some s) p h = (s, refl)

module _ (setup : Configuration) (h : ℕ) (host : is_device h ≡ false) (mine : List Event) (asked : ℕ → Option SentSnoop) (sent : AreSent asked) (bs rs : List Message) (placed : Placed asked bs (buffered_snoops mine) rs) where
  abbrev ss : List Snoop
  ss = buffered_snoops mine

  other_taken : (own on : Bool) (m : Message) → on ≡ false → Placed asked (without_taken (cond (own && on) (Some m) None) bs) ss rs
  other_taken true true m off = absurd (false≢true (sym off))
  other_taken true false m off = placed
  other_taken false on m off = placed

  snoop_taken : (own : Bool) (m : Message) (ts : List Snoop) → own ≡ true → Placed asked (without_taken (Some m) bs) ts rs → Placed asked (without_taken (cond (own && true) (Some m) None) bs) ts rs
  snoop_taken true m ts at taken = taken
  snoop_taken false m ts at taken = absurd (false≢true at)

  taken_by : (k : ℕ) (m : Message) → (k == h) ≡ true → ((n : Message) → takes_on h Channel.BiSnp (Cause.Take k m) ≡ Some n → list_any (message_eq n) bs ≡ true)
      → Placed asked (without_taken (takes_on h Channel.BiSnp (Cause.Take k m)) bs) (snoops_after (Cause.Take k m) ss) rs
  taken_by k (Message.Req op meta snp tag line) own there = other_taken (k == h) false (Message.Req op meta snp tag line) refl
  taken_by k (Message.MemWr meta snp tag line bytes) own there = other_taken (k == h) false (Message.MemWr meta snp tag line bytes) refl
  taken_by k (Message.BiConflict tag) own there = other_taken (k == h) false (Message.BiConflict tag) refl
  taken_by k (Message.BiRsp op bitag low) own there = other_taken (k == h) false (Message.BiRsp op bitag low) refl
  taken_by k (Message.Ndr op tag) own there = other_taken (k == h) false (Message.Ndr op tag) refl
  taken_by k (Message.MemData tag bytes) own there = other_taken (k == h) false (Message.MemData tag bytes) refl
  taken_by k (Message.BiSnp op bitag line span) own there =
      let m : Message = Message.BiSnp op bitag line span in
      snoop_taken (k == h) m _ own (placed_taken asked bs ss rs op bitag line span (there m (ap (λ b. cond (b && true) (Some m) None) own)) placed)
  taken_by k (Message.Credit c) own there = other_taken (k == h) (channel_eq (channel_of (Message.Credit c)) Channel.BiSnp) (Message.Credit c) (credit_off c).0

  quiet : (sends : Sends) (w : Emission) (m : Message) → sends ≡ w.sends → w ≡ one_send h m → channel_eq (channel_of m) Channel.BiRsp ≡ false → Placed asked bs ss (rs ++ sent_there h Channel.BiRsp sends)
  quiet sends w m same emits off =
      none_answered asked bs ss rs (sent_there h Channel.BiRsp sends) (ap (sent_there h Channel.BiRsp) (same ∙ ap (λ (y : Emission). y.sends) emits) ∙ one_off h h Channel.BiRsp m off) placed

  answered : (sends : Sends) (w : Emission) (m : Message) (ts : List Snoop) → sends ≡ w.sends → w ≡ one_send h m → channel_eq (channel_of m) Channel.BiRsp ≡ true → Placed asked bs ts (rs ++ m ∷ [])
      → Placed asked bs ts (rs ++ sent_there h Channel.BiRsp sends)
  answered sends w m ts same emits on new =
      subst (λ ms. Placed asked bs ts (rs ++ ms)) (sym (ap (sent_there h Channel.BiRsp) (same ∙ ap (λ (y : Emission). y.sends) emits) ∙ one_on h h Channel.BiRsp m (eq-eqb h h refl) on)) new

  act_by : (act : Act) (sends : Sends) (w : Emission) → host_acts setup h act mine ≡ Some w → sends ≡ w.sends → Placed asked bs (snoops_after (Cause.Act act) ss) (rs ++ sent_there h Channel.BiRsp sends)
  act_by (Act.Conflict line) sends w row same =
      let inv = h7_conflict-inv setup h line.0 mine (open_at line.0 mine) w row in quiet sends w (Message.BiConflict (record { 0 = inv.o.tag })) same inv.emits refl
  act_by (Act.WriteBack line) sends w row same =
      let inv = h8_write_back-inv setup h line.0 mine (snoop_at line.0 mine) w row in quiet sends w (write_back_message setup inv.s.op line.0 mine) same inv.emits refl
  act_by (Act.Answer line) sends w row same =
      let inv = h9_answer-inv setup h line.0 mine (snoop_at line.0 mine) w row in
      answered sends w _ (snoops_after (Cause.Act (Act.Answer line)) ss) same inv.emits refl (placed_answered asked sent bs ss rs placed setup mine line.0 inv.s inv.snooped)
  act_by (Act.AnswerBlock line) sends w row same =
      let inv = h9_answer_block-inv setup h line.0 mine w row in
      let block = found_block (whole_block_at line.0 mine) (λ s. list_all (may_answer_in_block setup mine) s.unanswered) inv.may in
      answered sends w _ (snoops_after (Cause.Act (Act.AnswerBlock line)) ss) same inv.emits refl (placed_block asked sent bs ss rs placed line.0 block.0 block.1)
  act_by (Act.HostReturn c) sends w row same = quiet sends w (Message.Credit c) same (h10_return-inv h c mine w row).emits (credit_off c).1
  act_by (Act.Serve _ _) sends w row same = absurd (none-some w row)
  act_by (Act.Clean _ _) sends w row same = absurd (none-some w row)
  act_by (Act.Start _ _) sends w row same = absurd (none-some w row)
  act_by (Act.Evict _ _) sends w row same = absurd (none-some w row)
  act_by (Act.Snoop _ _) sends w row same = absurd (none-some w row)
  act_by (Act.Finish _) sends w row same = absurd (none-some w row)
  act_by (Act.DeviceReturn _ _) sends w row same = absurd (none-some w row)

  -- an event of the host keeps the places
  pub host_event : (cause : Cause) (sends : Sends) (w : Emission) → host_emission setup h cause mine ≡ Some w → sends ≡ w.sends → cause_fits setup h cause ≡ true
      → ((m : Message) → takes_on h Channel.BiSnp cause ≡ Some m → list_any (message_eq m) bs ≡ true)
      → Placed asked (without_taken (takes_on h Channel.BiSnp cause) bs) (snoops_after cause ss) (rs ++ sent_there h Channel.BiRsp sends)
  host_event (Cause.Op s i op) sends w row same fits there =
      none_answered asked bs ss rs (sent_there h Channel.BiRsp sends) (ap (sent_there h Channel.BiRsp) same ∙ operation_off setup h h s i op mine w row) placed
  host_event (Cause.Take k m) sends w row same fits there =
      let passed = (host_take-inv setup h k m mine w row).same in
      none_answered asked (without_taken (takes_on h Channel.BiSnp (Cause.Take k m)) bs) (snoops_after (Cause.Take k m) ss) rs (sent_there h Channel.BiRsp sends)
      (ap (sent_there h Channel.BiRsp) (same ∙ host_takes_silent setup h m mine w passed)) (taken_by k m (own_take setup h k m host fits) there)
  host_event (Cause.Act act) sends w row same fits there = act_by act sends w row same
