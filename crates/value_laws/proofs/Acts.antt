-- What an act of a host leaves of a line's value there: a write-back sends the copy's bytes, and an answer gives up what memory has.
use Rattle.std.proofs.Common.{◌≡◌, ℕ, ◌+◌, ◌-◌, Bool, true, false, List, [], ◌∷◌, ◌++◌, Option, Some, None, cond, count_by, refl, sym, ◌∙◌, ap, subst, arith, inl, inr}
use Rattle.std.specs.Prelude.{is_some, not, ◌==◌}
use Rattle.std.specs.List.{list_all}
use Rattle.std.specs.Option.{option_map_or}
use Rattle.std.proofs.lemmas.Bool.{and_parts, eqb-true, false≢true, not-true, or_cases}
use Rattle.std.proofs.lemmas.Option.{none-some, same_Some}
use Rattle.cxl_message.specs.declared.channels.Channel.{Channel}
use Rattle.cxl_message.specs.declared.events.Act.{Act}
use Rattle.cxl_message.specs.declared.events.Cause.{Cause}
use Rattle.cxl_message.specs.declared.events.Event.{Event}
use Rattle.cxl_message.specs.declared.events.Sends.{Sends}
use Rattle.cxl_message.specs.declared.identifiers.Bytes64.{Bytes64}
use Rattle.cxl_message.specs.declared.messages.Message.{Message}
use Rattle.cxl_message.specs.declared.opcodes.RspOp.{RspOp}
use Rattle.cxl_message.specs.declared.opcodes.SnpOp.{SnpOp}
use Rattle.cxl_message.specs.Lists.{is_in}
use Rattle.cxl_message.specs.Setup.{Configuration}
use Rattle.coherence_lemmas.proofs.HostActs.{Answered, BlockAnswered, h10_return-inv, h7_conflict-inv, h8_write_back-inv, h9_answer-inv, h9_answer_block-inv}
use Rattle.coherence_model.specs.Cache.{copy, has_copy, is_modified, is_valid}
use Rattle.coherence_model.specs.Copies.{Copy, is_in_whole_block, is_shared_response, keeps_shared, no_copy, shared}
use Rattle.coherence_model.specs.Emission.{Emission}
use Rattle.coherence_model.specs.HostActs.{host_acts, is_ready, may_answer_in_block, response_for, stays_shared, write_back_message}
use Rattle.coherence_model.specs.ListingFacts.{grants_ownership}
use Rattle.coherence_model.specs.Snoops.{Snoop, is_snooped, snoop_at, whole_block_at}
use Rattle.coherence_model.specs.Transactions.{open_at}
use Rattle.request_laws.proofs.Options.{guarded_some}
use Rattle.request_laws.proofs.Places.{on_channel}
use Rattle.listing_laws.proofs.Copies.{copy_next, writable_count}
use Rattle.listing_laws.proofs.Owners.{granted_so}
use Rattle.listing_laws.proofs.UnderWay.{count_one, each_one}
use Rattle.listing_laws.proofs.WriteBackLines.{writes_line}
use Rattle.value_laws.proofs.Has.{HostHas, HostMoved, Writes, dirty_high, is_dirty, moved, none_before, writable_valid}

-- a test that all numbers of a list pass, one of them passes
all_in : (p : ℕ → Bool) (a : ℕ) (xs : List ℕ) → is_in a xs ≡ true → list_all p xs ≡ true → p a ≡ true
all_in p a [] is all = absurd (false≢true is)
all_in p a (x ∷ xs) is all =
    let parts = and_parts (p x) (list_all p xs) all in
    elim (or_cases (a == x) (is_in a xs) is) [
      | inl here ↦ subst (λ y. p y ≡ true) (sym (eqb-true a x here)) parts.0
      | inr later ↦ all_in p a xs later parts.1
    ]

-- a line of a block that is answered at once may be answered in it
block_at : (setup : Configuration) (own : List Event) (a : ℕ) (s : Option Snoop) → option_map_or (λ (x : Snoop). is_in a x.unanswered) s false ≡ true
    → option_map_or (λ (x : Snoop). list_all (may_answer_in_block setup own) x.unanswered) s false ≡ true → may_answer_in_block setup own a ≡ true
block_at setup own a None is all = absurd (false≢true is)
block_at setup own a (Some s) is all = all_in (may_answer_in_block setup own) a s.unanswered is all

-- what an answer keeps was there
kept_valid : (b : Bool) (m : Message) (c : Copy) (v : Bytes64) → (keeps_shared m ≡ true → c.bytes ≡ v) → keeps_shared m ≡ b → is_valid (cond b (shared c) no_copy) ≡ true → (cond b (shared c) no_copy).bytes ≡ v
kept_valid true m c v had is h = had is
kept_valid false m c v had is h = absurd (false≢true h)

-- an answer that keeps a shared copy is one of a line that stays shared
answer_keeps : (b : Bool) → is_shared_response (cond b RspOp.S RspOp.I) ≡ true → b ≡ true
answer_keeps true h = refl
answer_keeps false h = absurd (false≢true h)

module _ (setup : Configuration) (h : ℕ) (own : List Event) (a : ℕ) (v : Bytes64) (fw held ndr drs : List Message) (old : HostHas a v (copy setup a own) (open_at a own) fw held drs)
    (settled : is_snooped a own ≡ true → is_ready setup a own ≡ true → is_dirty (copy setup a own) ≡ false) where
  -- the copy before the act
  abbrev c : Copy
  c = copy setup a own

  -- 1 or more where the host owns the line or gets it
  abbrev owns : ℕ
  owns = writable_count c + granted_so grants_ownership ndr (open_at a own)

  -- the copy after the act
  abbrev later : Act → Sends → Copy
  later act sends = copy_next setup (Cause.Act act) sends None own a

  -- what an act leaves
  abbrev AfterAct : Act → Sends → Type 0
  AfterAct act sends = HostMoved a v v c (later act sends) (open_at a own) fw (fw ++ on_channel h Channel.Rwd sends) held drs owns

  -- one message of the host is sent
  abbrev sends_one : Message → Sends
  sends_one m = Sends.One (record { host = h; message = m })

  -- an act that sends one message, by what it writes, keeps and gives up
  act_by : (act : Act) (m : Message) → Writes a v m → (is_valid (later act (sends_one m)) ≡ true → (later act (sends_one m)).bytes ≡ v)
      → (is_dirty (later act (sends_one m)) ≡ false → count_by (writes_line a) (fw ++ on_channel h Channel.Rwd (sends_one m)) + count_by (writes_line a) held ≡ 0 → is_dirty c ≡ false) → AfterAct act (sends_one m)
  act_by act m writes copied clean =
      moved a v v c _ _ fw _ held drs owns refl
      (record { copied = copied; flying = each_one (Writes a v) h Channel.Rwd (sends_one m) m fw refl writes old.flying; waiting = old.waiting; reads = old.reads })
      (λ k. record { copied = clean k.copied k.unwritten; unwritten = none_before a fw (on_channel h Channel.Rwd (sends_one m)) held k.unwritten })

  -- ---- a write-back

  -- the bytes of a modified copy of the line
  modified_bytes : (l : ℕ) → is_modified setup l own ≡ true → (l == a) ≡ true → c.bytes ≡ v
  modified_bytes l dirty here = old.copied (writable_valid c (dirty_high c.state (subst (λ b. is_modified setup b own ≡ true) (eqb-true l a here) dirty)))

  -- a write-back of the line sends its bytes
  back_writes : (op : SnpOp) (l : ℕ) → is_modified setup l own ≡ true → Writes a v (write_back_message setup op l own)
  back_writes op l dirty b h =
      let parts = guarded_some (l == a) (Some (copy setup l own).bytes) b h in
      sym (same_Some (copy setup l own).bytes b parts.1) ∙ ap (λ x. (copy setup x own).bytes) (eqb-true l a parts.0) ∙ modified_bytes l dirty parts.0

  -- what a write-back keeps has the bytes
  back_copied : (l : ℕ) (m : Message) (here : Bool) → (l == a) ≡ here → is_modified setup l own ≡ true → is_valid (cond here (cond (keeps_shared m) (shared c) no_copy) c) ≡ true
      → (cond here (cond (keeps_shared m) (shared c) no_copy) c).bytes ≡ v
  back_copied l m true here dirty is = kept_valid (keeps_shared m) m c v (λ keeps. modified_bytes l dirty here) refl is
  back_copied l m false here dirty is = old.copied is

  -- after a write-back of the line its MemWr is under way
  back_clean : (op : SnpOp) (l : ℕ) (here : Bool) → (l == a) ≡ here → is_dirty (cond here (cond (keeps_shared (write_back_message setup op l own)) (shared c) no_copy) c) ≡ false
      → count_by (writes_line a) (fw ++ on_channel h Channel.Rwd (sends_one (write_back_message setup op l own))) + count_by (writes_line a) held ≡ 0 → is_dirty c ≡ false
  back_clean op l true here clean none =
      let one = count_one (writes_line a) h Channel.Rwd (sends_one (write_back_message setup op l own)) (write_back_message setup op l own) fw refl in
      let its = ap (λ b. cond {A = ℕ} b 1 0) here in
      absurd (omega arith)
  back_clean op l false here clean none = clean

  -- ---- an answer

  -- what an answer keeps has the bytes
  answer_copied : (op : SnpOp) (first l : ℕ) (here : Bool) → (l == a) ≡ here
      → is_valid (cond here (cond (keeps_shared (Message.BiRsp (response_for setup op l own) (record { 0 = first }) (l - first))) (shared c) no_copy) c) ≡ true
      → (cond here (cond (keeps_shared (Message.BiRsp (response_for setup op l own) (record { 0 = first }) (l - first))) (shared c) no_copy) c).bytes ≡ v
  answer_copied op first l true here is =
      kept_valid (keeps_shared (Message.BiRsp (response_for setup op l own) (record { 0 = first }) (l - first))) (Message.BiRsp (response_for setup op l own) (record { 0 = first }) (l - first)) c v
      (λ keeps.
      let stays = answer_keeps (stays_shared setup op l own) keeps in
      let parts = and_parts _ (has_copy setup l own) stays in
      old.copied (subst (λ b. has_copy setup b own ≡ true) (eqb-true l a here) parts.1)) refl is
  answer_copied op first l false here is = old.copied is

  -- a line that is answered had no copy M
  answer_clean : (w : Emission) (l : ℕ) (inv : Answered setup h l own (snoop_at l own) w) (kept : Copy) (here : Bool) → (l == a) ≡ here → is_dirty (cond here kept c) ≡ false → is_dirty c ≡ false
  answer_clean w l inv kept true here clean =
      let same = eqb-true l a here in
      settled (subst (λ b. is_snooped b own ≡ true) same (ap is_some inv.snooped)) (subst (λ b. is_ready setup b own ≡ true) same inv.ready)
  answer_clean w l inv kept false here clean = clean

  -- ---- an answer for a block

  -- an answer for a block keeps no copy of its lines
  block_copied : (b : Bool) → is_valid (cond b no_copy c) ≡ true → (cond b no_copy c).bytes ≡ v
  block_copied true is = absurd (false≢true is)
  block_copied false is = old.copied is

  -- a line that is answered with its block had no copy M
  block_clean : (w : Emission) (l : ℕ) → BlockAnswered setup h l own w → (b : Bool) → is_in_whole_block l a own ≡ b → is_dirty (cond b no_copy c) ≡ false → is_dirty c ≡ false
  block_clean w l inv true inside clean =
      let may = block_at setup own a (whole_block_at l own) inside inv.may in
      not-true _ (and_parts _ (not (is_modified setup a own)) may).1
  block_clean w l inv false inside clean = clean

  -- ---- all acts

  -- what each act leaves
  pub act_moved : (act : Act) (w : Emission) (sends : Sends) → host_acts setup h act own ≡ Some w → sends ≡ w.sends → AfterAct act sends
  act_moved (Act.Conflict line) w sends row sent =
      let inv = h7_conflict-inv setup h line.0 own (open_at line.0 own) w row in
      subst (AfterAct (Act.Conflict line)) (sym (sent ∙ ap (λ (y : Emission). y.sends) inv.emits))
      (act_by (Act.Conflict line) (Message.BiConflict (record { 0 = inv.o.tag })) (λ b is. absurd (none-some b is)) old.copied (λ clean none. clean))
  act_moved (Act.WriteBack line) w sends row sent =
      let inv = h8_write_back-inv setup h line.0 own (snoop_at line.0 own) w row in
      subst (AfterAct (Act.WriteBack line)) (sym (sent ∙ ap (λ (y : Emission). y.sends) inv.emits))
      (act_by (Act.WriteBack line) (write_back_message setup inv.s.op line.0 own) (back_writes inv.s.op line.0 inv.modified)
      (back_copied line.0 (write_back_message setup inv.s.op line.0 own) (line.0 == a) refl inv.modified) (back_clean inv.s.op line.0 (line.0 == a) refl))
  act_moved (Act.Answer line) w sends row sent =
      let inv = h9_answer-inv setup h line.0 own (snoop_at line.0 own) w row in
      let m : Message = Message.BiRsp (response_for setup inv.s.op line.0 own) (record { 0 = inv.s.first }) (line.0 - inv.s.first) in
      subst (AfterAct (Act.Answer line)) (sym (sent ∙ ap (λ (y : Emission). y.sends) inv.emits))
      (act_by (Act.Answer line) m (λ b is. absurd (none-some b is)) (answer_copied inv.s.op inv.s.first line.0 (line.0 == a) refl)
      (λ clean none. answer_clean w line.0 inv (cond (keeps_shared m) (shared c) no_copy) (line.0 == a) refl clean))
  act_moved (Act.AnswerBlock line) w sends row sent =
      let inv = h9_answer_block-inv setup h line.0 own w row in
      subst (AfterAct (Act.AnswerBlock line)) (sym (sent ∙ ap (λ (y : Emission). y.sends) inv.emits))
      (act_by (Act.AnswerBlock line) (Message.BiRsp RspOp.IBlk (record { 0 = line.0 }) 0) (λ b is. absurd (none-some b is)) (block_copied (is_in_whole_block line.0 a own))
      (λ clean none. block_clean w line.0 inv (is_in_whole_block line.0 a own) refl clean))
  act_moved (Act.HostReturn channel) w sends row sent =
      let inv = h10_return-inv h channel own w row in
      subst (AfterAct (Act.HostReturn channel)) (sym (sent ∙ ap (λ (y : Emission). y.sends) inv.emits))
      (act_by (Act.HostReturn channel) (Message.Credit channel) (λ b is. absurd (none-some b is)) old.copied (λ clean none. clean))
  act_moved (Act.Serve k tag) w sends row sent = absurd (none-some w row)
  act_moved (Act.Clean k tag) w sends row sent = absurd (none-some w row)
  act_moved (Act.Start k tag) w sends row sent = absurd (none-some w row)
  act_moved (Act.Evict k tag) w sends row sent = absurd (none-some w row)
  act_moved (Act.Snoop k line) w sends row sent = absurd (none-some w row)
  act_moved (Act.Finish line) w sends row sent = absurd (none-some w row)
  act_moved (Act.DeviceReturn k channel) w sends row sent = absurd (none-some w row)
