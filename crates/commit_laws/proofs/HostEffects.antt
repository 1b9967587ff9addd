-- What the takes and acts of a host do to what it has open: a take fills a line and commits its request's operation, or leaves all requests open.
use Rattle.std.proofs.Common.{◌≡◌, ℕ, Bool, true, false, cond, List, Option, Some, None, refl, ap, sym, ◌∙◌, inl, inr}
use Rattle.std.specs.Prelude.{is_none, ◌==◌, ◌&&◌}
use Rattle.std.proofs.lemmas.Bool.{and_from, and_right, cases_Bool, cond-false, cond-true, eq-eqb, eqb-true, false≢true, ne_eqb}
use Rattle.std.proofs.lemmas.Option.{none-some, same_Some}
use Rattle.cxl_message.specs.declared.events.Act.{Act}
use Rattle.cxl_message.specs.declared.events.Commit.{Commit}
use Rattle.cxl_message.specs.declared.events.Event.{Event}
use Rattle.cxl_message.specs.declared.identifiers.Bytes64.{Bytes64}
use Rattle.cxl_message.specs.declared.messages.Message.{Message}
use Rattle.cxl_message.specs.declared.opcodes.NdrOp.{NdrOp}
use Rattle.cxl_message.specs.Opening.{zero_bytes}
use Rattle.cxl_message.specs.Setup.{Configuration}
use Rattle.coherence_model.specs.Emission.{Emission, nothing}
use Rattle.cxl_message.specs.Stores.{line_after}
use Rattle.coherence_model.specs.HostActs.{host_acts}
use Rattle.coherence_model.specs.HostTakes.{data_emission, fill_emission, grant_emission, h3_grant, host_takes, is_write_back_tag, may_grant}
use Rattle.coherence_model.specs.Snoops.{snoop_at}
use Rattle.coherence_model.specs.Tags.{open_with, tagged_line}
use Rattle.coherence_model.specs.Transactions.{Kind, Transaction, is_read, is_request, open_after_completion, open_after_data, open_after_grant, open_after_take, open_at}
use Rattle.coherence_lemmas.proofs.HostActs.{h10_return-inv, h7_conflict-inv, h8_write_back-inv, h9_answer-inv, h9_answer_block-inv}
use Rattle.coherence_lemmas.proofs.HostTakes.{h3_completion-inv, h3_data-inv, h3_grant-inv, h4_snoop-inv, h5_conflict_ack-inv, h6_credit-inv}
use Rattle.request_laws.proofs.HostPlaces.{tagged}
use Rattle.request_laws.proofs.OpenLines.{LeadBack}
use Rattle.commit_laws.proofs.StreamStates.{Fills, LeavesRequests, Still}

-- ---- acts commit nothing

-- what emits the same commits the same
pub commit_as : (w x : Emission) → w ≡ x → x.commit ≡ None → w.commit ≡ None
commit_as w x same none = ap (λ (y : Emission). y.commit) same ∙ none

-- no act of a host commits
pub act_commits_none : (setup : Configuration) (h : ℕ) (act : Act) (mine : List Event) (w : Emission) → host_acts setup h act mine ≡ Some w → w.commit ≡ None
act_commits_none setup h (Act.Conflict line) mine w is = commit_as w _ (h7_conflict-inv setup h line.0 mine (open_at line.0 mine) w is).emits refl
act_commits_none setup h (Act.WriteBack line) mine w is = commit_as w _ (h8_write_back-inv setup h line.0 mine (snoop_at line.0 mine) w is).emits refl
act_commits_none setup h (Act.Answer line) mine w is = commit_as w _ (h9_answer-inv setup h line.0 mine (snoop_at line.0 mine) w is).emits refl
act_commits_none setup h (Act.AnswerBlock line) mine w is = commit_as w _ (h9_answer_block-inv setup h line.0 mine w is).emits refl
act_commits_none setup h (Act.HostReturn c) mine w is = commit_as w _ (h10_return-inv h c mine w is).emits refl
act_commits_none setup h (Act.Serve _ _) mine w is = absurd (none-some w is)
act_commits_none setup h (Act.Clean _ _) mine w is = absurd (none-some w is)
act_commits_none setup h (Act.Start _ _) mine w is = absurd (none-some w is)
act_commits_none setup h (Act.Evict _ _) mine w is = absurd (none-some w is)
act_commits_none setup h (Act.Snoop _ _) mine w is = absurd (none-some w is)
act_commits_none setup h (Act.Finish _) mine w is = absurd (none-some w is)
act_commits_none setup h (Act.DeviceReturn _ _) mine w is = absurd (none-some w is)

-- ---- takes

-- what a take does to the requests of a host
pub data TakeEffect (f : ℕ → Option Transaction) (m : Message) (commit : Option Commit) : Type 0 where
  Leaves : LeavesRequests f m commit → TakeEffect f m commit
  Filled : Fills f m commit → TakeEffect f m commit

-- a take that leaves all as it is
leaves_all : (f : ℕ → Option Transaction) (m : Message) (w : Emission) → w ≡ nothing → ((q : Transaction) → is_request q.kind ≡ true → open_after_take m q ≡ Some q) → TakeEffect f m w.commit
leaves_all f m w is same = Leaves (record { none = commit_as w nothing is refl; stays = λ a q there asks. (q, same q asks) })

-- what a message with a tag does: to what has the tag, and nothing to the rest
record NamedTake (m : Message) (tag : ℕ) (R : Transaction → Option Transaction) : Type 0 where
  pub is : (q : Transaction) → open_after_take m q ≡ cond (tag == q.tag) (R q) (Some q)

-- one thing has a tag
record HasTag (f : ℕ → Option Transaction) (tag : ℕ) (o : Transaction) : Type 0 where
  pub line : ℕ
  pub there : f line ≡ Some o
  pub same : o.tag ≡ tag
  pub others : (b : ℕ) (q : Transaction) → f b ≡ Some q → (b ≡ line → ⊥) → (tag == q.tag) ≡ false

-- what is open with a tag is the one thing that has it
has_tag_at : (setup : Configuration) (mine : List Event) (tag : ℕ) (o : Transaction) → LeadBack setup (λ a. open_at a mine) (λ u. tagged_line u mine) → open_with tag mine ≡ Some o
    → HasTag (λ a. open_at a mine) tag o
has_tag_at setup mine tag o back is =
    let by = tagged (λ a. open_at a mine) (λ u. tagged_line u mine) tag o is in
    record {
      line = by.l;
      there = by.there;
      same = by.tagged;
      others = λ b q there elsewhere. ne_eqb tag q.tag (λ same. elsewhere (same_Some b by.l (sym (back b q there).back ∙ ap (λ (u : ℕ). tagged_line u mine) (sym same) ∙ by.named)));
    }

-- it stays open
still_open :
    (f : ℕ → Option Transaction) (m : Message) (tag : ℕ) (R : Transaction → Option Transaction) (o x : Transaction) (w : Emission) → NamedTake m tag R → HasTag f tag o → R o ≡ Some x → w ≡ nothing
    → TakeEffect f m w.commit
still_open f m tag R o x w named at left is = Leaves (record { none = commit_as w nothing is refl; stays = stays })
  where
    here : (q : Transaction) → o ≡ q → Still m q
    here q same = (x, ap (open_after_take m) (sym same) ∙ named.is o ∙ cond-true (tag == o.tag) (R o) (Some o) (eq-eqb tag o.tag (sym at.same)) ∙ left)

    stays : (a : ℕ) (q : Transaction) → f a ≡ Some q → is_request q.kind ≡ true → Still m q
    stays a q there asks =
        elim (cases_Bool (a == at.line)) [
          | inl same ↦ here q (same_Some o q (sym at.there ∙ ap f (sym (eqb-true a at.line same)) ∙ there))
          | inr other ↦
              (q, named.is q ∙ cond-false (tag == q.tag) (R q) (Some q) (at.others a q there (λ same. false≢true (sym other ∙ eq-eqb a at.line same))))
        ]

-- it is done, and commits
done_here :
    (f : ℕ → Option Transaction) (m : Message) (tag : ℕ) (R : Transaction → Option Transaction) (o : Transaction) (bytes : Bytes64) (w : Emission) → NamedTake m tag R → HasTag f tag o
    → is_request o.kind ≡ true → R o ≡ None → w ≡ fill_emission o bytes → TakeEffect f m w.commit
done_here f m tag R o bytes w named at asks left is = Filled (record {
  line = at.line;
  o = o;
  there = at.there;
  request = asks;
  value = line_after o.op bytes;
  commits = ap (λ (y : Emission). y.commit) is;
  gone = named.is o ∙ cond-true (tag == o.tag) (R o) (Some o) (eq-eqb tag o.tag (sym at.same)) ∙ left;
  others = λ b q there elsewhere. named.is q ∙ cond-false (tag == q.tag) (R q) (Some q) (at.others b q there elsewhere);
})

-- what may be granted is a request
granted_request : (c : NdrOp) (kind : Kind) → may_grant c kind ≡ true → is_request kind ≡ true
granted_request NdrOp.Cmp kind may = absurd (false≢true may)
granted_request NdrOp.CmpS Kind.ReadShared may = refl
granted_request NdrOp.CmpS Kind.ReadAny may = refl
granted_request NdrOp.CmpS Kind.Invalidate may = refl
granted_request NdrOp.CmpS Kind.CleanEviction may = absurd (false≢true may)
granted_request NdrOp.CmpS Kind.DirtyEviction may = absurd (false≢true may)
granted_request NdrOp.CmpE kind may = may
granted_request NdrOp.ConflictAck kind may = absurd (false≢true may)

-- a read is a request
read_request : (kind : Kind) → is_read kind ≡ true → is_request kind ≡ true
read_request Kind.ReadShared read = refl
read_request Kind.ReadAny read = refl
read_request Kind.Invalidate read = refl
read_request Kind.CleanEviction read = absurd (false≢true read)
read_request Kind.DirtyEviction read = absurd (false≢true read)

-- a grant, by whether it waits for its MemData
grant_by :
    (f : ℕ → Option Transaction) (m : Message) (tag : ℕ) (c : NdrOp) (o : Transaction) (w : Emission) → NamedTake m tag (open_after_grant c) → HasTag f tag o → is_request o.kind ≡ true
    → (read : Bool) → is_read o.kind ≡ read → (bytes : Option Bytes64) → o.bytes ≡ bytes → w ≡ grant_emission o bytes → TakeEffect f m w.commit
grant_by f m tag c o w named at asks true reads None is emits =
    still_open f m tag (open_after_grant c) o (record o { grant = Some c }) w named at
    (cond-true (is_read o.kind && is_none o.bytes) (Some (record o { grant = Some c })) None (and_from _ _ reads (ap (λ (b : Option Bytes64). is_none b) is)))
    (emits ∙ cond-true (is_read o.kind) nothing (fill_emission o zero_bytes) reads)
grant_by f m tag c o w named at asks false reads None is emits =
    done_here f m tag (open_after_grant c) o zero_bytes w named at asks
    (cond-false (is_read o.kind && is_none o.bytes) (Some (record o { grant = Some c })) None (ap (λ (b : Bool). b && is_none o.bytes) reads))
    (emits ∙ cond-false (is_read o.kind) nothing (fill_emission o zero_bytes) reads)
grant_by f m tag c o w named at asks read reads (Some bytes) is emits =
    done_here f m tag (open_after_grant c) o bytes w named at asks
    (cond-false (is_read o.kind && is_none o.bytes) (Some (record o { grant = Some c })) None (and_right (is_read o.kind) (is_none o.bytes) (ap (λ (b : Option Bytes64). is_none b) is))) emits

-- MemData, by whether its grant was taken
data_by :
    (f : ℕ → Option Transaction) (m : Message) (tag : ℕ) (bytes : Bytes64) (o : Transaction) (w : Emission) → NamedTake m tag (open_after_data bytes) → HasTag f tag o → is_request o.kind ≡ true
    → (waiting : Bool) → is_none o.grant ≡ waiting → w ≡ data_emission o bytes → TakeEffect f m w.commit
data_by f m tag bytes o w named at asks true is emits =
    still_open f m tag (open_after_data bytes) o (record o { bytes = Some bytes }) w named at (cond-true (is_none o.grant) (Some (record o { bytes = Some bytes })) None is)
    (emits ∙ cond-true (is_none o.grant) nothing (fill_emission o bytes) is)
data_by f m tag bytes o w named at asks false is emits =
    done_here f m tag (open_after_data bytes) o bytes w named at asks (cond-false (is_none o.grant) (Some (record o { bytes = Some bytes })) None is)
    (emits ∙ cond-false (is_none o.grant) nothing (fill_emission o bytes) is)

-- Cmp leaves a request, and a conflict's acknowledgement leaves all
either_same : (b : Bool) (x q : Transaction) → x ≡ q → cond b (Some x) (Some q) ≡ Some q
either_same true x q same = ap Some same
either_same false x q same = refl

-- Cmp leaves each request
completion_leaves : (tag : ℕ) (q : Transaction) → is_request q.kind ≡ true → cond (tag == q.tag) (open_after_completion NdrOp.Cmp q) (Some q) ≡ Some q
completion_leaves tag q asks = ap (λ (o : Option Transaction). cond (tag == q.tag) o (Some q)) (cond-true (is_request q.kind) (Some q) None asks) ∙ either_same (tag == q.tag) q q refl

-- what a grant does
granted_effect :
    (setup : Configuration) (mine : List Event) (c : NdrOp) (m : Message) (tag : ℕ) (w : Emission) → LeadBack setup (λ a. open_at a mine) (λ u. tagged_line u mine) → NamedTake m tag (open_after_grant c)
    → h3_grant c (open_with tag mine) ≡ Some w → TakeEffect (λ a. open_at a mine) m w.commit
granted_effect setup mine c m tag w back named is =
    let by = h3_grant-inv c (open_with tag mine) w is in
    grant_by (λ a. open_at a mine) m tag c by.o w named (has_tag_at setup mine tag by.o back by.is_open) (granted_request c by.o.kind by.may) (is_read by.o.kind) refl by.o.bytes refl by.emits

-- what a take does to what a host has open, by its row
pub take_effect :
    (setup : Configuration) (h : ℕ) (m : Message) (mine : List Event) (w : Emission) → LeadBack setup (λ a. open_at a mine) (λ u. tagged_line u mine) → host_takes setup h m mine ≡ Some w
    → TakeEffect (λ a. open_at a mine) m w.commit
take_effect setup h (Message.Req _ _ _ _ _) mine w back is = absurd (none-some w is)
take_effect setup h (Message.MemWr _ _ _ _ _) mine w back is = absurd (none-some w is)
take_effect setup h (Message.BiConflict _) mine w back is = absurd (none-some w is)
take_effect setup h (Message.BiRsp _ _ _) mine w back is = absurd (none-some w is)
take_effect setup h (Message.Ndr NdrOp.Cmp tag) mine w back is =
    leaves_all (λ a. open_at a mine) (Message.Ndr NdrOp.Cmp tag) w
    (elim (h3_completion-inv (is_write_back_tag setup tag.0 mine) (open_with tag.0 mine) w is) [ inl written ↦ written.emits | inr evicted ↦ evicted.emits ]) (λ q asks. completion_leaves tag.0 q asks)
take_effect setup h (Message.Ndr NdrOp.CmpS tag) mine w back is = granted_effect setup mine NdrOp.CmpS (Message.Ndr NdrOp.CmpS tag) tag.0 w back (record { is = λ q. refl }) is
take_effect setup h (Message.Ndr NdrOp.CmpE tag) mine w back is = granted_effect setup mine NdrOp.CmpE (Message.Ndr NdrOp.CmpE tag) tag.0 w back (record { is = λ q. refl }) is
take_effect setup h (Message.Ndr NdrOp.ConflictAck tag) mine w back is =
    leaves_all (λ a. open_at a mine) (Message.Ndr NdrOp.ConflictAck tag) w (h5_conflict_ack-inv tag.0 mine w is).emits (λ q asks. either_same (tag.0 == q.tag) q q refl)
take_effect setup h (Message.MemData tag bytes) mine w back is =
    let by = h3_data-inv bytes (open_with tag.0 mine) w is in
    data_by (λ a. open_at a mine) (Message.MemData tag bytes) tag.0 bytes by.o w (record { is = λ q. refl }) (has_tag_at setup mine tag.0 by.o back by.is_open) (read_request by.o.kind by.read)
    (is_none by.o.grant) refl by.emits
take_effect setup h (Message.BiSnp op bitag line span) mine w back is =
    leaves_all (λ a. open_at a mine) (Message.BiSnp op bitag line span) w (h4_snoop-inv line.0 span mine w is).emits (λ q asks. refl)
take_effect setup h (Message.Credit c) mine w back is = leaves_all (λ a. open_at a mine) (Message.Credit c) w (h6_credit-inv setup h c mine w is).emits (λ q asks. refl)
