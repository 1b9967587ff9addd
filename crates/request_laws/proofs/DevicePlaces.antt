-- What an act of the device leaves of the places of a host's tag, by its row.
use Rattle.std.proofs.Common.{◌≡◌, ℕ, ◌+◌, Bool, true, false, List, ◌++◌, Option, Some, None, cond, count_by, refl, sym, ◌∙◌, ap, subst, arith}
use Rattle.std.specs.Prelude.{option_and_then, ◌&&◌, ◌==◌}
use Rattle.std.proofs.lemmas.Bool.{and_parts, eqb-true}
use Rattle.std.proofs.lemmas.Option.{none-some}
use Rattle.cxl_message.specs.declared.channels.Channel.{Channel}
use Rattle.cxl_message.specs.declared.events.Act.{Act}
use Rattle.cxl_message.specs.declared.events.Event.{Event}
use Rattle.cxl_message.specs.declared.events.Sends.{Sends}
use Rattle.cxl_message.specs.declared.identifiers.Line.{Line}
use Rattle.cxl_message.specs.declared.identifiers.Tag.{Tag}
use Rattle.cxl_message.specs.declared.messages.Message.{Message}
use Rattle.cxl_message.specs.declared.opcodes.Meta.{Meta}
use Rattle.cxl_message.specs.declared.opcodes.NdrOp.{NdrOp}
use Rattle.cxl_message.specs.declared.opcodes.ReqOp.{ReqOp}
use Rattle.cxl_message.specs.declared.opcodes.SnpType.{SnpType}
use Rattle.cxl_message.specs.Codes.{channel_eq}
use Rattle.cxl_message.specs.Messages.{channel_of, has_tag}
use Rattle.coherence_model.specs.Buffers.{buffered_requests, buffered_writes, message_with, request_used_by, without_tag, without_used, write_used_by}
use Rattle.coherence_model.specs.Copies.{asks_for_grant}
use Rattle.coherence_model.specs.DeviceActs.{Request, request_in}
use Rattle.coherence_model.specs.Directory.{Directory}
use Rattle.coherence_model.specs.Emission.{Emission}
use Rattle.coherence_model.specs.RequestFacts.{grants, is_ndr_with, is_task_of, kind_eq}
use Rattle.coherence_model.specs.Tasks.{Task}
use Rattle.coherence_model.specs.Transactions.{Transaction, request_kind}
use Rattle.coherence_model.specs.WriteBacks.{completes}
use Rattle.coherence_lemmas.proofs.DeviceActs.{Cleaned, Served}
use Rattle.coherence_lemmas.proofs.Options.{and_then_some}
use Rattle.request_laws.proofs.Balances.{Balanced, balance_as, balance_clean, balance_none, balance_of, balance_serve}
use Rattle.request_laws.proofs.Counts.{count_by-append}
use Rattle.request_laws.proofs.DeviceSends.{one_there, sent_there, served}
use Rattle.request_laws.proofs.Each.{Each, each_without_tag, found_message}
use Rattle.request_laws.proofs.RequestKinds.{clean_kind, kind_same}
use Rattle.request_laws.proofs.Places.{FitsRequest, FitsTask, Here, OwnRequest, OwnWrite, is_write_of, on_channel, task_at}

-- messages leave the buffers, others are sent, and tasks change
pub moved :
    (h tag : ℕ) (o : Option Transaction) (a : Option ℕ) (b : ℕ) (fr hr fw hw ndr drs hr' hw' sn sd : List Message) (task task' : ℕ → Option Task) → Here h tag o a b fr hr fw hw ndr drs task
    → Balanced o b (count_by (has_tag tag) fr + count_by (has_tag tag) hr') (count_by (is_write_of tag) fw + count_by (is_write_of tag) hw')
    (count_by (is_ndr_with completes tag) ndr + count_by (is_ndr_with completes tag) sn) (count_by (is_ndr_with grants tag) ndr + count_by (is_ndr_with grants tag) sn)
    (count_by (has_tag tag) drs + count_by (has_tag tag) sd) (task_at h tag task' a)
    → Each (OwnRequest tag o a) hr' → Each (OwnWrite tag o a) hw' → ((l : ℕ) (t : Task) → task' l ≡ Some t → is_task_of h tag t ≡ true → FitsTask o a l t)
    → Here h tag o a b fr hr' fw hw' (ndr ++ sn) (drs ++ sd) task'
moved h tag o a b fr hr fw hw ndr drs hr' hw' sn sd task task' inv balanced requests writes tasks = record {
  balanced =
      balance_as o refl refl refl (sym (count_by-append (is_ndr_with completes tag) ndr sn)) (sym (count_by-append (is_ndr_with grants tag) ndr sn)) (sym (count_by-append (has_tag tag) drs sd)) refl balanced;
  flying_requests = inv.flying_requests;
  held_requests = requests;
  flying_writes = inv.flying_writes;
  held_writes = writes;
  tasks = tasks;
}

-- nothing that counts is sent
pub record Silent (h tag : ℕ) (sends : Sends) : Type 0 where
  pub completions : sent_there (is_ndr_with completes tag) h Channel.Ndr sends ≡ 0
  pub granted : sent_there (is_ndr_with grants tag) h Channel.Ndr sends ≡ 0
  pub given_data : sent_there (has_tag tag) h Channel.Drs sends ≡ 0

pub silent_nothing : (h tag : ℕ) (sends : Sends) → sends ≡ Sends.Nothing → Silent h tag sends
silent_nothing h tag sends none = record {
  completions = ap (sent_there (is_ndr_with completes tag) h Channel.Ndr) none;
  granted = ap (sent_there (is_ndr_with grants tag) h Channel.Ndr) none;
  given_data = ap (sent_there (has_tag tag) h Channel.Drs) none;
}

pub off_and : (b : Bool) {c : Bool} (d : Bool) → c ≡ false → ◌≡◌ {A = ℕ} (cond ((b && c) && d) 1 0) 0
off_and true d e = ap (λ x. cond (x && d) 1 0) e
off_and false d e = refl

pub silent_one : (h tag k : ℕ) (m : Message) (sends : Sends) → sends ≡ Sends.One (record { host = k; message = m }) → channel_eq (channel_of m) Channel.Ndr ≡ false → channel_eq (channel_of m) Channel.Drs ≡ false → Silent h tag sends
silent_one h tag k m sends sent off_ndr off_drs = record {
  completions = ap (sent_there (is_ndr_with completes tag) h Channel.Ndr) sent ∙ one_there (is_ndr_with completes tag) h k Channel.Ndr m ∙ off_and (k == h) (is_ndr_with completes tag m) off_ndr;
  granted = ap (sent_there (is_ndr_with grants tag) h Channel.Ndr) sent ∙ one_there (is_ndr_with grants tag) h k Channel.Ndr m ∙ off_and (k == h) (is_ndr_with grants tag m) off_ndr;
  given_data = ap (sent_there (has_tag tag) h Channel.Drs) sent ∙ one_there (has_tag tag) h k Channel.Drs m ∙ off_and (k == h) (has_tag tag m) off_drs;
}

-- an act that neither uses nor sends what counts, and changes no task of the tag
pub unmoved :
    (h tag : ℕ) (o : Option Transaction) (a : Option ℕ) (b : ℕ) (fr hr fw hw ndr drs : List Message) (task task' : ℕ → Option Task) (sends : Sends) → Silent h tag sends
    → task_at h tag task' a ≡ task_at h tag task a → ((l : ℕ) (t : Task) → task' l ≡ Some t → is_task_of h tag t ≡ true → task l ≡ Some t)
    → Here h tag o a b fr hr fw hw ndr drs task → Here h tag o a b fr hr fw hw (ndr ++ on_channel h Channel.Ndr sends) (drs ++ on_channel h Channel.Drs sends) task'
unmoved h tag o a b fr hr fw hw ndr drs task task' sends silent same back inv =
    moved h tag o a b fr hr fw hw ndr drs hr hw (on_channel h Channel.Ndr sends) (on_channel h Channel.Drs sends) task task' inv
    (balance_as o refl refl refl (ap (λ n. count_by (is_ndr_with completes tag) ndr + n) (sym silent.completions)) (ap (λ n. count_by (is_ndr_with grants tag) ndr + n) (sym silent.granted))
    (ap (λ n. count_by (has_tag tag) drs + n) (sym silent.given_data)) (sym same) (balance_none o b _ _ _ _ _ _ inv.balanced))
    inv.held_requests inv.held_writes (λ l t there its. inv.tasks l t (back l t there its) its)

-- a tag's places after an act of the device
abbrev pub ActAfter : ℕ → ℕ → Option Transaction → Option ℕ → ℕ → Act → Sends → List Event → (fr fw ndr drs : List Message) → (ℕ → Option Task) → Type 0
ActAfter h tag o a b act sends dev fr fw ndr drs task =
    Here h tag o a b fr (without_used (request_used_by h act) (buffered_requests h dev)) fw (without_used (write_used_by h act) (buffered_writes h dev))
    (ndr ++ on_channel h Channel.Ndr sends) (drs ++ on_channel h Channel.Drs sends) task

abbrev pub ActBefore : ℕ → ℕ → Option Transaction → Option ℕ → ℕ → List Event → (fr fw ndr drs : List Message) → (ℕ → Option Task) → Type 0
ActBefore h tag o a b dev fr fw ndr drs task = Here h tag o a b fr (buffered_requests h dev) fw (buffered_writes h dev) ndr drs task

-- what is sent to a host, as another host sees it
elsewhere : (h tag k : ℕ) (m : Message) (sends : Sends) → sends ≡ Sends.One (record { host = k; message = m }) → (k == h) ≡ false → Silent h tag sends
elsewhere h tag k m sends sent other = record {
  completions = ap (sent_there (is_ndr_with completes tag) h Channel.Ndr) sent ∙ one_there (is_ndr_with completes tag) h k Channel.Ndr m ∙ ap (λ x. cond ((x && channel_eq (channel_of m) Channel.Ndr) && is_ndr_with completes tag m) 1 0) other;
  granted = ap (sent_there (is_ndr_with grants tag) h Channel.Ndr) sent ∙ one_there (is_ndr_with grants tag) h k Channel.Ndr m ∙ ap (λ x. cond ((x && channel_eq (channel_of m) Channel.Ndr) && is_ndr_with grants tag m) 1 0) other;
  given_data = ap (sent_there (has_tag tag) h Channel.Drs) sent ∙ one_there (has_tag tag) h k Channel.Drs m ∙ ap (λ x. cond ((x && channel_eq (channel_of m) Channel.Drs) && has_tag tag m) 1 0) other;
}

-- what an NDR message of the host counts
ndr_counts : (h tag k : ℕ) (m : Message) (sends : Sends) (p : Message → Bool) → sends ≡ Sends.One (record { host = k; message = m }) → (k == h) ≡ true → channel_eq (channel_of m) Channel.Ndr ≡ true
    → sent_there p h Channel.Ndr sends ≡ cond (p m) 1 0
ndr_counts h tag k m sends p sent own on =
    ap (sent_there p h Channel.Ndr) sent ∙ one_there p h k Channel.Ndr m ∙ ap (λ x. cond ((x && channel_eq (channel_of m) Channel.Ndr) && p m) 1 0) own ∙ ap (λ x. cond (x && p m) 1 0) on

no_data : (h tag k : ℕ) (m : Message) (sends : Sends) → sends ≡ Sends.One (record { host = k; message = m }) → channel_eq (channel_of m) Channel.Drs ≡ false → sent_there (has_tag tag) h Channel.Drs sends ≡ 0
no_data h tag k m sends sent off = ap (sent_there (has_tag tag) h Channel.Drs) sent ∙ one_there (has_tag tag) h k Channel.Drs m ∙ off_and (k == h) (has_tag tag m) off

-- Serve
pub serve_places :
    (h tag : ℕ) (o : Option Transaction) (a : Option ℕ) (b : ℕ) (k : ℕ) (t : Tag) (sends : Sends) (dev : List Event) (fr fw ndr drs : List Message) (task : ℕ → Option Task) (w : Emission)
    → Served k (message_with t.0 (buffered_writes k dev)) w → sends ≡ w.sends
    → ActBefore h tag o a b dev fr fw ndr drs task → ActAfter h tag o a b (Act.Serve k t) sends dev fr fw ndr drs task
serve_places h tag o a b k t sends dev fr fw ndr drs task w row sent inv = by_host (k == h) refl
  where
    goes : sends ≡ Sends.One (record { host = k; message = row.answer })
    goes = sent ∙ ap (λ (x : Emission). x.sends) row.emits

    by_host : (own : Bool) → (k == h) ≡ own
        → Here h tag o a b fr (buffered_requests h dev) fw (without_used (cond own (Some t.0) None) (buffered_writes h dev)) (ndr ++ on_channel h Channel.Ndr sends) (drs ++ on_channel h Channel.Drs sends) task
    by_host true is =
        let by = served tag row.m row.answer row.answers in
        let found = found_message (OwnWrite tag o a) t.0 row.m (buffered_writes h dev) inv.held_writes (ap (λ n. message_with t.0 (buffered_writes n dev)) (sym (eqb-true k h is)) ∙ row.found) in
        moved h tag o a b fr (buffered_requests h dev) fw (buffered_writes h dev) ndr drs (buffered_requests h dev) (without_tag t.0 (buffered_writes h dev)) (on_channel h Channel.Ndr sends) (on_channel h Channel.Drs sends) task task inv
        (balance_as o refl refl refl
        (ap (λ n. count_by (is_ndr_with completes tag) ndr + n) (sym (ndr_counts h tag k row.answer sends (is_ndr_with completes tag) goes is by.on_ndr ∙ ap (λ c. cond c 1 0) by.completion)))
        (ap (λ n. count_by (is_ndr_with grants tag) ndr + n) (sym (ndr_counts h tag k row.answer sends (is_ndr_with grants tag) goes is by.on_ndr ∙ ap (λ c. cond c 1 0) by.no_grant)))
        (ap (λ n. count_by (has_tag tag) drs + n) (sym (no_data h tag k row.answer sends goes by.no_data))) refl
        (balance_serve (is_write_of tag row.m) o b _ (count_by (is_write_of tag) fw) (count_by (is_write_of tag) (buffered_writes h dev)) (count_by (is_write_of tag) (without_tag t.0 (buffered_writes h dev))) _ _ _ _ (found.less (is_write_of tag)) inv.balanced))
        inv.held_requests (each_without_tag (OwnWrite tag o a) t.0 (buffered_writes h dev) inv.held_writes) inv.tasks
    by_host false is =
        unmoved h tag o a b fr (buffered_requests h dev) fw (buffered_writes h dev) ndr drs task task sends (elsewhere h tag k row.answer sends goes is) refl (λ l t' there its. there) inv

-- a buffered request, by its message
pub record IsRequest (m : Message) (r : Request) : Type 0 where
  pub op : ReqOp
  pub meta : Meta
  pub snp : SnpType
  pub t : Tag
  pub line : Line
  pub is : m ≡ Message.Req op meta snp t line
  pub same_op : r.op ≡ op
  pub same_tag : r.tag ≡ t
  pub same_line : r.line ≡ line.0

pub request_is : (m : Message) (r : Request) → request_in m ≡ Some r → IsRequest m r
request_is (Message.Req op meta snp t line) r e =
    let same : r ≡ record { op = op; tag = t; line = line.0 } = cc in
    record { op = op; meta = meta; snp = snp; t = t; line = line; is = refl; same_op = ap (λ (x : Request). x.op) same; same_tag = ap (λ (x : Request). x.tag) same; same_line = ap (λ (x : Request). x.line) same }
request_is (Message.MemWr _ _ _ _ _) r e = absurd (none-some r e)
request_is (Message.BiConflict _) r e = absurd (none-some r e)
request_is (Message.BiRsp _ _ _) r e = absurd (none-some r e)
request_is (Message.Ndr _ _) r e = absurd (none-some r e)
request_is (Message.MemData _ _) r e = absurd (none-some r e)
request_is (Message.BiSnp _ _ _ _) r e = absurd (none-some r e)
request_is (Message.Credit _) r e = absurd (none-some r e)

-- what a request's message says of what is open with its tag
pub record Named (o : Option Transaction) (a : Option ℕ) (op : ReqOp) (meta : Meta) (line : ℕ) : Type 0 where
  pub x : Transaction
  pub there : o ≡ Some x
  pub at_line : a ≡ Some line
  pub kind : request_kind op meta ≡ x.kind

pub named_by : (tag : ℕ) (o : Option Transaction) (a : Option ℕ) (op : ReqOp) (meta : Meta) (snp : SnpType) (t : Tag) (line : Line) → FitsRequest tag o a (Message.Req op meta snp t line) → Named o a op meta line.0
named_by tag o a op meta snp t line fits =
    let two = and_parts _ _ fits.is in
    let one = and_parts (kind_eq (request_kind op meta) fits.x.kind) (line.0 == fits.l) two.0 in
    record { x = fits.x; there = fits.there; at_line = fits.at_line ∙ ap Some (sym (eqb-true line.0 fits.l one.1)); kind = kind_same (request_kind op meta) fits.x.kind one.0 }

-- Clean
pub clean_places :
    (h tag : ℕ) (o : Option Transaction) (a : Option ℕ) (b : ℕ) (k : ℕ) (t : Tag) (sends : Sends) (dev : List Event) (fr fw ndr drs : List Message) (task : ℕ → Option Task) (D : Directory) (w : Emission)
    → Cleaned k (option_and_then request_in (message_with t.0 (buffered_requests k dev))) D w → sends ≡ w.sends
    → ActBefore h tag o a b dev fr fw ndr drs task → ActAfter h tag o a b (Act.Clean k t) sends dev fr fw ndr drs task
clean_places h tag o a b k t sends dev fr fw ndr drs task D w row sent inv = by_host (k == h) refl
  where
    answer : Message
    answer = Message.Ndr NdrOp.Cmp row.r.tag

    goes : sends ≡ Sends.One (record { host = k; message = Message.Ndr NdrOp.Cmp row.r.tag })
    goes = sent ∙ ap (λ (x : Emission). x.sends) row.emits

    by_tag : (m : Message) (is_req : IsRequest m row.r) (left : List Message) (c : Bool) → (is_req.t.0 == tag) ≡ c → OwnRequest tag o a m
        → count_by (has_tag tag) (buffered_requests h dev) ≡ cond (has_tag tag m) 1 0 + count_by (has_tag tag) left
        → Balanced o b (count_by (has_tag tag) fr + count_by (has_tag tag) left) (count_by (is_write_of tag) fw + count_by (is_write_of tag) (buffered_writes h dev))
        (count_by (is_ndr_with completes tag) ndr + cond c 1 0) (count_by (is_ndr_with grants tag) ndr + 0) (count_by (has_tag tag) drs + 0) (task_at h tag task a)
    by_tag m req left true is own less =
        let tagged : has_tag tag m ≡ true = ap (has_tag tag) req.is ∙ is in
        let named = named_by tag o a req.op req.meta req.snp req.t req.line (subst (FitsRequest tag o a) req.is (own tagged)) in
        balance_of (Some named.x) o (sym named.there) _ _ _ _ _ _ _
        (balance_clean named.x b (count_by (has_tag tag) fr) (count_by (has_tag tag) (buffered_requests h dev)) (count_by (has_tag tag) left) _ _ _ _ _ (less ∙ ap (λ x. cond x 1 0 + count_by (has_tag tag) left) tagged)
        (sym named.kind ∙ clean_kind req.op req.meta (ap asks_for_grant (sym req.same_op) ∙ row.eviction)) (balance_of o (Some named.x) named.there _ _ _ _ _ _ _ inv.balanced))
    by_tag m req left false is own less =
        let untagged : has_tag tag m ≡ false = ap (has_tag tag) req.is ∙ is in
        balance_none o b _ _ _ _ _ _
        (balance_as o refl (ap (λ n. count_by (has_tag tag) fr + n) (less ∙ ap (λ x. cond x 1 0 + count_by (has_tag tag) left) untagged ∙ front (count_by (has_tag tag) left))) refl refl refl refl refl inv.balanced)
      where
        front : (n : ℕ) → 0 + n ≡ n
        front n = omega arith

    by_host : (own : Bool) → (k == h) ≡ own
        → Here h tag o a b fr (without_used (cond own (Some t.0) None) (buffered_requests h dev)) fw (buffered_writes h dev) (ndr ++ on_channel h Channel.Ndr sends) (drs ++ on_channel h Channel.Drs sends) task
    by_host true is =
        let chain = and_then_some request_in (message_with t.0 (buffered_requests k dev)) row.r row.found in
        let req = request_is chain.x row.r chain.same in
        let found = found_message (OwnRequest tag o a) t.0 chain.x (buffered_requests h dev) inv.held_requests (ap (λ n. message_with t.0 (buffered_requests n dev)) (sym (eqb-true k h is)) ∙ chain.found) in
        moved h tag o a b fr (buffered_requests h dev) fw (buffered_writes h dev) ndr drs (without_tag t.0 (buffered_requests h dev)) (buffered_writes h dev) (on_channel h Channel.Ndr sends) (on_channel h Channel.Drs sends) task task inv
        (balance_as o refl refl refl
        (ap (λ n. count_by (is_ndr_with completes tag) ndr + n) (sym (ndr_counts h tag k answer sends (is_ndr_with completes tag) goes is refl ∙ ap (λ (x : Tag). cond (x.0 == tag) 1 0) req.same_tag)))
        (ap (λ n. count_by (is_ndr_with grants tag) ndr + n) (sym (ndr_counts h tag k answer sends (is_ndr_with grants tag) goes is refl)))
        (ap (λ n. count_by (has_tag tag) drs + n) (sym (no_data h tag k answer sends goes refl))) refl
        (by_tag chain.x req (without_tag t.0 (buffered_requests h dev)) (req.t.0 == tag) refl found.holds (found.less (has_tag tag))))
        (each_without_tag (OwnRequest tag o a) t.0 (buffered_requests h dev) inv.held_requests) inv.held_writes inv.tasks
    by_host false is =
        unmoved h tag o a b fr (buffered_requests h dev) fw (buffered_writes h dev) ndr drs task task sends (elsewhere h tag k answer sends goes is) refl (λ l t' there its. there) inv
