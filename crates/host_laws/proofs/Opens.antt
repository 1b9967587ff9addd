-- What is open at a host after each of its events, by line and by tag.
use Rattle.std.proofs.Common.{Bool, List, None, Option, Some, ap, arith, cond, false, refl, sym, true, ℕ, ◌∙◌, ◌∷◌, ◌≡◌}
use Rattle.std.proofs.lemmas.Bool.{both_ways, cond-false, cond-true, eq-eqb, eqb-false, eqb-true, false_from_ne_true, ne_eqb}
use Rattle.std.proofs.lemmas.Option.{none-some, same_Some}
use Rattle.std.specs.Option.{option_or}
use Rattle.std.specs.Prelude.{is_none, option_and_then, ◌&&◌, ◌==◌}
use Rattle.cxl_message.specs.declared.channels.Channel.{Channel}
use Rattle.cxl_message.specs.declared.events.Commit.{Commit}
use Rattle.cxl_message.specs.declared.events.Event.{Event}
use Rattle.cxl_message.specs.declared.events.Op.{Op}
use Rattle.cxl_message.specs.declared.identifiers.BiTag.{BiTag}
use Rattle.cxl_message.specs.declared.identifiers.Bytes64.{Bytes64}
use Rattle.cxl_message.specs.declared.identifiers.Line.{Line}
use Rattle.cxl_message.specs.declared.opcodes.SnpOp.{SnpOp}
use Rattle.cxl_message.specs.declared.opcodes.Span.{Span}
use Rattle.cxl_message.specs.declared.messages.Message.{Message}
use Rattle.cxl_message.specs.declared.opcodes.NdrOp.{NdrOp}
use Rattle.cxl_message.specs.Events.{line_of}
use Rattle.cxl_message.specs.Setup.{Configuration}
use Rattle.coherence_model.specs.Cache.{is_modified}
use Rattle.coherence_model.specs.HostOperations.{eviction_message, request_message}
use Rattle.coherence_model.specs.Tags.{if_tagged, open_with, tagged_line}
use Rattle.coherence_model.specs.Transactions.{Transaction, is_read, is_request, open_after_completion, open_after_data, open_after_take, open_at, opened}
use Rattle.request_laws.proofs.HostOperations.{eviction_kind, kind_of, request_opens}
use Rattle.request_laws.proofs.Options.{given, guarded_some}
use Rattle.request_laws.proofs.OpenLines.{LeadBack, one_opens, one_tags, two_open, two_tag, victim_opens}
use Rattle.host_laws.proofs.Events.{evicting_event, request_event, take_event}
use Rattle.host_laws.proofs.HostEvents.{data_of, ndr}
use Rattle.host_laws.proofs.TableLemmas.{same_either}

pub or_here : (b : Bool) (x : Transaction) (y : Option Transaction) → option_or (cond b (Some x) None) y ≡ cond b (Some x) y
or_here true x y = refl
or_here false x y = refl

-- a request opens its line
pub request_open : (h s i : ℕ) (op : Op) (tag : ℕ) (mine : List Event) (a : ℕ) → open_at a (request_event h s i op tag ∷ mine) ≡ cond (line_of op == a) (Some (opened s i op (kind_of op) tag)) (open_at a mine)
request_open h s i op tag mine a =
    one_opens a s i h op (request_message op tag) (line_of op) tag (kind_of op) mine (request_opens op tag)
    ∙ or_here (line_of op == a) (opened s i op (kind_of op) tag) (open_at a mine)

pub request_tagged : (h s i : ℕ) (op : Op) (tag : ℕ) (mine : List Event) (t : ℕ) → tagged_line t (request_event h s i op tag ∷ mine) ≡ option_or (cond (tag == t) (Some (line_of op)) None) (tagged_line t mine)
request_tagged h s i op tag mine t = one_tags t s i h op (request_message op tag) (line_of op) tag (kind_of op) mine (request_opens op tag)

-- what another tag leads to, where the line was closed
other_tag : (t l : ℕ) (x : Transaction) (f : ℕ → Option Transaction) (a : ℕ) (b : Bool) → (l == a) ≡ b → (x.tag == t) ≡ false → f l ≡ None → option_and_then (if_tagged t) (cond b (Some x) (f a)) ≡ option_and_then (if_tagged t) (f a)
other_tag t l x f a true is other closed =
    cond-false (x.tag == t) (Some x) None other ∙ sym (ap (option_and_then (if_tagged t)) (ap f (sym (eqb-true l a is)) ∙ closed))
other_tag t l x f a false is other closed = refl

-- what a tag leads to with a line opened by another tag
through_tags : (t l : ℕ) (x : Transaction) (f : ℕ → Option Transaction) (y : Option ℕ) → (x.tag == t) ≡ false → f l ≡ None
    → option_and_then (if_tagged t) (option_and_then (λ a. cond (l == a) (Some x) (f a)) y) ≡ option_and_then (if_tagged t) (option_and_then f y)
through_tags t l x f None other closed = refl
through_tags t l x f (Some a) other closed = other_tag t l x f a (l == a) refl other closed

request_with_by : (t l tag : ℕ) (x : Transaction) (f : ℕ → Option Transaction) (y : Option ℕ) (b : Bool) → (tag == t) ≡ b → x.tag ≡ tag → f l ≡ None
    → option_and_then (if_tagged t) (option_and_then (λ a. cond (l == a) (Some x) (f a)) (option_or (cond b (Some l) None) y)) ≡ cond b (Some x) (option_and_then (if_tagged t) (option_and_then f y))
request_with_by t l tag x f y true is same closed =
    ap (λ b. option_and_then (if_tagged t) (cond b (Some x) (f l))) (eq-eqb l l refl) ∙ cond-true (x.tag == t) (Some x) None (eq-eqb x.tag t (same ∙ eqb-true tag t is))
request_with_by t l tag x f y false is same closed = through_tags t l x f y (ap (λ k. k == t) same ∙ is) closed

-- with the request's tag its own is open, with the others what was
pub request_with : (h s i : ℕ) (op : Op) (tag : ℕ) (mine : List Event) (t : ℕ) → open_at (line_of op) mine ≡ None
    → open_with t (request_event h s i op tag ∷ mine) ≡ cond (tag == t) (Some (opened s i op (kind_of op) tag)) (open_with t mine)
request_with h s i op tag mine t closed =
    ap (λ (f : ℕ → Option Transaction). option_and_then (if_tagged t) (option_and_then f (tagged_line t (request_event h s i op tag ∷ mine)))) (λ j a. request_open h s i op tag mine a j)
    ∙ ap (λ y. option_and_then (if_tagged t) (option_and_then (λ a. cond (line_of op == a) (Some (opened s i op (kind_of op) tag)) (open_at a mine)) y)) (request_tagged h s i op tag mine t)
    ∙ request_with_by t (line_of op) tag (opened s i op (kind_of op) tag) (λ a. open_at a mine) (tagged_line t mine) (tag == t) refl refl closed

-- a message that answers what is open with a tag, by one step that keeps the tag
pub record AnswersTag (m : Message) (tag : ℕ) (step : Transaction → Option Transaction) : Type 0 where
  pub takes : (o : Transaction) → open_after_take m o ≡ cond (tag == o.tag) (step o) (Some o)
  pub keeps : (o p : Transaction) → step o ≡ Some p → p.tag ≡ o.tag

if_kept : (b : Bool) (x p : Transaction) → cond b (Some x) None ≡ Some p → p ≡ x
if_kept true x p h = sym (same_Some x p h)
if_kept false x p h = absurd (none-some p h)

if_stays : (b : Bool) (x p : Transaction) → cond b (Some x) None ≡ Some p → p.tag ≡ x.tag
if_stays b x p h = ap (λ (y : Transaction). y.tag) (if_kept b x p h)

ndr_keeps : (c : NdrOp) (o p : Transaction) → open_after_completion c o ≡ Some p → p.tag ≡ o.tag
ndr_keeps NdrOp.Cmp o p there = if_stays (is_request o.kind) o p there
ndr_keeps NdrOp.CmpS o p there = if_stays (is_read o.kind && is_none o.bytes) (record o { grant = Some NdrOp.CmpS }) p there
ndr_keeps NdrOp.CmpE o p there = if_stays (is_read o.kind && is_none o.bytes) (record o { grant = Some NdrOp.CmpE }) p there
ndr_keeps NdrOp.ConflictAck o p there = ap (λ (x : Transaction). x.tag) (sym (same_Some o p there))

pub ndr_answers : (c : NdrOp) (tag : ℕ) → AnswersTag (ndr c tag) tag (open_after_completion c)
ndr_answers c tag = record { takes = λ o. refl; keeps = ndr_keeps c }

pub data_answers : (tag : ℕ) (bytes : Bytes64) → AnswersTag (data_of tag bytes) tag (open_after_data bytes)
data_answers tag bytes = record { takes = λ o. refl; keeps = λ o p there. if_stays (is_none o.grant) (record o { bytes = Some bytes }) p there }

chain_is : (f : Transaction → Option Transaction) (g : ℕ → Option Transaction) (y : Option ℕ) → option_and_then (λ a. option_and_then f (g a)) y ≡ option_and_then f (option_and_then g y)
chain_is f g None = refl
chain_is f g (Some a) = refl

step_same : (t : ℕ) (o : Transaction) (y : Option Transaction) → ((p : Transaction) → y ≡ Some p → p.tag ≡ o.tag) → (o.tag == t) ≡ true → option_and_then (if_tagged t) y ≡ y
step_same t o None keeps is = refl
step_same t o (Some p) keeps is = cond-true (p.tag == t) (Some p) None (ap (λ k. k == t) (keeps p refl) ∙ is)

step_other : (t : ℕ) (o : Transaction) (y : Option Transaction) → ((p : Transaction) → y ≡ Some p → p.tag ≡ o.tag) → (o.tag == t) ≡ false → option_and_then (if_tagged t) y ≡ None
step_other t o None keeps is = refl
step_other t o (Some p) keeps is = cond-false (p.tag == t) (Some p) None (ap (λ k. k == t) (keeps p refl) ∙ is)

tagged_cases : (t tag : ℕ) (step : Transaction → Option Transaction) (o : Transaction) (here with_t both : Bool) → (tag == o.tag) ≡ here → (o.tag == t) ≡ with_t → (tag == t) ≡ both
    → ((p : Transaction) → step o ≡ Some p → p.tag ≡ o.tag)
    → option_and_then (if_tagged t) (cond here (step o) (Some o)) ≡ cond both (option_and_then step (cond with_t (Some o) None)) (cond with_t (Some o) None)
tagged_cases t tag step o true true both eh ew eb keeps =
    let same : tag ≡ t = eqb-true tag o.tag eh ∙ eqb-true o.tag t ew in
    let is : both ≡ true = sym eb ∙ eq-eqb tag t same in
    step_same t o (step o) keeps ew ∙ sym (cond-true both (step o) (Some o) is)
tagged_cases t tag step o true false both eh ew eb keeps = step_other t o (step o) keeps ew ∙ sym (same_either both None)
tagged_cases t tag step o false true both eh ew eb keeps =
    let is : both ≡ false = false_from_ne_true both (λ is. both_ways (tag == o.tag) eh (eq-eqb tag o.tag (eqb-true tag t (eb ∙ is) ∙ sym (eqb-true o.tag t ew)))) in
    cond-true (o.tag == t) (Some o) None ew ∙ sym (cond-false both (step o) (Some o) is)
tagged_cases t tag step o false false both eh ew eb keeps = cond-false (o.tag == t) (Some o) None ew ∙ sym (same_either both None)

taken_tagged : (m : Message) (t tag : ℕ) (step : Transaction → Option Transaction) → AnswersTag m tag step → (x : Option Transaction)
    → option_and_then (if_tagged t) (option_and_then (open_after_take m) x) ≡ cond (tag == t) (option_and_then step (option_and_then (if_tagged t) x)) (option_and_then (if_tagged t) x)
taken_tagged m t tag step answers None = sym (same_either (tag == t) None)
taken_tagged m t tag step answers (Some o) =
    ap (option_and_then (if_tagged t)) (answers.takes o) ∙ tagged_cases t tag step o (tag == o.tag) (o.tag == t) (tag == t) refl refl refl (answers.keeps o)

-- with the tag of an answer what it leaves is open, with the others what was
pub take_with : (h : ℕ) (m : Message) (tag : ℕ) (step : Transaction → Option Transaction) → AnswersTag m tag step → (commit : Option Commit) (mine : List Event) (t : ℕ)
    → open_with t (take_event h m commit ∷ mine) ≡ cond (tag == t) (option_and_then step (open_with t mine)) (open_with t mine)
take_with h m tag step answers commit mine t =
    ap (option_and_then (if_tagged t)) (chain_is (open_after_take m) (λ a. open_at a mine) (tagged_line t mine))
    ∙ taken_tagged m t tag step answers (option_and_then (λ a. open_at a mine) (tagged_line t mine))

other_line : (setup : Configuration) (mine : List Event) (m : Message) (tag : ℕ) (step : Transaction → Option Transaction) → AnswersTag m tag step → LeadBack setup (λ a. open_at a mine) (λ t. tagged_line t mine)
    → (l : ℕ) → tagged_line tag mine ≡ Some l → (a : ℕ) → (l ≡ a → ⊥) → (x : Option Transaction) → open_at a mine ≡ x → option_and_then (open_after_take m) x ≡ x
other_line setup mine m tag step answers back l named a other None is = refl
other_line setup mine m tag step answers back l named a other (Some p) is =
    answers.takes p
    ∙ cond-false (tag == p.tag) (step p) (Some p) (ne_eqb tag p.tag (λ same. other (same_Some l a (sym named ∙ ap (λ t. tagged_line t mine) same ∙ (back a p is).back))))

open_take_by : (setup : Configuration) (h : ℕ) (m : Message) (tag : ℕ) (step : Transaction → Option Transaction) → AnswersTag m tag step → (commit : Option Commit) (mine : List Event)
    → LeadBack setup (λ a. open_at a mine) (λ t. tagged_line t mine) → (o : Transaction) (l : ℕ) → open_at l mine ≡ Some o → o.tag ≡ tag → tagged_line tag mine ≡ Some l → (a : ℕ) (b : Bool) → (l == a) ≡ b
    → open_at a (take_event h m commit ∷ mine) ≡ cond b (step o) (open_at a mine)
open_take_by setup h m tag step answers commit mine back o l there same named a true is =
    ap (λ k. option_and_then (open_after_take m) (open_at k mine)) (sym (eqb-true l a is)) ∙ ap (option_and_then (open_after_take m)) there
    ∙ answers.takes o ∙ cond-true (tag == o.tag) (step o) (Some o) (eq-eqb tag o.tag (sym same))
open_take_by setup h m tag step answers commit mine back o l there same named a false is =
    other_line setup mine m tag step answers back l named a (eqb-false l a is) (open_at a mine) refl

-- an answer changes what is open for its line alone
pub open_take : (setup : Configuration) (h : ℕ) (m : Message) (tag : ℕ) (step : Transaction → Option Transaction) → AnswersTag m tag step → (commit : Option Commit) (mine : List Event)
    → LeadBack setup (λ a. open_at a mine) (λ t. tagged_line t mine) → (o : Transaction) (l : ℕ) → open_at l mine ≡ Some o → o.tag ≡ tag → tagged_line tag mine ≡ Some l → (a : ℕ)
    → open_at a (take_event h m commit ∷ mine) ≡ cond (l == a) (step o) (open_at a mine)
open_take setup h m tag step answers commit mine back o l there same named a =
    open_take_by setup h m tag step answers commit mine back o l there same named a (l == a) refl

same_option : (x : Option Transaction) → option_and_then (λ o. Some o) x ≡ x
same_option None = refl
same_option (Some o) = refl

-- a Credit changes nothing that is open
pub credit_open : (h : ℕ) (c : Channel) (commit : Option Commit) (mine : List Event) (a : ℕ) → open_at a (take_event h (Message.Credit c) commit ∷ mine) ≡ open_at a mine
credit_open h c commit mine a = same_option (open_at a mine)

pub credit_with : (h : ℕ) (c : Channel) (commit : Option Commit) (mine : List Event) (t : ℕ) → open_with t (take_event h (Message.Credit c) commit ∷ mine) ≡ open_with t mine
credit_with h c commit mine t =
    ap (λ (f : ℕ → Option Transaction). option_and_then (if_tagged t) (option_and_then f (tagged_line t mine))) (λ j a. credit_open h c commit mine a j)

-- a Credit, or a snoop

pub snoop_open : (h : ℕ) (op : SnpOp) (bitag : BiTag) (line : Line) (span : Span) (commit : Option Commit) (mine : List Event) (a : ℕ) → open_at a (take_event h (Message.BiSnp op bitag line span) commit ∷ mine) ≡ open_at a mine
snoop_open h op bitag line span commit mine a = same_option (open_at a mine)

pub snoop_with : (h : ℕ) (op : SnpOp) (bitag : BiTag) (line : Line) (span : Span) (commit : Option Commit) (mine : List Event) (t : ℕ) → open_with t (take_event h (Message.BiSnp op bitag line span) commit ∷ mine) ≡ open_with t mine
snoop_with h op bitag line span commit mine t =
    ap (λ (f : ℕ → Option Transaction). option_and_then (if_tagged t) (option_and_then f (tagged_line t mine))) (λ j a. snoop_open h op bitag line span commit mine a j)

-- the line that is open with a tag

pub record FoundLine (mine : List Event) (t : ℕ) (o : Transaction) : Type 0 where
  pub a : ℕ
  pub there : open_at a mine ≡ Some o
  pub tag : o.tag ≡ t
  pub tagged : tagged_line t mine ≡ Some a

pub found_line : (mine : List Event) (t : ℕ) (o : Transaction) → open_with t mine ≡ Some o → FoundLine mine t o
found_line mine t o h =
    let last = given (if_tagged t) (option_and_then (λ a. open_at a mine) (tagged_line t mine)) o h in
    let first = given (λ a. open_at a mine) (tagged_line t mine) last.x last.there in
    let kept = guarded_some (last.x.tag == t) (Some last.x) o last.gives in
    let same = same_Some last.x o kept.1 in
    record { a = first.x; there = first.gives ∙ ap {B = Option Transaction} Some same; tag = ap (λ (x : Transaction). x.tag) (sym same) ∙ eqb-true last.x.tag t kept.0; tagged = first.there }

-- an eviction and a request

abbrev pub evicted : ℕ → ℕ → Op → Bool → ℕ → Transaction
evicted s i op modified tag = opened s i op (eviction_kind modified) tag

pub two_open_at : (setup : Configuration) (h s i : ℕ) (op : Op) (v t u : ℕ) (mine : List Event) (a : ℕ)
    → open_at a (evicting_event h s i op (eviction_message setup v mine t) u ∷ mine)
    ≡ cond (v == a) (Some (evicted s i op (is_modified setup v mine) t)) (cond (line_of op == a) (Some (opened s i op (kind_of op) u)) (open_at a mine))
two_open_at setup h s i op v t u mine a =
    two_open a s i h op (eviction_message setup v mine t) (request_message op u) v t (eviction_kind (is_modified setup v mine)) (line_of op) u (kind_of op) mine (victim_opens setup v mine t) (request_opens op u)
    ∙ or_here (v == a) (evicted s i op (is_modified setup v mine) t) _
    ∙ ap (cond (v == a) (Some (evicted s i op (is_modified setup v mine) t))) (or_here (line_of op == a) (opened s i op (kind_of op) u) (open_at a mine))

pub two_tagged_line : (setup : Configuration) (h s i : ℕ) (op : Op) (v t u : ℕ) (mine : List Event) (x : ℕ)
    → tagged_line x (evicting_event h s i op (eviction_message setup v mine t) u ∷ mine) ≡ cond (t == x) (Some v) (cond (u == x) (Some (line_of op)) (tagged_line x mine))
two_tagged_line setup h s i op v t u mine x =
    two_tag x s i h op (eviction_message setup v mine t) (request_message op u) v t (eviction_kind (is_modified setup v mine)) (line_of op) u (kind_of op) mine (victim_opens setup v mine t) (request_opens op u)
    ∙ or_line (t == x) v _ ∙ ap (cond (t == x) (Some v)) (or_line (u == x) (line_of op) (tagged_line x mine))
  where
    or_line : (b : Bool) (l : ℕ) (y : Option ℕ) → option_or (cond b (Some l) None) y ≡ cond b (Some l) y
    or_line true l y = refl
    or_line false l y = refl

-- what a tag leads to after both: the eviction, the request, or what it led to before
two_with_by : (x l v t u : ℕ) (e r : Transaction) (f : ℕ → Option Transaction) (y : Option ℕ) (at bt : Bool) → (t == x) ≡ at → (u == x) ≡ bt → e.tag ≡ t → r.tag ≡ u → f v ≡ None → f l ≡ None → (v ≡ l → ⊥)
    → option_and_then (if_tagged x) (option_and_then (λ a. cond (v == a) (Some e) (cond (l == a) (Some r) (f a))) (cond at (Some v) (cond bt (Some l) y)))
    ≡ cond at (Some e) (cond bt (Some r) (option_and_then (if_tagged x) (option_and_then f y)))
two_with_by x l v t u e r f y true bt et eu tag tag' closed closed' other =
    ap (λ b. option_and_then (if_tagged x) (cond b (Some e) (cond (l == v) (Some r) (f v)))) (eq-eqb v v refl) ∙ cond-true (e.tag == x) (Some e) None (eq-eqb e.tag x (tag ∙ eqb-true t x et))
two_with_by x l v t u e r f y false true et eu tag tag' closed closed' other =
    ap (λ b. option_and_then (if_tagged x) (cond b (Some e) (cond (l == l) (Some r) (f l)))) (ne_eqb v l other)
    ∙ ap (λ b. option_and_then (if_tagged x) (cond b (Some r) (f l))) (eq-eqb l l refl) ∙ cond-true (r.tag == x) (Some r) None (eq-eqb r.tag x (tag' ∙ eqb-true u x eu))
two_with_by x l v t u e r f y false false et eu tag tag' closed closed' other =
    through_tags x v e (λ a. cond (l == a) (Some r) (f a)) y (ap (λ k. k == x) tag ∙ et) (ap (λ b. cond b (Some r) (f v)) (ne_eqb l v (λ same. other (sym same))) ∙ closed)
    ∙ through_tags x l r f y (ap (λ k. k == x) tag' ∙ eu) closed'

pub two_with : (setup : Configuration) (h s i : ℕ) (op : Op) (v t u : ℕ) (mine : List Event) (x : ℕ) → open_at v mine ≡ None → open_at (line_of op) mine ≡ None → (v ≡ line_of op → ⊥)
    → open_with x (evicting_event h s i op (eviction_message setup v mine t) u ∷ mine)
    ≡ cond (t == x) (Some (evicted s i op (is_modified setup v mine) t)) (cond (u == x) (Some (opened s i op (kind_of op) u)) (open_with x mine))
two_with setup h s i op v t u mine x closed closed' other =
    ap (λ (f : ℕ → Option Transaction). option_and_then (if_tagged x) (option_and_then f (tagged_line x (evicting_event h s i op (eviction_message setup v mine t) u ∷ mine)))) (λ j a. two_open_at setup h s i op v t u mine a j)
    ∙ ap (λ y. option_and_then (if_tagged x) (option_and_then (λ a. cond (v == a) (Some (evicted s i op (is_modified setup v mine) t)) (cond (line_of op == a) (Some (opened s i op (kind_of op) u)) (open_at a mine))) y)) (two_tagged_line setup h s i op v t u mine x)
    ∙ two_with_by x (line_of op) v t u (evicted s i op (is_modified setup v mine) t) (opened s i op (kind_of op) u) (λ a. open_at a mine) (tagged_line x mine) (t == x) (u == x) refl refl refl refl closed closed' other

-- a BI-ConflictAck, and the Cmp of the write-back, leave everything open

ack_same : (tag : ℕ) (x : Option Transaction) → option_and_then (open_after_take (ndr NdrOp.ConflictAck tag)) x ≡ x
ack_same tag None = refl
ack_same tag (Some o) = same_either (tag == o.tag) (Some o)

pub ack_open : (h : ℕ) (tag : ℕ) (commit : Option Commit) (mine : List Event) (a : ℕ) → open_at a (take_event h (ndr NdrOp.ConflictAck tag) commit ∷ mine) ≡ open_at a mine
ack_open h tag commit mine a = ack_same tag (open_at a mine)

pub ack_with : (h : ℕ) (tag : ℕ) (commit : Option Commit) (mine : List Event) (t : ℕ) → open_with t (take_event h (ndr NdrOp.ConflictAck tag) commit ∷ mine) ≡ open_with t mine
ack_with h tag commit mine t =
    ap (λ (f : ℕ → Option Transaction). option_and_then (if_tagged t) (option_and_then f (tagged_line t mine))) (λ j a. ack_open h tag commit mine a j)

write_end_same : (setup : Configuration) (mine : List Event) → LeadBack setup (λ a. open_at a mine) (λ t. tagged_line t mine) → (a : ℕ) (x : Option Transaction) → open_at a mine ≡ x
    → option_and_then (open_after_take (ndr NdrOp.Cmp setup.tags)) x ≡ x
write_end_same setup mine back a None is = refl
write_end_same setup mine back a (Some o) is =
    let low = (back a o is).tag in
    cond-false (setup.tags == o.tag) (open_after_completion NdrOp.Cmp o) (Some o) (ne_eqb setup.tags o.tag (λ same. omega arith))

pub write_end_open : (setup : Configuration) (h : ℕ) (mine : List Event) → LeadBack setup (λ a. open_at a mine) (λ t. tagged_line t mine) → (a : ℕ) → open_at a (take_event h (ndr NdrOp.Cmp setup.tags) None ∷ mine) ≡ open_at a mine
write_end_open setup h mine back a = write_end_same setup mine back a (open_at a mine) refl

pub write_end_with : (setup : Configuration) (h : ℕ) (mine : List Event) → LeadBack setup (λ a. open_at a mine) (λ t. tagged_line t mine) → (t : ℕ) → open_with t (take_event h (ndr NdrOp.Cmp setup.tags) None ∷ mine) ≡ open_with t mine
write_end_with setup h mine back t =
    ap (λ (f : ℕ → Option Transaction). option_and_then (if_tagged t) (option_and_then f (tagged_line t mine))) (λ j a. write_end_open setup h mine back a j)
