-- What a host's operation leaves of the places of a tag: the messages that it sends open their lines.
use Rattle.std.proofs.Common.{◌≡◌, ℕ, ◌+◌, Bool, true, false, List, ◌++◌, Option, Some, None, cond, count_by, refl, sym, ◌∙◌, ap, subst, arith}
use Rattle.std.specs.Prelude.{not, option_and_then, ◌&&◌, ◌==◌}
use Rattle.std.specs.Option.{option_map_or, option_or}
use Rattle.std.proofs.lemmas.Bool.{and_from, cond-false, cond-true, eq-eqb, eqb-true, false≢true}
use Rattle.std.proofs.lemmas.Option.{none-some}
use Rattle.cxl_message.specs.declared.channels.Channel.{Channel}
use Rattle.cxl_message.specs.declared.events.Op.{Op}
use Rattle.cxl_message.specs.declared.identifiers.Bytes64.{Bytes64}
use Rattle.cxl_message.specs.declared.messages.Message.{Message}
use Rattle.cxl_message.specs.Codes.{channel_eq}
use Rattle.cxl_message.specs.Events.{line_of}
use Rattle.cxl_message.specs.Messages.{channel_of, has_tag}
use Rattle.coherence_model.specs.HostOperations.{request_message}
use Rattle.coherence_model.specs.RequestFacts.{grants, is_ndr_with, is_request_with, is_task_of, is_write_with}
use Rattle.coherence_model.specs.Tags.{if_tagged}
use Rattle.coherence_model.specs.Tasks.{Task}
use Rattle.coherence_model.specs.Transactions.{Kind, Transaction, opened}
use Rattle.coherence_model.specs.WriteBacks.{completes}
use Rattle.request_laws.proofs.Balances.{balance_as, balance_opened, by_request, by_write}
use Rattle.request_laws.proofs.Counts.{count_by-append}
use Rattle.request_laws.proofs.Each.{Each, each_append, each_of_none, each_weaker}
use Rattle.request_laws.proofs.HostOperations.{eviction_kind, eviction_with, kind_of}
use Rattle.request_laws.proofs.OpenLines.{opening_line, tagging_line, with_tag}
use Rattle.request_laws.proofs.Places.{FitsRequest, FitsWrite, Here, OwnRequest, OwnWrite, if_there, is_write_of, task_at}
use Rattle.request_laws.proofs.TakesPlaced.{both_none}

-- a message that opens line l with tag t: which channel it goes on, and what it says
pub record OpensBy (m : Message) (l t : ℕ) (k : Kind) (q v : Bool) : Type 0 where
  pub on_req : channel_eq (channel_of m) Channel.Req ≡ q
  pub on_rwd : channel_eq (channel_of m) Channel.Rwd ≡ v
  pub request : by_request k ≡ cond q 1 0
  pub write : by_write k ≡ cond v 1 0
  pub tagged : (tag : ℕ) → has_tag tag m ≡ (t == tag)
  pub writes : (tag : ℕ) → is_write_of tag m ≡ (v && (t == tag))
  pub fits : q ≡ true → is_request_with k l t m ≡ true
  pub fits_write : v ≡ true → is_write_with l t m ≡ true

pub request_opens_by : (op : Op) (t : ℕ) → OpensBy (request_message op t) (line_of op) t (kind_of op) true false
request_opens_by (Op.Load line) t = record {
  on_req = refl;
  on_rwd = refl;
  request = refl;
  write = refl;
  tagged = λ tag. refl;
  writes = λ tag. refl;
  fits = λ e. and_from (line.0 == line.0) (t == t) (eq-eqb line.0 line.0 refl) (eq-eqb t t refl);
  fits_write = λ e. absurd (false≢true e);
}
request_opens_by (Op.Word line place value) t = record {
  on_req = refl;
  on_rwd = refl;
  request = refl;
  write = refl;
  tagged = λ tag. refl;
  writes = λ tag. refl;
  fits = λ e. and_from (line.0 == line.0) (t == t) (eq-eqb line.0 line.0 refl) (eq-eqb t t refl);
  fits_write = λ e. absurd (false≢true e);
}
request_opens_by (Op.Whole line bytes) t = record {
  on_req = refl;
  on_rwd = refl;
  request = refl;
  write = refl;
  tagged = λ tag. refl;
  writes = λ tag. refl;
  fits = λ e. and_from (line.0 == line.0) (t == t) (eq-eqb line.0 line.0 refl) (eq-eqb t t refl);
  fits_write = λ e. absurd (false≢true e);
}

pub eviction_opens_by : (modified : Bool) (bytes : Bytes64) (v t : ℕ) → OpensBy (eviction_with modified bytes v t) v t (eviction_kind modified) (not modified) modified
eviction_opens_by true bytes v t = record {
  on_req = refl;
  on_rwd = refl;
  request = refl;
  write = refl;
  tagged = λ tag. refl;
  writes = λ tag. refl;
  fits = λ e. absurd (false≢true e);
  fits_write = λ e. and_from (v == v) (t == t) (eq-eqb v v refl) (eq-eqb t t refl);
}
eviction_opens_by false bytes v t = record {
  on_req = refl;
  on_rwd = refl;
  request = refl;
  write = refl;
  tagged = λ tag. refl;
  writes = λ tag. refl;
  fits = λ e. and_from (v == v) (t == t) (eq-eqb v v refl) (eq-eqb t t refl);
  fits_write = λ e. absurd (false≢true e);
}

-- what is open with a tag after a line is opened
if_tagged_line : (x : Transaction) (f : ℕ → Option Transaction) (l a tag : ℕ) (here same : Bool) → (l == a) ≡ here → (x.tag == tag) ≡ same → f l ≡ None
    → same ≡ false → option_and_then (if_tagged tag) (option_or (cond here (Some x) None) (f a)) ≡ option_and_then (if_tagged tag) (f a)
if_tagged_line x f l a tag true same is its quiet other =
    cond-false (x.tag == tag) (Some x) None (its ∙ other) ∙ sym (ap (option_and_then (if_tagged tag)) (ap f (sym (eqb-true l a is)) ∙ quiet))
if_tagged_line x f l a tag false same is its quiet other = refl

by_tagged_line : (f : ℕ → Option Transaction) (l tag : ℕ) (x : Transaction) (named : Option ℕ) → f l ≡ None → (x.tag == tag) ≡ false
    → option_and_then (if_tagged tag) (option_and_then (opening_line l x f) named) ≡ option_and_then (if_tagged tag) (option_and_then f named)
by_tagged_line f l tag x None quiet other = refl
by_tagged_line f l tag x (Some a) quiet other = if_tagged_line x f l a tag (l == a) (x.tag == tag) refl refl quiet other

with_tag_by : (f : ℕ → Option Transaction) (g : ℕ → Option ℕ) (l tag : ℕ) (x : Transaction) (same : Bool) → (x.tag == tag) ≡ same → f l ≡ None
    → option_and_then (if_tagged tag) (option_and_then (opening_line l x f) (option_or (cond same (Some l) None) (g tag))) ≡ cond same (Some x) (with_tag f g tag)
with_tag_by f g l tag x true is quiet =
    ap (λ b. option_and_then (if_tagged tag) (option_or (cond b (Some x) None) (f l))) (eq-eqb l l refl) ∙ cond-true (x.tag == tag) (Some x) None is
with_tag_by f g l tag x false is quiet = by_tagged_line f l tag x (g tag) quiet is

pub with_tag_opened : (f : ℕ → Option Transaction) (g : ℕ → Option ℕ) (l tag : ℕ) (x : Transaction) → f l ≡ None
    → with_tag (opening_line l x f) (tagging_line l x.tag g) tag ≡ cond (x.tag == tag) (Some x) (with_tag f g tag)
with_tag_opened f g l tag x quiet = with_tag_by f g l tag x (x.tag == tag) refl quiet

-- counts of a message that may be there
count_there : (p : Message → Bool) (b : Bool) (m : Message) → count_by p (if_there b m) ≡ cond b (cond (p m) 1 0) 0
count_there p true m = omega arith
count_there p false m = refl

each_there : (P : Message → Type 0) (b : Bool) (m : Message) → (b ≡ true → P m) → Each P (if_there b m)
each_there P true m h = (h refl, tt)
each_there P false m h = tt

each_more : (P : Message → Type 0) (b : Bool) (m : Message) (ms : List Message) → Each P ms → (b ≡ true → P m) → Each P (ms ++ if_there b m)
each_more P b m ms h k = each_append P ms (if_there b m) h (each_there P b m k)

-- the tag's own line is opened
sums_here : (fr hr fr' one q by : ℕ) → fr' ≡ fr + one → one ≡ q → by ≡ q → fr' + hr ≡ fr + hr + by
sums_here fr hr fr' one q by e f g = omega arith

pub opened_here :
    (h tag s i : ℕ) (op : Op) (m : Message) (l : ℕ) (k : Kind) (q v : Bool) (a a' : Option ℕ) (fr hr fw hw ndr drs : List Message) (task : ℕ → Option Task)
    → OpensBy m l tag k q v → a' ≡ Some l → Here h tag None a 0 fr hr fw hw ndr drs task
    → Here h tag (Some (opened s i op k tag)) a' 0 (fr ++ if_there q m) hr (fw ++ if_there v m) hw ndr drs task
opened_here h tag s i op m l k q v a a' fr hr fw hw ndr drs task by named inv =
    let x : Transaction = opened s i op k tag in
    let rs : count_by (has_tag tag) (fr ++ if_there q m) + count_by (has_tag tag) hr ≡ count_by (has_tag tag) fr + count_by (has_tag tag) hr + by_request k =
    sums_here (count_by (has_tag tag) fr) (count_by (has_tag tag) hr) _ _ (cond q 1 0) (by_request k) (count_by-append (has_tag tag) fr (if_there q m))
    (count_there (has_tag tag) q m ∙ ap (λ b. cond q (cond b 1 0) 0) (by.tagged tag ∙ eq-eqb tag tag refl)) by.request in
    let ws : count_by (is_write_of tag) (fw ++ if_there v m) + count_by (is_write_of tag) hw ≡ count_by (is_write_of tag) fw + count_by (is_write_of tag) hw + by_write k =
    sums_here (count_by (is_write_of tag) fw) (count_by (is_write_of tag) hw) _ _ (cond v 1 0) (by_write k) (count_by-append (is_write_of tag) fw (if_there v m))
    (count_there (is_write_of tag) v m ∙ ap (λ b. cond v (cond b 1 0) 0) (by.writes tag ∙ ap (λ b. v && b) (eq-eqb tag tag refl)) ∙ twice v) by.write in
    let none = both_none (count_by (is_write_of tag) fw) (count_by (is_write_of tag) hw) (no_writes (count_by (is_write_of tag) fw + count_by (is_write_of tag) hw) (count_by (is_ndr_with completes tag) ndr) inv.balanced.1) in
    let tasks_none = inv.balanced.4 in
    record {
      balanced =
          balance_as (Some x) refl (sym rs) (sym ws) refl refl refl (sym (no_task_at a'))
          (balance_opened k (count_by (has_tag tag) fr + count_by (has_tag tag) hr) (count_by (is_write_of tag) fw + count_by (is_write_of tag) hw)
          (count_by (is_ndr_with completes tag) ndr) (count_by (is_ndr_with grants tag) ndr) (count_by (has_tag tag) drs) 0
          (balance_as None refl refl refl refl refl refl tasks_none inv.balanced));
      flying_requests = each_more (OwnRequest tag (Some x) a') q m fr (each_weaker (OwnRequest tag None a) (OwnRequest tag (Some x) a') (λ n own tagged. absurd (none-some (own tagged).x (own tagged).there)) fr inv.flying_requests)
          (λ yes tagged. record { x = x; there = refl; l = l; at_line = named; is = by.fits yes });
      held_requests = each_weaker (OwnRequest tag None a) (OwnRequest tag (Some x) a') (λ n own tagged. absurd (none-some (own tagged).x (own tagged).there)) hr inv.held_requests;
      flying_writes = each_more (OwnWrite tag (Some x) a') v m fw (each_weaker _ (OwnWrite tag (Some x) a') (λ n own tagged y there. own tagged) fw (each_of_none (FitsWrite tag a') (is_write_of tag) fw none.0))
          (λ yes tagged y there. record { l = l; at_line = named; is = by.fits_write yes });
      held_writes = each_weaker _ (OwnWrite tag (Some x) a') (λ n own tagged y there. own tagged) hw (each_of_none (FitsWrite tag a') (is_write_of tag) hw none.1);
      tasks = λ l' t there its. absurd (none-some (inv.tasks l' t there its).x (inv.tasks l' t there its).there);
    }
  where
    twice : (b : Bool) → ◌≡◌ {A = ℕ} (cond b (cond (b && true) 1 0) 0) (cond b 1 0)
    twice true = refl
    twice false = refl

    no_writes : (n m : ℕ) → n + m ≡ 0 → n ≡ 0
    no_writes n m e = omega arith

    flag_down : (c : Bool) → (c ≡ true → ⊥) → ◌≡◌ {A = ℕ} (cond c 1 0) 0
    flag_down true f = absurd (f refl)
    flag_down false f = refl

    no_task_if : (l' : ℕ) (t : Option Task) → task l' ≡ t → ◌≡◌ {A = ℕ} (cond (option_map_or (is_task_of h tag) t false) 1 0) 0
    no_task_if l' None is = refl
    no_task_if l' (Some t) is = flag_down (is_task_of h tag t) (λ its. none-some (inv.tasks l' t is its).x (inv.tasks l' t is its).there)

    no_task_at : (c : Option ℕ) → task_at h tag task c ≡ 0
    no_task_at None = refl
    no_task_at (Some l') = no_task_if l' (task l') refl

-- other messages are sent
zero_more : (n m z : ℕ) → z ≡ 0 → n + z + m ≡ n + m
zero_more n m z e = omega arith

pub sent_others :
    (h tag : ℕ) (o : Option Transaction) (a : Option ℕ) (b : ℕ) (fr hr fw hw ndr drs : List Message) (task : ℕ → Option Task) (sr sw : List Message)
    → count_by (has_tag tag) sr ≡ 0 → count_by (is_write_of tag) sw ≡ 0 → Here h tag o a b fr hr fw hw ndr drs task → Here h tag o a b (fr ++ sr) hr (fw ++ sw) hw ndr drs task
sent_others h tag o a b fr hr fw hw ndr drs task sr sw rs ws inv = record {
  balanced =
      balance_as o refl
      (sym (ap (λ n. n + count_by (has_tag tag) hr) (count_by-append (has_tag tag) fr sr) ∙ zero_more (count_by (has_tag tag) fr) (count_by (has_tag tag) hr) (count_by (has_tag tag) sr) rs))
      (sym (ap (λ n. n + count_by (is_write_of tag) hw) (count_by-append (is_write_of tag) fw sw) ∙ zero_more (count_by (is_write_of tag) fw) (count_by (is_write_of tag) hw) (count_by (is_write_of tag) sw) ws))
      refl refl refl refl inv.balanced;
  flying_requests = each_append (OwnRequest tag o a) fr sr inv.flying_requests (each_of_none (FitsRequest tag o a) (has_tag tag) sr rs);
  held_requests = inv.held_requests;
  flying_writes = each_append (OwnWrite tag o a) fw sw inv.flying_writes (each_of_none (λ m. (x : Transaction) → o ≡ Some x → FitsWrite tag a m) (is_write_of tag) sw ws);
  held_writes = inv.held_writes;
  tasks = inv.tasks;
}

-- the same with other names for what it speaks of
pub here_as :
    (h tag : ℕ) (o o' : Option Transaction) (a a' : Option ℕ) (b b' : ℕ) (fr fr' hr fw fw' hw ndr drs : List Message) (task : ℕ → Option Task)
    → o ≡ o' → a ≡ a' → b ≡ b' → fr ≡ fr' → fw ≡ fw' → Here h tag o a b fr hr fw hw ndr drs task → Here h tag o' a' b' fr' hr fw' hw ndr drs task
here_as h tag o o' a a' b b' fr fr' hr fw fw' hw ndr drs task eo ea eb er ew inv =
    subst (λ x. Here h tag o' a' b' fr' hr x hw ndr drs task) ew (subst (λ x. Here h tag o' a' b' x hr fw hw ndr drs task) er
    (subst (λ x. Here h tag o' a' x fr hr fw hw ndr drs task) eb (subst (λ x. Here h tag o' x b fr hr fw hw ndr drs task) ea
    (subst (λ x. Here h tag x a b fr hr fw hw ndr drs task) eo inv))))

count_none : (p : Message → Bool) (c : Bool) (m : Message) → p m ≡ false → count_by p (if_there c m) ≡ 0
count_none p true m e = count_there p true m ∙ ap (λ b. cond b 1 0) e
count_none p false m e = refl

-- a line is opened by a message, as any tag sees it
pub open_one :
    (h tag s i : ℕ) (op : Op) (m : Message) (l t : ℕ) (k : Kind) (q v : Bool) (f : ℕ → Option Transaction) (g : ℕ → Option ℕ) (b : ℕ) (fr hr fw hw ndr drs : List Message) (task : ℕ → Option Task)
    → OpensBy m l t k q v → f l ≡ None → with_tag f g t ≡ None → (t ≡ tag → b ≡ 0)
    → Here h tag (with_tag f g tag) (g tag) b fr hr fw hw ndr drs task
    → Here h tag (with_tag (opening_line l (opened s i op k t) f) (tagging_line l t g) tag) (tagging_line l t g tag) b (fr ++ if_there q m) hr (fw ++ if_there v m) hw ndr drs task
open_one h tag s i op m l t k q v f g b fr hr fw hw ndr drs task by quiet free unwritten inv = by_tag (t == tag) refl
  where
    and_no : (c : Bool) → (c && false) ≡ false
    and_no true = refl
    and_no false = refl

    by_tag : (same : Bool) → (t == tag) ≡ same
        → Here h tag (with_tag (opening_line l (opened s i op k t) f) (tagging_line l t g) tag) (tagging_line l t g tag) b (fr ++ if_there q m) hr (fw ++ if_there v m) hw ndr drs task
    by_tag true is =
        let same = eqb-true t tag is in
        let by_this = subst (λ n. OpensBy m l n k q v) same by in
        let zero = unwritten same in
        here_as h tag (Some (opened s i op k tag)) _ (Some l) _ 0 b _ _ hr _ _ hw ndr drs task
        (sym (with_tag_opened f g l tag (opened s i op k t) quiet ∙ cond-true (t == tag) (Some (opened s i op k t)) (with_tag f g tag) is ∙ ap (λ n. Some (opened s i op k n)) same))
        (sym (ap (λ c. option_or (cond c (Some l) None) (g tag)) is)) (sym zero) refl refl
        (opened_here h tag s i op m l k q v (g tag) (Some l) fr hr fw hw ndr drs task by_this refl
        (here_as h tag (with_tag f g tag) None (g tag) (g tag) b 0 fr fr hr fw fw hw ndr drs task (ap (with_tag f g) (sym same) ∙ free) refl zero refl refl inv))
    by_tag false is =
        here_as h tag (with_tag f g tag) _ (g tag) _ b b _ _ hr _ _ hw ndr drs task
        (sym (with_tag_opened f g l tag (opened s i op k t) quiet ∙ cond-false (t == tag) (Some (opened s i op k t)) (with_tag f g tag) is))
        (sym (ap (λ c. option_or (cond c (Some l) None) (g tag)) is)) refl refl refl
        (sent_others h tag (with_tag f g tag) (g tag) b fr hr fw hw ndr drs task (if_there q m) (if_there v m)
        (count_none (has_tag tag) q m (by.tagged tag ∙ is)) (count_none (is_write_of tag) v m (by.writes tag ∙ ap (λ c. v && c) is ∙ and_no v)) inv)
