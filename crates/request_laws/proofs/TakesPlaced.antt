-- What a host's take leaves of the places of a tag.
use Rattle.std.proofs.Common.{◌≡◌, ℕ, ◌+◌, ◌≤◌, Bool, true, false, List, Option, Some, None, cond, count_by, refl, sym, ◌∙◌, ap, subst, arith}
use Rattle.std.specs.Prelude.{not, option_and_then, ◌&&◌, ◌==◌, ◌||◌}
use Rattle.std.specs.Option.{option_map_or}
use Rattle.std.proofs.lemmas.Bool.{cond-false, cond-true}
use Rattle.std.proofs.lemmas.Bool.Decides.{nat_tests}
use Rattle.std.proofs.lemmas.Option.{none-some}
use Rattle.cxl_message.specs.declared.identifiers.Bytes64.{Bytes64}
use Rattle.cxl_message.specs.declared.messages.Message.{Message}
use Rattle.cxl_message.specs.declared.opcodes.NdrOp.{NdrOp}
use Rattle.cxl_message.specs.Messages.{has_tag}
use Rattle.coherence_model.specs.RequestFacts.{grants, is_ndr_with, is_request_with, is_task_of}
use Rattle.coherence_model.specs.Tasks.{Task}
use Rattle.coherence_model.specs.Transactions.{Transaction, open_after_completion, open_after_data, open_after_take}
use Rattle.coherence_model.specs.WriteBacks.{completes}
use Rattle.coherence_model.specs.OwnerFacts.{purpose_fits}
use Rattle.request_laws.proofs.Balances.{Balanced, balance_completed, balance_data, balance_granted}
use Rattle.request_laws.proofs.Each.{each_of_none, each_weaker}
use Rattle.request_laws.proofs.OpenLines.{after_take, take_keeps}
use Rattle.request_laws.proofs.Places.{FitsRequest, FitsTask, Here, OwnRequest, OwnWrite, is_write_of, task_at}

-- nothing open has the tag of a message for something else
after_other : (op : NdrOp) (tag t : ℕ) (o : Option Transaction) → ((x : Transaction) → o ≡ Some x → x.tag ≡ t) → (tag == t) ≡ false → option_and_then (open_after_take (Message.Ndr op (record { 0 = tag }))) o ≡ o
after_other op tag t None named other = refl
after_other op tag t (Some x) named other = cond-false (tag == x.tag) (open_after_completion op x) (Some x) (ap (λ n. tag == n) (named x refl) ∙ other)

after_same : (op : NdrOp) (tag t : ℕ) (x : Transaction) → x.tag ≡ t → (tag == t) ≡ true → open_after_take (Message.Ndr op (record { 0 = tag })) x ≡ open_after_completion op x
after_same op tag t x named same = cond-true (tag == x.tag) (open_after_completion op x) (Some x) (ap (λ n. tag == n) named ∙ same)

-- an NDR message with the tag
ndr_here : (op : NdrOp) (o : Option Transaction) (b r w nc ng d k nc' ng' : ℕ) → b ≤ 1 → nc ≡ cond (completes op) 1 0 + nc' → ng ≡ cond (grants op) 1 0 + ng'
    → Balanced o b r w nc ng d k → Balanced (option_and_then (open_after_completion op) o) (cond (completes op) 0 b) r w nc' ng' d k
ndr_here NdrOp.Cmp None b r w nc ng d k nc' ng' few cs gs h = omega arith
ndr_here NdrOp.Cmp (Some o) b r w nc ng d k nc' ng' few cs gs h =
    let g : ng ≡ ng' = omega arith in
    balance_completed o b r w nc' ng' d k (subst (λ x. Balanced (Some o) b r w (1 + nc') x d k) g (subst (λ x. Balanced (Some o) b r w x ng d k) cs h))
ndr_here NdrOp.CmpS None b r w nc ng d k nc' ng' few cs gs h = absurd (omega arith)
ndr_here NdrOp.CmpS (Some o) b r w nc ng d k nc' ng' few cs gs h =
    let c : nc ≡ nc' = omega arith in
    balance_granted NdrOp.CmpS o b r w nc' ng' d k (subst (λ x. Balanced (Some o) b r w nc' x d k) gs (subst (λ x. Balanced (Some o) b r w x ng d k) c h))
ndr_here NdrOp.CmpE None b r w nc ng d k nc' ng' few cs gs h = absurd (omega arith)
ndr_here NdrOp.CmpE (Some o) b r w nc ng d k nc' ng' few cs gs h =
    let c : nc ≡ nc' = omega arith in
    balance_granted NdrOp.CmpE o b r w nc' ng' d k (subst (λ x. Balanced (Some o) b r w nc' x d k) gs (subst (λ x. Balanced (Some o) b r w x ng d k) c h))
ndr_here NdrOp.ConflictAck None b r w nc ng d k nc' ng' few cs gs h = omega arith
ndr_here NdrOp.ConflictAck (Some o) b r w nc ng d k nc' ng' few cs gs h =
    let c : nc ≡ nc' = omega arith in
    let g : ng ≡ ng' = omega arith in
    subst (λ x. Balanced (Some o) b r w nc' x d k) g (subst (λ x. Balanced (Some o) b r w x ng d k) c h)

after_all : (op : NdrOp) (tag t : ℕ) (o : Option Transaction) → ((x : Transaction) → o ≡ Some x → x.tag ≡ t) → (tag == t) ≡ true
    → option_and_then (open_after_take (Message.Ndr op (record { 0 = tag }))) o ≡ option_and_then (open_after_completion op) o
after_all op tag t None named same = refl
after_all op tag t (Some x) named same = after_same op tag t x (named x refl) same

pub ndr_balance : (op : NdrOp) (tag t : ℕ) (o : Option Transaction) → ((x : Transaction) → o ≡ Some x → x.tag ≡ t) → (b r w nc ng d k nc' ng' : ℕ) (same : Bool) → (tag == t) ≡ same → b ≤ 1
    → nc ≡ cond (completes op && same) 1 0 + nc' → ng ≡ cond (grants op && same) 1 0 + ng' → Balanced o b r w nc ng d k
    → Balanced (option_and_then (open_after_take (Message.Ndr op (record { 0 = tag }))) o) (cond (completes op && same) 0 b) r w nc' ng' d k
ndr_balance op tag t o named b r w nc ng d k nc' ng' true is few cs gs h =
    let and_true : (x : Bool) → (x && true) ≡ x = and_is in
    subst (λ x. Balanced x (cond (completes op && true) 0 b) r w nc' ng' d k) (sym (after_all op tag t o named is))
    (subst (λ x. Balanced (option_and_then (open_after_completion op) o) (cond x 0 b) r w nc' ng' d k) (sym (and_is (completes op)))
    (ndr_here op o b r w nc ng d k nc' ng' few (cs ∙ ap (λ x. cond x 1 0 + nc') (and_is (completes op))) (gs ∙ ap (λ x. cond x 1 0 + ng') (and_is (grants op))) h))
  where
    and_is : (x : Bool) → (x && true) ≡ x
    and_is true = refl
    and_is false = refl
ndr_balance op tag t o named b r w nc ng d k nc' ng' false is few cs gs h =
    subst (λ x. Balanced x (cond (completes op && false) 0 b) r w nc' ng' d k) (sym (after_other op tag t o named is))
    (subst (λ x. Balanced o (cond x 0 b) r w nc' ng' d k) (sym (and_no (completes op)))
    (subst (λ x. Balanced o b r w nc' x d k) (none ng ng' (grants op) gs) (subst (λ x. Balanced o b r w x ng d k) (none nc nc' (completes op) cs) h)))
  where
    and_no : (x : Bool) → (x && false) ≡ false
    and_no true = refl
    and_no false = refl

    none : (n n' : ℕ) (x : Bool) → n ≡ cond (x && false) 1 0 + n' → n ≡ n'
    none n n' true e = omega arith
    none n n' false e = omega arith

-- MemData with the tag
data_other : (bytes : Bytes64) (tag t : ℕ) (o : Option Transaction) → ((x : Transaction) → o ≡ Some x → x.tag ≡ t) → (tag == t) ≡ false → option_and_then (open_after_take (Message.MemData (record { 0 = tag }) bytes)) o ≡ o
data_other bytes tag t None named other = refl
data_other bytes tag t (Some x) named other = cond-false (tag == x.tag) (open_after_data bytes x) (Some x) (ap (λ n. tag == n) (named x refl) ∙ other)

data_same : (bytes : Bytes64) (tag t : ℕ) (o : Option Transaction) → ((x : Transaction) → o ≡ Some x → x.tag ≡ t) → (tag == t) ≡ true
    → option_and_then (open_after_take (Message.MemData (record { 0 = tag }) bytes)) o ≡ option_and_then (open_after_data bytes) o
data_same bytes tag t None named same = refl
data_same bytes tag t (Some x) named same = cond-true (tag == x.tag) (open_after_data bytes x) (Some x) (ap (λ n. tag == n) (named x refl) ∙ same)

data_here : (bytes : Bytes64) (o : Option Transaction) (b r w nc ng d k : ℕ) → Balanced o b r w nc ng (1 + d) k → Balanced (option_and_then (open_after_data bytes) o) b r w nc ng d k
data_here bytes None b r w nc ng d k h = absurd (omega arith)
data_here bytes (Some o) b r w nc ng d k h = balance_data bytes o b r w nc ng d k h

pub data_balance : (bytes : Bytes64) (tag t : ℕ) (o : Option Transaction) → ((x : Transaction) → o ≡ Some x → x.tag ≡ t) → (b r w nc ng d k d' : ℕ) (same : Bool) → (tag == t) ≡ same
    → d ≡ cond same 1 0 + d' → Balanced o b r w nc ng d k
    → Balanced (option_and_then (open_after_take (Message.MemData (record { 0 = tag }) bytes)) o) b r w nc ng d' k
data_balance bytes tag t o named b r w nc ng d k d' true is ds h =
    subst (λ x. Balanced x b r w nc ng d' k) (sym (data_same bytes tag t o named is)) (data_here bytes o b r w nc ng d' k (subst (λ x. Balanced o b r w nc ng x k) ds h))
data_balance bytes tag t o named b r w nc ng d k d' false is ds h =
    let same : d ≡ d' = omega arith in
    subst (λ x. Balanced x b r w nc ng d' k) (sym (data_other bytes tag t o named is)) (subst (λ x. Balanced o b r w nc ng x k) same h)

-- the write-back tag after an NDR message
pub write_back_after : (c : Bool) (tag t tags : ℕ) (writing : Bool)
    → ◌≡◌ {A = ℕ} (cond ((t == tags) && (not (c && (tag == tags)) && (false || writing))) 1 0) (cond (c && (tag == t)) 0 (cond ((t == tags) && writing) 1 0))
write_back_after false tag t tags writing = refl
write_back_after true tag t tags true = grind (arith, nat_tests)
write_back_after true tag t tags false = grind (arith, nat_tests)

-- a request that was taken over keeps its kind
pub request_kept : (tag : ℕ) (o o' : Option Transaction) (a : Option ℕ) (x x' : Transaction) → o ≡ Some x → o' ≡ Some x' → x'.kind ≡ x.kind → (m : Message) → OwnRequest tag o a m → OwnRequest tag o' a m
request_kept tag o o' a x x' is is' kind m own tagged =
    let fits = own tagged in
    let same : fits.x ≡ x = some_same fits.x x (sym fits.there ∙ is) in
    record { x = x'; there = is'; l = fits.l; at_line = fits.at_line; is = ap (λ k. is_request_with k fits.l tag m) (kind ∙ ap (λ (y : Transaction). y.kind) (sym same)) ∙ fits.is }
  where
    some_same : (y z : Transaction) → ◌≡◌ {A = Option Transaction} (Some y) (Some z) → y ≡ z
    some_same y z e = cc

pub task_kept : (o o' : Option Transaction) (a : Option ℕ) (x x' : Transaction) → o ≡ Some x → o' ≡ Some x' → x'.kind ≡ x.kind → (l : ℕ) (t : Task) → FitsTask o a l t → FitsTask o' a l t
task_kept o o' a x x' is is' kind l t fits =
    record { x = x'; there = is'; at_line = fits.at_line; purpose = ap (purpose_fits t.purpose) (kind ∙ ap (λ (y : Transaction). y.kind) (sym (some_same fits.x x (sym fits.there ∙ is)))) ∙ fits.purpose }
  where
    some_same : (y z : Transaction) → ◌≡◌ {A = Option Transaction} (Some y) (Some z) → y ≡ z
    some_same y z e = cc

-- nothing is open any more: nothing is under way
pub both_none : (n m : ℕ) → n + m ≡ 0 → (n ≡ 0) × (m ≡ 0)
both_none n m h = (omega arith, omega arith)

pub no_task : (h tag : ℕ) (task : ℕ → Option Task) (a : Option ℕ) (l : ℕ) (t : Task) → task_at h tag task a ≡ 0 → a ≡ Some l → task l ≡ Some t → is_task_of h tag t ≡ true → ⊥
no_task h tag task a l t none at_line there is =
    let one : task_at h tag task a ≡ 1 =
    ap (task_at h tag task) at_line ∙ ap {B = ℕ} (λ x. cond (option_map_or (is_task_of h tag) x false) 1 0) there ∙ ap {B = ℕ} (λ b. cond b 1 0) is in
    omega arith

-- what a take leaves, by what stays open
left_by_take :
    (h tag : ℕ) (m : Message) (o : Option Transaction) (a : Option ℕ) (b b' : ℕ) (fr hr fw hw ndr drs ndr' drs' : List Message) (task : ℕ → Option Task) (o' : Option Transaction)
    → option_and_then (open_after_take m) o ≡ o'
    → Here h tag o a b fr hr fw hw ndr drs task
    → Balanced o' b' (count_by (has_tag tag) fr + count_by (has_tag tag) hr) (count_by (is_write_of tag) fw + count_by (is_write_of tag) hw)
    (count_by (is_ndr_with completes tag) ndr') (count_by (is_ndr_with grants tag) ndr') (count_by (has_tag tag) drs') (task_at h tag task a)
    → Here h tag o' a b' fr hr fw hw ndr' drs' task
left_by_take h tag m o a b b' fr hr fw hw ndr drs ndr' drs' task None is inv balanced =
    let none = both_none (count_by (has_tag tag) fr) (count_by (has_tag tag) hr) balanced.0 in
    record {
      balanced = balanced;
      flying_requests = each_of_none (FitsRequest tag None a) (has_tag tag) fr none.0;
      held_requests = each_of_none (FitsRequest tag None a) (has_tag tag) hr none.1;
      flying_writes = each_weaker (OwnWrite tag o a) (OwnWrite tag None a) (λ n own tagged x there. absurd (none-some x there)) fw inv.flying_writes;
      held_writes = each_weaker (OwnWrite tag o a) (OwnWrite tag None a) (λ n own tagged x there. absurd (none-some x there)) hw inv.held_writes;
      tasks = λ l t there its. absurd (no_task h tag task a l t balanced.4 (inv.tasks l t there its).at_line there its);
    }
left_by_take h tag m o a b b' fr hr fw hw ndr drs ndr' drs' task (Some p) is inv balanced =
    let was = after_take m o p is in
    let kept = take_keeps m was.0 p was.2 in
    record {
      balanced = balanced;
      flying_requests = each_weaker (OwnRequest tag o a) (OwnRequest tag (Some p) a) (request_kept tag o (Some p) a was.0 p was.1 refl kept.kind) fr inv.flying_requests;
      held_requests = each_weaker (OwnRequest tag o a) (OwnRequest tag (Some p) a) (request_kept tag o (Some p) a was.0 p was.1 refl kept.kind) hr inv.held_requests;
      flying_writes = each_weaker (OwnWrite tag o a) (OwnWrite tag (Some p) a) (λ n own tagged x there. own tagged was.0 was.1) fw inv.flying_writes;
      held_writes = each_weaker (OwnWrite tag o a) (OwnWrite tag (Some p) a) (λ n own tagged x there. own tagged was.0 was.1) hw inv.held_writes;
      tasks = λ l t there its. task_kept o (Some p) a was.0 p was.1 refl kept.kind l t (inv.tasks l t there its);
    }

pub take_places :
    (h tag : ℕ) (m : Message) (o : Option Transaction) (a : Option ℕ) (b b' : ℕ) (fr hr fw hw ndr drs ndr' drs' : List Message) (task : ℕ → Option Task)
    → Here h tag o a b fr hr fw hw ndr drs task
    → Balanced (option_and_then (open_after_take m) o) b' (count_by (has_tag tag) fr + count_by (has_tag tag) hr) (count_by (is_write_of tag) fw + count_by (is_write_of tag) hw)
    (count_by (is_ndr_with completes tag) ndr') (count_by (is_ndr_with grants tag) ndr') (count_by (has_tag tag) drs') (task_at h tag task a)
    → Here h tag (option_and_then (open_after_take m) o) a b' fr hr fw hw ndr' drs' task
take_places h tag m o a b b' fr hr fw hw ndr drs ndr' drs' task inv balanced =
    left_by_take h tag m o a b b' fr hr fw hw ndr drs ndr' drs' task (option_and_then (open_after_take m) o) refl inv balanced
