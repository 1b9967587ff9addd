-- What is sent, operations and commits are the same where their tests say so.
use Rattle.std.proofs.Common.{◌≡◌, ℕ, IsTrue, List, Option, Some, None, cond, drop, get_or, refl, sym, ◌∙◌, ap, subst}
use Rattle.std.specs.Prelude.{nat_eq}
use Rattle.std.specs.Option.{option_eq}
use Rattle.std.proofs.lemmas.Bool.{and_from, and_parts, eq-eqb, eqb-true, false≢true}
use Rattle.cxl_message.specs.declared.events.Commit.{Commit}
use Rattle.cxl_message.specs.declared.events.Op.{Op}
use Rattle.cxl_message.specs.declared.events.Out.{Out}
use Rattle.cxl_message.specs.declared.events.Sends.{Sends}
use Rattle.cxl_message.specs.Events.{commit_eq, op_eq, op_key, out_eq, sends_eq}
use Rattle.cxl_message.proofs.SameNames.{bytes_eq-same, pointwise-same, same-bytes_eq, same-pointwise}
use Rattle.cxl_message.proofs.SameMessages.{message_eq-same, same-message_eq}

-- the operation with a kind and fields
abbrev op_from_fields : ℕ → List ℕ → Op
op_from_fields k fs =
    cond (nat_eq k 1) (Op.Load (record { 0 = get_or fs 0 0 }))
    (cond (nat_eq k 2) (Op.Word (record { 0 = get_or fs 0 0 }) (get_or fs 1 0) (get_or fs 2 0))
    (Op.Whole (record { 0 = get_or fs 0 0 }) (record { 0 = drop 1 fs })))

abbrev op_from_key : List ℕ → Op
op_from_key key = op_from_fields (get_or key 0 0) (drop 1 key)

-- an operation comes back from its key
pub op-back : (x : Op) → op_from_key (op_key x) ≡ x
op-back (Op.Load line) = refl
op-back (Op.Word line place value) = refl
op-back (Op.Whole line bytes) = refl

pub op_eq-same : (x y : Op) → IsTrue (op_eq x y) → x ≡ y
op_eq-same x y h = sym (op-back x) ∙ ap op_from_key (pointwise-same (op_key x) (op_key y) h) ∙ op-back y

pub same-op_eq : (x y : Op) → x ≡ y → IsTrue (op_eq x y)
same-op_eq x y h = same-pointwise (op_key x) (op_key y) (ap op_key h)

-- sent messages are the same where their hosts and messages are
pub out_eq-same : (o p : Out) → IsTrue (out_eq o p) → o ≡ p
out_eq-same o p h =
    let parts = and_parts _ _ h in
    ap {B = Out} (λ host. record { host = host; message = o.message }) (eqb-true o.host p.host parts.0)
    ∙ ap {B = Out} (λ message. record { host = p.host; message = message }) (message_eq-same o.message p.message parts.1)

pub same-out_eq : (o p : Out) → o ≡ p → IsTrue (out_eq o p)
same-out_eq o p h =
    and_from _ _ (eq-eqb o.host p.host (ap (λ (q : Out). q.host) h)) (same-message_eq o.message p.message (ap (λ (q : Out). q.message) h))

pub sends_eq-same : (s t : Sends) → IsTrue (sends_eq s t) → s ≡ t
sends_eq-same Sends.Nothing Sends.Nothing h = refl
sends_eq-same Sends.Nothing (Sends.One p) h = cc
sends_eq-same Sends.Nothing (Sends.Two p q) h = cc
sends_eq-same (Sends.One o) Sends.Nothing h = cc
sends_eq-same (Sends.One o) (Sends.One p) h = ap {B = Sends} Sends.One (out_eq-same o p (and_parts _ _ h).0)
sends_eq-same (Sends.One o) (Sends.Two p q) h = absurd (false≢true (and_parts _ _ h).1)
sends_eq-same (Sends.Two n o) Sends.Nothing h = cc
sends_eq-same (Sends.Two n o) (Sends.One p) h = absurd (false≢true (and_parts _ _ h).1)
sends_eq-same (Sends.Two n o) (Sends.Two p q) h =
    let parts = and_parts _ _ h in
    let first = out_eq-same n p parts.0 in
    let second = out_eq-same o q (and_parts _ _ parts.1).0 in
    cc

pub sends_eq_self : (s : Sends) → IsTrue (sends_eq s s)
sends_eq_self Sends.Nothing = refl
sends_eq_self (Sends.One o) = and_from _ _ (same-out_eq o o refl) refl
sends_eq_self (Sends.Two o p) = and_from _ _ (same-out_eq o o refl) (and_from _ _ (same-out_eq p p refl) refl)

pub same-sends_eq : (s t : Sends) → s ≡ t → IsTrue (sends_eq s t)
same-sends_eq s t h = subst (λ x. IsTrue (sends_eq s x)) h (sends_eq_self s)

-- commits with the same parts are the same
commit_same : (c d : Commit) → c.stream ≡ d.stream → c.index ≡ d.index → c.op ≡ d.op → c.value ≡ d.value → c ≡ d
commit_same c d es ei eo ev =
    ap {B = Commit} (λ x. record { stream = x; index = c.index; op = c.op; value = c.value }) es
    ∙ ap {B = Commit} (λ x. record { stream = d.stream; index = x; op = c.op; value = c.value }) ei
    ∙ ap {B = Commit} (λ x. record { stream = d.stream; index = d.index; op = x; value = c.value }) eo
    ∙ ap {B = Commit} (λ x. record { stream = d.stream; index = d.index; op = d.op; value = x }) ev

pub commit_eq-same : (c d : Commit) → IsTrue (commit_eq c d) → c ≡ d
commit_eq-same c d h =
    let four = and_parts _ _ h in
    let three = and_parts _ _ four.0 in
    let two = and_parts _ _ three.0 in
    commit_same c d (eqb-true c.stream d.stream two.0) (eqb-true c.index d.index two.1) (op_eq-same c.op d.op three.1) (bytes_eq-same c.value d.value four.1)

pub commit_eq_self : (c : Commit) → IsTrue (commit_eq c c)
commit_eq_self c =
    and_from _ _ (and_from _ _ (and_from _ _ (eq-eqb c.stream c.stream refl) (eq-eqb c.index c.index refl)) (same-op_eq c.op c.op refl)) (same-bytes_eq c.value c.value refl)

pub same-commit_eq : (c d : Commit) → c ≡ d → IsTrue (commit_eq c d)
same-commit_eq c d h = subst (λ x. IsTrue (commit_eq c x)) h (commit_eq_self c)

-- so are two commits that may be missing
pub commits_same : (c d : Option Commit) → IsTrue (option_eq commit_eq c d) → c ≡ d
commits_same None None h = refl
commits_same None (Some d) h = cc
commits_same (Some c) None h = cc
commits_same (Some c) (Some d) h = ap {B = Option Commit} Some (commit_eq-same c d h)

pub same_commits : (c d : Option Commit) → c ≡ d → IsTrue (option_eq commit_eq c d)
same_commits None None h = refl
same_commits None (Some d) h = cc
same_commits (Some c) None h = cc
same_commits (Some c) (Some d) h = same-commit_eq c d (cc)
