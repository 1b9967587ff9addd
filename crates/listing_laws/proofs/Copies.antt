-- The copy of a line after an event of its host, by the event's row.
use Rattle.std.proofs.Common.{◌≡◌, ℕ, Bool, true, false, List, Option, Some, None, cond, refl, sym, ◌∙◌, ap, subst, arith, ◌⊎◌, inl, inr}
use Rattle.std.specs.Prelude.{nat_le, ◌==◌}
use Rattle.std.proofs.lemmas.Bool.{cond-false, eqb-true}
use Rattle.std.proofs.lemmas.Bool.Decides.{nat_tests}
use Rattle.cxl_message.specs.declared.events.Cause.{Cause}
use Rattle.cxl_message.specs.declared.events.Commit.{Commit}
use Rattle.cxl_message.specs.declared.events.Event.{Event}
use Rattle.cxl_message.specs.declared.events.Op.{Op}
use Rattle.cxl_message.specs.declared.events.Sends.{Sends}
use Rattle.cxl_message.specs.declared.identifiers.Bytes64.{Bytes64}
use Rattle.cxl_message.specs.declared.messages.Message.{Message}
use Rattle.cxl_message.specs.declared.opcodes.Meta.{Meta}
use Rattle.cxl_message.specs.declared.opcodes.ReqOp.{ReqOp}
use Rattle.cxl_message.specs.declared.opcodes.SnpType.{SnpType}
use Rattle.cxl_message.specs.Codes.{copy_code}
use Rattle.cxl_message.specs.Events.{is_load, line_of}
use Rattle.cxl_message.specs.Messages.{line_in}
use Rattle.cxl_message.specs.Setup.{Configuration}
use Rattle.coherence_model.specs.Cache.{Cache, cache, copy, dropped_line, is_modified, is_valid, is_writable, needs_victim, pushed_out, victim_way, ways, without_dropped}
use Rattle.coherence_model.specs.Copies.{Copy, copy_after, evicts, keeps_shared, modified, no_copy, shared}
use Rattle.coherence_model.specs.Emission.{Emission}
use Rattle.cxl_message.specs.Stores.{line_after}
use Rattle.coherence_model.specs.HostOperations.{eviction_message, hits, request_message}
use Rattle.coherence_model.specs.Words.{one_if}
use Rattle.coherence_lemmas.proofs.HostOperations.{Hit}
use Rattle.request_laws.proofs.HostOperations.{request_opens}

-- 1 where a copy is valid, and where it is writable
abbrev pub valid_count : Copy → ℕ
valid_count c = one_if (is_valid c)

-- 1 where the copy is exclusive or modified
abbrev pub writable_count : Copy → ℕ
writable_count c = one_if (nat_le 2 (copy_code c.state))

-- the copy of line a after a cause of its host
abbrev pub copy_next : Configuration → Cause → Sends → Option Commit → List Event → ℕ → Copy
copy_next setup cause sends commit own a = copy_after a cause sends commit own ((without_dropped (dropped_line setup cause sends own (ways setup own)) (cache setup own)).copies a)

-- both cases are the same
either_same : {A : Type 0} (b : Bool) (x : A) → cond b x x ≡ x
either_same true x = refl
either_same false x = refl

-- ---- an operation that hits

-- the copy after a store
stored : (setup : Configuration) (s i : ℕ) (op : Op) (own : List Event) (value : Bytes64) (a : ℕ)
    → (copy_next setup (Cause.Op s i op) Sends.Nothing (Some (record { stream = s; index = i; op = op; value = value })) own a ≡ copy setup a own)
    ⊎ ((line_of op ≡ a) × (is_load op ≡ false) × (copy_next setup (Cause.Op s i op) Sends.Nothing (Some (record { stream = s; index = i; op = op; value = value })) own a ≡ modified value))
stored setup s i (Op.Load line) own value a = inl (either_same (line.0 == a) (copy setup a own))
stored setup s i (Op.Word line place word) own value a = by (line.0 == a) refl
  where
    by : (here : Bool) → (line.0 == a) ≡ here → (cond here (modified value) (copy setup a own) ≡ copy setup a own) ⊎ ((line.0 ≡ a) × (false ≡ false) × (cond here (modified value) (copy setup a own) ≡ modified value))
    by true is = inr (eqb-true line.0 a is, refl, refl)
    by false is = inl refl
stored setup s i (Op.Whole line bytes) own value a = by (line.0 == a) refl
  where
    by : (here : Bool) → (line.0 == a) ≡ here → (cond here (modified value) (copy setup a own) ≡ copy setup a own) ⊎ ((line.0 ≡ a) × (false ≡ false) × (cond here (modified value) (copy setup a own) ≡ modified value))
    by true is = inr (eqb-true line.0 a is, refl, refl)
    by false is = inl refl

-- what a hit leaves of the copy of line a: itself, or a modified one where it stores there
abbrev pub AfterHit : Configuration → Op → List Event → ℕ → Copy → Type 0
AfterHit setup op own a later =
    (later ≡ copy setup a own) ⊎ ((line_of op ≡ a) × (is_load op ≡ false) × (later ≡ modified (line_after op (copy setup (line_of op) own).bytes)))

-- the copy after a hit: as before, or modified with the stored bytes
pub hit_copy : (setup : Configuration) (s i : ℕ) (op : Op) (own : List Event) (w : Emission) (sends : Sends) (commit : Option Commit) (a : ℕ) → Hit setup s i op own w
    → sends ≡ w.sends → commit ≡ w.commit → AfterHit setup op own a (copy_next setup (Cause.Op s i op) sends commit own a)
hit_copy setup s i op own w sends commit a hit sent committed =
    subst (λ x. AfterHit setup op own a (copy_next setup (Cause.Op s i op) x commit own a)) (sym (sent ∙ ap (λ (y : Emission). y.sends) hit.emits))
    (subst (λ x. AfterHit setup op own a (copy_next setup (Cause.Op s i op) Sends.Nothing x own a)) (sym (committed ∙ ap (λ (y : Emission). y.commit) hit.emits))
    (stored setup s i op own (line_after op (copy setup (line_of op) own).bytes) a))

-- a store hits a writable copy
pub store_hits : (setup : Configuration) (op : Op) (own : List Event) → is_load op ≡ false → hits setup op own ≡ true → is_writable setup (line_of op) own ≡ true
store_hits setup op own store hit = sym (cond-false (is_load op) _ _ store) ∙ hit

-- what isn't at least 1 isn't at least 2
low : (n : ℕ) → nat_le 1 n ≡ false → nat_le 2 n ≡ false
low n h = grind (arith, nat_tests)

-- where an operation misses, the copy isn't writable
pub missed_unwritable : (setup : Configuration) (op : Op) (own : List Event) → hits setup op own ≡ false → is_writable setup (line_of op) own ≡ false
missed_unwritable setup (Op.Load line) own miss = low (copy_code (copy setup line.0 own).state) miss
missed_unwritable setup (Op.Word line place word) own miss = miss
missed_unwritable setup (Op.Whole line bytes) own miss = miss

-- ---- an operation that misses

-- the line that a request pushes out is the victim, where one is needed
pushed : (setup : Configuration) (l : ℕ) (own : List Event) (line : Option ℕ) → line ≡ Some l → pushed_out setup line own (ways setup own) ≡ cond (needs_victim setup l own) (victim_way setup own) None
pushed setup l own line is = ap (λ x. pushed_out setup x own (ways setup own)) is

-- the line that a request alone drops
dropped : (setup : Configuration) (s i h : ℕ) (op : Op) (t : ℕ) (own : List Event) (d : Option ℕ) → cond (needs_victim setup (line_of op) own) (victim_way setup own) None ≡ d
    → dropped_line setup (Cause.Op s i op) (Sends.One (record { host = h; message = request_message op t })) own (ways setup own) ≡ d
dropped setup s i h op t own d is = pushed setup (line_of op) own (line_in (request_message op t)) (request_opens op t).line ∙ is

-- a copy where a line is dropped
abbrev pub without_line : Option ℕ → ℕ → Copy → Copy
without_line None a c = c
without_line (Some v) a c = cond (a == v) no_copy c

-- the copies without the dropped line
undropped : (d : Option ℕ) (C : Cache) (a : ℕ) → (without_dropped d C).copies a ≡ without_line d a (C.copies a)
undropped None C a = refl
undropped (Some v) C a = refl

-- the copy after a miss that sends a request only: as before, but for the victim that it drops
pub alone_copy : (setup : Configuration) (s i h : ℕ) (op : Op) (t : ℕ) (own : List Event) (w : Emission) (sends : Sends) (commit : Option Commit) (d : Option ℕ) (a : ℕ)
    → sends ≡ Sends.One (record { host = h; message = request_message op t }) → commit ≡ None → cond (needs_victim setup (line_of op) own) (victim_way setup own) None ≡ d
    → copy_next setup (Cause.Op s i op) sends commit own a ≡ without_line d a (copy setup a own)
alone_copy setup s i h op t own w sends commit d a sent uncommitted is =
    ap (λ x. copy_next setup (Cause.Op s i op) x commit own a) sent ∙ ap (λ x. copy_next setup (Cause.Op s i op) (Sends.One (record { host = h; message = request_message op t })) x own a) uncommitted
    ∙ ap (λ x. (without_dropped x (cache setup own)).copies a) (dropped setup s i h op t own d is) ∙ undropped d (cache setup own) a

-- the message of an eviction gives up its line
evicts_by : (b : Bool) (a v t : ℕ) (bytes : Bytes64)
    → evicts a (cond b (Message.MemWr Meta.Invalid SnpType.NoOp (record { 0 = t }) (record { 0 = v }) bytes) (Message.Req ReqOp.MemClnEvct Meta.Invalid SnpType.NoOp (record { 0 = t }) (record { 0 = v }))) ≡ (v == a)
evicts_by true a v t bytes = refl
evicts_by false a v t bytes = refl

-- the copy after a miss that sends an eviction too: none for the victim, else as before
pub evicting_copy : (setup : Configuration) (s i h : ℕ) (op : Op) (v t u : ℕ) (own : List Event) (sends : Sends) (commit : Option Commit) (a : ℕ)
    → sends ≡ Sends.Two (record { host = h; message = eviction_message setup v own t }) (record { host = h; message = request_message op u }) → commit ≡ None
    → copy_next setup (Cause.Op s i op) sends commit own a ≡ cond (v == a) no_copy (copy setup a own)
evicting_copy setup s i h op v t u own sends commit a sent uncommitted =
    ap (λ x. copy_next setup (Cause.Op s i op) x commit own a) sent
    ∙ ap (λ x. copy_next setup (Cause.Op s i op) (Sends.Two (record { host = h; message = eviction_message setup v own t }) (record { host = h; message = request_message op u })) x own a) uncommitted
    ∙ ap (λ b. cond b no_copy (copy setup a own)) (evicts_by (is_modified setup v own) a v t (copy setup v own).bytes)

-- ---- acts

-- the copy that an answer or a write-back leaves
pub response_unwritable : (m : Message) (c : Copy) → writable_count (cond (keeps_shared m) (shared c) no_copy) ≡ 0
response_unwritable m c = by (keeps_shared m)
  where
    by : (b : Bool) → writable_count (cond b (shared c) no_copy) ≡ 0
    by true = refl
    by false = refl

-- after a response a copy stays where the response keeps a shared one
pub response_valid : (m : Message) (c : Copy) → valid_count (cond (keeps_shared m) (shared c) no_copy) ≡ one_if (keeps_shared m)
response_valid m c = by (keeps_shared m)
  where
    by : (b : Bool) → valid_count (cond b (shared c) no_copy) ≡ one_if b
    by true = refl
    by false = refl
