-- Copies and ways after takes and acts.
use Rattle.std.proofs.Common.{Bool, List, None, Option, Some, ap, cond, false, filter, refl, sym, true, ℕ, ◌∙◌, ◌∷◌, ◌≡◌, ◌≤◌, arith}
use Rattle.std.proofs.lemmas.Bool.{and_parts, eqb-true, false≢true, or_left, or_right}
use Rattle.std.specs.Prelude.{nat_le, ◌&&◌, ◌==◌, ◌||◌}
use Rattle.cxl_message.specs.declared.events.Act.{Act}
use Rattle.cxl_message.specs.declared.events.Commit.{Commit}
use Rattle.cxl_message.specs.declared.events.Event.{Event}
use Rattle.cxl_message.specs.declared.messages.Message.{Message}
use Rattle.cxl_message.specs.declared.opcodes.NdrOp.{NdrOp}
use Rattle.cxl_message.specs.declared.opcodes.RspOp.{RspOp}
use Rattle.cxl_message.specs.declared.opcodes.SnpOp.{SnpOp}
use Rattle.cxl_message.specs.declared.states.CopyState.{CopyState}
use Rattle.cxl_message.specs.Codes.{copy_code}
use Rattle.cxl_message.specs.Events.{line_of}
use Rattle.cxl_message.specs.Lists.{is_in}
use Rattle.cxl_message.specs.Setup.{Configuration}
use Rattle.coherence_model.specs.Cache.{copy, has_copy, is_modified, is_valid, ways}
use Rattle.coherence_model.specs.Copies.{Copy, filling_grant, is_in_whole_block, is_shared_meta, keeps_shared, no_copy, shared}
use Rattle.coherence_model.specs.HostActs.{stays_shared}
use Rattle.coherence_model.specs.Tags.{tagged_line}
use Rattle.coherence_model.specs.Transactions.{Transaction, has_request, is_request, open_at}
use Rattle.request_laws.proofs.OpenLines.{LeadBack}
use Rattle.host_laws.proofs.CacheKept.{CacheKeeps, asks, either_bare, made, never_bare}
use Rattle.host_laws.proofs.CacheSteps.{copy_filled, filled_is_valid, left_by}
use Rattle.host_laws.proofs.Events.{act_event, take_event}
use Rattle.host_laws.proofs.Opens.{AnswersTag, FoundLine, open_take}
use Rattle.host_laws.proofs.WayFacts.{few_filter, in_filter}
use Rattle.host_record.specs.HostChanges.{filled_by}

-- a take that answers what is open with a tag

taken_asks :
    (setup : Configuration) (h : ℕ) (m : Message) (tag : ℕ) (step : Transaction → Option Transaction) → AnswersTag m tag step → (commit : Option Commit) (mine : List Event)
    → LeadBack setup (λ a. open_at a mine) (λ t. tagged_line t mine) → (o : Transaction) (found : FoundLine mine tag o) → (a : ℕ)
    → has_request a (take_event h m commit ∷ mine) ≡ cond (found.a == a) (asks (step o)) (has_request a mine)
taken_asks setup h m tag step answers commit mine back o found a =
    ap asks (open_take setup h m tag step answers commit mine back o found.a found.there found.tag found.tagged a) ∙ either (found.a == a) (step o) (open_at a mine)
  where
    either : (b : Bool) (x y : Option Transaction) → asks (cond b x y) ≡ cond b (asks x) (asks y)
    either true x y = refl
    either false x y = refl

same_asks : (mine : List Event) (l a : ℕ) (o : Transaction) (r : Bool) (b : Bool) → (l == a) ≡ b → open_at l mine ≡ Some o → r ≡ is_request o.kind → cond b r (has_request a mine) ≡ has_request a mine
same_asks mine l a o r true is there same = same ∙ sym (ap asks there) ∙ ap (λ k. has_request k mine) (eqb-true l a is)
same_asks mine l a o r false is there same = refl

-- it leaves the request open, or ends an eviction
pub mark_keeps :
    (setup : Configuration) (h : ℕ) (m : Message) (tag : ℕ) (step : Transaction → Option Transaction) → AnswersTag m tag step → (mine : List Event) → CacheKeeps setup mine
    → LeadBack setup (λ a. open_at a mine) (λ t. tagged_line t mine) → (o : Transaction) (found : FoundLine mine tag o) → asks (step o) ≡ is_request o.kind
    → CacheKeeps setup (take_event h m None ∷ mine)
mark_keeps setup h m tag step answers mine k back o found same =
    made setup (take_event h m None) mine (λ a. copy setup a mine) (ways setup mine) (λ a. has_request a mine)
    (record { copies = λ a. refl; lines = refl; requests = λ a. taken_asks setup h m tag step answers None mine back o found a ∙ same_asks mine found.a a o (asks (step o)) (found.a == a) refl found.there same })
    k.ways_are k.no_bytes k.few

filled_are : (f : ℕ → Copy) (g : ℕ → Bool) (l a : ℕ) (c : Copy) (here : Bool) → (l == a) ≡ here → is_valid c ≡ true → g l ≡ true → (w : Bool) → w ≡ (is_valid (f a) || g a) → w ≡ (is_valid (cond here c (f a)) || cond here false (g a))
filled_are f g l a c true is new open_one w was = was ∙ or_right (is_valid (f a)) (g a) (ap g (sym (eqb-true l a is)) ∙ open_one) ∙ sym (or_left (is_valid c) false new)
filled_are f g l a c false is new open_one w was = was

-- it fills
pub fill_keeps :
    (setup : Configuration) (h : ℕ) (m : Message) (tag : ℕ) (step : Transaction → Option Transaction) → AnswersTag m tag step → (mine : List Event) → CacheKeeps setup mine
    → LeadBack setup (λ a. open_at a mine) (λ t. tagged_line t mine) → (o : Transaction) (found : FoundLine mine tag o) → step o ≡ None → is_request o.kind ≡ true
    → (c : Commit) (grant : Option NdrOp) → line_of c.op ≡ found.a → filling_grant m (open_at (line_of c.op) mine) ≡ grant → CacheKeeps setup (take_event h m (Some c) ∷ mine)
fill_keeps setup h m tag step answers mine k back o found ends request c grant line is =
    let g : ℕ → Bool = λ a. has_request a mine in
    made setup (take_event h m (Some c)) mine (λ a. cond (line_of c.op == a) (filled_by grant c c.op) (copy setup a mine)) (ways setup mine) (λ a. cond (line_of c.op == a) false (has_request a mine))
    (record {
      copies = copy_filled h m c setup mine grant is;
      lines = refl;
      requests = λ a. taken_asks setup h m tag step answers (Some c) mine back o found a ∙ ap (λ x. cond (found.a == a) (asks x) (has_request a mine)) ends ∙ ap (λ l. cond (l == a) false (has_request a mine)) (sym line);
    })
    (λ a. filled_are (λ b. copy setup b mine) g (line_of c.op) a (filled_by grant c c.op) (line_of c.op == a) refl (filled_is_valid grant c c.op) (ap g line ∙ ap asks found.there ∙ request) _ (k.ways_are a))
    (λ a. either_bare (line_of c.op == a) (filled_by grant c c.op) (copy setup a mine) (never_bare _ (filled_is_valid grant c c.op)) (k.no_bytes a))
    k.few

-- a take that leaves everything open
pub idle_keeps : (setup : Configuration) (e : Event) (mine : List Event) → CacheKeeps setup mine → ((a : ℕ) → copy setup a (e ∷ mine) ≡ copy setup a mine) → ways setup (e ∷ mine) ≡ ways setup mine
    → ((a : ℕ) → open_at a (e ∷ mine) ≡ open_at a mine) → CacheKeeps setup (e ∷ mine)
idle_keeps setup e mine k copies lines opens =
    made setup e mine (λ a. copy setup a mine) (ways setup mine) (λ a. has_request a mine) (record { copies = copies; lines = lines; requests = λ a. ap asks (opens a) }) k.ways_are k.no_bytes k.few

-- acts that may give a copy up

wanted_are : (v v' r w : Bool) → (v' ≡ true → v ≡ true) → w ≡ (v || r) → ((v' || r) && w) ≡ (v' || r)
wanted_are v true r w less was = was ∙ or_left v r (less refl)
wanted_are v false true w less was = was ∙ or_right v true refl
wanted_are v false false w less was = refl

pub give_up_keeps :
    (setup : Configuration) (e : Event) (mine : List Event) (f : ℕ → Copy) → CacheKeeps setup mine → ((a : ℕ) → copy setup a (e ∷ mine) ≡ f a) → ways setup (e ∷ mine) ≡ filter (λ a. is_valid (f a) || has_request a mine) (ways setup mine)
    → ((a : ℕ) → open_at a (e ∷ mine) ≡ open_at a mine) → ((a : ℕ) → is_valid (f a) ≡ true → has_copy setup a mine ≡ true) → ((a : ℕ) → is_valid (f a) ≡ false → f a ≡ no_copy) → CacheKeeps setup (e ∷ mine)
give_up_keeps setup e mine f k copies lines opens less bare =
    made setup e mine f (filter (λ a. is_valid (f a) || has_request a mine) (ways setup mine)) (λ a. has_request a mine)
    (record { copies = copies; lines = lines; requests = λ a. ap asks (opens a) })
    (λ a. in_filter (λ b. is_valid (f b) || has_request b mine) a (ways setup mine) ∙ wanted_are (has_copy setup a mine) (is_valid (f a)) (has_request a mine) (is_in a (ways setup mine)) (less a) (k.ways_are a))
    bare
    (shorter (few_filter (λ a. is_valid (f a) || has_request a mine) (ways setup mine)) k.few)
  where
    shorter : {n m l : ℕ} → n ≤ m → m ≤ l → n ≤ l
    shorter p q = omega arith

-- a message for a line that keeps a shared copy stands only where there is a copy
left_less : (f : ℕ → Copy) (l a : ℕ) (m : Message) (here : Bool) → (l == a) ≡ here → (keeps_shared m ≡ true → is_valid (f l) ≡ true) → is_valid (cond here (left_by m (f a)) (f a)) ≡ true → is_valid (f a) ≡ true
left_less f l a m true is keeps valid = by (keeps_shared m) refl valid
  where
    by : (b : Bool) → keeps_shared m ≡ b → is_valid (cond b (shared (f a)) no_copy) ≡ true → is_valid (f a) ≡ true
    by true shares v = ap (λ k. is_valid (f k)) (sym (eqb-true l a is)) ∙ keeps shares
    by false shares v = absurd (false≢true v)
left_less f l a m false is keeps valid = valid

left_bare : (f : ℕ → Copy) (l a : ℕ) (m : Message) (here : Bool) → (is_valid (f a) ≡ false → f a ≡ no_copy) → is_valid (cond here (left_by m (f a)) (f a)) ≡ false → cond here (left_by m (f a)) (f a) ≡ no_copy
left_bare f l a m true bare none = by (keeps_shared m) none
  where
    by : (b : Bool) → is_valid (cond b (shared (f a)) no_copy) ≡ false → cond b (shared (f a)) no_copy ≡ no_copy
    by true v = absurd (false≢true (sym v))
    by false v = refl
left_bare f l a m false bare none = bare none

pub written_keeps : (setup : Configuration) (h l : ℕ) (m : Message) (mine : List Event) → CacheKeeps setup mine → (keeps_shared m ≡ true → has_copy setup l mine ≡ true) → CacheKeeps setup (act_event h (Act.WriteBack (record { 0 = l })) m ∷ mine)
written_keeps setup h l m mine k keeps =
    give_up_keeps setup (act_event h (Act.WriteBack (record { 0 = l })) m) mine (λ a. cond (l == a) (left_by m (copy setup a mine)) (copy setup a mine)) k (λ a. refl) refl (λ a. refl)
    (λ a. left_less (λ b. copy setup b mine) l a m (l == a) refl keeps) (λ a. left_bare (λ b. copy setup b mine) l a m (l == a) (k.no_bytes a))

pub answered_keeps : (setup : Configuration) (h l : ℕ) (m : Message) (mine : List Event) → CacheKeeps setup mine → (keeps_shared m ≡ true → has_copy setup l mine ≡ true) → CacheKeeps setup (act_event h (Act.Answer (record { 0 = l })) m ∷ mine)
answered_keeps setup h l m mine k keeps =
    give_up_keeps setup (act_event h (Act.Answer (record { 0 = l })) m) mine (λ a. cond (l == a) (left_by m (copy setup a mine)) (copy setup a mine)) k (λ a. refl) refl (λ a. refl)
    (λ a. left_less (λ b. copy setup b mine) l a m (l == a) refl keeps) (λ a. left_bare (λ b. copy setup b mine) l a m (l == a) (k.no_bytes a))

pub block_keeps : (setup : Configuration) (h l : ℕ) (m : Message) (mine : List Event) → CacheKeeps setup mine → CacheKeeps setup (act_event h (Act.AnswerBlock (record { 0 = l })) m ∷ mine)
block_keeps setup h l m mine k =
    give_up_keeps setup (act_event h (Act.AnswerBlock (record { 0 = l })) m) mine (λ a. cond (is_in_whole_block l a mine) no_copy (copy setup a mine)) k (λ a. refl) refl (λ a. refl)
    (λ a. less (is_in_whole_block l a mine) (copy setup a mine)) (λ a. either_bare (is_in_whole_block l a mine) no_copy (copy setup a mine) (λ x. refl) (k.no_bytes a))
  where
    less : (b : Bool) (c : Copy) → is_valid (cond b no_copy c) ≡ true → is_valid c ≡ true
    less true c v = absurd (false≢true v)
    less false c v = v

-- the messages that keep a shared copy

pub answer_keeps_shared : (setup : Configuration) (op : SnpOp) (a : ℕ) (mine : List Event) (b : Bool) → stays_shared setup op a mine ≡ b → Rattle.coherence_model.specs.Copies.is_shared_response (cond b RspOp.S RspOp.I) ≡ true → has_copy setup a mine ≡ true
answer_keeps_shared setup op a mine true is keeps = (and_parts _ _ is).1
answer_keeps_shared setup op a mine false is keeps = absurd (false≢true keeps)

pub modified_is_valid : (setup : Configuration) (a : ℕ) (mine : List Event) → is_modified setup a mine ≡ true → has_copy setup a mine ≡ true
modified_is_valid setup a mine is = by (copy setup a mine).state is
  where
    by : (s : CopyState) → (copy_code s == 3) ≡ true → nat_le 1 (copy_code s) ≡ true
    by CopyState.I h = absurd (false≢true h)
    by CopyState.S h = refl
    by CopyState.E h = refl
    by CopyState.M h = refl
