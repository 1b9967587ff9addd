-- What is open, by tag and by line, and which lines are busy, after operations and after answers with a tag.
use Rattle.std.proofs.Common.{Bool, List, None, Option, Some, ap, cond, false, map, refl, subst, sym, true, ℕ, ◌<◌, ◌∙◌, ◌∷◌, ◌≡◌}
use Rattle.std.proofs.lemmas.Bool.{eqb-true}
use Rattle.std.specs.Option.{option_map_or, option_or}
use Rattle.std.specs.Prelude.{is_some, not, option_and_then, option_map, slice_set, ◌&&◌, ◌==◌, ◌||◌}
use Rattle.cxl_message.specs.declared.events.Commit.{Commit}
use Rattle.cxl_message.specs.declared.events.Event.{Event}
use Rattle.cxl_message.specs.declared.events.Op.{Op}
use Rattle.cxl_message.specs.declared.identifiers.Bytes64.{Bytes64}
use Rattle.cxl_message.specs.declared.messages.Message.{Message}
use Rattle.cxl_message.specs.Events.{line_of}
use Rattle.cxl_message.specs.Lists.{below}
use Rattle.cxl_message.specs.Setup.{Configuration}
use Rattle.coherence_model.specs.Cache.{copy, is_modified}
use Rattle.coherence_model.specs.HostOperations.{eviction_message, request_message}
use Rattle.coherence_model.specs.Snoops.{buffered_snoops, is_quiet, is_snooped}
use Rattle.coherence_model.specs.Tags.{is_conflict_open, is_conflict_with, open_with, tagged_line}
use Rattle.coherence_model.specs.Transactions.{Transaction, is_open, open_at, opened}
use Rattle.request_laws.proofs.HostOperations.{eviction_with, kind_of, request_opens}
use Rattle.request_laws.proofs.OpenLines.{victim_opens}
use Rattle.host_laws.proofs.Events.{evicting_event, request_event, take_event}
use Rattle.host_laws.proofs.Keeps.{Keeps}
use Rattle.host_laws.proofs.Opens.{AnswersTag, FoundLine, evicted, open_take, request_open, request_tagged, request_with, take_with, two_open_at, two_tagged_line, two_with}
use Rattle.host_laws.proofs.StageSteps.{busy_of, tag_line_is}
use Rattle.host_laws.proofs.TableLemmas.{of_either, set_where, stays}
use Rattle.host_record.specs.HostChanges.{opened_by}
use Rattle.host_record.specs.Stands.{kept_host}
use Rattle.host_record.specs.Tables.{lookup, set_at}
use Rattle.host_record.specs.ViewRows.{snoop_of_line}

-- the tables
abbrev pub opened_of : Configuration → List Event → List (Option Transaction)
opened_of setup mine = map (λ t. open_with t mine) (below setup.tags)

abbrev pub tag_lines_of : Configuration → List Event → List (Option ℕ)
tag_lines_of setup mine = map (λ t. tagged_line t mine) (below setup.tags)

abbrev pub tag_at : ℕ → List Event → Option ℕ
tag_at a mine = option_map (λ (o : Transaction). o.tag) (open_at a mine)

abbrev pub line_tags_of : Configuration → List Event → List (Option ℕ)
line_tags_of setup mine = map (λ a. tag_at a mine) (below setup.lines)

-- what a message opens, by the record's words
pub request_opened : (s i : ℕ) (op : Op) (tag : ℕ) → opened_by s i op (request_message op tag) ≡ Some (record { line = line_of op; tag = tag; what = opened s i op (kind_of op) tag })
request_opened s i (Op.Load line) tag = refl
request_opened s i (Op.Word line place value) tag = refl
request_opened s i (Op.Whole line bytes) tag = refl

eviction_opened_by : (s i : ℕ) (op : Op) (m : Bool) (bytes : Bytes64) (v t : ℕ) → opened_by s i op (eviction_with m bytes v t) ≡ Some (record { line = v; tag = t; what = evicted s i op m t })
eviction_opened_by s i op true bytes v t = refl
eviction_opened_by s i op false bytes v t = refl

pub eviction_opened : (setup : Configuration) (s i : ℕ) (op : Op) (v t : ℕ) (mine : List Event) → opened_by s i op (eviction_message setup v mine t) ≡ Some (record { line = v; tag = t; what = evicted s i op (is_modified setup v mine) t })
eviction_opened setup s i op v t mine = eviction_opened_by s i op (is_modified setup v mine) (copy setup v mine).bytes v t

-- a request

pub request_opened_table : (setup : Configuration) (h s i : ℕ) (op : Op) (tag : ℕ) (mine : List Event) → open_at (line_of op) mine ≡ None
    → opened_of setup (request_event h s i op tag ∷ mine) ≡ slice_set (opened_of setup mine) tag (Some (opened s i op (kind_of op) tag))
request_opened_table setup h s i op tag mine closed =
    set_where (λ t. open_with t mine) (λ t. open_with t (request_event h s i op tag ∷ mine)) setup.tags tag (Some (opened s i op (kind_of op) tag)) (λ t. request_with h s i op tag mine t closed)

or_line : (b : Bool) (l : ℕ) (y : Option ℕ) → option_or (cond b (Some l) None) y ≡ cond b (Some l) y
or_line true l y = refl
or_line false l y = refl

pub request_tag_lines : (setup : Configuration) (h s i : ℕ) (op : Op) (tag : ℕ) (mine : List Event) → tag_lines_of setup (request_event h s i op tag ∷ mine) ≡ slice_set (tag_lines_of setup mine) tag (Some (line_of op))
request_tag_lines setup h s i op tag mine =
    set_where (λ t. tagged_line t mine) (λ t. tagged_line t (request_event h s i op tag ∷ mine)) setup.tags tag (Some (line_of op)) (λ t. request_tagged h s i op tag mine t ∙ or_line (tag == t) (line_of op) (tagged_line t mine))

pub request_line_tags : (setup : Configuration) (h s i : ℕ) (op : Op) (tag : ℕ) (mine : List Event) → line_tags_of setup (request_event h s i op tag ∷ mine) ≡ slice_set (line_tags_of setup mine) (line_of op) (Some tag)
request_line_tags setup h s i op tag mine =
    set_where (λ a. tag_at a mine) (λ a. tag_at a (request_event h s i op tag ∷ mine)) setup.lines (line_of op) (Some tag)
    (λ a. ap (option_map (λ (o : Transaction). o.tag)) (request_open h s i op tag mine a) ∙ of_either (option_map (λ (o : Transaction). o.tag)) (line_of op == a) (Some (opened s i op (kind_of op) tag)) (open_at a mine))

busy_open : (b o s : Bool) → not (not (cond b true o) && not s) ≡ cond b true (not (not o && not s))
busy_open true o s = refl
busy_open false o s = refl

pub request_busy : (setup : Configuration) (h s i : ℕ) (op : Op) (tag : ℕ) (mine : List Event) → busy_of setup (request_event h s i op tag ∷ mine) ≡ slice_set (busy_of setup mine) (line_of op) true
request_busy setup h s i op tag mine =
    set_where (λ a. not (is_quiet a mine)) (λ a. not (is_quiet a (request_event h s i op tag ∷ mine))) setup.lines (line_of op) true
    (λ a. ap (λ x. not (not (is_some x) && not (is_snooped a mine))) (request_open h s i op tag mine a)
    ∙ ap (λ b. not (not b && not (is_snooped a mine))) (of_either is_some (line_of op == a) (Some (opened s i op (kind_of op) tag)) (open_at a mine))
    ∙ busy_open (line_of op == a) (is_open a mine) (is_snooped a mine))

-- an eviction and a request

-- two places of a table, in either order
swap : {X : Type 0} (t u x : ℕ) (e r f : X) (b c : Bool) → (t == x) ≡ b → (u == x) ≡ c → (t ≡ u → ⊥) → cond b e (cond c r f) ≡ cond c r (cond b e f)
swap t u x e r f true true is is' other = absurd (other (eqb-true t x is ∙ sym (eqb-true u x is')))
swap t u x e r f true false is is' other = refl
swap t u x e r f false true is is' other = refl
swap t u x e r f false false is is' other = refl

set_two : {X : Type 0} (f g : ℕ → X) (n t u : ℕ) (e r : X) → (t ≡ u → ⊥) → ((x : ℕ) → g x ≡ cond (t == x) e (cond (u == x) r (f x))) → map g (below n) ≡ slice_set (slice_set (map f (below n)) t e) u r
set_two f g n t u e r other is =
    set_where (λ x. cond (t == x) e (f x)) g n u r (λ x. is x ∙ swap t u x e r (f x) (t == x) (u == x) refl refl other)
    ∙ ap (λ xs. slice_set xs u r) (set_where f (λ x. cond (t == x) e (f x)) n t e (λ x. refl))

pub evict_opened_table : (setup : Configuration) (h s i : ℕ) (op : Op) (v t u : ℕ) (mine : List Event) → open_at v mine ≡ None → open_at (line_of op) mine ≡ None → (v ≡ line_of op → ⊥) → (t ≡ u → ⊥)
    → opened_of setup (evicting_event h s i op (eviction_message setup v mine t) u ∷ mine)
    ≡ slice_set (slice_set (opened_of setup mine) t (Some (evicted s i op (is_modified setup v mine) t))) u (Some (opened s i op (kind_of op) u))
evict_opened_table setup h s i op v t u mine closed closed' other other' =
    set_two (λ x. open_with x mine) (λ x. open_with x (evicting_event h s i op (eviction_message setup v mine t) u ∷ mine)) setup.tags t u
    (Some (evicted s i op (is_modified setup v mine) t)) (Some (opened s i op (kind_of op) u)) other' (λ x. two_with setup h s i op v t u mine x closed closed' other)

pub evict_tag_lines : (setup : Configuration) (h s i : ℕ) (op : Op) (v t u : ℕ) (mine : List Event) → (t ≡ u → ⊥)
    → tag_lines_of setup (evicting_event h s i op (eviction_message setup v mine t) u ∷ mine) ≡ slice_set (slice_set (tag_lines_of setup mine) t (Some v)) u (Some (line_of op))
evict_tag_lines setup h s i op v t u mine other =
    set_two (λ x. tagged_line x mine) (λ x. tagged_line x (evicting_event h s i op (eviction_message setup v mine t) u ∷ mine)) setup.tags t u (Some v) (Some (line_of op)) other (two_tagged_line setup h s i op v t u mine)

two_map : {X Y : Type 0} (f : X → Y) (b c : Bool) (x y z : X) → f (cond b x (cond c y z)) ≡ cond b (f x) (cond c (f y) (f z))
two_map f true c x y z = refl
two_map f false true x y z = refl
two_map f false false x y z = refl

pub evict_line_tags : (setup : Configuration) (h s i : ℕ) (op : Op) (v t u : ℕ) (mine : List Event) → (v ≡ line_of op → ⊥)
    → line_tags_of setup (evicting_event h s i op (eviction_message setup v mine t) u ∷ mine) ≡ slice_set (slice_set (line_tags_of setup mine) v (Some t)) (line_of op) (Some u)
evict_line_tags setup h s i op v t u mine other =
    set_two (λ a. tag_at a mine) (λ a. tag_at a (evicting_event h s i op (eviction_message setup v mine t) u ∷ mine)) setup.lines v (line_of op) (Some t) (Some u) other
    (λ a. ap (option_map (λ (o : Transaction). o.tag)) (two_open_at setup h s i op v t u mine a)
    ∙ two_map (option_map (λ (o : Transaction). o.tag)) (v == a) (line_of op == a) (Some (evicted s i op (is_modified setup v mine) t)) (Some (opened s i op (kind_of op) u)) (open_at a mine))

pub evict_busy : (setup : Configuration) (h s i : ℕ) (op : Op) (v t u : ℕ) (mine : List Event) → (v ≡ line_of op → ⊥)
    → busy_of setup (evicting_event h s i op (eviction_message setup v mine t) u ∷ mine) ≡ slice_set (slice_set (busy_of setup mine) v true) (line_of op) true
evict_busy setup h s i op v t u mine other =
    set_two (λ a. not (is_quiet a mine)) (λ a. not (is_quiet a (evicting_event h s i op (eviction_message setup v mine t) u ∷ mine))) setup.lines v (line_of op) true true other
    (λ a. ap (λ x. not (not (is_some x) && not (is_snooped a mine))) (two_open_at setup h s i op v t u mine a)
    ∙ ap (λ b. not (not b && not (is_snooped a mine))) (two_map is_some (v == a) (line_of op == a) (Some (evicted s i op (is_modified setup v mine) t)) (Some (opened s i op (kind_of op) u)) (open_at a mine))
    ∙ busy_open (v == a) (cond (line_of op == a) true (is_open a mine)) (is_snooped a mine)
    ∙ ap (cond (v == a) true) (busy_open (line_of op == a) (is_open a mine) (is_snooped a mine)))

-- an answer with a tag

-- what it leaves with its tag
left_at : (tag t : ℕ) (step : Transaction → Option Transaction) (mine : List Event) (o : Transaction) (b : Bool) → (tag == t) ≡ b → open_with tag mine ≡ Some o
    → cond b (option_and_then step (open_with t mine)) (open_with t mine) ≡ cond b (step o) (open_with t mine)
left_at tag t step mine o true is there = ap (option_and_then step) (ap (λ k. open_with k mine) (sym (eqb-true tag t is)) ∙ there)
left_at tag t step mine o false is there = refl

pub answer_opened : (setup : Configuration) (h : ℕ) (m : Message) (tag : ℕ) (step : Transaction → Option Transaction) → AnswersTag m tag step → (commit : Option Commit) (mine : List Event) (o : Transaction) → open_with tag mine ≡ Some o
    → opened_of setup (take_event h m commit ∷ mine) ≡ slice_set (opened_of setup mine) tag (step o)
answer_opened setup h m tag step answers commit mine o there =
    set_where (λ t. open_with t mine) (λ t. open_with t (take_event h m commit ∷ mine)) setup.tags tag (step o)
    (λ t. take_with h m tag step answers commit mine t ∙ left_at tag t step mine o (tag == t) refl there)

-- it ends what is open
pub finish_line_tags : (setup : Configuration) (h : ℕ) (m : Message) (tag : ℕ) (step : Transaction → Option Transaction) → AnswersTag m tag step → (commit : Option Commit) (mine : List Event)
    → Keeps setup mine → (o : Transaction) (found : FoundLine mine tag o) → step o ≡ None → line_tags_of setup (take_event h m commit ∷ mine) ≡ set_at (lookup (kept_host setup h mine).tag_lines tag) None (line_tags_of setup mine)
finish_line_tags setup h m tag step answers commit mine k o found ends =
    let low = subst (λ t. t < setup.tags) found.tag (k.back found.a o found.there).tag in
    set_where (λ a. tag_at a mine) (λ a. tag_at a (take_event h m commit ∷ mine)) setup.lines found.a None
    (λ a. ap (option_map (λ (x : Transaction). x.tag)) (open_take setup h m tag step answers commit mine k.back o found.a found.there found.tag found.tagged a ∙ ap (λ x. cond (found.a == a) x (open_at a mine)) ends)
    ∙ of_either (option_map (λ (x : Transaction). x.tag)) (found.a == a) None (open_at a mine))
    ∙ ap (λ x. set_at x None (line_tags_of setup mine)) (sym (tag_line_is setup h tag found.a mine low found.tagged))

finish_by : (mine : List Event) (l a : ℕ) (b : Bool) → (l == a) ≡ b → not (not (cond b false (is_open a mine)) && not (is_snooped a mine)) ≡ cond b (is_snooped l mine) (not (is_quiet a mine))
finish_by mine l a true is = twice (is_snooped a mine) ∙ ap (λ x. is_snooped x mine) (sym (eqb-true l a is))
  where
    twice : (s : Bool) → not (true && not s) ≡ s
    twice true = refl
    twice false = refl
finish_by mine l a false is = refl

pub finish_busy : (setup : Configuration) (h : ℕ) (m : Message) (tag : ℕ) (step : Transaction → Option Transaction) → AnswersTag m tag step → (commit : Option Commit) (mine : List Event)
    → Keeps setup mine → (o : Transaction) (found : FoundLine mine tag o) → step o ≡ None → buffered_snoops (take_event h m commit ∷ mine) ≡ buffered_snoops mine
    → busy_of setup (take_event h m commit ∷ mine)
    ≡ set_at (lookup (kept_host setup h mine).tag_lines tag) (option_map_or (λ a. is_some (snoop_of_line (buffered_snoops mine) a)) (lookup (kept_host setup h mine).tag_lines tag) false) (busy_of setup mine)
finish_busy setup h m tag step answers commit mine k o found ends same =
    let low = subst (λ t. t < setup.tags) found.tag (k.back found.a o found.there).tag in
    set_where (λ a. not (is_quiet a mine)) (λ a. not (is_quiet a (take_event h m commit ∷ mine))) setup.lines found.a (is_snooped found.a mine)
    (λ a. ap (λ ss. not (not (is_open a (take_event h m commit ∷ mine)) && not (is_some (snoop_of_line ss a)))) same
    ∙ ap (λ x. not (not (is_some x) && not (is_snooped a mine))) (open_take setup h m tag step answers commit mine k.back o found.a found.there found.tag found.tagged a ∙ ap (λ x. cond (found.a == a) x (open_at a mine)) ends)
    ∙ ap (λ b. not (not b && not (is_snooped a mine))) (of_either is_some (found.a == a) None (open_at a mine))
    ∙ finish_by mine found.a a (found.a == a) refl)
    ∙ ap (λ x. set_at x (option_map_or (λ a. is_some (snoop_of_line (buffered_snoops mine) a)) x false) (busy_of setup mine)) (sym (tag_line_is setup h tag found.a mine low found.tagged))

-- it leaves it open

mark_by : (mine : List Event) (l a : ℕ) (o p : Transaction) (b : Bool) → (l == a) ≡ b → open_at l mine ≡ Some o → p.tag ≡ o.tag → option_map (λ (x : Transaction). x.tag) (cond b (Some p) (open_at a mine)) ≡ tag_at a mine
mark_by mine l a o p true is there same = ap Some same ∙ ap (option_map (λ (x : Transaction). x.tag)) (sym there) ∙ ap (λ x. tag_at x mine) (eqb-true l a is)
mark_by mine l a o p false is there same = refl

pub mark_line_tags : (setup : Configuration) (h : ℕ) (m : Message) (tag : ℕ) (step : Transaction → Option Transaction) → AnswersTag m tag step → (commit : Option Commit) (mine : List Event)
    → Keeps setup mine → (o p : Transaction) (found : FoundLine mine tag o) → step o ≡ Some p → p.tag ≡ o.tag → line_tags_of setup (take_event h m commit ∷ mine) ≡ line_tags_of setup mine
mark_line_tags setup h m tag step answers commit mine k o p found left same =
    stays (λ a. tag_at a mine) (λ a. tag_at a (take_event h m commit ∷ mine)) setup.lines
    (λ a. ap (option_map (λ (x : Transaction). x.tag)) (open_take setup h m tag step answers commit mine k.back o found.a found.there found.tag found.tagged a ∙ ap (λ x. cond (found.a == a) x (open_at a mine)) left)
    ∙ mark_by mine found.a a o p (found.a == a) refl found.there same)

some_tag : (x : Option Transaction) → is_some (option_map (λ (o : Transaction). o.tag) x) ≡ is_some x
some_tag None = refl
some_tag (Some o) = refl

pub mark_busy : (setup : Configuration) (h : ℕ) (m : Message) (tag : ℕ) (step : Transaction → Option Transaction) → AnswersTag m tag step → (commit : Option Commit) (mine : List Event)
    → Keeps setup mine → (o p : Transaction) (found : FoundLine mine tag o) → step o ≡ Some p → p.tag ≡ o.tag → buffered_snoops (take_event h m commit ∷ mine) ≡ buffered_snoops mine → busy_of setup (take_event h m commit ∷ mine) ≡ busy_of setup mine
mark_busy setup h m tag step answers commit mine k o p found left same snoops =
    stays (λ a. not (is_quiet a mine)) (λ a. not (is_quiet a (take_event h m commit ∷ mine))) setup.lines
    (λ a. ap (λ ss. not (not (is_open a (take_event h m commit ∷ mine)) && not (is_some (snoop_of_line ss a)))) snoops
    ∙ ap (λ b. not (not b && not (is_snooped a mine)))
    (sym (some_tag (open_at a (take_event h m commit ∷ mine)))
    ∙ ap is_some (ap (option_map (λ (x : Transaction). x.tag)) (open_take setup h m tag step answers commit mine k.back o found.a found.there found.tag found.tagged a ∙ ap (λ x. cond (found.a == a) x (open_at a mine)) left) ∙ mark_by mine found.a a o p (found.a == a) refl found.there same)
    ∙ some_tag (open_at a mine)))

-- conflicts stay with an operation

pub request_conflicts : (setup : Configuration) (h s i : ℕ) (op : Op) (tag : ℕ) (mine : List Event) → map (λ t. is_conflict_open t (request_event h s i op tag ∷ mine)) (below setup.tags) ≡ map (λ t. is_conflict_open t mine) (below setup.tags)
request_conflicts setup h s i op tag mine =
    stays (λ t. is_conflict_open t mine) (λ t. is_conflict_open t (request_event h s i op tag ∷ mine)) setup.tags (λ t. ap (λ b. (b || false) || is_conflict_open t mine) ((request_opens op tag).no_conflict t))

pub evict_conflicts : (setup : Configuration) (h s i : ℕ) (op : Op) (v t u : ℕ) (mine : List Event)
    → map (λ x. is_conflict_open x (evicting_event h s i op (eviction_message setup v mine t) u ∷ mine)) (below setup.tags) ≡ map (λ x. is_conflict_open x mine) (below setup.tags)
evict_conflicts setup h s i op v t u mine =
    stays (λ x. is_conflict_open x mine) (λ x. is_conflict_open x (evicting_event h s i op (eviction_message setup v mine t) u ∷ mine)) setup.tags
    (λ x. ap (λ b. (b || (is_conflict_with x (request_message op u) || false)) || is_conflict_open x mine) ((victim_opens setup v mine t).no_conflict x)
    ∙ ap (λ b. (b || false) || is_conflict_open x mine) ((request_opens op u).no_conflict x))
