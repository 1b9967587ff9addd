-- The kept ways after each event: what the record's words make of the ways before.
use Rattle.host_record.specs.Ways.{Way, add_way, copy_in, drop_way, drop_way_of, give_up, put_way}
use Rattle.std.proofs.Common.{Bool, List, None, Option, Some, [], ap, cond, false, filter, refl, sym, true, ℕ, ◌∙◌, ◌∷◌, ◌≡◌}
use Rattle.std.proofs.lemmas.Bool.{and_parts, cond-false, cond-true, eqb-true, false≢true, not-true}
use Rattle.std.specs.List.{list_all}
use Rattle.coherence_model.specs.HostActs.{may_answer_block, may_answer_in_block}
use Rattle.request_laws.proofs.Counts.{all_holds, any_counts}
use Rattle.std.specs.Option.{option_map_or}
use Rattle.std.specs.Prelude.{is_some, not, ◌&&◌, ◌==◌, ◌||◌}
use Rattle.cxl_message.specs.declared.events.Act.{Act}
use Rattle.cxl_message.specs.declared.events.Commit.{Commit}
use Rattle.cxl_message.specs.declared.events.Event.{Event}
use Rattle.cxl_message.specs.declared.events.Op.{Op}
use Rattle.cxl_message.specs.declared.events.Sends.{Sends}
use Rattle.cxl_message.specs.declared.identifiers.Bytes64.{Bytes64}
use Rattle.cxl_message.specs.declared.messages.Message.{Message}
use Rattle.cxl_message.specs.declared.opcodes.NdrOp.{NdrOp}
use Rattle.cxl_message.specs.Events.{line_of}
use Rattle.cxl_message.specs.Lists.{is_in, without}
use Rattle.cxl_message.specs.Messages.{line_in}
use Rattle.cxl_message.specs.Setup.{Configuration}
use Rattle.coherence_model.specs.Cache.{Cache, copy, has_copy, is_valid, needs_victim, victim_way, ways, with_way}
use Rattle.coherence_model.specs.Copies.{Copy, filling_grant, is_in_whole_block, keeps_shared, modified, no_copy, shared}
use Rattle.coherence_model.specs.HostOperations.{eviction_message}
use Rattle.coherence_model.specs.Snoops.{Snoop, whole_block_at}
use Rattle.coherence_model.specs.Transactions.{Transaction, has_request, is_open, is_request, open_at}
use Rattle.host_laws.proofs.CacheKept.{CacheKeeps, IsVictim, is_victim, without_victim}
use Rattle.host_laws.proofs.CacheSteps.{cache_requested, copy_evicting, copy_filled, eviction_line, left_by, none_dropped, victim_dropped, ways_evicting}
use Rattle.host_laws.proofs.Events.{act_event, commit_of, evicting_event, hit_event, request_event, take_event}
use Rattle.host_laws.proofs.Keeps.{Keeps}
use Rattle.host_laws.proofs.Lookups.{copy_is, open_is, view_is}
use Rattle.host_laws.proofs.Ranges.{Ranges}
use Rattle.host_laws.proofs.TableLemmas.{same_either}
use Rattle.host_laws.proofs.WayFacts.{all_pass, flip, in_filter, in_without, same_filter}
use Rattle.host_laws.proofs.WayLists.{add_kept, drop_kept, filter_kept, kept_ways, put_kept, same_kept}
use Rattle.host_record.specs.HostChanges.{block_lines, dropped_by, filled_by, respond, ways_after_hit}
use Rattle.host_record.specs.Stands.{kept_host}
use Rattle.host_record.specs.View.{View}
use Rattle.host_record.specs.ViewRows.{lacks_room, victim}

-- the ways that are kept
abbrev pub ways_kept : Configuration → List Event → List Way
ways_kept setup mine = kept_ways (λ a. copy setup a mine) (ways setup mine)

-- the ways of another list, by their copies and lines
pub ways_by : (setup : Configuration) (e : Event) (mine : List Event) (f : ℕ → Copy) (held : List ℕ) → ((a : ℕ) → copy setup a (e ∷ mine) ≡ f a) → ways setup (e ∷ mine) ≡ held → ways_kept setup (e ∷ mine) ≡ kept_ways f held
ways_by setup e mine f held copies lines =
    same_kept (λ a. copy setup a (e ∷ mine)) f (ways setup (e ∷ mine)) (λ a there. copies a) ∙ ap (kept_ways f) lines

-- an operation that hits

pub hit_ways : (setup : Configuration) (h s i : ℕ) (op : Op) (value : Bytes64) (mine : List Event)
    → ways_kept setup (hit_event h s i op value ∷ mine) ≡ ways_after_hit op (Some (commit_of s i op value)) (ways_kept setup mine)
hit_ways setup h s i (Op.Load line) value mine =
    ways_by setup (hit_event h s i (Op.Load line) value) mine (λ a. copy setup a mine) (ways setup mine) (λ a. same_either (line.0 == a) (copy setup a mine)) refl
hit_ways setup h s i (Op.Word line place new) value mine =
    ways_by setup (hit_event h s i (Op.Word line place new) value) mine (λ a. cond (line.0 == a) (modified value) (copy setup a mine)) (ways setup mine) (λ a. refl) refl
    ∙ sym (put_kept (λ a. copy setup a mine) line.0 (modified value) (ways setup mine))
hit_ways setup h s i (Op.Whole line new) value mine =
    ways_by setup (hit_event h s i (Op.Whole line new) value) mine (λ a. cond (line.0 == a) (modified value) (copy setup a mine)) (ways setup mine) (λ a. refl) refl
    ∙ sym (put_kept (λ a. copy setup a mine) line.0 (modified value) (ways setup mine))

-- a line without a way has no copy
pub bare_outside : (setup : Configuration) (mine : List Event) → CacheKeeps setup mine → (a : ℕ) → is_in a (ways setup mine) ≡ false → copy setup a mine ≡ no_copy
bare_outside setup mine k a out = k.no_bytes a (none (has_copy setup a mine) (has_request a mine) (sym (k.ways_are a) ∙ out))
  where
    none : (v r : Bool) → (v || r) ≡ false → v ≡ false
    none true r h = h
    none false r h = refl

-- a request alone, with a way
pub request_ways : (setup : Configuration) (h s i : ℕ) (op : Op) (tag : ℕ) (mine : List Event) → Keeps setup mine → Ranges setup mine → needs_victim setup (line_of op) mine ≡ false
    → ways_kept setup (request_event h s i op tag ∷ mine) ≡ add_way (line_of op) (drop_way_of (dropped_by setup (line_of op) (kept_host setup h mine)) (ways_kept setup mine))
request_ways setup h s i op tag mine k r enough =
    let is = cache_requested setup h s i op tag mine None (none_dropped setup (line_of op) mine enough) in
    let dropped : dropped_by setup (line_of op) (kept_host setup h mine) ≡ None =
    ap (λ (v : View). cond (lacks_room setup v (line_of op)) (victim v) None) (view_is setup h mine k r) ∙ cond-false (needs_victim setup (line_of op) mine) (victim_way setup mine) None enough in
    ways_by setup (request_event h s i op tag) mine (λ a. copy setup a mine) (with_way (Some (line_of op)) (ways setup mine)) (λ a. ap (λ (c : Cache). c.copies a) is) (ap (λ (c : Cache). c.ways) is)
    ∙ sym (add_kept (λ a. copy setup a mine) (line_of op) (ways setup mine) (bare_outside setup mine k.cache (line_of op)))
    ∙ ap (λ d. add_way (line_of op) (drop_way_of d (ways_kept setup mine))) (sym dropped)

-- the ways without the victim's, and with the request's line
victim_ways : (setup : Configuration) (l v : ℕ) (mine : List Event) → CacheKeeps setup mine → IsVictim setup l v mine
    → kept_ways (without_victim v (λ b. copy setup b mine)) (with_way (Some l) (without v (ways setup mine))) ≡ add_way l (drop_way v (ways_kept setup mine))
victim_ways setup l v mine k who =
    sym (add_kept (without_victim v (λ b. copy setup b mine)) l (without v (ways setup mine)) (λ out. bare (v == l)))
    ∙ ap (add_way l) (same_kept (without_victim v (λ b. copy setup b mine)) (λ b. copy setup b mine) (without v (ways setup mine)) stays ∙ sym (drop_kept (λ b. copy setup b mine) v (ways setup mine)))
  where
    bare : (b : Bool) → cond b no_copy (copy setup l mine) ≡ no_copy
    bare true = refl
    bare false = bare_outside setup mine k l who.out

    gone : (b : Bool) (a : ℕ) → (not b && is_in a (ways setup mine)) ≡ true → cond b no_copy (copy setup a mine) ≡ copy setup a mine
    gone true a there = absurd (false≢true there)
    gone false a there = refl

    stays : (a : ℕ) → is_in a (without v (ways setup mine)) ≡ true → without_victim v (λ b. copy setup b mine) a ≡ copy setup a mine
    stays a there = gone (v == a) a (sym (in_without v a (ways setup mine)) ∙ there)

-- a request alone that drops a shared victim
pub drop_ways : (setup : Configuration) (h s i : ℕ) (op : Op) (tag v : ℕ) (mine : List Event) → Keeps setup mine → Ranges setup mine → needs_victim setup (line_of op) mine ≡ true → victim_way setup mine ≡ Some v
    → ways_kept setup (request_event h s i op tag ∷ mine) ≡ add_way (line_of op) (drop_way_of (dropped_by setup (line_of op) (kept_host setup h mine)) (ways_kept setup mine))
drop_ways setup h s i op tag v mine k r needs first =
    let is = cache_requested setup h s i op tag mine (Some v) (victim_dropped setup (line_of op) v mine needs first) in
    let who = is_victim setup (line_of op) v mine needs first in
    let dropped : dropped_by setup (line_of op) (kept_host setup h mine) ≡ Some v =
    ap (λ (x : View). cond (lacks_room setup x (line_of op)) (victim x) None) (view_is setup h mine k r) ∙ cond-true (needs_victim setup (line_of op) mine) (victim_way setup mine) None needs ∙ first in
    ways_by setup (request_event h s i op tag) mine (without_victim v (λ b. copy setup b mine)) (with_way (Some (line_of op)) (without v (ways setup mine)))
    (λ a. ap (λ (c : Cache). c.copies a) is ∙ ap (λ b. cond b no_copy (copy setup a mine)) (flip v a (v == a) refl)) (ap (λ (c : Cache). c.ways) is)
    ∙ victim_ways setup (line_of op) v mine k.cache who
    ∙ ap (λ d. add_way (line_of op) (drop_way_of d (ways_kept setup mine))) (sym dropped)

-- an eviction and a request
pub evict_ways : (setup : Configuration) (h s i : ℕ) (op : Op) (v t u : ℕ) (mine : List Event) → Keeps setup mine → needs_victim setup (line_of op) mine ≡ true → victim_way setup mine ≡ Some v
    → ways_kept setup (evicting_event h s i op (eviction_message setup v mine t) u ∷ mine) ≡ add_way (line_of op) (drop_way_of (line_in (eviction_message setup v mine t)) (ways_kept setup mine))
evict_ways setup h s i op v t u mine k needs first =
    let who = is_victim setup (line_of op) v mine needs first in
    ways_by setup (evicting_event h s i op (eviction_message setup v mine t) u) mine (without_victim v (λ b. copy setup b mine)) (with_way (Some (line_of op)) (without v (ways setup mine)))
    (copy_evicting setup h s i op v t u mine) (ways_evicting setup h s i op v t u mine)
    ∙ victim_ways setup (line_of op) v mine k.cache who
    ∙ ap (λ d. add_way (line_of op) (drop_way_of d (ways_kept setup mine))) (sym (eviction_line setup v t mine))

-- a fill
pub fill_ways : (setup : Configuration) (h : ℕ) (m : Message) (c : Commit) (mine : List Event) (grant : Option NdrOp) → filling_grant m (open_at (line_of c.op) mine) ≡ grant
    → ways_kept setup (take_event h m (Some c) ∷ mine) ≡ put_way (line_of c.op) (filled_by grant c c.op) (ways_kept setup mine)
fill_ways setup h m c mine grant is =
    ways_by setup (take_event h m (Some c)) mine (λ a. cond (line_of c.op == a) (filled_by grant c c.op) (copy setup a mine)) (ways setup mine) (copy_filled h m c setup mine grant is) refl
    ∙ sym (put_kept (λ a. copy setup a mine) (line_of c.op) (filled_by grant c c.op) (ways setup mine))

-- a write-back or an answer

-- which ways are wanted after a message for line l: all but l, and l where a request is open or the message keeps it
wanted_by : (setup : Configuration) (l a : ℕ) (m : Message) (mine : List Event) (shares request here : Bool) → CacheKeeps setup mine → is_in a (ways setup mine) ≡ true → (l == a) ≡ here → keeps_shared m ≡ shares → has_request l mine ≡ request
    → (is_valid (cond here (cond shares (shared (copy setup a mine)) no_copy) (copy setup a mine)) || has_request a mine) ≡ (not here || shares || request)
wanted_by setup l a m mine shares request false k there is keeps asks = sym (k.ways_are a) ∙ there
wanted_by setup l a m mine true request true k there is keeps asks = refl
wanted_by setup l a m mine false request true k there is keeps asks = ap (λ x. has_request x mine) (sym (eqb-true l a is)) ∙ asks

left_ways_by : (setup : Configuration) (h l : ℕ) (m : Message) (mine : List Event) (shares request : Bool) → Keeps setup mine → keeps_shared m ≡ shares → has_request l mine ≡ request
    → kept_ways (λ a. cond (l == a) (cond shares (shared (copy setup a mine)) no_copy) (copy setup a mine)) (filter (λ a. not (l == a) || shares || request) (ways setup mine))
    ≡ cond shares (put_way l (shared (copy setup l mine)) (ways_kept setup mine)) (give_up l request (ways_kept setup mine))
left_ways_by setup h l m mine true request k keeps asks =
    ap (kept_ways (λ a. cond (l == a) (shared (copy setup a mine)) (copy setup a mine))) (same_filter (λ a. not (l == a) || true || request) (λ a. true) (ways setup mine) (λ a there. or_true (not (l == a)) request) ∙ all_pass (ways setup mine))
    ∙ same_kept (λ a. cond (l == a) (shared (copy setup a mine)) (copy setup a mine)) (λ a. cond (l == a) (shared (copy setup l mine)) (copy setup a mine)) (ways setup mine) (λ a there. same a (l == a) refl)
    ∙ sym (put_kept (λ a. copy setup a mine) l (shared (copy setup l mine)) (ways setup mine))
  where
    or_true : (b r : Bool) → (b || true || r) ≡ true
    or_true true r = refl
    or_true false r = refl

    same : (a : ℕ) (b : Bool) → (l == a) ≡ b → cond b (shared (copy setup a mine)) (copy setup a mine) ≡ cond b (shared (copy setup l mine)) (copy setup a mine)
    same a true is = ap (λ x. shared (copy setup x mine)) (sym (eqb-true l a is))
    same a false is = refl
left_ways_by setup h l m mine false true k keeps asks =
    ap (kept_ways (λ a. cond (l == a) no_copy (copy setup a mine))) (same_filter (λ a. not (l == a) || false || true) (λ a. true) (ways setup mine) (λ a there. or_true (not (l == a))) ∙ all_pass (ways setup mine))
    ∙ sym (put_kept (λ a. copy setup a mine) l no_copy (ways setup mine))
  where
    or_true : (b : Bool) → (b || false || true) ≡ true
    or_true true = refl
    or_true false = refl
left_ways_by setup h l m mine false false k keeps asks =
    ap (kept_ways (λ a. cond (l == a) no_copy (copy setup a mine))) (same_filter (λ a. not (l == a) || false || false) (λ a. not (l == a)) (ways setup mine) (λ a there. or_false (not (l == a))))
    ∙ same_kept (λ a. cond (l == a) no_copy (copy setup a mine)) (λ a. copy setup a mine) (without l (ways setup mine)) (λ a there. gone (l == a) a (sym (in_without l a (ways setup mine)) ∙ there))
    ∙ sym (drop_kept (λ a. copy setup a mine) l (ways setup mine))
  where
    or_false : (b : Bool) → (b || false || false) ≡ b
    or_false true = refl
    or_false false = refl

    gone : (b : Bool) (a : ℕ) → (not b && is_in a (ways setup mine)) ≡ true → cond b no_copy (copy setup a mine) ≡ copy setup a mine
    gone true a there = absurd (false≢true there)
    gone false a there = refl

-- the ways that are left after a message for line l, as the record's words have them
pub left_ways : (setup : Configuration) (h l : ℕ) (m : Message) (mine : List Event) → Keeps setup mine
    → kept_ways (λ a. cond (l == a) (left_by m (copy setup a mine)) (copy setup a mine)) (filter (λ a. is_valid (cond (l == a) (left_by m (copy setup a mine)) (copy setup a mine)) || has_request a mine) (ways setup mine))
    ≡ respond l (Sends.One (record { host = h; message = m })) (kept_host setup h mine)
left_ways setup h l m mine k =
    ap (kept_ways (λ a. cond (l == a) (left_by m (copy setup a mine)) (copy setup a mine)))
    (same_filter (λ a. is_valid (cond (l == a) (left_by m (copy setup a mine)) (copy setup a mine)) || has_request a mine) (λ a. not (l == a) || keeps_shared m || has_request l mine) (ways setup mine)
    (λ a there. wanted_by setup l a m mine (keeps_shared m) (has_request l mine) (l == a) k.cache there refl refl refl))
    ∙ left_ways_by setup h l m mine (keeps_shared m) (has_request l mine) k refl refl
    ∙ ap (λ c. cond (keeps_shared m) (put_way l (shared c) (ways_kept setup mine)) (give_up l (has_request l mine) (ways_kept setup mine))) (sym (copy_is setup h mine k.cache l))
    ∙ ap (λ x. cond (keeps_shared m) (put_way l (shared (copy_in (ways_kept setup mine) l)) (ways_kept setup mine)) (give_up l (option_map_or (λ o. is_request o.kind) x false) (ways_kept setup mine))) (sym (open_is setup h mine k.back l))

-- the answer for a block

in_block_by : (a : ℕ) (x : Option Snoop) → is_in a (option_map_or (λ s. s.unanswered) x []) ≡ option_map_or (λ s. is_in a s.unanswered) x false
in_block_by a None = refl
in_block_by a (Some s) = refl

-- the lines of the block by the record are those by the model
pub in_block : (setup : Configuration) (h l a : ℕ) (mine : List Event) → is_in a (block_lines l (kept_host setup h mine)) ≡ is_in_whole_block l a mine
in_block setup h l a mine = in_block_by a (whole_block_at l mine)

block_member_by : (setup : Configuration) (a : ℕ) (mine : List Event) (x : Option Snoop) → option_map_or (λ s. list_all (may_answer_in_block setup mine) s.unanswered) x false ≡ true
    → option_map_or (λ s. is_in a s.unanswered) x false ≡ true → may_answer_in_block setup mine a ≡ true
block_member_by setup a mine None may there = absurd (false≢true may)
block_member_by setup a mine (Some s) may there = all_holds (may_answer_in_block setup mine) a s.unanswered may (any_counts (λ y. a == y) s.unanswered there)

-- a line of a block that is answered at once isn't Open
pub block_closed : (setup : Configuration) (l a : ℕ) (mine : List Event) → may_answer_block setup l mine ≡ true → is_in_whole_block l a mine ≡ true → is_open a mine ≡ false
block_closed setup l a mine may there =
    not-true _ (and_parts _ _ (and_parts _ _ (block_member_by setup a mine (whole_block_at l mine) may there)).0).1

closed_asks : (x : Option Transaction) → is_some x ≡ false → option_map_or (λ (o : Transaction). is_request o.kind) x false ≡ false
closed_asks None h = refl
closed_asks (Some o) h = absurd (false≢true (sym h))

pub block_ways : (setup : Configuration) (h l : ℕ) (m : Message) (mine : List Event) → Keeps setup mine → may_answer_block setup l mine ≡ true
    → ways_kept setup (act_event h (Act.AnswerBlock (record { 0 = l })) m ∷ mine) ≡ filter (λ (w : Way). not (is_in w.line (block_lines l (kept_host setup h mine)))) (ways_kept setup mine)
block_ways setup h l m mine k may =
    ap (kept_ways (λ a. cond (is_in_whole_block l a mine) no_copy (copy setup a mine)))
    (same_filter (λ a. is_valid (cond (is_in_whole_block l a mine) no_copy (copy setup a mine)) || has_request a mine) (λ a. not (is_in a (block_lines l (kept_host setup h mine)))) (ways setup mine)
    (λ a there. wanted a there (is_in_whole_block l a mine) refl ∙ ap not (sym (in_block setup h l a mine))))
    ∙ same_kept (λ a. cond (is_in_whole_block l a mine) no_copy (copy setup a mine)) (λ a. copy setup a mine) (filter (λ a. not (is_in a (block_lines l (kept_host setup h mine)))) (ways setup mine))
    (λ a there. stays a (is_in_whole_block l a mine) (ap (λ b. not b && is_in a (ways setup mine)) (sym (in_block setup h l a mine)) ∙ sym (in_filter (λ b. not (is_in b (block_lines l (kept_host setup h mine)))) a (ways setup mine)) ∙ there))
    ∙ sym (filter_kept (λ a. copy setup a mine) (λ a. not (is_in a (block_lines l (kept_host setup h mine)))) (ways setup mine))
  where
    wanted : (a : ℕ) → is_in a (ways setup mine) ≡ true → (b : Bool) → is_in_whole_block l a mine ≡ b → (is_valid (cond b no_copy (copy setup a mine)) || has_request a mine) ≡ not b
    wanted a there true is = closed_asks (open_at a mine) (block_closed setup l a mine may is)
    wanted a there false is = sym (k.cache.ways_are a) ∙ there

    stays : (a : ℕ) (b : Bool) → (not b && is_in a (ways setup mine)) ≡ true → cond b no_copy (copy setup a mine) ≡ copy setup a mine
    stays a true there = absurd (false≢true there)
    stays a false there = refl
