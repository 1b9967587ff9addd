-- The copies and the ways of a host after each kind of its events.
use Rattle.std.proofs.Common.{Bool, List, None, Option, Some, ap, cond, false, filter, refl, subst, true, ℕ, ◌∙◌, ◌∷◌, ◌≡◌}
use Rattle.std.proofs.lemmas.Bool.{cond-false, cond-true, eqb-true}
use Rattle.std.specs.Option.{option_map_or}
use Rattle.std.specs.Prelude.{if◌then◌else◌, ◌==◌, ◌||◌}
use Rattle.cxl_message.specs.declared.events.Act.{Act}
use Rattle.cxl_message.specs.declared.events.Cause.{Cause}
use Rattle.cxl_message.specs.declared.events.Commit.{Commit}
use Rattle.cxl_message.specs.declared.events.Event.{Event}
use Rattle.cxl_message.specs.declared.events.Op.{Op}
use Rattle.cxl_message.specs.declared.identifiers.Bytes64.{Bytes64}
use Rattle.cxl_message.specs.declared.messages.Message.{Message}
use Rattle.cxl_message.specs.declared.opcodes.NdrOp.{NdrOp}
use Rattle.cxl_message.specs.declared.states.CopyState.{CopyState}
use Rattle.cxl_message.specs.Events.{is_load, line_of}
use Rattle.cxl_message.specs.Lists.{without}
use Rattle.cxl_message.specs.Messages.{line_in}
use Rattle.cxl_message.specs.Setup.{Configuration}
use Rattle.coherence_model.specs.Cache.{Cache, cache, cache_after, copy, first_idle, is_modified, is_valid, needs_victim, pushed_out, victim_way, ways, with_way, without_dropped, without_way}
use Rattle.coherence_model.specs.Copies.{Copy, copy_after_commit, evicts, filling_grant, granted_state, is_in_whole_block, keeps_shared, modified, no_copy, shared}
use Rattle.coherence_model.specs.HostOperations.{eviction_message}
use Rattle.coherence_model.specs.Transactions.{has_request, open_at}
use Rattle.request_laws.proofs.HostOperations.{eviction_with, request_opens}
use Rattle.host_laws.proofs.Events.{act_event, evicting_event, hit_event, request_event, take_event}
use Rattle.host_record.specs.HostChanges.{filled_by}

-- an operation that hits

pub copy_hit : (h s i : ℕ) (op : Op) (value : Bytes64) (setup : Configuration) (mine : List Event) (a : ℕ)
    → copy setup a (hit_event h s i op value ∷ mine) ≡ cond (line_of op == a) (if is_load op then copy setup a mine else modified value) (copy setup a mine)
copy_hit h s i (Op.Load line) value setup mine a = refl
copy_hit h s i (Op.Word line place new) value setup mine a = refl
copy_hit h s i (Op.Whole line new) value setup mine a = refl

-- a request alone

-- the cache after a dropped line left it and the request's line came in
abbrev pub requested_cache : Option ℕ → ℕ → Cache → Cache
requested_cache dropped l old = record { copies = (without_dropped dropped old).copies; ways = with_way (Some l) (without_dropped dropped old).ways }

pub cache_requested : (setup : Configuration) (h s i : ℕ) (op : Op) (tag : ℕ) (mine : List Event) (d : Option ℕ) → pushed_out setup (Some (line_of op)) mine (ways setup mine) ≡ d
    → cache setup (request_event h s i op tag ∷ mine) ≡ requested_cache d (line_of op) (cache setup mine)
cache_requested setup h s i op tag mine d dropped =
    let e = request_event h s i op tag in
    ap (λ x. cache_after e mine (without_dropped (pushed_out setup x mine (ways setup mine)) (cache setup mine))) (request_opens op tag).line
    ∙ ap (λ x. cache_after e mine (without_dropped x (cache setup mine))) dropped
    ∙ ap {B = Cache} (λ x. record { copies = (without_dropped d (cache setup mine)).copies; ways = with_way x (without_dropped d (cache setup mine)).ways }) (request_opens op tag).line

-- nothing is dropped where no victim is needed
pub none_dropped : (setup : Configuration) (l : ℕ) (mine : List Event) → needs_victim setup l mine ≡ false → pushed_out setup (Some l) mine (ways setup mine) ≡ None
none_dropped setup l mine enough = cond-false (needs_victim setup l mine) (first_idle mine (ways setup mine)) None enough

-- the victim is, where one is needed
pub victim_dropped : (setup : Configuration) (l v : ℕ) (mine : List Event) → needs_victim setup l mine ≡ true → victim_way setup mine ≡ Some v → pushed_out setup (Some l) mine (ways setup mine) ≡ Some v
victim_dropped setup l v mine needs victim = cond-true (needs_victim setup l mine) (first_idle mine (ways setup mine)) None needs ∙ victim

-- an eviction and a request

evicts_by : (modified : Bool) (bytes : Bytes64) (v t a : ℕ) → evicts a (eviction_with modified bytes v t) ≡ (v == a)
evicts_by true bytes v t a = refl
evicts_by false bytes v t a = refl

-- the message of an eviction gives its line up
pub evicts_line : (setup : Configuration) (v t a : ℕ) (mine : List Event) → evicts a (eviction_message setup v mine t) ≡ (v == a)
evicts_line setup v t a mine = evicts_by (is_modified setup v mine) (copy setup v mine).bytes v t a

line_by : (modified : Bool) (bytes : Bytes64) (v t : ℕ) → line_in (eviction_with modified bytes v t) ≡ Some v
line_by true bytes v t = refl
line_by false bytes v t = refl

pub eviction_line : (setup : Configuration) (v t : ℕ) (mine : List Event) → line_in (eviction_message setup v mine t) ≡ Some v
eviction_line setup v t mine = line_by (is_modified setup v mine) (copy setup v mine).bytes v t

pub copy_evicting : (setup : Configuration) (h s i : ℕ) (op : Op) (v t u : ℕ) (mine : List Event) (a : ℕ)
    → copy setup a (evicting_event h s i op (eviction_message setup v mine t) u ∷ mine) ≡ cond (v == a) no_copy (copy setup a mine)
copy_evicting setup h s i op v t u mine a = ap (λ b. cond b no_copy (copy setup a mine)) (evicts_line setup v t a mine)

pub ways_evicting : (setup : Configuration) (h s i : ℕ) (op : Op) (v t u : ℕ) (mine : List Event)
    → ways setup (evicting_event h s i op (eviction_message setup v mine t) u ∷ mine) ≡ with_way (Some (line_of op)) (without v (ways setup mine))
ways_evicting setup h s i op v t u mine =
    ap (λ x. with_way x (without_way (line_in (eviction_message setup v mine t)) (ways setup mine))) (request_opens op u).line
    ∙ ap (λ x. with_way (Some (line_of op)) (without_way x (ways setup mine))) (eviction_line setup v t mine)

-- a fill

fill_by : (h : ℕ) (m : Message) (c : Commit) (op : Op) (mine : List Event) (a : ℕ) (old : Copy) (grant : Option NdrOp) → filling_grant m (open_at a mine) ≡ grant
    → copy_after_commit a (Cause.Take h m) op c.value mine old ≡ filled_by grant c op
fill_by h m c (Op.Load line) mine a old grant is = ap {B = Copy} (λ g. record { state = option_map_or granted_state g CopyState.E; bytes = c.value }) is
fill_by h m c (Op.Word line place new) mine a old grant is = refl
fill_by h m c (Op.Whole line new) mine a old grant is = refl

fill_at : (h : ℕ) (m : Message) (c : Commit) (setup : Configuration) (mine : List Event) (grant : Option NdrOp) → filling_grant m (open_at (line_of c.op) mine) ≡ grant → (a : ℕ) (b : Bool) → (line_of c.op == a) ≡ b
    → cond b (copy_after_commit a (Cause.Take h m) c.op c.value mine (copy setup a mine)) (copy setup a mine) ≡ cond b (filled_by grant c c.op) (copy setup a mine)
fill_at h m c setup mine grant is a true same = fill_by h m c c.op mine a (copy setup a mine) grant (subst (λ k. filling_grant m (open_at k mine) ≡ grant) (eqb-true (line_of c.op) a same) is)
fill_at h m c setup mine grant is a false same = refl

pub copy_filled : (h : ℕ) (m : Message) (c : Commit) (setup : Configuration) (mine : List Event) (grant : Option NdrOp) → filling_grant m (open_at (line_of c.op) mine) ≡ grant → (a : ℕ)
    → copy setup a (take_event h m (Some c) ∷ mine) ≡ cond (line_of c.op == a) (filled_by grant c c.op) (copy setup a mine)
copy_filled h m c setup mine grant is a = fill_at h m c setup mine grant is a (line_of c.op == a) refl

-- a fill leaves a copy
pub filled_is_valid : (grant : Option NdrOp) (c : Commit) (op : Op) → is_valid (filled_by grant c op) ≡ true
filled_is_valid None c (Op.Load line) = refl
filled_is_valid (Some NdrOp.Cmp) c (Op.Load line) = refl
filled_is_valid (Some NdrOp.CmpS) c (Op.Load line) = refl
filled_is_valid (Some NdrOp.CmpE) c (Op.Load line) = refl
filled_is_valid (Some NdrOp.ConflictAck) c (Op.Load line) = refl
filled_is_valid grant c (Op.Word line place value) = refl
filled_is_valid grant c (Op.Whole line bytes) = refl

-- a write-back and an answer

-- the copy that a message for a line leaves
abbrev pub left_by : Message → Copy → Copy
left_by m old = cond (keeps_shared m) (shared old) no_copy

pub copy_written : (setup : Configuration) (h : ℕ) (l : ℕ) (m : Message) (mine : List Event) (a : ℕ)
    → copy setup a (act_event h (Act.WriteBack (record { 0 = l })) m ∷ mine) ≡ cond (l == a) (left_by m (copy setup a mine)) (copy setup a mine)
copy_written setup h l m mine a = refl

pub copy_answered : (setup : Configuration) (h : ℕ) (l : ℕ) (m : Message) (mine : List Event) (a : ℕ)
    → copy setup a (act_event h (Act.Answer (record { 0 = l })) m ∷ mine) ≡ cond (l == a) (left_by m (copy setup a mine)) (copy setup a mine)
copy_answered setup h l m mine a = refl

pub copy_block : (setup : Configuration) (h : ℕ) (l : ℕ) (m : Message) (mine : List Event) (a : ℕ)
    → copy setup a (act_event h (Act.AnswerBlock (record { 0 = l })) m ∷ mine) ≡ cond (is_in_whole_block l a mine) no_copy (copy setup a mine)
copy_block setup h l m mine a = refl

-- the ways after such an act are those that are still wanted
pub ways_written : (setup : Configuration) (h : ℕ) (l : ℕ) (m : Message) (mine : List Event)
    → ways setup (act_event h (Act.WriteBack (record { 0 = l })) m ∷ mine) ≡ filter (λ a. is_valid (cond (l == a) (left_by m (copy setup a mine)) (copy setup a mine)) || has_request a mine) (ways setup mine)
ways_written setup h l m mine = refl

pub ways_answered : (setup : Configuration) (h : ℕ) (l : ℕ) (m : Message) (mine : List Event)
    → ways setup (act_event h (Act.Answer (record { 0 = l })) m ∷ mine) ≡ filter (λ a. is_valid (cond (l == a) (left_by m (copy setup a mine)) (copy setup a mine)) || has_request a mine) (ways setup mine)
ways_answered setup h l m mine = refl

pub ways_block : (setup : Configuration) (h : ℕ) (l : ℕ) (m : Message) (mine : List Event)
    → ways setup (act_event h (Act.AnswerBlock (record { 0 = l })) m ∷ mine) ≡ filter (λ a. is_valid (cond (is_in_whole_block l a mine) no_copy (copy setup a mine)) || has_request a mine) (ways setup mine)
ways_block setup h l m mine = refl
