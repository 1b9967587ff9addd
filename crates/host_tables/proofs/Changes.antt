-- What an operation that goes by its plan changes.
use Rattle.std.proofs.Common.{Bool, List, None, Option, Some, [], ap, cond, false, length, map, refl, suc, subst, sym, true, ℕ, ◌∙◌, ◌∷◌, ◌≡◌}
use Rattle.std.specs.Prelude.{nat_le, not, ◌&&◌, ◌==◌, ◌||◌}
use Rattle.cxl_message.specs.declared.events.Op.{Op}
use Rattle.cxl_message.specs.declared.identifiers.Line.{Line}
use Rattle.cxl_message.specs.declared.identifiers.Tag.{Tag}
use Rattle.cxl_message.specs.declared.messages.Message.{Message}
use Rattle.cxl_message.specs.declared.opcodes.Meta.{Meta}
use Rattle.cxl_message.specs.declared.opcodes.ReqOp.{ReqOp}
use Rattle.cxl_message.specs.declared.opcodes.SnpType.{SnpType}
use Rattle.cxl_message.specs.Events.{line_of}
use Rattle.cxl_message.specs.Lists.{is_in}
use Rattle.cxl_message.specs.Messages.{line_in}
use Rattle.cxl_message.specs.Setup.{Configuration}
use Rattle.coherence_model.specs.Emission.{Emission}
use Rattle.host_record.specs.HostChanges.{dropped_by, operated, pay_all, stream_begins}
use Rattle.host_record.specs.HostRecord.{HostRecord, view_in}
use Rattle.host_record.specs.ViewRows.{is_dirty, victim}
use Rattle.host_record.specs.Ways.{Way, add_way, copy_in, drop_way_of, has_way}
use Rattle.host_plans.specs.declared.plans.Plan.{Plan}
use Rattle.host_plans.specs.Plans.{KeepsWay, TakesWay, eviction_in, lacks_room_in, planned_emission}
use Rattle.host_tables.specs.Operating.{opened_all}

has_line : (a : ℕ) (ways : List Way) → has_way a ways ≡ is_in a (map (λ w. w.line) ways)
has_line a [] = refl
has_line a (w ∷ ways) = ap (λ b. (a == w.line) || b) (has_line a ways)

as_many : (ways : List Way) → length ways ≡ length (map (λ w. w.line) ways)
as_many [] = refl
as_many (w ∷ ways) = ap suc (as_many ways)

and_swapped : (p q : Bool) → (p && q) ≡ (q && p)
and_swapped true true = refl
and_swapped true false = refl
and_swapped false true = refl
and_swapped false false = refl

lacks_is : (room a : ℕ) (ways : List Way) → (not (is_in a (map (λ w. w.line) ways)) && nat_le room (length (map (λ w. w.line) ways))) ≡ lacks_room_in room ways a
lacks_is room a ways = (λ i. not (sym (has_line a ways) i) && nat_le room (sym (as_many ways) i)) ∙ and_swapped (not (has_way a ways)) (nat_le room (length ways))

-- nothing is dropped where the line keeps its way
pub none_dropped : (setup : Configuration) (k : HostRecord) (a : ℕ) → KeepsWay setup.ways setup.lines k.ways a → dropped_by setup a k ≡ None
none_dropped setup k a keeps = ap (λ b. cond b (victim (view_in k)) None) (lacks_is setup.ways a k.ways ∙ keeps.has_room)

-- the first idle way is dropped where the line takes one
pub one_dropped : (setup : Configuration) (k : HostRecord) (a v : ℕ) → TakesWay setup.ways setup.lines k.ways k.busy a v → dropped_by setup a k ≡ Some v
one_dropped setup k a v takes = ap (λ b. cond b (victim (view_in k)) None) (lacks_is setup.ways a k.ways ∙ takes.lacks_room) ∙ takes.idle

named_by : (b : Bool) (m n : Message) (v : ℕ) → line_in m ≡ Some v → line_in n ≡ Some v → line_in (cond b m n) ≡ Some v
named_by true m n v is other = is
named_by false m n v is other = other

evicts : (ways : List Way) (v t : ℕ) → line_in (eviction_in ways v t) ≡ Some v
evicts ways v t =
    named_by (is_dirty (copy_in ways v)) (Message.MemWr Meta.Invalid SnpType.NoOp (record { 0 = t }) (record { 0 = v }) (copy_in ways v).bytes)
    (Message.Req ReqOp.MemClnEvct Meta.Invalid SnpType.NoOp (record { 0 = t }) (record { 0 = v })) v refl refl

-- the record after the ways and the stream of an operation that sends were changed
abbrev pub entered : ℕ → ℕ → Option ℕ → HostRecord → HostRecord
entered s a dropped k = record k { ways = add_way a (drop_way_of dropped k.ways); streams = stream_begins s true k.streams }

pub request_goes : (setup : Configuration) (h s i : ℕ) (op : Op) (k : HostRecord) (tag : Tag) (w : Emission) → KeepsWay setup.ways setup.lines k.ways (line_of op) → w ≡ (planned_emission h s i k.ways op (Plan.Request tag))
    → pay_all w.sends (opened_all s i op w.sends (entered s (line_of op) None k)) ≡ operated setup s i op w.sends w.commit k
request_goes setup h s i op k tag w keeps is =
    subst (λ (x : Emission). pay_all x.sends (opened_all s i op x.sends (entered s (line_of op) None k)) ≡ operated setup s i op x.sends x.commit k) (sym is)
    (ap (λ d. pay_all (planned_emission h s i k.ways op (Plan.Request tag)).sends (opened_all s i op (planned_emission h s i k.ways op (Plan.Request tag)).sends (entered s (line_of op) d k))) (sym (none_dropped setup k (line_of op) keeps)))

pub drop_goes : (setup : Configuration) (h s i : ℕ) (op : Op) (k : HostRecord) (victim : Line) (tag : Tag) (w : Emission) → TakesWay setup.ways setup.lines k.ways k.busy (line_of op) victim.0
    → w ≡ (planned_emission h s i k.ways op (Plan.Drop victim tag))
    → pay_all w.sends (opened_all s i op w.sends (entered s (line_of op) (Some victim.0) k)) ≡ operated setup s i op w.sends w.commit k
drop_goes setup h s i op k victim tag w takes is =
    subst (λ (x : Emission). pay_all x.sends (opened_all s i op x.sends (entered s (line_of op) (Some victim.0) k)) ≡ operated setup s i op x.sends x.commit k) (sym is)
    (ap (λ d. pay_all (planned_emission h s i k.ways op (Plan.Drop victim tag)).sends (opened_all s i op (planned_emission h s i k.ways op (Plan.Drop victim tag)).sends (entered s (line_of op) d k))) (sym (one_dropped setup k (line_of op) victim.0 takes)))

pub replace_goes : (setup : Configuration) (h s i : ℕ) (op : Op) (k : HostRecord) (victim : Line) (lower tag : Tag) (w : Emission) → w ≡ (planned_emission h s i k.ways op (Plan.Replace victim lower tag))
    → pay_all w.sends (opened_all s i op w.sends (entered s (line_of op) (Some victim.0) k)) ≡ operated setup s i op w.sends w.commit k
replace_goes setup h s i op k victim lower tag w is =
    subst (λ (x : Emission). pay_all x.sends (opened_all s i op x.sends (entered s (line_of op) (Some victim.0) k)) ≡ operated setup s i op x.sends x.commit k) (sym is)
    (ap (λ d. pay_all (planned_emission h s i k.ways op (Plan.Replace victim lower tag)).sends (opened_all s i op (planned_emission h s i k.ways op (Plan.Replace victim lower tag)).sends (entered s (line_of op) d k))) (sym (evicts k.ways victim.0 lower.0)))
