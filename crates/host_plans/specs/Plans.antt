-- How an operation of a host goes, by what is kept. All of it is an own rule.
use Rattle.std.specs.Prelude.{Bool, Err, List, None, Ok, Option, Result, Some, false, find, if◌then◌else◌, is_some, length, map, nat_le, nat_lt, not, true, option_and_then, option_map, ℕ, ◌&&◌, ◌+◌, ◌-◌, ◌<◌, ◌==◌, ◌||◌, ◌≡◌}
use Rattle.std.specs.List.{range_with_len}
use Rattle.cxl_message.specs.declared.events.Op.{Op}
use Rattle.cxl_message.specs.declared.identifiers.Line.{Line}
use Rattle.cxl_message.specs.declared.identifiers.Tag.{Tag}
use Rattle.cxl_message.specs.declared.messages.Message.{Message}
use Rattle.cxl_message.specs.declared.opcodes.Meta.{Meta}
use Rattle.cxl_message.specs.declared.opcodes.ReqOp.{ReqOp}
use Rattle.cxl_message.specs.declared.opcodes.SnpType.{SnpType}
use Rattle.cxl_message.specs.Events.{line_of}
use Rattle.cxl_message.specs.Setup.{Configuration}
use Rattle.coherence_model.specs.Emission.{Emission, one_commit, one_send, two_sends}
use Rattle.cxl_message.specs.Stores.{line_after}
use Rattle.coherence_model.specs.HostOperations.{request_message}
use Rattle.coherence_model.specs.Transactions.{Transaction}
use Rattle.host_record.specs.Tables.{lookup, place_or}
use Rattle.host_record.specs.ViewRows.{hits_copy, is_dirty, may_write}
use Rattle.host_record.specs.Ways.{Way, copy_in, drop_way, has_way}
use Rattle.host_plans.specs.declared.plans.Plan.{Plan}
use Rattle.host_plans.specs.declared.plans.Unplanned.{Unplanned}

-- ---- what a plan is made of

-- the Tag of a number
abbrev pub tag_named : ℕ → Tag
tag_named n = record { 0 = n }

-- whether a Tag is free
abbrev pub is_spare : List (Option Transaction) → List Bool → ℕ → Bool
is_spare opened conflicts t = not (is_some (lookup opened t) || place_or false conflicts t)

-- the lowest free Tag
abbrev pub first_spare : List (Option Transaction) → List Bool → ℕ → Option ℕ
first_spare opened conflicts tags = find (is_spare opened conflicts) (range_with_len 0 (tags - 0))

-- the lowest free Tag after the lowest
abbrev pub second_spare : List (Option Transaction) → List Bool → ℕ → Option ℕ
second_spare opened conflicts tags = option_and_then (λ t. find (is_spare opened conflicts) (range_with_len (t + 1) (tags - (t + 1)))) (first_spare opened conflicts tags)

-- whether a line has no way and there is none free
abbrev pub lacks_room_in : ℕ → List Way → ℕ → Bool
lacks_room_in room ways a = nat_le room (length ways) && not (has_way a ways)

-- the line of the first idle way
abbrev pub idle_way : List Bool → List Way → Option ℕ
idle_way busy ways = find (λ a. not (place_or false busy a)) (map (λ w. w.line) ways)

-- ---- the plan

-- a request alone takes the lowest free Tag
abbrev pub requesting : Option Tag → Result Plan Unplanned
requesting None = Err Unplanned.NoTag
requesting (Some t) = Ok (Plan.Request t)

-- no way is idle
abbrev pub waiting : Option Tag → Result Plan Unplanned
waiting None = Err Unplanned.NoTag
waiting (Some t) = Err Unplanned.NoWay

-- a shared victim is dropped
abbrev pub dropping : Line → Option Tag → Result Plan Unplanned
dropping victim None = Err Unplanned.NoTag
dropping victim (Some t) = Ok (Plan.Drop victim t)

-- a writable victim is evicted with the lower Tag
abbrev pub replacing : Line → Option Tag → Option Tag → Result Plan Unplanned
replacing victim None second = Err Unplanned.NoTag
replacing victim (Some t) None = Err Unplanned.NoTag
replacing victim (Some t) (Some u) = Ok (Plan.Replace victim t u)

-- the plan of an operation that takes a victim's way
abbrev pub taking : (ℕ → Bool) → Option Tag → Option Tag → Option ℕ → Result Plan Unplanned
taking writable first second None = waiting first
taking writable first second (Some b) = if writable b then replacing (record { 0 = b }) first second else dropping (record { 0 = b }) first

-- the plan of an operation that doesn't hit
abbrev pub missing : Bool → Option ℕ → (ℕ → Bool) → Option Tag → Option Tag → Result Plan Unplanned
missing lacks victim writable first second = if lacks then taking writable first second victim else requesting first

-- the plan of an operation, by what it finds
abbrev pub plan_with : Bool → Bool → Bool → Bool → Option ℕ → (ℕ → Bool) → Option Tag → Option Tag → Result Plan Unplanned
plan_with exists busy hit lacks victim writable first second =
    if not exists then Err Unplanned.NoSuchLine
    else (if busy then Err Unplanned.Again
    else (if hit then Ok Plan.Hit
    else missing lacks victim writable first second))

-- the plan of an operation, by what is kept
abbrev pub planned : Configuration → List Way → List Bool → List (Option Transaction) → List Bool → Op → Result Plan Unplanned
planned setup ways busy opened conflicts op =
    plan_with (nat_lt (line_of op) setup.lines) (place_or false busy (line_of op)) (hits_copy op (copy_in ways (line_of op)))
    (lacks_room_in setup.ways ways (line_of op)) (idle_way busy ways) (λ b. may_write (copy_in ways b))
    (option_map tag_named (first_spare opened conflicts setup.tags)) (option_map tag_named (second_spare opened conflicts setup.tags))

-- ---- what it sends and commits

-- the eviction of a writable copy
abbrev pub eviction_in : List Way → ℕ → ℕ → Message
eviction_in ways a tag =
    if is_dirty (copy_in ways a)
    then Message.MemWr Meta.Invalid SnpType.NoOp (record { 0 = tag }) (record { 0 = a }) (copy_in ways a).bytes
    else Message.Req ReqOp.MemClnEvct Meta.Invalid SnpType.NoOp (record { 0 = tag }) (record { 0 = a })

-- what an operation sends and commits by its plan
abbrev pub planned_emission : ℕ → ℕ → ℕ → List Way → Op → Plan → Emission
planned_emission h s i ways op Plan.Hit = one_commit s i op (line_after op (copy_in ways (line_of op)).bytes)
planned_emission h s i ways op (Plan.Request tag) = one_send h (request_message op tag.0)
planned_emission h s i ways op (Plan.Drop victim tag) = one_send h (request_message op tag.0)
planned_emission h s i ways op (Plan.Replace victim lower tag) = two_sends h (eviction_in ways victim.0 lower.0) (request_message op tag.0)

-- ---- what a plan that was made knows

-- a line without a way may be given one
abbrev pub HasRoomFor : ℕ → List Way → ℕ → Type 0
HasRoomFor room ways a = has_way a ways ≡ false → length ways < room

-- a line keeps its way or takes a free one: nothing is dropped
pub record KeepsWay (room lines : ℕ) (ways : List Way) (a : ℕ) : Type 0 where
  pub exists : a < lines
  pub has_room : lacks_room_in room ways a ≡ false
  pub fits : HasRoomFor room ways a

-- a line takes the way of the first idle one
pub record TakesWay (room lines : ℕ) (ways : List Way) (busy : List Bool) (a victim : ℕ) : Type 0 where
  pub exists : a < lines
  pub lacks_room : lacks_room_in room ways a ≡ true
  pub idle : idle_way busy ways ≡ Some victim
  pub stands : has_way victim ways ≡ true
  pub fits : HasRoomFor room (drop_way victim ways) a

-- what is known with a plan
abbrev pub PlanHolds : ℕ → ℕ → List Way → List Bool → Op → Plan → Type 0
PlanHolds room lines ways busy op Plan.Hit = line_of op < lines
PlanHolds room lines ways busy op (Plan.Request tag) = KeepsWay room lines ways (line_of op)
PlanHolds room lines ways busy op (Plan.Drop victim tag) = TakesWay room lines ways busy (line_of op) victim.0
PlanHolds room lines ways busy op (Plan.Replace victim lower tag) = TakesWay room lines ways busy (line_of op) victim.0
