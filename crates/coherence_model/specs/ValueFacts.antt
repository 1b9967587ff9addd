-- After every run the flat memory's line stands where it should: in the writable copy, in a MemWr that wasn't served, or in memory.
use Rattle.std.specs.Prelude.{Bool, List, None, Option, Some, [], false, filter_map, flat_map, if◌then◌else◌, option_and_then, true, ℕ, ◌&&◌, ◌++◌, ◌==◌, ◌∷◌}
use Rattle.std.specs.List.{list_all}
use Rattle.std.specs.Option.{option_map_or}
use Rattle.cxl_message.specs.declared.channels.Channel.{Channel}
use Rattle.cxl_message.specs.declared.events.Event.{Event}
use Rattle.cxl_message.specs.declared.identifiers.Bytes64.{Bytes64}
use Rattle.cxl_message.specs.declared.identifiers.Line.{Line}
use Rattle.cxl_message.specs.declared.messages.Message.{Message}
use Rattle.cxl_message.specs.Codes.{bytes_eq}
use Rattle.cxl_message.specs.Lists.{below}
use Rattle.cxl_message.specs.Messages.{has_tag}
use Rattle.cxl_message.specs.Setup.{Configuration}
use Rattle.coherence_model.specs.Cache.{copy, has_copy, is_writable}
use Rattle.coherence_model.specs.FlatMemory.{flat_line}
use Rattle.coherence_model.specs.Flight.{in_flight}
use Rattle.coherence_model.specs.Memory.{memory, write_in}
use Rattle.coherence_model.specs.RequestFacts.{writes_under_way}
use Rattle.coherence_model.specs.Traces.{device, events_of, history}
use Rattle.coherence_model.specs.Transactions.{Transaction, is_read, open_at}
use Rattle.coherence_model.specs.Words.{implies}

-- the bytes of a MemWr of line a (CXL 3.1, ch. 3: the messages)
abbrev pub written_bytes : ℕ → Message → Option Bytes64
written_bytes a m = option_and_then (λ w. if w.0 == a then Some w.1 else None) (write_in m)

-- the bytes of host h's copy of line a, where it is writable (own rule)
abbrev pub writable_bytes : Configuration → List Event → ℕ → ℕ → List Bytes64
writable_bytes setup t a h = if is_writable setup a (events_of h t) then (copy setup a (events_of h t)).bytes ∷ [] else []

-- the bytes of line a that aren't memory's: of a writable copy, or of a MemWr that wasn't served (own rule)
abbrev pub dirty_bytes : Configuration → ℕ → List Event → List Bytes64
dirty_bytes setup a t =
    flat_map (writable_bytes setup t a) (below setup.hosts) ++ flat_map (λ h. filter_map (written_bytes a) (writes_under_way h t)) (below setup.hosts)

-- whether these bytes stand alone outside memory, or else in memory (own rule)
abbrev pub stands_alone : Bytes64 → Bytes64 → List Bytes64 → Bool
stands_alone v stored [] = bytes_eq stored v
stands_alone v stored (x ∷ []) = bytes_eq x v
stands_alone v stored (x ∷ y ∷ rest) = false

-- the bytes of a MemData (CXL 3.1, ch. 3: the messages)
abbrev pub data_in : Message → Option Bytes64
data_in (Message.Req _ _ _ _ _) = None
data_in (Message.MemWr _ _ _ _ _) = None
data_in (Message.BiConflict _) = None
data_in (Message.BiRsp _ _ _) = None
data_in (Message.Ndr _ _) = None
data_in (Message.MemData _ bytes) = Some bytes
data_in (Message.BiSnp _ _ _ _) = None
data_in (Message.Credit _) = None

-- whether a message isn't MemData with this tag and other bytes (own rule)
abbrev pub has_no_other_bytes : Bytes64 → ℕ → Message → Bool
has_no_other_bytes v tag m = implies (has_tag tag m) (option_map_or (bytes_eq v) (data_in m) true)

-- whether the MemData that is taken or in flight for host h's open read has these bytes (own rule)
abbrev pub data_has_bytes : Bytes64 → ℕ → List Event → Transaction → Bool
data_has_bytes v h t o =
    implies (is_read o.kind) (list_all (has_no_other_bytes v o.tag) (in_flight h Channel.Drs t) && option_map_or (bytes_eq v) o.bytes true)

-- whether host h's copy of line a, and the MemData for it that is taken or in flight, have these bytes (own rule)
abbrev pub host_has_bytes : Configuration → List Event → ℕ → Bytes64 → ℕ → Bool
host_has_bytes setup t a v h =
    implies (has_copy setup a (events_of h t)) (bytes_eq (copy setup a (events_of h t)).bytes v)
    && option_map_or (data_has_bytes v h t) (open_at a (events_of h t)) true

-- the flat memory's line stands in the writable copy, or else in a MemWr that wasn't served, or else in memory; each copy and each MemData has it too (own rule)
abbrev pub value_is_kept : Configuration → List (Line × Bytes64) → List Event → ℕ → Bool
value_is_kept setup opening t a =
    let v = flat_line opening a (history t) in
    stands_alone v (memory opening a (events_of device t)) (dirty_bytes setup a t) && list_all (host_has_bytes setup t a v) (below setup.hosts)

-- the value of every line is kept (own rule)
abbrev pub values_are_kept : Configuration → List (Line × Bytes64) → List Event → Bool
values_are_kept setup opening t = list_all (value_is_kept setup opening t) (below setup.lines)
