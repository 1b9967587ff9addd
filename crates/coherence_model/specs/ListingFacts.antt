-- After every run copies are listed, and who is listed A has the line, gets it or gives it up.
use Rattle.std.specs.Prelude.{Bool, List, false, nat_le, not, true, ℕ, ◌&&◌, ◌==◌, ◌||◌}
use Rattle.std.specs.List.{list_all, list_any}
use Rattle.std.specs.Option.{option_map_or}
use Rattle.cxl_message.specs.declared.channels.Channel.{Channel}
use Rattle.cxl_message.specs.declared.events.Event.{Event}
use Rattle.cxl_message.specs.declared.opcodes.NdrOp.{NdrOp}
use Rattle.cxl_message.specs.Lists.{below}
use Rattle.cxl_message.specs.Setup.{Configuration}
use Rattle.coherence_model.specs.Cache.{has_copy, is_writable}
use Rattle.coherence_model.specs.Copies.{evicts}
use Rattle.coherence_model.specs.Directory.{Directory, is_listed, is_listed_any}
use Rattle.coherence_model.specs.DirectoryChanges.{directory}
use Rattle.coherence_model.specs.Flight.{in_flight}
use Rattle.coherence_model.specs.RequestFacts.{grant_count, ndr_count, requests_under_way, writes_under_way}
use Rattle.coherence_model.specs.SnoopFacts.{answers_line}
use Rattle.coherence_model.specs.Traces.{device, events_of}
use Rattle.coherence_model.specs.Transactions.{Transaction, is_request, open_at}
use Rattle.coherence_model.specs.Words.{implies}

-- whether host h's open request of line a passes the test (own rule)
abbrev pub open_request_is : (Transaction → Bool) → ℕ → ℕ → List Event → Bool
open_request_is p h a t = option_map_or (λ o. is_request o.kind && p o) (open_at a (events_of h t)) false

-- whether an NDR opcode is Cmp-E (CXL 3.1, ch. 3: the opcodes)
abbrev pub grants_ownership : NdrOp → Bool
grants_ownership NdrOp.Cmp = false
grants_ownership NdrOp.CmpS = false
grants_ownership NdrOp.CmpE = true
grants_ownership NdrOp.ConflictAck = false

-- whether a grant of line a is on its way to host h: it isn't taken whole (own rule)
abbrev pub is_granted_now : ℕ → ℕ → List Event → Bool
is_granted_now h a t = open_request_is (λ o. nat_le 1 (grant_count h t o)) h a t

-- whether that grant is a Cmp-E (own rule)
abbrev pub is_granted_ownership : ℕ → ℕ → List Event → Bool
is_granted_ownership h a t = open_request_is (λ o. nat_le 1 (ndr_count grants_ownership h o.tag t) || option_map_or grants_ownership o.grant false) h a t

-- whether host h gives line a up: an eviction or write-back that wasn't served or cleaned, or an answer in flight (own rule)
abbrev pub is_given_up : ℕ → ℕ → List Event → Bool
is_given_up h a t =
    list_any (evicts a) (requests_under_way h t) || list_any (evicts a) (writes_under_way h t)
    || list_any (answers_line h a (events_of device t)) (in_flight h Channel.BiRsp t)

-- whether every host but h is listed I for line a (own rule)
abbrev pub is_listed_alone : Configuration → Directory → ℕ → ℕ → Bool
is_listed_alone setup D h a = list_all (λ g. (g == h) || not (is_listed D a g)) (below setup.hosts)

-- a copy is listed, and a writable one, or a Cmp-E on its way, is listed A (own rule)
abbrev pub copy_is_listed : Configuration → Directory → List Event → ℕ → ℕ → Bool
copy_is_listed setup D t h a =
    implies (has_copy setup a (events_of h t)) (is_listed D a h)
    && implies (is_writable setup a (events_of h t) || is_granted_ownership h a t) (is_listed_any D a h)

-- who is listed A is listed alone, and has a copy, a grant on its way, or gives the line up (own rule)
abbrev pub owner_is_kept : Configuration → Directory → List Event → ℕ → ℕ → Bool
owner_is_kept setup D t h a =
    implies (is_listed_any D a h) (is_listed_alone setup D h a && (has_copy setup a (events_of h t) || is_granted_now h a t || is_given_up h a t))

-- the listing of host h for line a is kept (own rule)
abbrev pub listing_is_kept : Configuration → List Event → ℕ → ℕ → Bool
listing_is_kept setup t h a =
    let D = directory setup (events_of device t) in copy_is_listed setup D t h a && owner_is_kept setup D t h a

-- the listings of every host and line are kept (own rule)
abbrev pub listings_are_kept : Configuration → List Event → Bool
listings_are_kept setup t = list_all (λ h. list_all (listing_is_kept setup t h) (below setup.lines)) (below setup.hosts)
