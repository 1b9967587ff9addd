-- The rows H1 and H2 of a host: what an operation sends and commits after the host's own events, newest first. None where the row's condition fails.
use Rattle.std.specs.Prelude.{Bool, List, None, Option, Some, [], if◌then◌else◌, option_and_then, ℕ, ◌∷◌}
use Rattle.cxl_message.specs.declared.events.Event.{Event}
use Rattle.cxl_message.specs.declared.events.Op.{Op}
use Rattle.cxl_message.specs.declared.messages.Message.{Message}
use Rattle.cxl_message.specs.declared.opcodes.Meta.{Meta}
use Rattle.cxl_message.specs.declared.opcodes.ReqOp.{ReqOp}
use Rattle.cxl_message.specs.declared.opcodes.SnpType.{SnpType}
use Rattle.cxl_message.specs.Events.{is_load, line_of}
use Rattle.cxl_message.specs.Setup.{Configuration}
use Rattle.coherence_model.specs.Cache.{copy, has_copy, is_modified, is_writable, needs_victim, victim_way}
use Rattle.coherence_model.specs.Emission.{Emission, one_commit, one_send, two_sends}
use Rattle.cxl_message.specs.Stores.{line_after}
use Rattle.coherence_model.specs.Snoops.{is_quiet}
use Rattle.coherence_model.specs.Tags.{free_tags}
use Rattle.coherence_model.specs.Words.{when}

-- whether an operation hits: a Load on any copy, a Word or Whole on a writable one (own rule)
abbrev pub hits : Configuration → Op → List Event → Bool
hits setup op mine = if is_load op then has_copy setup (line_of op) mine else is_writable setup (line_of op) mine

-- H1: an operation that hits commits at once, where its line is neither Open nor Snooped (own rule)
abbrev pub h1_hit : Configuration → ℕ → ℕ → Op → List Event → Option Emission
h1_hit setup s i op mine = when (is_quiet (line_of op) mine) (one_commit s i op (line_after op (copy setup (line_of op) mine).bytes))

-- the request of an operation that doesn't hit (CXL 3.1, ch. 3: MemRd and MemInv; own rule: which operation sends which)
abbrev pub request_message : Op → ℕ → Message
request_message (Op.Load line) tag = Message.Req ReqOp.MemRd Meta.Shared SnpType.SnpData (record { 0 = tag }) line
request_message (Op.Word line _ _) tag = Message.Req ReqOp.MemRd Meta.Any SnpType.SnpInv (record { 0 = tag }) line
request_message (Op.Whole line _) tag = Message.Req ReqOp.MemInv Meta.Any SnpType.SnpInv (record { 0 = tag }) line

-- the eviction of a writable copy: MemWr with its bytes for M, MemClnEvct for E (CXL 3.1, ch. 3; own rule: the fields)
abbrev pub eviction_message : Configuration → ℕ → List Event → ℕ → Message
eviction_message setup v mine tag =
    if is_modified setup v mine
    then Message.MemWr Meta.Invalid SnpType.NoOp (record { 0 = tag }) (record { 0 = v }) (copy setup v mine).bytes
    else Message.Req ReqOp.MemClnEvct Meta.Invalid SnpType.NoOp (record { 0 = tag }) (record { 0 = v })

-- a request alone takes the lowest free tag (own rule)
abbrev pub request_alone : ℕ → Op → List ℕ → Option Emission
request_alone h op [] = None
request_alone h op (t ∷ ts) = Some (one_send h (request_message op t))

-- an eviction and a request take the two lowest free tags, the eviction the lower one (own rule)
abbrev pub request_evicting : Configuration → ℕ → Op → ℕ → List Event → List ℕ → Option Emission
request_evicting setup h op v mine [] = None
request_evicting setup h op v mine (t ∷ []) = None
request_evicting setup h op v mine (t ∷ u ∷ ts) = Some (two_sends h (eviction_message setup v mine t) (request_message op u))

-- a request that takes the victim's way: a writable copy is evicted, a shared one is dropped without a message (own rule)
abbrev pub request_with_victim : Configuration → ℕ → Op → List Event → ℕ → Option Emission
request_with_victim setup h op mine v =
    if is_writable setup v mine then request_evicting setup h op v mine (free_tags setup mine) else request_alone h op (free_tags setup mine)

-- the messages of an operation that doesn't hit (own rule)
abbrev pub request_emission : Configuration → ℕ → Op → List Event → Option Emission
request_emission setup h op mine =
    if needs_victim setup (line_of op) mine
    then option_and_then (request_with_victim setup h op mine) (victim_way setup mine)
    else request_alone h op (free_tags setup mine)

-- H2: any other operation sends its request, where its line is neither Open nor Snooped, and an eviction where one is needed (own rule)
abbrev pub h2_request : Configuration → ℕ → Op → List Event → Option Emission
h2_request setup h op mine = if is_quiet (line_of op) mine then request_emission setup h op mine else None

-- what an operation brings: H1 where it hits, else H2 (own rule)
abbrev pub host_operates : Configuration → ℕ → ℕ → ℕ → Op → List Event → Option Emission
host_operates setup h s i op mine = if hits setup op mine then h1_hit setup s i op mine else h2_request setup h op mine
