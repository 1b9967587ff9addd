-- What is kept, from its value and back, and what a take needs. All of it is an own rule.
use Rattle.std.specs.Prelude.{Bool, List, Option, [], false, length, slice_set, ℕ, ◌+◌, ◌<◌, ◌≡◌, ◌≤◌, ◌∷◌}
use Rattle.host_cache.specs.Caches.{Cache}
use Rattle.credit_rules.specs.Credits.{Credits}
use Rattle.held_snoops.specs.Held.{SnoopsRecord}
use Rattle.cxl_message.specs.declared.messages.Message.{Message}
use Rattle.cxl_message.specs.Setup.{Configuration}
use Rattle.cxl_message.specs.declared.events.Act.{Act}
use Rattle.cxl_message.specs.declared.events.Op.{Op}
use Rattle.cxl_message.specs.declared.opcodes.NdrOp.{NdrOp}
use Rattle.cxl_message.specs.declared.states.CopyState.{CopyState}
use Rattle.std.specs.Option.{option_map_or}
use Rattle.coherence_model.specs.Copies.{granted_state}
use Rattle.host_record.specs.HostRecord.{HostRecord, StreamPlace, view_in}
use Rattle.host_record.specs.View.{left_of, owed_of}
use Rattle.host_record.specs.Ways.{drop_way}
use Rattle.host_tables.specs.declared.streams.StreamPlace.TheInside.{Inside}

abbrev pub place_inside : StreamPlace → Inside
place_inside p = record { begun = p.begun; waits = p.waits }

-- tables and buffers fit the setup: a mark for each line, and room for as many snoops as there are credits, of which those held and
-- those owed for take no more; the purses hold the credits at most
pub record Fits (setup : Configuration) (cache : Cache) (busy : List Bool) (held : SnoopsRecord) (owed : ℕ) (req rwd bi_rsp : Credits) : Type 0 where
  pub ways : cache.room ≡ setup.ways
  pub lines : cache.lines ≡ setup.lines
  pub marks : length busy ≡ setup.lines
  pub credits : setup.credits ≤ 64
  pub room : held.room ≡ setup.credits
  pub few : length held.snoops + owed ≤ setup.credits
  pub req_limit : req.limit ≡ setup.credits
  pub rwd_limit : rwd.limit ≡ setup.credits
  pub bi_rsp_limit : bi_rsp.limit ≡ setup.credits

-- the state of a copy that a fill leaves: as it was granted for a Load, M for a store
abbrev pub state_filled : Option NdrOp → Op → CopyState
state_filled grant (Op.Load _) = option_map_or granted_state grant CopyState.E
state_filled grant (Op.Word _ _ _) = CopyState.M
state_filled grant (Op.Whole _ _) = CopyState.M

-- what is kept after a line of a whole block was answered
abbrev pub line_dropped : ℕ → HostRecord → HostRecord
line_dropped a k = record k { ways = drop_way a k.ways; busy = slice_set k.busy a false }

-- and after all its lines were
abbrev pub lines_dropped : List ℕ → HostRecord → HostRecord
lines_dropped [] k = k
lines_dropped (a ∷ ls) k = lines_dropped ls (line_dropped a k)

-- there is room for a message: for one more that is owed or held, or a credit is lacking
abbrev pub IsRoomy : Configuration → Message → HostRecord → Type 0
IsRoomy setup (Message.Req _ _ _ _ _) k = Unit {0}
IsRoomy setup (Message.MemWr _ _ _ _ _) k = Unit {0}
IsRoomy setup (Message.BiConflict _) k = Unit {0}
IsRoomy setup (Message.BiRsp _ _ _) k = Unit {0}
IsRoomy setup (Message.Ndr _ _) k = k.ndr_owed < setup.credits
IsRoomy setup (Message.MemData _ _) k = k.drs_owed < setup.credits
IsRoomy setup (Message.BiSnp _ _ line _) k = (line.0 < 65536) × (length k.snoops + k.bi_snp_owed < setup.credits)
IsRoomy setup (Message.Credit c) k = left_of (view_in k) c < setup.credits

-- a Credit that an act gives back is owed
abbrev pub IsOwed : Act → HostRecord → Type 0
IsOwed (Act.Conflict _) k = Unit {0}
IsOwed (Act.WriteBack _) k = Unit {0}
IsOwed (Act.Answer _) k = Unit {0}
IsOwed (Act.AnswerBlock _) k = Unit {0}
IsOwed (Act.HostReturn c) k = 1 ≤ owed_of (view_in k) c
IsOwed (Act.Serve _ _) k = Unit {0}
IsOwed (Act.Clean _ _) k = Unit {0}
IsOwed (Act.Start _ _) k = Unit {0}
IsOwed (Act.Evict _ _) k = Unit {0}
IsOwed (Act.Snoop _ _) k = Unit {0}
IsOwed (Act.Finish _) k = Unit {0}
IsOwed (Act.DeviceReturn _ _) k = Unit {0}
