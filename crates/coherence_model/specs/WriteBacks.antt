-- Whether a host's write-back tag, the number equal to the setup's tags, is in use, by the host's own events, newest first.
use Rattle.std.specs.Prelude.{Bool, List, [], false, not, true, ℕ, ◌&&◌, ◌==◌, ◌||◌, ◌∷◌}
use Rattle.cxl_message.specs.declared.events.Act.{Act}
use Rattle.cxl_message.specs.declared.events.Cause.{Cause}
use Rattle.cxl_message.specs.declared.events.Event.{Event}
use Rattle.cxl_message.specs.declared.messages.Message.{Message}
use Rattle.cxl_message.specs.declared.opcodes.NdrOp.{NdrOp}
use Rattle.cxl_message.specs.Setup.{Configuration}

-- whether an act is a WriteBack (own rule)
abbrev pub writes_back : Act → Bool
writes_back (Act.Conflict _) = false
writes_back (Act.WriteBack _) = true
writes_back (Act.Answer _) = false
writes_back (Act.AnswerBlock _) = false
writes_back (Act.HostReturn _) = false
writes_back (Act.Serve _ _) = false
writes_back (Act.Clean _ _) = false
writes_back (Act.Start _ _) = false
writes_back (Act.Evict _ _) = false
writes_back (Act.Snoop _ _) = false
writes_back (Act.Finish _) = false
writes_back (Act.DeviceReturn _ _) = false

-- whether a cause is a WriteBack (own rule)
abbrev pub is_write_back : Cause → Bool
is_write_back (Cause.Op _ _ _) = false
is_write_back (Cause.Take _ _) = false
is_write_back (Cause.Act act) = writes_back act

-- whether an NDR opcode is Cmp (CXL 3.1, ch. 3: the opcodes)
abbrev pub completes : NdrOp → Bool
completes NdrOp.Cmp = true
completes NdrOp.CmpS = false
completes NdrOp.CmpE = false
completes NdrOp.ConflictAck = false

-- whether a message is the Cmp with this tag (CXL 3.1, ch. 3: the messages)
abbrev pub is_completion_with : ℕ → Message → Bool
is_completion_with tag (Message.Req _ _ _ _ _) = false
is_completion_with tag (Message.MemWr _ _ _ _ _) = false
is_completion_with tag (Message.BiConflict _) = false
is_completion_with tag (Message.BiRsp _ _ _) = false
is_completion_with tag (Message.Ndr op t) = completes op && (t.0 == tag)
is_completion_with tag (Message.MemData _ _) = false
is_completion_with tag (Message.BiSnp _ _ _ _) = false
is_completion_with tag (Message.Credit _) = false

-- whether the Cmp with this tag is taken (CXL 3.1, ch. 3: the messages)
abbrev pub takes_completion : ℕ → Cause → Bool
takes_completion tag (Cause.Op _ _ _) = false
takes_completion tag (Cause.Take _ m) = is_completion_with tag m
takes_completion tag (Cause.Act _) = false

-- whether the write-back tag is in use: from a WriteBack until its Cmp is taken (own rule)
abbrev pub is_write_back_open : Configuration → List Event → Bool
is_write_back_open setup [] = false
is_write_back_open setup (e ∷ past) = not (takes_completion setup.tags e.cause) && (is_write_back e.cause || is_write_back_open setup past)
