-- The MemWr messages of a tag.
use Rattle.std.specs.Prelude.{Bool, false, ℕ, ◌==◌}
use Rattle.cxl_message.specs.declared.messages.Message.{Message}

-- whether a message is a MemWr with this tag (CXL 3.1, ch. 3: the messages)
abbrev pub is_write_of : ℕ → Message → Bool
is_write_of tag (Message.Req _ _ _ _ _) = false
is_write_of tag (Message.MemWr _ _ t _ _) = t.0 == tag
is_write_of tag (Message.BiConflict _) = false
is_write_of tag (Message.BiRsp _ _ _) = false
is_write_of tag (Message.Ndr _ _) = false
is_write_of tag (Message.MemData _ _) = false
is_write_of tag (Message.BiSnp _ _ _ _) = false
is_write_of tag (Message.Credit _) = false
