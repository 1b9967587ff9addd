-- What a row sends and commits.
use Rattle.std.specs.Prelude.{None, Option, Some, ℕ}
use Rattle.cxl_message.specs.declared.events.Commit.{Commit}
use Rattle.cxl_message.specs.declared.events.Op.{Op}
use Rattle.cxl_message.specs.declared.events.Sends.{Sends}
use Rattle.cxl_message.specs.declared.identifiers.Bytes64.{Bytes64}
use Rattle.cxl_message.specs.declared.messages.Message.{Message}

-- the messages sent and the commit of one event
pub record Emission : Type 0 where
  pub sends : Sends
  pub commit : Option Commit

-- nothing is sent and nothing is committed
abbrev pub nothing : Emission
nothing = record { sends = Sends.Nothing; commit = None }

-- one message is sent, to or from host h
abbrev pub one_send : ℕ → Message → Emission
one_send h m = record { sends = Sends.One (record { host = h; message = m }); commit = None }

-- two messages are sent, to or from host h
abbrev pub two_sends : ℕ → Message → Message → Emission
two_sends h m n = record { sends = Sends.Two (record { host = h; message = m }) (record { host = h; message = n }); commit = None }

-- an operation of a stream is committed, with the line's bytes after it
abbrev pub one_commit : ℕ → ℕ → Op → Bytes64 → Emission
one_commit s i op value = record { sends = Sends.Nothing; commit = Some (record { stream = s; index = i; op = op; value = value }) }
