-- What an event is: its sends in order, and the tests that compare events.
use Rattle.std.specs.Prelude.{ℕ, Bool, true, false, List, [], ◌∷◌, Option, Some, None, ◌&&◌, ◌==◌, nat_eq}
use lib.Pointwise.{pointwise}
use Rattle.cxl_message.specs.declared.events.Act.{Act}
use Rattle.cxl_message.specs.declared.events.Op.{Op}
use Rattle.cxl_message.specs.declared.events.Out.{Out}
use Rattle.cxl_message.specs.declared.events.Sends.{Sends}
use Rattle.cxl_message.specs.declared.events.Commit.{Commit}
use Rattle.cxl_message.specs.Codes.{bytes_eq}
use Rattle.cxl_message.specs.Messages.{message_eq}

-- the messages that an event sends, in order
abbrev pub outs : Sends → List Out
outs Sends.Nothing = []
outs (Sends.One o) = o ∷ []
outs (Sends.Two o p) = o ∷ p ∷ []

-- the line of an operation
abbrev pub line_of : Op → ℕ
line_of (Op.Load line) = line.0
line_of (Op.Word line _ _) = line.0
line_of (Op.Whole line _) = line.0

-- whether an operation is a load
abbrev pub is_load : Op → Bool
is_load (Op.Load _) = true
is_load (Op.Word _ _ _) = false
is_load (Op.Whole _ _) = false

-- whether an operation stores a whole line
abbrev pub is_whole : Op → Bool
is_whole (Op.Load _) = false
is_whole (Op.Word _ _ _) = false
is_whole (Op.Whole _ _) = true

-- the Tag that an act names, if it names one
abbrev pub tag_of_act : Act → Option ℕ
tag_of_act (Act.Conflict _) = None
tag_of_act (Act.WriteBack _) = None
tag_of_act (Act.Answer _) = None
tag_of_act (Act.AnswerBlock _) = None
tag_of_act (Act.HostReturn _) = None
tag_of_act (Act.Serve _ tag) = Some tag.0
tag_of_act (Act.Clean _ tag) = Some tag.0
tag_of_act (Act.Start _ tag) = Some tag.0
tag_of_act (Act.Evict _ tag) = Some tag.0
tag_of_act (Act.Snoop _ _) = None
tag_of_act (Act.Finish _) = None
tag_of_act (Act.DeviceReturn _ _) = None

-- an operation as a list of numbers: its kind, then its fields (own rule)
abbrev pub op_key : Op → List ℕ
op_key (Op.Load line) = 1 ∷ line.0 ∷ []
op_key (Op.Word line place value) = 2 ∷ line.0 ∷ place ∷ value ∷ []
op_key (Op.Whole line bytes) = 3 ∷ line.0 ∷ bytes.0

-- whether two operations are the same
abbrev pub op_eq : Op → Op → Bool
op_eq x y = pointwise nat_eq (op_key x) (op_key y)

-- whether two sent messages are the same, hosts included
abbrev pub out_eq : Out → Out → Bool
out_eq o p = (o.host == p.host) && message_eq o.message p.message

-- whether two events send the same messages in the same order
abbrev pub sends_eq : Sends → Sends → Bool
sends_eq s t = pointwise out_eq (outs s) (outs t)

-- whether two commits are the same
abbrev pub commit_eq : Commit → Commit → Bool
commit_eq c d = (c.stream == d.stream) && (c.index == d.index) && op_eq c.op d.op && bytes_eq c.value d.value
