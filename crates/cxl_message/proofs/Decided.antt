-- A test that holds exactly where both are the same is the model's test of equality.
use Rattle.std.proofs.Common.{◌≡◌, Bool, true, false, IsTrue, Option, refl, sym}
use Rattle.std.specs.Prelude.{◌↔◌}
use Rattle.std.specs.Option.{option_eq}
use Rattle.cxl_message.specs.declared.events.Commit.{Commit}
use Rattle.cxl_message.specs.declared.events.Op.{Op}
use Rattle.cxl_message.specs.declared.events.Out.{Out}
use Rattle.cxl_message.specs.declared.events.Sends.{Sends}
use Rattle.cxl_message.specs.declared.messages.Message.{Message}
use Rattle.cxl_message.specs.Events.{commit_eq, op_eq, out_eq, sends_eq}
use Rattle.cxl_message.specs.Messages.{message_eq}
use Rattle.cxl_message.proofs.SameEvents.{commit_eq-same, commits_same, op_eq-same, out_eq-same, same-commit_eq, same-op_eq, same-out_eq, same-sends_eq, same_commits, sends_eq-same}
use Rattle.cxl_message.proofs.SameMessages.{message_eq-same, same-message_eq}

-- two tests of the same thing agree
agree : {A : Type 0} (x y : A) (a b : Bool) → (IsTrue a ↔ (x ≡ y)) → (IsTrue b → x ≡ y) → (x ≡ y → IsTrue b) → a ≡ b
agree x y true b h from to = sym (to (h.0 refl))
agree x y false true h from to = h.1 (from refl)
agree x y false false h from to = refl

pub message_decided : (a : Bool) (m n : Message) → (IsTrue a ↔ (m ≡ n)) → a ≡ message_eq m n
message_decided a m n h = agree m n a _ h (message_eq-same m n) (same-message_eq m n)

pub op_decided : (a : Bool) (x y : Op) → (IsTrue a ↔ (x ≡ y)) → a ≡ op_eq x y
op_decided a x y h = agree x y a _ h (op_eq-same x y) (same-op_eq x y)

pub out_decided : (a : Bool) (o p : Out) → (IsTrue a ↔ (o ≡ p)) → a ≡ out_eq o p
out_decided a o p h = agree o p a _ h (out_eq-same o p) (same-out_eq o p)

pub sends_decided : (a : Bool) (s t : Sends) → (IsTrue a ↔ (s ≡ t)) → a ≡ sends_eq s t
sends_decided a s t h = agree s t a _ h (sends_eq-same s t) (same-sends_eq s t)

pub commit_decided : (a : Bool) (c d : Commit) → (IsTrue a ↔ (c ≡ d)) → a ≡ commit_eq c d
commit_decided a c d h = agree c d a _ h (commit_eq-same c d) (same-commit_eq c d)

pub commits_decided : (a : Bool) (c d : Option Commit) → (IsTrue a ↔ (c ≡ d)) → a ≡ option_eq commit_eq c d
commits_decided a c d h = agree c d a _ h (commits_same c d) (same_commits c d)
