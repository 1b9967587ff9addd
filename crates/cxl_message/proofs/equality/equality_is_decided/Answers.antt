-- Each test decides: by the keys, or by its parts.
use Rattle.cxl_message.proofs.SameNames.{bytes_eq-same, channel_eq-same, same-bytes_eq, same-channel_eq}
use Rattle.cxl_message.proofs.SameMessages.{message_eq-same, same-message_eq}
use Rattle.cxl_message.proofs.SameEvents.{commit_eq-same, op_eq-same, out_eq-same, same-commit_eq, same-op_eq, same-out_eq, same-sends_eq, sends_eq-same}
use Rattle.cxl_message.proofs.equality.equality_is_decided.Goals as goal

pub returns-clause-messages : goal.returns-clause-messages
returns-clause-messages c = λ m n. (message_eq-same m n, same-message_eq m n)

pub returns-clause-sent : goal.returns-clause-sent
returns-clause-sent c = λ o p. (out_eq-same o p, same-out_eq o p)

pub returns-clause-sends : goal.returns-clause-sends
returns-clause-sends c = λ s t. (sends_eq-same s t, same-sends_eq s t)

pub returns-clause-operations : goal.returns-clause-operations
returns-clause-operations c = λ x y. (op_eq-same x y, same-op_eq x y)

pub returns-clause-commits : goal.returns-clause-commits
returns-clause-commits c = λ x y. (commit_eq-same x y, same-commit_eq x y)

pub returns-clause-channels : goal.returns-clause-channels
returns-clause-channels c = λ x y. (channel_eq-same x y, same-channel_eq x y)

pub returns-clause-lines : goal.returns-clause-lines
returns-clause-lines c = λ x y. (bytes_eq-same x y, same-bytes_eq x y)
