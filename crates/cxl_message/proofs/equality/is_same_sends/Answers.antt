-- What the derived `==` answers is its test, which decides.
use Rattle.std.proofs.Common.{◌≡◌, sym, ◌∙◌}
use Rattle.cxl_message.proofs.SameSends.{sends_test, sends_test-same}
use Rattle.cxl_message.proofs.equality.is_same_sends.Goals as goal

pub returns : goal.returns
returns c =
    let first = c.args.first.now in
    let second = c.args.second.now in
    let answer : c.eq.result ≡ sends_test first second = c.eq.ensures in
    let decides = sends_test-same first second in
    (λ h. decides.0 (sym answer ∙ h), λ same. answer ∙ decides.1 same)
