-- The derived `==` of what two events send holds exactly where both are the same: message by message.
use Rattle.std.proofs.Common.{◌≡◌, Bool, IsTrue, ap, refl, rules, subst, ◌∙◌}
use Rattle.std.specs.Prelude.{◌↔◌}
use Rattle.std.proofs.lemmas.Bool.{and_from, and_parts, eq-eqb, eqb-true}
use Rattle.cxl_message.specs.declared.events.Out.{Out}
use Rattle.cxl_message.specs.declared.events.Sends.{Sends}
use Rattle.cxl_message.specs.declared.messages.Message.{Message}
use Rattle.cxl_message.specs.contracts.events.OutPartialEq.TheImpl as outs
use Rattle.cxl_message.specs.contracts.events.SendsPartialEq.TheImpl as sends
use Rattle.cxl_message.specs.contracts.messages.MessagePartialEq.TheImpl as messages

-- the derived tests
message_test : Message → Message → Bool
message_test m n = messages.ghosts.eq m n

out_test : Out → Out → Bool
out_test o p = outs.ghosts.eq o p

abbrev pub sends_test : Sends → Sends → Bool
sends_test s t = sends.ghosts.eq s t

tested-same_message : (m n : Message) → IsTrue (message_test m n) → m ≡ n
unfolding message_test
tested-same_message m n = search rules

message-tested : (m : Message) → IsTrue (message_test m m)
unfolding message_test
message-tested (Message.Req op meta snp tag line) = search rules
message-tested (Message.MemWr meta snp tag line bytes) = search rules
message-tested (Message.BiConflict tag) = search rules
message-tested (Message.BiRsp op bitag low) = search rules
message-tested (Message.Ndr op tag) = search rules
message-tested (Message.MemData tag bytes) = search rules
message-tested (Message.BiSnp op bitag line span) = search rules
message-tested (Message.Credit channel) = search rules

tested-same_out : (o p : Out) → IsTrue (out_test o p) → o ≡ p
unfolding out_test message_test
tested-same_out o p h =
    let parts = and_parts _ _ h in
    ap {B = Out} (λ host. record { host = host; message = o.message }) (eqb-true o.host p.host parts.0)
    ∙ ap {B = Out} (λ message. record { host = p.host; message = message }) (tested-same_message o.message p.message parts.1)

out-tested : (o : Out) → IsTrue (out_test o o)
unfolding out_test message_test
out-tested o = and_from _ _ (eq-eqb o.host o.host refl) (message-tested o.message)

tested-same : (s t : Sends) → IsTrue (sends_test s t) → s ≡ t
unfolding out_test
tested-same Sends.Nothing Sends.Nothing h = refl
tested-same Sends.Nothing (Sends.One p) h = cc
tested-same Sends.Nothing (Sends.Two p q) h = cc
tested-same (Sends.One o) Sends.Nothing h = cc
tested-same (Sends.One o) (Sends.One p) h = ap {B = Sends} Sends.One (tested-same_out o p h)
tested-same (Sends.One o) (Sends.Two p q) h = cc
tested-same (Sends.Two n o) Sends.Nothing h = cc
tested-same (Sends.Two n o) (Sends.One p) h = cc
tested-same (Sends.Two n o) (Sends.Two p q) h =
    let parts = and_parts _ _ h in
    let first = tested-same_out n p parts.0 in
    let second = tested-same_out o q parts.1 in
    cc

tested : (s : Sends) → IsTrue (sends_test s s)
unfolding out_test
tested Sends.Nothing = refl
tested (Sends.One o) = out-tested o
tested (Sends.Two o p) = and_from _ _ (out-tested o) (out-tested p)

-- `==` decides
pub sends_test-same : (s t : Sends) → IsTrue (sends_test s t) ↔ (s ≡ t)
sends_test-same s t = (tested-same s t, λ h. subst (λ x. IsTrue (sends_test s x)) h (tested s))
