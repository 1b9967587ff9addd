-- Nothing is allowed for a buffered request whose line is held.
use Rattle.std.proofs.Common.{◌≡◌, ℕ, Bool, true, false, [], Option, Some, refl, ap, ◌∙◌}
use Rattle.std.specs.Prelude.{is_some, not, option_and_then, ◌&&◌}
use Rattle.cxl_message.specs.declared.events.Act.{Act}
use Rattle.cxl_message.specs.declared.identifiers.Tag.{Tag}
use Rattle.cxl_message.specs.declared.messages.Message.{Message}
use Rattle.cxl_message.specs.declared.opcodes.NdrOp.{NdrOp}
use Rattle.cxl_message.specs.Setup.{Configuration}
use Rattle.coherence_model.specs.Copies.{asks_for_grant}
use Rattle.coherence_model.specs.DeviceActs.{Request}
use Rattle.coherence_model.specs.Emission.{nothing, one_send}
use Rattle.coherence_model.specs.Words.{when}
use Rattle.device_record.specs.Acts.{act_if, acts_or}
use Rattle.device_record.specs.Answers.{clean_of, clean_row, evict_of, evict_row, has_room_in, request_of, start_of, start_row, wants_eviction_in}
use Rattle.device_record.specs.Record.{DeviceRecord, WaitingRequest, request_with, requests_at}
use Rattle.snoop_filter.specs.Rows.{held_in}
use Rattle.snoop_filter.specs.Victims.{victim_in}
use Rattle.device_acts.proofs.Tasks.{act_by}

second_fails : (a : Bool) → a && false ≡ false
second_fails true = refl
second_fails false = refl

second_of_three : (a b : Bool) → a && false && b ≡ false
second_of_three true b = refl
second_of_three false b = refl

second_of_four : (a b c : Bool) → a && false && b && c ≡ false
second_of_four true b c = refl
second_of_four false b c = refl

no_clean :
    (setup : Configuration) (k : DeviceRecord) (h : ℕ) (tag : Tag) (w : WaitingRequest) (r : Request) → request_with tag.0 (requests_at h k.requests) ≡ Some w → request_of w ≡ Some r
    → held_in r.line k.filter.rows ≡ true → act_if setup k (Act.Clean h tag) ≡ []
no_clean setup k h tag w r found is held =
    let act = Act.Clean h tag in
    ap (λ (o : Option WaitingRequest). act_by k.credits act (option_and_then (clean_row h k.filter.rows) o)) found
    ∙ ap (λ (o : Option Request). act_by k.credits act (option_and_then (clean_of h k.filter.rows) o)) is
    ∙ ap (λ (b : Bool). act_by k.credits act (when (not (asks_for_grant r.op) && not b) (one_send h (Message.Ndr NdrOp.Cmp r.tag)))) held
    ∙ ap (λ (b : Bool). act_by k.credits act (when b (one_send h (Message.Ndr NdrOp.Cmp r.tag)))) (second_fails (not (asks_for_grant r.op)))

no_start :
    (setup : Configuration) (k : DeviceRecord) (h : ℕ) (tag : Tag) (w : WaitingRequest) (r : Request) → request_with tag.0 (requests_at h k.requests) ≡ Some w → request_of w ≡ Some r
    → held_in r.line k.filter.rows ≡ true → act_if setup k (Act.Start h tag) ≡ []
no_start setup k h tag w r found is held =
    let act = Act.Start h tag in
    ap (λ (o : Option WaitingRequest). act_by k.credits act (option_and_then (start_row k) o)) found
    ∙ ap (λ (o : Option Request). act_by k.credits act (option_and_then (start_of k w.room) o)) is
    ∙ ap (λ (b : Bool). act_by k.credits act (when (asks_for_grant r.op && not b && has_room_in w.room r.line k) nothing)) held
    ∙ ap (λ (b : Bool). act_by k.credits act (when b nothing)) (second_of_three (asks_for_grant r.op) (has_room_in w.room r.line k))

no_evict :
    (setup : Configuration) (k : DeviceRecord) (h : ℕ) (tag : Tag) (w : WaitingRequest) (r : Request) → request_with tag.0 (requests_at h k.requests) ≡ Some w → request_of w ≡ Some r
    → held_in r.line k.filter.rows ≡ true → act_if setup k (Act.Evict h tag) ≡ []
no_evict setup k h tag w r found is held =
    let act = Act.Evict h tag in
    ap (λ (o : Option WaitingRequest). act_by k.credits act (option_and_then (evict_row k) o)) found
    ∙ ap (λ (o : Option Request). act_by k.credits act (option_and_then (evict_of k w.room) o)) is
    ∙ ap (λ (b : Bool). act_by k.credits act (when (asks_for_grant r.op && not b && wants_eviction_in w.room r.line k && is_some (victim_in k.filter.rows)) nothing)) held
    ∙ ap (λ (b : Bool). act_by k.credits act (when b nothing)) (second_of_four (asks_for_grant r.op) (wants_eviction_in w.room r.line k) (is_some (victim_in k.filter.rows)))

-- a request waits while its line is held
pub none_while_held :
    (setup : Configuration) (k : DeviceRecord) (h : ℕ) (tag : Tag) (w : WaitingRequest) (r : Request) → request_with tag.0 (requests_at h k.requests) ≡ Some w → request_of w ≡ Some r
    → held_in r.line k.filter.rows ≡ true → acts_or (act_if setup k (Act.Clean h tag)) (acts_or (act_if setup k (Act.Start h tag)) (act_if setup k (Act.Evict h tag))) ≡ []
none_while_held setup k h tag w r found is held =
    λ i. acts_or (no_clean setup k h tag w r found is held i) (acts_or (no_start setup k h tag w r found is held i) (no_evict setup k h tag w r found is held i))
