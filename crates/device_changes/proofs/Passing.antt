-- What an answer by an emission says of the cause and of what is kept.
use Rattle.std.proofs.Common.{◌≡◌, ℕ, ◌<◌, Bool, true, false, List, Option, Some, None, cond, refl, ap, subst}
use Rattle.std.specs.Prelude.{option_and_then}
use Rattle.std.proofs.lemmas.Bool.{and_parts, ltb-true}
use Rattle.cxl_message.specs.declared.channels.Channel.{Channel}
use Rattle.cxl_message.specs.declared.events.Act.{Act}
use Rattle.cxl_message.specs.declared.events.Cause.{Cause}
use Rattle.cxl_message.specs.declared.messages.Message.{Message}
use Rattle.cxl_message.specs.declared.states.RuleNo.{RuleNo}
use Rattle.cxl_message.specs.Formed.{cause_formed}
use Rattle.cxl_message.specs.Messages.{line_in}
use Rattle.cxl_message.specs.Setup.{Configuration}
use Rattle.coherence_lemmas.proofs.Options.{and_then_some}
use Rattle.coherence_model.specs.DeviceActs.{Request, request_in}
use Rattle.coherence_model.specs.DeviceRows.{device_rule}
use Rattle.coherence_model.specs.Emission.{Emission}
use Rattle.coherence_model.specs.Fitting.{act_fits, cause_fits, is_host, tag_exists, write_tag_exists}
use Rattle.coherence_model.specs.Refusals.{Answer, cause_passes, unless_lacking}
use Rattle.coherence_model.specs.Traces.{device}
use Rattle.device_record.specs.Answers.{answer_by, answer_in, lacking_in, request_of, row_in}
use Rattle.device_record.specs.Record.{CreditRecord, DeviceRecord, WaitingRequest, request_with, requests_at}
use Rattle.device_record.specs.Steady.{IsSteady}
use Rattle.device_changes.specs.Acting.{IsWaiting}

-- the cause passes P0, its row emits, and the credits reach
pub record Passed (setup : Configuration) (cause : Cause) (k : DeviceRecord) (w : Emission) : Type 0 where
  pub passes : cause_passes setup device cause ≡ true
  pub row : row_in setup cause k ≡ Some w
  pub paid : lacking_in w.sends k.credits ≡ None

lacking_by : (w x : Emission) (lacking : Option Channel) → unless_lacking lacking (Answer.Emits x) ≡ Answer.Emits w → (lacking ≡ None) × (x ≡ w)
lacking_by w x None is = (refl, cc)
lacking_by w x (Some c) is = cc

row_by : (rule : RuleNo) (credits : List CreditRecord) (w : Emission) (o : Option Emission) → answer_by rule credits o ≡ Answer.Emits w → (o ≡ Some w) × (lacking_in w.sends credits ≡ None)
row_by rule credits w None is = cc
row_by rule credits w (Some x) is =
    let parts = lacking_by w x (lacking_in x.sends credits) is in (ap (λ y. Some y) parts.1, subst (λ (y : Emission). lacking_in y.sends credits ≡ None) parts.1 parts.0)

passed_by : (setup : Configuration) (cause : Cause) (k : DeviceRecord) (w : Emission) (b : Bool) → cause_passes setup device cause ≡ b
    → cond b (answer_by (device_rule cause) k.credits (row_in setup cause k)) (Answer.Broken RuleNo.P0) ≡ Answer.Emits w → Passed setup cause k w
passed_by setup cause k w true passes is = let parts = row_by (device_rule cause) k.credits w (row_in setup cause k) is in record { passes = passes; row = parts.0; paid = parts.1 }
passed_by setup cause k w false passes is = cc

pub passed : (setup : Configuration) (cause : Cause) (k : DeviceRecord) (w : Emission) → answer_in setup cause k ≡ Answer.Emits w → Passed setup cause k w
passed setup cause k w is = passed_by setup cause k w (cause_passes setup device cause) refl is

-- the host that an act names, if it names one
abbrev pub host_named : Act → Option ℕ
host_named (Act.Conflict _) = None
host_named (Act.WriteBack _) = None
host_named (Act.Answer _) = None
host_named (Act.AnswerBlock _) = None
host_named (Act.HostReturn _) = None
host_named (Act.Serve h _) = Some h
host_named (Act.Clean h _) = Some h
host_named (Act.Start h _) = Some h
host_named (Act.Evict h _) = Some h
host_named (Act.Snoop h _) = Some h
host_named (Act.Finish _) = None
host_named (Act.DeviceReturn h _) = Some h

host_by : (setup : Configuration) (act : Act) (h : ℕ) → act_fits setup device act ≡ true → host_named act ≡ Some h → is_host setup h ≡ true
host_by setup (Act.Conflict line) h fits named = cc
host_by setup (Act.WriteBack line) h fits named = cc
host_by setup (Act.Answer line) h fits named = cc
host_by setup (Act.AnswerBlock line) h fits named = cc
host_by setup (Act.HostReturn c) h fits named = cc
host_by setup (Act.Serve g tag) h fits named = let same : g ≡ h = cc in subst (λ n. is_host setup n ≡ true) same (and_parts (is_host setup g) (write_tag_exists setup tag) fits).0
host_by setup (Act.Clean g tag) h fits named = let same : g ≡ h = cc in subst (λ n. is_host setup n ≡ true) same (and_parts (is_host setup g) (tag_exists setup tag) fits).0
host_by setup (Act.Start g tag) h fits named = let same : g ≡ h = cc in subst (λ n. is_host setup n ≡ true) same (and_parts (is_host setup g) (tag_exists setup tag) fits).0
host_by setup (Act.Evict g tag) h fits named = let same : g ≡ h = cc in subst (λ n. is_host setup n ≡ true) same (and_parts (is_host setup g) (tag_exists setup tag) fits).0
host_by setup (Act.Snoop g line) h fits named = let same : g ≡ h = cc in subst (λ n. is_host setup n ≡ true) same (and_parts (is_host setup g) _ fits).0
host_by setup (Act.Finish line) h fits named = cc
host_by setup (Act.DeviceReturn g c) h fits named = let same : g ≡ h = cc in subst (λ n. is_host setup n ≡ true) same fits

-- the host that an act names exists
pub act_host : (setup : Configuration) (act : Act) (k : DeviceRecord) (w : Emission) (h : ℕ) → answer_in setup (Cause.Act act) k ≡ Answer.Emits w → host_named act ≡ Some h → h < setup.hosts
act_host setup act k w h is named =
    ltb-true h setup.hosts
    (host_by setup act h (and_parts (cause_formed (Cause.Act act)) (cause_fits setup device (Cause.Act act)) (passed setup (Cause.Act act) k w is).passes).1 named)

-- a request that is found, as its row sees it
pub record Asked (setup : Configuration) (h tag : ℕ) (k : DeviceRecord) (g : WaitingRequest → Request → Option Emission) (w : Emission) : Type 0 where
  pub waiting : IsWaiting h tag k.requests setup.lines
  pub request : Request
  pub seen : request_of waiting.request ≡ Some request
  pub line : request.line ≡ waiting.line
  pub row : g waiting.request request ≡ Some w

line_of_request : (m : Message) (r : Request) → request_in m ≡ Some r → line_in m ≡ Some r.line
line_of_request (Message.Req op meta snp tag line) r is = ap (λ (o : Option Request). option_and_then (λ (q : Request). Some q.line) o) is
line_of_request (Message.MemWr meta snp tag line bytes) r is = cc
line_of_request (Message.BiConflict tag) r is = cc
line_of_request (Message.BiRsp op bitag low) r is = cc
line_of_request (Message.Ndr op tag) r is = cc
line_of_request (Message.MemData tag bytes) r is = cc
line_of_request (Message.BiSnp op bitag line span) r is = cc
line_of_request (Message.Credit c) r is = cc

-- what is emitted for a buffered request is emitted for one that is there
pub asked_of : (setup : Configuration) (k : DeviceRecord) → IsSteady setup k → (h tag : ℕ) (g : WaitingRequest → Request → Option Emission) (w : Emission)
    → option_and_then (λ r. option_and_then (g r) (request_of r)) (request_with tag (requests_at h k.requests)) ≡ Some w → Asked setup h tag k g w
asked_of setup k steady h tag g w is =
    let found = and_then_some (λ r. option_and_then (g r) (request_of r)) (request_with tag (requests_at h k.requests)) w is in
    let seen = and_then_some (g found.x) (request_of found.x) w found.same in
    record {
      waiting = record {
        request = found.x;
        line = seen.x.line;
        found = found.found;
        asked = line_of_request found.x.message seen.x seen.found;
        exists = steady.lines h tag found.x seen.x found.found seen.found;
      };
      request = seen.x;
      seen = seen.found;
      line = refl;
      row = seen.same;
    }
