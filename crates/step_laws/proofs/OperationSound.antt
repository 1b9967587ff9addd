-- An operation whose row holds at a host is in the profile.
use Rattle.std.proofs.Common.{◌≡◌, ℕ, ◌<◌, Bool, true, false, List, ◌∷◌, Option, Some, cond, refl, sym, ◌∙◌, subst, arith, inl, inr}
use Rattle.std.specs.Prelude.{nat_lt}
use Rattle.std.proofs.lemmas.Bool.{and_from, and_parts, cond-false, le-leb, lt-ltb}
use Rattle.cxl_message.specs.declared.events.Cause.{Cause}
use Rattle.cxl_message.specs.declared.events.Commit.{Commit}
use Rattle.cxl_message.specs.declared.events.Event.{Event}
use Rattle.cxl_message.specs.declared.events.Op.{Op}
use Rattle.cxl_message.specs.declared.events.Sends.{Sends}
use Rattle.cxl_message.specs.declared.identifiers.Bytes64.{Bytes64}
use Rattle.cxl_message.specs.declared.identifiers.Line.{Line}
use Rattle.cxl_message.specs.declared.messages.Message.{Message}
use Rattle.cxl_message.specs.declared.opcodes.Meta.{Meta}
use Rattle.cxl_message.specs.declared.opcodes.ReqOp.{ReqOp}
use Rattle.cxl_message.specs.declared.opcodes.SnpType.{SnpType}
use Rattle.cxl_message.specs.Channels.{goes_to_device}
use Rattle.cxl_message.specs.Events.{line_of}
use Rattle.cxl_message.specs.Formed.{cause_formed}
use Rattle.cxl_message.specs.Messages.{channel_of}
use Rattle.cxl_message.specs.Setup.{Configuration, IsWithinLimits}
use Rattle.coherence_model.specs.Cache.{copy, is_modified}
use Rattle.coherence_model.specs.DeviceRows.{device_emission}
use Rattle.coherence_model.specs.Emission.{Emission}
use Rattle.coherence_model.specs.Fitting.{cause_fits, is_device, is_host}
use Rattle.coherence_model.specs.HostOperations.{eviction_message, host_operates, request_message}
use Rattle.coherence_model.specs.Rows.{row_holds}
use Rattle.coherence_model.specs.Rules.{p0_profile}
use Rattle.coherence_model.specs.Tags.{free_tags}
use Rattle.coherence_lemmas.proofs.Allowed.{emitted}
use Rattle.coherence_lemmas.proofs.HostOperations.{Missed, RequestAlone, RequestEvicting, host_operates-inv}
use Rattle.step_laws.proofs.Counts.{Each}
use Rattle.step_laws.proofs.Emissions.{EmissionFits, MessageGood, event-profiled, host-agent, host-sends, one-fits, two-fits}
use Rattle.step_laws.proofs.HeldWays.{free_tags_exist, victim_exists}
use Rattle.coherence_model.specs.OwnRuns.{IsOwnRun}
use Rattle.step_laws.proofs.OwnRuns.{host_is_no_device}

-- a request of an operation that fits
request-good :
    (setup : Configuration) (op : Op) (tag : ℕ) → tag < setup.tags → nat_lt (line_of op) setup.lines ≡ true
    → (goes_to_device (channel_of (request_message op tag)) ≡ true) × MessageGood setup (request_message op tag)
request-good setup (Op.Load line) tag low exists = (refl, record { formed = refl; profile = refl; fits = and_from _ _ (lt-ltb tag setup.tags low) exists })
request-good setup (Op.Word line place value) tag low exists =
    (refl, record { formed = refl; profile = refl; fits = and_from _ _ (lt-ltb tag setup.tags low) exists })
request-good setup (Op.Whole line bytes) tag low exists = (refl, record { formed = refl; profile = refl; fits = and_from _ _ (lt-ltb tag setup.tags low) exists })

-- the eviction of a line that exists
eviction-good :
    (setup : Configuration) (v : ℕ) (mine : List Event) (tag : ℕ) (b : Bool) → tag < setup.tags → v < setup.lines
    → let m : Message = cond b (Message.MemWr Meta.Invalid SnpType.NoOp (record { 0 = tag }) (record { 0 = v }) (copy setup v mine).bytes) (Message.Req ReqOp.MemClnEvct Meta.Invalid SnpType.NoOp (record { 0 = tag }) (record { 0 = v })) in
    (goes_to_device (channel_of m) ≡ true) × MessageGood setup m
eviction-good setup v mine tag true low less =
    (refl, record { formed = refl; profile = refl; fits = and_from _ _ (le-leb tag setup.tags (omega arith)) (lt-ltb v setup.lines less) })
eviction-good setup v mine tag false low less =
    (refl, record { formed = refl; profile = refl; fits = and_from _ _ (lt-ltb tag setup.tags low) (lt-ltb v setup.lines less) })

-- the first of the free tags, and the second
first-tag : (setup : Configuration) (mine : List Event) (tag : ℕ) (rest : List ℕ) → free_tags setup mine ≡ tag ∷ rest → tag < setup.tags
first-tag setup mine tag rest is = (subst (λ tags. Each (λ k. k < setup.tags) tags) is (free_tags_exist setup mine)).0

second-tag : (setup : Configuration) (mine : List Event) (tag next : ℕ) (rest : List ℕ) → free_tags setup mine ≡ tag ∷ next ∷ rest → next < setup.tags
second-tag setup mine tag next rest is = (subst (λ tags. Each (λ k. k < setup.tags) tags) is (free_tags_exist setup mine)).1.0

alone-fits :
    (setup : Configuration) → IsWithinLimits setup → (g : ℕ) (op : Op) (mine : List Event) (w : Emission) → is_host setup g ≡ true
    → nat_lt (line_of op) setup.lines ≡ true → RequestAlone g op (free_tags setup mine) w → EmissionFits setup g w
alone-fits setup limits g op mine w host exists alone =
    let good = request-good setup op alone.tag (first-tag setup mine alone.tag alone.rest alone.free) exists in
    subst (EmissionFits setup g) (sym alone.emits) (one-fits setup g g (request_message op alone.tag)
    (host-sends setup limits g (request_message op alone.tag) host good.0 good.1))

evicting-fits :
    (setup : Configuration) → IsWithinLimits setup → (g : ℕ) (op : Op) (v : ℕ) (mine : List Event) (w : Emission) → is_host setup g ≡ true
    → nat_lt (line_of op) setup.lines ≡ true → v < setup.lines → RequestEvicting setup g op v mine (free_tags setup mine) w → EmissionFits setup g w
evicting-fits setup limits g op v mine w host exists less both =
    let eviction = eviction-good setup v mine both.eviction_tag (is_modified setup v mine)
    (first-tag setup mine both.eviction_tag (both.tag ∷ both.rest) both.free) less in
    let good = request-good setup op both.tag (second-tag setup mine both.eviction_tag both.tag both.rest both.free) exists in
    subst (EmissionFits setup g) (sym both.emits)
    (two-fits setup g g (eviction_message setup v mine both.eviction_tag) (request_message op both.tag)
    (host-sends setup limits g (eviction_message setup v mine both.eviction_tag) host eviction.0 eviction.1)
    (host-sends setup limits g (request_message op both.tag) host good.0 good.1))

missed-fits :
    (setup : Configuration) → IsWithinLimits setup → (opening : List (Line × Bytes64)) (g : ℕ) (op : Op) (mine : List Event) → IsOwnRun setup opening g mine
    → (w : Emission) → is_host setup g ≡ true → nat_lt (line_of op) setup.lines ≡ true → Missed setup g op mine w → EmissionFits setup g w
missed-fits setup limits opening g op mine run w host exists missed = elim missed.how [
  | inl without ↦ alone-fits setup limits g op mine w host exists without.alone
  | inr (inl shared) ↦ alone-fits setup limits g op mine w host exists shared.alone
  | inr (inr writable) ↦ evicting-fits setup limits g op writable.v mine w host exists
      (victim_exists setup opening g mine run writable.v writable.victim) writable.evicting
]

-- what an operation emits at a host
operation-fits :
    (setup : Configuration) → IsWithinLimits setup → (opening : List (Line × Bytes64)) (g s i : ℕ) (op : Op) (mine : List Event) → IsOwnRun setup opening g mine
    → (w : Emission) → is_host setup g ≡ true → nat_lt (line_of op) setup.lines ≡ true → cause_formed (Cause.Op s i op) ≡ true
    → host_operates setup g s i op mine ≡ Some w → EmissionFits setup g w
operation-fits setup limits opening g s i op mine run w host exists formed is = elim (host_operates-inv setup g s i op mine w is) [
  | inl hit ↦ subst (EmissionFits setup g) (sym hit.emits) (record { sends = tt; commit_formed = formed; commit_fits = exists })
  | inr missed ↦ missed-fits setup limits opening g op mine run w host exists missed
]

-- an operation whose row holds at a host, and whose cause passes, is in the profile
pub operation_profiled :
    (setup : Configuration) → IsWithinLimits setup → (opening : List (Line × Bytes64)) (g : ℕ) (mine : List Event) → IsOwnRun setup opening g mine
    → (s i : ℕ) (op : Op) (sends : Sends) (commit : Option Commit) → cause_formed (Cause.Op s i op) ≡ true → cause_fits setup g (Cause.Op s i op) ≡ true
    → row_holds setup opening (record { agent = g; cause = Cause.Op s i op; sends = sends; commit = commit }) mine ≡ true
    → p0_profile setup (record { agent = g; cause = Cause.Op s i op; sends = sends; commit = commit }) ≡ true
operation_profiled setup limits opening g mine run s i op sends commit formed fits row =
    let by = emitted setup opening (record { agent = g; cause = Cause.Op s i op; sends = sends; commit = commit }) mine row in
    let a = and_parts _ _ fits in
    let host : is_host setup g ≡ true = (and_parts _ _ a.0).0 in
    let is : host_operates setup g s i op mine ≡ Some by.w = sym (cond-false (is_device g) (device_emission setup opening (Cause.Op s i op) mine) (host_operates setup g s i op mine) (host_is_no_device setup limits g host)) ∙ by.row in
    let agent = host-agent setup limits g host in
    event-profiled setup g (Cause.Op s i op) sends commit by.w by.sends by.commit (record { low = agent.0; agent = agent.1; formed = formed; fits = fits })
    (operation-fits setup limits opening g s i op mine run by.w host a.1 formed is)
