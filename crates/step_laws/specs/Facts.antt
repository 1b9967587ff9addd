-- Facts of every list of a host's own events that its rules allow, by which each act stands once among the next steps.
use Rattle.std.specs.Prelude.{Bool, IsTrue, List, Some, count_by, is_some, nat_le, sum_by, ℕ, ◌&&◌, ◌+◌, ◌==◌, ◌≡◌, ◌≤◌}
use Rattle.std.specs.List.{list_all}
use Rattle.cxl_message.specs.declared.events.Act.{Act}
use Rattle.cxl_message.specs.declared.events.Event.{Event}
use Rattle.cxl_message.specs.declared.identifiers.Bytes64.{Bytes64}
use Rattle.cxl_message.specs.declared.identifiers.Line.{Line}
use Rattle.cxl_message.specs.declared.identifiers.Tag.{Tag}
use Rattle.cxl_message.specs.Codes.{span_len}
use Rattle.cxl_message.specs.Lists.{is_in}
use Rattle.cxl_message.specs.Profile.{snoop_in_profile}
use Rattle.cxl_message.specs.Setup.{Configuration}
use Rattle.cxl_message.specs.Spans.{covers}
use Rattle.coherence_model.specs.DeviceActs.{device_acts}
use Rattle.coherence_model.specs.HostActs.{host_acts}
use Rattle.coherence_model.specs.OwnRuns.{ForEachHostRun}
use Rattle.coherence_model.specs.Snoops.{Snoop, buffered_snoops, whole_block_at}
use Rattle.coherence_model.specs.Words.{one_if}

-- how often line a is left without an answer in the snoops that a host holds (own rule)
abbrev pub left_count : ℕ → List Event → ℕ
left_count a mine = sum_by (λ s. count_by (λ b. a == b) s.unanswered) (buffered_snoops mine)

-- whether a held snoop is in the profile, its lines exist, and each line that is left is one of its span (own rule)
abbrev pub held_snoop_fits : Configuration → Snoop → Bool
held_snoop_fits setup s = snoop_in_profile s.op s.span && nat_le (s.first + span_len s.span) setup.lines && list_all (covers s.first s.span) s.unanswered

-- 1 where the row of an act holds at host h, credits aside (own rule)
abbrev pub holds_at_host : Configuration → ℕ → List Event → Act → ℕ
holds_at_host setup h mine act = one_if (is_some (host_acts setup h act mine))

-- how many of Conflict, WriteBack and Answer have their rows hold for line a, credits aside (own rule)
abbrev pub line_act_count : Configuration → ℕ → List Event → ℕ → ℕ
line_act_count setup h mine a =
    let line : Line = record { 0 = a } in
    holds_at_host setup h mine (Act.Conflict line) + holds_at_host setup h mine (Act.WriteBack line) + holds_at_host setup h mine (Act.Answer line)

-- 1 where the row of an act holds at the device, credits aside (own rule)
abbrev pub holds_at_device : Configuration → List (Line × Bytes64) → List Event → Act → ℕ
holds_at_device setup opening mine act = one_if (is_some (device_acts setup opening act mine))

-- how many of Clean, Start and Evict have their rows hold for host h's request with a tag, credits aside (own rule)
abbrev pub request_act_count : Configuration → List (Line × Bytes64) → List Event → ℕ → Tag → ℕ
request_act_count setup opening mine h tag =
    holds_at_device setup opening mine (Act.Clean h tag) + holds_at_device setup opening mine (Act.Start h tag) + holds_at_device setup opening mine (Act.Evict h tag)

-- each line is left in one held snoop at most, and once there
abbrev pub HeldSnoopsAreDisjoint : Type 0
HeldSnoopsAreDisjoint =
    ForEachHostRun (λ setup h mine. (a : ℕ) → left_count a mine ≤ 1)

-- each held snoop fits
abbrev pub HeldSnoopsFit : Type 0
HeldSnoopsFit =
    ForEachHostRun (λ setup h mine. IsTrue (list_all (held_snoop_fits setup) (buffered_snoops mine)))

-- a line has one act at most
abbrev pub LinesHaveOneAct : Type 0
LinesHaveOneAct = (setup : Configuration) (h : ℕ) (mine : List Event) (a : ℕ) → line_act_count setup h mine a ≤ 1

-- a line of a block that may be answered at once has none
abbrev pub BlocksComeFirst : Type 0
BlocksComeFirst =
    ForEachHostRun (λ setup h mine. (s : Snoop) → whole_block_at s.first mine ≡ Some s
    → holds_at_host setup h mine (Act.AnswerBlock (record { 0 = s.first })) ≡ 1 → (a : ℕ) → IsTrue (is_in a s.unanswered) → line_act_count setup h mine a ≡ 0)

-- a request has one act at most
abbrev pub RequestsHaveOneAct : Type 0
RequestsHaveOneAct = (setup : Configuration) (opening : List (Line × Bytes64)) (mine : List Event) (h : ℕ) (tag : Tag) → request_act_count setup opening mine h tag ≤ 1
