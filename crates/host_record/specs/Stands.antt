-- A host agent stands for a list of its own events, newest first: what it keeps is what the model's definitions give for the list. All of it is an own rule.
use Rattle.std.specs.Prelude.{List, None, Option, [], false, find, flat_map, length, map, not, option_map, replicate, sum_by, ℕ, ◌*◌, ◌+◌, ◌∷◌}
use Rattle.cxl_message.specs.declared.events.Act.{Act}
use Rattle.cxl_message.specs.declared.events.Cause.{Cause}
use Rattle.cxl_message.specs.declared.events.Event.{Event}
use Rattle.cxl_message.specs.Lists.{below}
use Rattle.cxl_message.specs.Setup.{Configuration}
use Rattle.coherence_model.specs.Next.{next_host_acts}
use Rattle.coherence_model.specs.OwnerFacts.{is_writing}
use Rattle.coherence_model.specs.Refusals.{Answer}
use Rattle.coherence_model.specs.Snoops.{Snoop}
use Rattle.coherence_model.specs.Stages.{Stage}
use Rattle.coherence_model.specs.Tags.{tagged_line}
use Rattle.coherence_model.specs.Weight.{stage_weight}
use Rattle.host_record.specs.HostRecord.{HostRecord, view_in}
use Rattle.host_record.specs.Tables.{place_or}
use Rattle.host_record.specs.View.{View, view_of}
use Rattle.host_record.specs.ViewAnswers.{allowed_by, answers_by}

-- the record of a view, with the line that last took each tag
abbrev pub record_of : Configuration → (ℕ → Option ℕ) → View → HostRecord
record_of setup tagged v =
    record {
      ways = map (λ a. record { line = a; copy = v.copy a }) v.ways;
      opened = map v.open_with (below setup.tags);
      tag_lines = map tagged (below setup.tags);
      conflicts = map v.conflict (below setup.tags);
      line_tags = map (λ a. option_map (λ o. o.tag) (v.open_at a)) (below setup.lines);
      stages = map v.stage (below setup.lines);
      busy = map (λ a. not (v.quiet a)) (below setup.lines);
      snoops = v.snoops;
      writing = find (λ a. is_writing (v.stage a)) (below setup.lines);
      streams = map (λ s. record { begun = v.begun s; waits = v.waits s }) (below (length setup.streams));
      req_left = v.req_left;
      rwd_left = v.rwd_left;
      bi_rsp_left = v.bi_rsp_left;
      ndr_owed = v.ndr_owed;
      drs_owed = v.drs_owed;
      bi_snp_owed = v.bi_snp_owed;
    }

-- what is kept after a list of own events
abbrev pub kept_host : Configuration → ℕ → List Event → HostRecord
kept_host setup h mine = record_of setup (λ t. tagged_line t mine) (view_of setup h mine)

-- what is kept before the first event
abbrev pub opened_host : Configuration → HostRecord
opened_host setup =
    record {
      ways = [];
      opened = replicate setup.tags None;
      tag_lines = replicate setup.tags None;
      conflicts = replicate setup.tags false;
      line_tags = replicate setup.lines None;
      stages = replicate setup.lines Stage.New;
      busy = replicate setup.lines false;
      snoops = [];
      writing = None;
      streams = replicate (length setup.streams) (record { begun = 0; waits = false });
      req_left = setup.credits;
      rwd_left = setup.credits;
      bi_rsp_left = setup.credits;
      ndr_owed = 0;
      drs_owed = 0;
      bi_snp_owed = 0;
    }

-- what a host answers, by its record
abbrev pub answer_in : Configuration → ℕ → Cause → HostRecord → Answer
answer_in setup h cause k = answers_by setup h cause (view_in k)

-- the acts that are allowed, by its record, in their order
abbrev pub acts_in : Configuration → ℕ → HostRecord → List Act
acts_in setup h k = allowed_by setup h (view_in k)

-- the act of a cause, if it is one
abbrev pub act_of_cause : Cause → List Act
act_of_cause (Cause.Op _ _ _) = []
act_of_cause (Cause.Take _ _) = []
act_of_cause (Cause.Act act) = act ∷ []

-- the acts that a host's rows allow after its own events, in the order of the next steps
abbrev pub acts_after : Configuration → ℕ → List Event → List Act
acts_after setup h mine = flat_map (λ (e : Event). act_of_cause e.cause) (next_host_acts setup [] mine h)

-- what a buffered snoop adds to the weight, by the stages of its lines
abbrev pub snoop_weight_in : List Stage → Snoop → ℕ
snoop_weight_in stages s = 2 + sum_by (λ a. stage_weight (place_or Stage.New stages a)) s.unanswered

-- what a record adds to the weight
abbrev pub weight_in : HostRecord → ℕ
weight_in k = 2 * (k.ndr_owed + (k.drs_owed + k.bi_snp_owed)) + sum_by (snoop_weight_in k.stages) k.snoops
