-- The summary of a trace: nine counts. Each is an own rule.
use Rattle.std.specs.Prelude.{Bool, List, [], count_by, false, is_some, length, true, ℕ, ◌&&◌, ◌+◌, ◌∷◌}
use Rattle.std.specs.Option.{option_map_or}
use Rattle.cxl_message.specs.declared.events.Act.{Act}
use Rattle.cxl_message.specs.declared.events.Cause.{Cause}
use Rattle.cxl_message.specs.declared.events.Event.{Event}
use Rattle.cxl_message.specs.declared.events.Op.{Op}
use Rattle.cxl_message.specs.declared.events.Sends.{Sends}
use Rattle.cxl_message.specs.declared.messages.Message.{Message}
use Rattle.cxl_message.specs.Events.{is_load, outs}
use Rattle.coherence_model.specs.Snoops.{snoop_of}
use Rattle.coherence_model.specs.Weight.{is_operation}
use Rattle.coherence_model.specs.Words.{one_if}

-- operations, events, committed loads, words and wholes, snoops and conflicts sent, evictions of hosts and of the filter (own rule)
pub record Summary : Type 0 where
  pub operations : ℕ
  pub events : ℕ
  pub loads : ℕ
  pub words : ℕ
  pub wholes : ℕ
  pub snoops : ℕ
  pub conflicts : ℕ
  pub host_evictions : ℕ
  pub filter_evictions : ℕ

-- the sum of a number of each event (own rule)
abbrev pub total : (Event → ℕ) → List Event → ℕ
total f [] = 0
total f (e ∷ past) = f e + total f past

-- whether an operation is a Word (own rule)
abbrev pub is_word : Op → Bool
is_word (Op.Load _) = false
is_word (Op.Word _ _ _) = true
is_word (Op.Whole _ _) = false

-- whether an operation is a Whole (own rule)
abbrev pub is_whole : Op → Bool
is_whole (Op.Load _) = false
is_whole (Op.Word _ _ _) = false
is_whole (Op.Whole _ _) = true

-- 1 where an event commits such an operation (own rule)
abbrev pub commits_such : (Op → Bool) → Event → ℕ
commits_such p e = one_if (option_map_or (λ c. p c.op) e.commit false)

-- whether a message is a BISnp (CXL 3.1, ch. 3: the messages)
abbrev pub is_snoop : Message → Bool
is_snoop m = is_some (snoop_of m)

-- whether a message is a BIConflict (CXL 3.1, ch. 3: the messages)
abbrev pub is_conflict : Message → Bool
is_conflict (Message.Req _ _ _ _ _) = false
is_conflict (Message.MemWr _ _ _ _ _) = false
is_conflict (Message.BiConflict _) = true
is_conflict (Message.BiRsp _ _ _) = false
is_conflict (Message.Ndr _ _) = false
is_conflict (Message.MemData _ _) = false
is_conflict (Message.BiSnp _ _ _ _) = false
is_conflict (Message.Credit _) = false

-- how many such messages an event sends (own rule)
abbrev pub sends_such : (Message → Bool) → Event → ℕ
sends_such p e = count_by (λ o. p o.message) (outs e.sends)

-- whether two messages are sent (own rule)
abbrev pub sends_two : Sends → Bool
sends_two Sends.Nothing = false
sends_two (Sends.One _) = false
sends_two (Sends.Two _ _) = true

-- whether an act is Evict (own rule)
abbrev pub is_evict : Act → Bool
is_evict (Act.Conflict _) = false
is_evict (Act.WriteBack _) = false
is_evict (Act.Answer _) = false
is_evict (Act.AnswerBlock _) = false
is_evict (Act.HostReturn _) = false
is_evict (Act.Serve _ _) = false
is_evict (Act.Clean _ _) = false
is_evict (Act.Start _ _) = false
is_evict (Act.Evict _ _) = true
is_evict (Act.Snoop _ _) = false
is_evict (Act.Finish _) = false
is_evict (Act.DeviceReturn _ _) = false

-- whether a cause is the act Evict (own rule)
abbrev pub evicts_entries : Cause → Bool
evicts_entries (Cause.Op _ _ _) = false
evicts_entries (Cause.Take _ _) = false
evicts_entries (Cause.Act act) = is_evict act

-- the summary of a trace: loads, words and wholes count commits, host evictions the operations that send two messages (own rule)
abbrev pub summary_of : List Event → Summary
summary_of t = record {
  operations = total (λ e. one_if (is_operation e.cause)) t;
  events = length t;
  loads = total (commits_such is_load) t;
  words = total (commits_such is_word) t;
  wholes = total (commits_such is_whole) t;
  snoops = total (sends_such is_snoop) t;
  conflicts = total (sends_such is_conflict) t;
  host_evictions = total (λ e. one_if (is_operation e.cause && sends_two e.sends)) t;
  filter_evictions = total (λ e. one_if (evicts_entries e.cause)) t;
}
