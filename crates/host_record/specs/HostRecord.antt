-- What a host agent keeps: its ways, oldest first; tables by tag, by line and by stream; the buffered snoops in the order taken; credits. All of it is an own rule.
use Rattle.std.specs.Prelude.{Bool, List, Option, false, is_some, map, not, option_and_then, ℕ}
use Rattle.coherence_model.specs.Snoops.{Snoop}
use Rattle.coherence_model.specs.Stages.{Stage}
use Rattle.coherence_model.specs.Transactions.{Transaction}
use Rattle.host_record.specs.Tables.{lookup, place_or}
use Rattle.host_record.specs.View.{View}
use Rattle.host_record.specs.Ways.{Way, copy_in}

-- how far a stream is: how many operations it began, and whether the last one has no commit yet
pub record StreamPlace : Type 0 where
  pub begun : ℕ
  pub waits : Bool

-- what is kept. By tag: what is open, the line that last took it, whether its conflict is open. By line: the tag of what is open, the stage since the last snoop, whether it is Open or Snooped
pub record HostRecord : Type 0 where
  pub ways : List Way
  pub opened : List (Option Transaction)
  pub tag_lines : List (Option ℕ)
  pub conflicts : List Bool
  pub line_tags : List (Option ℕ)
  pub stages : List Stage
  pub busy : List Bool
  pub snoops : List Snoop
  pub writing : Option ℕ
  pub streams : List StreamPlace
  pub req_left : ℕ
  pub rwd_left : ℕ
  pub bi_rsp_left : ℕ
  pub ndr_owed : ℕ
  pub drs_owed : ℕ
  pub bi_snp_owed : ℕ

-- what is open for a line
abbrev pub open_in : HostRecord → ℕ → Option Transaction
open_in k a = option_and_then (lookup k.opened) (lookup k.line_tags a)

-- how far a stream is: how many operations it began, and whether the last one has no commit yet
abbrev pub stream_in : List StreamPlace → ℕ → StreamPlace
stream_in streams s = place_or (record { begun = 0; waits = false }) streams s

-- what the rows read of a record
abbrev pub view_in : HostRecord → View
view_in k =
    record {
      copy = copy_in k.ways;
      ways = map (λ w. w.line) k.ways;
      open_at = open_in k;
      open_with = lookup k.opened;
      conflict = place_or false k.conflicts;
      snoops = k.snoops;
      stage = place_or Stage.New k.stages;
      quiet = λ a. not (place_or false k.busy a);
      writing = is_some k.writing;
      begun = λ s. (stream_in k.streams s).begun;
      waits = λ s. (stream_in k.streams s).waits;
      req_left = k.req_left;
      rwd_left = k.rwd_left;
      bi_rsp_left = k.bi_rsp_left;
      ndr_owed = k.ndr_owed;
      drs_owed = k.drs_owed;
      bi_snp_owed = k.bi_snp_owed;
    }
