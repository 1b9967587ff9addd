-- What the rows of a host read of its own events: look-backs by line and by tag. The view of a list of events is what the model's definitions give for it; a record of what is kept gives a view too. All of it is an own rule.
use Rattle.std.specs.Prelude.{Bool, List, Option, length, ℕ, ◌+◌}
use Rattle.cxl_message.specs.declared.channels.Channel.{Channel}
use Rattle.cxl_message.specs.declared.events.Event.{Event}
use Rattle.cxl_message.specs.Setup.{Configuration}
use Rattle.coherence_model.specs.Cache.{copy, ways}
use Rattle.coherence_model.specs.Copies.{Copy}
use Rattle.coherence_model.specs.Credits.{credits_left}
use Rattle.coherence_model.specs.Snoops.{Snoop, buffered_snoops, host_owed, is_quiet}
use Rattle.coherence_model.specs.Stages.{Stage, stage}
use Rattle.coherence_model.specs.Streams.{begun_count, stream_waits}
use Rattle.coherence_model.specs.Tags.{is_conflict_open, open_with}
use Rattle.coherence_model.specs.Transactions.{Transaction, open_at}
use Rattle.coherence_model.specs.WriteBacks.{is_write_back_open}

-- what the rows of a host read
pub record View : Type 0 where
  pub copy : ℕ → Copy
  pub ways : List ℕ
  pub open_at : ℕ → Option Transaction
  pub open_with : ℕ → Option Transaction
  pub conflict : ℕ → Bool
  pub snoops : List Snoop
  pub stage : ℕ → Stage
  pub quiet : ℕ → Bool
  pub writing : Bool
  pub begun : ℕ → ℕ
  pub waits : ℕ → Bool
  pub req_left : ℕ
  pub rwd_left : ℕ
  pub bi_rsp_left : ℕ
  pub ndr_owed : ℕ
  pub drs_owed : ℕ
  pub bi_snp_owed : ℕ

-- the view of a host's own events
abbrev pub view_of : Configuration → ℕ → List Event → View
view_of setup h mine =
    record {
      copy = λ a. copy setup a mine;
      ways = ways setup mine;
      open_at = λ a. open_at a mine;
      open_with = λ t. open_with t mine;
      conflict = λ t. is_conflict_open t mine;
      snoops = buffered_snoops mine;
      stage = λ a. stage setup a mine;
      quiet = λ a. is_quiet a mine;
      writing = is_write_back_open setup mine;
      begun = λ s. begun_count s mine;
      waits = λ s. stream_waits s mine;
      req_left = credits_left setup h Channel.Req mine;
      rwd_left = credits_left setup h Channel.Rwd mine;
      bi_rsp_left = credits_left setup h Channel.BiRsp mine;
      ndr_owed = host_owed h Channel.Ndr mine;
      drs_owed = host_owed h Channel.Drs mine;
      bi_snp_owed = host_owed h Channel.BiSnp mine;
    }

-- the credits left of a channel on which a host sends
abbrev pub left_of : View → Channel → ℕ
left_of v Channel.Req = v.req_left
left_of v Channel.Rwd = v.rwd_left
left_of v Channel.BiRsp = v.bi_rsp_left
left_of v Channel.Ndr = 0
left_of v Channel.Drs = 0
left_of v Channel.BiSnp = 0
left_of v Channel.CreditUp = 0
left_of v Channel.CreditDown = 0

-- the credits that a host owes for a channel from which it takes
abbrev pub owed_of : View → Channel → ℕ
owed_of v Channel.Req = 0
owed_of v Channel.Rwd = 0
owed_of v Channel.BiRsp = 0
owed_of v Channel.Ndr = v.ndr_owed
owed_of v Channel.Drs = v.drs_owed
owed_of v Channel.BiSnp = v.bi_snp_owed
owed_of v Channel.CreditUp = 0
owed_of v Channel.CreditDown = 0

-- the messages of a channel that are held: those owed and those buffered
abbrev pub held_of : View → Channel → ℕ
held_of v Channel.Req = 0
held_of v Channel.Rwd = 0
held_of v Channel.BiRsp = 0
held_of v Channel.Ndr = v.ndr_owed
held_of v Channel.Drs = v.drs_owed
held_of v Channel.BiSnp = v.bi_snp_owed + length v.snoops
held_of v Channel.CreditUp = 0
held_of v Channel.CreditDown = 0
