-- What is kept of a host after an act.
use Rattle.cxl_message.specs.Messages.{channel_of, message_eq}
use Rattle.host_laws.proofs.StageSteps.{answered_busy, block_busy, declared_conflicts, declared_stages, declared_writing, written_stages, written_writing}
use Rattle.coherence_model.specs.Credits.{owed_count, returned_count, taken_count}
use Rattle.cxl_message.proofs.SameMessages.{same-message_eq}
use Rattle.std.proofs.Common.{List, Some, ap, arith, cond, false, filter, length, refl, true, ℕ, ◌-◌, ◌<◌, ◌∙◌, ◌∷◌, ◌≡◌, ◌≤◌}
use Rattle.std.proofs.lemmas.Bool.{false≢true}
use Rattle.std.specs.Prelude.{not, ◌==◌, ◌||◌}
use Rattle.cxl_message.specs.declared.channels.Channel.{Channel}
use Rattle.cxl_message.specs.declared.events.Act.{Act}
use Rattle.cxl_message.specs.declared.events.Event.{Event}
use Rattle.cxl_message.specs.declared.messages.Message.{Message}
use Rattle.cxl_message.specs.declared.opcodes.RspOp.{RspOp}
use Rattle.cxl_message.specs.Codes.{channel_eq}
use Rattle.cxl_message.specs.Setup.{Configuration}
use Rattle.coherence_model.specs.Cache.{copy, is_valid, ways}
use Rattle.coherence_model.specs.Snoops.{buffered_snoops, is_whole_block, snoops_after_answer}
use Rattle.coherence_model.specs.Transactions.{Transaction, has_request, open_at}
use Rattle.host_laws.proofs.CreditSteps.{act_returns, no_credit, owed_answered, owed_returned, owed_same}
use Rattle.host_laws.proofs.Credits.{Purses, answered_few}
use Rattle.host_laws.proofs.Events.{act_event}
use Rattle.host_laws.proofs.Keeps.{Keeps}
use Rattle.host_laws.proofs.StreamSteps.{act_streams}
use Rattle.host_laws.proofs.WaySteps.{block_ways, left_ways, ways_by}
use Rattle.host_record.specs.Stands.{kept_host}
use Rattle.coherence_model.specs.HostActs.{host_returns, may_answer_block, write_back_message}
use Rattle.coherence_model.specs.Stages.{is_new, stage}
use Rattle.coherence_model.specs.WriteBacks.{is_write_back_open}
use Rattle.cxl_message.specs.declared.opcodes.SnpOp.{SnpOp}
use Rattle.host_laws.proofs.Follows.{Follows}
use Rattle.host_laws.proofs.WayFacts.{few_filter}
use Rattle.host_laws.proofs.CacheSteps.{left_by}
use Rattle.host_laws.proofs.FollowTakes.{act_left, act_owed, act_pays}

-- H7

pub follow_conflict : (setup : Configuration) (h a : ℕ) (o : Transaction) (mine : List Event) → Keeps setup mine → open_at a mine ≡ Some o → is_new (stage setup a mine) ≡ true
    → Follows setup h mine (act_event h (Act.Conflict (record { 0 = a })) (Message.BiConflict (record { 0 = o.tag })))
follow_conflict setup h a o mine keeps there new =
    let act = Act.Conflict (record { 0 = a }) in
    let m = Message.BiConflict (record { 0 = o.tag }) in
    let e = act_event h act m in
    let k = kept_host setup h mine in
    let stages = declared_stages setup h a o mine keeps there in
    let conflicts = declared_conflicts setup h a o mine keeps there in
    let writing = declared_writing setup h a o.tag mine new in
    let streams = act_streams setup h act m mine in
    let req = act_left setup h Channel.Req act m mine refl in
    let rwd = act_pays setup h Channel.Rwd act m mine refl in
    let rsp = act_left setup h Channel.BiRsp act m mine refl in
    let ndr_owed = act_owed h Channel.Ndr 0 act m mine refl in
    let drs_owed = act_owed h Channel.Drs 0 act m mine refl in
    let snp_owed = act_owed h Channel.BiSnp (length (buffered_snoops mine)) act m mine refl in
    λ j. record {
      ways = k.ways;
      opened = k.opened;
      tag_lines = k.tag_lines;
      conflicts = conflicts j;
      line_tags = k.line_tags;
      stages = stages j;
      busy = k.busy;
      snoops = k.snoops;
      writing = writing j;
      streams = streams j;
      req_left = req j;
      rwd_left = rwd j;
      bi_rsp_left = rsp j;
      ndr_owed = ndr_owed j;
      drs_owed = drs_owed j;
      bi_snp_owed = snp_owed j;
    }

-- H8

pub follow_write_back : (setup : Configuration) (h a : ℕ) (op : SnpOp) (mine : List Event) → Keeps setup mine → is_write_back_open setup mine ≡ false → a < setup.lines
    → Follows setup h mine (act_event h (Act.WriteBack (record { 0 = a })) (write_back_message setup op a mine))
follow_write_back setup h a op mine keeps free low =
    let act = Act.WriteBack (record { 0 = a }) in
    let m = write_back_message setup op a mine in
    let e = act_event h act m in
    let k = kept_host setup h mine in
    let ways = ways_by setup e mine (λ b. cond (a == b) (left_by m (copy setup b mine)) (copy setup b mine)) (filter (λ b. is_valid (cond (a == b) (left_by m (copy setup b mine)) (copy setup b mine)) || has_request b mine) (ways setup mine)) (λ b. refl) refl
    ∙ left_ways setup h a m mine keeps in
    let stages = written_stages setup h a m mine in
    let writing = written_writing setup h a m mine keeps.writes free low in
    let streams = act_streams setup h act m mine in
    let req = act_left setup h Channel.Req act m mine refl in
    let rwd = act_pays setup h Channel.Rwd act m mine refl in
    let rsp = act_left setup h Channel.BiRsp act m mine refl in
    let ndr_owed = act_owed h Channel.Ndr 0 act m mine refl in
    let drs_owed = act_owed h Channel.Drs 0 act m mine refl in
    let snp_owed = act_owed h Channel.BiSnp (length (buffered_snoops mine)) act m mine refl in
    λ j. record {
      ways = ways j;
      opened = k.opened;
      tag_lines = k.tag_lines;
      conflicts = k.conflicts;
      line_tags = k.line_tags;
      stages = stages j;
      busy = k.busy;
      snoops = k.snoops;
      writing = writing j;
      streams = streams j;
      req_left = req j;
      rwd_left = rwd j;
      bi_rsp_left = rsp j;
      ndr_owed = ndr_owed j;
      drs_owed = drs_owed j;
      bi_snp_owed = snp_owed j;
    }

-- H9

pub follow_answer : (setup : Configuration) (h a first low : ℕ) (op : RspOp) (mine : List Event) → Keeps setup mine → Purses setup h mine
    → Follows setup h mine (act_event h (Act.Answer (record { 0 = a })) (Message.BiRsp op (record { 0 = first }) low))
follow_answer setup h a first low op mine keeps p =
    let act = Act.Answer (record { 0 = a }) in
    let m = Message.BiRsp op (record { 0 = first }) low in
    let e = act_event h act m in
    let k = kept_host setup h mine in
    let held = p.held Channel.BiSnp refl in
    let ways = ways_by setup e mine (λ b. cond (a == b) (left_by m (copy setup b mine)) (copy setup b mine)) (filter (λ b. is_valid (cond (a == b) (left_by m (copy setup b mine)) (copy setup b mine)) || has_request b mine) (ways setup mine)) (λ b. refl) refl
    ∙ left_ways setup h a m mine keeps in
    let busy = answered_busy setup h a m mine keeps in
    let streams = act_streams setup h act m mine in
    let req = act_left setup h Channel.Req act m mine refl in
    let rwd = act_left setup h Channel.Rwd act m mine refl in
    let rsp = act_pays setup h Channel.BiRsp act m mine refl in
    let ndr_owed = act_owed h Channel.Ndr 0 act m mine refl in
    let drs_owed = act_owed h Channel.Drs 0 act m mine refl in
    let snp_owed = owed_answered h Channel.BiSnp (length (buffered_snoops mine)) (length (snoops_after_answer a (buffered_snoops mine))) e mine held.within (answered_few a (buffered_snoops mine))
    refl (act_returns h Channel.BiSnp act m false (no_credit m Channel.BiSnp refl)) in
    λ j. record {
      ways = ways j;
      opened = k.opened;
      tag_lines = k.tag_lines;
      conflicts = k.conflicts;
      line_tags = k.line_tags;
      stages = k.stages;
      busy = busy j;
      snoops = snoops_after_answer a (buffered_snoops mine);
      writing = k.writing;
      streams = streams j;
      req_left = req j;
      rwd_left = rwd j;
      bi_rsp_left = rsp j;
      ndr_owed = ndr_owed j;
      drs_owed = drs_owed j;
      bi_snp_owed = snp_owed j;
    }

pub follow_block : (setup : Configuration) (h a : ℕ) (mine : List Event) → Keeps setup mine → Purses setup h mine → may_answer_block setup a mine ≡ true
    → Follows setup h mine (act_event h (Act.AnswerBlock (record { 0 = a })) (Message.BiRsp RspOp.IBlk (record { 0 = a }) 0))
follow_block setup h a mine keeps p may =
    let act = Act.AnswerBlock (record { 0 = a }) in
    let m = Message.BiRsp RspOp.IBlk (record { 0 = a }) 0 in
    let e = act_event h act m in
    let k = kept_host setup h mine in
    let held = p.held Channel.BiSnp refl in
    let ways = block_ways setup h a m mine keeps may in
    let busy = block_busy setup h a m mine keeps may in
    let streams = act_streams setup h act m mine in
    let req = act_left setup h Channel.Req act m mine refl in
    let rwd = act_left setup h Channel.Rwd act m mine refl in
    let rsp = act_pays setup h Channel.BiRsp act m mine refl in
    let ndr_owed = act_owed h Channel.Ndr 0 act m mine refl in
    let drs_owed = act_owed h Channel.Drs 0 act m mine refl in
    let left = filter (λ s. not (is_whole_block a s)) (buffered_snoops mine) in
    let snp_owed = owed_answered h Channel.BiSnp (length (buffered_snoops mine)) (length left) e mine held.within (few_filter (λ s. not (is_whole_block a s)) (buffered_snoops mine))
    refl (act_returns h Channel.BiSnp act m false (no_credit m Channel.BiSnp refl)) in
    λ j. record {
      ways = ways j;
      opened = k.opened;
      tag_lines = k.tag_lines;
      conflicts = k.conflicts;
      line_tags = k.line_tags;
      stages = k.stages;
      busy = busy j;
      snoops = left;
      writing = k.writing;
      streams = streams j;
      req_left = req j;
      rwd_left = rwd j;
      bi_rsp_left = rsp j;
      ndr_owed = ndr_owed j;
      drs_owed = drs_owed j;
      bi_snp_owed = snp_owed j;
    }

-- H10

return_stays : (h : ℕ) (c d : Channel) (b : ℕ) (mine : List Event) → message_eq (Message.Credit d) (Message.Credit c) ≡ false → owed_count h c b (act_event h (Act.HostReturn d) (Message.Credit d) ∷ mine) ≡ owed_count h c b mine
return_stays h c d b mine off = owed_same h c b (act_event h (Act.HostReturn d) (Message.Credit d)) mine refl (act_returns h c (Act.HostReturn d) (Message.Credit d) false off)

return_falls : (h : ℕ) (c : Channel) (b : ℕ) (mine : List Event) → owed_count h c b (act_event h (Act.HostReturn c) (Message.Credit c) ∷ mine) ≡ owed_count h c b mine - 1
return_falls h c b mine = owed_returned h c b (act_event h (Act.HostReturn c) (Message.Credit c)) mine refl (act_returns h c (Act.HostReturn c) (Message.Credit c) true (same-message_eq (Message.Credit c) (Message.Credit c) refl))

follow_return_by : (setup : Configuration) (h : ℕ) (d : Channel) (mine : List Event) (nd dd sd : ℕ) → channel_of (Message.Credit d) ≡ Channel.CreditUp → owed_count h Channel.Ndr 0 (act_event h (Act.HostReturn d) (Message.Credit d) ∷ mine) ≡ nd
    → owed_count h Channel.Drs 0 (act_event h (Act.HostReturn d) (Message.Credit d) ∷ mine) ≡ dd → owed_count h Channel.BiSnp (length (buffered_snoops mine)) (act_event h (Act.HostReturn d) (Message.Credit d) ∷ mine) ≡ sd
    → kept_host setup h (act_event h (Act.HostReturn d) (Message.Credit d) ∷ mine) ≡ record (kept_host setup h mine) { ndr_owed = nd; drs_owed = dd; bi_snp_owed = sd }
follow_return_by setup h d mine nd dd sd up ndr_owed drs_owed snp_owed =
    let act = Act.HostReturn d in
    let m = Message.Credit d in
    let k = kept_host setup h mine in
    let streams = act_streams setup h act m mine in
    let req = act_left setup h Channel.Req act m mine (ap (λ c. channel_eq c Channel.Req) up) in
    let rwd = act_left setup h Channel.Rwd act m mine (ap (λ c. channel_eq c Channel.Rwd) up) in
    let rsp = act_left setup h Channel.BiRsp act m mine (ap (λ c. channel_eq c Channel.BiRsp) up) in
    λ j. record {
      ways = k.ways;
      opened = k.opened;
      tag_lines = k.tag_lines;
      conflicts = k.conflicts;
      line_tags = k.line_tags;
      stages = k.stages;
      busy = k.busy;
      snoops = k.snoops;
      writing = k.writing;
      streams = streams j;
      req_left = req j;
      rwd_left = rwd j;
      bi_rsp_left = rsp j;
      ndr_owed = ndr_owed j;
      drs_owed = drs_owed j;
      bi_snp_owed = snp_owed j;
    }

pub follow_return : (setup : Configuration) (h : ℕ) (d : Channel) (mine : List Event) → host_returns d ≡ true → Follows setup h mine (act_event h (Act.HostReturn d) (Message.Credit d))
follow_return setup h Channel.Req mine returns = absurd (false≢true returns)
follow_return setup h Channel.Rwd mine returns = absurd (false≢true returns)
follow_return setup h Channel.BiRsp mine returns = absurd (false≢true returns)
follow_return setup h Channel.Ndr mine returns =
    follow_return_by setup h Channel.Ndr mine _ _ _ refl (return_falls h Channel.Ndr 0 mine) (return_stays h Channel.Drs Channel.Ndr 0 mine refl) (return_stays h Channel.BiSnp Channel.Ndr (length (buffered_snoops mine)) mine refl)
follow_return setup h Channel.Drs mine returns =
    follow_return_by setup h Channel.Drs mine _ _ _ refl (return_stays h Channel.Ndr Channel.Drs 0 mine refl) (return_falls h Channel.Drs 0 mine) (return_stays h Channel.BiSnp Channel.Drs (length (buffered_snoops mine)) mine refl)
follow_return setup h Channel.BiSnp mine returns =
    follow_return_by setup h Channel.BiSnp mine _ _ _ refl (return_stays h Channel.Ndr Channel.BiSnp 0 mine refl) (return_stays h Channel.Drs Channel.BiSnp 0 mine refl) (return_falls h Channel.BiSnp (length (buffered_snoops mine)) mine)
follow_return setup h Channel.CreditUp mine returns = absurd (false≢true returns)
follow_return setup h Channel.CreditDown mine returns = absurd (false≢true returns)
