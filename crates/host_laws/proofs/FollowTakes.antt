-- What is kept of a host after a take or an act that its own half allows is what the event makes of what was kept.
use Rattle.coherence_model.specs.OwnerFacts.{is_writing}
use Rattle.host_record.specs.HostChanges.{answered, grant_in, owing_drs, owing_ndr, took_ndr, with_finished, with_marked}
use Rattle.cxl_message.specs.Messages.{acknowledges, channel_of, message_eq}
use Rattle.host_laws.proofs.StageSteps.{ack_conflicts, ack_stages, ack_writing, busy_stays, conflicts_of, ended_stages, ended_writing, same_writing, snoop_busy, snoop_stages, snoop_writing, stages_of, writing_of}
use Rattle.coherence_model.specs.Credits.{credits_left, earned_count, lacks_credit, owed_count, returned_count, sent_count, taken_count}
use Rattle.cxl_message.proofs.SameMessages.{same-message_eq}
use Rattle.cxl_message.specs.Channels.{goes_to_device}
use Rattle.std.proofs.Common.{Bool, List, None, Option, Some, [], ap, arith, false, length, refl, subst, sym, true, ℕ, ◌+◌, ◌-◌, ◌<◌, ◌∙◌, ◌∷◌, ◌≡◌, ◌≤◌}
use Rattle.std.proofs.lemmas.Bool.{cond-false, cond-true, eq-eqb, false≢true, ltb-true, ne_eqb}
use Rattle.std.proofs.lemmas.List.{length-append}
use Rattle.std.specs.Option.{option_map_or}
use Rattle.std.specs.Prelude.{is_none, min, nat_lt, not, option_map, slice_set, ◌&&◌, ◌++◌, ◌==◌}
use Rattle.cxl_message.specs.declared.channels.Channel.{Channel}
use Rattle.cxl_message.specs.declared.events.Act.{Act}
use Rattle.cxl_message.specs.declared.events.Commit.{Commit}
use Rattle.cxl_message.specs.declared.events.Event.{Event}
use Rattle.cxl_message.specs.declared.identifiers.Bytes64.{Bytes64}
use Rattle.cxl_message.specs.declared.identifiers.Line.{Line}
use Rattle.cxl_message.specs.declared.messages.Message.{Message}
use Rattle.cxl_message.specs.declared.opcodes.NdrOp.{NdrOp}
use Rattle.cxl_message.specs.Codes.{channel_eq}
use Rattle.cxl_message.specs.Events.{line_of}
use Rattle.cxl_message.specs.Setup.{Configuration}
use Rattle.cxl_message.specs.Stores.{line_after}
use Rattle.coherence_model.specs.Snoops.{Snoop, buffered_snoops, is_snooped}
use Rattle.coherence_model.specs.Tags.{is_conflict_open, open_with}
use Rattle.coherence_model.specs.Transactions.{Kind, Transaction, is_read, is_request, open_after_completion, open_after_data, open_at}
use Rattle.host_laws.proofs.CreditSteps.{act_returns, act_sends, is_credit, left_earned, left_same, left_sent, no_credit, owed_kept, owed_same, owed_taken, take_earns, take_earns_none, take_takes}
use Rattle.host_laws.proofs.Credits.{Purses}
use Rattle.host_laws.proofs.Events.{act_event, commit_of, take_event}
use Rattle.host_laws.proofs.HostEvents.{data_of, ndr}
use Rattle.host_laws.proofs.Keeps.{Keeps, data_ends, data_grant, data_waits, eviction_ends, grant_ends, grant_waits, reads_request}
use Rattle.host_laws.proofs.OpenSteps.{answer_opened, finish_busy, finish_line_tags, line_tags_of, mark_busy, mark_line_tags, opened_of}
use Rattle.host_laws.proofs.Opens.{AnswersTag, ack_open, ack_with, credit_open, credit_with, data_answers, found_line, ndr_answers, snoop_open, snoop_with, write_end_open, write_end_with}
use Rattle.host_laws.proofs.Ranges.{Ranges}
use Rattle.host_laws.proofs.StreamSteps.{fill_streams, take_streams}
use Rattle.host_laws.proofs.WaySteps.{fill_ways}
use Rattle.host_record.specs.HostRecord.{HostRecord}
use Rattle.host_record.specs.Stands.{kept_host}
use Rattle.coherence_model.specs.Copies.{filling_grant}
use Rattle.coherence_model.specs.HostTakes.{may_grant}
use Rattle.coherence_model.specs.Stages.{Stage, stage, stage_after_completion, stage_after_ndr}
use Rattle.coherence_model.specs.WriteBacks.{is_write_back_open}
use Rattle.std.specs.List.{list_all}
use Rattle.cxl_message.specs.declared.identifiers.BiTag.{BiTag}
use Rattle.cxl_message.specs.declared.opcodes.SnpOp.{SnpOp}
use Rattle.cxl_message.specs.declared.opcodes.Span.{Span}
use Rattle.cxl_message.specs.Spans.{lines_of}
use Rattle.host_laws.proofs.Follows.{Follows}
use Rattle.host_laws.proofs.Lookups.{with_is}
use Rattle.host_laws.proofs.TableLemmas.{stays}
use Rattle.host_record.specs.Tables.{set_at}

-- credits of a take that brings no Credit, and of an act that sends none

pub take_left : (setup : Configuration) (h : ℕ) (c : Channel) (m : Message) (commit : Option Commit) (mine : List Event) → is_credit m ≡ false → credits_left setup h c (take_event h m commit ∷ mine) ≡ credits_left setup h c mine
take_left setup h c m commit mine none = left_same setup h c (take_event h m commit) mine (take_earns_none h c m none) refl

pub take_off : (h : ℕ) (c : Channel) (b : ℕ) (m : Message) (commit : Option Commit) (mine : List Event) → channel_eq (channel_of m) c ≡ false → owed_count h c b (take_event h m commit ∷ mine) ≡ owed_count h c b mine
take_off h c b m commit mine off = owed_same h c b (take_event h m commit) mine (take_takes h c m false off) refl

-- one more is owed
pub take_on : (h : ℕ) (c : Channel) (b : ℕ) (m : Message) (commit : Option Commit) (mine : List Event) → returned_count h c mine + b ≤ taken_count h c mine
    → channel_eq (channel_of m) c ≡ true → owed_count h c b (take_event h m commit ∷ mine) ≡ owed_count h c b mine + 1
take_on h c b m commit mine within on =
    owed_taken h c b (take_event h m commit) mine within (take_takes h c m true on) refl

minus_zero : (n : ℕ) → n - 0 ≡ n
minus_zero n = omega arith

pub act_left : (setup : Configuration) (h : ℕ) (c : Channel) (act : Act) (m : Message) (mine : List Event) → channel_eq (channel_of m) c ≡ false → credits_left setup h c (act_event h act m ∷ mine) ≡ credits_left setup h c mine
act_left setup h c act m mine off = left_same setup h c (act_event h act m) mine refl (act_sends h c act m false off)

pub act_pays : (setup : Configuration) (h : ℕ) (c : Channel) (act : Act) (m : Message) (mine : List Event) → channel_eq (channel_of m) c ≡ true → credits_left setup h c (act_event h act m ∷ mine) ≡ credits_left setup h c mine - 1
act_pays setup h c act m mine on = left_sent setup h c 1 (act_event h act m) mine refl (act_sends h c act m true on)

pub act_owed : (h : ℕ) (c : Channel) (b : ℕ) (act : Act) (m : Message) (mine : List Event) → is_credit m ≡ false → owed_count h c b (act_event h act m ∷ mine) ≡ owed_count h c b mine
act_owed h c b act m mine none = owed_same h c b (act_event h act m) mine refl (act_returns h c act m false (no_credit m c none))

-- tables that stay where nothing opens or ends

pub with_stays : (setup : Configuration) (e : Event) (mine : List Event) → ((t : ℕ) → open_with t (e ∷ mine) ≡ open_with t mine) → opened_of setup (e ∷ mine) ≡ opened_of setup mine
with_stays setup e mine same = stays (λ t. open_with t mine) (λ t. open_with t (e ∷ mine)) setup.tags same

pub at_stays : (setup : Configuration) (e : Event) (mine : List Event) → ((a : ℕ) → open_at a (e ∷ mine) ≡ open_at a mine) → line_tags_of setup (e ∷ mine) ≡ line_tags_of setup mine
at_stays setup e mine same = stays (λ a. option_map (λ (o : Transaction). o.tag) (open_at a mine)) (λ a. option_map (λ (o : Transaction). o.tag) (open_at a (e ∷ mine))) setup.lines (λ a. ap (option_map (λ (o : Transaction). o.tag)) (same a))

-- the Cmp of the write-back

pub follow_write_end : (setup : Configuration) (h : ℕ) (mine : List Event) → Keeps setup mine → Purses setup h mine → is_write_back_open setup mine ≡ true
    → Follows setup h mine (take_event h (ndr NdrOp.Cmp setup.tags) None)
follow_write_end setup h mine keeps p writing =
    let m = ndr NdrOp.Cmp setup.tags in
    let e = take_event h m None in
    let k = kept_host setup h mine in
    let opened = with_stays setup e mine (write_end_with setup h mine keeps.back) in
    let line_tags = at_stays setup e mine (write_end_open setup h mine keeps.back) in
    let stages = ended_stages setup h mine keeps.writes writing in
    let busy = busy_stays setup e mine (write_end_open setup h mine keeps.back) refl in
    let none = ended_writing setup h mine in
    let streams = take_streams setup h m mine in
    let req = take_left setup h Channel.Req m None mine refl in
    let rwd = take_left setup h Channel.Rwd m None mine refl in
    let rsp = take_left setup h Channel.BiRsp m None mine refl in
    let ndr_owed = take_on h Channel.Ndr 0 m None mine (p.held Channel.Ndr refl).within refl in
    let drs_owed = take_off h Channel.Drs 0 m None mine refl in
    let snp_owed = take_off h Channel.BiSnp (length (buffered_snoops mine)) m None mine refl in
    let ended = record k { stages = set_at k.writing Stage.Written k.stages; writing = None } in
    let path : kept_host setup h (e ∷ mine) ≡ record ended { ndr_owed = k.ndr_owed + 1 } = λ j. record {
      ways = k.ways;
      opened = opened j;
      tag_lines = k.tag_lines;
      conflicts = k.conflicts;
      line_tags = line_tags j;
      stages = stages j;
      busy = busy j;
      snoops = k.snoops;
      writing = none j;
      streams = streams j;
      req_left = req j;
      rwd_left = rwd j;
      bi_rsp_left = rsp j;
      ndr_owed = ndr_owed j;
      drs_owed = drs_owed j;
      bi_snp_owed = snp_owed j;
    } in
    path ∙ ap owing_ndr (sym (cond-true (setup.tags == setup.tags) ended (with_finished setup.tags k) (eq-eqb setup.tags setup.tags refl)))

-- the Cmp of an eviction

completion_same : (setup : Configuration) (tag : ℕ) (st : Stage) → (tag == setup.tags) ≡ false → stage_after_completion setup tag st ≡ st
completion_same setup tag Stage.New other = refl
completion_same setup tag (Stage.Asked t) other = refl
completion_same setup tag Stage.Early other = refl
completion_same setup tag Stage.Late other = refl
completion_same setup tag Stage.Writing other = cond-false (tag == setup.tags) Stage.Written Stage.Writing other
completion_same setup tag Stage.Written other = refl

pub stages_stay : (setup : Configuration) (e : Event) (mine : List Event) → ((a : ℕ) → stage setup a (e ∷ mine) ≡ stage setup a mine) → stages_of setup (e ∷ mine) ≡ stages_of setup mine
stages_stay setup e mine same = stays (λ a. stage setup a mine) (λ a. stage setup a (e ∷ mine)) setup.lines same

pub writing_stays : (setup : Configuration) (e : Event) (mine : List Event) → ((a : ℕ) → stage setup a (e ∷ mine) ≡ stage setup a mine) → writing_of setup (e ∷ mine) ≡ writing_of setup mine
writing_stays setup e mine same = same_writing setup mine (λ a. stage setup a (e ∷ mine)) (λ a. ap is_writing (same a))

pub follow_eviction_end : (setup : Configuration) (h tag : ℕ) (o : Transaction) (mine : List Event) → Keeps setup mine → Purses setup h mine
    → open_with tag mine ≡ Some o → is_request o.kind ≡ false → Follows setup h mine (take_event h (ndr NdrOp.Cmp tag) None)
follow_eviction_end setup h tag o mine keeps p there eviction =
    let m = ndr NdrOp.Cmp tag in
    let e = take_event h m None in
    let k = kept_host setup h mine in
    let found = found_line mine tag o there in
    let low : tag < setup.tags = subst (λ t. t < setup.tags) found.tag (keeps.back found.a o found.there).tag in
    let other : (tag == setup.tags) ≡ false = ne_eqb tag setup.tags (λ same. omega arith) in
    let ends = eviction_ends o eviction in
    let same : (a : ℕ) → stage setup a (e ∷ mine) ≡ stage setup a mine = λ a. completion_same setup tag (stage setup a mine) other in
    let opened = answer_opened setup h m tag (open_after_completion NdrOp.Cmp) (ndr_answers NdrOp.Cmp tag) None mine o there ∙ ap (slice_set k.opened tag) ends in
    let line_tags = finish_line_tags setup h m tag (open_after_completion NdrOp.Cmp) (ndr_answers NdrOp.Cmp tag) None mine keeps o found ends in
    let busy = finish_busy setup h m tag (open_after_completion NdrOp.Cmp) (ndr_answers NdrOp.Cmp tag) None mine keeps o found ends refl in
    let stages = stages_stay setup e mine same in
    let writing = writing_stays setup e mine same in
    let streams = take_streams setup h m mine in
    let req = take_left setup h Channel.Req m None mine refl in
    let rwd = take_left setup h Channel.Rwd m None mine refl in
    let rsp = take_left setup h Channel.BiRsp m None mine refl in
    let ndr_owed = take_on h Channel.Ndr 0 m None mine (p.held Channel.Ndr refl).within refl in
    let drs_owed = take_off h Channel.Drs 0 m None mine refl in
    let snp_owed = take_off h Channel.BiSnp (length (buffered_snoops mine)) m None mine refl in
    let path : kept_host setup h (e ∷ mine) ≡ owing_ndr (with_finished tag k) = λ j. record {
      ways = k.ways;
      opened = opened j;
      tag_lines = k.tag_lines;
      conflicts = k.conflicts;
      line_tags = line_tags j;
      stages = stages j;
      busy = busy j;
      snoops = k.snoops;
      writing = writing j;
      streams = streams j;
      req_left = req j;
      rwd_left = rwd j;
      bi_rsp_left = rsp j;
      ndr_owed = ndr_owed j;
      drs_owed = drs_owed j;
      bi_snp_owed = snp_owed j;
    } in
    path ∙ ap owing_ndr (sym (cond-false (tag == setup.tags) (record k { stages = set_at k.writing Stage.Written k.stages; writing = None }) (with_finished tag k) other))

-- grants

grant_stage : (setup : Configuration) (c : NdrOp) (kind : Kind) (tag a : ℕ) (mine : List Event) (st : Stage) → may_grant c kind ≡ true → stage_after_ndr setup c tag a mine st ≡ st
grant_stage setup NdrOp.Cmp kind tag a mine st may = absurd (false≢true may)
grant_stage setup NdrOp.CmpS kind tag a mine st may = refl
grant_stage setup NdrOp.CmpE kind tag a mine st may = refl
grant_stage setup NdrOp.ConflictAck kind tag a mine st may = absurd (false≢true may)

grant_took : (setup : Configuration) (c : NdrOp) (kind : Kind) (tag : ℕ) (commit : Option Commit) (k : HostRecord) → may_grant c kind ≡ true → took_ndr setup c tag commit k ≡ answered tag (Some c) (λ o. record o { grant = Some c }) commit k
grant_took setup NdrOp.Cmp kind tag commit k may = absurd (false≢true may)
grant_took setup NdrOp.CmpS kind tag commit k may = refl
grant_took setup NdrOp.CmpE kind tag commit k may = refl
grant_took setup NdrOp.ConflictAck kind tag commit k may = absurd (false≢true may)

no_ack : (c : NdrOp) (kind : Kind) → may_grant c kind ≡ true → acknowledges c ≡ false
no_ack NdrOp.Cmp kind may = refl
no_ack NdrOp.CmpS kind may = refl
no_ack NdrOp.CmpE kind may = refl
no_ack NdrOp.ConflictAck kind may = absurd (false≢true may)

grant_conflicts : (setup : Configuration) (h : ℕ) (c : NdrOp) (kind : Kind) (tag : ℕ) (commit : Option Commit) (mine : List Event) → may_grant c kind ≡ true → conflicts_of setup (take_event h (ndr c tag) commit ∷ mine) ≡ conflicts_of setup mine
grant_conflicts setup h c kind tag commit mine may =
    stays (λ t. is_conflict_open t mine) (λ t. is_conflict_open t (take_event h (ndr c tag) commit ∷ mine)) setup.tags (λ t. ap (λ b. not (b && (tag == t)) && is_conflict_open t mine) (no_ack c kind may))

-- an answer with a tag that leaves the read open
follow_mark :
    (setup : Configuration) (h : ℕ) (m : Message) (tag : ℕ) (step : Transaction → Option Transaction) → AnswersTag m tag step → (mine : List Event) → Keeps setup mine → (o p : Transaction) → open_with tag mine ≡ Some o → step o ≡ Some p → p.tag ≡ o.tag
    → (mark : Transaction → Transaction) → p ≡ mark o → is_credit m ≡ false → buffered_snoops (take_event h m None ∷ mine) ≡ buffered_snoops mine
    → ((a : ℕ) → stage setup a (take_event h m None ∷ mine) ≡ stage setup a mine) → conflicts_of setup (take_event h m None ∷ mine) ≡ conflicts_of setup mine
    → (nd dd : ℕ) → owed_count h Channel.Ndr 0 (take_event h m None ∷ mine) ≡ nd → owed_count h Channel.Drs 0 (take_event h m None ∷ mine) ≡ dd → channel_eq (channel_of m) Channel.BiSnp ≡ false
    → kept_host setup h (take_event h m None ∷ mine) ≡ record (with_marked tag mark (kept_host setup h mine)) { ndr_owed = nd; drs_owed = dd }
follow_mark setup h m tag step answers mine keeps o p there left same mark is none snoops stage_same conflicts nd dd ndr_owed drs_owed off =
    let e = take_event h m None in
    let k = kept_host setup h mine in
    let found = found_line mine tag o there in
    let opened = answer_opened setup h m tag step answers None mine o there ∙ ap (slice_set k.opened tag) (left ∙ ap {B = Option Transaction} Some is ∙ ap (option_map mark) (sym (with_is setup h mine keeps.back tag ∙ there))) in
    let line_tags = mark_line_tags setup h m tag step answers None mine keeps o p found left same in
    let busy = mark_busy setup h m tag step answers None mine keeps o p found left same snoops in
    let stages = stages_stay setup e mine stage_same in
    let writing = writing_stays setup e mine stage_same in
    let streams = take_streams setup h m mine in
    let req = take_left setup h Channel.Req m None mine none in
    let rwd = take_left setup h Channel.Rwd m None mine none in
    let rsp = take_left setup h Channel.BiRsp m None mine none in
    let snp_owed = ap (λ (ss : List Snoop). owed_count h Channel.BiSnp (length ss) (e ∷ mine)) snoops ∙ take_off h Channel.BiSnp (length (buffered_snoops mine)) m None mine off in
    λ j. record {
      ways = k.ways;
      opened = opened j;
      tag_lines = k.tag_lines;
      conflicts = conflicts j;
      line_tags = line_tags j;
      stages = stages j;
      busy = busy j;
      snoops = snoops j;
      writing = writing j;
      streams = streams j;
      req_left = req j;
      rwd_left = rwd j;
      bi_rsp_left = rsp j;
      ndr_owed = ndr_owed j;
      drs_owed = drs_owed j;
      bi_snp_owed = snp_owed j;
    }

pub follow_grant : (setup : Configuration) (h : ℕ) (c : NdrOp) (tag : ℕ) (o : Transaction) (mine : List Event) → Keeps setup mine → Purses setup h mine
    → open_with tag mine ≡ Some o → may_grant c o.kind ≡ true → is_read o.kind ≡ true → o.bytes ≡ None → Follows setup h mine (take_event h (ndr c tag) None)
follow_grant setup h c tag o mine keeps p there may read waits =
    let k = kept_host setup h mine in
    follow_mark setup h (ndr c tag) tag (open_after_completion c) (ndr_answers c tag) mine keeps o (record o { grant = Some c }) there (grant_waits c o may read waits) refl (λ x. record x { grant = Some c }) refl refl refl
    (λ a. grant_stage setup c o.kind tag a mine (stage setup a mine) may) (grant_conflicts setup h c o.kind tag None mine may) (k.ndr_owed + 1) k.drs_owed
    (take_on h Channel.Ndr 0 (ndr c tag) None mine (p.held Channel.Ndr refl).within refl) (take_off h Channel.Drs 0 (ndr c tag) None mine refl) refl
    ∙ ap owing_ndr (sym (grant_took setup c o.kind tag None k may))

pub follow_data : (setup : Configuration) (h tag : ℕ) (bytes : Bytes64) (o : Transaction) (mine : List Event) → Keeps setup mine → Purses setup h mine
    → open_with tag mine ≡ Some o → o.grant ≡ None → Follows setup h mine (take_event h (data_of tag bytes) None)
follow_data setup h tag bytes o mine keeps p there waits =
    let k = kept_host setup h mine in
    follow_mark setup h (data_of tag bytes) tag (open_after_data bytes) (data_answers tag bytes) mine keeps o (record o { bytes = Some bytes }) there (data_waits bytes o waits) refl (λ x. record x { bytes = Some bytes }) refl refl refl
    (λ a. refl) refl k.ndr_owed (k.drs_owed + 1)
    (take_off h Channel.Ndr 0 (data_of tag bytes) None mine refl) (take_on h Channel.Drs 0 (data_of tag bytes) None mine (p.held Channel.Drs refl).within refl) refl

-- fills

follow_fill :
    (setup : Configuration) (h : ℕ) (m : Message) (tag : ℕ) (step : Transaction → Option Transaction) → AnswersTag m tag step → (mine : List Event) → Keeps setup mine → Ranges setup mine → (o : Transaction) → open_with tag mine ≡ Some o → step o ≡ None
    → (value : Bytes64) (grant : Option NdrOp) → filling_grant m (open_at (line_of o.op) mine) ≡ grant → is_credit m ≡ false → buffered_snoops (take_event h m (Some (commit_of o.stream o.index o.op value)) ∷ mine) ≡ buffered_snoops mine
    → ((a : ℕ) → stage setup a (take_event h m (Some (commit_of o.stream o.index o.op value)) ∷ mine) ≡ stage setup a mine) → conflicts_of setup (take_event h m (Some (commit_of o.stream o.index o.op value)) ∷ mine) ≡ conflicts_of setup mine
    → (nd dd : ℕ) → owed_count h Channel.Ndr 0 (take_event h m (Some (commit_of o.stream o.index o.op value)) ∷ mine) ≡ nd → owed_count h Channel.Drs 0 (take_event h m (Some (commit_of o.stream o.index o.op value)) ∷ mine) ≡ dd
    → channel_eq (channel_of m) Channel.BiSnp ≡ false
    → kept_host setup h (take_event h m (Some (commit_of o.stream o.index o.op value)) ∷ mine)
    ≡ record (answered tag grant (λ x. x) (Some (commit_of o.stream o.index o.op value)) (kept_host setup h mine)) { ndr_owed = nd; drs_owed = dd }
follow_fill setup h m tag step answers mine keeps r o there ends value grant is none snoops stage_same conflicts nd dd ndr_owed drs_owed off =
    let commit = commit_of o.stream o.index o.op value in
    let e = take_event h m (Some commit) in
    let k = kept_host setup h mine in
    let found = found_line mine tag o there in
    let ways = fill_ways setup h m commit mine grant is in
    let opened = answer_opened setup h m tag step answers (Some commit) mine o there ∙ ap (slice_set k.opened tag) ends in
    let line_tags = finish_line_tags setup h m tag step answers (Some commit) mine keeps o found ends in
    let busy = finish_busy setup h m tag step answers (Some commit) mine keeps o found ends snoops in
    let stages = stages_stay setup e mine stage_same in
    let writing = writing_stays setup e mine stage_same in
    let streams = fill_streams setup h m o.stream o.index o.op value mine r in
    let req = take_left setup h Channel.Req m (Some commit) mine none in
    let rwd = take_left setup h Channel.Rwd m (Some commit) mine none in
    let rsp = take_left setup h Channel.BiRsp m (Some commit) mine none in
    let snp_owed = ap (λ (ss : List Snoop). owed_count h Channel.BiSnp (length ss) (e ∷ mine)) snoops ∙ take_off h Channel.BiSnp (length (buffered_snoops mine)) m (Some commit) mine off in
    λ j. record {
      ways = ways j;
      opened = opened j;
      tag_lines = k.tag_lines;
      conflicts = conflicts j;
      line_tags = line_tags j;
      stages = stages j;
      busy = busy j;
      snoops = snoops j;
      writing = writing j;
      streams = streams j;
      req_left = req j;
      rwd_left = rwd j;
      bi_rsp_left = rsp j;
      ndr_owed = ndr_owed j;
      drs_owed = drs_owed j;
      bi_snp_owed = snp_owed j;
    }

pub follow_grant_fill : (setup : Configuration) (h : ℕ) (c : NdrOp) (tag : ℕ) (o : Transaction) (bytes : Bytes64) (mine : List Event) → Keeps setup mine → Ranges setup mine → Purses setup h mine
    → open_with tag mine ≡ Some o → may_grant c o.kind ≡ true → (is_read o.kind && is_none o.bytes) ≡ false
    → Follows setup h mine (take_event h (ndr c tag) (Some (commit_of o.stream o.index o.op (line_after o.op bytes))))
follow_grant_fill setup h c tag o bytes mine keeps r p there may ends =
    let k = kept_host setup h mine in
    let commit = commit_of o.stream o.index o.op (line_after o.op bytes) in
    follow_fill setup h (ndr c tag) tag (open_after_completion c) (ndr_answers c tag) mine keeps r o there (grant_ends c o may ends) (line_after o.op bytes) (Some c) refl refl refl
    (λ a. grant_stage setup c o.kind tag a mine (stage setup a mine) may) (grant_conflicts setup h c o.kind tag (Some commit) mine may) (k.ndr_owed + 1) k.drs_owed
    (take_on h Channel.Ndr 0 (ndr c tag) (Some commit) mine (p.held Channel.Ndr refl).within refl) (take_off h Channel.Drs 0 (ndr c tag) (Some commit) mine refl) refl
    ∙ ap owing_ndr (sym (grant_took setup c o.kind tag (Some commit) k may))

pub follow_data_fill : (setup : Configuration) (h tag : ℕ) (bytes : Bytes64) (o : Transaction) (c : NdrOp) (mine : List Event) → Keeps setup mine → Ranges setup mine → Purses setup h mine
    → open_with tag mine ≡ Some o → is_read o.kind ≡ true → o.grant ≡ Some c
    → Follows setup h mine (take_event h (data_of tag bytes) (Some (commit_of o.stream o.index o.op (line_after o.op bytes))))
follow_data_fill setup h tag bytes o c mine keeps r p there read granted =
    let k = kept_host setup h mine in
    let commit = commit_of o.stream o.index o.op (line_after o.op bytes) in
    let found = found_line mine tag o there in
    let grant : grant_in tag k ≡ Some c = ap (λ x. option_map_or (λ (y : Transaction). y.grant) x None) (with_is setup h mine keeps.back tag ∙ there) ∙ granted in
    follow_fill setup h (data_of tag bytes) tag (open_after_data bytes) (data_answers tag bytes) mine keeps r o there (data_ends bytes o c granted) (line_after o.op bytes) (Some c)
    (data_grant setup mine tag bytes o c keeps.own found (reads_request o.kind read) granted) refl refl (λ a. refl) refl k.ndr_owed (k.drs_owed + 1)
    (take_off h Channel.Ndr 0 (data_of tag bytes) (Some commit) mine refl) (take_on h Channel.Drs 0 (data_of tag bytes) (Some commit) mine (p.held Channel.Drs refl).within refl) refl
    ∙ ap (λ g. owing_drs (answered tag g (λ x. record x { bytes = Some bytes }) (Some commit) k)) (sym grant)

-- a snoop
