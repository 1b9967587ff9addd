-- The record goes on with the look-backs over a snoop, an acknowledged conflict and an earned credit.
use Rattle.coherence_model.specs.OwnerFacts.{is_writing}
use Rattle.host_record.specs.HostChanges.{answered, grant_in, owing_drs, owing_ndr, took_ndr, with_finished, with_marked}
use Rattle.cxl_message.specs.Messages.{acknowledges, channel_of, message_eq}
use Rattle.host_laws.proofs.StageSteps.{ack_conflicts, ack_stages, ack_writing, busy_stays, conflicts_of, ended_stages, ended_writing, same_writing, snoop_busy, snoop_stages, snoop_writing, stages_of, writing_of}
use Rattle.coherence_model.specs.Credits.{credits_left, earned_count, lacks_credit, owed_count, returned_count, sent_count, taken_count}
use Rattle.cxl_message.proofs.SameMessages.{same-message_eq}
use Rattle.cxl_message.specs.Channels.{goes_to_device}
use Rattle.std.proofs.Common.{Bool, List, None, Option, Some, [], ap, arith, false, length, refl, subst, sym, true, ℕ, ◌+◌, ◌-◌, ◌<◌, ◌∙◌, ◌∷◌, ◌≡◌, ◌≤◌}
use Rattle.std.proofs.lemmas.Bool.{cond-false, cond-true, eq-eqb, false≢true, ltb-true, ne_eqb}
use Rattle.std.proofs.lemmas.List.{length-append}
use Rattle.std.specs.Option.{option_map_or}
use Rattle.std.specs.Prelude.{is_none, min, nat_lt, not, option_map, slice_set, ◌&&◌, ◌++◌, ◌==◌}
use Rattle.cxl_message.specs.declared.channels.Channel.{Channel}
use Rattle.cxl_message.specs.declared.events.Act.{Act}
use Rattle.cxl_message.specs.declared.events.Commit.{Commit}
use Rattle.cxl_message.specs.declared.events.Event.{Event}
use Rattle.cxl_message.specs.declared.identifiers.Bytes64.{Bytes64}
use Rattle.cxl_message.specs.declared.identifiers.Line.{Line}
use Rattle.cxl_message.specs.declared.messages.Message.{Message}
use Rattle.cxl_message.specs.declared.opcodes.NdrOp.{NdrOp}
use Rattle.cxl_message.specs.Codes.{channel_eq}
use Rattle.cxl_message.specs.Events.{line_of}
use Rattle.cxl_message.specs.Setup.{Configuration}
use Rattle.cxl_message.specs.Stores.{line_after}
use Rattle.coherence_model.specs.Snoops.{Snoop, buffered_snoops, is_snooped}
use Rattle.coherence_model.specs.Tags.{is_conflict_open, open_with}
use Rattle.coherence_model.specs.Transactions.{Kind, Transaction, is_read, is_request, open_after_completion, open_after_data, open_at}
use Rattle.host_laws.proofs.CreditSteps.{act_returns, act_sends, is_credit, left_earned, left_same, left_sent, no_credit, owed_kept, owed_same, owed_taken, take_earns, take_earns_none, take_takes}
use Rattle.host_laws.proofs.Credits.{Purses}
use Rattle.host_laws.proofs.Events.{act_event, commit_of, take_event}
use Rattle.host_laws.proofs.HostEvents.{data_of, ndr}
use Rattle.host_laws.proofs.Keeps.{Keeps, data_ends, data_grant, data_waits, eviction_ends, grant_ends, grant_waits, reads_request}
use Rattle.host_laws.proofs.OpenSteps.{answer_opened, finish_busy, finish_line_tags, line_tags_of, mark_busy, mark_line_tags, opened_of}
use Rattle.host_laws.proofs.Opens.{AnswersTag, ack_open, ack_with, credit_open, credit_with, data_answers, found_line, ndr_answers, snoop_open, snoop_with, write_end_open, write_end_with}
use Rattle.host_laws.proofs.Ranges.{Ranges}
use Rattle.host_laws.proofs.StreamSteps.{fill_streams, take_streams}
use Rattle.host_laws.proofs.WaySteps.{fill_ways}
use Rattle.host_record.specs.HostRecord.{HostRecord}
use Rattle.host_record.specs.Stands.{kept_host}
use Rattle.coherence_model.specs.Copies.{filling_grant}
use Rattle.coherence_model.specs.HostTakes.{may_grant}
use Rattle.coherence_model.specs.Stages.{Stage, stage, stage_after_completion, stage_after_ndr}
use Rattle.coherence_model.specs.WriteBacks.{is_write_back_open}
use Rattle.std.specs.List.{list_all}
use Rattle.cxl_message.specs.declared.identifiers.BiTag.{BiTag}
use Rattle.cxl_message.specs.declared.opcodes.SnpOp.{SnpOp}
use Rattle.cxl_message.specs.declared.opcodes.Span.{Span}
use Rattle.cxl_message.specs.Spans.{lines_of}
use Rattle.host_laws.proofs.Follows.{Follows}
use Rattle.host_laws.proofs.Lookups.{with_is}
use Rattle.host_laws.proofs.TableLemmas.{stays}
use Rattle.host_record.specs.Tables.{set_at}
use Rattle.host_laws.proofs.FollowTakes.{take_left, take_off, take_on, with_stays, at_stays}

pub follow_snoop : (setup : Configuration) (h : ℕ) (op : SnpOp) (bitag : BiTag) (line : Line) (span : Span) (mine : List Event) → Keeps setup mine → list_all (λ a. not (is_snooped a mine)) (lines_of line.0 span) ≡ true
    → Follows setup h mine (take_event h (Message.BiSnp op bitag line span) None)
follow_snoop setup h op bitag line span mine keeps out =
    let m = Message.BiSnp op bitag line span in
    let e = take_event h m None in
    let k = kept_host setup h mine in
    let s : Snoop = record { op = op; first = line.0; span = span; unanswered = lines_of line.0 span } in
    let opened = with_stays setup e mine (snoop_with h op bitag line span None mine) in
    let line_tags = at_stays setup e mine (snoop_open h op bitag line span None mine) in
    let stages = snoop_stages setup h op bitag line span mine in
    let busy = snoop_busy setup h op bitag line span mine in
    let writing = snoop_writing setup h op bitag line span mine keeps.writes out in
    let streams = take_streams setup h m mine in
    let req = take_left setup h Channel.Req m None mine refl in
    let rwd = take_left setup h Channel.Rwd m None mine refl in
    let rsp = take_left setup h Channel.BiRsp m None mine refl in
    let ndr_owed = take_off h Channel.Ndr 0 m None mine refl in
    let drs_owed = take_off h Channel.Drs 0 m None mine refl in
    let longer : length (buffered_snoops mine ++ s ∷ []) ≡ length (buffered_snoops mine) + 1 = length-append (buffered_snoops mine) (s ∷ []) in
    let snp_owed = ap (λ n. owed_count h Channel.BiSnp n (e ∷ mine)) longer ∙ owed_kept h Channel.BiSnp (length (buffered_snoops mine)) e mine (take_takes h Channel.BiSnp m true refl) refl in
    λ j. record {
      ways = k.ways;
      opened = opened j;
      tag_lines = k.tag_lines;
      conflicts = k.conflicts;
      line_tags = line_tags j;
      stages = stages j;
      busy = busy j;
      snoops = buffered_snoops mine ++ s ∷ [];
      writing = writing j;
      streams = streams j;
      req_left = req j;
      rwd_left = rwd j;
      bi_rsp_left = rsp j;
      ndr_owed = ndr_owed j;
      drs_owed = drs_owed j;
      bi_snp_owed = snp_owed j;
    }

-- a BI-ConflictAck

pub follow_ack : (setup : Configuration) (h tag : ℕ) (mine : List Event) → Keeps setup mine → Purses setup h mine → is_conflict_open tag mine ≡ true
    → Follows setup h mine (take_event h (ndr NdrOp.ConflictAck tag) None)
follow_ack setup h tag mine keeps p conflict =
    let m = ndr NdrOp.ConflictAck tag in
    let e = take_event h m None in
    let k = kept_host setup h mine in
    let opened = with_stays setup e mine (ack_with h tag None mine) in
    let line_tags = at_stays setup e mine (ack_open h tag None mine) in
    let conflicts = ack_conflicts setup h tag mine in
    let stages = ack_stages setup h tag mine keeps conflict in
    let busy = busy_stays setup e mine (ack_open h tag None mine) refl in
    let writing = ack_writing setup h tag mine in
    let streams = take_streams setup h m mine in
    let req = take_left setup h Channel.Req m None mine refl in
    let rwd = take_left setup h Channel.Rwd m None mine refl in
    let rsp = take_left setup h Channel.BiRsp m None mine refl in
    let ndr_owed = take_on h Channel.Ndr 0 m None mine (p.held Channel.Ndr refl).within refl in
    let drs_owed = take_off h Channel.Drs 0 m None mine refl in
    let snp_owed = take_off h Channel.BiSnp (length (buffered_snoops mine)) m None mine refl in
    λ j. record {
      ways = k.ways;
      opened = opened j;
      tag_lines = k.tag_lines;
      conflicts = conflicts j;
      line_tags = line_tags j;
      stages = stages j;
      busy = busy j;
      snoops = k.snoops;
      writing = writing j;
      streams = streams j;
      req_left = req j;
      rwd_left = rwd j;
      bi_rsp_left = rsp j;
      ndr_owed = ndr_owed j;
      drs_owed = drs_owed j;
      bi_snp_owed = snp_owed j;
    }

-- a Credit

-- which credits a host is given back
abbrev pub earned_on : Channel → Channel → Bool
earned_on d c = message_eq (Message.Credit d) (Message.Credit c)

credit_stays : (setup : Configuration) (h : ℕ) (c d : Channel) (mine : List Event) → earned_on d c ≡ false → credits_left setup h c (take_event h (Message.Credit d) None ∷ mine) ≡ credits_left setup h c mine
credit_stays setup h c d mine off = left_same setup h c (take_event h (Message.Credit d) None) mine (take_earns h c d false off) refl

credit_rises : (setup : Configuration) (h : ℕ) (c : Channel) (mine : List Event) → sent_count h c mine ≤ setup.credits + earned_count h c mine
    → credits_left setup h c (take_event h (Message.Credit c) None ∷ mine) ≡ credits_left setup h c mine + 1
credit_rises setup h c mine within = left_earned setup h c (take_event h (Message.Credit c) None) mine within (take_earns h c c true (same-message_eq (Message.Credit c) (Message.Credit c) refl)) refl

follow_credit_by : (setup : Configuration) (h : ℕ) (d : Channel) (mine : List Event) (ql wl bl : ℕ) → channel_of (Message.Credit d) ≡ Channel.CreditDown → credits_left setup h Channel.Req (take_event h (Message.Credit d) None ∷ mine) ≡ ql
    → credits_left setup h Channel.Rwd (take_event h (Message.Credit d) None ∷ mine) ≡ wl → credits_left setup h Channel.BiRsp (take_event h (Message.Credit d) None ∷ mine) ≡ bl
    → kept_host setup h (take_event h (Message.Credit d) None ∷ mine) ≡ record (kept_host setup h mine) { req_left = ql; rwd_left = wl; bi_rsp_left = bl }
follow_credit_by setup h d mine ql wl bl down req rwd rsp =
    let m = Message.Credit d in
    let e = take_event h m None in
    let k = kept_host setup h mine in
    let opened = with_stays setup e mine (credit_with h d None mine) in
    let line_tags = at_stays setup e mine (credit_open h d None mine) in
    let busy = busy_stays setup e mine (credit_open h d None mine) refl in
    let streams = take_streams setup h m mine in
    let ndr_owed = take_off h Channel.Ndr 0 m None mine (ap (λ c. channel_eq c Channel.Ndr) down) in
    let drs_owed = take_off h Channel.Drs 0 m None mine (ap (λ c. channel_eq c Channel.Drs) down) in
    let snp_owed = take_off h Channel.BiSnp (length (buffered_snoops mine)) m None mine (ap (λ c. channel_eq c Channel.BiSnp) down) in
    λ j. record {
      ways = k.ways;
      opened = opened j;
      tag_lines = k.tag_lines;
      conflicts = k.conflicts;
      line_tags = line_tags j;
      stages = k.stages;
      busy = busy j;
      snoops = k.snoops;
      writing = k.writing;
      streams = streams j;
      req_left = req j;
      rwd_left = rwd j;
      bi_rsp_left = rsp j;
      ndr_owed = ndr_owed j;
      drs_owed = drs_owed j;
      bi_snp_owed = snp_owed j;
    }

pub follow_credit : (setup : Configuration) (h : ℕ) (d : Channel) (mine : List Event) → Purses setup h mine → goes_to_device (channel_of (Message.Credit d)) ≡ false → lacks_credit setup h d mine ≡ true → Follows setup h mine (take_event h (Message.Credit d) None)
follow_credit setup h Channel.Req mine p to lacks =
    follow_credit_by setup h Channel.Req mine _ _ _ refl (credit_rises setup h Channel.Req mine (p.sent Channel.Req refl)) (credit_stays setup h Channel.Rwd Channel.Req mine refl) (credit_stays setup h Channel.BiRsp Channel.Req mine refl)
follow_credit setup h Channel.Rwd mine p to lacks =
    follow_credit_by setup h Channel.Rwd mine _ _ _ refl (credit_stays setup h Channel.Req Channel.Rwd mine refl) (credit_rises setup h Channel.Rwd mine (p.sent Channel.Rwd refl)) (credit_stays setup h Channel.BiRsp Channel.Rwd mine refl)
follow_credit setup h Channel.BiRsp mine p to lacks =
    follow_credit_by setup h Channel.BiRsp mine _ _ _ refl (credit_stays setup h Channel.Req Channel.BiRsp mine refl) (credit_stays setup h Channel.Rwd Channel.BiRsp mine refl) (credit_rises setup h Channel.BiRsp mine (p.sent Channel.BiRsp refl))
follow_credit setup h Channel.Ndr mine p to lacks = absurd (false≢true (sym to))
follow_credit setup h Channel.Drs mine p to lacks = absurd (false≢true (sym to))
follow_credit setup h Channel.BiSnp mine p to lacks = absurd (false≢true (sym to))
follow_credit setup h Channel.CreditUp mine p to lacks = absurd (false≢true (sym to))
follow_credit setup h Channel.CreditDown mine p to lacks = absurd (false≢true (sym to))
