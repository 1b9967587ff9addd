-- Traces in which one event is changed so that it breaks a rule: the rows of a host. The verdict names that event and the rule.
use Rattle.std.specs.Prelude.{[], set, ◌≡◌}
use Rattle.cxl_message.specs.declared.channels.Channel.{Channel}
use Rattle.cxl_message.specs.declared.states.RuleNo.{RuleNo}
use Rattle.coherence_model.specs.Verdicts.{Verdict, verdict_on}
use Rattle.worked_runs.specs.DowngradeAndSharing.{downgrade_and_sharing_events, downgrade_and_sharing_setup}
use Rattle.worked_runs.specs.EarlyConflict.{early_conflict_events, early_conflict_setup}
use Rattle.worked_runs.specs.ModifiedLineIsWanted.{modified_line_is_wanted_events, modified_line_is_wanted_setup}
use Rattle.worked_runs.specs.OneLoad.{one_load_events, one_load_setup}
use Rattle.worked_runs.specs.SilentUpgrade.{silent_upgrade_events, silent_upgrade_setup}
use Rattle.worked_runs.specs.Vocabulary.{answer, begin, bi_conflict, conflict, conflict_ack, credit, filled, give_back, host, host_commits, host_sends, load, mem_data, one_word, read_shared, rsp_invalid, rsp_shared, snp_data, take, word, write_back, write_shared, zeros}

-- H1: event 12 of 'Silent upgrade', changed so that it has no commit
abbrev pub BreaksH1 : Type 0
BreaksH1 =
    verdict_on silent_upgrade_setup [] (set silent_upgrade_events 12 (host 0 (begin 0 1 (word 0 0 0xff))))
    ≡ Verdict.Broken 12 RuleNo.H1

-- H2: event 0 of 'One load', changed so that its MemRd has tag 1, while tag 0 is free
abbrev pub BreaksH2 : Type 0
BreaksH2 =
    verdict_on one_load_setup [] (set one_load_events 0 (host_sends 0 (begin 0 0 (load 0)) (read_shared 1 0)))
    ≡ Verdict.Broken 0 RuleNo.H2

-- H3: event 5 of 'One load', changed so that its commit's value is {01}, while the line is {00}
abbrev pub BreaksH3 : Type 0
BreaksH3 =
    verdict_on one_load_setup [] (set one_load_events 5 (host_commits 0 (take 0 (mem_data 0 zeros)) 0 0 (load 0) (filled 0x01)))
    ≡ Verdict.Broken 5 RuleNo.H3

-- H4: event 16 of 'Downgrade and sharing', changed so that it sends BIRspS too
abbrev pub BreaksH4 : Type 0
BreaksH4 =
    verdict_on downgrade_and_sharing_setup [] (set downgrade_and_sharing_events 16 (host_sends 0 (take 0 (snp_data 0)) (rsp_shared 0 0)))
    ≡ Verdict.Broken 16 RuleNo.H4

-- H5: event 42 of 'Early conflict', changed so that it sends BIRspI too
abbrev pub BreaksH5 : Type 0
BreaksH5 =
    verdict_on early_conflict_setup [] (set early_conflict_events 42 (host_sends 1 (take 1 (conflict_ack 0)) (rsp_invalid 0 0)))
    ≡ Verdict.Broken 42 RuleNo.H5

-- H6: event 11 of 'Silent upgrade', changed so that it sends a Credit for NDR too
abbrev pub BreaksH6 : Type 0
BreaksH6 =
    verdict_on silent_upgrade_setup [] (set silent_upgrade_events 11 (host_sends 0 (take 0 (credit Channel.Req)) (credit Channel.Ndr)))
    ≡ Verdict.Broken 11 RuleNo.H6

-- H7: event 39 of 'Early conflict', changed so that its BIConflict has tag 1, while the request has tag 0
abbrev pub BreaksH7 : Type 0
BreaksH7 =
    verdict_on early_conflict_setup [] (set early_conflict_events 39 (host_sends 1 (conflict 0) (bi_conflict 1)))
    ≡ Verdict.Broken 39 RuleNo.H7

-- H8: event 17 of 'Modified line is wanted', changed so that its MemWr is Shared, while the snoop is BISnpInv
abbrev pub BreaksH8 : Type 0
BreaksH8 =
    verdict_on modified_line_is_wanted_setup [] (set modified_line_is_wanted_events 17 (host_sends 0 (write_back 0) (write_shared 2 0 (one_word 1))))
    ≡ Verdict.Broken 17 RuleNo.H8

-- H9: event 17 of 'Modified line is wanted', changed so that it answers in place of the write-back of a modified line
abbrev pub BreaksH9 : Type 0
BreaksH9 =
    verdict_on modified_line_is_wanted_setup [] (set modified_line_is_wanted_events 17 (host_sends 0 (answer 0) (rsp_invalid 0 0)))
    ≡ Verdict.Broken 17 RuleNo.H9

-- H10: event 6 of 'Silent upgrade', changed so that it returns NDR and sends a Credit for DRS
abbrev pub BreaksH10 : Type 0
BreaksH10 =
    verdict_on silent_upgrade_setup [] (set silent_upgrade_events 6 (host_sends 0 (give_back Channel.Ndr) (credit Channel.Drs)))
    ≡ Verdict.Broken 6 RuleNo.H10
