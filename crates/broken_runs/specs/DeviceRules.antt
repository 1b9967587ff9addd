-- Traces in which one event is changed so that it breaks a rule: the rows of the device. The verdict names that event and the rule.
use Rattle.std.specs.Prelude.{[], set, ◌≡◌}
use Rattle.cxl_message.specs.declared.channels.Channel.{Channel}
use Rattle.cxl_message.specs.declared.states.RuleNo.{RuleNo}
use Rattle.coherence_model.specs.Verdicts.{Verdict, verdict_on}
use Rattle.worked_runs.specs.CleanEvictionCrosses.{clean_eviction_crosses_events, clean_eviction_crosses_setup}
use Rattle.worked_runs.specs.DowngradeAndSharing.{downgrade_and_sharing_events, downgrade_and_sharing_setup}
use Rattle.worked_runs.specs.EarlyConflict.{early_conflict_events, early_conflict_setup}
use Rattle.worked_runs.specs.ModifiedLineIsWanted.{modified_line_is_wanted_events, modified_line_is_wanted_setup}
use Rattle.worked_runs.specs.OneLoad.{one_load_events, one_load_setup}
use Rattle.worked_runs.specs.SilentUpgrade.{silent_upgrade_events, silent_upgrade_setup}
use Rattle.worked_runs.specs.StoreOverTwoSharedCopies.{store_over_two_shared_copies_events, store_over_two_shared_copies_setup}
use Rattle.worked_runs.specs.Vocabulary.{clean, cmp, cmp_e, cmp_s, credit, dev, dev_sends, dev_sends_two, evict, finish, give_back_to, mem_data, read_shared, rsp_invalid, serve, snoop, snp_inv, start, take, zeros}

-- V1: event 1 of 'One load', changed so that it sends Cmp-E too
abbrev pub BreaksV1 : Type 0
BreaksV1 =
    verdict_on one_load_setup [] (set one_load_events 1 (dev_sends (take 0 (read_shared 0 0)) 0 (cmp_e 0)))
    ≡ Verdict.Broken 1 RuleNo.V1

-- V2: event 22 of 'Modified line is wanted', changed so that it sends Cmp to host 1 too
abbrev pub BreaksV2 : Type 0
BreaksV2 =
    verdict_on modified_line_is_wanted_setup [] (set modified_line_is_wanted_events 22 (dev_sends (take 0 (rsp_invalid 0 0)) 1 (cmp 0)))
    ≡ Verdict.Broken 22 RuleNo.V2

-- V3: event 19 of 'Modified line is wanted', changed so that its Cmp has tag 0, while the write has tag 2
abbrev pub BreaksV3 : Type 0
BreaksV3 =
    verdict_on modified_line_is_wanted_setup [] (set modified_line_is_wanted_events 19 (dev_sends (serve 0 2) 0 (cmp 0)))
    ≡ Verdict.Broken 19 RuleNo.V3

-- V4: event 19 of 'Clean eviction crosses', changed so that it cleans a line that is Busy
abbrev pub BreaksV4 : Type 0
BreaksV4 =
    verdict_on clean_eviction_crosses_setup [] (set clean_eviction_crosses_events 19 (dev_sends (clean 0 0) 0 (cmp 0)))
    ≡ Verdict.Broken 19 RuleNo.V4

-- V5: event 37 of 'Early conflict', changed so that it starts a request whose line is Busy
abbrev pub BreaksV5 : Type 0
BreaksV5 =
    verdict_on early_conflict_setup [] (set early_conflict_events 37 (dev (start 1 0)))
    ≡ Verdict.Broken 37 RuleNo.V5

-- V6: event 2 of 'One load', changed so that it evicts while entries are free
abbrev pub BreaksV6 : Type 0
BreaksV6 =
    verdict_on one_load_setup [] (set one_load_events 2 (dev (evict 0 0)))
    ≡ Verdict.Broken 2 RuleNo.V6

-- V7: event 35 of 'Store over two shared copies', changed so that it snoops the requester, which isn't to be asked
abbrev pub BreaksV7 : Type 0
BreaksV7 =
    verdict_on store_over_two_shared_copies_setup [] (set store_over_two_shared_copies_events 35 (dev_sends (snoop 0 0) 0 (snp_inv 0)))
    ≡ Verdict.Broken 35 RuleNo.V7

-- V8: event 15 of 'Downgrade and sharing', changed so that it finishes a task while a host is to be asked
abbrev pub BreaksV8 : Type 0
BreaksV8 =
    verdict_on downgrade_and_sharing_setup [] (set downgrade_and_sharing_events 15 (dev_sends_two (finish 0) 1 (cmp_s 0) (mem_data 0 zeros)))
    ≡ Verdict.Broken 15 RuleNo.V8

-- V9: event 10 of 'Silent upgrade', changed so that it returns Req and sends a Credit for RwD
abbrev pub BreaksV9 : Type 0
BreaksV9 =
    verdict_on silent_upgrade_setup [] (set silent_upgrade_events 10 (dev_sends (give_back_to 0 Channel.Req) 0 (credit Channel.Rwd)))
    ≡ Verdict.Broken 10 RuleNo.V9
