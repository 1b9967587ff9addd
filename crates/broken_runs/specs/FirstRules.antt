-- Traces in which one event is changed so that it breaks a rule: the rules that come before the rows. The verdict names that event and the rule.
use Rattle.std.specs.Prelude.{[], set, ◌≡◌}
use Rattle.cxl_message.specs.declared.states.RuleNo.{RuleNo}
use Rattle.coherence_model.specs.Verdicts.{Verdict, verdict_on}
use Rattle.worked_runs.specs.OneLoad.{one_load_events, one_load_setup}
use Rattle.worked_runs.specs.SilentUpgrade.{silent_upgrade_events, silent_upgrade_setup}
use Rattle.worked_runs.specs.Vocabulary.{begin, dev, host_hits, host_sends, load, one_word, read_shared, take, word}

-- P0: event 0 of 'One load', changed so that its MemRd has tag 2, which the setup doesn't have
abbrev pub BreaksP0 : Type 0
BreaksP0 =
    verdict_on one_load_setup [] (set one_load_events 0 (host_sends 0 (begin 0 0 (load 0)) (read_shared 2 0)))
    ≡ Verdict.Broken 0 RuleNo.P0

-- K0: event 2 of 'One load', changed so that it is a copy of event 1, whose message was taken
abbrev pub BreaksK0 : Type 0
BreaksK0 =
    verdict_on one_load_setup [] (set one_load_events 2 (dev (take 0 (read_shared 0 0))))
    ≡ Verdict.Broken 2 RuleNo.K0

-- S0: event 12 of 'Silent upgrade', changed so that its index is 0, which was used before
abbrev pub BreaksS0 : Type 0
BreaksS0 =
    verdict_on silent_upgrade_setup [] (set silent_upgrade_events 12 (host_hits 0 0 0 (word 0 0 0xff) (one_word 0xff)))
    ≡ Verdict.Broken 12 RuleNo.S0
