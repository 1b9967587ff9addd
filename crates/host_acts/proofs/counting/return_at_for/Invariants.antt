-- The act of the number is that of what is left of the number among what is left.
use Rattle.std.proofs.Common.{drop, ◌≡◌}
use Rattle.host_acts.specs.Counting.{return_act_of, nth_of}
use Rattle.host_acts.proofs.counting.return_at_for.Given as goal

abbrev pub invariant-loop-channel : goal.invariant-loop-channel
invariant-loop-channel l = nth_of (return_act_of l.agent) (drop l.channel-index l.channels) l.skip ≡ nth_of (return_act_of l.agent) l.channels l.k
