-- The rules P0, K0 and S0, which come before the rows.
use Rattle.std.specs.Prelude.{Bool, List, nat_lt, not, true, ℕ, ◌&&◌, ◌==◌, ◌||◌}
use Rattle.std.specs.List.{list_all}
use Rattle.std.specs.Option.{option_map_or}
use Rattle.cxl_message.specs.declared.events.Cause.{Cause}
use Rattle.cxl_message.specs.declared.events.Event.{Event}
use Rattle.cxl_message.specs.Events.{outs}
use Rattle.cxl_message.specs.Formed.{well_formed}
use Rattle.cxl_message.specs.Messages.{channel_of}
use Rattle.cxl_message.specs.Setup.{Configuration}
use Rattle.coherence_model.specs.Fitting.{cause_fits, commit_fits, is_device, is_host, out_fits}
use Rattle.coherence_model.specs.Flight.{in_flight, is_takeable}
use Rattle.coherence_model.specs.Streams.{begun_count, stream_waits}

-- P0: the event is well formed, what it names exists, and its messages are in the profile and go the right way (CXL 3.1, ch. 3: the opcode tables; own rule: the rest)
abbrev pub p0_profile : Configuration → Event → Bool
p0_profile setup e =
    well_formed e && (is_device e.agent || is_host setup e.agent) && cause_fits setup e.agent e.cause
    && list_all (out_fits setup e.agent) (outs e.sends) && option_map_or (commit_fits setup) e.commit true

-- K0: a taken message is in flight and may be taken (CXL 3.1, ch. 3: BI-ConflictAck doesn't pass an earlier Cmp; own rule: any other order)
abbrev pub k0_takeable : Cause → List Event → Bool
k0_takeable (Cause.Op _ _ _) past = true
k0_takeable (Cause.Take h m) past = is_takeable m (in_flight h (channel_of m) past)
k0_takeable (Cause.Act _) past = true

-- the most operations that a stream may begin (own rule)
abbrev pub most_operations : ℕ
most_operations = 4294967295

-- S0: an operation's index counts its stream's operations, and the last one has its commit (own rule)
abbrev pub s0_stream_order : Cause → List Event → Bool
s0_stream_order (Cause.Op s i _) mine = (i == begun_count s mine) && nat_lt i most_operations && not (stream_waits s mine)
s0_stream_order (Cause.Take _ _) mine = true
s0_stream_order (Cause.Act _) mine = true
