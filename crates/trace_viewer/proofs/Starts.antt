-- A viewer that was fed nothing.
use Rattle.std.proofs.Common.{[], ◌≡◌, None, Ok, Err, arith, drop, refl, subst, sym}
use Rattle.cxl_message.specs.Setup.{Configuration}
use Rattle.cxl_codec.specs.Cells.{bytes_of}
use Rattle.cxl_codec.specs.Header.{HeaderFitsIn}
use Rattle.cxl_codec.specs.declared.refusals.DecodeRefusal.{DecodeRefusal}
use Rattle.cxl_codec.specs.declared.versions.Version.{Version}
use Rattle.trace_stream.specs.declared.items.Item.{Item}
use Rattle.trace_stream.specs.declared.stages.Stage.{Stage}
use Rattle.trace_stream.specs.Items.{Says, cells_at}
use Rattle.trace_stream.specs.Readings.{Reading}
use Rattle.trace_stream.specs.Runs.{HasRead}
use Rattle.cxl_view.specs.Tallies.{Counts, counts_of}
use Rattle.trace_viewer.specs.Viewing.{HasShown}

-- a setup of the least numbers
abbrev least : Configuration
least = record { hosts = 1; lines = 1; entries = 1; ways = 1; tags = 2; credits = 2; streams = [] }

least_fits : HeaderFitsIn Version.One least
least_fits = record {
  limits = record {
    hosts = (omega arith, omega arith);
    lines = (omega arith, omega arith);
    entries = (omega arith, omega arith);
    ways = (omega arith, omega arith);
    tags = (omega arith, omega arith);
    credits = (omega arith, omega arith);
    streams = omega arith;
    stream_hosts = refl;
  };
  tags = refl;
}

-- no bytes are a header cut short
nothing_is_short : Says Stage.Start 0 [] (Ok Item.More)
nothing_is_short = record {
  answer = Err DecodeRefusal.Short;
  answered = record {
    value = Item.Header Version.One least;
    fits = least_fits;
    next = 67;
    more = drop 1 (bytes_of (cells_at Stage.Start (Item.Header Version.One least)));
    spelled = refl;
  };
  comes_to = refl;
}

pub starts : (reader : Reading) (counted : Counts) → reader ≡ record { place = 0; waiting = []; stage = Stage.Start; fault = None } → HasRead [] [] reader → counted ≡ counts_of 0 [] → HasShown [] [] (record { reading = reader; counted = counted })
starts reader counted new =
    subst (λ (r : Reading). HasRead [] [] r → counted ≡ counts_of 0 [] → HasShown [] [] (record { reading = r; counted = counted })) (sym new)
    (λ read none. record { shown = record { items = []; read = read; shown = refl; counted = none }; drained = nothing_is_short })
