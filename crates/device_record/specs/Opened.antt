-- What the device keeps before its first event.
use Rattle.std.specs.Prelude.{List, [], map, replicate, ℕ}
use Rattle.cxl_message.specs.declared.identifiers.Bytes64.{Bytes64}
use Rattle.cxl_message.specs.declared.identifiers.Line.{Line}
use Rattle.cxl_message.specs.Lists.{below}
use Rattle.cxl_message.specs.Opening.{bytes_at}
use Rattle.cxl_message.specs.Setup.{Configuration}
use Rattle.snoop_filter.specs.Filters.{opened_filter}
use Rattle.device_record.specs.Record.{CreditRecord, DeviceRecord}

-- all credits are left, and nothing is held (own rule)
abbrev pub full_credits : ℕ → CreditRecord
full_credits n = record { req_held = 0; rwd_held = 0; rsp_held = 0; ndr_left = n; drs_left = n; snp_left = n }

-- what is kept at first (own rule)
abbrev pub opened_device : Configuration → List (Line × Bytes64) → DeviceRecord
opened_device setup opening =
    record {
      memory = map (bytes_at opening) (below setup.lines);
      filter = opened_filter setup.entries setup.hosts setup.lines;
      tasks = [];
      requests = replicate setup.hosts [];
      writes = replicate setup.hosts [];
      credits = replicate setup.hosts (full_credits setup.credits);
    }
