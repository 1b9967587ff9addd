-- What is kept of a host after an event that its own half allows is what the event makes of what was kept.
use Rattle.host_record.specs.Ways.{Way, add_way, drop_way_of}
use Rattle.std.proofs.Common.{Bool, List, None, Some, ap, arith, cond, false, length, refl, sym, true, ℕ, ◌+◌, ◌-◌, ◌<◌, ◌∙◌, ◌∷◌, ◌≡◌}
use Rattle.cxl_message.specs.declared.channels.Channel.{Channel}
use Rattle.cxl_message.specs.declared.events.Event.{Event}
use Rattle.cxl_message.specs.declared.events.Op.{Op}
use Rattle.cxl_message.specs.declared.identifiers.Bytes64.{Bytes64}
use Rattle.cxl_message.specs.Codes.{channel_eq}
use Rattle.cxl_message.specs.Events.{line_of}
use Rattle.cxl_message.specs.Messages.{channel_of, line_in}
use Rattle.cxl_message.specs.Setup.{Configuration}
use Rattle.coherence_model.specs.Cache.{copy, is_modified, needs_victim, victim_way}
use Rattle.coherence_model.specs.HostOperations.{eviction_message, request_message}
use Rattle.coherence_model.specs.Snoops.{buffered_snoops}
use Rattle.coherence_model.specs.Streams.{begun_count}
use Rattle.coherence_model.specs.Transactions.{open_at, opened}
use Rattle.request_laws.proofs.HostOperations.{eviction_with, kind_of}
use Rattle.host_laws.proofs.CacheKept.{is_victim}
use Rattle.host_laws.proofs.CreditSteps.{evict_returns, evict_sends, left_same, left_sent, owed_same, request_returns, request_sends}
use Rattle.host_laws.proofs.Credits.{eviction_is_no_credit}
use Rattle.host_laws.proofs.Events.{evicting_event, hit_event, request_event}
use Rattle.host_laws.proofs.Keeps.{Keeps}
use Rattle.host_laws.proofs.OpenSteps.{evict_busy, evict_conflicts, evict_line_tags, evict_opened_table, evict_tag_lines, eviction_opened, request_busy, request_conflicts, request_line_tags, request_opened, request_opened_table, request_tag_lines}
use Rattle.host_laws.proofs.Opens.{evicted}
use Rattle.host_laws.proofs.Ranges.{Ranges}
use Rattle.host_laws.proofs.StreamSteps.{evict_streams, hit_streams, request_streams}
use Rattle.host_laws.proofs.WaySteps.{drop_ways, evict_ways, hit_ways, request_ways, ways_kept}
use Rattle.host_record.specs.HostChanges.{Opened, dropped_by, host_after, opened_by, pay, stream_begins, with_opened}
use Rattle.host_record.specs.HostRecord.{HostRecord}
use Rattle.host_record.specs.Stands.{kept_host}

-- an event makes of what is kept what is kept after it
abbrev pub Follows : Configuration → ℕ → List Event → Event → Type 0
Follows setup h mine e = kept_host setup h (e ∷ mine) ≡ host_after setup e (kept_host setup h mine)

-- an operation that hits

pub follow_hit : (setup : Configuration) (h s i : ℕ) (op : Op) (value : Bytes64) (mine : List Event) → Ranges setup mine → Follows setup h mine (hit_event h s i op value)
follow_hit setup h s i op value mine r =
    let e = hit_event h s i op value in
    let k = kept_host setup h mine in
    let ways = hit_ways setup h s i op value mine in
    let streams = hit_streams setup h s i op value mine r in
    let req = left_same setup h Channel.Req e mine refl refl in
    let rwd = left_same setup h Channel.Rwd e mine refl refl in
    let rsp = left_same setup h Channel.BiRsp e mine refl refl in
    let ndr_owed = owed_same h Channel.Ndr 0 e mine refl refl in
    let drs_owed = owed_same h Channel.Drs 0 e mine refl refl in
    let snp_owed = owed_same h Channel.BiSnp (length (buffered_snoops mine)) e mine refl refl in
    λ j. record {
      ways = ways j;
      opened = k.opened;
      tag_lines = k.tag_lines;
      conflicts = k.conflicts;
      line_tags = k.line_tags;
      stages = k.stages;
      busy = k.busy;
      snoops = k.snoops;
      writing = k.writing;
      streams = streams j;
      req_left = req j;
      rwd_left = rwd j;
      bi_rsp_left = rsp j;
      ndr_owed = ndr_owed j;
      drs_owed = drs_owed j;
      bi_snp_owed = snp_owed j;
    }

-- a request

pay_request : (op : Op) (tag : ℕ) (k : HostRecord) → pay (request_message op tag) k ≡ record k { req_left = k.req_left - 1 }
pay_request (Op.Load line) tag k = refl
pay_request (Op.Word line place value) tag k = refl
pay_request (Op.Whole line bytes) tag k = refl

-- what the request of an operation opens
abbrev pub request_of : ℕ → ℕ → Op → ℕ → Opened
request_of s i op tag = record { line = line_of op; tag = tag; what = opened s i op (kind_of op) tag }

follow_request_by : (setup : Configuration) (h s i : ℕ) (op : Op) (tag : ℕ) (mine : List Event) (ways : List Way) → Ranges setup mine → open_at (line_of op) mine ≡ None
    → ways_kept setup (request_event h s i op tag ∷ mine) ≡ ways
    → kept_host setup h (request_event h s i op tag ∷ mine)
    ≡ (let k = kept_host setup h mine in record (with_opened (Some (request_of s i op tag)) (record k { ways = ways; streams = stream_begins s true k.streams })) { req_left = k.req_left - 1 })
follow_request_by setup h s i op tag mine ways r closed is =
    let e = request_event h s i op tag in
    let k = kept_host setup h mine in
    let opened = request_opened_table setup h s i op tag mine closed in
    let tag_lines = request_tag_lines setup h s i op tag mine in
    let line_tags = request_line_tags setup h s i op tag mine in
    let busy = request_busy setup h s i op tag mine in
    let conflicts = request_conflicts setup h s i op tag mine in
    let streams = request_streams setup h s i op tag mine r in
    let req = left_sent setup h Channel.Req 1 e mine refl (request_sends h s i op tag Channel.Req) in
    let rwd = left_same setup h Channel.Rwd e mine refl (request_sends h s i op tag Channel.Rwd) in
    let rsp = left_same setup h Channel.BiRsp e mine refl (request_sends h s i op tag Channel.BiRsp) in
    let ndr_owed = owed_same h Channel.Ndr 0 e mine refl (request_returns h s i op tag Channel.Ndr) in
    let drs_owed = owed_same h Channel.Drs 0 e mine refl (request_returns h s i op tag Channel.Drs) in
    let snp_owed = owed_same h Channel.BiSnp (length (buffered_snoops mine)) e mine refl (request_returns h s i op tag Channel.BiSnp) in
    λ j. record {
      ways = is j;
      opened = opened j;
      tag_lines = tag_lines j;
      conflicts = conflicts j;
      line_tags = line_tags j;
      stages = k.stages;
      busy = busy j;
      snoops = k.snoops;
      writing = k.writing;
      streams = streams j;
      req_left = req j;
      rwd_left = rwd j;
      bi_rsp_left = rsp j;
      ndr_owed = ndr_owed j;
      drs_owed = drs_owed j;
      bi_snp_owed = snp_owed j;
    }

follow_request_to : (setup : Configuration) (h s i : ℕ) (op : Op) (tag : ℕ) (mine : List Event) → Ranges setup mine → open_at (line_of op) mine ≡ None
    → ways_kept setup (request_event h s i op tag ∷ mine) ≡ add_way (line_of op) (drop_way_of (dropped_by setup (line_of op) (kept_host setup h mine)) (ways_kept setup mine)) → Follows setup h mine (request_event h s i op tag)
follow_request_to setup h s i op tag mine r closed is =
    let k = kept_host setup h mine in
    let k1 = record k { ways = add_way (line_of op) (drop_way_of (dropped_by setup (line_of op) k) k.ways); streams = stream_begins s true k.streams } in
    follow_request_by setup h s i op tag mine (add_way (line_of op) (drop_way_of (dropped_by setup (line_of op) k) k.ways)) r closed is
    ∙ sym (pay_request op tag (with_opened (Some (request_of s i op tag)) k1))
    ∙ ap (λ x. pay (request_message op tag) (with_opened x k1)) (sym (request_opened s i op tag))

pub follow_request : (setup : Configuration) (h s i : ℕ) (op : Op) (tag : ℕ) (mine : List Event) → Keeps setup mine → Ranges setup mine → open_at (line_of op) mine ≡ None
    → needs_victim setup (line_of op) mine ≡ false → Follows setup h mine (request_event h s i op tag)
follow_request setup h s i op tag mine k r closed enough = follow_request_to setup h s i op tag mine r closed (request_ways setup h s i op tag mine k r enough)

pub follow_drop : (setup : Configuration) (h s i : ℕ) (op : Op) (tag v : ℕ) (mine : List Event) → Keeps setup mine → Ranges setup mine → open_at (line_of op) mine ≡ None
    → needs_victim setup (line_of op) mine ≡ true → victim_way setup mine ≡ Some v → Follows setup h mine (request_event h s i op tag)
follow_drop setup h s i op tag v mine k r closed needs first = follow_request_to setup h s i op tag mine r closed (drop_ways setup h s i op tag v mine k r needs first)

-- an eviction and a request

pay_eviction_by : (m : Bool) (bytes : Bytes64) (v t : ℕ) (k : HostRecord) → pay (eviction_with m bytes v t) k ≡ record k { req_left = cond m k.req_left (k.req_left - 1); rwd_left = cond m (k.rwd_left - 1) k.rwd_left }
pay_eviction_by true bytes v t k = refl
pay_eviction_by false bytes v t k = refl

evict_channel : (m : Bool) (bytes : Bytes64) (v t : ℕ) → channel_of (eviction_with m bytes v t) ≡ cond m Channel.Rwd Channel.Req
evict_channel true bytes v t = refl
evict_channel false bytes v t = refl

req_less : (m : Bool) (n : ℕ) → n - (cond (channel_eq (cond m Channel.Rwd Channel.Req) Channel.Req) 1 0 + cond true 1 0) ≡ cond m n (n - 1) - 1
req_less true n = omega arith
req_less false n = omega arith

rwd_less : (m : Bool) (n : ℕ) → n - (cond (channel_eq (cond m Channel.Rwd Channel.Req) Channel.Rwd) 1 0 + cond false 1 0) ≡ cond m (n - 1) n
rwd_less true n = omega arith
rwd_less false n = omega arith

rsp_less : (m : Bool) (n : ℕ) → n - (cond (channel_eq (cond m Channel.Rwd Channel.Req) Channel.BiRsp) 1 0 + cond false 1 0) ≡ n
rsp_less true n = omega arith
rsp_less false n = omega arith

pub follow_evict : (setup : Configuration) (h s i : ℕ) (op : Op) (v t u : ℕ) (mine : List Event) → Keeps setup mine → Ranges setup mine → open_at (line_of op) mine ≡ None → (t ≡ u → ⊥)
    → needs_victim setup (line_of op) mine ≡ true → victim_way setup mine ≡ Some v → Follows setup h mine (evicting_event h s i op (eviction_message setup v mine t) u)
follow_evict setup h s i op v t u mine keeps r closed other needs first =
    let m = eviction_message setup v mine t in
    let dirty = is_modified setup v mine in
    let e = evicting_event h s i op m u in
    let k = kept_host setup h mine in
    let who = is_victim setup (line_of op) v mine needs first in
    let on : (c : Channel) → channel_eq (channel_of m) c ≡ channel_eq (cond dirty Channel.Rwd Channel.Req) c = λ c. ap (λ d. channel_eq d c) (evict_channel dirty (copy setup v mine).bytes v t) in
    let none = eviction_is_no_credit setup v t mine in
    let ways = evict_ways setup h s i op v t u mine keeps needs first in
    let opened = evict_opened_table setup h s i op v t u mine who.closed closed who.other other in
    let tag_lines = evict_tag_lines setup h s i op v t u mine other in
    let line_tags = evict_line_tags setup h s i op v t u mine who.other in
    let busy = evict_busy setup h s i op v t u mine who.other in
    let conflicts = evict_conflicts setup h s i op v t u mine in
    let streams = evict_streams setup h s i op m u mine r in
    let req = left_sent setup h Channel.Req _ e mine refl (evict_sends h s i op m u Channel.Req _ (on Channel.Req)) ∙ req_less dirty k.req_left in
    let rwd = left_sent setup h Channel.Rwd _ e mine refl (evict_sends h s i op m u Channel.Rwd _ (on Channel.Rwd)) ∙ rwd_less dirty k.rwd_left in
    let rsp = left_sent setup h Channel.BiRsp _ e mine refl (evict_sends h s i op m u Channel.BiRsp _ (on Channel.BiRsp)) ∙ rsp_less dirty k.bi_rsp_left in
    let ndr_owed = owed_same h Channel.Ndr 0 e mine refl (evict_returns h s i op m u Channel.Ndr none) in
    let drs_owed = owed_same h Channel.Drs 0 e mine refl (evict_returns h s i op m u Channel.Drs none) in
    let snp_owed = owed_same h Channel.BiSnp (length (buffered_snoops mine)) e mine refl (evict_returns h s i op m u Channel.BiSnp none) in
    let x : Opened = record { line = v; tag = t; what = evicted s i op dirty t } in
    let k1 = record k { ways = add_way (line_of op) (drop_way_of (line_in m) k.ways); streams = stream_begins s true k.streams } in
    let k2 = with_opened (Some (request_of s i op u)) (with_opened (Some x) k1) in
    let path : kept_host setup h (e ∷ mine) ≡ record k2 { req_left = cond dirty k.req_left (k.req_left - 1) - 1; rwd_left = cond dirty (k.rwd_left - 1) k.rwd_left } = λ j. record {
      ways = ways j;
      opened = opened j;
      tag_lines = tag_lines j;
      conflicts = conflicts j;
      line_tags = line_tags j;
      stages = k.stages;
      busy = busy j;
      snoops = k.snoops;
      writing = k.writing;
      streams = streams j;
      req_left = req j;
      rwd_left = rwd j;
      bi_rsp_left = rsp j;
      ndr_owed = ndr_owed j;
      drs_owed = drs_owed j;
      bi_snp_owed = snp_owed j;
    } in
    path
    ∙ sym (pay_request op u (record k2 { req_left = cond dirty k.req_left (k.req_left - 1); rwd_left = cond dirty (k.rwd_left - 1) k.rwd_left }))
    ∙ ap (pay (request_message op u)) (sym (pay_eviction_by dirty (copy setup v mine).bytes v t k2))
    ∙ ap (λ y. pay (request_message op u) (pay m (with_opened y (with_opened (Some x) k1)))) (sym (request_opened s i op u))
    ∙ ap (λ y. pay (request_message op u) (pay m (with_opened (opened_by s i op (request_message op u)) (with_opened y k1)))) (sym (eviction_opened setup s i op v t mine))
