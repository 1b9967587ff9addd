-- An act whose row holds at the device, for a host and a line that exist, is in the profile.
use Rattle.std.proofs.Common.{◌≡◌, ℕ, Bool, true, false, List, Option, Some, cond, refl, sym, subst, arith}
use Rattle.std.specs.Prelude.{◌&&◌, nat_lt, nat_le}
use Rattle.std.proofs.lemmas.Bool.{and_from, and_parts, eq-eqb, eqb-true, false≢true, le-leb, ltb-true}
use Rattle.std.proofs.lemmas.Option.{none-some, same_Some}
use Rattle.cxl_message.specs.declared.channels.Channel.{Channel}
use Rattle.cxl_message.specs.declared.events.Act.{Act}
use Rattle.cxl_message.specs.declared.events.Cause.{Cause}
use Rattle.cxl_message.specs.declared.events.Commit.{Commit}
use Rattle.cxl_message.specs.declared.events.Event.{Event}
use Rattle.cxl_message.specs.declared.events.Sends.{Sends}
use Rattle.cxl_message.specs.declared.identifiers.Bytes64.{Bytes64}
use Rattle.cxl_message.specs.declared.identifiers.Line.{Line}
use Rattle.cxl_message.specs.declared.identifiers.Tag.{Tag}
use Rattle.cxl_message.specs.declared.messages.Message.{Message}
use Rattle.cxl_message.specs.declared.opcodes.NdrOp.{NdrOp}
use Rattle.cxl_message.specs.declared.opcodes.Span.{Span}
use Rattle.cxl_message.specs.Channels.{goes_to_device, has_credits}
use Rattle.cxl_message.specs.Formed.{act_formed, is_block_snoop, span_fits}
use Rattle.cxl_message.specs.Messages.{channel_of, has_tag}
use Rattle.cxl_message.specs.Profile.{snoop_in_profile}
use Rattle.cxl_message.specs.Setup.{Configuration, IsWithinLimits}
use Rattle.coherence_model.specs.Buffers.{buffered_requests, buffered_writes, message_with}
use Rattle.coherence_model.specs.DeviceActs.{Request, buffered_request, device_acts, device_returns, finish_emission, is_shared_with_others, request_in, served_by, shared_grant, snoop_message, snoop_op}
use Rattle.coherence_model.specs.Directory.{Directory}
use Rattle.coherence_model.specs.DirectoryChanges.{directory}
use Rattle.coherence_model.specs.Emission.{Emission, one_send}
use Rattle.coherence_model.specs.Fitting.{act_fits, is_host, ndr_tag_exists, tag_exists, write_tag_exists}
use Rattle.coherence_model.specs.Memory.{memory}
use Rattle.coherence_model.specs.Rows.{row_holds}
use Rattle.coherence_model.specs.Rules.{p0_profile}
use Rattle.coherence_model.specs.Tasks.{Purpose, is_eviction}
use Rattle.coherence_model.specs.Traces.{device}
use Rattle.coherence_lemmas.proofs.Allowed.{emitted}
use Rattle.coherence_lemmas.proofs.DeviceActs.{v3_serve-inv, v4_clean-inv, v5_start-inv, v6_evict-inv, v7_snoop-inv, v8_finish-inv, v9_return-inv}
use Rattle.step_laws.proofs.Buffered.{IsBuffered, requests_fit, writes_fit}
use Rattle.step_laws.proofs.Counts.{each_find}
use Rattle.step_laws.proofs.DeviceRows.{request-found}
use Rattle.step_laws.proofs.Emissions.{EmissionFits, MessageGood, device-sends, event-profiled, host-low, nothing-fits, one-fits, two-fits}
use Rattle.coherence_model.specs.OwnRuns.{IsOwnRun}
use Rattle.step_laws.proofs.StandingTasks.{directory_fits}
use Rattle.step_laws.proofs.Steps.{act_event}

-- what an act at the device needs
record ActGood (setup : Configuration) (act : Act) (w : Emission) : Type 0 where
  formed : act_formed act ≡ true
  fits : act_fits setup device act ≡ true
  emits : EmissionFits setup device w

emits-good :
    (setup : Configuration) → IsWithinLimits setup → (h : ℕ) (m : Message) (w : Emission) → is_host setup h ≡ true → goes_to_device (channel_of m) ≡ false
    → MessageGood setup m → w ≡ one_send h m → EmissionFits setup device w
emits-good setup limits h m w host down good is = subst (EmissionFits setup device) (sym is)
    (one-fits setup device h m (device-sends setup limits h m host down good))

less-equal : (n m : ℕ) → nat_lt n m ≡ true → nat_le n m ≡ true
less-equal n m less = let l = ltb-true n m less in le-leb n m (omega arith)

-- a served message's tag exists, and its answer fits
record ServeGood (setup : Configuration) (tag : Tag) (answer : Message) : Type 0 where
  exists : write_tag_exists setup tag ≡ true
  down : goes_to_device (channel_of answer) ≡ false
  good : MessageGood setup answer

serve-good :
    (setup : Configuration) (tag : Tag) (m answer : Message) → IsBuffered setup Channel.Rwd m → has_tag tag.0 m ≡ true → served_by m ≡ Some answer
    → ServeGood setup tag answer
serve-good setup tag (Message.Req op meta snp t line) answer buffered has is = absurd (none-some answer is)
serve-good setup tag (Message.MemWr meta snp t line bytes) answer buffered has is =
    let exists = (and_parts _ _ buffered.fits).0 in
    subst (ServeGood setup tag) (same_Some _ _ is) (record {
      exists = subst (λ k. nat_le k setup.tags ≡ true) (eqb-true t.0 tag.0 has) exists;
      down = refl;
      good = record { formed = refl; profile = refl; fits = exists };
    })
serve-good setup tag (Message.BiConflict t) answer buffered has is =
    subst (ServeGood setup tag) (same_Some _ _ is) (record {
      exists = less-equal tag.0 setup.tags (subst (λ k. nat_lt k setup.tags ≡ true) (eqb-true t.0 tag.0 has) buffered.fits);
      down = refl;
      good = record { formed = refl; profile = refl; fits = buffered.fits };
    })
serve-good setup tag (Message.BiRsp op bitag low) answer buffered has is = absurd (none-some answer is)
serve-good setup tag (Message.Ndr op t) answer buffered has is = absurd (none-some answer is)
serve-good setup tag (Message.MemData t bytes) answer buffered has is = absurd (none-some answer is)
serve-good setup tag (Message.BiSnp op bitag line span) answer buffered has is = absurd (none-some answer is)
serve-good setup tag (Message.Credit c) answer buffered has is = absurd (none-some answer is)

-- a buffered request's tag exists, and is the one of the act
request-tag :
    (setup : Configuration) (tag : Tag) (m : Message) (r : Request) → IsBuffered setup Channel.Req m → has_tag tag.0 m ≡ true → request_in m ≡ Some r
    → (tag_exists setup tag ≡ true) × (tag_exists setup r.tag ≡ true)
request-tag setup tag (Message.Req op meta snp t line) r buffered has is =
    let exists = (and_parts _ _ buffered.fits).0 in
    (subst (λ k. nat_lt k setup.tags ≡ true) (eqb-true t.0 tag.0 has) exists, subst (λ (x : Request). tag_exists setup x.tag ≡ true) (same_Some _ r is) exists)
request-tag setup tag (Message.MemWr meta snp t line bytes) r buffered has is = absurd (none-some r is)
request-tag setup tag (Message.BiConflict t) r buffered has is = absurd (none-some r is)
request-tag setup tag (Message.BiRsp op bitag low) r buffered has is = absurd (none-some r is)
request-tag setup tag (Message.Ndr op t) r buffered has is = absurd (none-some r is)
request-tag setup tag (Message.MemData t bytes) r buffered has is = absurd (none-some r is)
request-tag setup tag (Message.BiSnp op bitag line span) r buffered has is = absurd (none-some r is)
request-tag setup tag (Message.Credit c) r buffered has is = absurd (none-some r is)

request-good :
    (setup : Configuration) (opening : List (Line × Bytes64)) (mine : List Event) → IsOwnRun setup opening device mine → (h : ℕ) (tag : Tag) (r : Request)
    → buffered_request h tag mine ≡ Some r → (tag_exists setup tag ≡ true) × (tag_exists setup r.tag ≡ true)
request-good setup opening mine run h tag r is =
    let found = request-found (message_with tag.0 (buffered_requests h mine)) r is in
    let buffered = each_find (IsBuffered setup Channel.Req) (has_tag tag.0) (buffered_requests h mine)
    (requests_fit setup opening device h mine run) found.0 found.1 in
    request-tag setup tag found.0 r buffered.0 buffered.1 found.2

-- the opcode of a task's snoops fits its span
snoop-kind :
    (p : Purpose) (span : Span) → (is_eviction p ≡ false → span ≡ Span.One)
    → (span_fits (is_block_snoop (snoop_op p span)) span ≡ true) × (snoop_in_profile (snoop_op p span) span ≡ true)
snoop-kind Purpose.SharedRead Span.One single = (refl, refl)
snoop-kind Purpose.SharedRead Span.Two single = absurd (let e = single refl in cc)
snoop-kind Purpose.SharedRead Span.Four single = absurd (let e = single refl in cc)
snoop-kind Purpose.OwningRead Span.One single = (refl, refl)
snoop-kind Purpose.OwningRead Span.Two single = (refl, refl)
snoop-kind Purpose.OwningRead Span.Four single = (refl, refl)
snoop-kind Purpose.Invalidation Span.One single = (refl, refl)
snoop-kind Purpose.Invalidation Span.Two single = (refl, refl)
snoop-kind Purpose.Invalidation Span.Four single = (refl, refl)
snoop-kind Purpose.Eviction Span.One single = (refl, refl)
snoop-kind Purpose.Eviction Span.Two single = (refl, refl)
snoop-kind Purpose.Eviction Span.Four single = (refl, refl)

-- what a finished task emits
grant-tag : (setup : Configuration) (b : Bool) (tag : Tag) → tag_exists setup tag ≡ true → ndr_tag_exists setup (cond b NdrOp.CmpS NdrOp.CmpE) tag ≡ true
grant-tag setup true tag exists = exists
grant-tag setup false tag exists = exists

finish-good :
    (setup : Configuration) → IsWithinLimits setup → (p : Purpose) (c : NdrOp) (h tag : ℕ) (bytes : Bytes64) → is_host setup h ≡ true
    → nat_lt tag setup.tags ≡ true → ndr_tag_exists setup c (record { 0 = tag }) ≡ true → EmissionFits setup device (finish_emission p c h tag bytes)
finish-good setup limits Purpose.SharedRead c h tag bytes host exists granted =
    two-fits setup device h (Message.Ndr c (record { 0 = tag })) (Message.MemData (record { 0 = tag }) bytes)
    (device-sends setup limits h (Message.Ndr c (record { 0 = tag })) host refl (record { formed = refl; profile = refl; fits = granted }))
    (device-sends setup limits h (Message.MemData (record { 0 = tag }) bytes) host refl (record { formed = refl; profile = refl; fits = exists }))
finish-good setup limits Purpose.OwningRead c h tag bytes host exists granted =
    two-fits setup device h (Message.Ndr NdrOp.CmpE (record { 0 = tag })) (Message.MemData (record { 0 = tag }) bytes)
    (device-sends setup limits h (Message.Ndr NdrOp.CmpE (record { 0 = tag })) host refl (record { formed = refl; profile = refl; fits = exists }))
    (device-sends setup limits h (Message.MemData (record { 0 = tag }) bytes) host refl (record { formed = refl; profile = refl; fits = exists }))
finish-good setup limits Purpose.Invalidation c h tag bytes host exists granted =
    one-fits setup device h (Message.Ndr NdrOp.CmpE (record { 0 = tag }))
    (device-sends setup limits h (Message.Ndr NdrOp.CmpE (record { 0 = tag })) host refl (record { formed = refl; profile = refl; fits = exists }))
finish-good setup limits Purpose.Eviction c h tag bytes host exists granted = nothing-fits setup device

returned-down : (c : Channel) → device_returns c ≡ true → (has_credits c ≡ true) × (goes_to_device (channel_of (Message.Credit c)) ≡ false)
returned-down Channel.Req h = (refl, refl)
returned-down Channel.Rwd h = (refl, refl)
returned-down Channel.BiRsp h = (refl, refl)
returned-down Channel.Ndr h = absurd (false≢true h)
returned-down Channel.Drs h = absurd (false≢true h)
returned-down Channel.BiSnp h = absurd (false≢true h)
returned-down Channel.CreditUp h = absurd (false≢true h)
returned-down Channel.CreditDown h = absurd (false≢true h)

-- the host and the line that an act of the device names exist; no host's act is one of the device
abbrev pub is_named : Configuration → Act → Bool
is_named setup (Act.Conflict line) = false
is_named setup (Act.WriteBack line) = false
is_named setup (Act.Answer line) = false
is_named setup (Act.AnswerBlock line) = false
is_named setup (Act.HostReturn c) = false
is_named setup (Act.Serve h tag) = nat_lt h setup.hosts
is_named setup (Act.Clean h tag) = nat_lt h setup.hosts
is_named setup (Act.Start h tag) = nat_lt h setup.hosts
is_named setup (Act.Evict h tag) = nat_lt h setup.hosts
is_named setup (Act.Snoop h line) = nat_lt line.0 setup.lines && nat_lt h setup.hosts
is_named setup (Act.Finish line) = nat_lt line.0 setup.lines
is_named setup (Act.DeviceReturn h c) = nat_lt h setup.hosts

act-good :
    (setup : Configuration) → IsWithinLimits setup → (opening : List (Line × Bytes64)) (mine : List Event) → IsOwnRun setup opening device mine
    → (act : Act) (w : Emission) → is_named setup act ≡ true → device_acts setup opening act mine ≡ Some w → ActGood setup act w
act-good setup limits opening mine run (Act.Conflict line) w named is = absurd (none-some w is)
act-good setup limits opening mine run (Act.WriteBack line) w named is = absurd (none-some w is)
act-good setup limits opening mine run (Act.Answer line) w named is = absurd (none-some w is)
act-good setup limits opening mine run (Act.AnswerBlock line) w named is = absurd (none-some w is)
act-good setup limits opening mine run (Act.HostReturn c) w named is = absurd (none-some w is)
act-good setup limits opening mine run (Act.Serve h tag) w host is =
    let inv = v3_serve-inv h (message_with tag.0 (buffered_writes h mine)) w is in
    let buffered = each_find (IsBuffered setup Channel.Rwd) (has_tag tag.0) (buffered_writes h mine) (writes_fit setup opening device h mine run) inv.m inv.found in
    let good = serve-good setup tag inv.m inv.answer buffered.0 buffered.1 inv.answers in
    record { formed = host-low setup limits h host; fits = and_from _ _ host good.exists; emits = emits-good setup limits h inv.answer w host good.down good.good inv.emits }
act-good setup limits opening mine run (Act.Clean h tag) w host is =
    let inv = v4_clean-inv h (buffered_request h tag mine) (directory setup mine) w is in
    let tags = request-good setup opening mine run h tag inv.r inv.found in
    record {
      formed = host-low setup limits h host;
      fits = and_from _ _ host tags.0;
      emits = emits-good setup limits h (Message.Ndr NdrOp.Cmp inv.r.tag) w host refl
          (record { formed = refl; profile = refl; fits = less-equal inv.r.tag.0 setup.tags tags.1 }) inv.emits;
    }
act-good setup limits opening mine run (Act.Start h tag) w host is =
    let inv = v5_start-inv setup h (buffered_request h tag mine) (directory setup mine) mine w is in
    let tags = request-good setup opening mine run h tag inv.r inv.found in
    record {
      formed = host-low setup limits h host;
      fits = and_from _ _ host tags.0;
      emits = subst (EmissionFits setup device) (sym inv.emits)
          (nothing-fits setup device);
    }
act-good setup limits opening mine run (Act.Evict h tag) w host is =
    let inv = v6_evict-inv setup h (buffered_request h tag mine) (directory setup mine) mine w is in
    let tags = request-good setup opening mine run h tag inv.r inv.found in
    record {
      formed = host-low setup limits h host;
      fits = and_from _ _ host tags.0;
      emits = subst (EmissionFits setup device) (sym inv.emits)
          (nothing-fits setup device);
    }
act-good setup limits opening mine run (Act.Snoop h line) w named is =
    let D : Directory = directory setup mine in
    let inv = v7_snoop-inv h line.0 (D.task line.0) D mine w is in
    let fits = (directory_fits setup opening mine run).tasks line.0 inv.t inv.found in
    let kind = snoop-kind inv.t.purpose inv.t.span fits.single in
    let names = and_parts _ _ named in
    record {
      formed = host-low setup limits h names.1;
      fits = and_from _ _ names.1 names.0;
      emits = emits-good setup limits h (snoop_message line.0 inv.t) w names.1 refl
          (record {
            formed = kind.0;
            profile = and_from _ _ kind.1 (eq-eqb line.0 line.0 refl);
            fits = and_from _ _ (le-leb _ _ fits.within)
                (eq-eqb _ _ fits.aligned);
          }) inv.emits;
    }
act-good setup limits opening mine run (Act.Finish line) w exists is =
    let D : Directory = directory setup mine in
    let inv = v8_finish-inv setup opening line.0 (D.task line.0) D mine w is in
    let fits = (directory_fits setup opening mine run).tasks line.0 inv.t inv.found in
    record {
      formed = refl;
      fits = exists;
      emits = subst (EmissionFits setup device) (sym inv.emits)
          (finish-good setup limits inv.t.purpose (shared_grant setup line.0 inv.t D) inv.t.host inv.t.tag (memory opening line.0 mine) fits.host fits.tag
          (grant-tag setup (is_shared_with_others setup line.0 inv.t D) (record { 0 = inv.t.tag }) fits.tag));
    }
act-good setup limits opening mine run (Act.DeviceReturn h c) w host is =
    let inv = v9_return-inv h c mine w is in
    let down = returned-down c inv.returns in
    record {
      formed = and_from _ _ (host-low setup limits h host) down.0;
      fits = host;
      emits = emits-good setup limits h (Message.Credit c) w host down.1
          (record { formed = down.0; profile = down.0; fits = refl }) inv.emits;
    }

-- an act whose row holds at the device is in the profile
pub device_act_profiled :
    (setup : Configuration) → IsWithinLimits setup → (opening : List (Line × Bytes64)) (mine : List Event) → IsOwnRun setup opening device mine
    → (act : Act) (sends : Sends) (commit : Option Commit) → is_named setup act ≡ true → row_holds setup opening (act_event device act sends commit) mine ≡ true
    → p0_profile setup (act_event device act sends commit) ≡ true
device_act_profiled setup limits opening mine run act sends commit named row =
    let by = emitted setup opening (act_event device act sends commit) mine row in
    let good = act-good setup limits opening mine run act by.w named by.row in
    event-profiled setup device (Cause.Act act) sends commit by.w by.sends by.commit
    (record { low = refl; agent = refl; formed = good.formed; fits = good.fits }) good.emits
