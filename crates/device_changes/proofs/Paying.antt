-- What the device sends by an act is paid for.
use Rattle.std.proofs.Common.{◌≡◌, ℕ, ◌<◌, ◌≤◌, Bool, true, false, List, Option, Some, None, cond, get_or, length, refl, ap, sym, ◌∙◌, subst, arith}
use Rattle.std.specs.Prelude.{is_some, nat_le, nat_lt, not, option_and_then, unwrap_or, ◌&&◌}
use Rattle.std.specs.Option.{option_or}
use Rattle.std.proofs.lemmas.Bool.{and_parts, leb-true, ltb-false}
use Rattle.std.proofs.lemmas.List.{length-set}
use Rattle.std.proofs.lemmas.Option.{none-some, slice_get-get_or}
use Rattle.cxl_message.specs.declared.channels.Channel.{Channel}
use Rattle.cxl_message.specs.declared.events.Act.{Act}
use Rattle.cxl_message.specs.declared.events.Cause.{Cause}
use Rattle.cxl_message.specs.declared.events.Out.{Out}
use Rattle.cxl_message.specs.declared.identifiers.Bytes64.{Bytes64}
use Rattle.cxl_message.specs.declared.identifiers.Tag.{Tag}
use Rattle.cxl_message.specs.declared.messages.Message.{Message}
use Rattle.cxl_message.specs.declared.opcodes.NdrOp.{NdrOp}
use Rattle.cxl_message.specs.Channels.{has_credits}
use Rattle.cxl_message.specs.Messages.{channel_of}
use Rattle.cxl_message.specs.Setup.{Configuration}
use Rattle.coherence_lemmas.proofs.Options.{and_then_some, map_some, when_some}
use Rattle.coherence_model.specs.Buffers.{message_with}
use Rattle.coherence_model.specs.Copies.{asks_for_grant}
use Rattle.coherence_model.specs.Credits.{credits_needed}
use Rattle.coherence_model.specs.DeviceActs.{device_returns, finish_emission, grant_with_data, served_by}
use Rattle.coherence_model.specs.Emission.{Emission, nothing, one_send}
use Rattle.coherence_model.specs.Tasks.{Purpose}
use Rattle.snoop_filter.specs.Rows.{held_in}
use Rattle.snoop_filter.specs.Victims.{victim_in}
use Rattle.device_record.specs.Answers.{act_row, finish_row, grant_in, is_asked_by, is_finished, is_wanted, lacking_in, short_in, snoop_of_task, snoop_row, wants_eviction_in, has_room_in}
use Rattle.device_record.specs.CreditChanges.{credit_sent}
use Rattle.device_record.specs.Record.{CreditRecord, DeviceRecord, bytes_in, credits_at, left_on, no_credits, owed_on, task_at, writes_at}
use Rattle.device_record.specs.Tables.{changed_at}
use Rattle.device_lines.proofs.Sums.{changed_is, get_same}
use Rattle.device_changes.specs.Passing.{MayStep}
use Rattle.device_changes.specs.Paying.{MayPay}
use Rattle.device_changes.proofs.Acts.{clean_asks, evict_asks, start_asks}
use Rattle.device_changes.proofs.Passing.{act_host, host_named, passed}

-- ---- credits that reach

short_by : (b : Bool) (c : Channel) → cond b (Some c) None ≡ None → b ≡ false
short_by true c is = cc
short_by false c is = refl

and_right : (a b : Bool) → a ≡ true → (a && b) ≡ false → b ≡ false
and_right true b one is = is
and_right false b one is = cc

reaches : (h : ℕ) (m : Message) (n : ℕ) (credits : List CreditRecord) → has_credits (channel_of m) ≡ true → short_in n (record { host = h; message = m }) credits ≡ None → n ≤ left_on (channel_of m) (credits_at h credits)
reaches h m n credits has lacks =
    let left = left_on (channel_of m) (credits_at h credits) in
    ltb-false left n (and_right (has_credits (channel_of m)) (nat_lt left n) has (short_by (has_credits (channel_of m) && nat_lt left n) (channel_of m) lacks))

-- ---- a change of one host's

changed_credit : (h : ℕ) (change : CreditRecord → CreditRecord) (credits : List CreditRecord) → h < length credits → credits_at h (changed_at h change credits) ≡ change (credits_at h credits)
changed_credit h change credits low =
    let x = get_or credits h no_credits in
    let there = slice_get-get_or credits h no_credits low in
    ap (credits_at h) (changed_is h change credits x there) ∙ ap (λ (o : Option CreditRecord). unwrap_or o no_credits) (get_same credits h (change x) low)
    ∙ sym (ap (λ (o : Option CreditRecord). change (unwrap_or o no_credits)) there)

changed_length : (h : ℕ) (change : CreditRecord → CreditRecord) (credits : List CreditRecord) → h < length credits → h < length (changed_at h change credits)
changed_length h change credits low =
    let x = get_or credits h no_credits in
    let same = ap (λ (cs : List CreditRecord). length cs) (changed_is h change credits x (slice_get-get_or credits h no_credits low)) in
    let kept = length-set credits h (change x) in
    omega (arith, same, kept, low)

-- ---- messages

pay_ndr : (h : ℕ) (op : NdrOp) (tag : Tag) (credits : List CreditRecord) → h < length credits → lacking_in (one_send h (Message.Ndr op tag)).sends credits ≡ None → MayPay (one_send h (Message.Ndr op tag)).sends credits
pay_ndr h op tag credits low lacks = record { host = low; paid = reaches h (Message.Ndr op tag) 1 credits refl lacks }

or_none : (a b : Option Channel) → option_or a b ≡ None → (a ≡ None) × (b ≡ None)
or_none None b is = (refl, is)
or_none (Some c) b is = cc

one_needed : (b : Bool) → 1 ≤ cond b 2 1
one_needed true = omega arith
one_needed false = omega arith

pay_grant : (op : NdrOp) (h tag : ℕ) (bytes : Bytes64) (credits : List CreditRecord) → h < length credits → lacking_in (grant_with_data op h tag bytes).sends credits ≡ None → MayPay (grant_with_data op h tag bytes).sends credits
pay_grant op h tag bytes credits low lacks =
    let m = Message.Ndr op (record { 0 = tag }) in
    let n = Message.MemData (record { 0 = tag }) bytes in
    let o : Out = record { host = h; message = m } in
    let p : Out = record { host = h; message = n } in
    let both = or_none (short_in (credits_needed o p) o credits) (short_in 1 p credits) lacks in
    let first : credits_needed o p ≤ (credits_at h credits).ndr_left = reaches h m (credits_needed o p) credits refl both.0 in
    let some : 1 ≤ credits_needed o p = one_needed _ in
    let second : 1 ≤ (credits_at h credits).drs_left = reaches h n 1 credits refl both.1 in (
      record { host = low; paid = omega (arith, first, some) },
      record {
        host = changed_length h (credit_sent m) credits low;
        paid = subst (λ (c : CreditRecord). 1 ≤ c.drs_left) (sym (changed_credit h (credit_sent m) credits low)) second;
      },
    )

pay_if : (credits : List CreditRecord) (w v : Emission) → w ≡ v → lacking_in w.sends credits ≡ None → (lacking_in v.sends credits ≡ None → MayPay v.sends credits) → MayPay w.sends credits
pay_if credits w v same lacks pays =
    subst (λ (x : Emission). MayPay x.sends credits) (sym same) (pays (subst (λ (x : Emission). lacking_in x.sends credits ≡ None) same lacks))

pay_finish : (purpose : Purpose) (op : NdrOp) (h tag : ℕ) (bytes : Bytes64) (credits : List CreditRecord) → h < length credits → lacking_in (finish_emission purpose op h tag bytes).sends credits ≡ None
    → MayPay (finish_emission purpose op h tag bytes).sends credits
pay_finish Purpose.SharedRead op h tag bytes credits low lacks = pay_grant op h tag bytes credits low lacks
pay_finish Purpose.OwningRead op h tag bytes credits low lacks = pay_grant NdrOp.CmpE h tag bytes credits low lacks
pay_finish Purpose.Invalidation op h tag bytes credits low lacks = pay_ndr h NdrOp.CmpE (record { 0 = tag }) credits low lacks
pay_finish Purpose.Eviction op h tag bytes credits low lacks = tt

pay_served : (h : ℕ) (o : Message) (x : Message) (credits : List CreditRecord) → h < length credits → served_by o ≡ Some x → lacking_in (one_send h x).sends credits ≡ None → MayPay (one_send h x).sends credits
pay_served h (Message.Req op meta snp tag line) x credits low is lacks = cc
pay_served h (Message.MemWr meta snp tag line bytes) x credits low is lacks =
    let same : Message.Ndr NdrOp.Cmp tag ≡ x = cc in pay_if credits (one_send h x) (one_send h (Message.Ndr NdrOp.Cmp tag)) (ap (one_send h) (sym same)) lacks (pay_ndr h NdrOp.Cmp tag credits low)
pay_served h (Message.BiConflict tag) x credits low is lacks =
    let same : Message.Ndr NdrOp.ConflictAck tag ≡ x = cc in pay_if credits (one_send h x) (one_send h (Message.Ndr NdrOp.ConflictAck tag)) (ap (one_send h) (sym same)) lacks (pay_ndr h NdrOp.ConflictAck tag credits low)
pay_served h (Message.BiRsp op bitag low1) x credits low is lacks = cc
pay_served h (Message.Ndr op tag) x credits low is lacks = cc
pay_served h (Message.MemData tag bytes) x credits low is lacks = cc
pay_served h (Message.BiSnp op bitag line span) x credits low is lacks = cc
pay_served h (Message.Credit c) x credits low is lacks = cc

pay_credit : (h : ℕ) (c : Channel) (k : DeviceRecord) → h < length k.credits → device_returns c ≡ true → 1 ≤ owed_on h c k → MayPay (one_send h (Message.Credit c)).sends k.credits
pay_credit h Channel.Req k low returns owed = record { host = low; paid = omega (arith, owed) }
pay_credit h Channel.Rwd k low returns owed = record { host = low; paid = omega (arith, owed) }
pay_credit h Channel.BiRsp k low returns owed = record { host = low; paid = omega (arith, owed) }
pay_credit h Channel.Ndr k low returns owed = cc
pay_credit h Channel.Drs k low returns owed = cc
pay_credit h Channel.BiSnp k low returns owed = cc
pay_credit h Channel.CreditUp k low returns owed = cc
pay_credit h Channel.CreditDown k low returns owed = cc

-- ---- rows

row_of : (setup : Configuration) (k : DeviceRecord) (act : Act) (w : Emission) → MayStep setup k (Cause.Act act) w → act_row setup act k ≡ Some w
row_of setup k act w may = (passed setup (Cause.Act act) k w may.answer).row

lacks_of : (setup : Configuration) (k : DeviceRecord) (act : Act) (w : Emission) → MayStep setup k (Cause.Act act) w → lacking_in w.sends k.credits ≡ None
lacks_of setup k act w may = (passed setup (Cause.Act act) k w may.answer).paid

host_of : (setup : Configuration) (k : DeviceRecord) (act : Act) (w : Emission) → MayStep setup k (Cause.Act act) w → (h : ℕ) → host_named act ≡ Some h → h < length k.credits
host_of setup k act w may h named = subst (λ n. h < n) (sym may.before.tables.credits) (act_host setup act k w h may.answer named)

pay_nothing : (credits : List CreditRecord) (w : Emission) → w ≡ nothing → MayPay w.sends credits
pay_nothing credits w same = subst (λ (x : Emission). MayPay x.sends credits) (sym same) tt

-- what an act sends is paid for
pub act_pays : (setup : Configuration) (k : DeviceRecord) (act : Act) (w : Emission) → MayStep setup k (Cause.Act act) w → MayPay w.sends k.credits
act_pays setup k (Act.Conflict line) w may = absurd (none-some w (row_of setup k (Act.Conflict line) w may))
act_pays setup k (Act.WriteBack line) w may = absurd (none-some w (row_of setup k (Act.WriteBack line) w may))
act_pays setup k (Act.Answer line) w may = absurd (none-some w (row_of setup k (Act.Answer line) w may))
act_pays setup k (Act.AnswerBlock line) w may = absurd (none-some w (row_of setup k (Act.AnswerBlock line) w may))
act_pays setup k (Act.HostReturn c) w may = absurd (none-some w (row_of setup k (Act.HostReturn c) w may))
act_pays setup k (Act.Serve h tag) w may =
    let sent = map_some (one_send h) (option_and_then served_by (message_with tag.0 (writes_at h k.writes))) w (row_of setup k (Act.Serve h tag) w may) in
    let served = and_then_some served_by (message_with tag.0 (writes_at h k.writes)) sent.x sent.found in
    pay_if k.credits w (one_send h sent.x) sent.same (lacks_of setup k (Act.Serve h tag) w may) (pay_served h served.x sent.x k.credits (host_of setup k (Act.Serve h tag) w may h refl) served.same)
act_pays setup k (Act.Clean h tag) w may =
    let asks = clean_asks setup k h tag w may in
    let r = asks.request in
    let sent = when_some (not (asks_for_grant r.op) && not (held_in r.line k.filter.rows)) (one_send h (Message.Ndr NdrOp.Cmp r.tag)) w asks.row in
    pay_if k.credits w (one_send h (Message.Ndr NdrOp.Cmp r.tag)) sent.same (lacks_of setup k (Act.Clean h tag) w may) (pay_ndr h NdrOp.Cmp r.tag k.credits (host_of setup k (Act.Clean h tag) w may h refl))
act_pays setup k (Act.Start h tag) w may =
    let asks = start_asks setup k h tag w may in
    let r = asks.request in
    pay_nothing k.credits w (when_some (asks_for_grant r.op && not (held_in r.line k.filter.rows) && has_room_in asks.waiting.request.room r.line k) nothing w asks.row).same
act_pays setup k (Act.Evict h tag) w may =
    let asks = evict_asks setup k h tag w may in
    let r = asks.request in
    pay_nothing k.credits w
    (when_some (asks_for_grant r.op && not (held_in r.line k.filter.rows) && wants_eviction_in asks.waiting.request.room r.line k && is_some (victim_in k.filter.rows)) nothing w asks.row).same
act_pays setup k (Act.Snoop h line) w may =
    let found = and_then_some (snoop_row h k.filter.rows) (task_at line.0 k.tasks) w (row_of setup k (Act.Snoop h line) w may) in
    let t = found.x in
    let sent = when_some (is_wanted k.filter.rows t h && not (is_asked_by h t)) (one_send h (snoop_of_task t)) w found.same in
    pay_if k.credits w (one_send h (snoop_of_task t)) sent.same (lacks_of setup k (Act.Snoop h line) w may)
    (λ lacks. record { host = host_of setup k (Act.Snoop h line) w may h refl; paid = reaches h (snoop_of_task t) 1 k.credits refl lacks })
act_pays setup k (Act.Finish line) w may =
    let found = and_then_some (finish_row setup k) (task_at line.0 k.tasks) w (row_of setup k (Act.Finish line) w may) in
    let t = found.x in
    let op = grant_in setup.hosts k.filter.rows t in
    let bytes = bytes_in k.memory t.first in
    let sent = when_some (is_finished setup.hosts k.filter.rows t) (finish_emission t.purpose op t.host t.tag bytes) w found.same in
    let host = subst (λ n. t.host < n) (sym may.before.tables.credits) (may.before.tasks line.0 t found.found).host in
    pay_if k.credits w (finish_emission t.purpose op t.host t.tag bytes) sent.same (lacks_of setup k (Act.Finish line) w may) (pay_finish t.purpose op t.host t.tag bytes k.credits host)
act_pays setup k (Act.DeviceReturn h c) w may =
    let sent = when_some (device_returns c && nat_le 1 (owed_on h c k)) (one_send h (Message.Credit c)) w (row_of setup k (Act.DeviceReturn h c) w may) in
    let both = and_parts (device_returns c) (nat_le 1 (owed_on h c k)) sent.holds in
    let owed = leb-true 1 (owed_on h c k) both.1 in
    subst (λ (x : Emission). MayPay x.sends k.credits) (sym sent.same) (pay_credit h c k (host_of setup k (Act.DeviceReturn h c) w may h refl) both.0 owed)
