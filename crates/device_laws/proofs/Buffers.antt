-- Memory and the buffered RwD messages that are kept follow each event.
use Rattle.std.proofs.Common.{◌≡◌, ℕ, ◌<◌, Bool, true, false, List, [], ◌∷◌, ◌++◌, Option, Some, None, cond, map, refl, ap, sym, ◌∙◌}
use Rattle.std.specs.Prelude.{nat_lt, option_and_then, ◌&&◌, ◌==◌}
use Rattle.std.proofs.lemmas.Bool.{and_from, and_left, and_parts, and_right, cond-false, cond-true, eq-eqb, ltb-true, ne_eqb}
use Rattle.cxl_message.specs.declared.channels.Channel.{Channel}
use Rattle.cxl_message.specs.declared.events.Act.{Act}
use Rattle.cxl_message.specs.declared.events.Cause.{Cause}
use Rattle.cxl_message.specs.declared.events.Event.{Event}
use Rattle.cxl_message.specs.declared.identifiers.Bytes64.{Bytes64}
use Rattle.cxl_message.specs.declared.identifiers.Line.{Line}
use Rattle.cxl_message.specs.declared.messages.Message.{Message}
use Rattle.cxl_message.specs.Codes.{channel_eq}
use Rattle.cxl_message.specs.Lists.{below}
use Rattle.cxl_message.specs.Messages.{channel_of}
use Rattle.cxl_message.specs.Setup.{Configuration}
use Rattle.coherence_model.specs.Buffers.{buffered_writes, message_with, without_tag, without_used, writes_after}
use Rattle.coherence_model.specs.Fitting.{cause_fits}
use Rattle.coherence_model.specs.Flight.{takes_on}
use Rattle.coherence_model.specs.Memory.{memory, memory_after, memory_after_write, write_in}
use Rattle.coherence_model.specs.Traces.{device}
use Rattle.coherence_model.specs.Words.{with_last}
use Rattle.entry_laws.proofs.Buffered.{credit_is_no_write}
use Rattle.device_record.specs.BufferChanges.{writes_in}
use Rattle.device_record.specs.Changes.{memory_in, memory_written}
use Rattle.device_record.specs.Tables.{changed_at}
use Rattle.device_record.specs.Kept.{kept_device}
use Rattle.device_laws.proofs.Lookups.{writes_are}
use Rattle.device_laws.proofs.Tables.{change_table, same_table, set_table}

-- a message of another channel, or of another host, isn't taken from this one
pub takes_other : (h k : ℕ) (c : Channel) (m : Message) → channel_eq (channel_of m) c ≡ false → takes_on h c (Cause.Take k m) ≡ None
takes_other h k c m other = cond-false ((k == h) && channel_eq (channel_of m) c) (Some m) None (and_right (k == h) (channel_eq (channel_of m) c) other)

pub takes_elsewhere : (h k : ℕ) (c : Channel) (m : Message) → (k ≡ h → ⊥) → takes_on h c (Cause.Take k m) ≡ None
takes_elsewhere h k c m other = cond-false ((k == h) && channel_eq (channel_of m) c) (Some m) None (and_left _ _ (ne_eqb k h other))

-- it is from its own
pub takes_here : (h : ℕ) (c : Channel) (m : Message) → channel_eq (channel_of m) c ≡ true → takes_on h c (Cause.Take h m) ≡ Some m
takes_here h c m on = cond-true ((h == h) && channel_eq (channel_of m) c) (Some m) None (and_from _ _ (eq-eqb h h refl) on)

-- the host of a take exists
pub take_host : (setup : Configuration) (k : ℕ) (m : Message) → cause_fits setup device (Cause.Take k m) ≡ true → k < setup.hosts
take_host setup k m fits = ltb-true k setup.hosts (and_parts _ _ (and_parts _ _ (and_parts _ _ (and_parts _ _ fits).0).0).0).0

-- ---- buffered RwD messages

abbrev pub all_writes : ℕ → List Event → List (List Message)
all_writes hosts mine = map (λ h. buffered_writes h mine) (below hosts)

-- a message that isn't of RwD changes nothing
writes_stay : (hosts k : ℕ) (m : Message) (past : List Event) → channel_eq (channel_of m) Channel.Rwd ≡ false
    → map (λ h. writes_after h (Cause.Take k m) (buffered_writes h past)) (below hosts) ≡ all_writes hosts past
writes_stay hosts k m past other =
    same_table (λ h. writes_after h (Cause.Take k m) (buffered_writes h past)) (λ h. buffered_writes h past) hosts (λ h low. ap (λ o. with_last o (buffered_writes h past)) (takes_other h k Channel.Rwd m other))

-- one of RwD is the last of its host's
writes_grow : (hosts k : ℕ) (m : Message) (past : List Event) → k < hosts → channel_eq (channel_of m) Channel.Rwd ≡ true
    → map (λ h. writes_after h (Cause.Take k m) (buffered_writes h past)) (below hosts) ≡ changed_at k (λ ms. ms ++ m ∷ []) (all_writes hosts past)
writes_grow hosts k m past low on =
    sym (change_table (λ h. buffered_writes h past) (λ h. writes_after h (Cause.Take k m) (buffered_writes h past)) hosts k (λ ms. ms ++ m ∷ []) low
    (ap (λ o. with_last o (buffered_writes k past)) (takes_here k Channel.Rwd m on))
    (λ j other less. sym (ap (λ o. with_last o (buffered_writes j past)) (takes_elsewhere j k Channel.Rwd m (λ same. other (sym same))))))

-- Serve uses one
writes_used : (hosts k tag : ℕ) (past : List Event) → k < hosts
    → map (λ h. without_used (cond (k == h) (Some tag) None) (buffered_writes h past)) (below hosts) ≡ changed_at k (without_tag tag) (all_writes hosts past)
writes_used hosts k tag past low =
    sym (change_table (λ h. buffered_writes h past) (λ h. without_used (cond (k == h) (Some tag) None) (buffered_writes h past)) hosts k (without_tag tag) low
    (ap (λ b. without_used (cond b (Some tag) None) (buffered_writes k past)) (eq-eqb k k refl))
    (λ j other less. sym (ap (λ b. without_used (cond b (Some tag) None) (buffered_writes j past)) (ne_eqb k j (λ same. other (sym same))))))

-- the host of an act exists
pub act_host : (setup : Configuration) (k : ℕ) (b : Bool) → ((nat_lt k setup.hosts) && b) ≡ true → k < setup.hosts
act_host setup k b fits = ltb-true k setup.hosts (and_parts _ _ fits).0

by_cause : (setup : Configuration) (past : List Event) (cause : Cause) → cause_fits setup device cause ≡ true
    → map (λ h. writes_after h cause (buffered_writes h past)) (below setup.hosts) ≡ writes_in cause (all_writes setup.hosts past)
by_cause setup past (Cause.Op s i op) fits = refl
by_cause setup past (Cause.Take k (Message.Req op meta snp tag line)) fits = writes_stay setup.hosts k (Message.Req op meta snp tag line) past refl
by_cause setup past (Cause.Take k (Message.MemWr meta snp tag line bytes)) fits = writes_grow setup.hosts k (Message.MemWr meta snp tag line bytes) past (take_host setup k (Message.MemWr meta snp tag line bytes) fits) refl
by_cause setup past (Cause.Take k (Message.BiConflict tag)) fits = writes_grow setup.hosts k (Message.BiConflict tag) past (take_host setup k (Message.BiConflict tag) fits) refl
by_cause setup past (Cause.Take k (Message.BiRsp op bitag low)) fits = writes_stay setup.hosts k (Message.BiRsp op bitag low) past refl
by_cause setup past (Cause.Take k (Message.Ndr op tag)) fits = writes_stay setup.hosts k (Message.Ndr op tag) past refl
by_cause setup past (Cause.Take k (Message.MemData tag bytes)) fits = writes_stay setup.hosts k (Message.MemData tag bytes) past refl
by_cause setup past (Cause.Take k (Message.BiSnp op bitag line span)) fits = writes_stay setup.hosts k (Message.BiSnp op bitag line span) past refl
by_cause setup past (Cause.Take k (Message.Credit c)) fits = writes_stay setup.hosts k (Message.Credit c) past (credit_is_no_write c)
by_cause setup past (Cause.Act (Act.Conflict line)) fits = refl
by_cause setup past (Cause.Act (Act.WriteBack line)) fits = refl
by_cause setup past (Cause.Act (Act.Answer line)) fits = refl
by_cause setup past (Cause.Act (Act.AnswerBlock line)) fits = refl
by_cause setup past (Cause.Act (Act.HostReturn c)) fits = refl
by_cause setup past (Cause.Act (Act.Serve k tag)) fits = writes_used setup.hosts k tag.0 past (act_host setup k _ fits)
by_cause setup past (Cause.Act (Act.Clean k tag)) fits = refl
by_cause setup past (Cause.Act (Act.Start k tag)) fits = refl
by_cause setup past (Cause.Act (Act.Evict k tag)) fits = refl
by_cause setup past (Cause.Act (Act.Snoop k line)) fits = refl
by_cause setup past (Cause.Act (Act.Finish line)) fits = refl
by_cause setup past (Cause.Act (Act.DeviceReturn k c)) fits = refl

-- the RwD messages follow
pub writes_follow : (setup : Configuration) (e : Event) (past : List Event) → cause_fits setup device e.cause ≡ true
    → map (λ h. writes_after h e.cause (buffered_writes h past)) (below setup.hosts) ≡ writes_in e.cause (all_writes setup.hosts past)
writes_follow setup e past fits = by_cause setup past e.cause fits

-- ---- memory

written_by : (setup : Configuration) (opening : List (Line × Bytes64)) (past : List Event) (w : Option (ℕ × Bytes64))
    → map (λ a. memory_after_write a w (memory opening a past)) (below setup.lines) ≡ memory_written w (map (λ a. memory opening a past) (below setup.lines))
written_by setup opening past None = refl
written_by setup opening past (Some w) =
    sym (set_table (λ a. memory opening a past) (λ a. cond (w.0 == a) w.1 (memory opening a past)) setup.lines w.0 w.1
    (cond-true (w.0 == w.0) _ _ (eq-eqb w.0 w.0 refl))
    (λ j other less. sym (cond-false (w.0 == j) _ _ (ne_eqb w.0 j (λ same. other (sym same))))))

memory_by : (setup : Configuration) (opening : List (Line × Bytes64)) (past : List Event) (cause : Cause) → cause_fits setup device cause ≡ true
    → map (λ a. memory_after a cause past (memory opening a past)) (below setup.lines) ≡ memory_in cause (kept_device setup opening past)
memory_by setup opening past (Cause.Op s i op) fits = refl
memory_by setup opening past (Cause.Take k m) fits = refl
memory_by setup opening past (Cause.Act (Act.Conflict line)) fits = refl
memory_by setup opening past (Cause.Act (Act.WriteBack line)) fits = refl
memory_by setup opening past (Cause.Act (Act.Answer line)) fits = refl
memory_by setup opening past (Cause.Act (Act.AnswerBlock line)) fits = refl
memory_by setup opening past (Cause.Act (Act.HostReturn c)) fits = refl
memory_by setup opening past (Cause.Act (Act.Serve k tag)) fits =
    written_by setup opening past (option_and_then write_in (message_with tag.0 (buffered_writes k past)))
    ∙ sym (ap (λ ms. memory_written (option_and_then write_in (message_with tag.0 ms)) (map (λ a. memory opening a past) (below setup.lines))) (writes_are setup.hosts past k (act_host setup k _ fits)))
memory_by setup opening past (Cause.Act (Act.Clean k tag)) fits = refl
memory_by setup opening past (Cause.Act (Act.Start k tag)) fits = refl
memory_by setup opening past (Cause.Act (Act.Evict k tag)) fits = refl
memory_by setup opening past (Cause.Act (Act.Snoop k line)) fits = refl
memory_by setup opening past (Cause.Act (Act.Finish line)) fits = refl
memory_by setup opening past (Cause.Act (Act.DeviceReturn k c)) fits = refl

-- memory follows
pub memory_follows : (setup : Configuration) (opening : List (Line × Bytes64)) (e : Event) (past : List Event) → cause_fits setup device e.cause ≡ true
    → map (λ a. memory opening a (e ∷ past)) (below setup.lines) ≡ memory_in e.cause (kept_device setup opening past)
memory_follows setup opening e past fits = memory_by setup opening past e.cause fits
