-- What an event of a host leaves of a line's value at that host, by its cause, after a run.
use Rattle.std.proofs.Common.{◌≡◌, ℕ, ◌+◌, true, IsTrue, List, ◌++◌, Option, Some, refl, sym, ◌∙◌, ap, subst}
use Rattle.std.proofs.lemmas.Option.{none-some}
use Rattle.cxl_message.specs.declared.channels.Channel.{Channel}
use Rattle.cxl_message.specs.declared.events.Cause.{Cause}
use Rattle.cxl_message.specs.declared.events.Commit.{Commit}
use Rattle.cxl_message.specs.declared.events.Event.{Event}
use Rattle.cxl_message.specs.declared.events.Sends.{Sends}
use Rattle.cxl_message.specs.declared.identifiers.Bytes64.{Bytes64}
use Rattle.cxl_message.specs.declared.identifiers.Line.{Line}
use Rattle.cxl_message.specs.declared.messages.Message.{Message}
use Rattle.cxl_message.specs.Codes.{channel_eq}
use Rattle.cxl_message.specs.Messages.{channel_of}
use Rattle.cxl_message.specs.Setup.{Configuration, IsWithinLimits}
use Rattle.coherence_lemmas.proofs.Rows.{host_take-inv}
use Rattle.coherence_lemmas.proofs.TakesSendNothing.{host_takes_silent}
use Rattle.coherence_model.specs.Buffers.{buffered_writes}
use Rattle.coherence_model.specs.Cache.{copy}
use Rattle.coherence_model.specs.Emission.{Emission}
use Rattle.coherence_model.specs.Fitting.{cause_fits, is_host}
use Rattle.coherence_model.specs.Flight.{in_flight, takes_on, without_taken}
use Rattle.coherence_model.specs.HostRows.{host_emission}
use Rattle.coherence_model.specs.Runs.{IsRun}
use Rattle.coherence_model.specs.Traces.{device, events_of}
use Rattle.coherence_model.specs.Transactions.{open_after, open_at}
use Rattle.coherence_model.specs.ValueFacts.{data_in}
use Rattle.request_laws.proofs.DeviceCauses.{WasThere}
use Rattle.request_laws.proofs.HostPlaces.{takes_here}
use Rattle.request_laws.proofs.Places.{on_channel}
use Rattle.snoop_laws.proofs.Counts.{Among, found_among}
use Rattle.listing_laws.proofs.Copies.{copy_next, writable_count}
use Rattle.listing_laws.proofs.Early.{own_take}
use Rattle.listing_laws.proofs.HostLines.{act_uncommitted}
use Rattle.listing_laws.proofs.Operations.{operation_row}
use Rattle.listing_laws.proofs.Takes.{take_commits}
use Rattle.value_laws.proofs.Acts.{act_moved}
use Rattle.value_laws.proofs.Has.{HostHas, HostMoved, value_next}
use Rattle.value_laws.proofs.HostFacts.{EarlyUnwritable, agent, fit, line_kept, owning_grants, ready_clean, unused, unwritten_copy, unwritten_request}
use Rattle.value_laws.proofs.Operations.{operation_moved}
use Rattle.value_laws.proofs.Takes.{take_moved}

-- a host has these bytes of a line after a trace
abbrev pub HasAt : Configuration → ℕ → Bytes64 → ℕ → List Event → Type 0
HasAt setup a v h t = HostHas a v (copy setup a (events_of h t)) (open_at a (events_of h t)) (in_flight h Channel.Rwd t) (buffered_writes h (events_of device t)) (in_flight h Channel.Drs t)

-- MemData goes on DRS
pub data_channel : (m : Message) (b : Bytes64) → data_in m ≡ Some b → channel_eq (channel_of m) Channel.Drs ≡ true
data_channel (Message.Req _ _ _ _ _) b h = absurd (none-some b h)
data_channel (Message.MemWr _ _ _ _ _) b h = absurd (none-some b h)
data_channel (Message.BiConflict _) b h = absurd (none-some b h)
data_channel (Message.BiRsp _ _ _) b h = absurd (none-some b h)
data_channel (Message.Ndr _ _) b h = absurd (none-some b h)
data_channel (Message.MemData _ _) b h = refl
data_channel (Message.BiSnp _ _ _ _) b h = absurd (none-some b h)
data_channel (Message.Credit _) b h = absurd (none-some b h)

module _ (setup : Configuration) (opening : List (Line × Bytes64)) (limits : IsWithinLimits setup) (h : ℕ) (host : IsTrue (is_host setup h)) (t : List Event) (run : IsRun setup opening t) (a : ℕ) (v : Bytes64)
    (old : HasAt setup a v h t) where
  -- the host's own events
  abbrev own : List Event
  own = events_of h t

  -- what an event of the host leaves
  abbrev pub AfterEvent : Cause → Sends → Option Commit → Type 0
  AfterEvent cause sends commit =
      HostMoved a v (value_next commit a v) (copy setup a own) (copy_next setup cause sends commit own a) (open_after a cause sends (open_at a own)) (in_flight h Channel.Rwd t) (in_flight h Channel.Rwd t ++ on_channel h Channel.Rwd sends)
      (buffered_writes h (events_of device t)) (without_taken (takes_on h Channel.Drs cause) (in_flight h Channel.Drs t)) (writable_count (copy setup a own) + owning_grants a h t)

  -- a taken message was in flight
  pub was_there : (k : ℕ) (m : Message) (c : Channel) → cause_fits setup h (Cause.Take k m) ≡ true → WasThere (takes_on h c (Cause.Take k m)) (in_flight h c t) → channel_eq (channel_of m) c ≡ true → Among m (in_flight h c t)
  was_there k m c fits there on =
      found_among m (in_flight h c t) (there m (takes_here h k c m (own_take setup h k m (agent setup opening limits h host t run) fits) on))

  -- what each cause leaves
  pub cause_moved : (cause : Cause) (w : Emission) (sends : Sends) (commit : Option Commit) → host_emission setup h cause own ≡ Some w → sends ≡ w.sends → commit ≡ w.commit → cause_fits setup h cause ≡ true
      → ((c : Channel) → WasThere (takes_on h c cause) (in_flight h c t)) → EarlyUnwritable setup a own → AfterEvent cause sends commit
  cause_moved (Cause.Op s i op) w sends commit row sent committed fits there early =
      operation_moved setup h own a v (in_flight h Channel.Rwd t) (buffered_writes h (events_of device t)) (in_flight h Channel.Ndr t) (in_flight h Channel.Drs t) old (unwritten_copy setup opening limits h host t run a)
      (unused setup opening limits h host t run) s i op w sends commit (operation_row setup h s i op own w sends commit row sent committed) sent committed
  cause_moved (Cause.Take k m) w sends commit row sent committed fits there early =
      let takes = (host_take-inv setup h k m own w row).same in
      take_moved setup h own a v (in_flight h Channel.Rwd t) (buffered_writes h (events_of device t)) (in_flight h Channel.Ndr t) (in_flight h Channel.Drs t) old k m
      (λ b is. was_there k m Channel.Drs fits (there Channel.Drs) (data_channel m b is)) (fit setup opening limits h host t run) (line_kept setup opening limits h host t run a)
      (λ op tag is. was_there k m Channel.Ndr fits (there Channel.Ndr) (ap (λ x. channel_eq (channel_of x) Channel.Ndr) is)) (unwritten_request setup opening limits h host t run a) sends commit
      (sent ∙ host_takes_silent setup h m own w takes) (take_commits setup h m own w commit takes committed (fit setup opening limits h host t run))
  cause_moved (Cause.Act act) w sends commit row sent committed fits there early =
      subst (AfterEvent (Cause.Act act) sends) (sym (committed ∙ act_uncommitted setup h act own w row))
      (act_moved setup h own a v (in_flight h Channel.Rwd t) (buffered_writes h (events_of device t)) (in_flight h Channel.Ndr t) (in_flight h Channel.Drs t) old (ready_clean setup opening limits h host t run a early) act w sends row sent)
