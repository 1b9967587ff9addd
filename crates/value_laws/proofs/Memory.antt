-- Line a of memory after an event of the device: a served MemWr brings the flat memory's line, and no other event changes it.
use Rattle.std.proofs.Common.{◌≡◌, ℕ, Bool, true, false, List, Some, None, cond, count_by, refl, sym, ◌∙◌, ap, subst, arith}
use Rattle.std.specs.Prelude.{option_and_then, ◌==◌, ◌&&◌}
use Rattle.std.proofs.lemmas.Bool.{and_parts, cond-true, eqb-true}
use Rattle.std.proofs.lemmas.Option.{none-some}
use Rattle.cxl_message.specs.declared.channels.Channel.{Channel}
use Rattle.cxl_message.specs.declared.events.Act.{Act}
use Rattle.cxl_message.specs.declared.events.Cause.{Cause}
use Rattle.cxl_message.specs.declared.events.Event.{Event}
use Rattle.cxl_message.specs.declared.identifiers.Bytes64.{Bytes64}
use Rattle.cxl_message.specs.declared.identifiers.Line.{Line}
use Rattle.cxl_message.specs.declared.identifiers.Tag.{Tag}
use Rattle.cxl_message.specs.declared.messages.Message.{Message}
use Rattle.cxl_message.specs.Setup.{Configuration}
use Rattle.coherence_lemmas.proofs.DeviceActs.{v3_serve-inv}
use Rattle.coherence_model.specs.Buffers.{buffered_writes, message_with, without_used, writes_after}
use Rattle.coherence_model.specs.Copies.{Copy}
use Rattle.coherence_model.specs.DeviceRows.{device_emission}
use Rattle.coherence_model.specs.Emission.{Emission}
use Rattle.coherence_model.specs.Fitting.{cause_fits, is_device, is_host, write_tag_exists}
use Rattle.coherence_model.specs.Flight.{takes_on, without_taken}
use Rattle.coherence_model.specs.Memory.{memory, memory_after, memory_after_write, write_in}
use Rattle.coherence_model.specs.Traces.{device}
use Rattle.request_laws.proofs.Each.{Each, found_message}
use Rattle.request_laws.proofs.HostPlaces.{Taken}
use Rattle.listing_laws.proofs.UnderWay.{count_moved}
use Rattle.listing_laws.proofs.WriteBackLines.{writes_line}
use Rattle.value_laws.proofs.Has.{IsClean, Writes}

-- memory after a message was served
served_memory : (a : ℕ) (v mem : Bytes64) (m : Message) → Writes a v m → (writes_line a m ≡ false → mem ≡ v) → memory_after_write a (write_in m) mem ≡ v
served_memory a v mem (Message.Req _ _ _ _ _) writes rest = rest refl
served_memory a v mem (Message.MemWr _ _ _ line bytes) writes rest = by (line.0 == a) refl
  where
    by : (b : Bool) → (line.0 == a) ≡ b → cond b bytes mem ≡ v
    by true is = writes bytes (cond-true (line.0 == a) (Some bytes) None is)
    by false is = rest is
served_memory a v mem (Message.BiConflict _) writes rest = rest refl
served_memory a v mem (Message.BiRsp _ _ _) writes rest = rest refl
served_memory a v mem (Message.Ndr _ _) writes rest = rest refl
served_memory a v mem (Message.MemData _ _) writes rest = rest refl
served_memory a v mem (Message.BiSnp _ _ _ _) writes rest = rest refl
served_memory a v mem (Message.Credit _) writes rest = rest refl

module _ (setup : Configuration) (opening : List (Line × Bytes64)) (a : ℕ) (v : Bytes64) (dev : List Event) (c : ℕ → Copy) (fw : ℕ → List Message)
    (held : (k : ℕ) → is_host setup k ≡ true → Each (Writes a v) (buffered_writes k dev)) (old : ((k : ℕ) → is_host setup k ≡ true → IsClean a (c k) (fw k) (buffered_writes k dev)) → memory opening a dev ≡ v) where
  -- all hosts are clean after an event of the device
  abbrev AllClean : Cause → Type 0
  AllClean cause = (k : ℕ) → is_host setup k ≡ true → IsClean a (c k) (without_taken (takes_on k Channel.Rwd cause) (fw k)) (writes_after k cause (buffered_writes k dev))

  -- a take leaves memory
  take_memory : (k : ℕ) (m : Message) → ((g : ℕ) → Taken (takes_on g Channel.Rwd (Cause.Take k m)) (fw g)) → AllClean (Cause.Take k m) → memory opening a dev ≡ v
  take_memory k m taken clean = old (λ g host.
      let now = clean g host in
      record { copied = now.copied; unwritten = sym (count_moved (writes_line a) (takes_on g Channel.Rwd (Cause.Take k m)) (fw g) (buffered_writes g dev) (taken g)) ∙ now.unwritten })

  -- a message that doesn't write the line is served
  served_clean : (k : ℕ) (tag : Tag) (m : Message) → is_host setup k ≡ true → message_with tag.0 (buffered_writes k dev) ≡ Some m → writes_line a m ≡ false → (g : ℕ) (b : Bool) → (k == g) ≡ b
      → count_by (writes_line a) (without_used (cond b (Some tag.0) None) (buffered_writes g dev)) ≡ count_by (writes_line a) (buffered_writes g dev)
  served_clean k tag m host found other g true is =
      let same = eqb-true k g is in
      let f = found_message (Writes a v) tag.0 m (buffered_writes k dev) (held k host) found in
      let less = f.less (writes_line a) in
      let zero = ap (λ b. cond {A = ℕ} b 1 0) other in
      subst (λ x. count_by (writes_line a) (without_used (Some tag.0) (buffered_writes x dev)) ≡ count_by (writes_line a) (buffered_writes x dev)) same (omega arith)
  served_clean k tag m host found other g false is = refl

  -- Serve writes the line, or leaves it
  serve_memory : (k : ℕ) (tag : Tag) (w : Emission) → device_emission setup opening (Cause.Act (Act.Serve k tag)) dev ≡ Some w → is_host setup k ≡ true → AllClean (Cause.Act (Act.Serve k tag))
      → memory_after a (Cause.Act (Act.Serve k tag)) dev (memory opening a dev) ≡ v
  serve_memory k tag w row host clean =
      let inv = v3_serve-inv k (message_with tag.0 (buffered_writes k dev)) w row in
      let f = found_message (Writes a v) tag.0 inv.m (buffered_writes k dev) (held k host) inv.found in
      ap (λ x. memory_after_write a (option_and_then write_in x) (memory opening a dev)) inv.found
      ∙ served_memory a v (memory opening a dev) inv.m f.holds (λ other. old (λ g here.
      let now = clean g here in
      let same = served_clean k tag inv.m host inv.found other g (k == g) refl in
      let zero = now.unwritten in
      record { copied = now.copied; unwritten = omega arith }))

  -- what each event of the device leaves in memory
  pub memory_moved : (cause : Cause) (w : Emission) → device_emission setup opening cause dev ≡ Some w → cause_fits setup device cause ≡ true → ((g : ℕ) → Taken (takes_on g Channel.Rwd cause) (fw g)) → AllClean cause
      → memory_after a cause dev (memory opening a dev) ≡ v
  memory_moved (Cause.Op s i op) w row fits taken clean = absurd (none-some w row)
  memory_moved (Cause.Take k m) w row fits taken clean = take_memory k m taken clean
  memory_moved (Cause.Act (Act.Conflict line)) w row fits taken clean = absurd (none-some w row)
  memory_moved (Cause.Act (Act.WriteBack line)) w row fits taken clean = absurd (none-some w row)
  memory_moved (Cause.Act (Act.Answer line)) w row fits taken clean = absurd (none-some w row)
  memory_moved (Cause.Act (Act.AnswerBlock line)) w row fits taken clean = absurd (none-some w row)
  memory_moved (Cause.Act (Act.HostReturn channel)) w row fits taken clean = absurd (none-some w row)
  memory_moved (Cause.Act (Act.Serve k tag)) w row fits taken clean = serve_memory k tag w row (and_parts (is_device device) (is_host setup k) (and_parts (is_device device && is_host setup k) (write_tag_exists setup tag) fits).0).1 clean
  memory_moved (Cause.Act (Act.Clean k tag)) w row fits taken clean = old clean
  memory_moved (Cause.Act (Act.Start k tag)) w row fits taken clean = old clean
  memory_moved (Cause.Act (Act.Evict k tag)) w row fits taken clean = old clean
  memory_moved (Cause.Act (Act.Snoop k line)) w row fits taken clean = old clean
  memory_moved (Cause.Act (Act.Finish line)) w row fits taken clean = old clean
  memory_moved (Cause.Act (Act.DeviceReturn k channel)) w row fits taken clean = old clean
