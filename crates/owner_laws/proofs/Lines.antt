-- What is open for each line of a host, and what its stage waits for, is in exactly one place.
use Rattle.std.proofs.Common.{◌≡◌, ℕ, ◌+◌, Bool, true, false, IsTrue, List, count_by, refl, ◌∙◌, ap}
use Rattle.std.specs.Prelude.{◌&&◌, ◌==◌}
use Rattle.std.proofs.lemmas.Bool.{and_from, eq-eqb, false≢true}
use Rattle.cxl_message.specs.declared.channels.Channel.{Channel}
use Rattle.cxl_message.specs.declared.events.Event.{Event}
use Rattle.cxl_message.specs.declared.identifiers.Bytes64.{Bytes64}
use Rattle.cxl_message.specs.declared.identifiers.Line.{Line}
use Rattle.cxl_message.specs.declared.messages.Message.{Message}
use Rattle.cxl_message.specs.Setup.{Configuration, IsWithinLimits}
use Rattle.coherence_model.specs.Buffers.{buffered_writes}
use Rattle.coherence_model.specs.Fitting.{is_host}
use Rattle.coherence_model.specs.Flight.{in_flight}
use Rattle.coherence_model.specs.RequestFacts.{is_write_with, lines_are_placed, ndr_count, open_is_placed, stage_is_placed, stage_is_placed_by, write_is_placed, writes_under_way}
use Rattle.coherence_model.specs.Runs.{IsRun}
use Rattle.coherence_model.specs.Snoops.{is_snooped}
use Rattle.coherence_model.specs.Stages.{Stage, stage}
use Rattle.coherence_model.specs.Traces.{device, events_of}
use Rattle.coherence_model.specs.WriteBacks.{completes}
use Rattle.coherence_model.specs.Words.{implies}
use Rattle.request_laws.proofs.AllConflicts.{conflicts_are_placed}
use Rattle.request_laws.proofs.Below.{all_below, both_same}
use Rattle.request_laws.proofs.Each.{Each, each_append}
use Rattle.request_laws.proofs.HostFacts.{asked_lines, write_back_is_alone}
use Rattle.request_laws.proofs.OpenPlaced.{open_lines_are_placed, write_tagged}
use Rattle.request_laws.proofs.Owners.{write_backs_are_placed}
use Rattle.coherence_model.proofs.OwnRuns.{events_of_run}
use Rattle.request_laws.proofs.OwnRuns.{host_is_no_device}
use Rattle.request_laws.proofs.Places.{is_write_of}
use Rattle.request_laws.proofs.WriteBacks.{writes_kept}
use Rattle.coherence_model.specs.OwnRuns.{is_own_run}
use Rattle.snoop_laws.proofs.Counts.{counts_alike}
use Rattle.listing_laws.proofs.UnderWay.{each_at}
use Rattle.listing_laws.proofs.WriteBackLines.{Back, backs_seen}

-- a MemWr with the write-back tag is of line a, where only line a is at stage Writing
back_of_line : (setup : Configuration) (own : List Event) (a : ℕ) → ((l : ℕ) → stage setup l own ≡ Stage.Writing → l ≡ a) → (m : Message) → Back setup own m
    → is_write_of setup.tags m ≡ true → is_write_with a setup.tags m ≡ true
back_of_line setup own a alone (Message.Req _ _ _ _ _) back is = absurd (false≢true is)
back_of_line setup own a alone (Message.MemWr meta snp tag line bytes) back is =
    and_from (line.0 == a) (tag.0 == setup.tags) (eq-eqb line.0 a (alone line.0 (back line.0 (and_from (line.0 == line.0) (tag.0 == setup.tags) (eq-eqb line.0 line.0 refl) is)))) is
back_of_line setup own a alone (Message.BiConflict _) back is = absurd (false≢true is)
back_of_line setup own a alone (Message.BiRsp _ _ _) back is = absurd (false≢true is)
back_of_line setup own a alone (Message.Ndr _ _) back is = absurd (false≢true is)
back_of_line setup own a alone (Message.MemData _ _) back is = absurd (false≢true is)
back_of_line setup own a alone (Message.BiSnp _ _ _ _) back is = absurd (false≢true is)
back_of_line setup own a alone (Message.Credit _) back is = absurd (false≢true is)

-- what follows from something that holds, and from nothing otherwise
implied : (p q : Bool) → (p ≡ true → q ≡ true) → implies p q ≡ true
implied true q h = h refl
implied false q h = refl

module _ (setup : Configuration) (opening : List (Line × Bytes64)) (limits : IsWithinLimits setup) (h : ℕ) (host : IsTrue (is_host setup h)) (t : List Event) (run : IsRun setup opening t) where
  -- the host's own events
  abbrev own : List Event
  own = events_of h t

  -- these are such as its rules allow
  own_run : IsTrue (is_own_run setup opening h own)
  own_run = events_of_run setup opening h t run

  -- the write-back of a line at stage Writing is in one place
  write_back_placed : (a : ℕ) → stage setup a own ≡ Stage.Writing → write_is_placed h a setup.tags t ≡ true
  write_back_placed a st =
      let backs = backs_seen setup opening limits h host t run in
      let each : Each (Back setup own) (writes_under_way h t) = each_append (Back setup own) (in_flight h Channel.Rwd t) (buffered_writes h (events_of device t)) backs.0 backs.1 in
      let same : count_by (is_write_with a setup.tags) (writes_under_way h t) ≡ count_by (is_write_of setup.tags) (writes_under_way h t) =
      counts_alike (is_write_with a setup.tags) (is_write_of setup.tags) (writes_under_way h t) (λ m there.
      both_same (is_write_with a setup.tags m) (is_write_of setup.tags m) (write_tagged a setup.tags m)
      (back_of_line setup own a (λ l at. write_back_is_alone setup opening limits h host own own_run l a at st) m (each_at (Back setup own) m (writes_under_way h t) each there))) in
      let still = ((writes_kept setup opening h (host_is_no_device setup limits h host) own own_run).written a st).still in
      eq-eqb _ 1 (ap (λ n. n + ndr_count completes h setup.tags t) same ∙ write_backs_are_placed setup opening limits h host t run still)

  -- what a stage waits for is in one place
  by_stage : (a : ℕ) (s : Stage) → stage setup a own ≡ s → stage_is_placed_by s setup h a t ≡ true
  by_stage a Stage.New is = refl
  by_stage a (Stage.Asked tag) is = conflicts_are_placed setup opening limits h host t run tag (asked_lines setup opening limits h host own own_run a tag is).conflict
  by_stage a Stage.Early is = refl
  by_stage a Stage.Late is = refl
  by_stage a Stage.Writing is = write_back_placed a is
  by_stage a Stage.Written is = refl

  -- each line's places
  pub lines_placed : lines_are_placed setup t h ≡ true
  lines_placed = all_below (λ a. open_is_placed setup h a t && stage_is_placed setup h a t) setup.lines (λ a less.
      and_from (open_is_placed setup h a t) (stage_is_placed setup h a t) (open_lines_are_placed setup opening limits h host t run a)
      (implied (is_snooped a own) (stage_is_placed_by (stage setup a own) setup h a t) (λ snooped. by_stage a (stage setup a own) refl)))
