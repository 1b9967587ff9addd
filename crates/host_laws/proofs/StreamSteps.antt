-- How far the streams are after each event.
use Rattle.std.proofs.Common.{Bool, List, None, Some, ap, arith, cond, false, length, map, refl, sym, true, ℕ, ◌+◌, ◌<◌, ◌∙◌, ◌∷◌, ◌≡◌}
use Rattle.std.proofs.lemmas.Bool.{eqb-true}
use Rattle.std.specs.Prelude.{not, slice_set, ◌&&◌, ◌==◌, ◌||◌}
use Rattle.cxl_message.specs.declared.events.Act.{Act}
use Rattle.cxl_message.specs.declared.events.Event.{Event}
use Rattle.cxl_message.specs.declared.events.Op.{Op}
use Rattle.cxl_message.specs.declared.identifiers.Bytes64.{Bytes64}
use Rattle.cxl_message.specs.declared.messages.Message.{Message}
use Rattle.cxl_message.specs.Lists.{below}
use Rattle.cxl_message.specs.Setup.{Configuration}
use Rattle.coherence_model.specs.Streams.{begun_count, stream_waits}
use Rattle.host_laws.proofs.Events.{act_event, commit_of, evicting_event, hit_event, request_event, take_event}
use Rattle.host_laws.proofs.Lookups.{stream_is}
use Rattle.host_laws.proofs.Ranges.{Ranges}
use Rattle.host_laws.proofs.TableLemmas.{set_where, stays}
use Rattle.host_record.specs.HostChanges.{stream_begins, stream_ends}
use Rattle.host_record.specs.HostRecord.{StreamPlace}

abbrev pub stream_at : ℕ → List Event → StreamPlace
stream_at s mine = record { begun = begun_count s mine; waits = stream_waits s mine }

abbrev pub streams_of : Configuration → List Event → List StreamPlace
streams_of setup mine = map (λ s. stream_at s mine) (below (length setup.streams))

one_more : (n : ℕ) → 1 + n ≡ n + 1
one_more n = omega arith

one_begun : (s t : ℕ) (mine : List Event) → s ≡ t → 1 + begun_count t mine ≡ begun_count s mine + 1
one_begun s t mine same = ap (λ k. 1 + begun_count k mine) (sym same) ∙ one_more (begun_count s mine)

none_begun : (n : ℕ) → 0 + n ≡ n
none_begun n = omega arith

abbrev begun_place : Bool → StreamPlace → StreamPlace
begun_place waits p = record { begun = p.begun + 1; waits = waits }

waiting_by : (s t : ℕ) (mine : List Event) (b : Bool) → (s == t) ≡ b
    → ◌≡◌ {A = StreamPlace} (record { begun = cond b 1 0 + begun_count t mine; waits = b || stream_waits t mine }) (cond b (begun_place true (stream_at s mine)) (stream_at t mine))
waiting_by s t mine true is = ap {B = StreamPlace} (λ n. record { begun = n; waits = true }) (one_begun s t mine (eqb-true s t is))
waiting_by s t mine false is = ap {B = StreamPlace} (λ n. record { begun = n; waits = stream_waits t mine }) (none_begun (begun_count t mine))

passing_by : (s t : ℕ) (mine : List Event) (b : Bool) → (s == t) ≡ b
    → ◌≡◌ {A = StreamPlace} (record { begun = cond b 1 0 + begun_count t mine; waits = not b && (b || stream_waits t mine) }) (cond b (begun_place false (stream_at s mine)) (stream_at t mine))
passing_by s t mine true is = ap {B = StreamPlace} (λ n. record { begun = n; waits = false }) (one_begun s t mine (eqb-true s t is))
passing_by s t mine false is = ap {B = StreamPlace} (λ n. record { begun = n; waits = stream_waits t mine }) (none_begun (begun_count t mine))

ending_by : (s t : ℕ) (mine : List Event) (b : Bool) → (s == t) ≡ b
    → ◌≡◌ {A = StreamPlace} (record { begun = 0 + begun_count t mine; waits = not b && stream_waits t mine }) (cond b (record { begun = begun_count s mine; waits = false }) (stream_at t mine))
ending_by s t mine true is = ap {B = StreamPlace} (λ n. record { begun = n; waits = false }) (none_begun (begun_count t mine) ∙ ap (λ k. begun_count k mine) (sym (eqb-true s t is)))
ending_by s t mine false is = ap {B = StreamPlace} (λ n. record { begun = n; waits = stream_waits t mine }) (none_begun (begun_count t mine))

pub hit_streams : (setup : Configuration) (h s i : ℕ) (op : Op) (value : Bytes64) (mine : List Event) → Ranges setup mine
    → streams_of setup (hit_event h s i op value ∷ mine) ≡ stream_begins s false (streams_of setup mine)
hit_streams setup h s i op value mine r =
    set_where (λ t. stream_at t mine) (λ t. stream_at t (hit_event h s i op value ∷ mine)) (length setup.streams) s (begun_place false (stream_at s mine)) (λ t. passing_by s t mine (s == t) refl)
    ∙ ap (λ p. slice_set (streams_of setup mine) s (begun_place false p)) (sym (stream_is setup h mine r s))

pub request_streams : (setup : Configuration) (h s i : ℕ) (op : Op) (tag : ℕ) (mine : List Event) → Ranges setup mine
    → streams_of setup (request_event h s i op tag ∷ mine) ≡ stream_begins s true (streams_of setup mine)
request_streams setup h s i op tag mine r =
    set_where (λ t. stream_at t mine) (λ t. stream_at t (request_event h s i op tag ∷ mine)) (length setup.streams) s (begun_place true (stream_at s mine)) (λ t. waiting_by s t mine (s == t) refl)
    ∙ ap (λ p. slice_set (streams_of setup mine) s (begun_place true p)) (sym (stream_is setup h mine r s))

pub evict_streams : (setup : Configuration) (h s i : ℕ) (op : Op) (m : Message) (tag : ℕ) (mine : List Event) → Ranges setup mine
    → streams_of setup (evicting_event h s i op m tag ∷ mine) ≡ stream_begins s true (streams_of setup mine)
evict_streams setup h s i op m tag mine r =
    set_where (λ t. stream_at t mine) (λ t. stream_at t (evicting_event h s i op m tag ∷ mine)) (length setup.streams) s (begun_place true (stream_at s mine)) (λ t. waiting_by s t mine (s == t) refl)
    ∙ ap (λ p. slice_set (streams_of setup mine) s (begun_place true p)) (sym (stream_is setup h mine r s))

pub fill_streams : (setup : Configuration) (h : ℕ) (m : Message) (s i : ℕ) (op : Op) (value : Bytes64) (mine : List Event) → Ranges setup mine
    → streams_of setup (take_event h m (Some (commit_of s i op value)) ∷ mine) ≡ stream_ends s (streams_of setup mine)
fill_streams setup h m s i op value mine r =
    set_where (λ t. stream_at t mine) (λ t. stream_at t (take_event h m (Some (commit_of s i op value)) ∷ mine)) (length setup.streams) s (record { begun = begun_count s mine; waits = false }) (λ t. ending_by s t mine (s == t) refl)
    ∙ ap (λ (p : StreamPlace). slice_set (streams_of setup mine) s (record { begun = p.begun; waits = false })) (sym (stream_is setup h mine r s))

pub take_streams : (setup : Configuration) (h : ℕ) (m : Message) (mine : List Event) → streams_of setup (take_event h m None ∷ mine) ≡ streams_of setup mine
take_streams setup h m mine =
    stays (λ t. stream_at t mine) (λ t. stream_at t (take_event h m None ∷ mine)) (length setup.streams) (λ t. ap {B = StreamPlace} (λ n. record { begun = n; waits = stream_waits t mine }) (none_begun (begun_count t mine)))

pub act_streams : (setup : Configuration) (h : ℕ) (act : Act) (m : Message) (mine : List Event) → streams_of setup (act_event h act m ∷ mine) ≡ streams_of setup mine
act_streams setup h act m mine =
    stays (λ t. stream_at t mine) (λ t. stream_at t (act_event h act m ∷ mine)) (length setup.streams) (λ t. ap {B = StreamPlace} (λ n. record { begun = n; waits = stream_waits t mine }) (none_begun (begun_count t mine)))
