-- A trace up to some events, and what is put behind it.
use Rattle.std.proofs.Common.{◌≡◌, ℕ, ◌+◌, List, [], ◌∷◌, ◌++◌, length, Option, refl, sym, ap, subst, ◌∙◌, append-nil, append_assoc, length-append, arith}
use Rattle.std.specs.List.{flat_map, AllByRecursion}
use Rattle.std.specs.Io.KnownBytes.{Appends}
use Rattle.std.proofs.lemmas.Grind.{flat_map-append}
use Rattle.cxl_message.specs.Setup.{Configuration}
use Rattle.cxl_message.specs.declared.identifiers.Line.{Line}
use Rattle.cxl_message.specs.declared.identifiers.Bytes64.{Bytes64}
use Rattle.cxl_message.specs.declared.events.Event.{Event}
use Rattle.cxl_codec.specs.declared.versions.Version.{Version}
use Rattle.cxl_codec.specs.Events.{EventFitsIn}
use Rattle.cxl_codec.specs.EndRecord.{EndFits}
use Rattle.cxl_codec.specs.Traces.{end_bytes, event_bytes_in, trace_bytes_in}
use Rattle.trace_stream.specs.Buffers.{Buffer, Gathers, GathersFront, Puts, PutsFront}
use Rattle.trace_stream.specs.Runs.{IsTraceIn}
use Rattle.trace_stream.specs.Writing.{HasBegunIn, TraceParts, WritesFront, WritesFrontOf, WritesTraceIn, Writing, begin_bytes_in, front_bytes_in}
use Rattle.trace_stream.proofs.Putting.{puts_twice, puts_then_front, front_of_more, all_more}
use Rattle.trace_stream.proofs.TraceItems.{traces_are_read}

module _ (version : Version) (setup : Configuration) (names : List (ℕ × List ℕ)) (opening : List (Line × Bytes64)) where
  -- the bytes of one more event
  front_more : (events : List Event) (e : Event) → front_bytes_in version setup names opening events ++ event_bytes_in version e ≡ front_bytes_in version setup names opening (events ++ e ∷ [])
  front_more events e =
      let begun = begin_bytes_in version setup names opening in
      let joined : flat_map (event_bytes_in version) (events ++ e ∷ []) ≡ flat_map (event_bytes_in version) events ++ event_bytes_in version e =
      flat_map-append (event_bytes_in version) events (e ∷ []) ∙ ap (λ (l : List ℕ). flat_map (event_bytes_in version) events ++ l) (append-nil (event_bytes_in version e)) in
      append_assoc begun (flat_map (event_bytes_in version) events) (event_bytes_in version e) ∙ ap (λ (l : List ℕ). begun ++ l) (sym joined)

  -- what follows some events in a trace
  pub trace_after : (events more : List Event)
      → trace_bytes_in version setup names opening (events ++ more) ≡ front_bytes_in version setup names opening events ++ (flat_map (event_bytes_in version) more ++ end_bytes (length (events ++ more)))
  trace_after events more =
      let begun = begin_bytes_in version setup names opening in
      let ending = end_bytes (length (events ++ more)) in
      let first = flat_map (event_bytes_in version) events in
      let second = flat_map (event_bytes_in version) more in
      ap (λ (l : List ℕ). (begun ++ l) ++ ending) (flat_map-append (event_bytes_in version) events more) ∙ ap (λ (l : List ℕ). l ++ ending) (sym (append_assoc begun first second)) ∙ append_assoc (begun ++ first) second ending

  -- one more event was put
  pub goes_on : (start : Option (List ℕ)) (old new : Writing) (events : List Event) (e : Event) → HasBegunIn start old version setup names opening events
      → Gathers old.out new.out (event_bytes_in version e) → EventFitsIn version e → new.count ≡ old.count + 1 → new.version ≡ old.version → HasBegunIn start new version setup names opening (events ++ e ∷ [])
  goes_on start old new events e begun put fits more same = record {
    puts = subst (λ (bytes : List ℕ). Puts start new.out.gone [] new.out.waiting bytes) (front_more events e) (puts_twice start old.out.gone new.out.gone [] old.out.waiting new.out.waiting (front_bytes_in version setup names opening events) (event_bytes_in version e) begun.puts put);
    number = let number = begun.number in omega (arith, more, number, length-append events (e ∷ []));
    of_version = same ∙ begun.of_version;
    parts = record {
      limits = begun.parts.limits;
      named = begun.parts.named;
      each_name = begun.parts.each_name;
      ascending = begun.parts.ascending;
      lines = begun.parts.lines;
      each_opening = begun.parts.each_opening;
      each_event = all_more (EventFitsIn version) events e begun.parts.each_event fits;
    };
  }

  -- the first bytes up to some events are the first of each trace that begins with them
  front_of_traces : (start a : Option (List ℕ)) (events : List Event) → PutsFront start a [] (front_bytes_in version setup names opening events) → WritesFrontOf start a version setup names opening events
  front_of_traces start a events front more =
      subst (λ (bytes : List ℕ). PutsFront start a [] bytes) (sym (trace_after events more))
      (front_of_more start a [] (front_bytes_in version setup names opening events) (flat_map (event_bytes_in version) more ++ end_bytes (length (events ++ more))) front)

  -- one more event was to be put
  pub fails_at : (start : Option (List ℕ)) (old : Writing) (new : Buffer) (events : List Event) (e : Event) → HasBegunIn start old version setup names opening events
      → GathersFront old.out new (event_bytes_in version e) → WritesFrontOf start new.gone version setup names opening (events ++ e ∷ [])
  fails_at start old new events e begun front =
      front_of_traces start new.gone (events ++ e ∷ [])
      (subst (λ (bytes : List ℕ). PutsFront start new.gone [] bytes) (front_more events e) (puts_then_front start old.out.gone new.gone [] old.out.waiting (front_bytes_in version setup names opening events) (event_bytes_in version e) begun.puts front))

  -- the header and the openings were to be put
  pub fails_first : (old new : Option (List ℕ)) (waiting : List ℕ) → waiting ≡ [] → PutsFront old new waiting (begin_bytes_in version setup names opening) → WritesFrontOf old new version setup names opening []
  fails_first old new waiting none front =
      let first : PutsFront old new [] (begin_bytes_in version setup names opening) = subst (λ (l : List ℕ). PutsFront old new l (begin_bytes_in version setup names opening)) none front in
      front_of_traces old new [] (subst (λ (bytes : List ℕ). PutsFront old new [] bytes) (sym (append-nil (begin_bytes_in version setup names opening))) first)

  -- a whole trace, spelled by its front and its end
  trace_end : (events : List Event) (n : ℕ) → n ≡ length events → front_bytes_in version setup names opening events ++ end_bytes n ≡ trace_bytes_in version setup names opening events
  trace_end events n number = ap (λ (k : ℕ). front_bytes_in version setup names opening events ++ end_bytes k) number

  -- the end was put, and nothing waits
  pub ends_at : (start : Option (List ℕ)) (old : Writing) (new : Buffer) (events : List Event) → HasBegunIn start old version setup names opening events
      → Gathers old.out new (end_bytes old.count) → new.waiting ≡ [] → EndFits old.count → WritesTraceIn start new.gone version setup names opening events
  ends_at start old new events begun put all fits =
      let whole : Puts start new.gone [] new.waiting (front_bytes_in version setup names opening events ++ end_bytes old.count) =
      puts_twice start old.out.gone new.gone [] old.out.waiting new.waiting (front_bytes_in version setup names opening events) (end_bytes old.count) begun.puts put in
      let sent : whole.gone ≡ trace_bytes_in version setup names opening events =
      sym (append-nil whole.gone) ∙ sym (ap (λ (l : List ℕ). whole.gone ++ l) all) ∙ sym whole.whole ∙ trace_end events old.count begun.number in
      let trace : IsTraceIn (trace_bytes_in version setup names opening events) version setup names opening events = record {
        fits = record { limits = begun.parts.limits; each_name = begun.parts.each_name; each_opening = begun.parts.each_opening; each_event = begun.parts.each_event; count = subst EndFits begun.number fits };
        named = begun.parts.named;
        ascending = begun.parts.ascending;
        lines = begun.parts.lines;
        spelled = refl;
      } in
      record {
        went = subst (λ (bytes : List ℕ). Appends start new.gone bytes) sent whole.went;
        trace = trace;
        read = traces_are_read (trace_bytes_in version setup names opening events) version setup names opening events trace;
      }

  -- the end was to be put
  pub fails_last : (start : Option (List ℕ)) (old : Writing) (new : Buffer) (events : List Event) → HasBegunIn start old version setup names opening events
      → GathersFront old.out new (end_bytes old.count) → WritesFront start new.gone (trace_bytes_in version setup names opening events)
  fails_last start old new events begun front =
      subst (λ (bytes : List ℕ). PutsFront start new.gone [] bytes) (trace_end events old.count begun.number)
      (puts_then_front start old.out.gone new.gone [] old.out.waiting (front_bytes_in version setup names opening events) (end_bytes old.count) begun.puts front)
