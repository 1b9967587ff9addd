-- What stands at the end of a vector after the messages of an event, or a header, were appended to it.
use Rattle.std.proofs.Common.{◌≡◌, ℕ, List, [], ◌∷◌, ◌++◌, length, sym, ap, ◌∙◌, append_assoc}
use Rattle.std.specs.Int.{byte_at}
use Rattle.std.proofs.lemmas.List.{append-nil, map-append}
use Rattle.cxl_message.specs.declared.events.Out.{Out}
use Rattle.cxl_message.specs.declared.events.Sends.{Sends}
use Rattle.cxl_codec.specs.declared.versions.Version.{Version}
use Rattle.cxl_codec.specs.declared.fields.FieldName.{FieldName}
use Rattle.cxl_codec.specs.Cells.{Cell, bytes_of, field}
use Rattle.cxl_codec.specs.Events.{out_cells, sends_cells}
use Rattle.cxl_codec.specs.Header.{stream_cells, tags_cells}
use Rattle.cxl_codec.specs.Messages.{message_cells}
use Rattle.cxl_codec.proofs.CellBytes.{bytes_of_field}

-- one part after another
after : (front head mid items tail : List ℕ) → mid ≡ front ++ head → items ≡ mid ++ tail → items ≡ front ++ (head ++ tail)
after front head mid items tail first second = second ∙ ap (λ m. m ++ tail) first ∙ append_assoc front head tail

module _ (version : Version) where
  -- one message, behind its number and its host
  pub one_put : (front mid items : List ℕ) (o : Out) → mid ≡ front ++ 1 ∷ o.host ∷ [] → items ≡ mid ++ bytes_of (message_cells version o.message) → items ≡ front ++ bytes_of (sends_cells version (Sends.One o))
  one_put front mid items o first second =
      after front (1 ∷ o.host ∷ []) mid items (bytes_of (message_cells version o.message)) first second
      ∙ ap (λ cells. front ++ 1 ∷ o.host ∷ bytes_of cells) (sym (append-nil (message_cells version o.message)))

  -- two messages, each behind its host
  pub two_put : (front mid items next all : List ℕ) (o p : Out) → mid ≡ front ++ 2 ∷ o.host ∷ [] → items ≡ mid ++ bytes_of (message_cells version o.message) → next ≡ items ++ p.host ∷ [] → all ≡ next ++ bytes_of (message_cells version p.message) → all ≡ front ++ bytes_of (sends_cells version (Sends.Two o p))
  two_put front mid items next all o p first second third fourth =
      after items (p.host ∷ []) next all (bytes_of (message_cells version p.message)) third fourth
      ∙ ap (λ i. i ++ p.host ∷ bytes_of (message_cells version p.message)) (after front (2 ∷ o.host ∷ []) mid items (bytes_of (message_cells version o.message)) first second)
      ∙ append_assoc front (2 ∷ o.host ∷ bytes_of (message_cells version o.message)) (p.host ∷ bytes_of (message_cells version p.message))
      ∙ ap (λ cells. front ++ 2 ∷ o.host ∷ (bytes_of (message_cells version o.message) ++ p.host ∷ bytes_of cells)) (sym (append-nil (message_cells version p.message)))
      ∙ ap (λ bytes. front ++ 2 ∷ o.host ∷ bytes) (sym (map-append (λ c. c.byte) (message_cells version o.message) (out_cells version p ++ [])))

  -- the bytes behind the ways of a header
  behind_ways : (tags credits : ℕ) (streams : List ℕ) → bytes_of (tags_cells version tags ++ (field FieldName.Credits credits ∷ stream_cells streams)) ≡ bytes_of (tags_cells version tags) ++ (credits ∷ length streams ∷ streams)
  behind_ways tags credits streams =
      map-append (λ c. c.byte) (tags_cells version tags) (field FieldName.Credits credits ∷ stream_cells streams)
      ∙ ap (λ (bytes : List ℕ). bytes_of (tags_cells version tags) ++ (credits ∷ length streams ∷ bytes)) (bytes_of_field FieldName.StreamHost streams)

  -- a header: its numbers up to the ways, its tags, its credits and the number of its streams, and their hosts
  pub header_put : (tags credits : ℕ) (streams old reserved first second third fourth numbers : List ℕ) → reserved ≡ old → first ≡ reserved ++ numbers → second ≡ first ++ bytes_of (tags_cells version tags)
      → third ≡ second ++ credits ∷ length streams ∷ [] → fourth ≡ third ++ streams → fourth ≡ old ++ (numbers ++ bytes_of (tags_cells version tags ++ (field FieldName.Credits credits ∷ stream_cells streams)))
  header_put tags credits streams old reserved first second third fourth numbers r a b c d =
      let wide : List ℕ = bytes_of (tags_cells version tags) in
      let two : List ℕ = credits ∷ length streams ∷ [] in
      let one : first ≡ old ++ numbers = a ∙ ap (λ (front : List ℕ). front ++ numbers) r in
      let all : fourth ≡ old ++ (((numbers ++ wide) ++ two) ++ streams) =
      after old ((numbers ++ wide) ++ two) third fourth streams (after old (numbers ++ wide) second third two (after old numbers first second wide one b) c) d in
      let grouped : ((numbers ++ wide) ++ two) ++ streams ≡ numbers ++ (wide ++ (credits ∷ length streams ∷ streams)) = append_assoc (numbers ++ wide) two streams ∙ append_assoc numbers wide (credits ∷ length streams ∷ streams) in
      all ∙ ap (λ (rest : List ℕ). old ++ rest) (grouped ∙ ap (λ (rest : List ℕ). numbers ++ rest) (sym (behind_ways tags credits streams)))
