-- Operations and acts: what is read is spelled so, and what is spelled is read again.
use Rattle.std.proofs.Common.{◌≡◌, ℕ, suc, ◌^◌, ◌<◌, [], ◌∷◌, refl, arith}
use Rattle.std.specs.Prelude.{IsTrue, nat_lt}
use Rattle.std.specs.Int.{w64}
use Rattle.std.proofs.lemmas.Bool.{lt-ltb, ltb-true, and_parts, and_from}
use Rattle.cxl_message.specs.declared.events.Op.{Op}
use Rattle.cxl_message.specs.declared.events.Act.{Act}
use Rattle.cxl_message.specs.Formed.{place_exists, act_formed}
use Rattle.cxl_codec.specs.declared.versions.Version.{Version}
use Rattle.cxl_codec.specs.declared.fields.FieldName.{FieldName}
use Rattle.cxl_codec.specs.declared.kinds.OpKind.{OpKind}
use Rattle.cxl_codec.specs.declared.kinds.ActKind.{ActKind}
use Rattle.cxl_codec.specs.declared.kinds.LineActKind.{LineActKind}
use Rattle.cxl_codec.specs.declared.kinds.TaggedActKind.{TaggedActKind}
use Rattle.cxl_codec.specs.Cells.{kind, field, number}
use Rattle.cxl_codec.specs.Kinds.{op_kind_code, act_kind_code}
use Rattle.cxl_codec.specs.Events.{op_cells, act_cells, OpInRange, ActInRange}
use Rattle.cxl_codec.specs.Reading.{number_at, field_of, within}
use Rattle.cxl_codec.specs.ReadingEvents.{op_fields_at, op_at, act_fields_at, act_at}
use Rattle.cxl_codec.proofs.Outcomes.{Sound, After, IsRead, Spells, Meets, then_sound, ends_sound, then_read, ends_read}
use Rattle.cxl_codec.proofs.Parts.{Within, within_meets, wide64, number_meets, payload_meets}
use Rattle.cxl_codec.proofs.Tables.{op_kind_meets, act_kind_meets, channel_meets}
use Rattle.cxl_codec.proofs.MessageReads.{tag_meets, line_meets}

-- a number of a field from 0 on
abbrev pub small : (which : FieldName) (most : ℕ) → most < 256 → Meets (Within 0 most) (λ n. field which n ∷ []) (field_of which (within 0 most))
small which most lt = within_meets which 0 most (omega arith) lt

-- a host of a send, a take or an act
pub host_meets : Meets (Within 0 15) (λ n. field FieldName.Host n ∷ []) (field_of FieldName.Host (within 0 15))
host_meets = small FieldName.Host 15 (omega arith)

-- the stream of an operation or a commit
pub stream_meets : Meets (Within 0 63) (λ n. field FieldName.Stream n ∷ []) (field_of FieldName.Stream (within 0 63))
stream_meets = small FieldName.Stream 63 (omega arith)

-- the place of a word in its line
pub place_meets : Meets (Within 0 7) (λ n. field FieldName.Place n ∷ []) (field_of FieldName.Place (within 0 7))
place_meets = small FieldName.Place 7 (omega arith)

-- the number of sends
pub count_meets : Meets (Within 0 2) (λ n. field FieldName.SendCount n ∷ []) (field_of FieldName.SendCount (within 0 2))
count_meets = small FieldName.SendCount 2 (omega arith)

-- the flag before a commit
pub flag_meets : Meets (Within 0 1) (λ n. field FieldName.CommitFlag n ∷ []) (field_of FieldName.CommitFlag (within 0 1))
flag_meets = small FieldName.CommitFlag 1 (omega arith)

-- an event's agent
pub agent_meets : Meets (Within 0 16) (λ n. field FieldName.Agent n ∷ []) (field_of FieldName.Agent (within 0 16))
agent_meets = small FieldName.Agent 16 (omega arith)

-- the value of a word
pub value_meets : Meets (λ n. n < 2 ^ 64) (number w64) (number_at w64)
value_meets = number_meets w64 (2 ^ 64) wide64

-- a test that is below the next number
pub below_next : (most limit n : ℕ) → limit ≡ suc most → Within 0 most n → IsTrue (nat_lt n limit)
below_next most limit n e fits = lt-ltb n limit (omega (arith, fits.1))

-- and back: a number that passes the test is within the limits
pub within_from : (most limit n : ℕ) → limit ≡ suc most → IsTrue (nat_lt n limit) → Within 0 most n
within_from most limit n e h = (omega arith, omega (arith, ltb-true n limit h))

-- ---- operations

-- an operation that has cells
abbrev pub OpFits : Op → Type 0
OpFits o = IsTrue (place_exists o) × OpInRange o

-- what is read after the kind byte of an operation
op_fields_sound : (k : OpKind) → Sound (After (Spells OpFits op_cells) (kind (op_kind_code k) ∷ [])) (op_fields_at k)
unfolding op_fields_at
op_fields_sound OpKind.Load =
    ends_sound _ _ _ line_meets _ (λ line. Op.Load (record { 0 = line })) (λ line l. ((refl, l), refl))
op_fields_sound OpKind.Word =
    then_sound _ _ _ line_meets _ _ (λ line l.
    then_sound _ _ _ place_meets _ _ (λ place p.
    ends_sound _ _ _ value_meets _ (λ value. Op.Word (record { 0 = line }) place value) (λ value v. ((below_next 7 8 place refl p, (l, v)), refl))))
op_fields_sound OpKind.Whole =
    then_sound _ _ _ line_meets _ _ (λ line l.
    ends_sound _ _ _ payload_meets _ (λ value. Op.Whole (record { 0 = line }) value) (λ value v. ((refl, (l, v)), refl)))

-- an operation that is read is spelled so
op_sound : Sound (Spells OpFits op_cells) op_at
unfolding op_at
op_sound = then_sound _ _ _ op_kind_meets _ _ (λ k _. op_fields_sound k)

-- an operation that is spelled is read again
op_read : (o : Op) → OpFits o → IsRead op_at o (op_cells o)
unfolding op_at op_fields_at
op_read (Op.Load line) fits =
    then_read _ _ _ (op_kind_meets.complete OpKind.Load tt) _ _ _
    (ends_read _ _ _ (line_meets.complete line.0 fits.1) (λ line. Op.Load (record { 0 = line })))
op_read (Op.Word line place value) fits =
    then_read _ _ _ (op_kind_meets.complete OpKind.Word tt) _ _ _
    (then_read _ _ _ (line_meets.complete line.0 fits.1.0) _ _ _
    (then_read _ _ _ (place_meets.complete place (within_from 7 8 place refl fits.0)) _ _ _
    (ends_read _ _ _ (value_meets.complete value fits.1.1) (λ value. Op.Word line place value))))
op_read (Op.Whole line value) fits =
    then_read _ _ _ (op_kind_meets.complete OpKind.Whole tt) _ _ _
    (then_read _ _ _ (line_meets.complete line.0 fits.1.0) _ _ _
    (ends_read _ _ _ (payload_meets.complete value fits.1.1) (λ value. Op.Whole line value)))

-- the reader of operations meets the grammar
pub op_meets : Meets OpFits op_cells op_at
op_meets = record { sound = op_sound; complete = op_read }

-- ---- acts

module _ (version : Version) where
  -- an act that has cells
  abbrev pub ActFits : Act → Type 0
  ActFits a = IsTrue (act_formed a) × (ActInRange version) a

  -- what is read after the kind byte of an act
  act_fields_sound : (k : ActKind) → Sound (After (Spells ActFits (act_cells version)) (kind (act_kind_code k) ∷ [])) ((act_fields_at version) k)
  unfolding act_fields_at
  act_fields_sound (ActKind.Line LineActKind.Conflict) = ends_sound _ _ _ line_meets _ (λ line. Act.Conflict (record { 0 = line })) (λ line l. ((refl, l), refl))
  act_fields_sound (ActKind.Line LineActKind.WriteBack) = ends_sound _ _ _ line_meets _ (λ line. Act.WriteBack (record { 0 = line })) (λ line l. ((refl, l), refl))
  act_fields_sound (ActKind.Line LineActKind.Answer) = ends_sound _ _ _ line_meets _ (λ line. Act.Answer (record { 0 = line })) (λ line l. ((refl, l), refl))
  act_fields_sound (ActKind.Line LineActKind.AnswerBlock) = ends_sound _ _ _ line_meets _ (λ line. Act.AnswerBlock (record { 0 = line })) (λ line l. ((refl, l), refl))
  act_fields_sound ActKind.HostReturn = ends_sound _ _ _ channel_meets _ (λ channel. Act.HostReturn channel) (λ channel c. ((c, tt), refl))
  act_fields_sound (ActKind.Tagged TaggedActKind.Serve) =
      then_sound _ _ _ host_meets _ _ (λ host h.
      ends_sound _ _ _ (tag_meets version) _ (λ tag. Act.Serve host (record { 0 = tag })) (λ tag t. ((below_next 15 16 host refl h, t), refl)))
  act_fields_sound (ActKind.Tagged TaggedActKind.Clean) =
      then_sound _ _ _ host_meets _ _ (λ host h.
      ends_sound _ _ _ (tag_meets version) _ (λ tag. Act.Clean host (record { 0 = tag })) (λ tag t. ((below_next 15 16 host refl h, t), refl)))
  act_fields_sound (ActKind.Tagged TaggedActKind.Start) =
      then_sound _ _ _ host_meets _ _ (λ host h.
      ends_sound _ _ _ (tag_meets version) _ (λ tag. Act.Start host (record { 0 = tag })) (λ tag t. ((below_next 15 16 host refl h, t), refl)))
  act_fields_sound (ActKind.Tagged TaggedActKind.Evict) =
      then_sound _ _ _ host_meets _ _ (λ host h.
      ends_sound _ _ _ (tag_meets version) _ (λ tag. Act.Evict host (record { 0 = tag })) (λ tag t. ((below_next 15 16 host refl h, t), refl)))
  act_fields_sound ActKind.Snoop =
      then_sound _ _ _ host_meets _ _ (λ host h.
      ends_sound _ _ _ line_meets _ (λ line. Act.Snoop host (record { 0 = line })) (λ line l. ((below_next 15 16 host refl h, l), refl)))
  act_fields_sound (ActKind.Line LineActKind.Finish) = ends_sound _ _ _ line_meets _ (λ line. Act.Finish (record { 0 = line })) (λ line l. ((refl, l), refl))
  act_fields_sound ActKind.DeviceReturn =
      then_sound _ _ _ host_meets _ _ (λ host h.
      ends_sound _ _ _ channel_meets _ (λ channel. Act.DeviceReturn host channel) (λ channel c. ((and_from _ _ (below_next 15 16 host refl h) c, tt), refl)))

  -- an act that is read is spelled so
  act_sound : Sound (Spells ActFits (act_cells version)) (act_at version)
  unfolding act_at
  act_sound = then_sound _ _ _ act_kind_meets _ _ (λ k _. act_fields_sound k)

  -- an act that is spelled is read again
  act_read : (a : Act) → ActFits a → IsRead (act_at version) a ((act_cells version) a)
  unfolding act_at act_fields_at
  act_read (Act.Conflict line) fits =
      then_read _ _ _ (act_kind_meets.complete (ActKind.Line LineActKind.Conflict) tt) _ _ _ (ends_read _ _ _ (line_meets.complete line.0 fits.1) (λ line. Act.Conflict (record { 0 = line })))
  act_read (Act.WriteBack line) fits =
      then_read _ _ _ (act_kind_meets.complete (ActKind.Line LineActKind.WriteBack) tt) _ _ _ (ends_read _ _ _ (line_meets.complete line.0 fits.1) (λ line. Act.WriteBack (record { 0 = line })))
  act_read (Act.Answer line) fits =
      then_read _ _ _ (act_kind_meets.complete (ActKind.Line LineActKind.Answer) tt) _ _ _ (ends_read _ _ _ (line_meets.complete line.0 fits.1) (λ line. Act.Answer (record { 0 = line })))
  act_read (Act.AnswerBlock line) fits =
      then_read _ _ _ (act_kind_meets.complete (ActKind.Line LineActKind.AnswerBlock) tt) _ _ _ (ends_read _ _ _ (line_meets.complete line.0 fits.1) (λ line. Act.AnswerBlock (record { 0 = line })))
  act_read (Act.HostReturn channel) fits =
      then_read _ _ _ (act_kind_meets.complete ActKind.HostReturn tt) _ _ _ (ends_read _ _ _ (channel_meets.complete channel fits.0) (λ channel. Act.HostReturn channel))
  act_read (Act.Serve host tag) fits =
      then_read _ _ _ (act_kind_meets.complete (ActKind.Tagged TaggedActKind.Serve) tt) _ _ _
      (then_read _ _ _ (host_meets.complete host (within_from 15 16 host refl fits.0)) _ _ _ (ends_read _ _ _ ((tag_meets version).complete tag.0 fits.1) (λ tag. Act.Serve host (record { 0 = tag }))))
  act_read (Act.Clean host tag) fits =
      then_read _ _ _ (act_kind_meets.complete (ActKind.Tagged TaggedActKind.Clean) tt) _ _ _
      (then_read _ _ _ (host_meets.complete host (within_from 15 16 host refl fits.0)) _ _ _ (ends_read _ _ _ ((tag_meets version).complete tag.0 fits.1) (λ tag. Act.Clean host (record { 0 = tag }))))
  act_read (Act.Start host tag) fits =
      then_read _ _ _ (act_kind_meets.complete (ActKind.Tagged TaggedActKind.Start) tt) _ _ _
      (then_read _ _ _ (host_meets.complete host (within_from 15 16 host refl fits.0)) _ _ _ (ends_read _ _ _ ((tag_meets version).complete tag.0 fits.1) (λ tag. Act.Start host (record { 0 = tag }))))
  act_read (Act.Evict host tag) fits =
      then_read _ _ _ (act_kind_meets.complete (ActKind.Tagged TaggedActKind.Evict) tt) _ _ _
      (then_read _ _ _ (host_meets.complete host (within_from 15 16 host refl fits.0)) _ _ _ (ends_read _ _ _ ((tag_meets version).complete tag.0 fits.1) (λ tag. Act.Evict host (record { 0 = tag }))))
  act_read (Act.Snoop host line) fits =
      then_read _ _ _ (act_kind_meets.complete ActKind.Snoop tt) _ _ _
      (then_read _ _ _ (host_meets.complete host (within_from 15 16 host refl fits.0)) _ _ _ (ends_read _ _ _ (line_meets.complete line.0 fits.1) (λ line. Act.Snoop host (record { 0 = line }))))
  act_read (Act.Finish line) fits =
      then_read _ _ _ (act_kind_meets.complete (ActKind.Line LineActKind.Finish) tt) _ _ _ (ends_read _ _ _ (line_meets.complete line.0 fits.1) (λ line. Act.Finish (record { 0 = line })))
  act_read (Act.DeviceReturn host channel) fits =
      let parts = and_parts _ _ fits.0 in
      then_read _ _ _ (act_kind_meets.complete ActKind.DeviceReturn tt) _ _ _
      (then_read _ _ _ (host_meets.complete host (within_from 15 16 host refl parts.0)) _ _ _ (ends_read _ _ _ (channel_meets.complete channel parts.1) (λ channel. Act.DeviceReturn host channel)))

  -- the reader of acts meets the grammar
  pub act_meets : Meets ActFits (act_cells version) (act_at version)
  act_meets = record { sound = act_sound; complete = act_read }
