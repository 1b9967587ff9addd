-- Messages: what is read is spelled so, and what is spelled is read again.
use Rattle.std.proofs.Common.{◌≡◌, ℕ, zero, suc, ◌^◌, ◌<◌, List, [], ◌∷◌, ◌++◌, refl, ap, arith}
use Rattle.std.specs.Prelude.{IsTrue, map, replicate}
use Rattle.std.specs.Int.{w16, w32}
use Rattle.std.proofs.lemmas.Bool.{lt-ltb, ltb-true}
use Rattle.cxl_message.specs.declared.messages.Message.{Message}
use Rattle.cxl_message.specs.Formed.{message_formed}
use Rattle.cxl_codec.specs.declared.versions.Version.{Version}
use Rattle.cxl_codec.specs.Versions.{tag_limit, tag_width}
use Rattle.cxl_codec.specs.declared.fields.FieldName.{FieldName}
use Rattle.cxl_codec.specs.declared.kinds.MessageKind.{MessageKind}
use Rattle.cxl_codec.specs.Cells.{Cell, kind, field, number}
use Rattle.cxl_codec.specs.Kinds.{message_kind_code}
use Rattle.cxl_codec.specs.Messages.{message_cells, MessageInRange}
use Rattle.cxl_codec.specs.Reading.{number_at, field_of, within, run_at}
use Rattle.cxl_codec.specs.ReadingEvents.{message_fields_at, message_at}
use Rattle.cxl_codec.proofs.Outcomes.{Sound, After, IsRead, Spells, Meets, then_sound, ends_sound, then_read, ends_read}
use Rattle.cxl_codec.proofs.Parts.{Within, within_meets, IsRun, wide16, wide32, number_meets, payload_meets, run_meets}
use Rattle.cxl_codec.proofs.Tables.{message_kind_meets, meta_meets, snoop_type_meets, channel_meets, span_meets}

-- a Tag, as wide as the version has it
pub tag_meets : (version : Version) → Meets (λ n. n < tag_limit version) (number (tag_width version)) (number_at (tag_width version))
tag_meets Version.One = number_meets w16 (2 ^ 16) wide16
tag_meets Version.Two = number_meets w32 (2 ^ 32) wide32

-- a BITag, or another number of 16 bits
pub short_meets : Meets (λ n. n < 2 ^ 16) (number w16) (number_at w16)
short_meets = number_meets w16 (2 ^ 16) wide16

-- a line, an index or another number of 32 bits
pub line_meets : Meets (λ n. n < 2 ^ 32) (number w32) (number_at w32)
line_meets = number_meets w32 (2 ^ 32) wide32

-- the line of a snoop's answer
low_meets : Meets (Within 0 3) (λ n. field FieldName.LowAddr n ∷ []) (field_of FieldName.LowAddr (within 0 3))
low_meets = within_meets FieldName.LowAddr 0 3 (omega arith) (omega arith)

-- the payload of a BIConflict
zeros_meets : Meets (IsRun 0 64) (λ bs. map (field FieldName.Payload) bs) (run_at FieldName.Payload 0 64)
zeros_meets = run_meets FieldName.Payload 0 (omega arith) 64

-- a run of zeros is spelled in one way
zero_run : (n : ℕ) (bs : List ℕ) → IsRun 0 n bs → map (field FieldName.Payload) bs ≡ replicate n (field FieldName.Payload 0)
zero_run zero [] fits = refl
zero_run zero (b ∷ bs) fits = absurd (omega (arith, fits.0))
zero_run (suc n) [] fits = absurd (omega (arith, fits.0))
zero_run (suc n) (b ∷ bs) fits =
    let b-is : b ≡ 0 = omega (arith, fits.1.0) in
    let rest : map (field FieldName.Payload) bs ≡ replicate n (field FieldName.Payload 0) = zero_run n bs (omega (arith, fits.0), fits.1.1) in
    rw (b-is, rest) refl

-- zeros are a run of zeros
zeros_fit : (n : ℕ) → IsRun 0 n (replicate n 0)
zeros_fit zero = (refl, tt)
zeros_fit (suc n) = let fits = zeros_fit n in (ap suc fits.0, (omega arith, fits.1))

module _ (version : Version) where
  -- a message that has cells
  abbrev pub MessageFits : Message → Type 0
  MessageFits m = IsTrue (message_formed m) × (MessageInRange version) m

  -- what is read after the kind byte of a message
  fields_sound : (k : MessageKind) → Sound (After (Spells MessageFits (message_cells version)) (kind (message_kind_code k) ∷ [])) ((message_fields_at version) k)
  unfolding message_fields_at
  fields_sound (MessageKind.Req op) =
      then_sound _ _ _ meta_meets _ _ (λ meta _.
      then_sound _ _ _ snoop_type_meets _ _ (λ snp _.
      then_sound _ _ _ (tag_meets version) _ _ (λ tag t.
      ends_sound _ _ _ line_meets _ (λ line. Message.Req op meta snp (record { 0 = tag }) (record { 0 = line })) (λ line l. ((refl, (t, l)), refl)))))
  fields_sound MessageKind.MemWr =
      then_sound _ _ _ meta_meets _ _ (λ meta _.
      then_sound _ _ _ snoop_type_meets _ _ (λ snp _.
      then_sound _ _ _ (tag_meets version) _ _ (λ tag t.
      then_sound _ _ _ line_meets _ _ (λ line l.
      ends_sound _ _ _ payload_meets _ (λ value. Message.MemWr meta snp (record { 0 = tag }) (record { 0 = line }) value) (λ value v. ((refl, (t, l, v)), refl))))))
  fields_sound MessageKind.BiConflict =
      then_sound _ _ _ (tag_meets version) _ _ (λ tag t.
      ends_sound _ _ _ zeros_meets _ (λ zeros. Message.BiConflict (record { 0 = tag })) (λ zeros z.
      ((refl, t), ap (λ (cs : List Cell). kind 0x12 ∷ number (tag_width version) tag ++ cs) (zero_run 64 zeros z))))
  fields_sound (MessageKind.BiRsp op) =
      then_sound _ _ _ short_meets _ _ (λ bitag t.
      ends_sound _ _ _ low_meets _ (λ low. Message.BiRsp op (record { 0 = bitag }) low) (λ low w. ((lt-ltb low 4 (omega (arith, w.1)), t), refl)))
  fields_sound (MessageKind.Ndr op) =
      ends_sound _ _ _ (tag_meets version) _ (λ tag. Message.Ndr op (record { 0 = tag })) (λ tag t. ((refl, t), refl))
  fields_sound MessageKind.MemData =
      then_sound _ _ _ (tag_meets version) _ _ (λ tag t.
      ends_sound _ _ _ payload_meets _ (λ value. Message.MemData (record { 0 = tag }) value) (λ value v. ((refl, (t, v)), refl)))
  fields_sound (MessageKind.BiSnp op) =
      then_sound _ _ _ short_meets _ _ (λ bitag t.
      then_sound _ _ _ line_meets _ _ (λ line l.
      ends_sound _ _ _ (span_meets op) _ (λ span. Message.BiSnp op (record { 0 = bitag }) (record { 0 = line }) span) (λ span s. ((s, (t, l)), refl))))
  fields_sound MessageKind.Credit =
      ends_sound _ _ _ channel_meets _ (λ channel. Message.Credit channel) (λ channel c. ((c, tt), refl))

  -- a message that is read is spelled so
  message_sound : Sound (Spells MessageFits (message_cells version)) (message_at version)
  unfolding message_at
  message_sound = then_sound _ _ _ message_kind_meets _ _ (λ k _. fields_sound k)

  -- a message that is spelled is read again
  message_read : (m : Message) → MessageFits m → IsRead (message_at version) m ((message_cells version) m)
  unfolding message_at message_fields_at
  message_read (Message.Req op meta snp tag line) fits =
      then_read _ _ _ (message_kind_meets.complete (MessageKind.Req op) tt) _ _ _
      (then_read _ _ _ (meta_meets.complete meta tt) _ _ _
      (then_read _ _ _ (snoop_type_meets.complete snp tt) _ _ _
      (then_read _ _ _ ((tag_meets version).complete tag.0 fits.1.0) _ _ _
      (ends_read _ _ _ (line_meets.complete line.0 fits.1.1) (λ line. Message.Req op meta snp tag (record { 0 = line }))))))
  message_read (Message.MemWr meta snp tag line value) fits =
      then_read _ _ _ (message_kind_meets.complete MessageKind.MemWr tt) _ _ _
      (then_read _ _ _ (meta_meets.complete meta tt) _ _ _
      (then_read _ _ _ (snoop_type_meets.complete snp tt) _ _ _
      (then_read _ _ _ ((tag_meets version).complete tag.0 fits.1.0) _ _ _
      (then_read _ _ _ (line_meets.complete line.0 fits.1.1) _ _ _
      (ends_read _ _ _ (payload_meets.complete value fits.1.2) (λ value. Message.MemWr meta snp tag line value))))))
  message_read (Message.BiConflict tag) fits =
      then_read _ _ _ (message_kind_meets.complete MessageKind.BiConflict tt) _ _ _
      (then_read _ _ _ ((tag_meets version).complete tag.0 fits.1) _ _ _
      (ends_read _ _ _ (zeros_meets.complete (replicate 64 0) (zeros_fit 64)) (λ zeros. Message.BiConflict tag)))
  message_read (Message.BiRsp op bitag low) fits =
      let low-is : low < 4 = ltb-true _ _ fits.0 in
      then_read _ _ _ (message_kind_meets.complete (MessageKind.BiRsp op) tt) _ _ _
      (then_read _ _ _ (short_meets.complete bitag.0 fits.1) _ _ _
      (ends_read _ _ _ (low_meets.complete low (omega arith, omega arith)) (λ low. Message.BiRsp op bitag low)))
  message_read (Message.Ndr op tag) fits =
      then_read _ _ _ (message_kind_meets.complete (MessageKind.Ndr op) tt) _ _ _
      (ends_read _ _ _ ((tag_meets version).complete tag.0 fits.1) (λ tag. Message.Ndr op (record { 0 = tag })))
  message_read (Message.MemData tag value) fits =
      then_read _ _ _ (message_kind_meets.complete MessageKind.MemData tt) _ _ _
      (then_read _ _ _ ((tag_meets version).complete tag.0 fits.1.0) _ _ _
      (ends_read _ _ _ (payload_meets.complete value fits.1.1) (λ value. Message.MemData tag value)))
  message_read (Message.BiSnp op bitag line span) fits =
      then_read _ _ _ (message_kind_meets.complete (MessageKind.BiSnp op) tt) _ _ _
      (then_read _ _ _ (short_meets.complete bitag.0 fits.1.0) _ _ _
      (then_read _ _ _ (line_meets.complete line.0 fits.1.1) _ _ _
      (ends_read _ _ _ ((span_meets op).complete span fits.0) (λ span. Message.BiSnp op bitag line span))))
  message_read (Message.Credit channel) fits =
      then_read _ _ _ (message_kind_meets.complete MessageKind.Credit tt) _ _ _
      (ends_read _ _ _ (channel_meets.complete channel fits.0) (λ channel. Message.Credit channel))

  -- the reader of messages meets the grammar
  pub message_meets : Meets MessageFits (message_cells version) (message_at version)
  message_meets = record { sound = message_sound; complete = message_read }
