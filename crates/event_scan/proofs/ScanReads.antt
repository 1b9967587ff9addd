-- The parts of each reader of an event record, and of the whole record; and of an opening record.
use Rattle.std.proofs.Common.{◌≡◌, ℕ, zero, suc, ◌-◌, ◌<◌, ◌≤◌, Bool, true, false, cond, List, [], ◌∷◌, ◌++◌, get_or, Option, Some, None, refl, sym, ap, ◌∙◌, arith}
use Rattle.std.specs.Prelude.{length, nat_le, option_map}
use Rattle.std.proofs.lemmas.Bool.{le-leb}
use Rattle.std.proofs.lemmas.List.Elements.{All-append}
use Rattle.cxl_message.specs.declared.messages.Message.{Message}
use Rattle.cxl_message.specs.declared.events.Op.{Op}
use Rattle.cxl_message.specs.declared.events.Act.{Act}
use Rattle.cxl_message.specs.declared.events.Cause.{Cause}
use Rattle.cxl_message.specs.declared.events.Sends.{Sends}
use Rattle.cxl_codec.specs.declared.versions.Version.{Version}
use Rattle.cxl_codec.specs.declared.fields.FieldName.{FieldName}
use Rattle.cxl_codec.specs.declared.faults.Fault.{Fault}
use Rattle.cxl_codec.specs.declared.kinds.CauseKind.{CauseKind}
use Rattle.cxl_codec.specs.declared.kinds.OpKind.{OpKind}
use Rattle.cxl_codec.specs.declared.kinds.ActKind.{ActKind}
use Rattle.cxl_codec.specs.declared.kinds.MessageKind.{MessageKind}
use Rattle.event_scan.specs.declared.scans.Part.{Part}
use Rattle.cxl_codec.specs.Openings.{opening_cells, OpeningFits}
use Rattle.cxl_codec.specs.Grammar.{IsCutShort}
use Rattle.cxl_codec.specs.Reading.{within}
use Rattle.cxl_codec.specs.ReadingEvents.{message_fields_at, message_at, op_fields_at, op_at, act_fields_at, act_at, cause_fields_at, cause_at, out_at, outs_at, sends_at, flagged_at, commit_at, event_at}
use Rattle.cxl_codec.specs.ReadingFiles.{opening_at}
use Rattle.event_scan.specs.Scanning.{op_parts, act_parts, span_part, message_parts, cause_parts, sends_parts, commit_parts, after_byte, event_parts, scan}
use Rattle.cxl_codec.proofs.Outcomes.{IsBytes}
use Rattle.cxl_codec.proofs.Meanings.{refused}
use Rattle.cxl_codec.proofs.FileReads.{opening_meets}
use Rattle.event_scan.proofs.Scanning.{scan_step, scan_free}
use Rattle.event_scan.proofs.Follows.{Follows, IsTableOf, follows_then, follows_done, follows_end, follows_joined, follows_table}
use Rattle.event_scan.proofs.ScanFields.{within_follows, meta_follows, snoop_type_follows, channel_follows, span_follows, tag_follows, line_follows, value_follows, payload_follows, zeros_follow}

-- ---- what stands behind a kind byte

-- a kind that the table has
pub kind_value : {A : Type 0} (parts : A → List Part) (found : Option A) (next : List Part) → option_map parts found ≡ Some next → (a : A) × (found ≡ Some a) × (next ≡ parts a)
kind_value parts None next e = absurd cc
kind_value parts (Some a) next e = (a, refl, cc)

-- the parts of a kind that the table has
kind_parts : {A : Type 0} (parts : A → List Part) (found : Option A) (a : A) → found ≡ Some a → option_map parts found ≡ Some (parts a)
kind_parts parts found a e = rw e refl

-- a table of kinds
kind_table : {A : Type 0} (p : Part) (table : ℕ → Option A) (parts : A → List Part) → ((b : ℕ) → after_byte p b ≡ option_map parts (table b)) → IsTableOf p table parts
kind_table p table parts is = record {
  value_at = λ b next e. kind_value parts (table b) next (sym (is b) ∙ e);
  parts_at = λ b a e. is b ∙ kind_parts parts (table b) a e;
}

-- the fields of a message
message_fields_follow : (kind : MessageKind) → Follows (message_parts kind) ((message_fields_at Version.One) kind)
unfolding message_fields_at
message_fields_follow (MessageKind.Req op) =
    follows_then _ _ _ _ meta_follows (λ meta.
    follows_then _ _ _ _ snoop_type_follows (λ snp.
    follows_joined 2 4 [] _ (omega arith) (omega arith)
    (follows_then _ _ _ _ tag_follows (λ tag.
    follows_end _ _ (λ line. Message.Req op meta snp (record { 0 = tag }) (record { 0 = line })) line_follows))))
message_fields_follow MessageKind.MemWr =
    follows_then _ _ _ _ meta_follows (λ meta.
    follows_then _ _ _ _ snoop_type_follows (λ snp.
    follows_joined 6 64 [] _ (omega arith) (omega arith)
    (follows_joined 2 4 (Part.Free 64 ∷ []) _ (omega arith) (omega arith)
    (follows_then _ _ _ _ tag_follows (λ tag.
    follows_then _ _ _ _ line_follows (λ line.
    follows_end _ _ (λ value. Message.MemWr meta snp (record { 0 = tag }) (record { 0 = line }) value) payload_follows))))))
message_fields_follow MessageKind.BiConflict =
    follows_then _ _ _ _ tag_follows (λ tag.
    follows_end _ _ (λ zeros. Message.BiConflict (record { 0 = tag })) (zeros_follow FieldName.Payload 63))
message_fields_follow (MessageKind.BiRsp op) =
    follows_then _ _ _ _ tag_follows (λ bitag.
    follows_end _ _ (λ low. Message.BiRsp op (record { 0 = bitag }) low) (within_follows FieldName.LowAddr 0 3))
message_fields_follow (MessageKind.Ndr op) = follows_end _ _ (λ tag. Message.Ndr op (record { 0 = tag })) tag_follows
message_fields_follow MessageKind.MemData =
    follows_joined 2 64 [] _ (omega arith) (omega arith)
    (follows_then _ _ _ _ tag_follows (λ tag.
    follows_end _ _ (λ value. Message.MemData (record { 0 = tag }) value) payload_follows))
message_fields_follow (MessageKind.BiSnp op) =
    follows_joined 2 4 (span_part op ∷ []) _ (omega arith) (omega arith)
    (follows_then _ _ _ _ tag_follows (λ bitag.
    follows_then _ _ _ _ line_follows (λ line.
    follows_end _ _ (λ span. Message.BiSnp op (record { 0 = bitag }) (record { 0 = line }) span) (span_follows op))))
message_fields_follow MessageKind.Credit = follows_end _ _ (λ channel. Message.Credit channel) channel_follows

-- a message
message_follows : Follows (Part.Message ∷ []) (message_at Version.One)
unfolding message_at
message_follows = follows_table Part.Message Fault.Kind _ message_parts _ (kind_table Part.Message _ message_parts (λ b. refl)) message_fields_follow

-- the fields of an operation
op_fields_follow : (kind : OpKind) → Follows (op_parts kind) (op_fields_at kind)
unfolding op_fields_at
op_fields_follow OpKind.Load = follows_end _ _ (λ line. Op.Load (record { 0 = line })) line_follows
op_fields_follow OpKind.Word =
    follows_then _ _ _ _ line_follows (λ line.
    follows_then _ _ _ _ (within_follows FieldName.Place 0 7) (λ place.
    follows_end _ _ (λ value. Op.Word (record { 0 = line }) place value) value_follows))
op_fields_follow OpKind.Whole =
    follows_joined 4 64 [] _ (omega arith) (omega arith)
    (follows_then _ _ _ _ line_follows (λ line.
    follows_end _ _ (λ value. Op.Whole (record { 0 = line }) value) payload_follows))

-- an operation
op_follows : Follows (Part.Op ∷ []) op_at
unfolding op_at
op_follows = follows_table Part.Op Fault.Kind _ op_parts _ (kind_table Part.Op _ op_parts (λ b. refl)) op_fields_follow

-- the fields of an act
act_fields_follow : (kind : ActKind) → Follows (act_parts kind) ((act_fields_at Version.One) kind)
unfolding act_fields_at
act_fields_follow (ActKind.Line kind) = follows_end _ _ _ line_follows
act_fields_follow (ActKind.Tagged kind) =
    follows_then _ _ _ _ (within_follows FieldName.Host 0 15) (λ host.
    follows_end _ _ _ tag_follows)
act_fields_follow ActKind.HostReturn = follows_end _ _ (λ channel. Act.HostReturn channel) channel_follows
act_fields_follow ActKind.Snoop =
    follows_then _ _ _ _ (within_follows FieldName.Host 0 15) (λ host.
    follows_end _ _ (λ line. Act.Snoop host (record { 0 = line })) line_follows)
act_fields_follow ActKind.DeviceReturn =
    follows_then _ _ _ _ (within_follows FieldName.Host 0 15) (λ host.
    follows_end _ _ (λ channel. Act.DeviceReturn host channel) channel_follows)

-- an act
act_follows : Follows (Part.Act ∷ []) (act_at Version.One)
unfolding act_at
act_follows = follows_table Part.Act Fault.Kind _ act_parts _ (kind_table Part.Act _ act_parts (λ b. refl)) act_fields_follow

-- the fields of a cause
cause_fields_follow : (kind : CauseKind) → Follows (cause_parts kind) ((cause_fields_at Version.One) kind)
unfolding cause_fields_at
cause_fields_follow CauseKind.Op =
    follows_then _ _ _ _ (within_follows FieldName.Stream 0 63) (λ stream.
    follows_then _ _ _ _ line_follows (λ index.
    follows_end _ _ (λ op. Cause.Op stream index op) op_follows))
cause_fields_follow CauseKind.Take =
    follows_then _ _ _ _ (within_follows FieldName.Host 0 15) (λ host.
    follows_end _ _ (λ message. Cause.Take host message) message_follows)
cause_fields_follow CauseKind.Act = follows_end _ _ (λ act. Cause.Act act) act_follows

-- a cause
cause_follows : Follows (Part.Cause ∷ []) (cause_at Version.One)
unfolding cause_at
cause_follows = follows_table Part.Cause Fault.Kind _ cause_parts _ (kind_table Part.Cause _ cause_parts (λ b. refl)) cause_fields_follow

-- ---- sends and commits

-- a sent message
out_follows : Follows (Part.Within 0 15 ∷ Part.Message ∷ []) (out_at Version.One)
unfolding out_at
out_follows =
    follows_then _ _ _ _ (within_follows FieldName.Host 0 15) (λ host.
    follows_end _ _ (λ message. record { host = host; message = message }) message_follows)

-- so many sent messages
outs_follow : (n : ℕ) → Follows (sends_parts n) ((outs_at Version.One) n)
unfolding outs_at
outs_follow zero = follows_done Sends.Nothing
outs_follow (suc zero) = follows_end _ _ (λ first. Sends.One first) out_follows
outs_follow (suc (suc n)) =
    follows_then _ _ _ _ out_follows (λ first.
    follows_end _ _ (λ second. Sends.Two first second) out_follows)

-- a number up to a limit, and what it says
count_value : (most b : ℕ) (parts : ℕ → List Part) (t : Bool) (next : List Part) → nat_le b most ≡ t → cond t (Some (parts b)) None ≡ Some next → (n : ℕ) × (within 0 most b ≡ Some n) × (next ≡ parts n)
count_value most b parts true next e f = (b, rw (le-leb 0 b (omega arith), e) refl, cc)
count_value most b parts false next e f = absurd cc

-- what a number up to a limit says
count_parts : (most b n : ℕ) (parts : ℕ → List Part) (t : Bool) → nat_le b most ≡ t → within 0 most b ≡ Some n → cond t (Some (parts b)) None ≡ Some (parts n)
count_parts most b n parts true e f =
    let there : within 0 most b ≡ Some b = rw (le-leb 0 b (omega arith), e) refl in
    let both : Some b ≡ Some n = sym there ∙ f in
    let same : b ≡ n = cc in
    ap (λ (k : ℕ). Some (parts k)) same
count_parts most b n parts false e f =
    let none : within 0 most b ≡ None = rw (le-leb 0 b (omega arith), e) refl in
    let both : None ≡ Some n = sym none ∙ f in
    absurd cc

-- the numbers up to a limit
count_table : (p : Part) (most : ℕ) (parts : ℕ → List Part) → ((b : ℕ) → after_byte p b ≡ cond (nat_le b most) (Some (parts b)) None) → IsTableOf p (within 0 most) parts
count_table p most parts is = record {
  value_at = λ b next e. count_value most b parts (nat_le b most) next refl (sym (is b) ∙ e);
  parts_at = λ b n e. is b ∙ count_parts most b n parts (nat_le b most) refl e;
}

-- the messages that are sent
sends_follow : Follows (Part.Sends ∷ []) (sends_at Version.One)
unfolding sends_at
sends_follow = follows_table Part.Sends (λ left. Fault.Field left FieldName.SendCount) (within 0 2) sends_parts _ (count_table Part.Sends 2 sends_parts (λ b. refl)) outs_follow

-- the commit behind a flag
flagged_follows : (n : ℕ) → Follows (commit_parts n) (flagged_at n)
unfolding flagged_at
flagged_follows zero = follows_done None
flagged_follows (suc n) =
    follows_then _ _ _ _ (within_follows FieldName.Stream 0 63) (λ stream.
    follows_then _ _ _ _ line_follows (λ index.
    follows_then _ _ _ _ op_follows (λ op.
    follows_end _ _ (λ value. Some (record { stream = stream; index = index; op = op; value = value })) payload_follows)))

-- a commit, if there is one
commit_follows : Follows (Part.Commit ∷ []) commit_at
unfolding commit_at
commit_follows = follows_table Part.Commit (λ left. Fault.Field left FieldName.CommitFlag) (within 0 1) commit_parts _ (count_table Part.Commit 1 commit_parts (λ b. refl)) flagged_follows

-- ---- the whole record

-- an event
pub event_follows : Follows event_parts (event_at Version.One)
unfolding event_at
event_follows =
    follows_then _ _ _ _ (within_follows FieldName.Agent 0 16) (λ agent.
    follows_then _ _ _ _ cause_follows (λ cause.
    follows_then _ _ _ _ sends_follow (λ sends.
    follows_end _ _ (λ commit. record { agent = agent; cause = cause; sends = sends; commit = commit }) commit_follows)))

-- ---- openings

-- an opening record
opening_follows : Follows (Part.Within 0xf0 0xf0 ∷ Part.Free 66 ∷ []) opening_at
unfolding opening_at
opening_follows =
    follows_then _ _ _ _ (within_follows FieldName.Agent 0xf0 0xf0) (λ agent.
    follows_joined 2 64 [] _ (omega arith) (omega arith)
    (follows_then _ _ _ _ tag_follows (λ line.
    follows_end _ _ (λ value. (record { 0 = line }, value)) payload_follows)))

-- bytes that begin as an opening record, fewer than its 67, are cut short
pub opening_waits : (bytes more : List ℕ) → 1 ≤ length bytes → get_or bytes 0 0 ≡ 0xf0 → IsBytes bytes → IsBytes more → length (bytes ++ more) < 67 → IsCutShort OpeningFits opening_cells (bytes ++ more)
opening_waits [] more some first each others fewer = absurd (omega arith)
opening_waits (b ∷ bytes) more some first each others fewer =
    let rest : List ℕ = bytes ++ more in
    let left : scan (Part.Within 0xf0 0xf0 ∷ Part.Free 66 ∷ []) (0xf0 ∷ (bytes ++ more)) ≡ Some (Part.Free (66 - length (bytes ++ more)) ∷ []) =
    scan_step (Part.Within 0xf0 0xf0) (Part.Free 66 ∷ []) 0xf0 (bytes ++ more) [] refl ∙ scan_free 66 [] (bytes ++ more) (omega (arith, fewer)) in
    let left_of : scan (Part.Within 0xf0 0xf0 ∷ Part.Free 66 ∷ []) ((b ∷ bytes) ++ more) ≡ Some (Part.Free (66 - length (bytes ++ more)) ∷ []) =
    ap (λ (c : ℕ). scan (Part.Within 0xf0 0xf0 ∷ Part.Free 66 ∷ []) (c ∷ (bytes ++ more))) first ∙ left in
    (refused OpeningFits opening_cells opening_at opening_meets ((b ∷ bytes) ++ more) (All-append (λ b. b < 256) (b ∷ bytes) more each others) Fault.Short
    (opening_follows.short ((b ∷ bytes) ++ more) (Part.Free (66 - length (bytes ++ more))) [] left_of)).0
