-- No row but a return sends a Credit, and a return is owed.
use Rattle.std.proofs.Common.{◌≡◌, ◌≤◌, ◌+◌, ◌⊎◌, ℕ, Bool, true, false, List, [], ◌∷◌, Some, cond, length, refl, sym, ◌∙◌, ap, subst, inl, inr, arith}
use Rattle.std.specs.Prelude.{filter, if◌then◌else◌, ◌==◌}
use Rattle.std.proofs.lemmas.Bool.{and_parts, both_ways, eqb-true, false_from_ne_true, false≢true}
use Rattle.cxl_message.specs.declared.channels.Channel.{Channel}
use Rattle.cxl_message.specs.declared.events.Act.{Act}
use Rattle.cxl_message.specs.declared.events.Cause.{Cause}
use Rattle.cxl_message.specs.declared.events.Event.{Event}
use Rattle.cxl_message.specs.declared.events.Op.{Op}
use Rattle.cxl_message.specs.declared.events.Out.{Out}
use Rattle.cxl_message.specs.declared.identifiers.Bytes64.{Bytes64}
use Rattle.cxl_message.specs.declared.identifiers.Line.{Line}
use Rattle.cxl_message.specs.declared.messages.Message.{Message}
use Rattle.cxl_message.specs.declared.opcodes.NdrOp.{NdrOp}
use Rattle.cxl_message.specs.Channels.{goes_to_device}
use Rattle.cxl_message.specs.Events.{outs}
use Rattle.cxl_message.specs.Messages.{message_eq}
use Rattle.cxl_message.specs.Setup.{Configuration}
use Rattle.coherence_model.specs.Buffers.{buffered_writes, device_buffered, device_owed, message_with}
use Rattle.coherence_model.specs.Cache.{is_modified}
use Rattle.coherence_model.specs.Credits.{has_room, is_credit_for, returned_count, taken_count}
use Rattle.coherence_model.specs.DeviceActs.{buffered_request, device_acts, device_returns, finish_emission, served_by, v9_return}
use Rattle.coherence_model.specs.DeviceRows.{device_emission}
use Rattle.coherence_model.specs.DeviceTakes.{device_takes}
use Rattle.coherence_model.specs.DirectoryChanges.{directory}
use Rattle.coherence_model.specs.Emission.{Emission, nothing, one_send, two_sends}
use Rattle.coherence_model.specs.Fitting.{is_device}
use Rattle.coherence_model.specs.HostActs.{h10_return, host_acts, host_returns}
use Rattle.coherence_model.specs.HostOperations.{eviction_message, host_operates, request_message}
use Rattle.coherence_model.specs.HostRows.{host_emission}
use Rattle.coherence_model.specs.HostTakes.{host_takes}
use Rattle.coherence_model.specs.Rows.{row_emission}
use Rattle.coherence_model.specs.Snoops.{host_buffered, host_owed, snoop_at}
use Rattle.coherence_model.specs.Tasks.{Purpose}
use Rattle.coherence_model.specs.Transactions.{open_at}
use Rattle.coherence_lemmas.proofs.DeviceActs.{v3_serve-inv, v4_clean-inv, v5_start-inv, v6_evict-inv, v7_snoop-inv, v8_finish-inv, v9_return-inv}
use Rattle.coherence_lemmas.proofs.HostActs.{h10_return-inv, h7_conflict-inv, h8_write_back-inv, h9_answer-inv, h9_answer_block-inv}
use Rattle.coherence_lemmas.proofs.HostOperations.{host_operates-inv}
use Rattle.cxl_message.proofs.SameMessages.{message_eq-same}
use Rattle.coherence_lemmas.proofs.Options.{if_some}
use Rattle.coherence_lemmas.proofs.TakesSendNothing.{device_takes_silent, host_takes_silent}
use Rattle.credit_laws.specs.Laws.{buffered_count}
use Rattle.credit_laws.proofs.CreditMessages.{credits_of}

-- whether a message is a Credit
abbrev is_credit : Message → Bool
is_credit (Message.Req _ _ _ _ _) = false
is_credit (Message.MemWr _ _ _ _ _) = false
is_credit (Message.BiConflict _) = false
is_credit (Message.BiRsp _ _ _) = false
is_credit (Message.Ndr _ _) = false
is_credit (Message.MemData _ _) = false
is_credit (Message.BiSnp _ _ _ _) = false
is_credit (Message.Credit _) = true

-- what is no Credit isn't the Credit for a channel
not_credit : (h : ℕ) (c : Channel) (o : Out) → is_credit o.message ≡ false → is_credit_for h c o ≡ false
not_credit h c o other = false_from_ne_true (is_credit_for h c o) (λ credit.
    both_ways (is_credit o.message) other (ap is_credit (message_eq-same o.message (Message.Credit c) (and_parts _ _ credit).1)))

-- no Credit for channel c of host h is sent
abbrev IsCreditless : ℕ → Channel → Emission → Type 0
IsCreditless h c w = credits_of h c (outs w.sends) ≡ 0

none_sent : (h : ℕ) (c : Channel) (w x : Emission) → w ≡ x → IsCreditless h c x → IsCreditless h c w
none_sent h c w x same none = ap (λ (y : Emission). credits_of h c (outs y.sends)) same ∙ none

none_counted : (h : ℕ) (c : Channel) (o : Out) (os : List Out) → is_credit o.message ≡ false → credits_of h c os ≡ 0 → credits_of h c (o ∷ os) ≡ 0
none_counted h c o os other none = ap (λ b. length (cond b (o ∷ filter (is_credit_for h c) os) (filter (is_credit_for h c) os))) (not_credit h c o other) ∙ none

-- a message that is no Credit, alone
one_other : (h : ℕ) (c : Channel) (w : Emission) (k : ℕ) (m : Message) → w ≡ one_send k m → is_credit m ≡ false → IsCreditless h c w
one_other h c w k m same other = none_sent h c w (one_send k m) same (none_counted h c (record { host = k; message = m }) [] other refl)

-- two such messages
two_others : (h : ℕ) (c : Channel) (w : Emission) (k : ℕ) (m n : Message) → w ≡ two_sends k m n → is_credit m ≡ false → is_credit n ≡ false → IsCreditless h c w
two_others h c w k m n same first second =
    let p : Out = record { host = k; message = n } in
    none_sent h c w (two_sends k m n) same (none_counted h c (record { host = k; message = m }) (p ∷ []) first (none_counted h c p [] second refl))

request_other : (op : Op) (tag : ℕ) → is_credit (request_message op tag) ≡ false
request_other (Op.Load _) tag = refl
request_other (Op.Word _ _ _) tag = refl
request_other (Op.Whole _ _) tag = refl

either_other : (test : Bool) (m n : Message) → is_credit m ≡ false → is_credit n ≡ false → is_credit (if test then m else n) ≡ false
either_other true m n hm hn = hm
either_other false m n hm hn = hn

eviction_other : (setup : Configuration) (v : ℕ) (mine : List Event) (tag : ℕ) → is_credit (eviction_message setup v mine tag) ≡ false
eviction_other setup v mine tag = either_other (is_modified setup v mine) _ _ refl refl

-- an operation sends no Credit
operates_none : (setup : Configuration) (g h s i : ℕ) (c : Channel) (op : Op) (mine : List Event) (w : Emission) → host_operates setup g s i op mine ≡ Some w → IsCreditless h c w
operates_none setup g h s i c op mine w e = elim (host_operates-inv setup g s i op mine w e) [
  | inl hit ↦ none_sent h c w _ hit.emits refl
  | inr missed ↦ elim missed.how [
    | inl without ↦ one_other h c w g _ without.alone.emits (request_other op without.alone.tag)
    | inr with_one ↦ elim with_one [
      | inl shared ↦ one_other h c w g _ shared.alone.emits (request_other op shared.alone.tag)
      | inr writable ↦
          let two = writable.evicting in
          two_others h c w g _ _ two.emits (eviction_other setup writable.v mine two.eviction_tag) (request_other op two.tag)
    ]
  ]
]

-- the messages returned, with this event's, and those buffered are at most those taken
abbrev pub IsOwed : ℕ → Channel → List Event → Emission → Type 0
IsOwed h c mine w = returned_count h c mine + credits_of h c (outs w.sends) + buffered_count h c mine ≤ taken_count h c mine

-- an emission sends no Credit for a channel, or owes it
abbrev pub Returns : ℕ → Channel → List Event → Emission → Type 0
Returns h c mine w = IsCreditless h c w ⊎ IsOwed h c mine w

-- a host gives credits back for what goes to it, the device for what goes there
host_way : (c : Channel) → host_returns c ≡ true → goes_to_device c ≡ false
host_way Channel.Req e = absurd (false≢true e)
host_way Channel.Rwd e = absurd (false≢true e)
host_way Channel.BiRsp e = absurd (false≢true e)
host_way Channel.Ndr e = refl
host_way Channel.Drs e = refl
host_way Channel.BiSnp e = refl
host_way Channel.CreditUp e = absurd (false≢true e)
host_way Channel.CreditDown e = absurd (false≢true e)

device_way : (c : Channel) → device_returns c ≡ true → goes_to_device c ≡ true
device_way Channel.Req e = refl
device_way Channel.Rwd e = refl
device_way Channel.BiRsp e = refl
device_way Channel.Ndr e = absurd (false≢true e)
device_way Channel.Drs e = absurd (false≢true e)
device_way Channel.BiSnp e = absurd (false≢true e)
device_way Channel.CreditUp e = absurd (false≢true e)
device_way Channel.CreditDown e = absurd (false≢true e)

-- a Credit that is returned, by whether it is the one for the channel
returned_by :
    (h : ℕ) (c : Channel) (mine : List Event) (o : Out) (credit : Bool) → (credit ≡ true → returned_count h c mine + 1 + buffered_count h c mine ≤ taken_count h c mine)
    → (length (cond credit (o ∷ []) []) ≡ 0) ⊎ (returned_count h c mine + length (cond credit (o ∷ []) []) + buffered_count h c mine ≤ taken_count h c mine)
returned_by h c mine o true owed = inr (owed refl)
returned_by h c mine o false owed = inl refl

-- a returned Credit for the channel is that channel's, and its host's
pub record ReturnOf (h : ℕ) (c : Channel) (k : ℕ) (d : Channel) : Type 0 where
  pub host : k ≡ h
  pub channel : d ≡ c

return_of : (h : ℕ) (c : Channel) (k : ℕ) (d : Channel) → is_credit_for h c (record { host = k; message = Message.Credit d }) ≡ true → ReturnOf h c k d
return_of h c k d credit =
    let parts = and_parts (k == h) (message_eq (Message.Credit d) (Message.Credit c)) credit in
    let same = message_eq-same (Message.Credit d) (Message.Credit c) parts.1 in
    record { host = eqb-true k h parts.0; channel = cc }

-- what a host owes for a channel it took, and neither holds buffered nor gave back
host_owes : (h : ℕ) (c : Channel) (mine : List Event) → host_returns c ≡ true → 1 ≤ host_owed h c mine → returned_count h c mine + 1 + buffered_count h c mine ≤ taken_count h c mine
host_owes h c mine returns owed =
    let way = ap (λ up. if up then device_buffered h c mine else host_buffered c mine) (host_way c returns) in
    omega (arith, way, owed)

device_owes : (h : ℕ) (c : Channel) (mine : List Event) → device_returns c ≡ true → 1 ≤ device_owed h c mine → returned_count h c mine + 1 + buffered_count h c mine ≤ taken_count h c mine
device_owes h c mine returns owed =
    let way = ap (λ up. if up then device_buffered h c mine else host_buffered c mine) (device_way c returns) in
    omega (arith, way, owed)

host_return : (g h : ℕ) (c d : Channel) (mine : List Event) (w : Emission) → h10_return g d mine ≡ Some w → Returns h c mine w
host_return g h c d mine w e =
    let inv = h10_return-inv g d mine w e in
    let o : Out = record { host = g; message = Message.Credit d } in
    subst (Returns h c mine) (sym inv.emits) (returned_by h c mine o (is_credit_for h c o) (λ credit.
    let of = return_of h c g d credit in
    host_owes h c mine (subst (λ x. host_returns x ≡ true) of.channel inv.returns)
    (subst (λ x. 1 ≤ host_owed x c mine) of.host (subst (λ x. 1 ≤ host_owed g x mine) of.channel inv.owed))))

device_return : (k h : ℕ) (c d : Channel) (mine : List Event) (w : Emission) → v9_return k d mine ≡ Some w → Returns h c mine w
device_return k h c d mine w e =
    let inv = v9_return-inv k d mine w e in
    let o : Out = record { host = k; message = Message.Credit d } in
    subst (Returns h c mine) (sym inv.emits) (returned_by h c mine o (is_credit_for h c o) (λ credit.
    let of = return_of h c k d credit in
    device_owes h c mine (subst (λ x. device_returns x ≡ true) of.channel inv.returns)
    (subst (λ x. 1 ≤ device_owed x c mine) of.host (subst (λ x. 1 ≤ device_owed k x mine) of.channel inv.owed))))

-- an act of a host
host_acts_return : (setup : Configuration) (g h : ℕ) (c : Channel) (act : Act) (mine : List Event) (w : Emission) → host_acts setup g act mine ≡ Some w → Returns h c mine w
host_acts_return setup g h c (Act.Conflict line) mine w e = let inv = h7_conflict-inv setup g line.0 mine (open_at line.0 mine) w e in inl (one_other h c w g _ inv.emits refl)
host_acts_return setup g h c (Act.WriteBack line) mine w e = let inv = h8_write_back-inv setup g line.0 mine (snoop_at line.0 mine) w e in inl (one_other h c w g _ inv.emits refl)
host_acts_return setup g h c (Act.Answer line) mine w e = let inv = h9_answer-inv setup g line.0 mine (snoop_at line.0 mine) w e in inl (one_other h c w g _ inv.emits refl)
host_acts_return setup g h c (Act.AnswerBlock line) mine w e = inl (one_other h c w g _ (h9_answer_block-inv setup g line.0 mine w e).emits refl)
host_acts_return setup g h c (Act.HostReturn d) mine w e = host_return g h c d mine w e
host_acts_return setup g h c (Act.Serve _ _) mine w e = cc
host_acts_return setup g h c (Act.Clean _ _) mine w e = cc
host_acts_return setup g h c (Act.Start _ _) mine w e = cc
host_acts_return setup g h c (Act.Evict _ _) mine w e = cc
host_acts_return setup g h c (Act.Snoop _ _) mine w e = cc
host_acts_return setup g h c (Act.Finish _) mine w e = cc
host_acts_return setup g h c (Act.DeviceReturn _ _) mine w e = cc

-- the answer to a write or a conflict is no Credit
served_other : (m answer : Message) → served_by m ≡ Some answer → is_credit answer ≡ false
served_other (Message.Req _ _ _ _ _) answer e = cc
served_other (Message.MemWr _ _ tag _ _) answer e = let same : Message.Ndr NdrOp.Cmp tag ≡ answer = cc in ap is_credit (sym same)
served_other (Message.BiConflict tag) answer e = let same : Message.Ndr NdrOp.ConflictAck tag ≡ answer = cc in ap is_credit (sym same)
served_other (Message.BiRsp _ _ _) answer e = cc
served_other (Message.Ndr _ _) answer e = cc
served_other (Message.MemData _ _) answer e = cc
served_other (Message.BiSnp _ _ _ _) answer e = cc
served_other (Message.Credit _) answer e = cc

-- nor is a grant with its data
finish_none : (h : ℕ) (c : Channel) (purpose : Purpose) (grant : NdrOp) (k tag : ℕ) (bytes : Bytes64) → IsCreditless h c (finish_emission purpose grant k tag bytes)
finish_none h c Purpose.SharedRead grant k tag bytes = two_others h c _ k (Message.Ndr grant (record { 0 = tag })) (Message.MemData (record { 0 = tag }) bytes) refl refl refl
finish_none h c Purpose.OwningRead grant k tag bytes = two_others h c _ k (Message.Ndr NdrOp.CmpE (record { 0 = tag })) (Message.MemData (record { 0 = tag }) bytes) refl refl refl
finish_none h c Purpose.Invalidation grant k tag bytes = one_other h c _ k (Message.Ndr NdrOp.CmpE (record { 0 = tag })) refl refl
finish_none h c Purpose.Eviction grant k tag bytes = refl

-- an act of the device
device_acts_return : (setup : Configuration) (opening : List (Line × Bytes64)) (h : ℕ) (c : Channel) (act : Act) (mine : List Event) (w : Emission) → device_acts setup opening act mine ≡ Some w → Returns h c mine w
device_acts_return setup opening h c (Act.Conflict _) mine w e = cc
device_acts_return setup opening h c (Act.WriteBack _) mine w e = cc
device_acts_return setup opening h c (Act.Answer _) mine w e = cc
device_acts_return setup opening h c (Act.AnswerBlock _) mine w e = cc
device_acts_return setup opening h c (Act.HostReturn _) mine w e = cc
device_acts_return setup opening h c (Act.Serve k tag) mine w e =
    let inv = v3_serve-inv k (message_with tag.0 (buffered_writes k mine)) w e in inl (one_other h c w k inv.answer inv.emits (served_other inv.m inv.answer inv.answers))
device_acts_return setup opening h c (Act.Clean k tag) mine w e = let inv = v4_clean-inv k (buffered_request k tag mine) (directory setup mine) w e in inl (one_other h c w k _ inv.emits refl)
device_acts_return setup opening h c (Act.Start k tag) mine w e = let inv = v5_start-inv setup k (buffered_request k tag mine) (directory setup mine) mine w e in inl (none_sent h c w nothing inv.emits refl)
device_acts_return setup opening h c (Act.Evict k tag) mine w e = let inv = v6_evict-inv setup k (buffered_request k tag mine) (directory setup mine) mine w e in inl (none_sent h c w nothing inv.emits refl)
device_acts_return setup opening h c (Act.Snoop k line) mine w e =
    let D = directory setup mine in
    let inv = v7_snoop-inv k line.0 (D.task line.0) D mine w e in inl (one_other h c w k _ inv.emits refl)
device_acts_return setup opening h c (Act.Finish line) mine w e =
    let D = directory setup mine in
    let inv = v8_finish-inv setup opening line.0 (D.task line.0) D mine w e in
    inl (none_sent h c w _ inv.emits (finish_none h c inv.t.purpose _ inv.t.host inv.t.tag _))
device_acts_return setup opening h c (Act.DeviceReturn k d) mine w e = device_return k h c d mine w e

-- a host's row
host_returns_owed : (setup : Configuration) (g h : ℕ) (c : Channel) (cause : Cause) (mine : List Event) (w : Emission) → host_emission setup g cause mine ≡ Some w → Returns h c mine w
host_returns_owed setup g h c (Cause.Op s i op) mine w e = inl (operates_none setup g h s i c op mine w e)
host_returns_owed setup g h c (Cause.Take k m) mine w e =
    let passed = if_some (has_room setup g m mine) (host_takes setup g m mine) w e in
    inl (ap (λ sends. credits_of h c (outs sends)) (host_takes_silent setup g m mine w passed.same))
host_returns_owed setup g h c (Cause.Act act) mine w e = host_acts_return setup g h c act mine w e

-- the device's row
device_returns_owed : (setup : Configuration) (opening : List (Line × Bytes64)) (h : ℕ) (c : Channel) (cause : Cause) (mine : List Event) (w : Emission) → device_emission setup opening cause mine ≡ Some w → Returns h c mine w
device_returns_owed setup opening h c (Cause.Op s i op) mine w e = cc
device_returns_owed setup opening h c (Cause.Take k m) mine w e =
    let passed = if_some (has_room setup k m mine) (device_takes setup k m mine) w e in
    inl (ap (λ sends. credits_of h c (outs sends)) (device_takes_silent setup k m mine w passed.same))
device_returns_owed setup opening h c (Cause.Act act) mine w e = device_acts_return setup opening h c act mine w e

rows_by : (setup : Configuration) (opening : List (Line × Bytes64)) (g h : ℕ) (c : Channel) (cause : Cause) (mine : List Event) (w : Emission) (at_device : Bool)
    → cond at_device (device_emission setup opening cause mine) (host_emission setup g cause mine) ≡ Some w → Returns h c mine w
rows_by setup opening g h c cause mine w true e = device_returns_owed setup opening h c cause mine w e
rows_by setup opening g h c cause mine w false e = host_returns_owed setup g h c cause mine w e

-- whatever a row sends, its Credits for a channel are owed
pub returns_owed : (setup : Configuration) (opening : List (Line × Bytes64)) (g h : ℕ) (c : Channel) (cause : Cause) (mine : List Event) (w : Emission) → row_emission setup opening g cause mine ≡ Some w → Returns h c mine w
returns_owed setup opening g h c cause mine w e = rows_by setup opening g h c cause mine w (is_device g) e
