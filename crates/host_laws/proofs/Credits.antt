-- Credits are kept by each list of own events that the host's own half allows.
use Rattle.std.proofs.Common.{Bool, List, None, Option, Some, [], ap, arith, cond, false, filter, length, refl, subst, sym, inl, inr, true, ℕ, ◌⊎◌, ◌++◌, ◌+◌, ◌-◌, ◌<◌, ◌∙◌, ◌∷◌, ◌≡◌, ◌≤◌}
use Rattle.std.proofs.lemmas.Bool.{false≢true, ltb-true}
use Rattle.std.proofs.lemmas.List.{length-append}
use Rattle.std.specs.Option.{option_len}
use Rattle.std.specs.Prelude.{nat_lt, not, ◌||◌}
use Rattle.cxl_message.specs.declared.channels.Channel.{Channel}
use Rattle.cxl_message.specs.declared.events.Act.{Act}
use Rattle.cxl_message.specs.declared.events.Commit.{Commit}
use Rattle.cxl_message.specs.declared.events.Event.{Event}
use Rattle.cxl_message.specs.declared.identifiers.Bytes64.{Bytes64}
use Rattle.cxl_message.specs.declared.identifiers.Line.{Line}
use Rattle.cxl_message.specs.declared.messages.Message.{Message}
use Rattle.cxl_message.specs.declared.opcodes.NdrOp.{NdrOp}
use Rattle.cxl_message.specs.declared.opcodes.RspOp.{RspOp}
use Rattle.cxl_message.specs.Channels.{has_credits}
use Rattle.cxl_message.specs.Codes.{channel_eq}
use Rattle.cxl_message.specs.Events.{line_of, outs}
use Rattle.cxl_message.specs.Messages.{channel_of, message_eq}
use Rattle.cxl_message.specs.Setup.{Configuration}
use Rattle.coherence_model.specs.Cache.{copy, is_modified}
use Rattle.coherence_model.specs.Credits.{earned_count, has_room, held_count, is_credit_for, owed_count, returned_count, sent_count, taken_count}
use Rattle.coherence_model.specs.Fitting.{is_device}
use Rattle.cxl_message.specs.Stores.{line_after}
use Rattle.coherence_model.specs.Flight.{takes_on}
use Rattle.coherence_model.specs.HostActs.{response_for, write_back_message}
use Rattle.coherence_model.specs.HostOperations.{eviction_message}
use Rattle.coherence_model.specs.Next.{event_with}
use Rattle.coherence_model.specs.Snoops.{Snoop, buffered_snoops, host_buffered, host_owed, is_whole_block, snoop_left, snoops_after_answer}
use Rattle.request_laws.proofs.HostOperations.{eviction_with}
use Rattle.coherence_model.specs.OwnRuns.{is_own_run}
use Rattle.cxl_message.specs.declared.events.Cause.{Cause}
use Rattle.cxl_message.specs.Lists.{is_in, without}
use Rattle.cxl_message.specs.Spans.{lines_of}
use Rattle.cxl_message.proofs.SameNames.{channel_eq-same}
use Rattle.cxl_message.proofs.SameMessages.{message_eq-same}
use Rattle.host_laws.proofs.CreditSteps.{act_returns, evict_returns, is_credit, no_credit, request_returns, take_takes, within_step}
use Rattle.host_laws.proofs.Events.{act_event, commit_of, evicting_event, hit_event, request_event, take_event}
use Rattle.host_laws.proofs.HostEvents.{ByAck, ByAnswer, ByBlock, ByConflict, ByCredit, ByData, ByDataFill, ByDrop, ByEviction, ByEvictionEnd, ByGrant, ByGrantFill, ByHit, ByRequest, ByReturn, BySnoop, ByWriteBack, ByWriteEnd, HostEvent, data_of, ndr}
use Rattle.host_laws.proofs.HostCases.{host_event}
use Rattle.host_laws.proofs.Keeps.{own_event, run_before}
use Rattle.host_laws.proofs.ViewsAreModel.{OwesHeld}
use Rattle.host_laws.proofs.WayFacts.{few_filter}

-- on a channel from which the host takes: what was returned and what is buffered was taken, and no more is held than there are credits
pub record Held (setup : Configuration) (h : ℕ) (c : Channel) (mine : List Event) : Type 0 where
  pub within : returned_count h c mine + host_buffered c mine ≤ taken_count h c mine
  pub few : taken_count h c mine - returned_count h c mine ≤ setup.credits

-- how an event changes these numbers
held_by : (setup : Configuration) (h : ℕ) (c : Channel) (e : Event) (mine : List Event) (dt dr : ℕ) → Held setup h c mine → option_len (takes_on h c e.cause) ≡ dt → length (filter (is_credit_for h c) (outs e.sends)) ≡ dr
    → host_buffered c (e ∷ mine) ≤ host_buffered c mine + dt
    → (dr ≡ 0) ⊎ (1 ≤ owed_count h c (host_buffered c mine) mine × (dr ≤ 1))
    → (dt ≡ 0) ⊎ ((dt ≤ 1) × (held_count h c mine < setup.credits)) → Held setup h c (e ∷ mine)
held_by setup h c e mine dt dr old taken given fewer owed room =
    let w = old.within in
    let f = old.few in
    record { within = elim owed [ inl zero ↦ omega arith | inr one ↦ omega arith ]; few = elim room [ inl zero ↦ omega arith | inr one ↦ omega arith ] }

-- what is buffered on a channel, by the number of snoops
buffers_by : (c : Channel) (e : Event) (mine : List Event) (n : ℕ) → length (buffered_snoops (e ∷ mine)) ≤ length (buffered_snoops mine) + n → host_buffered c (e ∷ mine) ≤ host_buffered c mine + cond (channel_eq Channel.BiSnp c) n 0
buffers_by Channel.Req e mine n few = omega arith
buffers_by Channel.Rwd e mine n few = omega arith
buffers_by Channel.BiRsp e mine n few = omega arith
buffers_by Channel.Ndr e mine n few = omega arith
buffers_by Channel.Drs e mine n few = omega arith
buffers_by Channel.BiSnp e mine n few = few
buffers_by Channel.CreditUp e mine n few = omega arith
buffers_by Channel.CreditDown e mine n few = omega arith

-- no more snoops are buffered than before
fewer_buffered : (c : Channel) (e : Event) (mine : List Event) (dt : ℕ) → length (buffered_snoops (e ∷ mine)) ≤ length (buffered_snoops mine) → host_buffered c (e ∷ mine) ≤ host_buffered c mine + dt
fewer_buffered Channel.Req e mine dt few = omega arith
fewer_buffered Channel.Rwd e mine dt few = omega arith
fewer_buffered Channel.BiRsp e mine dt few = omega arith
fewer_buffered Channel.Ndr e mine dt few = omega arith
fewer_buffered Channel.Drs e mine dt few = omega arith
fewer_buffered Channel.BiSnp e mine dt few = omega arith
fewer_buffered Channel.CreditUp e mine dt few = omega arith
fewer_buffered Channel.CreditDown e mine dt few = omega arith

same_length : (n : ℕ) → n ≤ n
same_length n = omega arith

-- snoops after an answer
left_few : (s : Snoop) (zs : List ℕ) (ss : List Snoop) → length (snoop_left s zs ++ ss) ≤ length (s ∷ ss)
left_few s [] ss = omega arith
left_few s (z ∷ zs) ss = omega arith

answer_few : (s : Snoop) (ss rest left : List Snoop) (here : Bool) → length left ≤ length (s ∷ ss) → length rest ≤ length ss → length (cond here left (s ∷ rest)) ≤ length (s ∷ ss)
answer_few s ss rest left true few less = few
answer_few s ss rest left false few less = omega arith

pub answered_few : (l : ℕ) (ss : List Snoop) → length (snoops_after_answer l ss) ≤ length ss
answered_few l [] = omega arith
answered_few l (s ∷ ss) = answer_few s ss (snoops_after_answer l ss) (snoop_left s (without l s.unanswered) ++ ss) (is_in l s.unanswered) (left_few s (without l s.unanswered) ss) (answered_few l ss)

-- a take with room
room_by : (setup : Configuration) (h : ℕ) (c : Channel) (m : Message) (mine : List Event) (b : Bool) → channel_eq (channel_of m) c ≡ b → has_credits (channel_of m) ≡ true → has_room setup h m mine ≡ true
    → (◌≡◌ {A = ℕ} (cond b 1 0) 0) ⊎ ((cond b 1 0 ≤ 1) × (held_count h c mine < setup.credits))
room_by setup h c m mine true on credited room =
    let low = ltb-true (held_count h (channel_of m) mine) setup.credits (ap (λ b. not b || nat_lt (held_count h (channel_of m) mine) setup.credits) (sym credited) ∙ room) in
    inr (omega arith, subst (λ d. held_count h d mine < setup.credits) (channel_eq-same (channel_of m) c on) low)
room_by setup h c m mine false on credited room = inl refl

-- a take of a message that isn't a snoop
take_held : (setup : Configuration) (h : ℕ) (c : Channel) (m : Message) (commit : Option Commit) (mine : List Event) → Held setup h c mine → has_credits (channel_of m) ≡ true → has_room setup h m mine ≡ true
    → buffered_snoops (take_event h m commit ∷ mine) ≡ buffered_snoops mine → Held setup h c (take_event h m commit ∷ mine)
take_held setup h c m commit mine old credited room same =
    held_by setup h c (take_event h m commit) mine (cond (channel_eq (channel_of m) c) 1 0) 0 old (take_takes h c m (channel_eq (channel_of m) c) refl) refl
    (fewer_buffered c (take_event h m commit) mine (cond (channel_eq (channel_of m) c) 1 0) (subst (λ ss. length ss ≤ length (buffered_snoops mine)) (sym same) (same_length (length (buffered_snoops mine)))))
    (inl refl) (room_by setup h c m mine (channel_eq (channel_of m) c) refl credited room)

snoop_held : (setup : Configuration) (h : ℕ) (c : Channel) (m : Message) (s : Snoop) (mine : List Event) → Held setup h c mine → channel_of m ≡ Channel.BiSnp → has_room setup h m mine ≡ true
    → buffered_snoops (take_event h m None ∷ mine) ≡ buffered_snoops mine ++ s ∷ [] → Held setup h c (take_event h m None ∷ mine)
snoop_held setup h c m s mine old on room same =
    let longer : length (buffered_snoops (take_event h m None ∷ mine)) ≤ length (buffered_snoops mine) + 1 = subst (λ ss. length ss ≤ length (buffered_snoops mine) + 1) (sym same) (omega (arith, length-append (buffered_snoops mine) (s ∷ []))) in
    held_by setup h c (take_event h m None) mine (cond (channel_eq Channel.BiSnp c) 1 0) 0 old (take_takes h c m (channel_eq Channel.BiSnp c) (ap (λ d. channel_eq d c) on)) refl
    (buffers_by c (take_event h m None) mine 1 longer)
    (inl refl) (room_by setup h c m mine (channel_eq Channel.BiSnp c) (ap (λ d. channel_eq d c) on) (ap has_credits on) room)

-- an act that sends no Credit
act_held : (setup : Configuration) (h : ℕ) (c : Channel) (act : Act) (m : Message) (mine : List Event) → Held setup h c mine → is_credit m ≡ false → length (buffered_snoops (act_event h act m ∷ mine)) ≤ length (buffered_snoops mine)
    → Held setup h c (act_event h act m ∷ mine)
act_held setup h c act m mine old none few =
    held_by setup h c (act_event h act m) mine 0 0 old refl (act_returns h c act m false (no_credit m c none)) (fewer_buffered c (act_event h act m) mine 0 few) (inl refl) (inl refl)

return_by : (h : ℕ) (c d : Channel) (mine : List Event) (b : Bool) → message_eq (Message.Credit d) (Message.Credit c) ≡ b → 1 ≤ host_owed h d mine → (◌≡◌ {A = ℕ} (cond b 1 0) 0) ⊎ (1 ≤ owed_count h c (host_buffered c mine) mine × (cond b 1 0 ≤ 1))
return_by h c d mine true same owed = inr (subst (λ x. 1 ≤ host_owed h x mine) (credit_channel_of (Message.Credit d) (Message.Credit c) (message_eq-same (Message.Credit d) (Message.Credit c) same)) owed, omega arith)
  where
    credited : Message → Channel
    credited (Message.Req _ _ _ _ _) = Channel.Req
    credited (Message.MemWr _ _ _ _ _) = Channel.Req
    credited (Message.BiConflict _) = Channel.Req
    credited (Message.BiRsp _ _ _) = Channel.Req
    credited (Message.Ndr _ _) = Channel.Req
    credited (Message.MemData _ _) = Channel.Req
    credited (Message.BiSnp _ _ _ _) = Channel.Req
    credited (Message.Credit x) = x

    credit_channel_of : (m n : Message) → m ≡ n → credited m ≡ credited n
    credit_channel_of m n is = ap credited is
return_by h c d mine false same owed = inl refl

return_held : (setup : Configuration) (h : ℕ) (c d : Channel) (mine : List Event) → Held setup h c mine → 1 ≤ host_owed h d mine → Held setup h c (act_event h (Act.HostReturn d) (Message.Credit d) ∷ mine)
return_held setup h c d mine old owed =
    held_by setup h c (act_event h (Act.HostReturn d) (Message.Credit d)) mine 0 (cond (message_eq (Message.Credit d) (Message.Credit c)) 1 0) old refl (act_returns h c (Act.HostReturn d) (Message.Credit d) (message_eq (Message.Credit d) (Message.Credit c)) refl)
    (fewer_buffered c (act_event h (Act.HostReturn d) (Message.Credit d)) mine 0 (same_length (length (buffered_snoops mine)))) (return_by h c d mine (message_eq (Message.Credit d) (Message.Credit c)) refl owed) (inl refl)

evict_is_no_credit : (m : Bool) (bytes : Bytes64) (v t : ℕ) → is_credit (eviction_with m bytes v t) ≡ false
evict_is_no_credit true bytes v t = refl
evict_is_no_credit false bytes v t = refl

pub eviction_is_no_credit : (setup : Configuration) (v t : ℕ) (mine : List Event) → is_credit (eviction_message setup v mine t) ≡ false
eviction_is_no_credit setup v t mine = evict_is_no_credit (is_modified setup v mine) (copy setup v mine).bytes v t

operation_held : (setup : Configuration) (h : ℕ) (c : Channel) (e : Event) (mine : List Event) → Held setup h c mine → option_len (takes_on h c e.cause) ≡ 0 → length (filter (is_credit_for h c) (outs e.sends)) ≡ 0
    → buffered_snoops (e ∷ mine) ≡ buffered_snoops mine → Held setup h c (e ∷ mine)
operation_held setup h c e mine old taken given same =
    held_by setup h c e mine 0 0 old taken given (fewer_buffered c e mine 0 (subst (λ ss. length ss ≤ length (buffered_snoops mine)) (sym same) (same_length (length (buffered_snoops mine))))) (inl refl) (inl refl)

credit_held : (setup : Configuration) (h : ℕ) (c d : Channel) (mine : List Event) → Held setup h c mine → has_credits c ≡ true → Held setup h c (take_event h (Message.Credit d) None ∷ mine)
credit_held setup h c d mine old credited =
    held_by setup h c (take_event h (Message.Credit d) None) mine 0 0 old (take_takes h c (Message.Credit d) false (off c d credited)) refl
    (fewer_buffered c (take_event h (Message.Credit d) None) mine 0 (same_length (length (buffered_snoops mine)))) (inl refl) (inl refl)
  where
    up_off : (c : Channel) → has_credits c ≡ true → channel_eq Channel.CreditUp c ≡ false
    up_off Channel.Req h = refl
    up_off Channel.Rwd h = refl
    up_off Channel.BiRsp h = refl
    up_off Channel.Ndr h = refl
    up_off Channel.Drs h = refl
    up_off Channel.BiSnp h = refl
    up_off Channel.CreditUp h = absurd (false≢true h)
    up_off Channel.CreditDown h = absurd (false≢true h)

    down_off : (c : Channel) → has_credits c ≡ true → channel_eq Channel.CreditDown c ≡ false
    down_off Channel.Req h = refl
    down_off Channel.Rwd h = refl
    down_off Channel.BiRsp h = refl
    down_off Channel.Ndr h = refl
    down_off Channel.Drs h = refl
    down_off Channel.BiSnp h = refl
    down_off Channel.CreditUp h = absurd (false≢true h)
    down_off Channel.CreditDown h = absurd (false≢true h)

    off : (c d : Channel) → has_credits c ≡ true → channel_eq (channel_of (Message.Credit d)) c ≡ false
    off c Channel.Req h = down_off c h
    off c Channel.Rwd h = down_off c h
    off c Channel.BiRsp h = down_off c h
    off c Channel.Ndr h = up_off c h
    off c Channel.Drs h = up_off c h
    off c Channel.BiSnp h = up_off c h
    off c Channel.CreditUp h = up_off c h
    off c Channel.CreditDown h = up_off c h

held_step : (setup : Configuration) (h : ℕ) (c : Channel) (mine : List Event) (e : Event) → has_credits c ≡ true → Held setup h c mine → HostEvent setup h mine e → Held setup h c (e ∷ mine)
held_step setup h c mine e credited old (ByHit r) =
    subst (λ x. Held setup h c (x ∷ mine)) (sym r.is) (operation_held setup h c (hit_event h r.s r.i r.op (line_after r.op (copy setup (line_of r.op) mine).bytes)) mine old refl refl refl)
held_step setup h c mine e credited old (ByRequest r) =
    subst (λ x. Held setup h c (x ∷ mine)) (sym r.is) (operation_held setup h c (request_event h r.s r.i r.op r.tag) mine old refl (request_returns h r.s r.i r.op r.tag c) refl)
held_step setup h c mine e credited old (ByDrop r) =
    subst (λ x. Held setup h c (x ∷ mine)) (sym r.is) (operation_held setup h c (request_event h r.s r.i r.op r.tag) mine old refl (request_returns h r.s r.i r.op r.tag c) refl)
held_step setup h c mine e credited old (ByEviction r) =
    subst (λ x. Held setup h c (x ∷ mine)) (sym r.is)
    (operation_held setup h c (evicting_event h r.s r.i r.op (eviction_message setup r.v mine r.t) r.u) mine old refl (evict_returns h r.s r.i r.op (eviction_message setup r.v mine r.t) r.u c (eviction_is_no_credit setup r.v r.t mine)) refl)
held_step setup h c mine e credited old (ByWriteEnd r) = subst (λ x. Held setup h c (x ∷ mine)) (sym r.is) (take_held setup h c (ndr NdrOp.Cmp setup.tags) None mine old refl r.room refl)
held_step setup h c mine e credited old (ByEvictionEnd r) = subst (λ x. Held setup h c (x ∷ mine)) (sym r.is) (take_held setup h c (ndr NdrOp.Cmp r.tag) None mine old refl r.room refl)
held_step setup h c mine e credited old (ByGrant r) = subst (λ x. Held setup h c (x ∷ mine)) (sym r.is) (take_held setup h c (ndr r.c r.tag) None mine old refl r.room refl)
held_step setup h c mine e credited old (ByGrantFill r) =
    subst (λ x. Held setup h c (x ∷ mine)) (sym r.is) (take_held setup h c (ndr r.c r.tag) (Some (commit_of r.o.stream r.o.index r.o.op (line_after r.o.op r.bytes))) mine old refl r.room refl)
held_step setup h c mine e credited old (ByData r) = subst (λ x. Held setup h c (x ∷ mine)) (sym r.is) (take_held setup h c (data_of r.tag r.bytes) None mine old refl r.room refl)
held_step setup h c mine e credited old (ByDataFill r) =
    subst (λ x. Held setup h c (x ∷ mine)) (sym r.is) (take_held setup h c (data_of r.tag r.bytes) (Some (commit_of r.o.stream r.o.index r.o.op (line_after r.o.op r.bytes))) mine old refl r.room refl)
held_step setup h c mine e credited old (BySnoop r) =
    subst (λ x. Held setup h c (x ∷ mine)) (sym r.is)
    (snoop_held setup h c (Message.BiSnp r.op r.bitag r.line r.span) (record { op = r.op; first = r.line.0; span = r.span; unanswered = lines_of r.line.0 r.span }) mine old refl r.room refl)
held_step setup h c mine e credited old (ByAck r) = subst (λ x. Held setup h c (x ∷ mine)) (sym r.is) (take_held setup h c (ndr NdrOp.ConflictAck r.tag) None mine old refl r.room refl)
held_step setup h c mine e credited old (ByCredit r) = subst (λ x. Held setup h c (x ∷ mine)) (sym r.is) (credit_held setup h c r.c mine old credited)
held_step setup h c mine e credited old (ByConflict r) =
    subst (λ x. Held setup h c (x ∷ mine)) (sym r.is) (act_held setup h c (Act.Conflict (record { 0 = r.a })) (Message.BiConflict (record { 0 = r.row.o.tag })) mine old refl (same_length (length (buffered_snoops mine))))
held_step setup h c mine e credited old (ByWriteBack r) =
    subst (λ x. Held setup h c (x ∷ mine)) (sym r.is) (act_held setup h c (Act.WriteBack (record { 0 = r.a })) (write_back_message setup r.row.s.op r.a mine) mine old refl (same_length (length (buffered_snoops mine))))
held_step setup h c mine e credited old (ByAnswer r) =
    subst (λ x. Held setup h c (x ∷ mine)) (sym (r.is ∙ ap (event_with h (Cause.Act (Act.Answer (record { 0 = r.a })))) r.row.emits))
    (act_held setup h c (Act.Answer (record { 0 = r.a })) (Message.BiRsp (response_for setup r.row.s.op r.a mine) (record { 0 = r.row.s.first }) (r.a - r.row.s.first)) mine old refl (answered_few r.a (buffered_snoops mine)))
held_step setup h c mine e credited old (ByBlock r) =
    subst (λ x. Held setup h c (x ∷ mine)) (sym r.is)
    (act_held setup h c (Act.AnswerBlock (record { 0 = r.a })) (Message.BiRsp RspOp.IBlk (record { 0 = r.a }) 0) mine old refl (few_filter (λ s. not (is_whole_block r.a s)) (buffered_snoops mine)))
held_step setup h c mine e credited old (ByReturn r) = subst (λ x. Held setup h c (x ∷ mine)) (sym r.is) (return_held setup h c r.c mine old r.row.owed)

held_at_start : (setup : Configuration) (h : ℕ) (c : Channel) → Held setup h c []
held_at_start setup h Channel.Req = record { within = omega arith; few = omega arith }
held_at_start setup h Channel.Rwd = record { within = omega arith; few = omega arith }
held_at_start setup h Channel.BiRsp = record { within = omega arith; few = omega arith }
held_at_start setup h Channel.Ndr = record { within = omega arith; few = omega arith }
held_at_start setup h Channel.Drs = record { within = omega arith; few = omega arith }
held_at_start setup h Channel.BiSnp = record { within = omega arith; few = omega arith }
held_at_start setup h Channel.CreditUp = record { within = omega arith; few = omega arith }
held_at_start setup h Channel.CreditDown = record { within = omega arith; few = omega arith }

pub held : (setup : Configuration) (opening : List (Line × Bytes64)) (h : ℕ) → is_device h ≡ false → (c : Channel) → has_credits c ≡ true → (mine : List Event) → is_own_run setup opening h mine ≡ true → Held setup h c mine
held setup opening h host c credited [] run = held_at_start setup h c
held setup opening h host c credited (e ∷ past) run =
    held_step setup h c past e credited (held setup opening h host c credited past (run_before setup opening h e past run)) (host_event setup h past e host (own_event setup opening h host e past run))

pub sent_within : (setup : Configuration) (opening : List (Line × Bytes64)) (h : ℕ) → is_device h ≡ false → (c : Channel) → has_credits c ≡ true → (mine : List Event) → is_own_run setup opening h mine ≡ true → sent_count h c mine ≤ setup.credits + earned_count h c mine
sent_within setup opening h host c credited [] run = omega arith
sent_within setup opening h host c credited (e ∷ past) run =
    within_step setup h c e past credited (own_event setup opening h host e past run) (sent_within setup opening h host c credited past (run_before setup opening h e past run))

-- all credits of a host
pub record Purses (setup : Configuration) (h : ℕ) (mine : List Event) : Type 0 where
  pub held : (c : Channel) → has_credits c ≡ true → Held setup h c mine
  pub sent : (c : Channel) → has_credits c ≡ true → sent_count h c mine ≤ setup.credits + earned_count h c mine

pub purses : (setup : Configuration) (opening : List (Line × Bytes64)) (h : ℕ) → is_device h ≡ false → (mine : List Event) → is_own_run setup opening h mine ≡ true → Purses setup h mine
purses setup opening h host mine run = record { held = λ c credited. held setup opening h host c credited mine run; sent = λ c credited. sent_within setup opening h host c credited mine run }

owed_is_held : (t r : ℕ) → (t - 0) - r ≡ t - r
owed_is_held t r = omega arith

pub owes_held : (setup : Configuration) (h : ℕ) (mine : List Event) → Purses setup h mine → OwesHeld h mine
owes_held setup h mine k =
    let w = (k.held Channel.BiSnp refl).within in
    record {
      ndr = owed_is_held (taken_count h Channel.Ndr mine) (returned_count h Channel.Ndr mine);
      drs = owed_is_held (taken_count h Channel.Drs mine) (returned_count h Channel.Drs mine);
      bi_snp = together (taken_count h Channel.BiSnp mine) (returned_count h Channel.BiSnp mine) (length (buffered_snoops mine)) w;
    }
  where
    together : (t r b : ℕ) → r + b ≤ t → ((t - b) - r) + b ≡ t - r
    together t r b h = omega arith
