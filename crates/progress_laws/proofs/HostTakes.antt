-- What may be taken from NDR and DRS at a host, and the Credits at both ends.
use Rattle.std.proofs.Common.{◌≡◌, ℕ, ◌≤◌, true, false, IsTrue, List, Option, Some, None, refl, sym, ◌∙◌, ap, subst, arith}
use Rattle.std.specs.Prelude.{is_none, is_some, ◌&&◌}
use Rattle.std.specs.List.{list_any}
use Rattle.std.proofs.lemmas.Bool.{and_parts, eq-eqb}
use Rattle.cxl_message.specs.declared.channels.Channel.{Channel}
use Rattle.cxl_message.specs.declared.events.Event.{Event}
use Rattle.cxl_message.specs.declared.identifiers.Bytes64.{Bytes64}
use Rattle.cxl_message.specs.declared.identifiers.Line.{Line}
use Rattle.cxl_message.specs.declared.messages.Message.{Message}
use Rattle.cxl_message.specs.declared.opcodes.NdrOp.{NdrOp}
use Rattle.cxl_message.specs.Channels.{credit_channel, has_credits}
use Rattle.cxl_message.specs.Messages.{message_eq}
use Rattle.cxl_message.specs.Setup.{Configuration, IsWithinLimits}
use Rattle.coherence_model.specs.Credits.{lacks_credit}
use Rattle.coherence_model.specs.DeviceTakes.{device_takes}
use Rattle.coherence_model.specs.Emission.{nothing}
use Rattle.coherence_model.specs.Fitting.{is_device, is_host}
use Rattle.coherence_model.specs.Flight.{in_flight}
use Rattle.coherence_model.specs.HostTakes.{grant_emission, h3_grant, host_takes, host_takes_ndr, may_grant}
use Rattle.coherence_model.specs.Next.{receiver}
use Rattle.coherence_model.specs.RequestFacts.{grants, is_ndr_with}
use Rattle.coherence_model.specs.Runs.{IsRun}
use Rattle.coherence_model.specs.Tags.{open_with, tagged_line}
use Rattle.coherence_model.specs.Traces.{device, events_of}
use Rattle.coherence_model.specs.Transactions.{Kind, Transaction, open_at}
use Rattle.coherence_model.specs.Words.{when}
use Rattle.request_laws.proofs.AllPlaces.{placed}
use Rattle.request_laws.proofs.Balances.{Balanced, BalancedAs, here}
use Rattle.request_laws.proofs.Counts.{any_counts}
use Rattle.request_laws.proofs.HostPlaces.{tagged}
use Rattle.request_laws.proofs.OwnRuns.{host_is_no_device}
use Rattle.request_laws.proofs.Takeable.{acks_may_be_taken, completions_may_be_taken, data_may_be_taken, owning_grants_may_be_taken}
use Rattle.progress_laws.proofs.Messages.{IsOf, each_there, flying_of, passes}
use Rattle.progress_laws.proofs.Room.{credit_is_missing, credits_go_back, has_room_for, no_credit_on}
use Rattle.progress_laws.proofs.SharedGrants.{shared_grant_with, shared_grants_meet}
use Rattle.progress_laws.proofs.Takes.{device_emits, host_emits}
use Rattle.progress_laws.specs.Laws.{MayBeTaken}

-- ---- Cmp-S

-- with a grant in flight a request is open that had none
pub record Ungranted (o : Option Transaction) : Type 0 where
  pub x : Transaction
  pub there : o ≡ Some x
  pub first : x.grant ≡ None

none_of : (g : Option NdrOp) → here g ≡ 0 → g ≡ None
none_of None e = refl
none_of (Some c) e = absurd (omega arith)

ungranted : (l : Kind) (b g y r w nc ng d k : ℕ) → BalancedAs l b g y r w nc ng d k → 1 ≤ ng → g ≡ 0
ungranted Kind.ReadShared b g y r w nc ng d k e more = omega arith
ungranted Kind.ReadAny b g y r w nc ng d k e more = omega arith
ungranted Kind.Invalidate b g y r w nc ng d k e more = omega arith
ungranted Kind.CleanEviction b g y r w nc ng d k e more = absurd (omega arith)
ungranted Kind.DirtyEviction b g y r w nc ng d k e more = absurd (omega arith)

waits_for : (o : Option Transaction) (b r w nc ng d k : ℕ) → Balanced o b r w nc ng d k → 1 ≤ ng → Ungranted o
waits_for None b r w nc ng d k e more = absurd (omega arith)
waits_for (Some o) b r w nc ng d k e more = record { x = o; there = refl; first = none_of o.grant (ungranted o.kind b (here o.grant) (here o.bytes) r w nc ng d k e more) }

shared_row : (o : Transaction) → o.kind ≡ Kind.ReadShared → o.grant ≡ None → is_some (h3_grant NdrOp.CmpS (Some o)) ≡ true
shared_row o kind first =
    ap (λ k. is_some (when (may_grant NdrOp.CmpS k && is_none o.grant) (grant_emission o o.bytes))) kind ∙ ap (λ g. is_some (when (is_none g) (grant_emission o o.bytes))) first

module _ (setup : Configuration) (opening : List (Line × Bytes64)) (limits : IsWithinLimits setup) (h : ℕ) (host : IsTrue (is_host setup h)) (t : List Event) (run : IsRun setup opening t) where
  no_device : is_device h ≡ false
  no_device = host_is_no_device setup limits h host

  shared_taken : (tag : ℕ) → list_any (message_eq (shared_grant_with tag)) (in_flight h Channel.Ndr t) ≡ true → is_some (h3_grant NdrOp.CmpS (open_with tag (events_of h t))) ≡ true
  shared_taken tag there =
      let some = any_counts (is_ndr_with grants tag) (in_flight h Channel.Ndr t) (passes (is_ndr_with grants tag) (shared_grant_with tag) (in_flight h Channel.Ndr t) (eq-eqb tag tag refl) there) in
      let one = waits_for (open_with tag (events_of h t)) _ _ _ _ _ _ _ (placed setup opening h tag no_device t run).balanced some in
      let at_line = tagged (λ a. open_at a (events_of h t)) (λ b. tagged_line b (events_of h t)) tag one.x one.there in
      let kind = shared_grants_meet setup opening limits h host t run at_line.l one.x at_line.there (subst (λ u. list_any (message_eq (shared_grant_with u)) (in_flight h Channel.Ndr t) ≡ true) (sym at_line.tagged) there) in
      ap (λ o. is_some (h3_grant NdrOp.CmpS o)) one.there ∙ shared_row one.x kind one.first

  ndr_taken : (op : NdrOp) (tag : ℕ) → list_any (message_eq (Message.Ndr op (record { 0 = tag }))) (in_flight h Channel.Ndr t) ≡ true → is_some (host_takes_ndr setup op tag (events_of h t)) ≡ true
  ndr_taken NdrOp.Cmp tag there = completions_may_be_taken setup opening limits h host t run tag there
  ndr_taken NdrOp.CmpS tag there = shared_taken tag there
  ndr_taken NdrOp.CmpE tag there = owning_grants_may_be_taken setup opening limits h host t run tag there
  ndr_taken NdrOp.ConflictAck tag there = acks_may_be_taken setup opening limits h host t run tag there

  on_ndr : (m : Message) → IsOf Channel.Ndr m → list_any (message_eq m) (in_flight h Channel.Ndr t) ≡ true → is_some (host_takes setup h m (events_of h t)) ≡ true
  on_ndr (Message.Req op meta snp tag line) of there = let c = of.channel in cc
  on_ndr (Message.MemWr meta snp tag line bytes) of there = let c = of.channel in cc
  on_ndr (Message.BiConflict tag) of there = let c = of.channel in cc
  on_ndr (Message.BiRsp op bitag low) of there = let c = of.channel in cc
  on_ndr (Message.Ndr op tag) of there = ndr_taken op tag.0 there
  on_ndr (Message.MemData tag bytes) of there = let c = of.channel in cc
  on_ndr (Message.BiSnp op bitag line span) of there = let c = of.channel in cc
  on_ndr (Message.Credit c) of there = absurd (no_credit_on c Channel.Ndr refl of.channel)

  on_drs : (m : Message) → IsOf Channel.Drs m → list_any (message_eq m) (in_flight h Channel.Drs t) ≡ true → is_some (host_takes setup h m (events_of h t)) ≡ true
  on_drs (Message.Req op meta snp tag line) of there = let c = of.channel in cc
  on_drs (Message.MemWr meta snp tag line bytes) of there = let c = of.channel in cc
  on_drs (Message.BiConflict tag) of there = let c = of.channel in cc
  on_drs (Message.BiRsp op bitag low) of there = let c = of.channel in cc
  on_drs (Message.Ndr op tag) of there = let c = of.channel in cc
  on_drs (Message.MemData tag bytes) of there = data_may_be_taken setup opening limits h host t run tag.0 bytes there
  on_drs (Message.BiSnp op bitag line span) of there = let c = of.channel in cc
  on_drs (Message.Credit c) of there = absurd (no_credit_on c Channel.Drs refl of.channel)

  -- a Credit in flight is missing where it goes
  missing : (c d : Channel) → credit_channel c ≡ d → has_credits c ≡ true → list_any (message_eq (Message.Credit c)) (in_flight h d t) ≡ true → lacks_credit setup h c (events_of (receiver h d) t) ≡ true
  missing c d of credited there =
      subst (λ g. lacks_credit setup h c (events_of g t) ≡ true) (sym (credits_go_back h c credited) ∙ ap (receiver h) of)
      (credit_is_missing setup opening t run h c credited (subst (λ x. list_any (message_eq (Message.Credit c)) (in_flight h x t) ≡ true) (sym of) there))

  on_credit_down : (m : Message) → IsOf Channel.CreditDown m → list_any (message_eq m) (in_flight h Channel.CreditDown t) ≡ true → is_some (host_takes setup h m (events_of h t)) ≡ true
  on_credit_down (Message.Req op meta snp tag line) of there = let c = of.channel in cc
  on_credit_down (Message.MemWr meta snp tag line bytes) of there = let c = of.channel in cc
  on_credit_down (Message.BiConflict tag) of there = let c = of.channel in cc
  on_credit_down (Message.BiRsp op bitag low) of there = let c = of.channel in cc
  on_credit_down (Message.Ndr op tag) of there = let c = of.channel in cc
  on_credit_down (Message.MemData tag bytes) of there = let c = of.channel in cc
  on_credit_down (Message.BiSnp op bitag line span) of there = let c = of.channel in cc
  on_credit_down (Message.Credit c) of there = ap (λ b. is_some (when b nothing)) (missing c Channel.CreditDown of.channel of.profile there)

  on_credit_up : (m : Message) → IsOf Channel.CreditUp m → list_any (message_eq m) (in_flight h Channel.CreditUp t) ≡ true → is_some (device_takes setup h m (events_of device t)) ≡ true
  on_credit_up (Message.Req op meta snp tag line) of there = let c = of.channel in cc
  on_credit_up (Message.MemWr meta snp tag line bytes) of there = let c = of.channel in cc
  on_credit_up (Message.BiConflict tag) of there = let c = of.channel in cc
  on_credit_up (Message.BiRsp op bitag low) of there = let c = of.channel in cc
  on_credit_up (Message.Ndr op tag) of there = let c = of.channel in cc
  on_credit_up (Message.MemData tag bytes) of there = let c = of.channel in cc
  on_credit_up (Message.BiSnp op bitag line span) of there = let c = of.channel in cc
  on_credit_up (Message.Credit c) of there = ap (λ b. is_some (when b nothing)) (missing c Channel.CreditUp of.channel of.profile there)

pub completions_taken : MayBeTaken Channel.Ndr
completions_taken setup opening limits t run h host m takeable =
    let there = (and_parts _ _ takeable).0 in
    let of = each_there (IsOf Channel.Ndr) m (in_flight h Channel.Ndr t) (flying_of setup opening h Channel.Ndr t run) there in
    host_emits setup opening h h m (events_of h t) (host_is_no_device setup limits h host) (has_room_for setup opening t run h Channel.Ndr m of.channel there)
    (on_ndr setup opening limits h host t run m of there)

pub data_taken : MayBeTaken Channel.Drs
data_taken setup opening limits t run h host m takeable =
    let there = (and_parts _ _ takeable).0 in
    let of = each_there (IsOf Channel.Drs) m (in_flight h Channel.Drs t) (flying_of setup opening h Channel.Drs t run) there in
    host_emits setup opening h h m (events_of h t) (host_is_no_device setup limits h host) (has_room_for setup opening t run h Channel.Drs m of.channel there)
    (on_drs setup opening limits h host t run m of there)

pub credits_down_taken : MayBeTaken Channel.CreditDown
credits_down_taken setup opening limits t run h host m takeable =
    let there = (and_parts _ _ takeable).0 in
    let of = each_there (IsOf Channel.CreditDown) m (in_flight h Channel.CreditDown t) (flying_of setup opening h Channel.CreditDown t run) there in
    host_emits setup opening h h m (events_of h t) (host_is_no_device setup limits h host) (has_room_for setup opening t run h Channel.CreditDown m of.channel there)
    (on_credit_down setup opening limits h host t run m of there)

pub credits_up_taken : MayBeTaken Channel.CreditUp
credits_up_taken setup opening limits t run h host m takeable =
    let there = (and_parts _ _ takeable).0 in
    let of = each_there (IsOf Channel.CreditUp) m (in_flight h Channel.CreditUp t) (flying_of setup opening h Channel.CreditUp t run) there in
    device_emits setup opening h m (events_of device t) (has_room_for setup opening t run h Channel.CreditUp m of.channel there)
    (on_credit_up setup opening limits h host t run m of there)
