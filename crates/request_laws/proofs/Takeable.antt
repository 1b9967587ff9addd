-- What is in flight to a host may be taken: its row's condition holds.
use Rattle.std.proofs.Common.{◌≡◌, ℕ, ◌+◌, ◌≤◌, Bool, true, false, List, [], ◌∷◌, Option, Some, None, cond, count_by, refl, sym, ◌∙◌, ap, arith}
use Rattle.std.specs.Prelude.{is_none, is_some, not, ◌&&◌, ◌==◌, ◌||◌}
use Rattle.std.specs.List.{list_any}
use Rattle.std.proofs.lemmas.Bool.{eq-eqb, false≢true}
use Rattle.cxl_message.specs.declared.channels.Channel.{Channel}
use Rattle.cxl_message.specs.declared.identifiers.Bytes64.{Bytes64}
use Rattle.cxl_message.specs.declared.messages.Message.{Message}
use Rattle.cxl_message.specs.declared.opcodes.NdrOp.{NdrOp}
use Rattle.cxl_message.specs.Messages.{acknowledges, has_tag, message_eq}
use Rattle.coherence_model.specs.Emission.{nothing}
use Rattle.coherence_model.specs.Flight.{in_flight}
use Rattle.coherence_model.specs.HostTakes.{data_emission, grant_emission, h3_completion, h3_data, h3_grant}
use Rattle.coherence_model.specs.RequestFacts.{grants, is_ndr_with}
use Rattle.coherence_model.specs.Tags.{is_conflict_open, open_with}
use Rattle.coherence_model.specs.Traces.{events_of}
use Rattle.coherence_model.specs.Transactions.{Kind, Transaction, is_read, is_request}
use Rattle.coherence_model.specs.Words.{when}
use Rattle.coherence_model.specs.WriteBacks.{completes, is_write_back_open}
use Rattle.cxl_message.proofs.SameMessages.{message_eq-same}
use Rattle.request_laws.proofs.AllConflicts.{conflicts_counted}
use Rattle.request_laws.proofs.AllPlaces.{placed}
use Rattle.request_laws.proofs.Balances.{Balanced, BalancedAs, here}
use Rattle.request_laws.proofs.Counts.{any_counts}
use Rattle.request_laws.proofs.OwnRuns.{host_is_no_device}
use Rattle.request_laws.specs.PlaceLaws.{AcksMayBeTaken, CompletionsMayBeTaken, DataMayBeTaken, OwningGrantsMayBeTaken}

-- a message that is there counts
passes_by : (p : Message → Bool) (m n : Message) (ns : List Message) (same : Bool) → message_eq m n ≡ same → p m ≡ true → (same || list_any (message_eq m) ns) ≡ true → (list_any (message_eq m) ns ≡ true → list_any p ns ≡ true) → (p n || list_any p ns) ≡ true
passes_by p m n ns true is pass some later = ap (λ b. b || list_any p ns) (ap p (sym (message_eq-same m n is)) ∙ pass)
passes_by p m n ns false is pass some later = either (p n) (later some)
  where
    either : (b : Bool) {c : Bool} → c ≡ true → (b || c) ≡ true
    either true e = refl
    either false e = e

passes : (p : Message → Bool) (m : Message) (ns : List Message) → p m ≡ true → list_any (message_eq m) ns ≡ true → list_any p ns ≡ true
passes p m [] pass some = absurd (false≢true some)
passes p m (n ∷ ns) pass some = passes_by p m n ns (message_eq m n) refl pass some (passes p m ns pass)

counted : (p : Message → Bool) (m : Message) (ns : List Message) → p m ≡ true → list_any (message_eq m) ns ≡ true → 1 ≤ count_by p ns
counted p m ns pass some = any_counts p ns (passes p m ns pass some)

-- Cmp
completes_as : (wb : Bool) (kind : Kind) (o : Transaction) (b g y r w nc ng d k : ℕ) → kind ≡ o.kind → BalancedAs kind b g y r w nc ng d k → 1 ≤ nc → is_some (h3_completion wb (Some o)) ≡ true
completes_as wb Kind.ReadShared o b g y r w nc ng d k is h more = absurd (omega arith)
completes_as wb Kind.ReadAny o b g y r w nc ng d k is h more = absurd (omega arith)
completes_as wb Kind.Invalidate o b g y r w nc ng d k is h more = absurd (omega arith)
completes_as wb Kind.CleanEviction o b g y r w nc ng d k is h more = ap (λ x. is_some (when (not (is_request x)) nothing)) (sym is)
completes_as wb Kind.DirtyEviction o b g y r w nc ng d k is h more = ap (λ x. is_some (when (not (is_request x)) nothing)) (sym is)

flag_up : (c : Bool) (w nc : ℕ) → w + nc ≡ cond c 1 0 → 1 ≤ nc → c ≡ true
flag_up true w nc e more = refl
flag_up false w nc e more = absurd (omega arith)

completion_taken : (c : Bool) (o : Option Transaction) (r w nc ng d k : ℕ) → Balanced o (cond c 1 0) r w nc ng d k → 1 ≤ nc → is_some (h3_completion c o) ≡ true
completion_taken c None r w nc ng d k h more = ap (λ b. is_some (when b nothing)) (flag_up c w nc h.1 more)
completion_taken c (Some o) r w nc ng d k h more = completes_as c o.kind o (cond c 1 0) (here o.grant) (here o.bytes) r w nc ng d k refl h more

pub completions_may_be_taken : CompletionsMayBeTaken
completions_may_be_taken setup opening limits h host t run tag there =
    completion_taken ((tag == setup.tags) && is_write_back_open setup (events_of h t)) (open_with tag (events_of h t)) _ _ _ _ _ _ (placed setup opening h tag (host_is_no_device setup limits h host) t run).balanced
    (counted (is_ndr_with completes tag) (Message.Ndr NdrOp.Cmp (record { 0 = tag })) (in_flight h Channel.Ndr t) (eq-eqb tag tag refl) there)

-- Cmp-E
none_granted : (g : Option NdrOp) → here g ≡ 0 → is_none g ≡ true
none_granted None e = refl
none_granted (Some c) e = absurd (omega arith)

asks : (l : Kind) (b g y r w nc ng d k : ℕ) → BalancedAs l b g y r w nc ng d k → 1 ≤ ng → is_request l ≡ true
asks Kind.ReadShared b g y r w nc ng d k e more = refl
asks Kind.ReadAny b g y r w nc ng d k e more = refl
asks Kind.Invalidate b g y r w nc ng d k e more = refl
asks Kind.CleanEviction b g y r w nc ng d k e more = absurd (omega arith)
asks Kind.DirtyEviction b g y r w nc ng d k e more = absurd (omega arith)

ungranted : (l : Kind) (b g y r w nc ng d k : ℕ) → BalancedAs l b g y r w nc ng d k → 1 ≤ ng → g ≡ 0
ungranted Kind.ReadShared b g y r w nc ng d k e more = omega arith
ungranted Kind.ReadAny b g y r w nc ng d k e more = omega arith
ungranted Kind.Invalidate b g y r w nc ng d k e more = omega arith
ungranted Kind.CleanEviction b g y r w nc ng d k e more = absurd (omega arith)
ungranted Kind.DirtyEviction b g y r w nc ng d k e more = absurd (omega arith)

grant_taken : (o : Option Transaction) (b r w nc ng d k : ℕ) → Balanced o b r w nc ng d k → 1 ≤ ng → is_some (h3_grant NdrOp.CmpE o) ≡ true
grant_taken None b r w nc ng d k h more = absurd (omega arith)
grant_taken (Some o) b r w nc ng d k h more =
    ap (λ x. is_some (when (x && is_none o.grant) (grant_emission o o.bytes))) (asks o.kind b (here o.grant) (here o.bytes) r w nc ng d k h more)
    ∙ ap (λ x. is_some (when x (grant_emission o o.bytes))) (none_granted o.grant (ungranted o.kind b (here o.grant) (here o.bytes) r w nc ng d k h more))

pub owning_grants_may_be_taken : OwningGrantsMayBeTaken
owning_grants_may_be_taken setup opening limits h host t run tag there =
    grant_taken (open_with tag (events_of h t)) _ _ _ _ _ _ _ (placed setup opening h tag (host_is_no_device setup limits h host) t run).balanced
    (counted (is_ndr_with grants tag) (Message.Ndr NdrOp.CmpE (record { 0 = tag })) (in_flight h Channel.Ndr t) (eq-eqb tag tag refl) there)

-- MemData
reads : (l : Kind) (b g y r w nc ng d k : ℕ) → BalancedAs l b g y r w nc ng d k → 1 ≤ d → is_read l ≡ true
reads Kind.ReadShared b g y r w nc ng d k e more = refl
reads Kind.ReadAny b g y r w nc ng d k e more = refl
reads Kind.Invalidate b g y r w nc ng d k e more = absurd (omega arith)
reads Kind.CleanEviction b g y r w nc ng d k e more = absurd (omega arith)
reads Kind.DirtyEviction b g y r w nc ng d k e more = absurd (omega arith)

unread : (l : Kind) (b g y r w nc ng d k : ℕ) → BalancedAs l b g y r w nc ng d k → 1 ≤ d → y ≡ 0
unread Kind.ReadShared b g y r w nc ng d k e more = omega arith
unread Kind.ReadAny b g y r w nc ng d k e more = omega arith
unread Kind.Invalidate b g y r w nc ng d k e more = absurd (omega arith)
unread Kind.CleanEviction b g y r w nc ng d k e more = absurd (omega arith)
unread Kind.DirtyEviction b g y r w nc ng d k e more = absurd (omega arith)

no_bytes : (g : Option Bytes64) → here g ≡ 0 → is_none g ≡ true
no_bytes None e = refl
no_bytes (Some c) e = absurd (omega arith)

data_taken : (bytes : Bytes64) (o : Option Transaction) (b r w nc ng d k : ℕ) → Balanced o b r w nc ng d k → 1 ≤ d → is_some (h3_data bytes o) ≡ true
data_taken bytes None b r w nc ng d k h more = absurd (omega arith)
data_taken bytes (Some o) b r w nc ng d k h more =
    ap (λ x. is_some (when (x && is_none o.bytes) (data_emission o bytes))) (reads o.kind b (here o.grant) (here o.bytes) r w nc ng d k h more)
    ∙ ap (λ x. is_some (when x (data_emission o bytes))) (no_bytes o.bytes (unread o.kind b (here o.grant) (here o.bytes) r w nc ng d k h more))

pub data_may_be_taken : DataMayBeTaken
data_may_be_taken setup opening limits h host t run tag bytes there =
    data_taken bytes (open_with tag (events_of h t)) _ _ _ _ _ _ _ (placed setup opening h tag (host_is_no_device setup limits h host) t run).balanced
    (counted (has_tag tag) (Message.MemData (record { 0 = tag }) bytes) (in_flight h Channel.Drs t) (eq-eqb tag tag refl) there)

-- BI-ConflictAck
conflict_up : (c : Bool) (n m k : ℕ) → n + m + k ≡ cond c 1 0 → 1 ≤ k → c ≡ true
conflict_up true n m k e more = refl
conflict_up false n m k e more = absurd (omega arith)

pub acks_may_be_taken : AcksMayBeTaken
acks_may_be_taken setup opening limits h host t run tag there =
    ap (λ c. is_some (when c nothing))
    (conflict_up (is_conflict_open tag (events_of h t)) _ _ _ (conflicts_counted setup opening h tag (host_is_no_device setup limits h host) t run)
    (counted (is_ndr_with acknowledges tag) (Message.Ndr NdrOp.ConflictAck (record { 0 = tag })) (in_flight h Channel.Ndr t) (eq-eqb tag tag refl) there))
