-- What is open for a line is in exactly one place, in the words of the definitions.
use Rattle.std.proofs.Common.{◌≡◌, ℕ, ◌+◌, Bool, true, false, List, [], ◌∷◌, ◌++◌, Option, Some, None, cond, count_by, refl, sym, ◌∙◌, ap, subst, arith}
use Rattle.std.specs.Prelude.{is_some, ◌&&◌, ◌==◌}
use Rattle.std.specs.Option.{option_map_or}
use Rattle.std.proofs.lemmas.Bool.{and_from, and_parts, eq-eqb, false≢true}
use Rattle.std.proofs.lemmas.Option.{same_Some}
use Rattle.cxl_message.specs.declared.channels.Channel.{Channel}
use Rattle.cxl_message.specs.declared.events.Event.{Event}
use Rattle.cxl_message.specs.declared.messages.Message.{Message}
use Rattle.cxl_message.specs.Messages.{has_tag}
use Rattle.cxl_message.specs.Setup.{Configuration}
use Rattle.coherence_model.specs.Buffers.{buffered_requests, buffered_writes}
use Rattle.coherence_model.specs.DirectoryChanges.{directory}
use Rattle.coherence_model.specs.Flight.{in_flight}
use Rattle.coherence_model.specs.RequestFacts.{data_count, grant_count, grants, is_request_with, is_task_of, is_write_with, kind_is_placed, ndr_count, requests_under_way, task_count, writes_under_way}
use Rattle.coherence_model.specs.Tags.{open_with, tagged_line}
use Rattle.coherence_model.specs.Traces.{device, events_of}
use Rattle.coherence_model.specs.Transactions.{Kind, Transaction, is_read, open_at}
use Rattle.coherence_model.specs.Words.{one_if}
use Rattle.coherence_model.specs.WriteBacks.{completes}
use Rattle.request_laws.proofs.AllPlaces.{PlacedAfter, placed}
use Rattle.request_laws.proofs.Balances.{BalancedAs, balance_as, balance_of, balance_taken, here}
use Rattle.request_laws.proofs.Counts.{count_by-append, count_by-cons}
use Rattle.request_laws.proofs.Each.{Each, each_append, each_weaker}
use Rattle.request_laws.proofs.OpenLines.{open_leads_back, tagged_found}
use Rattle.coherence_model.proofs.OwnRuns.{events_of_run}
use Rattle.request_laws.proofs.OwnRuns.{host_is_no_device}
use Rattle.request_laws.proofs.Places.{OwnRequest, OwnWrite, is_write_of, task_at}
use Rattle.request_laws.specs.PlaceLaws.{OpenLinesArePlaced}

-- two tests that agree on each message count the same
count_step : (b c : Bool) (n m : ℕ) → b ≡ c → n ≡ m → cond b 1 0 + n ≡ cond c 1 0 + m
count_step b c n m e f = ap (λ x. cond x 1 0 + n) e ∙ ap (λ x. cond c 1 0 + x) f

pub count_same : (p q : Message → Bool) (ms : List Message) → Each (λ m. p m ≡ q m) ms → count_by p ms ≡ count_by q ms
count_same p q [] h = refl
count_same p q (m ∷ ms) h = count_by-cons p m ms ∙ count_step (p m) (q m) (count_by p ms) (count_by q ms) h.0 (count_same p q ms h.1) ∙ sym (count_by-cons q m ms)

agree : (b c : Bool) → (b ≡ true → c ≡ true) → (c ≡ true → b ≡ true) → b ≡ c
agree true c f g = sym (f refl)
agree false true f g = g refl
agree false false f g = refl

-- a Req message of a kind, a line and a tag has the tag
pub request_tagged : (kind : Kind) (a tag : ℕ) (m : Message) → is_request_with kind a tag m ≡ true → has_tag tag m ≡ true
request_tagged kind a tag (Message.Req op meta snp t line) h = (and_parts _ _ h).1
request_tagged kind a tag (Message.MemWr _ _ _ _ _) h = absurd (false≢true h)
request_tagged kind a tag (Message.BiConflict _) h = absurd (false≢true h)
request_tagged kind a tag (Message.BiRsp _ _ _) h = absurd (false≢true h)
request_tagged kind a tag (Message.Ndr _ _) h = absurd (false≢true h)
request_tagged kind a tag (Message.MemData _ _) h = absurd (false≢true h)
request_tagged kind a tag (Message.BiSnp _ _ _ _) h = absurd (false≢true h)
request_tagged kind a tag (Message.Credit _) h = absurd (false≢true h)

pub write_tagged : (a tag : ℕ) (m : Message) → is_write_with a tag m ≡ true → is_write_of tag m ≡ true
write_tagged a tag (Message.Req _ _ _ _ _) h = absurd (false≢true h)
write_tagged a tag (Message.MemWr meta snp t line bytes) h = (and_parts _ _ h).1
write_tagged a tag (Message.BiConflict _) h = absurd (false≢true h)
write_tagged a tag (Message.BiRsp _ _ _) h = absurd (false≢true h)
write_tagged a tag (Message.Ndr _ _) h = absurd (false≢true h)
write_tagged a tag (Message.MemData _ _) h = absurd (false≢true h)
write_tagged a tag (Message.BiSnp _ _ _ _) h = absurd (false≢true h)
write_tagged a tag (Message.Credit _) h = absurd (false≢true h)

pub one_if_is : (b : Bool) → one_if b ≡ cond b 1 0
one_if_is true = refl
one_if_is false = refl

here_is : {A : Type 0} (o : Option A) → here o ≡ one_if (is_some o)
here_is None = refl
here_is (Some x) = refl

-- the equations of a kind, in the words of the definitions
one_place : (n : ℕ) → n ≡ 1 → (n == 1) ≡ true
one_place n e = eq-eqb n 1 e

read_place : (r k ng g d y : ℕ) → r + k + ng + g ≡ 1 → d + y ≡ ng + g → ((r + k + (ng + g) == 1) && (d + y == ng + g)) ≡ true
read_place r k ng g d y e f = and_from _ _ (eq-eqb (r + k + (ng + g)) 1 (omega arith)) (eq-eqb (d + y) (ng + g) f)

other_place : (r k ng g d y : ℕ) → r + k + ng + g ≡ 1 → d + y ≡ 0 → ((r + k + (ng + g) == 1) && (d + y == 0)) ≡ true
other_place r k ng g d y e f = and_from _ _ (eq-eqb (r + k + (ng + g)) 1 (omega arith)) (eq-eqb (d + y) 0 f)

kind_place :
    (kind : Kind) (setup : Configuration) (h a : ℕ) (t : List Event) (o : Transaction) (b r w : ℕ) → kind ≡ o.kind
    → r ≡ count_by (is_request_with o.kind a o.tag) (requests_under_way h t) → w ≡ count_by (is_write_with a o.tag) (writes_under_way h t)
    → BalancedAs kind b (one_if (is_some o.grant)) (one_if (is_some o.bytes)) r w (ndr_count completes h o.tag t) (ndr_count grants h o.tag t) (count_by (has_tag o.tag) (in_flight h Channel.Drs t)) (task_count setup h a o.tag t)
    → kind_is_placed kind setup h a t o ≡ true
kind_place Kind.ReadShared setup h a t o b r w is er ew e =
    ap (λ n. (n + task_count setup h a o.tag t + grant_count h t o == 1) && (data_count h t o == cond (is_read o.kind) (grant_count h t o) 0)) (sym er)
    ∙ ap (λ k. (r + task_count setup h a o.tag t + grant_count h t o == 1) && (data_count h t o == cond (is_read k) (grant_count h t o) 0)) (sym is)
    ∙ read_place r (task_count setup h a o.tag t) (ndr_count grants h o.tag t) (one_if (is_some o.grant)) (count_by (has_tag o.tag) (in_flight h Channel.Drs t)) (one_if (is_some o.bytes)) e.1 e.2
kind_place Kind.ReadAny setup h a t o b r w is er ew e =
    ap (λ n. (n + task_count setup h a o.tag t + grant_count h t o == 1) && (data_count h t o == cond (is_read o.kind) (grant_count h t o) 0)) (sym er)
    ∙ ap (λ k. (r + task_count setup h a o.tag t + grant_count h t o == 1) && (data_count h t o == cond (is_read k) (grant_count h t o) 0)) (sym is)
    ∙ read_place r (task_count setup h a o.tag t) (ndr_count grants h o.tag t) (one_if (is_some o.grant)) (count_by (has_tag o.tag) (in_flight h Channel.Drs t)) (one_if (is_some o.bytes)) e.1 e.2
kind_place Kind.Invalidate setup h a t o b r w is er ew e =
    ap (λ n. (n + task_count setup h a o.tag t + grant_count h t o == 1) && (data_count h t o == cond (is_read o.kind) (grant_count h t o) 0)) (sym er)
    ∙ ap (λ k. (r + task_count setup h a o.tag t + grant_count h t o == 1) && (data_count h t o == cond (is_read k) (grant_count h t o) 0)) (sym is)
    ∙ other_place r (task_count setup h a o.tag t) (ndr_count grants h o.tag t) (one_if (is_some o.grant)) (count_by (has_tag o.tag) (in_flight h Channel.Drs t)) (one_if (is_some o.bytes)) e.1 e.2
kind_place Kind.CleanEviction setup h a t o b r w is er ew e =
    one_place _ (ap (λ k. count_by (is_request_with k a o.tag) (requests_under_way h t) + ndr_count completes h o.tag t) is ∙ ap (λ n. n + ndr_count completes h o.tag t) (sym er) ∙ e.1)
kind_place Kind.DirtyEviction setup h a t o b r w is er ew e = one_place _ (ap (λ n. n + ndr_count completes h o.tag t) (sym ew) ∙ e.1)

-- each Req message with the tag of what is open is of its kind and for its line
pub requests_named :
    (setup : Configuration) (h a : ℕ) (t : List Event) (o : Transaction) → open_with o.tag (events_of h t) ≡ Some o → tagged_line o.tag (events_of h t) ≡ Some a → PlacedAfter setup h o.tag t
    → count_by (has_tag o.tag) (requests_under_way h t) ≡ count_by (is_request_with o.kind a o.tag) (requests_under_way h t)
requests_named setup h a t o found named inv =
    let same_request : (m : Message) → OwnRequest o.tag (open_with o.tag (events_of h t)) (tagged_line o.tag (events_of h t)) m → has_tag o.tag m ≡ is_request_with o.kind a o.tag m =
    λ m own. agree (has_tag o.tag m) (is_request_with o.kind a o.tag m)
    (λ tagged. let fits = own tagged in subst (λ (x : Transaction). is_request_with x.kind a o.tag m ≡ true) (same_Some fits.x o (sym fits.there ∙ found))
    (subst (λ l. is_request_with fits.x.kind l o.tag m ≡ true) (same_Some fits.l a (sym fits.at_line ∙ named)) fits.is))
    (request_tagged o.kind a o.tag m) in
    count_same (has_tag o.tag) (is_request_with o.kind a o.tag) (requests_under_way h t)
    (each_append _ (in_flight h Channel.Req t) (buffered_requests h (events_of device t)) (each_weaker _ _ same_request (in_flight h Channel.Req t) inv.flying_requests) (each_weaker _ _ same_request (buffered_requests h (events_of device t)) inv.held_requests))

-- what is open for a line is placed
open_placed :
    (setup : Configuration) (h a : ℕ) (t : List Event) (o : Transaction) → open_with o.tag (events_of h t) ≡ Some o → tagged_line o.tag (events_of h t) ≡ Some a → PlacedAfter setup h o.tag t
    → kind_is_placed o.kind setup h a t o ≡ true
open_placed setup h a t o found named inv =
    let same_write : (m : Message) → OwnWrite o.tag (open_with o.tag (events_of h t)) (tagged_line o.tag (events_of h t)) m → is_write_of o.tag m ≡ is_write_with a o.tag m =
    λ m own. agree (is_write_of o.tag m) (is_write_with a o.tag m)
    (λ tagged. let fits = own tagged o found in subst (λ l. is_write_with l o.tag m ≡ true) (same_Some fits.l a (sym fits.at_line ∙ named)) fits.is)
    (write_tagged a o.tag m) in
    let fr = in_flight h Channel.Req t in
    let hr = buffered_requests h (events_of device t) in
    let fw = in_flight h Channel.Rwd t in
    let hw = buffered_writes h (events_of device t) in
    kind_place o.kind setup h a t o _ (count_by (has_tag o.tag) fr + count_by (has_tag o.tag) hr) (count_by (is_write_of o.tag) fw + count_by (is_write_of o.tag) hw) refl
    (sym (count_by-append (has_tag o.tag) fr hr)
    ∙ requests_named setup h a t o found named inv)
    (sym (count_by-append (is_write_of o.tag) fw hw)
    ∙ count_same (is_write_of o.tag) (is_write_with a o.tag) (fw ++ hw) (each_append _ fw hw (each_weaker _ _ same_write fw inv.flying_writes) (each_weaker _ _ same_write hw inv.held_writes)))
    (balance_taken o.kind _ _ _ _ _ _ _ _ _ _ _ (here_is o.grant) (here_is o.bytes)
    (balance_as (Some o) refl refl refl refl refl refl (ap (task_at h o.tag (directory setup (events_of device t)).task) named ∙ sym (one_if_is (option_map_or (is_task_of h o.tag) ((directory setup (events_of device t)).task a) false)))
    (balance_of (open_with o.tag (events_of h t)) (Some o) found _ _ _ _ _ _ _ inv.balanced)))

by_open : (setup : Configuration) (h a : ℕ) (t : List Event) (o : Option Transaction) → open_at a (events_of h t) ≡ o → ((x : Transaction) → open_at a (events_of h t) ≡ Some x → kind_is_placed x.kind setup h a t x ≡ true)
    → option_map_or (λ (x : Transaction). kind_is_placed x.kind setup h a t x) o true ≡ true
by_open setup h a t None is f = refl
by_open setup h a t (Some x) is f = f x is

pub open_lines_are_placed : OpenLinesArePlaced
open_lines_are_placed setup opening limits h host t run a =
    let agent = host_is_no_device setup limits h host in
    by_open setup h a t (open_at a (events_of h t)) refl (λ o is.
    let back = open_leads_back setup opening h agent (events_of h t) (events_of_run setup opening h t run) a o is in
    open_placed setup h a t o (tagged_found (λ b. open_at b (events_of h t)) (λ b. tagged_line b (events_of h t)) a o is back.back) back.back (placed setup opening h o.tag agent t run))
