-- A line's numbers are kept by the takes of its host.
use Rattle.std.proofs.Common.{◌≡◌, ℕ, ◌+◌, ◌≤◌, Bool, true, false, List, ◌++◌, Option, Some, None, cond, count_by, refl, sym, ◌∙◌, ap, subst, arith, inl, inr}
use Rattle.std.specs.Prelude.{option_and_then, ◌==◌}
use Rattle.std.specs.Option.{option_or}
use Rattle.std.proofs.lemmas.Bool.{cond-false, cond-true, eq-eqb, false≢true, ne_eqb}
use Rattle.std.proofs.lemmas.Option.{none-some, same_Some}
use Rattle.cxl_message.specs.declared.channels.Channel.{Channel}
use Rattle.cxl_message.specs.declared.events.Cause.{Cause}
use Rattle.cxl_message.specs.declared.events.Commit.{Commit}
use Rattle.cxl_message.specs.declared.events.Event.{Event}
use Rattle.cxl_message.specs.declared.events.Sends.{Sends}
use Rattle.cxl_message.specs.declared.identifiers.Bytes64.{Bytes64}
use Rattle.cxl_message.specs.declared.messages.Message.{Message}
use Rattle.cxl_message.specs.declared.opcodes.NdrOp.{NdrOp}
use Rattle.cxl_message.specs.declared.states.Listing.{Listing}
use Rattle.cxl_message.specs.Codes.{listing_code}
use Rattle.cxl_message.specs.Setup.{Configuration}
use Rattle.coherence_model.specs.Cache.{copy}
use Rattle.coherence_model.specs.Copies.{Copy}
use Rattle.coherence_model.specs.Emission.{Emission}
use Rattle.coherence_model.specs.Fitting.{cause_fits}
use Rattle.coherence_model.specs.Flight.{takes_on, without_taken}
use Rattle.coherence_model.specs.HostTakes.{data_emission, grant_emission, host_takes, may_grant}
use Rattle.coherence_model.specs.ListingFacts.{grants_ownership}
use Rattle.coherence_model.specs.Tags.{open_with, tagged_line}
use Rattle.coherence_model.specs.Transactions.{Transaction, is_read, is_request, open_after_completion, open_after_data, open_after_grant, open_after_take, open_at}
use Rattle.coherence_lemmas.proofs.HostTakes.{Granted, h3_data-inv, h3_grant-inv}
use Rattle.coherence_lemmas.proofs.TakesSendNothing.{host_takes_silent}
use Rattle.request_laws.proofs.HostPlaces.{Taken}
use Rattle.request_laws.proofs.OpenLines.{LeadBack}
use Rattle.request_laws.proofs.Places.{on_channel}
use Rattle.snoop_laws.proofs.Counts.{Among}
use Rattle.listing_laws.proofs.Copies.{copy_next, valid_count, writable_count}
use Rattle.listing_laws.proofs.Fits.{AreFit, open_with_is}
use Rattle.listing_laws.proofs.Lines.{LineKept, quiet_none}
use Rattle.listing_laws.proofs.Numbers.{kept_as, kept_filled, kept_filled_shared}
use Rattle.listing_laws.proofs.Owners.{granted_so, grants_shared}
use Rattle.listing_laws.proofs.TakenGrants.{fill_granted, grants_stay, picks_ownership, picks_shared}
use Rattle.listing_laws.proofs.WriteBackLines.{cleans_line, writes_line}
use Rattle.listing_laws.proofs.Takes.{DataFills, DataUsed, DataWaits, Fill, FilledBy, Fills, GrantTaken, Owned, Shared, Waits, data_used, fill_copy, filled_copy, filled_is, grant_taken, may_is_request, read_is_request, take_commits}

-- what an emission commits
abbrev commit_of : Emission → Option Commit
commit_of w = w.commit

-- a message that closes what is open has its tag
named_if : (b : Bool) (o : Transaction) (x : Option Transaction) → cond b x (Some o) ≡ None → (b ≡ true) × (x ≡ None)
named_if true o x e = (refl, e)
named_if false o x e = absurd (none-some o (sym e))

-- a completion leaves a request open
still_request : (o : Transaction) (b : Bool) → is_request o.kind ≡ b → b ≡ true → cond b (Some o) None ≡ None → ⊥
still_request o true is request e = none-some o (sym e)
still_request o false is request e = false≢true request

-- ---- a request that a take ends is filled by it

-- a fill of line a
abbrev pub FillAt : (own : List Event) (m : Message) (commit : Option Commit) (a : ℕ) → Type 0
FillAt own m commit a = (f : Fill own m commit) × (f.l ≡ a)

-- a taken grant that closes the line fills it
grant_here : (own : List Event) (c : NdrOp) (tag a : ℕ) (o : Transaction) (w : Emission) (commit : Option Commit) → commit ≡ w.commit → open_at a own ≡ Some o → may_grant c o.kind ≡ true
    → open_after_take (Message.Ndr c (record { 0 = tag })) o ≡ None → open_after_grant c o ≡ None → GrantTaken c o w → FillAt own (Message.Ndr c (record { 0 = tag })) commit a
grant_here own c tag a o w commit committed there may closed after (Waits e waits) = absurd (none-some (record o { grant = Some c }) (sym after ∙ waits))
grant_here own c tag a o w commit committed there may closed after (Fills bytes e fills given) = (
  record {
    l = a;
    o = o;
    there = there;
    closed = closed;
    request = may_is_request c o.kind may;
    grant = c;
    may = may;
    source = refl;
    bytes = bytes;
    given = λ reads. ap (λ x. option_or x None) (given reads);
    committed = committed ∙ ap commit_of e;
  },
  refl,
)

-- taken data that closes the line fills it
data_here : (own : List Event) (bytes : Bytes64) (tag a : ℕ) (o : Transaction) (w : Emission) (commit : Option Commit) → commit ≡ w.commit → open_at a own ≡ Some o → AreFit (λ b. open_at b own) → is_read o.kind ≡ true → o.bytes ≡ None
    → open_after_take (Message.MemData (record { 0 = tag }) bytes) o ≡ None → open_after_data bytes o ≡ None → DataUsed bytes o w → FillAt own (Message.MemData (record { 0 = tag }) bytes) commit a
data_here own bytes tag a o w commit committed there fit read first closed after (DataWaits e none waits) = absurd (none-some (record o { bytes = Some bytes }) (sym after ∙ waits))
data_here own bytes tag a o w commit committed there fit read first closed after (DataFills c got e fills) = (
  record {
    l = a;
    o = o;
    there = there;
    closed = closed;
    request = read_is_request o.kind read;
    grant = c;
    may = (fit a o there).granted c got;
    source = got;
    bytes = bytes;
    given = λ reads. ap (λ x. option_or x (Some bytes)) first;
    committed = committed ∙ ap commit_of e;
  },
  refl,
)

module _ (setup : Configuration) (h : ℕ) (own : List Event) (w : Emission) (commit : Option Commit) (committed : commit ≡ w.commit) (fit : AreFit (λ b. open_at b own))
    (back : LeadBack setup (λ b. open_at b own) (λ t. tagged_line t own)) (a : ℕ) (o : Transaction) (there : open_at a own ≡ Some o) (request : is_request o.kind ≡ true) where
  -- a taken grant of the open tag fills the line
  grant_fills : (c : NdrOp) (tag : ℕ) → Granted c (open_with tag own) w → open_after_take (Message.Ndr c (record { 0 = tag })) o ≡ None → (tag == o.tag) ≡ true → open_after_grant c o ≡ None
      → FillAt own (Message.Ndr c (record { 0 = tag })) commit a
  grant_fills c tag g closed same after =
      let is = open_with_is setup own a o g.o tag back there same g.is_open in
      grant_here own c tag a o w commit committed there (subst (λ (x : Transaction). may_grant c x.kind ≡ true) is g.may) closed after
      (grant_taken c o w (g.emits ∙ ap (λ (x : Transaction). grant_emission x x.bytes) is))

  -- a take that closes an open request fills its line
  pub fill_here : (m : Message) → host_takes setup h m own ≡ Some w → open_after_take m o ≡ None → FillAt own m commit a
  fill_here (Message.Req op meta snp tag line) row closed = absurd (none-some w row)
  fill_here (Message.MemWr meta snp tag line bytes) row closed = absurd (none-some w row)
  fill_here (Message.BiConflict tag) row closed = absurd (none-some w row)
  fill_here (Message.BiRsp op bitag low) row closed = absurd (none-some w row)
  fill_here (Message.Ndr NdrOp.Cmp tag) row closed =
      let parts = named_if (tag.0 == o.tag) o (open_after_completion NdrOp.Cmp o) closed in absurd (still_request o (is_request o.kind) refl request parts.1)
  fill_here (Message.Ndr NdrOp.CmpS tag) row closed =
      let parts = named_if (tag.0 == o.tag) o (open_after_completion NdrOp.CmpS o) closed in grant_fills NdrOp.CmpS tag.0 (h3_grant-inv NdrOp.CmpS (open_with tag.0 own) w row) closed parts.0 parts.1
  fill_here (Message.Ndr NdrOp.CmpE tag) row closed =
      let parts = named_if (tag.0 == o.tag) o (open_after_completion NdrOp.CmpE o) closed in grant_fills NdrOp.CmpE tag.0 (h3_grant-inv NdrOp.CmpE (open_with tag.0 own) w row) closed parts.0 parts.1
  fill_here (Message.Ndr NdrOp.ConflictAck tag) row closed = let parts = named_if (tag.0 == o.tag) o (open_after_completion NdrOp.ConflictAck o) closed in absurd (none-some o (sym parts.1))
  fill_here (Message.MemData tag bytes) row closed =
      let parts = named_if (tag.0 == o.tag) o (open_after_data bytes o) closed in
      let d = h3_data-inv bytes (open_with tag.0 own) w row in
      let is = open_with_is setup own a o d.o tag.0 back there parts.0 d.is_open in
      data_here own bytes tag.0 a o w commit committed there fit (subst (λ (x : Transaction). is_read x.kind ≡ true) is d.read) (subst (λ (x : Transaction). x.bytes ≡ None) is d.first) closed parts.1
      (data_used bytes o w (d.emits ∙ ap (λ (x : Transaction). data_emission x bytes) is))
  fill_here (Message.BiSnp op bitag line span) row closed = absurd (none-some o (sym closed))
  fill_here (Message.Credit c) row closed = absurd (none-some o (sym closed))

-- ---- the numbers of a line

module _ (setup : Configuration) (h k : ℕ) (m : Message) (own dev : List Event) (a : ℕ) (fr hr fw hw ndr rs : List Message) (listing : Listing) (w : Emission) (sends : Sends) (commit : Option Commit)
    (fit : AreFit (λ b. open_at b own)) (back : LeadBack setup (λ b. open_at b own) (λ t. tagged_line t own)) (fits : cause_fits setup h (Cause.Take k m) ≡ true) (row : host_takes setup h m own ≡ Some w)
    (sent : sends ≡ w.sends) (committed : commit ≡ w.commit) (taken : Taken (takes_on h Channel.Ndr (Cause.Take k m)) ndr) (among : (op : NdrOp) (t : ℕ) → m ≡ Message.Ndr op (record { 0 = t }) → Among m ndr)
    (few : (o : Transaction) → open_at a own ≡ Some o → granted_so grants_shared ndr (Some o) + granted_so grants_ownership ndr (Some o) ≤ 1)
    (closed_none : (o : Transaction) → open_at a own ≡ Some o → is_request o.kind ≡ false → granted_so grants_shared ndr (Some o) + granted_so grants_ownership ndr (Some o) ≡ 0)
    (unwritten : (o : Transaction) → open_at a own ≡ Some o → is_request o.kind ≡ true → (count_by (writes_line a) fw + count_by (writes_line a) hw ≡ 0) × (count_by (cleans_line a) fr + count_by (cleans_line a) hr ≡ 0))
    (unwritable : (o : Transaction) → open_at a own ≡ Some o → writable_count (copy setup a own) ≡ 0)
    (old : LineKept h a (copy setup a own) (open_at a own) dev fr hr fw hw ndr rs (listing_code listing)) where
  -- the completions in flight after the take
  abbrev later : List Message
  later = without_taken (takes_on h Channel.Ndr (Cause.Take k m)) ndr

  -- the copy after the take
  abbrev next_copy : Copy
  next_copy = copy_next setup (Cause.Take k m) sends commit own a

  -- where the line isn't filled its copy stays
  copy_stays : (FillAt own m commit a → ⊥) → next_copy ≡ copy setup a own
  copy_stays unfilled = elim (take_commits setup h m own w commit row committed fit) [
    | inl none ↦ ap (λ y. copy_next setup (Cause.Take k m) sends y own a) none
    | inr f ↦ fill_copy setup k m own sends commit f fit a ∙ cond-false (f.l == a) _ (copy setup a own) (ne_eqb f.l a (λ same. unfilled (f, same)))
  ]

  -- a take that leaves copy and grants keeps the line's numbers
  with_copy : (c : Copy) (o : Option Transaction) → c ≡ copy setup a own → granted_so grants_shared later o ≡ granted_so grants_shared ndr (open_at a own) → granted_so grants_ownership later o ≡ granted_so grants_ownership ndr (open_at a own)
      → LineKept h a c o dev fr hr fw hw later rs (listing_code listing)
  with_copy c o is es eg = kept_as _ _ _ _ _ _ _ _ _ _ _ _ _ _ _ _ _ _ _ _ (ap valid_count is) (ap writable_count is) es eg refl refl refl refl refl refl old

  -- a listing is at most 2
  listed_few : listing_code listing ≤ 2
  listed_few = by listing
    where
      by : (l : Listing) → listing_code l ≤ 2
      by Listing.I = omega arith
      by Listing.S = omega arith
      by Listing.A = omega arith

  -- where the line is filled
  filled_line : FillAt own m commit a → LineKept h a next_copy (option_and_then (open_after_take m) (open_at a own)) dev fr hr fw hw later rs (listing_code listing)
  filled_line at =
      let f = at.0 in
      let there : open_at a own ≡ Some f.o = ap (λ x. open_at x own) (sym at.1) ∙ f.there in
      let gone : option_and_then (open_after_take m) (open_at a own) ≡ None = ap (option_and_then (open_after_take m)) there ∙ f.closed in
      let is : next_copy ≡ filled_copy f.o f.grant f.bytes = fill_copy setup k m own sends commit f fit a ∙ cond-true (f.l == a) _ (copy setup a own) (eq-eqb f.l a at.1) in
      subst (λ o. LineKept h a next_copy o dev fr hr fw hw later rs (listing_code listing)) (sym gone)
      (subst (λ c. LineKept h a c None dev fr hr fw hw later rs (listing_code listing)) (sym is) (by f there (filled_is f.grant f.o f.bytes f.may ((fit f.l f.o f.there).asked f.request).0)))
    where
      by : (f : Fill own m commit) → open_at a own ≡ Some f.o → FilledBy f.grant (filled_copy f.o f.grant f.bytes) → LineKept h a (filled_copy f.o f.grant f.bytes) None dev fr hr fw hw later rs (listing_code listing)
      by f there (Owned grant valid writable) =
          let on_way = fill_granted grants_ownership own m commit ndr f (ap grants_ownership grant) among in
          let g : 1 ≤ granted_so grants_ownership ndr (open_at a own) = subst (λ o. 1 ≤ granted_so grants_ownership ndr o) (sym there) on_way in
          let none = unwritten f.o there f.request in
          kept_as _ _ _ _ _ _ _ _ _ _ _ _ _ _ _ _ _ _ _ _ valid writable refl refl refl refl refl refl refl refl
          (kept_filled (valid_count (copy setup a own)) (writable_count (copy setup a own)) _ _ _ _ _ _ _ _ g none.0 none.1 (unwritable f.o there) listed_few old)
      by f there (Shared grant valid writable) =
          let on_way = fill_granted grants_shared own m commit ndr f (ap grants_shared grant) among in
          let most = few f.o there in
          let s : 1 ≤ granted_so grants_shared ndr (open_at a own) = subst (λ o. 1 ≤ granted_so grants_shared ndr o) (sym there) on_way in
          let g : granted_so grants_ownership ndr (open_at a own) ≡ 0 = subst (λ o. granted_so grants_ownership ndr o ≡ 0) (sym there) (zero_of _ _ on_way most) in
          let none = unwritten f.o there f.request in
          kept_as _ _ _ _ _ _ _ _ _ _ _ _ _ _ _ _ _ _ _ _ valid writable refl refl refl refl refl refl refl refl
          (kept_filled_shared (valid_count (copy setup a own)) (writable_count (copy setup a own)) _ _ _ _ _ _ _ _ s g none.0 none.1 (unwritable f.o there) old)
        where
          zero_of : (s g : ℕ) → 1 ≤ s → s + g ≤ 1 → g ≡ 0
          zero_of s g one most = omega arith

  -- a take keeps the line's numbers, by what is open
  open_line : (o : Option Transaction) → open_at a own ≡ o → (y : Option Transaction) → option_and_then (open_after_take m) o ≡ y → LineKept h a next_copy y dev fr hr fw hw later rs (listing_code listing)
  open_line None is y after =
      let stays = copy_stays (λ at. none-some at.0.o (sym is ∙ ap (λ x. open_at x own) (sym at.1) ∙ at.0.there)) in
      subst (λ z. LineKept h a next_copy z dev fr hr fw hw later rs (listing_code listing)) after (with_copy next_copy None stays (sym (ap (granted_so grants_shared ndr) is)) (sym (ap (granted_so grants_ownership ndr) is)))
  open_line (Some o) is (Some y) after =
      let same_o : (f : Fill own m commit) → f.l ≡ a → f.o ≡ o = λ f at. same_Some f.o o (sym f.there ∙ ap (λ x. open_at x own) at ∙ is) in
      let stays = copy_stays (λ at. none-some y (sym at.0.closed ∙ ap (open_after_take m) (same_o at.0 at.1) ∙ after)) in
      with_copy next_copy (Some y) stays (grants_stay grants_shared picks_shared setup h k own w back a o y is ndr m fits taken row after ∙ sym (ap (granted_so grants_shared ndr) is))
      (grants_stay grants_ownership picks_ownership setup h k own w back a o y is ndr m fits taken row after ∙ sym (ap (granted_so grants_ownership ndr) is))
  open_line (Some o) is None after = by (is_request o.kind) refl
    where
      zeros : (s g : ℕ) → s + g ≡ 0 → (s ≡ 0) × (g ≡ 0)
      zeros s g e = (omega arith, omega arith)

      by : (b : Bool) → is_request o.kind ≡ b → LineKept h a next_copy None dev fr hr fw hw later rs (listing_code listing)
      by true request =
          subst (λ z. LineKept h a next_copy z dev fr hr fw hw later rs (listing_code listing)) (ap (option_and_then (open_after_take m)) is ∙ after)
          (filled_line (fill_here setup h own w commit committed fit back a o is request m row after))
      by false other =
          let none = zeros _ _ (closed_none o is other) in
          let stays = copy_stays (λ at. false≢true (sym other ∙ ap (λ (x : Transaction). is_request x.kind) (sym (same_Some at.0.o o (sym at.0.there ∙ ap (λ x. open_at x own) at.1 ∙ is))) ∙ at.0.request)) in
          with_copy next_copy None stays (sym (ap (granted_so grants_shared ndr) is ∙ none.0)) (sym (ap (granted_so grants_ownership ndr) is ∙ none.1))

  -- a line's numbers are kept by a take
  pub take_line : LineKept h a next_copy (option_and_then (open_after_take m) (open_at a own)) dev (fr ++ on_channel h Channel.Req sends) hr (fw ++ on_channel h Channel.Rwd sends) hw later (rs ++ on_channel h Channel.BiRsp sends) (listing_code listing)
  take_line =
      quiet_none h a next_copy (option_and_then (open_after_take m) (open_at a own)) dev fr hr fw hw later rs (listing_code listing) sends (sent ∙ host_takes_silent setup h m own w row)
      (open_line (open_at a own) refl (option_and_then (open_after_take m) (open_at a own)) refl)
