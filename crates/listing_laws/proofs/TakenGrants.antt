-- The grants of what is open, in flight or taken, after a take: as many as before while it stays open, and one at least before it fills.
use Rattle.std.proofs.Common.{◌≡◌, ℕ, ◌+◌, ◌≤◌, Bool, true, false, List, Option, Some, None, cond, count_by, refl, sym, ◌∙◌, ap, arith, ◌⊎◌, inl, inr}
use Rattle.std.specs.Prelude.{is_none, ◌==◌, ◌&&◌}
use Rattle.std.specs.Option.{option_map_or}
use Rattle.std.proofs.lemmas.Bool.{and_from, false≢true}
use Rattle.std.proofs.lemmas.Option.{none-some, same_Some}
use Rattle.cxl_message.specs.declared.channels.Channel.{Channel}
use Rattle.cxl_message.specs.declared.events.Cause.{Cause}
use Rattle.cxl_message.specs.declared.events.Commit.{Commit}
use Rattle.cxl_message.specs.declared.events.Event.{Event}
use Rattle.cxl_message.specs.declared.identifiers.Bytes64.{Bytes64}
use Rattle.cxl_message.specs.declared.messages.Message.{Message}
use Rattle.cxl_message.specs.declared.opcodes.NdrOp.{NdrOp}
use Rattle.cxl_message.specs.Codes.{channel_eq}
use Rattle.cxl_message.specs.Messages.{channel_of}
use Rattle.cxl_message.specs.Setup.{Configuration}
use Rattle.coherence_model.specs.Copies.{filling_grant}
use Rattle.coherence_model.specs.Emission.{Emission}
use Rattle.coherence_model.specs.Fitting.{cause_fits}
use Rattle.coherence_model.specs.Flight.{takes_on, without_taken}
use Rattle.coherence_model.specs.HostTakes.{host_takes}
use Rattle.coherence_model.specs.ListingFacts.{grants_ownership}
use Rattle.coherence_model.specs.RequestFacts.{grants, is_ndr_with}
use Rattle.coherence_model.specs.Tags.{open_with, tagged_line}
use Rattle.coherence_model.specs.Transactions.{Transaction, is_read, is_request, open_after_completion, open_after_take, open_at}
use Rattle.coherence_model.specs.Words.{one_if}
use Rattle.coherence_lemmas.proofs.Directions.{take_parts}
use Rattle.coherence_lemmas.proofs.HostTakes.{h3_grant-inv}
use Rattle.request_laws.proofs.HostPlaces.{Taken, credit_off_ndr, one_taken, takes_here, takes_off}
use Rattle.request_laws.proofs.OpenLines.{LeadBack}
use Rattle.snoop_laws.proofs.Counts.{Among, among_counts}
use Rattle.listing_laws.proofs.Fits.{open_with_is}
use Rattle.listing_laws.proofs.Owners.{granted_so, grants_shared}
use Rattle.listing_laws.proofs.Takes.{Fill}

-- a test on opcodes that passes grants alone
pub record PicksGrants (p : NdrOp → Bool) : Type 0 where
  pub completes_none : p NdrOp.Cmp ≡ false
  pub acks_none : p NdrOp.ConflictAck ≡ false

-- Cmp-S is a grant
pub picks_shared : PicksGrants grants_shared
picks_shared = record { completes_none = refl; acks_none = refl }

-- Cmp-E is a grant
pub picks_ownership : PicksGrants grants_ownership
picks_ownership = record { completes_none = refl; acks_none = refl }

-- a message of no such kind takes none
no_more : (b c : Bool) (n n' : ℕ) → n ≡ cond (b && c) 1 0 + n' → (b ≡ false ⊎ c ≡ false) → n ≡ n'
no_more true true n n' e none = elim none [ inl h ↦ absurd (false≢true (sym h)) | inr h ↦ absurd (false≢true (sym h)) ]
no_more true false n n' e none = omega arith
no_more false c n n' e none = omega arith

-- a message of the kind takes one
one_more : (b : Bool) (n n' : ℕ) → n ≡ cond (b && true) 1 0 + n' → n' + one_if b ≡ n + 0
one_more true n n' e = omega arith
one_more false n n' e = omega arith

module _ (p : NdrOp → Bool) (picks : PicksGrants p) where
  -- with as many messages of the tag the grants are as before
  same_so : (o y : Transaction) (ndr ndr' : List Message) → count_by (is_ndr_with p o.tag) ndr ≡ count_by (is_ndr_with p o.tag) ndr' → ◌≡◌ {A = Option Transaction} (Some o) (Some y) → granted_so p ndr' (Some y) ≡ granted_so p ndr (Some o)
  same_so o y ndr ndr' counts e =
      ap (λ (z : Transaction). granted_so p ndr' (Some z)) (sym (same_Some o y e)) ∙ ap (λ n. n + one_if (option_map_or p o.grant false)) (sym counts)

  -- a grant that waits for its data counts as before
  waits_so : (c : NdrOp) (b : Bool) (o y : Transaction) (ndr ndr' : List Message) → count_by (is_ndr_with p o.tag) ndr ≡ cond (p c && true) 1 0 + count_by (is_ndr_with p o.tag) ndr' → o.grant ≡ None
      → cond b (Some (record o { grant = Some c })) None ≡ Some y → granted_so p ndr' (Some y) ≡ granted_so p ndr (Some o)
  waits_so c true o y ndr ndr' counts none e =
      ap (λ (z : Transaction). granted_so p ndr' (Some z)) (sym (same_Some (record o { grant = Some c }) y e)) ∙ one_more (p c) (count_by (is_ndr_with p o.tag) ndr) (count_by (is_ndr_with p o.tag) ndr') counts
      ∙ ap (λ g. count_by (is_ndr_with p o.tag) ndr + one_if (option_map_or p g false)) (sym none)
  waits_so c false o y ndr ndr' counts none e = absurd (none-some y e)

  -- what a completion leaves open counts as before
  if_so : (b : Bool) (o y : Transaction) (ndr ndr' : List Message) → count_by (is_ndr_with p o.tag) ndr ≡ count_by (is_ndr_with p o.tag) ndr' → cond b (Some o) None ≡ Some y → granted_so p ndr' (Some y) ≡ granted_so p ndr (Some o)
  if_so true o y ndr ndr' counts e = same_so o y ndr ndr' counts e
  if_so false o y ndr ndr' counts e = absurd (none-some y e)

  -- a taken completion moves its grant from the flight to what is open
  completed_so : (c : NdrOp) (o y : Transaction) (ndr ndr' : List Message) → count_by (is_ndr_with p o.tag) ndr ≡ cond (p c && true) 1 0 + count_by (is_ndr_with p o.tag) ndr' → (grants c ≡ true → o.grant ≡ None)
      → open_after_completion c o ≡ Some y → granted_so p ndr' (Some y) ≡ granted_so p ndr (Some o)
  completed_so NdrOp.Cmp o y ndr ndr' counts none e = if_so (is_request o.kind) o y ndr ndr' (no_more (p NdrOp.Cmp) true _ _ counts (inl picks.completes_none)) e
  completed_so NdrOp.CmpS o y ndr ndr' counts none e = waits_so NdrOp.CmpS (is_read o.kind && is_none o.bytes) o y ndr ndr' counts (none refl) e
  completed_so NdrOp.CmpE o y ndr ndr' counts none e = waits_so NdrOp.CmpE (is_read o.kind && is_none o.bytes) o y ndr ndr' counts (none refl) e
  completed_so NdrOp.ConflictAck o y ndr ndr' counts none e = same_so o y ndr ndr' (no_more (p NdrOp.ConflictAck) true _ _ counts (inl picks.acks_none)) e

  -- a taken completion, by whether it is of the open tag
  ndr_so : (c : NdrOp) (tag : ℕ) (b : Bool) (o y : Transaction) (ndr ndr' : List Message) → (tag == o.tag) ≡ b → count_by (is_ndr_with p o.tag) ndr ≡ cond (p c && (tag == o.tag)) 1 0 + count_by (is_ndr_with p o.tag) ndr'
      → (b ≡ true → grants c ≡ true → o.grant ≡ None) → cond b (open_after_completion c o) (Some o) ≡ Some y → granted_so p ndr' (Some y) ≡ granted_so p ndr (Some o)
  ndr_so c tag true o y ndr ndr' is counts none e = completed_so c o y ndr ndr' (counts ∙ ap (λ x. cond (p c && x) 1 0 + count_by (is_ndr_with p o.tag) ndr') is) (none refl) e
  ndr_so c tag false o y ndr ndr' is counts none e = same_so o y ndr ndr' (no_more (p c) (tag == o.tag) _ _ counts (inr is)) e

  -- taken data leaves the grants
  data_so : (b c : Bool) (bytes : Bytes64) (o y : Transaction) (ndr : List Message) → cond b (cond c (Some (record o { bytes = Some bytes })) None) (Some o) ≡ Some y → granted_so p ndr (Some y) ≡ granted_so p ndr (Some o)
  data_so true true bytes o y ndr e = ap (λ (z : Transaction). granted_so p ndr (Some z)) (sym (same_Some (record o { bytes = Some bytes }) y e))
  data_so true false bytes o y ndr e = absurd (none-some y e)
  data_so false c bytes o y ndr e = ap (λ (z : Transaction). granted_so p ndr (Some z)) (sym (same_Some o y e))

  module _ (setup : Configuration) (h k : ℕ) (own : List Event) (w : Emission) (back : LeadBack setup (λ b. open_at b own) (λ t. tagged_line t own)) (a : ℕ) (o y : Transaction) (there : open_at a own ≡ Some o) (ndr : List Message) where
    off_so : (m : Message) → channel_eq (channel_of m) Channel.Ndr ≡ false → granted_so p ndr (Some y) ≡ granted_so p ndr (Some o) → granted_so p (without_taken (takes_on h Channel.Ndr (Cause.Take k m)) ndr) (Some y) ≡ granted_so p ndr (Some o)
    off_so m off same = ap (λ x. granted_so p (without_taken x ndr) (Some y)) (takes_off h k Channel.Ndr m off) ∙ same

    first_grant : (c : NdrOp) (tag : ℕ) → host_takes setup h (Message.Ndr c (record { 0 = tag })) own ≡ Some w → (tag == o.tag) ≡ true → grants c ≡ true → o.grant ≡ None
    first_grant NdrOp.Cmp tag row same is = absurd (false≢true is)
    first_grant NdrOp.CmpS tag row same is =
        let g = h3_grant-inv NdrOp.CmpS (open_with tag own) w row in ap (λ (z : Transaction). z.grant) (sym (open_with_is setup own a o g.o tag back there same g.is_open)) ∙ g.first
    first_grant NdrOp.CmpE tag row same is =
        let g = h3_grant-inv NdrOp.CmpE (open_with tag own) w row in ap (λ (z : Transaction). z.grant) (sym (open_with_is setup own a o g.o tag back there same g.is_open)) ∙ g.first
    first_grant NdrOp.ConflictAck tag row same is = absurd (false≢true is)

    -- what stays open has as many grants as before
    pub grants_stay : (m : Message) → cause_fits setup h (Cause.Take k m) ≡ true → Taken (takes_on h Channel.Ndr (Cause.Take k m)) ndr → host_takes setup h m own ≡ Some w → open_after_take m o ≡ Some y
        → granted_so p (without_taken (takes_on h Channel.Ndr (Cause.Take k m)) ndr) (Some y) ≡ granted_so p ndr (Some o)
    grants_stay (Message.Req op meta snp tag line) fits taken row e = absurd (none-some w row)
    grants_stay (Message.MemWr meta snp tag line bytes) fits taken row e = absurd (none-some w row)
    grants_stay (Message.BiConflict tag) fits taken row e = absurd (none-some w row)
    grants_stay (Message.BiRsp op bitag low) fits taken row e = absurd (none-some w row)
    grants_stay (Message.Ndr c tag) fits taken row e =
        let m : Message = Message.Ndr c tag in
        ndr_so c tag.0 (tag.0 == o.tag) o y ndr (without_taken (takes_on h Channel.Ndr (Cause.Take k m)) ndr) refl
        (one_taken (takes_on h Channel.Ndr (Cause.Take k m)) m ndr taken (takes_here h k Channel.Ndr m (sym (take_parts setup h k m fits).receiver) refl) (is_ndr_with p o.tag))
        (first_grant c tag.0 row) e
    grants_stay (Message.MemData tag bytes) fits taken row e = off_so (Message.MemData tag bytes) refl (data_so (tag.0 == o.tag) (is_none o.grant) bytes o y ndr e)
    grants_stay (Message.BiSnp op bitag line span) fits taken row e = off_so (Message.BiSnp op bitag line span) refl (same_so o y ndr ndr refl e)
    grants_stay (Message.Credit c) fits taken row e = off_so (Message.Credit c) (credit_off_ndr c) (same_so o y ndr ndr refl e)

-- ---- fills

-- a grant that was taken counts
kept_grant : (p : NdrOp → Bool) (o : Transaction) (c : NdrOp) (ndr : List Message) → p c ≡ true → o.grant ≡ Some c → 1 ≤ granted_so p ndr (Some o)
kept_grant p o c ndr passes is =
    let one : one_if (option_map_or p o.grant false) ≡ 1 = ap (λ g. one_if (option_map_or p g false)) is ∙ ap one_if passes in
    omega arith

-- a message that closes what is open has its tag
named_by : (b : Bool) (o : Transaction) (x : Option Transaction) → cond b x (Some o) ≡ None → b ≡ true
named_by true o x e = refl
named_by false o x e = absurd (none-some o (sym e))

-- the grant of a fill counts, by what was taken
fill_by : (p : NdrOp → Bool) (m : Message) (o : Transaction) (c : NdrOp) (ndr : List Message) → p c ≡ true → filling_grant m (Some o) ≡ Some c → open_after_take m o ≡ None
    → ((op : NdrOp) (t : ℕ) → m ≡ Message.Ndr op (record { 0 = t }) → Among m ndr) → 1 ≤ granted_so p ndr (Some o)
fill_by p (Message.Req _ _ _ _ _) o c ndr passes is closed there = kept_grant p o c ndr passes is
fill_by p (Message.MemWr _ _ _ _ _) o c ndr passes is closed there = kept_grant p o c ndr passes is
fill_by p (Message.BiConflict _) o c ndr passes is closed there = kept_grant p o c ndr passes is
fill_by p (Message.BiRsp _ _ _) o c ndr passes is closed there = kept_grant p o c ndr passes is
fill_by p (Message.Ndr op tag) o c ndr passes is closed there =
    let same : op ≡ c = same_Some op c is in
    let some = among_counts (is_ndr_with p o.tag) (Message.Ndr op tag) ndr (and_from (p op) (tag.0 == o.tag) (ap p same ∙ passes) (named_by (tag.0 == o.tag) o (open_after_completion op o) closed)) (there op tag.0 refl) in
    omega arith
fill_by p (Message.MemData _ _) o c ndr passes is closed there = kept_grant p o c ndr passes is
fill_by p (Message.BiSnp _ _ _ _) o c ndr passes is closed there = kept_grant p o c ndr passes is
fill_by p (Message.Credit _) o c ndr passes is closed there = kept_grant p o c ndr passes is

-- before a fill its grant was on its way
pub fill_granted : (p : NdrOp → Bool) (own : List Event) (m : Message) (commit : Option Commit) (ndr : List Message) (f : Fill own m commit) → p f.grant ≡ true
    → ((op : NdrOp) (t : ℕ) → m ≡ Message.Ndr op (record { 0 = t }) → Among m ndr) → 1 ≤ granted_so p ndr (Some f.o)
fill_granted p own m commit ndr f passes there = fill_by p m f.o f.grant ndr passes f.source f.closed there
