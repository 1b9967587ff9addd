-- The laws of listings and of the only copy, by the numbers of each line.
use Rattle.std.proofs.Common.{◌≡◌, ℕ, ◌+◌, ◌≤◌, ◌<◌, Bool, true, false, IsTrue, List, Option, Some, None, count_by, refl, sym, ◌∙◌, ap, arith, ◌⊎◌, inl, inr}
use Rattle.std.specs.Prelude.{is_some, nat_le, not, ◌==◌, ◌&&◌, ◌||◌}
use Rattle.std.specs.List.{list_all, list_any}
use Rattle.std.specs.Option.{option_map_or}
use Rattle.std.proofs.lemmas.Bool.{and_from, and_parts, cases_eq, eq-eqb, false≢true, le-leb, leb-true, lt-ltb, not_from_false, or_cases, or_left, or_right}
use Rattle.std.proofs.lemmas.Option.{same_Some}
use Rattle.cxl_message.specs.declared.channels.Channel.{Channel}
use Rattle.cxl_message.specs.declared.events.Event.{Event}
use Rattle.cxl_message.specs.declared.identifiers.Bytes64.{Bytes64}
use Rattle.cxl_message.specs.declared.identifiers.Line.{Line}
use Rattle.cxl_message.specs.declared.messages.Message.{Message}
use Rattle.cxl_message.specs.declared.opcodes.NdrOp.{NdrOp}
use Rattle.cxl_message.specs.declared.states.Listing.{Listing}
use Rattle.cxl_message.specs.Codes.{listing_code}
use Rattle.cxl_message.specs.Lists.{below}
use Rattle.cxl_message.specs.Setup.{Configuration, IsWithinLimits}
use Rattle.coherence_model.specs.Buffers.{buffered_requests, buffered_writes}
use Rattle.coherence_model.specs.Cache.{copy, has_copy, is_writable}
use Rattle.coherence_model.specs.Coherence.{is_only_copy}
use Rattle.coherence_model.specs.Copies.{evicts}
use Rattle.coherence_model.specs.Directory.{Directory, is_listed, is_listed_any}
use Rattle.coherence_model.specs.DirectoryChanges.{directory}
use Rattle.coherence_model.specs.Fitting.{is_host}
use Rattle.coherence_model.specs.Flight.{in_flight}
use Rattle.coherence_model.specs.ListingFacts.{copy_is_listed, grants_ownership, is_given_up, is_granted_now, is_granted_ownership, is_listed_alone, listing_is_kept, owner_is_kept}
use Rattle.coherence_model.specs.RequestFacts.{grant_count, is_ndr_with, requests_under_way, writes_under_way}
use Rattle.coherence_model.specs.Runs.{IsRun}
use Rattle.coherence_model.specs.SnoopFacts.{answers_line}
use Rattle.coherence_model.specs.Traces.{device, events_of}
use Rattle.coherence_model.specs.Transactions.{Transaction, is_request, open_at}
use Rattle.coherence_model.specs.Words.{implies, one_if}
use Rattle.request_laws.proofs.Below.{all_below}
use Rattle.request_laws.proofs.Counts.{count_by-append, list_any-count}
use Rattle.listing_laws.proofs.AnswersTaken.{count_weaker}
use Rattle.listing_laws.proofs.Copies.{writable_count}
use Rattle.listing_laws.proofs.HostLines.{flag, flag_up}
use Rattle.listing_laws.proofs.LineRuns.{line_seen}
use Rattle.listing_laws.proofs.Owners.{granted_so, grants_shared, no_grants, split_grants}
use Rattle.listing_laws.proofs.Pairs.{pair_seen}
use Rattle.listing_laws.proofs.WriteBackLines.{cleans_line, writes_line}
use Rattle.listing_laws.specs.Laws.{ListingsAreKept, WritableCopiesAreAlone}

-- an implication as a Bool
implied : (b c : Bool) → (b ≡ true → c ≡ true) → implies b c ≡ true
implied true c f = f refl
implied false c f = refl

-- a Bool that is at least 1 is true
flag_of : (b : Bool) → 1 ≤ one_if b → b ≡ true
flag_of true h = refl
flag_of false h = absurd (omega arith)

-- a listing of at least 1 is listed
listed_of : (l : Listing) → 1 ≤ listing_code l → nat_le 1 (listing_code l) ≡ true
listed_of Listing.I h = absurd (omega arith)
listed_of Listing.S h = refl
listed_of Listing.A h = refl

-- a listing of at least 2 is A
owned_of : (l : Listing) → 2 ≤ listing_code l → (listing_code l == 2) ≡ true
owned_of Listing.I h = absurd (omega arith)
owned_of Listing.S h = absurd (omega arith)
owned_of Listing.A h = refl

-- a listing that is A is 2
owned_code : (l : Listing) → (listing_code l == 2) ≡ true → listing_code l ≡ 2
owned_code Listing.I h = absurd (false≢true h)
owned_code Listing.S h = absurd (false≢true h)
owned_code Listing.A h = refl

-- a listing of 0 isn't listed
unlisted_of : (l : Listing) → listing_code l ≡ 0 → nat_le 1 (listing_code l) ≡ false
unlisted_of Listing.I h = refl
unlisted_of Listing.S h = absurd (omega arith)
unlisted_of Listing.A h = absurd (omega arith)

-- a Bool that is 0 is false
no_flag : (b : Bool) → one_if b ≡ 0 → not b ≡ true
no_flag true h = absurd (omega arith)
no_flag false h = refl

-- a MemWr of the line gives it up
writes_evict : (a : ℕ) (m : Message) → writes_line a m ≡ true → evicts a m ≡ true
writes_evict a (Message.Req _ _ _ _ _) h = absurd (false≢true h)
writes_evict a (Message.MemWr _ _ _ _ _) h = h
writes_evict a (Message.BiConflict _) h = h
writes_evict a (Message.BiRsp _ _ _) h = h
writes_evict a (Message.Ndr _ _) h = h
writes_evict a (Message.MemData _ _) h = h
writes_evict a (Message.BiSnp _ _ _ _) h = h
writes_evict a (Message.Credit _) h = h

-- a MemClnEvct of the line gives it up
cleans_evict : (a : ℕ) (m : Message) → cleans_line a m ≡ true → evicts a m ≡ true
cleans_evict a (Message.Req _ _ _ _ _) h = h
cleans_evict a (Message.MemWr _ _ _ _ _) h = absurd (false≢true h)
cleans_evict a (Message.BiConflict _) h = h
cleans_evict a (Message.BiRsp _ _ _) h = h
cleans_evict a (Message.Ndr _ _) h = h
cleans_evict a (Message.MemData _ _) h = h
cleans_evict a (Message.BiSnp _ _ _ _) h = h
cleans_evict a (Message.Credit _) h = h

-- what is counted is there
any_of : (p : Message → Bool) (ms : List Message) → 1 ≤ count_by p ms → list_any p ms ≡ true
any_of p ms some = list_any-count p ms ∙ le-leb 1 (count_by p ms) some

-- an open request's grants
owning_by : (o : Option Transaction) (ndr : List Message)
    → option_map_or (λ (o : Transaction). is_request o.kind && (nat_le 1 (count_by (is_ndr_with grants_ownership o.tag) ndr) || option_map_or grants_ownership o.grant false)) o false ≡ true → 1 ≤ granted_so grants_ownership ndr o
owning_by None ndr h = absurd (false≢true h)
owning_by (Some o) ndr h = elim (or_cases (nat_le 1 (count_by (is_ndr_with grants_ownership o.tag) ndr)) _ (and_parts (is_request o.kind) _ h).1) [
  | inl flying ↦ (let some = leb-true 1 (count_by (is_ndr_with grants_ownership o.tag) ndr) flying in omega arith)
  | inr taken ↦ (let one = flag_up _ taken in omega arith)
]

-- a taken Cmp-E is a taken grant
some_grant : (o : Option NdrOp) → one_if (option_map_or grants_ownership o false) ≤ one_if (is_some o)
some_grant None = omega arith
some_grant (Some c) = flag (grants_ownership c)

-- a counted Cmp-E is a grant on its way of the open request
granted_by : (setup : Configuration) (opening : List (Line × Bytes64)) (limits : IsWithinLimits setup) (h : ℕ) (host : IsTrue (is_host setup h)) (t : List Event) (run : IsRun setup opening t) (a : ℕ) (o : Option Transaction)
    → open_at a (events_of h t) ≡ o → 1 ≤ granted_so grants_ownership (in_flight h Channel.Ndr t) o → option_map_or (λ (o : Transaction). is_request o.kind && nat_le 1 (grant_count h t o)) o false ≡ true
granted_by setup opening limits h host t run a None is some = absurd (omega arith)
granted_by setup opening limits h host t run a (Some o) is some =
    let split = split_grants o.tag (in_flight h Channel.Ndr t) in
    let taken = some_grant o.grant in
    and_from _ _ (by (is_request o.kind) refl) (le-leb 1 (grant_count h t o) (omega arith))
  where
    by : (b : Bool) → is_request o.kind ≡ b → b ≡ true
    by true e = refl
    by false e =
        let none = no_grants setup opening limits h host t run a (λ x there request. false≢true (sym e ∙ ap (λ (y : Transaction). is_request y.kind) (same_Some o x (sym is ∙ there)) ∙ request)) in
        let zero = sym (ap (λ x. granted_so grants_shared (in_flight h Channel.Ndr t) x + granted_so grants_ownership (in_flight h Channel.Ndr t) x) is) ∙ none in
        absurd (omega arith)

module _ (setup : Configuration) (opening : List (Line × Bytes64)) (limits : IsWithinLimits setup) (t : List Event) (run : IsRun setup opening t) where
  -- the device's own events
  abbrev dev : List Event
  dev = events_of device t

  -- the directory
  abbrev D : Directory
  D = directory setup (events_of device t)

  -- one host and line
  module _ (h : ℕ) (host : IsTrue (is_host setup h)) (a : ℕ) (exists : a < setup.lines) where
    copy_listed : has_copy setup a (events_of h t) ≡ true → is_listed D a h ≡ true
    copy_listed valid =
        let kept = line_seen setup opening limits h host a exists t run in
        let one = flag_up _ valid in
        listed_of (D.listed a h) (omega arith)

    writable_owned : is_writable setup a (events_of h t) ≡ true → 2 ≤ listing_code (D.listed a h)
    writable_owned writable =
        let kept = line_seen setup opening limits h host a exists t run in
        let one = flag_up _ writable in
        omega arith

    granted_owned : is_granted_ownership h a t ≡ true → 2 ≤ listing_code (D.listed a h)
    granted_owned granted =
        let kept = line_seen setup opening limits h host a exists t run in
        let some = owning_by (open_at a (events_of h t)) (in_flight h Channel.Ndr t) granted in
        omega arith

    owned_listed : (is_writable setup a (events_of h t) || is_granted_ownership h a t) ≡ true → is_listed_any D a h ≡ true
    owned_listed owned = owned_of (D.listed a h) (elim (or_cases (is_writable setup a (events_of h t)) (is_granted_ownership h a t) owned) [
      | inl writable ↦ writable_owned writable
      | inr granted ↦ granted_owned granted
    ])

    copies : copy_is_listed setup D t h a ≡ true
    copies = and_from _ _ (implied (has_copy setup a (events_of h t)) (is_listed D a h) copy_listed) (implied (is_writable setup a (events_of h t) || is_granted_ownership h a t) (is_listed_any D a h) owned_listed)

    listed_alone : listing_code (D.listed a h) ≡ 2 → is_listed_alone setup D h a ≡ true
    listed_alone two = all_below (λ g. (g == h) || not (is_listed D a g)) setup.hosts (λ g less. elim (cases_eq g h) [
      | inl same ↦ or_left _ _ (eq-eqb g h same)
      | inr differ ↦ (
          let pair = pair_seen setup opening limits h g (λ same. differ (sym same)) host (lt-ltb g setup.hosts less) a exists t run in
          or_right (g == h) _ (not_from_false _ (unlisted_of (D.listed a g) (omega arith)))
          )
    ])

    -- who is listed A has the line, gets it or gives it up
    owner_by : (x g w e r : ℕ) → 2 ≤ 1 + x + g + w + e + r → (1 ≤ x) ⊎ ((1 ≤ g) ⊎ ((1 ≤ w) ⊎ ((1 ≤ e) ⊎ (1 ≤ r))))
    owner_by x g w e r h' = grind arith

    valid_from : 1 ≤ writable_count (copy setup a (events_of h t)) → has_copy setup a (events_of h t) ≡ true
    valid_from some = (let kept = line_seen setup opening limits h host a exists t run in flag_of (has_copy setup a (events_of h t)) (omega arith))

    given_writes : 1 ≤ count_by (writes_line a) (in_flight h Channel.Rwd t) + count_by (writes_line a) (buffered_writes h dev) → list_any (evicts a) (writes_under_way h t) ≡ true
    given_writes some =
        let sum = count_by-append (writes_line a) (in_flight h Channel.Rwd t) (buffered_writes h dev) in
        let less = count_weaker (writes_line a) (evicts a) (writes_evict a) (writes_under_way h t) in
        any_of (evicts a) (writes_under_way h t) (omega arith)

    given_cleans : 1 ≤ count_by (cleans_line a) (in_flight h Channel.Req t) + count_by (cleans_line a) (buffered_requests h dev) → list_any (evicts a) (requests_under_way h t) ≡ true
    given_cleans some =
        let sum = count_by-append (cleans_line a) (in_flight h Channel.Req t) (buffered_requests h dev) in
        let less = count_weaker (cleans_line a) (evicts a) (cleans_evict a) (requests_under_way h t) in
        any_of (evicts a) (requests_under_way h t) (omega arith)

    owner_has : listing_code (D.listed a h) ≡ 2 → (has_copy setup a (events_of h t) || is_granted_now h a t || is_given_up h a t) ≡ true
    owner_has two =
        let kept = line_seen setup opening limits h host a exists t run in
        elim (owner_by (writable_count (copy setup a (events_of h t))) (granted_so grants_ownership (in_flight h Channel.Ndr t) (open_at a (events_of h t)))
        (count_by (writes_line a) (in_flight h Channel.Rwd t) + count_by (writes_line a) (buffered_writes h dev)) (count_by (cleans_line a) (in_flight h Channel.Req t) + count_by (cleans_line a) (buffered_requests h dev))
        (count_by (answers_line h a dev) (in_flight h Channel.BiRsp t)) (omega arith)) [
          | inl x ↦ or_left _ _ (or_left _ _ (valid_from x))
          | inr rest ↦ (elim rest [
            | inl g ↦ or_left _ _ (or_right _ _ (granted_by setup opening limits h host t run a (open_at a (events_of h t)) refl g))
            | inr given ↦ (elim given [
              | inl w ↦ or_right _ _ (or_left _ _ (or_right _ _ (given_writes w)))
              | inr more ↦ (elim more [
                | inl e ↦ or_right _ _ (or_left _ _ (or_left _ _ (given_cleans e)))
                | inr r ↦ or_right _ _ (or_right _ _ (any_of (answers_line h a dev) (in_flight h Channel.BiRsp t) r))
              ])
            ])
          ])
        ]

    owners : owner_is_kept setup D t h a ≡ true
    owners = implied (is_listed_any D a h) _ (λ owned. (let two = owned_code (D.listed a h) owned in and_from _ _ (listed_alone two) (owner_has two)))

    pub listing_kept : listing_is_kept setup t h a ≡ true
    listing_kept = and_from _ _ copies owners

    -- a writable copy is the only one
    pub only_copy : is_only_copy setup t a h ≡ true
    only_copy = by (is_writable setup a (events_of h t)) refl
      where
        others : is_writable setup a (events_of h t) ≡ true → list_all (λ g. (g == h) || not (has_copy setup a (events_of g t))) (below setup.hosts) ≡ true
        others writable = all_below (λ g. (g == h) || not (has_copy setup a (events_of g t))) setup.hosts (λ g less. elim (cases_eq g h) [
          | inl same ↦ or_left _ _ (eq-eqb g h same)
          | inr differ ↦ (
              let other = lt-ltb g setup.hosts less in
              let pair = pair_seen setup opening limits h g (λ same. differ (sym same)) host other a exists t run in
              let owned = writable_owned writable in
              let kept = line_seen setup opening limits g other a exists t run in
              or_right (g == h) _ (no_flag (has_copy setup a (events_of g t)) (omega arith))
              )
        ])

        by : (b : Bool) → is_writable setup a (events_of h t) ≡ b → (not b || list_all (λ g. (g == h) || not (has_copy setup a (events_of g t))) (below setup.hosts)) ≡ true
        by true is = others is
        by false is = refl

-- after every run the listings are kept
pub listings_kept : ListingsAreKept
listings_kept setup opening limits t run =
    all_below (λ h. list_all (listing_is_kept setup t h) (below setup.lines)) setup.hosts
    (λ h less. all_below (listing_is_kept setup t h) setup.lines (λ a exists. listing_kept setup opening limits t run h (lt-ltb h setup.hosts less) a exists))

-- and each writable copy is the only one
pub copies_alone : WritableCopiesAreAlone
copies_alone setup opening limits t run =
    all_below (λ a. list_all (is_only_copy setup t a) (below setup.hosts)) setup.lines
    (λ a exists. all_below (is_only_copy setup t a) setup.hosts (λ h less. only_copy setup opening limits t run h (lt-ltb h setup.hosts less) a exists))
