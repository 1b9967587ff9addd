-- After every run two hosts are listed for a line only where neither is listed A.
use Rattle.std.proofs.Common.{◌≡◌, ℕ, ◌+◌, ◌*◌, ◌≤◌, ◌<◌, Bool, true, false, IsTrue, List, [], ◌∷◌, Option, Some, None, cond, count_by, refl, sym, ◌∙◌, ap, subst, arith, inl, inr}
use Rattle.std.specs.Prelude.{nat_le, not, option_and_then, ◌==◌, ◌&&◌, ◌||◌}
use Rattle.std.proofs.lemmas.Bool.{and_from, and_parts, cases_eq, eq-eqb, eqb-true, false≢true, false_from_ne_true, ltb-true, ne_eqb, not-true, not_from_false}
use Rattle.std.proofs.lemmas.Option.{same_Some}
use Rattle.cxl_message.specs.declared.channels.Channel.{Channel}
use Rattle.cxl_message.specs.declared.events.Act.{Act}
use Rattle.cxl_message.specs.declared.events.Cause.{Cause}
use Rattle.cxl_message.specs.declared.events.Event.{Event}
use Rattle.cxl_message.specs.declared.events.Sends.{Sends}
use Rattle.cxl_message.specs.declared.identifiers.BiTag.{BiTag}
use Rattle.cxl_message.specs.declared.identifiers.Bytes64.{Bytes64}
use Rattle.cxl_message.specs.declared.identifiers.Line.{Line}
use Rattle.cxl_message.specs.declared.identifiers.Tag.{Tag}
use Rattle.cxl_message.specs.declared.messages.Message.{Message}
use Rattle.cxl_message.specs.declared.opcodes.Meta.{Meta}
use Rattle.cxl_message.specs.declared.opcodes.NdrOp.{NdrOp}
use Rattle.cxl_message.specs.declared.opcodes.RspOp.{RspOp}
use Rattle.cxl_message.specs.declared.states.Listing.{Listing}
use Rattle.cxl_message.specs.Codes.{listing_code}
use Rattle.cxl_message.specs.Lists.{is_in}
use Rattle.cxl_message.specs.Messages.{line_in}
use Rattle.cxl_message.specs.Setup.{Configuration, IsWithinLimits}
use Rattle.coherence_model.specs.Buffers.{buffered_requests, buffered_writes, message_with, without_tag}
use Rattle.coherence_model.specs.Copies.{is_shared_meta, is_shared_response}
use Rattle.coherence_model.specs.Directory.{Directory, has_entry, is_listed, is_listed_any, is_to_ask, victim_block}
use Rattle.coherence_model.specs.DirectoryChanges.{answered_lines, directory, directory_after, directory_after_clean, directory_after_serve, granted_listing, listing_after_response, listing_after_write, listings_after_finish}
use Rattle.coherence_model.specs.Fitting.{is_host}
use Rattle.coherence_model.specs.Flight.{in_flight, takes_on}
use Rattle.coherence_model.specs.Runs.{IsRun}
use Rattle.coherence_model.specs.SentSnoops.{is_asked}
use Rattle.coherence_model.specs.Tasks.{Purpose, Task}
use Rattle.coherence_model.specs.Traces.{device, events_of}
use Rattle.entry_laws.proofs.Blocks.{all_below}
use Rattle.request_laws.proofs.AllPlaces.{there}
use Rattle.request_laws.proofs.Below.{any_below}
use Rattle.request_laws.proofs.Each.{found_message}
use Rattle.request_laws.proofs.OwnRuns.{host_is_no_device}
use Rattle.snoop_laws.proofs.Counts.{Among, among_counts, found_among}
use Rattle.listing_laws.proofs.Grants.{DeviceGrants, FinishedFor, GrantOf, NoGrant, OneGrant, OwningGrant, SharedGrant, SoleGrant, device_grants}
use Rattle.listing_laws.proofs.Induction.{DeviceEvent, Seen, always}
use Rattle.listing_laws.proofs.LineDevice.{each_true}
use Rattle.listing_laws.proofs.LineDeviceActs.{evict_listed, start_listed}
use Rattle.listing_laws.proofs.LineRuns.{line_seen}
use Rattle.listing_laws.proofs.Lines.{answers_shared}
use Rattle.listing_laws.proofs.WriteBackLines.{writes_line}

-- how a host is listed for a line
abbrev pub code : Configuration → List Event → ℕ → ℕ → ℕ
code setup dev a h = listing_code ((directory setup dev).listed a h)

-- equal numbers are at most each other
same_less : (n m : ℕ) → n ≡ m → n ≤ m
same_less n m e = omega arith

-- at most, by way of another
least : (n m k : ℕ) → n ≤ m → m ≤ k → n ≤ k
least n m k x y = omega arith

-- a dropped listing is no more
gone_less : (b : Bool) (l : Listing) → listing_code (cond b Listing.I l) ≤ listing_code l
gone_less true l = omega arith
gone_less false l = omega arith

-- after a served MemWr the listing is at most S
write_low : (b : Bool) → listing_code (cond b Listing.S Listing.I) ≤ 1
write_low true = omega arith
write_low false = omega arith

module _ (setup : Configuration) (opening : List (Line × Bytes64)) (limits : IsWithinLimits setup) (h : ℕ) (host : IsTrue (is_host setup h)) (a : ℕ) (exists : a < setup.lines) (past : List Event) (run : IsRun setup opening past) where
  -- the device's own events
  abbrev dev : List Event
  dev = events_of device past

  -- the directory
  abbrev D : Directory
  D = directory setup (events_of device past)

  -- the answers in flight
  abbrev rs : List Message
  rs = in_flight h Channel.BiRsp past

  -- a shared answer's host is listed, and so is the host of a MemWr
  answers_listed : count_by (answers_shared h a dev) rs ≤ code setup dev a h
  answers_listed = let kept = line_seen setup opening limits h host a exists past run in omega arith

  -- a line with a MemWr under way is listed A
  writes_listed : 2 * (count_by (writes_line a) (in_flight h Channel.Rwd past) + count_by (writes_line a) (buffered_writes h dev)) ≤ code setup dev a h
  writes_listed = let kept = line_seen setup opening limits h host a exists past run in omega arith

  -- an answer leaves a listing that is no higher
  answer_less : (op : RspOp) (bitag : BiTag) (low : ℕ) → Among (Message.BiRsp op bitag low) rs → (hit : Bool) → is_in a (answered_lines op h bitag.0 (bitag.0 + low) dev) ≡ hit → listing_code (cond hit (listing_after_response op) (D.listed a h)) ≤ code setup dev a h
  answer_less op bitag low among false is = omega arith
  answer_less op bitag low among true is = by (is_shared_response op) refl
    where
      by : (b : Bool) → is_shared_response op ≡ b → listing_code (cond b Listing.S Listing.I) ≤ code setup dev a h
      by false its = omega arith
      by true its =
          let some = among_counts (answers_shared h a dev) (Message.BiRsp op bitag low) rs (and_from _ _ is its) among in
          let listed = answers_listed in
          omega arith

  -- a take adds no listing
  take_less : (k : ℕ) (m : Message) (sends : Sends) → ((n : Message) → takes_on h Channel.BiRsp (Cause.Take k m) ≡ Some n → Among n rs) → listing_code ((directory_after setup (Cause.Take k m) sends dev D).listed a h) ≤ code setup dev a h
  take_less k (Message.Req _ _ _ _ _) sends among = omega arith
  take_less k (Message.MemWr _ _ _ _ _) sends among = omega arith
  take_less k (Message.BiConflict _) sends among = omega arith
  take_less k (Message.BiRsp op bitag low) sends among = elim (cases_eq h k) [
    | inl same ↦ (
        subst (λ x. listing_code (cond ((h == x) && is_in a (answered_lines op x bitag.0 (bitag.0 + low) dev)) (listing_after_response op) (D.listed a h)) ≤ code setup dev a h) same
        (subst (λ b. listing_code (cond (b && is_in a (answered_lines op h bitag.0 (bitag.0 + low) dev)) (listing_after_response op) (D.listed a h)) ≤ code setup dev a h) (sym (eq-eqb h h refl))
        (answer_less op bitag low (among (Message.BiRsp op bitag low) (ap (λ b. cond (b && true) (Some (Message.BiRsp op bitag low)) None) (eq-eqb k h (sym same)))) (is_in a (answered_lines op h bitag.0 (bitag.0 + low) dev)) refl))
        )
    | inr differ ↦ same_less _ _ (ap (λ b. listing_code (cond (b && is_in a (answered_lines op k bitag.0 (bitag.0 + low) dev)) (listing_after_response op) (D.listed a h))) (ne_eqb h k differ))
  ]
  take_less k (Message.Ndr _ _) sends among = omega arith
  take_less k (Message.MemData _ _) sends among = omega arith
  take_less k (Message.BiSnp _ _ _ _) sends among = omega arith
  take_less k (Message.Credit _) sends among = omega arith

  -- a served MemWr adds no listing
  write_less : (k : ℕ) (tag : Tag) (meta : Meta) (line : Line) (m : Message) → message_with tag.0 (buffered_writes k dev) ≡ Some m → ((b : ℕ) → writes_line b m ≡ (line.0 == b)) → (hit : Bool) → ((h == k) && ((a == line.0) || false)) ≡ hit
      → listing_code (cond hit (listing_after_write meta (has_entry setup D line.0)) (D.listed a h)) ≤ code setup dev a h
  write_less k tag meta line m found writes false is = omega arith
  write_less k tag meta line m found writes true is =
      let parts = and_parts (h == k) _ is in
      let same = eqb-true h k parts.0 in
      let fm = found_message (λ x. Unit {0}) tag.0 m (buffered_writes h dev) (each_true (buffered_writes h dev)) (subst (λ x. message_with tag.0 (buffered_writes x dev) ≡ Some m) (sym same) found) in
      let its : writes_line a m ≡ true = writes a ∙ eq-eqb line.0 a (sym (or_line parts.1)) in
      let counts = fm.less (writes_line a) ∙ ap {B = ℕ} (λ b. cond b 1 0 + count_by (writes_line a) (without_tag tag.0 (buffered_writes h dev))) its in
      let listed = writes_listed in
      least _ 1 _ (write_low (is_shared_meta meta && has_entry setup D line.0)) (omega arith)
    where
      or_line : ((a == line.0) || false) ≡ true → a ≡ line.0
      or_line e = eqb-true a line.0 (by (a == line.0) e)
        where
          by : (b : Bool) → (b || false) ≡ true → b ≡ true
          by true e' = refl
          by false e' = e'

  -- a serve adds no listing
  serve_less : (k : ℕ) (tag : Tag) (found : Option Message) → message_with tag.0 (buffered_writes k dev) ≡ found → listing_code ((directory_after_serve setup k found D).listed a h) ≤ code setup dev a h
  serve_less k tag None is = omega arith
  serve_less k tag (Some (Message.Req _ _ _ _ _)) is = omega arith
  serve_less k tag (Some (Message.MemWr meta snp t line bytes)) is = write_less k tag meta line (Message.MemWr meta snp t line bytes) is (λ b. refl) ((h == k) && ((a == line.0) || false)) refl
  serve_less k tag (Some (Message.BiConflict _)) is = omega arith
  serve_less k tag (Some (Message.BiRsp _ _ _)) is = omega arith
  serve_less k tag (Some (Message.Ndr _ _)) is = omega arith
  serve_less k tag (Some (Message.MemData _ _)) is = omega arith
  serve_less k tag (Some (Message.BiSnp _ _ _ _)) is = omega arith
  serve_less k tag (Some (Message.Credit _)) is = omega arith

  -- a clean adds no listing
  clean_less : (k : ℕ) (line : Option ℕ) → listing_code ((directory_after_clean setup k line D).listed a h) ≤ code setup dev a h
  clean_less k None = omega arith
  clean_less k (Some line) = gone_less ((h == k) && is_in a (line ∷ [])) (D.listed a h)

  -- an event that doesn't list the host for the line leaves a listing that is no higher
  pub listing_less : (cause : Cause) (sends : Sends) → ((n : Message) → takes_on h Channel.BiRsp cause ≡ Some n → Among n rs) → ((l : Line) → cause ≡ Cause.Act (Act.Finish l) → listings_after_finish l.0 sends D.listed a h ≡ D.listed a h)
      → listing_code ((directory_after setup cause sends dev D).listed a h) ≤ code setup dev a h
  listing_less (Cause.Op s i op) sends among finished = omega arith
  listing_less (Cause.Take k m) sends among finished = take_less k m sends among
  listing_less (Cause.Act (Act.Conflict _)) sends among finished = omega arith
  listing_less (Cause.Act (Act.WriteBack _)) sends among finished = omega arith
  listing_less (Cause.Act (Act.Answer _)) sends among finished = omega arith
  listing_less (Cause.Act (Act.AnswerBlock _)) sends among finished = omega arith
  listing_less (Cause.Act (Act.HostReturn _)) sends among finished = omega arith
  listing_less (Cause.Act (Act.Serve k tag)) sends among finished = serve_less k tag (message_with tag.0 (buffered_writes k dev)) refl
  listing_less (Cause.Act (Act.Clean k tag)) sends among finished = clean_less k (option_and_then line_in (message_with tag.0 (buffered_requests k dev)))
  listing_less (Cause.Act (Act.Start k tag)) sends among finished = same_less _ _ (ap (λ f. listing_code (f a h)) (start_listed k (message_with tag.0 (buffered_requests k dev)) D))
  listing_less (Cause.Act (Act.Evict k tag)) sends among finished = same_less _ _ (ap (λ f. listing_code (f a h)) (evict_listed k tag (victim_block D) D))
  listing_less (Cause.Act (Act.Snoop _ _)) sends among finished = omega arith
  listing_less (Cause.Act (Act.Finish line)) sends among finished = same_less _ _ (ap listing_code (finished line refl))
  listing_less (Cause.Act (Act.DeviceReturn _ _)) sends among finished = omega arith

  -- ---- a finished task's grant

  -- a listing that isn't A is at most 1
  low_shared : (l : Listing) → (listing_code l == 2) ≡ false → listing_code l ≤ 1
  low_shared Listing.I h' = omega arith
  low_shared Listing.S h' = omega arith
  low_shared Listing.A h' = absurd (false≢true (sym h'))

  -- a listing that isn't listed is 0
  low_none : (l : Listing) → nat_le 1 (listing_code l) ≡ false → listing_code l ≡ 0
  low_none Listing.I h' = refl
  low_none Listing.S h' = absurd (false≢true (sym h'))
  low_none Listing.A h' = absurd (false≢true (sym h'))

  -- of both that aren't, the second is false where the first is true
  second_false : (b c : Bool) → (b && c) ≡ false → b ≡ true → c ≡ false
  second_false true c e is = e
  second_false false c e is = absurd (false≢true is)

  -- by a settled task this host isn't to be asked
  unasked : (g : ℕ) (cause : Cause) (sends : Sends) (f : FinishedFor setup opening g dev cause sends) → is_to_ask f.t.purpose D f.a.0 f.t h ≡ false
  unasked g cause sends f =
      not-true _ (and_parts (not (is_asked h f.a.0 dev)) _ (all_below (λ x. not (is_asked x f.a.0 dev) && not (is_to_ask f.t.purpose D f.a.0 f.t x)) setup.hosts f.settled h (ltb-true h setup.hosts host))).1

  -- so it is listed low enough
  pub others_low : (g : ℕ) (cause : Cause) (sends : Sends) (f : FinishedFor setup opening g dev cause sends) → f.a.0 ≡ a → (g ≡ h → ⊥) → listing_code (granted_listing f.c) + code setup dev a h ≤ 2
  others_low g cause sends f here other = by f.grant
    where
      another : not (f.t.host == h) ≡ true
      another = not_from_false _ (ne_eqb f.t.host h (λ same. other (sym f.own ∙ same)))

      asks : (p : Purpose) → f.t.purpose ≡ p → is_to_ask p D f.a.0 f.t h ≡ false
      asks p is = subst (λ x. is_to_ask x D f.a.0 f.t h ≡ false) is (unasked g cause sends f)

      none : is_listed D f.a.0 h ≡ false → f.c ≡ NdrOp.CmpE → listing_code (granted_listing f.c) + code setup dev a h ≤ 2
      none unlisted is =
          let zero = low_none (D.listed a h) (subst (λ x. is_listed D x h ≡ false) here unlisted) in
          let two : listing_code (granted_listing f.c) ≡ 2 = ap (λ c. listing_code (granted_listing c)) is in
          omega arith

      by : GrantOf setup f.a.0 f.t D f.c → listing_code (granted_listing f.c) + code setup dev a h ≤ 2
      by (SharedGrant is purpose) =
          let low = low_shared (D.listed a h) (subst (λ x. is_listed_any D x h ≡ false) here (second_false _ _ (asks Purpose.SharedRead purpose) another)) in
          let one : listing_code (granted_listing f.c) ≡ 1 = ap (λ c. listing_code (granted_listing c)) is in
          omega arith
      by (SoleGrant is purpose alone) =
          none (false_from_ne_true (is_listed D f.a.0 h) (λ listed. false≢true (sym alone ∙ any_below (λ x. not (f.t.host == x) && is_listed D f.a.0 x) setup.hosts h (ltb-true h setup.hosts host) (and_from _ _ another listed)))) is
      by (OwningGrant is purpose) = none (elim purpose [
        | inl owning ↦ second_false _ _ (asks Purpose.OwningRead owning) another
        | inr invalidating ↦ second_false _ _ (asks Purpose.Invalidation invalidating) another
      ]) is

-- ---- pairs of hosts

-- what is kept of two hosts: their listings of the line add up to at most 2
abbrev pub PairSeen : Configuration → ℕ → ℕ → ℕ → Seen
PairSeen setup a h g own dev fr fw ndr answers = code setup dev a h + code setup dev a g ≤ 2

-- a sum the other way round
swap : (n m : ℕ) → n + m ≤ 2 → m + n ≤ 2
swap n m h = omega arith

-- less of each adds up to no more
both_less : (n m n' m' : ℕ) → n' ≤ n → m' ≤ m → n + m ≤ 2 → n' + m' ≤ 2
both_less n m n' m' x y h = omega arith

-- equal finishes are of the same line
same_finish : (k l : Line) → ◌≡◌ {A = Cause} (Cause.Act (Act.Finish k)) (Cause.Act (Act.Finish l)) → k ≡ l
same_finish k l e = cc

module _ (setup : Configuration) (opening : List (Line × Bytes64)) (limits : IsWithinLimits setup) (a : ℕ) (exists : a < setup.lines) (past : List Event) (run : IsRun setup opening past) (e : Event) (on : DeviceEvent setup opening e past) where
  -- the device's own events before the event
  abbrev before : List Event
  before = events_of device past

  -- a host's listing after the event
  abbrev later : ℕ → ℕ
  later h = listing_code ((directory_after setup e.cause e.sends (events_of device past) (directory setup (events_of device past))).listed a h)

  -- what the event grants
  grants_for : (h : ℕ) → DeviceGrants setup opening h before e.cause e.sends
  grants_for h = device_grants setup opening h before e.cause e.sends on.parts.row.w on.row on.parts.row.sends

  -- a host is granted the line, or its listing is no higher
  data Listed (h : ℕ) : Type 0 where
    Lower : later h ≤ code setup before a h → Listed h
    Granted : (f : FinishedFor setup opening h before e.cause e.sends) → f.a.0 ≡ a → later h ≡ listing_code (granted_listing f.c) → Listed h

  -- an event that isn't the host's grant adds no listing to it
  lower : (h : ℕ) → IsTrue (is_host setup h) → ((l : Line) → e.cause ≡ Cause.Act (Act.Finish l) → listings_after_finish l.0 e.sends (directory setup before).listed a h ≡ (directory setup before).listed a h) → Listed h
  lower h host finished =
      Lower (listing_less setup opening limits h host a exists past run e.cause e.sends (λ n takes. found_among n (in_flight h Channel.BiRsp past) (there setup opening h e past on.parts Channel.BiRsp n takes)) finished)

  -- the listing after a finish of the line
  finished_is : (h : ℕ) (f : FinishedFor setup opening h before e.cause e.sends) → later h ≡ listing_code (cond (a == f.a.0) (granted_listing f.c) ((directory setup before).listed a h))
  finished_is h f = ap (λ c. listing_code ((directory_after setup c e.sends before (directory setup before)).listed a h)) f.acts ∙ ap listing_code (f.lists (directory setup before).listed a)

  -- a host's listing is no more, or the line was granted to it
  listed_by : (h : ℕ) → IsTrue (is_host setup h) → DeviceGrants setup opening h before e.cause e.sends → Listed h
  listed_by h host (NoGrant none others) = lower h host (λ l acts. others l acts (directory setup before).listed a)
  listed_by h host (OneGrant f) = elim (cases_eq a f.a.0) [
    | inl here ↦ Granted f (sym here) (finished_is h f ∙ ap (λ b. listing_code (cond b (granted_listing f.c) ((directory setup before).listed a h))) (eq-eqb a f.a.0 here))
    | inr other ↦ lower h host (λ l acts. ap (λ (x : Line). listings_after_finish x.0 e.sends (directory setup before).listed a h) (same_finish l f.a (sym acts ∙ f.acts)) ∙ f.lists (directory setup before).listed a
        ∙ ap (λ b. cond b (granted_listing f.c) ((directory setup before).listed a h)) (ne_eqb a f.a.0 other))
  ]

  -- one event grants a line to one host
  one_host : (h g : ℕ) → (f : FinishedFor setup opening h before e.cause e.sends) → (k : FinishedFor setup opening g before e.cause e.sends) → h ≡ g
  one_host h g f k =
      let line = same_finish f.a k.a (sym f.acts ∙ k.acts) in
      let task = same_Some f.t k.t (sym f.stands ∙ ap (λ (l : Line). (directory setup before).task l.0) line ∙ k.stands) in
      sym f.own ∙ ap (λ (t : Task). t.host) task ∙ k.own

  -- two listings add up to at most 2, by what each became
  pair_by : (h g : ℕ) → (h ≡ g → ⊥) → IsTrue (is_host setup h) → IsTrue (is_host setup g) → code setup before a h + code setup before a g ≤ 2 → Listed h → Listed g → later h + later g ≤ 2
  pair_by h g differ hosth hostg old (Lower x) (Lower y) = both_less _ _ _ _ x y old
  pair_by h g differ hosth hostg old (Granted f here is) (Lower y) =
      let low = others_low setup opening limits g hostg a exists past run h e.cause e.sends f here differ in
      omega arith
  pair_by h g differ hosth hostg old (Lower x) (Granted k here is) =
      let low = others_low setup opening limits h hosth a exists past run g e.cause e.sends k here (λ same. differ (sym same)) in
      omega arith
  pair_by h g differ hosth hostg old (Granted f here is) (Granted k at its) = absurd (differ (one_host h g f k))

  -- an event of the device keeps two hosts' listings
  pub pair_next : (h g : ℕ) → (h ≡ g → ⊥) → IsTrue (is_host setup h) → IsTrue (is_host setup g) → code setup before a h + code setup before a g ≤ 2 → later h + later g ≤ 2
  pair_next h g differ hosth hostg old = pair_by h g differ hosth hostg old (listed_by h hosth (grants_for h)) (listed_by g hostg (grants_for g))

-- after every run two hosts are listed together only where neither is listed A
pub pair_seen : (setup : Configuration) (opening : List (Line × Bytes64)) → IsWithinLimits setup → (h g : ℕ) → (h ≡ g → ⊥) → IsTrue (is_host setup h) → IsTrue (is_host setup g) → (a : ℕ) → a < setup.lines → (t : List Event) → IsRun setup opening t
    → code setup (events_of device t) a h + code setup (events_of device t) a g ≤ 2
pair_seen setup opening limits h g differ hosth hostg a exists =
    always setup opening h (host_is_no_device setup limits h hosth) (PairSeen setup a h g) (λ e past on old. old) (λ e past on old. pair_next setup opening limits a exists past on.run e on h g differ hosth hostg old) (omega arith)
