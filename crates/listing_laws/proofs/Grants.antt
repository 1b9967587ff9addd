-- Which grants the device sends to a host: none, or the one of the task that it finishes.
use Rattle.std.proofs.Common.{◌≡◌, ℕ, ◌+◌, Bool, true, false, List, [], ◌∷◌, Some, cond, count_by, map, refl, sym, ◌∙◌, ap, ◌⊎◌, inl, inr}
use Rattle.std.specs.Prelude.{◌==◌, ◌&&◌, ◌||◌}
use Rattle.std.proofs.lemmas.Bool.{eq-eqb, eqb-true, false≢true, ne_eqb}
use Rattle.std.proofs.lemmas.Option.{none-some}
use Rattle.cxl_message.specs.declared.channels.Channel.{Channel}
use Rattle.cxl_message.specs.declared.events.Act.{Act}
use Rattle.cxl_message.specs.declared.events.Cause.{Cause}
use Rattle.cxl_message.specs.declared.events.Event.{Event}
use Rattle.cxl_message.specs.declared.events.Out.{Out}
use Rattle.cxl_message.specs.declared.events.Sends.{Sends}
use Rattle.cxl_message.specs.declared.identifiers.Bytes64.{Bytes64}
use Rattle.cxl_message.specs.declared.identifiers.Line.{Line}
use Rattle.cxl_message.specs.declared.messages.Message.{Message}
use Rattle.cxl_message.specs.declared.opcodes.NdrOp.{NdrOp}
use Rattle.cxl_message.specs.declared.states.Listing.{Listing}
use Rattle.cxl_message.specs.Codes.{channel_eq}
use Rattle.cxl_message.specs.Messages.{channel_of}
use Rattle.cxl_message.specs.Setup.{Configuration}
use Rattle.coherence_model.specs.Buffers.{buffered_writes, message_with}
use Rattle.coherence_model.specs.DeviceActs.{buffered_request, finish_emission, is_settled, is_shared_with_others, shared_grant, snoop_message}
use Rattle.coherence_model.specs.DeviceRows.{device_emission}
use Rattle.coherence_model.specs.Directory.{Directory}
use Rattle.coherence_model.specs.DirectoryChanges.{directory, granted_listing, listings_after_finish, with_listing}
use Rattle.coherence_model.specs.Emission.{Emission}
use Rattle.coherence_model.specs.Memory.{memory}
use Rattle.coherence_model.specs.RequestFacts.{grants, is_ndr_with}
use Rattle.coherence_model.specs.Tasks.{Purpose, Task, is_eviction}
use Rattle.coherence_lemmas.proofs.DeviceActs.{v3_serve-inv, v4_clean-inv, v5_start-inv, v6_evict-inv, v7_snoop-inv, v8_finish-inv, v9_return-inv}
use Rattle.coherence_lemmas.proofs.Rows.{device_take-inv}
use Rattle.coherence_lemmas.proofs.TakesSendNothing.{device_takes_silent}
use Rattle.request_laws.proofs.DeviceSends.{one_there, sent_there, served, two_there}
use Rattle.request_laws.proofs.Places.{on_channel}

-- the grant of a finished task, by its purpose
pub data GrantOf (setup : Configuration) (a : ℕ) (t : Task) (D : Directory) (c : NdrOp) : Type 0 where
  SharedGrant : c ≡ NdrOp.CmpS → t.purpose ≡ Purpose.SharedRead → GrantOf setup a t D c
  SoleGrant : c ≡ NdrOp.CmpE → t.purpose ≡ Purpose.SharedRead → is_shared_with_others setup a t D ≡ false → GrantOf setup a t D c
  OwningGrant : c ≡ NdrOp.CmpE → (t.purpose ≡ Purpose.OwningRead) ⊎ (t.purpose ≡ Purpose.Invalidation) → GrantOf setup a t D c

-- a task that is finished for a host
pub record FinishedFor (setup : Configuration) (opening : List (Line × Bytes64)) (h : ℕ) (dev : List Event) (cause : Cause) (sends : Sends) : Type 0 where
  pub a : Line
  pub t : Task
  pub acts : cause ≡ Cause.Act (Act.Finish a)
  pub stands : (directory setup dev).task a.0 ≡ Some t
  pub settled : is_settled setup a.0 t (directory setup dev) dev ≡ true
  pub own : t.host ≡ h
  pub request : is_eviction t.purpose ≡ false
  pub c : NdrOp
  pub grant : GrantOf setup a.0 t (directory setup dev) c
  pub sent : on_channel h Channel.Ndr sends ≡ Message.Ndr c (record { 0 = t.tag }) ∷ []
  pub lists : (listed : ℕ → ℕ → Listing) (b : ℕ) → listings_after_finish a.0 sends listed b h ≡ cond (b == a.0) (granted_listing c) (listed b h)
  pub emits : sends ≡ (finish_emission t.purpose (shared_grant setup a.0 t (directory setup dev)) t.host t.tag (memory opening a.0 dev)).sends

-- where the event is Finish, the host's listings stay
abbrev pub ListsOthers : ℕ → Cause → Sends → Type 0
ListsOthers h cause sends = (l : Line) → cause ≡ Cause.Act (Act.Finish l) → (listed : ℕ → ℕ → Listing) (b : ℕ) → listings_after_finish l.0 sends listed b h ≡ listed b h

-- what the device grants to a host by an event
pub data DeviceGrants (setup : Configuration) (opening : List (Line × Bytes64)) (h : ℕ) (dev : List Event) (cause : Cause) (sends : Sends) : Type 0 where
  NoGrant : ((tag : ℕ) → count_by (is_ndr_with grants tag) (on_channel h Channel.Ndr sends) ≡ 0) → ListsOthers h cause sends → DeviceGrants setup opening h dev cause sends
  OneGrant : FinishedFor setup opening h dev cause sends → DeviceGrants setup opening h dev cause sends

-- what an emission sends
abbrev sends_of : Emission → Sends
sends_of w = w.sends

-- no count where the second is false
and_no : (b c : Bool) → c ≡ false → ◌≡◌ {A = ℕ} (cond (b && c) 1 0) 0
and_no true c h = ap {B = ℕ} (λ x. cond x 1 0) h
and_no false c h = refl

-- where nothing is sent no grant is
none_by : (h : ℕ) (sends : Sends) → sends ≡ Sends.Nothing → (tag : ℕ) → count_by (is_ndr_with grants tag) (on_channel h Channel.Ndr sends) ≡ 0
none_by h sends none tag = ap (sent_there (is_ndr_with grants tag) h Channel.Ndr) none

-- one message that is no grant
one_by : (h k : ℕ) (m : Message) (sends : Sends) → sends ≡ Sends.One (record { host = k; message = m }) → ((tag : ℕ) → is_ndr_with grants tag m ≡ false) → (tag : ℕ) → count_by (is_ndr_with grants tag) (on_channel h Channel.Ndr sends) ≡ 0
one_by h k m sends sent other tag = ap (sent_there (is_ndr_with grants tag) h Channel.Ndr) sent ∙ one_there (is_ndr_with grants tag) h k Channel.Ndr m ∙ and_no _ (is_ndr_with grants tag m) (other tag)

-- one message to another host isn't sent here
elsewhere_one : (h k : ℕ) (m : Message) (tag : ℕ) → (k == h) ≡ false → sent_there (is_ndr_with grants tag) h Channel.Ndr (Sends.One (record { host = k; message = m })) ≡ 0
elsewhere_one h k m tag other = one_there (is_ndr_with grants tag) h k Channel.Ndr m ∙ ap {B = ℕ} (λ x. cond ((x && channel_eq (channel_of m) Channel.Ndr) && is_ndr_with grants tag m) 1 0) other

-- two messages to another host aren't sent here
elsewhere_two : (h k : ℕ) (m n : Message) (tag : ℕ) → (k == h) ≡ false → sent_there (is_ndr_with grants tag) h Channel.Ndr (Sends.Two (record { host = k; message = m }) (record { host = k; message = n })) ≡ 0
elsewhere_two h k m n tag other =
    two_there (is_ndr_with grants tag) h k Channel.Ndr m n
    ∙ ap {B = ℕ} (λ x. cond ((x && channel_eq (channel_of m) Channel.Ndr) && is_ndr_with grants tag m) 1 0 + cond ((x && channel_eq (channel_of n) Channel.Ndr) && is_ndr_with grants tag n) 1 0) other

-- one message to this host is sent here
here_one : (h k : ℕ) (m : Message) → (k == h) ≡ true → ◌≡◌ {A = List Message} (map (λ (o : Out). o.message) (cond ((k == h) && true) (record { host = k; message = m } ∷ []) [])) (m ∷ [])
here_one h k m own = by (k == h) own
  where
    by : (b : Bool) → b ≡ true → ◌≡◌ {A = List Message} (map (λ (o : Out). o.message) (cond (b && true) (record { host = k; message = m } ∷ []) [])) (m ∷ [])
    by true e = refl
    by false e = absurd (false≢true e)

-- two messages to this host are sent here
here_two : (h k : ℕ) (c : NdrOp) (tag : ℕ) (bytes : Bytes64) → (k == h) ≡ true
    → on_channel h Channel.Ndr (Sends.Two (record { host = k; message = Message.Ndr c (record { 0 = tag }) }) (record { host = k; message = Message.MemData (record { 0 = tag }) bytes })) ≡ Message.Ndr c (record { 0 = tag }) ∷ []
here_two h k c tag bytes own = by (k == h) own
  where
    by : (b : Bool) → b ≡ true
        → ◌≡◌ {A = List Message} (map (λ (o : Out). o.message) (cond (b && true) (record { host = k; message = Message.Ndr c (record { 0 = tag }) } ∷ cond (b && false) (record { host = k; message = Message.MemData (record { 0 = tag }) bytes } ∷ []) [])
        (cond (b && false) (record { host = k; message = Message.MemData (record { 0 = tag }) bytes } ∷ []) []))) (Message.Ndr c (record { 0 = tag }) ∷ [])
    by true e = refl
    by false e = absurd (false≢true e)

-- either is the first where the second is false
or_none : (b : Bool) → (b || false) ≡ b
or_none true = refl
or_none false = refl

-- the listings that a grant leaves at the host itself, and at another
lists_own : (h k l : ℕ) (g : Listing) (listed : ℕ → ℕ → Listing) (b : ℕ) → (k == h) ≡ true → with_listing (l ∷ []) k g listed b h ≡ cond (b == l) g (listed b h)
lists_own h k l g listed b own =
    ap (λ x. cond (x && ((b == l) || false)) g (listed b h)) (eq-eqb h k (sym (eqb-true k h own))) ∙ ap (λ x. cond x g (listed b h)) (or_none (b == l))

-- a listing of another host stays
lists_other : (h k l : ℕ) (g : Listing) (listed : ℕ → ℕ → Listing) (b : ℕ) → (k == h) ≡ false → with_listing (l ∷ []) k g listed b h ≡ listed b h
lists_other h k l g listed b other = ap (λ x. cond (x && ((b == l) || false)) g (listed b h)) (ne_eqb h k (λ same. false≢true (sym other ∙ eq-eqb k h (sym same))))

-- equal finishes are of the same line
same_line : (k l : Line) → ◌≡◌ {A = Cause} (Cause.Act (Act.Finish k)) (Cause.Act (Act.Finish l)) → k ≡ l
same_line k l e = cc

-- a settled shared read is granted Cmp-S where others have the line, else Cmp-E
shared_by : (setup : Configuration) (a : ℕ) (t : Task) (D : Directory) (b : Bool) → is_shared_with_others setup a t D ≡ b → t.purpose ≡ Purpose.SharedRead → GrantOf setup a t D (cond b NdrOp.CmpS NdrOp.CmpE)
shared_by setup a t D true is purpose = SharedGrant refl purpose
shared_by setup a t D false is purpose = SoleGrant refl purpose is

-- what a finish grants, by its task's purpose
finished_for : (setup : Configuration) (opening : List (Line × Bytes64)) (h : ℕ) (dev : List Event) (a : Line) (sends : Sends) (t : Task) → (directory setup dev).task a.0 ≡ Some t → is_settled setup a.0 t (directory setup dev) dev ≡ true
    → (purpose : Purpose) → t.purpose ≡ purpose → sends ≡ (finish_emission purpose (shared_grant setup a.0 t (directory setup dev)) t.host t.tag (memory opening a.0 dev)).sends → (own : Bool) → (t.host == h) ≡ own
    → DeviceGrants setup opening h dev (Cause.Act (Act.Finish a)) sends
finished_for setup opening h dev a sends t stands settled Purpose.SharedRead is sent true own =
    OneGrant (record {
      a = a;
      t = t;
      acts = refl;
      stands = stands;
      settled = settled;
      own = eqb-true t.host h own;
      request = ap is_eviction is;
      c = shared_grant setup a.0 t (directory setup dev);
      grant = shared_by setup a.0 t (directory setup dev) (is_shared_with_others setup a.0 t (directory setup dev)) refl is;
      sent = ap (on_channel h Channel.Ndr) sent ∙ here_two h t.host (shared_grant setup a.0 t (directory setup dev)) t.tag (memory opening a.0 dev) own;
      lists = λ listed b. ap (λ x. listings_after_finish a.0 x listed b h) sent ∙ lists_own h t.host a.0 (granted_listing (shared_grant setup a.0 t (directory setup dev))) listed b own;
      emits = sent ∙ ap (λ p. (finish_emission p (shared_grant setup a.0 t (directory setup dev)) t.host t.tag (memory opening a.0 dev)).sends) (sym is);
    })
finished_for setup opening h dev a sends t stands settled Purpose.SharedRead is sent false own =
    NoGrant (λ tag. ap (sent_there (is_ndr_with grants tag) h Channel.Ndr) sent ∙ elsewhere_two h t.host (Message.Ndr (shared_grant setup a.0 t (directory setup dev)) (record { 0 = t.tag })) (Message.MemData (record { 0 = t.tag }) (memory opening a.0 dev)) tag own)
    (λ l acts listed b. ap (λ x. listings_after_finish l.0 x listed b h) sent ∙ lists_other h t.host l.0 (granted_listing (shared_grant setup a.0 t (directory setup dev))) listed b own)
finished_for setup opening h dev a sends t stands settled Purpose.OwningRead is sent true own =
    OneGrant (record {
      a = a;
      t = t;
      acts = refl;
      stands = stands;
      settled = settled;
      own = eqb-true t.host h own;
      request = ap is_eviction is;
      c = NdrOp.CmpE;
      grant = OwningGrant refl (inl is);
      sent = ap (on_channel h Channel.Ndr) sent ∙ here_two h t.host NdrOp.CmpE t.tag (memory opening a.0 dev) own;
      lists = λ listed b. ap (λ x. listings_after_finish a.0 x listed b h) sent ∙ lists_own h t.host a.0 (granted_listing (NdrOp.CmpE)) listed b own;
      emits = sent ∙ ap (λ p. (finish_emission p (shared_grant setup a.0 t (directory setup dev)) t.host t.tag (memory opening a.0 dev)).sends) (sym is);
    })
finished_for setup opening h dev a sends t stands settled Purpose.OwningRead is sent false own =
    NoGrant (λ tag. ap (sent_there (is_ndr_with grants tag) h Channel.Ndr) sent ∙ elsewhere_two h t.host (Message.Ndr NdrOp.CmpE (record { 0 = t.tag })) (Message.MemData (record { 0 = t.tag }) (memory opening a.0 dev)) tag own)
    (λ l acts listed b. ap (λ x. listings_after_finish l.0 x listed b h) sent ∙ lists_other h t.host l.0 (granted_listing (NdrOp.CmpE)) listed b own)
finished_for setup opening h dev a sends t stands settled Purpose.Invalidation is sent true own =
    OneGrant (record {
      a = a;
      t = t;
      acts = refl;
      stands = stands;
      settled = settled;
      own = eqb-true t.host h own;
      request = ap is_eviction is;
      c = NdrOp.CmpE;
      grant = OwningGrant refl (inr is);
      sent = ap (on_channel h Channel.Ndr) sent ∙ here_one h t.host (Message.Ndr NdrOp.CmpE (record { 0 = t.tag })) own;
      lists = λ listed b. ap (λ x. listings_after_finish a.0 x listed b h) sent ∙ lists_own h t.host a.0 (granted_listing (NdrOp.CmpE)) listed b own;
      emits = sent ∙ ap (λ p. (finish_emission p (shared_grant setup a.0 t (directory setup dev)) t.host t.tag (memory opening a.0 dev)).sends) (sym is);
    })
finished_for setup opening h dev a sends t stands settled Purpose.Invalidation is sent false own =
    NoGrant (λ tag. ap (sent_there (is_ndr_with grants tag) h Channel.Ndr) sent ∙ elsewhere_one h t.host (Message.Ndr NdrOp.CmpE (record { 0 = t.tag })) tag own)
    (λ l acts listed b. ap (λ x. listings_after_finish l.0 x listed b h) sent ∙ lists_other h t.host l.0 (granted_listing (NdrOp.CmpE)) listed b own)
finished_for setup opening h dev a sends t stands settled Purpose.Eviction is sent b own = NoGrant (none_by h sends sent) (λ l acts listed x. ap (λ y. listings_after_finish l.0 y listed x h) sent)

-- what an act of the device grants
act_grants : (setup : Configuration) (opening : List (Line × Bytes64)) (h : ℕ) (dev : List Event) (act : Act) (sends : Sends) (w : Emission) → device_emission setup opening (Cause.Act act) dev ≡ Some w → sends ≡ w.sends
    → DeviceGrants setup opening h dev (Cause.Act act) sends
act_grants setup opening h dev (Act.Conflict line) sends w row sent = absurd (none-some w row)
act_grants setup opening h dev (Act.WriteBack line) sends w row sent = absurd (none-some w row)
act_grants setup opening h dev (Act.Answer line) sends w row sent = absurd (none-some w row)
act_grants setup opening h dev (Act.AnswerBlock line) sends w row sent = absurd (none-some w row)
act_grants setup opening h dev (Act.HostReturn c) sends w row sent = absurd (none-some w row)
act_grants setup opening h dev (Act.Serve k tag) sends w row sent =
    let inv = v3_serve-inv k (message_with tag.0 (buffered_writes k dev)) w row in
    NoGrant (one_by h k inv.answer sends (sent ∙ ap sends_of inv.emits) (λ n. (served n inv.m inv.answer inv.answers).no_grant)) (λ l acts. cc)
act_grants setup opening h dev (Act.Clean k tag) sends w row sent =
    let inv = v4_clean-inv k (buffered_request k tag dev) (directory setup dev) w row in NoGrant (one_by h k (Message.Ndr NdrOp.Cmp inv.r.tag) sends (sent ∙ ap sends_of inv.emits) (λ n. refl)) (λ l acts. cc)
act_grants setup opening h dev (Act.Start k tag) sends w row sent = NoGrant (none_by h sends (sent ∙ ap sends_of (v5_start-inv setup k (buffered_request k tag dev) (directory setup dev) dev w row).emits)) (λ l acts. cc)
act_grants setup opening h dev (Act.Evict k tag) sends w row sent = NoGrant (none_by h sends (sent ∙ ap sends_of (v6_evict-inv setup k (buffered_request k tag dev) (directory setup dev) dev w row).emits)) (λ l acts. cc)
act_grants setup opening h dev (Act.Snoop k line) sends w row sent =
    let inv = v7_snoop-inv k line.0 ((directory setup dev).task line.0) (directory setup dev) dev w row in NoGrant (one_by h k (snoop_message line.0 inv.t) sends (sent ∙ ap sends_of inv.emits) (λ n. refl)) (λ l acts. cc)
act_grants setup opening h dev (Act.Finish line) sends w row sent =
    let inv = v8_finish-inv setup opening line.0 ((directory setup dev).task line.0) (directory setup dev) dev w row in
    finished_for setup opening h dev line sends inv.t inv.found inv.settled inv.t.purpose refl (sent ∙ ap sends_of inv.emits) (inv.t.host == h) refl
act_grants setup opening h dev (Act.DeviceReturn k c) sends w row sent = NoGrant (one_by h k (Message.Credit c) sends (sent ∙ ap sends_of (v9_return-inv k c dev w row).emits) (λ n. refl)) (λ l acts. cc)

-- an event of the device grants nothing to a host, or finishes a task for it
pub device_grants : (setup : Configuration) (opening : List (Line × Bytes64)) (h : ℕ) (dev : List Event) (cause : Cause) (sends : Sends) (w : Emission) → device_emission setup opening cause dev ≡ Some w → sends ≡ w.sends
    → DeviceGrants setup opening h dev cause sends
device_grants setup opening h dev (Cause.Op s i op) sends w row sent = absurd (none-some w row)
device_grants setup opening h dev (Cause.Take k m) sends w row sent = NoGrant (none_by h sends (sent ∙ device_takes_silent setup k m dev w (device_take-inv setup opening k m dev w row).same)) (λ l acts. cc)
device_grants setup opening h dev (Cause.Act act) sends w row sent = act_grants setup opening h dev act sends w row sent
