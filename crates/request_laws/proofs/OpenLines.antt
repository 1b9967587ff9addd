-- Each tag of an open line leads back to the line: by recursion over a host's own events.
use Rattle.std.proofs.Common.{◌≡◌, ℕ, ◌<◌, Bool, true, false, List, [], ◌∷◌, Option, Some, None, cond, refl, sym, ◌∙◌, ap, subst}
use Rattle.std.specs.Prelude.{is_none, not, option_and_then, ◌&&◌, ◌==◌}
use Rattle.std.specs.List.{list_all}
use Rattle.std.specs.Option.{option_or}
use Rattle.std.proofs.lemmas.Bool.{and_parts, cond-true, eq-eqb, eqb-true, ltb-true, ne_eqb, not-true}
use Rattle.std.proofs.lemmas.Option.{none-some, same_Some}
use Rattle.cxl_message.specs.declared.events.Cause.{Cause}
use Rattle.cxl_message.specs.declared.events.Event.{Event}
use Rattle.cxl_message.specs.declared.events.Op.{Op}
use Rattle.cxl_message.specs.declared.events.Out.{Out}
use Rattle.cxl_message.specs.declared.events.Sends.{Sends}
use Rattle.cxl_message.specs.declared.identifiers.Bytes64.{Bytes64}
use Rattle.cxl_message.specs.declared.identifiers.Line.{Line}
use Rattle.cxl_message.specs.declared.messages.Message.{Message}
use Rattle.cxl_message.specs.declared.opcodes.NdrOp.{NdrOp}
use Rattle.cxl_message.specs.Events.{line_of, outs}
use Rattle.cxl_message.specs.Setup.{Configuration}
use Rattle.coherence_model.specs.Cache.{copy, is_modified}
use Rattle.coherence_model.specs.Emission.{Emission}
use Rattle.coherence_model.specs.Fitting.{cause_fits, is_device, message_fits, operation_fits, out_fits}
use Rattle.coherence_model.specs.HostOperations.{eviction_message, request_message}
use Rattle.coherence_model.specs.HostRows.{host_emission}
use Rattle.coherence_model.specs.Snoops.{is_quiet, is_snooped}
use Rattle.coherence_model.specs.Tags.{if_tagged, line_by_message, tagged_after, tagged_line}
use Rattle.coherence_model.specs.Transactions.{Kind, Transaction, is_open, is_read, is_request, open_after, open_after_completion, open_after_data, open_after_take, open_at, opened, opened_by_message}
use Rattle.request_laws.proofs.FreeTags.{IsFree}
use Rattle.request_laws.proofs.HostOperations.{Alone, Evicting, Evicts, Hits, Operated, Opens, Requests, eviction_kind, eviction_opens, eviction_with, kind_of, operated, request_opens}
use Rattle.request_laws.proofs.Options.{option_or-assoc}
use Rattle.request_laws.proofs.OwnRuns.{host_goes_on, host_is_no_device}
use Rattle.request_laws.specs.HostLaws.{OpenTagsAreDistinct, OpenTagsLeadBack}
use Rattle.coherence_model.specs.OwnRuns.{is_own_run}

-- what is open by line and which line a tag took last, as any two functions: the tag of what is open leads back to its line
pub record LeadsBack (setup : Configuration) (tagged : ℕ → Option ℕ) (a : ℕ) (o : Transaction) : Type 0 where
  pub tag : o.tag < setup.tags
  pub line : a < setup.lines
  pub back : tagged o.tag ≡ Some a

abbrev pub LeadBack : Configuration → (ℕ → Option Transaction) → (ℕ → Option ℕ) → Type 0
LeadBack setup open_there tagged = (a : ℕ) (o : Transaction) → open_there a ≡ Some o → LeadsBack setup tagged a o

-- what is open with a tag, by the same two functions
abbrev pub with_tag : (ℕ → Option Transaction) → (ℕ → Option ℕ) → ℕ → Option Transaction
with_tag open_there tagged tag = option_and_then (if_tagged tag) (option_and_then open_there (tagged tag))

pub tagged_found : (f : ℕ → Option Transaction) (g : ℕ → Option ℕ) (a : ℕ) (o : Transaction) → f a ≡ Some o → g o.tag ≡ Some a → with_tag f g o.tag ≡ Some o
tagged_found f g a o there back =
    ap (λ x. option_and_then (if_tagged o.tag) (option_and_then f x)) back
    ∙ ap (λ x. option_and_then (if_tagged o.tag) x) there ∙ cond-true (o.tag == o.tag) (Some o) None (eq-eqb o.tag o.tag refl)

-- what is open is open with no tag that is free
pub not_free : (setup : Configuration) (f : ℕ → Option Transaction) (g : ℕ → Option ℕ) → LeadBack setup f g → (t : ℕ) → with_tag f g t ≡ None → (a : ℕ) (o : Transaction) → f a ≡ Some o → o.tag ≡ t → ⊥
not_free setup f g inv t free a o there same =
    none-some o (sym free ∙ ap (with_tag f g) (sym same) ∙ tagged_found f g a o there (inv a o there).back)

-- one more line is opened, with a tag that nothing open has
abbrev pub opening_line : ℕ → Transaction → (ℕ → Option Transaction) → ℕ → Option Transaction
opening_line l x f a = option_or (cond (l == a) (Some x) None) (f a)

abbrev pub tagging_line : ℕ → ℕ → (ℕ → Option ℕ) → ℕ → Option ℕ
tagging_line l t g tag = option_or (cond (t == tag) (Some l) None) (g tag)

opened_one :
    (setup : Configuration) (f : ℕ → Option Transaction) (g : ℕ → Option ℕ) (l : ℕ) (x : Transaction) → l < setup.lines → x.tag < setup.tags
    → ((a : ℕ) (o : Transaction) → f a ≡ Some o → o.tag ≡ x.tag → ⊥) → LeadBack setup f g → (a : ℕ) (o : Transaction) (here : Bool) → (l == a) ≡ here
    → option_or (cond here (Some x) None) (f a) ≡ Some o → LeadsBack setup (tagging_line l x.tag g) a o
opened_one setup f g l x line tag unused inv a o true is there =
    let same = same_Some x o there in
    let a_is = eqb-true l a is in
    record {
      tag = subst (λ (y : Transaction). y.tag < setup.tags) same tag;
      line = subst (λ b. b < setup.lines) a_is line;
      back = subst (λ (y : Transaction). tagging_line l x.tag g y.tag ≡ Some a) same
          (ap (λ b. option_or (cond b (Some l) None) (g x.tag)) (eq-eqb x.tag x.tag refl) ∙ ap Some a_is);
    }
opened_one setup f g l x line tag unused inv a o false is there =
    let old = inv a o there in
    record {
      tag = old.tag;
      line = old.line;
      back = ap (λ b. option_or (cond b (Some l) None) (g o.tag)) (ne_eqb x.tag o.tag (λ same. unused a o there (sym same))) ∙ old.back;
    }

pub opened_leads_back :
    (setup : Configuration) (f : ℕ → Option Transaction) (g : ℕ → Option ℕ) (l : ℕ) (x : Transaction) → l < setup.lines → x.tag < setup.tags
    → ((a : ℕ) (o : Transaction) → f a ≡ Some o → o.tag ≡ x.tag → ⊥) → LeadBack setup f g → LeadBack setup (opening_line l x f) (tagging_line l x.tag g)
opened_leads_back setup f g l x line tag unused inv a o there = opened_one setup f g l x line tag unused inv a o (l == a) refl there

-- a take keeps the tag and the kind of what stays open
pub record Kept (o p : Transaction) : Type 0 where
  pub tag : p.tag ≡ o.tag
  pub kind : p.kind ≡ o.kind

kept_same : (o p : Transaction) → ◌≡◌ {A = Option Transaction} (Some o) (Some p) → Kept o p
kept_same o p h = let same = same_Some o p h in record { tag = ap (λ (x : Transaction). x.tag) (sym same); kind = ap (λ (x : Transaction). x.kind) (sym same) }

kept_if : (b : Bool) (o x p : Transaction) → Kept o x → cond b (Some x) None ≡ Some p → Kept o p
kept_if true o x p kept h = let same = same_Some x p h in record { tag = ap (λ (y : Transaction). y.tag) (sym same) ∙ kept.tag; kind = ap (λ (y : Transaction). y.kind) (sym same) ∙ kept.kind }
kept_if false o x p kept h = absurd (none-some p h)

kept_completed : (c : NdrOp) (o p : Transaction) → open_after_completion c o ≡ Some p → Kept o p
kept_completed NdrOp.Cmp o p h = kept_if (is_request o.kind) o o p (record { tag = refl; kind = refl }) h
kept_completed NdrOp.CmpS o p h = kept_if (is_read o.kind && is_none o.bytes) o (record o { grant = Some NdrOp.CmpS }) p (record { tag = refl; kind = refl }) h
kept_completed NdrOp.CmpE o p h = kept_if (is_read o.kind && is_none o.bytes) o (record o { grant = Some NdrOp.CmpE }) p (record { tag = refl; kind = refl }) h
kept_completed NdrOp.ConflictAck o p h = kept_same o p h

kept_named : (b : Bool) (o p : Transaction) (x : Option Transaction) → (x ≡ Some p → Kept o p) → cond b x (Some o) ≡ Some p → Kept o p
kept_named true o p x named h = named h
kept_named false o p x named h = kept_same o p h

pub take_keeps : (m : Message) (o p : Transaction) → open_after_take m o ≡ Some p → Kept o p
take_keeps (Message.Req _ _ _ _ _) o p h = kept_same o p h
take_keeps (Message.MemWr _ _ _ _ _) o p h = kept_same o p h
take_keeps (Message.BiConflict _) o p h = kept_same o p h
take_keeps (Message.BiRsp _ _ _) o p h = kept_same o p h
take_keeps (Message.Ndr c tag) o p h = kept_named (tag.0 == o.tag) o p (open_after_completion c o) (kept_completed c o p) h
take_keeps (Message.MemData tag bytes) o p h =
    kept_named (tag.0 == o.tag) o p (open_after_data bytes o) (kept_if (is_none o.grant) o (record o { bytes = Some bytes }) p (record { tag = refl; kind = refl })) h
take_keeps (Message.BiSnp _ _ _ _) o p h = kept_same o p h
take_keeps (Message.Credit _) o p h = kept_same o p h

pub after_take : (m : Message) (old : Option Transaction) (p : Transaction) → option_and_then (open_after_take m) old ≡ Some p → (o : Transaction) × (old ≡ Some o) × (open_after_take m o ≡ Some p)
after_take m None p h = absurd (none-some p h)
after_take m (Some o) p h = (o, refl, h)

take_leads_back :
    (setup : Configuration) (f : ℕ → Option Transaction) (g : ℕ → Option ℕ) (m : Message) → LeadBack setup f g
    → LeadBack setup (λ a. option_and_then (open_after_take m) (f a)) g
take_leads_back setup f g m inv a p there =
    let was = after_take m (f a) p there in
    let kept = take_keeps m was.0 p was.2 in
    let old = inv a was.0 was.1 in
    record { tag = subst (λ n. n < setup.tags) (sym kept.tag) old.tag; line = old.line; back = ap g kept.tag ∙ old.back }

-- the state after an operation's messages, as lines opened one after the other
pub quiet_parts : (a : ℕ) (past : List Event) → is_quiet a past ≡ true → (is_open a past ≡ false) × (is_snooped a past ≡ false)
quiet_parts a past h = let parts = and_parts (not (is_open a past)) (not (is_snooped a past)) h in (not-true _ parts.0, not-true _ parts.1)

-- what an operation opens and tags, by what it sends
abbrev after_op_open : ℕ → ℕ → Op → Sends → List Event → ℕ → Option Transaction
after_op_open s i op sends past a = open_after a (Cause.Op s i op) sends (open_at a past)

abbrev after_op_tagged : ℕ → ℕ → Op → Sends → List Event → ℕ → Option ℕ
after_op_tagged s i op sends past tag = tagged_after tag (Cause.Op s i op) sends (tagged_line tag past)

-- two pairs of functions that agree everywhere
move_back : (setup : Configuration) (f f' : ℕ → Option Transaction) (g g' : ℕ → Option ℕ) → ((a : ℕ) → f' a ≡ f a) → ((t : ℕ) → g' t ≡ g t) → LeadBack setup f g → LeadBack setup f' g'
move_back setup f f' g g' same_f same_g inv a o there =
    let old = inv a o (sym (same_f a) ∙ there) in
    record { tag = old.tag; line = old.line; back = same_g o.tag ∙ old.back }

-- one message
pub one_opens : (a s i h : ℕ) (op : Op) (m : Message) (l t : ℕ) (k : Kind) (past : List Event) → Opens m l t k
    → open_after a (Cause.Op s i op) (Sends.One (record { host = h; message = m })) (open_at a past) ≡ opening_line l (opened s i op k t) (λ b. open_at b past) a
one_opens a s i h op m l t k past opens = ap (λ x. option_or x (open_at a past)) (opens.opened_there a s i op)

pub one_tags : (tag s i h : ℕ) (op : Op) (m : Message) (l t : ℕ) (k : Kind) (past : List Event) → Opens m l t k
    → tagged_after tag (Cause.Op s i op) (Sends.One (record { host = h; message = m })) (tagged_line tag past) ≡ tagging_line l t (λ b. tagged_line b past) tag
one_tags tag s i h op m l t k past opens = ap (λ x. option_or x (tagged_line tag past)) (opens.named tag)

-- two messages
pub two_open : (a s i h : ℕ) (op : Op) (m n : Message) (l t : ℕ) (k : Kind) (l' t' : ℕ) (k' : Kind) (past : List Event) → Opens m l t k → Opens n l' t' k'
    → open_after a (Cause.Op s i op) (Sends.Two (record { host = h; message = m }) (record { host = h; message = n })) (open_at a past)
    ≡ opening_line l (opened s i op k t) (opening_line l' (opened s i op k' t') (λ b. open_at b past)) a
two_open a s i h op m n l t k l' t' k' past opens opens' =
    ap (λ x. option_or (option_or x (opened_by_message a s i op n)) (open_at a past)) (opens.opened_there a s i op)
    ∙ ap (λ x. option_or (option_or (cond (l == a) (Some (opened s i op k t)) None) x) (open_at a past)) (opens'.opened_there a s i op)
    ∙ option_or-assoc (cond (l == a) (Some (opened s i op k t)) None) (cond (l' == a) (Some (opened s i op k' t')) None) (open_at a past)

pub two_tag : (tag s i h : ℕ) (op : Op) (m n : Message) (l t : ℕ) (k : Kind) (l' t' : ℕ) (k' : Kind) (past : List Event) → Opens m l t k → Opens n l' t' k'
    → tagged_after tag (Cause.Op s i op) (Sends.Two (record { host = h; message = m }) (record { host = h; message = n })) (tagged_line tag past)
    ≡ tagging_line l t (tagging_line l' t' (λ b. tagged_line b past)) tag
two_tag tag s i h op m n l t k l' t' k' past opens opens' =
    ap (λ x. option_or (option_or x (line_by_message tag n)) (tagged_line tag past)) (opens.named tag)
    ∙ ap (λ x. option_or (option_or (cond (t == tag) (Some l) None) x) (tagged_line tag past)) (opens'.named tag)
    ∙ option_or-assoc (cond (t == tag) (Some l) None) (cond (t' == tag) (Some l') None) (tagged_line tag past)

-- a free tag is that of nothing open
free_unused : (setup : Configuration) (past : List Event) (t : ℕ) → LeadBack setup (λ a. open_at a past) (λ b. tagged_line b past) → IsFree setup past t → (a : ℕ) (o : Transaction) → open_at a past ≡ Some o → o.tag ≡ t → ⊥
free_unused setup past t inv free = not_free setup (λ a. open_at a past) (λ b. tagged_line b past) inv t free.closed

-- what an operation's row leaves
request_leads_back :
    (setup : Configuration) (h s i : ℕ) (op : Op) (past : List Event) (sends : Sends) → line_of op < setup.lines
    → LeadBack setup (λ a. open_at a past) (λ b. tagged_line b past) → Alone setup h op past sends
    → LeadBack setup (after_op_open s i op sends past) (after_op_tagged s i op sends past)
request_leads_back setup h s i op past sends line inv one =
    subst (λ x. LeadBack setup (after_op_open s i op x past) (after_op_tagged s i op x past)) (sym one.sent)
    (move_back setup _ _ _ _ (λ a. one_opens a s i h op (request_message op one.t) (line_of op) one.t (kind_of op) past (request_opens op one.t))
    (λ tag. one_tags tag s i h op (request_message op one.t) (line_of op) one.t (kind_of op) past (request_opens op one.t))
    (opened_leads_back setup (λ a. open_at a past) (λ b. tagged_line b past) (line_of op) (opened s i op (kind_of op) one.t) line one.free.exists (free_unused setup past one.t inv one.free) inv))

-- an eviction's message names its line and takes its tag
pub victim_opens : (setup : Configuration) (v : ℕ) (past : List Event) (t : ℕ) → Opens (eviction_message setup v past t) v t (eviction_kind (is_modified setup v past))
victim_opens setup v past t = eviction_opens (is_modified setup v past) (copy setup v past).bytes v t

unused_after : (setup : Configuration) (f : ℕ → Option Transaction) (l : ℕ) (x : Transaction) (t : ℕ) → (x.tag ≡ t → ⊥) → ((a : ℕ) (o : Transaction) → f a ≡ Some o → o.tag ≡ t → ⊥)
    → (a : ℕ) (o : Transaction) (here : Bool) → option_or (cond here (Some x) None) (f a) ≡ Some o → o.tag ≡ t → ⊥
unused_after setup f l x t other unused a o true there same = other (ap (λ (y : Transaction). y.tag) (same_Some x o there) ∙ same)
unused_after setup f l x t other unused a o false there same = unused a o there same

evicting_leads_back :
    (setup : Configuration) (h s i : ℕ) (op : Op) (past : List Event) (sends : Sends) → line_of op < setup.lines
    → LeadBack setup (λ a. open_at a past) (λ b. tagged_line b past) → (two : Evicting setup h op past sends) → two.v < setup.lines
    → LeadBack setup (after_op_open s i op sends past) (after_op_tagged s i op sends past)
evicting_leads_back setup h s i op past sends line inv two victim =
    let k = eviction_kind (is_modified setup two.v past) in
    subst (λ x. LeadBack setup (after_op_open s i op x past) (after_op_tagged s i op x past)) (sym two.sent)
    (move_back setup _ _ _ _
    (λ a. two_open a s i h op (eviction_message setup two.v past two.t) (request_message op two.u) two.v two.t k (line_of op) two.u (kind_of op) past (victim_opens setup two.v past two.t) (request_opens op two.u))
    (λ tag. two_tag tag s i h op (eviction_message setup two.v past two.t) (request_message op two.u) two.v two.t k (line_of op) two.u (kind_of op) past (victim_opens setup two.v past two.t) (request_opens op two.u))
    (opened_leads_back setup _ _ two.v (opened s i op k two.t) victim two.free.first.exists
    (λ a o. unused_after setup (λ b. open_at b past) (line_of op) (opened s i op (kind_of op) two.u) two.t (λ same. two.free.distinct (sym same)) (free_unused setup past two.t inv two.free.first) a o (line_of op == a))
    (opened_leads_back setup (λ a. open_at a past) (λ b. tagged_line b past) (line_of op) (opened s i op (kind_of op) two.u) line two.free.second.exists (free_unused setup past two.u inv two.free.second) inv)))

-- a message that is sent names a line that exists
fits_parts : (setup : Configuration) (h : ℕ) (o : Out) → out_fits setup h o ≡ true → message_fits setup o.message ≡ true
fits_parts setup h o fits = (and_parts _ _ fits).1

evicted_line_exists : (setup : Configuration) (modified : Bool) (bytes : Bytes64) (v t : ℕ) → message_fits setup (eviction_with modified bytes v t) ≡ true → v < setup.lines
evicted_line_exists setup true bytes v t fits = ltb-true v setup.lines (and_parts _ _ fits).1
evicted_line_exists setup false bytes v t fits = ltb-true v setup.lines (and_parts _ _ fits).1

victim_exists : (setup : Configuration) (h : ℕ) (op : Op) (past : List Event) (sends : Sends) (two : Evicting setup h op past sends) → list_all (out_fits setup h) (outs sends) ≡ true → two.v < setup.lines
victim_exists setup h op past sends two fits =
    let both = subst (λ x. list_all (out_fits setup h) (outs x) ≡ true) two.sent fits in
    evicted_line_exists setup (is_modified setup two.v past) (copy setup two.v past).bytes two.v two.t
    (fits_parts setup h (record { host = h; message = eviction_message setup two.v past two.t }) (and_parts _ _ both).0)

-- what an operation leaves
operation_leads_back :
    (setup : Configuration) (h s i : ℕ) (op : Op) (past : List Event) (sends : Sends) → operation_fits setup h s op ≡ true → list_all (out_fits setup h) (outs sends) ≡ true
    → LeadBack setup (λ a. open_at a past) (λ b. tagged_line b past) → Operated setup h op past sends
    → LeadBack setup (after_op_open s i op sends past) (after_op_tagged s i op sends past)
operation_leads_back setup h s i op past sends fits outs_fit inv (Hits none) =
    subst (λ x. LeadBack setup (after_op_open s i op x past) (after_op_tagged s i op x past)) (sym none) inv
operation_leads_back setup h s i op past sends fits outs_fit inv (Requests one) =
    request_leads_back setup h s i op past sends (ltb-true (line_of op) setup.lines (and_parts _ _ fits).1) inv one
operation_leads_back setup h s i op past sends fits outs_fit inv (Evicts two) =
    evicting_leads_back setup h s i op past sends (ltb-true (line_of op) setup.lines (and_parts _ _ fits).1) inv two (victim_exists setup h op past sends two outs_fit)

-- what a cause leaves, by its row
cause_leads_back :
    (setup : Configuration) (h : ℕ) (cause : Cause) (past : List Event) (sends : Sends) (w : Emission) → host_emission setup h cause past ≡ Some w → sends ≡ w.sends
    → cause_fits setup h cause ≡ true → list_all (out_fits setup h) (outs sends) ≡ true
    → LeadBack setup (λ a. open_at a past) (λ b. tagged_line b past)
    → LeadBack setup (λ a. open_after a cause sends (open_at a past)) (λ b. tagged_after b cause sends (tagged_line b past))
cause_leads_back setup h (Cause.Op s i op) past sends w row sent fits outs_fit inv =
    operation_leads_back setup h s i op past sends fits outs_fit inv (subst (Operated setup h op past) (sym sent) (operated setup h s i op past w row))
cause_leads_back setup h (Cause.Take host m) past sends w row sent fits outs_fit inv = take_leads_back setup (λ a. open_at a past) (λ b. tagged_line b past) m inv
cause_leads_back setup h (Cause.Act act) past sends w row sent fits outs_fit inv = inv

pub open_leads_back :
    (setup : Configuration) (opening : List (Line × Bytes64)) (h : ℕ) → is_device h ≡ false → (mine : List Event) → is_own_run setup opening h mine ≡ true
    → LeadBack setup (λ a. open_at a mine) (λ b. tagged_line b mine)
open_leads_back setup opening h host [] run = λ a o there. absurd (none-some o there)
open_leads_back setup opening h host (e ∷ past) run =
    let on = host_goes_on setup opening h host e past run in
    cause_leads_back setup h e.cause past e.sends on.step.w on.step.row on.step.sends on.step.fits on.step.outs_fit (open_leads_back setup opening h host past on.before)

pub open_tags_lead_back : OpenTagsLeadBack
open_tags_lead_back setup opening limits h host mine run a o there =
    let back = open_leads_back setup opening h (host_is_no_device setup limits h host) mine run a o there in
    record { tag = back.tag; line = back.line; tagged = back.back; found = tagged_found (λ b. open_at b mine) (λ b. tagged_line b mine) a o there back.back }

pub open_tags_are_distinct : OpenTagsAreDistinct
open_tags_are_distinct setup opening limits h host mine run a b o p there other same =
    let inv = open_leads_back setup opening h (host_is_no_device setup limits h host) mine run in
    same_Some a b (sym (inv a o there).back ∙ ap (λ t. tagged_line t mine) same ∙ (inv b p other).back)
