-- What is open for a line fits it: its operation is of its kind and on the line, and its grant may be given to it. By recursion over a host's own events.
use Rattle.std.proofs.Common.{◌≡◌, ℕ, Bool, true, false, List, [], ◌∷◌, Option, Some, None, cond, refl, sym, ◌∙◌, ap, subst}
use Rattle.std.specs.Prelude.{is_none, ◌==◌, ◌&&◌}
use Rattle.std.specs.Option.{option_or}
use Rattle.std.proofs.lemmas.Bool.{eqb-true, false≢true}
use Rattle.std.proofs.lemmas.Option.{none-some, same_Some}
use Rattle.cxl_message.specs.declared.events.Cause.{Cause}
use Rattle.cxl_message.specs.declared.events.Event.{Event}
use Rattle.cxl_message.specs.declared.events.Op.{Op}
use Rattle.cxl_message.specs.declared.events.Sends.{Sends}
use Rattle.cxl_message.specs.declared.identifiers.Bytes64.{Bytes64}
use Rattle.cxl_message.specs.declared.identifiers.Line.{Line}
use Rattle.cxl_message.specs.declared.messages.Message.{Message}
use Rattle.cxl_message.specs.declared.opcodes.NdrOp.{NdrOp}
use Rattle.cxl_message.specs.Events.{line_of}
use Rattle.cxl_message.specs.Setup.{Configuration}
use Rattle.coherence_model.specs.Emission.{Emission}
use Rattle.coherence_model.specs.Fitting.{is_device}
use Rattle.coherence_model.specs.HostOperations.{eviction_message, request_message}
use Rattle.coherence_model.specs.HostRows.{host_emission}
use Rattle.coherence_model.specs.HostTakes.{host_takes, may_grant}
use Rattle.coherence_model.specs.Cache.{is_modified}
use Rattle.coherence_model.specs.Tags.{open_with, tagged_line}
use Rattle.coherence_model.specs.Transactions.{Transaction, is_read, is_request, open_after, open_after_completion, open_after_data, open_after_take, open_at, opened}
use Rattle.coherence_lemmas.proofs.HostTakes.{Granted, h3_grant-inv}
use Rattle.coherence_lemmas.proofs.Rows.{host_take-inv}
use Rattle.request_laws.proofs.HostOperations.{Evicts, Hits, Operated, Requests, eviction_kind, kind_of, operated, request_opens}
use Rattle.request_laws.proofs.OpenLines.{LeadBack, after_take, one_opens, open_leads_back, opening_line, tagged_found, two_open, victim_opens}
use Rattle.request_laws.proofs.OwnRuns.{host_goes_on}
use Rattle.coherence_model.specs.OwnRuns.{is_own_run}

-- what is open for a line fits it
pub record FitsLine (a : ℕ) (o : Transaction) : Type 0 where
  pub asked : is_request o.kind ≡ true → (kind_of o.op ≡ o.kind) × (line_of o.op ≡ a)
  pub granted : (c : NdrOp) → o.grant ≡ Some c → may_grant c o.kind ≡ true

-- what is open for each line is for that line, and a completion was granted
abbrev pub AreFit : (ℕ → Option Transaction) → Type 0
AreFit f = (a : ℕ) (o : Transaction) → f a ≡ Some o → FitsLine a o

-- ---- what an operation opens

-- one more opened line fits
fit_one : (f : ℕ → Option Transaction) (l : ℕ) (x : Transaction) → FitsLine l x → AreFit f → (a : ℕ) (o : Transaction) (here : Bool) → (l == a) ≡ here
    → option_or (cond here (Some x) None) (f a) ≡ Some o → FitsLine a o
fit_one f l x fits old a o true is there = subst (λ b. FitsLine b o) (eqb-true l a is) (subst (FitsLine l) (same_Some x o there) fits)
fit_one f l x fits old a o false is there = old a o there

-- an opened line fits, and the others as before
fit_opened : (f : ℕ → Option Transaction) (l : ℕ) (x : Transaction) → FitsLine l x → AreFit f → AreFit (opening_line l x f)
fit_opened f l x fits old a o there = fit_one f l x fits old a o (l == a) refl there

-- equal lookups fit alike
fit_as : (f g : ℕ → Option Transaction) → ((a : ℕ) → g a ≡ f a) → AreFit f → AreFit g
fit_as f g same old a o there = old a o (sym (same a) ∙ there)

-- an opened request fits the operation's line
request_fits : (s i t : ℕ) (op : Op) → FitsLine (line_of op) (opened s i op (kind_of op) t)
request_fits s i t op = record { asked = λ is. (refl, refl); granted = λ c there. absurd (none-some c there) }

-- an eviction is no request
no_request : (b : Bool) → is_request (eviction_kind b) ≡ true → ⊥
no_request true h = false≢true h
no_request false h = false≢true h

-- an opened eviction fits any line
eviction_fits : (s i t v : ℕ) (op : Op) (b : Bool) → FitsLine v (opened s i op (eviction_kind b) t)
eviction_fits s i t v op b = record { asked = λ is. absurd (no_request b is); granted = λ c there. absurd (none-some c there) }

-- after an operation what is open fits
operation_fits : (setup : Configuration) (h s i : ℕ) (op : Op) (own : List Event) (sends : Sends) → Operated setup h op own sends → AreFit (λ a. open_at a own)
    → AreFit (λ a. open_after a (Cause.Op s i op) sends (open_at a own))
operation_fits setup h s i op own sends (Hits none) old = subst (λ x. AreFit (λ a. open_after a (Cause.Op s i op) x (open_at a own))) (sym none) old
operation_fits setup h s i op own sends (Requests one) old =
    subst (λ x. AreFit (λ a. open_after a (Cause.Op s i op) x (open_at a own))) (sym one.sent)
    (fit_as _ _ (λ a. one_opens a s i h op (request_message op one.t) (line_of op) one.t (kind_of op) own (request_opens op one.t))
    (fit_opened (λ a. open_at a own) (line_of op) (opened s i op (kind_of op) one.t) (request_fits s i one.t op) old))
operation_fits setup h s i op own sends (Evicts two) old =
    let k = eviction_kind (is_modified setup two.v own) in
    subst (λ x. AreFit (λ a. open_after a (Cause.Op s i op) x (open_at a own))) (sym two.sent)
    (fit_as _ _
    (λ a. two_open a s i h op (eviction_message setup two.v own two.t) (request_message op two.u) two.v two.t k (line_of op) two.u (kind_of op) own (victim_opens setup two.v own two.t) (request_opens op two.u))
    (fit_opened _ two.v (opened s i op k two.t) (eviction_fits s i two.t two.v op (is_modified setup two.v own))
    (fit_opened (λ a. open_at a own) (line_of op) (opened s i op (kind_of op) two.u) (request_fits s i two.u op) old)))

-- ---- what a take leaves

-- what is open with a tag is what is open for the line of the tag
pub open_with_is : (setup : Configuration) (own : List Event) (a : ℕ) (o x : Transaction) (tag : ℕ) → LeadBack setup (λ b. open_at b own) (λ t. tagged_line t own)
    → open_at a own ≡ Some o → (tag == o.tag) ≡ true → open_with tag own ≡ Some x → x ≡ o
open_with_is setup own a o x tag back there same found =
    same_Some x o (sym found ∙ ap (λ t. open_with t own) (eqb-true tag o.tag same) ∙ tagged_found (λ b. open_at b own) (λ t. tagged_line t own) a o there (back a o there).back)

-- what stays open fits
fit_if : (a : ℕ) (b : Bool) (x p : Transaction) → FitsLine a x → cond b (Some x) None ≡ Some p → FitsLine a p
fit_if a true x p fits h = subst (FitsLine a) (same_Some x p h) fits
fit_if a false x p fits h = absurd (none-some p h)

-- a grant that may be given fits
granted_fits : (a : ℕ) (c : NdrOp) (o : Transaction) → may_grant c o.kind ≡ true → FitsLine a o → FitsLine a (record o { grant = Some c })
granted_fits a c o may fits = record { asked = fits.asked; granted = λ d there. subst (λ x. may_grant x o.kind ≡ true) (same_Some c d there) may }

-- data that was taken fits
data_fits : (a : ℕ) (bytes : Bytes64) (o : Transaction) → FitsLine a o → FitsLine a (record o { bytes = Some bytes })
data_fits a bytes o fits = record { asked = fits.asked; granted = fits.granted }

-- what a grant leaves open fits
completed_fits : (a : ℕ) (c : NdrOp) (o p : Transaction) → may_grant c o.kind ≡ true → FitsLine a o → open_after_completion c o ≡ Some p → FitsLine a p
completed_fits a NdrOp.Cmp o p may fits h = fit_if a (is_request o.kind) o p fits h
completed_fits a NdrOp.CmpS o p may fits h = fit_if a (is_read o.kind && is_none o.bytes) (record o { grant = Some NdrOp.CmpS }) p (granted_fits a NdrOp.CmpS o may fits) h
completed_fits a NdrOp.CmpE o p may fits h = fit_if a (is_read o.kind && is_none o.bytes) (record o { grant = Some NdrOp.CmpE }) p (granted_fits a NdrOp.CmpE o may fits) h
completed_fits a NdrOp.ConflictAck o p may fits h = subst (FitsLine a) (same_Some o p h) fits

-- what a message of the tag leaves open fits, and else as before
named_fits : (a : ℕ) (b : Bool) (o p : Transaction) (x : Option Transaction) → FitsLine a o → (b ≡ true → x ≡ Some p → FitsLine a p) → cond b x (Some o) ≡ Some p → FitsLine a p
named_fits a true o p x fits named h = named refl h
named_fits a false o p x fits named h = subst (FitsLine a) (same_Some o p h) fits

-- the same transaction fits
same_fits : (a : ℕ) (o p : Transaction) → FitsLine a o → ◌≡◌ {A = Option Transaction} (Some o) (Some p) → FitsLine a p
same_fits a o p fits h = subst (FitsLine a) (same_Some o p h) fits

-- the grant that a row takes may be given
ndr_may : (setup : Configuration) (own : List Event) (a : ℕ) (o : Transaction) (c : NdrOp) (tag : ℕ) (w : Emission) → LeadBack setup (λ b. open_at b own) (λ t. tagged_line t own)
    → open_at a own ≡ Some o → (tag == o.tag) ≡ true → Granted c (open_with tag own) w → may_grant c o.kind ≡ true
ndr_may setup own a o c tag w back there same row = subst (λ (x : Transaction). may_grant c x.kind ≡ true) (open_with_is setup own a o row.o tag back there same row.is_open) row.may

-- what a take leaves open for a line fits it
take_fits_line : (setup : Configuration) (h : ℕ) (m : Message) (own : List Event) (w : Emission) → host_takes setup h m own ≡ Some w → LeadBack setup (λ b. open_at b own) (λ t. tagged_line t own)
    → (a : ℕ) (o p : Transaction) → open_at a own ≡ Some o → FitsLine a o → open_after_take m o ≡ Some p → FitsLine a p
take_fits_line setup h (Message.Req _ _ _ _ _) own w row back a o p there fits e = same_fits a o p fits e
take_fits_line setup h (Message.MemWr _ _ _ _ _) own w row back a o p there fits e = same_fits a o p fits e
take_fits_line setup h (Message.BiConflict _) own w row back a o p there fits e = same_fits a o p fits e
take_fits_line setup h (Message.BiRsp _ _ _) own w row back a o p there fits e = same_fits a o p fits e
take_fits_line setup h (Message.Ndr NdrOp.Cmp tag) own w row back a o p there fits e =
    named_fits a (tag.0 == o.tag) o p (open_after_completion NdrOp.Cmp o) fits (λ same. fit_if a (is_request o.kind) o p fits) e
take_fits_line setup h (Message.Ndr NdrOp.CmpS tag) own w row back a o p there fits e =
    named_fits a (tag.0 == o.tag) o p (open_after_completion NdrOp.CmpS o) fits
    (λ same. completed_fits a NdrOp.CmpS o p (ndr_may setup own a o NdrOp.CmpS tag.0 w back there same (h3_grant-inv NdrOp.CmpS (open_with tag.0 own) w row)) fits) e
take_fits_line setup h (Message.Ndr NdrOp.CmpE tag) own w row back a o p there fits e =
    named_fits a (tag.0 == o.tag) o p (open_after_completion NdrOp.CmpE o) fits
    (λ same. completed_fits a NdrOp.CmpE o p (ndr_may setup own a o NdrOp.CmpE tag.0 w back there same (h3_grant-inv NdrOp.CmpE (open_with tag.0 own) w row)) fits) e
take_fits_line setup h (Message.Ndr NdrOp.ConflictAck tag) own w row back a o p there fits e =
    named_fits a (tag.0 == o.tag) o p (open_after_completion NdrOp.ConflictAck o) fits (λ same. same_fits a o p fits) e
take_fits_line setup h (Message.MemData tag bytes) own w row back a o p there fits e =
    named_fits a (tag.0 == o.tag) o p (open_after_data bytes o) fits (λ same. fit_if a (is_none o.grant) (record o { bytes = Some bytes }) p (data_fits a bytes o fits)) e
take_fits_line setup h (Message.BiSnp _ _ _ _) own w row back a o p there fits e = same_fits a o p fits e
take_fits_line setup h (Message.Credit _) own w row back a o p there fits e = same_fits a o p fits e

-- ---- a host's own events

-- after an event of the host what is open fits
cause_fits_line : (setup : Configuration) (h : ℕ) (cause : Cause) (own : List Event) (sends : Sends) (w : Emission) → host_emission setup h cause own ≡ Some w → sends ≡ w.sends
    → LeadBack setup (λ b. open_at b own) (λ t. tagged_line t own) → AreFit (λ a. open_at a own) → AreFit (λ a. open_after a cause sends (open_at a own))
cause_fits_line setup h (Cause.Op s i op) own sends w row sent back old = operation_fits setup h s i op own sends (subst (Operated setup h op own) (sym sent) (operated setup h s i op own w row)) old
cause_fits_line setup h (Cause.Take k m) own sends w row sent back old = λ a p there.
    let was = after_take m (open_at a own) p there in
    take_fits_line setup h m own w (host_take-inv setup h k m own w row).same back a was.0 p was.1 (old a was.0 was.1) was.2
cause_fits_line setup h (Cause.Act act) own sends w row sent back old = old

-- what a host has open fits its line, by recursion over the host's own events
pub open_lines_fit : (setup : Configuration) (opening : List (Line × Bytes64)) (h : ℕ) → is_device h ≡ false → (own : List Event) → is_own_run setup opening h own ≡ true → AreFit (λ a. open_at a own)
open_lines_fit setup opening h host [] run = λ a o there. absurd (none-some o there)
open_lines_fit setup opening h host (e ∷ past) run =
    let on = host_goes_on setup opening h host e past run in
    cause_fits_line setup h e.cause past e.sends on.step.w on.step.row on.step.sends (open_leads_back setup opening h host past on.before) (open_lines_fit setup opening h host past on.before)
