-- What a host has open: its operation, stream and tag exist.
use Rattle.std.proofs.Common.{◌≡◌, ℕ, Bool, true, false, List, [], ◌∷◌, Option, Some, None, cond, ◌∙◌, subst}
use Rattle.std.specs.Prelude.{◌==◌, ◌&&◌, is_none, nat_lt, option_and_then}
use Rattle.std.specs.Option.{option_or}
use Rattle.std.proofs.lemmas.Bool.{and_parts, false≢true}
use Rattle.std.proofs.lemmas.Option.{none-some, same_Some}
use Rattle.cxl_message.specs.declared.events.Cause.{Cause}
use Rattle.cxl_message.specs.declared.events.Event.{Event}
use Rattle.cxl_message.specs.declared.events.Op.{Op}
use Rattle.cxl_message.specs.declared.events.Out.{Out}
use Rattle.cxl_message.specs.declared.events.Sends.{Sends}
use Rattle.cxl_message.specs.declared.identifiers.Bytes64.{Bytes64}
use Rattle.cxl_message.specs.declared.identifiers.Line.{Line}
use Rattle.cxl_message.specs.declared.messages.Message.{Message}
use Rattle.cxl_message.specs.declared.opcodes.NdrOp.{NdrOp}
use Rattle.cxl_message.specs.Events.{line_of, outs}
use Rattle.cxl_message.specs.Formed.{cause_formed, place_exists}
use Rattle.cxl_message.specs.Setup.{Configuration}
use Rattle.coherence_model.specs.Fitting.{cause_fits, message_fits, out_fits}
use Rattle.coherence_model.specs.HostActs.{may_conflict}
use Rattle.coherence_model.specs.Tags.{if_tagged, open_with, tagged_line}
use Rattle.coherence_model.specs.Transactions.{Kind, Transaction, is_read, is_request, open_after, open_after_completion, open_after_data, open_after_grant, open_after_take, open_at, opened, opened_by_message, opened_by_sends, request_kind}
use Rattle.coherence_lemmas.proofs.Allowed.{profiled}
use Rattle.coherence_lemmas.proofs.Options.{and_then_some, if_some}
use Rattle.step_laws.proofs.Counts.{Each, each_from_all}
use Rattle.coherence_model.specs.OwnRuns.{IsOwnRun}
use Rattle.coherence_model.proofs.OwnRuns.{own_event}

-- what is open, as a host may have it: a BIConflict may take the tag of all but a MemWr
pub record TransactionFits (setup : Configuration) (o : Transaction) : Type 0 where
  pub place : place_exists o.op ≡ true
  pub line : nat_lt (line_of o.op) setup.lines ≡ true
  pub stream : nat_lt o.stream 64 ≡ true
  pub tag : may_conflict o.kind ≡ true → nat_lt o.tag setup.tags ≡ true

-- what is open, if anything is
abbrev pub OpenFits : Configuration → Option Transaction → Type 0
OpenFits setup None = Unit {0}
OpenFits setup (Some o) = TransactionFits setup o

if-fits : (setup : Configuration) (b : Bool) (o : Transaction) → TransactionFits setup o → OpenFits setup (cond b (Some o) None)
if-fits setup true o fits = fits
if-fits setup false o fits = tt

or-fits : (setup : Configuration) (o p : Option Transaction) → OpenFits setup o → OpenFits setup p → OpenFits setup (option_or o p)
or-fits setup None p fits other = other
or-fits setup (Some o) p fits other = fits

-- what an operation's message opens
opened-fits :
    (setup : Configuration) (a s i : ℕ) (op : Op) (m : Message) → nat_lt s 64 ≡ true → place_exists op ≡ true → nat_lt (line_of op) setup.lines ≡ true
    → message_fits setup m ≡ true → OpenFits setup (opened_by_message a s i op m)
opened-fits setup a s i op (Message.Req request meta snp tag line) stream place exists fits =
    if-fits setup (line.0 == a) (opened s i op (request_kind request meta) tag.0)
    (record { place = place; line = exists; stream = stream; tag = λ may. (and_parts _ _ fits).0 })
opened-fits setup a s i op (Message.MemWr meta snp tag line bytes) stream place exists fits =
    if-fits setup (line.0 == a) (opened s i op Kind.DirtyEviction tag.0)
    (record { place = place; line = exists; stream = stream; tag = λ may. absurd (false≢true may) })
opened-fits setup a s i op (Message.BiConflict tag) stream place exists fits = tt
opened-fits setup a s i op (Message.BiRsp response bitag low) stream place exists fits = tt
opened-fits setup a s i op (Message.Ndr completion tag) stream place exists fits = tt
opened-fits setup a s i op (Message.MemData tag bytes) stream place exists fits = tt
opened-fits setup a s i op (Message.BiSnp snoop bitag line span) stream place exists fits = tt
opened-fits setup a s i op (Message.Credit c) stream place exists fits = tt

-- the message of a sent one fits
out-message : (setup : Configuration) (g : ℕ) (o : Out) → out_fits setup g o ≡ true → message_fits setup o.message ≡ true
out-message setup g o fits = (and_parts _ _ fits).1

sends-fits :
    (setup : Configuration) (g a s i : ℕ) (op : Op) (sends : Sends) → nat_lt s 64 ≡ true → place_exists op ≡ true → nat_lt (line_of op) setup.lines ≡ true
    → Each (λ o. out_fits setup g o ≡ true) (outs sends) → OpenFits setup (opened_by_sends a s i op sends)
sends-fits setup g a s i op Sends.Nothing stream place exists fits = tt
sends-fits setup g a s i op (Sends.One o) stream place exists fits = opened-fits setup a s i op o.message stream place exists (out-message setup g o fits.0)
sends-fits setup g a s i op (Sends.Two o p) stream place exists fits =
    or-fits setup (opened_by_message a s i op o.message) (opened_by_message a s i op p.message)
    (opened-fits setup a s i op o.message stream place exists (out-message setup g o fits.0))
    (opened-fits setup a s i op p.message stream place exists (out-message setup g p fits.1.0))

-- what stays open after a take is as before, but for what was taken
grant-fits : (setup : Configuration) (c : NdrOp) (o : Transaction) → TransactionFits setup o → OpenFits setup (open_after_grant c o)
grant-fits setup c o fits = if-fits setup (is_read o.kind && is_none o.bytes) (record o { grant = Some c })
    (record { place = fits.place; line = fits.line; stream = fits.stream; tag = fits.tag })

data-fits : (setup : Configuration) (bytes : Bytes64) (o : Transaction) → TransactionFits setup o → OpenFits setup (open_after_data bytes o)
data-fits setup bytes o fits = if-fits setup (is_none o.grant) (record o { bytes = Some bytes })
    (record { place = fits.place; line = fits.line; stream = fits.stream; tag = fits.tag })

completion-fits : (setup : Configuration) (c : NdrOp) (o : Transaction) → TransactionFits setup o → OpenFits setup (open_after_completion c o)
completion-fits setup NdrOp.Cmp o fits = if-fits setup (is_request o.kind) o fits
completion-fits setup NdrOp.CmpS o fits = grant-fits setup NdrOp.CmpS o fits
completion-fits setup NdrOp.CmpE o fits = grant-fits setup NdrOp.CmpE o fits
completion-fits setup NdrOp.ConflictAck o fits = fits

either-fits : (setup : Configuration) (b : Bool) (o p : Option Transaction) → OpenFits setup o → OpenFits setup p → OpenFits setup (cond b o p)
either-fits setup true o p fits other = fits
either-fits setup false o p fits other = other

take-fits : (setup : Configuration) (m : Message) (o : Transaction) → TransactionFits setup o → OpenFits setup (open_after_take m o)
take-fits setup (Message.Req op meta snp tag line) o fits = fits
take-fits setup (Message.MemWr meta snp tag line bytes) o fits = fits
take-fits setup (Message.BiConflict tag) o fits = fits
take-fits setup (Message.BiRsp op bitag low) o fits = fits
take-fits setup (Message.Ndr c tag) o fits = either-fits setup (tag.0 == o.tag) (open_after_completion c o) (Some o) (completion-fits setup c o fits) fits
take-fits setup (Message.MemData tag bytes) o fits = either-fits setup (tag.0 == o.tag) (open_after_data bytes o) (Some o) (data-fits setup bytes o fits) fits
take-fits setup (Message.BiSnp op bitag line span) o fits = fits
take-fits setup (Message.Credit c) o fits = fits

taken-fits : (setup : Configuration) (m : Message) (old : Option Transaction) → OpenFits setup old → OpenFits setup (option_and_then (open_after_take m) old)
taken-fits setup m None fits = tt
taken-fits setup m (Some o) fits = take-fits setup m o fits

after-fits :
    (setup : Configuration) (g a : ℕ) (cause : Cause) (sends : Sends) (old : Option Transaction) → cause_formed cause ≡ true → cause_fits setup g cause ≡ true
    → Each (λ o. out_fits setup g o ≡ true) (outs sends) → OpenFits setup old → OpenFits setup (open_after a cause sends old)
after-fits setup g a (Cause.Op s i op) sends old formed fits sent before =
    let numbers = and_parts _ _ formed in
    or-fits setup (opened_by_sends a s i op sends) old (sends-fits setup g a s i op sends numbers.0 numbers.1 (and_parts _ _ fits).1 sent) before
after-fits setup g a (Cause.Take h m) sends old formed fits sent before = taken-fits setup m old before
after-fits setup g a (Cause.Act act) sends old formed fits sent before = before

-- what is open for a line fits
pub open_at_fits :
    (setup : Configuration) (opening : List (Line × Bytes64)) (g : ℕ) (mine : List Event) → IsOwnRun setup opening g mine → (a : ℕ)
    → OpenFits setup (open_at a mine)
open_at_fits setup opening g [] run a = tt
open_at_fits setup opening g (e ∷ mine) run a =
    let own = own_event setup opening g e mine run in
    let profile = profiled setup e own.profile in
    let formed = and_parts _ _ (and_parts _ _ (and_parts _ _ profile.formed).0).0 in
    after-fits setup e.agent a e.cause e.sends (open_at a mine) formed.1 profile.cause (each_from_all (out_fits setup e.agent) (outs e.sends) profile.sends)
    (open_at_fits setup opening g mine own.before a)

some-fits : (setup : Configuration) (found : Option Transaction) (o : Transaction) → OpenFits setup found → found ≡ Some o → TransactionFits setup o
some-fits setup None o fits is = absurd (none-some o is)
some-fits setup (Some p) o fits is = subst (TransactionFits setup) (same_Some p o is) fits

pub transaction_fits :
    (setup : Configuration) (opening : List (Line × Bytes64)) (g : ℕ) (mine : List Event) → IsOwnRun setup opening g mine → (a : ℕ) (o : Transaction)
    → open_at a mine ≡ Some o → TransactionFits setup o
transaction_fits setup opening g mine run a o is = some-fits setup (open_at a mine) o (open_at_fits setup opening g mine run a) is

-- what is open with a tag fits
pub tagged_fits :
    (setup : Configuration) (opening : List (Line × Bytes64)) (g : ℕ) (mine : List Event) → IsOwnRun setup opening g mine → (tag : ℕ) (o : Transaction)
    → open_with tag mine ≡ Some o → TransactionFits setup o
tagged_fits setup opening g mine run tag o is =
    let found = and_then_some (if_tagged tag) (option_and_then (λ a. open_at a mine) (tagged_line tag mine)) o is in
    let same = if_some (found.x.tag == tag) (Some found.x) o found.same in
    let line = and_then_some (λ a. open_at a mine) (tagged_line tag mine) found.x found.found in
    transaction_fits setup opening g mine run line.x o (line.same ∙ same.same)
