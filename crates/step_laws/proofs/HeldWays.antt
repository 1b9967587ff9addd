-- The lines that have a way exist, and so do free tags.
use Rattle.std.proofs.Common.{◌≡◌, ℕ, zero, suc, ◌+◌, ◌≤◌, ◌<◌, Bool, true, false, List, [], ◌∷◌, ◌++◌, Option, Some, None, cond, arith}
use Rattle.std.specs.Prelude.{◌==◌, not}
use Rattle.std.specs.List.{range_with_len}
use Rattle.std.proofs.lemmas.Bool.{and_parts, ltb-true}
use Rattle.cxl_message.specs.declared.events.Cause.{Cause}
use Rattle.cxl_message.specs.declared.events.Event.{Event}
use Rattle.cxl_message.specs.declared.events.Sends.{Sends}
use Rattle.cxl_message.specs.declared.identifiers.Bytes64.{Bytes64}
use Rattle.cxl_message.specs.declared.identifiers.Line.{Line}
use Rattle.cxl_message.specs.declared.messages.Message.{Message}
use Rattle.cxl_message.specs.Events.{outs}
use Rattle.cxl_message.specs.Lists.{below, is_in}
use Rattle.cxl_message.specs.Messages.{line_in}
use Rattle.cxl_message.specs.Setup.{Configuration}
use Rattle.coherence_model.specs.Cache.{Cache, cache, copies_after, dropped_line, keeps_way, may_give_up, victim_way, ways, ways_after, ways_after_op, ways_if_given_up, with_way, without_dropped, without_way}
use Rattle.coherence_model.specs.Fitting.{message_fits, out_fits}
use Rattle.coherence_model.specs.Snoops.{is_quiet}
use Rattle.coherence_model.specs.Tags.{free_tags, is_tag_used}
use Rattle.coherence_lemmas.proofs.Allowed.{profiled}
use Rattle.step_laws.proofs.Counts.{Each, each_append, each_filter, each_find, each_from_all}
use Rattle.coherence_model.specs.OwnRuns.{IsOwnRun}
use Rattle.coherence_model.proofs.OwnRuns.{own_event}

-- the line of a message that fits exists
abbrev LineExists : Configuration → Option ℕ → Type 0
LineExists setup None = Unit {0}
LineExists setup (Some a) = a < setup.lines

line-exists : (setup : Configuration) (m : Message) → message_fits setup m ≡ true → LineExists setup (line_in m)
line-exists setup (Message.Req op meta snp tag line) fits = ltb-true line.0 setup.lines (and_parts _ _ fits).1
line-exists setup (Message.MemWr meta snp tag line bytes) fits = ltb-true line.0 setup.lines (and_parts _ _ fits).1
line-exists setup (Message.BiConflict tag) fits = tt
line-exists setup (Message.BiRsp op bitag low) fits = tt
line-exists setup (Message.Ndr op tag) fits = tt
line-exists setup (Message.MemData tag bytes) fits = tt
line-exists setup (Message.BiSnp op bitag line span) fits = tt
line-exists setup (Message.Credit c) fits = tt

-- lines that all exist
abbrev pub AllExist : Configuration → List ℕ → Type 0
AllExist setup held = Each (λ a. a < setup.lines) held

added-exist : (setup : Configuration) (a : ℕ) (held : List ℕ) (b : Bool) → a < setup.lines → AllExist setup held → AllExist setup (cond b held (held ++ a ∷ []))
added-exist setup a held true less all = all
added-exist setup a held false less all = each_append _ held (a ∷ []) all (less, tt)

with-exist : (setup : Configuration) (a : Option ℕ) (held : List ℕ) → LineExists setup a → AllExist setup held → AllExist setup (with_way a held)
with-exist setup None held less all = all
with-exist setup (Some a) held less all = added-exist setup a held (is_in a held) less all

without-exist : (setup : Configuration) (a : Option ℕ) (held : List ℕ) → AllExist setup held → AllExist setup (without_way a held)
without-exist setup None held all = all
without-exist setup (Some a) held all = each_filter _ (λ y. not (a == y)) held all

op-exist :
    (setup : Configuration) (g : ℕ) (sends : Sends) (held : List ℕ) → Each (λ o. out_fits setup g o ≡ true) (outs sends) → AllExist setup held
    → AllExist setup (ways_after_op sends held)
op-exist setup g Sends.Nothing held fits all = all
op-exist setup g (Sends.One o) held fits all = with-exist setup (line_in o.message) held (line-exists setup o.message (and_parts _ _ fits.0).1) all
op-exist setup g (Sends.Two v o) held fits all =
    with-exist setup (line_in o.message) (without_way (line_in v.message) held) (line-exists setup o.message (and_parts _ _ fits.1.0).1)
    (without-exist setup (line_in v.message) held all)

given-exist : (setup : Configuration) (b : Bool) (keeps : ℕ → Bool) (held : List ℕ) → AllExist setup held → AllExist setup (ways_if_given_up b keeps held)
given-exist setup true keeps held all = each_filter _ keeps held all
given-exist setup false keeps held all = all

after-exist :
    (setup : Configuration) (g : ℕ) (cause : Cause) (sends : Sends) (keeps : ℕ → Bool) (held : List ℕ) → Each (λ o. out_fits setup g o ≡ true) (outs sends)
    → AllExist setup held → AllExist setup (ways_after cause sends keeps held)
after-exist setup g (Cause.Op s i op) sends keeps held fits all = op-exist setup g sends held fits all
after-exist setup g (Cause.Take h m) sends keeps held fits all = all
after-exist setup g (Cause.Act act) sends keeps held fits all = given-exist setup (may_give_up act) keeps held all

dropped-exist : (setup : Configuration) (v : Option ℕ) (old : Cache) → AllExist setup old.ways → AllExist setup (without_dropped v old).ways
dropped-exist setup None old all = all
dropped-exist setup (Some v) old all = each_filter _ (λ y. not (v == y)) old.ways all

-- each line with a way exists
pub ways_exist :
    (setup : Configuration) (opening : List (Line × Bytes64)) (g : ℕ) (mine : List Event) → IsOwnRun setup opening g mine → AllExist setup (ways setup mine)
ways_exist setup opening g [] run = tt
ways_exist setup opening g (e ∷ mine) run =
    let own = own_event setup opening g e mine run in
    let old : Cache = cache setup mine in
    let kept : Cache = without_dropped (dropped_line setup e.cause e.sends mine old.ways) old in
    after-exist setup e.agent e.cause e.sends (keeps_way (e ∷ mine) (copies_after e mine kept.copies)) kept.ways
    (each_from_all (out_fits setup e.agent) (outs e.sends) (profiled setup e own.profile).sends)
    (dropped-exist setup (dropped_line setup e.cause e.sends mine old.ways) old (ways_exist setup opening g mine own.before))

-- so does the victim
pub victim_exists :
    (setup : Configuration) (opening : List (Line × Bytes64)) (g : ℕ) (mine : List Event) → IsOwnRun setup opening g mine → (v : ℕ)
    → victim_way setup mine ≡ Some v → v < setup.lines
victim_exists setup opening g mine run v is = (each_find (λ a. a < setup.lines) (λ a. is_quiet a mine) (ways setup mine)
    (ways_exist setup opening g mine run) v is).0

-- numbers from a on
range-below : (a n bound : ℕ) → a + n ≤ bound → Each (λ k. k < bound) (range_with_len a n)
range-below a zero bound le = tt
range-below a (suc n) bound le = (omega arith, range-below (a + 1) n bound (omega arith))

-- each free tag is one of the setup's
pub free_tags_exist : (setup : Configuration) (mine : List Event) → Each (λ k. k < setup.tags) (free_tags setup mine)
free_tags_exist setup mine = each_filter _ (λ tag. not (is_tag_used tag mine)) (below setup.tags) (range-below 0 setup.tags setup.tags (omega arith))
