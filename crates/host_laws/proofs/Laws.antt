-- Each event that a host's own half allows makes of what is kept what is kept after it.
use Rattle.host_laws.proofs.AnyOpening.{any_opening}
use Rattle.host_laws.proofs.OwnGoesOn.{goes_on}
use Rattle.host_laws.proofs.OwnAnswers.{own_is_answered}
use Rattle.std.proofs.Common.{IsTrue, List, ap, subst, sym, false, ℕ, ◌-◌, ◌∙◌, ◌∷◌, ◌≡◌}
use Rattle.std.proofs.lemmas.Bool.{and_parts, ltb-true}
use Rattle.cxl_message.specs.declared.events.Act.{Act}
use Rattle.cxl_message.specs.declared.events.Cause.{Cause}
use Rattle.cxl_message.specs.declared.events.Event.{Event}
use Rattle.cxl_message.specs.declared.identifiers.Bytes64.{Bytes64}
use Rattle.cxl_message.specs.declared.identifiers.Line.{Line}
use Rattle.cxl_message.specs.declared.messages.Message.{Message}
use Rattle.cxl_message.specs.Events.{line_of}
use Rattle.cxl_message.specs.Setup.{Configuration, IsWithinLimits}
use Rattle.coherence_model.specs.Cache.{copy}
use Rattle.coherence_model.specs.Fitting.{is_device, is_host}
use Rattle.cxl_message.specs.Stores.{line_after}
use Rattle.coherence_model.specs.HostActs.{response_for}
use Rattle.coherence_model.specs.Next.{event_with}
use Rattle.coherence_model.specs.Refusals.{host_answer}
use Rattle.request_laws.proofs.OwnRuns.{host_is_no_device}
use Rattle.coherence_model.specs.OwnRuns.{IsOwnRun}
use Rattle.host_laws.proofs.AnswersAre.{goes_to_host_by, host_answers_is}
use Rattle.host_laws.proofs.CacheKept.{quiet_parts}
use Rattle.host_laws.proofs.Credits.{Purses, owes_held, purses}
use Rattle.host_laws.proofs.FollowActs.{follow_answer, follow_block, follow_conflict, follow_return, follow_write_back}
use Rattle.host_laws.proofs.Follows.{Follows, follow_drop, follow_evict, follow_hit, follow_request}
use Rattle.host_laws.proofs.FollowTakes.{follow_data, follow_data_fill, follow_eviction_end, follow_grant, follow_grant_fill, follow_write_end}
use Rattle.host_laws.proofs.FollowSnoops.{follow_ack, follow_credit, follow_snoop}
use Rattle.host_laws.proofs.HostEvents.{ByAck, ByAnswer, ByBlock, ByConflict, ByCredit, ByData, ByDataFill, ByDrop, ByEviction, ByEvictionEnd, ByGrant, ByGrantFill, ByHit, ByRequest, ByReturn, BySnoop, ByWriteBack, ByWriteEnd, HostEvent}
use Rattle.host_laws.proofs.HostCases.{host_event}
use Rattle.host_laws.proofs.Keeps.{Keeps, keeps, own_event, run_before}
use Rattle.host_laws.proofs.Ranges.{Ranges, ranges}
use Rattle.host_record.specs.HostChanges.{host_after}
use Rattle.host_record.specs.Stands.{answer_in, kept_host}
use Rattle.host_record.specs.Laws.{OwnEventsAreAnswered, OwnRunsGoOn, OwnRunsOfAnyOpening, RecordsAct, RecordsAnswer, RecordsFollow, RecordsView}
use Rattle.host_laws.proofs.ActsAre.{host_acts_are}
use Rattle.host_laws.proofs.Lookups.{view_is}

follows_at : (setup : Configuration) → IsWithinLimits setup → (h : ℕ) → is_device h ≡ false → (mine : List Event) (e : Event) → Keeps setup mine → Ranges setup mine → Purses setup h mine → HostEvent setup h mine e → Follows setup h mine e
follows_at setup limits h host mine e k r p (ByHit x) =
    subst (Follows setup h mine) (sym x.is) (follow_hit setup h x.s x.i x.op (line_after x.op (copy setup (line_of x.op) mine).bytes) mine r)
follows_at setup limits h host mine e k r p (ByRequest x) =
    subst (Follows setup h mine) (sym x.is) (follow_request setup h x.s x.i x.op x.tag mine k r (quiet_parts (line_of x.op) mine x.quiet) x.needs)
follows_at setup limits h host mine e k r p (ByDrop x) =
    subst (Follows setup h mine) (sym x.is) (follow_drop setup h x.s x.i x.op x.tag x.v mine k r (quiet_parts (line_of x.op) mine x.quiet) x.needs x.victim)
follows_at setup limits h host mine e k r p (ByEviction x) =
    subst (Follows setup h mine) (sym x.is) (follow_evict setup h x.s x.i x.op x.v x.t x.u mine k r (quiet_parts (line_of x.op) mine x.quiet) x.free.distinct x.needs x.victim)
follows_at setup limits h host mine e k r p (ByWriteEnd x) = subst (Follows setup h mine) (sym x.is) (follow_write_end setup h mine k p x.writing)
follows_at setup limits h host mine e k r p (ByEvictionEnd x) = subst (Follows setup h mine) (sym x.is) (follow_eviction_end setup h x.tag x.o mine k p x.there x.eviction)
follows_at setup limits h host mine e k r p (ByGrant x) = subst (Follows setup h mine) (sym x.is) (follow_grant setup h x.c x.tag x.o mine k p x.there x.may x.read x.waits)
follows_at setup limits h host mine e k r p (ByGrantFill x) = subst (Follows setup h mine) (sym x.is) (follow_grant_fill setup h x.c x.tag x.o x.bytes mine k r p x.there x.may x.ends)
follows_at setup limits h host mine e k r p (ByData x) = subst (Follows setup h mine) (sym x.is) (follow_data setup h x.tag x.bytes x.o mine k p x.there x.waits)
follows_at setup limits h host mine e k r p (ByDataFill x) = subst (Follows setup h mine) (sym x.is) (follow_data_fill setup h x.tag x.bytes x.o x.c mine k r p x.there x.read x.granted)
follows_at setup limits h host mine e k r p (BySnoop x) = subst (Follows setup h mine) (sym x.is) (follow_snoop setup h x.op x.bitag x.line x.span mine k x.taken.unsnooped)
follows_at setup limits h host mine e k r p (ByAck x) = subst (Follows setup h mine) (sym x.is) (follow_ack setup h x.tag mine k p x.conflict)
follows_at setup limits h host mine e k r p (ByCredit x) = subst (Follows setup h mine) (sym x.is) (follow_credit setup h x.c mine p (goes_to_host_by setup h h (Message.Credit x.c) host x.fits) x.lacks)
follows_at setup limits h host mine e k r p (ByConflict x) = subst (Follows setup h mine) (sym x.is) (follow_conflict setup h x.a x.row.o mine k x.row.opened x.row.new)
follows_at setup limits h host mine e k r p (ByWriteBack x) =
    subst (Follows setup h mine) (sym x.is) (follow_write_back setup h x.a x.row.s.op mine k x.row.free (ltb-true x.a setup.lines (and_parts _ _ x.fits).1))
follows_at setup limits h host mine e k r p (ByAnswer x) =
    subst (Follows setup h mine) (sym (x.is ∙ ap (event_with h (Cause.Act (Act.Answer (record { 0 = x.a })))) x.row.emits))
    (follow_answer setup h x.a x.row.s.first (x.a - x.row.s.first) (response_for setup x.row.s.op x.a mine) mine k p)
follows_at setup limits h host mine e k r p (ByBlock x) = subst (Follows setup h mine) (sym x.is) (follow_block setup h x.a mine k p x.row.may)
follows_at setup limits h host mine e k r p (ByReturn x) = subst (Follows setup h mine) (sym x.is) (follow_return setup h x.c mine x.row.returns)

-- what is kept after one more event of an own run
pub host_follows : (setup : Configuration) (opening : List (Line × Bytes64)) → IsWithinLimits setup → (h : ℕ) → IsTrue (is_host setup h) → (e : Event) (mine : List Event) → IsOwnRun setup opening h (e ∷ mine)
    → kept_host setup h (e ∷ mine) ≡ host_after setup e (kept_host setup h mine)
host_follows setup opening limits h low e mine run =
    let host = host_is_no_device setup limits h low in
    let before = run_before setup opening h e mine run in
    follows_at setup limits h host mine e (keeps setup opening h host mine before) (ranges setup opening h host mine before) (purses setup opening h host mine before) (host_event setup h mine e host (own_event setup opening h host e mine run))

-- what is answered after an own run
pub host_answers_right : (setup : Configuration) (opening : List (Line × Bytes64)) → IsWithinLimits setup → (h : ℕ) → IsTrue (is_host setup h) → (mine : List Event) → IsOwnRun setup opening h mine → (cause : Cause)
    → answer_in setup h cause (kept_host setup h mine) ≡ host_answer setup h cause mine
host_answers_right setup opening limits h low mine run cause =
    let host = host_is_no_device setup limits h low in
    host_answers_is setup h cause mine host (keeps setup opening h host mine run) (ranges setup opening h host mine run) (owes_held setup h mine (purses setup opening h host mine run))

pub records_follow : RecordsFollow
records_follow setup opening limits h low e mine run = host_follows setup opening limits h low e mine run

pub records_answer : RecordsAnswer
records_answer setup opening limits h low mine run cause = host_answers_right setup opening limits h low mine run cause

pub records_act : RecordsAct
records_act setup opening limits h low mine run =
    let host = host_is_no_device setup limits h low in
    host_acts_are setup opening h host mine run (keeps setup opening h host mine run) (ranges setup opening h host mine run)

pub records_view : RecordsView
records_view setup opening limits h low mine run =
    let host = host_is_no_device setup limits h low in
    view_is setup h mine (keeps setup opening h host mine run) (ranges setup opening h host mine run)

pub own_runs_go_on : OwnRunsGoOn
own_runs_go_on setup opening limits h low mine run opening' run' cause w is = goes_on setup opening' limits h low mine run' cause w is

pub own_events_are_answered : OwnEventsAreAnswered
own_events_are_answered setup opening limits h low e mine run = own_is_answered setup opening h (host_is_no_device setup limits h low) e mine run

pub own_runs_of_any_opening : OwnRunsOfAnyOpening
own_runs_of_any_opening setup opening limits h low mine run other = any_opening setup opening other h (host_is_no_device setup limits h low) mine run
