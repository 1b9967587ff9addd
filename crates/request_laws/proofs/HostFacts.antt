-- The laws of a host's own events, put together.
use Rattle.std.proofs.Common.{◌≡◌, ℕ, ◌+◌, ◌≤◌, true, List, [], ◌∷◌, count_by, flat_map, refl, sym, ◌∙◌, ap, subst}
use Rattle.std.specs.Prelude.{◌&&◌, ◌==◌}
use Rattle.std.proofs.lemmas.Bool.{and_from, and_parts, eq-eqb, eqb-true}
use Rattle.std.proofs.lemmas.Option.{same_Some}
use Rattle.cxl_message.specs.declared.events.Event.{Event}
use Rattle.cxl_message.specs.Setup.{Configuration}
use Rattle.coherence_model.specs.OwnerFacts.{has_conflict_line, has_write_back_line, is_asked_with, is_writing}
use Rattle.coherence_model.specs.Snoops.{Snoop, buffered_snoops, is_snooped}
use Rattle.coherence_model.specs.Stages.{Stage, stage}
use Rattle.coherence_model.specs.Tags.{is_conflict_open, tagged_line}
use Rattle.coherence_model.specs.WriteBacks.{is_write_back_open}
use Rattle.request_laws.proofs.Below.{any_below, both_same, passing_below}
use Rattle.request_laws.proofs.BufferedSnoops.{total, total-cons}
use Rattle.request_laws.proofs.Conflicts.{ConflictsAre, conflicts_kept}
use Rattle.request_laws.proofs.Counts.{count_by-append, times}
use Rattle.request_laws.proofs.OpenLines.{open_leads_back}
use Rattle.request_laws.proofs.OwnRuns.{host_is_no_device}
use Rattle.request_laws.proofs.SnoopsKept.{counts_snooped, snoops_kept}
use Rattle.request_laws.proofs.WriteBacks.{WritesAre, writes_kept}
use Rattle.request_laws.specs.HostLaws.{AskedLinesAreSnooped, ConflictsHaveLines, ConflictTagsAreOwn, NoLineIsSnoopedTwice, WriteBackIsAlone, WriteBacksHaveLines, WritingLinesAreSnooped}

pub asked_lines : AskedLinesAreSnooped
asked_lines setup opening limits h host mine run a t st =
    let asks = (conflicts_kept setup opening h (host_is_no_device setup limits h host) mine run).asked a t st in
    record { snooped = counts_snooped a mine asks.snooped; tagged = asks.named; conflict = asks.still; tag = asks.tag; line = asks.line }

-- a stage is Asked with a tag where the test says so
asked_from : (t : ℕ) (st : Stage) → is_asked_with t st ≡ true → st ≡ Stage.Asked t
asked_from t Stage.New h = cc
asked_from t (Stage.Asked u) h = ap Stage.Asked (eqb-true u t h)
asked_from t Stage.Early h = cc
asked_from t Stage.Late h = cc
asked_from t Stage.Writing h = cc
asked_from t Stage.Written h = cc

writing_from : (st : Stage) → is_writing st ≡ true → st ≡ Stage.Writing
writing_from Stage.New h = cc
writing_from (Stage.Asked u) h = cc
writing_from Stage.Early h = cc
writing_from Stage.Late h = cc
writing_from Stage.Writing h = refl
writing_from Stage.Written h = cc

pub conflict_line_there : (setup : Configuration) (mine : List Event) (t : ℕ) → ConflictsAre setup mine → is_conflict_open t mine ≡ has_conflict_line setup t mine
conflict_line_there setup mine t inv =
    both_same (is_conflict_open t mine) (has_conflict_line setup t mine)
    (λ is.
    let found = inv.found t is in
    let asks = inv.asked found.0 t found.1 in
    any_below (λ a. is_snooped a mine && is_asked_with t (stage setup a mine)) setup.lines found.0 asks.line
    (and_from _ _ (counts_snooped found.0 mine asks.snooped) (ap (is_asked_with t) found.1 ∙ eq-eqb t t refl)))
    (λ is.
    let some = passing_below (λ a. is_snooped a mine && is_asked_with t (stage setup a mine)) setup.lines is in
    (inv.asked some.0 t (asked_from t (stage setup some.0 mine) (and_parts (is_snooped some.0 mine) _ some.2).1)).still)

pub conflicts_have_lines : ConflictsHaveLines
conflicts_have_lines setup opening limits h host mine run t =
    conflict_line_there setup mine t (conflicts_kept setup opening h (host_is_no_device setup limits h host) mine run)

pub conflict_tags_are_own : ConflictTagsAreOwn
conflict_tags_are_own setup opening limits h host mine run a b t o st there same =
    let agent = host_is_no_device setup limits h host in
    same_Some b a (sym (open_leads_back setup opening h agent mine run b o there).back ∙ ap (λ x. tagged_line x mine) same ∙ ((conflicts_kept setup opening h agent mine run).asked a t st).named)

pub writing_lines : WritingLinesAreSnooped
writing_lines setup opening limits h host mine run a st =
    counts_snooped a mine ((writes_kept setup opening h (host_is_no_device setup limits h host) mine run).written a st).snooped

pub write_back_line_there : (setup : Configuration) (mine : List Event) → WritesAre setup mine → is_write_back_open setup mine ≡ has_write_back_line setup mine
write_back_line_there setup mine inv =
    both_same (is_write_back_open setup mine) (has_write_back_line setup mine)
    (λ is.
    let found = inv.found is in
    let writes = inv.written found.0 found.1 in
    any_below (λ a. is_snooped a mine && is_writing (stage setup a mine)) setup.lines found.0 writes.line
    (and_from _ _ (counts_snooped found.0 mine writes.snooped) (ap is_writing found.1)))
    (λ is.
    let some = passing_below (λ a. is_snooped a mine && is_writing (stage setup a mine)) setup.lines is in
    (inv.written some.0 (writing_from (stage setup some.0 mine) (and_parts (is_snooped some.0 mine) _ some.2).1)).still)

pub write_backs_have_lines : WriteBacksHaveLines
write_backs_have_lines setup opening limits h host mine run = write_back_line_there setup mine (writes_kept setup opening h (host_is_no_device setup limits h host) mine run)

pub write_back_is_alone : WriteBackIsAlone
write_back_is_alone setup opening limits h host mine run a b st st' = (writes_kept setup opening h (host_is_no_device setup limits h host) mine run).alone a b st st'

-- the lines of all snoops, as one list
count-lines : (a : ℕ) (ss : List Snoop) → count_by (λ b. a == b) (flat_map (λ (s : Snoop). s.unanswered) ss) ≡ total a ss
count-lines a [] = refl
count-lines a (s ∷ ss) =
    count_by-append (λ b. a == b) s.unanswered (flat_map (λ (x : Snoop). x.unanswered) ss) ∙ ap (λ n. times a s.unanswered + n) (count-lines a ss) ∙ sym (total-cons a s ss)

pub no_line_twice : NoLineIsSnoopedTwice
no_line_twice setup opening limits h host mine run a =
    subst (λ n. n ≤ 1) (sym (count-lines a (buffered_snoops mine))) ((snoops_kept setup opening h (host_is_no_device setup limits h host) mine run).apart a)
