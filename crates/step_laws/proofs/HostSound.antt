-- An act whose row holds at a host is in the profile.
use Rattle.std.proofs.Common.{◌≡◌, ℕ, ◌+◌, ◌-◌, ◌≤◌, ◌<◌, Bool, true, false, List, Option, Some, cond, refl, sym, ◌∙◌, subst, arith}
use Rattle.std.specs.Prelude.{◌==◌, nat_lt}
use Rattle.std.proofs.lemmas.Bool.{and_from, and_parts, eqb-true, false≢true, le-leb, leb-true, lt-ltb, ltb-true, cond-false}
use Rattle.std.proofs.lemmas.Option.{none-some}
use Rattle.cxl_message.specs.declared.channels.Channel.{Channel}
use Rattle.cxl_message.specs.declared.events.Act.{Act}
use Rattle.cxl_message.specs.declared.events.Cause.{Cause}
use Rattle.cxl_message.specs.declared.events.Commit.{Commit}
use Rattle.cxl_message.specs.declared.events.Event.{Event}
use Rattle.cxl_message.specs.declared.events.Sends.{Sends}
use Rattle.cxl_message.specs.declared.identifiers.Bytes64.{Bytes64}
use Rattle.cxl_message.specs.declared.identifiers.Line.{Line}
use Rattle.cxl_message.specs.declared.messages.Message.{Message}
use Rattle.cxl_message.specs.declared.opcodes.Meta.{Meta}
use Rattle.cxl_message.specs.declared.opcodes.RspOp.{RspOp}
use Rattle.cxl_message.specs.declared.opcodes.SnpOp.{SnpOp}
use Rattle.cxl_message.specs.declared.opcodes.SnpType.{SnpType}
use Rattle.cxl_message.specs.declared.opcodes.Span.{Span}
use Rattle.cxl_message.specs.Channels.{goes_to_device, has_credits}
use Rattle.cxl_message.specs.Codes.{span_len}
use Rattle.cxl_message.specs.Formed.{act_formed}
use Rattle.cxl_message.specs.Lists.{is_in}
use Rattle.cxl_message.specs.Messages.{channel_of}
use Rattle.cxl_message.specs.Profile.{response_in_profile, write_in_profile}
use Rattle.cxl_message.specs.Setup.{Configuration, IsWithinLimits}
use Rattle.cxl_message.specs.Spans.{covers}
use Rattle.coherence_model.specs.Emission.{Emission, one_send}
use Rattle.coherence_model.specs.Fitting.{act_fits, is_device, is_host}
use Rattle.coherence_model.specs.HostActs.{host_acts, host_returns, is_data_snoop, response_for, stays_shared, write_back_message, write_back_meta}
use Rattle.coherence_model.specs.DeviceRows.{device_emission}
use Rattle.coherence_model.specs.Rows.{row_holds}
use Rattle.coherence_model.specs.Rules.{p0_profile}
use Rattle.coherence_model.specs.Snoops.{Snoop, buffered_snoops, is_snooped, is_whole_block, snoop_at, whole_block_at}
use Rattle.coherence_model.specs.Transactions.{open_at}
use Rattle.coherence_lemmas.proofs.Allowed.{emitted}
use Rattle.coherence_lemmas.proofs.HostActs.{h10_return-inv, h7_conflict-inv, h8_write_back-inv, h9_answer-inv, h9_answer_block-inv}
use Rattle.coherence_lemmas.proofs.Options.{some_is}
use Rattle.step_laws.proofs.Counts.{each_find, list_any-count}
use Rattle.step_laws.proofs.Emissions.{EmissionFits, MessageGood, event-profiled, host-agent, host-sends, one-fits}
use Rattle.step_laws.proofs.HeldSnoops.{SnoopFits, held_snoops_fit}
use Rattle.step_laws.proofs.HostParts.{block-found}
use Rattle.step_laws.proofs.LoneSnoops.{each_at}
use Rattle.step_laws.proofs.OpenTransactions.{transaction_fits}
use Rattle.coherence_model.specs.OwnRuns.{IsOwnRun}
use Rattle.step_laws.proofs.OwnRuns.{host_is_no_device}
use Rattle.step_laws.proofs.Steps.{act_event}

-- a line of a snoop that is held: the snoop fits, and covers the line
pub record HeldLine (setup : Configuration) (a : ℕ) (s : Snoop) : Type 0 where
  pub fits : SnoopFits setup s
  pub low : s.first ≤ a
  pub high : a < s.first + span_len s.span
  pub exists : nat_lt a setup.lines ≡ true

held-line : (setup : Configuration) (a : ℕ) (s : Snoop) → SnoopFits setup s → is_in a s.unanswered ≡ true → HeldLine setup a s
held-line setup a s fits is =
    let covered = each_at (λ b. covers s.first s.span b ≡ true) a s.unanswered fits.covered (leb-true 1 _ (sym (list_any-count (λ b. a == b) s.unanswered) ∙ is)) in
    let parts = and_parts _ _ covered in
    let low = leb-true s.first a parts.0 in
    let high = ltb-true a (s.first + span_len s.span) parts.1 in
    let within = fits.within in
    record { fits = fits; low = low; high = high; exists = lt-ltb a setup.lines (omega arith) }

snooped-line :
    (setup : Configuration) (opening : List (Line × Bytes64)) (g : ℕ) (mine : List Event) → IsOwnRun setup opening g mine → (a : ℕ) (s : Snoop)
    → snoop_at a mine ≡ Some s → HeldLine setup a s
snooped-line setup opening g mine run a s is =
    let found = each_find (SnoopFits setup) (λ (r : Snoop). is_in a r.unanswered) (buffered_snoops mine) (held_snoops_fit setup opening g mine run) s is in
    held-line setup a s found.0 found.1

snooped-exists :
    (setup : Configuration) (opening : List (Line × Bytes64)) (g : ℕ) (mine : List Event) → IsOwnRun setup opening g mine → (a : ℕ) → is_snooped a mine ≡ true
    → nat_lt a setup.lines ≡ true
snooped-exists setup opening g mine run a is = let found = some_is (snoop_at a mine) is in (snooped-line setup opening g mine run a found.x found.found).exists

-- what an act at a host needs: its line exists, and what it emits fits
record ActGood (setup : Configuration) (g : ℕ) (act : Act) (w : Emission) : Type 0 where
  formed : act_formed act ≡ true
  fits : act_fits setup g act ≡ true
  emits : EmissionFits setup g w

emits-good :
    (setup : Configuration) → IsWithinLimits setup → (g : ℕ) (m : Message) (w : Emission) → is_host setup g ≡ true → goes_to_device (channel_of m) ≡ true
    → MessageGood setup m → w ≡ one_send g m → EmissionFits setup g w
emits-good setup limits g m w host up good is = subst (EmissionFits setup g) (sym is) (one-fits setup g g m (host-sends setup limits g m host up good))

written-meta : (op : SnpOp) → write_in_profile (write_back_meta op) SnpType.NoOp ≡ true
written-meta op = go (is_data_snoop op)
  where
    go : (b : Bool) → write_in_profile (cond b Meta.Shared Meta.Invalid) SnpType.NoOp ≡ true
    go true = refl
    go false = refl

span-short : (span : Span) → span_len span ≤ 4
span-short Span.One = omega arith
span-short Span.Two = omega arith
span-short Span.Four = omega arith

span-some : (span : Span) → 1 ≤ span_len span
span-some Span.One = omega arith
span-some Span.Two = omega arith
span-some Span.Four = omega arith

response-good : (b : Bool) (low : ℕ) → nat_lt low 4 ≡ true → response_in_profile (cond b RspOp.S RspOp.I) low ≡ true
response-good true low less = less
response-good false low less = less

returned-up : (c : Channel) → host_returns c ≡ true → (has_credits c ≡ true) × (goes_to_device (channel_of (Message.Credit c)) ≡ true)
returned-up Channel.Req h = absurd (false≢true h)
returned-up Channel.Rwd h = absurd (false≢true h)
returned-up Channel.BiRsp h = absurd (false≢true h)
returned-up Channel.Ndr h = (refl, refl)
returned-up Channel.Drs h = (refl, refl)
returned-up Channel.BiSnp h = (refl, refl)
returned-up Channel.CreditUp h = absurd (false≢true h)
returned-up Channel.CreditDown h = absurd (false≢true h)

whole-first-line : (b : ℕ) (s : Snoop) → is_whole_block b s ≡ true → s.first ≡ b
whole-first-line b s whole = let parts = and_parts _ _ whole in eqb-true s.first b (and_parts _ _ parts.0).1

-- what each act of a host emits is in the profile
act-good :
    (setup : Configuration) → IsWithinLimits setup → (opening : List (Line × Bytes64)) (g : ℕ) (mine : List Event) → IsOwnRun setup opening g mine
    → is_host setup g ≡ true → (act : Act) (w : Emission) → host_acts setup g act mine ≡ Some w → ActGood setup g act w
act-good setup limits opening g mine run host (Act.Conflict line) w is =
    let inv = h7_conflict-inv setup g line.0 mine (open_at line.0 mine) w is in
    let tag = (transaction_fits setup opening g mine run line.0 inv.o inv.opened).tag inv.may in
    record {
      formed = refl;
      fits = and_from _ _ host (snooped-exists setup opening g mine run line.0 inv.snooped);
      emits = emits-good setup limits g (Message.BiConflict (record { 0 = inv.o.tag })) w host refl (record { formed = refl; profile = refl; fits = tag }) inv.emits;
    }
act-good setup limits opening g mine run host (Act.WriteBack line) w is =
    let inv = h8_write_back-inv setup g line.0 mine (snoop_at line.0 mine) w is in
    let held = snooped-line setup opening g mine run line.0 inv.s inv.snooped in
    record {
      formed = refl;
      fits = and_from _ _ host held.exists;
      emits = emits-good setup limits g (write_back_message setup inv.s.op line.0 mine) w host refl
          (record { formed = refl; profile = written-meta inv.s.op; fits = and_from _ _ (le-leb setup.tags setup.tags (omega arith)) held.exists }) inv.emits;
    }
act-good setup limits opening g mine run host (Act.Answer line) w is =
    let inv = h9_answer-inv setup g line.0 mine (snoop_at line.0 mine) w is in
    let held = snooped-line setup opening g mine run line.0 inv.s inv.snooped in
    let low = held.low in
    let high = held.high in
    let short = span-short inv.s.span in
    let place : nat_lt (line.0 - inv.s.first) 4 ≡ true = lt-ltb (line.0 - inv.s.first) 4 (omega arith) in
    record {
      formed = refl;
      fits = and_from _ _ host held.exists;
      emits = emits-good setup limits g (Message.BiRsp (response_for setup inv.s.op line.0 mine) (record { 0 = inv.s.first }) (line.0 - inv.s.first)) w host refl
          (record { formed = place; profile = response-good (stays_shared setup inv.s.op line.0 mine) (line.0 - inv.s.first) place; fits = refl }) inv.emits;
    }
act-good setup limits opening g mine run host (Act.AnswerBlock line) w is =
    let inv = h9_answer_block-inv setup g line.0 mine w is in
    let found = some_is (whole_block_at line.0 mine) (block-found setup line.0 mine inv.may) in
    let block = each_find (SnoopFits setup) (is_whole_block line.0) (buffered_snoops mine) (held_snoops_fit setup opening g mine run) found.x found.found in
    let first : found.x.first ≡ line.0 = whole-first-line line.0 found.x block.1 in
    let within = block.0.within in
    let some = span-some found.x.span in
    record {
      formed = refl;
      fits = and_from _ _ host (lt-ltb line.0 setup.lines (omega arith));
      emits = emits-good setup limits g (Message.BiRsp RspOp.IBlk (record { 0 = line.0 }) 0) w host refl
          (record { formed = refl; profile = refl; fits = refl }) inv.emits;
    }
act-good setup limits opening g mine run host (Act.HostReturn c) w is =
    let inv = h10_return-inv g c mine w is in
    let up = returned-up c inv.returns in
    record {
      formed = up.0;
      fits = host;
      emits = emits-good setup limits g (Message.Credit c) w host up.1
          (record { formed = up.0; profile = up.0; fits = refl }) inv.emits;
    }
act-good setup limits opening g mine run host (Act.Serve h tag) w is = absurd (none-some w is)
act-good setup limits opening g mine run host (Act.Clean h tag) w is = absurd (none-some w is)
act-good setup limits opening g mine run host (Act.Start h tag) w is = absurd (none-some w is)
act-good setup limits opening g mine run host (Act.Evict h tag) w is = absurd (none-some w is)
act-good setup limits opening g mine run host (Act.Snoop h line) w is = absurd (none-some w is)
act-good setup limits opening g mine run host (Act.Finish line) w is = absurd (none-some w is)
act-good setup limits opening g mine run host (Act.DeviceReturn h c) w is = absurd (none-some w is)

-- an act whose row holds at a host is in the profile
pub host_act_profiled :
    (setup : Configuration) → IsWithinLimits setup → (opening : List (Line × Bytes64)) (g : ℕ) (mine : List Event) → IsOwnRun setup opening g mine
    → is_host setup g ≡ true → (act : Act) (sends : Sends) (commit : Option Commit) → row_holds setup opening (act_event g act sends commit) mine ≡ true
    → p0_profile setup (act_event g act sends commit) ≡ true
host_act_profiled setup limits opening g mine run host act sends commit row =
    let by = emitted setup opening (act_event g act sends commit) mine row in
    let is : host_acts setup g act mine ≡ Some by.w = sym (cond-false (is_device g) (device_emission setup opening (Cause.Act act) mine) (host_acts setup g act mine) (host_is_no_device setup limits g host)) ∙ by.row in
    let good = act-good setup limits opening g mine run host act by.w is in
    let agent = host-agent setup limits g host in
    event-profiled setup g (Cause.Act act) sends commit by.w by.sends by.commit
    (record { low = agent.0; agent = agent.1; formed = good.formed; fits = good.fits }) good.emits
