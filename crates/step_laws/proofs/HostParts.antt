-- How often AnswerBlock and HostReturn stand among the acts of a host, and any act among those of all hosts.
use Rattle.std.proofs.Common.{◌≡◌, ℕ, ◌+◌, ◌≤◌, Bool, true, false, List, Option, Some, None, cond, refl, sym, ◌∙◌, ap}
use Rattle.std.specs.Prelude.{◌==◌, ◌&&◌, is_some, nat_lt, count_by, sum_by, flat_map, length}
use Rattle.std.specs.Option.{option_map_or}
use Rattle.std.specs.List.{list_all}
use Rattle.std.proofs.lemmas.Bool.{and_right, eq-eqb, eqb-true, ne_eqb, false≢true, leb-true}
use Rattle.cxl_message.specs.declared.channels.Channel.{Channel}
use Rattle.cxl_message.specs.declared.events.Act.{Act}
use Rattle.cxl_message.specs.declared.events.Cause.{Cause}
use Rattle.cxl_message.specs.declared.events.Commit.{Commit}
use Rattle.cxl_message.specs.declared.events.Event.{Event}
use Rattle.cxl_message.specs.declared.events.Sends.{Sends}
use Rattle.cxl_message.specs.declared.identifiers.Bytes64.{Bytes64}
use Rattle.cxl_message.specs.declared.identifiers.Line.{Line}
use Rattle.cxl_message.specs.Codes.{channel_eq, span_len}
use Rattle.cxl_message.specs.Lists.{below}
use Rattle.cxl_message.specs.Setup.{Configuration}
use Rattle.coherence_model.specs.HostActs.{host_returns, may_answer_block, may_answer_in_block}
use Rattle.coherence_model.specs.Next.{act_step, block_acts, host_return_channels, line_acts, next_host_acts, snoop_acts}
use Rattle.coherence_model.specs.Rows.{row_holds}
use Rattle.coherence_model.specs.Snoops.{Snoop, buffered_snoops, invalidates_block, is_whole_block, whole_block_at}
use Rattle.coherence_model.specs.Traces.{events_of}
use Rattle.step_laws.specs.Events.{act_eq, event_eq}
use Rattle.step_laws.proofs.Counts.{each_holds, counted, count_by-append, count_by-flat_map, find-is_some, sum_by-below, sum_by-same, sum_by-zeros}
use Rattle.step_laws.proofs.Events.{is_step}
use Rattle.step_laws.proofs.HostCounts.{AtHost, NoSnoopAct, on_line, returns-none, snoop_acts-none}
use Rattle.step_laws.proofs.HostRows.{answer_block-holds, return-holds}
use Rattle.step_laws.proofs.LineActs.{once-under, sum-under}
use Rattle.step_laws.proofs.LoneSnoops.{wholes_once}
use Rattle.step_laws.proofs.OwnRuns.{host-some}
use Rattle.step_laws.proofs.Steps.{act_event, or-left, three-none, times-if, times-own}
use Rattle.step_laws.proofs.Takes.{times}

-- a block that may be answered at once is found
pub block-found : (setup : Configuration) (b : ℕ) (mine : List Event) → may_answer_block setup b mine ≡ true → is_some (whole_block_at b mine) ≡ true
block-found setup b mine may = found (whole_block_at b mine) may
  where
    found : (o : Option Snoop) → option_map_or (λ s. list_all (may_answer_in_block setup mine) s.unanswered) o false ≡ true → is_some o ≡ true
    found None h = h
    found (Some s) h = refl

-- the block of a snoop is the one with this first line
whole-at :
    (inv len row : Bool) (first b : ℕ) (k : Bool) → (first == b) ≡ k
    → cond ((inv && (first == first)) && len) (counted ((b == first) && row)) 0 ≡ cond row (counted ((inv && k) && len)) 0
whole-at inv len row first b true is =
    let same : first ≡ b = eqb-true first b is in
    rw (eq-eqb first first refl, eq-eqb b first (sym same)) (choices inv len row)
  where
    choices : (x y z : Bool) → cond ((x && true) && y) (counted (true && z)) 0 ≡ cond z (counted ((x && true) && y)) 0
    choices true true true = refl
    choices true true false = refl
    choices true false true = refl
    choices true false false = refl
    choices false y true = refl
    choices false y false = refl
whole-at inv len row first b false is =
    let other : (b == first) ≡ false = ne_eqb b first (λ same. false≢true (sym is ∙ eq-eqb first b (sym same))) in
    rw (eq-eqb first first refl, other) (choices inv len row)
  where
    choices : (x y z : Bool) → cond ((x && true) && y) (counted (false && z)) 0 ≡ cond z (counted ((x && false) && y)) 0
    choices true true true = refl
    choices true true false = refl
    choices true false true = refl
    choices true false false = refl
    choices false y true = refl
    choices false true false = refl
    choices false false false = refl

-- AnswerBlock stands once where its row holds
pub answer_block-counted :
    (setup : Configuration) (opening : List (Line × Bytes64)) (t : List Event) (g : ℕ) → AtHost setup opening t g
    → (line : Line) (sends : Sends) (commit : Option Commit)
    → times (act_event g (Act.AnswerBlock line) sends commit) (flat_map (snoop_acts setup opening t g) (buffered_snoops (events_of g t))) ≡ counted
    (row_holds setup opening (act_event g (Act.AnswerBlock line) sends commit) (events_of g t))
answer_block-counted setup opening t g at line sends commit =
    let mine : List Event = events_of g t in
    let ss : List Snoop = buffered_snoops mine in
    let e : Event = act_event g (Act.AnswerBlock line) sends commit in
    let row : Bool = row_holds setup opening e mine in
    let stands : (other : Act) → times e (act_step setup opening t g other) ≡ counted (act_eq (Act.AnswerBlock line) other && row) = times-own setup opening t g (Act.AnswerBlock line) sends commit in
    let lines : (b : ℕ) → times e (line_acts setup opening t g b) ≡ 0 =
    λ b. three-none e (on_line setup opening t g Act.Conflict b) (on_line setup opening t g Act.WriteBack b) (on_line setup opening t g Act.Answer b)
    (stands (Act.Conflict (record { 0 = b }))) (stands (Act.WriteBack (record { 0 = b }))) (stands (Act.Answer (record { 0 = b }))) in
    let of_snoop : (s : Snoop) → times e (snoop_acts setup opening t g s) ≡ cond row (counted (is_whole_block line.0 s)) 0 =
    λ s. or-left e (block_acts setup opening t g s) (flat_map (line_acts setup opening t g) s.unanswered)
    (count_by-flat_map (event_eq e) (line_acts setup opening t g) s.unanswered ∙ sum_by-zeros _ lines s.unanswered)
    ∙ (times-if e (is_whole_block s.first s) (act_step setup opening t g (Act.AnswerBlock (record { 0 = s.first })))
    ∙ (ap (λ n. cond (is_whole_block s.first s) n 0) (stands (Act.AnswerBlock (record { 0 = s.first })))
    ∙ whole-at (invalidates_block s.op) (length s.unanswered == span_len s.span) row s.first line.0 (s.first == line.0) refl)) in
    let some : row ≡ true → 1 ≤ count_by (is_whole_block line.0) ss =
    λ is. leb-true 1 _ (sym (find-is_some (is_whole_block line.0) ss) ∙ block-found setup line.0 mine
    (answer_block-holds setup g line.0 mine (host-some setup opening e mine at.host is))) in
    count_by-flat_map (event_eq e) (snoop_acts setup opening t g) ss
    ∙ (sum_by-same _ (λ s. cond row (counted (is_whole_block line.0 s)) 0) ss (each_holds _ of_snoop ss)
    ∙ (sum-under row (λ s. counted (is_whole_block line.0 s)) ss
    ∙ once-under row (count_by (is_whole_block line.0) ss) (wholes_once setup opening g mine at.host at.run line.0) some))

-- a channel whose credits a host gives back stands once among those channels
return-sum :
    (c : Channel) (row : Bool) → (row ≡ true → host_returns c ≡ true) → sum_by (λ d. counted (channel_eq c d && row)) host_return_channels ≡ counted row
return-sum c false h = sum_by-zeros _ (λ d. nothing-counted (channel_eq c d)) host_return_channels
  where
    nothing-counted : (b : Bool) → counted (b && false) ≡ 0
    nothing-counted true = refl
    nothing-counted false = refl
return-sum Channel.Req true h = absurd (false≢true (h refl))
return-sum Channel.Rwd true h = absurd (false≢true (h refl))
return-sum Channel.BiRsp true h = absurd (false≢true (h refl))
return-sum Channel.Ndr true h = refl
return-sum Channel.Drs true h = refl
return-sum Channel.BiSnp true h = refl
return-sum Channel.CreditUp true h = absurd (false≢true (h refl))
return-sum Channel.CreditDown true h = absurd (false≢true (h refl))

-- HostReturn stands once where its row holds
pub host_return-counted :
    (setup : Configuration) (opening : List (Line × Bytes64)) (t : List Event) (g : ℕ) → AtHost setup opening t g
    → (c : Channel) (sends : Sends) (commit : Option Commit)
    → times (act_event g (Act.HostReturn c) sends commit) (flat_map (λ d. act_step setup opening t g (Act.HostReturn d)) host_return_channels) ≡ counted
    (row_holds setup opening (act_event g (Act.HostReturn c) sends commit) (events_of g t))
host_return-counted setup opening t g at c sends commit =
    let mine : List Event = events_of g t in
    let e : Event = act_event g (Act.HostReturn c) sends commit in
    let row : Bool = row_holds setup opening e mine in
    count_by-flat_map (event_eq e) (λ d. act_step setup opening t g (Act.HostReturn d)) host_return_channels
    ∙ (sum_by-same (λ d. times e (act_step setup opening t g (Act.HostReturn d))) (λ d. counted (channel_eq c d && row)) host_return_channels
    (each_holds (λ d. times e (act_step setup opening t g (Act.HostReturn d)) ≡ counted (channel_eq c d && row))
    (λ d. times-own setup opening t g (Act.HostReturn c) sends commit (Act.HostReturn d)) host_return_channels)
    ∙ return-sum c row (λ is. return-holds g c mine (host-some setup opening e mine at.host is)))

-- the acts of all hosts
abbrev pub all_host_acts : Configuration → List (Line × Bytes64) → List Event → List Event
all_host_acts setup opening t = flat_map (next_host_acts setup opening t) (below setup.hosts)

-- both parts of a host's acts
pub host_acts-sum : (setup : Configuration) (opening : List (Line × Bytes64)) (t : List Event) (k : ℕ) (e : Event) (n m : ℕ)
    → times e (flat_map (snoop_acts setup opening t k) (buffered_snoops (events_of k t))) ≡ n → times e
    (flat_map (λ c. act_step setup opening t k (Act.HostReturn c)) host_return_channels) ≡ m → times e (next_host_acts setup opening t k) ≡ n + m
host_acts-sum setup opening t k e n m h l =
    count_by-append (event_eq e) (flat_map (snoop_acts setup opening t k) (buffered_snoops (events_of k t)))
    (flat_map (λ c. act_step setup opening t k (Act.HostReturn c)) host_return_channels) ∙ rw (h, l)

-- an event that is no act of a host is none of them
pub host_acts-none :
    (setup : Configuration) (opening : List (Line × Bytes64)) (t : List Event) (k : ℕ) (e : Event) → NoSnoopAct e k
    → ((c : Channel) → is_step e k (Cause.Act (Act.HostReturn c)) ≡ false) → times e (next_host_acts setup opening t k) ≡ 0
host_acts-none setup opening t k e none other = host_acts-sum setup opening t k e 0 0 (snoop_acts-none setup opening t k e none (buffered_snoops (events_of k t)))
    (returns-none setup opening t k e other)

pub all_host_acts-none :
    (setup : Configuration) (opening : List (Line × Bytes64)) (t : List Event) (e : Event) → ((k : ℕ) → NoSnoopAct e k)
    → ((k : ℕ) (c : Channel) → is_step e k (Cause.Act (Act.HostReturn c)) ≡ false) → times e (all_host_acts setup opening t) ≡ 0
all_host_acts-none setup opening t e none other =
    count_by-flat_map (event_eq e) (next_host_acts setup opening t) (below setup.hosts) ∙ sum_by-zeros _ (λ k. host_acts-none setup opening t k e (none k) (other k))
    (below setup.hosts)

-- an event of agent g is none of the acts of another host
other-agent : (e : Event) (k : ℕ) → (k ≡ e.agent → ⊥) → (cause : Cause) → is_step e k cause ≡ false
other-agent e k other cause = and_right _ (e.agent == k) (ne_eqb e.agent k (λ same. other (sym same)))

-- how often an event stands among the acts of all hosts: as often as among those of its agent
pub all_host_acts-counted :
    (setup : Configuration) (opening : List (Line × Bytes64)) (t : List Event) (e : Event)
    → times e (all_host_acts setup opening t) ≡ cond (nat_lt e.agent setup.hosts) (times e (next_host_acts setup opening t e.agent)) 0
all_host_acts-counted setup opening t e =
    count_by-flat_map (event_eq e) (next_host_acts setup opening t) (below setup.hosts)
    ∙ sum_by-below (λ k. times e (next_host_acts setup opening t k)) e.agent setup.hosts
    (λ k other. let none : (cause : Cause) → is_step e k cause ≡ false = other-agent e k other in
    host_acts-none setup opening t k e (record {
      conflict = λ a. none (Cause.Act (Act.Conflict a));
      write_back = λ a. none (Cause.Act (Act.WriteBack a));
      answer = λ a. none (Cause.Act (Act.Answer a));
      block = λ a. none (Cause.Act (Act.AnswerBlock a));
    }) (λ c. none (Cause.Act (Act.HostReturn c))))
