-- What a decision sends, but for the bytes of memory, changes what the device keeps as all of it does.
use Rattle.std.proofs.Common.{◌≡◌, ℕ, ◌+◌, ◌≤◌, List, Option, Some, None, length, refl, ap, sym, ◌∙◌, subst}
use Rattle.cxl_message.specs.declared.events.Act.{Act}
use Rattle.cxl_message.specs.declared.events.Cause.{Cause}
use Rattle.cxl_message.specs.declared.events.Sends.{Sends}
use Rattle.cxl_message.specs.declared.identifiers.Bytes64.{Bytes64}
use Rattle.cxl_message.specs.declared.identifiers.Line.{Line}
use Rattle.cxl_message.specs.Setup.{Configuration}
use Rattle.cxl_message.specs.Spans.{lines_of}
use Rattle.snoop_filter.specs.Changes.{rows_let_go}
use Rattle.snoop_filter.specs.Filters.{FilterRecord}
use Rattle.snoop_filter.specs.Rows.{FilterRow}
use Rattle.device_record.specs.Changes.{device_after}
use Rattle.device_record.specs.CreditChanges.{credits_paid}
use Rattle.device_record.specs.Record.{CreditRecord, DeviceRecord, TaskRecord, task_at}
use Rattle.device_record.specs.ReservationChanges.{reserved_finished}
use Rattle.device_record.specs.RowChanges.{rows_after_act, rows_finished, rows_granted}
use Rattle.device_record.specs.TaskChanges.{tasks_after_act}
use Rattle.device_state.specs.declared.decisions.Decision.{Decision}
use Rattle.device_state.specs.Agent.{AgentRecord}
use Rattle.device_state.specs.Decisions.{emission_by, heads_sent}
use Rattle.device_changes.specs.Acting.{GrantsTo, MayFinish}
use Rattle.device_changes.specs.Paying.{MayPay}

-- ---- V8

grants_alike : (memory : List Bytes64) (d : Decision) (hosts : ℕ) → GrantsTo hosts (emission_by memory d).sends → GrantsTo hosts (heads_sent d)
grants_alike memory Decision.Nothing hosts grants = grants
grants_alike memory (Decision.Completion h op tag) hosts grants = grants
grants_alike memory (Decision.Grant h op tag line) hosts grants = grants
grants_alike memory (Decision.Snoop h op bitag line span) hosts grants = grants
grants_alike memory (Decision.Credit h c) hosts grants = grants

granted_alike : (memory : List Bytes64) (d : Decision) (a : ℕ) (rows : List FilterRow) → rows_granted a (heads_sent d) rows ≡ rows_granted a (emission_by memory d).sends rows
granted_alike memory Decision.Nothing a rows = refl
granted_alike memory (Decision.Completion h op tag) a rows = refl
granted_alike memory (Decision.Grant h op tag line) a rows = refl
granted_alike memory (Decision.Snoop h op bitag line span) a rows = refl
granted_alike memory (Decision.Credit h c) a rows = refl

finished_alike : (memory : List Bytes64) (d : Decision) (a : ℕ) (t : Option TaskRecord) (rows : List FilterRow) → rows_finished a (heads_sent d) t rows ≡ rows_finished a (emission_by memory d).sends t rows
finished_alike memory d a None rows = refl
finished_alike memory d a (Some t) rows = ap (rows_let_go (lines_of a t.span)) (granted_alike memory d a rows)

-- a task that may finish may do so by what is sent but for the bytes
pub finishes_alike : (memory : List Bytes64) (d : Decision) (a : ℕ) (tasks : List TaskRecord) (f : FilterRecord) (hosts : ℕ) → MayFinish a (emission_by memory d).sends tasks f hosts → MayFinish a (heads_sent d) tasks f hosts
finishes_alike memory d a tasks f hosts may =
    record {
      stands = may.stands;
      host = may.host;
      grant = grants_alike memory d f.hosts may.grant;
      room = subst (λ (rows : List FilterRow). length rows + reserved_finished (task_at a tasks) f.reserved ≤ f.entries) (sym (finished_alike memory d a (task_at a tasks) f.rows)) may.room;
    }

-- ---- credits

-- what may be paid for may be so but for the bytes
pub pays_alike : (memory : List Bytes64) (d : Decision) (credits : List CreditRecord) → MayPay (emission_by memory d).sends credits → MayPay (heads_sent d) credits
pays_alike memory Decision.Nothing credits pays = pays
pays_alike memory (Decision.Completion h op tag) credits pays = pays
pays_alike memory (Decision.Grant h op tag line) credits pays = (pays.0, record { host = pays.1.host; paid = pays.1.paid })
pays_alike memory (Decision.Snoop h op bitag line span) credits pays = pays
pays_alike memory (Decision.Credit h c) credits pays = pays

paid_alike : (memory : List Bytes64) (d : Decision) (credits : List CreditRecord) → credits_paid (heads_sent d) credits ≡ credits_paid (emission_by memory d).sends credits
paid_alike memory Decision.Nothing credits = refl
paid_alike memory (Decision.Completion h op tag) credits = refl
paid_alike memory (Decision.Grant h op tag line) credits = refl
paid_alike memory (Decision.Snoop h op bitag line span) credits = refl
paid_alike memory (Decision.Credit h c) credits = refl

-- ---- all of it

acted_alike : (setup : Configuration) (memory : List Bytes64) (d : Decision) (act : Act) (k : DeviceRecord) → rows_after_act setup act (heads_sent d) k ≡ rows_after_act setup act (emission_by memory d).sends k
acted_alike setup memory d (Act.Conflict line) k = refl
acted_alike setup memory d (Act.WriteBack line) k = refl
acted_alike setup memory d (Act.Answer line) k = refl
acted_alike setup memory d (Act.AnswerBlock line) k = refl
acted_alike setup memory d (Act.HostReturn c) k = refl
acted_alike setup memory d (Act.Serve h tag) k = refl
acted_alike setup memory d (Act.Clean h tag) k = refl
acted_alike setup memory d (Act.Start h tag) k = refl
acted_alike setup memory d (Act.Evict h tag) k = refl
acted_alike setup memory d (Act.Snoop h line) k = refl
acted_alike setup memory d (Act.Finish line) k = finished_alike memory d line.0 (task_at line.0 k.tasks) k.filter.rows
acted_alike setup memory d (Act.DeviceReturn h c) k = refl

-- what is kept after an act is so by what is sent but for the bytes
pub after_alike : (setup : Configuration) (memory : List Bytes64) (d : Decision) (act : Act) (k : DeviceRecord) → device_after setup (Cause.Act act) (heads_sent d) k ≡ device_after setup (Cause.Act act) (emission_by memory d).sends k
after_alike setup memory d act k i =
    record (device_after setup (Cause.Act act) (heads_sent d) k) {
      filter = record (device_after setup (Cause.Act act) (heads_sent d) k).filter { rows = acted_alike setup memory d act k i };
      credits = paid_alike memory d k.credits i;
    }

-- what is kept after a snoop, the credits aside
pub snooped : (d e : AgentRecord) (tasks : List TaskRecord) (act : Act) (h : ℕ) (line : Line) (sends : Sends) → e ≡ d → act ≡ Act.Snoop h line → tasks ≡ tasks_after_act e.setup (Act.Snoop h line) e.kept
    → record e { kept = record e.kept { tasks = tasks } } ≡ record d { kept = record (device_after d.setup (Cause.Act act) sends d.kept) { credits = d.kept.credits } }
snooped d e tasks act h line sends seen is asked =
    ap {B = AgentRecord} (λ (ts : List TaskRecord). record e { kept = record e.kept { tasks = ts } }) asked
    ∙ ap {B = AgentRecord} (λ (x : AgentRecord). record x { kept = record x.kept { tasks = tasks_after_act x.setup (Act.Snoop h line) x.kept } }) seen
    ∙ ap {B = AgentRecord} (λ (a : Act). record d { kept = record (device_after d.setup (Cause.Act a) sends d.kept) { credits = d.kept.credits } }) (sym is)
