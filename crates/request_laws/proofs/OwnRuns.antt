-- What it says of a host that its rules allow an event.
use Rattle.std.proofs.Common.{◌≡◌, ℕ, true, false, IsTrue, List, ◌∷◌, Some, sym, ◌∙◌, subst, arith}
use Rattle.std.specs.List.{list_all}
use Rattle.std.proofs.lemmas.Bool.{cond-false, ltb-true, ne_eqb}
use Rattle.cxl_message.specs.declared.events.Event.{Event}
use Rattle.cxl_message.specs.declared.identifiers.Bytes64.{Bytes64}
use Rattle.cxl_message.specs.declared.identifiers.Line.{Line}
use Rattle.cxl_message.specs.Events.{outs}
use Rattle.cxl_message.specs.Setup.{Configuration, IsWithinLimits}
use Rattle.coherence_model.specs.Emission.{Emission}
use Rattle.coherence_model.specs.Fitting.{cause_fits, is_device, is_host, out_fits}
use Rattle.coherence_model.specs.HostRows.{host_emission}
use Rattle.coherence_model.specs.Rows.{row_emission}
use Rattle.coherence_model.specs.Traces.{device}
use Rattle.coherence_model.proofs.OwnRuns.{own_event}
use Rattle.coherence_lemmas.proofs.Allowed.{emitted, profiled}
use Rattle.coherence_model.specs.OwnRuns.{is_own_run}

-- a host isn't the device
pub host_is_no_device : (setup : Configuration) → IsWithinLimits setup → (h : ℕ) → IsTrue (is_host setup h) → is_device h ≡ false
host_is_no_device setup limits h host =
    let less = ltb-true h setup.hosts host in
    let few = limits.hosts.1 in
    ne_eqb h device (λ same. omega arith)

-- what an event of a host says: its row emits, and it sends just that
pub record HostStep (setup : Configuration) (h : ℕ) (e : Event) (past : List Event) : Type 0 where
  pub w : Emission
  pub row : host_emission setup h e.cause past ≡ Some w
  pub sends : e.sends ≡ w.sends
  pub commit : e.commit ≡ w.commit
  pub fits : IsTrue (cause_fits setup h e.cause)
  pub outs_fit : IsTrue (list_all (out_fits setup h) (outs e.sends))

-- one more event of a host's own
pub record HostGoesOn (setup : Configuration) (opening : List (Line × Bytes64)) (h : ℕ) (e : Event) (past : List Event) : Type 0 where
  pub before : is_own_run setup opening h past ≡ true
  pub agent : e.agent ≡ h
  pub step : HostStep setup h e past

pub host_goes_on :
    (setup : Configuration) (opening : List (Line × Bytes64)) (h : ℕ) → is_device h ≡ false → (e : Event) (past : List Event)
    → is_own_run setup opening h (e ∷ past) ≡ true → HostGoesOn setup opening h e past
host_goes_on setup opening h host e past run =
    let own = own_event setup opening h e past run in
    let row = emitted setup opening e past own.row in
    let fits = profiled setup e own.profile in
    record {
      before = own.before;
      agent = own.agent;
      step = record {
        w = row.w;
        row = sym (cond-false (is_device h) _ _ host) ∙ subst (λ g. row_emission setup opening g e.cause past ≡ Some row.w) own.agent row.row;
        sends = row.sends;
        commit = row.commit;
        fits = subst (λ g. IsTrue (cause_fits setup g e.cause)) own.agent fits.cause;
        outs_fit = subst (λ g. IsTrue (list_all (out_fits setup g) (outs e.sends))) own.agent fits.sends;
      };
    }
