-- What was scanned is cut short.
use Rattle.std.proofs.Common.{◌≡◌, ℕ, List, ◌-◌, arith, refl, sym, ap, subst, ◌∙◌, length, drop}
use Rattle.std.specs.Prelude.{vec_len}
use Rattle.std.proofs.lemmas.List.{length-drop, length-append, take_all}
use Rattle.event_scan.specs.Scanning.{IsBehind}
use Rattle.trace_stream.proofs.Scanned.{behind_all}
use Rattle.trace_stream.proofs.waiting.Waiting.cut_below.Goals as goal

pub invariant_of-self : goal.invariant_of-self
invariant_of-self c =
    let inside = c.self.inside in
    let long : length inside.bytes.items ≡ vec_len inside.bytes = sym (ap (length {A = ℕ}) c.deref.ensures.value) ∙ c.deref.ensures.len in
    let count : c.len-waiting.result ≡ length inside.bytes.items - inside.start = c.len-waiting.ensures.value ∙ sym (ap (length {A = ℕ}) c.self.view_is) ∙ length-drop inside.start inside.bytes.items in (
      c.self.invariant.0,
      c.self.invariant.1,
      c.self.invariant.2,
      omega (arith, long, count),
      behind_all inside.bytes.items _ inside.start inside.scanned _ _ _ _ c.deref.ensures.value refl (omega (arith, ap (length {A = ℕ}) c.deref.ensures.value)) (omega (arith, long, c.self.invariant.0)) count
          (c.goes_on.ensures.behind c.if-goes_on.true _ c.self.invariant.4),
    )

pub returns-then-goes_on-clause-cut : goal.returns-then-goes_on-clause-cut
returns-then-goes_on-clause-cut c more each fewer =
    let inside = c.self.inside in
    let long : length inside.bytes.items ≡ vec_len inside.bytes = sym (ap (length {A = ℕ}) c.deref.ensures.value) ∙ c.deref.ensures.len in
    let behind = behind_all inside.bytes.items _ inside.start inside.scanned _ _ (length inside.bytes.items - inside.start) _ c.deref.ensures.value refl (omega (arith, ap (length {A = ℕ}) c.deref.ensures.value)) (omega (arith, long, c.self.invariant.0)) refl
    (c.goes_on.ensures.behind c.if-goes_on.true _ c.self.invariant.4) in
    let all : IsBehind c.args.self.now c.goes_on.new.self =
    subst (λ (bytes : List ℕ). IsBehind bytes c.goes_on.new.self) (take_all (length inside.bytes.items - inside.start) (drop inside.start inside.bytes.items) (omega (arith, length-drop inside.start inside.bytes.items)) ∙ c.self.view_is) behind in
    c.patience-then-goes_on.ensures.cut c.args.self.now more all each (omega (arith, length-append c.args.self.now more, fewer, c.len-waiting.ensures.value))
