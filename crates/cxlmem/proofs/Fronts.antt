-- What a writer that failed leaves is a front of the trace.
use Rattle.std.proofs.Common.{◌≡◌, ℕ, List, [], length, take, Option, Result, Ok, Err, ap, sym, subst, ◌∙◌, arith, length-append}
use Rattle.std.specs.Result.{OnErr}
use Rattle.std.specs.Io.KnownBytes.{Appends}
use Rattle.cxl_message.specs.Script.{ScriptValue}
use Rattle.cxl_message.specs.Setup.{Configuration}
use Rattle.cxl_message.specs.declared.identifiers.Bytes64.{Bytes64}
use Rattle.cxl_message.specs.declared.identifiers.Line.{Line}
use Rattle.trace_stream.specs.Buffers.{PutsFront}
use Rattle.cxlmem.specs.Outcomes.{WritesFront}
use lib.Seq.{take-append_seam}

-- the first bytes of some that were to be put are a front of them
pub front_of : (old new : Option (List ℕ)) (bytes : List ℕ) → PutsFront old new [] bytes → WritesFront old new bytes
front_of old new bytes put =
    let size = ap (λ (us : List ℕ). length us) put.whole in
    let parts = length-append put.gone put.lost in
    record {
      count = length put.gone;
      within = omega (arith, size, parts);
      written = subst (Appends old new) (sym (take-append_seam put.gone put.lost) ∙ ap (take (length put.gone)) (sym put.whole)) put.went;
    }

-- what holds of a script's setup and opening, as they were read
pub of_script :
    (script : ScriptValue) (P : Configuration → List (Line × Bytes64) → Type 0) (setup : Configuration) (opening : List (Line × Bytes64))
    → setup ≡ script.setup → opening ≡ script.opening → P setup opening → P script.setup script.opening
of_script script P setup opening same equal p =
    subst (λ (s : Configuration). P s script.opening) same (subst (λ (o : List (Line × Bytes64)). P setup o) equal p)

-- what holds in any case holds of a refusal
pub on_refusal : {T E P : Type 0} (r : Result T E) → P → OnErr r P
on_refusal (Ok x) p = tt
on_refusal (Err e) p = p
