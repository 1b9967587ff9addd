-- A place that has nothing stays as it is where nothing is put there.
use Rattle.std.proofs.Common.{List, None, Option, [], ap, refl, slice_set, suc, sym, zero, ℕ, ◌∷◌, ◌≡◌, ◌∙◌}
use Rattle.std.specs.Prelude.{option_map}
use Rattle.coherence_model.specs.Transactions.{Transaction}
use Rattle.host_record.specs.HostChanges.{with_marked}
use Rattle.host_record.specs.HostRecord.{HostRecord}
use Rattle.host_record.specs.Tables.{lookup}

none_put : {X : Type 0} (xs : List (Option X)) (k : ℕ) → lookup xs k ≡ None → slice_set xs k None ≡ xs
none_put [] k none = refl
none_put {X} (x ∷ xs) zero none = ap {B = List (Option X)} (λ y. y ∷ xs) (sym none)
none_put {X} (x ∷ xs) (suc k) none = ap {B = List (Option X)} (λ l. x ∷ l) (none_put xs k none)

-- what isn't open can't be marked
pub marked_nothing : (tag : ℕ) (mark : Transaction → Transaction) (k : HostRecord) → lookup k.opened tag ≡ None → with_marked tag mark k ≡ k
marked_nothing tag mark k none =
    ap (λ (x : Option Transaction). record k { opened = slice_set k.opened tag (option_map mark x) }) none
    ∙ ap (λ (xs : List (Option Transaction)). record k { opened = xs }) (none_put k.opened tag none)
