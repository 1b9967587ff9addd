-- The copy that a fill leaves, and ways that aren't there.
use Rattle.std.proofs.Common.{Bool, List, None, Option, Some, [], ap, cond, false, refl, sym, true, ℕ, ◌∷◌, ◌≡◌}
use Rattle.std.specs.Prelude.{find, not, ◌==◌, ◌||◌}
use Rattle.std.specs.Option.{option_map_or}
use Rattle.std.proofs.lemmas.Bool.{false≢true}
use Rattle.cxl_message.specs.declared.events.Commit.{Commit}
use Rattle.cxl_message.specs.declared.events.Op.{Op}
use Rattle.cxl_message.specs.declared.opcodes.NdrOp.{NdrOp}
use Rattle.coherence_model.specs.Copies.{Copy, no_copy}
use Rattle.host_record.specs.HostChanges.{filled_by}
use Rattle.host_record.specs.Ways.{Way, copy_in, drop_way, give_up, has_way, put_way}
use Rattle.host_tables.specs.Kept.{state_filled}
use Rattle.host_cache.specs.Caches.{copy_with}

pub filled_is : (grant : Option NdrOp) (c : Commit) (op : Op) → filled_by grant c op ≡ copy_with (state_filled grant op) c.value
filled_is None c (Op.Load line) = refl
filled_is (Some NdrOp.Cmp) c (Op.Load line) = refl
filled_is (Some NdrOp.CmpS) c (Op.Load line) = refl
filled_is (Some NdrOp.CmpE) c (Op.Load line) = refl
filled_is (Some NdrOp.ConflictAck) c (Op.Load line) = refl
filled_is grant c (Op.Word line place value) = refl
filled_is grant c (Op.Whole line bytes) = refl

put_step : (b r : Bool) (w v : Way) (ws rest : List Way) → (b || r) ≡ false → (r ≡ false → rest ≡ ws) → ◌≡◌ {A = List Way} (cond b v w ∷ rest) (w ∷ ws)
put_step true r w v ws rest none same = absurd (false≢true (sym none))
put_step false r w v ws rest none same = ap (λ l. w ∷ l) (same none)

-- a line without a way has none to put a copy into
pub put_nowhere : (a : ℕ) (c : Copy) (ws : List Way) → has_way a ws ≡ false → put_way a c ws ≡ ws
put_nowhere a c [] none = refl
put_nowhere a c (w ∷ ws) none = put_step (a == w.line) (has_way a ws) w (record { line = w.line; copy = c }) ws (put_way a c ws) none (put_nowhere a c ws)

drop_step : (b r : Bool) (w : Way) (ws rest : List Way) → (b || r) ≡ false → (r ≡ false → rest ≡ ws) → cond (not b) (w ∷ rest) rest ≡ w ∷ ws
drop_step true r w ws rest none same = absurd (false≢true (sym none))
drop_step false r w ws rest none same = ap (λ l. w ∷ l) (same none)

drop_nowhere : (a : ℕ) (ws : List Way) → has_way a ws ≡ false → drop_way a ws ≡ ws
drop_nowhere a [] none = refl
drop_nowhere a (w ∷ ws) none = drop_step (a == w.line) (has_way a ws) w ws (drop_way a ws) none (drop_nowhere a ws)

-- a line without a way has none to give up
pub give_up_nowhere : (a : ℕ) (wanted : Bool) (ws : List Way) → has_way a ws ≡ false → give_up a wanted ws ≡ ws
give_up_nowhere a true ws none = put_nowhere a no_copy ws none
give_up_nowhere a false ws none = drop_nowhere a ws none

found_step : (b r : Bool) (w : Way) (found : Option Way) → (b || r) ≡ false → (r ≡ false → found ≡ None) → cond b (Some w) found ≡ None
found_step true r w found none same = absurd (false≢true (sym none))
found_step false r w found none same = same none

none_found : (a : ℕ) (ws : List Way) → has_way a ws ≡ false → find (λ w. a == w.line) ws ≡ None
none_found a [] none = refl
none_found a (w ∷ ws) none = found_step (a == w.line) (has_way a ws) w (find (λ v. a == v.line) ws) none (none_found a ws)

-- and no copy
pub no_way_no_copy : (a : ℕ) (ws : List Way) → has_way a ws ≡ false → copy_in ws a ≡ no_copy
no_way_no_copy a ws none = ap (λ (found : Option Way). option_map_or (λ (w : Way). w.copy) found no_copy) (none_found a ws none)
