-- A window from which none derives is deleted.
use Rattle.std.specs.Prelude.{◌≡◌, ◌+◌, ◌≤◌, ◌≢◌}
use Rattle.grids.specs.{ℕ, false, Option, Some, None, List, length, arith, eq-eqb, MOST_WINDOWS, window_limit, has_derived, Kept, IsKept, WindowTable, IsWindowTable, slot_at, window_map, HasParentIn}
use Rattle.grids.specs.{names_parent, SetAt}
use Rattle.world.proofs.Below.{any_below-some}
use Rattle.grids.specs.declared.slot.Part.{Part}
use Rattle.grids.specs.declared.slot.Cells.TheVariants.{Shared}
use Rattle.grids.proofs.Chain.{limit-is}
use Rattle.grids.proofs.OneSlot.{each_set, slot_below}
use Rattle.grids.proofs.Changes.{standard-still}
use Rattle.grids.proofs.Origins.{origins-without}

none_derives : (slots : List (Option Kept)) (at : ℕ) → length slots ≤ MOST_WINDOWS + 1 → has_derived (window_map slots) at ≡ false → (w : ℕ) (k : Kept) (part : Part) → slot_at slots w ≡ Some k
    → k.cells ≡ Shared part → part.parent ≢ at
none_derives slots at few h w k part e is same = grind (arith, limit-is, slot_below, eq-eqb, any_below-some window_limit (λ u. names_parent at (slot_at slots u)) w)

pub IsWindowTable-without : (t : WindowTable) (new : List (Option Kept)) (at : ℕ) → SetAt t.slots new at None → IsWindowTable t → at ≢ 0 → has_derived (window_map t.slots) at ≡ false
    → IsWindowTable (record t { slots = new })
IsWindowTable-without t new at set s other h =
    let apart = none_derives t.slots at s.few_slots h in
    let each = each_set (λ k. IsKept k × HasParentIn new k k.cells) t.slots new at None set (λ w. grind (arith, s.chained.each w, apart w)) tt in
    grind (arith, standard-still t new (slot_at t.slots 0), origins-without t.slots new at set apart)
