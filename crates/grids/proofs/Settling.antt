-- The origins of the slots, set one by one.
use Rattle.std.specs.Prelude.{◌≡◌, ◌+◌, ◌<◌, ◌≤◌}
use Rattle.grids.specs.{ℕ, false, is_some, Option, Some, None, MatchOption, List, length, arith, refl, sym, ◌∙◌, subst, ⊤, cases_eq, length-set, slice_set, MOST_WINDOWS, own, Kept, IsChained, grid_place}
use Rattle.grids.specs.{slot_at, window_map, SameShape, SetAt}
use mathlib.Core.Path.{fun_ext}
use Rattle.grids.specs.declared.slot.Origin.{Origin}
use Rattle.grids.proofs.Chain.{each_at}
use Rattle.grids.proofs.OneSlot.{SetAt-set, chained_set, slot_below, parent_too}
use Rattle.grids.proofs.Origins.{HasOrigin}

-- those below this number are set
pub record IsSettledBelow (old new : List (Option Kept)) (n : ℕ) : Type 0 where
  pub size : length new ≡ length old
  pub windows : window_map new ≡ window_map old
  pub chained : IsChained new
  pub below : (w : ℕ) → w < n → MatchOption (slot_at new w) ⊤ (HasOrigin new w)

pub empty-slot : (o : Option Kept) → is_some o ≡ false → o ≡ None
empty-slot o h = grind arith

-- an empty slot has none
pub settled-empty : (old new : List (Option Kept)) (n : ℕ) → slot_at new n ≡ None → IsSettledBelow old new n → IsSettledBelow old new (n + 1)
settled-empty old new n none h = grind (arith, cases_eq)

-- one slot has another origin, and nothing else changed
pub record Led (old new : List (Option Kept)) (at : ℕ) (origin : Origin) : Type 0 where
  pub before : Kept
  pub was : slot_at old at ≡ Some before
  pub set : new ≡ slice_set old at (Some (record before { origin = origin }))

module _ (old cur new : List (Option Kept)) (n : ℕ) (origin : Origin) (few : length cur ≤ MOST_WINDOWS + 1) (h : IsSettledBelow old cur n) (led : Led cur new n origin) where
  abbrev after : Kept
  after = record (led.before) { origin = origin }

  set_at : SetAt cur new n (Some after)
  set_at = subst (λ slots. SetAt cur slots n (Some after)) (sym led.set) (SetAt-set cur n (Some after) few (slot_below cur n led.before led.was))

  windows-led : window_map new ≡ window_map cur
  windows-led = fun_ext (λ u. let here = set_at.here in let others = set_at.others u in grind (arith, (cases_eq u n)))

  pub settled-next : own (window_map cur) n 0 0 ≡ Some (grid_place origin) → IsSettledBelow old new (n + 1)
  settled-next leads =
      let shape : SameShape led.before after = grind arith in
      let each = each_at cur h.chained n led.before led.was in
      record {
        size = grind (arith, length-set);
        windows = windows-led ∙ h.windows;
        chained = chained_set cur new n after h.chained set_at (rw led.was shape) each.0 (parent_too cur led.before after shape _ _ refl each.1);
        below = λ w lt. let same = windows-led in let here = set_at.here in let others = set_at.others w in let below = h.below w in grind (arith, (cases_eq w n));
      }
