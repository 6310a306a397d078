-- A derived window that shows another part of its parent.
use Rattle.std.specs.Prelude.{◌≡◌, ◌+◌, ◌≤◌}
use Rattle.grids.specs.{ℕ, Option, Some, List, ap, arith, sym, slice_set, WindowMap, with_change, IsOnScreen, with_part, IsKept, Kept, window_of, WindowTable, IsWindowTable, windows, slot_at}
use Rattle.grids.specs.{window_map, IsChained, part_in, ChangedBy, SameShape, Settled, SetAt, with_new_offset}
use Rattle.std.specs.Option.{option_map}
use Rattle.grids.specs.declared.slot.Part.{Part}
use Rattle.grids.proofs.Chain.{parent_at, some_and, shared_of, own_alone}
use Rattle.grids.proofs.OneSlot.{SetAt-set, slot_below, each_set, chained_set}
use Rattle.grids.proofs.Changes.{windows-set, replaced-changed}

-- one derived window's offset was changed, and nothing else
pub record Shifted (old new : List (Option Kept)) (at y x : ℕ) : Type 0 where
  pub before : Kept
  pub after : Kept
  pub was : slot_at old at ≡ Some before
  pub set : new ≡ slice_set old at (Some after)
  pub window : window_of after ≡ with_part y x (window_of before)
  pub shape : SameShape before after
  pub cells : after.cells ≡ with_new_offset y x before.cells
  pub origin : after.origin ≡ before.origin
  pub kept : IsKept after

-- by what is done with it where it is
pub shifted_by : {R : Type 0} {relation : Kept → R → Kept → Type 0} {old new : List (Option Kept)} {at y x : ℕ} {answer : R} → (h : ChangedBy relation old new at answer)
    → window_of h.after ≡ with_part y x (window_of h.before) → SameShape h.before h.after → h.after.cells ≡ with_new_offset y x h.before.cells
    → h.after.origin ≡ h.before.origin → IsKept h.after → Shifted old new at y x
shifted_by h window shape cells origin kept =
    record { before = h.before; after = h.after; was = h.was; set = h.set; window = window; shape = shape; cells = cells; origin = origin; kept = kept }

module _ (t : WindowTable) (mid : List (Option Kept)) (at y x : ℕ) (s : IsWindowTable t) (h : Shifted t.slots mid at y x) where
  set_at : SetAt t.slots mid at (Some h.after)
  set_at = rw h.set (SetAt-set t.slots at (Some h.after) s.few_slots (slot_below t.slots at h.before h.was))

  windows-mid : windows (record t { slots = mid }) ≡ record (windows t) { window = with_change (window_map t.slots) at (with_part y x) }
  windows-mid = grind (arith, windows-set t mid at (Some h.after) set_at, replaced-changed)

  pub windows-shifted : (new : List (Option Kept)) → Settled mid new → windows (record t { slots = new }) ≡ record (windows t) { window = with_change (window_map t.slots) at (with_part y x) }
  windows-shifted new settled = grind (arith, windows-mid)

  -- a derived window's offset may be any at which it fits
  module _ (k p : Kept) (part : Part) (e : slot_at t.slots at ≡ Some k) (in_part : part_in k.cells ≡ Some part) (parent : slot_at t.slots part.parent ≡ Some p)
      (lines : y + k.lines ≤ p.lines) (columns : x + k.columns ≤ p.columns) where
    pub chained-shifted : IsChained mid
    chained-shifted = grind (arith, shared_of, parent_at, chained_set t.slots mid at h.after s.chained set_at)

    -- then each origin is set anew
    module _ (new : List (Option Kept)) (settled : Settled mid new) where
      pub IsWindowTable-shifted : IsWindowTable (record t { slots = new })
      IsWindowTable-shifted =
          let seen : (w : ℕ) → option_map window_of (slot_at mid w) ≡ option_map window_of (slot_at new w) = λ w. sym (ap (λ (map : WindowMap). map w) settled.windows) in
          let placed = each_set (λ q. IsOnScreen t.lines t.columns (window_of q)) t.slots mid at (Some h.after) set_at s.placed (grind (arith, s.placed at)) in
          grind (arith, set_at, some_and, own_alone, seen)
