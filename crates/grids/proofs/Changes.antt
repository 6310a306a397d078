-- What a change of one slot does to the table and to the windows.
use Rattle.std.specs.Prelude.{◌≡◌, ◌<◌, ◌≢◌}
use Rattle.grids.specs.{ℕ, inl, inr, Option, Some, None, IsSomeAnd, List, ap, arith, sym, ◌∙◌, subst, eq-eqb, ne_eqb, slice_set, option_map_or, cases_eq, HasPlace, Window, WindowMap, with_change}
use Rattle.grids.specs.{with_window, IsOnScreen, IsStandardScreen, under_number, Kept, IsKept, window_of, WindowTable, IsWindowTable, windows, slot_at, window_map, depth_at, grid_place, AreOrigins}
use Rattle.grids.specs.{HasParentIn, IsChained, HasLine, ChangedBy, SetAt, StaysInPlace}
use Rattle.std.specs.Option.{option_map}
use Rattle.grids.proofs.Chain.{each_at, some_and, own_source, own_alone}
use Rattle.grids.proofs.OneSlot.{SetAt-set, slot_below, each_set, KeepsShape, chained_set, parent_too}
use Rattle.grids.proofs.Origins.{HasOrigin, origin-is, origins-changed, origins-filled}

-- the windows after it
pub windows-set : (t : WindowTable) (new : List (Option Kept)) (at : ℕ) (o : Option Kept) → SetAt t.slots new at o
    → windows (record t { slots = new }) ≡ under_number (windows t) at (option_map window_of o)
windows-set t new at o set = grind (arith, cases_eq, eq-eqb, ne_eqb)

-- ---- the table stays one

-- the standard screen of a table covers the screen, whatever else the table has
abbrev pub IsStandardOf : WindowTable → Kept → Type 0
IsStandardOf t k = IsStandardScreen (windows t) (window_of k)

pub standard-still : (t : WindowTable) (new : List (Option Kept)) (o : Option Kept) → IsSomeAnd o (IsStandardOf t) → IsSomeAnd o (IsStandardOf (record t { slots = new }))
standard-still t new o s = grind arith

pub IsWindowTable-set : (t : WindowTable) (new : List (Option Kept)) (at : ℕ) (k : Kept) → IsWindowTable t → SetAt t.slots new at (Some k) → KeepsShape (slot_at t.slots at) (Some k)
    → IsKept k → HasParentIn t.slots k k.cells → IsOnScreen t.lines t.columns (window_of k) → (at ≡ 0 → IsStandardOf t k) → (IsChained new → AreOrigins new) → IsWindowTable (record t { slots = new })
IsWindowTable-set t new at k s set shape kept chained placed standard origins = grind (arith, cases_eq, standard-still, chained_set, each_set)

-- a free slot is filled
pub IsWindowTable-filled : (t : WindowTable) (new : List (Option Kept)) (at : ℕ) (k : Kept) → IsWindowTable t → SetAt t.slots new at (Some k) → slot_at t.slots at ≡ None
    → IsKept k → HasParentIn t.slots k k.cells → IsOnScreen t.lines t.columns (window_of k) → 0 < at → (IsChained new → HasOrigin new at k) → IsWindowTable (record t { slots = new })
IsWindowTable-filled t new at k s set free kept chained placed from_one origin =
    IsWindowTable-set t new at k s set (subst (λ o. KeepsShape o (Some k)) (sym free) tt) kept chained placed (λ same. absurd (omega arith))
    (λ chained. origins-filled t.slots new at k s.chained set free s.origins (origin chained))

-- ---- one slot's window was changed

-- its window was changed, and nothing else
pub record SlotChanged (old new : List (Option Kept)) (at : ℕ) (change : Window → Window) : Type 0 where
  pub before : Kept
  pub after : Kept
  pub was : slot_at old at ≡ Some before
  pub set : new ≡ slice_set old at (Some after)
  pub window : window_of after ≡ change (window_of before)
  pub stays : StaysInPlace before after

-- by what is done with it where it is
abbrev pub changed_by : {R : Type 0} {relation : Kept → R → Kept → Type 0} {old new : List (Option Kept)} {at : ℕ} {answer : R} {change : Window → Window} → (h : ChangedBy relation old new at answer)
    → window_of h.after ≡ change (window_of h.before) → StaysInPlace h.before h.after → SlotChanged old new at change
changed_by h window stays = record { before = h.before; after = h.after; was = h.was; set = h.set; window = window; stays = stays }

module _ {t : WindowTable} {new : List (Option Kept)} {at : ℕ} {change : Window → Window} (s : IsWindowTable t) (h : SlotChanged t.slots new at change) where
  set_at : SetAt t.slots new at (Some h.after)
  set_at = rw h.set (SetAt-set t.slots at (Some h.after) s.few_slots (slot_below t.slots at h.before h.was))

  IsWindowTable-change : IsOnScreen t.lines t.columns (window_of h.after) → (at ≡ 0 → IsStandardOf t h.after) → IsWindowTable (record t { slots = new })
  IsWindowTable-change placed standard =
      IsWindowTable-set t new at h.after s set_at (subst (λ o. KeepsShape o (Some h.after)) (sym h.was) h.stays.shape) h.stays.kept
      (parent_too t.slots h.before h.after h.stays.shape h.before.cells h.after.cells h.stays.part.part (each_at t.slots s.chained at h.before h.was).1) placed standard
      (λ chained. origins-changed t.slots new at h.before h.after set_at h.was h.stays.part s.origins)

  standard_too : h.after.place ≡ h.before.place → at ≡ 0 → IsStandardOf t h.after
  standard_too there same = grind (arith, some_and, own_source, own_alone)

  placed_too : h.after.place ≡ h.before.place → IsOnScreen t.lines t.columns (window_of h.after)
  placed_too there = grind arith

  -- it stays where it is
  pub IsWindowTable-stays : h.after.place ≡ h.before.place → IsWindowTable (record t { slots = new })
  IsWindowTable-stays there = IsWindowTable-change (placed_too there) (standard_too there)

  -- where its lines are in a grid
  pub line-kept : h.after.place ≡ h.before.place → (y right : ℕ) → HasPlace (window_map t.slots) at y right → HasLine t.slots new at y right (grid_place h.before.origin)
  line-kept place y right there =
      let still = IsWindowTable-stays place in
      let on = rw h.was at there in
      record {
        leads = rw h.was at (s.origins.each at);
        root = rw h.stays.part.origin at (origin-is new still.chained still.origins still.few_slots at h.after set_at.here);
        line = subst (λ (o : Option Kept). y < option_map_or (λ k. k.lines) o 0) (sym set_at.here) (rw h.stays.shape.lines on.0);
        column = subst (λ (o : Option Kept). right < option_map_or (λ k. k.columns) o 0) (sym set_at.here) (rw h.stays.shape.columns on.1);
      }

  abbrev depth_in : Option Kept → ℕ
  depth_in o = option_map_or (λ k. k.depth) o 0

  pub depth-kept : (u : ℕ) → depth_at new u ≡ depth_at t.slots u
  depth-kept u = elim (cases_eq u at) [
    | inl same ↦
        subst (λ (v : ℕ). depth_at new v ≡ depth_at t.slots v) (sym same) (ap depth_in set_at.here ∙ h.stays.shape.depth ∙ sym (ap depth_in h.was))
    | inr other ↦ ap depth_in (set_at.others u other)
  ]

  -- it is moved, and isn't the standard screen
  pub IsWindowTable-moved : IsOnScreen t.lines t.columns (change (window_of h.before)) → at ≢ 0 → IsWindowTable (record t { slots = new })
  IsWindowTable-moved placed other = grind (arith, IsWindowTable-change)

pub replaced-changed : (window : WindowMap) (w : ℕ) (change : Window → Window) (a : Window) → window w ≡ Some a → with_window window w (Some (change a)) ≡ with_change window w change
replaced-changed window w change a e = grind (arith, cases_eq, eq-eqb, ne_eqb)

-- the windows after it, as the definitions say it
pub windows-changed : {t : WindowTable} {new : List (Option Kept)} {at : ℕ} {change : Window → Window} → IsWindowTable t → SlotChanged t.slots new at change
    → windows (record t { slots = new }) ≡ record (windows t) { window = with_change (window_map t.slots) at change }
windows-changed {t = t} {new = new} {at = at} {change = change} s h =
    windows-set t new at (Some h.after) (set_at s h)
    ∙ ap (λ (map : WindowMap). record (windows t) { window = map })
    (ap (λ a. with_window (window_map t.slots) at (Some a)) h.window ∙ replaced-changed (window_map t.slots) at change (window_of h.before) (ap (option_map window_of) h.was))
