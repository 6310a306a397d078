-- The chain of parents: it ends, and it is no longer than the number of windows.
use Rattle.std.specs.Prelude.{◌≡◌, ◌+◌, ◌-◌, ◌<◌, ◌≤◌, ◌⊎◌}
use Rattle.grids.specs.{ℕ, zero, suc, Option, Some, None, IsSome, IsSomeAnd, List, length, ap, arith, refl, sym, ◌∙◌, inl, inr, true, map, eqb, list_any, range_with_len, eq-eqb, list_any_at}
use Rattle.grids.specs.{get_or-map-range_with_len, length-map-range_with_len, le-length_from_below, option_map, Glyph, glyph_at, MOST_WINDOWS, own_grid, own, own_within, window_limit, Kept, IsKept}
use Rattle.grids.specs.{backing_of, window_of, slot_at, window_map, FitsIn, HasParentIn, IsChained, IsRoot, part_in, in_parent, depth_at, lines_at, columns_at}
use Rattle.grids.specs.declared.place.Place.{Place}
use Rattle.grids.specs.declared.slot.Part.{Part}
use Rattle.grids.specs.declared.slot.Cells.{Cells}
use Rattle.grids.specs.declared.slot.Cells.TheVariants.{Own, Shared}
use Rattle.grids.proofs.LongerWalks.{own_of_part}
use Rattle.grids.proofs.OneSlot.{slot_below}

pub some_of : {A : Type 0} (o : Option A) → IsSome o → (a : A) × (o ≡ Some a)
some_of o h = grind arith

pub some_and : {A : Type 0} (o : Option A) (P : A → Type 0) → IsSomeAnd o P → (a : A) × (o ≡ Some a) × P a
some_and o P h = grind arith

pub each_at : (slots : List (Option Kept)) → IsChained slots → (w : ℕ) (k : Kept) → slot_at slots w ≡ Some k → IsKept k × HasParentIn slots k k.cells
each_at slots s w k e = rw e at (s.each w)

-- the slot of a parent
pub parent_at : (slots : List (Option Kept)) → IsChained slots → (w : ℕ) (k : Kept) (part : Part) → slot_at slots w ≡ Some k → k.cells ≡ Shared part
    → (p : Kept) × (slot_at slots part.parent ≡ Some p) × FitsIn k part p
parent_at slots s w k part e is = grind (arith, each_at)

-- each depth up to its own is the depth of a slot, so it is below their number
module _ (slots : List (Option Kept)) (s : IsChained slots) where
  abbrev depths : List ℕ
  depths = map (depth_at slots) (range_with_len 0 (length slots))

  has-depth : (w : ℕ) (k : Kept) → slot_at slots w ≡ Some k → list_any (eqb k.depth) depths ≡ true
  has-depth w k e =
      let below = slot_below slots w k e in
      list_any_at (eqb k.depth) depths w 0 (omega (arith, length-map-range_with_len (depth_at slots) 0 (length slots)))
      (eq-eqb _ _ (sym (get_or-map-range_with_len (depth_at slots) 0 (length slots) w w 0 (omega arith) (omega arith) ∙ rw e refl)))

  has-below : (n w : ℕ) (k : Kept) → slot_at slots w ≡ Some k → k.depth ≡ n → (d : ℕ) → d ≤ n → list_any (eqb d) depths ≡ true
  has-below zero w k e is d le = grind (arith, (has-depth w k e))
  has-below (suc n) w k e is d le = let here = has-depth w k e in grind (arith, (each_at slots s w k e), (parent_at slots s w k), (has-below n))

  pub depth_below : (w : ℕ) (k : Kept) → slot_at slots w ≡ Some k → k.depth < length slots
  depth_below w k e =
      omega (arith, le-length_from_below depths (suc k.depth) (λ d lt. has-below k.depth w k e refl d (omega (arith, lt))), length-map-range_with_len (depth_at slots) 0 (length slots))

-- the place in the parent
pub from_parent : (at next : Place) (o : Option Part) → Some next ≡ option_map (in_parent at) o → (part : Part) × (o ≡ Some part) × (next ≡ in_parent at part)
from_parent at next o h = grind arith

pub no_parent : (at : Place) (o : Option Part) → None ≡ option_map (in_parent at) o → o ≡ None
no_parent at o h = grind arith

-- the chain of win comes to this place of grid
pub record ComesTo (slots : List (Option Kept)) (win grid line column : ℕ) : Type 0 where
  pub taken : IsSome (slot_at slots grid)
  pub same : (n : ℕ) → own_within (suc (depth_at slots win + n)) (window_map slots) win 0 0 ≡ own_within (suc (depth_at slots grid + n)) (window_map slots) grid line column
  pub lines : line + lines_at slots win ≤ lines_at slots grid
  pub columns : column + columns_at slots win ≤ columns_at slots grid

pub shared_of : (cells : Cells) (part : Part) → part_in cells ≡ Some part → cells ≡ Shared part
shared_of cells part is = grind arith

pub limit-is : window_limit ≡ MOST_WINDOWS + 1
unfolding window_limit
limit-is = refl

depth_at_below : (slots : List (Option Kept)) → IsChained slots → (w : ℕ) → IsSome (slot_at slots w) → depth_at slots w < length slots
depth_at_below slots s w taken = grind (arith, some_of, depth_below)

-- one parent on
pub ComesTo-step : (slots : List (Option Kept)) → IsChained slots → (win grid line column : ℕ) (k : Kept) (part : Part) → slot_at slots grid ≡ Some k → part_in k.cells ≡ Some part →
    ComesTo slots win grid line column → ComesTo slots win part.parent (line + part.line) (column + part.column)
ComesTo-step slots s win grid line column k part e in_part h =
    let p = parent_at slots s grid k part e (shared_of k.cells part in_part) in
    record {
      taken = grind arith;
      same = λ n.
          let deeper : depth_at slots grid + n ≡ suc (depth_at slots part.parent + n) = grind arith in
          h.same n ∙ rw deeper (own_of_part (suc (depth_at slots part.parent + n)) (window_map slots) grid (window_of k) part line column (rw e refl) (ap backing_of (shared_of k.cells part in_part)));
      lines = grind arith;
      columns = grind arith;
    }

-- the end of the chain
pub ComesTo-end : (slots : List (Option Kept)) → IsChained slots → length slots ≤ MOST_WINDOWS + 1 → (win grid line column : ℕ) (k : Kept) → IsSome (slot_at slots win) → slot_at slots grid ≡ Some k
    → part_in k.cells ≡ None →
    ComesTo slots win grid line column → own_within window_limit (window_map slots) win 0 0 ≡ Some (record { grid = grid; line = line; column = column })
ComesTo-end slots s few win grid line column k taken e is h =
    let n = window_limit - suc (depth_at slots win) in
    let whole : window_limit ≡ suc (depth_at slots win + n) = omega (arith, limit-is, depth_at_below slots s win taken) in
    let same = h.same n in rw whole (grind arith)

-- a grid of its own, and a part of another window
pub own_source : (cells : Cells) → part_in cells ≡ None → (grid : ℕ → ℕ → Glyph) × (backing_of cells ≡ own_grid grid)
own_source (Own sheet) is = (λ y x. glyph_at sheet (y, x), refl)
own_source (Shared part) is = cc

pub own_alone : (cells : Cells) (grid : ℕ → ℕ → Glyph) → backing_of cells ≡ own_grid grid → part_in cells ≡ None
own_alone cells grid is = grind arith

pub own_or_shared : (cells : Cells) → (part_in cells ≡ None) ⊎ ((part : Part) × (cells ≡ Shared part))
own_or_shared cells = grind arith

-- the first place of a window leads to a place of a grid, in which the window lies
module _ (slots : List (Option Kept)) (s : IsChained slots) (few : length slots ≤ MOST_WINDOWS + 1) (win : ℕ) (taken : IsSome (slot_at slots win)) where
  root-from : (n at line column : ℕ) (k : Kept) → slot_at slots at ≡ Some k → k.depth ≡ n → ComesTo slots win at line column → IsSomeAnd (own (window_map slots) win 0 0) (IsRoot slots win)
  root-from zero at line column k e is h = let end = ComesTo-end slots s few win at line column k taken e in grind (arith, own_or_shared, parent_at, each_at)
  root-from (suc n) at line column k e is h = elim (own_or_shared k.cells) [
    | inl alone ↦ let end = ComesTo-end slots s few win at line column k taken e alone h in grind (arith, each_at)
    | inr more ↦
        let p = parent_at slots s at k more.0 e more.1 in
        root-from n more.0.parent _ _ p.0 p.1 (omega (arith, p.2.depth)) (ComesTo-step slots s win at line column k more.0 e (grind arith) h)
  ]

  pub some-root : IsSomeAnd (own (window_map slots) win 0 0) (IsRoot slots win)
  some-root = let k = some_of (slot_at slots win) taken in root-from k.0.depth win 0 0 k.0 k.1 refl (record { taken = taken; same = λ n. refl; lines = omega arith; columns = omega arith })

pub chain_ends : (slots : List (Option Kept)) → IsChained slots → length slots ≤ MOST_WINDOWS + 1 → (w : ℕ) (k : Kept) → slot_at slots w ≡ Some k → IsSome (own (window_map slots) w 0 0)
chain_ends slots s few w k e = let root = some-root slots s few w (rw e refl) in grind arith
