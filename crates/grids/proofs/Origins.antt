-- Where the first place of each window leads: what the walk from parent to parent finds, and which changes keep it.
use Rattle.std.specs.Prelude.{◌≡◌, ◌≢◌, ◌+◌, ◌≤◌, ◌∷◌}
use Rattle.grids.specs.{ℕ, zero, suc, Option, Some, None, IsSome, MatchOption, List, [], length, ap, arith, refl, ⊤, option_map, cases_eq, MOST_WINDOWS, GridPlace, own, own_within, window_limit, Kept}
use Rattle.grids.specs.{backing_of, window_of, AreOrigins, IsChained, IsRoot, grid_place, slot_at, window_map, part_in, SamePart, SetAt}
use Rattle.world.proofs.WindowLaws.{own-onward, own-own_grid}
use Rattle.grids.specs.declared.slot.Cells.TheVariants.{Shared}
use Rattle.grids.specs.declared.slot.Part.{Part}
use Rattle.grids.proofs.Chain.{chain_ends, own_source, parent_at, shared_of, some-root}
use Rattle.grids.proofs.LongerWalks.{own-parent}

-- the origin of a window is its root
pub origin-is : (slots : List (Option Kept)) → IsChained slots → AreOrigins slots → length slots ≤ MOST_WINDOWS + 1 → (win : ℕ) (k : Kept) → slot_at slots win ≡ Some k
    → IsRoot slots win (grid_place k.origin)
origin-is slots s origins few win k e =
    let root = some-root slots s few win (rw e refl) in
    let here : own (window_map slots) win 0 0 ≡ Some (grid_place k.origin) = rw e at (origins.each win) in rw here at root

-- ---- windows whose parents and offsets stay lead where they led

abbrev link : Option Kept → Option (Option Part)
link o = option_map (λ (k : Kept). part_in k.cells) o

-- it is so of all windows that P holds of, and of their parents
module _ (old new : List (Option Kept)) (P : ℕ → Type 0) (same : (w : ℕ) → P w → link (slot_at new w) ≡ link (slot_at old w))
    (closed : (w : ℕ) (k : Kept) (part : Part) → P w → slot_at old w ≡ Some k → k.cells ≡ Shared part → P part.parent) where
  own_within-kept : (n w y x : ℕ) → P w → own_within n (window_map new) w y x ≡ own_within n (window_map old) w y x
  own_within-kept zero w y x p = grind arith
  own_within-kept (suc n) w y x p = let links = same w p in let above = closed w in grind (arith, (own_within-kept n))

  own-kept : (w : ℕ) → P w → own (window_map new) w 0 0 ≡ own (window_map old) w 0 0
  own-kept w p = own_within-kept window_limit w 0 0 p

-- so its origin is still its origin
abbrev pub HasOrigin : List (Option Kept) → ℕ → Kept → Type 0
HasOrigin slots w k = own (window_map slots) w 0 0 ≡ Some (grid_place k.origin)

origins-beside : (old new : List (Option Kept)) (at : ℕ) (o : Option Kept) → SetAt old new at o → AreOrigins old → MatchOption o ⊤ (HasOrigin new at)
    → ((w : ℕ) → w ≢ at → IsSome (slot_at old w) → own (window_map new) w 0 0 ≡ own (window_map old) w 0 0) → AreOrigins new
origins-beside old new at o set s here same = grind (arith, cases_eq)

-- ---- the first window has a grid

origin-first : (k : Kept) → part_in k.cells ≡ None → k.origin ≡ record { grid = 0; line = 0; column = 0 } → (w : ℕ) → MatchOption (slot_at (Some k ∷ []) w) ⊤ (HasOrigin (Some k ∷ []) w)
origin-first k alone is zero =
    let grid = own_source k.cells alone in
    let here = own-own_grid (window_map (Some k ∷ [])) 0 (window_of k) grid.0 0 0 refl grid.1 in grind arith
origin-first k alone is (suc w) = tt

pub origins-first : (k : Kept) → part_in k.cells ≡ None → k.origin ≡ record { grid = 0; line = 0; column = 0 } → AreOrigins (Some k ∷ [])
origins-first k alone is = grind (arith, origin-first)

-- ---- a window is changed and stays the same part of its parent

pub origins-changed : (old new : List (Option Kept)) (at : ℕ) (k j : Kept) → SetAt old new at (Some j) → slot_at old at ≡ Some k → SamePart k j → AreOrigins old → AreOrigins new
origins-changed old new at k j set was part s =
    let links : (w : ℕ) → ⊤ → link (slot_at new w) ≡ link (slot_at old w) = λ w t. grind (arith, cases_eq) in
    let still : (w : ℕ) → own (window_map new) w 0 0 ≡ own (window_map old) w 0 0 = λ w. own-kept old new (λ v. ⊤) links (λ w k part p e is. tt) w tt in
    grind (arith, origins-beside, still)

-- ---- a free number is given

module _ (old new : List (Option Kept)) (at : ℕ) (k : Kept) (s : IsChained old) (set : SetAt old new at (Some k)) (free : slot_at old at ≡ None) where
  own-before : (w : ℕ) → IsSome (slot_at old w) → own (window_map new) w 0 0 ≡ own (window_map old) w 0 0
  own-before w taken = own-kept old new (λ v. IsSome (slot_at old v)) (grind arith) (grind (arith, parent_at)) w taken

  pub origins-filled : AreOrigins old → HasOrigin new at k → AreOrigins new
  origins-filled origins here = grind (arith, origins-beside, own-before)

  -- to a window with a grid
  pub origin-alone : part_in k.cells ≡ None → k.origin ≡ record { grid = at; line = 0; column = 0 } → HasOrigin new at k
  origin-alone alone is =
      let grid = own_source k.cells alone in
      let leads = own-own_grid (window_map new) at (window_of k) grid.0 0 0 (ap (option_map window_of) set.here) grid.1 in grind arith

  -- to a part of another
  pub origin-derived : (part : Part) (place : GridPlace) → part_in k.cells ≡ Some part → IsSome (slot_at old part.parent) → own (window_map old) part.parent 0 0 ≡ Some place
      → k.origin ≡ record { grid = place.grid; line = place.line + part.line; column = place.column + part.column } → length new ≤ MOST_WINDOWS + 1 → IsChained new → HasOrigin new at k
  origin-derived part place in_part taken leads_parent is few chained =
      let up = own-parent (window_map new) at (window_of k) part (ap (option_map window_of) set.here) (ap backing_of (shared_of k.cells part in_part)) (chain_ends new chained few at k set.here) 0 0 in
      let onwards = own-onward (window_map new) part.parent part.line part.column in
      let before = own-before part.parent taken in grind arith

-- ---- a number is given up from which no window derives

pub origins-without : (old new : List (Option Kept)) (at : ℕ) → SetAt old new at None → ((w : ℕ) (k : Kept) (part : Part) → slot_at old w ≡ Some k → k.cells ≡ Shared part → part.parent ≢ at)
    → AreOrigins old → AreOrigins new
origins-without old new at set apart s =
    let same = own-kept old new (λ v. v ≢ at) (λ v t. ap link (set.others v t)) (λ v k part t e is. apart v k part e is) in grind (arith, origins-beside, same)
