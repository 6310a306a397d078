-- The list of slots, and the windows that they represent.
use Rattle.std.specs.Prelude.{◌≡◌, ◌+◌, ◌≤◌}
use Rattle.grids.specs.Names.{ℕ, Bool, false, List, Option, Some, None, IsSomeAnd, MatchOption, slice_index_or, ⊤, option_map, option_map_or, LARGEST_PAD, GridPlace, WindowMap, own, IsPartOf}
use Rattle.grids.specs.Names.{is_part_of}
use Rattle.grids.specs.declared.slot.Part.{Part}
use Rattle.grids.specs.declared.slot.Cells.{Cells}
use Rattle.grids.specs.declared.slot.Cells.TheVariants.{Own, Shared}
use Rattle.grids.specs.declared.slot.Origin.{Origin}
use Rattle.grids.specs.declared.place.Place.{Place}
use Rattle.grids.specs.KeptSlots.{Kept, IsKept, window_of}

-- the slot of a number, if it is taken
abbrev pub slot_at : List (Option Kept) → ℕ → Option Kept
slot_at slots w = slice_index_or slots w None

abbrev pub window_map : List (Option Kept) → WindowMap
window_map slots w = option_map window_of (slot_at slots w)

abbrev pub depth_at : List (Option Kept) → ℕ → ℕ
depth_at slots w = option_map_or (λ k. k.depth) (slot_at slots w) 0

abbrev pub lines_at : List (Option Kept) → ℕ → ℕ
lines_at slots w = option_map_or (λ k. k.lines) (slot_at slots w) 0

abbrev pub columns_at : List (Option Kept) → ℕ → ℕ
columns_at slots w = option_map_or (λ k. k.columns) (slot_at slots w) 0

-- the parent and the offset into it, of a derived window
abbrev pub part_in : Cells → Option Part
part_in (Own sheet) = None
part_in (Shared part) = Some part

-- the place of the parent that is this place of a window, of which the parent shows this part
abbrev pub in_parent : Place → Part → Place
in_parent at part = record { win = record { 0 = part.parent }; line = at.line + part.line; column = at.column + part.column }

-- whether a slot's window names this one as its parent
abbrev pub names_parent : ℕ → Option Kept → Bool
names_parent w o = option_map_or (λ a. is_part_of w a.backing) (option_map window_of o) false

-- the window is a part of its parent at the offset, and has one ancestor more
pub record FitsIn (k : Kept) (part : Part) (parent : Kept) : Type 0 where
  pub depth : k.depth ≡ parent.depth + 1
  pub within : IsPartOf part.line part.column (window_of k) (window_of parent)

abbrev pub HasParentIn : List (Option Kept) → Kept → Cells → Type 0
HasParentIn slots k (Own sheet) = k.depth ≡ 0
HasParentIn slots k (Shared part) = MatchOption (slot_at slots part.parent) ⊥ (FitsIn k part)

-- each slot has its shape, and each derived window its parent
pub record IsChained (slots : List (Option Kept)) : Type 0 where
  pub each : (w : ℕ) → MatchOption (slot_at slots w) ⊤ (λ k. IsKept k × HasParentIn slots k k.cells)

-- the place of a grid that it names
abbrev pub grid_place : Origin → GridPlace
grid_place o = record { grid = o.grid; line = o.line; column = o.column }

-- each slot keeps where the first place of its window leads
pub record AreOrigins (slots : List (Option Kept)) : Type 0 where
  pub each : (w : ℕ) → MatchOption (slot_at slots w) ⊤ (λ k. own (window_map slots) w 0 0 ≡ Some (grid_place k.origin))

-- the first place of window win leads to this place of a grid, in which the window lies
pub record IsRoot (slots : List (Option Kept)) (win : ℕ) (place : GridPlace) : Type 0 where
  pub lines : place.line + lines_at slots win ≤ lines_at slots place.grid
  pub columns : place.column + columns_at slots win ≤ columns_at slots place.grid
  pub few_lines : lines_at slots place.grid ≤ LARGEST_PAD
  pub few_columns : columns_at slots place.grid ≤ LARGEST_PAD
  pub grid : IsSomeAnd (slot_at slots place.grid) (λ k. part_in k.cells ≡ None)
  pub leads : own (window_map slots) win 0 0 ≡ Some place
