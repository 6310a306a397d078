-- A block of cells that is copied within a grid fits into it.
use Rattle.std.specs.Prelude.{◌≡◌, ◌+◌, ◌-◌, ◌<◌, ◌≤◌, ◌==◌, if◌then◌else◌}
use Rattle.grids.specs.{ℕ, Bool, true, false, Option, Some, None, IsSomeAnd, List, ap, arith, option_map, option_map_or, GridPlace, Window, WindowMap, HasPlace, with_change, Kept, WindowTable, subst}
use Rattle.grids.proofs.Chain.{some_and}
use Rattle.grids.specs.{window_of, slot_at, window_map, lines_at, columns_at, part_in, IsRoot, HasLine}

-- two places of one grid
pub one-grid : (o p : Option GridPlace) (a b : GridPlace) → o ≡ Some a → p ≡ Some b → option_map (λ p. p.grid) o ≡ option_map (λ p. p.grid) p → a.grid ≡ b.grid
one-grid o p a b is are same = grind arith

-- a slot whose window is touched has as many lines and columns

abbrev Marked : (Window → Window) → Bool → Option Kept → Option Kept → Type 0
Marked f t o n = option_map window_of n ≡ (if t then option_map f (option_map window_of o) else option_map window_of o)

abbrev lines_in : Option Kept → ℕ
lines_in o = option_map_or (λ k. k.lines) o 0

abbrev columns_in : Option Kept → ℕ
columns_in o = option_map_or (λ k. k.columns) o 0

same_size : (f : Window → Window) → ((a : Window) → (f a).lines ≡ a.lines) → ((a : Window) → (f a).columns ≡ a.columns) → (t : Bool) (o n : Option Kept) → Marked f t o n
    → (lines_in n ≡ lines_in o) × (columns_in n ≡ columns_in o)
same_size f lines columns true None None h = grind arith
same_size f lines columns true None (Some n) h = grind arith
same_size f lines columns true (Some o) None h = grind arith
same_size f lines columns true (Some o) (Some n) h = grind (arith, lines (window_of o), columns (window_of o))
same_size f lines columns false None None h = grind arith
same_size f lines columns false None (Some n) h = grind arith
same_size f lines columns false (Some o) None h = grind arith
same_size f lines columns false (Some o) (Some n) h = grind arith

-- the slot has a grid of its own, and both blocks lie in it
pub record Fits (sy sx dy dx lines columns : ℕ) (k : Kept) : Type 0 where
  pub own : part_in k.cells ≡ None
  pub source_lines : sy + lines ≤ k.lines
  pub target_lines : dy + lines ≤ k.lines
  pub source_columns : sx + columns ≤ k.columns
  pub target_columns : dx + columns ≤ k.columns

fits_in : (o : Option Kept) (sy sx dy dx lines columns : ℕ) → IsSomeAnd o (λ k. part_in k.cells ≡ None) → sy + lines ≤ lines_in o → dy + lines ≤ lines_in o → sx + columns ≤ columns_in o
    → dx + columns ≤ columns_in o → IsSomeAnd o (Fits sy sx dy dx lines columns)
fits_in o sy sx dy dx lines columns own source target left right = grind arith

has_size : (slots : List (Option Kept)) (w y x : ℕ) → HasPlace (window_map slots) w y x → (y < lines_at slots w) × (x < columns_at slots w)
has_size slots w y x there = grind arith

pub block-fits : (old new : List (Option Kept)) (src dst : ℕ) (source target : GridPlace) (sy sx dy dx lines columns : ℕ) (f : Window → Window) → ((a : Window) → (f a).lines ≡ a.lines)
    → ((a : Window) → (f a).columns ≡ a.columns) → window_map new ≡ with_change (window_map old) dst f → IsRoot old src source → HasLine old new dst (dy + lines - 1) (dx + columns - 1) target
    → HasPlace (window_map old) src (sy + lines - 1) (sx + columns - 1) → source.grid ≡ target.grid → 0 < lines → 0 < columns
    → IsSomeAnd (slot_at new target.grid) (Fits (source.line + sy) (source.column + sx) (target.line + dy) (target.column + dx) lines columns)
block-fits old new src dst source target sy sx dy dx lines columns f keeps_lines keeps_columns touched root line there same some_line some_column =
    let size = same_size f keeps_lines keeps_columns (target.grid == dst) (slot_at old target.grid) (slot_at new target.grid) (ap (λ (map : WindowMap). map target.grid) touched) in
    let has = has_size old src (sy + lines - 1) (sx + columns - 1) there in
    let lines_of : lines_at old source.grid ≡ lines_at old target.grid = ap (lines_at old) same in
    let columns_of : columns_at old source.grid ≡ columns_at old target.grid = ap (columns_at old) same in
    fits_in (slot_at new target.grid) (source.line + sy) (source.column + sx) (target.line + dy) (target.column + dx) lines columns line.root.grid
    (omega (arith, size.0, has.0, lines_of, root.lines)) (omega (arith, line.root.lines, line.line)) (omega (arith, size.1, has.1, columns_of, root.columns)) (omega (arith, line.root.columns, line.column))

-- the window that has the grid is there
pub grid-there : (slots : List (Option Kept)) (place : GridPlace) → IsSomeAnd (slot_at slots place.grid) (λ k. part_in k.cells ≡ None) → (b : Window) × (window_map slots place.grid ≡ Some b)
grid-there slots place own = let k = some_and (slot_at slots place.grid) _ own in (window_of k.0, ap (option_map window_of) k.1)

-- where a window begins in a grid, in the table that is shown
pub root-shown : {t u : WindowTable} {slots : List (Option Kept)} (w : ℕ) (place : GridPlace) → t ≡ u → slots ≡ t.slots → IsRoot slots w place → IsRoot u.slots w place
root-shown w place shown same root = subst (λ (v : WindowTable). IsRoot v.slots w place) shown (subst (λ (l : List (Option Kept)). IsRoot l w place) same root)
