-- The cells that a window shows, read from the grid that it leads to.
use Rattle.std.specs.Prelude.{◌≡◌, ◌+◌, ◌<◌}
use Rattle.grids.specs.{ℕ, Option, Some, IsSome, IsSomeAnd, List, length, map, get_or, refl, zero-add, arith, option_map, range_with_len, length-map-range_with_len, get_or-map-range_with_len, Glyph}
use Rattle.grids.specs.{blank, GridPlace, Window, WindowMap, HasPlace, own, cell_of, cell_at, line_shown, Kept, window_of, slot_at, window_map, columns_at, WindowTable}
use Rattle.world.proofs.WindowLaws.{own-onward}
use Rattle.grids.proofs.Chain.{some_and}

is_taken : (o : Option Kept) (y : ℕ) → IsSomeAnd (option_map window_of o) (λ a. (y < a.lines) × (0 < a.columns)) → IsSome o
is_taken o y h = grind arith

pub row-read : (slots : List (Option Kept)) (w y columns : ℕ) (place : GridPlace) (cells : List Glyph) → HasPlace (window_map slots) w y 0 → columns ≡ columns_at slots w
    → own (window_map slots) w 0 0 ≡ Some place
    → IsSomeAnd (slot_at slots place.grid) (λ g. cells ≡ map (λ x. cell_of (window_of g).backing (place.line + y) (place.column + x)) (range_with_len 0 columns))
    → cells ≡ line_shown (window_map slots) w y
row-read slots w y columns place cells there same leads read = grind (arith, some_and, own-onward, is_taken)

-- a place of a window is left of its end
pub column_below : (slots : List (Option Kept)) (w y x : ℕ) → HasPlace (window_map slots) w y x → x < columns_at slots w
column_below slots w y x there = grind arith

-- a piece of it
pub record IsPiece (window : WindowMap) (w y left len : ℕ) (cells : List Glyph) : Type 0 where
  pub all : length cells ≡ len
  pub each : (k : ℕ) → k < len → get_or cells k blank ≡ cell_at window w y (left + k)

pub piece-read : (slots : List (Option Kept)) (w y left len : ℕ) (place : GridPlace) (cells : List Glyph) → own (window_map slots) w 0 0 ≡ Some place
    → IsSomeAnd (slot_at slots place.grid) (λ g. cells ≡ map (λ x. cell_of (window_of g).backing (place.line + y) (place.column + left + x)) (range_with_len 0 len))
    → IsPiece (window_map slots) w y left len cells
piece-read slots w y left len place cells leads read = grind (arith, some_and, length-map-range_with_len, get_or-map-range_with_len, zero-add, own-onward)

-- a line of a window that has the place (y, x)

line_has : (window : WindowMap) (w y x : ℕ) (o : Option Window) → window w ≡ o → IsSomeAnd o (λ a. (y < a.lines) × (x < a.columns)) → (cells : List Glyph) → cells ≡ line_shown window w y
    → (x < length cells) × ((d : Glyph) → get_or cells x d ≡ cell_at window w y x)
line_has window w y x o e there cells is = grind (arith, length-map-range_with_len, get_or-map-range_with_len, zero-add)

pub line-has : (window : WindowMap) (w y x : ℕ) → HasPlace window w y x → (cells : List Glyph) → cells ≡ line_shown window w y
    → (x < length cells) × ((d : Glyph) → get_or cells x d ≡ cell_at window w y x)
line-has window w y x there cells is = line_has window w y x (window w) refl there cells is

-- where the first place of window w leads, in the table that is shown
pub leads_shown : {t u : WindowTable} {slots : List (Option Kept)} {o : Option GridPlace} (w : ℕ) → t ≡ u → slots ≡ t.slots → own (window_map slots) w 0 0 ≡ o → own (window_map u.slots) w 0 0 ≡ o
leads_shown w = grind arith
