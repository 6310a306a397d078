-- Characters that are printed after others in a line.
use Rattle.std.specs.Prelude.{◌≡◌, ◌+◌, ◌-◌, ◌<◌, ◌≤◌, ◌==◌, ◌&&◌, if◌then◌else◌}
use Rattle.grids.specs.{List, ℕ, nat_le, nat_lt, length, map, take, drop, arith, length-take, length-drop, slice_index_or, nat_tests, get_or-drop, get_or-map, get_or-take, length-map, Glyph, blank}
use Rattle.grids.specs.{cell_or, printed_cell}

-- columns of a line that were filled, and those that were filled after them, some of them again
pub filled-on : {A : Type 0} (none : A) (old mid new : List (List A)) (y start from to end : ℕ) (f g : ℕ → A) → start ≤ from → from ≤ to → to ≤ end
    → ((v u : ℕ) → cell_or none mid (v, u) ≡ (if (v == y) && (nat_le start u && nat_lt u to) then f u else cell_or none old (v, u)))
    → ((v u : ℕ) → cell_or none new (v, u) ≡ (if (v == y) && (nat_le from u && nat_lt u end) then g u else cell_or none mid (v, u)))
    → ((u : ℕ) → from ≤ u → u < end → g u ≡ f u)
    → (v u : ℕ) → cell_or none new (v, u) ≡ (if (v == y) && (nat_le start u && nat_lt u end) then f u else cell_or none old (v, u))
filled-on none old mid new y start from to end f g begins overlaps within before now same v u = grind (arith, nat_tests)

-- a cell of a part of a text is one of the text
pub printed-part : (pen : Glyph) (text : List ℕ) (start from count u : ℕ) → from + count ≤ length text → start + from ≤ u → u < start + from + count
    → slice_index_or (map (printed_cell pen) (take count (drop from text))) (u - (start + from)) blank ≡ slice_index_or (map (printed_cell pen) text) (u - start) blank
printed-part pen text start from count u within after before =
    grind (
      arith,
      length-take,
      length-drop,
      length-map,
      get_or-map (printed_cell pen) text (u - start) 0 blank,
      get_or-map (printed_cell pen) (take count (drop from text)) (u - (start + from)) 0 blank,
      get_or-take,
      get_or-drop,
    )
