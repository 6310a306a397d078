use Rattle.std.specs.Prelude.{◌≡◌, ◌+◌, ◌-◌, ◌≤◌, ◌==◌, ◌&&◌, if◌then◌else◌}
use Rattle.grids.specs.{ℕ, nat_le, nat_lt, length, map, slice_index_or, IsCell, blank, EachCell, HasSize, cell_or, printed_cell}
use Rattle.grids.proofs.ink.print_in.Given as goal

-- the first characters are printed
abbrev pub invariant-loop-done : goal.invariant-loop-done
invariant-loop-done l = record {
  within : l.done ≤ length l.text;
  shown : (v u : ℕ) → cell_or blank l.grid (v, u) ≡ (if (v == l.y) && (nat_le l.x u && nat_lt u (l.x + l.done)) then slice_index_or (map (printed_cell l.pen) l.text) (u - l.x) blank
      else cell_or blank l.fn.grid (v, u));
  size : (lines columns : ℕ) → HasSize lines columns l.fn.grid → HasSize lines columns l.grid;
  cells : EachCell IsCell l.fn.grid → EachCell IsCell l.grid;
  height : length l.grid ≡ length l.fn.grid;
}

abbrev pub decreases-loop-done : goal.decreases-loop-done
decreases-loop-done l = length l.text - l.done
