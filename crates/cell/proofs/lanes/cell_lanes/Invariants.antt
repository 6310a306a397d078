use Rattle.std.specs.Prelude.{◌≡◌, ◌<◌}
use Rattle.cell.specs.{ℕ, get_or, length, map, take, IsCell, blank, glyph_bits}
use Rattle.cell.specs.declared.lanes.TheConstants.{LANES}
use Rattle.cell.proofs.lanes.cell_lanes.Given as goal

abbrev pub invariant-loop-x : goal.invariant-loop-x
invariant-loop-x l = record {
  long : length l.bits ≡ LANES;
  bits : take l.x l.bits ≡ map glyph_bits (take l.x l.cells);
  sound : (k : ℕ) → k < l.x → IsCell (get_or l.cells k blank);
}
