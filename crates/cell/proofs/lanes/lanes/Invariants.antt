use Rattle.std.specs.Prelude.{◌≡◌}
use Rattle.cell.specs.{length, map, take, shown_bits, shown_of}
use Rattle.cell.specs.declared.lanes.TheConstants.{LANES}
use Rattle.cell.proofs.lanes.lanes.Given as goal

abbrev pub invariant-loop-x : goal.invariant-loop-x
invariant-loop-x l = record {
  long : length l.numbers ≡ LANES;
  bits : take l.x l.numbers ≡ map shown_bits (take l.x l.cells);
  held : take l.x l.cells ≡ map shown_of (take l.x l.numbers);
}
