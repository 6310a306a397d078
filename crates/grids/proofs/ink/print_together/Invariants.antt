use Rattle.std.specs.Prelude.{◌≡◌}
use Rattle.grids.specs.{length, map, take, AllByRecursion, IsCell, printed_cell}
use Rattle.grids.specs.declared.ink.TheConstants.{PIECE}
use Rattle.grids.proofs.ink.print_together.Given as goal

-- the first k characters are held as cells
abbrev pub invariant-loop-k : goal.invariant-loop-k
invariant-loop-k l = record {
  long : length l.held ≡ PIECE;
  cells : take l.k l.held ≡ map (printed_cell l.pen) (take l.k l.text);
  sound : AllByRecursion IsCell (take l.k l.held);
}
