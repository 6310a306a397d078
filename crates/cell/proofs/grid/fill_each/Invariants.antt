use Rattle.std.specs.Prelude.{◌≡◌}
use Rattle.cell.specs.{length, replicate, take}
use Rattle.cell.proofs.grid.fill_each.Given as goal

-- the places before x are filled
abbrev pub invariant-loop-x : goal.invariant-loop-x
invariant-loop-x g l = record {
  long : length l.places ≡ length l.fn.places;
  filled : take l.x l.places ≡ replicate l.x l.cell;
}
