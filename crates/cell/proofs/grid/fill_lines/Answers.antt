-- The lines are filled one after another (`Fills`).
use Rattle.std.specs.Prelude.{◌-◌}
use Rattle.cell.specs.{arith}
use Rattle.cell.proofs.Fills.{filled-line, splice-filled}
use Rattle.cell.proofs.grid.fill_lines.Goals as goal

pub loop-y-preserved : goal.loop-y-preserved
loop-y-preserved g c = let a = c.args in let r = c.requires in
    rw (c.fill_piece.ensures.cells, splice-filled a.cell _ _ (a.end - a.start))
    (filled-line c.loop-y.invariant (omega arith) (omega arith) r.bottom r.ordered r.columns r.sound c.fill_piece.ensures.room)
