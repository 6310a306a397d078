use Rattle.std.specs.Prelude.{◌+◌, ◌-◌, ◌≤◌}
use Rattle.grids.specs.{RowCopied, start_of, windows}
use Rattle.grids.proofs.table.Grids.copy_line.Given as goal

-- so many cells are copied, from the first on or back from the last
abbrev pub invariant-pieces : goal.invariant-pieces
invariant-pieces l =
    let first = start_of l.back l.n 0 l.done in
    record {
      within : l.done ≤ l.n;
      copied : RowCopied (windows l.fn.self) (record l.from { column = l.from.column + first }) (record l.to { column = l.to.column + first }) l.done l.overlay l.frame (windows l.self);
    }

abbrev pub decreases-pieces : goal.decreases-pieces
decreases-pieces l = l.n - l.done
