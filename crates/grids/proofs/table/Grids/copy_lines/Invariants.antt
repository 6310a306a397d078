use Rattle.std.specs.Prelude.{◌+◌}
use Rattle.grids.specs.{RectangleCopied, start_of, windows}
use Rattle.grids.proofs.table.Grids.copy_lines.Given as goal

-- so many lines are copied, from the first on or back from the last
abbrev pub invariant-loop-k : goal.invariant-loop-k
invariant-loop-k l =
    let first = start_of l.upward l.lines 0 l.k in
    RectangleCopied (windows l.fn.self) (record l.from { line = l.from.line + first }) (record l.to { line = l.to.line + first }) l.k l.columns l.overlay l.frame (windows l.self)
