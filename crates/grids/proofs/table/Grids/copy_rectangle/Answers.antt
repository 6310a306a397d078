-- A copy of no line or column is an empty drawing; another is that of its lines.
use Rattle.grids.specs.{arith, inl, inr, windows}
use Rattle.grids.proofs.Copies.{rectangle-none, Drawn-nothing}
use Rattle.grids.proofs.table.Grids.copy_rectangle.Goals as goal
use Rattle.grids.proofs.table.Grids.copy_rectangle.Goals.{then-lines-gt0+then-columns-gt0, else-lines-gt0, else-lines-gt0-via-then-lines-gt0+else-columns-gt0, else-lines-gt0-via-else-lines-gt0}

pub returns-clause-copied : goal.returns-clause-copied
returns-clause-copied c =
    let a = c.args in
    let w = windows a.self.now in
    let none = rectangle-none w.window a.src.0 a.sy a.sx a.dy a.dx a.lines a.columns a.overlay in
    elim c.if-lines-gt0.branch [
      | then-lines-gt0+then-columns-gt0 k ↦ rw (k.self-is, k.frame-is) (rw (c.new-from.ensures, c.new-to.ensures) at k.copy_lines-frame.ensures)
      | else-lines-gt0 k ↦ rw (k.self-is, k.frame-is) (Drawn-nothing w a.dst.0 _ (none (elim k.else-lines-gt0.branch [
        | else-lines-gt0-via-then-lines-gt0+else-columns-gt0 j ↦ inr (omega (arith, j.if-columns-gt0.false))
        | else-lines-gt0-via-else-lines-gt0 j ↦ inl (omega (arith, j.if-lines-gt0.false))
      ])))
    ]
