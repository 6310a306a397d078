-- A row is a rectangle of one line.
use Rattle.grids.specs.{ap, ◌∙◌, put, Drawing, windows}
use Rattle.grids.proofs.Copies.{one-line}
use Rattle.grids.proofs.table.Grids.copy_row.Goals as goal

pub returns-clause-written : goal.returns-clause-written
returns-clause-written c =
    let a = c.args in
    let w = windows a.self.now in
    c.copy_rectangle.ensures.copied.written ∙ ap (λ (f : Drawing). put w a.dst.0 f) (one-line w.window a.src.0 a.sy a.sx a.dy a.dx a.n a.overlay)
