-- Spaces of an overlay write nothing, and other cells are copied as they are.
use Rattle.grids.specs.{ap, sym, ◌∙◌, is_some, overlaid_cell, windows}
use Rattle.grids.proofs.Copies.{all-copied, none-copied, Drawn-nothing}
use Rattle.grids.proofs.table.Grids.copy_piece.Goals as goal

pub returns-then-not-is_copied : goal.returns-then-not-is_copied
returns-then-not-is_copied c =
    let a = c.args in
    let w = windows a.self.now in
    Drawn-nothing w a.to.win.0 _ (none-copied w.window a.overlay a.from.win.0 a.from.line a.from.column a.to.line a.to.column a.n c.requires.alike
    (ap (λ g. is_some (overlaid_cell a.overlay g)) (sym c.cell.ensures.cell) ∙ sym c.is_copied.ensures ∙ c.if-not-is_copied.true))

pub returns : goal.returns
returns c =
    let a = c.args in
    rw (← all-copied (windows a.self.now).window a.overlay a.from.win.0 a.from.line a.from.column a.to.line a.to.column a.n c.requires.alike
    (ap (λ g. is_some (overlaid_cell a.overlay g)) (sym c.cell.ensures.cell) ∙ sym c.is_copied.ensures ∙ c.if-not-is_copied.false)) c.copy_cells.ensures
