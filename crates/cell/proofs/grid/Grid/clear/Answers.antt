-- `clear`: a grid with one cell everywhere (`Clearing`); the blanks that are missing after a grid's cells (`Blanks`).
use Rattle.cell.specs.{ap, ◌∙◌, sym, replicate, arith}
use Rattle.cell.proofs.Clearing.{cleared}
use Rattle.cell.proofs.Blanks.{IsGrid-blank, blank_cells}
use Rattle.cell.proofs.grid.Grid.clear.Goals as goal

pub invariant_of-self : goal.invariant_of-self
invariant_of-self g c = rw (c.add_blanks.ensures.cells, c.min.ensures, c.truncate.ensures.items)
    (IsGrid-blank g.T.Element.blank c.self.inside.lines c.self.inside.columns _ c.add_blanks.ensures.blank c.self.invariant.all.few_lines c.self.invariant.all.few_columns
    (omega (arith, c.self.invariant.room, c.truncate.ensures.capacity, c.add_blanks.ensures.room)))

pub returns : goal.returns
returns g c = rw (← c.self.view_is, c.add_blanks.ensures.cells, c.min.ensures, c.truncate.ensures.items)
    (cleared g.T.Element.blank c.self.invariant.all (blank_cells g.T.Element.blank _ _ ∙ ap (λ n. replicate n g.T.Element.blank) (sym c.self.invariant.all.whole)))
