use Rattle.ecma.proofs.cells.Cells.erase.Goals as goal

pub returns-then-end-known-clause-size : goal.returns-then-end-known-clause-size
returns-then-end-known-clause-size c = λ lines columns size. c.fill.ensures.size lines columns (rw c.self.view_is size)

pub returns-clause-size : goal.returns-clause-size
returns-clause-size c = λ lines columns size. c.fill-2.ensures.size lines columns (rw c.self.view_is size)
