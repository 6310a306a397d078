-- A copy of the rest of the line and a write of one cell are one drawing.
use Rattle.windows.specs.{rules}
use Rattle.windows.proofs.States.{state-written, has_place}
use Rattle.windows.proofs.Drawings.{inserted}
use Rattle.windows.proofs.drawing.insert_cell.Goals as goal

pub fill-requires-clause-there : goal.fill-requires-clause-there
fill-requires-clause-there c =
    has_place _ _ _ _ _ (state-written _ _ _ _ _ c.requires.state c.copy_row.ensures.written c.copy_row.ensures.sound) c.requires.line c.requires.column

pub returns : goal.returns
returns c = search (rules, state-written, (inserted _ _ _ c.requires.state _ _ c.args.y c.args.x c.args.cell c.requires.column c.copy_row.ensures.written c.fill.ensures.written))
