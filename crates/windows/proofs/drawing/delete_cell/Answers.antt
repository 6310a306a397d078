-- A copy of the rest of the line and a write of its last cell are one drawing.
use Rattle.windows.specs.{arith, rules}
use Rattle.windows.proofs.States.{state-written, has_place}
use Rattle.windows.proofs.Drawings.{deleted}
use Rattle.windows.proofs.drawing.delete_cell.Goals as goal

pub fill-requires-clause-there : goal.fill-requires-clause-there
fill-requires-clause-there c =
    has_place _ _ _ _ _ (state-written _ _ _ _ _ c.requires.state c.copy_row.ensures.written c.copy_row.ensures.sound) c.requires.line (omega arith)

pub returns : goal.returns
returns c = search (rules, state-written, (deleted _ _ _ c.requires.state _ _ c.args.y c.args.x _ c.requires.column c.copy_row.ensures.written c.fill.ensures.written))
