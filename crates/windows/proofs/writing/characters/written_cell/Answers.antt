-- `written_cell`: a character written at the cursor of a window of a known state (`Typing`).
use Rattle.windows.specs.{arith, eq-eqb, ne_eqb}
use Rattle.windows.proofs.Typing.{written-is}
use Rattle.windows.proofs.writing.characters.written_cell.Goals as goal
use Rattle.windows.proofs.writing.characters.written_cell.Goals.{then-ch-eq32, else-ch-eq32}

pub returns : goal.returns
returns c = grind (arith, then-ch-eq32, eq-eqb, else-ch-eq32, ne_eqb, written-is)
