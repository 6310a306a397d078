-- The row has the columns of the screen.
use Rattle.std.proofs.Common.{arith}
use Rattle.capi.proofs.Rows.{screen-width}
use Rattle.capi.proofs.line.line_of_screen.Goals as goal

pub prove-unreachable-requires : goal.prove-unreachable-requires
prove-unreachable-requires c =
    let a = c.args in let size = c.size-lines.ensures in
    c.if-prove.true (screen-width a.y c.size-lines.result size.sound.virtual.size size.size (grind arith) c.virtual_row-row.ensures c.from.ensures)
