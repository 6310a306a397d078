-- `show_piece`: a piece of a line is written, and its columns are added.
use Rattle.std.specs.Prelude.{◌+◌, ◌-◌}
use Rattle.compose.specs.{arith, shown, cell_at, windows}
use Rattle.extents.proofs.Changing.{changes-more, changes-none}
use Rattle.picture.proofs.DamageLaws.{damages-widened}
use Rattle.compose.proofs.virtual_picture.VirtualPicture.show_piece.Goals as goal

pub returns-clause-changes : goal.returns-clause-changes
returns-clause-changes c =
    let a = c.args in
    let changes = a.self.now.changes in
    let cells = a.self.now.cells in
    rw c.widen.ensures
    (changes-more changes cells changes cells c.show_piece.new.picture a.y a.x (a.x + a.n)
    (λ u. shown a.pairs.now (cell_at (windows a.table.now).window a.source.win.0 a.source.line (a.source.column + (u - a.x)))) (changes-none changes cells)
    (omega (arith, c.requires.line, c.requires.height)) c.show_piece.ensures.shown (a.x + (a.n - 1)) (omega (arith, c.requires.some)))

pub returns-clause-few : goal.returns-clause-few
returns-clause-few c =
    let a = c.args in
    rw c.widen.ensures
    (damages-widened a.table.now.columns a.y a.x (a.x + (a.n - 1)) a.self.now.changes (omega (arith, c.requires.line, c.requires.height)) (omega arith)
    (omega (arith, c.requires.some, c.requires.columns)))

pub overflow_add-x : goal.overflow_add-x
overflow_add-x c = let few = c.has_window.ensures.sound.few_columns in omega (arith, few, c.requires.columns)
