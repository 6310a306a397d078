-- The piece is cut out of the row of the window.
use Rattle.std.specs.Prelude.{◌≡◌, ◌<◌, ◌+◌, ◌-◌}
use Rattle.picture.specs.{length, arith, windows}
use Rattle.grids.proofs.Showing.{line-has}
use Rattle.picture.proofs.RowPieces.{piece-of}
use Rattle.picture.proofs.piece.piece.Goals as goal

pub prove-unreachable-requires : goal.prove-unreachable-requires
prove-unreachable-requires c =
    let a = c.args in
    let inside : a.left + a.n - 1 < length c.row-row.result.now = (line-has (windows a.table.now).window a.win.0 a.y
    (a.left + a.n - 1) c.requires.place c.row-row.result.now c.row-row.ensures.row).0 in
    let past = c.if-prove.true in
    let at = c.from-from.ensures in
    let some = c.requires.some in
    omega (arith, inside, past, at, some)

pub returns : goal.returns
returns c =
    let a = c.args in
    let same : a.left + a.n - a.left ≡ a.n = omega arith in
    rw (c.from-from.ensures, same)
    (piece-of (windows a.table.now).window a.win.0 a.y a.left a.n c.row-row.result.now c.row-row.ensures.row c.requires.some c.requires.place)
