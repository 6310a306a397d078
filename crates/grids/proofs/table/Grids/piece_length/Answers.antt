-- The cells that are read are those of the window.
use Rattle.std.specs.Prelude.{◌+◌}
use Rattle.grids.specs.{add-zero, ap, sym, ◌∙◌, arith, common_steps, Glyph, true, is_some, overlaid_cell}
use Rattle.grids.specs.contracts.table.Grids.{the_view}
use Rattle.grids.proofs.Showing.{piece-read}
use Rattle.grids.proofs.table.Grids.piece_length.Goals as goal

pub returns-clause-alike : goal.returns-clause-alike
returns-clause-alike c = λ j below.
    let a = c.args in
    let o = c.origin_of-source in
    let piece = piece-read (the_view c.self.inside).slots a.from.win.0 a.from.line (a.from.column + a.done) c.min-most.result (record { grid = o.result.grid; line = o.result.line; column = o.result.column })
    c.row_in.result.now (rw c.deref.ensures.value at o.ensures.leads) (grind (arith, common_steps)) in
    let seen = λ (g : Glyph). is_some (overlaid_cell true g) in
    rw (c.if-back.false, c.if-not-overlay.false, ← c.self.view_is)
    (ap seen (sym (piece.each j (grind (arith, common_steps)))) ∙ c.run_length.ensures.alike j below ∙ rw add-zero at (ap seen (piece.each 0 (grind (arith, common_steps)))))
