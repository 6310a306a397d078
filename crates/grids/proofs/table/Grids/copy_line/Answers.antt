-- Each round lays a piece more over the line, in the direction in which none is read after it was written.
use Rattle.std.specs.Prelude.{◌+◌}
use Rattle.grids.specs.{refl, arith, rules, common_steps, nat_tests, windows, start_of}
use Rattle.grids.proofs.Showing.{leads_shown}
use Rattle.grids.proofs.Copies.{copied-none, cells-out, more-cells, Drawn-nothing, piece-there, still-there, row-copied}
use Rattle.grids.proofs.table.Grids.copy_line.Goals as goal

pub pieces-init : goal.pieces-init
pieces-init c =
    let a = c.args in
    let w = windows a.self.now in
    record { within = omega arith; copied = Drawn-nothing w a.to.win.0 _ (copied-none w.window a.from.win.0 a.from.line _ a.to.line _ 0 a.overlay refl) }

pub piece_length-len-requires-clause-there : goal.piece_length-len-requires-clause-there
piece_length-len-requires-clause-there c = (still-there c.args.from c.args.to c.args.n c.pieces.invariant.copied c.requires.there).from

pub copy_piece-copied-requires-clause-there : goal.copy_piece-copied-requires-clause-there
copy_piece-copied-requires-clause-there c =
    rw (c.right_by.ensures, c.right_by-in-pieces.ensures) (piece-there c.args.from c.args.to c.args.n c.start_of-start.result c.piece_length-len.result c.pieces.invariant.copied c.requires.there
    c.piece_length-len.ensures.some (grind (arith, common_steps)))

pub copy_piece-copied-requires-clause-alike : goal.copy_piece-copied-requires-clause-alike
copy_piece-copied-requires-clause-alike c = rw (c.right_by.ensures, c.start_of-start.ensures) c.piece_length-len.ensures.alike

pub pieces-preserved : goal.pieces-preserved
pieces-preserved c =
    let a = c.args in let done = c.pieces.done in let len = c.piece_length-len.result in let back = c.goes_back-back.result in let start = start_of back a.n done len in
    let w = windows a.self.now in
    record {
      within = omega arith;
      copied = row-copied w (record a.from { column = a.from.column + start }) (record a.to { column = a.to.column + start }) _ _
          (leads_shown a.from.win.0 c.self.view_is c.deref.ensures.value c.origin_of.ensures.leads) (leads_shown a.to.win.0 c.self.view_is c.deref-2.ensures.value c.origin_of-2.ensures.leads)
          len a.overlay (search rules) c.pieces.invariant.copied
          (λ j below same up left. cells-out back w.window a.from.win.0 a.from.line a.from.column a.to.line a.to.column a.n done len a.overlay a.from.column _ _ j _ c.piece_length-len.ensures.within below
          (grind (arith, common_steps, nat_tests)) (grind (arith, common_steps, nat_tests)))
          (more-cells back w.window a.from.win.0 a.from.line a.from.column a.to.line a.to.column a.n done len a.overlay c.piece_length-len.ensures.within)
          (rw (c.right_by.ensures, c.right_by-in-pieces.ensures, c.start_of-start.ensures) at c.copy_piece-copied.ensures) c.frame_of_two-frame.ensures;
    }
