use Rattle.picture.proofs.piece.show_piece.Goals as goal

pub returns-clause-size : goal.returns-clause-size
returns-clause-size c = c.show_cells.ensures.size c.args.table.now.lines c.args.table.now.columns c.requires.size
