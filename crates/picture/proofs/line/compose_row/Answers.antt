-- Nothing is known of a line before.
use Rattle.picture.specs.{refl, panels}
use Rattle.picture.proofs.line.compose_row.Goals as goal

pub compose_columns-requires : goal.compose_columns-requires
compose_columns-requires g c κs =
    let h = c.requires in
    ((refl, record {}), (h.standard, (h.panels, (h.ordered, (h.line, (h.columns, c.none.ensures (g.R.Rows.windows c.args.rows.now).window (panels c.args.stack.now)))))))
