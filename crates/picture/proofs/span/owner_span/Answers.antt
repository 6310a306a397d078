-- Nothing is known of a line before.
use Rattle.picture.specs.{refl, panels}
use Rattle.picture.proofs.span.owner_span.Goals as goal

pub span-requires : goal.span-requires
span-requires g c κs =
    ((refl, record {}), (c.requires.panels, (c.requires.column, c.none.ensures (g.R.Rows.windows c.args.rows.now).window (panels c.args.stack.now))))
