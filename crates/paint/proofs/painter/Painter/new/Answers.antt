-- `new`: a picture, changes and a pen of one size.
use Rattle.paint.specs.{None, length, ap, arith, rules, subst, sym, ◌∙◌, length-replicate, Shown, shown_blank, HasSize}
use Rattle.cell.proofs.PictureLemmas.{HasSize-all_of}
use Rattle.paint.specs.declared.pen.Pen.{Pen}
use Rattle.paint.proofs.painter.Painter.new.Goals as goal

pub invariant_of-result : goal.invariant_of-result
invariant_of-result c = (
  search rules,
  search rules,
  subst (HasSize {A = Shown} c.args.lines c.args.columns) (sym c.in_ok-picture.ensures) (HasSize-all_of shown_blank c.args.lines c.args.columns),
  ap length c.in_ok-changes.ensures ∙ length-replicate c.args.lines None,
  ap (λ (pen : Pen). pen.columns) c.in_ok-pen.ensures,
  omega (arith, c.in_ok-positions.ensures),
  omega (arith, c.in_ok-positions.ensures),
  omega (arith, c.in_ok-positions.ensures),
)
