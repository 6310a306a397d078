-- `draw_stroke`: its line is that of the update.
use Rattle.std.specs.Prelude.{◌≡◌}
use Rattle.paint.specs.{◌∙◌, ap, subst, arith, line_of, HasInk, IsErasure}
use Rattle.paint.specs.declared.pen.Pen.{Pen}
use Rattle.paint.proofs.CellRuns.{gap-shown}
use Rattle.paint.proofs.DrawnStrokes.{erased-line-drawn, erased-page-drawn, print-drawn}
use Rattle.paint.proofs.PenSteps.{DrawsWithin-more, plain-approach}
use Rattle.paint.proofs.drawing.draw_stroke.Goals as goal

pub returns-in-Print-clause-drawn : goal.returns-in-Print-clause-drawn
returns-in-Print-clause-drawn g c = λ before begun strokes h.
    let f = c.args.update.now.sound in
    let row = c.line.ensures.wanted in
    let strokes = rw (row, c.from-gap.ensures, c.from-start.ensures, c.from-end.ensures) at c.print_cells.ensures.draws in
    print-drawn c.args.stroke c.in-Print.is f.shown f.wanted c.requires.is h c.requires.width strokes c.print_cells.ensures.same.columns

pub returns-in-EraseLine-clause-drawn : goal.returns-in-EraseLine-clause-drawn
returns-in-EraseLine-clause-drawn g c = λ before begun strokes h.
    let f = c.args.update.now.sound in
    let row = c.line.ensures.wanted in
    let of : IsErasure c.args.update.now.wanted.now c.args.stroke = subst (λ ink. HasInk ink c.args.update.now.wanted.now c.args.stroke) c.in-EraseLine.is c.requires.is.ink in
    let reaches = rw (row, c.from-gap.ensures, c.from-start.ensures) at c.come_plain.ensures.draws in
    erased-line-drawn c.args.stroke c.in-EraseLine.is f.shown f.wanted c.requires.is h c.requires.width
    (λ picture wide are. DrawsWithin-more (reaches picture wide
    (gap-shown c.args.stroke.gap c.args.stroke.start (line_of c.args.update.now.wanted.now c.args.stroke.line) (line_of picture c.args.stroke.line) c.requires.is.gap (omega (arith, of.start)) are)) (omega (arith, plain-approach)))
    c.erase_line.ensures.draws (ap (λ (pen : Pen). pen.columns) c.erase_line.ensures.rest ∙ c.come_plain.ensures.same.columns)

pub returns-in-ErasePage-clause-drawn : goal.returns-in-ErasePage-clause-drawn
returns-in-ErasePage-clause-drawn g c = λ before begun strokes h.
    let f = c.args.update.now.sound in
    let row = c.line.ensures.wanted in
    let of : IsErasure c.args.update.now.wanted.now c.args.stroke = subst (λ ink. HasInk ink c.args.update.now.wanted.now c.args.stroke) c.in-ErasePage.is c.requires.is.ink in
    let reaches = rw (row, c.from-gap.ensures, c.from-start.ensures) at c.come_plain-in-ErasePage.ensures.draws in
    erased-page-drawn c.args.stroke c.in-ErasePage.is f.shown f.wanted c.requires.is h c.requires.width
    (λ picture wide are. DrawsWithin-more (reaches picture wide
    (gap-shown c.args.stroke.gap c.args.stroke.start (line_of c.args.update.now.wanted.now c.args.stroke.line) (line_of picture c.args.stroke.line) c.requires.is.gap (omega (arith, of.start)) are)) (omega (arith, plain-approach)))
    c.erase_page.ensures.draws (ap (λ (pen : Pen). pen.columns) c.erase_page.ensures.rest ∙ c.come_plain-in-ErasePage.ensures.same.columns)
