-- `draw_plan`: what was planned is drawn.
use Rattle.paint.proofs.FoundStrokes.{way-drawn}
use Rattle.paint.proofs.drawing.draw_plan.Goals as goal

pub returns-then-is_less_by_pass-clause-under_way : goal.returns-then-is_less_by_pass-clause-under_way
returns-then-is_less_by_pass-clause-under_way g c = λ before begun to h.
    let drawn = rw c.strokes.ensures at c.draw_passes.ensures.drawn in
    rw c.clear.ensures (way-drawn h (λ others. drawn before begun others))

pub returns-clause-under_way : goal.returns-clause-under_way
returns-clause-under_way g c = λ before begun to h.
    let drawn = rw c.strokes-2.ensures at c.draw_strokes.ensures.drawn in
    rw c.clear-2.ensures (way-drawn h (λ others. drawn before begun others))
