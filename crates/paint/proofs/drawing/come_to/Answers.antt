-- `come_to`: the gap printed again before and after the selection, or after one of none, or a move (`PenSteps`).
use Rattle.std.proofs.lemmas.Grind.{common_steps}
use Rattle.std.specs.Prelude.{◌≡◌, ◌+◌, ◌-◌, ◌<◌}
use Rattle.paint.specs.{◌∙◌, get_or, length, drop, sym, ap, arith, get_or-drop, get_or-take, length-drop, length-take, line_of, shown_blank}
use Rattle.paint.proofs.CellRuns.{all-at, gap-at, gap-within}
use Rattle.paint.proofs.PenSteps.{DrawsWithin-more, DrawsWithin-then, move-within, plain-within, select-within}
use Rattle.paint.proofs.drawing.come_to.Goals as goal

pub print_again-requires-in-Printed-clause-rendition : goal.print_again-requires-in-Printed-clause-rendition
print_again-requires-in-Printed-clause-rendition g c = grind (arith, length-take, get_or-take, all-at, length-drop, common_steps)

pub returns-in-Printed-clause-draws : goal.returns-in-Printed-clause-draws
returns-in-Printed-clause-draws g c = λ picture wide are.
    let split = rw c.in-Printed.is at c.requires.way in
    let gap = c.args.gap.now in
    let n = c.in-Printed.count in
    let row = line_of picture c.args.from.0 in
    let long = length-take n gap in
    let others = length-take (length gap - n) (drop n gap) in
    let first = c.print_again.ensures.draws picture wide (λ k few.
    get_or-take n gap k shown_blank (omega (arith, few, long)) ∙ gap-at row gap c.args.from.1 k are (omega (arith, few, long, split.within))) in
    let other = c.print_again-in-Printed.ensures.draws picture (wide ∙ sym (c.select.ensures.same.columns ∙ c.print_again.ensures.same.columns)) (λ k few.
    let at : c.args.from.1 + (n + k) ≡ c.args.from.1 + n + k = omega arith in
    let inside : k < length gap - n = omega (arith, few, others) in
    get_or-take (length gap - n) (drop n gap) k shown_blank inside ∙ get_or-drop n gap k shown_blank ∙ gap-at row gap c.args.from.1 (n + k) are (omega (arith, inside)) ∙ ap (λ x. get_or row x shown_blank) at) in
    DrawsWithin-more (DrawsWithin-then (DrawsWithin-then first (select-within c.args.rendition (c.select.ensures.draws picture))) other) (omega (arith, split.few, split.within, long, others))

pub returns-in-Plain-clause-draws : goal.returns-in-Plain-clause-draws
returns-in-Plain-clause-draws g c = λ picture wide are.
    let gap = c.args.gap.now in
    DrawsWithin-more (DrawsWithin-then (DrawsWithin-then (plain-within (c.select-in-Plain.ensures.draws picture))
    (gap-within c.args.from.0 c.args.from.1 gap (omega (arith, wide, c.requires.inside)) (λ k few. gap-at (line_of picture c.args.from.0) gap c.args.from.1 k are few)
    (c.print_run.ensures.draws picture (wide ∙ sym c.select-in-Plain.ensures.same.columns))))
    (select-within c.args.rendition (c.select-in-Plain-2.ensures.draws picture))) (omega (arith, (rw c.in-Plain.is at c.requires.way).few))

pub returns-in-Moved-clause-draws : goal.returns-in-Moved-clause-draws
returns-in-Moved-clause-draws g c = λ picture wide are.
    DrawsWithin-then (move-within (c.args.from.0, c.args.from.1 + length c.args.gap.now) (omega (arith, c.requires.line, c.requires.few)) (omega (arith, c.requires.inside, c.requires.columns, c.requires.few))
    (c.go.ensures.draws picture (omega (arith, wide, c.requires.inside)))) (select-within c.args.rendition (c.select-in-Moved.ensures.draws picture))
