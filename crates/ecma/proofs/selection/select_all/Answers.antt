-- `select_all`: renditions selected by the parameters of a control sequence (`Selecting`).
use Rattle.ecma.specs.{◌∙◌, ap, sym, arith, take_all, select}
use Rattle.ecma.proofs.Selecting.{selected_by, selected-next, selected-last, selected-none}
use Rattle.ecma.proofs.selection.select_all.Goals as goal

pub returns : goal.returns
returns c = grind (arith, take_all, selected_by, selected-last)

pub returns-in-None : goal.returns-in-None
returns-in-None c = λ digits same.
    let here = c.select.ensures ∙ ap (λ code. select code c.loop-parameter.selected) c.number_or.ensures in
    let next = selected-next c.args.ended.now c.loop-parameter.parameter-index c.parameter-item.result c.args.rendition c.loop-parameter.selected c.loop-parameter-test.true c.parameter-item.is
    c.loop-parameter.invariant in
    sym (selected-none digits c.args.ended.now c.args.last c.loop-parameter.parameter-index c.args.rendition same c.loop-parameter-test.true (next ∙ sym here ∙ c.in-None.is))

pub loop-parameter-preserved : goal.loop-parameter-preserved
loop-parameter-preserved c = grind (arith, selected-next)
