-- `run_end_after`: runs of cells: printed one after another, and drawn in a line (`CellRuns`).
use Rattle.std.specs.Prelude.{◌≡◌, ◌+◌, ◌-◌}
use Rattle.paint.specs.{◌∙◌, ap, arith, get_or_default, Shown, shown_blank}
use Rattle.paint.proofs.CellRuns.{run-further}
use Rattle.paint.proofs.line.run_end_after.Goals as goal

pub returns-then-more-lt-LANES : goal.returns-then-more-lt-LANES
returns-then-more-lt-LANES c =
    let wanted = c.args.wanted.now in
    let first = c.index-wanted-start.is ∙ get_or_default wanted c.args.start c.index-wanted-start.result shown_blank (omega (arith, c.requires.run.some, c.requires.run.within, c.requires.inside)) in
    let piece : c.loop-x.x + 16 - c.loop-x.x ≡ 16 = omega arith in
    let more = rw piece at c.run_before-more.ensures.run in
    record {
      run = run-further c.run_before-more.result 16 c.run_before-more.ensures.within c.loop-x.invariant (c.rendition-rendition.ensures.value ∙ ap (λ (cell : Shown). cell.rendition) first) more
          (omega (arith, c.run_before-more.ensures.within, c.loop-x-test.true));
    }

pub loop-x-preserved : goal.loop-x-preserved
loop-x-preserved c =
    let wanted = c.args.wanted.now in
    let first = c.index-wanted-start.is ∙ get_or_default wanted c.args.start c.index-wanted-start.result shown_blank (omega (arith, c.requires.run.some, c.requires.run.within, c.requires.inside)) in
    let piece : c.loop-x.x + 16 - c.loop-x.x ≡ 16 = omega arith in
    let more = rw piece at c.run_before-more.ensures.run in
    run-further c.run_before-more.result 16 c.run_before-more.ensures.within c.loop-x.invariant (c.rendition-rendition.ensures.value ∙ ap (λ (cell : Shown). cell.rendition) first) more
    (omega (arith, c.run_before-more.ensures.within, c.loop-x-test.true))
