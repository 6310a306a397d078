-- `run_before`: the lowest bit of the mask is the first cell that isn't of the run (`RunLanes`).
use Rattle.paint.proofs.RunLanes.{all-of_run, some-of_run, some-within}
use Rattle.paint.proofs.line.run_before.Goals as goal

pub returns-then-ends-eq0-clause-run : goal.returns-then-ends-eq0-clause-run
returns-then-ends-eq0-clause-run c = all-of_run c.args.shown.now c.args.wanted.now c.args.rendition c.ends_of.result c.ends_of.ensures.long c.ends_of.ensures.ends c.if-ends-eq0.true

pub returns-else-ends-eq0-clause-within : goal.returns-else-ends-eq0-clause-within
returns-else-ends-eq0-clause-within c = some-within c.args.shown.now c.args.wanted.now c.args.rendition c.ends_of.result c.ends_of.ensures.long c.ends_of.ensures.ends c.if-ends-eq0.false

pub returns-else-ends-eq0-clause-run : goal.returns-else-ends-eq0-clause-run
returns-else-ends-eq0-clause-run c = some-of_run c.args.shown.now c.args.wanted.now c.args.rendition c.ends_of.result c.ends_of.ensures.long c.ends_of.ensures.ends c.if-ends-eq0.false
