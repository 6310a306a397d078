-- `end_report`: the findings of a script, a line at a time (`CheckLemmas`).
use Rattle.checks.specs.{arith, not-false, not-true}
use Rattle.checks.proofs.CheckLemmas.{counted_ends, reported_fails}
use Rattle.checks.proofs.report.end_report.Goals as goal

pub returns-then-not-report : goal.returns-then-not-report
returns-then-not-report g c = λ first lines r. reported_fails first _ c.args.report lines _ r (not-true _ c.if-not-report.true)

pub returns : goal.returns
returns g c = grind (arith, counted_ends, not-false)
