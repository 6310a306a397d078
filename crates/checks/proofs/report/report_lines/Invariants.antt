use Rattle.checks.specs.{work_left}
use Rattle.checks.proofs.CheckLemmas.{Checking}
use Rattle.checks.proofs.report.report_lines.Given as goal

abbrev pub invariant-loop-number : goal.invariant-loop-number
invariant-loop-number g l =
    let source = g.R.Source.seen in
    let sink = g.O.Sink.seen in
    Checking (source l.fn.input) (source l.input) (sink l.fn.out) (sink l.out) l.lines.unused l.number l.report

abbrev pub decreases-loop-number : goal.decreases-loop-number
decreases-loop-number g l = work_left (g.R.Source.seen l.input) l.lines.unused
