-- `report_text`: the findings of a script, a line at a time (`CheckLemmas`).
use Rattle.checks.proofs.CheckLemmas.{line_dropped, line_reported}
use Rattle.checks.proofs.report.report_text.Goals as goal
use Rattle.checks.proofs.report.report_text.Goals.{else-report, then-report}

pub returns : goal.returns
returns g c = λ first reported r. elim c.if-report.branch [
  | then-report w ↦
      rw (w.is_written-is, w.out-is) (line_reported first _ _ c.args.report reported c.args.text.now _ _ r w.if-report.true c.saturating_add.ensures
      w.put-is_written.ensures)
  | else-report w ↦ rw (w.is_written-is, w.out-is, w.if-report.false) (line_dropped first _ c.args.report reported c.args.text.now _ r w.if-report.false c.saturating_add.ensures)
]
