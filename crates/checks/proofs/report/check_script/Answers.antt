-- `check_script`: what was reported, and how it ends.
use Rattle.checks.specs.{false, inl, inr, not-true}
use Rattle.checks.proofs.report.check_script.Goals as goal

pub returns-then-not-end_report-clause-checked : goal.returns-then-not-end_report-clause-checked
returns-then-not-end_report-clause-checked g c =
    let report = c.report_lines-checked.ensures in
    let ended = rw c.if-not-end_report.true at (c.end_report.ensures _ _ report.reported) in
    record {
      text = report.text;
      is_whole = c.report_lines-checked.result.0;
      reads = report.reads;
      lines = report.lines;
      found = report.found;
      ends = inr (c.complain.ensures.status, ended, c.complain.ensures.logs);
    }

pub returns-then-not-checked-clause-checked : goal.returns-then-not-checked-clause-checked
returns-then-not-checked-clause-checked g c =
    let report = rw (not-true _ c.if-not-checked.true) at c.report_lines-checked.ensures in
    let ended = rw c.if-not-end_report.false at (c.end_report.ensures _ _ report.reported) in
    let failed = c.log_failure.ensures in
    record { text = report.text; is_whole = false; reads = report.reads; lines = report.lines; found = report.found; ends = inl (ended, (failed.status, failed.logs)) }
