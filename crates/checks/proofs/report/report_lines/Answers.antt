-- `report_lines`: the findings of a script, a line at a time (`CheckLemmas`).
use Rattle.checks.specs.{ap, refl, Held, has_newline, met_end}
use Rattle.checks.proofs.CheckLemmas.{checked, checking_next, checking_none}
use Rattle.checks.proofs.report.report_lines.Goals as goal

pub loop-number-init : goal.loop-number-init
loop-number-init g c = checking_none _ _ _ _ (ap (λ (h : Held). h.unused) c.new-lines.ensures) refl refl

pub loop-number-preserved : goal.loop-number-preserved
loop-number-preserved g c =
    let read = c.next_whole_line-end.ensures in
    rw c.saturating_add-number.ensures (checking_next _ _ _ _ _ _ _ _ _ _ _ _ _ _
    c.loop-number.invariant read.line.reads read.line.keeps c.in-Newline.is read.ends (rw c.line.ensures.line at c.report_read-report.ensures))

pub returns-in-ScriptEnd : goal.returns-in-ScriptEnd
returns-in-ScriptEnd g c =
    let read = c.next_whole_line-end.ensures in
    let more = rw c.line.ensures.line at c.report_read-report.ensures in
    checked _ _ _ _ _ _ _ _ _ _ _ _ _ _ _
    c.loop-number.invariant read.line.reads read.line.keeps (ap has_newline c.in-ScriptEnd.is) (ap met_end c.in-ScriptEnd.is) read.ends more

pub returns-in-ReadFailed : goal.returns-in-ReadFailed
returns-in-ReadFailed g c =
    let read = c.next_whole_line-end.ensures in
    let more = rw c.line.ensures.line at c.report_read-report.ensures in
    checked _ _ _ _ _ _ _ _ _ _ _ _ _ _ _
    c.loop-number.invariant read.line.reads read.line.keeps (ap has_newline c.in-ReadFailed.is) (ap met_end c.in-ReadFailed.is) read.ends more
