-- `run_lines`: a script is run a line at a time (`ScriptLemmas`).
use Rattle.desk.specs.{refl, ap, is_some, ◌∙◌, write_fault, Held, count_after}
use Rattle.desk.proofs.ScriptLemmas.{ends_after_last, ends_in_failed_read, ends_too_long, goes_on_after, so_far_next, so_far_none}
use Rattle.desk.proofs.screen.Screen.run_lines.Goals as goal

pub loop-line_end-init : goal.loop-line_end-init
loop-line_end-init g c = record {
  so_far = so_far_none g.W.Sink.seen _ _ _ _ (ap (λ (h : Held). h.unused) c.new-lines.ensures);
  reading = refl;
  writing = refl;
  same = refl;
}

pub returns-in-None-clause-lines : goal.returns-in-None-clause-lines
returns-in-None-clause-lines g c = rw c.script_end.ensures (ends_too_long g.W.Sink.seen _ _ _ _ _ _ _ _ _ _ _ _ c.loop-line_end.invariant.so_far c.in-None.ensures.line c.in-None.ensures.ends.past)

pub returns-then-end_failed-clause-lines : goal.returns-then-end_failed-clause-lines
returns-then-end_failed-clause-lines g c =
    rw c.script_end-then-end_failed.ensures (ends_in_failed_read g.W.Sink.seen _ _ _ _ _ _ _ _ _ _ _ _ _ c.loop-line_end.invariant.so_far c.in-Some.ensures.line c.in-Some.ensures.ends.past c.if-end_failed.ensures)

pub returns-then-is_last-clause-lines : goal.returns-then-is_last-clause-lines
returns-then-is_last-clause-lines g c =
    let read = c.in-Some.ensures in
    rw (c.script_end-then-is_last.ensures, c.either-refused.ensures) (ends_after_last g.W.Sink.seen _ _ _ _ _ _ _ _ _ _ _ _ _ _ _ _
    c.loop-line_end.invariant.so_far read.line read.ends.past (rw c.line.ensures.line at c.run_line-end.ensures.line) read.ends.ended c.if-end_failed.ensures c.if-is_last.ensures)

pub loop-line_end-preserved : goal.loop-line_end-preserved
loop-line_end-preserved g c =
    let on = goes_on_after _ _ c.if-end_failed.ensures c.if-is_last.ensures in
    let read = rw on.0 at c.in-Some.ensures in
    let h = c.loop-line_end.invariant in
    rw (c.either-refused.ensures, c.saturating_add-number.ensures) (record {
      so_far = so_far_next g.W.Sink.seen _ _ _ _ _ _ _ _ _ _ _ _ _ _ _
          h.so_far read.line read.ends.ended read.ends.past (rw c.line.ensures.line at c.run_line-end.ensures.line) on.1;
      reading = read.ends.failures ∙ h.reading;
      writing = c.run_line-end.ensures.writer ∙ ap (λ f. count_after (is_some (write_fault f)) (g.W.Sink.seen c.loop-line_end.self.writer).failures) on.1 ∙ h.writing;
      same = c.run_line-end.ensures.same ∙ h.same;
    })
