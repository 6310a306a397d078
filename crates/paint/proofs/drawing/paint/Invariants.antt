use Rattle.std.specs.Prelude.{◌≤◌, ◌-◌}
use Rattle.paint.specs.{IsUnderWay, SameTerminals}
use Rattle.paint.proofs.drawing.paint.Given as goal

abbrev pub invariant-loop-line : goal.invariant-loop-line
invariant-loop-line g l = record {
  within : l.line ≤ l.update.lines;
  under_way : IsUnderWay (g.W.Sink.seen l.fn.sink) (g.W.Sink.seen l.sink) l.fn.pen l.pen l.update.shown.now l.update.wanted.now (l.line, 0) l.plan;
  same : SameTerminals (g.W.Sink.name l.fn.sink) (g.W.Sink.name l.sink) l.fn.pen l.pen;
}

abbrev pub decreases-loop-line : goal.decreases-loop-line
decreases-loop-line g l = l.update.lines - l.line
