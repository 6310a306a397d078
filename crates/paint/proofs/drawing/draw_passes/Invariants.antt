use Rattle.std.specs.Prelude.{◌++◌}
use Rattle.paint.specs.{List, Seen, AreDrawn, in_passes, SameTerminals}
use Rattle.paint.specs.declared.pen.Pen.{Pen}
use Rattle.paint.specs.declared.strokes.Stroke.{Stroke}
use Rattle.paint.proofs.drawing.draw_passes.Given as goal

abbrev pub invariant-loop-pass : goal.invariant-loop-pass
invariant-loop-pass g l = record {
  drawn : (before : Seen) (begun : Pen) (others : List Stroke) → AreDrawn before (g.W.Sink.seen l.fn.sink) begun l.fn.pen l.update.shown.now l.update.wanted.now others
      → AreDrawn before (g.W.Sink.seen l.sink) begun l.pen l.update.shown.now l.update.wanted.now (others ++ in_passes l.pass l.strokes);
  same : SameTerminals (g.W.Sink.name l.fn.sink) (g.W.Sink.name l.sink) l.fn.pen l.pen;
}
