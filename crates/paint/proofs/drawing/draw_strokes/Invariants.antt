use Rattle.std.specs.Prelude.{◌++◌}
use Rattle.paint.specs.{List, take, Seen, AreDrawn, SameTerminals}
use Rattle.paint.specs.declared.pen.Pen.{Pen}
use Rattle.paint.specs.declared.strokes.Stroke.{Stroke}
use Rattle.paint.proofs.drawing.draw_strokes.Given as goal

abbrev pub invariant-loop-stroke : goal.invariant-loop-stroke
invariant-loop-stroke g l = record {
  drawn : (before : Seen) (begun : Pen) (others : List Stroke) → AreDrawn before (g.W.Sink.seen l.fn.sink) begun l.fn.pen l.update.shown.now l.update.wanted.now others
      → AreDrawn before (g.W.Sink.seen l.sink) begun l.pen l.update.shown.now l.update.wanted.now (others ++ take l.stroke-index l.strokes);
  same : SameTerminals (g.W.Sink.name l.fn.sink) (g.W.Sink.name l.sink) l.fn.pen l.pen;
}
