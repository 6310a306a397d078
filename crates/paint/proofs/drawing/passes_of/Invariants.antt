use Rattle.std.specs.Prelude.{◌<◌, ◌≤◌, ◌^◌}
use Rattle.paint.specs.{ℕ, get_or, no_stroke}
use Rattle.paint.proofs.drawing.passes_of.Given as goal

abbrev pub invariant-loop-stroke : goal.invariant-loop-stroke
invariant-loop-stroke l = record {
  few : l.most < 2 ^ 8;
  most : (k : ℕ) → k < l.stroke-index → (get_or l.strokes k no_stroke).pass ≤ l.most;
}
