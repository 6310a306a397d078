use Rattle.std.specs.Prelude.{◌≡◌, ◌-◌, ◌<◌}
use Rattle.paint.specs.{ℕ, length, HasSize, shown_at, DifferOnly}
use Rattle.paint.proofs.painter.copy_changes.Given as goal

abbrev pub invariant-loop-y : goal.invariant-loop-y
invariant-loop-y l = record {
  size : HasSize (length l.changes) l.columns l.shown;
  only : DifferOnly l.changes l.shown l.wanted;
  done : (v u : ℕ) → v < l.y → shown_at l.shown (v, u) ≡ shown_at l.wanted (v, u);
}

abbrev pub decreases-loop-y : goal.decreases-loop-y
decreases-loop-y l = l.lines - l.y
