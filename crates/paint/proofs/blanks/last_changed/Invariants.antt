use Rattle.std.specs.Prelude.{◌≡◌, ◌≤◌}
use Rattle.paint.specs.{ℕ, length, shown_at}
use Rattle.paint.proofs.blanks.last_changed.Given as goal

abbrev pub invariant-loop-end : goal.invariant-loop-end
invariant-loop-end l = record {
  within : l.end ≤ length l.update.changes.now;
  later : (y x : ℕ) → l.end ≤ y → shown_at l.update.shown.now (y, x) ≡ shown_at l.update.wanted.now (y, x);
}

abbrev pub decreases-loop-end : goal.decreases-loop-end
decreases-loop-end l = l.end
