use Rattle.std.specs.Prelude.{◌≡◌, ◌≤◌}
use Rattle.paint.specs.{ℕ, shown_at, shown_blank}
use Rattle.paint.proofs.blanks.blank_lines.Given as goal

abbrev pub invariant-loop-start : goal.invariant-loop-start
invariant-loop-start l = record {
  within : l.start ≤ l.from;
  blank : (y x : ℕ) → l.start ≤ y → shown_at l.picture (y, x) ≡ shown_blank;
}

abbrev pub decreases-loop-start : goal.decreases-loop-start
decreases-loop-start l = l.start
