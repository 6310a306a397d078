use Rattle.std.specs.Prelude.{◌≡◌, ◌≤◌}
use Rattle.paint.specs.{ℕ, get_or, length, shown_blank}
use Rattle.paint.proofs.blanks.tail_start.Given as goal

abbrev pub invariant-loop-start : goal.invariant-loop-start
invariant-loop-start l = record {
  within : l.start ≤ length l.line;
  blank : (x : ℕ) → l.start ≤ x → get_or l.line x shown_blank ≡ shown_blank;
}

abbrev pub decreases-loop-start : goal.decreases-loop-start
decreases-loop-start l = l.start
