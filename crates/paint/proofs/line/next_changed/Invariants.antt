use Rattle.std.specs.Prelude.{◌≡◌, ◌<◌, ◌≤◌}
use Rattle.paint.specs.{ℕ, get_or, shown_blank}
use Rattle.paint.proofs.line.next_changed.Given as goal

abbrev pub invariant-loop-x : goal.invariant-loop-x
invariant-loop-x l = record {
  alike : (v : ℕ) → l.from ≤ v → v < l.x → get_or l.shown v shown_blank ≡ get_or l.wanted v shown_blank;
}
