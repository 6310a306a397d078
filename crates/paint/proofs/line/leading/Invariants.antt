use Rattle.std.specs.Prelude.{◌≡◌, ◌<◌}
use Rattle.paint.specs.{ℕ, get_or, shown_blank}
use Rattle.paint.proofs.line.leading.Given as goal

abbrev pub invariant-loop-k : goal.invariant-loop-k
invariant-loop-k l = record { each : (k : ℕ) → k < l.k → (get_or l.cells k shown_blank).rendition ≡ l.rendition }
