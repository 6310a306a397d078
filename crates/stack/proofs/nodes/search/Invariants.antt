use Rattle.std.specs.Prelude.{◌≡◌, ◌<◌}
use Rattle.stack.specs.{ℕ, Some, window_at}
use Rattle.stack.proofs.nodes.search.Given as goal

-- no node so far has the window
abbrev pub invariant-loop-at : goal.invariant-loop-at
invariant-loop-at l = (k : ℕ) → k < l.at → window_at l.panels k ≡ Some l.win.0 → ⊥
