-- What changes where two nodes become neighbours, and where a panel leaves or enters the order.
use Rattle.std.specs.Prelude.{◌≡◌, ◌==◌, if◌then◌else◌}
use Rattle.stack.specs.Names.{ℕ, List, length}
use Rattle.stack.specs.Nodes.{above_at, below_at, window_at, from_bottom, IsThreaded}
use Rattle.stack.specs.declared.nodes.Node.{Node}

-- the nodes are as many as before, and have the windows that they had
pub record SameWindows (old new : List Node) : Type 0 where
  pub length : length new ≡ length old
  pub window : (p : ℕ) → window_at new p ≡ window_at old p

-- lower and upper are neighbours now, and nothing else changed
pub record Linked (old new : List Node) (lower upper : ℕ) : Type 0 where
  pub above : (p : ℕ) → above_at new p ≡ (if p == lower then upper else above_at old p)
  pub below : (p : ℕ) → below_at new p ≡ (if p == upper then lower else below_at old p)
  pub windows : SameWindows old new

-- the panels have another order
pub record Reordered (old new : List Node) (order : List ℕ) : Type 0 where
  pub threaded : IsThreaded new (from_bottom new)
  pub is : from_bottom new ≡ order
  pub windows : SameWindows old new
