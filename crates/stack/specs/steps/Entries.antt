-- What changes where a number becomes a panel's, and where a panel's window changes.
use Rattle.std.specs.Prelude.{◌≡◌, ◌+◌, ◌<◌, ◌≤◌}
use Rattle.stack.specs.Names.{ℕ, Option, Some, None, List, length, MOST_PANELS, with_entry}
use Rattle.stack.specs.Nodes.{above_at, below_at, window_at, from_bottom, IsOut, IsThreaded}
use Rattle.stack.specs.Tables.{IsPanelTable}
use Rattle.stack.specs.declared.nodes.Node.{Node}

-- no panel has the number, and it is the next one at most
pub record IsFree (nodes : List Node) (p : ℕ) : Type 0 where
  pub free : window_at nodes p ≡ None
  pub from_one : 0 < p
  pub few : p ≤ MOST_PANELS
  pub next : p ≤ length nodes

-- there is a node of the number p, and no panel is another
pub record NodeMade (old new : List Node) (p : ℕ) : Type 0 where
  pub table : IsPanelTable new
  pub within : p < length new
  pub window : (q : ℕ) → window_at new q ≡ window_at old q
  pub is : from_bottom new ≡ from_bottom old

-- the panel p has another window, or is none any more, and nothing else changed
pub record Windowed (old new : List Node) (p : ℕ) (w : Option ℕ) : Type 0 where
  pub length : length new ≡ length old
  pub window : (q : ℕ) → window_at new q ≡ with_entry (window_at old) p w q
  pub above : (q : ℕ) → above_at new q ≡ above_at old q
  pub below : (q : ℕ) → below_at new q ≡ below_at old q

-- p is a panel with window w, outside the order
pub record Entered (old new : List Node) (p w : ℕ) : Type 0 where
  pub some : 0 < length new
  pub few : length new ≤ MOST_PANELS + 1
  pub window : (q : ℕ) → window_at new q ≡ with_entry (window_at old) p (Some w) q
  pub threaded : IsThreaded new (from_bottom new)
  pub is : from_bottom new ≡ from_bottom old
  pub out : IsOut p (from_bottom new)
