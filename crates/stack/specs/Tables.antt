-- The panels as the stack shows them, and the panels of the world that they represent.
use Rattle.std.specs.Prelude.{◌≡◌, ◌+◌, ◌<◌, ◌≤◌}
use Rattle.stack.specs.Names.{ℕ, Option, Some, None, List, length, map, slice_index_or, MOST_PANELS, Panels}
use Rattle.stack.specs.Nodes.{from_bottom, IsThreaded, window_at, window_in}
use Rattle.stack.specs.declared.nodes.Node.{Node}

-- the visible panels from bottom to top, and each panel's window by the panel's number
pub record PanelTable : Type 0 where
  pub visible : List ℕ
  pub windows : List (Option ℕ)

abbrev pub panels : PanelTable → Panels
panels t = record { visible = t.visible; window = λ p. slice_index_or t.windows p None }

abbrev pub table_of : List Node → PanelTable
table_of nodes = record { visible = from_bottom nodes; windows = map window_in nodes }

-- no window is in two panels, and the visible ones are threaded
pub record IsPanelTable (nodes : List Node) : Type 0 where
  pub some_node : 0 < length nodes
  pub few_nodes : length nodes ≤ MOST_PANELS + 1
  pub end : window_at nodes 0 ≡ None
  pub alone : (p q w : ℕ) → window_at nodes p ≡ Some w → window_at nodes q ≡ Some w → p ≡ q
  pub threaded : IsThreaded nodes (from_bottom nodes)
