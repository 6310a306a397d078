-- The nodes of the doubly linked list that is the order, by the numbers of their panels. Each names the panels right
-- above and below. The node 0 is the end of both ways, in the place of the standard screen: above it is the bottom
-- panel, below it the top one.
use Rattle.std.specs.Prelude.{◌≡◌, ◌<◌, if◌then◌else◌, ◌==◌, ◌∷◌}
use Rattle.stack.specs.Names.{ℕ, zero, suc, Bool, Option, None, IsSome, List, [], length, slice_index_or, ⊤, map, option_map, unwrap_or, AllByRecursion}
use Rattle.stack.specs.declared.nodes.Node.{Node}

-- a node of no panel
abbrev pub no_node : Node
no_node = record { window = None; above = 0; below = 0 }

abbrev pub node_at : List Node → ℕ → Node
node_at nodes p = slice_index_or nodes p no_node

abbrev pub above_at : List Node → ℕ → ℕ
above_at nodes p = (node_at nodes p).above

abbrev pub below_at : List Node → ℕ → ℕ
below_at nodes p = (node_at nodes p).below

-- the window of a node's panel; a node that no panel has, has none
abbrev pub window_in : Node → Option ℕ
window_in node = option_map (λ w. w.0) node.window

abbrev pub window_at : List Node → ℕ → Option ℕ
window_at nodes p = window_in (node_at nodes p)

-- the way from p on, up to the end 0, of n nodes at most
abbrev pub way : ℕ → (ℕ → ℕ) → ℕ → List ℕ
way zero next p = []
way (suc n) next p = if p == 0 then [] else p ∷ way n next (next p)

-- the next one on the way up, or on the way down
abbrev pub neighbour_at : Bool → List Node → ℕ → ℕ
neighbour_at upwards nodes p = if upwards then above_at nodes p else below_at nodes p

-- the way from the bottom up
unfoldable pub from_bottom : List Node → List ℕ
from_bottom nodes = way (length nodes) (above_at nodes) (above_at nodes 0)

-- the panels on the way from p on, each with its window
abbrev pub shown_from : List Node → (ℕ → ℕ) → ℕ → List (ℕ × ℕ)
shown_from nodes next p = map (λ q. (q, unwrap_or (window_at nodes q) 0)) (way (length nodes) next p)

-- ---- what is threaded

-- p is none of the order
abbrev pub IsOut : ℕ → List ℕ → Type 0
IsOut p [] = ⊤
IsOut p (q ∷ order) = (p ≡ q → ⊥) × IsOut p order

-- no duplicates
abbrev pub AreOnce : List ℕ → Type 0
AreOnce [] = ⊤
AreOnce (p ∷ order) = IsOut p order × AreOnce order

-- from a through the order to z, each node and the next name one another
abbrev pub IsChain : (ℕ → ℕ) → (ℕ → ℕ) → ℕ → List ℕ → ℕ → Type 0
IsChain above below a [] z = (above a ≡ z) × (below z ≡ a)
IsChain above below a (p ∷ order) z = ((above a ≡ p) × (below p ≡ a)) × IsChain above below p order z

-- a panel's number
abbrev pub IsPanel : List Node → ℕ → Type 0
IsPanel nodes p = (0 < p) × IsSome (window_at nodes p)

-- the node names itself
abbrev pub IsAlone : List Node → ℕ → Type 0
IsAlone nodes p = (above_at nodes p ≡ p) × (below_at nodes p ≡ p)

-- the order is threaded through the nodes, and the nodes outside it are alone
pub record IsThreaded (nodes : List Node) (order : List ℕ) : Type 0 where
  pub chain : IsChain (above_at nodes) (below_at nodes) 0 order 0
  pub once : AreOnce order
  pub panels : AllByRecursion (IsPanel nodes) order
  pub others : (p : ℕ) → 0 < p → p < length nodes → IsOut p order → IsAlone nodes p

-- the way from p on ends among the nodes, and comes to panels alone
pub record IsWay (nodes : List Node) (next : ℕ → ℕ) (p : ℕ) : Type 0 where
  pub ends : way (length nodes) next p ≡ way (suc (length nodes)) next p
  pub panels : AllByRecursion (IsPanel nodes) (way (length nodes) next p)
