-- The indexes by which the least free number and the panel of a window are found: the set of the numbers that are
-- taken, and a panel for each number that a window of a screen can have.
use Rattle.std.specs.Prelude.{◌≡◌, ◌+◌, ◌<◌, ◌≤◌, ◌==◌, ◌||◌, if◌then◌else◌}
use Rattle.stack.specs.Names.{ℕ, Bool, Option, None, Some, is_some, List, length, slice_index_or, MOST_PANELS, MOST_WINDOWS, contains}
use Rattle.stack.specs.Nodes.{window_at}
use Rattle.stack.specs.declared.nodes.Node.{Node}

-- more than the number of any window of a screen
abbrev pub window_limit : ℕ
window_limit = MOST_WINDOWS + 1

-- whether a number is taken: that of the end, or of a panel, which has a window
abbrev pub is_taken : ℕ → Option ℕ → Bool
is_taken p window = p == 0 || is_some window

-- the panel of window w, or 0
abbrev pub holder_at : List ℕ → ℕ → ℕ
holder_at holders w = slice_index_or holders w 0

-- the panel p for a window, if there is one, and that of each other as it was
abbrev pub held_by : Option ℕ → ℕ → (ℕ → ℕ) → ℕ → ℕ
held_by None p holder w = holder w
held_by (Some u) p holder w = if w == u then p else holder w

-- both say what the nodes say, and no window is two nodes'
pub record IsIndexed (nodes : List Node) (numbers holders : List ℕ) : Type 0 where
  pub few : length nodes ≤ MOST_PANELS + 1
  pub room : 1 < length nodes → window_limit ≤ length holders
  pub number : (p : ℕ) → contains numbers p ≡ is_taken p (window_at nodes p)
  pub panel : (p w : ℕ) → w < window_limit → window_at nodes p ≡ Some w → holder_at holders w ≡ p
  pub window : (w : ℕ) → w < window_limit → 0 < holder_at holders w → window_at nodes (holder_at holders w) ≡ Some w
  pub alone : (p q w : ℕ) → window_at nodes p ≡ Some w → window_at nodes q ≡ Some w → p ≡ q
