-- What is known of a new window: its size, and where it is.
use Rattle.std.specs.Prelude.{◌≡◌}
use Rattle.grids.specs.{ℕ, Option, Some, List, Result, arith, option_map, Place, Backing, part_of, Window, WindowMap, IsOnScreen, extent, derived_window, place_from, under_number, new_window, blank_grid}
use Rattle.grids.specs.{Change, Changed, Refusal, Reply, Kept, IsKept, window_of, WindowTable, IsWindowTable, windows, IsChained, HasParentIn, SetAt, IsFree}
use Rattle.grids.proofs.Changes.{windows-set, IsWindowTable-filled}
use Rattle.grids.proofs.Origins.{HasOrigin}

-- a new window lies on the screen
pub placed_new : (lines columns n m : ℕ) (place : Option Place) (src : Backing) (k : Kept) → window_of k ≡ new_window n m place src → IsOnScreen lines columns (new_window n m place blank_grid)
    → IsOnScreen lines columns (window_of k)
placed_new lines columns n m place src k e h = grind arith

-- it is put under a free number

module _ (t : WindowTable) (new : List (Option Kept)) (m : ℕ) (k : Kept) (set : SetAt t.slots new m (Some k)) where
  pub IsWindowTable-added : IsWindowTable t → IsFree t.slots m → IsKept k → HasParentIn t.slots k k.cells → IsOnScreen t.lines t.columns (window_of k) → (IsChained new → HasOrigin new m k)
      → IsWindowTable (record t { slots = new })
  IsWindowTable-added s free kept chained placed origin = IsWindowTable-filled t new m k s set free.free kept chained placed free.from_one origin

  pub windows-added : (a : Window) → window_of k ≡ a → windows (record t { slots = new }) ≡ under_number (windows t) m (Some a)
  windows-added a e = grind (arith, windows-set)

-- a call that adds a window, by what its definition says
pub changed-as : {T : Type 0} {reply_of : T → Reply} {old new : WindowTable} {refusal also : Option Refusal} {change means : Change} {r : Result T Refusal} → refusal ≡ also → change ≡ means
    → Changed reply_of old refusal change r new → Changed reply_of old also means r new
changed-as same is h = rw (← same, ← is) h

-- it is the window that the definition gives
pub made_derived : (window : WindowMap) (p : Kept) (w nlines ncols y x n m : ℕ) → window w ≡ Some (window_of p) → n ≡ extent nlines p.lines y → m ≡ extent ncols p.columns x
    → Some (new_window n m (place_from p.place y x) (part_of w y x)) ≡ option_map (derived_window w nlines ncols y x) (window w)
made_derived window p w nlines ncols y x n m e lines columns = grind arith
