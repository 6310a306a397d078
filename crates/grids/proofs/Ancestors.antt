-- From parent to parent: which windows are the ancestors of one, and where it begins in each.
use Rattle.std.specs.Prelude.{◌≡◌, ◌+◌, ◌≤◌, ◌==◌, ◌||◌, ◌∷◌}
use Rattle.grids.specs.{ℕ, zero, suc, false, Some, None, IsSome, IsSomeAnd, [], arith, option_map, Glyph, Backing, own_grid, part_of, GridPlace, HasPlace, Window, WindowMap, Windows, ancestors}
use Rattle.grids.specs.{ancestors_within, derives, own, own_within, AreSoundWindows, IsSoundWindow, in_parent, part_in_parent}
use Rattle.grids.specs.declared.slot.Part.{Part}
use Rattle.grids.specs.declared.place.Place.{Place}
use Rattle.grids.proofs.Chain.{from_parent, no_parent, some_and, some_of}
use Rattle.grids.proofs.LongerWalks.{own_of_part, own-parent}

-- ---- ancestors

anc-same : (n m : ℕ) → n ≤ m → (window : WindowMap) (u y x : ℕ) (s : GridPlace) → own_within n window u y x ≡ Some s → ancestors_within m window u ≡ ancestors_within n window u
anc-same zero m le window u y x s h = cc
anc-same (suc n) zero le window u y x s h = grind arith
anc-same (suc n) (suc m) le window u y x s h = grind (arith, (anc-same n m (omega (arith, le)) window))

pub ancestors-parent : (window : WindowMap) (u : ℕ) (b : Window) (part : Part) → window u ≡ Some b → b.backing ≡ part_of part.parent part.line part.column → IsSome (own window u 0 0)
    → ancestors window u ≡ part.parent ∷ ancestors window part.parent
ancestors-parent window u b part e is ends = grind (arith, some_of, anc-same, own_of_part)

pub ancestors-none : (window : WindowMap) (u : ℕ) (b : Window) (cells : ℕ → ℕ → Glyph) → window u ≡ Some b → b.backing ≡ own_grid cells → ancestors window u ≡ []
ancestors-none window u b cells e is = grind arith

-- ---- the parent that a backing names

pub part-some : (s : Backing) (part : Part) → part_in_parent s ≡ Some part → s ≡ part_of part.parent part.line part.column
part-some s part h = grind arith

pub part-none : (s : Backing) → part_in_parent s ≡ None → (cells : ℕ → ℕ → Glyph) × (s ≡ own_grid cells)
part-none s h = grind arith

-- ---- window w begins at this line and column of window u, which is it or an ancestor

pub record Walk (window : WindowMap) (w u line column : ℕ) : Type 0 where
  pub below : Window
  pub above : Window
  pub from_is : window w ≡ Some below
  pub at_is : window u ≡ Some above
  pub lines : line + below.lines ≤ above.lines
  pub columns : column + below.columns ≤ above.columns
  pub leads : (y x : ℕ) → own window w y x ≡ own window u (y + line) (x + column)

pub Walk-start : (window : WindowMap) (w : ℕ) → IsSome (window w) → Walk window w w 0 0
Walk-start window w h = grind (arith, some_of)

pub sound-there : (windows : Windows) (u : ℕ) (b : Window) → AreSoundWindows windows → windows.window u ≡ Some b → IsSoundWindow windows u b
sound-there windows u b s e = rw e at (s.each u)

pub Walk-step : (windows : Windows) (w u line column : ℕ) (part : Part) → AreSoundWindows windows → (h : Walk windows.window w u line column)
    → h.above.backing ≡ part_of part.parent part.line part.column
    → Walk windows.window w part.parent (line + part.line) (column + part.column)
Walk-step windows w u line column part s h is = grind (arith, sound-there windows u, own-parent windows.window u h.above part)

-- a window has its first place
pub first-there : (windows : Windows) (u : ℕ) → AreSoundWindows windows → IsSome (windows.window u) → HasPlace windows.window u 0 0
first-there windows u sound h = grind (arith, some_of, sound-there)

-- ---- a window derives from its parent, and from what that derives from

module _ (windows : Windows) (sound : AreSoundWindows windows) (w : ℕ) (at : Place) where
  pub derives-next : (next : Place) → IsSomeAnd (windows.window at.win.0) (λ a. Some next ≡ option_map (in_parent at) (part_in_parent a.backing))
      → derives windows.window w at.win.0 ≡ ((next.win.0 == w) || derives windows.window w next.win.0)
  derives-next next h = grind (arith, some_and, from_parent, ancestors-parent, part-some, sound-there)

  pub derives-none : IsSomeAnd (windows.window at.win.0) (λ a. None ≡ option_map (in_parent at) (part_in_parent a.backing)) → derives windows.window w at.win.0 ≡ false
  derives-none h = grind (arith, some_and, part-none, no_parent, ancestors-none)
