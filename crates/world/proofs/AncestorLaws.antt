-- Where all windows but one are as they were: what each window shows that neither is that one nor derives from it.
use Rattle.std.specs.Prelude.{◌≡◌, ◌==◌}
use Rattle.world.specs.{ℕ, zero, suc, false, Option, Some, refl, arith, list_any, eqb-false, Window, WindowMap, Windows, GridPlace, ancestors_within, cell_at, derives, own, own_within, with_window}
use Rattle.world.specs.{window_limit, shifted_to}

pub replaced-off : (window : WindowMap) (w : ℕ) (o : Option Window) (v : ℕ) → (v ≡ w → ⊥) → with_window window w o v ≡ window v
replaced-off window w o v other = grind arith

module _ (new old : WindowMap) (w : ℕ) (same : (v : ℕ) → (v ≡ w → ⊥) → new v ≡ old v) where
  -- within n windows of the chain from window u on, which is another, none is window w
  abbrev Beside : ℕ → ℕ → Type 0
  Beside n u = list_any (λ v. v == w) (ancestors_within n old u) ≡ false

  own_within-kept : (n u y x : ℕ) → (u ≡ w → ⊥) → Beside n u → own_within n new u y x ≡ own_within n old u y x
  own_within-kept zero u y x other h = refl
  own_within-kept (suc n) u y x other h = grind (arith, (own_within-kept n))

  pub own-beside : (u y x : ℕ) → (u ≡ w → ⊥) → derives old w u ≡ false → own new u y x ≡ own old u y x
  own-beside u y x other apart = own_within-kept window_limit u y x other apart

  -- the grid isn't that window's either
  own_within-elsewhere : (n u y x : ℕ) (p : GridPlace) → (u ≡ w → ⊥) → Beside n u → own_within n old u y x ≡ Some p → p.grid ≡ w → ⊥
  own_within-elsewhere zero u y x p other h found is = cc
  own_within-elsewhere (suc n) u y x p other h found is = grind (arith, eqb-false, (own_within-elsewhere n))

  pub cell_at-beside : (u y x : ℕ) → (u ≡ w → ⊥) → derives old w u ≡ false → cell_at new u y x ≡ cell_at old u y x
  cell_at-beside u y x other apart = grind (arith, own_within-kept, own_within-elsewhere)

-- what a shift leaves as it is
pub cell_at-moved : (windows : Windows) (w y x u v z : ℕ) → (u ≡ w → ⊥) → derives windows.window w u ≡ false → cell_at (shifted_to windows w (y, x)).window u v z ≡ cell_at windows.window u v z
cell_at-moved windows w y x u v z other apart = grind (arith, cell_at-beside)

-- and its parents, and whose descendant a window is
module _ (windows : Windows) (w y x : ℕ) where
  ancestors-moved : (n u : ℕ) → ancestors_within n (shifted_to windows w (y, x)).window u ≡ ancestors_within n windows.window u
  ancestors-moved zero u = refl
  ancestors-moved (suc n) u = grind (arith, (ancestors-moved n))

  pub derives-moved : (v u : ℕ) → derives (shifted_to windows w (y, x)).window v u ≡ derives windows.window v u
  derives-moved v u = grind (arith, (ancestors-moved window_limit))
