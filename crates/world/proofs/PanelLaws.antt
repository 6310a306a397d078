-- Which windows are in panels.
use Rattle.std.specs.Prelude.{◌≡◌, ◌≤◌, ◌==◌}
use Rattle.world.specs.{ℕ, true, false, Some, arith, eq-eqb, option_map_or, eqb-true, MOST_PANELS, Panels, is_in_panel, panel_limit}
use Rattle.world.proofs.Below.{any_below-some, any_below-true}

-- exactly those that some panel has
pub in_panel-some : (panels : Panels) (w p : ℕ) → p ≤ MOST_PANELS → panels.window p ≡ Some w → is_in_panel panels w ≡ true
unfolding panel_limit
in_panel-some panels w p few is = grind (arith, (any_below-some panel_limit (λ q. option_map_or (λ u. u == w) (panels.window q) false) p), eq-eqb)

pub in_panel-true : (panels : Panels) (w : ℕ) → is_in_panel panels w ≡ true → (p : ℕ) × (panels.window p ≡ Some w)
in_panel-true panels w h = let found = any_below-true panel_limit _ h in (found.number, grind (arith, eqb-true))
