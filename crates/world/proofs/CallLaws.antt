-- At a place that a call doesn't affect, neither the picture changes nor what the virtual screen shows.
use Rattle.std.specs.Prelude.{◌≡◌, ◌<◌}
use Rattle.world.specs.{ℕ, false, None, ap, arith, ⊤, shown_at, shown, IsSound, World, picture, Effect, after, arranges, colours, composed_windows, composes, refreshes, shows, effect_of}
use Rattle.world.specs.{is_update_panels, refusal, world_after, affects_place, effect_shows_at}
use Rattle.cell.proofs.PictureLemmas.{cell_or-lines_from}
use Rattle.world.proofs.Allowed.{allowed-making}
use Rattle.world.proofs.RefreshLaws.{found-lines, found-unmarked}
use Rattle.world.proofs.StackingLaws.{IsOrdered, found-order, ordered-stacking}
use Rattle.world.specs.declared.call.Call.{Call}

-- ---- what each effect wants, which the tests of its call give

abbrev pub IsReady : World → Effect → Type 0
IsReady world (arranges order) = IsOrdered world.windows world.panels order
IsReady world (refreshes w test drawing cursor) = ⊤
IsReady world composes = ⊤
IsReady world shows = ⊤
IsReady world (colours pair foreground background) = ⊤

pub ready : (world : World) (call : Call) → refusal world call ≡ None → IsReady world (effect_of world call)
ready world call accepted = grind (arith, allowed-making, ordered-stacking)

-- ---- the picture

module _ (world : World) (y x : ℕ) (sound : IsSound world) (below : y < world.windows.lines) (left : x < world.windows.columns) where
  effect-keeps : (effect : Effect) → IsReady world effect → effect_shows_at world effect y x ≡ false → picture (after world effect) y x ≡ picture world y x
  effect-keeps composes ready free = ap (shown world.pairs) (found-unmarked world.windows.window (composed_windows world) world.panels y x)
  effect-keeps effect ready free = grind (arith, found-lines, found-order)

  pub picture-kept : (call : Call) → refusal world call ≡ None → affects_place world call y x ≡ false → picture (world_after world call) y x ≡ picture world y x
  picture-kept call accepted free = grind (arith, effect-keeps, ready)

-- ---- the virtual screen

module _ (world : World) (y x : ℕ) (below : y < world.windows.lines) (left : x < world.windows.columns) where
  pub virtual-kept : (call : Call) → is_update_panels call ≡ false → affects_place world call y x ≡ false
      → shown_at (world_after world call).virtual.picture (y, x) ≡ shown_at world.virtual.picture (y, x)
  virtual-kept call other free = grind (arith, cell_or-lines_from)
