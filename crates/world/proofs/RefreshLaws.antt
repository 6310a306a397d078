-- Refreshing windows changes neither what the search from the top finds nor the topmost's cursor.
use Rattle.std.specs.Prelude.{◌≡◌}
use Rattle.world.specs.{ℕ, Bool, List, arith, WindowMap, Windows, with_change, Panels, cursor_of_topmost, found_from_top, World, composed_windows, unmarked_lines, with_unmarked, world_after}
use Rattle.world.specs.declared.call.Call.TheVariants as calls
use Rattle.world.specs.declared.written_calls.Refresh.{Refresh}
use Rattle.world.specs.declared.written_calls.Refresh.TheVariants.{UpdatePanels}
use Rattle.world.proofs.ViewLaws.{backing_of, changed-cells, found-dressed, outline_of, place-same, same-if}

module _ (window : WindowMap) (ws : List ℕ) where
  pub found-unmarked : (panels : Panels) (y x : ℕ) → found_from_top (with_unmarked window ws) panels y x ≡ found_from_top window panels y x
  found-unmarked panels y x = found-dressed (with_unmarked window ws) window (grind (arith, same-if, outline_of, backing_of)) panels y x

  pub cursor-unmarked : (panels : Panels) → cursor_of_topmost (with_unmarked window ws) panels ≡ cursor_of_topmost window panels
  cursor-unmarked panels = grind (arith, place-same, same-if)

-- ---- some lines of a window

pub found-lines : (windows : Windows) (w : ℕ) (test : ℕ → Bool) (panels : Panels) (y x : ℕ)
    → found_from_top (with_change windows.window w (unmarked_lines test)) panels y x ≡ found_from_top windows.window panels y x
found-lines windows w test panels y x = search (arith, found-dressed, changed-cells)

pub found-refresh : (world : World) (refresh : Refresh) (y x : ℕ)
    → found_from_top (world_after world (calls.Refresh refresh)).windows.window (world_after world (calls.Refresh refresh)).panels y x
    ≡ found_from_top world.windows.window world.panels y x
found-refresh world UpdatePanels y x = found-unmarked world.windows.window (composed_windows world) world.panels y x
found-refresh world refresh y x = grind (arith, found-lines)
