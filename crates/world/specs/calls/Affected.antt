-- The places and the lines of the screen at which a call can change the picture, or lays cells over the virtual screen,
-- and how many cells of windows an update_panels may read for them.
-- X/Open Curses Issue 7 and NetBSD panel(3) say nothing of what a refresh reads: these bounds are Curspan's own.
use Rattle.std.specs.Prelude.{◌+◌, ◌-◌, ◌*◌, if◌then◌else◌, ◌==◌, ◌&&◌, ◌||◌, ◌∷◌}
use Rattle.world.specs.Names.{ℕ, Bool, true, false, not, Option, None, is_none, is_some, List, [], count_by, list_any, range_with_len, option_map_or, Rect}
use Rattle.world.specs.WindowMaps.{WindowMap, Windows, any_below, derives}
use Rattle.world.specs.PanelOrder.{Panels, holds, panel_holds, place_of, topmost, windows_from_top, windows_of_picture}
use Rattle.world.specs.Worlds.{World}
use Rattle.world.specs.Sharing.{shows_part_of}
use Rattle.world.specs.Effects.{Edit, edit_frame, edit_window, Change, edits, shifts, Order, changes, adds, orders, carries, Effect, arranges, refreshes}
use Rattle.world.specs.Effects.{colours, panels_after, windows_after}
use Rattle.world.specs.calls.Dispatch.{effect_of, is_update_panels, refusal, world_after}
use Rattle.world.specs.declared.call.Call.{Call}

-- ---- writes

-- window u, covered or not, shows at the place (y, x) of the screen a cell that window w shows in a rectangle of it
abbrev pub shows_at : WindowMap → ℕ → Rect → ℕ → ℕ → ℕ → Bool
shows_at window w r y x u = holds window u y x && shows_part_of window w r u (y - (place_of window u).0) (x - (place_of window u).1)

-- Of a write in a frame of window w: the standard screen or a visible panel's window shows a cell of the frame at the
-- place.
abbrev pub frame_shows_at : WindowMap → Panels → ℕ → Option Rect → ℕ → ℕ → Bool
frame_shows_at window panels w frame y x = option_map_or (λ r. list_any (shows_at window w r y x) (windows_of_picture panels)) frame false

-- ---- moves

-- window u, which is window w or derives from it, holds the place
abbrev pub follows_at : WindowMap → ℕ → ℕ → ℕ → ℕ → Bool
follows_at window w y x u = (u == w || derives window w u) && holds window u y x

-- Of a window moved in its parent: a visible panel's window that shows other cells then holds the place.
abbrev pub move_shows_at : WindowMap → Panels → ℕ → ℕ → ℕ → Bool
move_shows_at window panels w y x = list_any (follows_at window w y x) (windows_from_top panels)

-- ---- panels

-- the panel p is visible, and its window's rectangle holds the place
abbrev pub panel_shows_at : WindowMap → Panels → ℕ → ℕ → ℕ → Bool
panel_shows_at window panels p y x = list_any (λ q. q == p) panels.visible && panel_holds window panels y x p

-- the panel p does so before a change of order or after it
abbrev pub ordered_shows_at : Windows → Panels → Order → ℕ → ℕ → ℕ → Bool
ordered_shows_at windows panels order p y x =
    panel_shows_at windows.window panels p y x || panel_shows_at (windows_after windows panels order).window (panels_after panels order) p y x

-- the window of the panel p, if it is the topmost
abbrev pub window_if_topmost : Panels → ℕ → Option ℕ
window_if_topmost panels p = if option_map_or (λ q. q == p) (topmost panels) false then panels.window p else None

-- The panel p is the topmost before a change of order and after it, with the same window: so no panel is elsewhere.
abbrev pub stays_on_top : Panels → Panels → ℕ → Bool
stays_on_top panels order p = option_map_or (λ w. option_map_or (λ u. u == w) (window_if_topmost order p) false) (window_if_topmost panels p) false

-- ---- effects

-- a write, where its frame is shown
abbrev pub edit_shows_at : Windows → Panels → Edit → ℕ → ℕ → Bool
edit_shows_at windows panels edit y x = frame_shows_at windows.window panels (edit_window edit) (edit_frame windows edit) y x

abbrev pub change_shows_at : Windows → Panels → Change → ℕ → ℕ → Bool
change_shows_at windows panels (edits edit) y x = edit_shows_at windows panels edit y x
change_shows_at windows panels (shifts w place) y x = move_shows_at windows.window panels w y x
change_shows_at windows panels _ y x = false

abbrev pub order_shows_at : Windows → Panels → Order → ℕ → ℕ → Bool
order_shows_at windows panels (changes change) y x = change_shows_at windows panels change y x
order_shows_at windows panels (adds p w) y x = ordered_shows_at windows panels (adds p w) p y x
order_shows_at windows panels (orders p order) y x = not (stays_on_top panels order p) && ordered_shows_at windows panels (orders p order) p y x
order_shows_at windows panels (carries p place) y x = ordered_shows_at windows panels (carries p place) p y x

-- a refresh where it has a cell for the virtual screen; and other colours of a pair show everywhere
abbrev pub effect_shows_at : World → Effect → ℕ → ℕ → Bool
effect_shows_at world (arranges order) y x = order_shows_at world.windows world.panels order y x
effect_shows_at world (refreshes w test drawing cursor) y x = is_some (drawing y x)
effect_shows_at world (colours pair foreground background) y x = true
effect_shows_at world _ y x = false

-- of an accepted call
abbrev pub affects_place : World → Call → ℕ → ℕ → Bool
affects_place world call y x = effect_shows_at world (effect_of world call) y x

-- ---- lines

-- Of an accepted call: some place of the line is affected.
abbrev pub affects_line : World → Call → ℕ → Bool
affects_line world call line = any_below world.windows.columns (affects_place world call line)

-- The lines that a call affects: none if it is refused.
abbrev pub affected_lines : World → Call → ℕ → Bool
affected_lines world call line = is_none (refusal world call) && affects_line world call line

-- ---- what the update_panels of a run may read

-- the lines affected since the last update_panels, after a call that was accepted
abbrev pub affected_after : World → (ℕ → Bool) → Call → ℕ → Bool
affected_after world affected call line = if is_update_panels call then false else affected line || affected_lines world call line

-- the most cells that a call may read: an update_panels the columns of each of these lines, the others none
abbrev pub most_cells : World → (ℕ → Bool) → Call → ℕ
most_cells world affected call = if is_update_panels call then count_by affected (range_with_len 0 world.windows.lines) * world.windows.columns else 0

-- The bound on reads: what all update_panels of a run may read, from a world with lines affected before it. A run's
-- calls are listed with whether each was accepted.
abbrev pub bound_on_reads : World → (ℕ → Bool) → List (Call × Bool) → ℕ
bound_on_reads world affected [] = 0
bound_on_reads world affected (call ∷ calls) =
    if call.1 then most_cells world affected call.0 + bound_on_reads (world_after world call.0) (affected_after world affected call.0) calls
    else bound_on_reads world affected calls

-- as at the start of a run on a new screen
abbrev pub no_lines : ℕ → Bool
no_lines line = false
