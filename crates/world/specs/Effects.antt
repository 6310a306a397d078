-- What calls do, said once for each effect: a call is its tests and one of these effects.
-- X/Open Curses Issue 7 and NetBSD panel(3) say what each call does; that these few effects cover them all is Curspan's
-- own finding.
use Rattle.std.specs.Prelude.{◌≡◌, if◌then◌else◌, ◌==◌, ◌||◌, ◌∷◌, ◌++◌}
use Rattle.world.specs.Names.{ℕ, Bool, true, false, Option, Some, None, List, [], slice_set, list_any, option_and_then, option_map, option_map_or, Picture, Place, picture_of, shown_at, Pairs, Shown}
use Rattle.world.specs.Names.{shown, VirtualScreen, Rect}
use Rattle.world.specs.WindowMaps.{Backing, own_grid, part_of, Drawing, Window, WindowMap, Windows, with_change, drawing_if_there, if_there, no_cells, put, with_window}
use Rattle.world.specs.Settings.{set}
use Rattle.world.specs.PanelOrder.{Panels, window_or_standard, windows_of_picture}
use Rattle.world.specs.Frames.{frame_of}
use Rattle.world.specs.Typing.{after_text, text_drawing}
use Rattle.world.specs.Worlds.{World, picture, topmost_cursor}
use Rattle.world.specs.declared.call.Reply.{Reply}
use Rattle.world.specs.declared.call.Reply.TheVariants.{Nothing, Number, Panel}
use Rattle.world.specs.declared.settings.Settings.{Settings}

-- ---- in a window

-- sets: its settings. draws: one drawing, and then its settings, if they change. types: characters, in order.
pub data Edit : Type 0 where
  sets : ℕ → (Settings → Settings) → Edit
  draws : ℕ → (Window → Drawing) → Option (Settings → Settings) → Edit
  types : ℕ → List ℕ → Edit

abbrev pub then_set : Windows → ℕ → Option (Settings → Settings) → Windows
then_set windows w None = windows
then_set windows w (Some change) = set windows w change

abbrev pub after_edit : Windows → Edit → Windows
after_edit windows (sets w change) = set windows w change
after_edit windows (draws w drawing change) = if_there windows w (λ a. then_set (put windows w (drawing a)) w change)
after_edit windows (types w text) = after_text windows w text

-- the rectangle of a drawing in a window
abbrev pub drawing_frame : Windows → ℕ → (Window → Drawing) → Option Rect
drawing_frame windows w drawing = option_and_then (λ a. frame_of a (drawing a)) (windows.window w)

-- the window, what is written there, and the rectangle of it
abbrev pub edit_window : Edit → ℕ
edit_window (sets w change) = w
edit_window (draws w drawing change) = w
edit_window (types w text) = w

abbrev pub edit_drawing : Windows → Edit → Drawing
edit_drawing windows (sets w change) = no_cells
edit_drawing windows (draws w drawing change) = drawing_if_there windows w drawing
edit_drawing windows (types w text) = text_drawing windows w text

abbrev pub edit_frame : Windows → Edit → Option Rect
edit_frame windows (sets w change) = None
edit_frame windows (draws w drawing change) = drawing_frame windows w drawing
edit_frame windows (types w text) = drawing_frame windows w (λ a. text_drawing windows w text)

-- the windows are the same, but for their settings
abbrev pub with_its_settings : Settings → Window → Window
with_its_settings settings a = record a { settings = settings }

pub record DifferInSettings (new old : WindowMap) : Type 0 where
  pub same : (u : ℕ) (settings : Settings) → option_map (with_its_settings settings) (new u) ≡ option_map (with_its_settings settings) (old u)

-- ---- on windows

-- asks: nothing changes, and there is an answer. edits: as above. marks: what is touched of the windows that pass a
-- test. makes: a window or pad under a number. deletes: a window. moves: a window to a place of the screen. shifts: a
-- derived window to another part of its parent, from an offset on.
pub data Change : Type 0 where
  asks : Reply → Change
  edits : Edit → Change
  marks : (ℕ → Bool) → (ℕ → Window → Window) → Change
  makes : ℕ → Option Window → Change
  deletes : ℕ → Change
  moves : ℕ → Place → Change
  shifts : ℕ → Place → Change

-- what a change touches of a window, and no more of it
abbrev pub touched_by_change : (Window → Window) → Window → Window
touched_by_change change a = record a { touched = (change a).touched }

abbrev pub after_marks : Windows → (ℕ → Bool) → (ℕ → Window → Window) → Windows
after_marks windows test change =
    record windows { window = λ u. if test u then option_map (touched_by_change (change u)) (windows.window u) else windows.window u }

-- another window, or none, under the number n
abbrev pub under_number : Windows → ℕ → Option Window → Windows
under_number windows n a = record windows { window = with_window windows.window n a }

abbrev pub with_place : ℕ → ℕ → Window → Window
with_place y x a = record a { place = Some (y, x) }

abbrev pub moved_to : Windows → ℕ → Place → Windows
moved_to windows w place = record windows { window = with_change windows.window w (with_place place.0 place.1) }

abbrev pub with_offset : ℕ → ℕ → Backing → Backing
with_offset y x (own_grid cells) = own_grid cells
with_offset y x (part_of parent line column) = part_of parent y x

abbrev pub with_part : ℕ → ℕ → Window → Window
with_part y x a = record a { backing = with_offset y x a.backing }

abbrev pub shifted_to : Windows → ℕ → Place → Windows
shifted_to windows w place = record windows { window = with_change windows.window w (with_part place.0 place.1) }

abbrev pub after_change : Windows → Change → Windows
after_change windows (asks reply) = windows
after_change windows (edits edit) = after_edit windows edit
after_change windows (marks test change) = after_marks windows test change
after_change windows (makes n a) = under_number windows n a
after_change windows (deletes w) = under_number windows w None
after_change windows (moves w place) = moved_to windows w place
after_change windows (shifts w place) = shifted_to windows w place

abbrev pub change_frame : Windows → Change → Option Rect
change_frame windows (edits edit) = edit_frame windows edit
change_frame windows _ = None

abbrev pub change_reply : Change → Reply
change_reply (asks reply) = reply
change_reply (makes n a) = Number (record { 0 = n })
change_reply _ = Nothing

abbrev pub change_takes_memory : Change → Bool
change_takes_memory (makes n a) = true
change_takes_memory _ = false

-- ---- on panels

-- changes: as above, and no panel changes. adds: a panel of a window, on top. orders: one panel is put elsewhere in the
-- order, hidden, taken out or given a window. carries: the window of a panel, to a place of the screen.
pub data Order : Type 0 where
  changes : Change → Order
  adds : ℕ → ℕ → Order
  orders : ℕ → Panels → Order
  carries : ℕ → Place → Order

abbrev pub windows_after : Windows → Panels → Order → Windows
windows_after windows panels (changes change) = after_change windows change
windows_after windows panels (carries p place) = moved_to windows (window_or_standard panels (Some p)) place
windows_after windows panels _ = windows

-- another window, or none, for the panel p
abbrev pub with_entry : (ℕ → Option ℕ) → ℕ → Option ℕ → ℕ → Option ℕ
with_entry window p w q = if q == p then w else window q

abbrev pub with_panel : Panels → ℕ → ℕ → Panels
with_panel panels p w = record { visible = panels.visible ++ p ∷ []; window = with_entry panels.window p (Some w) }

abbrev pub panels_after : Panels → Order → Panels
panels_after panels (adds p w) = with_panel panels p w
panels_after panels (orders p order) = order
panels_after panels _ = panels

abbrev pub order_frame : Windows → Order → Option Rect
order_frame windows (changes change) = change_frame windows change
order_frame windows _ = None

abbrev pub order_reply : Order → Reply
order_reply (changes change) = change_reply change
order_reply (adds p w) = Panel (Some (record { 0 = p }))
order_reply _ = Nothing

abbrev pub order_takes_memory : Order → Bool
order_takes_memory (changes change) = change_takes_memory change
order_takes_memory (adds p w) = true
order_takes_memory _ = false

-- ---- on the world

-- arranges: a change of the panels or windows, as above; the virtual screen stays. refreshes: a drawing is laid over
-- the virtual screen, which takes a cursor, and the lines of a window that pass a test are untouched. composes: the
-- virtual screen is the picture of the world.
-- shows: it was sent, and the terminal needn't be cleared any more. colours: those of a pair.
pub data Effect : Type 0 where
  arranges : Order → Effect
  refreshes : ℕ → (ℕ → Bool) → Drawing → Place → Effect
  composes : Effect
  shows : Effect
  colours : ℕ → ℕ → ℕ → Effect

-- Some lines of a window are untouched, and it doesn't ask for a clear screen any more.
abbrev pub unmarked_lines : (ℕ → Bool) → Window → Window
unmarked_lines test a = record a { touched = λ y. if test y then None else a.touched y; settings = record a.settings { clear = false } }

-- all lines
abbrev pub without_marks : Window → Window
without_marks a = unmarked_lines (λ y. true) a

-- the windows of a list, unmarked
abbrev pub with_unmarked : WindowMap → List ℕ → WindowMap
with_unmarked window ws u = if list_any (λ w. w == u) ws then option_map without_marks (window u) else window u

abbrev pub asks_for_clear : WindowMap → ℕ → Bool
asks_for_clear window w = option_map_or (λ a. a.settings.clear) (window w) false

-- a picture with a drawing laid over it, in the colours that the pairs of its cells have
abbrev pub shown_over : Pairs → Picture → Drawing → ℕ → ℕ → Shown
shown_over pairs picture f y x = option_map_or (shown pairs) (f y x) (shown_at picture (y, x))

-- the virtual screen with a drawing of window w laid over it, and this cursor; it is to be cleared too if the window
-- asks for that
abbrev pub virtual_with : World → ℕ → Drawing → Place → VirtualScreen
virtual_with world w f cursor = record {
  picture = picture_of world.windows.lines world.windows.columns (shown_over world.pairs world.virtual.picture f);
  cursor = cursor;
  clear = world.virtual.clear || asks_for_clear world.windows.window w;
}

-- the windows that make up the picture
abbrev pub composed_windows : World → List ℕ
composed_windows world = windows_of_picture world.panels

-- the picture of the world, with the topmost's cursor
abbrev pub virtual_composed : World → VirtualScreen
virtual_composed world = record {
  picture = picture_of world.windows.lines world.windows.columns (picture world);
  cursor = topmost_cursor world;
  clear = world.virtual.clear || list_any (asks_for_clear world.windows.window) (composed_windows world);
}

abbrev pub with_colours : Pairs → ℕ → ℕ → ℕ → Pairs
with_colours pairs pair foreground background =
    slice_set pairs pair (record { foreground = Some foreground; background = Some background })

abbrev pub after : World → Effect → World
after world (arranges order) = record world {
  windows = windows_after world.windows world.panels order;
  panels = panels_after world.panels order;
}
after world (refreshes w test drawing cursor) = record world {
  windows = record world.windows { window = with_change world.windows.window w (unmarked_lines test) };
  virtual = virtual_with world w drawing cursor;
}
after world composes = record world {
  windows = record world.windows { window = with_unmarked world.windows.window (composed_windows world) };
  virtual = virtual_composed world;
}
after world shows = record world { virtual = record world.virtual { clear = false } }
after world (colours pair foreground background) = record world { pairs = with_colours world.pairs pair foreground background }

abbrev pub effect_frame : Windows → Effect → Option Rect
effect_frame windows (arranges order) = order_frame windows order
effect_frame windows _ = None

-- what an effect answers, but for `composes` and `shows`, which answer how much was read or sent
abbrev pub effect_reply : Effect → Reply
effect_reply (arranges order) = order_reply order
effect_reply _ = Nothing

abbrev pub effect_takes_memory : Effect → Bool
effect_takes_memory (arranges order) = order_takes_memory order
effect_takes_memory _ = false
