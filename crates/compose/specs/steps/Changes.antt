-- What a call affects of what windows show, and where one of them shows something of it.
use Rattle.std.specs.Prelude.{◌≡◌, ◌≤◌}
use Rattle.compose.specs.Names.{ℕ, Bool, false, Option, Some, None, ⊤, option_map, Panels, Windows, HasPlace, WindowMap, Change, edits, shifts, edit_frame, edit_window, frame_shows_at, move_shows_at}
use Rattle.compose.specs.Names.{follows_at, grid_of, shows_at, window_if_topmost, Stacking, NewPanel, DelPanel, ShowPanel, HidePanel, TopPanel, BottomPanel, MovePanel, ReplacePanel, Reply, Panel, panel_number}
use Rattle.compose.specs.declared.damaging.Affected.{Affected}
use Rattle.compose.specs.declared.damaging.Affected.TheVariants.{Written, Moved}

-- the rectangle of a write lies in its window
abbrev pub IsPossible : WindowMap → Affected → Type 0
IsPossible window (Written win r) = (r.top ≤ r.bottom) × (r.left ≤ r.right) × HasPlace window win.0 r.bottom r.right
IsPossible window (Moved win) = ⊤

-- the grid in which a write is
abbrev pub IsGridOf : WindowMap → Affected → Option ℕ → Type 0
IsGridOf window (Written win r) grid = grid ≡ grid_of window win.0
IsGridOf window (Moved win) grid = ⊤

-- window u shows something of it at the place
abbrev pub affected_shows_at : WindowMap → Affected → ℕ → ℕ → ℕ → Bool
affected_shows_at window (Written win r) y x u = shows_at window win.0 r y x u
affected_shows_at window (Moved win) y x u = follows_at window win.0 y x u

-- what a change affects: an edit its frame, and a shift its window
abbrev pub affected_by : Windows → Change → Option Affected
affected_by windows (edits edit) = option_map (λ r. Written (record { 0 = edit_window edit }) r) (edit_frame windows edit)
affected_by windows (shifts w place) = Some (Moved (record { 0 = w }))
affected_by windows _ = None

-- some window of the picture shows something of it at the place
abbrev pub any_shows_at : WindowMap → Panels → Option Affected → ℕ → ℕ → Bool
any_shows_at window panels None y x = false
any_shows_at window panels (Some (Written win r)) y x = frame_shows_at window panels win.0 (Some r) y x
any_shows_at window panels (Some (Moved win)) y x = move_shows_at window panels win.0 y x

-- ---- panels

-- the panel that a call names and changes
abbrev pub named_panel : Stacking → Option ℕ
named_panel (DelPanel panel) = Some panel.0
named_panel (ShowPanel panel) = Some panel.0
named_panel (HidePanel panel) = Some panel.0
named_panel (TopPanel panel) = Some panel.0
named_panel (BottomPanel panel) = Some panel.0
named_panel (MovePanel panel y x) = Some panel.0
named_panel (ReplacePanel panel win) = Some panel.0
named_panel _ = None

-- the panel that it puts elsewhere in the order, hides, takes out or gives a window: one that is moved keeps its place
abbrev pub ordered_panel : Stacking → Option ℕ
ordered_panel (MovePanel panel y x) = None
ordered_panel stacking = named_panel stacking

-- the panel that it changed, or made, as it was answered
abbrev pub changed_panel : Stacking → Reply → Option ℕ
changed_panel (NewPanel win) (Panel made) = panel_number made
changed_panel stacking reply = named_panel stacking

-- the window of a panel, if it is the topmost
abbrev pub top_window : Panels → Option ℕ → Option ℕ
top_window panels None = None
top_window panels (Some p) = window_if_topmost panels p
