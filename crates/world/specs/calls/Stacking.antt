-- The calls on panels: each with its tests and its effect.
-- NetBSD panel(3): new_panel, del_panel, show_panel, hide_panel, top_panel, bottom_panel, move_panel, replace_panel,
-- panel_above, panel_below, panel_window, panel_hidden.
-- That show_panel puts a visible panel on top too, which window a panel may have, the limit of numbers and the order of
-- the tests are Curspan's own choice.
use Rattle.std.specs.Prelude.{◌≡◌, ◌≢◌, ◌-◌, ◌≤◌, if◌then◌else◌, ◌==◌, ◌∷◌, ◌++◌}
use Rattle.world.specs.Names.{ℕ, Bool, not, Option, Some, None, is_none, unwrap_or, IsSome, MatchOption, List, [], reverse, All, AllPairs, find, ⊤, option_map, filter, list_any, range_with_len}
use Rattle.world.specs.Names.{first_of, MOST_PANELS, Refusal, NoSuchWindow, NoSuchPanel, OffScreen, IsPad, InPanel, Hidden, StandardScreen, TooMany}
use Rattle.world.specs.WindowMaps.{WindowMap, Windows, is_missing}
use Rattle.world.specs.PanelOrder.{Panels, panel_limit, is_in_panel, standard_screen, topmost, window_or_standard}
use Rattle.world.specs.Effects.{Order, changes, adds, orders, carries, asks, with_entry, panels_after}
use Rattle.world.specs.calls.Making.{is_off_screen, is_pad}
use Rattle.world.specs.declared.call.Reply.TheVariants.{Flag, Number, Panel}
use Rattle.world.specs.declared.written_calls.Stacking.{Stacking}
use Rattle.world.specs.declared.written_calls.Stacking.TheVariants.{NewPanel, DelPanel, ShowPanel, HidePanel, TopPanel, BottomPanel, MovePanel, ReplacePanel, PanelAbove, PanelBelow, PanelWindow, PanelHidden}
use Rattle.world.specs.declared.panel.PanelId.{PanelId}

-- ---- the order

-- a panel is hidden where the visible ones lack it
abbrev pub is_hidden : Panels → ℕ → Bool
is_hidden panels p = not (list_any (λ q. q == p) panels.visible)

-- the others, in their order
abbrev pub without : ℕ → List ℕ → List ℕ
without p order = filter (λ q. not (q == p)) order

-- the first of a list, and the one after p
abbrev pub first_in : List ℕ → Option ℕ
first_in [] = None
first_in (q ∷ order) = Some q

abbrev pub next_in : ℕ → List ℕ → Option ℕ
next_in p [] = None
next_in p (q ∷ order) = if q == p then first_in order else next_in p order

-- ---- numbers

-- the number of a panel, if there is one, and the panel of a number
abbrev pub panel_number : Option PanelId → Option ℕ
panel_number panel = option_map (λ p. p.0) panel

abbrev pub numbered_panel : Option ℕ → Option PanelId
numbered_panel p = option_map (λ n. record { 0 = n }) p

-- the number of the next panel: the least free one from 1 on
abbrev pub new_panel_number : Panels → Option ℕ
new_panel_number panels = find (λ p. is_none (panels.window p)) (range_with_len 1 (panel_limit - 1))

abbrev pub next_panel : Panels → ℕ
next_panel panels = unwrap_or (new_panel_number panels) 0

-- ---- tests

-- a call that accepts any panel, and one that accepts only a visible panel
abbrev pub panel_tests : Panels → ℕ → List (Bool × Refusal)
panel_tests panels p = (is_none (panels.window p), NoSuchPanel) ∷ []

abbrev pub visible_tests : Panels → ℕ → List (Bool × Refusal)
visible_tests panels p = (is_none (panels.window p), NoSuchPanel) ∷ (is_hidden panels p, Hidden) ∷ []

-- that of the neighbours of a panel, or of the ends, which always are
abbrev pub neighbour_tests : Panels → Option PanelId → List (Bool × Refusal)
neighbour_tests panels None = []
neighbour_tests panels (Some p) = visible_tests panels p.0

-- those tests of new_panel and of replace_panel that speak of panels alone
abbrev pub new_panel_tests : Panels → ℕ → List (Bool × Refusal)
new_panel_tests panels w = (is_in_panel panels w, InPanel) ∷ (is_none (new_panel_number panels), TooMany) ∷ []

abbrev pub replace_panel_tests : Panels → ℕ → ℕ → List (Bool × Refusal)
replace_panel_tests panels p w = (is_none (panels.window p), NoSuchPanel) ∷ (is_in_panel panels w, InPanel) ∷ []

-- A window that is to be put into a panel: it is there, and neither the standard screen nor a pad.
abbrev pub window_tests : WindowMap → ℕ → List (Bool × Refusal)
window_tests window w = (is_missing window w, NoSuchWindow) ∷ (w == standard_screen, StandardScreen) ∷ (is_pad window w, IsPad) ∷ []

abbrev pub stacking_tests : Windows → Panels → Stacking → List (Bool × Refusal)
stacking_tests windows panels (NewPanel win) = window_tests windows.window win.0 ++ new_panel_tests panels win.0
stacking_tests windows panels (DelPanel panel) = panel_tests panels panel.0
stacking_tests windows panels (ShowPanel panel) = panel_tests panels panel.0
stacking_tests windows panels (HidePanel panel) = visible_tests panels panel.0
stacking_tests windows panels (TopPanel panel) = visible_tests panels panel.0
stacking_tests windows panels (BottomPanel panel) = visible_tests panels panel.0
stacking_tests windows panels (MovePanel panel y x) =
    (is_none (panels.window panel.0), NoSuchPanel) ∷ (is_off_screen windows (window_or_standard panels (Some panel.0)) y x, OffScreen) ∷ []
stacking_tests windows panels (ReplacePanel panel win) =
    (is_none (panels.window panel.0), NoSuchPanel) ∷ window_tests windows.window win.0 ++ (is_in_panel panels win.0, InPanel) ∷ []
stacking_tests windows panels (PanelAbove panel) = neighbour_tests panels panel
stacking_tests windows panels (PanelBelow panel) = neighbour_tests panels panel
stacking_tests windows panels (PanelWindow panel) = panel_tests panels panel.0
stacking_tests windows panels (PanelHidden panel) = panel_tests panels panel.0

-- ---- effects

abbrev pub after_del_panel : Panels → ℕ → Panels
after_del_panel panels p = record { visible = without p panels.visible; window = with_entry panels.window p None }

-- on top, whether it was visible or hidden
abbrev pub after_show_panel : Panels → ℕ → Panels
after_show_panel panels p = record panels { visible = without p panels.visible ++ p ∷ [] }

abbrev pub after_hide_panel : Panels → ℕ → Panels
after_hide_panel panels p = record panels { visible = without p panels.visible }

abbrev pub after_bottom_panel : Panels → ℕ → Panels
after_bottom_panel panels p = record panels { visible = p ∷ without p panels.visible }

-- another window, and the same depth
abbrev pub after_replace_panel : Panels → ℕ → ℕ → Panels
after_replace_panel panels p w = record panels { window = with_entry panels.window p (Some w) }

-- the panel right above, or without a panel the bottom one
abbrev pub panel_above : Panels → Option ℕ → Option ℕ
panel_above panels None = first_in panels.visible
panel_above panels (Some p) = next_in p panels.visible

-- the panel right below, or without a panel the top one
abbrev pub panel_below : Panels → Option ℕ → Option ℕ
panel_below panels None = topmost panels
panel_below panels (Some p) = next_in p (reverse panels.visible)

abbrev pub stacking_order : Panels → Stacking → Order
stacking_order panels (NewPanel win) = adds (next_panel panels) win.0
stacking_order panels (DelPanel panel) = orders panel.0 (after_del_panel panels panel.0)
stacking_order panels (ShowPanel panel) = orders panel.0 (after_show_panel panels panel.0)
stacking_order panels (HidePanel panel) = orders panel.0 (after_hide_panel panels panel.0)
stacking_order panels (TopPanel panel) = orders panel.0 (after_show_panel panels panel.0)
stacking_order panels (BottomPanel panel) = orders panel.0 (after_bottom_panel panels panel.0)
stacking_order panels (MovePanel panel y x) = carries panel.0 (y, x)
stacking_order panels (ReplacePanel panel win) = orders panel.0 (after_replace_panel panels panel.0 win.0)
stacking_order panels (PanelAbove panel) = changes (asks (Panel (numbered_panel (panel_above panels (panel_number panel)))))
stacking_order panels (PanelBelow panel) = changes (asks (Panel (numbered_panel (panel_below panels (panel_number panel)))))
stacking_order panels (PanelWindow panel) = changes (asks (Number (record { 0 = window_or_standard panels (Some panel.0) })))
stacking_order panels (PanelHidden panel) = changes (asks (Flag (is_hidden panels panel.0)))

-- the panels after a call
abbrev pub after_stacking : Panels → Stacking → Panels
after_stacking panels stacking = panels_after panels (stacking_order panels stacking)

abbrev pub stacking_refusal : Windows → Panels → Stacking → Option Refusal
stacking_refusal windows panels stacking = first_of (stacking_tests windows panels stacking)

-- ---- soundness

-- the panel p, which has window w: its number, and that no other panel has that window
pub record IsSoundEntry (panels : Panels) (p w : ℕ) : Type 0 where
  pub from_one : 1 ≤ p
  pub number : p ≤ MOST_PANELS
  pub alone : (q : ℕ) → panels.window q ≡ Some w → q ≡ p

-- what is sound in panels of windows that may not be there
pub record IsSoundOrder (panels : Panels) : Type 0 where
  pub once : AllPairs (λ p q. p ≢ q) panels.visible
  pub visible : All (λ p. IsSome (panels.window p)) panels.visible
  pub each : (p : ℕ) → MatchOption (panels.window p) ⊤ (IsSoundEntry panels p)
