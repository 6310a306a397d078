-- What the calls on panels do and answer, and which lines and places they affect, for a reader of the definitions.
use Rattle.std.proofs.Common.{◌≡◌, ℕ, true, List, [], ◌∷◌, Option, Some, None, if◌then◌else◌, ◌==◌, ◌||◌, refl}
use Rattle.std.specs.Prelude.{filter}
use Rattle.std.specs.List.{range_with_len}
use Rattle.world.specs.WindowMaps.{window_limit}
use Rattle.world.specs.PanelOrder.{Panels, panel_limit}
use Rattle.world.specs.Worlds.{World}
use Rattle.world.specs.Effects.{with_panel}
use Rattle.world.specs.calls.Stacking.{after_bottom_panel, after_del_panel, after_hide_panel, after_replace_panel, after_show_panel, is_hidden, new_panel_number, panel_above, panel_below}
use Rattle.world.specs.calls.Dispatch.{refusal, reply_of, world_after}
use Rattle.world.specs.calls.Affected.{affected_lines}
use Rattle.cell.specs.declared.refusal.Refusal.{Refusal}
use Rattle.cell.specs.declared.refusal.Refusal.TheVariants.{NoSuchPanel, NoSuchWindow, OffScreen, IsPad, InPanel, Hidden, StandardScreen}
use Rattle.world.specs.declared.panel.PanelId.{PanelId}
use Rattle.world.specs.declared.call.Call.TheVariants.{Making, Stacking}
use Rattle.world.specs.declared.call.Making.TheVariants.{Newwin, Newpad}
use Rattle.world.specs.declared.call.Stacking.{Stacking as Stack_call}
use Rattle.world.specs.declared.call.Stacking.TheVariants.{NewPanel, DelPanel, ShowPanel, HidePanel, TopPanel, BottomPanel, MovePanel, ReplacePanel, PanelAbove, PanelBelow, PanelWindow, PanelHidden}
use Rattle.world.specs.declared.call.Reply.{Reply}
use Rattle.world.specs.declared.call.Reply.TheVariants.{Flag, Nothing, Number, Panel}
use Rattle.window_tests.proofs.Examples.{columns, screen_after, win}

-- windows 1 and 2 of two lines, on lines 0 and 1, window 3 of one line, on line 3, and window 5 of two lines, on lines 2 and 3; number 4
-- is a pad
unfoldable windows : World
unfolding screen_after
windows = screen_after (Making (Newwin 2 5 0 0) ∷ Making (Newwin 2 5 0 3) ∷ Making (Newwin 1 5 3 0) ∷ Making (Newpad 2 2) ∷ Making (Newwin 2 5 2 0) ∷ [])

-- panels 1, 2 and 3 with the windows of their numbers; 3 is hidden
three : Panels
three = record { visible = 1 ∷ 2 ∷ []; window = λ p. if (p == 1) || ((p == 2) || (p == 3)) then Some p else None }

screen : World
screen = record windows { panels = three }

-- ---- the order

shown_on_top : ((after_show_panel three 3).visible ≡ 1 ∷ 2 ∷ 3 ∷ []) × ((after_show_panel three 1).visible ≡ 2 ∷ 1 ∷ [])
unfolding three
shown_on_top = (refl, refl)

hidden_leaves : ((after_hide_panel three 1).visible ≡ 2 ∷ []) × (is_hidden (after_hide_panel three 1) 1 ≡ true) × ((after_hide_panel three 1).window 1 ≡ Some 1)
unfolding three
hidden_leaves = (refl, refl, refl)

at_bottom : (after_bottom_panel three 2).visible ≡ 2 ∷ 1 ∷ []
unfolding three
at_bottom = refl

replaced_keeps_depth : ((after_replace_panel three 1 9).visible ≡ 1 ∷ 2 ∷ []) × ((after_replace_panel three 1 9).window 1 ≡ Some 9)
unfolding three
replaced_keeps_depth = (refl, refl)

-- a deleted panel's number is the next one
number_again : (new_panel_number three ≡ Some 4) × (new_panel_number (after_del_panel three 2) ≡ Some 2)
unfolding three panel_limit
number_again = (refl, refl)

neighbours : (panel_above three (Some 1) ≡ Some 2) × (panel_above three (Some 2) ≡ None) × (panel_below three (Some 1) ≡ None) × (panel_below three (Some 2) ≡ Some 1)
unfolding three
neighbours = (refl, refl, refl, refl)

ends : (panel_above three None ≡ Some 1) × (panel_below three None ≡ Some 2)
unfolding three
ends = (refl, refl)

-- ---- calls as data

panel : ℕ → PanelId
panel p = record { 0 = p }

reply : Stack_call → Reply
reply call = reply_of screen (Stacking call)

refused : Stack_call → Option Refusal
refused call = refusal screen (Stacking call)

lines : Stack_call → List ℕ
lines call = filter (affected_lines screen (Stacking call)) (range_with_len 0 4)

answers : (reply (PanelAbove (Some (panel 1))) ≡ Panel (Some (panel 2))) × (reply (PanelBelow (Some (panel 1))) ≡ Panel None) × (reply (PanelBelow None) ≡ Panel (Some (panel 2))) ×
    (reply (PanelWindow (panel 3)) ≡ Number (win 3)) × (reply (PanelHidden (panel 3)) ≡ Flag true) × (reply (ShowPanel (panel 3)) ≡ Nothing)
unfolding reply screen windows three panel win screen_after window_limit panel_limit
answers = (refl, refl, refl, refl, refl, refl)

made : (reply (NewPanel (win 5)) ≡ Panel (Some (panel 4))) × ((world_after screen (Stacking (NewPanel (win 5)))).panels ≡ with_panel three 4 5)
unfolding reply screen windows three panel win screen_after window_limit panel_limit
made = (refl, refl)

hidden_refused : (refused (TopPanel (panel 3)) ≡ Some Hidden) × (refused (PanelAbove (Some (panel 3))) ≡ Some Hidden) × (refused (PanelAbove None) ≡ None) × (refused (PanelHidden (panel 3)) ≡ None)
unfolding refused screen windows three panel win screen_after window_limit panel_limit
hidden_refused = (refl, refl, refl, refl)

-- ---- refusals

hidden_has_no_depth : (refused (TopPanel (panel 3)) ≡ Some Hidden) × (refused (TopPanel (panel 4)) ≡ Some NoSuchPanel) × (refused (TopPanel (panel 1)) ≡ None)
unfolding refused screen windows three panel win screen_after window_limit panel_limit
hidden_has_no_depth = (refl, refl, refl)

no_new_panel : (refused (NewPanel (win 9)) ≡ Some NoSuchWindow) × (refused (NewPanel (win 0)) ≡ Some StandardScreen) × (refused (NewPanel (win 4)) ≡ Some IsPad) ×
    (refused (NewPanel (win 3)) ≡ Some InPanel)
unfolding refused screen windows three panel win screen_after window_limit panel_limit
no_new_panel = (refl, refl, refl, refl)

-- the panel is looked for before the window; a window in this very panel is in a panel
not_replaced : (refused (ReplacePanel (panel 4) (win 9)) ≡ Some NoSuchPanel) × (refused (ReplacePanel (panel 1) (win 9)) ≡ Some NoSuchWindow) × (refused (ReplacePanel (panel 1) (win 4)) ≡ Some IsPad)
    × (refused (ReplacePanel (panel 1) (win 1)) ≡ Some InPanel)
unfolding refused screen windows three panel win screen_after window_limit panel_limit
not_replaced = (refl, refl, refl, refl)

-- a hidden panel's window is moved too
moved : (refused (MovePanel (panel 3) 3 5) ≡ None) × (refused (MovePanel (panel 3) 3 6) ≡ Some OffScreen) × (refused (MovePanel (panel 4) 0 0) ≡ Some NoSuchPanel)
unfolding refused screen windows three panel win screen_after window_limit panel_limit
moved = (refl, refl, refl)

-- the lines of its rectangle where it was, and where it is
lines_of_move : lines (MovePanel (panel 1) 2 0) ≡ 0 ∷ 1 ∷ 2 ∷ 3 ∷ []
unfolding lines screen windows three panel screen_after win window_limit
lines_of_move = refl

no_line_of_hidden : lines (MovePanel (panel 3) 0 0) ≡ []
unfolding lines screen windows three panel screen_after win window_limit
no_line_of_hidden = refl

lines_of_order : (lines (ShowPanel (panel 3)) ≡ 3 ∷ []) × (lines (BottomPanel (panel 1)) ≡ 0 ∷ 1 ∷ []) × (lines (DelPanel (panel 2)) ≡ 0 ∷ 1 ∷ []) × (lines (TopPanel (panel 3)) ≡ [])
unfolding lines screen windows three panel screen_after win window_limit
lines_of_order = (refl, refl, refl, refl)

-- none of a panel that is on top already, and those of another
lines_of_raised : (lines (TopPanel (panel 2)) ≡ []) × (lines (ShowPanel (panel 2)) ≡ []) × (lines (TopPanel (panel 1)) ≡ 0 ∷ 1 ∷ [])
unfolding lines screen windows three panel screen_after win window_limit
lines_of_raised = (refl, refl, refl)

-- windows 1 and 5, which is on lines 2 and 3
lines_of_windows : (lines (NewPanel (win 5)) ≡ 2 ∷ 3 ∷ []) × (lines (ReplacePanel (panel 1) (win 5)) ≡ 0 ∷ 1 ∷ 2 ∷ 3 ∷ []) × (lines (PanelWindow (panel 1)) ≡ [])
unfolding lines screen windows three panel screen_after win window_limit panel_limit
lines_of_windows = (refl, refl, refl)

-- the columns of its rectangle on a line, where it was and where it is
columns_of_move : (columns screen (Stacking (MovePanel (panel 1) 2 1)) 0 ≡ 0 ∷ 1 ∷ 2 ∷ 3 ∷ 4 ∷ []) × (columns screen (Stacking (MovePanel (panel 1) 2 1)) 2 ≡ 1 ∷ 2 ∷ 3 ∷ 4 ∷ 5 ∷ [])
unfolding columns screen windows three panel screen_after win window_limit
columns_of_move = (refl, refl)

columns_of_order : (columns screen (Stacking (HidePanel (panel 2))) 1 ≡ 3 ∷ 4 ∷ 5 ∷ 6 ∷ 7 ∷ []) × (columns screen (Stacking (MovePanel (panel 3) 0 0)) 0 ≡ []) ×
    (columns screen (Stacking (PanelHidden (panel 1))) 0 ≡ [])
unfolding columns screen windows three panel screen_after win window_limit
columns_of_order = (refl, refl, refl)
