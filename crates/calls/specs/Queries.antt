-- Which calls only ask: about a window, about what is touched of it, or about panels.
-- X/Open Curses Issue 7: getyx, getbegyx, getmaxyx, getparyx, inch, is_linetouched, is_wintouched.
-- NetBSD panel(3): panel_above, panel_below, panel_window, panel_hidden.
use Rattle.calls.specs.Names.{Bool, true, false, asks, arranges, changes, Effect, Call, IsLinetouched, IsWintouched, PanelAbove, PanelBelow, PanelHidden, PanelWindow}
use Rattle.world.specs.declared.call.Call.TheVariants as calls

abbrev pub is_query : Call → Bool
is_query (calls.Query query) = true
is_query (calls.Copying (IsLinetouched win y)) = true
is_query (calls.Copying (IsWintouched win)) = true
is_query (calls.Stacking (PanelAbove panel)) = true
is_query (calls.Stacking (PanelBelow panel)) = true
is_query (calls.Stacking (PanelWindow panel)) = true
is_query (calls.Stacking (PanelHidden panel)) = true
is_query call = false

-- nothing changes, and there is an answer
abbrev pub only_asks : Effect → Bool
only_asks (arranges (changes (asks reply))) = true
only_asks effect = false
