-- By what a call may be refused, in the order of its tests; the neighbour of no panel is asked for without a test.
-- Written by tools/calls from calls.table.
use Rattle.std.specs.Prelude.{List, [], ◌∷◌, None, Some}
use Rattle.cell.specs.declared.refusal.Refusal.{Refusal}
use Rattle.cell.specs.declared.refusal.Refusal.TheVariants.{NoSuchWindow, NoSuchPanel, OffScreen, OutsideParent}
use Rattle.cell.specs.declared.refusal.Refusal.TheVariants.{OutsideWindow, HasDerived, InPanel, IsPad, NotPad}
use Rattle.cell.specs.declared.refusal.Refusal.TheVariants.{NotDerived, BadSize, BadRegion, BadCharacter}
use Rattle.cell.specs.declared.refusal.Refusal.TheVariants.{StandardScreen, Hidden, ScrollingOff, TooMany, NoMemory}
use Rattle.cell.specs.declared.refusal.Refusal.TheVariants.{BadRectangle, BadPair}
use Rattle.world.specs.declared.call.Call.{Call}
use Rattle.world.specs.declared.call.Call.TheVariants as calls
use Rattle.world.specs.declared.call.Making.TheVariants as Making
use Rattle.world.specs.declared.call.Writing.TheVariants as Writing
use Rattle.world.specs.declared.call.Copying.TheVariants as Copying
use Rattle.world.specs.declared.call.Query.TheVariants as Query
use Rattle.world.specs.declared.call.Stacking.TheVariants as Stacking
use Rattle.world.specs.declared.call.Refresh.TheVariants as Refresh

abbrev pub refusals_of : Call → List Refusal
refusals_of (calls.Making (Making.Newwin lines columns y x)) = OffScreen ∷ TooMany ∷ NoMemory ∷ []
refusals_of (calls.Making (Making.Subwin win lines columns y x)) = NoSuchWindow ∷ IsPad ∷ OutsideParent ∷ TooMany ∷ NoMemory ∷ []
refusals_of (calls.Making (Making.Derwin win lines columns y x)) = NoSuchWindow ∷ IsPad ∷ OutsideParent ∷ TooMany ∷ NoMemory ∷ []
refusals_of (calls.Making (Making.Newpad lines columns)) = BadSize ∷ TooMany ∷ NoMemory ∷ []
refusals_of (calls.Making (Making.Subpad pad lines columns y x)) = NoSuchWindow ∷ NotPad ∷ OutsideParent ∷ TooMany ∷ NoMemory ∷ []
refusals_of (calls.Making (Making.Delwin win)) = NoSuchWindow ∷ StandardScreen ∷ InPanel ∷ HasDerived ∷ []
refusals_of (calls.Making (Making.Mvwin win y x)) = NoSuchWindow ∷ StandardScreen ∷ IsPad ∷ InPanel ∷ OffScreen ∷ []
refusals_of (calls.Making (Making.Mvderwin win y x)) = NoSuchWindow ∷ NotDerived ∷ OutsideParent ∷ []
refusals_of (calls.Writing (Writing.Move win y x)) = NoSuchWindow ∷ OutsideWindow ∷ []
refusals_of (calls.Writing (Writing.Addch win ch)) = NoSuchWindow ∷ BadCharacter ∷ []
refusals_of (calls.Writing (Writing.Addstr win text)) = NoSuchWindow ∷ BadCharacter ∷ []
refusals_of (calls.Writing (Writing.Insch win ch)) = NoSuchWindow ∷ BadCharacter ∷ []
refusals_of (calls.Writing (Writing.Delch win)) = NoSuchWindow ∷ []
refusals_of (calls.Writing (Writing.Insertln win)) = NoSuchWindow ∷ []
refusals_of (calls.Writing (Writing.Deleteln win)) = NoSuchWindow ∷ []
refusals_of (calls.Writing (Writing.Erase win)) = NoSuchWindow ∷ []
refusals_of (calls.Writing (Writing.Clear win)) = NoSuchWindow ∷ []
refusals_of (calls.Writing (Writing.Clrtoeol win)) = NoSuchWindow ∷ []
refusals_of (calls.Writing (Writing.Clrtobot win)) = NoSuchWindow ∷ []
refusals_of (calls.Writing (Writing.Scrl win n)) = NoSuchWindow ∷ ScrollingOff ∷ []
refusals_of (calls.Writing (Writing.Setscrreg win top bottom)) = NoSuchWindow ∷ BadRegion ∷ []
refusals_of (calls.Writing (Writing.Scrollok win flag)) = NoSuchWindow ∷ []
refusals_of (calls.Writing (Writing.Clearok win flag)) = NoSuchWindow ∷ []
refusals_of (calls.Writing (Writing.Attrset win attrs)) = NoSuchWindow ∷ []
refusals_of (calls.Writing (Writing.Attron win attrs)) = NoSuchWindow ∷ []
refusals_of (calls.Writing (Writing.Attroff win attrs)) = NoSuchWindow ∷ []
refusals_of (calls.Writing (Writing.Bkgdset win attrs ch)) = NoSuchWindow ∷ BadCharacter ∷ []
refusals_of (calls.Writing (Writing.ColorSet win pair)) = NoSuchWindow ∷ BadPair ∷ []
refusals_of (calls.Writing (Writing.Bkgdpair win pair)) = NoSuchWindow ∷ BadPair ∷ []
refusals_of (calls.Copying (Copying.Overlay src dst)) = NoSuchWindow ∷ IsPad ∷ []
refusals_of (calls.Copying (Copying.Overwrite src dst)) = NoSuchWindow ∷ IsPad ∷ []
refusals_of (calls.Copying (Copying.Copywin src dst sminrow smincol dminrow dmincol dmaxrow dmaxcol overlay)) = NoSuchWindow ∷ BadRectangle ∷ OutsideWindow ∷ []
refusals_of (calls.Copying (Copying.Touchwin win)) = NoSuchWindow ∷ []
refusals_of (calls.Copying (Copying.Untouchwin win)) = NoSuchWindow ∷ []
refusals_of (calls.Copying (Copying.Touchline win y n)) = NoSuchWindow ∷ OutsideWindow ∷ []
refusals_of (calls.Copying (Copying.Touchln win y n flag)) = NoSuchWindow ∷ OutsideWindow ∷ []
refusals_of (calls.Copying (Copying.Syncup win)) = NoSuchWindow ∷ []
refusals_of (calls.Copying (Copying.Syncdown win)) = NoSuchWindow ∷ []
refusals_of (calls.Copying (Copying.IsLinetouched win y)) = NoSuchWindow ∷ OutsideWindow ∷ []
refusals_of (calls.Copying (Copying.IsWintouched win)) = NoSuchWindow ∷ []
refusals_of (calls.Query (Query.Getyx win)) = NoSuchWindow ∷ []
refusals_of (calls.Query (Query.Getbegyx win)) = NoSuchWindow ∷ IsPad ∷ []
refusals_of (calls.Query (Query.Getmaxyx win)) = NoSuchWindow ∷ []
refusals_of (calls.Query (Query.Getparyx win)) = NoSuchWindow ∷ NotDerived ∷ []
refusals_of (calls.Query (Query.Inch win)) = NoSuchWindow ∷ []
refusals_of (calls.Stacking (Stacking.NewPanel win)) = NoSuchWindow ∷ StandardScreen ∷ IsPad ∷ InPanel ∷ TooMany ∷ NoMemory ∷ []
refusals_of (calls.Stacking (Stacking.DelPanel panel)) = NoSuchPanel ∷ []
refusals_of (calls.Stacking (Stacking.ShowPanel panel)) = NoSuchPanel ∷ []
refusals_of (calls.Stacking (Stacking.HidePanel panel)) = NoSuchPanel ∷ Hidden ∷ []
refusals_of (calls.Stacking (Stacking.TopPanel panel)) = NoSuchPanel ∷ Hidden ∷ []
refusals_of (calls.Stacking (Stacking.BottomPanel panel)) = NoSuchPanel ∷ Hidden ∷ []
refusals_of (calls.Stacking (Stacking.MovePanel panel y x)) = NoSuchPanel ∷ OffScreen ∷ []
refusals_of (calls.Stacking (Stacking.ReplacePanel panel win)) = NoSuchPanel ∷ NoSuchWindow ∷ StandardScreen ∷ IsPad ∷ InPanel ∷ []
refusals_of (calls.Stacking (Stacking.PanelAbove None)) = []
refusals_of (calls.Stacking (Stacking.PanelAbove (Some panel))) = NoSuchPanel ∷ Hidden ∷ []
refusals_of (calls.Stacking (Stacking.PanelBelow None)) = []
refusals_of (calls.Stacking (Stacking.PanelBelow (Some panel))) = NoSuchPanel ∷ Hidden ∷ []
refusals_of (calls.Stacking (Stacking.PanelWindow panel)) = NoSuchPanel ∷ []
refusals_of (calls.Stacking (Stacking.PanelHidden panel)) = NoSuchPanel ∷ []
refusals_of (calls.Refresh (Refresh.Noutrefresh win)) = NoSuchWindow ∷ IsPad ∷ []
refusals_of (calls.Refresh (Refresh.Pnoutrefresh pad pminrow pmincol sminrow smincol smaxrow smaxcol)) = NoSuchWindow ∷ NotPad ∷ BadRectangle ∷ OutsideWindow ∷ OffScreen ∷ []
refusals_of (calls.Refresh Refresh.UpdatePanels) = []
refusals_of (calls.Refresh Refresh.Doupdate) = []
refusals_of (calls.Refresh (Refresh.InitPair pair foreground background)) = BadPair ∷ []
