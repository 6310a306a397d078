-- What noutrefresh and pnoutrefresh do to small screens, for a reader of the definitions.
use Rattle.std.proofs.Common.{◌≡◌, ℕ, true, false, List, [], ◌∷◌, Some, None, refl}
use Rattle.std.specs.Prelude.{codes, filter, map}
use Rattle.std.specs.List.{range_with_len}
use Rattle.cell.specs.Pictures.{shown_at}
use Rattle.world.specs.WindowMaps.{window_limit}
use Rattle.world.specs.Worlds.{World}
use Rattle.world.specs.calls.Affected.{affected_lines}
use Rattle.world.specs.calls.Dispatch.{refusal, reply_of, world_after}
use Rattle.world.specs.calls.Queries.{touched_columns}
use Rattle.window_tests.proofs.CopyExamples.{typed}
use Rattle.window_tests.proofs.Examples.{screen_after, win}
use Rattle.cell.specs.declared.refusal.Refusal.TheVariants.{BadRectangle, IsPad, NoSuchWindow, NotPad, OffScreen, OutsideWindow}
use Rattle.world.specs.declared.call.Call.{Call}
use Rattle.world.specs.declared.call.Call.TheVariants.{Copying, Making, Refresh, Writing}
use Rattle.world.specs.declared.call.Copying.TheVariants.{IsWintouched, Syncup}
use Rattle.world.specs.declared.call.Making.TheVariants.{Derwin, Newpad, Newwin}
use Rattle.world.specs.declared.call.Writing.TheVariants.{Addch, Clear, Move}
use Rattle.world.specs.declared.call.Refresh.TheVariants.{Noutrefresh, Pnoutrefresh, UpdatePanels}
use Rattle.world.specs.declared.call.Reply.TheVariants.{Flag}

-- the characters of a line of the virtual screen
line_of_virtual : World → ℕ → List ℕ
line_of_virtual world y = map (λ x. (shown_at world.virtual.picture (y, x)).character) (range_with_len 0 10)

noutrefreshed : World → ℕ → World
unfolding win
noutrefreshed world w = world_after world (Refresh (Noutrefresh (win w)))

-- ---- a window of one line and three columns at (1, 1), of which all was written

one : World
unfolding noutrefreshed screen_after win typed
one = noutrefreshed (screen_after (Making (Newwin 1 3 1 1) ∷ typed 1 (codes "xyz"))) 1

copied_to_its_place : (line_of_virtual one 0 ≡ codes "          ") × (line_of_virtual one 1 ≡ codes " xyz      ") × (line_of_virtual one 2 ≡ codes "          ")
unfolding noutrefreshed line_of_virtual one screen_after win typed window_limit
copied_to_its_place = (refl, refl, refl)

-- the window's cursor is in its last column
cursor_wanted : one.virtual.cursor ≡ (1, 3)
unfolding noutrefreshed one screen_after win typed window_limit
cursor_wanted = refl

untouched_then : reply_of one (Copying (IsWintouched (win 1))) ≡ Flag false
unfolding noutrefreshed one screen_after win typed window_limit
untouched_then = refl

-- the picture of the world has none of it
gone_with_update : (line_of_virtual (world_after one (Refresh UpdatePanels)) 1 ≡ codes "          ") × ((world_after one (Refresh UpdatePanels)).virtual.cursor ≡ (0, 0))
unfolding noutrefreshed line_of_virtual one screen_after win typed window_limit
gone_with_update = (refl, refl)

-- ---- window 2 is line 1 of window 1 from column 2 on; what is written in it is touched of window 1 only by syncup

part : World
unfolding screen_after win
part = screen_after (Making (Newwin 2 5 0 0) ∷ Making (Derwin (win 1) 1 2 1 2) ∷ Writing (Addch (win 2) 120) ∷ [])

nothing_touched : line_of_virtual (noutrefreshed part 1) 1 ≡ codes "          "
unfolding noutrefreshed line_of_virtual part screen_after win window_limit
nothing_touched = refl

synced : World
unfolding noutrefreshed part screen_after win
synced = noutrefreshed (world_after part (Copying (Syncup (win 2)))) 1

touched_columns_alone : (line_of_virtual synced 0 ≡ codes "          ") × (line_of_virtual synced 1 ≡ codes "  x       ") × (synced.virtual.cursor ≡ (0, 0))
unfolding noutrefreshed line_of_virtual synced part screen_after win window_limit
touched_columns_alone = (refl, refl, refl)

-- window 2 keeps its touches
others_keep_touches : reply_of synced (Copying (IsWintouched (win 2))) ≡ Flag true
unfolding noutrefreshed synced part screen_after win window_limit
others_keep_touches = refl

-- ---- a pad, with `end` in its last columns

pad : World
unfolding screen_after win typed
pad = screen_after (Making (Newpad 6 20) ∷ Writing (Move (win 1) 5 17) ∷ typed 1 (codes "end"))

end : World
unfolding pad screen_after win typed
end = world_after pad (Refresh (Pnoutrefresh (win 1) 5 17 0 0 0 2))

end_shown : (line_of_virtual end 0 ≡ codes "end       ") × (line_of_virtual end 1 ≡ codes "          ") × (end.virtual.cursor ≡ (0, 0))
unfolding line_of_virtual end pad screen_after win typed window_limit
end_shown = (refl, refl, refl)

-- line 5 was copied from, and of line 4 nothing was
lines_untouched : (touched_columns pad.windows.window 1 5 ≡ Some (record { first = 17; last = 19 })) × (touched_columns end.windows.window 1 5 ≡ None) ×
    (touched_columns (world_after pad (Refresh (Pnoutrefresh (win 1) 4 17 0 0 0 2))).windows.window 1 5 ≡ Some (record { first = 17; last = 19 }))
unfolding end pad screen_after win typed window_limit
lines_untouched = (refl, refl, refl)

-- ---- the lines to which cells are copied

lines : World → Call → List ℕ
lines world call = filter (affected_lines world call) (range_with_len 0 4)

copied_lines : (lines (world_after part (Copying (Syncup (win 2)))) (Refresh (Noutrefresh (win 1))) ≡ 1 ∷ []) × (lines part (Refresh (Noutrefresh (win 1))) ≡ [])
unfolding lines part screen_after win window_limit
copied_lines = (refl, refl)

lines_of_the_rectangle : (lines pad (Refresh (Pnoutrefresh (win 1) 0 0 1 0 2 0)) ≡ 1 ∷ 2 ∷ []) × (lines pad (Refresh (Pnoutrefresh (win 1) 0 0 1 0 4 0)) ≡ [])
unfolding lines pad screen_after win typed window_limit
lines_of_the_rectangle = (refl, refl)

-- ---- refusals, in the order of the tests

of_windows : (refusal pad (Refresh (Noutrefresh (win 2))) ≡ Some NoSuchWindow) × (refusal pad (Refresh (Noutrefresh (win 1))) ≡ Some IsPad) × (refusal pad (Refresh (Noutrefresh (win 0))) ≡ None)
unfolding pad screen_after win typed window_limit
of_windows = (refl, refl, refl)

of_pads : (refusal pad (Refresh (Pnoutrefresh (win 2) 0 0 1 0 0 0)) ≡ Some NoSuchWindow) × (refusal pad (Refresh (Pnoutrefresh (win 0) 0 0 1 0 0 0)) ≡ Some NotPad) ×
    (refusal pad (Refresh (Pnoutrefresh (win 1) 9 9 1 0 0 0)) ≡ Some BadRectangle)
unfolding pad screen_after win typed window_limit
of_pads = (refl, refl, refl)

of_rectangles : (refusal pad (Refresh (Pnoutrefresh (win 1) 5 18 0 0 0 2)) ≡ Some OutsideWindow) × (refusal pad (Refresh (Pnoutrefresh (win 1) 5 18 4 9 4 11)) ≡ Some OutsideWindow) ×
    (refusal pad (Refresh (Pnoutrefresh (win 1) 0 0 3 9 3 10)) ≡ Some OffScreen) × (refusal pad (Refresh (Pnoutrefresh (win 1) 0 0 4 0 4 0)) ≡ Some OffScreen) ×
    (refusal pad (Refresh (Pnoutrefresh (win 1) 0 0 3 9 3 9)) ≡ None)
unfolding pad screen_after win typed window_limit
of_rectangles = (refl, refl, refl, refl, refl)

-- ---- a clear screen: clear asks for it, and a refresh of the window passes that on

cleared : World
unfolding noutrefreshed one screen_after win typed
cleared = world_after one (Writing (Clear (win 1)))

clear_handed_on : (cleared.virtual.clear ≡ false) × ((noutrefreshed cleared 1).virtual.clear ≡ true) × ((noutrefreshed (noutrefreshed cleared 1) 1).virtual.clear ≡ true)
unfolding noutrefreshed cleared one screen_after win typed window_limit
clear_handed_on = (refl, refl, refl)

-- another window asks for nothing, and passes nothing on
clear_of_one_window : (noutrefreshed cleared 0).virtual.clear ≡ false
unfolding noutrefreshed cleared one screen_after win typed window_limit
clear_of_one_window = refl
