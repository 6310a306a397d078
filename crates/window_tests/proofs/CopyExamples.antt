-- What copying and touching do to small windows, for a reader of the definitions.
use Rattle.std.proofs.Common.{◌≡◌, ℕ, Bool, true, false, List, ◌∷◌, Some, refl}
use Rattle.std.specs.Prelude.{codes, map, ◌++◌}
use Rattle.std.specs.List.{range_with_len}
use Rattle.world.specs.WindowMaps.{cell_at, window_limit}
use Rattle.world.specs.Frames.{frame_above, frame_in_line}
use Rattle.world.specs.Worlds.{World}
use Rattle.world.specs.calls.Dispatch.{call_frame, refusal, reply_of, world_after}
use Rattle.world.specs.calls.Queries.{touched_columns}
use Rattle.window_tests.proofs.Examples.{screen_after, win}
use Rattle.cell.specs.declared.refusal.Refusal.TheVariants.{BadRectangle, IsPad, OutsideWindow}
use Rattle.world.specs.declared.call.Call.{Call}
use Rattle.world.specs.declared.call.Call.TheVariants.{Making, Writing, Copying}
use Rattle.world.specs.declared.call.Making.TheVariants.{Newwin, Derwin, Newpad}
use Rattle.world.specs.declared.call.Writing.TheVariants.{Addch}
use Rattle.world.specs.declared.call.Copying.TheVariants.{Overlay, Overwrite, Copywin, Untouchwin, Touchline, Syncup, Syncdown, IsLinetouched, IsWintouched}
use Rattle.world.specs.declared.call.Reply.TheVariants.{Flag}

-- the characters of a text written in window w
unfoldable pub typed : ℕ → List ℕ → List Call
unfolding win
typed w text = map (λ character. Writing (Addch (win w) character)) text

-- the characters in the first n columns of the first line of window w
shown : World → ℕ → ℕ → List ℕ
shown world w n = map (λ x. (cell_at world.windows.window w 0 x).character) (range_with_len 0 n)

-- from column 0 to column dx on in the first lines of two windows, up to column last
copy : ℕ → ℕ → ℕ → ℕ → Bool → Call
unfolding win
copy src dst dx last overlay = Copying (Copywin (win src) (win dst) 0 0 0 dx 0 last overlay)

-- ---- a line copied over itself

line : World
unfolding screen_after win typed
line = screen_after (Making (Newwin 1 6 0 0) ∷ typed 1 (codes "abcdef"))

over_itself : shown (world_after line (copy 1 1 2 5 false)) 1 6 ≡ codes "ababcd"
unfolding shown line screen_after win typed copy window_limit
over_itself = refl

its_frame : call_frame line (copy 1 1 2 5 false) ≡ Some (record { top = 0; left = 2; bottom = 0; right = 5 })
unfolding line screen_after win typed copy window_limit frame_above frame_in_line
its_frame = refl

-- ---- what is left out

two : World
unfolding screen_after win typed
two = screen_after (Making (Newwin 1 3 0 0) ∷ Making (Newwin 1 3 0 0) ∷ typed 1 (codes "a b") ++ typed 2 (codes "xyz"))

spaces_left_out : shown (world_after two (Copying (Overlay (win 1) (win 2)))) 2 3 ≡ codes "ayb"
unfolding shown two screen_after win typed window_limit
spaces_left_out = refl

spaces_copied : shown (world_after two (Copying (Overwrite (win 1) (win 2)))) 2 3 ≡ codes "a b"
unfolding shown two screen_after win typed window_limit
spaces_copied = refl

-- ---- refusals

upside_down : refusal line (copy 1 1 3 2 false) ≡ Some BadRectangle
unfolding line screen_after win typed copy window_limit
upside_down = refl

past_the_source : refusal two (copy 1 2 0 3 false) ≡ Some OutsideWindow
unfolding two screen_after win typed copy window_limit
past_the_source = refl

of_a_pad : refusal (world_after two (Making (Newpad 2 2))) (Copying (Overlay (win 1) (win 3))) ≡ Some IsPad
unfolding two screen_after win typed window_limit
of_a_pad = refl

-- ---- windows 2 and 3 are parts of window 1, and overlap: what is copied from 2 to 3 touches 3 alone

parts : World
unfolding line screen_after win typed copy
parts = world_after (world_after (world_after (world_after line (Making (Derwin (win 1) 1 4 0 0))) (Making (Derwin (win 1) 1 4 0 2))) (Copying (Untouchwin (win 1)))) (copy 2 3 0 3 false)

seen_in_the_parent : shown parts 1 6 ≡ codes "ababcd"
unfolding shown parts line screen_after win typed copy window_limit
seen_in_the_parent = refl

destination_touched : (reply_of parts (Copying (IsWintouched (win 1))) ≡ Flag false) × (reply_of parts (Copying (IsWintouched (win 2))) ≡ Flag false)
    × (reply_of parts (Copying (IsWintouched (win 3))) ≡ Flag true)
unfolding parts line screen_after win typed copy window_limit
destination_touched = (refl, refl, refl)

no_lines_past_the_last : refusal parts (Copying (Touchline (win 1) 1 0)) ≡ Some OutsideWindow
unfolding parts line screen_after win typed copy window_limit
no_lines_past_the_last = refl

-- window 3's touched columns are the last four of window 1, and two of them are window 2's
handed_up : touched_columns (world_after parts (Copying (Syncup (win 3)))).windows.window 1 0 ≡ Some (record { first = 2; last = 5 })
unfolding parts line screen_after win typed copy window_limit
handed_up = refl

taken_down : touched_columns (world_after (world_after parts (Copying (Touchline (win 1) 0 1))) (Copying (Syncdown (win 2)))).windows.window 2 0 ≡ Some (record { first = 0; last = 3 })
unfolding parts line screen_after win typed copy window_limit
taken_down = refl

siblings_stay : reply_of (world_after parts (Copying (Syncup (win 3)))) (Copying (IsLinetouched (win 2) 0)) ≡ Flag false
unfolding parts line screen_after win typed copy window_limit
siblings_stay = refl
