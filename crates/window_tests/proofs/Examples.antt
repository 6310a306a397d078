-- Which lines and places of a small screen calls affect, and what panels own, for a reader of the definitions.
use Rattle.std.proofs.Common.{◌≡◌, ℕ, Bool, true, false, List, [], ◌∷◌, Some, None, if◌then◌else◌, ◌==◌, ◌||◌, refl}
use Rattle.std.specs.Prelude.{fold, filter}
use Rattle.std.specs.List.{range_with_len}
use Rattle.world.specs.WindowMaps.{ancestors, derives, window_limit}
use Rattle.world.specs.Frames.{frame_above, frame_in_line}
use Rattle.world.specs.PanelOrder.{owner, topmost, panel_limit}
use Rattle.world.specs.Worlds.{World, first_world}
use Rattle.world.specs.calls.Dispatch.{refusal, world_after}
use Rattle.world.specs.calls.Affected.{affected_lines, bound_on_reads, no_lines, affects_place}
use Rattle.cell.specs.declared.refusal.Refusal.TheVariants.{HasDerived, InPanel}
use Rattle.cell.specs.declared.window.WinId.{WinId}
use Rattle.world.specs.declared.call.Call.{Call}
use Rattle.world.specs.declared.call.Call.TheVariants.{Making, Writing, Refresh}
use Rattle.world.specs.declared.call.Making.TheVariants.{Newwin, Derwin, Delwin, Mvwin, Mvderwin}
use Rattle.world.specs.declared.call.Writing.TheVariants.{Addch, Move}
use Rattle.world.specs.declared.call.Refresh.TheVariants.{Noutrefresh, UpdatePanels}

unfoldable pub win : ℕ → WinId
win w = record { 0 = w }

-- a character written in window w
addch : ℕ → Call
unfolding win
addch w = Writing (Addch (win w) 120)

update_panels : Call
update_panels = Refresh UpdatePanels

-- the world that calls leave of a screen of 4 lines and 10 columns
unfoldable pub screen_after : List Call → World
screen_after calls = fold world_after (first_world 4 10) calls

-- the affected lines in their order
lines : World → Call → List ℕ
lines world call = filter (affected_lines world call) (range_with_len 0 4)

-- the first panel is window 1's, the second window 2's, and so on, as far as these go; such of them are visible, from bottom to top
with_panels : World → (ℕ → Bool) → List ℕ → World
with_panels world is_panel visible = record world { panels = record { visible = visible; window = λ p. if is_panel p then Some p else None } }

-- ---- the standard screen

blank : World
unfolding screen_after
blank = screen_after []

line_of_character : lines blank (addch 0) ≡ 0 ∷ []
unfolding lines blank screen_after addch win window_limit frame_above frame_in_line
line_of_character = refl

line_of_lower_character : lines (world_after blank (Writing (Move (win 0) 2 5))) (addch 0) ≡ 2 ∷ []
unfolding lines blank screen_after addch win window_limit frame_above frame_in_line
line_of_lower_character = refl

-- a call that writes nothing, and one that is refused
no_line_of_move : lines blank (Writing (Move (win 0) 2 5)) ≡ []
unfolding lines blank screen_after win
no_line_of_move = refl

no_line_of_refused : lines blank (addch 1) ≡ []
unfolding lines blank screen_after addch win
no_line_of_refused = refl

-- ---- window 1 on lines 0 and 1; window 2 shows its first line on line 2

shared : World
unfolding screen_after win
shared = screen_after (Making (Newwin 2 5 0 0) ∷ Making (Derwin (win 1) 1 5 0 0) ∷ Making (Mvwin (win 2) 2 5) ∷ [])

both : World
unfolding shared screen_after win with_panels
both = with_panels shared (λ p. p == 1 || p == 2) (1 ∷ 2 ∷ [])

-- a character of window 1 is seen in window 2 too, covered or not
lines_of_shared : lines both (addch 1) ≡ 0 ∷ 2 ∷ []
unfolding lines both shared screen_after with_panels addch win window_limit frame_above frame_in_line
lines_of_shared = refl

-- window 2 alone is seen
line_of_hidden : lines (with_panels shared (λ p. p == 1 || p == 2) (2 ∷ [])) (addch 1) ≡ 2 ∷ []
unfolding lines shared screen_after with_panels addch win window_limit frame_above frame_in_line
line_of_hidden = refl

-- the second line of window 1, which window 2 doesn't show
line_of_unshared : lines (world_after both (Writing (Move (win 1) 1 0))) (addch 1) ≡ 1 ∷ []
unfolding lines both shared screen_after with_panels addch win window_limit frame_above frame_in_line
line_of_unshared = refl

-- without panels neither window is seen
no_line_without_panels : lines shared (addch 1) ≡ []
unfolding lines shared screen_after addch win window_limit frame_above frame_in_line
no_line_without_panels = refl

-- ---- window 3 derives from window 2, and that from window 1

chain : World
unfolding screen_after win
chain = screen_after (Making (Newwin 1 6 0 0) ∷ Making (Derwin (win 1) 1 4 0 0) ∷ Making (Derwin (win 2) 1 2 0 1) ∷ [])

its_ancestors : ancestors chain.windows.window 3 ≡ 2 ∷ 1 ∷ []
unfolding chain screen_after win window_limit
its_ancestors = refl

derives_at_depth : (derives chain.windows.window 1 3 ≡ true) × (derives chain.windows.window 3 1 ≡ false)
unfolding chain screen_after win window_limit
derives_at_depth = (refl, refl)

-- window 2 is moved in window 1: window 3, which is seen, shows other cells
line_of_descendant : lines (with_panels chain (λ p. p == 3) (3 ∷ [])) (Making (Mvderwin (win 2) 0 1)) ≡ 0 ∷ []
unfolding lines chain screen_after with_panels win window_limit
line_of_descendant = refl

-- window 1, from which it derives, doesn't
no_line_of_ancestor : lines (with_panels chain (λ p. p == 1) (1 ∷ [])) (Making (Mvderwin (win 2) 0 1)) ≡ []
unfolding lines chain screen_after with_panels win window_limit
no_line_of_ancestor = refl

-- ---- places on these lines

-- the affected columns of a line
unfoldable pub columns : World → Call → ℕ → List ℕ
columns world call y = filter (affects_place world call y) (range_with_len 0 10)

column_of_character : (columns blank (addch 0) 0 ≡ 0 ∷ []) × (columns blank (addch 0) 1 ≡ [])
unfolding columns blank screen_after addch win window_limit frame_above frame_in_line
column_of_character = (refl, refl)

-- the character of window 1 is seen in window 2 too, which is on line 2 from column 5 on
columns_of_shared : (columns both (addch 1) 0 ≡ 0 ∷ []) × (columns both (addch 1) 1 ≡ []) × (columns both (addch 1) 2 ≡ 5 ∷ [])
unfolding columns both shared screen_after with_panels addch win window_limit frame_above frame_in_line
columns_of_shared = (refl, refl, refl)

-- window 2 alone is seen
columns_of_hidden : (columns (with_panels shared (λ p. p == 1 || p == 2) (2 ∷ [])) (addch 1) 0 ≡ []) × (columns (with_panels shared (λ p. p == 1 || p == 2) (2 ∷ [])) (addch 1) 2 ≡ 5 ∷ [])
unfolding columns shared screen_after with_panels addch win window_limit frame_above frame_in_line
columns_of_hidden = (refl, refl)

-- all of window 3, which derives from the moved window 2
columns_of_descendant : columns (with_panels chain (λ p. p == 3) (3 ∷ [])) (Making (Mvderwin (win 2) 0 1)) 0 ≡ 1 ∷ 2 ∷ []
unfolding columns chain screen_after with_panels win window_limit
columns_of_descendant = refl

-- window 2 is taken into the virtual screen: of what was touched, the one character
columns_of_refresh : (columns (world_after both (addch 2)) (Refresh (Noutrefresh (win 2))) 2 ≡ 5 ∷ []) × (columns both (Refresh (Noutrefresh (win 2))) 2 ≡ [])
unfolding columns both shared screen_after with_panels addch win window_limit frame_above frame_in_line
columns_of_refresh = (refl, refl)

-- ---- what update_panels may read

-- nothing yet; a line of 10 columns, written twice; nothing more
one_line_of_columns : bound_on_reads blank no_lines ((update_panels, true) ∷ (addch 0, true) ∷ (addch 0, true) ∷ (update_panels, true) ∷ (update_panels, true) ∷ []) ≡ 10
unfolding blank screen_after addch update_panels win window_limit frame_above frame_in_line
one_line_of_columns = refl

two_lines_of_columns : bound_on_reads both no_lines ((addch 1, true) ∷ (addch 1, true) ∷ (update_panels, true) ∷ []) ≡ 20
unfolding both shared screen_after with_panels addch update_panels win window_limit frame_above frame_in_line
two_lines_of_columns = refl

-- ---- panels

-- where panels 1 and 2 would both be, the top one is; elsewhere there is none
owners : (owner both.windows.window both.panels 0 0 ≡ Some 1) × (owner both.windows.window both.panels 2 5 ≡ Some 2) × (owner both.windows.window both.panels 3 0 ≡ None)
unfolding both shared screen_after with_panels win window_limit
owners = (refl, refl, refl)

top_panel : (topmost both.panels ≡ Some 2) × (topmost blank.panels ≡ None)
unfolding both blank screen_after with_panels
top_panel = (refl, refl)

-- a window in a panel is neither deleted nor moved by itself, and that refusal goes before the one for windows that derive from it
in_panel : (refusal both (Making (Delwin (win 1))) ≡ Some InPanel) × (refusal both (Making (Mvwin (win 2) 9 9)) ≡ Some InPanel)
unfolding both shared screen_after with_panels win panel_limit window_limit
in_panel = (refl, refl)

in_no_panel_now : refusal (with_panels shared (λ p. false) []) (Making (Delwin (win 1))) ≡ Some HasDerived
unfolding shared screen_after with_panels win panel_limit window_limit
in_no_panel_now = refl
