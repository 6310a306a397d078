-- Refreshing leaves a sound virtual screen sound, and so does each other effect.
use Rattle.std.specs.Prelude.{◌≡◌, ◌<◌, ◌∷◌}
use Rattle.world.specs.{ℕ, Bool, true, false, Option, Some, None, List, [], map, arith, zero-add, MatchOption, find, ⊤, option_map_or, AllByRecursion, range_with_len, nat_tests, length-set}
use Rattle.world.specs.{All-from_recursion, All-from_get_or, All-get_or, recursion_from_All, length-map-range_with_len, get_or-map-range_with_len, Glyph, IsCell, Picture, Place, origin, AreShown}
use Rattle.world.specs.{HasSize, picture_of, shown_at, ArePairs, IsShown, Pairs, Shown, shown, Window, WindowMap, Windows, World, picture, Panels, cursor_from, holds, panel_holds}
use Rattle.world.specs.{screen_place, standard_screen, window_or_standard, IsSound, IsSoundVirtual, IsSoundWindow, Effect, after, composes, refreshes, shown_over, refresh_effect, refresh_refusal}
use Rattle.cell.proofs.PictureLemmas.{HasSize-lines_from, each-set, length-line}
use Rattle.world.specs.declared.written_calls.Refresh.{Refresh}
use Rattle.world.specs.declared.written_calls.Refresh.TheVariants.{Pnoutrefresh}
use Rattle.world.proofs.Fits.{FitsEffect}
use Rattle.world.proofs.PictureLaws.{standard-holds}
use Rattle.world.proofs.SoundCells.{copied-cells, held-cell}
use Rattle.world.proofs.PlaceLaws.{has_place, there-true}

-- ---- what is shown

shown-is : (pairs : Pairs) (glyph : Glyph) → ArePairs pairs → IsCell glyph → IsShown (shown pairs glyph)
shown-is pairs glyph h cell = search (arith, All-get_or, All-from_recursion)

over-is : (lines columns : ℕ) (pairs : Pairs) (picture : Picture) (o : Option Glyph) (y x : ℕ) → ArePairs pairs → HasSize lines columns picture → AreShown picture
    → MatchOption o ⊤ IsCell → y < lines → x < columns → IsShown (option_map_or (shown pairs) o (shown_at picture (y, x)))
over-is lines columns pairs picture None y x h size old cell below left = search (arith, All-get_or, All-from_recursion, length-line)
over-is lines columns pairs picture (Some glyph) y x h size old cell below left = shown-is pairs glyph h cell

each-below : {X : Type 0} (P : X → Type 0) (f : ℕ → X) (n : ℕ) → ((k : ℕ) → k < n → P (f k)) → AllByRecursion P (map f (range_with_len 0 n))
each-below P f n h = search (arith, recursion_from_All, All-from_get_or, length-map-range_with_len, get_or-map-range_with_len, zero-add)

abbrev IsWithin : Windows → Place → Type 0
IsWithin windows place = (place.0 < windows.lines) × (place.1 < windows.columns)

-- each cell is shown, and the cursor is in the screen
screen-of : (windows : Windows) (f : ℕ → ℕ → Shown) (cursor : Place) (clear : Bool) → ((y x : ℕ) → y < windows.lines → x < windows.columns → IsShown (f y x)) → IsWithin windows cursor
    → IsSoundVirtual windows.lines windows.columns (record { picture = picture_of windows.lines windows.columns f; cursor = cursor; clear = clear })
screen-of windows f cursor clear each within = search (arith, HasSize-lines_from, each-below)

-- ---- the cursor

-- that of a window that is on the screen
cursor-in : (windows : Windows) (w : ℕ) (o : Option Window) → MatchOption o ⊤ (IsSoundWindow windows w) → has_place o ≡ true
    → IsWithin windows (option_map_or (cursor_from (option_map_or screen_place o origin)) o origin)
cursor-in windows w o h there = grind arith

-- ---- the cells

-- the search stops at a window that holds the place
found-holds : (window : WindowMap) (panels : Panels) (y x : ℕ) (ps : List ℕ) → holds window standard_screen y x ≡ true
    → holds window (window_or_standard panels (find (panel_holds window panels y x) ps)) y x ≡ true
found-holds window panels y x [] h = h
found-holds window panels y x (p ∷ ps) h = grind (arith, (found-holds window panels y x ps))

-- ---- each effect

pub sound-virtual : (world : World) (effect : Effect) → IsSound world → FitsEffect world effect
    → IsSoundVirtual world.windows.lines world.windows.columns (after world effect).virtual
sound-virtual world (refreshes w test drawing cursor) h fits = screen-of world.windows (shown_over world.pairs world.virtual.picture drawing) cursor _
    (λ y x below left. over-is _ _ world.pairs world.virtual.picture (drawing y x) y x h.pairs h.virtual.size h.virtual.cells (fits.0 y x) below left) (fits.1, fits.2)
sound-virtual world composes h fits = screen-of world.windows (picture world) _ _
    (λ y x below left. shown-is world.pairs _ h.pairs (grind (arith, held-cell, found-holds, standard-holds))) (grind (arith, cursor-in, there-true))
sound-virtual world effect h fits = grind arith

-- ---- each call

pub fits-refresh : (world : World) (refresh : Refresh) → IsSound world → refresh_refusal world refresh ≡ None → FitsEffect world (refresh_effect world refresh)
fits-refresh world (Pnoutrefresh pad y x top left bottom right) h accepted = grind (arith, nat_tests, (copied-cells world.windows pad.0 y x top left bottom right false))
fits-refresh world refresh h accepted = grind (arith, nat_tests, cursor-in, held-cell, length-set, each-set)
