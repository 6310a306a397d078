-- Making, deleting, moving and shifting a window leave sound windows sound.
use Rattle.std.specs.Prelude.{◌≡◌, ◌≢◌, ◌+◌, ◌-◌, ◌<◌, ◌≤◌, ◌==◌}
use Rattle.world.specs.{ℕ, zero, suc, Bool, true, false, Option, Some, None, List, map, arith, refl, sym, eqb, IsSome, IsSomeAnd, MatchOption, is_none, is_some, unwrap_or, ⊤, option_map_or}
use Rattle.world.specs.{list_any, range_with_len, eq-eqb, eqb-false, eqb-true, ne_eqb, nat_tests, list_any_at, get_or-map-range_with_len, length-map-range_with_len, le-length_from_below, Place}
use Rattle.world.specs.{MOST_WINDOWS, Window, WindowMap, Windows, own, own_within, parent_number, parent_of, window_limit, with_change, with_window, standard_screen}
use Rattle.world.specs.{AreSoundWindows, HasCells, IsSoundWindow, deletes, makes, moves, shifts, moved_to, shifted_to, under_number, with_part, with_place}
use Rattle.world.specs.{free_among, is_full, is_part_of, making_change, making_refusal, new_number, next_window}
use Rattle.world.specs.declared.written_calls.Making.{Making}
use Rattle.world.proofs.Allowed.{free-number, passed}
use Rattle.world.proofs.MoveLaws.{no-part}
use Rattle.world.proofs.Fits.{FitsChange, IsNewWindow}

-- ---- the chains of other windows

-- no window's parent is window w
abbrev NoParent : WindowMap → ℕ → Type 0
NoParent window w = (u : ℕ) → option_map_or (λ a. is_part_of w a.backing) (window u) false ≡ false

-- a window that is no parent is replaced by any or none
own-beside : (window : WindowMap) (w : ℕ) (o : Option Window) → NoParent window w
    → (m u y x : ℕ) → (u == w) ≡ false → own_within m (with_window window w o) u y x ≡ own_within m window u y x
own-beside window w o alone zero u y x other = refl
own-beside window w o alone (suc m) u y x other = let none = alone u in grind (arith, (own-beside window w o alone m))

-- one window is changed, and keeps its parent
own-changed : (window : WindowMap) (w : ℕ) (change : Window → Window) → ((a : Window) → parent_number (change a).backing ≡ parent_number a.backing)
    → (m u y x v z : ℕ) → is_some (own_within m (with_change window w change) u y x) ≡ is_some (own_within m window u v z)
own-changed window w change same zero u y x v z = refl
own-changed window w change same (suc m) u y x v z = grind (arith, same, (own-changed window w change same m))

-- ---- a chain is no longer than there are windows

-- how many windows there are among the first m of the chain of window u
abbrev depth : ℕ → WindowMap → ℕ → ℕ
depth zero window u = 0
depth (suc m) window u = option_map_or (λ a. suc (option_map_or (λ parent. depth m window parent) (parent_number a.backing) 0)) (window u) 0

depth-ended : (m : ℕ) (window : WindowMap) (u y x : ℕ) → IsSome (own_within m window u y x) → depth (suc m) window u ≡ depth m window u
depth-ended zero window u y x ended = cc
depth-ended (suc m) window u y x ended = grind (arith, (depth-ended m window))

module _ (window : WindowMap) (present : (u : ℕ) → MatchOption (parent_of window u) ⊤ (λ p. IsSome (window p))) where
  own-shallow : (m u y x : ℕ) → IsSome (window u) → depth (suc m) window u ≤ m → IsSome (own_within m window u y x)
  own-shallow zero u y x there shallow = grind arith
  own-shallow (suc m) u y x there shallow = let above = present u in grind (arith, (own-shallow m))

  unparented : (n : ℕ) → window n ≡ None → NoParent window n
  unparented n free u = let above = present u in grind (arith, eqb-true)

  -- n is no window's number: of each number up to its depth, 0 for n too, a window has that depth
  module _ (n m : ℕ) (free : window n ≡ None) (few : n ≤ m) (ended : (u : ℕ) → IsSome (window u) → (u ≤ m) × IsSome (own_within (suc m) window u 0 0)) where
    abbrev deep : ℕ → ℕ
    deep u = depth (suc m) window u

    abbrev depths : List ℕ
    depths = map deep (range_with_len 0 (suc m))

    has-deep : (u : ℕ) → u ≤ m → list_any (eqb (deep u)) depths ≡ true
    has-deep u below =
        list_any_at (eqb (deep u)) depths u 0 (omega (arith, length-map-range_with_len deep 0 (suc m))) (eq-eqb _ _ (sym (get_or-map-range_with_len deep 0 (suc m) u u 0 (omega arith) (omega arith))))

    has-below : (d u : ℕ) → deep u ≡ d → (q : ℕ) → q ≤ d → list_any (eqb q) depths ≡ true
    has-below zero u deeper q below = grind (arith, (has-deep n few))
    has-below (suc d) u deeper q below = grind (arith, ended, depth-ended, (has-deep n few), (has-deep u), (has-below d))

    own-parent : (u y x : ℕ) → IsSome (window u) → IsSome (own_within m window u y x)
    own-parent u y x there =
        own-shallow m u y x there (omega (arith, le-length_from_below depths (suc (deep u)) (λ q below. has-below (deep u) u refl q (omega (arith, below))), length-map-range_with_len deep 0 (suc m)))

    own-new : (a : Window) → MatchOption (parent_number a.backing) ⊤ (λ p. IsSome (window p)) → IsSome (own_within (suc m) (with_window window n (Some a)) n 0 0)
    own-new a there = grind (arith, eq-eqb, ne_eqb, own-parent, (own-beside window n (Some a) (unparented n free) m))

-- ---- sound windows

limit-is : window_limit ≡ suc MOST_WINDOWS
unfolding window_limit
limit-is = refl

module _ (windows : Windows) (sound : AreSoundWindows windows) where
  sound-at : (u : ℕ) (a : Window) → windows.window u ≡ Some a → IsSoundWindow windows u a
  sound-at u a is = grind arith

  sound-parent : (u : ℕ) → MatchOption (parent_of windows.window u) ⊤ (λ p. IsSome (windows.window p))
  sound-parent u = grind (arith, sound-at)

  sound-ended : (u : ℕ) → IsSome (windows.window u) → (u ≤ MOST_WINDOWS) × IsSome (own windows.window u 0 0)
  sound-ended u there = grind (arith, sound-at)

  sound-under : (w : ℕ) (o : Option Window) → NoParent windows.window w → w ≢ standard_screen
      → MatchOption o ⊤ (IsSoundWindow (under_number windows w o) w) → AreSoundWindows (under_number windows w o)
  sound-under w o alone other new = let same = λ (u : ℕ). own-beside windows.window w o alone window_limit u 0 0 in grind (arith, same, alone, sound-at, ne_eqb, eqb-true)

  own-made : (n : ℕ) (a : Window) → windows.window n ≡ None → n ≤ MOST_WINDOWS → HasCells windows.window a a.backing → IsSome (own (under_number windows n (Some a)).window n 0 0)
  own-made n a free few cells = rw limit-is (own-new windows.window sound-parent n MOST_WINDOWS free few (rw limit-is at sound-ended) a (grind arith))

pub sound-made : (windows : Windows) (n : ℕ) (o : Option Window) → AreSoundWindows windows → FitsChange windows (makes n o) → AreSoundWindows (under_number windows n o)
sound-made windows n None sound fits = absurd fits.2
sound-made windows n (Some a) sound (free, few, new) =
    sound-under windows sound n (Some a) (unparented windows.window (sound-parent windows sound) n free) (λ same. grind arith)
    (let cells = new.cells in let ends = own-made windows sound n a free few cells in grind (arith, eqb-true))

pub sound-deleted : (windows : Windows) (w : ℕ) → AreSoundWindows windows → FitsChange windows (deletes w) → AreSoundWindows (under_number windows w None)
sound-deleted windows w sound fits = sound-under windows sound w None (no-part windows w sound fits.1) fits.0 tt

pub sound-moved : (windows : Windows) (w : ℕ) (place : Place) → AreSoundWindows windows → FitsChange windows (moves w place) → AreSoundWindows (moved_to windows w place)
sound-moved windows w place sound fits =
    let same = λ (u : ℕ). own-changed windows.window w (with_place place.0 place.1) (λ a. refl) window_limit u 0 0 0 0 in grind (arith, same, (sound-at windows sound), eqb-true)

pub sound-shifted : (windows : Windows) (w : ℕ) (place : Place) → AreSoundWindows windows → FitsChange windows (shifts w place) → AreSoundWindows (shifted_to windows w place)
sound-shifted windows w place sound fits =
    let same = λ (u : ℕ). own-changed windows.window w (with_part place.0 place.1) (λ a. grind arith) window_limit u 0 0 0 0 in grind (arith, same, (sound-at windows sound), eqb-true)

-- ---- what the tests of a call ensure

free-few : (m k : ℕ) (window : WindowMap) (w : ℕ) → free_among m k window ≡ Some w → w < m + k
free-few zero k window w is = cc
free-few (suc m) k window w is = grind (arith, (free-few m (k + 1) window w))

makes-fits : (windows : Windows) (o : Option Window) (n : Option ℕ) → new_number windows.window ≡ n → is_none n ≡ false → IsSomeAnd o (IsNewWindow windows)
    → (windows.window (unwrap_or n standard_screen) ≡ None) × (unwrap_or n standard_screen ≤ MOST_WINDOWS) × IsSomeAnd o (IsNewWindow windows)
makes-fits windows o None is some new = cc
makes-fits windows o (Some n) is some new = (free-number _ 1 windows.window n is, omega (arith, limit-is, free-few (window_limit - 1) 1 windows.window n is), new)

makes-next : (windows : Windows) (o : Option Window) → is_full windows.window ≡ false → IsSomeAnd o (IsNewWindow windows) → FitsChange windows (makes (next_window windows) o)
makes-next windows o free new = makes-fits windows o _ refl free new

pub fits-making : (windows : Windows) (in_panel : ℕ → Bool) (making : Making) → AreSoundWindows windows → making_refusal windows in_panel making ≡ None
    → FitsChange windows (making_change windows making)
fits-making windows in_panel making sound passes = grind (arith, passed, eqb-false, nat_tests, makes-next, (sound-at windows sound))
