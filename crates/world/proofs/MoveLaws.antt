-- Making, deleting and moving windows: which places of the screen keep what the search finds there.
use Rattle.std.specs.Prelude.{◌≡◌, ◌<◌, ◌==◌}
use Rattle.world.specs.{ℕ, zero, suc, Bool, true, false, Option, Some, None, IsSome, ap, arith, refl, option_map_or, list_any, eqb-false, false_from_ne_true, or_from, ne_eqb, GridPlace, Window}
use Rattle.world.specs.{WindowMap, Windows, ancestors_within, derives, own, own_within, window_limit, Panels, cell_on_screen, found_from_top, holds, standard_screen, windows_from_top}
use Rattle.world.specs.{AreSoundPanels, AreSoundWindows, Change, after_change, deletes, after_marks, moved_to, moves, under_number, shifted_to, has_derived, has_no_parent, is_part_of}
use Rattle.world.specs.{change_shows_at, follows_at, move_shows_at}
use mathlib.Core.Path.{fun_ext}
use Rattle.world.proofs.Allowed.{IsAllowed, not-in-panel, sound-panel}
use Rattle.world.proofs.AncestorLaws.{cell_at-beside, cell_at-moved, derives-moved, replaced-off}
use Rattle.world.proofs.Below.{any_below-some}
use Rattle.world.proofs.ViewLaws.{SameCells, cell_at-same, found-dressed, found-same, holds-same, on_screen-same, outline_of, passes-none}
use Rattle.world.proofs.WritingLaws.{found-edit}

-- ---- the standard screen derives from none, and isn't moved

standard-beside : (windows : Windows) (w : ℕ) → AreSoundWindows windows → derives windows.window w standard_screen ≡ false
standard-beside windows w sound = grind arith

-- ---- which windows show other cells after mvderwin is the same before it and after

module _ (windows : Windows) (w v z : ℕ) where
  window-moved : (u : ℕ) → outline_of ((shifted_to windows w (v, z)).window u) ≡ outline_of (windows.window u)
  window-moved u = grind arith

  pub move_shows-moved : (panels : Panels) (y x : ℕ) → move_shows_at (shifted_to windows w (v, z)).window panels w y x ≡ move_shows_at windows.window panels w y x
  move_shows-moved panels y x = ap (λ (test : ℕ → Bool). list_any test (windows_from_top panels)) (fun_ext (λ u. grind (arith, derives-moved)))

-- ---- mvderwin

module _ (windows : Windows) (panels : Panels) (w v z y x : ℕ) (sound : AreSoundWindows windows) (derived : has_no_parent windows.window w ≡ false) where
  moved : WindowMap
  moved = (shifted_to windows w (v, z)).window

  moved-kept : (u : ℕ) → (u ≡ w → ⊥) → derives windows.window w u ≡ false → cell_on_screen moved u y x ≡ cell_on_screen windows.window u y x
  unfolding moved
  moved-kept u other beside = grind (arith, on_screen-same, cell_at-moved)

  stays : (u : ℕ) → holds windows.window u y x ≡ true → follows_at windows.window w y x u ≡ false → cell_on_screen moved u y x ≡ cell_on_screen windows.window u y x
  stays u there fails = grind (arith, moved-kept, eqb-false)

  pub found-moved : move_shows_at windows.window panels w y x ≡ false → found_from_top (shifted_to windows w (v, z)).window panels y x ≡ found_from_top windows.window panels y x
  unfolding moved
  found-moved free = grind (arith, (found-same moved windows.window panels y x (follows_at windows.window w y x)), holds-same, window-moved, stays, moved-kept, standard-beside)

-- ---- a window in no panel, from which none in a panel derives: whatever becomes of it, no place shows another cell

module _ (new old : WindowMap) (panels : Panels) (w : ℕ) (same : (v : ℕ) → (v ≡ w → ⊥) → new v ≡ old v) where
  abbrev pub Apart : ℕ → Type 0
  Apart u = (u ≡ w → ⊥) × (derives old w u ≡ false)

  apart-kept : (y x u : ℕ) → Apart u → cell_on_screen new u y x ≡ cell_on_screen old u y x
  apart-kept y x u apart = grind (arith, on_screen-same, cell_at-beside)

  pub found-apart : ((p u : ℕ) → panels.window p ≡ Some u → Apart u) → Apart standard_screen
      → (y x : ℕ) → found_from_top new panels y x ≡ found_from_top old panels y x
  found-apart apart standard y x =
      found-same new old panels y x (λ u. false) (passes-none (windows_from_top panels)) (λ p u is. let other = apart p u is in grind arith)
      (λ p u is there fails. apart-kept y x u (apart p u is)) (apart-kept y x standard_screen standard)

-- ---- delwin

module _ (window : WindowMap) (w : ℕ) (none : (v : ℕ) → option_map_or (λ a. is_part_of w a.backing) (window v) false ≡ false) where
  pub underived : (n u : ℕ) → list_any (λ v. v == w) (ancestors_within n window u) ≡ false
  underived zero u = refl
  underived (suc n) u = grind (arith, or_from, (none u), (underived n))

pub no-part : (windows : Windows) (w : ℕ) → AreSoundWindows windows → has_derived windows.window w ≡ false
    → (v : ℕ) → option_map_or (λ a. is_part_of w a.backing) (windows.window v) false ≡ false
unfolding window_limit
no-part windows w sound none v = false_from_ne_true _ (λ derives_v.
    let sound_v = sound.each v in grind (arith, (any_below-some window_limit (λ u. option_map_or (λ a. is_part_of w a.backing) (windows.window u) false) v)))

found-deleted : (windows : Windows) (panels : Panels) (w y x : ℕ) → AreSoundWindows windows → AreSoundPanels windows.window panels
    → IsAllowed windows panels (deletes w) → found_from_top (under_number windows w None).window panels y x ≡ found_from_top windows.window panels y x
found-deleted windows panels w y x sound panels_sound allowed =
    let none = underived windows.window w (no-part windows w sound allowed.2) window_limit in
    let apart = not-in-panel windows.window panels w panels_sound allowed.1 in
    found-apart (under_number windows w None).window windows.window panels w (replaced-off windows.window w None) (grind (arith, apart, none)) (grind (arith, eqb-false, none)) y x

-- ---- a new window has a number that no window had

module _ (window : WindowMap) (n : ℕ) (free : window n ≡ None) where
  other-parent : (k parent y x : ℕ) (p : GridPlace) → own_within k window parent y x ≡ Some p → parent ≡ n → ⊥
  other-parent k parent y x p found same = grind arith

  leading : (k u y x : ℕ) (p : GridPlace) → own_within k window u y x ≡ Some p → list_any (λ v. v == n) (ancestors_within k window u) ≡ false
  leading zero u y x p found = cc
  leading (suc k) u y x p found = grind (arith, or_from, ne_eqb, other-parent, (leading k))

  pub leading-some : (u : ℕ) (o : Option GridPlace) → own window u 0 0 ≡ o → IsSome o → derives window n u ≡ false
  leading-some u o found some = grind (arith, leading)

found-new : (windows : Windows) (panels : Panels) (n : ℕ) (o : Option Window) (y x : ℕ) → AreSoundWindows windows → AreSoundPanels windows.window panels → windows.window n ≡ None
    → found_from_top (under_number windows n o).window panels y x ≡ found_from_top windows.window panels y x
found-new windows panels n o y x sound panels_sound free =
    grind (arith, (found-apart (under_number windows n o).window windows.window panels n (replaced-off windows.window n o)), sound-panel, leading-some)

-- ---- mvwin

module _ (windows : Windows) (w v z : ℕ) where
  pub holds-placed : (y x u : ℕ) → (u ≡ w → ⊥) → holds (moved_to windows w (v, z)).window u y x ≡ holds windows.window u y x
  holds-placed y x u other = grind (arith, ne_eqb)

  pub cell-placed : (y x u : ℕ) → (u ≡ w → ⊥) → cell_on_screen (moved_to windows w (v, z)).window u y x ≡ cell_on_screen windows.window u y x
  cell-placed y x u other = grind (arith, on_screen-same, cell_at-same)

found-placed : (windows : Windows) (panels : Panels) (w v z y x : ℕ) → AreSoundPanels windows.window panels → IsAllowed windows panels (moves w (v, z))
    → found_from_top (moved_to windows w (v, z)).window panels y x ≡ found_from_top windows.window panels y x
found-placed windows panels w v z y x sound allowed =
    let apart = not-in-panel windows.window panels w sound allowed.1 in
    found-same (moved_to windows w (v, z)).window windows.window panels y x (λ u. false) (passes-none (windows_from_top panels))
    (λ p u is. grind (arith, holds-placed)) (λ p u is here fails. grind (arith, cell-placed)) (grind (arith, cell-placed, eqb-false))

-- ---- marks

marked-cells : (windows : Windows) (test : ℕ → Bool) (change : ℕ → Window → Window) → SameCells (after_marks windows test change).window windows.window
marked-cells windows test change = grind arith

-- ---- each change

pub found-change : (windows : Windows) (panels : Panels) (change : Change) (y x : ℕ) → AreSoundWindows windows → AreSoundPanels windows.window panels
    → y < windows.lines → x < windows.columns → IsAllowed windows panels change → change_shows_at windows panels change y x ≡ false
    → found_from_top (after_change windows change).window panels y x ≡ found_from_top windows.window panels y x
found-change windows panels change y x sound panels_sound below left allowed free = grind (arith, found-edit, found-dressed, marked-cells, found-new, found-deleted, found-placed, found-moved)
