-- A write through a window leaves the picture as it is at every place of the screen where its frame isn't shown.
use Rattle.std.specs.Prelude.{◌≡◌, ◌-◌, ◌<◌, ◌∷◌}
use Rattle.world.specs.{ℕ, Bool, true, false, Option, Some, None, IsSome, List, [], ap, arith, refl, option_map_or, list_any, and_parts, and_from, or_parts, Drawing, GridPlace, HasPlace, Window}
use Rattle.world.specs.{WindowMap, Windows, own, put_windows, Covers, IsFrameOf, IsIn, frame_of, frame_of_two, Panels, cell_on_screen, found_from_top, holds, place_of, standard_screen}
use Rattle.world.specs.{windows_from_top, windows_of_picture, is_same_place, AreSoundWindows, frame_shows_at, shows_at, Rect}
use mathlib.Core.Path.{fun_ext}
use Rattle.world.proofs.Below.{any_in-some, any_in-true}
use Rattle.world.proofs.FrameLaws.{frame_of-is}
use Rattle.world.proofs.SharingLaws.{true-same}
use Rattle.world.proofs.ViewLaws.{found-same, holds-same, on_screen-same, outline, outline_of, passes-none, place-same}
use Rattle.world.proofs.WindowLaws.{own-put, put-keeps}

-- ---- a write leaves sizes and places

module _ (window : WindowMap) (w : ℕ) (f : Drawing) where
  pub outline-put : (u : ℕ) → outline_of (put_windows window w f u) ≡ outline_of (window u)
  outline-put u = grind arith

-- ---- windows of the same sizes and places, whose places lead where they led: a frame is shown where it was

pub record SameView (new old : WindowMap) : Type 0 where
  pub outlines : (u : ℕ) → outline_of (new u) ≡ outline_of (old u)
  pub places : (u y x : ℕ) → own new u y x ≡ own old u y x

module _ (new old : WindowMap) (same : SameView new old) where
  shows-same : (w : ℕ) (r : Rect) (y x u : ℕ) → shows_at new w r y x u ≡ shows_at old w r y x u
  shows-same w r y x u = grind (arith, holds-same, place-same)

  pub frame_shows-same : (panels : Panels) (w : ℕ) (o : Option Rect) (y x : ℕ) → frame_shows_at new panels w o y x ≡ frame_shows_at old panels w o y x
  frame_shows-same panels w (Some r) y x = ap (λ (test : ℕ → Bool). list_any test (windows_of_picture panels)) (fun_ext (shows-same w r y x))
  frame_shows-same panels w o y x = refl

-- ---- the frame of two drawings is shown where either one's is

pub any-more : (test more : ℕ → Bool) → ((u : ℕ) → test u ≡ true → more u ≡ true) → (us : List ℕ) → list_any test us ≡ true → list_any more us ≡ true
any-more test more h [] some = some
any-more test more h (u ∷ us) some = grind (arith, (any-more test more h us))

module _ (window : WindowMap) (panels : Panels) (w y x : ℕ) where
  shows-more : (r s : Rect) → ((v z : ℕ) → IsIn r v z → IsIn s v z) → (u : ℕ) → shows_at window w r y x u ≡ true → shows_at window w s y x u ≡ true
  shows-more r s h u shown = let parts = and_parts _ _ shown in let found = any_in-true r _ parts.1 in and_from _ _ parts.0 (any_in-some s _ found.line found.column (h _ _ found.inside) found.passes)

  unless-more : (r s : Rect) → ((v z : ℕ) → IsIn r v z → IsIn s v z) → frame_shows_at window panels w (Some s) y x ≡ false → frame_shows_at window panels w (Some r) y x ≡ false
  unless-more r s h free = grind (arith, (any-more _ _ (shows-more r s h) (windows_of_picture panels)))

  pub joined-free : (o p : Option Rect) → frame_shows_at window panels w (frame_of_two o p) y x ≡ false
      → (frame_shows_at window panels w o y x ≡ false) × (frame_shows_at window panels w p y x ≡ false)
  joined-free (Some r) (Some s) free = grind (arith, unless-more)
  joined-free o p free = grind arith

-- ---- one write

-- the window has the size of a
module _ (window : WindowMap) (panels : Panels) (w : ℕ) (a : Window) (f : Drawing) (y x : ℕ) (size : outline_of (window w) ≡ Some (outline a)) where
  module _ (u : ℕ) (there : holds window u y x ≡ true) (free : option_map_or (λ r. shows_at window w r y x u) (frame_of a f) false ≡ false) where
    line : ℕ
    line = y - (place_of window u).0

    column : ℕ
    column = x - (place_of window u).1

    apart : (s : GridPlace) → own window u line column ≡ Some s → (v z : ℕ) → HasPlace window w v z → IsSome (f v z) → own window w v z ≡ own window u line column → ⊥
    unfolding line column
    apart s leads v z has some same = by_frame (frame_of a f) (frame_of-is a f) free where
      by_frame : (o : Option Rect) → IsFrameOf (Covers f a.columns a.lines) o → option_map_or (λ r. shows_at window w r y x u) o false ≡ false → ⊥
      by_frame None frame free = grind arith
      by_frame (Some r) frame free = grind (arith, (any_in-some r (λ k l. is_same_place (own window w k l) (own window u line column)) v z), true-same)

    cell-kept : cell_on_screen (put_windows window w f) u y x ≡ cell_on_screen window u y x
    unfolding line column
    cell-kept = grind (arith, on_screen-same, outline-put, own-put, put-keeps, apart)

  -- where the frame isn't shown, no window shows it
  each-free : (o : Option Rect) → frame_shows_at window panels w o y x ≡ false
      → (option_map_or (λ r. shows_at window w r y x standard_screen) o false ≡ false)
      × (list_any (λ u. option_map_or (λ r. shows_at window w r y x u) o false) (windows_from_top panels) ≡ false)
  each-free o h = grind (arith, (passes-none (windows_from_top panels)), or_parts)

  pub found-put : holds window standard_screen y x ≡ true → frame_shows_at window panels w (frame_of a f) y x ≡ false
      → found_from_top (put_windows window w f) panels y x ≡ found_from_top window panels y x
  found-put standard free =
      let none = each-free (frame_of a f) free in
      let kept = found-same (put_windows window w f) window panels y x (λ u. option_map_or (λ r. shows_at window w r y x u) (frame_of a f) false) in
      grind (arith, holds-same, outline-put, cell-kept)

-- ---- the standard screen holds each place of the screen

pub standard-holds : (windows : Windows) (y x : ℕ) → AreSoundWindows windows → y < windows.lines → x < windows.columns → holds windows.window standard_screen y x ≡ true
standard-holds windows y x sound below left = grind arith
