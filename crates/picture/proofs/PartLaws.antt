-- The part of the screen on which a window is, or on which it shows cells of another.
use Rattle.std.specs.Prelude.{◌≡◌, ◌+◌}
use Rattle.picture.specs.{ℕ, Bool, true, Some, arith, rules, and_parts, and_from, leb-true, le-leb, ltb-true, lt-ltb, Rect, AreRectangle, IsSmallest, SharesPart, Windows, shows_at, frame_holds}
use Rattle.picture.proofs.Held.{held-between}
use Rattle.picture.proofs.Placement.{IsPlacedAt}

true-alike : (b c : Bool) → (b ≡ true → c ≡ true) → (c ≡ true → b ≡ true) → b ≡ c
true-alike b c to from = grind arith

module _ (windows : Windows) (w top left lines : ℕ) (h : IsPlacedAt windows w (top, left) lines) where
  module _ (window_shown : ℕ) (r seen : Rect) (rectangle : AreRectangle (SharesPart windows.window window_shown r w) (Some seen)) where
    abbrev shifted : Rect
    shifted = record { top = top + seen.top; left = left + seen.left; bottom = top + seen.bottom; right = left + seen.right }

    pub shared-holds : (y x : ℕ) → shows_at windows.window window_shown r y x w ≡ true → frame_holds shifted y x ≡ true
    shared-holds y x is = grind (arith, and_parts, leb-true, ltb-true, and_from, le-leb)

    abbrev smallest : IsSmallest (SharesPart windows.window window_shown r w) seen
    smallest = rectangle.0

    -- each place of the rectangle is one at which the window shows a cell of the other
    pub holds-shared : (y x : ℕ) → frame_holds shifted y x ≡ true → shows_at windows.window window_shown r y x w ≡ true
    holds-shared y x is = search (rules, held-between, and_from, le-leb, lt-ltb)

    pub shared-same : (y x : ℕ) → frame_holds shifted y x ≡ shows_at windows.window window_shown r y x w
    shared-same y x = true-alike (frame_holds shifted y x) (shows_at windows.window window_shown r y x w) (holds-shared y x) (shared-holds y x)
