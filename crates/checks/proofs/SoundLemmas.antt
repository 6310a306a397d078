-- A part that is too great for every screen or pad is outside of each parent.
use Rattle.std.specs.Prelude.{◌≡◌, ◌≤◌, ◌+◌, ◌-◌, ◌&&◌}
use Rattle.checks.specs.{ℕ, true, false, not, Some, arith, nat_tests, LARGEST_PAD, LARGEST_SCREEN, IsSound, IsSoundWindow, Window, World, columns_from, is_before, is_inside, is_outside, is_pad}
use Rattle.checks.specs.{lines_from, is_too_great}

-- what is among so many from a place on is so among more, also where both begin later
inside_grows : (n all most at from : ℕ) → from ≤ at → from + all ≤ most → is_inside n all (at - from) ≡ true → is_inside n most at ≡ true
inside_grows n all most at from after few e = grind (arith, nat_tests)

too_great : (most lines columns nlines ncols y x top left : ℕ) → top ≤ y → left ≤ x → top + lines ≤ most → left + columns ≤ most
    → is_too_great most nlines ncols y x ≡ true → not (is_inside nlines lines (y - top) && is_inside ncols columns (x - left)) ≡ true
too_great most lines columns nlines ncols y x top left below after few_lines few_columns e =
    grind (arith, nat_tests, inside_grows nlines lines most y top, inside_grows ncols columns most x left)

module _ (world : World) (sound : IsSound world) where
  sound_at : (w : ℕ) (a : Window) → world.windows.window w ≡ Some a → IsSoundWindow world.windows w a
  sound_at w a is = rw is at (sound.windows.each w)

  pub outside : (w nlines ncols y x : ℕ) (a : Window) → world.windows.window w ≡ Some a → is_pad world.windows.window w ≡ false
      → is_too_great LARGEST_SCREEN nlines ncols y x ≡ true → is_outside world.windows.window w nlines ncols y x ≡ true
  outside w nlines ncols y x a is no_pad great = let here = sound_at w a is in
      grind (arith, nat_tests, too_great LARGEST_SCREEN a.lines a.columns nlines ncols y x 0 0, sound.windows.few_lines, sound.windows.few_columns)

  pub outside_pad : (w nlines ncols y x : ℕ) (a : Window) → world.windows.window w ≡ Some a
      → is_too_great LARGEST_PAD nlines ncols y x ≡ true → is_outside world.windows.window w nlines ncols y x ≡ true
  outside_pad w nlines ncols y x a is great = let here = sound_at w a is in
      grind (arith, nat_tests, too_great LARGEST_PAD a.lines a.columns nlines ncols y x 0 0)

  pub outside_from : (w nlines ncols y x : ℕ) (a : Window) → world.windows.window w ≡ Some a → is_pad world.windows.window w ≡ false
      → is_before world.windows.window w y x ≡ false → is_too_great LARGEST_SCREEN nlines ncols y x ≡ true
      → is_outside world.windows.window w nlines ncols (lines_from world.windows.window w y) (columns_from world.windows.window w x) ≡ true
  outside_from w nlines ncols y x a is no_pad after great = let here = sound_at w a is in
      grind (arith, nat_tests, too_great LARGEST_SCREEN a.lines a.columns nlines ncols y x, sound.windows.few_lines, sound.windows.few_columns)
