-- A window that is touched line by line.
use Rattle.std.specs.Prelude.{◌≡◌, ◌≢◌, ◌+◌, ◌-◌, ◌<◌, ◌≤◌, if◌then◌else◌, ◌&&◌}
use Rattle.grids.specs.{ℕ, zero, suc, Bool, false, nat_lt, nat_le, Option, Some, IsSomeAnd, ap, arith, refl, sym, eq-eqb, ne_eqb, option_map, cases_eq, cases_lt, lt-ltb, le-ltb, nat_tests, Place}
use Rattle.grids.specs.{LARGEST_PAD, Window, WindowMap, Windows, with_change, touched_below, joined_columns, with_touches, Columns, with_touched, EndsWithin}
use mathlib.Core.Path.{fun_ext}
use Rattle.grids.proofs.Chain.{some_and}
use Rattle.grids.proofs.Writes.{touched-none, touched-past}

-- ---- one window changed twice, and not at all

pub changed-twice : (window : WindowMap) (w : ℕ) (f g : Window → Window) → with_change (with_change window w f) w g ≡ with_change window w (λ a. g (f a))
changed-twice window w f g = grind arith

pub changed-same : (window : WindowMap) (w : ℕ) (f g : Window → Window) → ((a : Window) → window w ≡ Some a → f a ≡ g a) → with_change window w f ≡ with_change window w g
changed-same window w f g h = grind (arith, cases_eq, eq-eqb, ne_eqb)

pub changed-nothing : (window : WindowMap) (w : ℕ) (f : Window → Window) → ((a : Window) → window w ≡ Some a → f a ≡ a) → with_change window w f ≡ window
changed-nothing window w f h = fun_ext (λ u. grind (arith, cases_eq, eq-eqb, ne_eqb))

pub changed-other : (window : WindowMap) (w : ℕ) (f : Window → Window) (u : ℕ) → u ≢ w → with_change window w f u ≡ window u
changed-other window w f u other = grind (arith, ne_eqb)

pub changed-here : (window : WindowMap) (w : ℕ) (f : Window → Window) → with_change window w f w ≡ option_map f (window w)
changed-here window w f = grind (arith, eq-eqb)

-- ---- touching

pub touched-same : (n : ℕ) (s t : ℕ → Bool) (r : Option Columns) → ((x : ℕ) → x < n → s x ≡ t x) → touched_below n s r ≡ touched_below n t r
touched-same zero s t r h = grind arith
touched-same (suc n) s t r h = grind (arith, (touched-same n s t r (λ x lt. h x (omega arith))))

-- what touches each line of a window in the same way
pub touching-is : (a : Window) (touched : ℕ → Option Columns) (test : ℕ → ℕ → Bool)
    → ((z : ℕ) → touched z ≡ (if nat_lt z a.lines then touched_below a.columns (test z) (a.touched z) else a.touched z)) → record a { touched = touched } ≡ with_touches test a
touching-is a touched test h = grind arith

pub touching-same : (a : Window) (s t : ℕ → ℕ → Bool) → ((y x : ℕ) → y < a.lines → x < a.columns → s y x ≡ t y x) → with_touches s a ≡ with_touches t a
touching-same a s t h = grind (arith, touching-is, cases_lt, lt-ltb, touched-same, le-ltb)

-- nothing
pub touching-none : (a : Window) (test : ℕ → ℕ → Bool) → ((y x : ℕ) → y < a.lines → x < a.columns → test y x ≡ false) → with_touches test a ≡ a
touching-none a test h = grind (arith, touching-is, cases_lt, lt-ltb, touched-none, le-ltb)

-- ---- the lines above line y, and then line y

abbrev pub before : ℕ → (ℕ → ℕ → Bool) → ℕ → ℕ → Bool
before k test y x = nat_lt y k && test y x

module _ (a : Window) (test : ℕ → ℕ → Bool) (y : ℕ) (below : y < a.lines) where
  on_line : ℕ → ℕ → Option Columns
  on_line k z = if nat_lt z a.lines then touched_below a.columns (λ x. nat_lt z k && test z x) (a.touched z) else a.touched z

  line-other : (z : ℕ) → z ≢ y → on_line y z ≡ on_line (y + 1) z
  unfolding on_line
  line-other z other = grind (arith, cases_lt, nat_tests)

  line-before : on_line y y ≡ a.touched y
  unfolding on_line
  line-before = grind (arith, nat_tests, touched-none)

  line-after : on_line (y + 1) y ≡ touched_below a.columns (test y) (a.touched y)
  unfolding on_line
  line-after = grind (arith, nat_tests, touched-same)

  -- no column of the line passes
  pub line-none : ((x : ℕ) → x < a.columns → test y x ≡ false) → with_touches (before y test) a ≡ with_touches (before (y + 1) test) a
  unfolding on_line
  line-none h = grind (arith, touching-is, cases_eq, line-before, touched-none, line-after, line-other)

  line-all : (first last : ℕ) → first ≤ last → last < a.columns → ((x : ℕ) → x < a.columns → test y x ≡ (nat_le first x && nat_le x last))
      → touched_below a.columns (test y) (a.touched y) ≡ joined_columns (a.touched y) first last
  line-all first last ordered within h = grind (arith, touched-same, touched-past first last (λ x. nat_le first x && nat_le x last) (a.touched y) (λ x. refl) ordered (a.columns - suc last))

  -- those from first to last pass
  pub line-some : (first last : ℕ) → first ≤ last → last < a.columns → ((x : ℕ) → x < a.columns → test y x ≡ (nat_le first x && nat_le x last))
      → with_touched y first last (with_touches (before y test) a) ≡ with_touches (before (y + 1) test) a
  unfolding on_line
  line-some first last ordered within h = grind (arith, touching-is, cases_eq, line-before, line-other, line-after, line-all)

-- ---- the windows after some lines

module _ (w : Windows) (win : ℕ) (test : ℕ → ℕ → Bool) where
  abbrev pub touched_before : ℕ → Windows
  touched_before k = record w { window = with_change w.window win (with_touches (before k test)) }

  pub none-before : w ≡ touched_before 0
  none-before = ap (λ (ws : WindowMap). record w { window = ws }) (sym (changed-nothing w.window win _ (λ a is. touching-none a _ (λ y x below on. grind (arith, nat_tests)))))

  pub all-before : (a : Window) → w.window win ≡ Some a → (k : ℕ) → a.lines ≤ k → touched_before k ≡ record w { window = with_change w.window win (with_touches test) }
  all-before a there k all = ap (λ (ws : WindowMap). record w { window = ws }) (changed-same w.window win _ _ (λ b is. grind (arith, touching-same, nat_tests)))

  pub next-none : (a : Window) → w.window win ≡ Some a → (y : ℕ) → y < a.lines → ((x : ℕ) → x < a.columns → test y x ≡ false) → touched_before y ≡ touched_before (y + 1)
  next-none a there y below h = grind (arith, changed-same, line-none)

  pub next-some : (a : Window) → w.window win ≡ Some a → (y first last : ℕ) → y < a.lines → first ≤ last → last < a.columns → ((x : ℕ) → x < a.columns → test y x ≡ (nat_le first x && nat_le x last))
      → (now next : Windows) → now ≡ touched_before y → next ≡ record now { window = with_change now.window win (with_touched y first last) } → next ≡ touched_before (y + 1)
  next-some a there y first last below ordered within h now next is step = grind (arith, changed-twice, changed-same, line-some)

-- a window that is there
pub there-and : (o : Option Window) (P : Window → Type 0) → IsSomeAnd o P → (a : Window) × (o ≡ Some a) × P a
there-and o P h = some_and o P h

-- ---- a window that is touched where it shows what is touched of another, at its line y

-- The window ends within the limits and has the line; the lines above are touched, and the other window is as it was.
pub record IsAtLine (w cur : Windows) (win source : ℕ) (at : Place) (test : ℕ → ℕ → Bool) (y : ℕ) : Type 0 where
  pub window : Window
  pub there : w.window win ≡ Some window
  pub fits : (at.0 + window.lines ≤ LARGEST_PAD) × (at.1 + window.columns ≤ LARGEST_PAD)
  pub below : y < window.lines
  pub here : cur.window win ≡ Some (with_touches (before y test) window)
  pub same : cur.window source ≡ w.window source

pub at-line : (w cur : Windows) (win source : ℕ) (at size : Place) (test : ℕ → ℕ → Bool) (y : ℕ) → win ≢ source → EndsWithin w.window win at
    → IsSomeAnd (w.window win) (λ a. (size.0 ≡ a.lines) × (size.1 ≡ a.columns)) → y < size.0 → cur ≡ touched_before w win test y → IsAtLine w cur win source at test y
at-line w cur win source at size test y other ends sized above touched = grind (arith, some_and, changed-here, changed-other)
