-- The places of the screen that two windows cover are a rectangle of each.
use Rattle.std.specs.Prelude.{◌≡◌, ◌+◌, ◌-◌, ◌<◌, ◌&&◌}
use Rattle.windows.specs.{ℕ, max, min, Bool, true, nat_lt, nat_le, Some, arith, cases_lt, nat_tests, Place, Window, Windows, Drawing, put, frame_of, common_cells, rectangle_copied, place_on_screen}
use Rattle.windows.specs.{drawing_frame}
use Rattle.world.proofs.PutLaws.{AreSame, put-same}
use Rattle.world.proofs.FrameLaws.{frame_of-is, frame-same, only_frame}

-- ---- drawings that agree in the window cover one rectangle

pub frame-agrees : (a : Window) (f g : Drawing) → AreSame a f g → frame_of a f ≡ frame_of a g
frame-agrees a f g same = grind (arith, only_frame, frame-same, frame_of-is)

-- ---- along lines, and along columns

axis : (p l q m y : ℕ) → y < m
    → (nat_le p (q + y) && nat_lt (q + y) (p + l)) ≡ (nat_le (max p q - q) y && nat_lt y (max p q - q + (min (p + l) (q + m) - max p q)))
axis p l q m y below = grind (arith, cases_lt, nat_tests)

axis_index : (p l q m y : ℕ) → (nat_le p (q + y) && nat_lt (q + y) (p + l)) ≡ true → q + y - p ≡ max p q - p + (y - (max p q - q))
axis_index p l q m y h = grind (arith, nat_tests)

-- ---- the write of that rectangle

module _ (w : Windows) (src dst : ℕ) (a b : Window) (p q : Place) (there_src : w.window src ≡ Some a) (there_dst : w.window dst ≡ Some b)
    (place_src : place_on_screen w.window src ≡ Some p) (place_dst : place_on_screen w.window dst ≡ Some q) (overlay : Bool) where
  -- the rectangle of the source, and that of the destination
  abbrev pub shared : Drawing
  shared = rectangle_copied w.window src (max p.0 q.0 - p.0) (max p.1 q.1 - p.1) (max p.0 q.0 - q.0) (max p.1 q.1 - q.1)
      (min (p.0 + a.lines) (q.0 + b.lines) - max p.0 q.0) (min (p.1 + a.columns) (q.1 + b.columns) - max p.1 q.1) overlay

  common-same : AreSame b (common_cells w.window src dst overlay) shared
  common-same y x below on = grind (arith, axis, axis_index)

  pub common-put : (next : Windows) → next ≡ put w dst shared → next ≡ put w dst (common_cells w.window src dst overlay)
  common-put next h = grind (arith, (put-same w.window dst b (common_cells w.window src dst overlay) shared there_dst common-same))

  pub common-frame : drawing_frame w dst (λ c. shared) ≡ drawing_frame w dst (λ c. common_cells w.window src dst overlay)
  common-frame = grind (arith, frame-agrees, common-same)
