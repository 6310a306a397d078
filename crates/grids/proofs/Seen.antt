-- The rectangle of a window in which it shows a part of another.
use Rattle.std.specs.Prelude.{◌≡◌, ◌+◌, ◌-◌, ◌<◌, ◌≤◌, ◌&&◌}
use Rattle.grids.specs.{ℕ, nat_le, Option, Some, None, IsSomeAnd, arith, refl, sym, subst, nat_tests, Rect, AreRectangle, SharesPart, AreColumnsWithin, GridPlace, Window, WindowMap, own, Columns}
use Rattle.grids.specs.{among}
use Rattle.grids.proofs.Shared.{shared-in, from-shared}

-- ---- lines, or columns, from a first to a last one, as they are counted from another place on

module _ (first last from to size : ℕ) where
  abbrev pub Clips : Option Columns → Type 0
  Clips o = (x : ℕ) → x < size → (nat_le from (to + x) && among (Some (record { first = first; last = last })) (to + x - from)) ≡ among o x

  clip-none : Clips None → (x : ℕ) → x < size → from + first ≤ to + x → to + x ≤ from + last → ⊥
  clip-none h x below l u = grind (arith, nat_tests, h x below)

  clip-some : (c : Columns) → Clips (Some c) → (x : ℕ) → x < size → from + first ≤ to + x → to + x ≤ from + last → (c.first ≤ x) × (x ≤ c.last)
  clip-some c h x below l u = (grind (arith, nat_tests, h x below), grind (arith, nat_tests, h x below))

  clip-back : (c : Columns) → Clips (Some c) → (x : ℕ) → x < size → c.first ≤ x → x ≤ c.last → (from + first ≤ to + x) × (to + x ≤ from + last)
  clip-back c h x below l u = (grind (arith, nat_tests, h x below), grind (arith, nat_tests, h x below))

-- ---- window w begins at the place p of a grid, and window u at q

module _ (window : WindowMap) (w u : ℕ) (r : Rect) (b : Window) (p q : GridPlace) (there : window u ≡ Some b) (leads_w : own window w 0 0 ≡ Some p) (leads_u : own window u 0 0 ≡ Some q) where
  inside : (y x : ℕ) → SharesPart window w r u y x → (y < b.lines) × (x < b.columns)
  inside y x has = grind arith

  nowhere : ((y x : ℕ) → SharesPart window w r u y x → ⊥) → AreRectangle (SharesPart window w r u) None
  nowhere never = grind arith

  pub seen-apart : (p.grid ≡ q.grid → ⊥) → AreRectangle (SharesPart window w r u) None
  seen-apart other = nowhere (λ y x has. let m = shared-in window w u p q leads_w leads_u r y x has.1 in other m.grid)

  pub seen-above : Clips r.top r.bottom p.line q.line b.lines None → AreRectangle (SharesPart window w r u) None
  seen-above h = nowhere (λ y x has.
      let m = shared-in window w u p q leads_w leads_u r y x has.1 in
      clip-none r.top r.bottom p.line q.line b.lines h y (inside y x has).0 m.top m.bottom)

  pub seen-beside : Clips r.left r.right p.column q.column b.columns None → AreRectangle (SharesPart window w r u) None
  seen-beside h = nowhere (λ y x has.
      let m = shared-in window w u p q leads_w leads_u r y x has.1 in
      clip-none r.left r.right p.column q.column b.columns h x (inside y x has).1 m.left m.right)

  module _ (grid : p.grid ≡ q.grid) (down along : Columns) (lines : Clips r.top r.bottom p.line q.line b.lines (Some down)) (columns : Clips r.left r.right p.column q.column b.columns (Some along))
      (some_lines : AreColumnsWithin b.lines (Some down)) (some_columns : AreColumnsWithin b.columns (Some along)) where
    seen-at : (y x : ℕ) → down.first ≤ y → y ≤ down.last → along.first ≤ x → x ≤ along.last → SharesPart window w r u y x
    seen-at y x top bottom left right =
        let below : y < b.lines = omega (arith, bottom, some_lines.1) in
        let before : x < b.columns = omega (arith, right, some_columns.1) in
        let line = clip-back r.top r.bottom p.line q.line b.lines down lines y below top bottom in
        let column = clip-back r.left r.right p.column q.column b.columns along columns x before left right in (
          subst (λ (o : Option Window). IsSomeAnd o (λ a. (y < a.lines) × (x < a.columns))) (sym there) (below, before),
          from-shared window w u p q leads_w leads_u r y x (record { grid = grid; top = line.0; bottom = line.1; left = column.0; right = column.1 }),
        )

    pub seen-there : AreRectangle (SharesPart window w r u) (Some (record { top = down.first; left = along.first; bottom = down.last; right = along.last }))
    seen-there =
        let high : down.first ≤ down.first = omega arith in
        let low : down.last ≤ down.last = omega arith in
        let near : along.first ≤ along.first = omega arith in
        let far : along.last ≤ along.last = omega arith in (
          record {
            holds = λ y x has.
                let m = shared-in window w u p q leads_w leads_u r y x has.1 in
                let line = clip-some r.top r.bottom p.line q.line b.lines down lines y (inside y x has).0 m.top m.bottom in
                let column = clip-some r.left r.right p.column q.column b.columns along columns x (inside y x has).1 m.left m.right in
                record { top = line.0; bottom = line.1; left = column.0; right = column.1 };
            top = (along.first, seen-at down.first along.first high some_lines.0 near some_columns.0);
            bottom = (along.first, seen-at down.last along.first some_lines.0 low near some_columns.0);
            left = (down.first, seen-at down.first along.first high some_lines.0 near some_columns.0);
            right = (down.first, seen-at down.first along.last high some_lines.0 some_columns.0 far);
          },
          λ y x in_frame. seen-at y x in_frame.top in_frame.bottom in_frame.left in_frame.right,
        )

-- ---- a window shows a part of itself where that is

clips-itself : (from first last x : ℕ)
    → (nat_le from (from + x) && among (Some (record { first = first; last = last })) (from + x - from)) ≡ among (Some (record { first = first; last = last })) x
clips-itself from first last x = grind (arith, nat_tests)

pub seen-itself : (window : WindowMap) (w : ℕ) (r : Rect) (b : Window) (p : GridPlace) → window w ≡ Some b → own window w 0 0 ≡ Some p → r.top ≤ r.bottom → r.left ≤ r.right
    → (r.bottom < b.lines) × (r.right < b.columns) → AreRectangle (SharesPart window w r w) (Some r)
seen-itself window w r b p there leads lines columns inside =
    seen-there window w w r b p p there leads leads refl (record { first = r.top; last = r.bottom }) (record { first = r.left; last = r.right })
    (λ y below. clips-itself p.line r.top r.bottom y) (λ x below. clips-itself p.column r.left r.right x) (lines, inside.0) (columns, inside.1)
