-- The places at which one window shows cells of a rectangle of another are a rectangle, or there are none.
use Rattle.std.specs.Prelude.{◌≡◌, ◌+◌, ◌-◌, ◌<◌, ◌≤◌}
use Rattle.world.specs.{ℕ, min, true, Option, Some, arith, refl, eq-eqb, cases_eq, cases_lt, and_parts, and_from, eqb-true, Window, WindowMap, GridPlace, own, AreRectangle, SharesPart}
use Rattle.world.specs.{is_same_place, Rect}
use Rattle.world.proofs.Below.{FoundIn, any_in-some, any_in-true}
use Rattle.world.proofs.WindowLaws.{own-onward}

-- ---- one place of a grid

pub record SamePlace (p q : GridPlace) : Type 0 where
  pub grid : p.grid ≡ q.grid
  pub line : p.line ≡ q.line
  pub column : p.column ≡ q.column

pub same-true : (p q : GridPlace) → is_same_place (Some p) (Some q) ≡ true → SamePlace p q
same-true p q h = grind (arith, and_parts, eqb-true)

pub true-same : (p q : GridPlace) → SamePlace p q → is_same_place (Some p) (Some q) ≡ true
true-same p q h = grind (arith, and_from, eq-eqb)

-- ---- the shared places of two windows

module _ (window : WindowMap) (w : ℕ) (r : Rect) (u : ℕ) where
  abbrev Rectangle : Type 0
  Rectangle = (o : Option Rect) × AreRectangle (SharesPart window w r u) o

  nowhere : ((y x : ℕ) → SharesPart window w r u y x → ⊥) → Rectangle
  nowhere never = grind arith

  found : (y x : ℕ) → SharesPart window w r u y x → FoundIn r (λ v z. is_same_place (own window w v z) (own window u y x))
  found y x has = any_in-true r (λ v z. is_same_place (own window w v z) (own window u y x)) has.1

  module _ (b : Window) (p q : GridPlace) (there : window u ≡ Some b) (leads_w : own window w 0 0 ≡ Some p) (leads_u : own window u 0 0 ≡ Some q) where
    -- the first line and column, and the first ones after them that aren't shared
    first_line : ℕ
    first_line = p.line + r.top - q.line

    first_column : ℕ
    first_column = p.column + r.left - q.column

    end_line : ℕ
    end_line = min b.lines (p.line + r.bottom + 1 - q.line)

    end_column : ℕ
    end_column = min b.columns (p.column + r.right + 1 - q.column)

    -- what it is to be shared, in numbers
    record InRange (y x : ℕ) : Type 0 where
      grid : p.grid ≡ q.grid
      top : first_line ≤ y
      bottom : y < end_line
      left : first_column ≤ x
      right : x < end_column

    in-range : (y x : ℕ) → SharesPart window w r u y x → InRange y x
    unfolding first_line first_column end_line end_column
    in-range y x has = let at = found y x has in grind (arith, and_parts, eqb-true, own-onward)

    from-range : (y x : ℕ) → InRange y x → SharesPart window w r u y x
    unfolding first_line first_column end_line end_column
    from-range y x h = grind (arith, (any_in-some r (λ v z. is_same_place (own window w v z) (own window u y x)) (q.line + y - p.line) (q.column + x - p.column)), true-same, own-onward)

    rectangle-of : p.grid ≡ q.grid → first_line < end_line → first_column < end_column → Rectangle
    rectangle-of grid lines columns = (
      Some (record { top = first_line; left = first_column; bottom = end_line - 1; right = end_column - 1 }),
      (
        record {
          holds = λ y x has. let range = in-range y x has in grind arith;
          top = (first_column, from-range first_line first_column (grind arith));
          bottom = (first_column, from-range (end_line - 1) first_column (grind arith));
          left = (first_line, from-range first_line first_column (grind arith));
          right = (first_line, from-range first_line (end_column - 1) (grind arith));
        },
        λ y x inside. from-range y x (grind arith),
      ),
    )

    -- where the grids differ, or no line or no column is left
    outside : (p.grid ≡ q.grid → first_line < end_line → first_column < end_column → ⊥) → Rectangle
    outside never = nowhere (λ y x has. let range = in-range y x has in grind arith)

    rectangle-there : Rectangle
    rectangle-there = grind (arith, cases_eq, cases_lt, rectangle-of, outside)

  rectangle-by : (o : Option Window) (s t : Option GridPlace) → window u ≡ o → own window w 0 0 ≡ s → own window u 0 0 ≡ t → Rectangle
  rectangle-by (Some b) (Some p) (Some q) there leads_w leads_u = rectangle-there b p q there leads_w leads_u
  rectangle-by o s t there leads_w leads_u = nowhere (λ y x has. let at = found y x has in grind (arith, own-onward))

  pub shared-rectangle : (o : Option Rect) × AreRectangle (SharesPart window w r u) o
  shared-rectangle = rectangle-by (window u) (own window w 0 0) (own window u 0 0) refl refl refl
