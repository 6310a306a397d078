-- Which places of a window show cells of a rectangle of another, in lines and columns of a grid.
use Rattle.std.specs.Prelude.{◌≡◌, ◌+◌, ◌-◌, ◌≤◌}
use Rattle.grids.specs.{ℕ, true, Option, None, Some, ap, arith, option_map, sym, ◌∙◌, Rect, GridPlace, WindowMap, onward, own, is_same_place, shows_part_of, grid_of}
use Rattle.world.proofs.Below.{any_in-some, any_in-true}
use Rattle.world.proofs.SharingLaws.{same-true, true-same}
use Rattle.world.proofs.WindowLaws.{own-onward}

-- window s begins at the place p of a grid, and window t at q
module _ (window : WindowMap) (s t : ℕ) (p q : GridPlace) (leads_s : own window s 0 0 ≡ Some p) (leads_t : own window t 0 0 ≡ Some q) where
  same-is : (v z y x : ℕ) → is_same_place (own window s v z) (own window t y x) ≡ is_same_place (Some (onward v z p)) (Some (onward y x q))
  same-is v z y x = grind (arith, own-onward)

  -- the place (y, x) of t is one of the rectangle
  pub record Shares (r : Rect) (y x : ℕ) : Type 0 where
    pub grid : p.grid ≡ q.grid
    pub top : p.line + r.top ≤ q.line + y
    pub bottom : q.line + y ≤ p.line + r.bottom
    pub left : p.column + r.left ≤ q.column + x
    pub right : q.column + x ≤ p.column + r.right

  pub shared-in : (r : Rect) (y x : ℕ) → shows_part_of window s r t y x ≡ true → Shares r y x
  shared-in r y x h =
      let found = any_in-true r (λ v z. is_same_place (own window s v z) (own window t y x)) h in
      let same = same-true (onward found.line found.column p) (onward y x q) (sym (same-is found.line found.column y x) ∙ found.passes) in
      let line : p.line + found.line ≡ q.line + y = same.line in
      let column : p.column + found.column ≡ q.column + x = same.column in
      let inside = found.inside in
      record {
        grid = same.grid;
        top = omega (arith, line, inside.top);
        bottom = omega (arith, line, inside.bottom);
        left = omega (arith, column, inside.left);
        right = omega (arith, column, inside.right);
      }

  pub from-shared : (r : Rect) (y x : ℕ) → Shares r y x → shows_part_of window s r t y x ≡ true
  from-shared r y x h =
      let line : p.line + (q.line + y - p.line) ≡ q.line + y = omega (arith, h.top) in
      let column : p.column + (q.column + x - p.column) ≡ q.column + x = omega (arith, h.left) in
      any_in-some r (λ v z. is_same_place (own window s v z) (own window t y x)) (q.line + y - p.line) (q.column + x - p.column)
      (record { top = omega (arith, h.top); bottom = omega (arith, h.bottom); left = omega (arith, h.left); right = omega (arith, h.right) })
      (same-is (q.line + y - p.line) (q.column + x - p.column) y x
      ∙ true-same (onward (q.line + y - p.line) (q.column + x - p.column) p) (onward y x q) (record { grid = h.grid; line = line; column = column }))

-- windows that show cells of one another show cells of one grid
same-grid : (o q : Option GridPlace) (v z y x : ℕ) → is_same_place (option_map (onward v z) o) (option_map (onward y x) q) ≡ true → option_map (λ p. p.grid) q ≡ option_map (λ p. p.grid) o
same-grid (Some p) (Some q) v z y x h = let same = same-true (onward v z p) (onward y x q) h in ap Some (sym same.grid)
same-grid (Some p) None v z y x h = cc
same-grid None q v z y x h = cc

pub shares-grid : (window : WindowMap) (s t : ℕ) (r : Rect) (y x : ℕ) → shows_part_of window s r t y x ≡ true → grid_of window t ≡ grid_of window s
shares-grid window s t r y x h =
    let found = any_in-true r (λ v z. is_same_place (own window s v z) (own window t y x)) h in
    same-grid (own window s 0 0) (own window t 0 0) found.line found.column y x (rw (← own-onward window s found.line found.column, ← own-onward window t y x) found.passes)
