-- Which places of a window show cells of a part of another.
-- X/Open Curses Issue 7: subwin and derwin (a derived window shares the cells of its parent).
use Rattle.std.specs.Prelude.{◌≡◌, ◌+◌, ◌==◌, ◌&&◌}
use Rattle.world.specs.Names.{ℕ, Bool, true, false, nat_le, Option, Some, None, Rect}
use Rattle.world.specs.WindowMaps.{GridPlace, HasPlace, WindowMap, any_below, own}

-- both are there, and one place of a grid
abbrev pub is_same_place : Option GridPlace → Option GridPlace → Bool
is_same_place (Some p) (Some q) = p.grid == q.grid && (p.line == q.line && p.column == q.column)
is_same_place (Some p) None = false
is_same_place None q = false

-- some place of the rectangle passes the test
abbrev pub any_in : Rect → (ℕ → ℕ → Bool) → Bool
any_in r test = any_below (r.bottom + 1) (λ y. nat_le r.top y && any_below (r.right + 1) (λ x. nat_le r.left x && test y x))

-- window u shows at (y, x) a cell that window w shows in a rectangle of it
abbrev pub shows_part_of : WindowMap → ℕ → Rect → ℕ → ℕ → ℕ → Bool
shows_part_of window w r u y x = any_in r (λ v z. is_same_place (own window w v z) (own window u y x))

-- and (y, x) is a place of window u
abbrev pub SharesPart : WindowMap → ℕ → Rect → ℕ → ℕ → ℕ → Type 0
SharesPart window w r u y x = HasPlace window u y x × (shows_part_of window w r u y x ≡ true)
