-- What one window shows of what is touched of another, in lines and columns.
use Rattle.std.specs.Prelude.{◌+◌, ◌-◌, ◌≤◌, if◌then◌else◌, ◌&&◌}
use Rattle.grids.specs.Names.{ℕ, Bool, true, false, nat_lt, nat_le, Option, Some, None, IsSomeAnd, option_map_or, Place, LARGEST_PAD, WinId, Backing, own_grid, part_of, Window, WindowMap, among, Copying, Syncdown, Syncup}
use Rattle.grids.specs.declared.slot.Part.{Part}

-- the line is the window's, and the column is touched there
abbrev pub is_touched_at : Window → ℕ → ℕ → Bool
is_touched_at a v z = nat_lt v a.lines && among (a.touched v) z

-- The place `from` of a window is the place `to` of another one. The other's (y, x) is this place of the first, which
-- may begin further on.
abbrev pub shown_from : Place → Place → ℕ → ℕ → Option Place
shown_from from to y x = if nat_le to.0 (from.0 + y) && nat_le to.1 (from.1 + x) then Some (from.0 + y - to.0, from.1 + x - to.1) else None

-- window a is touched at the place that another one, whose `to` is its `from`, shows at (y, x)
abbrev pub shows_touched : Window → Place → Place → ℕ → ℕ → Bool
shows_touched a from to y x = option_map_or (λ s. is_touched_at a s.0 s.1) (shown_from from to y x) false

abbrev pub touched_shown : WindowMap → ℕ → Place → Place → ℕ → ℕ → Bool
touched_shown window source from to y x = option_map_or (λ a. shows_touched a from to y x) (window source) false

-- the window's last line and column, counted from the place on, stay within the limits of all
abbrev pub EndsWithin : WindowMap → ℕ → Place → Type 0
EndsWithin window w p = IsSomeAnd (window w) (λ a. (p.0 + a.lines ≤ LARGEST_PAD) × (p.1 + a.columns ≤ LARGEST_PAD))

-- the parent and the offset into it, of a derived window
abbrev pub part_in_parent : Backing → Option Part
part_in_parent (own_grid cells) = None
part_in_parent (part_of parent line column) = Some (record { parent = parent; line = line; column = column })

-- a window is synchronized with its ancestors, upwards or downwards
abbrev pub syncing : Bool → WinId → Copying
syncing false win = Syncup win
syncing true win = Syncdown win
