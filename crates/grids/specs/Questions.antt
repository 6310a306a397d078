-- What is asked about a window beside the calls.
-- ncurses, curs_opaque(3X): wgetparent.
use Rattle.grids.specs.Names.{ℕ, ok_or, Option, Result, Err, option_map, option_map_or, Refusal, NoSuchWindow, NotDerived, WinId, WindowMap, own, parent_number}

-- the window from which window w derives
abbrev pub parent_answer : WindowMap → ℕ → Result WinId Refusal
parent_answer window w =
    option_map_or (λ a. ok_or (option_map (λ parent. record { 0 = parent }) (parent_number a.backing)) NotDerived) (window w) (Err NoSuchWindow)

-- the number of the window that has the grid in which window w shows cells
abbrev pub grid_of : WindowMap → ℕ → Option ℕ
grid_of window w = option_map (λ p. p.grid) (own window w 0 0)
