-- Numbers of 32 bits, as C passes them, for calls that take fewer bits. The greatest number of 16 bits stands for all
-- that are greater. No window, panel, line, column, size, colour pair or colour has it; and no call takes the character
-- 255, which stands for all past it.
use Rattle.std.specs.Prelude.{ℕ, ℤ, pos, negsuc, min, if◌then◌else◌, ◌==◌, Option, Some, None}
use Rattle.cell.specs.declared.window.WinId.{WinId}
use Rattle.world.specs.declared.panel.PanelId.{PanelId}

abbrev pub saturated : ℕ → ℕ
saturated n = min n 65535

abbrev pub saturated_character : ℕ → ℕ
saturated_character n = min n 255

-- more lines than any window has, up or down
abbrev pub saturated_signed : ℤ → ℤ
saturated_signed (pos n) = pos (min n 32767)
saturated_signed (negsuc n) = negsuc (min n 32767)

abbrev pub window_of : ℕ → WinId
window_of n = record { 0 = saturated n }

abbrev pub panel_of : ℕ → PanelId
panel_of n = record { 0 = saturated n }

-- 0 is no panel
abbrev pub panel_or_none_of : ℕ → Option PanelId
panel_or_none_of n = if n == 0 then None else Some (panel_of n)
