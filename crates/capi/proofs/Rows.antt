-- A line of a window or of the screen has the columns that it says, and so no more than fit in 16 bits.
use Rattle.std.proofs.Common.{◌≡◌, ◌<◌, ℕ, Option, Some, None, List, length, refl, arith, ap, subst, sym, ◌∙◌}
use Rattle.std.specs.Option.{option_map}
use Rattle.std.proofs.lemmas.List.FromFn.{length-map-range_with_len}
use Rattle.cell.specs.Glyphs.{Glyph}
use Rattle.cell.specs.Pictures.{HasSize, Picture, line_of}
use Rattle.cell.specs.ShownCells.{Shown}
use Rattle.cell.proofs.PictureLemmas.{length-line}
use Rattle.world.specs.Rows.{line_shown}
use Rattle.world.specs.WindowMaps.{Window, WindowMap}
use Rattle.world.specs.calls.Queries.{window_size}

line_width : (window : WindowMap) (w y lines columns : ℕ) (o : Option Window) → window w ≡ o → ◌≡◌ {A = Option (ℕ × ℕ)} (option_map (λ a. (a.lines, a.columns)) o) (Some (lines, columns))
    → (cells : List Glyph) → cells ≡ line_shown window w y → length cells ≡ columns
line_width window w y lines columns None e size cells is = grind arith
line_width window w y lines columns (Some a) e size cells is = grind (arith, length-map-range_with_len)

pub line-width : (window : WindowMap) (w y lines columns : ℕ) → window_size window w ≡ Some (lines, columns) → (cells : List Glyph) → cells ≡ line_shown window w y → length cells ≡ columns
line-width window w y lines columns size cells is = line_width window w y lines columns (window w) refl size cells is

-- a size of the screen is what its picture has
pub screen-width : {lines columns n : ℕ} {picture : Picture} {cells : List Shown} (y : ℕ) (size : ℕ × ℕ) → HasSize lines columns picture → size ≡ (lines, columns) → y < size.0
    → cells ≡ line_of picture y → n ≡ size.1 → length cells ≡ n
screen-width y size high is below row n_is =
    ap length row ∙ length-line y high (subst (λ (p : ℕ × ℕ). y < p.0) is below) ∙ sym (ap (λ (p : ℕ × ℕ). p.1) is) ∙ sym n_is
