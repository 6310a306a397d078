-- The rectangle of the screen to which a pad's cells are copied is what the copy draws.
use Rattle.std.specs.Prelude.{◌≡◌, ◌+◌, ◌-◌, ◌<◌, ◌≤◌, ◌&&◌}
use Rattle.compose.specs.{ℕ, true, false, nat_le, nat_lt, is_some, List, Option, Some, arith, and_from, and_parts, cases_lt, leb-true, le-leb, lt-ltb, ltb-true, Rect, Windows, copywin_drawing}
use Rattle.compose.specs.{Columns, Damages, frame_holds, part_holds}
use Rattle.picture.proofs.DamageLaws.{damages-as}
use Rattle.picture.proofs.Held.{held-between}
use Rattle.compose.proofs.RefreshedLines.{IsOfPad, pad-above, pad-below, pad-piece}
use Rattle.compose.proofs.Touching.{in-piece, of-piece}

module _ (windows : Windows) (w py px top left bottom right : ℕ) (h : IsOfPad windows w py px top left bottom right) where
  on-line : (y u : ℕ) → top ≤ y → y ≤ bottom → u < windows.columns
      → is_some (copywin_drawing windows.window w py px top left bottom right false y u) ≡ true → (nat_le left u && nat_lt u (left + (right - left + 1))) ≡ true
  on-line y u from to on is = grind (arith, pad-piece, in-piece)

  -- each place that it draws is of the rectangle
  pad-covers : (r : Rect) (y u : ℕ) → r.top ≡ top → r.left ≡ left → r.bottom ≡ bottom → r.right ≡ right → u < windows.columns
      → is_some (copywin_drawing windows.window w py px top left bottom right false y u) ≡ true → frame_holds r y u ≡ true
  pad-covers r y u t l b e on is = grind (arith, cases_lt, pad-above, pad-below, and_parts, on-line, leb-true, ltb-true, and_from, le-leb)

  -- at each place of the rectangle it draws
  pad-draws : (r : Rect) (y u : ℕ) → r.top ≡ top → r.left ≡ left → r.bottom ≡ bottom → r.right ≡ right → u < windows.columns → frame_holds r y u ≡ true
      → is_some (copywin_drawing windows.window w py px top left bottom right false y u) ≡ true
  pad-draws r y u t l b e on held = grind (arith, held-between, pad-piece, of-piece, and_from, le-leb, lt-ltb)

  pub pad-damages : (r : Rect) → r.top ≡ top → r.left ≡ left → r.bottom ≡ bottom → r.right ≡ right → (old new : List (Option Columns)) → Damages windows.columns (part_holds (Some r)) old new
      → Damages windows.columns (λ y x. is_some (copywin_drawing windows.window w py px top left bottom right false y x)) old new
  pad-damages r t l b e old new h = grind (arith, damages-as, pad-covers, pad-draws)
