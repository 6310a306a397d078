-- The screen of the test has a line of that length.
use Rattle.std.proofs.Common.{◌≡◌, ℕ, ◌<◌, true, Option, Some, None, refl, sym, ap, subst, ◌∙◌, arith}
use Rattle.std.specs.Prelude.{IsSomeAnd}
use Rattle.std.specs.Option.{option_map}
use Rattle.cell.proofs.PictureLemmas.{length-line}
use Rattle.world.specs.PanelOrder.{holds, standard_screen}
use Rattle.world.specs.Sound.{IsStandardScreen}
use Rattle.world.specs.WindowMaps.{Window, Windows}
use Rattle.grids.specs.Tables.{windows as windows_of}
use Rattle.stack.specs.Tables.{panels}
use Rattle.picture.specs.Spans.{HasPanelWindows}
use Rattle.picture.proofs.Standard.{sound-windows, standard-holds}
use Rattle.window_tests.proofs.of_picture.composed.Goals as goal

width : (ws : Windows) (o : Option Window) (lines columns : ℕ) → IsSomeAnd o (IsStandardScreen ws) → option_map {U = ℕ × ℕ} (λ (a : Window). (a.lines, a.columns)) o ≡ Some (lines, columns)
    → columns ≡ ws.columns
width ws None lines columns h is = absurd h
width ws (Some a) lines columns h is = let both : (a.lines, a.columns) ≡ (lines, columns) = cc in sym (ap (λ (p : ℕ × ℕ). p.1) both) ∙ h.columns

pub compose_row-requires : goal.compose_row-requires
compose_row-requires c κs =
    let ws = windows_of c.args.table.now in
    let ps = panels c.args.stack.now in
    let sound = c.in_ok-lines.ensures.sound in
    let some = sound.has_line in
    let columns = width ws (ws.window standard_screen) c.in_ok-lines.lines c.in_ok-lines.columns sound.standard c.in_ok-lines.ensures.answer in
    let right : c.args.right < ws.columns = let inside = c.if-columns-right.false in omega (arith, inside, columns) in
    let size = c.in_ok-picture.ensures in
    let height = size.height in
    let wide = length-line 0 size some in
    let ordered = c.if-right-left.false in
    let back = sym c.of-rows.ensures.windows in (
      (refl, record {}),
      (
        λ u from upto. subst (λ (now : Windows). holds now.window standard_screen 0 u ≡ true) back (standard-holds ws 0 u sound some (omega (arith, right, upto))),
        (
          subst (λ (now : Windows). HasPanelWindows now.window ps) back (sound-windows ws.window ps c.requires),
          (omega (arith, ordered), (omega (arith, height, some), omega (arith, wide, right))),
        ),
      ),
    )

pub row-cell-items-requires : goal.row-cell-items-requires
row-cell-items-requires c =
    let ws = windows_of c.args.table.now in
    let some = c.in_ok-lines.ensures.sound.has_line in
    let height = (c.compose_row.ensures.size ws.lines ws.columns c.in_ok-picture.ensures).height in
    omega (arith, height, some)
