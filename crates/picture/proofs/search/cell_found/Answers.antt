-- The owner of a place shows there the cell that the search finds.
use Rattle.std.specs.Prelude.{◌≡◌, ◌<◌, ◌-◌}
use Rattle.picture.specs.{ℕ, true, refl, sym, subst, arith, Windows, Panels, holds, owner, window_or_standard, AreSoundWindows, panel_number, windows as windows_of, panels, HasPanelWindows, IsSpan}
use Rattle.picture.specs.declared.span.Span.{Span}
use Rattle.picture.proofs.Held.{held-before, held-place}
use Rattle.picture.proofs.Searching.{owner-held}
use Rattle.picture.proofs.Standard.{sound-windows, standard-holds}
use Rattle.picture.proofs.search.cell_found.Goals as goal

-- the search's window is that of the owner, and holds the place
found : (old now : Windows) (ps : Panels) (y x edge w : ℕ) (span : Span) → now ≡ old → IsSpan now.window ps y x edge span → w ≡ window_or_standard ps (panel_number span.panel)
    → w ≡ window_or_standard ps (owner old.window ps y x)
found old now ps y x edge w span kept is window = grind arith

held : (ws : Windows) (ps : Panels) (y x w : ℕ) → AreSoundWindows ws → y < ws.lines → x < ws.columns → w ≡ window_or_standard ps (owner ws.window ps y x) → holds ws.window w y x ≡ true
held ws ps y x w sound below left is = grind (arith, owner-held, standard-holds)

is_held : (c : goal.After-place-top) → holds (windows_of c.args.table.now).window c.window_of-win.result.0 c.args.y c.args.x ≡ true
is_held c =
    let a = c.args in
    let ws = windows_of a.table.now in
    let ps = panels a.stack.now in
    let win = c.window_of-win.result.0 in
    let column : a.x < a.table.now.columns = let inside = c.requires.column in let all = c.requires.columns in omega (arith, inside, all) in
    held ws ps a.y a.x win c.requires.windows c.requires.line column
    (found ws (windows_of c.of.result.table.now) ps a.y a.x (a.columns - 1) win c.owner_span-span.result c.of.ensures.windows c.owner_span-span.ensures c.window_of-win.ensures)

pub owner_span-span-requires : goal.owner_span-span-requires
owner_span-span-requires c κs =
    let inside = c.requires.column in (
      (refl, record {}),
      (
        subst (λ (ws : Windows). HasPanelWindows ws.window (panels c.args.stack.now)) (sym c.of.ensures.windows)
            (sound-windows (windows_of c.args.table.now).window (panels c.args.stack.now) c.requires.panels),
        omega (arith, inside),
      ),
    )

pub overflow_sub-y : goal.overflow_sub-y
overflow_sub-y c = let on = is_held c in grind (arith, held-before)

pub overflow_sub-x : goal.overflow_sub-x
overflow_sub-x c = let on = is_held c in grind (arith, held-before)

pub cell-requires : goal.cell-requires
cell-requires c = let on = is_held c in grind (arith, held-place)

pub returns : goal.returns
returns c = grind (arith, found)
