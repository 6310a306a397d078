-- `show_touched`: a drawing is laid over a picture line by line (`Laying`), as noutrefresh draws on each line of the screen (`RefreshedLines`), and is
-- damaged line by line (`Touching`).
use Rattle.std.specs.Prelude.{◌≡◌, ◌+◌, ◌-◌}
use Rattle.compose.specs.{arith, refl, rules, subst, sym, ◌∙◌, common_steps, Rect, Drawing, cell_at, touched_cells, windows}
use Rattle.extents.proofs.Changing.{changes-none, changes-then}
use Rattle.picture.proofs.DamageLaws.{damages-rectangle}
use Rattle.picture.proofs.Placement.{placed_at}
use Rattle.compose.proofs.Laying.{LaidAbove, laid-all, laid-bare, laid-more}
use Rattle.compose.proofs.RefreshedLines.{bare-above, bare-below, bare-untouched, piece-touched, touched-inside}
use Rattle.compose.proofs.Touching.{DamagedAbove, above-all, above-bare, above-more, above-none}
use Rattle.compose.proofs.refresh.show_touched.Goals.{in-Some, in_default-touched_columns}
use Rattle.compose.proofs.refresh.show_touched.Goals as goal

pub loop-y-init : goal.loop-y-init
loop-y-init c =
    let a = c.args in
    let ws = windows a.table.now in
    let placed = placed_at ws a.win.0 (a.top, a.left) c.in-Ok.lines c.in-Ok.field-0-1 c.requires.windows c.requires.place c.in-Ok.ensures.answer in
    record {
      laid = first_of (search rules, grind (arith, common_steps));
      changes = changes-none a.picture.now.changes a.picture.now.cells;
      few = above-none ws.columns (touched_cells ws.window a.win.0) a.picture.now.changes (a.top + 0)
          (λ v before. bare-above ws a.win.0 (a.top, a.left) c.in-Ok.lines placed v (omega (arith, before)));
      height = c.requires.damage;
      damaged = above-none ws.columns (touched_cells ws.window a.win.0) a.damage.now (a.top + 0) (λ v before. bare-above ws a.win.0 (a.top, a.left) c.in-Ok.lines placed v (omega (arith, before)));
    }

pub loop-y-preserved : goal.loop-y-preserved
loop-y-preserved c =
    let a = c.args in
    let table = a.table.now in
    let ws = windows table in
    let w = a.win.0 in
    let y = c.loop-y.y in
    let h = c.loop-y.invariant in
    let placed = placed_at ws w (a.top, a.left) c.in-Ok.lines c.in-Ok.field-0-1 c.requires.windows c.requires.place c.in-Ok.ensures.answer in
    let f : Drawing = touched_cells ws.window w in
    let next : a.top + y + 1 ≡ a.top + (y + 1) = omega arith in
    record {
      laid = subst (λ n. LaidAbove a.pairs.now f table.lines table.columns a.picture.now.cells n c.match-touched_columns.picture.cells) next
          (elim c.match-touched_columns.branch [
            | in-Some s ↦
                let first = s.in-Some.columns.first in
                let last = s.in-Some.columns.last in
                rw s.picture-is
                (laid-more a.pairs.now f table.lines table.columns a.picture.now.cells (a.top + y) (a.left + first) (last - first + 1)
                (λ u. cell_at ws.window w y (first + (u - (a.left + first)))) c.loop-y.picture.cells s.show_piece.new.self.cells h.laid
                (piece-touched ws w (a.top, a.left) c.in-Ok.lines placed y s.in-Some.columns c.loop-y-test.true (sym s.in-Some.ensures.columns))
                s.show_piece.ensures.shown s.show_piece.ensures.size)
            | in_default-touched_columns s ↦ rw s.picture-is (laid-bare a.pairs.now f table.lines table.columns a.picture.now.cells (a.top + y) c.loop-y.picture.cells h.laid
                (bare-untouched ws w (a.top, a.left) c.in-Ok.lines placed y (sym s.in_default-touched_columns.ensures.columns)))
          ]);
      changes = elim c.match-touched_columns.branch [
        | in-Some s ↦ rw s.picture-is (changes-then h.changes s.show_piece.ensures.changes)
        | in_default-touched_columns s ↦ rw s.picture-is h.changes
      ];
      few = subst (λ n. DamagedAbove ws.columns f a.picture.now.changes n c.match-touched_columns.picture.changes) next (elim c.match-touched_columns.branch [
        | in-Some s ↦
            let first = s.in-Some.columns.first in
            let last = s.in-Some.columns.last in
            let inside = touched-inside ws w (a.top, a.left) c.in-Ok.lines placed y s.in-Some.columns (sym s.in-Some.ensures.columns) in
            let ordered = inside.0 in
            let right = inside.1 in
            let r : Rect = record { top = a.top + y; left = a.left + first; bottom = a.top + y; right = a.left + first + (last - first + 1 - 1) } in
            rw s.picture-is
            (above-more ws.columns f a.picture.now.changes (a.top + y) (a.left + first) (last - first + 1) (λ u. cell_at ws.window w y (first + (u - (a.left + first))))
            r c.loop-y.picture.changes s.show_piece.new.self.changes h.few
            (piece-touched ws w (a.top, a.left) c.in-Ok.lines placed y s.in-Some.columns c.loop-y-test.true (sym s.in-Some.ensures.columns))
            (omega arith) (omega (arith, ordered, right)) refl refl refl (omega (arith, ordered)) s.show_piece.ensures.few)
        | in_default-touched_columns s ↦ rw s.picture-is (above-bare ws.columns f a.picture.now.changes (a.top + y) c.loop-y.picture.changes h.few
            (bare-untouched ws w (a.top, a.left) c.in-Ok.lines placed y (sym s.in_default-touched_columns.ensures.columns)))
      ]);
      height = elim c.match-touched_columns.branch [
        | in-Some s ↦ rw s.damage-is (s.rectangle.ensures.height ∙ h.height)
        | in_default-touched_columns s ↦ rw s.damage-is h.height
      ];
      damaged = subst (λ n. DamagedAbove ws.columns f a.damage.now n c.match-touched_columns.damage) next (elim c.match-touched_columns.branch [
        | in-Some s ↦
            let first = s.in-Some.columns.first in
            let last = s.in-Some.columns.last in
            let inside = touched-inside ws w (a.top, a.left) c.in-Ok.lines placed y s.in-Some.columns (sym s.in-Some.ensures.columns) in
            let ordered = inside.0 in
            let right = inside.1 in
            let r : Rect = record { top = a.top + y; left = a.left + first; bottom = a.top + y; right = a.left + last } in
            rw s.damage-is
            (above-more ws.columns f a.damage.now (a.top + y) (a.left + first) (last - first + 1) (λ u. cell_at ws.window w y (first + (u - (a.left + first))))
            r c.loop-y.damage s.rectangle.new.self h.damaged
            (piece-touched ws w (a.top, a.left) c.in-Ok.lines placed y s.in-Some.columns c.loop-y-test.true (sym s.in-Some.ensures.columns))
            (omega arith) (omega (arith, ordered, right)) refl refl refl (omega (arith, ordered))
            (damages-rectangle ws.columns r c.loop-y.damage s.rectangle.new.self s.rectangle.ensures.height s.rectangle.ensures.each (omega (arith, ordered)) right))
        | in_default-touched_columns s ↦ rw s.damage-is (above-bare ws.columns f a.damage.now (a.top + y) c.loop-y.damage h.damaged
            (bare-untouched ws w (a.top, a.left) c.in-Ok.lines placed y (sym s.in_default-touched_columns.ensures.columns)))
      ]);
    }

pub returns : goal.returns
returns c =
    let a = c.args in
    let table = a.table.now in
    let ws = windows table in
    let w = a.win.0 in
    let h = c.loop-y.invariant in
    let end = c.loop-y-test.false in
    let placed = placed_at ws w (a.top, a.left) c.in-Ok.lines c.in-Ok.field-0-1 c.requires.windows c.requires.place c.in-Ok.ensures.answer in
    record {
      shown = laid-all a.pairs.now (touched_cells ws.window w) table.lines table.columns a.picture.now.cells (a.top + c.loop-y.y) c.loop-y.picture.cells h.laid
          (λ v from below. bare-below ws w (a.top, a.left) c.in-Ok.lines placed v (omega (arith, from, end)));
      changes = h.changes;
      few = above-all ws.columns (touched_cells ws.window w) a.picture.now.changes (a.top + c.loop-y.y) c.loop-y.picture.changes h.few
          (λ v from. bare-below ws w (a.top, a.left) c.in-Ok.lines placed v (omega (arith, from, end)));
      damaged = above-all ws.columns (touched_cells ws.window w) a.damage.now (a.top + c.loop-y.y) c.loop-y.damage h.damaged
          (λ v from. bare-below ws w (a.top, a.left) c.in-Ok.lines placed v (omega (arith, from, end)));
    }
