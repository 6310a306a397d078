-- Each run of columns has one owner, whose cells are put into the line; so the line is that of the picture.
use Rattle.std.specs.Prelude.{◌≡◌, ◌+◌, ◌-◌}
use Rattle.picture.specs.{rules, ℕ, refl, ap, subst, ◌∙◌, arith, Shown, shown, Windows, found_from_top, panels, GrewBy, KnowsOwners}
use Rattle.picture.proofs.Lines.{LineShown}
use Rattle.picture.proofs.PictureRuns.{IsRead, held_run, run-between, run-grew, run-line, run-no-pad, run-of, run-place}
use Rattle.picture.proofs.line.compose_columns.Goals as goal

pub loop-span-init : goal.loop-span-init
loop-span-init g c = record {
  from = omega arith;
  within = c.requires.ordered;
  same = refl;
  count = search rules;
  known = c.requires.known;
  line = search rules;
  kept = λ _. refl;
}

pub rect-rect-requires : goal.rect-rect-requires
rect-rect-requires g c κs =
    let held = held_run c.loop-span.invariant.same (run-of c.span-span.ensures.span c.window_of-win.ensures) c.loop-span.invariant.from c.requires.standard in
    ((refl, record {}), run-no-pad held)

pub overflow_sub-y : goal.overflow_sub-y
overflow_sub-y g c =
    let held = held_run c.loop-span.invariant.same (run-of c.span-span.ensures.span c.window_of-win.ensures) c.loop-span.invariant.from c.requires.standard in
    (run-between held c.rect-rect.result c.rect-rect.ensures.holds).top

pub overflow_sub-x : goal.overflow_sub-x
overflow_sub-x g c =
    let held = held_run c.loop-span.invariant.same (run-of c.span-span.ensures.span c.window_of-win.ensures) c.loop-span.invariant.from c.requires.standard in
    (run-between held c.rect-rect.result c.rect-rect.ensures.holds).left

pub overflow_sub-span : goal.overflow_sub-span
overflow_sub-span g c =
    let held = held_run c.loop-span.invariant.same (run-of c.span-span.ensures.span c.window_of-win.ensures) c.loop-span.invariant.from c.requires.standard in
    let between = run-between held c.rect-rect.result c.rect-rect.ensures.holds in
    omega (arith, held.run.from, between.left)

pub read-cells-requires : goal.read-cells-requires
read-cells-requires g c κs =
    let held = held_run c.loop-span.invariant.same (run-of c.span-span.ensures.span c.window_of-win.ensures) c.loop-span.invariant.from c.requires.standard in
    ((refl, record {}), (omega (arith, held.run.from), run-place held c.rect-rect.result c.rect-rect.ensures.place))

pub returns-then-span-right-clause-shown : goal.returns-then-span-right-clause-shown
returns-then-span-right-clause-shown g c =
    let a = c.args in
    let l = c.loop-span in
    let held = held_run l.invariant.same (run-of c.span-span.ensures.span c.window_of-win.ensures) l.invariant.from c.requires.standard in
    let is_read : IsRead _ _ _ a.y l.x a.right _ _ c.rect-rect.result c.read-cells.result.now =
    record { held = held; place = c.rect-rect.ensures.place; rectangle = c.rect-rect.ensures.holds; piece = c.read-cells.ensures.piece } in
    let f : ℕ → Shown = λ u. shown a.pairs.now (found_from_top (g.R.Rows.windows a.rows.now).window (panels a.stack.now) a.y u) in
    let line = run-line is_read a.pairs.now a.left a.picture.now l.picture c.show_cells-changed.new.picture l.invariant.line l.invariant.from
    c.show_cells-changed.ensures.shown c.show_cells-changed.ensures.size c.show_cells-changed.ensures.height (c.show_cells-changed.ensures.width a.y) in
    let all : LineShown f a.y a.left (a.right + 1) a.picture.now c.show_cells-changed.new.picture = subst (λ k. LineShown f a.y a.left (k + 1) a.picture.now c.show_cells-changed.new.picture) c.if-span-right.true
    line in
    all.shown

pub returns-then-span-right-clause-size : goal.returns-then-span-right-clause-size
returns-then-span-right-clause-size g c = λ lines columns h. c.show_cells-changed.ensures.size lines columns (c.loop-span.invariant.line.size lines columns h)

pub returns-then-span-right-clause-count : goal.returns-then-span-right-clause-count
returns-then-span-right-clause-count g c =
    let a = c.args in
    let l = c.loop-span in
    let held = held_run l.invariant.same (run-of c.span-span.ensures.span c.window_of-win.ensures) l.invariant.from c.requires.standard in
    let is_read : IsRead _ _ _ a.y l.x a.right _ _ c.rect-rect.result c.read-cells.result.now =
    record { held = held; place = c.rect-rect.ensures.place; rectangle = c.rect-rect.ensures.holds; piece = c.read-cells.ensures.piece } in
    let begun = l.invariant.from in
    let upto = l.invariant.within in
    let sum : a.right + 1 - a.left ≡ a.right - a.left + 1 = omega (arith, begun, upto) in
    let before = g.R.Rows.cells_read a.rows.now in
    let after = g.R.Rows.cells_read c.read-cells.new.self in
    let more = run-grew is_read a.left before (g.R.Rows.cells_read l.rows) after begun l.invariant.count c.read-cells.ensures.count in
    subst (λ n. GrewBy n before after) (ap (λ k. k + 1 - a.left) c.if-span-right.true ∙ sum) more

pub returns-then-span-right-clause-kept : goal.returns-then-span-right-clause-kept
returns-then-span-right-clause-kept g c is = let kept = c.show_cells-changed.ensures.kept is in kept.1 ∙ c.loop-span.invariant.kept kept.0

pub loop-span-preserved : goal.loop-span-preserved
loop-span-preserved g c =
    let a = c.args in
    let l = c.loop-span in
    let held = held_run l.invariant.same (run-of c.span-span.ensures.span c.window_of-win.ensures) l.invariant.from c.requires.standard in
    let is_read : IsRead _ _ _ a.y l.x a.right _ _ c.rect-rect.result c.read-cells.result.now =
    record { held = held; place = c.rect-rect.ensures.place; rectangle = c.rect-rect.ensures.holds; piece = c.read-cells.ensures.piece } in
    let run = held.run in
    let from = run.from in
    let within = run.within in
    let begun = l.invariant.from in
    let not_last = c.if-span-right.false in
    record {
      from = omega (arith, begun, from);
      within = omega (arith, within, not_last);
      same = c.read-cells.ensures.same ∙ l.invariant.same;
      known = subst (λ (ws : Windows). KnowsOwners ws.window (panels a.stack.now) c.span-span.new.self) l.invariant.same c.span-span.ensures.known;
      count = run-grew is_read a.left (g.R.Rows.cells_read a.rows.now) (g.R.Rows.cells_read l.rows) (g.R.Rows.cells_read c.read-cells.new.self) begun l.invariant.count c.read-cells.ensures.count;
      line = run-line is_read a.pairs.now a.left a.picture.now l.picture c.show_cells-changed.new.picture l.invariant.line begun
          c.show_cells-changed.ensures.shown c.show_cells-changed.ensures.size c.show_cells-changed.ensures.height (c.show_cells-changed.ensures.width a.y);
      kept = λ is. let kept = c.show_cells-changed.ensures.kept is in kept.1 ∙ l.invariant.kept kept.0;
    }
