-- `paint`: line after line is planned, and those between them are shown already.
use Rattle.std.specs.Prelude.{◌≡◌, ◌<◌, ◌≤◌}
use Rattle.paint.specs.{ℕ, None, Option, List, length, refl, arith, Picture, Columns, columns_of, IsUpdate, AreSameBetween}
use Rattle.paint.proofs.FoundStrokes.{planned-same, same-lines, way-none, way-planned, way-whole}
use Rattle.paint.proofs.drawing.paint.Goals as goal

-- lines that have no changes
unchanged : {lines columns : ℕ} {changes : List (Option Columns)} {shown wanted : Picture} → IsUpdate lines columns changes shown wanted → (y z : ℕ) → y ≤ z
    → ((v : ℕ) → y ≤ v → v < z → columns_of changes v ≡ None) → AreSameBetween shown wanted (y, 0) (z, 0)
unchanged {shown} {wanted} f y z ordered none = same-lines shown wanted y z ordered (λ v u from to. f.changes.others v u (rw (none v from to) refl))

pub loop-line-init : goal.loop-line-init
loop-line-init g c =
    let f = c.args.update.now.sound in
    let same : length c.args.update.now.shown.now ≡ length c.args.update.now.wanted.now = omega (arith, f.shown.height, f.wanted.height) in
    let next = c.next_line-line.ensures in
    record {
      within = omega (arith, f.height, next.inside);
      under_way = rw c.begin_plan.ensures (way-planned (way-none _ c.args.pen.now _ _ same) (λ others h. planned-same same h (unchanged f 0 c.next_line-line.result (omega arith) next.none)));
      same = grind arith;
    }

pub loop-line-preserved : goal.loop-line-preserved
loop-line-preserved g c =
    let f = c.args.update.now.sound in
    let next = c.next_line-line-in-loop-line.ensures in
    let after = c.plan_line-after.ensures in
    let same : length c.args.update.now.shown.now ≡ length c.args.update.now.wanted.now = omega (arith, f.shown.height, f.wanted.height) in
    record {
      within = omega (arith, f.height, next.inside, after.within);
      under_way = way-planned (after.under_way _ _ c.loop-line.invariant.under_way)
          (λ others h. planned-same same h (unchanged f c.plan_line-after.result c.next_line-line-in-loop-line.result next.from next.none));
      same = grind arith;
    }

pub plan_line-after-requires-clause-are : goal.plan_line-after-requires-clause-are
plan_line-after-requires-clause-are g c = c.loop-line.invariant.under_way.planned.are

pub draw_plan-requires-clause-are : goal.draw_plan-requires-clause-are
draw_plan-requires-clause-are g c = c.loop-line.invariant.under_way.planned.are

pub returns-in_default-clause-draws : goal.returns-in_default-clause-draws
returns-in_default-clause-draws g c =
    let f = c.args.update.now.sound in
    let same : length c.args.update.now.shown.now ≡ length c.args.update.now.wanted.now = omega (arith, f.shown.height, f.wanted.height) in
    let none = rw c.in_default.is at c.last_changed.ensures in
    way-whole f.shown f.wanted (way-planned (way-none _ c.args.pen.now _ _ same)
    (λ others h. planned-same same h (same-lines _ _ 0 c.args.update.now.lines (omega arith) (λ v u from to. none v u))))

pub returns-clause-draws : goal.returns-clause-draws
returns-clause-draws g c =
    let f = c.args.update.now.sound in
    let same : length c.args.update.now.shown.now ≡ length c.args.update.now.wanted.now = omega (arith, f.shown.height, f.wanted.height) in
    let last = rw c.in-Some.is at c.last_changed.ensures in
    let drawn = rw c.draw_plan.ensures.none at (c.draw_plan.ensures.under_way _ _ (c.loop-line.line, 0) c.loop-line.invariant.under_way) in
    way-whole f.shown f.wanted (way-planned drawn
    (λ others h. planned-same same h (same-lines _ _ c.loop-line.line c.args.update.now.lines c.loop-line.invariant.within
    (λ v u from to. last.later v u (omega (arith, from, c.loop-line-test.false))))))
