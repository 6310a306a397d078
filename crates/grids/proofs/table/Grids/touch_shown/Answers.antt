-- Each round touches what one line more shows, and leaves the lines before as they are.
use Rattle.std.specs.Prelude.{◌≡◌}
use Rattle.grids.specs.{ℕ, false, Option, arith, ap, refl, sym, ◌∙◌, option_map_or, Window, windows, depth_at, shows_touched, touched_shown, common_steps}
use Rattle.grids.specs.declared.table.Grids.{Grids}
use Rattle.grids.proofs.Touches.{none-before, all-before, at-line, next-none, next-some}
use Rattle.grids.proofs.Chain.{some_and}
use Rattle.grids.proofs.table.Grids.touch_shown.Goals as goal
use Rattle.grids.proofs.table.Grids.touch_shown.Goals.{in-Some, in_default}

pub loop-y-init : goal.loop-y-init
loop-y-init c =
    let a = c.args in
    let w = windows a.self.now in
    record { touched = none-before w a.win (touched_shown w.window a.source a.from a.to); depths = λ u. refl }

pub shown_columns-requires : goal.shown_columns-requires
shown_columns-requires c =
    let l = at-line _ _ _ _ _ _ _ _ c.requires.other c.requires.window c.size-lines.ensures c.loop-y-test.true c.loop-y.invariant.touched in
    grind (arith, common_steps)

pub touch-requires-clause-there : goal.touch-requires-clause-there
touch-requires-clause-there c =
    let l = at-line _ _ _ _ _ _ _ _ c.requires.other c.requires.window c.size-lines.ensures c.loop-y-test.true c.loop-y.invariant.touched in
    grind (arith, common_steps)

pub loop-y-preserved : goal.loop-y-preserved
loop-y-preserved c =
    let a = c.args in
    let w = windows a.self.now in
    let l = at-line _ _ _ _ _ _ _ _ c.requires.other c.requires.window c.size-lines.ensures c.loop-y-test.true c.loop-y.invariant.touched in
    let test = touched_shown w.window a.source a.from a.to in
    let cur = windows c.loop-y.self in
    let same : (x : ℕ) → test c.loop-y.y x ≡ touched_shown cur.window a.source a.from a.to c.loop-y.y x =
    λ x. ap (λ (o : Option Window). option_map_or (λ (d : Window). shows_touched d a.from a.to c.loop-y.y x) o false) (sym l.same) in
    elim c.match-shown_columns.branch [
      | in-Some v ↦
          let r = v.in-Some.columns in
          let within = rw l.here at v.in-Some.ensures.within in
          let shown = rw l.here at v.in-Some.ensures.shown in
          record {
            touched = ap (λ (g : Grids). windows g) v.self-is
                ∙ next-some w a.win test l.window l.there c.loop-y.y r.first r.last l.below within.0 within.1 (λ x on. same x ∙ shown x on) cur
                (windows v.touch.new.self) c.loop-y.invariant.touched v.touch.ensures.touched;
            depths = λ u. ap (λ (g : Grids). depth_at g.slots u) v.self-is ∙ v.touch.ensures.depths u ∙ c.loop-y.invariant.depths u;
          }
      | in_default v ↦
          let shown = rw l.here at v.in_default.ensures.shown in
          record {
            touched = ap (λ (g : Grids). windows g) v.self-is ∙ c.loop-y.invariant.touched ∙ next-none w a.win test l.window l.there c.loop-y.y l.below (λ x on. same x ∙ shown x on);
            depths = λ u. ap (λ (g : Grids). depth_at g.slots u) v.self-is ∙ c.loop-y.invariant.depths u;
          }
    ]

pub returns-clause-touched : goal.returns-clause-touched
returns-clause-touched c =
    let b = some_and _ _ c.requires.window in
    c.loop-y.invariant.touched ∙ all-before _ c.args.win _ b.0 b.1 c.loop-y.y (grind (arith, common_steps))
