-- The loop looks at each ancestor of a window once.
use Rattle.std.specs.Prelude.{◌||◌}
use Rattle.grids.specs.{refl, sym, ap, ◌∙◌, derives, windows}
use Rattle.grids.proofs.Ancestors.{derives-next, derives-none, first-there}
use Rattle.grids.proofs.table.Grids.derives.Goals as goal

pub loop-next-init : goal.loop-next-init
loop-next-init c =
    rw c.first_of-at.ensures (record { there = first-there (windows c.args.self.now) c.args.u.0 c.has_window.ensures.sound c.requires; further = refl })

pub returns-then-eq-clause-value : goal.returns-then-eq-clause-value
returns-then-eq-clause-value c =
    let w = windows c.args.self.now in
    sym (c.loop-next.invariant.further ∙ derives-next w c.has_window.ensures.sound c.args.w.0 c.loop-next.at c.in-Some.next c.in-Some.ensures.next
    ∙ ap (λ t. t || derives w.window c.args.w.0 c.in-Some.next.win.0) (sym c.eq.ensures ∙ c.if-eq.true))

pub loop-next-preserved : goal.loop-next-preserved
loop-next-preserved c =
    let w = windows c.args.self.now in
    record {
      there = c.in-Some.ensures.inside;
      further =
          c.loop-next.invariant.further ∙ derives-next w c.has_window.ensures.sound c.args.w.0 c.loop-next.at c.in-Some.next c.in-Some.ensures.next
          ∙ ap (λ t. t || derives w.window c.args.w.0 c.in-Some.next.win.0) (sym c.eq.ensures ∙ c.if-eq.false);
    }

pub returns-clause-value : goal.returns-clause-value
returns-clause-value c =
    sym (c.loop-next.invariant.further ∙ derives-none (windows c.args.self.now) c.has_window.ensures.sound c.args.w.0 c.loop-next.at c.in_default.ensures.next)
