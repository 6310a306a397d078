-- The number that is put there is the owner's.
use Rattle.std.specs.Prelude.{◌≡◌, ◌-◌}
use Rattle.picture.specs.{slice_index, ap, ◌∙◌, arith}
use Rattle.picture.proofs.spans.Spans.end_before.Goals as goal

pub returns-then-x-gt0-clause-owner : goal.returns-then-x-gt0-clause-owner
returns-then-x-gt0-clause-owner c = λ o h e u edge upto none.
    let at : e ≡ c.args.x - 1 = omega (arith, edge) in
    let put : slice_index c.put.new.self.panels e ≡ c.owner_at-panel.result = ap (slice_index c.put.new.self.panels) at ∙ c.put.ensures.panel in
    rw put (c.owner_at-panel.ensures o h u (omega (arith, upto, at)) (λ n from below. none n from (omega (arith, below, at))))
