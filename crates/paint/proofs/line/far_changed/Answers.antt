-- What is looked at together is the same up to the first difference (`Listing`).
use Rattle.std.proofs.lemmas.Grind.{common_steps}
use Rattle.std.specs.Prelude.{◌-◌}
use Rattle.paint.specs.{take, ap, arith, length-take}
use Rattle.paint.proofs.CellRuns.{part-same}
use Rattle.paint.proofs.line.far_changed.Goals as goal

pub returns-in-Some-clause-alike : goal.returns-in-Some-clause-alike
returns-in-Some-clause-alike c = grind (arith, length-take, part-same, common_steps)

pub returns-in-None-clause-alike : goal.returns-in-None-clause-alike
returns-in-None-clause-alike c =
    let from = c.args.from in
    let n = c.args.end - from in
    λ v after to. part-same from n n v c.args.shown.now c.args.wanted.now (omega arith) (ap (take n) c.in-None.ensures) (omega arith) (omega arith)
