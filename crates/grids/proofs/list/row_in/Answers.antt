use Rattle.std.specs.Prelude.{◌≡◌}
use Rattle.grids.specs.{Some, arith, common_steps, slot_at}
use Rattle.grids.proofs.list.row_in.Goals as goal

pub returns-clause-row : goal.returns-clause-row
returns-clause-row c =
    let there : slot_at c.args.slots.now c.args.at ≡ Some c.in-Some.slot = grind (arith, common_steps) in
    rw there c.row.ensures.row
