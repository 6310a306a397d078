-- A pad, which has no place, is added.
use Rattle.grids.specs.{arith, common_steps}
use Rattle.grids.proofs.NewWindows.{changed-as}
use Rattle.grids.proofs.table.Grids.newpad.Goals as goal

pub returns : goal.returns
returns c = changed-as (grind (arith, common_steps)) (grind (arith, common_steps)) c.add.ensures
