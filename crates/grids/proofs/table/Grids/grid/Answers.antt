-- A slot keeps where the first place of its window leads.
use Rattle.grids.specs.{arith}
use Rattle.grids.proofs.table.Grids.grid.Goals as goal

pub returns : goal.returns
returns c = grind (arith, (c.self.invariant.origins.each c.args.win.0))
