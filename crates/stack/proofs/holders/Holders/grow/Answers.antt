use Rattle.std.specs.Prelude.{◌+◌}
use Rattle.stack.specs.{arith}
use Rattle.stack.proofs.Indexes.{holder-grown}
use Rattle.stack.proofs.holders.Holders.grow.Goals as goal

pub returns-in_ok-resize-clause-same : goal.returns-in_ok-resize-clause-same
returns-in_ok-resize-clause-same c w =
    rw c.in_ok-resize.ensures.items (rw (← c.self.view_is) (holder-grown c.self.inside.panels.items (c.from-windows.result + 1) _ (omega arith) w))
