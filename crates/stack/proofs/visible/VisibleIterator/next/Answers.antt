-- A way goes on to the next panel.
use Rattle.std.specs.Prelude.{◌<◌}
use Rattle.stack.specs.{arith, neighbour_at, IsWay}
use Rattle.stack.proofs.Threads.{goes-on}
use Rattle.stack.proofs.visible.VisibleIterator.next.Goals.{then-self, else-self}
use Rattle.stack.proofs.visible.VisibleIterator.next.Goals as goal

pub invariant_of-self : goal.invariant_of-self
invariant_of-self c =
    let nodes = c.self.inside.nodes.now in
    let next = neighbour_at c.self.inside.upwards nodes in
    let some : 0 < c.self.inside.at = grind arith in
    let h : IsWay nodes next (next c.self.inside.at) = goes-on nodes next c.self.inside.at c.self.invariant some in
    elim c.if-self.branch [
      | then-self w ↦ grind (arith, h)
      | else-self w ↦ grind (arith, h)
    ]
