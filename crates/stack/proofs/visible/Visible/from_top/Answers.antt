-- The way down ends, and comes to panels alone.
use Rattle.stack.proofs.Threads.{way-down}
use Rattle.stack.proofs.visible.Visible.from_top.Goals as goal

pub invariant_of-result : goal.invariant_of-result
invariant_of-result c = rw c.get.ensures (way-down c.args.nodes.now _ c.requires)
