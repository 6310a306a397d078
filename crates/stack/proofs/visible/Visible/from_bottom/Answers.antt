-- The way up ends, and comes to panels alone.
use Rattle.stack.proofs.Threads.{way-up}
use Rattle.stack.proofs.visible.Visible.from_bottom.Goals as goal

pub invariant_of-result : goal.invariant_of-result
invariant_of-result c = rw c.get.ensures (way-up c.args.nodes.now _ c.requires)
