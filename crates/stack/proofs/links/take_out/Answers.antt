-- The neighbours of the panel are each other's now, and it names itself.
use Rattle.stack.specs.{arith, rules, from_bottom}
use Rattle.stack.proofs.DistinctNumbers.{out-without}
use Rattle.stack.proofs.Threads.{above-below, below-below, panel-below, taken_out}
use Rattle.stack.proofs.links.take_out.Goals as goal

pub link-requires-clause-lower : goal.link-requires-clause-lower
link-requires-clause-lower c = grind (arith, panel-below, below-below)

pub link-requires-clause-upper : goal.link-requires-clause-upper
link-requires-clause-upper c = grind (arith, panel-below, above-below)

pub returns-clause-order : goal.returns-clause-order
returns-clause-order c = search (rules, taken_out)

pub returns-clause-out : goal.returns-clause-out
returns-clause-out c = rw (returns-clause-order c).is (out-without c.args.panel (from_bottom c.args.nodes.now))
