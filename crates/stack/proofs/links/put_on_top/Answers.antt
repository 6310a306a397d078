-- The panel is between the top one and the end now.
use Rattle.stack.specs.{arith, rules}
use Rattle.stack.proofs.Threads.{panel-below, put_on_top, top-below}
use Rattle.stack.proofs.links.put_on_top.Goals as goal

pub link-requires-clause-lower : goal.link-requires-clause-lower
link-requires-clause-lower c = grind (arith, panel-below, top-below)

pub returns : goal.returns
returns c = search (rules, put_on_top)
