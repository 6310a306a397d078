-- The panel is between the end and the bottom one now.
use Rattle.stack.specs.{arith, rules}
use Rattle.stack.proofs.Threads.{bottom-below, panel-below, put_at_bottom}
use Rattle.stack.proofs.links.put_at_bottom.Goals as goal

pub link-requires-2-clause-upper : goal.link-requires-2-clause-upper
link-requires-2-clause-upper c = grind (arith, panel-below, bottom-below)

pub returns : goal.returns
returns c = search (rules, put_at_bottom)
