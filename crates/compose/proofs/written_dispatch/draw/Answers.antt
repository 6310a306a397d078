-- `draw`: the number of lines that `wscrl` takes is signed, and it is passed as bits.
use Rattle.compose.specs.{rules, w16, to_z-of_z}
use Rattle.compose.proofs.written_dispatch.draw.Goals as goal

pub returns-in-Scrl : goal.returns-in-Scrl
returns-in-Scrl c = rw (c.in-Scrl.is) (search (rw (to_z-of_z w16 c.in-Scrl.n (search rules)) at c.wscrl.ensures))
