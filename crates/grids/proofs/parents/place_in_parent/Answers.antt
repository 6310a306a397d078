-- `place_in_parent`: what the kit tries by itself takes seconds at these, which `search` finds at once.
use Rattle.grids.specs.{rules}
use Rattle.grids.proofs.parents.place_in_parent.Goals as goal

pub returns-in_default-clause-next : goal.returns-in_default-clause-next
returns-in_default-clause-next c = search rules

pub returns-in_err-part-clause-inside : goal.returns-in_err-part-clause-inside
returns-in_err-part-clause-inside c = search rules

pub returns-in_err-part-clause-depth : goal.returns-in_err-part-clause-depth
returns-in_err-part-clause-depth c = search rules
