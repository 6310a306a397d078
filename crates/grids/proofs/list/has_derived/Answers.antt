use Rattle.grids.specs.{◌∙◌}
use Rattle.grids.proofs.Derived.{has_derived-list}
use Rattle.grids.proofs.list.has_derived.Goals as goal

pub returns : goal.returns
returns c = c.is_named.ensures ∙ has_derived-list c.args.slots.now c.args.win c.requires
