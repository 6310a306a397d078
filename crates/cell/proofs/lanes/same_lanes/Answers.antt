use Rattle.cell.proofs.LaneLaws.{mask-from_same, same-from_mask}
use Rattle.cell.proofs.lanes.same_lanes.Goals as goal

pub returns : goal.returns
returns c = (
  same-from_mask _ _ _ _ c.lanes.ensures.bits c.lanes-2.ensures.bits c.lanes.ensures.held c.lanes-2.ensures.held c.requires.old c.requires.new,
  mask-from_same _ _ _ _ c.lanes.ensures.bits c.lanes-2.ensures.bits c.lanes.ensures.held c.lanes-2.ensures.held c.requires.old c.requires.new,
)
