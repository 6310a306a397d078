-- A bit of the mask says of each lane whether the two differ in it.
use Rattle.cell.specs.{ap, eq-eqb, take}
use Rattle.cell.proofs.LaneLaws.{differs_at_mark, mark_within, same-from_mask, same_before_mark}
use Rattle.cell.specs.declared.lanes.TheConstants.{LANES}
use Rattle.cell.proofs.lanes.same_before.Goals as goal

pub returns-then-differing-eq0-clause-same : goal.returns-then-differing-eq0-clause-same
returns-then-differing-eq0-clause-same c =
    ap (take LANES) (same-from_mask _ _ _ _ c.lanes.ensures.bits c.lanes-2.ensures.bits c.lanes.ensures.held c.lanes-2.ensures.held c.requires.old c.requires.new (eq-eqb _ 0 c.if-differing-eq0.true))

pub returns-else-differing-eq0-clause-within : goal.returns-else-differing-eq0-clause-within
returns-else-differing-eq0-clause-within c =
    mark_within _ _ _ _ c.lanes.ensures.bits c.lanes-2.ensures.bits c.lanes.ensures.held c.lanes-2.ensures.held c.requires.old c.requires.new c.if-differing-eq0.false

pub returns-else-differing-eq0-clause-same : goal.returns-else-differing-eq0-clause-same
returns-else-differing-eq0-clause-same c =
    same_before_mark _ _ _ _ c.lanes.ensures.bits c.lanes-2.ensures.bits c.lanes.ensures.held c.lanes-2.ensures.held c.requires.old c.requires.new c.if-differing-eq0.false

pub returns-else-differing-eq0-clause-differs : goal.returns-else-differing-eq0-clause-differs
returns-else-differing-eq0-clause-differs c =
    differs_at_mark _ _ _ _ c.lanes.ensures.bits c.lanes-2.ensures.bits c.lanes.ensures.held c.lanes-2.ensures.held c.requires.old c.requires.new c.if-differing-eq0.false
