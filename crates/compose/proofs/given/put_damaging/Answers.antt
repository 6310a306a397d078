-- What the edit affects is damaged (`AffectedDamages`).
use Rattle.compose.specs.{sym, ◌∙◌}
use Rattle.compose.proofs.AffectedDamages.{damaging, lines-affected, possible-affected}
use Rattle.compose.proofs.given.put_damaging.Goals as goal

pub damage_affected-requires-clause-height : goal.damage_affected-requires-clause-height
damage_affected-requires-clause-height c = c.requires.height ∙ sym (lines-affected _ _ _ _ c.in_ok-outcome.outcome c.in_ok-outcome.ensures)

pub damage_affected-requires-clause-possible : goal.damage_affected-requires-clause-possible
damage_affected-requires-clause-possible c = possible-affected _ _ _ _ c.in_ok-outcome.outcome c.in_ok-outcome.ensures

pub returns : goal.returns
returns c = damaging _ _ _ _ c.in_ok-outcome.outcome c.in_ok-outcome.ensures _ _ _ c.damage_affected.ensures.damaged
