-- The rectangle that two windows share, at the place of one, is a part of the screen.
use Rattle.picture.specs.{rules}
use Rattle.picture.proofs.Placement.{placed}
use Rattle.picture.proofs.PartLaws.{shared-same}
use Rattle.picture.proofs.parts.shared_part.Goals as goal

pub returns-clause-holds : goal.returns-clause-holds
returns-clause-holds c = search (rules, placed, shared-same)
