-- An effect keeps the shape of each window, by the law of that effect.
use Rattle.world.specs.{arith}
use Rattle.world.proofs.MoveLaws.{move_shows-moved}
use Rattle.world.proofs.PictureLaws.{frame_shows-same}
use Rattle.world.proofs.WritingLaws.{there-still, view-edit}
use Rattle.world.proofs.laws.shapes_are_kept.Goals as goal

pub returns-clause-edited : goal.returns-clause-edited
returns-clause-edited c = grind (arith, frame_shows-same, view-edit)

pub returns-clause-there : goal.returns-clause-there
returns-clause-there c = λ windows edit w y x h. there-still _ _ (view-edit windows edit) w y x h

pub returns-clause-shifted : goal.returns-clause-shifted
returns-clause-shifted c = λ windows panels w v z y x. move_shows-moved windows w v z panels y x
