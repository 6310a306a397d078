-- A call keeps the picture where the law of its effect says so, for edits, moves and all calls.
use Rattle.world.specs.{arith}
use Rattle.world.proofs.CallLaws.{picture-kept}
use Rattle.world.proofs.LineLaws.{free-place}
use Rattle.world.proofs.MoveLaws.{found-moved}
use Rattle.world.proofs.PictureLaws.{found-put, standard-holds}
use Rattle.world.proofs.ViewLaws.{outline_of}
use Rattle.world.proofs.laws.kept_picture.Goals as goal

pub returns-clause-written : goal.returns-clause-written
returns-clause-written c = grind (arith, found-put, outline_of, standard-holds)

pub returns-clause-moved : goal.returns-clause-moved
returns-clause-moved c = grind (arith, found-moved)

pub returns-clause-called : goal.returns-clause-called
returns-clause-called c = grind (arith, picture-kept, free-place)
