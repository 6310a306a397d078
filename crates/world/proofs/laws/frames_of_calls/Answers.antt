use Rattle.world.specs.{effect_of}
use Rattle.world.proofs.CellLaws.{effect-written}
use Rattle.world.proofs.laws.frames_of_calls.Goals as goal

pub returns : goal.returns
returns c = λ world call. effect-written world.windows (effect_of world call)
