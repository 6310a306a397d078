use Rattle.world.proofs.WritingLaws.{inside-edit}
use Rattle.world.proofs.laws.frames_are_inside.Goals as goal

pub returns : goal.returns
returns c = inside-edit
