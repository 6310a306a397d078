use Rattle.world.proofs.WritingLaws.{found-edit}
use Rattle.world.proofs.laws.kept_by_edits.Goals as goal

pub returns : goal.returns
returns c = found-edit
