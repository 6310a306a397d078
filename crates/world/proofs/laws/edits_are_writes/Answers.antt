use Rattle.world.proofs.EditLaws.{edit-draws}
use Rattle.world.proofs.laws.edits_are_writes.Goals as goal

pub returns : goal.returns
returns c = edit-draws
