use Rattle.world.proofs.RefreshLaws.{found-unmarked, cursor-unmarked}
use Rattle.world.proofs.laws.unmarked_picture.Goals as goal

pub returns-clause-found : goal.returns-clause-found
returns-clause-found c = found-unmarked

pub returns-clause-cursor : goal.returns-clause-cursor
returns-clause-cursor c = cursor-unmarked
