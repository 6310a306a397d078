-- `pastes_end_so`: how a pasted text ends (`Pastes`).
use Rattle.keys.proofs.Pastes.{paste-whole}
use Rattle.keys.proofs.laws.pastes_end_so.Goals as goal

pub returns : goal.returns
returns c = paste-whole
