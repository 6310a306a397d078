-- `characters_are_keys`: the bytes of each character are its key and no others are (`Characters`).
use Rattle.keys.proofs.Characters.{ascii, decoded-all, encoded-scalar}
use Rattle.keys.proofs.laws.characters_are_keys.Goals as goal

pub returns-clause-ascii : goal.returns-clause-ascii
returns-clause-ascii c = ascii

pub returns-clause-others : goal.returns-clause-others
returns-clause-others c = encoded-scalar

pub returns-clause-only : goal.returns-clause-only
returns-clause-only c = decoded-all
