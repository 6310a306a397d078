-- `all_are_sequences`: each sequence is one (`Sequences`).
use Rattle.keys.proofs.Sequences.{sequences-reading}
use Rattle.keys.proofs.Readings.{pending-reading}
use Rattle.keys.proofs.laws.all_are_sequences.Goals as goal

pub returns-clause-sequences : goal.returns-clause-sequences
returns-clause-sequences c = sequences-reading

pub returns-clause-pending : goal.returns-clause-pending
returns-clause-pending c = pending-reading
