-- `one_failure`: what a stream reaches, and where it fails (`Failing`).
use Rattle.ecma.proofs.Failing.{FailsAt-offset, FailsAt-outside, FailsAt-terminal}
use Rattle.ecma.proofs.laws.one_failure.Goals as goal

pub returns-clause-offset : goal.returns-clause-offset
returns-clause-offset c = FailsAt-offset

pub returns-clause-terminal : goal.returns-clause-terminal
returns-clause-terminal c = FailsAt-terminal

pub returns-clause-outside : goal.returns-clause-outside
returns-clause-outside c = FailsAt-outside
