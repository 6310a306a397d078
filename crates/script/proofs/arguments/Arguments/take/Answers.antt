-- A number is put after those before it.
use Rattle.script.specs.{length-append, arith}
use Rattle.script.proofs.arguments.Arguments.take.Goals as goal

pub returns-in-Some : goal.returns-in-Some
returns-in-Some c = grind (arith, length-append)
