use Rattle.script.specs.{[], arith, append-nil, Consumes-nil}
use Rattle.script.proofs.bytes.Bytes.next.Goals as goal

pub returns-then-self-clause-byte : goal.returns-then-self-clause-byte
returns-then-self-clause-byte g c = ([], Consumes-nil _, grind (arith, append-nil))

pub returns-then-self-clause-ends : goal.returns-then-self-clause-ends
returns-then-self-clause-ends g c = grind arith
