use Rattle.commands.specs.{length}
use Rattle.commands.proofs.PutLemmas.{IsPartlyPut}
use Rattle.commands.proofs.writing.put.Given as goal

abbrev pub invariant-loop-rest : goal.invariant-loop-rest
invariant-loop-rest g l = IsPartlyPut (λ bytes. bytes) (g.W.Sink.seen l.fn.sink) (g.W.Sink.seen l.sink) l.text l.rest

abbrev pub decreases-loop-rest : goal.decreases-loop-rest
decreases-loop-rest g l = length l.rest
