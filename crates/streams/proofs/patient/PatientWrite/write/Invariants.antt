-- `Patient::write`: an interrupted write appends nothing.
use Rattle.streams.specs.{Keeps}
use Rattle.streams.proofs.patient.PatientWrite.write.Given as goal

abbrev pub invariant-loop : goal.invariant-loop
invariant-loop g l = Keeps (g.W.Write.contents l.initial.self.stream) (g.W.Write.contents l.self.stream)
