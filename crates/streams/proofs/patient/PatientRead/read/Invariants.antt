-- `Patient::read`: an interrupted read consumes nothing.
use Rattle.std.specs.Prelude.{◌≡◌}
use Rattle.streams.specs.{length, Keeps}
use Rattle.streams.proofs.patient.PatientRead.read.Given as goal

abbrev pub invariant-loop : goal.invariant-loop
invariant-loop g l = (length l.buf ≡ length l.initial.buf) × Keeps (g.R.Read.remaining l.initial.self.stream) (g.R.Read.remaining l.self.stream)
