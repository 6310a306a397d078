-- `run_end`: a run of one cell, and more of them (`CellRuns`).
use Rattle.paint.specs.{arith}
use Rattle.paint.proofs.CellRuns.{run-begun}
use Rattle.paint.proofs.line.run_end.Goals as goal

pub returns-then-is_over : goal.returns-then-is_over
returns-then-is_over c = record { run = run-begun _ _ _ _ (omega (arith, c.requires.begun)) c.requires.differs }

pub run_end_after-requires-clause-run : goal.run_end_after-requires-clause-run
run_end_after-requires-clause-run c = run-begun _ _ _ _ (omega (arith, c.requires.begun)) c.requires.differs
