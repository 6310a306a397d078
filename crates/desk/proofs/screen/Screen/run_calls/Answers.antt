-- `run_calls`: a run goes on by one call (`RunLemmas`).
use Rattle.desk.specs.{arith, ◌∙◌, Ok, Err, add-zero}
use Rattle.desk.proofs.RunLemmas.{ends_cut, ends_whole, so_far_next}
use Rattle.desk.proofs.screen.Screen.run_calls.Goals as goal
use Rattle.desk.proofs.screen.Screen.run_calls.Goals.{in-Ok, in-Err-Refused}

pub loop-call-preserved : goal.loop-call-preserved
loop-call-preserved g c =
    let so_far = c.loop-call.invariant.so_far in
    elim c.match-call.branch [
      | in-Ok w ↦ rw (w.end-is, w.from.ensures, w.cells_of.ensures) (record {
        so_far = rw add-zero at (so_far_next g.W.Sink.seen _ _ _ _ _ _ _ _ _ (Ok w.in-Ok.reply) so_far c.loop-call-test.true w.in-Ok.ensures.ends);
        count = omega arith;
        composed = omega arith;
        fault = c.loop-call.invariant.fault;
        failures = w.in-Ok.ensures.failures ∙ c.loop-call.invariant.failures;
        same = w.in-Ok.ensures.same ∙ c.loop-call.invariant.same;
      })
      | in-Err-Refused w ↦ rw w.end-is (record {
        so_far = rw (add-zero, add-zero) at (so_far_next g.W.Sink.seen _ _ _ _ _ _ _ _ _ (Err w.in-Err-Refused.field-0-0) so_far c.loop-call-test.true (rw w.in-Err-Refused.field-0-is at w.in-Err-Refused.ensures.ends));
        count = omega arith;
        composed = omega arith;
        fault = c.loop-call.invariant.fault;
        failures = (rw w.in-Err-Refused.field-0-is at w.in-Err-Refused.ensures.failures) ∙ c.loop-call.invariant.failures;
        same = w.in-Err-Refused.ensures.same ∙ c.loop-call.invariant.same;
      })
    ]

pub returns-in-Err-Write-clause-run : goal.returns-in-Err-Write-clause-run
returns-in-Err-Write-clause-run g c =
    ends_cut _ _ _ _ _ _ _ _ _ _ _ c.loop-call.invariant.so_far c.loop-call-test.true (rw c.in-Err-Write.field-0-is at c.in-Err-Write.ensures.ends)

pub returns-clause-run : goal.returns-clause-run
returns-clause-run g c = ends_whole _ c.loop-call.invariant.so_far c.loop-call.invariant.fault (omega arith)
