-- `make_all`: a history goes on by one call (`HistoryLemmas`).
use Rattle.std.specs.Prelude.{◌≤◌, ◌+◌, ◌*◌, ◌^◌}
use Rattle.desk.specs.{arith, ◌∙◌}
use Rattle.desk.proofs.HistoryLemmas.{counted-once, one-more}
use Rattle.desk.proofs.screen.Screen.make_all.Goals as goal

pub loop-call-preserved : goal.loop-call-preserved
loop-call-preserved g c =
    let h = c.loop-call.invariant in
    let few : c.count.new.self.composed ≤ 2 ^ 32 * (c.loop-call.call-index + 1) = omega arith in
    rw (c.count.ensures.counted) (record {
      run = one-more g.W.Sink.seen g.W.Sink.name _ _ _ _ _ _ _ _ h.run c.loop-call-test.true c.call-made.ensures;
      count = counted-once _ _ _ _ c.call-made.result h.count;
      composed = rw c.count.ensures.counted at few;
      same = c.call-made.ensures.same ∙ h.same;
    })
