use Rattle.std.specs.Prelude.{◌≡◌, ◌≤◌, ◌+◌, ◌*◌, ◌^◌}
use Rattle.desk.specs.{take, None}
use Rattle.desk.proofs.RunLemmas.{SoFar}
use Rattle.desk.proofs.screen.Screen.run_calls.Given as goal

abbrev pub invariant-loop-call : goal.invariant-loop-call
invariant-loop-call g l = record {
  so_far : SoFar g.W.Sink.seen l.fn.self (take l.call-index l.calls) l.self l.end.done l.end.refused l.end.composed;
  count : l.end.done + l.end.refused ≡ l.call-index;
  composed : l.end.composed ≤ 2 ^ 32 * l.call-index;
  fault : l.end.fault ≡ None;
  failures : (g.W.Sink.seen l.self.writer).failures ≡ (g.W.Sink.seen l.fn.self.writer).failures;
  same : g.W.Sink.name l.self.writer ≡ g.W.Sink.name l.fn.self.writer;
}
