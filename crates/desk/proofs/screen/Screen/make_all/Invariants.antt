use Rattle.std.specs.Prelude.{◌≡◌, ◌≤◌, ◌+◌, ◌*◌, ◌^◌}
use Rattle.desk.specs.{take, RunsAll}
use Rattle.desk.proofs.screen.Screen.make_all.Given as goal

abbrev pub invariant-loop-call : goal.invariant-loop-call
invariant-loop-call g l = record {
  run : RunsAll g.W.Sink.seen g.W.Sink.name l.fn.self (take l.call-index l.calls) l.end l.self;
  count : l.end.done + l.end.refused + l.end.failed ≡ l.call-index;
  composed : l.end.composed ≤ 2 ^ 32 * l.call-index;
  same : g.W.Sink.name l.self.writer ≡ g.W.Sink.name l.fn.self.writer;
}
