use Rattle.std.specs.Prelude.{◌≡◌, ◌<◌}
use Rattle.streams.specs.{length, WritesOnce}
use Rattle.streams.proofs.Sends.{IsPartlySent}
use Rattle.streams.proofs.sending.send.Given as goal

abbrev pub invariant-loop-rest : goal.invariant-loop-rest
invariant-loop-rest g l = record {
  partly : IsPartlySent (g.W.Sink.seen l.fn.sink) (g.W.Sink.seen l.sink) l.sent l.piece l.rest l.total;
  once : WritesOnce (g.W.Sink.seen l.fn.sink) (g.W.Sink.seen l.sink);
  none : 0 < length l.rest → (g.W.Sink.seen l.sink).whole_writes ≡ (g.W.Sink.seen l.fn.sink).whole_writes;
  same : g.W.Sink.name l.sink ≡ g.W.Sink.name l.fn.sink;
}

abbrev pub decreases-loop-rest : goal.decreases-loop-rest
decreases-loop-rest g l = length l.rest
