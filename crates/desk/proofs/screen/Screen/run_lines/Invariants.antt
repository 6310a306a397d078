use Rattle.std.specs.Prelude.{◌≡◌, ◌+◌, ◌*◌}
use Rattle.desk.specs.{length}
use Rattle.desk.proofs.ScriptLemmas.{SoFar}
use Rattle.desk.proofs.screen.Screen.run_lines.Given as goal

abbrev pub invariant-loop-line_end : goal.invariant-loop-line_end
invariant-loop-line_end g l =
    let source = g.R.Source.seen in
    let writer = g.W.Sink.seen in
    let logged = g.L.Sink.seen in
    record {
      so_far : SoFar writer l.fn.self l.self (source l.fn.input) (source l.input) (logged l.fn.log) (logged l.log) l.lines.unused l.number l.refused;
      reading : (source l.input).failures ≡ (source l.fn.input).failures;
      writing : (writer l.self.writer).failures ≡ (writer l.fn.self.writer).failures;
      same : g.W.Sink.name l.self.writer ≡ g.W.Sink.name l.fn.self.writer;
    }

abbrev pub decreases-loop-line_end : goal.decreases-loop-line_end
decreases-loop-line_end g l = 513 * (g.R.Source.seen l.input).reads_left + length l.lines.unused
