use Rattle.commands.specs.{take, true, flat_map, line_text, PuttingEnds}
use Rattle.commands.proofs.printing.put_lines.Given as goal

abbrev pub invariant-loop-y : goal.invariant-loop-y
invariant-loop-y g l = PuttingEnds true (g.O.Sink.seen l.fn.out) (g.O.Sink.seen l.out) (flat_map line_text (take l.y l.picture))
