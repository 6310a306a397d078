use Rattle.std.proofs.Common.{◌≡◌, map}
use Rattle.capi.specs.Lines.{with_first}
use Rattle.capi.proofs.line.put_cells.Given as goal

abbrev pub invariant-loop-k : goal.invariant-loop-k
invariant-loop-k g l = l.buffer ≡ with_first l.k l.initial.buffer (map g.T.Numbered.number_of l.line)
