use Rattle.std.proofs.Common.{◌≡◌, length}
use Rattle.extents.proofs.Lines.{ClearedBefore, lines-left}
use Rattle.extents.proofs.extents.Extents.clear.Given as goal

abbrev pub invariant-loop-next : goal.invariant-loop-next
invariant-loop-next l = record {
  height : length l.self-inside.lines.items ≡ length l.initial.self-inside.lines.items;
  same : l.self-inside.some ≡ l.initial.self-inside.some;
  cleared : ClearedBefore l.initial.self-inside.some l.next l.self-inside.lines.items;
}

abbrev pub decreases-loop-next : goal.decreases-loop-next
decreases-loop-next l = lines-left l.next
