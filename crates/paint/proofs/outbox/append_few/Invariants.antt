use Rattle.std.specs.Prelude.{◌≡◌, ◌<◌, ◌++◌}
use Rattle.paint.specs.{ℕ, get_or, take, IsShown, shown_blank, characters}
use Rattle.paint.proofs.outbox.append_few.Given as goal

abbrev pub invariant-loop-cell : goal.invariant-loop-cell
invariant-loop-cell l = record {
  appended : l.bytes.items ≡ l.fn.bytes.items ++ characters (take l.cell-index l.cells);
  sound : (k : ℕ) → k < l.cell-index → IsShown (get_or l.cells k shown_blank);
}
