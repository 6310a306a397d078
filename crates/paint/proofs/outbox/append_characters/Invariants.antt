use Rattle.std.specs.Prelude.{◌≡◌, ◌-◌, ◌<◌, ◌≤◌, ◌++◌}
use Rattle.paint.specs.{ℕ, get_or, length, take, IsShown, shown_blank, characters}
use Rattle.paint.proofs.outbox.append_characters.Given as goal

abbrev pub invariant-loop-start : goal.invariant-loop-start
invariant-loop-start l = record {
  within : l.start ≤ length l.cells;
  appended : l.bytes.items ≡ l.fn.bytes.items ++ characters (take l.start l.cells);
  sound : (k : ℕ) → k < l.start → IsShown (get_or l.cells k shown_blank);
}

abbrev pub decreases-loop-start : goal.decreases-loop-start
decreases-loop-start l = length l.cells - l.start
