use Rattle.std.specs.Prelude.{◌≡◌, ◌<◌}
use Rattle.paint.specs.{ℕ, get_or, length, take, IsShown, shown_blank, characters, LANES}
use Rattle.paint.proofs.outbox.characters_of.Given as goal

abbrev pub invariant-loop-x : goal.invariant-loop-x
invariant-loop-x l = record {
  long : length l.characters ≡ LANES;
  characters : take l.x l.characters ≡ characters (take l.x l.cells);
  sound : (k : ℕ) → k < l.x → IsShown (get_or l.cells k shown_blank);
}
