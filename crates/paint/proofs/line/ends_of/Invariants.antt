use Rattle.std.specs.Prelude.{◌≡◌}
use Rattle.paint.specs.{length, LANES, AreEnds}
use Rattle.paint.proofs.line.ends_of.Given as goal

abbrev pub invariant-loop-x : goal.invariant-loop-x
invariant-loop-x l = record {
  long : length l.ends ≡ LANES;
  ends : AreEnds l.shown l.wanted l.rendition l.ends l.x;
}
