use Rattle.std.specs.Prelude.{◌≤◌}
use Rattle.script.specs.{length, IfSome, pieces_of, no_arguments}
use Rattle.script.proofs.ArgumentLemmas.{Counted, Taken}
use Rattle.script.specs.declared.limits.TheConstants.{LONGEST_LINE}
use Rattle.script.proofs.line.take_all.Given as goal

abbrev pub invariant-loop-at : goal.invariant-loop-at
invariant-loop-at l = record {
  counted : Counted l.forms (pieces_of l.text) l.at (pieces_of l.rest);
  taken : Taken l.forms (pieces_of l.text) no_arguments l.at (pieces_of l.rest) l.taken;
  numbers : length l.taken.numbers ≤ l.at;
  short : IfSome l.rest (λ t. length t.now ≤ LONGEST_LINE);
}
