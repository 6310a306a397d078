use Rattle.std.specs.Prelude.{◌≤◌, ◌+◌}
use Rattle.script.specs.{length, IfSome, slice_split, is_space, pieces_of}
use Rattle.script.proofs.ArgumentLemmas.{Counted, Taken}
use Rattle.script.specs.declared.limits.TheConstants.{LONGEST_LINE}
use Rattle.script.proofs.line.take_more.Given as goal

abbrev pub invariant-loop-form : goal.invariant-loop-form
invariant-loop-form l = record {
  counted : Counted l.forms (slice_split is_space l.text) l.form-index (pieces_of l.rest);
  taken : Taken l.forms (slice_split is_space l.text) l.fn.taken l.form-index (pieces_of l.rest) l.taken;
  numbers : length l.taken.numbers ≤ length l.fn.taken.numbers + l.form-index;
  short : IfSome l.rest (λ t. length t.now ≤ LONGEST_LINE);
}
