use Rattle.std.specs.Prelude.{◌≡◌}
use Rattle.ecma.specs.{Some, take}
use Rattle.ecma.proofs.Selecting.{selected_by}
use Rattle.ecma.proofs.selection.select_all.Given as goal

abbrev pub invariant-loop-parameter : goal.invariant-loop-parameter
invariant-loop-parameter l = selected_by (take l.parameter-index l.ended) l.fn.rendition ≡ Some l.selected
