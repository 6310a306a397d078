use Rattle.std.specs.Prelude.{◌≡◌}
use Rattle.ecma.specs.{length, HasSize}
use Rattle.ecma.proofs.Erasing.{lines_blanked}
use Rattle.ecma.proofs.page.erase_lines.Given as goal

abbrev pub invariant-loop-line : goal.invariant-loop-line
invariant-loop-line l = record {
  erased : l.picture ≡ lines_blanked l.first l.line l.fn.picture;
  height : length l.picture ≡ length l.fn.picture;
  size : HasSize (length l.fn.picture) l.columns l.picture;
}
