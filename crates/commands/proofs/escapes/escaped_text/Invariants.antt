use Rattle.std.specs.Prelude.{◌≡◌, ◌≤◌, ◌*◌}
use Rattle.commands.specs.{length, take, escaped_text}
use Rattle.commands.proofs.escapes.escaped_text.Given as goal

abbrev pub invariant-loop-byte : goal.invariant-loop-byte
invariant-loop-byte l = record {
  text : l.text.items ≡ escaped_text (take l.byte-index l.piece);
  short : length l.text.items ≤ 4 * l.byte-index;
}
