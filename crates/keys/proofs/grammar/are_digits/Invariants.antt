use Rattle.std.specs.Prelude.{◌≡◌}
use Rattle.keys.specs.{are_digits, take}
use Rattle.keys.proofs.grammar.are_digits.Given as goal

abbrev pub invariant-loop-byte : goal.invariant-loop-byte
invariant-loop-byte l = l.so_far ≡ are_digits (take l.byte-index l.bytes)
