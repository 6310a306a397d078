use Rattle.std.specs.Prelude.{◌≡◌}
use Rattle.keys.specs.{parameters, take}
use Rattle.keys.proofs.parameters.Parameters.of.Given as goal

abbrev pub invariant-loop-byte : goal.invariant-loop-byte
invariant-loop-byte l = l.so_far ≡ parameters (take l.byte-index l.bytes)
