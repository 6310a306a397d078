use Rattle.std.specs.Prelude.{◌≡◌}
use Rattle.script.specs.{take}
use Rattle.script.proofs.words.are_same.Given as goal

abbrev pub invariant-loop-at : goal.invariant-loop-at
invariant-loop-at l = take l.at l.text ≡ take l.at l.name
