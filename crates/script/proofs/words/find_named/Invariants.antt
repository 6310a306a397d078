use Rattle.std.specs.Prelude.{◌≡◌}
use Rattle.script.specs.{drop, find_named}
use Rattle.script.proofs.words.find_named.Given as goal

abbrev pub invariant-loop-word : goal.invariant-loop-word
invariant-loop-word l = find_named (drop l.word-index l.words) l.text ≡ find_named l.words l.text
