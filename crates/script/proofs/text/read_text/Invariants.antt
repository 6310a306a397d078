use Rattle.std.specs.Prelude.{◌≡◌, ◌≤◌, ◌+◌, ◌++◌}
use Rattle.script.specs.{length, option_map, text_of}
use Rattle.script.proofs.text.read_text.Given as goal

abbrev pub invariant-loop-rest : goal.invariant-loop-rest
invariant-loop-rest l = (text_of l.piece ≡ option_map (λ t. l.text.items ++ t) (text_of l.rest)) × (length l.text.items + length l.rest ≤ length l.piece)

abbrev pub decreases-loop-rest : goal.decreases-loop-rest
decreases-loop-rest l = length l.rest
