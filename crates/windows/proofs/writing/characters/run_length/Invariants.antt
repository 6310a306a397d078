use Rattle.std.specs.Prelude.{◌≡◌, ◌<◌}
use Rattle.windows.specs.{ℕ, get_or, true, is_printable}
use Rattle.windows.proofs.writing.characters.run_length.Given as goal

-- the characters so far are printed
abbrev pub invariant-loop-count : goal.invariant-loop-count
invariant-loop-count l = (k : ℕ) → k < l.count → is_printable (get_or l.text k 0) ≡ true
