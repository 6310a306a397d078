use Rattle.std.proofs.Common.{◌≡◌, ◌*◌, ◌<◌, ℕ, true}
use Rattle.small_set.specs.Sets.{contains}
use Rattle.small_set.proofs.set.SmallSet.least_absent.Given as goal

-- the words before are full
abbrev pub invariant-loop-at : goal.invariant-loop-at
invariant-loop-at l = (n : ℕ) → n < l.at * 64 → contains l.self n ≡ true
