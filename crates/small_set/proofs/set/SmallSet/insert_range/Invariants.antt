use Rattle.std.proofs.Common.{◌≡◌, ◌/◌, ◌&&◌, ◌||◌, ℕ, nat_le, nat_lt}
use Rattle.small_set.specs.Sets.{contains}
use Rattle.small_set.proofs.set.SmallSet.insert_range.Given as goal

-- those of the words before are added
abbrev pub invariant-loop-at : goal.invariant-loop-at
invariant-loop-at l = (n : ℕ) → contains l.self n ≡ ((nat_le l.first n && nat_le n l.last) && nat_lt (n / 64) l.at || contains l.fn.self n)
