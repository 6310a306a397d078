-- Sets of numbers, as words of 64 bits.
use Rattle.std.specs.Prelude.{◌≡◌, ℕ, ◌/◌, ◌%◌, ◌<◌, ◌≤◌, ◌==◌, Bool, true, false, MatchOption, Option, List, if◌then◌else◌, slice_index}
use Rattle.std.specs.Int.{bit_at}

-- the number is in the set: its bit is set
abbrev pub contains : List ℕ → ℕ → Bool
contains words n = bit_at (slice_index words (n / 64)) (n % 64) == 1

-- a number of the set from one on, and none between
abbrev pub IsFound : List ℕ → ℕ → ℕ → Type 0
IsFound words from found = (from ≤ found) × (contains words found ≡ true) × ((n : ℕ) → from ≤ n → n < found → contains words n ≡ false)

-- what the least number of the set from one on is, if there is one
abbrev pub IsNext : List ℕ → ℕ → Option ℕ → Type 0
IsNext words from next = MatchOption next ((n : ℕ) → from ≤ n → contains words n ≡ false) (IsFound words from)

-- what the greatest number of the set is, if it has any
abbrev pub IsLast : List ℕ → Option ℕ → Type 0
IsLast words last = MatchOption last ((n : ℕ) → contains words n ≡ false) (λ found. (contains words found ≡ true) × ((n : ℕ) → found < n → contains words n ≡ false))

-- which of some words have a number: as bits, 1 for a word that has one
abbrev pub HaveNumbers : List ℕ → ℕ → Type 0
HaveNumbers words some = (k : ℕ) → bit_at some k ≡ (if slice_index words k == 0 then 0 else 1)
