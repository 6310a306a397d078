-- One slot has another window, or none: which slots are chained then.
use Rattle.std.specs.Prelude.{◌≡◌, ◌+◌, ◌<◌, ◌≤◌}
use Rattle.grids.specs.{ℕ, Option, Some, None, MatchOption, List, length, slice_set, arith, get_or-set_other, get_or-set_same, ⊤, cases_eq, cases_lt, get_or_past, length-set, MOST_WINDOWS, Kept}
use Rattle.grids.specs.{IsKept, slot_at, part_in, HasParentIn, IsChained, SameShape, SetAt}
use Rattle.grids.specs.declared.slot.Cells.{Cells}

pub SetAt-set : (slots : List (Option Kept)) (at : ℕ) (o : Option Kept) → length slots ≤ MOST_WINDOWS + 1 → at < length slots → SetAt slots (slice_set slots at o) at o
SetAt-set slots at o few below = grind (arith, get_or-set_same, get_or-set_other, length-set)

pub slot_below : (slots : List (Option Kept)) (w : ℕ) (k : Kept) → slot_at slots w ≡ Some k → w < length slots
slot_below slots w k e = grind (arith, cases_lt, get_or_past)

-- what holds of each slot holds of each after one was set
pub each_set : (P : Kept → Type 0) (old new : List (Option Kept)) (at : ℕ) (o : Option Kept) → SetAt old new at o
    → ((w : ℕ) → MatchOption (slot_at old w) ⊤ P) → MatchOption o ⊤ P → (w : ℕ) → MatchOption (slot_at new w) ⊤ P
each_set P old new at o set each one w = grind (arith, cases_eq)

-- ---- chains

-- a slot that was taken has the same shape
abbrev pub KeepsShape : Option Kept → Option Kept → Type 0
KeepsShape None n = Unit {0}
KeepsShape (Some k) (Some j) = SameShape k j
KeepsShape (Some k) None = ⊥

-- one slot is filled, with a window whose parent is there
pub chained_set : (old new : List (Option Kept)) (at : ℕ) (j : Kept) → IsChained old → SetAt old new at (Some j) → KeepsShape (slot_at old at) (Some j)
    → IsKept j → HasParentIn old j j.cells → IsChained new
chained_set old new at j s set shape kept chained = grind (arith, cases_eq)

-- ---- one slot has a window of the same shape

-- a window of the same shape and offset is where the other was
pub parent_too : (slots : List (Option Kept)) (k j : Kept) → SameShape k j → (before after : Cells) → part_in after ≡ part_in before → HasParentIn slots k before → HasParentIn slots j after
parent_too slots k j s before after e h = grind arith
