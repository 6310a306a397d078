-- Lemmas on the pieces of a line.
use Rattle.std.specs.Prelude.{◌≡◌, ◌+◌, ◌-◌, ◌<◌, ◌∷◌, ◌≤◌}
use Rattle.script.specs.{ℕ, true, false, Some, None, position, List, [], length, take, drop, get_or, arith, length-drop, not, prefix_len, slice_split, chunk, run_in_chunk_stops, take_all}
use Rattle.script.specs.{fails_before_first, position_or_len_is, slice_split_first, slice_split_none, nat_tests, position-Some, is_space}

-- the text from a place on
pub rest_of : (xs : List ℕ) (i : ℕ) → take (length xs - i) (drop i xs) ≡ drop i xs
rest_of xs i = take_all _ (drop i xs) (simp length-drop (omega arith))

pub split_found : (xs : List ℕ) (i : ℕ) → position is_space xs ≡ Some i
    → slice_split is_space xs ≡ take i xs ∷ slice_split is_space (take (length xs - (i + 1)) (drop (i + 1) xs))
split_found xs i e = grind (arith, position-Some, position_or_len_is, slice_split_first, rest_of)

pub split_none : (xs : List ℕ) → position is_space xs ≡ None → slice_split is_space xs ≡ xs ∷ []
split_none xs e = grind (arith, nat_tests, slice_split_none, fails_before_first)

-- the first space is where none is before it
pub space_at : (text : List ℕ) (at : ℕ) → at < length text → is_space (get_or text at 0) ≡ true → ((k : ℕ) → k < at → is_space (get_or text k 0) ≡ false)
    → Some at ≡ position is_space text
space_at text at within here before = grind (arith, position_or_len_is, nat_tests)

-- where the bytes that are looked through at once are the first
pub from_start : (text : List ℕ) (lanes at : ℕ) → at ≡ prefix_len (λ b. not (is_space b)) (chunk 0 lanes text) → 0 + lanes ≤ length text → at < lanes
    → is_space (get_or text at 0) ≡ true
from_start text lanes at counted room few = let here = run_in_chunk_stops is_space text 0 lanes at 0 room counted few in grind arith
