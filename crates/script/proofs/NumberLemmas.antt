-- Lemmas on numbers in digits.
use Rattle.std.specs.Prelude.{◌∷◌, ◌≡◌, ◌+◌, ◌-◌, ◌*◌, ◌<◌, ◌≤◌}
use Rattle.script.specs.{Bool, false, None, [], ℕ, true, List, drop, nat_lt, length-take, below_more, length, get_or, take, refl, add-one, pow-suc, arith, after_first, before_first, list_all}
use Rattle.script.specs.{position_or_len, slice_split, is_ascii_digit, nat_tests, get_or-take, take_all, list_all_at, list_all_more, slice_split_first, AllPass-from_list_all, passes_at_first}
use Rattle.script.specs.{position_or_len_is, is_space, is_plain_number, number_up_to, digits_value_more, DigitsSoFar}
use Rattle.script.proofs.LineLemmas.{split_found, split_none}
use Rattle.script.specs.declared.limits.TheConstants.{MOST_DIGITS}

-- the number so far goes on by a digit
pub one_digit_more : (ds : List ℕ) (i value : ℕ) → DigitsSoFar ds i value → i < length ds → is_ascii_digit (get_or ds i 0) ≡ true
    → DigitsSoFar ds (i + 1) (value * 10 + (get_or ds i 0 - 48))
one_digit_more ds i value so_far lt h = grind (arith, nat_tests, add-one, pow-suc, list_all_more is_ascii_digit ds i 0 lt, digits_value_more)

-- ---- the digits at the beginning of a text, and what is after them

-- no space among digits
no_space_before : (text : List ℕ) (count k : ℕ) → list_all is_ascii_digit (take count text) ≡ true → count ≤ length text → k < count → is_space (get_or text k 0) ≡ false
no_space_before text count k digits within below = grind (arith, AllPass-from_list_all, length-take, nat_tests, get_or-take)

pub digits_alone : (text : List ℕ) (count : ℕ) → list_all is_ascii_digit (take count text) ≡ true → count ≡ length text → slice_split is_space text ≡ take count text ∷ []
digits_alone text count digits all = grind (arith, position_or_len_is is_space text count 0, no_space_before text count, nat_tests, split_none, take_all)

pub digits_before_space : (text : List ℕ) (count : ℕ) → list_all is_ascii_digit (take count text) ≡ true → count < length text → is_space (get_or text count 0) ≡ true
    → slice_split is_space text ≡ take count text ∷ slice_split is_space (take (length text - (count + 1)) (drop (count + 1) text))
digits_before_space text count digits below here = grind (arith, position_or_len_is is_space text count 0, no_space_before text count, nat_tests, split_found text count)

first_piece_by : (text : List ℕ) (b : Bool) → nat_lt (position_or_len is_space text) (length text) ≡ b
    → (pieces : List (List ℕ)) × (slice_split is_space text ≡ before_first is_space text ∷ pieces)
first_piece_by text true found = (slice_split is_space (after_first is_space text), slice_split_first is_space text 0 (grind (arith, nat_tests)))
first_piece_by text false none = grind (arith, nat_tests, split_none, take_all)

-- the space comes later than a place where there is none
later_by : (text : List ℕ) (count : ℕ) → list_all is_ascii_digit (take count text) ≡ true → count < length text
    → is_space (get_or text count 0) ≡ false → count < position_or_len is_space text
later_by text count digits below here = grind (arith, nat_tests, passes_at_first is_space text 0, no_space_before text count, below_more (λ k. is_space (get_or text k 0) ≡ false) count)

-- a piece that goes on after its first digits, or is too long
no_plain : (piece : List ℕ) (count : ℕ) → count ≤ MOST_DIGITS → count < length piece
    → (count < MOST_DIGITS → is_ascii_digit (get_or piece count 0) ≡ false) → is_plain_number piece ≡ false
no_plain piece count within below stops = grind (arith, list_all_at, nat_tests)

-- something else than a space follows the digits
pub no_number : (most : ℕ) (text : List ℕ) (count : ℕ) → list_all is_ascii_digit (take count text) ≡ true → count < length text → is_space (get_or text count 0) ≡ false
    → count ≤ MOST_DIGITS → (count < MOST_DIGITS → is_ascii_digit (get_or text count 0) ≡ false)
    → (piece : List ℕ) × (pieces : List (List ℕ)) × (slice_split is_space text ≡ piece ∷ pieces) × (number_up_to most piece ≡ None)
no_number most text count digits below here few stops =
    let first = first_piece_by text (nat_lt (position_or_len is_space text) (length text)) refl in
    let later = later_by text count digits below here in
    let plain = no_plain (before_first is_space text) count few (omega (arith, length-take (position_or_len is_space text) text)) (λ h. grind (arith, get_or-take)) in
    (before_first is_space text, first.0, first.1, rw plain refl)
