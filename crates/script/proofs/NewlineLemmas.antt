-- Lemmas on the first byte of a text of some kind, as a newline or a space.
use Rattle.std.specs.Prelude.{◌≡◌, ◌+◌, ◌-◌, ◌<◌, ◌≤◌}
use Rattle.script.specs.{ℕ, Some, None, position, Bool, true, false, List, length, take, drop, get_or, sym, ap, ◌∙◌, arith, length-drop, map, not, position_or_len, prefix_len, chunk, mask_l}
use Rattle.script.specs.{length-chunk, trailing_mask_l, get_or-drop, fails_before_first, position_or_len_is, cases_lt, nat_tests, position-Some}
use lib.Count.{count_trailing_zeros}
use Rattle.script.proofs.LineLemmas.{rest_of}

-- There is no such byte before a place.
pub record NoneBefore (is : ℕ → Bool) (text : List ℕ) (place : ℕ) : Type 0 where
  pub none : (k : ℕ) → k < place → is (get_or text k 0) ≡ false

pub first_at : (is : ℕ → Bool) (text : List ℕ) (at : ℕ) → at < length text → is (get_or text at 0) ≡ true → NoneBefore is text at → Some at ≡ position is text
first_at is text at within here before = grind (arith, position_or_len_is, nat_tests)

pub none_at_all : (is : ℕ → Bool) (text : List ℕ) → NoneBefore is text (length text) → None ≡ position is text
none_at_all is text before = grind (arith, position_or_len_is is text (length text) 0, nat_tests)

-- more bytes that are none
pub none_further : (is : ℕ → Bool) (text : List ℕ) (place further : ℕ) → NoneBefore is text place → ((k : ℕ) → place ≤ k → k < further → is (get_or text k 0) ≡ false)
    → NoneBefore is text further
none_further is text place further before others = grind (arith, cases_lt)

-- fewer bytes that are none
pub none_up_to : (is : ℕ → Bool) (text : List ℕ) (place further : ℕ) → place ≤ further → ((k : ℕ) → k < further → is (get_or text k 0) ≡ false) → NoneBefore is text place
none_up_to is text place further within others = record { none = λ k below. others k (omega arith) }

-- a byte after a place, counted from there
counted_from : (is : ℕ → Bool) (text : List ℕ) (from k : ℕ) (b : Bool) → from ≤ k → is (get_or (drop from text) (k - from) 0) ≡ b → is (get_or text k 0) ≡ b
counted_from is text from k b after e = grind (arith, get_or-drop)

pub found_after : (is : ℕ → Bool) (text : List ℕ) (from at : ℕ) → NoneBefore is text from → Some at ≡ position is (take (length text - from) (drop from text))
    → Some (from + at) ≡ position is text
found_after is text from at before e =
    let found = position-Some is (drop from text) at 0 (sym (e ∙ ap (position is) (rest_of text from))) in
    first_at is text (from + at) (omega (arith, found.0, length-drop from text)) (ap is (sym (get_or-drop from text at 0)) ∙ found.1)
    (none_further is text from (from + at) before (λ k after below. counted_from is text from k false after (found.2 (k - from) (omega arith))))

pub none_after : (is : ℕ → Bool) (text : List ℕ) (from : ℕ) → NoneBefore is text from → None ≡ position is (take (length text - from) (drop from text))
    → None ≡ position is text
none_after is text from before e =
    let none : None ≡ position is (drop from text) = e ∙ ap (position is) (rest_of text from) in
    let all : length (drop from text) ≤ position_or_len is (drop from text) = grind (arith, nat_tests) in
    none_at_all is text (none_further is text from (length text) before
    (λ k after below. counted_from is text from k false after (fails_before_first is (drop from text) (k - from) 0 (omega (arith, length-drop from text)))))

-- how many of the bytes that are looked through at once come before the lowest mark
pub before_marked : (is : ℕ → Bool) (text : List ℕ) (from lanes marks : ℕ) → from + lanes ≤ length text → lanes ≤ 64 → marks ≡ mask_l (map is (chunk from lanes text)) → (marks ≡ 0 → ⊥)
    → count_trailing_zeros 64 marks ≡ prefix_len (λ b. not (is b)) (chunk from lanes text)
before_marked is text from lanes marks room few same some = grind (arith, length-chunk, count_trailing_zeros, trailing_mask_l)
