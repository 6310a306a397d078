-- The numbers of a set by its words, and which words have any: where one is added or removed, and where the least one from another on is.
use Rattle.std.proofs.Common.{◌≡◌, ◌≢◌, ℕ, ◌+◌, ◌*◌, ◌/◌, ◌%◌, ◌^◌, ◌<◌, ◌≤◌, ◌==◌, ◌&&◌, ◌||◌, ◌∙◌, refl, length-set, List, length, inl, inr}
use Rattle.std.proofs.Common.{get_or, set, bit_and, bit_or, w64, if◌then◌else◌, false, arith, get_or-set_same, get_or-set_other}
use Rattle.std.specs.Int.{bit_at, bit_not}
use Rattle.std.specs.Int.Bits.{and_zero_l}
use Rattle.std.proofs.lemmas.Bool.{cases_eq, cases_lt, eq-eqb, ne_eqb}
use Rattle.std.proofs.lemmas.Nat.Bits.{bit_at-lt, bit_at_or, bit_at-zero, bit_at_set_same, bit_at_set_other, bit_at_clear_same, bit_at_clear_other, bit_at_and}
use Rattle.std.proofs.lemmas.List.{get_or_past}
use Rattle.std.proofs.lemmas.Nat.{le_or_r}
use Rattle.small_set.specs.Sets.{HaveNumbers, IsFound, contains}

module _ (words : List ℕ) (number : ℕ) (within : number / 64 < length words) where
  abbrev word : ℕ
  word = get_or words (number / 64) 0

  pub contains-removed : (n : ℕ) → contains (set words (number / 64) (bit_and word (bit_not w64 (1 * 2 ^ (number % 64) % 2 ^ 64)))) n
      ≡ (if n == number then false else contains words n)
  contains-removed = grind (arith, cases_eq, eq-eqb, ne_eqb, get_or-set_same, within, get_or-set_other, bit_at_clear_same w64, bit_at_clear_other w64)

-- a word to which bits are added
pub contains-added : (words : List ℕ) (at bits : ℕ) → at < length words → (n : ℕ)
    → contains (set words at (bit_or (get_or words at 0) bits)) n ≡ (n / 64 == at && bit_at bits (n % 64) == 1 || contains words n)
contains-added words at bits within n = grind (arith, cases_eq, eq-eqb, ne_eqb, get_or-set_same, get_or-set_other, bit_at_or, bit_at-lt)

-- which words have a number, where one is added, and where one is removed
module _ (words : List ℕ) (some at : ℕ) (long : length words ≡ 16) (within : at < 16) (have : HaveNumbers words some) where
  numbers-set : (new more : ℕ) → bit_at more at ≡ (if new == 0 then 0 else 1) → ((k : ℕ) → k < 64 → k ≢ at → bit_at more k ≡ bit_at some k)
      → ((k : ℕ) → 64 ≤ k → bit_at more k ≡ 0) → HaveNumbers (set words at new) more
  numbers-set new more here others above k = elim (cases_eq k at) [
    | inl same ↦ rw (same, get_or-set_same words at new 0 (omega (arith, long, within))) here
    | inr apart ↦ elim (cases_lt k 64) [
      | inl few ↦ rw (get_or-set_other words at k new 0 apart) (others k few apart ∙ have k)
      | inr past ↦ grind (arith, above k past, get_or_past (set words at new) k 0 (omega (arith, length-set words at new, long, past)))
    ]
  ]

  past : (k : ℕ) → 64 ≤ k → bit_at some k ≡ 0
  past k far = grind (arith, have k, get_or_past words k 0 (omega (arith, long, far)))

  pub numbers-added : (bits : ℕ) → 0 < bits → HaveNumbers (set words at (bit_or (get_or words at 0) bits)) (bit_or some (1 * 2 ^ at % 2 ^ 64))
  numbers-added bits more =
      numbers-set _ _ (grind (arith, bit_at_set_same w64 some at (omega (arith, within)), ne_eqb, le_or_r (get_or words at 0) bits))
      (λ k few apart. bit_at_set_other w64 some at (omega (arith, within)) k apart)
      (λ k far. grind (arith, bit_at_set_other w64 some at (omega (arith, within)) k (omega (arith, within, far)), past k far))

  pub numbers-emptied : (new : ℕ) → new ≡ 0 → HaveNumbers (set words at new) (bit_and some (bit_not w64 (1 * 2 ^ at % 2 ^ 64)))
  numbers-emptied new none =
      numbers-set new _ (grind (arith, bit_at_clear_same w64 some at (omega (arith, within)), none))
      (λ k few apart. bit_at_clear_other w64 some at (omega (arith, within)) k few apart)
      (λ k far. grind (arith, bit_at_and some (bit_not w64 (1 * 2 ^ at % 2 ^ 64)) k, past k far))

  pub numbers-left : (mask : ℕ) → (bit_and (get_or words at 0) mask ≡ 0 → ⊥) → HaveNumbers (set words at (bit_and (get_or words at 0) mask)) some
  numbers-left mask some_left = numbers-set _ some
      (grind (arith, have at, ne_eqb _ 0 some_left, cases_eq (get_or words at 0) 0, and_zero_l))
      (λ k few apart. refl) past

-- Of the word of a number none is left from it on: then the least one is the first of the next word that has any.
module _ (words : List ℕ) (some from left later : ℕ) (have : HaveNumbers words some)
    (left_from : (i : ℕ) → from % 64 ≤ i → bit_at left i ≡ bit_at (get_or words (from / 64) 0) i) (none_left : left ≡ 0)
    (later_below : (k : ℕ) → k < from / 64 + 1 → bit_at later k ≡ 0) (later_from : (k : ℕ) → from / 64 + 1 ≤ k → bit_at later k ≡ bit_at some k) where
  -- of its word there is none
  none-here : (n : ℕ) → from ≤ n → n / 64 ≡ from / 64 → contains words n ≡ false
  none-here n from_on same = grind (arith, left_from (n % 64), bit_at-zero)

  -- a later word without a number
  word-empty : (n : ℕ) → from / 64 < n / 64 → bit_at later (n / 64) ≡ 0 → contains words n ≡ false
  word-empty n after clear = grind (arith, have (n / 64), later_from (n / 64), bit_at-zero, cases_eq (get_or words (n / 64) 0) 0)

  module _ (at lowest : ℕ) (has : bit_at later at ≡ 1) (before : (k : ℕ) → k < at → bit_at later k ≡ 0)
      (inside : lowest < 64) (set_bit : bit_at (get_or words at 0) lowest ≡ 1) (below : (i : ℕ) → i < lowest → bit_at (get_or words at 0) i ≡ 0) where
    after : from / 64 < at
    after = elim (cases_lt (from / 64) at) [
      | inl is ↦ is
      | inr early ↦ absurd (grind (arith, later_below at (omega (arith, early)), has))
    ]

    found-between : (n : ℕ) → from ≤ n → n < at * 64 + lowest → contains words n ≡ false
    found-between n from_on to = elim (cases_eq (n / 64) (from / 64)) [
      | inl same ↦ none-here n from_on same
      | inr apart ↦ elim (cases_lt (n / 64) at) [
        | inl left_of ↦ word-empty n (omega (arith, from_on, apart)) (before (n / 64) left_of)
        | inr on ↦
            let same : n / 64 ≡ at = omega (arith, on, to, inside) in
            grind (arith, below (n % 64), same)
      ]
    ]

    pub next-found : IsFound words from (at * 64 + lowest)
    next-found =
        let place : (at * 64 + lowest) / 64 ≡ at = omega (arith, inside) in
        let bit : (at * 64 + lowest) % 64 ≡ lowest = omega (arith, inside) in
        (omega (arith, after), grind (arith, place, bit, set_bit), found-between)
