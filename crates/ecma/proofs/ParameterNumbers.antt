-- Numbers in parameters, and the codes of a set of attributes.
use Rattle.std.specs.Prelude.{◌≡◌, ◌+◌, ◌^◌, ◌<◌, ◌≤◌, ◌∷◌, ◌++◌, ◌&&◌, ◌==◌}
use Rattle.ecma.specs.{ℕ, Bool, true, List, [], length, length-append, Option, Some, None, refl, arith, rules, unwrap_or, is_none, nat_lt, decimal, list_all, AllByRecursion, digits_value}
use Rattle.ecma.specs.{IsNumeralModel, numerals_by_value, decimal_nonempty, digits_decimal, digits_value-decimal, and_parts, ltb-true, eqb-true, agree_below_at, option_and_then, nat_tests}
use Rattle.ecma.specs.{Rendition, IsRendition, no_rendition, LAST_COLOUR, IsDigit, first_foreground, first_background, number_or, select, select_all, codes_of_attributes, code_of_colour, codes_of}
use Rattle.ecma.proofs.Each.{each-append, each-weaker}

numerals : IsNumeralModel (AllByRecursion IsDigit) (digits_value 10)
numerals = numerals_by_value (AllByRecursion IsDigit) (search rules)

pub are_digits-decimal : (n : ℕ) → n < 2 ^ 64 → AllByRecursion IsDigit (decimal n)
are_digits-decimal n fits = digits_decimal numerals n fits

number_or-digits : (default : ℕ) (digits : List ℕ) → 0 < length digits → number_or default digits ≡ digits_value 10 digits
number_or-digits default digits h = grind arith

pub number_or-decimal : (default n : ℕ) → n < 2 ^ 64 → number_or default (decimal n) ≡ n
number_or-decimal default n fits = grind (arith, number_or-digits, decimal_nonempty, numerals, digits_value-decimal)

-- ---- codes of attributes

-- a rendition with attributes that no known ones are
unknown : Rendition
unknown = record no_rendition { attributes = 0x40 }

-- what the codes select
selected : List ℕ → Rendition
unfolding unknown
selected codes = unwrap_or (select_all codes no_rendition) unknown

-- the rendition has these attributes and no colours
abbrev has_only : Rendition → ℕ → Bool
has_only rendition bits = (rendition.attributes == bits) && (is_none rendition.foreground && is_none rendition.background)

-- each code has one digit, there are six at most, and selecting them gives the attributes
abbrev is_spelled : List ℕ → ℕ → Bool
is_spelled codes bits = list_all (λ code. nat_lt code 10) codes && nat_lt (length codes) 7 && has_only (selected codes) bits

is_spelled_below : (bits : ℕ) → bits < 64 → is_spelled (codes_of_attributes bits) bits ≡ true
unfolding codes_of_attributes select selected unknown
is_spelled_below bits fits = agree_below_at (λ (n : ℕ). is_spelled (codes_of_attributes n) n) (λ _. true) 64 bits refl fits

-- a rendition of these attributes alone
abbrev only : ℕ → Rendition
only bits = record { attributes = bits; foreground = None; background = None }

only_from : (rendition : Rendition) (bits : ℕ) → has_only rendition bits ≡ true → rendition ≡ only bits
only_from rendition bits h = grind (arith, and_parts, eqb-true)

some_from_selected : (o : Option Rendition) (bits : ℕ) → bits < 64 → unwrap_or o unknown ≡ only bits → o ≡ Some (only bits)
unfolding unknown
some_from_selected o bits small e = grind arith

pub select_all-attributes : (bits : ℕ) → bits < 64 → select_all (codes_of_attributes bits) no_rendition ≡ Some (only bits)
unfolding selected
select_all-attributes bits small =
    let parts = and_parts _ _ (is_spelled_below bits small) in some_from_selected _ bits small (only_from (selected (codes_of_attributes bits)) bits parts.1)

small_attributes : (bits : ℕ) → bits < 64 → list_all (λ code. nat_lt code 10) (codes_of_attributes bits) ≡ true
small_attributes bits small = (and_parts _ _ (and_parts _ _ (is_spelled_below bits small)).0).0

pub few_attributes : (bits : ℕ) → bits < 64 → length (codes_of_attributes bits) < 7
few_attributes bits small = ltb-true _ _ (and_parts _ _ (and_parts _ _ (is_spelled_below bits small)).0).1

pub one_digit : (bits : ℕ) → bits < 64 → AllByRecursion (λ code. code < 10) (codes_of_attributes bits)
one_digit bits small = each_small (codes_of_attributes bits) (small_attributes bits small) where
  each_small : (codes : List ℕ) → list_all (λ code. nat_lt code 10) codes ≡ true → AllByRecursion (λ code. code < 10) codes
  each_small [] h = tt
  each_small (code ∷ codes) h = grind (arith, and_parts, ltb-true, (each_small codes))

-- ---- codes of colours

select-foreground : (number : ℕ) (rendition : Rendition) → number ≤ LAST_COLOUR → select (first_foreground + number) rendition ≡ Some (record rendition { foreground = Some number })
unfolding select
select-foreground number rendition small = grind (arith, nat_tests)

select-background : (number : ℕ) (rendition : Rendition) → number ≤ LAST_COLOUR → select (first_background + number) rendition ≡ Some (record rendition { background = Some number })
unfolding select
select-background number rendition small = grind (arith, nat_tests)

-- ---- all codes

pub select_all-append : (codes more : List ℕ) (rendition : Rendition) → select_all (codes ++ more) rendition ≡ option_and_then (select_all more) (select_all codes rendition)
select_all-append [] more rendition = refl
select_all-append (code ∷ codes) more rendition = grind (arith, (select_all-append codes more))

pub select_all-codes_of : (rendition : Rendition) → IsRendition rendition → select_all (codes_of rendition) no_rendition ≡ Some rendition
select_all-codes_of rendition h = grind (arith, select_all-append, select_all-attributes, select-foreground, select-background)

pub codes_small : (rendition : Rendition) → IsRendition rendition → AllByRecursion (λ code. code < 100) (codes_of rendition)
codes_small rendition h =
    let small = each-weaker (λ code. code < 10) (λ code. code < 100) (λ code h. omega (arith, h)) _ (one_digit rendition.attributes h.of_the_six) in search (rules, each-append)

length-colour : (first : ℕ) (colour : Option ℕ) → length (code_of_colour first colour) ≤ 1
length-colour first colour = grind arith

pub codes_few : (rendition : Rendition) → IsRendition rendition → length (codes_of rendition) < 9
codes_few rendition h = grind (arith, few_attributes, length-append, length-colour)
