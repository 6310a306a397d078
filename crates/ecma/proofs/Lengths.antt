-- How many bytes a token has.
use Rattle.std.specs.Prelude.{◌≡◌, ◌+◌, ◌*◌, ◌/◌, ◌%◌, ◌<◌, ◌≤◌, ◌∷◌, ◌++◌, ◌==◌, if◌then◌else◌}
use Rattle.ecma.specs.{ℕ, true, List, [], length, refl, ap, arith, length-append, ◌∙◌, sym, decimal, Option, Some, None, count_ones, agree_below_at, eqb-true, AllByRecursion, flat_map-append}
use Rattle.ecma.specs.{decimal_digit, decimal_step, length-decimal-le, Rendition, IsColour, IsRendition, has_colour, LARGEST_SCREEN, LAST_COLOUR, first_foreground, first_background, spelling}
use Rattle.ecma.specs.{selection, codes_of, codes_of_attributes, code_of_colour, longest, IsToken}
use Rattle.ecma.specs.declared.token.Token.{Token}
use Rattle.ecma.specs.declared.token.Token.TheVariants.{Cup, Sgr}
use Rattle.ecma.proofs.ParameterNumbers.{one_digit, few_attributes}

pub length-cup : (line column : ℕ) → line < LARGEST_SCREEN → column < LARGEST_SCREEN → length (spelling (Cup line column)) ≤ 10
unfolding spelling
length-cup line column few_lines few_columns =
    simp length-append (omega (arith, length-decimal-le 3 (line + 1) (omega arith) (omega arith) (omega arith), length-decimal-le 3 (column + 1) (omega arith) (omega arith) (omega arith)))

length-codes : (codes : List ℕ) → AllByRecursion (λ code. code < 10) codes → length (selection codes) ≤ 2 * length codes
length-codes [] h = omega arith
length-codes (code ∷ codes) h = grind (arith, length-append, length-decimal-le, (length-codes codes h.1))

pub three_digits : (n : ℕ) → n < LARGEST_SCREEN → length (decimal (n + 1)) ≤ 3
three_digits n few = grind (arith, length-decimal-le)

-- what is sent of a rendition, part by part
pub selection-codes_of : (rendition : Rendition) → selection (codes_of rendition)
    ≡ selection (codes_of_attributes rendition.attributes) ++ selection (code_of_colour first_foreground rendition.foreground) ++ selection (code_of_colour first_background rendition.background)
selection-codes_of rendition = grind (arith, flat_map-append)

-- a separator and two digits for each colour that isn't the default
abbrev colour_room : Option ℕ → ℕ
colour_room None = 0
colour_room (Some number) = 3

length-colour_room : (first : ℕ) (colour : Option ℕ) → first ≤ 40 → IsColour colour → length (selection (code_of_colour first colour)) ≤ colour_room colour
length-colour_room first None few h = omega arith
length-colour_room first (Some number) few h =
    omega (arith, length-append (59 ∷ decimal (first + number)) [], length-decimal-le 2 (first + number) (omega arith) (omega arith) (omega arith))

-- a selection has at most 16 bytes, and 6 more where there is a colour
pub length-selection : (rendition : Rendition) → IsRendition rendition → length (spelling (Sgr rendition)) ≤ 16 + (if has_colour rendition then 6 else 0)
unfolding spelling
length-selection rendition h = grind (arith, selection-codes_of, length-append, length-codes, one_digit, few_attributes, length-colour_room)

pub length-spelling : (token : Token) → IsToken token → length (spelling token) ≤ longest token
unfolding spelling
length-spelling token h = grind (arith, length-cup, length-selection, length-append)

-- ---- exactly

module _ (n : ℕ) where
  pub decimal-one : n < 10 → decimal n ≡ (48 + n) ∷ []
  decimal-one few = decimal_digit n few

  pub decimal-two : 10 ≤ n → n < 100 → decimal n ≡ (48 + n / 10) ∷ (48 + n % 10) ∷ []
  decimal-two many few = rw (decimal_step n many (omega arith), decimal_digit (n / 10) (omega arith)) refl

  pub decimal-three : 100 ≤ n → n < 1000 → decimal n ≡ (48 + n / 100) ∷ (48 + n / 10 % 10) ∷ (48 + n % 10) ∷ []
  decimal-three many few =
      let first : n / 10 / 10 ≡ n / 100 = omega arith in
      rw (decimal_step n (omega arith) (omega arith), decimal_step (n / 10) (omega arith) (omega arith), decimal_digit (n / 10 / 10) (omega arith), first) refl

-- the code of a colour after a separator, where the first one ends in 0
pub colour-code : (first number : ℕ) → 10 ≤ first → first ≤ 90 → first % 10 ≡ 0 → number ≤ LAST_COLOUR → 59 ∷ (48 + first / 10) ∷ (48 + number) ∷ [] ≡ selection ((first + number) ∷ [])
colour-code first number digits few last small =
    let tens : (first + number) / 10 ≡ first / 10 = omega arith in
    let ones : (first + number) % 10 ≡ number = omega arith in
    sym (rw (decimal-two (first + number) (omega arith) (omega arith), tens, ones) refl)

-- a separator and a digit for each code
length-codes_exact : (codes : List ℕ) → AllByRecursion (λ code. code < 10) codes → length (selection codes) ≡ 2 * length codes
length-codes_exact [] h = omega arith
length-codes_exact (code ∷ codes) h =
    omega (arith, ap length (decimal_digit code h.0), length-append (59 ∷ decimal code) (selection codes), length-codes_exact codes h.1)

counted_below : (bits : ℕ) → bits < 64 → (length (codes_of_attributes bits) == count_ones bits) ≡ true
unfolding codes_of_attributes count_ones
counted_below bits fits = agree_below_at (λ (n : ℕ). length (codes_of_attributes n) == count_ones n) (λ _. true) 64 bits refl fits

pub length-attributes : (bits : ℕ) → bits < 64 → length (selection (codes_of_attributes bits)) ≡ 2 * count_ones bits
length-attributes bits fits = omega (arith, length-codes_exact (codes_of_attributes bits) (one_digit bits fits), eqb-true _ _ (counted_below bits fits))

pub few-attributes : (bits : ℕ) → bits < 64 → count_ones bits ≤ 6
few-attributes bits fits = omega (arith, eqb-true _ _ (counted_below bits fits), few_attributes bits fits)

pub length-colour : (first : ℕ) (number : ℕ) → 10 ≤ first → first ≤ 40 → number ≤ LAST_COLOUR → length (selection (code_of_colour first (Some number))) ≡ 3
length-colour first number least most few =
    let long : length (decimal (first + number)) ≡ 2 = ap length (decimal-two (first + number) (omega arith) (omega arith)) in
    omega (arith, long, length-append (59 ∷ decimal (first + number)) [])

pub length-cup_exact : (line column : ℕ) → length (spelling (Cup line column)) ≡ 4 + length (decimal (line + 1)) + length (decimal (column + 1))
unfolding spelling
length-cup_exact line column = simp length-append (omega arith)

pub length-sgr_exact : (rendition : Rendition) → length (spelling (Sgr rendition)) ≡ 4 + length (selection (codes_of_attributes rendition.attributes))
    + length (selection (code_of_colour first_foreground rendition.foreground)) + length (selection (code_of_colour first_background rendition.background))
unfolding spelling
length-sgr_exact rendition =
    let attributes = selection (codes_of_attributes rendition.attributes) in
    let foreground = selection (code_of_colour first_foreground rendition.foreground) in
    let background = selection (code_of_colour first_background rendition.background) in
    rw (selection-codes_of rendition)
    (omega (arith, length-append (attributes ++ foreground ++ background) (109 ∷ []), length-append (attributes ++ foreground) background, length-append attributes foreground))

pub no-attributes : codes_of_attributes 0 ≡ []
unfolding codes_of_attributes
no-attributes = refl

pub ruleset lengths = (decimal-one, decimal-two, decimal-three, length-cup_exact, length-sgr_exact, length-attributes, few-attributes, length-colour)
