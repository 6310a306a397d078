-- Control sequences whose parameters are numbers in decimal digits.
use Rattle.std.specs.Prelude.{◌%◌, ◌&&◌, ◌*◌, ◌++◌, ◌+◌, ◌-◌, ◌/◌, ◌<◌, ◌==◌, ◌^◌, ◌∷◌, ◌≡◌, ◌≤◌, ◌⊎◌}
use Rattle.keys.specs.{AreKey, Bool, Character, IsScalar, Key, List, Modifiers, Name, Option, Parameters, Pressed, Some}
use Rattle.keys.specs.{TOO_LARGE, [], after_byte, ap, arith, cases_lt, continues, control_key, control_sequence}
use Rattle.keys.specs.{controlled_key, decimal, decimal_by_steps, false, fold, fold-append, get_or, get_or-append_right}
use Rattle.keys.specs.{get_or-take, get_or_append_left, inl, inr, is_digit, is_whole, key_named, key_of, length}
use Rattle.keys.specs.{length-append, length-decimal-le, length-take-le, min, modifiers_of, name_of_code, name_of_final}
use Rattle.keys.specs.{name_of_number, nat_le, nat_lt, nat_tests, ne_eqb, no_modifiers, no_parameters, not}
use Rattle.keys.specs.{parameter_of, parameters, pressed_below, refl, scalar_cases, slice_range, subst, suc, sym, take}
use Rattle.keys.specs.{take-append_seam, three_parameters, true, two_parameters, with_digit, zero, ℕ, ◌∙◌}
use Rattle.keys.proofs.Sequences.{get-last}

-- a digit or ;
abbrev IsParameter : ℕ → Type 0
IsParameter byte = (48 ≤ byte) × (byte ≤ 59)

-- ---- as bytes

bracket-on : (l : List ℕ) (byte : ℕ) → 0x20 ≤ byte → byte ≤ 0x7e → continues false (27 ∷ 91 ∷ l) byte ≡ true
unfolding continues
bracket-on l byte low high = grind (arith, nat_tests, low, high)

parameters-open : (x : ℕ) (l : List ℕ) → length l < 4000 → IsParameter x → IsParameter (get_or (x ∷ l) (length l) 0)
    → is_whole false (27 ∷ 91 ∷ x ∷ l) ≡ false
unfolding is_whole
parameters-open x l short first last = grind (arith, nat_tests, short, first.0, first.1, last.0, last.1)

last-final : (l : List ℕ) (byte : ℕ) → get_or (l ++ byte ∷ []) (length (l ++ byte ∷ []) - 1) 0 ≡ byte
last-final l byte =
    let at : length (l ++ byte ∷ []) - 1 ≡ length l = omega (arith, length-append l (byte ∷ [])) in
    ap (λ k. get_or (l ++ byte ∷ []) k 0) at ∙ get-last l byte

final-whole : (x : ℕ) (l : List ℕ) (byte : ℕ) → length l < 4000 → IsParameter x → 0x40 ≤ byte
    → is_whole false (27 ∷ 91 ∷ x ∷ (l ++ byte ∷ [])) ≡ true
unfolding is_whole
final-whole x l byte short first high =
    let bytes : List ℕ = 27 ∷ 91 ∷ x ∷ (l ++ byte ∷ []) in
    let last : get_or bytes (length bytes - 1) 0 ≡ byte = last-final (27 ∷ 91 ∷ x ∷ l) byte in
    let long : length (l ++ byte ∷ []) ≡ length l + 1 = length-append l (byte ∷ []) in
    grind (arith, nat_tests, short, first.0, first.1, high, last, long)

-- a final byte that isn't one of rxvt's endings
abbrev is_final : ℕ → Bool
is_final byte = nat_lt 0x40 byte && nat_le byte 0x7e && not (byte == 94)

record IsFinal (byte : ℕ) : Type 0 where
  low : 0x40 < byte
  high : byte ≤ 0x7e
  no_ending : byte ≡ 94 → ⊥

finals : (byte : ℕ) → is_final byte ≡ true → IsFinal byte
finals byte is = record {
  low = grind (arith, nat_tests, is);
  high = grind (arith, nat_tests, is);
  no_ending = λ e. grind (arith, nat_tests, is, e);
}

final-key : (x : ℕ) (l : List ℕ) (byte : ℕ) → IsParameter x → IsFinal byte
    → key_of false (27 ∷ 91 ∷ x ∷ (l ++ byte ∷ [])) ≡ controlled_key (parameters (x ∷ l)) byte
unfolding key_of control_key
final-key x l byte first final =
    let bytes : List ℕ = 27 ∷ 91 ∷ x ∷ (l ++ byte ∷ []) in
    let last : get_or bytes (length bytes - 1) 0 ≡ byte = last-final (27 ∷ 91 ∷ x ∷ l) byte in
    let long : length (l ++ byte ∷ []) ≡ length l + 1 = length-append l (byte ∷ []) in
    let count : length bytes - 1 - 2 ≡ length (x ∷ l) = omega (arith, long) in
    let between : slice_range bytes 2 (length bytes - 1) ≡ x ∷ l =
    ap (λ k. take k (x ∷ (l ++ byte ∷ []))) count ∙ take-append_seam (x ∷ l) (byte ∷ []) in
    grind (
      arith,
      nat_tests,
      first.0,
      first.1,
      final.low,
      ne_eqb byte 94 final.no_ending,
      last,
      long,
      between,
    )

module _ (x : ℕ) (l : List ℕ) (all : (k : ℕ) → k < length (x ∷ l) → IsParameter (get_or (x ∷ l) k 0))
    (short : length l < 4000) (byte : ℕ) (is : is_final byte ≡ true) where
  rest : List ℕ
  rest = l ++ byte ∷ []

  final : IsFinal byte
  final = finals byte is

  long : length rest ≡ length l + 1
  unfolding rest
  long = length-append l (byte ∷ [])

  parameter : (k : ℕ) → k < length (x ∷ l) → IsParameter (get_or (x ∷ rest) k 0)
  unfolding rest
  parameter k h = rw (get_or_append_left (x ∷ l) (byte ∷ []) 0 k h) (all k h)

  on-at : (k : ℕ) → k < length (x ∷ rest)
      → continues false (27 ∷ 91 ∷ take k (x ∷ rest)) (get_or (x ∷ rest) k 0) ≡ true
  unfolding rest
  on-at k h = elim (cases_lt k (length (x ∷ l))) [
    | inl before ↦
        let at = parameter k before in
        bracket-on (take k (x ∷ rest)) (get_or (x ∷ rest) k 0) (omega (arith, at.0)) (omega (arith, at.1))
    | inr after ↦
        let last : k ≡ length (x ∷ l) = omega (arith, after, h, long) in
        rw (last, get-last (x ∷ l) byte)
        (bracket-on (take (length (x ∷ l)) (x ∷ rest)) byte (omega (arith, final.low)) final.high)
  ]

  open-at : (k : ℕ) → k < length rest → is_whole false (27 ∷ 91 ∷ x ∷ take k rest) ≡ false
  open-at k h =
      let taken : length (take k rest) ≡ k = length-take-le k rest (omega (arith, h)) in
      let P : ℕ → Type 0 = λ b. IsParameter b in
      parameters-open x (take k rest) (omega (arith, taken, h, long, short)) (parameter 0 (omega arith))
      (subst P (sym (ap (λ n. get_or (x ∷ take k rest) n 0) taken ∙ get_or-take (suc k) (x ∷ rest) k 0 (omega arith)))
      (parameter k (omega (arith, h, long))))

  goes_on : (n : ℕ) → n < length (27 ∷ 91 ∷ x ∷ rest)
      → continues false (take n (27 ∷ 91 ∷ x ∷ rest)) (get_or (27 ∷ 91 ∷ x ∷ rest) n 0) ≡ true
  unfolding continues
  goes_on zero h = refl
  goes_on (suc zero) h = refl
  goes_on (suc (suc k)) h = on-at k (omega (arith, h))

  not_whole : (n : ℕ) → 0 < n → n < length (27 ∷ 91 ∷ x ∷ rest)
      → is_whole false (take n (27 ∷ 91 ∷ x ∷ rest)) ≡ false
  unfolding is_whole
  not_whole zero some h = absurd (omega (arith, some))
  not_whole (suc zero) some h = refl
  not_whole (suc (suc zero)) some h = refl
  not_whole (suc (suc (suc k))) some h = open-at k (omega (arith, h))

  control : AreKey (27 ∷ 91 ∷ x ∷ (l ++ byte ∷ [])) (controlled_key (parameters (x ∷ l)) byte)
  unfolding rest
  control = record {
    begun = record { goes_on = goes_on; not_whole = not_whole };
    some = omega arith;
    whole = final-whole x l byte short (all 0 (omega arith)) (omega (arith, final.low));
    means = final-key x l byte (all 0 (omega arith)) final;
  }

-- ---- numbers in digits

-- digits that spell a number
pub record Spells (n : ℕ) (ds : List ℕ) : Type 0 where
  pub digits : (k : ℕ) → k < length ds → (48 ≤ get_or ds k 0) × (get_or ds k 0 ≤ 57)
  pub value : n ≤ TOO_LARGE → fold with_digit 0 ds ≡ n
  pub some : 1 ≤ length ds

spells-one : (n : ℕ) → n < 10 → Spells n ((48 + n) ∷ [])
spells-one n small = record {
  digits = λ k h.
      let e : k ≡ 0 = omega (arith, h) in (rw e (omega (arith, small)), rw e (omega (arith, small)));
  value = λ few. omega (arith, small);
  some = omega arith;
}

spells-more : (n : ℕ) (ds : List ℕ) → 10 ≤ n → Spells (n / 10) ds → Spells n (ds ++ (48 + n % 10) ∷ [])
spells-more n ds large is = record {
  digits = λ k h. elim (cases_lt k (length ds)) [
    | inl before ↦ rw (get_or_append_left ds ((48 + n % 10) ∷ []) 0 k before) (is.digits k before)
    | inr after ↦
        let at : k ≡ length ds = omega (arith, after, h, length-append ds ((48 + n % 10) ∷ [])) in
        rw (at, get-last ds (48 + n % 10)) (omega arith, omega arith)
  ];
  value = λ few.
      fold-append with_digit 0 ds ((48 + n % 10) ∷ [])
      ∙ ap (λ v. with_digit v (48 + n % 10)) (is.value (omega (arith, few)))
      ∙ (let e : min (n / 10 * 10 + (48 + n % 10 - 48)) TOO_LARGE ≡ n = omega (arith, few) in e);
  some = omega (arith, length-append ds ((48 + n % 10) ∷ []));
}

pub spells : (n : ℕ) → n < 2 ^ 64 → Spells n (decimal n)
spells n fits = decimal_by_steps Spells spells-one spells-more n fits

digit-test : (b : ℕ) → 48 ≤ b → b ≤ 57 → is_digit b ≡ true
digit-test b low high = grind (arith, nat_tests, low, high)

fits : (n : ℕ) → n ≤ TOO_LARGE → n < 2 ^ 64
fits n few = omega (arith, few)

-- parameters of one number, of two and of three
abbrev one_number : ℕ → Parameters
one_number n = record no_parameters { first = n }

abbrev two_numbers : ℕ → ℕ → Parameters
two_numbers n m = record no_parameters { first = n; second = m; ended = 1 }

abbrev three_numbers : ℕ → ℕ → ℕ → Parameters
three_numbers n m k = record no_parameters { first = n; second = m; third = k; ended = 2 }

-- digits go on the number that no separator has ended
fold-digits : (F : ℕ → Parameters)
    → ((a b : ℕ) → is_digit b ≡ true → after_byte (F a) b ≡ F (with_digit a b)) → (ds : List ℕ) (a : ℕ)
    → ((k : ℕ) → k < length ds → (48 ≤ get_or ds k 0) × (get_or ds k 0 ≤ 57))
    → fold after_byte (F a) ds ≡ F (fold with_digit a ds)
fold-digits F next [] a digits = refl
fold-digits F next (d ∷ ds) a digits =
    ap (λ p. fold after_byte p ds)
    (next a d (digit-test d (digits 0 (omega arith)).0 (digits 0 (omega arith)).1))
    ∙ fold-digits F next ds (with_digit a d) (λ k h. digits (suc k) (omega (arith, h)))

fold-decimal : (F : ℕ → Parameters)
    → ((a b : ℕ) → is_digit b ≡ true → after_byte (F a) b ≡ F (with_digit a b)) → (n : ℕ) → n ≤ TOO_LARGE
    → fold after_byte (F 0) (decimal n) ≡ F n
fold-decimal F next n few =
    let is = spells n (fits n few) in
    fold-digits F next (decimal n) 0 is.digits ∙ ap F (is.value few)

parameters-one : (n : ℕ) → n ≤ TOO_LARGE → parameters (decimal n) ≡ one_number n
parameters-one n few = fold-decimal one_number (λ a b digit. rw digit refl) n few

parameters-two : (n m : ℕ) → n ≤ TOO_LARGE → m ≤ TOO_LARGE → parameters (two_parameters n m) ≡ two_numbers n m
parameters-two n m few few' =
    fold-append after_byte no_parameters (decimal n) (59 ∷ decimal m)
    ∙ ap (λ p. fold after_byte p (59 ∷ decimal m)) (parameters-one n few)
    ∙ fold-decimal (two_numbers n) (λ a b digit. rw digit refl) m few'

parameters-three : (n m k : ℕ) → n ≤ TOO_LARGE → m ≤ TOO_LARGE → k ≤ TOO_LARGE
    → parameters (three_parameters n m k) ≡ three_numbers n m k
parameters-three n m k few few' few'' =
    fold-append after_byte no_parameters (two_parameters n m) (59 ∷ decimal k)
    ∙ ap (λ p. fold after_byte p (59 ∷ decimal k)) (parameters-two n m few few')
    ∙ fold-decimal (three_numbers n m) (λ a b digit. rw digit refl) k few''

-- ---- control sequences of numbers

-- bytes of parameters, some but not too many
record AreParameters (bytes : List ℕ) (most : ℕ) : Type 0 where
  each : (k : ℕ) → k < length bytes → IsParameter (get_or bytes k 0)
  some : 1 ≤ length bytes
  few : length bytes ≤ most

parameters-decimal : (n : ℕ) → n ≤ TOO_LARGE → AreParameters (decimal n) 7
parameters-decimal n few =
    let is = spells n (fits n few) in
    record {
      each = λ k h. (omega (arith, (is.digits k h).0), omega (arith, (is.digits k h).1));
      some = is.some;
      few = length-decimal-le 7 n (omega arith) (omega (arith, few)) (fits n few);
    }

behind : (es : List ℕ) (most : ℕ) → AreParameters es most → (j : ℕ) → j < length (59 ∷ es)
    → IsParameter (get_or (59 ∷ es) j 0)
behind es most are zero h = (omega arith, omega arith)
behind es most are (suc j) h = are.each j (omega (arith, h))

parameters-both : (ds es : List ℕ) (d e : ℕ) → AreParameters ds d → AreParameters es e
    → AreParameters (ds ++ 59 ∷ es) (d + suc e)
parameters-both ds es d e are others =
    let long = length-append ds (59 ∷ es) in
    record {
      each = λ k h. elim (cases_lt k (length ds)) [
        | inl before ↦ rw (get_or_append_left ds (59 ∷ es) 0 k before) (are.each k before)
        | inr after ↦
            rw (get_or-append_right ds (59 ∷ es) (length ds) k 0 refl after)
            (behind es e others (k - length ds) (omega (arith, after, h, long)))
      ];
      some = omega (arith, long, are.some);
      few = omega (arith, long, are.few, others.few);
    }

controlled : (between : List ℕ) (most : ℕ) → AreParameters between most → most < 4000 → (byte : ℕ)
    → is_final byte ≡ true
    → (p : Parameters) → parameters between ≡ p → (key : Key) → controlled_key p byte ≡ key
    → AreKey (control_sequence between byte) key
controlled [] most are short byte final p spelled key means = absurd (omega (arith, are.some))
controlled (x ∷ l) most are short byte final p spelled key means =
    let P : Key → Type 0 = λ k. AreKey (control_sequence (x ∷ l) byte) k in
    subst P (ap (λ q. controlled_key q byte) spelled ∙ means)
    (control x l are.each (omega (arith, are.few, short)) byte final)

-- ---- with modifiers

back : (shift alt ctrl : Bool) → let held : Modifiers = record { shift = shift; alt = alt; ctrl = ctrl } in
    (parameter_of held ≤ 8) × (modifiers_of (parameter_of held - 1) ≡ held)
back false false false = (omega arith, refl)
back false false true = (omega arith, refl)
back false true false = (omega arith, refl)
back false true true = (omega arith, refl)
back true false false = (omega arith, refl)
back true false true = (omega arith, refl)
back true true false = (omega arith, refl)
back true true true = (omega arith, refl)

below : (limit n : ℕ) (name : Name) → 8 ≤ limit → n ≤ 8
    → pressed_below limit (Some name) n ≡ Pressed name (modifiers_of (n - 1))
below limit n name wide few =
    let low : nat_lt 256 n ≡ false = grind (arith, nat_tests, few) in
    let within : nat_le limit ((n - 1) % 64) ≡ false = grind (arith, nat_tests, few, wide) in
    rw (low, within) refl

pressed-back : (limit : ℕ) (option : Option Name) (name : Name) (held : Modifiers) → 8 ≤ limit → option ≡ Some name
    → pressed_below limit option (parameter_of held) ≡ Pressed name held
pressed-back limit option name held wide is =
    let said = back held.shift held.alt held.ctrl in
    ap (λ o. pressed_below limit o (parameter_of held)) is ∙ below limit (parameter_of held) name wide said.0
    ∙ ap (Pressed name) said.1

few-held : (held : Modifiers) → parameter_of held ≤ TOO_LARGE
few-held held = let e = (back held.shift held.alt held.ctrl).0 in omega (arith, e)

few-number : (n : ℕ) (name : Name) → name_of_number n ≡ Some name → n ≤ 34
few-number n name is = grind (arith, nat_tests, is)

few-code : (n : ℕ) (name : Name) → name_of_code n ≡ Some name → n ≤ TOO_LARGE
few-code n name is = grind (arith, nat_tests, is)

final-letter : (letter : ℕ) (name : Name) → name_of_final letter ≡ Some name → (65 ≤ letter) × (letter ≤ 83)
final-letter letter name is = (grind (arith, nat_tests, is), grind (arith, nat_tests, is))

-- ESC [ n ~
pub numbered-one : (n : ℕ) (name : Name) → name_of_number n ≡ Some name
    → AreKey (control_sequence (decimal n) 126) (key_named name)
unfolding controlled_key
numbered-one n name is =
    let small = few-number n name is in
    let few : n ≤ TOO_LARGE = omega (arith, small) in
    controlled (decimal n) 7 (parameters-decimal n few) (omega arith) 126 refl (one_number n) (parameters-one n few)
    (key_named name)
    (rw (ne_eqb n 200 (λ e. omega (arith, e, small)))
    (pressed-back 16 (name_of_number n) name no_modifiers (omega arith) is))

-- ESC [ n ; m ~
pub numbered-two : (n : ℕ) (name : Name) (held : Modifiers) → name_of_number n ≡ Some name
    → AreKey (control_sequence (two_parameters n (parameter_of held)) 126) (Pressed name held)
unfolding controlled_key
numbered-two n name held is =
    let few : n ≤ TOO_LARGE = (let e = few-number n name is in omega (arith, e)) in
    let m = parameter_of held in
    controlled (two_parameters n m) 15
    (parameters-both (decimal n) (decimal m) 7 7 (parameters-decimal n few) (parameters-decimal m (few-held held)))
    (omega arith) 126 refl (two_numbers n m) (parameters-two n m few (few-held held)) (Pressed name held)
    (pressed-back 16 (name_of_number n) name held (omega arith) is)

-- ESC [ n ; m u
pub coded-two : (n : ℕ) (name : Name) (held : Modifiers) → name_of_code n ≡ Some name
    → AreKey (control_sequence (two_parameters n (parameter_of held)) 117) (Pressed name held)
unfolding controlled_key
coded-two n name held is =
    let few : n ≤ TOO_LARGE = few-code n name is in
    let m = parameter_of held in
    controlled (two_parameters n m) 15
    (parameters-both (decimal n) (decimal m) 7 7 (parameters-decimal n few) (parameters-decimal m (few-held held)))
    (omega arith) 117 refl (two_numbers n m) (parameters-two n m few (few-held held)) (Pressed name held)
    (pressed-back 8 (name_of_code n) name held (omega arith) is)

-- ESC [ 27 ; m ; n ~
pub coded-three : (n : ℕ) (name : Name) (held : Modifiers) → name_of_code n ≡ Some name
    → AreKey (control_sequence (three_parameters 27 (parameter_of held) n) 126) (Pressed name held)
unfolding controlled_key
coded-three n name held is =
    let few : n ≤ TOO_LARGE = few-code n name is in
    let m = parameter_of held in
    let both = parameters-both (decimal 27) (decimal m) 7 7 (parameters-decimal 27 (omega arith))
    (parameters-decimal m (few-held held)) in
    controlled (three_parameters 27 m n) 23
    (parameters-both (two_parameters 27 m) (decimal n) 15 7 both (parameters-decimal n few))
    (omega arith) 126 refl (three_numbers 27 m n) (parameters-three 27 m n (omega arith) (few-held held) few)
    (Pressed name held) (pressed-back 8 (name_of_code n) name held (omega arith) is)

-- ESC [ 1 ; m and a letter
pub lettered-two : (letter : ℕ) (name : Name) (held : Modifiers) → name_of_final letter ≡ Some name
    → AreKey (control_sequence (two_parameters 1 (parameter_of held)) letter) (Pressed name held)
unfolding controlled_key
lettered-two letter name held is =
    let bounds = final-letter letter name is in
    let m = parameter_of held in
    controlled (two_parameters 1 m) 15
    (parameters-both (decimal 1) (decimal m) 7 7 (parameters-decimal 1 (omega arith))
    (parameters-decimal m (few-held held)))
    (omega arith) letter
    (grind (arith, nat_tests, bounds.0, bounds.1))
    (two_numbers 1 m) (parameters-two 1 m (omega arith) (few-held held)) (Pressed name held)
    (rw (ne_eqb letter 126 (λ e. omega (arith, e, bounds.1)), ne_eqb letter 117 (λ e. omega (arith, e, bounds.1)))
    (rw (ne_eqb letter 90 (λ e. omega (arith, e, bounds.1)))
    (pressed-back 16 (name_of_final letter) name held (omega arith) is)))

-- which characters have a number
pub coded-character : (code : ℕ) → IsScalar code → 32 ≤ code → (code ≡ 127 → ⊥) → (code < 0xe000) ⊎ (0xf900 ≤ code)
    → name_of_code code ≡ Some (Character code)
coded-character code scalar low other public = elim (scalar_cases code scalar) [
  | inl before ↦ grind (arith, nat_tests, low, ne_eqb code 127 other, before)
  | inr after ↦ elim public [
    | inl below ↦ absurd (omega (arith, below, after.0))
    | inr above ↦ grind (arith, nat_tests, low, other, above, after.1)
  ]
]
