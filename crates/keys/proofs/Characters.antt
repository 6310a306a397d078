-- The bytes of each character are its key, and no others are.
use Rattle.std.specs.Prelude.{◌%◌, ◌*◌, ◌+◌, ◌/◌, ◌<◌, ◌==◌, ◌∷◌, ◌≡◌, ◌≤◌}
use Rattle.keys.specs.{AreKey, Character, IsBegun, IsScalar, Key, LONGEST, List, Unknown, [], ap, ap₂, arith, ascii_key}
use Rattle.keys.specs.{cases_eq, cases_lt, character_key, code_of, continues, encode, eq-eqb, false, get_or, inl, inr}
use Rattle.keys.specs.{is_in_character, is_whole, key_named, key_of, key_of_code, le-ltb, length, length-take-le}
use Rattle.keys.specs.{lt-ltb, nat_tests, ne_eqb, refl, scalar_cases, size_by, subst, suc, sym, take, true, zero, ℕ}
use Rattle.keys.specs.{◌∙◌}
use Rattle.keys.proofs.Sequences.{begun-one}

pub ascii : (a : ℕ) → a < 128 → (a ≡ 27 → ⊥) → AreKey (a ∷ []) (ascii_key a)
unfolding is_whole key_of character_key
ascii a few other = record {
  begun = begun-one false a;
  some = omega arith;
  whole = grind (arith, nat_tests, few, other);
  means = grind (arith, nat_tests, few, other);
}

-- ---- bytes from 128 on

no-escape : (a : ℕ) → 128 ≤ a → a ≡ 27 → ⊥
no-escape a high e = omega (arith, e, high)

at-most-four : (a : ℕ) → size_by a ≤ 4
at-most-four a = grind (arith, nat_tests)

module _ (a : ℕ) (l : List ℕ) (high : 128 ≤ a) where
  on-by : (byte : ℕ) → continues false (a ∷ l) byte ≡ is_in_character a (length (a ∷ l)) byte
  unfolding continues
  on-by byte = rw (ne_eqb (length (a ∷ l)) 0 (λ e. omega (arith, e)), ne_eqb a 27 (no-escape a high)) refl

  key-high : key_of false (a ∷ l) ≡ character_key (a ∷ l)
  unfolding key_of
  key-high = rw (ne_eqb a 27 (no-escape a high)) refl

  other-size : (length (a ∷ l) ≡ size_by a → ⊥) → character_key (a ∷ l) ≡ Unknown
  unfolding character_key
  other-size other = rw (ne_eqb (length (a ∷ l)) (size_by a) other) refl

  one-byte : length (a ∷ l) ≡ size_by a → length (a ∷ l) ≡ 1 → character_key (a ∷ l) ≡ Unknown
  unfolding character_key
  one-byte size one =
      rw (eq-eqb (length (a ∷ l)) (size_by a) size, le-ltb a 128 high) (rw (eq-eqb (length (a ∷ l)) 1 one) refl)

  several : length (a ∷ l) ≡ size_by a → (length (a ∷ l) ≡ 1 → ⊥)
      → character_key (a ∷ l) ≡ key_of_code (code_of (a ∷ l))
  unfolding character_key
  several size more =
      rw (eq-eqb (length (a ∷ l)) (size_by a) size, le-ltb a 128 high) (rw (ne_eqb (length (a ∷ l)) 1 more) refl)

  whole-by : length l < 4 → is_whole false (a ∷ l) ≡ (length (a ∷ l) == size_by a)
  unfolding is_whole
  whole-by few =
      rw (ne_eqb (length (a ∷ l)) LONGEST (λ e. omega (arith, e, few)), ne_eqb a 27 (no-escape a high)) refl

-- bytes that are formed as a character is are the key of its number
module _ (a : ℕ) (l : List ℕ) (high : 128 ≤ a) (size : length (a ∷ l) ≡ size_by a) (some : 1 ≤ length l)
    (each : (n : ℕ) → n < length l → is_in_character a (n + 1) (get_or l n 0) ≡ true) where
  few : length l < 4
  few = omega (arith, size, at-most-four a)

  formed-on : (n : ℕ) → n < length (a ∷ l) → continues false (take n (a ∷ l)) (get_or (a ∷ l) n 0) ≡ true
  unfolding continues
  formed-on zero h = refl
  formed-on (suc n) h =
      let within : n < length l = omega (arith, h) in
      let long : length (a ∷ take n l) ≡ n + 1 = omega (arith, length-take-le n l (omega (arith, within))) in
      on-by a (take n l) high (get_or l n 0)
      ∙ ap (λ k. is_in_character a k (get_or l n 0)) long ∙ each n within

  formed-more : (n : ℕ) → 0 < n → n < length (a ∷ l) → is_whole false (take n (a ∷ l)) ≡ false
  formed-more zero some h = absurd (omega (arith, some))
  formed-more (suc n) some h =
      let long : length (take n l) ≡ n = length-take-le n l (omega (arith, h)) in
      whole-by a (take n l) high (omega (arith, long, h, few))
      ∙ ne_eqb (length (a ∷ take n l)) (size_by a) (λ e. omega (arith, e, long, h, size))

  formed : AreKey (a ∷ l) (key_of_code (code_of (a ∷ l)))
  formed = record {
    begun = record { goes_on = formed-on; not_whole = formed-more };
    some = omega arith;
    whole = whole-by a l high few ∙ eq-eqb (length (a ∷ l)) (size_by a) size;
    means = key-high a l high ∙ several a l high size (λ e. omega (arith, e, some));
  }

-- what a scalar value is
abbrev IsCode : ℕ → Type 0
IsCode c = (c < 0x110000) × (0xd800 ≤ c → 0xe000 ≤ c)

key-code : (c : ℕ) → IsCode c → key_of_code c ≡ key_named (Character c)
key-code c is = grind (arith, nat_tests, is.0, is.1)

along : (bytes : List ℕ) (c d : ℕ) → d ≡ c → IsCode c → AreKey bytes (key_of_code d)
    → AreKey bytes (key_named (Character c))
along bytes c d same is are =
    let P : Key → Type 0 = λ k. AreKey bytes k in subst P (ap key_of_code same ∙ key-code c is) are

-- its bytes in UTF-8, by how many there are
encode-two : (c : ℕ) → 128 ≤ c → c < 2048 → encode c ≡ (192 + c / 64) ∷ (128 + c % 64) ∷ []
unfolding encode
encode-two c high short = rw (le-ltb c 128 high, lt-ltb c 2048 short) refl

encode-three : (c : ℕ) → 2048 ≤ c → c < 65536
    → encode c ≡ (224 + c / 4096) ∷ (128 + c / 64 % 64) ∷ (128 + c % 64) ∷ []
unfolding encode
encode-three c high short = rw (le-ltb c 128 (omega (arith, high)), le-ltb c 2048 high, lt-ltb c 65536 short) refl

encode-four : (c : ℕ) → 65536 ≤ c
    → encode c ≡ (240 + c / 262144) ∷ (128 + c / 4096 % 64) ∷ (128 + c / 64 % 64) ∷ (128 + c % 64) ∷ []
unfolding encode
encode-four c high =
    rw (le-ltb c 128 (omega (arith, high)), le-ltb c 2048 (omega (arith, high))) (rw (le-ltb c 65536 high) refl)

-- which bytes go on
later-on : (a n b : ℕ) → 128 ≤ b → b < 192 → is_in_character a (suc (suc n)) b ≡ true
later-on a n b low most = grind (arith, nat_tests, low, most)

second-on : (a b : ℕ) → 128 ≤ b → b < 192 → (a ≡ 0xe0 → 0xa0 ≤ b) → (a ≡ 0xf0 → 0x90 ≤ b) → (a ≡ 0xed → b ≤ 0x9f)
    → (a ≡ 0xf4 → b ≤ 0x8f) → is_in_character a 1 b ≡ true
second-on a b low most three four surrogate last =
    grind (
      arith,
      nat_tests,
      low,
      most,
      three,
      four,
      surrogate,
      last,
      cases_eq a 0xe0,
      cases_eq a 0xf0,
      cases_eq a 0xed,
      cases_eq a 0xf4,
    )

two-on : (c : ℕ) → 128 ≤ c → c < 2048 → (n : ℕ) → n < 1
    → is_in_character (192 + c / 64) (n + 1) (get_or ((128 + c % 64) ∷ []) n 0) ≡ true
two-on c high short zero h =
    second-on (192 + c / 64) (128 + c % 64) (omega arith) (omega arith) (λ e. omega (arith, e, short))
    (λ e. omega (arith, e, short)) (λ e. omega (arith, e, short)) (λ e. omega (arith, e, short))
two-on c high short (suc n) h = absurd (omega (arith, h))

no_surrogate : (c : ℕ) → IsCode c → 224 + c / 4096 ≡ 0xed → 128 + c / 64 % 64 ≤ 0x9f
no_surrogate c is e = elim (cases_lt c 0xd800) [
  | inl before ↦ omega (arith, e, before)
  | inr after ↦ absurd (omega (arith, e, is.1 after))
]

three-on : (c : ℕ) → 2048 ≤ c → c < 65536 → IsCode c → (n : ℕ) → n < 2
    → is_in_character (224 + c / 4096) (n + 1) (get_or ((128 + c / 64 % 64) ∷ (128 + c % 64) ∷ []) n 0) ≡ true
three-on c high short is zero h =
    second-on (224 + c / 4096) (128 + c / 64 % 64) (omega arith) (omega arith) (λ e. omega (arith, e, high))
    (λ e. omega (arith, e, short)) (no_surrogate c is) (λ e. omega (arith, e, short))
three-on c high short is (suc zero) h = later-on (224 + c / 4096) 0 (128 + c % 64) (omega arith) (omega arith)
three-on c high short is (suc (suc n)) h = absurd (omega (arith, h))

four-on : (c : ℕ) → 65536 ≤ c → IsCode c → (n : ℕ) → n < 3
    → is_in_character (240 + c / 262144) (n + 1)
    (get_or ((128 + c / 4096 % 64) ∷ (128 + c / 64 % 64) ∷ (128 + c % 64) ∷ []) n 0) ≡ true
four-on c high is zero h =
    second-on (240 + c / 262144) (128 + c / 4096 % 64) (omega arith) (omega arith) (λ e. omega (arith, e))
    (λ e. omega (arith, e, high)) (λ e. omega (arith, e)) (λ e. omega (arith, e, is.0))
four-on c high is (suc zero) h = later-on (240 + c / 262144) 0 (128 + c / 64 % 64) (omega arith) (omega arith)
four-on c high is (suc (suc zero)) h = later-on (240 + c / 262144) 1 (128 + c % 64) (omega arith) (omega arith)
four-on c high is (suc (suc (suc n))) h = absurd (omega (arith, h))

-- A character of two bytes or more: its bytes in UTF-8 are its key.
encoded : (c : ℕ) → 128 ≤ c → IsCode c → AreKey (encode c) (key_named (Character c))
encoded c high is =
    let P : List ℕ → Type 0 = λ l. AreKey l (key_named (Character c)) in
    elim (cases_lt c 2048) [
      | inl short ↦ subst P (sym (encode-two c high short)) (along _ c
          ((192 + c / 64) % 32 * 64 + (128 + c % 64) % 64) (omega (arith, high, short)) is
          (formed (192 + c / 64) ((128 + c % 64) ∷ []) (omega arith) (grind (arith, nat_tests, high, short))
          (omega arith)
          (two-on c high short)))
      | inr more ↦ elim (cases_lt c 65536) [
        | inl short ↦ subst P (sym (encode-three c more short)) (along _ c
            ((224 + c / 4096) % 16 * 4096 + (128 + c / 64 % 64) % 64 * 64 + (128 + c % 64) % 64)
            (omega (arith, more, short)) is
            (formed (224 + c / 4096) ((128 + c / 64 % 64) ∷ (128 + c % 64) ∷ []) (omega arith)
            (grind (arith, nat_tests, more, short)) (omega arith) (three-on c more short is)))
        | inr most ↦ subst P (sym (encode-four c most)) (along _ c
            ((240 + c / 262144) % 8 * 262144 + (128 + c / 4096 % 64) % 64 * 4096 + (128 + c / 64 % 64) % 64 * 64
            + (128 + c % 64) % 64) (omega (arith, most, is.0)) is
            (formed (240 + c / 262144) ((128 + c / 4096 % 64) ∷ (128 + c / 64 % 64) ∷ (128 + c % 64) ∷ []) (omega arith)
            (grind (arith, nat_tests, most, is.0)) (omega arith) (four-on c most is)))
      ]
    ]

pub encoded-scalar : (c : ℕ) → 128 ≤ c → IsScalar c → AreKey (encode c) (key_named (Character c))
encoded-scalar c high scalar = elim (scalar_cases c scalar) [
  | inl before ↦ encoded c high (omega (arith, before), λ h. absurd (omega (arith, before, h)))
  | inr after ↦ encoded c high (after.1, λ h. after.0)
]

-- ---- no other bytes

same-code : (k c : ℕ) → key_of_code k ≡ key_named (Character c) → k ≡ c
same-code k c is = grind (arith, nat_tests, is)

-- what a key says of the bytes of a character
record Says (a : ℕ) (l : List ℕ) (c : ℕ) : Type 0 where
  size : length (a ∷ l) ≡ size_by a
  long : length (a ∷ l) ≡ 1 → ⊥
  code : code_of (a ∷ l) ≡ c
  each : (n : ℕ) → n < length l → is_in_character a (n + 1) (get_or l n 0) ≡ true

says : (a : ℕ) (l : List ℕ) (c : ℕ) → 128 ≤ a → IsBegun false (a ∷ l)
    → key_of false (a ∷ l) ≡ key_named (Character c) → Says a l c
says a l c high begun means =
    let meant : character_key (a ∷ l) ≡ key_named (Character c) = sym (key-high a l high) ∙ means in
    elim (cases_eq (length (a ∷ l)) (size_by a)) [
      | inl same ↦ elim (cases_eq (length (a ∷ l)) 1) [
        | inl one ↦ absurd (let e = one-byte a l high same one in cc)
        | inr more ↦ record {
          size = same;
          long = more;
          code = same-code (code_of (a ∷ l)) c (sym (several a l high same more) ∙ meant);
          each = λ n h.
              let long : length (a ∷ take n l) ≡ n + 1 = omega (arith, length-take-le n l (omega (arith, h))) in
              sym (on-by a (take n l) high (get_or l n 0)
              ∙ ap (λ k. is_in_character a k (get_or l n 0)) long)
              ∙ begun.goes_on (suc n) (omega (arith, h));
        }
      ]
      | inr other ↦ absurd (let e = other-size a l high other in cc)
    ]

-- the bounds of a byte that goes on
record Goes (a b : ℕ) : Type 0 where
  low : 128 ≤ b
  most : b < 192
  three : a ≡ 0xe0 → 0xa0 ≤ b
  four : a ≡ 0xf0 → 0x90 ≤ b

second : (a b : ℕ) → is_in_character a 1 b ≡ true → Goes a b
second a b on = record {
  low = grind (arith, nat_tests, on);
  most = grind (arith, nat_tests, on);
  three = λ e. grind (arith, nat_tests, on, e);
  four = λ e. grind (arith, nat_tests, on, e);
}

later : (a n b : ℕ) → is_in_character a (suc (suc n)) b ≡ true → (128 ≤ b) × (b < 192)
later a n b on = (grind (arith, nat_tests, on), grind (arith, nat_tests, on))

first-two : (a : ℕ) → 2 ≡ size_by a → (0xc2 ≤ a) × (a < 0xe0)
first-two a size = (grind (arith, nat_tests, size), grind (arith, nat_tests, size))

first-three : (a : ℕ) → 3 ≡ size_by a → (0xe0 ≤ a) × (a < 0xf0)
first-three a size = (grind (arith, nat_tests, size), grind (arith, nat_tests, size))

first-four : (a : ℕ) → 4 ≡ size_by a → (0xf0 ≤ a) × (a < 0xf5)
first-four a size = (grind (arith, nat_tests, size), grind (arith, nat_tests, size))

decoded-two : (a b k : ℕ) → (0xc2 ≤ a) × (a < 0xe0) → Goes a b → a % 32 * 64 + b % 64 ≡ k → a ∷ b ∷ [] ≡ encode k
decoded-two a b k first goes is =
    let e : a ≡ 192 + k / 64 = omega (arith, first.0, first.1, goes.low, goes.most, is) in
    let f : b ≡ 128 + k % 64 = omega (arith, first.0, first.1, goes.low, goes.most, is) in
    ap₂ (λ x y. x ∷ y ∷ []) e f
    ∙ sym (encode-two k (omega (arith, first.0, first.1, is)) (omega (arith, first.0, first.1, is)))

decoded-three : (a b c k : ℕ) → (0xe0 ≤ a) × (a < 0xf0) → Goes a b → (128 ≤ c) × (c < 192)
    → a % 16 * 4096 + b % 64 * 64 + c % 64 ≡ k → a ∷ b ∷ c ∷ [] ≡ encode k
decoded-three a b c k first goes last is =
    let least : 2048 ≤ k = elim (cases_eq a 0xe0) [
      | inl e ↦ omega (arith, e, goes.three e, goes.most, is)
      | inr other ↦ omega (arith, other, first.0, first.1, is)
    ] in
    let e : a ≡ 224 + k / 4096 = omega (arith, first.0, first.1, goes.low, goes.most, last.0, last.1, is) in
    let f : b ≡ 128 + k / 64 % 64 = omega (arith, first.0, first.1, goes.low, goes.most, last.0, last.1, is) in
    let g : c ≡ 128 + k % 64 = omega (arith, first.0, first.1, goes.low, goes.most, last.0, last.1, is) in
    ap (λ x. x ∷ b ∷ c ∷ []) e ∙ ap₂ (λ y z. (224 + k / 4096) ∷ y ∷ z ∷ []) f g
    ∙ sym (encode-three k least (omega (arith, first.0, first.1, is)))

decoded-four : (a b c d k : ℕ) → (0xf0 ≤ a) × (a < 0xf5) → Goes a b → (128 ≤ c) × (c < 192) → (128 ≤ d) × (d < 192)
    → a % 8 * 262144 + b % 64 * 4096 + c % 64 * 64 + d % 64 ≡ k → a ∷ b ∷ c ∷ d ∷ [] ≡ encode k
decoded-four a b c d k first goes third last is =
    let least : 65536 ≤ k = elim (cases_eq a 0xf0) [
      | inl e ↦ omega (arith, e, goes.four e, goes.most, is)
      | inr other ↦ omega (arith, other, first.0, first.1, is)
    ] in
    let e : a ≡ 240 + k / 262144 =
    omega (arith, first.0, first.1, goes.low, goes.most, third.0, third.1, last.0, last.1, is) in
    let f : b ≡ 128 + k / 4096 % 64 =
    omega (arith, first.0, first.1, goes.low, goes.most, third.0, third.1, last.0, last.1, is) in
    let g : c ≡ 128 + k / 64 % 64 =
    omega (arith, first.0, first.1, goes.low, goes.most, third.0, third.1, last.0, last.1, is) in
    let h : d ≡ 128 + k % 64 =
    omega (arith, first.0, first.1, goes.low, goes.most, third.0, third.1, last.0, last.1, is) in
    ap₂ (λ x y. x ∷ y ∷ c ∷ d ∷ []) e f
    ∙ ap₂ (λ y z. (240 + k / 262144) ∷ (128 + k / 4096 % 64) ∷ y ∷ z ∷ []) g h ∙ sym (encode-four k least)

-- bytes from 128 on that are the key of a character are its UTF-8
decoded : (bytes : List ℕ) (k : ℕ) → 128 ≤ get_or bytes 0 0 → IsBegun false bytes
    → key_of false bytes ≡ key_named (Character k) → bytes ≡ encode k
decoded [] k high begun means = absurd (omega (arith, high))
decoded (a ∷ []) k high begun means = absurd ((says a [] k high begun means).long refl)
decoded (a ∷ b ∷ []) k high begun means =
    let said = says a (b ∷ []) k high begun means in
    decoded-two a b k (first-two a said.size) (second a b (said.each 0 (omega arith))) said.code
decoded (a ∷ b ∷ c ∷ []) k high begun means =
    let said = says a (b ∷ c ∷ []) k high begun means in
    decoded-three a b c k (first-three a said.size) (second a b (said.each 0 (omega arith)))
    (later a 0 c (said.each 1 (omega arith))) said.code
decoded (a ∷ b ∷ c ∷ d ∷ []) k high begun means =
    let said = says a (b ∷ c ∷ d ∷ []) k high begun means in
    decoded-four a b c d k (first-four a said.size) (second a b (said.each 0 (omega arith)))
    (later a 0 c (said.each 1 (omega arith))) (later a 1 d (said.each 2 (omega arith))) said.code
decoded (a ∷ b ∷ c ∷ d ∷ e ∷ more) k high begun means =
    let said = says a (b ∷ c ∷ d ∷ e ∷ more) k high begun means in
    absurd (omega (arith, said.size, at-most-four a))

-- below 128
same-ascii : (a c : ℕ) → a < 128 → ascii_key a ≡ key_named (Character c) → a ≡ c
same-ascii a c few is = grind (arith, nat_tests, few, is)

decoded-low : (a : ℕ) (l : List ℕ) (k : ℕ) → a < 128 → (a ≡ 27 → ⊥)
    → key_of false (a ∷ l) ≡ key_named (Character k) → a ∷ l ≡ encode k
unfolding key_of character_key encode
decoded-low a [] k few other means =
    let same = same-ascii a k few (sym (ascii a few other).means ∙ means) in
    rw (lt-ltb k 128 (omega (arith, few, same))) (ap (λ b. b ∷ []) same)
decoded-low a (b ∷ l) k few other means =
    let e = rw (ne_eqb a 27 other, lt-ltb a 194 (omega (arith, few))) at means in
    let f = rw (ne_eqb (length (a ∷ b ∷ l)) 1 (λ e. omega (arith, e))) at e in absurd (cc)

-- Bytes that are the key of a character, and no escape's, are its UTF-8.
pub decoded-all : (bytes : List ℕ) (k : ℕ) → IsBegun false bytes → (get_or bytes 0 0 ≡ 27 → ⊥)
    → key_of false bytes ≡ key_named (Character k) → bytes ≡ encode k
unfolding key_of character_key
decoded-all [] k begun other means = absurd (cc)
decoded-all (a ∷ l) k begun other means = elim (cases_lt a 128) [
  | inl few ↦ decoded-low a l k few other means
  | inr high ↦ decoded (a ∷ l) k high begun means
]
