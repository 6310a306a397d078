-- Cells as numbers, one in each lane, and a mask of the lanes in which two differ.
use Rattle.std.specs.Prelude.{◌≡◌, ◌+◌, ◌-◌, ◌*◌, ◌^◌, ◌/◌, ◌%◌, ◌<◌, ◌∷◌, ◌==◌, ◌&&◌, ◌≤◌}
use Rattle.cell.specs.{ℕ, suc, true, List, [], length, get_or, set, take, map, refl, sym, ap, subst, ◌∙◌, arith, eq-eqb, ne_eqb, eqb, cond, inl, inr, w32, not, replicate, Bool, slice_index_or}
use Rattle.cell.specs.{nat_lt, common_prefix_len, list_all, prefix_len, fold_l, mask_l, top, zip2, and_parts, and_from, cases_Bool, cases_eq, cases_lt, eqb-true, lt-ltb, ltb-true, ltb_from_iff}
use Rattle.cell.specs.{bit_at, bit_or, bit_xor, le_or_l, le_or_r, or_lt, xor_shr, bit_at-lt, bit_at-zero, bit_at_xor, same_from_bits, get_or-map, get_or_default, length-map, take-map, take_more}
use Rattle.cell.specs.{take_more_set, map-append, list_all-append, common_prefix_len-le, length-zip2, mask_l-mod, tops_compared, trailing_mask_l, DiffersAt, same_rendition, same_rendition-equal}
use Rattle.cell.specs.{same_rendition-equivalence, Glyph, IsCell, blank, colour_of, glyph_bits, rendition_bits, rendition_of, shown_bits, shown_of, same_bits, IsShown, Rendition, Shown}
use Rattle.cell.specs.{rendition_with, shown_blank}
use lib.Count.{count_trailing_zeros}

-- ---- one more cell

pub more_held : (cells : List Shown) (numbers : List ℕ) (x : ℕ) (cell : Shown) (number : ℕ) → x < length cells → x < length numbers → cell ≡ get_or cells x cell
    → cell ≡ shown_of number → take x cells ≡ map shown_of (take x numbers) → take (x + 1) cells ≡ map shown_of (take (x + 1) (set numbers x number))
more_held cells numbers x cell number inside long is value before = grind (arith, take_more cells x cell, take_more_set numbers x number, map-append)

pub more_numbers : {A : Type 0} (f : A → ℕ) (cells : List A) (numbers : List ℕ) (x : ℕ) (cell : A) (number : ℕ) → x < length cells → x < length numbers
    → cell ≡ get_or cells x cell → number ≡ f cell → take x numbers ≡ map f (take x cells) → take (x + 1) (set numbers x number) ≡ map f (take (x + 1) cells)
more_numbers f cells numbers x cell number inside long is value before = grind (arith, take_more cells x cell, take_more_set numbers x number, map-append)

-- ---- where no lane differs

unmarked : (x y : ℕ) (xs ys : List ℕ) → (mask_l (zip2 (λ a b. not (eqb a b)) xs ys) ≡ 0 → xs ≡ ys) → cond (not (eqb x y)) 1 0 + 2 * mask_l (zip2 (λ a b. not (eqb a b)) xs ys) ≡ 0
    → x ∷ xs ≡ y ∷ ys
unmarked x y xs ys rest none = grind (arith, cases_eq)

pub same_unmarked : (xs ys : List ℕ) → length xs ≡ length ys → mask_l (zip2 (λ a b. not (eqb a b)) xs ys) ≡ 0 → xs ≡ ys
same_unmarked [] [] long none = refl
same_unmarked [] (y ∷ ys) long none = absurd (omega arith)
same_unmarked (x ∷ xs) [] long none = absurd (omega arith)
same_unmarked (x ∷ xs) (y ∷ ys) long none = unmarked x y xs ys (same_unmarked xs ys (omega arith)) none

pub unmarked_same : (xs : List ℕ) → mask_l (zip2 (λ a b. not (eqb a b)) xs xs) ≡ 0
unmarked_same [] = refl
unmarked_same (x ∷ xs) = grind (arith, unmarked_same xs)

-- ---- two cells and more

pub mask-of_different : (xs ys : List ℕ) → length xs ≡ 16 → length ys ≡ 16
    → mask_l (map (top 31) (zip2 (λ a b. cond (not (eqb a b)) (2 ^ 32 - 1) 0) xs ys)) % 2 ^ 64 ≡ mask_l (zip2 (λ a b. not (eqb a b)) xs ys)
mask-of_different xs ys one other =
    ap (λ marks. mask_l marks % 2 ^ 64) (tops_compared w32 (λ a b. not (eqb a b)) xs ys)
    ∙ mask_l-mod (zip2 (λ a b. not (eqb a b)) xs ys) 64 (omega (arith, length-zip2 (λ a b. not (eqb a b)) xs ys (one ∙ sym other)))

module _ (old new : List Shown) (xs ys : List ℕ) (one : xs ≡ map shown_bits old) (other : ys ≡ map shown_bits new) (first : old ≡ map shown_of xs) (second : new ≡ map shown_of ys)
    (long : length old ≡ 16) (wide : length new ≡ 16) where
  abbrev mask : ℕ
  mask = mask_l (map (top 31) (zip2 (λ a b. cond (not (eqb a b)) (2 ^ 32 - 1) 0) xs ys)) % 2 ^ 64

  numbers : length xs ≡ 16
  numbers = ap length one ∙ length-map old shown_bits ∙ long

  others : length ys ≡ 16
  others = ap length other ∙ length-map new shown_bits ∙ wide

  pub same-from_mask : eqb mask 0 ≡ true → old ≡ new
  same-from_mask none = first ∙ ap (map shown_of) (same_unmarked xs ys (numbers ∙ sym others) (sym (mask-of_different xs ys numbers others) ∙ eqb-true mask 0 none)) ∙ sym second

  pub mask-from_same : old ≡ new → eqb mask 0 ≡ true
  mask-from_same same =
      let equal : xs ≡ ys = one ∙ ap (map shown_bits) same ∙ sym other in
      eq-eqb mask 0 (mask-of_different xs ys numbers others ∙ subst (λ zs. mask_l (zip2 (λ a b. not (eqb a b)) xs zs) ≡ 0) equal (unmarked_same xs))

-- ---- the first lane in which two differ

abbrev unlike : List ℕ → List ℕ → List Bool
unlike xs ys = zip2 (λ a b. not (eqb a b)) xs ys

map_same : (marks : List Bool) → map (λ b. b) marks ≡ marks
map_same [] = refl
map_same (b ∷ marks) = ap (λ more. b ∷ more) (map_same marks)

before_unlike : (xs ys : List ℕ) → length xs ≡ length ys → prefix_len not (unlike xs ys) ≡ common_prefix_len eqb xs ys
before_unlike [] ys long = refl
before_unlike (x ∷ xs) [] long = absurd (omega arith)
before_unlike (x ∷ xs) (y ∷ ys) long = grind (arith, cases_eq, (before_unlike xs ys))

take-cons : (n x : ℕ) (xs : List ℕ) → take (1 + n) (x ∷ xs) ≡ x ∷ take n xs
take-cons n x xs = grind (arith)

alike_more : (x y n : ℕ) (xs ys : List ℕ) → take n xs ≡ take n ys → take (cond (eqb x y) (1 + n) 0) (x ∷ xs) ≡ take (cond (eqb x y) (1 + n) 0) (y ∷ ys)
alike_more x y n xs ys same = elim (cases_eq x y) [
  | inl e ↦ subst (λ b. take (cond b (1 + n) 0) (x ∷ xs) ≡ take (cond b (1 + n) 0) (y ∷ ys)) (sym (eq-eqb x y e)) (take-cons n x xs ∙ (λ i. e i ∷ same i) ∙ sym (take-cons n y ys))
  | inr apart ↦ subst (λ b. take (cond b (1 + n) 0) (x ∷ xs) ≡ take (cond b (1 + n) 0) (y ∷ ys)) (sym (ne_eqb x y apart)) refl
]

pub alike_before : (xs ys : List ℕ) → take (common_prefix_len eqb xs ys) xs ≡ take (common_prefix_len eqb xs ys) ys
alike_before [] ys = refl
alike_before (x ∷ xs) [] = refl
alike_before (x ∷ xs) (y ∷ ys) = alike_more x y (common_prefix_len eqb xs ys) xs ys (alike_before xs ys)

pub unlike_after : (xs ys : List ℕ) → length xs ≡ length ys → common_prefix_len eqb xs ys < length xs
    → get_or xs (common_prefix_len eqb xs ys) 0 ≡ get_or ys (common_prefix_len eqb xs ys) 0 → ⊥
unlike_after [] ys long within = absurd (omega arith)
unlike_after (x ∷ xs) [] long within = absurd (omega arith)
unlike_after (x ∷ xs) (y ∷ ys) long within = grind (arith, cases_eq, eq-eqb, (unlike_after xs ys))

module _ (old new : List Shown) (xs ys : List ℕ) (one : xs ≡ map shown_bits old) (other : ys ≡ map shown_bits new) (first : old ≡ map shown_of xs) (second : new ≡ map shown_of ys)
    (long : length old ≡ 16) (wide : length new ≡ 16) where
  abbrev marks : ℕ
  marks = mask_l (map (top 31) (zip2 (λ a b. cond (not (eqb a b)) (2 ^ 32 - 1) 0) xs ys)) % 2 ^ 64

  numbers-16 : length xs ≡ 16
  numbers-16 = ap length one ∙ length-map old shown_bits ∙ long

  others-16 : length ys ≡ 16
  others-16 = ap length other ∙ length-map new shown_bits ∙ wide

  pub first_marked : (marks ≡ 0 → ⊥) → count_trailing_zeros 64 marks ≡ common_prefix_len eqb xs ys
  first_marked some =
      let is = mask-of_different xs ys numbers-16 others-16 in
      ap (count_trailing_zeros 64) (is ∙ sym (ap mask_l (map_same (unlike xs ys))))
      ∙ trailing_mask_l (λ b. b) 64 (unlike xs ys) (omega (arith, length-zip2 (λ a b. not (eqb a b)) xs ys (numbers-16 ∙ sym others-16), numbers-16))
      (grind (arith, cases_eq, map_same (unlike xs ys), is, some))
      ∙ before_unlike xs ys (numbers-16 ∙ sym others-16)

  pub same_before_mark : (marks ≡ 0 → ⊥) → take (count_trailing_zeros 64 marks) old ≡ take (count_trailing_zeros 64 marks) new
  same_before_mark some =
      let n = common_prefix_len eqb xs ys in
      ap (λ k. take k old) (first_marked some) ∙ ap (take n) first ∙ take-map shown_of n xs ∙ ap (map shown_of) (alike_before xs ys) ∙ sym (take-map shown_of n ys)
      ∙ sym (ap (take n) second) ∙ sym (ap (λ k. take k new) (first_marked some))

  pub mark_within : (marks ≡ 0 → ⊥) → count_trailing_zeros 64 marks ≤ 16
  mark_within some = omega (arith, first_marked some, (common_prefix_len-le eqb xs ys).0, numbers-16)

  bits_at : (k : ℕ) → k < 16 → slice_index_or old k shown_blank ≡ slice_index_or new k shown_blank → get_or xs k 0 ≡ get_or ys k 0
  bits_at k within same =
      ap (λ l. get_or l k 0) one ∙ get_or-map shown_bits old k shown_blank 0 (omega (arith, long)) ∙ ap shown_bits same
      ∙ sym (get_or-map shown_bits new k shown_blank 0 (omega (arith, wide))) ∙ sym (ap (λ l. get_or l k 0) other)

  pub differs_at_mark : (marks ≡ 0 → ⊥) → count_trailing_zeros 64 marks < 16 → DiffersAt old new (count_trailing_zeros 64 marks)
  differs_at_mark some within = record {
    inside = omega (arith, long);
    differs = λ same. unlike_after xs ys (numbers-16 ∙ sym others-16) (omega (arith, first_marked some, numbers-16))
        (subst (λ k. get_or xs k 0 ≡ get_or ys k 0) (first_marked some) (bits_at (count_trailing_zeros 64 marks) within same));
  }

-- ---- the bits that two have not in common

xor_none : (a b : ℕ) → bit_xor a b ≡ 0 → a ≡ b
xor_none a b none = same_from_bits a b (λ i.
    omega (arith, bit_at_xor a b i, ap (λ n. bit_at n i) none ∙ bit_at-zero i, bit_at-lt a i, bit_at-lt b i))

-- one more cell that is shown in its place, where none of the bits of those before differs
pub one_more_shown : {A B : Type 0} (f : A → B) (held : ℕ → B) (cells : List A) (places : List B) (x : ℕ) (cell : A) (place : B) (found a b : ℕ) → x < length cells → x < length places
    → cell ≡ get_or cells x cell → place ≡ get_or places x place → f cell ≡ held a → place ≡ held b → (found ≡ 0 → take x places ≡ map f (take x cells))
    → bit_or found (bit_xor a b) ≡ 0 → take (x + 1) places ≡ map f (take (x + 1) cells)
one_more_shown f held cells places x cell place found a b inside long is at one other before none =
    let same : a ≡ b = xor_none a b (omega (arith, le_or_r found (bit_xor a b), none)) in
    let shown : place ≡ f cell = other ∙ ap held (sym same) ∙ sym one in
    let rest = before (omega (arith, le_or_l found (bit_xor a b), none)) in
    grind (arith, take_more cells x cell, take_more places x place, map-append)

xor_same : (a : ℕ) → bit_xor a a ≡ 0
xor_same a = same_from_bits (bit_xor a a) 0 (λ i. omega (arith, bit_at_xor a a i, bit_at-zero i))

-- two numbers from bit k on
module _ (k : ℕ) (within : (x : ℕ) → x / 2 ^ k ≡ 0 → x < 2 ^ k) (none : (x : ℕ) → x < 2 ^ k → x / 2 ^ k ≡ 0) where
  to : (a b : ℕ) → (a / 2 ^ k == b / 2 ^ k) ≡ true → bit_xor a b < 2 ^ k
  to a b same = within (bit_xor a b)
      (xor_shr a b k ∙ ap (λ n. bit_xor (a / 2 ^ k) n) (sym (eqb-true (a / 2 ^ k) (b / 2 ^ k) same)) ∙ xor_same (a / 2 ^ k))

  from : (a b : ℕ) → bit_xor a b < 2 ^ k → (a / 2 ^ k == b / 2 ^ k) ≡ true
  from a b low = eq-eqb (a / 2 ^ k) (b / 2 ^ k) (xor_none (a / 2 ^ k) (b / 2 ^ k) (sym (xor_shr a b k) ∙ none (bit_xor a b) low))

  -- one more number, where `found` has what others differ in
  pub one_more_alike : (found a b : ℕ) → nat_lt (bit_or found (bit_xor a b)) (2 ^ k) ≡ (nat_lt found (2 ^ k) && (a / 2 ^ k == b / 2 ^ k))
  one_more_alike found a b = sym (ltb_from_iff (
    (λ both. let parts = and_parts (nat_lt found (2 ^ k)) (a / 2 ^ k == b / 2 ^ k) both in
        or_lt k found (bit_xor a b) (ltb-true found (2 ^ k) parts.0) (to a b parts.1)),
    (λ low. and_from _ _
        (lt-ltb found (2 ^ k) (omega (arith, le_or_l found (bit_xor a b), low)))
        (from a b (omega (arith, le_or_r found (bit_xor a b), low)))),
  ))

  -- and one more of a list, which is alike where a test says so
  pub one_more_of : {A : Type 0} (f : A → Bool) (cells : List A) (i : ℕ) (cell : A) (found a b : ℕ) → i < length cells → cell ≡ get_or cells i cell
      → (a / 2 ^ k == b / 2 ^ k) ≡ f cell → nat_lt found (2 ^ k) ≡ list_all f (take i cells)
      → nat_lt (bit_or found (bit_xor a b)) (2 ^ k) ≡ list_all f (take (i + 1) cells)
  one_more_of f cells i cell found a b inside is same before =
      one_more_alike found a b ∙ (λ j. before j && same j) ∙ sym (grind (arith, take_more cells i cell, list_all-append))

-- ---- a cell of a rendition, and one of a pair

-- the rendition is in the bits from 8 on
high_bits : (bits x ch n : ℕ) → bits ≡ x + ch → ch < 256 → x % 256 ≡ 0 → n % 256 ≡ 0 → (bits / 256 == n / 256) ≡ (x == n)
high_bits bits x ch n is low one other = elim (cases_eq x n) [
  | inl e ↦ eq-eqb (bits / 256) (n / 256) (omega (arith, is, low, e)) ∙ sym (eq-eqb x n e)
  | inr apart ↦ ne_eqb (bits / 256) (n / 256) (λ h. apart (omega (arith, is, low, one, other, h))) ∙ sym (ne_eqb x n apart)
]

rendition-high : (bits x ch : ℕ) → bits ≡ x + ch → ch < 256 → x % 256 ≡ 0 → rendition_of bits ≡ rendition_of x
rendition-high bits x ch is low one =
    let shifted : bits / 256 ≡ x / 256 = omega (arith, is, low, one) in
    let colours : bits / 65536 ≡ x / 65536 = omega (arith, is, low, one) in
    let background : bits / 1048576 ≡ x / 1048576 = omega (arith, is, low, one) in
    λ i. rendition_with (record { foreground = colour_of (colours i % 16); background = colour_of (background i) }) (shifted i % 256)

pub same_above : (cell : Shown) (bits n : ℕ) (rendition : Rendition) → bits ≡ shown_bits cell → cell ≡ shown_of bits → IsShown cell → n ≡ rendition_bits rendition
    → rendition ≡ rendition_of n → (bits / 256 == n / 256) ≡ same_rendition cell.rendition rendition
same_above cell bits n rendition is held sound also kept =
    let x = rendition_bits cell.rendition in
    let low : cell.character < 256 = omega (arith, sound.to_tilde) in
    high_bits bits x cell.character n is low (omega arith) (omega (arith, also))
    ∙ same_bits same_rendition-equivalence same_rendition-equal rendition_of rendition_bits x n (ap rendition_bits (sym one)) (ap rendition_bits (sym kept) ∙ sym also)
    ∙ (λ i. same_rendition (sym one i) (sym kept i)) where
      one : cell.rendition ≡ rendition_of (rendition_bits cell.rendition)
      one = ap (λ (c : Shown). c.rendition) held ∙ rendition-high bits (rendition_bits cell.rendition) cell.character is (omega (arith, sound.to_tilde)) (omega arith)

pub same_pair : (glyph : Glyph) (bits pair : ℕ) → bits ≡ glyph_bits glyph → IsCell glyph → (bits / 65536 == pair * 65536 / 65536) ≡ (glyph.pair == pair)
same_pair glyph bits pair is sound =
    let one : bits / 65536 ≡ glyph.pair = omega (arith, is, sound.to_tilde, sound.of_the_six) in
    let other : pair * 65536 / 65536 ≡ pair = omega arith in
    λ i. one i == other i

-- what is known of each cell before one, and of that one
pub more_sound : (P : Glyph → Type 0) (cells : List Glyph) (x : ℕ) (cell : Glyph) → x < length cells → cell ≡ get_or cells x cell → P cell
    → ((k : ℕ) → k < x → P (get_or cells k blank)) → (k : ℕ) → k < x + 1 → P (get_or cells k blank)
more_sound P cells x cell inside is one before k below = elim (cases_lt k x) [
  | inl early ↦ before k early
  | inr late ↦
      let here : x ≡ k = omega arith in
      subst P (is ∙ get_or_default cells x cell blank inside ∙ ap (λ n. get_or cells n blank) here) one
]

-- ---- cells of windows in lanes

-- what some numbers have not in common with one, below 2 to a power where all are alike from there on
pub or_alike : (k w found : ℕ) (within : (x : ℕ) → x / 2 ^ k ≡ 0 → x < 2 ^ k) (none : (x : ℕ) → x < 2 ^ k → x / 2 ^ k ≡ 0) (xs : List ℕ)
    → nat_lt (fold_l (λ a b. bit_or a b) found (zip2 (λ a b. bit_xor a b) xs (replicate (length xs) w))) (2 ^ k) ≡ (nat_lt found (2 ^ k) && list_all (λ x. x / 2 ^ k == w / 2 ^ k) xs)
or_alike k w found within none [] = grind (arith, cases_Bool)
or_alike k w found within none (x ∷ xs) =
    or_alike k w (bit_or found (bit_xor x w)) within none xs ∙ ap (λ b. b && list_all (λ x. x / 2 ^ k == w / 2 ^ k) xs) (one_more_alike k within none found x w)
    ∙ both (nat_lt found (2 ^ k)) (x / 2 ^ k == w / 2 ^ k) (list_all (λ x. x / 2 ^ k == w / 2 ^ k) xs) where
      both : (a b c : Bool) → ((a && b) && c) ≡ (a && (b && c))
      both a b c = grind (arith, cases_Bool)

pub pairs_of : (cells : List Glyph) (pair : ℕ) → ((k : ℕ) → k < length cells → IsCell (get_or cells k blank))
    → list_all (λ x. x / 65536 == pair * 65536 / 65536) (map glyph_bits cells) ≡ list_all (λ (cell : Glyph). cell.pair == pair) cells
pairs_of [] pair sound = refl
pairs_of (cell ∷ cells) pair sound =
    λ i. same_pair cell (glyph_bits cell) pair refl (sound 0 (omega arith)) i && pairs_of cells pair (λ k few. sound (suc k) (omega (arith, few))) i

pub lanes_alike : (w : ℕ) (xs : List ℕ) → length xs ≡ 16
    → nat_lt (fold_l (λ a b. bit_or a b) 0 (zip2 (λ a b. bit_xor a b) xs (replicate 16 w))) 65536 ≡ list_all (λ x. x / 65536 == w / 65536) xs
lanes_alike w xs long =
    ap (λ n. nat_lt (fold_l (λ a b. bit_or a b) 0 (zip2 (λ a b. bit_xor a b) xs (replicate n w))) 65536) (sym long)
    ∙ or_alike 16 w 0 (λ x h. omega (arith, h)) (λ x h. omega (arith, h)) xs
