-- Cells that are shown many together.
use Rattle.std.specs.Prelude.{◌≡◌, ◌+◌, ◌-◌, ◌≤◌, ◌==◌, ◌∷◌, ◌++◌}
use Rattle.cell.specs.{ℕ, true, subst, List, [], length, map, take, drop, take-take, refl, sym, ap, arith, ◌∙◌, AllByRecursion, list_all, take-add, take-length, cases_eq, nat_tests, length-drop}
use Rattle.cell.specs.{length-take-le, map-append, take-map, All-take, All-from_recursion, recursion_from_All, All-append, take-put_mid, Glyph, Pairs, pair_at, shown, shown_in}
use borrow.Rule.Slice.PartMut.{put_mid, same_len_mid}
use Rattle.cell.specs.declared.colour.ColourPair.{ColourPair}

-- cells of one pair, in its colours
pub shown_alike : (pairs : Pairs) (pair : ℕ) (colours : ColourPair) (cells : List Glyph) → colours ≡ pair_at pairs pair
    → list_all (λ cell. cell.pair == pair) cells ≡ true → map (shown_in colours) cells ≡ map (shown pairs) cells
shown_alike pairs pair colours [] are all = refl
shown_alike pairs pair colours (c ∷ cells) are all = grind (arith, nat_tests, cases_eq, (shown_alike pairs pair colours cells are))

-- a piece more after those that are shown
pub shown_more : {A B : Type 0} (f : A → B) (cells : List A) (places new : List B) (start n : ℕ) → start ≤ length places → length new ≡ n
    → new ≡ map f (take n (drop start cells)) → take start places ≡ map f (take start cells)
    → take (start + n) (put_mid start n places new) ≡ map f (take (start + n) cells)
shown_more f cells places new start n inside long is before =
    take-put_mid start n places new (start + n) (omega (arith, long)) inside
    ∙ grind (arith, take-add, map-append, is, before)

-- fewer of those that are shown
pub shown_fewer : {A B : Type 0} (f : A → B) (cells : List A) (places : List B) (n start : ℕ) → n ≤ start → take start places ≡ map f (take start cells)
    → take n places ≡ map f (take n cells)
shown_fewer f cells places n start fewer before =
    sym (take-take n start places fewer) ∙ ap (take n) before ∙ take-map f n (take start cells) ∙ ap (map f) (take-take n start cells fewer)

-- the last piece
pub shown_rest : {A B : Type 0} (f : A → B) (cells : List A) (places new : List B) (start : ℕ) → start ≤ length places → length places ≡ length cells
    → length new ≡ length places - start → new ≡ map f (take (length cells - start) (drop start cells)) → take start places ≡ map f (take start cells)
    → put_mid start (length places - start) places new ≡ map f cells
shown_rest f cells places new start inside long whole is before =
    sym (take-length (put_mid start (length places - start) places new))
    ∙ ap (λ n. take n (put_mid start (length places - start) places new)) (sum ∙ sym end)
    ∙ shown_more f cells places new start (length places - start) inside whole (rw (long) is) before
    ∙ ap (λ n. map f (take n cells)) (end ∙ long)
    ∙ ap (map f) (take-length cells) where
      end : start + (length places - start) ≡ length places
      end = omega (arith, inside)

      sum : length (put_mid start (length places - start) places new) ≡ length places
      sum = same_len_mid start (length places - start) places new (grind (arith, whole, length-drop, length-take-le))

pub sound_more : {B : Type 0} (Is : B → Type 0) (places new : List B) (start n : ℕ) → start ≤ length places → length new ≡ n → AllByRecursion Is (take start places)
    → AllByRecursion Is new → AllByRecursion Is (take (start + n) (put_mid start n places new))
sound_more Is places new start n inside long before sound =
    rw (take-put_mid start n places new (start + n) (omega (arith, long)) inside)
    (recursion_from_All Is (take start places ++ new) (All-append Is (take start places) new (All-from_recursion Is (take start places) before) (All-from_recursion Is new sound)))

sound_fewer : {B : Type 0} (Is : B → Type 0) (places : List B) (n start : ℕ) → n ≤ start → AllByRecursion Is (take start places) → AllByRecursion Is (take n places)
sound_fewer Is places n start fewer before =
    subst (AllByRecursion Is) (take-take n start places fewer) (recursion_from_All Is (take n (take start places)) (All-take Is n (take start places) (All-from_recursion Is (take start places) before)))

-- the last of them, from a piece on that is known to be sound already
pub sound_rest : {B : Type 0} (Is : B → Type 0) (places new : List B) (n start : ℕ) → n ≤ start → start ≤ length places → length new ≡ length places - n
    → AllByRecursion Is (take start places) → AllByRecursion Is new → AllByRecursion Is (put_mid n (length places - n) places new)
sound_rest {B = B} Is places new n start fewer inside long before sound =
    subst (AllByRecursion Is) (ap (λ m. take m whole) (omega (arith, fewer, inside, same)) ∙ take-length whole)
    (sound_more Is places new n (length places - n) (omega (arith, fewer, inside)) long (sound_fewer Is places n start fewer before) sound) where
      whole : List B
      whole = put_mid n (length places - n) places new

      same : length whole ≡ length places
      same = same_len_mid n (length places - n) places new (grind (arith, long, length-drop, length-take-le))
