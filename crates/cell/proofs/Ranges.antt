-- Two lines that are the same up to a column, or from one on, and in the range beside it.
use Rattle.std.specs.Prelude.{◌≡◌, ◌+◌, ◌-◌, ◌≤◌, ◌<◌, ◌∷◌}
use Rattle.cell.specs.{ℕ, zero, suc, List, [], take, drop, length, arith, ◌∙◌, refl, sym, ap, slice_index_or, slice_range, take-add, get_or-drop, get_or-take, DiffersAt, Shown, shown_blank}
use Rattle.cell.specs.{drop_split}

pub same_take : {A : Type 0} (xs ys : List A) (start end : ℕ) → start ≤ end → take start xs ≡ take start ys → slice_range xs start end ≡ slice_range ys start end → take end xs ≡ take end ys
same_take xs ys start end ordered before range = grind (arith, take-add start (end - start) xs, take-add start (end - start) ys)

pub same_drop : {A : Type 0} (xs ys : List A) (start end : ℕ) → start ≤ end → drop end xs ≡ drop end ys → slice_range xs start end ≡ slice_range ys start end → drop start xs ≡ drop start ys
same_drop xs ys start end ordered after range = grind (arith, drop_split xs start end, drop_split ys start end)

-- ---- a piece of two lines, from a column on

-- the first of a piece
first_of : {A : Type 0} (l : List A) (n k : ℕ) → k ≤ n → take k (take n l) ≡ take k l
first_of l n zero few = refl
first_of l zero (suc k) few = absurd (omega arith)
first_of [] (suc n) (suc k) few = refl
first_of (x ∷ l) (suc n) (suc k) few = ap (λ rest. x ∷ rest) (first_of l n k (omega arith))

pub same_further : {A : Type 0} (xs ys : List A) (start n k : ℕ) → k ≤ n → take start xs ≡ take start ys → take k (take n (drop start xs)) ≡ take k (take n (drop start ys))
    → take (start + k) xs ≡ take (start + k) ys
same_further xs ys start n k few before piece =
    let same = sym (first_of (drop start xs) n k few) ∙ piece ∙ first_of (drop start ys) n k few in
    grind (arith, take-add start k xs, take-add start k ys, same)

pub differs_further : (old new : List Shown) (start n k : ℕ) → length old ≡ length new → start + n ≤ length old → k < n
    → DiffersAt (take n (drop start old)) (take n (drop start new)) k → DiffersAt old new (start + k)
differs_further old new start n k long room few at = record {
  inside = omega arith;
  differs = λ same. at.differs (in_piece old start n k few ∙ same ∙ sym (in_piece new start n k few));
} where
  in_piece : (cells : List Shown) (start n k : ℕ) → k < n → slice_index_or (take n (drop start cells)) k shown_blank ≡ slice_index_or cells (start + k) shown_blank
  in_piece cells start n k few = grind (arith, get_or-take, get_or-drop)
