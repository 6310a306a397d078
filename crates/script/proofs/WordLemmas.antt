-- A word is searched for among those of its first letter, one after another.
use Rattle.std.specs.Prelude.{◌≡◌, ◌+◌, ◌<◌, ◌∷◌, ◌%◌}
use Rattle.script.specs.{ℕ, Bool, true, false, Option, Some, List, [], length, drop, get_or, find, add-one, drop-cons, map, arith, slice_get, slice_index_or, words_like}
use Rattle.script.specs.declared.written_words.TheConstants.{WORDS}

pub find_next : {A : Type 0} (p : A → Bool) (xs : List A) (i : ℕ) (d : A) (found : Option A) → i < length xs → p (get_or xs i d) ≡ false
    → find p (drop i xs) ≡ found → find p (drop (i + 1) xs) ≡ found
find_next p xs i d found below other so_far = grind (arith, add-one, drop-cons)

pub find-passes : {A : Type 0} (p : A → Bool) (xs : List A) (x : A) → find p xs ≡ Some x → p x ≡ true
find-passes p [] x found = cc
find-passes p (y ∷ ys) x found = grind (arith, (find-passes p ys x))

-- the row of a letter
pub row_of_letter : (text : List ℕ) (letter n : ℕ) → slice_get text 0 ≡ Some letter → n ≡ letter % 32 → slice_index_or (map (λ row. row.now) WORDS) n [] ≡ words_like text
row_of_letter [] letter n first is = cc
row_of_letter (b ∷ text) letter n first is = grind (arith, slice_index_or)
