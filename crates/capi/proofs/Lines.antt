-- A buffer into which numbers are put one by one.
use Rattle.std.proofs.Common.{◌≡◌, ℕ, ◌+◌, ◌<◌, List, ◌++◌, drop, length, map, take, arith, sym, ◌∙◌}
use Rattle.std.proofs.lemmas.List.{get_or-map, length-map}
use Rattle.std.proofs.lemmas.List.Edits.{paste_more}
use lib.ListN.{get_or, set}
use Rattle.capi.specs.Lines.{with_first}

-- one more number is put
pub with_first_more : {X : Type 0} (f : X → ℕ) (buffer : List ℕ) (xs : List X) (k : ℕ) (d : X) → k < length buffer → k < length xs
    → set (with_first k buffer (map f xs)) k (f (get_or xs k d)) ≡ with_first (k + 1) buffer (map f xs)
with_first_more f buffer xs k d within there =
    let numbers = map f xs in
    let here : k ≡ 0 + k = omega arith in
    let next : 0 + (k + 1) ≡ k + 1 = omega arith in
    (λ i. set (take k numbers ++ drop (here i) buffer) (here i) (sym (get_or-map f xs k d 0 there) i))
    ∙ paste_more buffer 0 numbers k 0 (omega arith) (rw length-map there)
    ∙ (λ i. take (k + 1) numbers ++ drop (next i) buffer)
