-- The characters of cells, gathered piece by piece.
use Rattle.std.specs.Prelude.{◌≡◌, ◌+◌, ◌-◌, ◌<◌, ◌≤◌, ◌++◌}
use Rattle.paint.specs.{ℕ, List, get_or, take, drop, subst, sym, ap, ◌∙◌, inl, inr, arith, append_assoc, take-add, cases_lt, get_or-drop, get_or-take, map-append, IsShown, Shown, shown_blank}
use Rattle.paint.specs.{characters}

-- the bytes of a piece after those before it
pub characters-further : (items now more : List ℕ) (cells : List Shown) (start end : ℕ) → start ≤ end → now ≡ items ++ characters (take start cells)
    → more ≡ now ++ characters (take (end - start) (drop start cells)) → more ≡ items ++ characters (take end cells)
characters-further items now more cells start end ordered before piece =
    let whole : start + (end - start) ≡ end = omega arith in
    piece ∙ ap (λ l. l ++ characters (take (end - start) (drop start cells))) before
    ∙ append_assoc items (characters (take start cells)) (characters (take (end - start) (drop start cells)))
    ∙ ap (λ l. items ++ l) (sym (map-append (λ (cell : Shown). cell.character) (take start cells) (take (end - start) (drop start cells)))
    ∙ ap characters (sym (take-add start (end - start) cells)) ∙ ap (λ n. characters (take n cells)) whole)

-- what is known of the cells of a piece, and of those before it
pub sound-further : (cells : List Shown) (start end : ℕ) → start ≤ end → ((k : ℕ) → k < start → IsShown (get_or cells k shown_blank))
    → ((k : ℕ) → k < end - start → IsShown (get_or (take (end - start) (drop start cells)) k shown_blank)) → (k : ℕ) → k < end → IsShown (get_or cells k shown_blank)
sound-further cells start end ordered before piece k below = elim (cases_lt k start) [
  | inl early ↦ before k early
  | inr late ↦
      let here : start + (k - start) ≡ k = omega arith in
      let is : get_or (take (end - start) (drop start cells)) (k - start) shown_blank ≡ get_or cells k shown_blank =
      get_or-take (end - start) (drop start cells) (k - start) shown_blank (omega arith) ∙ get_or-drop start cells (k - start) shown_blank ∙ ap (λ n. get_or cells n shown_blank) here in
      subst IsShown is (piece (k - start) (omega arith))
]
