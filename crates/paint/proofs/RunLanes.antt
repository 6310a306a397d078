-- The first of some cells that isn't of a run, by a mask with a bit for each.
use Rattle.std.specs.Prelude.{◌≡◌, ◌-◌, ◌^◌, ◌%◌, ◌<◌, ◌≤◌, ◌∷◌, if◌then◌else◌}
use Rattle.paint.specs.{ℕ, zero, suc, Bool, true, false, List, [], length, get_or, map, sym, ap, ◌∙◌, subst, arith, eq-eqb, ne_eqb, eqb, cond, w32, not, replicate, prefix_len, mask_l, top, zip2}
use Rattle.paint.specs.{cases_Bool, bitmask_splat, first_set_mask_l, same_rendition, same_shown, same_rendition-equal, Rendition, Shown, shown_blank, AreEnds, AreOfRun, is_over}
use lib.Count.{count_trailing_zeros}

-- ---- the first items, as far as they pass a test

prefix-within : {X : Type 0} (p : X → Bool) (xs : List X) → prefix_len p xs ≤ length xs
prefix-within p [] = omega arith
prefix-within p (x ∷ xs) = grind (arith, cases_Bool, prefix-within p xs)

prefix-passes : {X : Type 0} (p : X → Bool) (other : X) (xs : List X) (k : ℕ) → k < prefix_len p xs → p (get_or xs k other) ≡ true
prefix-passes p other [] k few = absurd (omega arith)
prefix-passes p other (x ∷ xs) zero few = grind (arith, cases_Bool)
prefix-passes p other (x ∷ xs) (suc k) few = grind (arith, cases_Bool, prefix-passes p other xs k)

-- ---- a number for each cell

abbrev is_none : ℕ → Bool
is_none x = not (not (eqb x 0))

not-over : (b : Bool) → is_none (if b then 1 else 0) ≡ true → b ≡ false
not-over b h = grind (arith, cases_Bool)

changed-there : (a b : Shown) (rendition : Rendition) → is_over a b rendition ≡ false → same_shown a b ≡ false
changed-there a b rendition h = grind (arith, cases_Bool)

alike-there : (a b : Shown) (rendition : Rendition) → is_over a b rendition ≡ false → same_rendition b.rendition rendition ≡ true
alike-there a b rendition h = grind (arith, cases_Bool)

module _ (shown wanted : List Shown) (rendition : Rendition) (ends : List ℕ) (long : length ends ≡ 16) (are : AreEnds shown wanted rendition ends 16) where
  abbrev marks : ℕ
  marks = mask_l (map (top 31) (zip2 (λ a b. cond (not (eqb a b)) (2 ^ 32 - 1) 0) ends (replicate 16 0))) % 2 ^ 64

  abbrev count : ℕ
  count = prefix_len is_none ends

  first : cond (eqb marks 0) 16 (count_trailing_zeros 64 marks) ≡ count
  first =
      ap (λ m. cond (eqb m 0) 16 (count_trailing_zeros 64 m)) (bitmask_splat w32 (λ a b. not (eqb a b)) ends 16 0 long (omega arith))
      ∙ first_set_mask_l (λ x. not (eqb x 0)) ends 16 long (omega arith)

  where-none : marks ≡ 0 → 16 ≡ count
  where-none none = sym (ap (λ b. cond b 16 (count_trailing_zeros 64 marks)) (eq-eqb marks 0 none)) ∙ first

  where-some : (marks ≡ 0 → ⊥) → count_trailing_zeros 64 marks ≡ count
  where-some some = sym (ap (λ b. cond b 16 (count_trailing_zeros 64 marks)) (ne_eqb marks 0 some)) ∙ first

  of-run : AreOfRun shown wanted rendition count
  of-run = record {
    changed = λ k few. changed-there (get_or shown k shown_blank) (get_or wanted k shown_blank) rendition (at k few);
    rendition_of = λ k few. same_rendition-equal (get_or wanted k shown_blank).rendition rendition (alike-there (get_or shown k shown_blank) (get_or wanted k shown_blank) rendition (at k few));
  } where
    at : (k : ℕ) → k < count → is_over (get_or shown k shown_blank) (get_or wanted k shown_blank) rendition ≡ false
    at k few =
        not-over (is_over (get_or shown k shown_blank) (get_or wanted k shown_blank) rendition)
        (ap is_none (sym (are k (omega (arith, few, long, prefix-within is_none ends)))) ∙ prefix-passes is_none 0 ends k few)

  pub all-of_run : marks ≡ 0 → AreOfRun shown wanted rendition 16
  all-of_run none = subst (AreOfRun shown wanted rendition) (sym (where-none none)) of-run

  pub some-of_run : (marks ≡ 0 → ⊥) → AreOfRun shown wanted rendition (count_trailing_zeros 64 marks)
  some-of_run some = subst (AreOfRun shown wanted rendition) (sym (where-some some)) of-run

  pub some-within : (marks ≡ 0 → ⊥) → count_trailing_zeros 64 marks ≤ 16
  some-within some = omega (arith, where-some some, long, prefix-within is_none ends)
