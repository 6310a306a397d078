-- Lists of numbers without duplicates.
use Rattle.std.specs.Prelude.{◌≡◌, ◌<◌, ◌≤◌, ◌==◌, ◌∷◌, ◌++◌, ◌⊎◌}
use Rattle.stack.specs.{ℕ, true, false, List, [], length, reverse, sym, ap, subst, inl, inr, refl, eqb, arith, AllByRecursion, IsDistinct, list_any, cases_eq, eq-eqb, ne_eqb, or_cases, eqb-true}
use Rattle.stack.specs.{length-le_from_distinct_below, without, first_in, next_in, AreOnce, IsOut}
use mathlib.Core.List.{reverse_aux}

-- ---- outside a list

pub out-append : (p : ℕ) (xs ys : List ℕ) → IsOut p xs → IsOut p ys → IsOut p (xs ++ ys)
out-append p [] ys h k = k
out-append p (x ∷ xs) ys h k = (h.0, out-append p xs ys h.1 k)

pub out-prefix : (p : ℕ) (xs ys : List ℕ) → IsOut p (xs ++ ys) → IsOut p xs
out-prefix p [] ys h = tt
out-prefix p (x ∷ xs) ys h = (h.0, out-prefix p xs ys h.1)

pub out-back : (p : ℕ) (xs ys : List ℕ) → IsOut p (xs ++ ys) → IsOut p ys
out-back p [] ys h = h
out-back p (x ∷ xs) ys h = out-back p xs ys h.1

-- p is between these
pub record Split (p : ℕ) (xs : List ℕ) : Type 0 where
  pub before : List ℕ
  pub after : List ℕ
  pub is : xs ≡ before ++ p ∷ after

pub out_or_in : (p : ℕ) (xs : List ℕ) → IsOut p xs ⊎ Split p xs
out_or_in p [] = inl tt
out_or_in p (x ∷ xs) = elim (cases_eq p x) [
  | inl same ↦ inr (record { before = []; after = xs; is = ap (λ q. q ∷ xs) (sym same) })
  | inr other ↦ elim (out_or_in p xs) [
    | inl out ↦ inl (other, out)
    | inr split ↦ inr (record { before = x ∷ split.before; after = split.after; is = ap (λ l. x ∷ l) split.is })
  ]
]

-- ---- none twice

pub once-back : (xs ys : List ℕ) → AreOnce (xs ++ ys) → AreOnce ys
once-back [] ys h = h
once-back (x ∷ xs) ys h = once-back xs ys h.1

pub once-before : (p : ℕ) (xs ys : List ℕ) → AreOnce (xs ++ p ∷ ys) → IsOut p xs
once-before p [] ys h = tt
once-before p (x ∷ xs) ys h = (λ e. (out-back x xs (p ∷ ys) h.0).0 (sym e), once-before p xs ys h.1)

pub once-after : (p : ℕ) (xs ys : List ℕ) → AreOnce (xs ++ p ∷ ys) → IsOut p ys
once-after p xs ys h = (once-back xs (p ∷ ys) h).0

pub once-without : (p : ℕ) (xs ys : List ℕ) → AreOnce (xs ++ p ∷ ys) → AreOnce (xs ++ ys)
once-without p [] ys h = h.1
once-without p (x ∷ xs) ys h = grind (arith, out-append, (out-prefix x xs (p ∷ ys)), (out-back x xs (p ∷ ys)), (once-without p xs ys))

pub once-push : (p : ℕ) (xs : List ℕ) → AreOnce xs → IsOut p xs → AreOnce (xs ++ p ∷ [])
once-push p [] h out = (tt, tt)
once-push p (x ∷ xs) h out = (out-append x xs (p ∷ []) h.0 (λ e. out.0 (sym e), tt), once-push p xs h.1 out.1)

-- ---- a fact of each

pub each-append : (P : ℕ → Type 0) (xs ys : List ℕ) → AllByRecursion P xs → AllByRecursion P ys → AllByRecursion P (xs ++ ys)
each-append P [] ys h k = k
each-append P (x ∷ xs) ys h k = (h.0, each-append P xs ys h.1 k)

pub each-prefix : (P : ℕ → Type 0) (xs ys : List ℕ) → AllByRecursion P (xs ++ ys) → AllByRecursion P xs
each-prefix P [] ys h = tt
each-prefix P (x ∷ xs) ys h = (h.0, each-prefix P xs ys h.1)

pub each-back : (P : ℕ → Type 0) (xs ys : List ℕ) → AllByRecursion P (xs ++ ys) → AllByRecursion P ys
each-back P [] ys h = h
each-back P (x ∷ xs) ys h = each-back P xs ys h.1

pub each-weaker : (P Q : ℕ → Type 0) → ((q : ℕ) → P q → Q q) → (xs : List ℕ) → AllByRecursion P xs → AllByRecursion Q xs
each-weaker P Q f [] h = tt
each-weaker P Q f (x ∷ xs) h = (f x h.0, each-weaker P Q f xs h.1)

-- a number that differs from each is none of them
pub out-each : (P : ℕ → Type 0) (p : ℕ) → (P p → ⊥) → (xs : List ℕ) → AllByRecursion P xs → IsOut p xs
out-each P p none [] h = tt
out-each P p none (x ∷ xs) h = (λ e. none (subst P (sym e) h.0), out-each P p none xs h.1)

-- ---- reversed

each-reverse_aux : (P : ℕ → Type 0) (xs ys : List ℕ) → AllByRecursion P xs → AllByRecursion P ys → AllByRecursion P (reverse_aux xs ys)
each-reverse_aux P [] ys h k = k
each-reverse_aux P (x ∷ xs) ys h k = each-reverse_aux P xs (x ∷ ys) h.1 (h.0, k)

pub each-reverse : (P : ℕ → Type 0) (xs : List ℕ) → AllByRecursion P xs → AllByRecursion P (reverse xs)
each-reverse P xs h = each-reverse_aux P xs [] h tt

out-reverse_aux : (p : ℕ) (xs ys : List ℕ) → IsOut p xs → IsOut p ys → IsOut p (reverse_aux xs ys)
out-reverse_aux p [] ys h k = k
out-reverse_aux p (x ∷ xs) ys h k = out-reverse_aux p xs (x ∷ ys) h.1 (h.0, k)

pub out-reverse : (p : ℕ) (xs : List ℕ) → IsOut p xs → IsOut p (reverse xs)
out-reverse p xs h = out-reverse_aux p xs [] h tt

-- ---- as many as there are numbers

differs-each : (p : ℕ) (xs : List ℕ) → IsOut p xs → AllByRecursion (λ q. eqb p q ≡ false) xs
differs-each p [] h = tt
differs-each p (x ∷ xs) h = (ne_eqb p x h.0, differs-each p xs h.1)

pub distinct-once : (xs : List ℕ) → AreOnce xs → IsDistinct eqb xs
unfolding IsDistinct
distinct-once [] h = tt
distinct-once (x ∷ xs) h = (differs-each x xs h.0, distinct-once xs h.1)

below-each : (m q : ℕ) (xs : List ℕ) → AllByRecursion (λ x. x < m) xs → list_any (eqb q) xs ≡ true → q < m
below-each m q [] h any = cc
below-each m q (x ∷ xs) h any = grind (arith, or_cases, eqb-true, (below-each m q xs))

pub length-once : (m : ℕ) (xs : List ℕ) → AreOnce xs → AllByRecursion (λ x. x < m) xs → length xs ≤ m
length-once m xs once below = length-le_from_distinct_below xs m (distinct-once xs once) (λ q any. below-each m q xs below any)

-- ---- the others

pub without-out : (p : ℕ) (xs : List ℕ) → IsOut p xs → without p xs ≡ xs
without-out p [] h = refl
without-out p (x ∷ xs) h = rw (ne_eqb x p (λ e. h.0 (sym e))) (ap (λ l. x ∷ l) (without-out p xs h.1))

pub without-split : (p : ℕ) (xs ys : List ℕ) → AreOnce (xs ++ p ∷ ys) → without p (xs ++ p ∷ ys) ≡ xs ++ ys
without-split p [] ys h = rw (eq-eqb p p refl) (without-out p ys h.0)
without-split p (x ∷ xs) ys h = grind (arith, ne_eqb, (out-back x xs (p ∷ ys)), (without-split p xs ys))

pub out-without : (p : ℕ) (xs : List ℕ) → IsOut p (without p xs)
out-without p [] = tt
out-without p (x ∷ xs) = grind (arith, cases_eq, eq-eqb, ne_eqb, (out-without p xs), (out-without p xs))

-- ---- neighbours

pub next_in-split : (p : ℕ) (xs ys : List ℕ) → IsOut p xs → next_in p (xs ++ p ∷ ys) ≡ first_in ys
next_in-split p [] ys h = rw (eq-eqb p p refl) refl
next_in-split p (x ∷ xs) ys h = rw (ne_eqb x p (λ e. h.0 (sym e))) (next_in-split p xs ys h.1)

pub any-split : (p : ℕ) (xs ys : List ℕ) → list_any (λ q. q == p) (xs ++ p ∷ ys) ≡ true
any-split p [] ys = rw (eq-eqb p p refl) refl
any-split p (x ∷ xs) ys = grind (arith, (any-split p xs ys))

pub any_is-out : (p : ℕ) (xs : List ℕ) → IsOut p xs → list_any (λ q. q == p) xs ≡ false
any_is-out p [] h = refl
any_is-out p (x ∷ xs) h = rw (ne_eqb x p (λ e. h.0 (sym e))) (any_is-out p xs h.1)
