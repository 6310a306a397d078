-- What the nodes say of the neighbours of a panel is what the order says.
use Rattle.std.specs.Prelude.{◌≡◌, ◌<◌, ◌==◌, if◌then◌else◌, ◌∷◌, ◌++◌}
use Rattle.stack.specs.{ℕ, false, not, Option, None, Some, List, [], reverse, sym, ap, subst, ◌∙◌, refl, arith, AllByRecursion, last_or, list_any, eq-eqb, ne_eqb, append_assoc, reverse-append}
use Rattle.stack.specs.{first_in, next_in, above_at, below_at, AreOnce, IsChain, IsOut, IsPanel, IsThreaded}
use mathlib.Core.List.{reverse_aux}
use Rattle.stack.specs.declared.nodes.Node.{Node}
use Rattle.stack.proofs.Chains.{chain-back, chain-reverse, not-first}
use Rattle.stack.proofs.DistinctNumbers.{Split, any-split, any_is-out, each-back, each-reverse, next_in-split, once-after, once-before, out-reverse, out_or_in}
use Rattle.stack.proofs.Threads.{panel-below, positive}

-- a node's number, but for the end
abbrev pub panel_or_none : ℕ → Option ℕ
panel_or_none p = if p == 0 then None else Some p

-- above the start of a chain is its first
chain-first : (above below : ℕ → ℕ) (a : ℕ) (xs : List ℕ) → IsChain above below a xs 0 → AllByRecursion (λ q. 0 < q) xs → panel_or_none (above a) ≡ first_in xs
chain-first above below a xs h each = grind (arith, eq-eqb, ne_eqb)

-- above a number of the chain is the next of it
next-is : (above below : ℕ → ℕ) (p : ℕ) (xs ys : List ℕ) → IsChain above below 0 (xs ++ p ∷ ys) 0 → AllByRecursion (λ q. 0 < q) (xs ++ p ∷ ys) → IsOut p xs
    → panel_or_none (above p) ≡ next_in p (xs ++ p ∷ ys)
next-is above below p xs ys chain each out =
    chain-first above below p ys (chain-back above below 0 p xs ys 0 chain) (each-back (λ q. 0 < q) xs (p ∷ ys) each).1 ∙ sym (next_in-split p xs ys out)

-- ---- the last is the first from the other end

last-first : (x : ℕ) (xs ys : List ℕ) → last_or (Some x) xs ≡ first_in (reverse_aux xs (x ∷ ys))
last-first x [] ys = refl
last-first x (y ∷ xs) ys = last-first y xs (x ∷ ys)

reverse-split : (p : ℕ) (xs ys : List ℕ) → reverse (xs ++ p ∷ ys) ≡ reverse ys ++ p ∷ reverse xs
reverse-split p xs ys =
    reverse-append xs (p ∷ ys) ∙ ap (λ l. l ++ reverse xs) (reverse-append (p ∷ []) ys) ∙ append_assoc (reverse ys) (p ∷ []) (reverse xs)

-- ---- neighbours

module _ (nodes : List Node) (order : List ℕ) (h : IsThreaded nodes order) where
  -- a visible panel is in the order
  visible-split : (p : ℕ) → not (list_any (λ q. q == p) order) ≡ false → Split p order
  visible-split p shown = grind (arith, out_or_in, any_is-out)

  pub last-is : panel_or_none (below_at nodes 0) ≡ last_or None order
  last-is = grind (arith, chain-first, chain-reverse, each-reverse, positive, last-first)

  pub above-is : (p : ℕ) → not (list_any (λ q. q == p) order) ≡ false → panel_or_none (above_at nodes p) ≡ next_in p order
  above-is p shown =
      let split = visible-split p shown in
      subst (λ (l : List ℕ). panel_or_none (above_at nodes p) ≡ next_in p l) (sym split.is)
      (next-is (above_at nodes) (below_at nodes) p split.before split.after (subst (λ (l : List ℕ). IsChain (above_at nodes) (below_at nodes) 0 l 0) split.is h.chain)
      (subst (AllByRecursion (λ q. 0 < q)) split.is (positive nodes order h)) (once-before p split.before split.after (subst AreOnce split.is h.once)))

  pub below-is : (p : ℕ) → not (list_any (λ q. q == p) order) ≡ false → panel_or_none (below_at nodes p) ≡ next_in p (reverse order)
  below-is p shown =
      let split = visible-split p shown in
      let turned = ap (λ (l : List ℕ). reverse l) split.is ∙ reverse-split p split.before split.after in
      subst (λ (l : List ℕ). panel_or_none (below_at nodes p) ≡ next_in p l) (sym turned)
      (next-is (below_at nodes) (above_at nodes) p (reverse split.after) (reverse split.before)
      (subst (λ (l : List ℕ). IsChain (below_at nodes) (above_at nodes) 0 l 0) turned (chain-reverse (above_at nodes) (below_at nodes) 0 order 0 h.chain))
      (subst (AllByRecursion (λ q. 0 < q)) turned (each-reverse (λ q. 0 < q) order (positive nodes order h)))
      (out-reverse p split.after (once-after p split.before split.after (subst AreOnce split.is h.once))))

  -- a hidden panel's node names itself, and no other panel's does
  pub hidden-is : (p : ℕ) → IsPanel nodes p → (above_at nodes p == p) ≡ not (list_any (λ q. q == p) order)
  hidden-is p panel = grind (arith, out_or_in, eq-eqb, panel-below, any_is-out, not-first, chain-back, once-after, ne_eqb, any-split)
