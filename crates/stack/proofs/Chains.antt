-- Chains of nodes that name one another, over the two functions that say which is above and which below.
use Rattle.std.specs.Prelude.{◌≡◌, ◌<◌, ◌≤◌, ◌∷◌, ◌++◌}
use Rattle.stack.specs.{ℕ, zero, suc, List, [], length, reverse, refl, sym, ap, subst, ◌∙◌, arith, AllByRecursion, eq-eqb, ne_eqb, AreOnce, IsChain, IsOut, way}
use mathlib.Core.List.{reverse_aux}
use Rattle.stack.proofs.DistinctNumbers.{out-back, out-prefix}

-- ---- a chain alone

module _ (above below : ℕ → ℕ) where
  pub chain-prefix : (a p : ℕ) (xs ys : List ℕ) (z : ℕ) → IsChain above below a (xs ++ p ∷ ys) z → IsChain above below a xs p
  chain-prefix a p [] ys z h = h.0
  chain-prefix a p (x ∷ xs) ys z h = (h.0, chain-prefix x p xs ys z h.1)

  pub chain-back : (a p : ℕ) (xs ys : List ℕ) (z : ℕ) → IsChain above below a (xs ++ p ∷ ys) z → IsChain above below p ys z
  chain-back a p [] ys z h = h.1
  chain-back a p (x ∷ xs) ys z h = chain-back x p xs ys z h.1

  -- what isn't in the chain isn't below its end, nor above its start
  pub not-last : (q a : ℕ) (xs : List ℕ) (z : ℕ) → IsChain above below a xs z → (q ≡ a → ⊥) → IsOut q xs → q ≡ below z → ⊥
  not-last q a [] z h other out = λ e. other (e ∙ h.1)
  not-last q a (x ∷ xs) z h other out = not-last q x xs z h.1 out.0 out.1

  pub not-first : (q a : ℕ) (xs : List ℕ) (z : ℕ) → IsChain above below a xs z → (q ≡ z → ⊥) → IsOut q xs → q ≡ above a → ⊥
  not-first q a [] z h other out = λ e. other (e ∙ h.0)
  not-first q a (x ∷ xs) z h other out = λ e. out.0 (e ∙ h.0.0)

  -- what holds of the chain and its end holds above its start
  pub first-each : (P : ℕ → Type 0) → (a : ℕ) (xs : List ℕ) (z : ℕ) → IsChain above below a xs z → AllByRecursion P xs → P z → P (above a)
  first-each P a [] z h each last = subst P (sym h.0) last
  first-each P a (x ∷ xs) z h each last = subst P (sym h.0.0) each.0

  pub last-each : (P : ℕ → Type 0) → (a : ℕ) (xs : List ℕ) (z : ℕ) → IsChain above below a xs z → AllByRecursion P xs → P a → P (below z)
  last-each P a [] z h each first = subst P (sym h.1) first
  last-each P a (x ∷ xs) z h each first = last-each P x xs z h.1 each.1 each.0

  -- the other way round
  chain-reverse_aux : (x : ℕ) (xs ys : List ℕ) (z c : ℕ) → IsChain above below x xs z → IsChain below above x ys c → IsChain below above z (reverse_aux xs (x ∷ ys)) c
  chain-reverse_aux x [] ys z c h k = ((h.1, h.0), k)
  chain-reverse_aux x (y ∷ xs) ys z c h k = chain-reverse_aux y xs (x ∷ ys) z c h.1 ((h.0.1, h.0.0), k)

  pub chain-reverse : (a : ℕ) (xs : List ℕ) (z : ℕ) → IsChain above below a xs z → IsChain below above z (reverse xs) a
  chain-reverse a [] z h = (h.1, h.0)
  chain-reverse a (x ∷ xs) z h = chain-reverse_aux x xs [] z a h.1 (h.0.1, h.0.0)

-- the way through a chain is the chain
pub way-chain : (above below : ℕ → ℕ) (a : ℕ) (xs : List ℕ) (n : ℕ) → IsChain above below a xs 0 → AllByRecursion (λ q. 0 < q) xs → length xs ≤ n → way n above (above a) ≡ xs
way-chain above below a [] zero h each le = grind arith
way-chain above below a [] (suc n) h each le = grind (arith, eq-eqb)
way-chain above below a (x ∷ xs) zero h each le = absurd (omega arith)
way-chain above below a (x ∷ xs) (suc n) h each le = grind (arith, ne_eqb, (way-chain above below x xs n h.1 each.1 (omega arith)))

-- one that ends after n panels at most doesn't go on
ended : (n : ℕ) (next : ℕ → ℕ) (p : ℕ) → way n next p ≡ way (suc n) next p → way (suc n) next p ≡ way (suc (suc n)) next p
ended n next zero is = refl
ended zero next (suc p) is = grind (arith, ne_eqb)
ended (suc n) next (suc p) is = grind (arith, ne_eqb, (ended n next (next (suc p))))

pub way-first : (n : ℕ) (next : ℕ → ℕ) (p : ℕ) → way n next p ≡ way (suc n) next p → 0 < p → way n next p ≡ p ∷ way n next (next p)
way-first n next p is some = grind (arith, ne_eqb)

pub way-on : (n : ℕ) (next : ℕ → ℕ) (p : ℕ) → way n next p ≡ way (suc n) next p → 0 < p → way n next (next p) ≡ way (suc n) next (next p)
way-on n next p is some = grind (arith, ne_eqb, (ended n next p is))

-- ---- a chain that is changed

-- two functions are the same but at u and v
abbrev pub SameBut : (ℕ → ℕ) → (ℕ → ℕ) → ℕ → ℕ → Type 0
SameBut old new u v = (q : ℕ) → (q ≡ u → ⊥) → (q ≡ v → ⊥) → new q ≡ old q

same-each : (old new : ℕ → ℕ) (u v : ℕ) → SameBut old new u v → (xs : List ℕ) → IsOut u xs → IsOut v xs → AllByRecursion (λ q. new q ≡ old q) xs
same-each old new u v same [] hu hv = tt
same-each old new u v same (x ∷ xs) hu hv = (same x (λ e. hu.0 (sym e)) (λ e. hv.0 (sym e)), same-each old new u v same xs hu.1 hv.1)

module _ (above below above' below' : ℕ → ℕ) where
  pub chain-same : (a : ℕ) (xs : List ℕ) (z : ℕ) → above' a ≡ above a → AllByRecursion (λ q. above' q ≡ above q) xs → AllByRecursion (λ q. below' q ≡ below q) xs → below' z ≡ below z
      → IsChain above below a xs z → IsChain above' below' a xs z
  chain-same a [] z first aboves belows last h = (first ∙ h.0, last ∙ h.1)
  chain-same a (x ∷ xs) z first aboves belows last h = grind (arith, (chain-same x xs z aboves.0 aboves.1 belows.1 last h.1))

  -- the neighbours of p became neighbours
  pub record Removed (p : ℕ) : Type 0 where
    pub lower : above' (below p) ≡ above p
    pub upper : below' (above p) ≡ below p
    pub aboves : SameBut above above' p (below p)
    pub belows : SameBut below below' p (above p)

  pub chain-removed : (p : ℕ) → Removed p → (a : ℕ) (xs ys : List ℕ) (z : ℕ) → IsChain above below a (xs ++ p ∷ ys) z → AreOnce (xs ++ p ∷ ys) → IsOut a (xs ++ p ∷ ys) → IsOut z (xs ++ p ∷ ys)
      → IsChain above' below' a (xs ++ ys) z
  chain-removed p r a [] [] z h once oa oz = grind arith
  chain-removed p r a [] (y ∷ ys) z h once oa oz = grind (arith, chain-same, same-each)
  chain-removed p r a (x ∷ xs) ys z h once oa oz =
      let prefix = chain-prefix above below x p xs ys z h.1 in let back = chain-back above below x p xs ys z h.1 in
      grind (
        arith,
        (out-back a xs (p ∷ ys) oa.1),
        (out-back x xs (p ∷ ys) once.0),
        (chain-removed p r x xs ys z h.1 once.1 once.0 oz.1),
        (not-last above below a x xs p prefix oa.0 (out-prefix a xs (p ∷ ys) oa.1)),
        (not-first above below x p ys z back),
      )

  -- p is between lower and upper now
  pub record Inserted (lower p upper : ℕ) : Type 0 where
    pub lower_above : above' lower ≡ p
    pub lower_below : below' p ≡ lower
    pub upper_above : above' p ≡ upper
    pub upper_below : below' upper ≡ p
    pub aboves : SameBut above above' p lower
    pub belows : SameBut below below' p upper

  pub chain-pushed : (p a : ℕ) (xs : List ℕ) (z : ℕ) → Inserted (below z) p z → IsChain above below a xs z → AreOnce xs → (a ≡ p → ⊥) → IsOut a xs → IsOut z xs → IsOut p xs
      → IsChain above' below' a (xs ++ p ∷ []) z
  chain-pushed p a [] z r h once ap oa oz op = grind arith
  chain-pushed p a (x ∷ xs) z r h once ap oa oz op = grind (arith, not-last, (chain-pushed p x xs z r h.1 once.1 (λ e. op.0 (sym e)) once.0 oz.1 op.1))

  pub chain-put : (p a : ℕ) (xs : List ℕ) (z : ℕ) → Inserted a p (above a) → IsChain above below a xs z → AreOnce xs → (z ≡ p → ⊥) → IsOut a xs → IsOut z xs → IsOut p xs
      → IsChain above' below' a (p ∷ xs) z
  chain-put p a [] z r h once zp oa oz op = grind arith
  chain-put p a (y ∷ ys) z r h once zp oa oz op = grind (arith, chain-same, same-each)
