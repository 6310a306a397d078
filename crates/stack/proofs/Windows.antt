-- The windows of panels, and where one of them changes.
use Rattle.std.specs.Prelude.{◌≡◌, ◌<◌, ◌∷◌, ◌++◌, ◌⊎◌}
use Rattle.stack.specs.{ℕ, Option, None, IsSome, List, [], length, sym, ap, ◌∙◌, refl, inl, inr, arith, AllByRecursion, cases_eq, cases_order, eq-eqb, ne_eqb}
use Rattle.stack.specs.{get_or_append_left, get_or_past, get_or_push, length_push, with_entry, no_node, node_at, above_at, below_at, window_at, window_in, from_bottom, IsOut, IsPanel, IsThreaded}
use Rattle.stack.specs.{panels, table_of, Windowed}
use Rattle.stack.specs.declared.nodes.Node.{Node}
use Rattle.stack.proofs.Chains.{chain-same}
use Rattle.stack.proofs.DistinctNumbers.{each-weaker}
use Rattle.stack.proofs.Threads.{panel-below, threaded-kept, window-is}

-- panels with this order and these windows
pub panels-are : (nodes : List Node) (visible : List ℕ) (window : ℕ → Option ℕ) → from_bottom nodes ≡ visible → ((p : ℕ) → window_at nodes p ≡ window p)
    → panels (table_of nodes) ≡ record { visible = visible; window = window }
panels-are nodes visible window e f = grind (arith, window-is)

-- ---- one window changes

pub given-same : (window : ℕ → Option ℕ) (p : ℕ) (o : Option ℕ) (q : ℕ) → q ≡ p → with_entry window p o q ≡ o
given-same window p o q e = rw (eq-eqb q p e) refl

pub given-other : (window : ℕ → Option ℕ) (p : ℕ) (o : Option ℕ) (q : ℕ) → (q ≡ p → ⊥) → with_entry window p o q ≡ window q
given-other window p o q e = rw (ne_eqb q p e) refl

-- ---- the order stays

given-panels : (old new : List Node) (p : ℕ) (o : Option ℕ) → ((q : ℕ) → window_at new q ≡ with_entry (window_at old) p o q) → (order : List ℕ) → IsSome o ⊎ IsOut p order
    → AllByRecursion (IsPanel old) order → AllByRecursion (IsPanel new) order
given-panels old new p o windows [] some h = tt
given-panels old new p o windows (x ∷ order) (inl some) h = grind (arith, cases_eq, given-same, given-other, (given-panels old new p o windows order (inl some) h.1))
given-panels old new p o windows (x ∷ order) (inr out) h = grind (arith, cases_eq, given-same, given-other, (given-panels old new p o windows order (inr out.1) h.1))

pub threaded-windowed : (old new : List Node) (p : ℕ) (o : Option ℕ) → Windowed old new p o → (order : List ℕ) → IsSome o ⊎ IsOut p order → IsThreaded old order → IsThreaded new order
threaded-windowed old new p o windowed order some h = threaded-kept old new order windowed.length windowed.above windowed.below h (given-panels old new p o windowed.window order some h.panels)

-- ---- a node after the last

module _ (nodes : List Node) (node : Node) where
  pub node-below : (q : ℕ) → q < length nodes → node_at (nodes ++ node ∷ []) q ≡ node_at nodes q
  node-below q lt = get_or_append_left nodes (node ∷ []) no_node q lt

  pub node-last : (q : ℕ) → q ≡ length nodes → node_at (nodes ++ node ∷ []) q ≡ node
  node-last q e = get_or_push nodes node no_node q (sym e)

  pub window-pushed : (q : ℕ) → window_at (nodes ++ node ∷ []) q ≡ with_entry (window_at nodes) (length nodes) (window_in node) q
  window-pushed q = grind (arith, cases_order, node-last, given-same, node-below, given-other, get_or_past, length_push)

  pub window-free : window_in node ≡ None → (q : ℕ) → window_at (nodes ++ node ∷ []) q ≡ window_at nodes q
  window-free none q = grind (arith, cases_eq, node-last, get_or_past, window-pushed, given-other)

  same-below : (f : Node → ℕ) (order : List ℕ) → AllByRecursion (λ q. q < length nodes) order → AllByRecursion (λ q. f (node_at (nodes ++ node ∷ []) q) ≡ f (node_at nodes q)) order
  same-below f order each = each-weaker (λ q. q < length nodes) (λ q. f (node_at (nodes ++ node ∷ []) q) ≡ f (node_at nodes q)) (λ q lt. ap f (node-below q lt)) order each

  -- one that names itself leaves the order as it is
  pub threaded-pushed : (order : List ℕ) → 0 < length nodes → node.above ≡ length nodes → node.below ≡ length nodes → IsOut (length nodes) order → IsThreaded nodes order
      → IsThreaded (nodes ++ node ∷ []) order
  threaded-pushed order some above below out_new h =
      let each = each-weaker (IsPanel nodes) (λ q. q < length nodes) (panel-below nodes) order h.panels in
      record {
        chain = chain-same (above_at nodes) (below_at nodes) (above_at (nodes ++ node ∷ [])) (below_at (nodes ++ node ∷ [])) 0 order 0
            (ap (λ (n : Node). n.above) (node-below 0 some))
            (same-below (λ n. n.above) order each)
            (same-below (λ n. n.below) order each)
            (ap (λ (n : Node). n.below) (node-below 0 some)) h.chain;
        once = h.once;
        panels = given-panels nodes (nodes ++ node ∷ []) (length nodes) (window_in node) window-pushed order (inr out_new) h.panels;
        others = λ q lt few out. elim (cases_eq q (length nodes)) [
          | inl same ↦ (
            ap (λ (n : Node). n.above) (node-last q same) ∙ above ∙ sym same,
            ap (λ (n : Node). n.below) (node-last q same) ∙ below ∙ sym same,
          )
          | inr other ↦
              let less : q < length nodes = omega (arith, length_push nodes node) in
              let alone = h.others q lt less out in
              (ap (λ (n : Node). n.above) (node-below q less) ∙ alone.0, ap (λ (n : Node). n.below) (node-below q less) ∙ alone.1)
        ];
      }
