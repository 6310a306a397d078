-- The order through the nodes, before and after a panel leaves or enters it.
use Rattle.std.specs.Prelude.{◌≡◌, ◌<◌, ◌≤◌, ◌==◌, if◌then◌else◌, ◌∷◌, ◌++◌}
use Rattle.stack.specs.{ℕ, zero, suc, Option, None, Some, IsSome, map, slice_index_or, unwrap_or, refl, List, [], length, reverse, sym, ap, subst, ◌∙◌, inl, inr, arith, AllByRecursion, cases_eq, eq-eqb, ne_eqb, cases_lt, get_or_past, length-reverse, without}
use Rattle.stack.specs.{node_at, above_at, below_at, IsAlone, IsOut, IsPanel, IsThreaded, IsWay, from_bottom, shown_from, way, window_at, window_in, AreWithWindows, Panels, panels, table_of, Linked, Reordered, SameWindows}
use Rattle.stack.specs.declared.nodes.Node.{Node}
use Rattle.stack.proofs.Chains.{Inserted, Removed, chain-back, chain-prefix, chain-pushed, chain-put, chain-removed, chain-reverse, chain-same, first-each, last-each, not-first, not-last, way-chain, way-first, way-on}
use Rattle.stack.proofs.DistinctNumbers.{each-append, each-back, each-prefix, each-reverse, each-weaker, length-once, once-after, once-before, once-push, once-without, out-append, out-back, out-each}
use Rattle.stack.proofs.DistinctNumbers.{out-prefix, out_or_in, without-out, without-split}

-- ---- panels with their windows

pub window-is : (nodes : List Node) (p : ℕ) → slice_index_or (map window_in nodes) p None ≡ window_at nodes p
window-is [] p = refl
window-is (node ∷ nodes) zero = refl
window-is (node ∷ nodes) (suc p) = window-is nodes p

first-shown : (ps : Panels) (p : ℕ) (o : Option ℕ) (order : List ℕ) (shown : List (ℕ × ℕ)) → ps.window p ≡ o → IsSome o → AreWithWindows ps order shown
    → AreWithWindows ps (p ∷ order) ((p, unwrap_or o 0) ∷ shown)
first-shown ps p None order shown is some h = cc
first-shown ps p (Some w) order shown is some h = record { numbers = ap (λ l. p ∷ l) h.numbers; windows = rw is (ap (λ l. w ∷ l) h.windows); each = (is, h.each) }

with-windows : (nodes : List Node) (order : List ℕ) → AllByRecursion (IsPanel nodes) order
    → AreWithWindows (panels (table_of nodes)) order (map (λ q. (q, unwrap_or (window_at nodes q) 0)) order)
with-windows nodes [] h = record { numbers = refl; windows = refl; each = tt }
with-windows nodes (p ∷ order) h = first-shown (panels (table_of nodes)) p (window_at nodes p) order _ (window-is nodes p) h.0.1 (with-windows nodes order h.1)

-- ---- the order is what is threaded

-- a panel's number is among the nodes'
pub panel-below : (nodes : List Node) (p : ℕ) → IsPanel nodes p → p < length nodes
panel-below nodes p h = grind (arith, cases_lt, get_or_past)

module _ (nodes : List Node) (order : List ℕ) (h : IsThreaded nodes order) where
  pub positive : AllByRecursion (λ q. 0 < q) order
  positive = each-weaker (IsPanel nodes) (λ q. 0 < q) (λ q k. k.0) order h.panels

  -- the end isn't in the order
  pub out-end : IsOut 0 order
  out-end = out-each (λ q. 0 < q) 0 (λ lt. omega arith) order positive

  each-node : AllByRecursion (λ q. q < length nodes) order
  each-node = each-weaker (IsPanel nodes) (λ q. q < length nodes) (panel-below nodes) order h.panels

  -- no more than there are nodes after the end
  pub few : 0 < length nodes → length order < length nodes
  few some = let le = length-once (length nodes) (0 ∷ order) (out-end, h.once) (some, each-node) in omega arith

  few-order : length order ≤ length nodes
  few-order = length-once (length nodes) order h.once each-node

  is-up : (n : ℕ) → length order ≤ n → way n (above_at nodes) (above_at nodes 0) ≡ order
  is-up n le = way-chain (above_at nodes) (below_at nodes) 0 order n h.chain positive le

  is-down : (n : ℕ) → length order ≤ n → way n (below_at nodes) (below_at nodes 0) ≡ reverse order
  is-down n le =
      let e : length (reverse order) ≡ length order = length-reverse order in
      way-chain _ _ 0 _ n (chain-reverse _ _ 0 order 0 h.chain) (each-reverse _ order positive) (omega (arith, le))

  pub from_bottom-is : from_bottom nodes ≡ order
  unfolding from_bottom
  from_bottom-is = is-up _ few-order

  module _ (next : ℕ → ℕ) (shown : List ℕ) (is : (n : ℕ) → length order ≤ n → way n next (next 0) ≡ shown) (each : AllByRecursion (IsPanel nodes) shown) where
    is-way : IsWay nodes next (next 0)
    is-way = let le = few-order in record { ends = is (length nodes) le ∙ sym (is (suc (length nodes)) (omega (arith, le))); panels = subst (AllByRecursion (IsPanel nodes)) (sym (is _ le)) each }

  pub way-up : IsWay nodes (above_at nodes) (above_at nodes 0)
  way-up = is-way (above_at nodes) order is-up h.panels

  pub way-down : IsWay nodes (below_at nodes) (below_at nodes 0)
  way-down = is-way (below_at nodes) (reverse order) is-down (each-reverse _ order h.panels)

  pub shown-up : AreWithWindows (panels (table_of nodes)) order (shown_from nodes (above_at nodes) (above_at nodes 0))
  shown-up = rw (is-up _ few-order) (with-windows nodes order h.panels)

  pub shown-down : AreWithWindows (panels (table_of nodes)) (reverse order) (shown_from nodes (below_at nodes) (below_at nodes 0))
  shown-down = rw (is-down _ few-order) (with-windows nodes (reverse order) (each-reverse _ order h.panels))

-- ---- the way through the order

module _ (nodes : List Node) (next : ℕ → ℕ) (p : ℕ) (h : IsWay nodes next p) (some : 0 < p) where
  pub goes-on : IsWay nodes next (next p)
  goes-on = record {
    ends = way-on (length nodes) next p h.ends some;
    panels = (subst (AllByRecursion (IsPanel nodes)) (way-first (length nodes) next p h.ends some) h.panels).1;
  }

  pub first-panel : IsPanel nodes p
  first-panel = (subst (AllByRecursion (IsPanel nodes)) (way-first (length nodes) next p h.ends some) h.panels).0

-- the neighbours of each are among the nodes
module _ (nodes : List Node) (order : List ℕ) (h : IsThreaded nodes order) (some : 0 < length nodes) where
  pub above-below : (p : ℕ) → IsPanel nodes p → above_at nodes p < length nodes
  above-below p panel = grind (arith, out_or_in, panel-below, (each-node nodes order h), first-each, chain-back, each-back)

  pub below-below : (p : ℕ) → IsPanel nodes p → below_at nodes p < length nodes
  below-below p panel = grind (arith, out_or_in, panel-below, (each-node nodes order h), last-each, chain-prefix, each-prefix)

  pub top-below : below_at nodes 0 < length nodes
  top-below = last-each (above_at nodes) (below_at nodes) (λ q. q < length nodes) 0 order 0 h.chain (each-node nodes order h) some

  pub bottom-below : above_at nodes 0 < length nodes
  bottom-below = first-each (above_at nodes) (below_at nodes) (λ q. q < length nodes) 0 order 0 h.chain (each-node nodes order h) some

pub reordered : (old new : List Node) (order : List ℕ) → SameWindows old new → IsThreaded new order → Reordered old new order
reordered old new order windows h = grind (arith, from_bottom-is)

-- ---- two links

-- lower and upper became neighbours, and then v and w
pub record Twice (above below above' below' : ℕ → ℕ) (lower upper v w : ℕ) : Type 0 where
  pub aboves : (q : ℕ) → above' q ≡ (if q == v then w else (if q == lower then upper else above q))
  pub belows : (q : ℕ) → below' q ≡ (if q == w then v else (if q == upper then lower else below q))

pub twice : (old mid new : List Node) (lower upper v w : ℕ) → Linked old mid lower upper → Linked mid new v w → Twice (above_at old) (below_at old) (above_at new) (below_at new) lower upper v w
twice old mid new lower upper v w h k = grind arith

pub twice-windows : (old mid new : List Node) → SameWindows old mid → SameWindows mid new → SameWindows old new
twice-windows old mid new h k = record { length = k.length ∙ h.length; window = λ q. k.window q ∙ h.window q }

module _ (above below above' below' : ℕ → ℕ) where
  -- p is between lower and upper
  inserted : (lower p upper : ℕ) → Twice above below above' below' lower p p upper → (p ≡ lower → ⊥) → (p ≡ upper → ⊥) → Inserted above below above' below' lower p upper
  inserted lower p upper t nl nu = grind (arith, eq-eqb, ne_eqb)

-- ---- panels with the same windows

-- the links are the same, and each of the order is a panel still
pub threaded-kept : (old new : List Node) (order : List ℕ) → length new ≡ length old → ((q : ℕ) → above_at new q ≡ above_at old q) → ((q : ℕ) → below_at new q ≡ below_at old q) → IsThreaded old order
    → AllByRecursion (IsPanel new) order → IsThreaded new order
threaded-kept old new order long aboves belows h panels = record {
  chain = chain-same _ _ _ _ 0 order 0 (aboves 0) (each-weaker _ _ (λ q k. aboves q) order panels) (each-weaker _ _ (λ q k. belows q) order panels) (belows 0) h.chain;
  once = h.once;
  panels = panels;
  others = λ q lt few out. let alone = h.others q lt (rw (sym long) few) out in (aboves q ∙ alone.0, belows q ∙ alone.1);
}

module _ (old new : List Node) (same : SameWindows old new) where
  pub panel-same : (q : ℕ) → IsPanel old q → IsPanel new q
  panel-same q h = (h.0, subst (λ (o : Option ℕ). IsSome o) (sym (same.window q)) h.1)

  panels-same : (order : List ℕ) → AllByRecursion (IsPanel old) order → AllByRecursion (IsPanel new) order
  panels-same order h = each-weaker (IsPanel old) (IsPanel new) panel-same order h

-- ---- a panel leaves

module _ (old new : List Node) (p : ℕ) (windows : SameWindows old new) (t : Twice (above_at old) (below_at old) (above_at new) (below_at new) (below_at old p) (above_at old p) p p)
    (panel : IsPanel old p) where
  alone : IsAlone new p
  alone = grind (arith, eq-eqb)

  left-split : (xs ys : List ℕ) → IsThreaded old (xs ++ p ∷ ys) → IsThreaded new (xs ++ ys)
  left-split xs ys h =
      let out_0 = out-end old (xs ++ p ∷ ys) h in
      let not-end : p ≡ 0 → ⊥ = grind arith in
      let prefix = chain-prefix (above_at old) (below_at old) 0 p xs ys 0 h.chain in
      let back = chain-back (above_at old) (below_at old) 0 p xs ys 0 h.chain in
      let last = not-last (above_at old) (below_at old) p 0 xs p prefix not-end (once-before p xs ys h.once) in
      let first = not-first (above_at old) (below_at old) p p ys 0 back not-end (once-after p xs ys h.once) in
      let r : Removed (above_at old) (below_at old) (above_at new) (below_at new) p = grind (arith, eq-eqb, ne_eqb) in
      record {
        chain = chain-removed (above_at old) (below_at old) (above_at new) (below_at new) p r 0 xs ys 0 h.chain h.once out_0 out_0;
        once = once-without p xs ys h.once;
        panels = panels-same old new windows (xs ++ ys) (each-append _ xs ys (each-prefix _ xs (p ∷ ys) h.panels) (each-back _ xs (p ∷ ys) h.panels).1);
        others = λ q lt few out.
            let out_xs = out-prefix q xs ys out in let out_ys = out-back q xs ys out in let was = h.others q lt in let aboves = r.aboves q in let belows = r.belows q in
            grind (arith, alone, (cases_eq q p), (out-append q xs (p ∷ ys) out_xs), (not-last _ _ q 0 xs p prefix), (not-first _ _ q p ys 0 back));
      }

  pub left : (order : List ℕ) → IsThreaded old order → IsThreaded new (without p order)
  left order h = elim (out_or_in p order) [
    | inl out ↦
        let is = h.others p panel.0 (panel-below old p panel) out in
        let aboves : (q : ℕ) → above_at new q ≡ above_at old q = λ q. grind (arith, cases_eq, eq-eqb, ne_eqb) in
        let belows : (q : ℕ) → below_at new q ≡ below_at old q = λ q. grind (arith, cases_eq, eq-eqb, ne_eqb) in
        rw (without-out p order out) (threaded-kept old new order windows.length aboves belows h (panels-same old new windows order h.panels))
    | inr split ↦ let k = rw split.is at h in rw (ap (without p) split.is ∙ without-split p _ _ k.once) (left-split split.before split.after k)
  ]

-- ---- a panel enters

module _ (old new : List Node) (p : ℕ) (windows : SameWindows old new) (panel : IsPanel old p) (order : List ℕ) (h : IsThreaded old order) (out : IsOut p order) where
  pub entered-top : Twice (above_at old) (below_at old) (above_at new) (below_at new) (below_at old 0) p p 0 → IsThreaded new (order ++ p ∷ [])
  entered-top t = grind (arith, out-end, inserted, not-last, chain-pushed, once-push, panels-same, each-append, few, out-prefix, out-back)

  pub entered-bottom : Twice (above_at old) (below_at old) (above_at new) (below_at new) 0 p p (above_at old 0) → IsThreaded new (p ∷ order)
  entered-bottom t = grind (arith, out-end, inserted, not-first, chain-put, panels-same, few)

-- ---- by two links

module _ (old mid new : List Node) (p : ℕ) (order : List ℕ) (h : IsThreaded old order) (panel : IsPanel old p) where
  pub taken_out : (node : Node) → node ≡ node_at old p → Linked old mid node.below node.above → Linked mid new p p → Reordered old new (without p order)
  taken_out node is first second =
      let first_is : Linked old mid (below_at old p) (above_at old p) = rw is at first in let windows = twice-windows old mid new first.windows second.windows in
      reordered old new _ windows (left old new p windows (twice old mid new _ _ _ _ first_is second) panel order h)

  pub put_on_top : IsOut p order → (node : Node) → node ≡ node_at old 0 → Linked old mid node.below p → Linked mid new p 0 → Reordered old new (order ++ p ∷ [])
  put_on_top out node is first second =
      let first_is : Linked old mid (below_at old 0) p = rw is at first in let windows = twice-windows old mid new first.windows second.windows in
      reordered old new _ windows (entered-top old new p windows panel order h out (twice old mid new _ _ _ _ first_is second))

  pub put_at_bottom : IsOut p order → (node : Node) → node ≡ node_at old 0 → Linked old mid 0 p → Linked mid new p node.above → Reordered old new (p ∷ order)
  put_at_bottom out node is first second =
      let second_is : Linked mid new p (above_at old 0) = rw is at second in let windows = twice-windows old mid new first.windows second.windows in
      reordered old new _ windows (entered-bottom old new p windows panel order h out (twice old mid new _ _ _ _ first second_is))
