-- The search for the number of the next panel, and for the panel of a window, step by step.
use Rattle.std.specs.Prelude.{◌≡◌, ◌+◌, ◌-◌, ◌<◌, ◌≤◌, ◌==◌, if◌then◌else◌}
use Rattle.stack.specs.{ℕ, zero, suc, Bool, true, false, Option, None, Some, is_none, is_some, List, find, sym, ◌∙◌, refl, arith, range_with_len, cases_eq, eq-eqb, false≢true, ne_eqb}
use Rattle.stack.specs.{false_from_ne_true, MOST_PANELS, is_in_panel, panel_limit, new_panel_number, panel_number, PanelId, is_taken, window_at, panels, table_of, IsPanelTable}
use Rattle.world.proofs.PanelLaws.{in_panel-some, in_panel-true}
use Rattle.stack.specs.declared.nodes.Node.{Node}
use Rattle.stack.proofs.Tables.{is-panel}
use Rattle.stack.proofs.Threads.{panel-below}
use Rattle.stack.proofs.Threads.{window-is}

limit-is : panel_limit ≡ MOST_PANELS + 1
unfolding panel_limit
limit-is = refl

-- what it says of a node that its number is taken
taken-none : (p : ℕ) (o : Option ℕ) → is_taken p o ≡ false → o ≡ None
taken-none p o h = grind (arith, false≢true)

taken-some : (p : ℕ) (o : Option ℕ) → 0 < p → is_taken p o ≡ true → is_none o ≡ false
taken-some p o positive h = grind (arith, false≢true, ne_eqb)

-- the first number of a range that passes a test
find-first : (test : ℕ → Bool) (m k n : ℕ) → k ≤ n → n < k + m → ((p : ℕ) → k ≤ p → p < n → test p ≡ false) → test n ≡ true → find test (range_with_len k m) ≡ Some n
find-first test zero k n from below others here = absurd (omega arith)
find-first test (suc m) k n from below others here = grind (arith, cases_eq, (find-first test m (k + 1) n))

find-none : (test : ℕ → Bool) (m k : ℕ) → ((p : ℕ) → k ≤ p → p < k + m → test p ≡ false) → find test (range_with_len k m) ≡ None
find-none test zero k none = refl
find-none test (suc m) k none = grind (arith, (find-none test m (k + 1)))

-- the least number that isn't taken
module _ (nodes : List Node) (table : IsPanelTable nodes) (n : ℕ) (free : is_taken n (window_at nodes n) ≡ false)
    (taken : (p : ℕ) → p < n → is_taken p (window_at nodes p) ≡ true) where
  least-positive : 0 < n
  least-positive = grind (arith, cases_eq, false≢true)

  below-taken : (p : ℕ) → 1 ≤ p → p < n → is_none ((panels (table_of nodes)).window p) ≡ false
  below-taken p from lt = rw (window-is nodes p) (taken-some p (window_at nodes p) (omega arith) (taken p lt))

  pub least-found : n ≤ MOST_PANELS → Some n ≡ new_panel_number (panels (table_of nodes))
  least-found few =
      sym (find-first _ (panel_limit - 1) 1 n (omega (arith, least-positive)) (omega (arith, limit-is)) below-taken (rw (window-is nodes n) (rw (taken-none n (window_at nodes n) free) refl)))

  pub none-found : (n ≤ MOST_PANELS → ⊥) → None ≡ new_panel_number (panels (table_of nodes))
  none-found many = sym (find-none _ (panel_limit - 1) 1 (λ p from to. below-taken p from (omega (arith, limit-is))))

-- ---- the panel of a window

module _ (nodes : List Node) (h : IsPanelTable nodes) (w : ℕ) where
  pub in-panel : (p : ℕ) → window_at nodes p ≡ Some w → is_in_panel (panels (table_of nodes)) w ≡ true
  in-panel p is = in_panel-some (panels (table_of nodes)) w p (omega (arith, panel-below nodes p (is-panel nodes h p w is), h.few_nodes)) (window-is nodes p ∙ is)

  -- as the code finds it, where 0 is none
  module _ (p : ℕ) (window : 0 < p → window_at nodes p ≡ Some w) (only : (q : ℕ) → window_at nodes q ≡ Some w → p ≡ q) where
    pub holder-some : (r : Option PanelId) → panel_number r ≡ (if p == 0 then None else Some p) → is_some r ≡ is_in_panel (panels (table_of nodes)) w
    holder-some r is = grind (arith, cases_eq, eq-eqb, false_from_ne_true, in_panel-true, window-is, panel-below, is-panel, ne_eqb, in-panel)

  -- where the world says so, none has it
  pub none-has : is_in_panel (panels (table_of nodes)) w ≡ false → (p : ℕ) → window_at nodes p ≡ Some w → ⊥
  none-has free p is = let yes = in-panel p is in let t : true ≡ false = sym yes ∙ free in cc
