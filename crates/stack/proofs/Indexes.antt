-- How the numbers that are taken and the panels of windows follow the nodes.
use Rattle.std.specs.Prelude.{◌≡◌, ◌+◌, ◌-◌, ◌<◌, ◌≤◌, ◌==◌, if◌then◌else◌, ◌∷◌, ◌++◌}
use Rattle.stack.specs.{ℕ, zero, suc, Option, None, rules, [], Some, is_some, MatchOption, List, length, set, take, replicate, slice_index_or, length-set, get_or-set_same, get_or-set_other, refl}
use Rattle.stack.specs.{sym, subst, ◌∙◌, inl, inr, arith, cases_eq, eq-eqb, ne_eqb, length_push, take_all, MOST_PANELS, WinId, option_map, with_entry, held_by, holder_at, window_limit, IsIndexed}
use Rattle.stack.specs.{node_at, above_at, below_at, window_at, window_in, Windowed, contains}
use Rattle.stack.specs.declared.nodes.Node.{Node}
use Rattle.stack.proofs.Windows.{given-other, given-same, window-free}

-- nothing that they say changed
pub indexed-same : (old new : List Node) (numbers holders holders' : List ℕ) → IsIndexed old numbers holders → length new ≤ MOST_PANELS + 1 → (1 < length new → window_limit ≤ length holders')
    → ((p : ℕ) → window_at new p ≡ window_at old p) → ((w : ℕ) → holder_at holders' w ≡ holder_at holders w) → IsIndexed new numbers holders'
indexed-same old new numbers holders holders' h few room windows same = grind arith

-- a node has other neighbours, or is another panel's
module _ (nodes : List Node) (p : ℕ) (node : Node) (lt : p < length nodes) where
  field-set : {A : Type 0} (field : Node → A) → field node ≡ field (node_at nodes p) → (q : ℕ) → field (node_at (set nodes p node) q) ≡ field (node_at nodes q)
  field-set field is q = grind (arith, cases_eq, get_or-set_same, get_or-set_other)

  pub indexed-set : (numbers holders : List ℕ) → IsIndexed nodes numbers holders → window_in node ≡ window_at nodes p → IsIndexed (set nodes p node) numbers holders
  indexed-set numbers holders h is =
      let len = length-set nodes p node in
      indexed-same nodes (set nodes p node) numbers holders holders h (let few = h.few in omega arith) (λ some. h.room (omega arith)) (field-set window_in is) (λ w. refl)

  pub windowed-set : node.above ≡ above_at nodes p → node.below ≡ below_at nodes p → Windowed nodes (set nodes p node) p (window_in node)
  windowed-set above below = grind (arith, length-set, cases_eq, get_or-set_same, given-same, get_or-set_other, given-other, field-set)

-- as the code writes it, which has the end beside the others
pub set-past : (end : Node) (nodes : List Node) (p : ℕ) (node : Node) → 0 < p → set (end ∷ nodes) p node ≡ end ∷ set nodes (p - 1) node
set-past end nodes p node some = grind arith

-- a node that no panel has
pub indexed-pushed : (nodes : List Node) (node : Node) (numbers holders holders' : List ℕ) → IsIndexed nodes numbers holders → length nodes ≤ MOST_PANELS → window_in node ≡ None
    → window_limit ≤ length holders' → ((w : ℕ) → holder_at holders' w ≡ holder_at holders w) → IsIndexed (nodes ++ node ∷ []) numbers holders'
indexed-pushed nodes node numbers holders holders' h few none room same = grind (arith, indexed-same, length_push, window-free)

zeros : (n k : ℕ) → ◌≡◌ {A = ℕ} (slice_index_or (replicate n 0) k 0) 0
zeros zero k = refl
zeros (suc n) zero = refl
zeros (suc n) (suc k) = zeros n k

-- room for more windows
appended-zeros : (holders : List ℕ) (n w : ℕ) → holder_at (holders ++ replicate n 0) w ≡ holder_at holders w
appended-zeros [] n w = zeros n w
appended-zeros (p ∷ holders) n zero = refl
appended-zeros (p ∷ holders) n (suc w) = appended-zeros holders n w

pub holder-grown : (holders : List ℕ) (n m : ℕ) → length holders ≤ n → (w : ℕ) → holder_at (take n holders ++ replicate m 0) w ≡ holder_at holders w
holder-grown holders n m few w = rw (take_all n holders few) (appended-zeros holders m w)

-- the node that a search after the end found is the only one with the window
pub searched-one : (end : Node) (nodes : List Node) (w n : ℕ) → ((p q : ℕ) → window_at (end ∷ nodes) p ≡ Some w → window_at (end ∷ nodes) q ≡ Some w → p ≡ q)
    → (0 < n → window_at nodes (n - 1) ≡ Some w) → (n ≡ 0 → (k : ℕ) → window_at nodes k ≡ Some w → ⊥) → (p : ℕ) → window_at (end ∷ nodes) p ≡ Some w → n ≡ p
searched-one end nodes w zero alone found none zero is = refl
searched-one end nodes w zero alone found none (suc p) is = absurd (none refl p is)
searched-one end nodes w (suc n) alone found none p is =
    let before : suc n - 1 ≡ n = omega arith in alone (suc n) p (subst (λ k. window_at nodes k ≡ Some w) before (found (omega arith))) is

-- ---- a window changes

held-same : (o : Option ℕ) (p : ℕ) (holder : ℕ → ℕ) (w : ℕ) → o ≡ Some w → held_by o p holder w ≡ p
held-same o p holder w is = grind (arith, eq-eqb)

held-other : (o : Option ℕ) (p : ℕ) (holder : ℕ → ℕ) (w : ℕ) → (o ≡ Some w → ⊥) → held_by o p holder w ≡ holder w
held-other o p holder w other = grind (arith, ne_eqb)

-- the panel p has the window o now, which was in none
module _ (old new : List Node) (numbers numbers' holders middle holders' : List ℕ) (p : ℕ) (o : Option ℕ) (h : IsIndexed old numbers holders) (positive : 0 < p) (lt : p < length old) where
  module _ (len : length new ≡ length old) (windows : (q : ℕ) → window_at new q ≡ with_entry (window_at old) p o q) (free : (q w : ℕ) → o ≡ Some w → window_at old q ≡ Some w → ⊥) where
    alone-windowed : (q r w : ℕ) → window_at new q ≡ Some w → window_at new r ≡ Some w → q ≡ r
    alone-windowed q r w is also = elim (cases_eq q p) [
      | inl here ↦ elim (cases_eq r p) [
        | inl too ↦ here ∙ sym too
        | inr other ↦ absurd (free r w (sym (windows q ∙ given-same (window_at old) p o q here) ∙ is) (sym (windows r ∙ given-other (window_at old) p o r other) ∙ also))
      ]
      | inr other ↦ elim (cases_eq r p) [
        | inl too ↦ absurd (free q w (sym (windows r ∙ given-same (window_at old) p o r too) ∙ also) (sym (windows q ∙ given-other (window_at old) p o q other) ∙ is))
        | inr neither ↦ h.alone q r w (sym (windows q ∙ given-other (window_at old) p o q other) ∙ is) (sym (windows r ∙ given-other (window_at old) p o r neither) ∙ also)
      ]
    ]

    module _ (released : (w : ℕ) → w < window_limit → holder_at middle w ≡ held_by (window_at old p) 0 (holder_at holders) w)
        (held : (w : ℕ) → w < window_limit → holder_at holders' w ≡ held_by o p (holder_at middle) w) where
      panel-windowed : (q w : ℕ) → w < window_limit → window_at new q ≡ Some w → holder_at holders' w ≡ q
      panel-windowed q w few is = search (rules, cases_eq, held-same, given-same, given-other, held-other)

      pub indexed-windowed : length middle ≡ length holders → length holders' ≡ length middle
          → ((q : ℕ) → contains numbers' q ≡ (if q == p then is_some o else contains numbers q)) → IsIndexed new numbers' holders'
      indexed-windowed first second taken = grind (arith, cases_eq, eq-eqb, ne_eqb, panel-windowed, alone-windowed, held-same, given-same, held-other, given-other)

-- as the code has the window
pub free-window : (nodes : List Node) (win : Option WinId) → MatchOption win (Unit {0}) (λ u. (q : ℕ) → window_at nodes q ≡ Some u.0 → ⊥) → (q w : ℕ) → option_map (λ (u : WinId). u.0) win ≡ Some w
    → window_at nodes q ≡ Some w → ⊥
free-window nodes win h q w e is = grind arith

pub some-window : (win : Option WinId) → is_some win ≡ is_some (option_map (λ (u : WinId). u.0) win)
some-window win = grind arith
