-- Tables of panels: what is known of each, and each call's table.
use Rattle.std.specs.Prelude.{◌≡◌, ◌<◌, ◌⊎◌, ◌∷◌, ◌++◌}
use Rattle.stack.specs.{ℕ, true, false, Option, None, Some, IsSome, List, [], length, sym, subst, ◌∙◌, refl, inl, inr, arith, eqb, rules, is_none, is_some, eqb-false, cases_eq, length_push}
use Rattle.stack.specs.{All-from_recursion, apart_from_distinct, Hidden, first_of, Panels, first_panels, after_del_panel, after_replace_panel, is_hidden, without, IsSoundOrder, visible_tests}
use Rattle.stack.specs.{with_panel, with_entry, no_node, node_at, window_at, window_in, from_bottom, IsOut, IsPanel, IsThreaded, panels, table_of, IsPanelTable, PanelTable, Entered, IsFree}
use Rattle.stack.specs.{NodeMade, Windowed, Reordered}
use Rattle.stack.specs.declared.nodes.Node.{Node}
use Rattle.stack.proofs.DistinctNumbers.{distinct-once, each-weaker, out-each}
use Rattle.stack.proofs.Threads.{from_bottom-is, panel-below, panel-same, window-is}
use Rattle.stack.proofs.Windows.{given-other, panels-are, threaded-windowed, threaded-pushed, window-free, given-same}

-- ---- what is known of each

module _ (nodes : List Node) (h : IsPanelTable nodes) where
  -- what has a window is a panel
  pub is-panel : (p w : ℕ) → window_at nodes p ≡ Some w → IsPanel nodes p
  is-panel p w is = grind arith

  pub sound : IsSoundOrder (panels (table_of nodes))
  sound = record {
    once = λ i j d lt within. eqb-false _ _ (apart_from_distinct eqb (from_bottom nodes) i j d (distinct-once (from_bottom nodes) h.threaded.once) lt within);
    visible = All-from_recursion _ _ (each-weaker _ (λ p. IsSome ((panels (table_of nodes)).window p)) (λ p panel. rw (window-is nodes p) panel.1) _ h.threaded.panels);
    each = λ p. grind (arith, is-panel, panel-below, window-is);
  }

-- of the table that a stack shows
pub sound_shown : (nodes : List Node) (t : PanelTable) → table_of nodes ≡ t → IsPanelTable nodes → IsSoundOrder (panels t)
sound_shown nodes t is h = subst (λ (t : PanelTable). IsSoundOrder (panels t)) is (sound nodes h)

-- ---- a new stack

pub first-is : from_bottom (no_node ∷ []) ≡ []
first-is = from_bottom-is (no_node ∷ []) [] (grind arith)

pub first-table : IsPanelTable (no_node ∷ [])
first-table = grind (arith, first-is)

pub first-panels : panels (table_of (no_node ∷ [])) ≡ first_panels
first-panels = panels-are (no_node ∷ []) [] (λ p. None) first-is (λ p. grind arith)

-- ---- the order changed

pub reordered-panels : (old new : List Node) (order : List ℕ) → Reordered old new order → panels (table_of new) ≡ record (panels (table_of old)) { visible = order }
reordered-panels old new order h = grind (arith, panels-are, window-is)

pub reordered-table : (old new : List Node) (order : List ℕ) → IsPanelTable old → Reordered old new order → IsPanelTable new
reordered-table old new order table h = grind arith

-- ---- a window changed

module _ (old new : List Node) (p : ℕ) (o : Option ℕ) (table : IsPanelTable old) (panel : IsPanel old p) (windowed : Windowed old new p o) where
  windowed-threaded : IsSome o ⊎ IsOut p (from_bottom old) → IsThreaded new (from_bottom old)
  windowed-threaded some = threaded-windowed old new p o windowed (from_bottom old) some table.threaded

  pub windowed-table : IsSome o ⊎ IsOut p (from_bottom old) → ((q w : ℕ) → o ≡ Some w → window_at old q ≡ Some w → ⊥) → IsPanelTable new
  windowed-table some apart = search (rules, given-other, cases_eq, given-same, from_bottom-is, windowed-threaded)

  pub windowed-panels : IsSome o ⊎ IsOut p (from_bottom old) → panels (table_of new) ≡ record { visible = from_bottom old; window = with_entry ((panels (table_of old)).window) p o }
  windowed-panels some = grind (arith, panels-are, from_bottom-is, windowed-threaded, window-is)

-- ---- the calls

-- a panel is deleted
module _ (old mid new : List Node) (p : ℕ) (table : IsPanelTable old) (panel : IsPanel old p) (order : Reordered old mid (without p (from_bottom old))) (out : IsOut p (from_bottom mid))
    (windowed : Windowed mid new p None) where
  pub deleted-table : IsPanelTable new
  deleted-table = windowed-table mid new p None (reordered-table old mid _ table order) (panel-same old mid order.windows p panel) windowed (inr out) (λ q w none is. cc)

  pub deleted-panels : panels (table_of new) ≡ after_del_panel (panels (table_of old)) p
  deleted-panels =
      let given = windowed-panels mid new p None (reordered-table old mid _ table order) (panel-same old mid order.windows p panel) windowed (inr out) in
      let before = reordered-panels old mid _ order in grind arith

-- a panel's window is another
module _ (old new : List Node) (p w : ℕ) (table : IsPanelTable old) (panel : IsPanel old p) (windowed : Windowed old new p (Some w)) where
  pub replaced-table : ((q : ℕ) → window_at old q ≡ Some w → ⊥) → IsPanelTable new
  replaced-table none = windowed-table old new p (Some w) table panel windowed (inl refl) (λ q v same is. none q (is ∙ sym same))

  pub replaced-panels : panels (table_of new) ≡ after_replace_panel (panels (table_of old)) p w
  replaced-panels = windowed-panels old new p (Some w) table panel windowed (inl refl)

-- a panel is made
module _ (old mid new : List Node) (p w : ℕ) (table : IsPanelTable old) (free : IsFree old p) (entered : Entered old mid p w) (order : Reordered mid new (from_bottom mid ++ p ∷ [])) where
  entered-table : ((q : ℕ) → window_at old q ≡ Some w → ⊥) → IsPanelTable mid
  entered-table none = grind (arith, given-other, cases_eq, given-same)

  pub made-table : ((q : ℕ) → window_at old q ≡ Some w → ⊥) → IsPanelTable new
  made-table none = reordered-table mid new (from_bottom mid ++ p ∷ []) (entered-table none) order

  pub made-panels : panels (table_of new) ≡ with_panel (panels (table_of old)) p w
  made-panels = grind (arith, reordered-panels, panels-are, window-is)

-- a number is a panel's
module _ (old new : List Node) (p w : ℕ) (table : IsPanelTable old) (free : IsFree old p) where
  free-out : IsOut p (from_bottom old)
  free-out = grind (arith, out-each)

  pub entered-windowed : p < length old → Windowed old new p (Some w) → Entered old new p w
  entered-windowed lt windowed =
      let threaded = threaded-windowed old new p (Some w) windowed (from_bottom old) (inl refl) table.threaded in
      let is = from_bottom-is new (from_bottom old) threaded in
      let out = free-out in grind arith

-- its node was made before
module _ (old mid new : List Node) (p w : ℕ) (free : IsFree old p) (made : NodeMade old mid p) where
  pub entered-made : Windowed mid new p (Some w) → Entered old new p w
  entered-made windowed = let entered = entered-windowed mid new p w made.table (grind arith) made.within windowed in grind arith

module _ (old : List Node) (p : ℕ) (table : IsPanelTable old) (free : IsFree old p) where
  module _ (node : Node) (last : p ≡ length old) (window : window_in node ≡ None) (above : node.above ≡ p) (below : node.below ≡ p) where
    pub made-pushed : NodeMade old (old ++ node ∷ []) p
    made-pushed =
        let threaded = threaded-pushed old node (from_bottom old) table.some_node (above ∙ last) (below ∙ last) (rw last at (free-out old old p 0 table free)) table.threaded in
        grind (arith, length_push, from_bottom-is, window-free)

-- ---- tests

pub panel-from : (nodes : List Node) (table : IsPanelTable nodes) (p : ℕ) (node : Node) → node ≡ node_at nodes p → is_some node.window ≡ true → IsPanel nodes p
panel-from nodes table p node is has = grind arith

pub taken : (nodes : List Node) (p : ℕ) → IsPanel nodes p → is_none ((panels (table_of nodes)).window p) ≡ false
taken nodes p panel = grind (arith, window-is)

pub refused-hidden : (a : Panels) (p : ℕ) → is_none (a.window p) ≡ false → is_hidden a p ≡ true → first_of (visible_tests a p) ≡ Some Hidden
refused-hidden a p there hidden = rw there (rw hidden refl)

pub accepted-visible : (a : Panels) (p : ℕ) → is_none (a.window p) ≡ false → is_hidden a p ≡ false → first_of (visible_tests a p) ≡ None
accepted-visible a p there shown = rw there (rw shown refl)
