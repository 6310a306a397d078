-- An order leaves sound panels sound.
use Rattle.std.specs.Prelude.{◌≡◌, ◌≢◌, ◌+◌, ◌-◌, ◌<◌, ◌≤◌, if◌then◌else◌, ◌==◌, ◌∷◌, ◌++◌}
use Rattle.world.specs.{ℕ, zero, suc, false, not, Option, Some, None, List, [], refl, sym, arith, eq-eqb, All, AllPairs, IsSome, IsSomeAnd, MatchOption, find, is_none, unwrap_or, ⊤, range_with_len}
use Rattle.world.specs.{eqb-true, ne_eqb, All-cons, All-filter, All-push, filter_passes, AllPairs-cons, AllPairs-filter, all_pairs_push, MOST_PANELS, Refusal, WindowMap, Windows, Panels}
use Rattle.world.specs.{is_in_panel, panel_limit, standard_screen, AreSoundPanels, IsSoundPanel, Order, adds, orders, panels_after, windows_after, with_entry, next_panel, new_panel_number}
use Rattle.world.specs.{stacking_order, stacking_refusal}
use Rattle.world.specs.calls.Stacking.{without}
use Rattle.world.proofs.Allowed.{passed, sound-panel}
use Rattle.world.proofs.Fits.{FitsOrder}
use Rattle.world.proofs.PanelLaws.{in_panel-some}
use Rattle.world.proofs.PlaceLaws.{keeps-change, keeps-moved, panels-kept}
use Rattle.world.proofs.StackingLaws.{IsOrdered, ordered-stacking}
use Rattle.world.specs.declared.written_calls.Stacking.{Stacking}
use Rattle.world.specs.declared.written_calls.Stacking.TheVariants.{NewPanel, MovePanel, ReplacePanel}

-- ---- panels in which the panel p is put elsewhere, taken out or given a window

module _ (p : ℕ) where
  once-on_top : (order : List ℕ) → AllPairs (λ p q. p ≢ q) order → All (λ q. q ≢ p) order → AllPairs (λ p q. p ≢ q) (order ++ p ∷ [])
  once-on_top order once apart = all_pairs_push (λ p q. p ≢ q) order p once apart

  module _ (window : WindowMap) (panels : Panels) (sound : AreSoundPanels window panels) where
    same-each : (order : List ℕ) (q : ℕ) → MatchOption (panels.window q) ⊤ (IsSoundPanel window (record panels { visible = order }) q)
    same-each order q = grind (arith, sound-panel)

    -- the panel p has another one, or none
    entered-each : (o : Option ℕ) → MatchOption o ⊤ (λ w. (1 ≤ p) × (p ≤ MOST_PANELS) × (w ≢ standard_screen) × IsSomeAnd (window w) (λ a. IsSome a.place) × (is_in_panel panels w ≡ false))
        → (order : List ℕ) (q : ℕ) → MatchOption (with_entry panels.window p o q) ⊤ (IsSoundPanel window (record { visible = order; window = with_entry panels.window p o }) q)
    entered-each o may order q = grind (arith, sound-panel, in_panel-some, eqb-true)

    entered-there : (w : ℕ) → All (λ q. IsSome (with_entry panels.window p (Some w) q)) panels.visible
    entered-there w k d below = grind (arith, (sound.visible k d below))

    -- a free number is none of the visible ones
    new-apart : panels.window p ≡ None → All (λ q. q ≢ p) panels.visible
    new-apart none k d below same = grind (arith, (sound.visible k d below))

    -- the others
    others-once : AllPairs (λ p q. p ≢ q) (without p panels.visible)
    others-once = AllPairs-filter (λ p q. p ≢ q) (λ q. not (q == p)) panels.visible sound.once

    others-there : All (λ q. IsSome (panels.window q)) (without p panels.visible)
    others-there = All-filter (λ q. not (q == p)) (λ q. IsSome (panels.window q)) panels.visible sound.visible

    others-apart : All (λ q. q ≢ p) (without p panels.visible)
    others-apart k d below = grind (arith, (filter_passes (λ q. not (q == p)) panels.visible k d below), eq-eqb)

    parted-there : All (λ q. IsSome (with_entry panels.window p None q)) (without p panels.visible)
    parted-there k d below = grind (arith, (others-there k d below), (others-apart k d below), ne_eqb)

    lowest-once : AllPairs (λ p q. p ≢ q) (p ∷ without p panels.visible)
    lowest-once = AllPairs-cons (λ p q. p ≢ q) p (without p panels.visible) (λ k d below same. others-apart k d below (sym same)) others-once

-- ---- a free number

free-number : (window : ℕ → Option ℕ) (k n : ℕ) (o : Option ℕ) → find (λ p. is_none (window p)) (range_with_len k n) ≡ o → is_none o ≡ false
    → (window (unwrap_or o 0) ≡ None) × (k ≤ unwrap_or o 0) × (unwrap_or o 0 < k + n)
free-number window k zero o is some = cc
free-number window k (suc n) o is some = grind (arith, (free-number window (k + 1) n o))

new-number : (panels : Panels) → is_none (new_panel_number panels) ≡ false → (panels.window (next_panel panels) ≡ None) × (1 ≤ next_panel panels) × (next_panel panels < MOST_PANELS + 1)
unfolding panel_limit
new-number panels = free-number panels.window 1 (panel_limit - 1) (new_panel_number panels) refl

-- ---- each order

pub sound-panels : (windows : Windows) (panels : Panels) (order : Order) → AreSoundPanels windows.window panels → IsOrdered windows panels order → FitsOrder windows panels order
    → AreSoundPanels (windows_after windows panels order).window (panels_after panels order)
sound-panels windows panels (adds p w) sound ordered fits =
    let top : IsSome (with_entry panels.window p (Some w) p) = grind (arith, eq-eqb) in search (once-on_top, new-apart, All-push, entered-there, entered-each)
sound-panels windows panels (orders p order) sound ordered fits = fits
sound-panels windows panels order sound ordered fits =
    panels-kept panels windows.window (windows_after windows panels order).window (λ p w is other. grind (arith, keeps-change, keeps-moved)) sound

-- a call that isn't refused has its panel
panel-there : (o : Option ℕ) (e : Refusal) (rest : Option Refusal) → (if is_none o then Some e else rest) ≡ None → IsSome o
panel-there o e rest h = grind arith

pub fits-stacking : (windows : Windows) (panels : Panels) (stacking : Stacking) → AreSoundPanels windows.window panels
    → stacking_refusal windows panels stacking ≡ None → FitsOrder windows panels (stacking_order panels stacking)
fits-stacking windows panels (NewPanel win) sound accepted = grind (arith, passed, (new-number panels))
fits-stacking windows panels (MovePanel panel y x) sound accepted = grind (arith, passed)
fits-stacking windows panels (ReplacePanel panel win) sound accepted =
    let may = entered-each panel.0 windows.window panels sound (Some win.0) (grind (arith, passed, sound-panel)) in search (entered-there, may)
fits-stacking windows panels stacking sound accepted =
    search (arith, panel-there, same-each, entered-each, others-once, others-there, others-apart, parted-there, once-on_top, lowest-once, All-push, All-cons)

pub sound-stacking : (windows : Windows) (panels : Panels) (stacking : Stacking) → AreSoundPanels windows.window panels → stacking_refusal windows panels stacking ≡ None
    → AreSoundPanels (windows_after windows panels (stacking_order panels stacking)).window (panels_after panels (stacking_order panels stacking))
sound-stacking windows panels stacking sound accepted =
    sound-panels windows panels (stacking_order panels stacking) sound (ordered-stacking windows panels stacking accepted) (fits-stacking windows panels stacking sound accepted)
