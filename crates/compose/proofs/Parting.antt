-- What a call on panels damages: the part of the panel that it names, as it was, and that of the panel that it changed or made, as it is.
use Rattle.std.specs.Prelude.{◌≡◌, ◌+◌, ◌||◌, ◌∷◌, ◌==◌}
use Rattle.compose.specs.{ℕ, Bool, true, false, Option, Some, None, List, [], refl, arith, MatchOption, ⊤, find, is_none, unwrap_or, option_map, option_map_or, true≢false, Rect, WinId, Panels}
use Rattle.compose.specs.{WindowMap, Windows, AreSoundPanels, Order, order_reply, orders, panels_after, windows_after, order_shows_at, panel_shows_at, stays_on_top, after_stacking, new_panel_number}
use Rattle.compose.specs.{next_panel, stacking_order, Reply, Stacking, IsFrameWithin, changed_panel, named_panel, ordered_panel, top_window}
use Rattle.picture.proofs.VisiblePanels.{absent-hidden}

find-free : (window : ℕ → Option ℕ) (ps : List ℕ) (p : ℕ) → find (λ q. is_none (window q)) ps ≡ Some p → window p ≡ None
find-free window [] p is = cc
find-free window (q ∷ ps) p is = grind (arith, (find-free window ps))

next-free : (window : WindowMap) (ps : Panels) (o : Option ℕ) → AreSoundPanels window ps → new_panel_number ps ≡ o → ps.window (unwrap_or o 0) ≡ None
next-free window ps None sound is = let none = sound.each 0 in grind arith
next-free window ps (Some p) sound is = find-free ps.window _ p is

-- a new panel wasn't visible
next-hidden : (window : WindowMap) (ps : Panels) (y x : ℕ) → AreSoundPanels window ps → panel_shows_at window ps (next_panel ps) y x ≡ false
next-hidden window ps y x sound = rw (← absent-hidden ps.window (next_panel ps) ps.visible sound.visible (next-free window ps (new_panel_number ps) sound refl)) refl

-- where the panel p holds the place, if it is one
abbrev pub part_shows : Windows → Panels → ℕ → ℕ → Option ℕ → Bool
part_shows ws ps y x o = option_map_or (λ p. panel_shows_at ws.window ps p y x) o false

-- a panel that is put elsewhere in the order stays on top
abbrev pub order_stays : Panels → Order → Bool
order_stays ps (orders p order) = stays_on_top ps order p
order_stays ps _ = false

-- it does so where the window on top is the same one before and after
pub stays-where-same : (ps : Panels) (stacking : Stacking) (one other : Option WinId) → option_map (λ (u : WinId). u.0) one ≡ top_window ps (ordered_panel stacking)
    → option_map (λ (u : WinId). u.0) other ≡ top_window (after_stacking ps stacking) (ordered_panel stacking)
    → option_map_or (λ w. option_map_or (λ u. u.0 == w.0) other false) one false ≡ order_stays ps (stacking_order ps stacking)
stays-where-same ps stacking one other was is = grind arith

-- where a panel stays on top, no place is affected
pub unseen-where-same : (ws : Windows) (ps : Panels) (order : Order) (y x : ℕ) → order_stays ps order ≡ true → order_shows_at ws ps order y x ≡ false
unseen-where-same ws ps order y x stays = grind (arith, true≢false)

-- The part before the call and the part after it make up what the call changes, where they hold what the panel had that it names, and
-- what the panel has that it changed, and the panel doesn't stay on top.
pub stacking-parts : (ws new : Windows) (ps rest : Panels) (stacking : Stacking) (reply : Reply) (named changed : Option ℕ) (before after : Bool) (y x : ℕ) → AreSoundPanels ws.window ps
    → new ≡ windows_after ws ps (stacking_order ps stacking) → rest ≡ panels_after ps (stacking_order ps stacking) → order_stays ps (stacking_order ps stacking) ≡ false
    → reply ≡ order_reply (stacking_order ps stacking) → named ≡ named_panel stacking → changed ≡ changed_panel stacking reply → before ≡ part_shows ws ps y x named → after ≡ part_shows new rest y x changed
    → order_shows_at ws ps (stacking_order ps stacking) y x ≡ (before || after)
stacking-parts ws new ps rest stacking reply named changed before after y x sound is are moves said name change was will = grind (arith, (next-hidden ws.window ps y x))

pub part-within : (lines columns height : ℕ) (part : Option Rect) → MatchOption part ⊤ (IsFrameWithin lines columns) → lines ≡ height → MatchOption part ⊤ (λ r. IsFrameWithin height (r.right + 1) r)
part-within lines columns height part h same = grind arith
