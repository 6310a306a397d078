-- A call on a panel leaves the picture as it is at every place of the screen where the panel isn't seen, before or
-- after.
use Rattle.std.specs.Prelude.{◌≡◌, ◌≢◌, ◌<◌, ◌==◌, ◌&&◌, ◌||◌, ◌∷◌, ◌++◌}
use Rattle.world.specs.{ℕ, Bool, true, false, not, Option, Some, None, List, [], inl, inr, ap, refl, arith, find, is_none, reverse, unwrap_or, ⊤, last_or, list_any, option_map_or, cases_eq, eq-eqb}
use Rattle.world.specs.{eqb-true, ne_eqb, or_parts, and-false, append-nil, filter-append, WindowMap, Windows, Panels, cell_on_screen, found_from_top, holds, panel_holds, standard_screen, topmost}
use Rattle.world.specs.{window_or_standard, AreSoundPanels, AreSoundWindows, Order, adds, carries, changes, with_entry, moved_to, orders, panels_after, windows_after, order_shows_at, panel_shows_at}
use Rattle.world.specs.{stays_on_top, stacking_order, stacking_refusal}
use mathlib.Core.List.{reverse_aux}
use mathlib.Core.Path.{fun_ext}
use Rattle.world.specs.calls.Stacking.{without}
use Rattle.world.proofs.Allowed.{IsAllowed, passed, sound-panel}
use Rattle.world.proofs.MoveLaws.{cell-placed, found-change, holds-placed}
use Rattle.world.specs.declared.written_calls.Stacking.{Stacking}

-- ---- a search that passes the panel p by

-- the test, of another panel
abbrev off : ℕ → (ℕ → Bool) → ℕ → Bool
off p test q = not (q == p) && test q

module _ (p : ℕ) (test : ℕ → Bool) where
  abbrev Searches : List ℕ → Type 0
  Searches qs = (acc rest : List ℕ) → (list_any (λ k. k == p) qs && test p) ≡ false → find test acc ≡ find (off p test) rest
      → find test (reverse_aux qs acc) ≡ find (off p test) (reverse_aux (without p qs) rest)

  search-off : (qs : List ℕ) → Searches qs
  search-off [] acc rest unseen same = same
  search-off (q ∷ qs) acc rest unseen same = grind (arith, eqb-true, (search-off qs))

passing : (test : ℕ → Bool) (ks : List ℕ) (q : ℕ) → find test ks ≡ Some q → test q ≡ true
passing test [] q found = cc
passing test (k ∷ ks) q found = grind (arith, (passing test ks q))

-- ---- the others stay as they were

module _ (new old : WindowMap) (after before : Panels) (p y x : ℕ) where
  record AreOthersKept : Type 0 where
    order : without p after.visible ≡ without p before.visible
    hold : (q : ℕ) → q ≢ p → panel_holds new after y x q ≡ panel_holds old before y x q
    cells : (q : ℕ) → q ≢ p → panel_holds old before y x q ≡ true
        → cell_on_screen new (window_or_standard after (Some q)) y x ≡ cell_on_screen old (window_or_standard before (Some q)) y x
    standard : cell_on_screen new standard_screen y x ≡ cell_on_screen old standard_screen y x

  module _ (kept : AreOthersKept) (unseen : (panel_shows_at old before p y x || panel_shows_at new after p y x) ≡ false) where
    off-same : off p (panel_holds new after y x) ≡ off p (panel_holds old before y x)
    off-same = fun_ext (λ q. elim (cases_eq q p) [
      | inl same ↦ let is = eq-eqb q p same in rw is refl
      | inr other ↦ ap (λ b. not (q == p) && b) (kept.hold q other)
    ])

    cell-by : (o : Option ℕ) → find (off p (panel_holds old before y x)) (reverse (without p before.visible)) ≡ o
        → cell_on_screen new (window_or_standard after o) y x ≡ cell_on_screen old (window_or_standard before o) y x
    cell-by o found = grind (arith, eq-eqb, (passing (off p (panel_holds old before y x)) (reverse (without p before.visible))))

    found-kept : found_from_top new after y x ≡ found_from_top old before y x
    found-kept = grind (arith, search-off, off-same, or_parts, cell-by)

-- where no window changes
reordered : (window : WindowMap) (after before : Panels) (p y x : ℕ) → without p after.visible ≡ without p before.visible → ((q : ℕ) → q ≢ p → after.window q ≡ before.window q)
    → (panel_shows_at window before p y x || panel_shows_at window after p y x) ≡ false → found_from_top window after y x ≡ found_from_top window before y x
reordered window after before p y x order others = grind (arith, found-kept)

-- ---- where the panel p is on top and stays there

-- the topmost panel, if it holds the place, is found first
last-found : (test : ℕ → Bool) (p x : ℕ) (qs acc : List ℕ) → last_or (Some x) qs ≡ Some p → test p ≡ true → find test (reverse_aux qs (x ∷ acc)) ≡ Some p
last-found test p x [] acc is holds = grind arith
last-found test p x (q ∷ qs) acc is holds = grind (arith, (last-found test p q qs (x ∷ acc) is holds))

top-found : (test : ℕ → Bool) (p : ℕ) (qs : List ℕ) → last_or None qs ≡ Some p → test p ≡ true → find test (reverse qs) ≡ Some p
top-found test p [] is holds = cc
top-found test p (q ∷ qs) is holds = grind (arith, last-found)

-- what it says that the panel p is on top with a window
module _ (p : ℕ) (window : WindowMap) (after before : Panels) (y x : ℕ) (stays : stays_on_top before after p ≡ true) where
  both-on-top : (w : ℕ) × (topmost before ≡ Some p) × (before.window p ≡ Some w) × (topmost after ≡ Some p) × (after.window p ≡ Some w)
  both-on-top = grind (arith, eqb-true)

  pub stays-found : without p after.visible ≡ without p before.visible → ((q : ℕ) → q ≢ p → after.window q ≡ before.window q)
      → found_from_top window after y x ≡ found_from_top window before y x
  stays-found order others = grind (arith, both-on-top, top-found, and-false, (reordered window after before p y x order others))

-- ---- the order without the panel p

module _ (p : ℕ) where
  without-last : (qs : List ℕ) → without p (qs ++ p ∷ []) ≡ without p qs
  without-last qs = grind (arith, filter-append, append-nil, eq-eqb)

  without-twice : (qs : List ℕ) → without p (without p qs) ≡ without p qs
  without-twice [] = refl
  without-twice (q ∷ qs) = grind (arith, (without-twice qs))

  given-other : (window : ℕ → Option ℕ) (w : Option ℕ) (q : ℕ) → q ≢ p → with_entry window p w q ≡ window q
  given-other window w q other = grind (arith, ne_eqb)

-- ---- move_panel

module _ (windows : Windows) (panels : Panels) (p v z y x : ℕ) (sound : AreSoundPanels windows.window panels) where
  holds-by : (q : ℕ) → q ≢ p → (o : Option ℕ) → panels.window q ≡ o
      → option_map_or (λ u. holds (moved_to windows (window_or_standard panels (Some p)) (v, z)).window u y x) o false ≡ option_map_or (λ u. holds windows.window u y x) o false
  holds-by q other o is = grind (arith, holds-placed, sound-panel)

  cells-by : (q : ℕ) → q ≢ p → (o : Option ℕ) → panels.window q ≡ o → option_map_or (λ u. holds windows.window u y x) o false ≡ true
      → cell_on_screen (moved_to windows (window_or_standard panels (Some p)) (v, z)).window (unwrap_or o standard_screen) y x ≡ cell_on_screen windows.window (unwrap_or o standard_screen) y x
  cells-by q other o is there = grind (arith, cell-placed, sound-panel)

  found-move_panel : is_none (panels.window p) ≡ false
      → (panel_shows_at windows.window panels p y x || panel_shows_at (moved_to windows (window_or_standard panels (Some p)) (v, z)).window panels p y x) ≡ false
      → found_from_top (moved_to windows (window_or_standard panels (Some p)) (v, z)).window panels y x ≡ found_from_top windows.window panels y x
  found-move_panel some unseen =
      found-kept (moved_to windows (window_or_standard panels (Some p)) (v, z)).window windows.window panels panels p y x
      (grind (arith, holds-by, cells-by, cell-placed, sound-panel)) unseen

-- ---- what each effect wants, which the tests of its call give

-- another order of one panel leaves the others in theirs, with their windows
abbrev pub IsOrdered : Windows → Panels → Order → Type 0
IsOrdered windows panels (changes change) = IsAllowed windows panels change
IsOrdered windows panels (adds p w) = ⊤
IsOrdered windows panels (orders p order) = (without p order.visible ≡ without p panels.visible) × ((q : ℕ) → q ≢ p → order.window q ≡ panels.window q)
IsOrdered windows panels (carries p place) = is_none (panels.window p) ≡ false

pub ordered-stacking : (windows : Windows) (panels : Panels) (stacking : Stacking) → stacking_refusal windows panels stacking ≡ None → IsOrdered windows panels (stacking_order panels stacking)
ordered-stacking windows panels stacking accepted = grind (arith, passed, without-twice, without-last, ne_eqb, eq-eqb)

-- ---- each effect

pub found-order : (windows : Windows) (panels : Panels) (order : Order) (y x : ℕ) → AreSoundWindows windows → AreSoundPanels windows.window panels
    → y < windows.lines → x < windows.columns → IsOrdered windows panels order → order_shows_at windows panels order y x ≡ false
    → found_from_top (windows_after windows panels order).window (panels_after panels order) y x ≡ found_from_top windows.window panels y x
found-order windows panels (adds p w) y x sound panels_sound below left ordered unseen = search (arith, reordered, without-last, given-other)
found-order windows panels order y x sound panels_sound below left ordered unseen = grind (arith, found-change, stays-found, reordered, found-move_panel)
