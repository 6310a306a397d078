-- What determines which windows hold a place of the screen, and which cells they show; and where the search from the
-- top finds the same.
use Rattle.std.specs.Prelude.{◌≡◌, ◌-◌, if◌then◌else◌, ◌∷◌}
use Rattle.world.specs.{ℕ, zero, suc, Bool, true, false, Option, Some, None, List, [], ap, refl, arith, find, reverse, option_map, filter_map, list_any, or_parts, Place, Backing, Window, WindowMap}
use Rattle.world.specs.{cell_at, with_change, own, own_within, window_limit, Panels, cell_on_screen, found_from_top, holds, owner, panel_holds, place_of, standard_screen, window_or_standard}
use Rattle.world.specs.{windows_from_top}
use mathlib.Core.Path.{fun_ext}

-- what doesn't look at what a change changes is the same
pub same-if : {X : Type 0} (P : Option Window → X) (change : Window → Window) → ((a : Window) → P (Some (change a)) ≡ P (Some a))
    → (b : Bool) (o : Option Window) → P (if b then option_map change o else o) ≡ P o
same-if P change h b o = grind arith

-- ---- size and place

pub record Outline : Type 0 where
  pub lines : ℕ
  pub columns : ℕ
  pub place : Option Place

abbrev pub outline : Window → Outline
outline a = record { lines = a.lines; columns = a.columns; place = a.place }

abbrev pub outline_of : Option Window → Option Outline
outline_of o = option_map outline o

module _ (new old : WindowMap) (u : ℕ) (same : outline_of (new u) ≡ outline_of (old u)) where
  pub holds-same : (y x : ℕ) → holds new u y x ≡ holds old u y x
  holds-same y x = grind arith

  pub place-same : place_of new u ≡ place_of old u
  place-same = grind arith

  pub on_screen-same : (y x : ℕ) → cell_at new u (y - (place_of old u).0) (x - (place_of old u).1) ≡ cell_at old u (y - (place_of old u).0) (x - (place_of old u).1)
      → cell_on_screen new u y x ≡ cell_on_screen old u y x
  on_screen-same y x h = grind (arith, place-same)

-- ---- cells

abbrev pub backing_of : Option Window → Option Backing
backing_of o = option_map (λ (a : Window). a.backing) o

module _ (new old : WindowMap) (same : (u : ℕ) → backing_of (new u) ≡ backing_of (old u)) where
  own_within-same : (n u y x : ℕ) → own_within n new u y x ≡ own_within n old u y x
  own_within-same zero u y x = refl
  own_within-same (suc n) u y x = grind (arith, same, (own_within-same n))

  pub own-same : (u y x : ℕ) → own new u y x ≡ own old u y x
  own-same = own_within-same window_limit

  pub cell_at-same : (u y x : ℕ) → cell_at new u y x ≡ cell_at old u y x
  cell_at-same u y x = grind (arith, own-same)

-- ---- the owner is among the windows of the visible panels

-- the window of panel p holds the place, and fails the test
pub record IsFound (window : WindowMap) (panels : Panels) (y x : ℕ) (test : ℕ → Bool) (p : ℕ) : Type 0 where
  pub number : ℕ
  pub is : panels.window p ≡ Some number
  pub there : holds window number y x ≡ true
  pub fails : test number ≡ false

module _ (window : WindowMap) (panels : Panels) (y x : ℕ) (test : ℕ → Bool) where
  found-in : (p : ℕ) (ps : List ℕ) → list_any test (filter_map panels.window ps) ≡ false → find (panel_holds window panels y x) ps ≡ Some p → IsFound window panels y x test p
  found-in p [] none found = cc
  found-in p (q ∷ qs) none found = grind (arith, or_parts, (found-in p qs))

-- ---- where the search finds the same

pub passes-none : (us : List ℕ) → list_any (λ u. false) us ≡ false
passes-none [] = refl
passes-none (u ∷ us) = passes-none us

module _ (new old : WindowMap) (panels : Panels) (y x : ℕ) where
  -- the windows of panels hold the place as they did
  abbrev pub HoldAsBefore : Type 0
  HoldAsBefore = (p u : ℕ) → panels.window p ≡ Some u → holds new u y x ≡ holds old u y x

  owner-same : HoldAsBefore → owner new panels y x ≡ owner old panels y x
  owner-same h = ap (λ (test : ℕ → Bool). find test (reverse panels.visible)) (fun_ext (λ p. grind (arith, h)))

  owned-same : (test : ℕ → Bool) → list_any test (windows_from_top panels) ≡ false
      → ((p u : ℕ) → panels.window p ≡ Some u → holds old u y x ≡ true → test u ≡ false → cell_on_screen new u y x ≡ cell_on_screen old u y x)
      → cell_on_screen new standard_screen y x ≡ cell_on_screen old standard_screen y x
      → (o : Option ℕ) → owner old panels y x ≡ o → cell_on_screen new (window_or_standard panels o) y x ≡ cell_on_screen old (window_or_standard panels o) y x
  owned-same test none cells standard None found = standard
  owned-same test none cells standard (Some p) found = let owns = found-in old panels y x test p (reverse panels.visible) none found in grind arith

  -- no window of a visible panel passes the test, and each that fails it shows the cell that it showed
  pub found-same : (test : ℕ → Bool) → list_any test (windows_from_top panels) ≡ false → HoldAsBefore
      → ((p u : ℕ) → panels.window p ≡ Some u → holds old u y x ≡ true → test u ≡ false → cell_on_screen new u y x ≡ cell_on_screen old u y x)
      → cell_on_screen new standard_screen y x ≡ cell_on_screen old standard_screen y x
      → found_from_top new panels y x ≡ found_from_top old panels y x
  found-same test none hold cells standard = grind (arith, owner-same, owned-same)

-- ---- windows that differ in settings and marks alone

pub record SameCells (new old : WindowMap) : Type 0 where
  pub outlines : (u : ℕ) → outline_of (new u) ≡ outline_of (old u)
  pub backings : (u : ℕ) → backing_of (new u) ≡ backing_of (old u)

pub found-dressed : (new old : WindowMap) → SameCells new old → (panels : Panels) (y x : ℕ) → found_from_top new panels y x ≡ found_from_top old panels y x
found-dressed new old same panels y x = grind (arith, (found-same new old panels y x (λ u. false) (passes-none (windows_from_top panels))), holds-same, on_screen-same, cell_at-same)

pub changed-cells : (window : WindowMap) (w : ℕ) (change : Window → Window) → ((a : Window) → outline_of (Some (change a)) ≡ outline_of (Some a))
    → ((a : Window) → backing_of (Some (change a)) ≡ backing_of (Some a)) → SameCells (with_change window w change) window
changed-cells window w change outlines backings = grind (arith, outlines, backings)
