-- Of a write in the standard screen, it shows the frame; and where no panel is visible, nothing else shows anything of it.
use Rattle.std.specs.Prelude.{◌≡◌, ◌+◌, ◌<◌, ◌≤◌, ◌||◌, ◌∷◌}
use Rattle.compose.specs.{ℕ, Bool, false, Option, Some, List, [], length, arith, sym, ◌∙◌, IsSome, IsSomeAnd, option_and_then, reverse, filter_map, list_any, origin, Rect, AreRectangle, Panels}
use Rattle.compose.specs.{standard_screen, SharesPart, AreSoundWindows, IsStandardScreen, GridPlace, HasPlace, Window, Windows, own, frame_shows_at, shows_at, frame_holds}
use Rattle.grids.proofs.Ancestors.{sound-there}
use Rattle.grids.proofs.Seen.{seen-itself}
use Rattle.grids.proofs.Touches.{there-and}
use Rattle.picture.proofs.PartLaws.{shared-same}
use Rattle.picture.proofs.Placement.{placed}

some_place : (o : Option GridPlace) → IsSome o → (p : GridPlace) × (o ≡ Some p)
some_place o h = grind arith

place-of : (ws : Windows) (o : Option Window) → IsSomeAnd o (IsStandardScreen ws) → option_and_then (λ (a : Window). a.place) o ≡ Some origin
place-of ws o h = grind arith

inside-of : (ws : Windows) (o : Option Window) (y x : ℕ) → IsSomeAnd o (IsStandardScreen ws) → IsSomeAnd o (λ a. (y < a.lines) × (x < a.columns)) → (y < ws.lines) × (x < ws.columns)
inside-of ws o y x h k = grind arith

or-none : (a : Bool) → (a || false) ≡ a
or-none a = grind arith

none-else : (window : ℕ → Option ℕ) (visible : List ℕ) (test : ℕ → Bool) → length visible ≡ 0
    → list_any test (standard_screen ∷ filter_map window (reverse visible)) ≡ test standard_screen
none-else window [] test none = or-none (test standard_screen)
none-else window (p ∷ visible) test none = cc

module _ (ws : Windows) (r : Rect) (sound : AreSoundWindows ws) (inside : HasPlace ws.window standard_screen r.bottom r.right) where
  -- the standard screen's places are the screen's
  pub standard-inside : (r.bottom < ws.lines) × (r.right < ws.columns)
  standard-inside = inside-of ws (ws.window standard_screen) r.bottom r.right sound.standard inside

  module _ (lines : r.top ≤ r.bottom) (columns : r.left ≤ r.right) where
    itself : AreRectangle (SharesPart ws.window standard_screen r standard_screen) (Some r)
    itself =
        let a = there-and (ws.window standard_screen) (λ b. (r.bottom < b.lines) × (r.right < b.columns)) inside in
        let p = some_place (own ws.window standard_screen 0 0) (sound-there ws standard_screen a.0 sound a.1).chain_ends in
        seen-itself ws.window standard_screen r a.0 p.0 a.1 p.1 lines columns a.2

    pub standard-shows : (y x : ℕ) → frame_holds r y x ≡ shows_at ws.window standard_screen r y x standard_screen
    standard-shows y x =
        let stands = placed ws standard_screen origin sound (place-of ws (ws.window standard_screen) sound.standard) in
        let top : r.top ≡ 0 + r.top = omega arith in
        let left : r.left ≡ 0 + r.left = omega arith in
        let bottom : r.bottom ≡ 0 + r.bottom = omega arith in
        let right : r.right ≡ 0 + r.right = omega arith in
        (λ i. frame_holds (record { top = top i; left = left i; bottom = bottom i; right = right i }) y x)
        ∙ shared-same ws standard_screen 0 0 stands.0 stands.1 standard_screen r r itself y x

    -- no other window shows anything of it
    pub standard-alone : (ps : Panels) → length ps.visible ≡ 0 → (y x : ℕ) → frame_holds r y x ≡ frame_shows_at ws.window ps standard_screen (Some r) y x
    standard-alone ps none y x = standard-shows y x ∙ sym (none-else ps.window ps.visible (shows_at ws.window standard_screen r y x) none)
