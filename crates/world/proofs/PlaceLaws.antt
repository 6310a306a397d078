-- Which windows have a place on the screen after each effect, and that panels stay sound.
use Rattle.std.specs.Prelude.{◌≡◌, if◌then◌else◌, ◌≢◌}
use Rattle.world.specs.{ℕ, Bool, true, false, Option, Some, None, arith, IsSome, IsSomeAnd, is_some, option_map, option_map_or, ne_eqb, Place, Window, WindowMap, Windows, with_change, Panels}
use Rattle.world.specs.{standard_screen, AreSoundPanels, Change, Edit, after_change, after_edit, deletes, edits, moved_to, under_number}
use Rattle.world.proofs.Allowed.{IsAllowed, not-in-panel}
use Rattle.world.proofs.PictureLaws.{SameView}
use Rattle.world.proofs.WritingLaws.{view-edit}

abbrev pub has_place : Option Window → Bool
has_place o = option_map_or (λ a. is_some a.place) o false

-- the same windows have places
abbrev pub SamePlaces : Windows → Windows → Type 0
SamePlaces one other = (u : ℕ) → has_place (one.window u) ≡ has_place (other.window u)

pub same_if : (b : Bool) (o : Option Window) (change : Window → Window) → ((a : Window) → is_some (change a).place ≡ is_some a.place)
    → has_place (if b then option_map change o else o) ≡ has_place o
same_if b o change h = grind arith

-- ---- one change

pub places-changed : (windows : Windows) (w : ℕ) (change : Window → Window) → ((a : Window) → is_some (change a).place ≡ is_some a.place)
    → SamePlaces (record windows { window = with_change windows.window w change }) windows
places-changed windows w change h u = grind arith

-- ---- edits and marks

-- windows of the same outlines
places-view : (new old : Windows) → SameView new.window old.window → SamePlaces new old
places-view new old view u = grind arith

pub places-edit : (windows : Windows) (edit : Edit) → SamePlaces (after_edit windows edit) windows
places-edit windows edit = grind (arith, places-view, view-edit)

-- ---- changes

pub keeps-other : (windows : Windows) (n : ℕ) (o : Option Window) (w : ℕ) → w ≢ n → has_place (windows.window w) ≡ true → has_place ((under_number windows n o).window w) ≡ true
keeps-other windows n o w other h = grind (arith, ne_eqb)

pub keeps-moved : (windows : Windows) (v : ℕ) (place : Place) (w : ℕ) → has_place (windows.window w) ≡ true → has_place ((moved_to windows v place).window w) ≡ true
keeps-moved windows v place w h = grind arith

-- the window of a panel
pub keeps-change : (windows : Windows) (panels : Panels) (change : Change) → AreSoundPanels windows.window panels → IsAllowed windows panels change
    → (p w : ℕ) → panels.window p ≡ Some w → has_place (windows.window w) ≡ true → has_place ((after_change windows change).window w) ≡ true
keeps-change windows panels (edits edit) sound allowed p w is h = grind (arith, places-edit)
keeps-change windows panels (deletes v) sound allowed p w is h = keeps-other windows v None w (λ same. not-in-panel windows.window panels v sound allowed.1 p w is same) h
keeps-change windows panels change sound allowed p w is h = grind (arith, keeps-other, keeps-moved, places-changed, same_if)

-- ---- panels

pub there-true : (o : Option Window) → IsSomeAnd o (λ a. IsSome a.place) → has_place o ≡ true
there-true o h = grind arith

pub true-there : (o : Option Window) → has_place o ≡ true → IsSomeAnd o (λ a. IsSome a.place)
true-there o h = grind arith

module _ (panels : Panels) (old new : WindowMap) (keeps : (p w : ℕ) → panels.window p ≡ Some w → w ≢ standard_screen → has_place (old w) ≡ true → has_place (new w) ≡ true) where
  -- panels whose windows keep their places stay sound
  pub panels-kept : AreSoundPanels old panels → AreSoundPanels new panels
  panels-kept h = grind (arith, true-there, there-true)
