-- What each effect requires of windows and panels, and that the tests of its call ensure it.
use Rattle.std.specs.Prelude.{◌≡◌, ◌+◌, if◌then◌else◌, ◌==◌}
use Rattle.world.specs.{ℕ, zero, suc, Bool, false, Option, Some, None, arith, ⊤, Refusal, WindowMap, Windows, Panels, is_in_panel, standard_screen, AreSoundPanels, IsSoundPanel, Change, asks}
use Rattle.world.specs.{deletes, edits, makes, marks, moves, shifts, free_among, has_derived, has_no_parent, making_change, making_refusal}
use Rattle.world.proofs.PanelLaws.{in_panel-some}
use Rattle.world.specs.declared.written_calls.Making.{Making}

-- a new window has a free number; one that is deleted or moved is in no panel, and is not the standard screen
abbrev pub IsAllowed : Windows → Panels → Change → Type 0
IsAllowed windows panels (asks reply) = ⊤
IsAllowed windows panels (edits edit) = ⊤
IsAllowed windows panels (marks test touched) = ⊤
IsAllowed windows panels (makes n a) = windows.window n ≡ None
IsAllowed windows panels (deletes w) = ((w == standard_screen) ≡ false) × (is_in_panel panels w ≡ false) × (has_derived windows.window w ≡ false)
IsAllowed windows panels (moves w place) = ((w == standard_screen) ≡ false) × (is_in_panel panels w ≡ false)
IsAllowed windows panels (shifts w place) = has_no_parent windows.window w ≡ false

-- ---- refusals

-- a call that isn't refused fails its first test, and isn't refused for the others
pub passed : (test : Bool) (e : Refusal) (rest : Option Refusal) → (if test then Some e else rest) ≡ None → (test ≡ false) × (rest ≡ None)
passed test e rest h = grind arith

-- ---- a free number

pub free-number : (n k : ℕ) (window : WindowMap) (w : ℕ) → free_among n k window ≡ Some w → window w ≡ None
free-number zero k window w is = cc
free-number (suc n) k window w is = grind (arith, (free-number n (k + 1) window w))

-- ---- what panels have

pub sound-panel : (window : WindowMap) (panels : Panels) → AreSoundPanels window panels → (p u : ℕ) → panels.window p ≡ Some u → IsSoundPanel window panels p u
sound-panel window panels sound p u is = grind arith

pub not-in-panel : (window : WindowMap) (panels : Panels) (w : ℕ) → AreSoundPanels window panels → is_in_panel panels w ≡ false
    → (p u : ℕ) → panels.window p ≡ Some u → u ≡ w → ⊥
not-in-panel window panels w sound none p u is same = grind (arith, in_panel-some)

-- ---- the calls that make, move and delete

pub allowed-making : (windows : Windows) (panels : Panels) (making : Making) → making_refusal windows (is_in_panel panels) making ≡ None
    → IsAllowed windows panels (making_change windows making)
allowed-making windows panels making accepted = grind (arith, passed, free-number)
