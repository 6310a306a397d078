-- No window and no panel has a number past the last that there may be.
use Rattle.std.proofs.Common.{◌≡◌, ℕ, ◌<◌, ◌≤◌, Bool, false, is_some, Option, Some, None, refl, arith, ⊎_elim}
use Rattle.std.proofs.lemmas.Bool.{cases_lt}
use Rattle.std.specs.Prelude.{MatchOption, ⊤}
use Rattle.cell.specs.declared.limits.TheConstants.{MOST_PANELS, MOST_WINDOWS}
use Rattle.world.specs.PanelOrder.{Panels}
use Rattle.world.specs.Sound.{AreSoundPanels, AreSoundWindows, IsSoundPanel, IsSoundWindow}
use Rattle.world.specs.WindowMaps.{Window, WindowMap, Windows}

no_window : (windows : Windows) (m : ℕ) (o : Option Window) → MatchOption o ⊤ (IsSoundWindow windows m) → MOST_WINDOWS < m → is_some o ≡ false
no_window windows m None sound past = refl
no_window windows m (Some a) sound past = absurd (omega (arith, sound.number, past))

pub no-window : (windows : Windows) → AreSoundWindows windows → (m : ℕ) → MOST_WINDOWS < m → is_some (windows.window m) ≡ false
no-window windows sound m past = no_window windows m (windows.window m) (sound.each m) past

no_panel : (window : WindowMap) (panels : Panels) (m : ℕ) (o : Option ℕ) → MatchOption o ⊤ (IsSoundPanel window panels m) → MOST_PANELS < m → is_some o ≡ false
no_panel window panels m None sound past = refl
no_panel window panels m (Some w) sound past = absurd (omega (arith, sound.number, past))

pub no-panel : (window : WindowMap) (panels : Panels) → AreSoundPanels window panels → (m : ℕ) → MOST_PANELS < m → is_some (panels.window m) ≡ false
no-panel window panels sound m past = no_panel window panels m (panels.window m) (sound.each m) past

-- none was found up to n, and past a last number, which n is past, there is none
pub none-after : (test : ℕ → Bool) (last n after : ℕ) → last < n → ((m : ℕ) → after < m → m < n → test m ≡ false) → ((m : ℕ) → last < m → test m ≡ false)
    → (m : ℕ) → after < m → test m ≡ false
none-after test last n after ended looked past m later = ⊎_elim (λ (below : m < n). looked m later below) (λ (above : n ≤ m). past m (omega (arith, ended, above))) (cases_lt m n)
