-- A window keeps its size and its settings where something is written; and other settings are one change of it.
use Rattle.std.specs.Prelude.{◌≡◌, ◌<◌}
use Rattle.windows.specs.{ℕ, Option, Some, None, IsSome, IsSomeAnd, arith, refl, ◌∙◌, eqb-true, and_le_l, and_mask, or_lt, bits_of, valid_attributes, without, bit_or, Window, WindowMap, Windows}
use Rattle.windows.specs.{GridPlace, Drawing, own, after_drawing, put_windows, put, HasPlace, after_set_settings, set, AreSoundWindows, Settings, IsStateOf}
use Rattle.windows.specs.declared.state.WindowState.{WindowState}

-- a window of a sound world has the state that its size and its settings make
pub state-from : (windows : Windows) (w lines columns : ℕ) (settings : Settings) → AreSoundWindows windows
    → IsSomeAnd (windows.window w) (λ a. (a.lines ≡ lines) × (a.columns ≡ columns) × (a.settings ≡ settings)) → IsStateOf windows w (record { lines = lines; columns = columns; settings = settings })
state-from windows w lines columns settings sound there = grind arith

-- ---- after a write

some-place : (o : Option GridPlace) → IsSome o → (p : GridPlace) × (o ≡ Some p)
some-place None h = cc
some-place (Some p) h = (p, refl)

pub spot-of : (windows : Windows) (w : ℕ) (s : WindowState) → IsStateOf windows w s → (p : GridPlace) × (own windows.window w 0 0 ≡ Some p)
spot-of windows w s h = some-place (own windows.window w 0 0) h.chain_ends

pub window-put : (window : WindowMap) (w : ℕ) (a : Window) (p : GridPlace) (f : Drawing) → window w ≡ Some a → own window w 0 0 ≡ Some p
    → put_windows window w f w ≡ Some (after_drawing w a p f w a)
window-put window w a p f there leads = grind arith

pub state-put : (windows : Windows) (w : ℕ) (s : WindowState) (f : Drawing) → IsStateOf windows w s → AreSoundWindows (put windows w f) → IsStateOf (put windows w f) w s
state-put windows w s f h sound = let spot = spot-of windows w s h in state-from (put windows w f) w s.lines s.columns s.settings sound (grind (arith, window-put))

pub state-written : (windows new : Windows) (w : ℕ) (s : WindowState) (f : Drawing) → IsStateOf windows w s → new ≡ put windows w f → AreSoundWindows new → IsStateOf new w s
state-written windows new w s f h is sound = grind (arith, state-put)

-- the places of a window
pub has_place : (windows : Windows) (w : ℕ) (s : WindowState) (y x : ℕ) → IsStateOf windows w s → y < s.lines → x < s.columns → HasPlace windows.window w y x
has_place windows w s y x h below on = grind arith

-- ---- other settings

pub valid_attributes-small : (bits : ℕ) → bits < 64 → valid_attributes bits ≡ bits
valid_attributes-small bits h = and_mask bits 6 ∙ omega arith

-- sets of the six, both together and one without the other
pub either-few : (a b : ℕ) → a < 64 → b < 64 → bit_or a b < 64
either-few a b h k = or_lt 6 a b h k

pub without-few : (a b : ℕ) → a < 64 → without a b < 64
without-few a b h = grind (arith, and_le_l)

pub ruleset of_the_six = (either-few, without-few)

-- settings of the six attributes are kept as they are
pub set-all : (windows : Windows) (w : ℕ) (settings : Settings) → bits_of settings.attrs < 64 → after_set_settings windows w settings ≡ set windows w (λ before. settings)
set-all windows w settings few = grind (arith, valid_attributes-small)

-- a window of a known state is set to what a change makes of its settings
pub set-known : (windows : Windows) (w : ℕ) (s : WindowState) (change : Settings → Settings) → IsStateOf windows w s
    → set windows w (λ before. change s.settings) ≡ set windows w change
set-known windows w s change h = grind (arith, eqb-true)
