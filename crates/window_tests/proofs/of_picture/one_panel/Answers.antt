-- Panels of which one has a window of the table are sound.
use Rattle.std.proofs.Common.{◌≡◌, ◌≢◌, ℕ, ap, arith, ◌∙◌}
use Rattle.std.specs.Prelude.{IsSome, IsSomeAnd}
use Rattle.world.specs.PanelOrder.{Panels, first_panels, standard_screen}
use Rattle.world.specs.Sound.{AreSoundPanels}
use Rattle.world.specs.WindowMaps.{WindowMap}
use Rattle.world.specs.Effects.{with_panel}
use Rattle.world.specs.calls.Stacking.{IsSoundOrder, next_panel}
use Rattle.grids.specs.Tables.{windows}
use Rattle.stack.specs.Tables.{panels}
use Rattle.window_tests.proofs.of_picture.one_panel.Goals as goal

-- panels of which one has a window, and none another
one-sound : (window : WindowMap) (ps : Panels) (w p : ℕ) → IsSoundOrder ps → ps ≡ with_panel first_panels p w → IsSomeAnd (window w) (λ a. IsSome a.place) → w ≢ standard_screen
    → AreSoundPanels window ps
one-sound window ps w p h is there other = let each = h.each in grind (arith, each)

pub returns : goal.returns
returns c =
    let answer = c.in_ok-getbegyx.ensures.answer in
    one-sound (windows c.args.table.now).window (panels c.new_panel.new.self) 1 (next_panel first_panels) c.new_panel.ensures.sound
    (c.in_ok-new_panel.ensures.arranged ∙ ap (λ (ps : Panels). with_panel ps (next_panel ps) 1) c.new-stack.ensures) (grind (arith, answer)) (λ same. cc)
