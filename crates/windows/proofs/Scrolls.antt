-- The lines of a region, scrolled by a number of lines.
use Rattle.std.specs.Prelude.{◌≡◌, ◌-◌}
use Rattle.windows.specs.{ℕ, ℤ, pos, Some, None, ap, refl, sym, ◌∙◌, arith, Window, Windows, put, frame_of, scrl_drawing, Rect, IsStateOf, window_in_state}
use Rattle.world.proofs.FrameLaws.{frame_of-none}
use Rattle.world.proofs.WindowLaws.{put-nothing}
use Rattle.windows.specs.declared.state.WindowState.{WindowState}
use Rattle.windows.proofs.Drawings.{frame-lines_up, frame-lines_down}

frame-nothing : (a : Window) → frame_of a (λ y x. None) ≡ None
frame-nothing a = frame_of-none a (λ y x. None) (λ y x there. let e = there.some in cc)

module _ (windows : Windows) (w : ℕ) (s : WindowState) (n : ℤ) where
  -- by none

  pub still : n ≡ pos 0 → windows ≡ put windows w (scrl_drawing windows.window w n (window_in_state s))
  still e = sym (ap (λ n. put windows w (scrl_drawing windows.window w n (window_in_state s))) e
      ∙ (λ i. record windows { window = put-nothing windows.window w (λ y x. None) (λ y x. refl) i }))

  pub still_frame : n ≡ pos 0 → None ≡ frame_of (window_in_state s) (scrl_drawing windows.window w n (window_in_state s))
  still_frame e = sym (ap (λ n. frame_of (window_in_state s) (scrl_drawing windows.window w n (window_in_state s))) e ∙ frame-nothing (window_in_state s))

-- by some

pub scrolled_lines : (windows : Windows) (w : ℕ) (s : WindowState) (n : ℤ) (r : Rect) → IsStateOf windows w s → (n ≡ pos 0 → ⊥)
    → r ≡ record { top = s.settings.region.0; left = 0; bottom = s.settings.region.1; right = s.columns - 1 }
    → Some r ≡ frame_of (window_in_state s) (scrl_drawing windows.window w n (window_in_state s))
scrolled_lines windows w s n r h some e = grind (arith, frame-lines_up, frame-lines_down)
