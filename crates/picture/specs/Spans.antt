-- The spans of a line: columns side by side at which the search from the top finds the same panel, or the standard
-- screen.
use Rattle.std.specs.Prelude.{◌≡◌, ◌≢◌, ◌+◌, ◌<◌, ◌≤◌}
use Rattle.picture.specs.Names.{ℕ, true, All, MatchOption, ⊤, Panels, owner, WindowMap, is_no_pad, panel_number}
use Rattle.picture.specs.declared.span.Span.{Span}

-- the window of each visible panel is there, and no pad
abbrev pub HasPanelWindows : WindowMap → Panels → Type 0
HasPanelWindows window panels = All (λ p. MatchOption (panels.window p) ⊤ (λ w. is_no_pad window w ≡ true)) panels.visible

-- The search finds the span's panel at each column of line y from x on, up to the span's end, and another one, or none,
-- in the column after that, where that isn't past the edge.
pub record IsSpan (window : WindowMap) (panels : Panels) (y x edge : ℕ) (span : Span) : Type 0 where
  pub from : x ≤ span.end
  pub within : span.end ≤ edge
  pub same : (u : ℕ) → x ≤ u → u ≤ span.end → owner window panels y u ≡ panel_number span.panel
  pub another : span.end < edge → owner window panels y (span.end + 1) ≢ panel_number span.panel
