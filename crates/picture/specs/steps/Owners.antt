-- The spans of a line, by their last columns, and the lines of which they are known to be those that the search from
-- the top finds.
use Rattle.std.specs.Prelude.{◌≡◌, ◌≢◌, ◌+◌, ◌<◌, ◌≤◌, ◌==◌, if◌then◌else◌}
use Rattle.picture.specs.Names.{ℕ, true, false, Option, Some, None, List, slice_index, LARGEST_SCREEN, contains, Panels, owner, WindowMap, panel_number}
use Rattle.picture.specs.declared.owners.Owners.{Owners}
use Rattle.picture.specs.declared.span.Span.{Span}
use Rattle.picture.specs.declared.spans.Spans.{Spans}

-- the panel of a number; 0 is that of none
abbrev pub numbered : ℕ → Option ℕ
numbered n = if n == 0 then None else Some n

-- the first end from column x on
pub record IsEndFrom (ends : List ℕ) (x e : ℕ) : Type 0 where
  pub from : x ≤ e
  pub is : contains ends e ≡ true
  pub first : (n : ℕ) → x ≤ n → n < e → contains ends n ≡ false

-- each end is a column of a line
pub record AreInside (spans : Spans) : Type 0 where
  pub few : spans.beyond ≤ LARGEST_SCREEN
  pub each : (e : ℕ) → contains spans.ends e ≡ true → e < spans.beyond

-- A column has the owner that stands at the first end from it on; one after all ends has none. The column after an end
-- has another owner.
pub record AreSpans (o : ℕ → Option ℕ) (spans : Spans) : Type 0 where
  pub same : (x e : ℕ) → IsEndFrom spans.ends x e → o x ≡ numbered (slice_index spans.panels e)
  pub past : (x : ℕ) → ((n : ℕ) → x ≤ n → contains spans.ends n ≡ false) → o x ≡ None
  pub another : (e : ℕ) → contains spans.ends e ≡ true → o (e + 1) ≢ numbered (slice_index spans.panels e)

-- the span's panel owns the columns from x on, up to the span's end, and not the column after that, where that isn't past the edge
pub record IsRun (o : ℕ → Option ℕ) (x edge : ℕ) (span : Span) : Type 0 where
  pub from : x ≤ span.end
  pub within : span.end ≤ edge
  pub same : (u : ℕ) → x ≤ u → u ≤ span.end → o u ≡ panel_number span.panel
  pub another : span.end < edge → o (span.end + 1) ≢ panel_number span.panel

-- in the lines and columns that are known the spans have the owners that the search finds
pub record KnowsOwners (window : WindowMap) (panels : Panels) (owners : Owners) : Type 0 where
  pub inside : AreInside owners.spans
  pub laid : ℕ → Option ℕ
  pub spans : AreSpans laid owners.spans
  pub found : (y x : ℕ) → owners.top ≤ y → y ≤ owners.bottom → owners.left ≤ x → x ≤ owners.right → owner window panels y x ≡ laid x
