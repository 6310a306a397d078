-- What is always true of a terminal of some size, and what is known of its lines.
use Rattle.std.specs.Prelude.{◌≡◌, ◌≤◌, ◌<◌}
use Rattle.ecma.specs.Names.{ℕ, List, length, slice_index, Option, MatchOption, ⊤, Picture, Place, HasSize, shown_at, shown_blank, LARGEST_SCREEN}

-- The picture has that size, from one column to the largest screen, and the cursor is a place of it, if it is known.
pub record IsOnPage (lines columns : ℕ) (picture : Picture) (cursor : Option Place) : Type 0 where
  pub few_lines : lines ≤ LARGEST_SCREEN
  pub few_columns : columns ≤ LARGEST_SCREEN
  pub a_column : 1 ≤ columns
  pub size : HasSize lines columns picture
  pub place : MatchOption cursor ⊤ (λ place. (place.0 < lines) × (place.1 < columns))

-- Each line is blank from the column on that is kept for it.
pub record KnowsBlanks (blank_from : List ℕ) (picture : Picture) : Type 0 where
  pub each_line : length blank_from ≡ length picture
  pub blank : (y x : ℕ) → slice_index blank_from y ≤ x → shown_at picture (y, x) ≡ shown_blank
