-- Runs: cells of a line that are changed, and have one rendition.
use Rattle.std.specs.Prelude.{◌≡◌, ◌+◌, ◌-◌, ◌<◌, ◌≤◌, ◌||◌, if◌then◌else◌}
use Rattle.paint.specs.Names.{ℕ, not, Bool, false, List, length, take, drop, slice_index_or, Rendition, Shown, shown_blank, same_rendition, same_shown}
use Rattle.paint.specs.steps.Pens.{line_bytes}

-- a line's cells from a column up to another, which isn't one of them
abbrev pub cells_between : ℕ → ℕ → List Shown → List Shown
cells_between start end cells = take (end - start) (drop start cells)

-- Changed cells of one rendition, from a column up to another, which isn't one of them, and isn't past an end.
pub record IsRun (shown wanted : List Shown) (start end stop : ℕ) : Type 0 where
  pub some : start < stop
  pub within : stop ≤ end
  pub changed : (x : ℕ) → start ≤ x → x < stop → same_shown (slice_index_or shown x shown_blank) (slice_index_or wanted x shown_blank) ≡ false
  pub rendition : (x : ℕ) → start ≤ x → x < stop → (slice_index_or wanted x shown_blank).rendition ≡ (slice_index_or wanted start shown_blank).rendition

-- cells of one rendition, from a column up to another, which isn't one of them
pub record HaveOneRendition (wanted : List Shown) (start stop : ℕ) : Type 0 where
  pub some : start < stop
  pub within : stop ≤ length wanted
  pub rendition : (x : ℕ) → start ≤ x → x < stop → (slice_index_or wanted x shown_blank).rendition ≡ (slice_index_or wanted start shown_blank).rendition

-- Such cells, up to a column that isn't past an end. The first is changed, and a byte for each other is within what the changed ones among
-- them may cost.
pub record IsStretch (shown wanted : List Shown) (start end stop : ℕ) : Type 0 where
  pub cells : HaveOneRendition wanted start stop
  pub within : stop ≤ end
  pub changed : same_shown (slice_index_or shown start shown_blank) (slice_index_or wanted start shown_blank) ≡ false
  pub short : stop - (start + 1) + line_bytes (drop stop shown) (drop stop wanted) ≤ line_bytes (drop (start + 1) shown) (drop (start + 1) wanted)

-- the first cells are changed, so many, and have one rendition
pub record AreOfRun (shown wanted : List Shown) (rendition : Rendition) (count : ℕ) : Type 0 where
  pub changed : (k : ℕ) → k < count → same_shown (slice_index_or shown k shown_blank) (slice_index_or wanted k shown_blank) ≡ false
  pub rendition_of : (k : ℕ) → k < count → (slice_index_or wanted k shown_blank).rendition ≡ rendition

-- a cell isn't of a run of a rendition: it is shown already, or has another one
abbrev pub is_over : Shown → Shown → Rendition → Bool
is_over shown wanted rendition = same_shown shown wanted || not (same_rendition wanted.rendition rendition)

-- the first of some numbers, so many, are 1 for each cell that isn't of a run, and else 0
abbrev pub AreEnds : List Shown → List Shown → Rendition → List ℕ → ℕ → Type 0
AreEnds shown wanted rendition ends count =
    (k : ℕ) → k < count → slice_index_or ends k 0 ≡ (if is_over (slice_index_or shown k shown_blank) (slice_index_or wanted k shown_blank) rendition then 1 else 0)
