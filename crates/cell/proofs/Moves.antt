-- Cells of a grid that are copied to another place of it: a piece of a line, and whole lines.
use Rattle.std.specs.Prelude.{◌≡◌, ◌+◌, ◌-◌, ◌*◌, ◌<◌, ◌≤◌, ◌==◌, ◌&&◌, ◌⊎◌, if◌then◌else◌}
use Rattle.cell.specs.{ℕ, Bool, nat_le, nat_lt, true, false, refl, start_of, List, [], length, take, drop, get_or, ap, sym, ◌∙◌, inl, inr, arith, AllByRecursion, cases_lt, nat_tests, get_or-take, get_or-drop, length-take-le, length-drop}
use Rattle.cell.specs.{All-from_recursion, recursion_from_All, All-take, All-drop, take-append-le, drop-append-le, mul-le, cell_or, line_of, HasSize, cases_eq, rows, IsGrid, IsReached, IsWhole, with_blanks, moved}
use Rattle.cell.proofs.Blanks.{IsGrid-splice, length-with_blanks}
use Rattle.std.specs.Prelude.{max}
use Rattle.std.proofs.lemmas.List.Elements.{All-from_get_or}
use Rattle.cell.proofs.PictureLemmas.{length-line}
use Rattle.cell.proofs.GridLemmas.{length-rows, length-line_of-rows, line_end}
use Rattle.cell.proofs.PieceWrites.{IsWhole-splice, before, within, beyond, shown-rows, shown-outside, shown-piece}

-- a sum times a width
sum_times : (a b c : ℕ) → (a + b) * c ≡ a * c + b * c
sum_times a b c = omega arith

module _ {A : Type 0} (cells : List A) (from n : ℕ) (there : from + n ≤ length cells) where
  abbrev pub piece : List A
  piece = take n (drop from cells)

  pub length-piece : length piece ≡ n
  length-piece = grind (arith, length-take-le, length-drop, there)

  pub read-piece : (none : A) (k : ℕ) → k < n → get_or piece k none ≡ get_or cells (from + k) none
  read-piece none k below = grind (arith, get_or-take, get_or-drop)

  pub each-piece : (Is : A → Type 0) → AllByRecursion Is cells → AllByRecursion Is piece
  each-piece Is each = recursion_from_All Is _ (All-take Is n _ (All-drop Is from _ (All-from_recursion Is cells each)))

  -- the piece is the same where the missing blanks are there
  pub piece-blanks : (blank : A) (all : ℕ) → take n (drop from (with_blanks blank all cells)) ≡ piece
  piece-blanks blank all = grind (arith, take-append-le, drop-append-le, length-drop, there)

-- the grid is one after cells of lines that are there were copied
pub IsGrid-moved : {A : Type 0} {Is : A → Type 0} {blank : A} {lines columns : ℕ} {old new : List A} {capacity capacity' : ℕ} (y from to n : ℕ) → IsGrid Is blank lines columns new capacity
    → IsReached blank lines columns y old new → y < lines → capacity' ≡ capacity → from + n ≤ y * columns + columns → to + n ≤ y * columns + columns
    → IsGrid Is blank lines columns (moved from to n new) capacity'
IsGrid-moved {blank = blank} {lines} {columns} {new = new} y from to n grid reached below same source target =
    let there : from + n ≤ length new = omega (arith, reached.there, source) in
    let all = length-piece new from n there in
    let among : from + n ≤ length (with_blanks blank (lines * columns) new) = omega (arith, there, length-with_blanks blank (lines * columns) new) in
    let sound = rw (piece-blanks new from n there blank (lines * columns)) at (each-piece (with_blanks blank (lines * columns) new) from n among _ grid.all.each) in
    rw all at (IsGrid-splice y 0 grid reached below same to (piece new from n there) (omega (arith, all, target)) sound)

-- ---- what is shown then

module _ {A : Type 0} (none : A) {Is : A → Type 0} (lines columns : ℕ) (cells : List A) (grid : IsWhole Is lines columns cells) where
  -- a piece of a line
  module _ (sy sx dy dx n : ℕ) (source : sy < lines) (target : dy < lines) (left : sx + n ≤ columns) (fits : dx + n ≤ columns) where
    cells_there : sy * columns + sx + n ≤ length cells
    cells_there = omega (arith, grid.whole, line_end lines columns sy source)

    all : length (piece cells (sy * columns + sx) n cells_there) ≡ n
    all = length-piece cells (sy * columns + sx) n cells_there

    value : (u : ℕ) → dx ≤ u → u < dx + n → get_or (piece cells (sy * columns + sx) n cells_there) (u - dx) none ≡ cell_or none (rows lines columns cells) (sy, sx + (u - dx))
    value u first last = read-piece cells (sy * columns + sx) n cells_there none (u - dx) (omega arith) ∙ ap (λ k. get_or cells k none) (omega arith)
        ∙ sym (shown-rows none lines columns cells sy (sx + (u - dx)) source (omega arith))

    read : (v u : ℕ) → (if (v == dy) && (nat_le dx u && nat_lt u (dx + n)) then get_or (piece cells (sy * columns + sx) n cells_there) (u - dx) none else cell_or none (rows lines columns cells) (v, u))
        ≡ (if (v == dy) && (nat_le dx u && nat_lt u (dx + n)) then cell_or none (rows lines columns cells) (sy, sx + (u - dx)) else cell_or none (rows lines columns cells) (v, u))
    read v u = grind (arith, nat_tests, value)

    pub shown-cells : (v u : ℕ) → cell_or none (rows lines columns (moved (sy * columns + sx) (dy * columns + dx) n cells)) (v, u)
        ≡ (if (v == dy) && (nat_le dx u && nat_lt u (dx + n)) then cell_or none (rows lines columns cells) (sy, sx + (u - dx)) else cell_or none (rows lines columns cells) (v, u))
    shown-cells v u = (rw all at (shown-piece none lines columns cells (piece cells (sy * columns + sx) n cells_there) dy dx grid target (omega (arith, all, fits))
        (each-piece cells (sy * columns + sx) n cells_there Is grid.each) v u)) ∙ read v u

  -- whole lines
  module _ (from to n : ℕ) (source : from + n ≤ lines) (target : to + n ≤ lines) where
    lines_there : from * columns + n * columns ≤ length cells
    lines_there = omega (arith, grid.whole, mul-le (from + n) columns lines columns source (omega arith), sum_times from n columns)

    room : to * columns + n * columns ≤ length cells
    room = omega (arith, grid.whole, mul-le (to + n) columns lines columns target (omega arith), sum_times to n columns)

    abbrev lines_moved : List A
    lines_moved = piece cells (from * columns) (n * columns) lines_there

    length-lines : length lines_moved ≡ n * columns
    length-lines = length-piece cells (from * columns) (n * columns) lines_there

    pub whole-lines : IsWhole Is lines columns (moved (from * columns) (to * columns) (n * columns) cells)
    whole-lines = rw length-lines at (IsWhole-splice none lines columns cells lines_moved (to * columns) grid (omega (arith, length-lines, room)) (each-piece cells (from * columns) (n * columns) lines_there Is grid.each))

    at_before : (v u : ℕ) → v < to → u < columns → get_or (moved (from * columns) (to * columns) (n * columns) cells) (v * columns + u) none ≡ get_or cells (v * columns + u) none
    at_before v u above left = rw length-lines at (before none cells lines_moved (to * columns) (omega (arith, length-lines, room)) (v * columns + u)
        (omega (arith, mul-le (v + 1) columns to columns (omega arith) (omega arith), sum_times v 1 columns)))

    at_within : (d u : ℕ) → d < n → u < columns → get_or (moved (from * columns) (to * columns) (n * columns) cells) ((to + d) * columns + u) none ≡ get_or cells ((from + d) * columns + u) none
    at_within d u below left =
        let end : d * columns + u < n * columns = omega (arith, mul-le (d + 1) columns n columns (omega arith) (omega arith), sum_times d 1 columns) in
        let here : (to + d) * columns + u ≡ to * columns + (d * columns + u) = omega (arith, sum_times to d columns) in
        let there : (from + d) * columns + u ≡ from * columns + (d * columns + u) = omega (arith, sum_times from d columns) in
        rw (here, there)
        ((rw length-lines at (within none cells lines_moved (to * columns) (omega (arith, length-lines, room)) (to * columns + (d * columns + u)) (omega arith) (omega (arith, length-lines))))
        ∙ ap (λ k. get_or lines_moved k none) (omega arith)
        ∙ read-piece cells (from * columns) (n * columns) lines_there none (d * columns + u) end)

    at_beyond : (v u : ℕ) → to + n ≤ v → get_or (moved (from * columns) (to * columns) (n * columns) cells) (v * columns + u) none ≡ get_or cells (v * columns + u) none
    at_beyond v u past = rw length-lines at (beyond none cells lines_moved (to * columns) (omega (arith, length-lines, room)) (v * columns + u)
        (omega (arith, length-lines, mul-le (to + n) columns v columns past (omega arith), sum_times to n columns)))

    pub shown-lines : (v u : ℕ) → cell_or none (rows lines columns (moved (from * columns) (to * columns) (n * columns) cells)) (v, u)
        ≡ (if nat_le to v && nat_lt v (to + n) then cell_or none (rows lines columns cells) (from + (v - to), u) else cell_or none (rows lines columns cells) (v, u))
    shown-lines v u = elim (cases_lt v lines) [
      | inl below ↦ elim (cases_lt u columns) [
        | inl left ↦
            let d = v - to in
            let same : to ≤ v → v ≡ to + d = λ h. omega arith in
            grind (arith, nat_tests, at_before, at_beyond, at_within d u, shown-rows none lines columns)
        | inr right ↦ grind (arith, nat_tests, shown-outside, whole-lines)
      ]
      | inr past ↦ grind (arith, nat_tests, shown-outside, whole-lines)
    ]

-- ---- places of the picture are places of the grid

pub record CellsFit (lines columns sy sx dy dx n : ℕ) : Type 0 where
  pub source : sy < lines
  pub target : dy < lines
  pub left : sx + n ≤ columns
  pub fits : dx + n ≤ columns
  pub last : max sy dy < lines
  pub from_end : sy * columns + sx + n ≤ max sy dy * columns + columns
  pub to_end : dy * columns + dx + n ≤ max sy dy * columns + columns
  pub few : max sy dy * columns + columns ≤ 1000000

few_places : {A : Type 0} {Is : A → Type 0} {lines columns : ℕ} {cells : List A} → IsWhole Is lines columns cells → lines * columns ≤ 1000000
few_places {lines} {columns} grid = omega (arith, mul-le lines columns 1000 1000 grid.few_lines grid.few_columns)

pub CellsFit-from : {A : Type 0} {Is : A → Type 0} {lines columns : ℕ} {cells : List A} {picture : List (List A)} (sy sx dy dx n : ℕ) → IsWhole Is lines columns cells → rows lines columns cells ≡ picture
    → sy < length picture → dy < length picture → sx + n ≤ length (line_of picture sy) → dx + n ≤ length (line_of picture dy) → CellsFit lines columns sy sx dy dx n
CellsFit-from {lines} {columns} {cells} {picture} sy sx dy dx n grid is source target left fits =
    let below : sy < lines = grind (arith, length-rows) in
    let below' : dy < lines = grind (arith, length-rows) in
    let width : sx + n ≤ columns = grind (arith, length-line_of-rows) in
    let width' : dx + n ≤ columns = grind (arith, length-line_of-rows) in
    let last : max sy dy < lines = omega arith in
    record {
      source = below;
      target = below';
      left = width;
      fits = width';
      last = last;
      from_end = omega (arith, mul-le sy columns (max sy dy) columns (omega arith) (omega arith));
      to_end = omega (arith, mul-le dy columns (max sy dy) columns (omega arith) (omega arith));
      few = omega (arith, line_end lines columns (max sy dy) last, few_places grid);
    }

pub record LinesFit (lines columns from to n : ℕ) : Type 0 where
  pub source : from + n ≤ lines
  pub target : to + n ≤ lines
  pub last : max from to + n - 1 < lines
  pub from_end : from * columns + n * columns ≤ (max from to + n - 1) * columns + columns
  pub to_end : to * columns + n * columns ≤ (max from to + n - 1) * columns + columns
  pub few_lines : lines ≤ 1000
  pub few : (max from to + n - 1) * columns + columns ≤ 1000000

pub LinesFit-from : {A : Type 0} {Is : A → Type 0} {lines columns : ℕ} {cells : List A} {picture : List (List A)} (from to n : ℕ) → IsWhole Is lines columns cells → rows lines columns cells ≡ picture
    → 0 < n → from + n ≤ length picture → to + n ≤ length picture → LinesFit lines columns from to n
LinesFit-from {lines} {columns} {cells} {picture} from to n grid is some source target =
    let high : length picture ≡ lines = grind (arith, length-rows) in
    let last : max from to + n - 1 < lines = omega arith in
    let end : (max from to + n - 1) * columns + 1 * columns ≡ (max from to + n) * columns = sym (sum_times (max from to + n - 1) 1 columns) ∙ ap (λ k. k * columns) (omega arith) in
    record {
      source = omega arith;
      target = omega arith;
      last = last;
      from_end = omega (arith, end, mul-le (from + n) columns (max from to + n) columns (omega arith) (omega arith), sum_times from n columns);
      to_end = omega (arith, end, mul-le (to + n) columns (max from to + n) columns (omega arith) (omega arith), sum_times to n columns);
      few_lines = grid.few_lines;
      few = omega (arith, line_end lines columns (max from to + n - 1) last, few_places grid);
    }

-- ---- a block of cells, line by line

pub record BlockFits (lines columns sy sx dy dx high wide : ℕ) {A : Type 0} (picture : List (List A)) : Type 0 where
  pub size : HasSize lines columns picture
  pub few_lines : lines ≤ 1000
  pub source : sy + high ≤ lines
  pub target : dy + high ≤ lines
  pub left : 0 < high → sx + wide ≤ columns
  pub fits : 0 < high → dx + wide ≤ columns

pub each_width : {A : Type 0} {Is : A → Type 0} (lines columns : ℕ) (cells : List A) → IsWhole Is lines columns cells → HasSize lines columns (rows lines columns cells)
each_width lines columns cells grid = record {
  height = length-rows lines columns cells;
  width = recursion_from_All (λ line. length line ≡ columns) _ (All-from_get_or (λ line. length line ≡ columns) _ [] (λ y below. length-line_of-rows lines columns cells y grid (omega (arith, length-rows lines columns cells))));
}

pub BlockFits-from : {A : Type 0} {Is : A → Type 0} {lines columns : ℕ} {cells : List A} {picture : List (List A)} (sy sx dy dx high wide : ℕ) → IsWhole Is lines columns cells
    → rows lines columns cells ≡ picture → sy + high ≤ length picture → dy + high ≤ length picture → sx + wide ≤ length (line_of picture sy) → dx + wide ≤ length (line_of picture dy)
    → BlockFits lines columns sy sx dy dx high wide picture
BlockFits-from {lines} {columns} {cells} {picture} sy sx dy dx high wide grid is source target left fits =
    let high_is : length picture ≡ lines = grind (arith, length-rows) in record {
      size = rw is at (each_width lines columns cells grid);
      few_lines = grid.few_lines;
      source = omega arith;
      target = omega arith;
      left = λ some. grind (arith, length-line_of-rows);
      fits = λ some. grind (arith, length-line_of-rows);
    }

module _ {lines columns sy sx dy dx high wide : ℕ} {A : Type 0} {picture now : List (List A)} (block : BlockFits lines columns sy sx dy dx high wide picture)
    (same : (l c : ℕ) → HasSize l c picture → HasSize l c now) (k : ℕ) (below : k < high) where
  pub source_left : sx + wide ≤ length (line_of now (sy + k))
  source_left = omega (arith, block.left (omega arith), length-line (sy + k) (same lines columns block.size) (omega (arith, block.source)))

  pub target_left : dx + wide ≤ length (line_of now (dy + k))
  target_left = omega (arith, block.fits (omega arith), length-line (dy + k) (same lines columns block.size) (omega (arith, block.target)))

-- the cells of a block that lies in the lines from a first to an end, and the other cells
abbrev pub block_shown : {A : Type 0} → A → List (List A) → ℕ → ℕ → ℕ → ℕ → ℕ → ℕ → ℕ → ℕ → ℕ → A
block_shown none old sy sx dy dx first end wide v u =
    if (nat_le first v && nat_lt v end) && (nat_le dx u && nat_lt u (dx + wide)) then cell_or none old (sy + (v - dy), sx + (u - dx)) else cell_or none old (v, u)

-- one line more was copied
abbrev pub line_added : {A : Type 0} → A → List (List A) → ℕ → ℕ → ℕ → ℕ → ℕ → ℕ → ℕ → A
line_added none now sy sx dy dx wide v u = if (v == dy) && (nat_le dx u && nat_lt u (dx + wide)) then cell_or none now (sy, sx + (u - dx)) else cell_or none now (v, u)

module _ {A : Type 0} (none : A) (old : List (List A)) (sy sx dy dx wide : ℕ) where
  skipped : (first end v u : ℕ) → (v < first) ⊎ (end ≤ v) → block_shown none old sy sx dy dx first end wide v u ≡ cell_or none old (v, u)
  skipped first end v u out = grind (arith, nat_tests)

  with_line : (first end k first' end' v u : ℕ) → ((v ≡ dy + k → ⊥) → (nat_le first v && nat_lt v end) ≡ (nat_le first' v && nat_lt v end')) → (nat_le first' (dy + k) && nat_lt (dy + k) end') ≡ true
      → (if (v == dy + k) && (nat_le dx u && nat_lt u (dx + wide)) then cell_or none old (sy + k, sx + (u - dx)) else block_shown none old sy sx dy dx first end wide v u)
      ≡ block_shown none old sy sx dy dx first' end' wide v u
  with_line first end k first' end' v u other this = elim (cases_eq v (dy + k)) [
    | inl same ↦ let back : v - dy ≡ k = omega arith in grind (arith, nat_tests)
    | inr differs ↦ let lines = other differs in grind (arith, nat_tests)
  ]

  module _ (now new : List (List A)) (first end k first' end' : ℕ) (shown : (v u : ℕ) → cell_or none now (v, u) ≡ block_shown none old sy sx dy dx first end wide v u)
      (step : (v u : ℕ) → cell_or none new (v, u) ≡ line_added none now (sy + k) sx (dy + k) dx wide v u) where
    next-line : (sy + k < first) ⊎ (end ≤ sy + k) → (v u : ℕ) → ((v ≡ dy + k → ⊥) → (nat_le first v && nat_lt v end) ≡ (nat_le first' v && nat_lt v end'))
        → (nat_le first' (dy + k) && nat_lt (dy + k) end') ≡ true → cell_or none new (v, u) ≡ block_shown none old sy sx dy dx first' end' wide v u
    next-line out v u other this =
        let read = shown (sy + k) (sx + (u - dx)) ∙ skipped first end (sy + k) (sx + (u - dx)) out in
        step v u
        ∙ (λ i. if (v == dy + k) && (nat_le dx u && nat_lt u (dx + wide)) then read i else shown v u i)
        ∙ with_line first end k first' end' v u other this

  -- from the first line on, or back from the last
  pub next : (back : Bool) (now new : List (List A)) (n k : ℕ) → k < n → (back ≡ true → sy < dy) → (back ≡ false → dy ≤ sy)
      → ((v u : ℕ) → cell_or none now (v, u) ≡ block_shown none old sy sx dy dx (dy + start_of back n 0 k) (dy + start_of back n 0 k + k) wide v u)
      → ((v u : ℕ) → cell_or none new (v, u) ≡ line_added none now (sy + start_of back n k 1) sx (dy + start_of back n k 1) dx wide v u)
      → (v u : ℕ) → cell_or none new (v, u) ≡ block_shown none old sy sx dy dx (dy + start_of back n 0 (k + 1)) (dy + start_of back n 0 (k + 1) + (k + 1)) wide v u
  next true now new n k more up down shown step v u = let past = up refl in
      next-line now new (dy + (n - (0 + k))) (dy + (n - (0 + k)) + k) (n - (k + 1)) (dy + (n - (0 + (k + 1)))) (dy + (n - (0 + (k + 1))) + (k + 1)) shown step (inl (omega arith)) v u
      (λ differs. grind (arith, nat_tests)) (grind (arith, nat_tests))
  next false now new n k more up down shown step v u = let past = down refl in
      next-line now new (dy + 0) (dy + 0 + k) k (dy + 0) (dy + 0 + (k + 1)) shown step (inr (omega arith)) v u (λ differs. grind (arith, nat_tests)) (grind (arith, nat_tests))

-- whole lines are such a block
pub whole-block : {A : Type 0} (none : A) {Is : A → Type 0} (lines columns : ℕ) (cells : List A) → IsWhole Is lines columns cells → (sy sx dy dx high : ℕ)
    → (0 < high → sx + columns ≤ columns) → (0 < high → dx + columns ≤ columns) → (v u : ℕ)
    → (if nat_le dy v && nat_lt v (dy + high) then cell_or none (rows lines columns cells) (sy + (v - dy), u) else cell_or none (rows lines columns cells) (v, u))
    ≡ block_shown none (rows lines columns cells) sy sx dy dx dy (dy + high) columns v u
whole-block none lines columns cells grid sy sx dy dx high left fits v u = elim (cases_lt u columns) [
  | inl on ↦ grind (arith, nat_tests, cases_eq high 0)
  | inr past ↦ grind (arith, nat_tests, cases_eq high 0, shown-outside none lines columns cells grid)
]
