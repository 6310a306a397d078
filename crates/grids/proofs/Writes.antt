-- A row written through a window is one put, and so is a rectangle.
use Rattle.std.specs.Prelude.{◌≡◌, ◌+◌, ◌-◌, ◌<◌, ◌≤◌, if◌then◌else◌, ◌==◌, ◌&&◌}
use Rattle.grids.specs.{ℕ, zero, suc, Bool, true, false, nat_le, nat_lt, Option, Some, None, is_some, IsSomeAnd, List, length, get_or, ap, ◌∙◌, subst, arith, refl, inl, inr, add-zero}
use Rattle.grids.specs.{add-suc, option_map, cases_Bool, cases_lt, eqb-true, nat_tests, Glyph, blank, GridPlace, Window, WindowMap, Windows, Drawing, within, grid_drawing, laid_over, joined_columns}
use Rattle.grids.specs.{touched_below, touched_by, put_windows, put, HasPlace, own, cell_at, with_change, set, set_in, Settings, filled_cells, listed_cells, copied_cells, Columns, with_touched}
use Rattle.grids.specs.{with_drawing, with_touched_lines, rectangle_filled, Rect, Backing, cell_of, is_among, rectangle_copied, block_copied, with_block_copied}
use Rattle.world.proofs.WindowLaws.{own-onward}
use mathlib.Core.Path.{fun_ext}

-- touching column after column

pub touched-none : (n : ℕ) (test : ℕ → Bool) (r : Option Columns) → ((x : ℕ) → x < n → test x ≡ false) → touched_below n test r ≡ r
touched-none zero test r h = grind arith
touched-none (suc n) test r h = grind (arith, (touched-none n test r (λ x lt. h x (omega arith))))

-- the test holds from left to right
touched-span : (left right : ℕ) (test : ℕ → Bool) (r : Option Columns) → ((x : ℕ) → test x ≡ (nat_le left x && nat_le x right)) → (n : ℕ) → left ≤ n → n ≤ right
    → touched_below (suc n) test r ≡ joined_columns r left n
touched-span left right test r h zero l u = grind (arith, nat_tests)
touched-span left right test r h (suc n) l u = grind (arith, nat_tests, cases_lt, touched-none, touched-span left right test r h n)

pub touched-past : (left right : ℕ) (test : ℕ → Bool) (r : Option Columns) → ((x : ℕ) → test x ≡ (nat_le left x && nat_le x right)) → left ≤ right → (d : ℕ)
    → touched_below (suc right + d) test r ≡ joined_columns r left right
touched-past left right test r h l zero = rw add-zero (touched-span left right test r h right l (omega arith))
touched-past left right test r h l (suc d) = rw add-suc (grind (arith, nat_tests, h (suc right + d), touched-past left right test r h l d))

-- what is written in some lines, in each from left to right, touches its columns
touched-lines : (a : Window) (f : Drawing) (t : ℕ → Bool) (left right : ℕ) → left ≤ right → right < a.columns → ((z x : ℕ) → is_some (within a f z x) ≡ (t z && (nat_le left x && nat_le x right)))
    → (z : ℕ) → touched_by f a z ≡ (if t z then joined_columns (a.touched z) left right else a.touched z)
touched-lines a f t left right l in_cols test z = elim (cases_Bool (t z)) [
  | inl on ↦
      let here = touched-past left right (λ x. is_some (within a f z x)) (a.touched z) (λ x. grind (arith, test z x)) l (a.columns - suc right) in
      grind arith
  | inr off ↦ grind (arith, touched-none)
]

-- ---- what is written in some lines through a window, which touches their columns from left to right, is one put

-- one window changed and then another
changed-both : (o : Option Window) (p q : Bool) (g h : Window → Window) → (if p then option_map g (if q then option_map h o else o) else (if q then option_map h o else o))
    ≡ option_map (λ b. if p then g (if q then h b else b) else (if q then h b else b)) o
changed-both None p q g h = grind arith
changed-both (Some b) p q g h = grind arith

-- other columns of a window are touched
abbrev pub with_marks : (Window → ℕ → Option Columns) → Window → Window
with_marks marks b = record b { touched = marks b }

-- the marks and the grid, by whether they are this window's
merged_by : (p q : Bool) (b : Window) (f1 f2 : Drawing) (touched : ℕ → Option Columns) (marks : Window → ℕ → Option Columns) → f2 ≡ f1 → (q ≡ true → touched ≡ marks b) →
    (if p then with_drawing f1 (if q then with_marks marks b else b) else (if q then with_marks marks b else b))
    ≡ record b { backing = (if p then laid_over f2 b.backing else b.backing); touched = (if q then touched else b.touched) }
merged_by p q b f1 f2 touched marks e h = grind arith

module _ (window : WindowMap) (win : ℕ) (place : GridPlace) (a : Window) (f g : Drawing) (marks : Window → ℕ → Option Columns) (there : window win ≡ Some a) (leads : own window win 0 0 ≡ Some place)
    (moved : grid_drawing place (within a f) ≡ g) (touched : (z : ℕ) → touched_by f a z ≡ marks a z) where
  marked : touched_by f a ≡ marks a
  marked = fun_ext touched

  put-any : with_change (with_change window win (with_marks marks)) place.grid (with_drawing g) ≡ put_windows window win f
  put-any = fun_ext (λ u. grind (
    arith,
    eqb-true,
    marked,
    changed-both (window u) (u == place.grid) (u == win) (with_drawing g) (with_marks marks),
    (λ (b : Window). merged_by (u == place.grid) (u == win) b g (grid_drawing place (within a f)) (touched_by f b) marks),
  ))

set-at : (o : Option Window) (p q : Bool) (change : Settings → Settings) (f : Window → Window) (g : Drawing)
    → (if p then option_map (with_drawing g) (if q then option_map (λ a. set_in change (f a)) o else o) else (if q then option_map (λ a. set_in change (f a)) o else o))
    ≡ (if q then option_map (set_in change) (if p then option_map (with_drawing g) (if q then option_map f o else o) else (if q then option_map f o else o))
    else (if p then option_map (with_drawing g) (if q then option_map f o else o) else (if q then option_map f o else o)))
set-at None p q change f g = grind arith
set-at (Some b) p q change f g = grind arith

-- other settings of a window, before the cells of a grid are written or after
set-before : (window : WindowMap) (win grid : ℕ) (change : Settings → Settings) (f : Window → Window) (g : Drawing)
    → with_change (with_change window win (λ a. set_in change (f a))) grid (with_drawing g) ≡ with_change (with_change (with_change window win f) grid (with_drawing g)) win (set_in change)
set-before window win grid change f g = fun_ext (λ u. set-at (window u) (u == grid) (u == win) change f g)

-- the marks of lines that pass a test, and of one line
abbrev lines_marks : (ℕ → Bool) → ℕ → ℕ → Window → ℕ → Option Columns
lines_marks test left right b z = if test z then joined_columns (b.touched z) left right else b.touched z

abbrev line_marks : ℕ → ℕ → ℕ → Window → ℕ → Option Columns
line_marks y = lines_marks (λ z. z == y)

pub some_and : (o : Option Window) (y x : ℕ) → IsSomeAnd o (λ a. (y < a.lines) × (x < a.columns)) → (a : Window) × (o ≡ Some a) × (y < a.lines) × (x < a.columns)
some_and o y x h = grind arith

-- the windows after a drawing was laid over a grid, and after a line was touched before
abbrev pub drawn_over : ℕ → Drawing → Windows → Windows
drawn_over grid g windows = record windows { window = with_change windows.window grid (with_drawing g) }

abbrev pub touched_and_drawn : Windows → ℕ → ℕ → ℕ → ℕ → ℕ → Drawing → Windows
touched_and_drawn old win grid y left right g = drawn_over grid g (record old { window = with_change old.window win (with_touched y left right) })

pub put-row : (old : Windows) (win : ℕ) (place : GridPlace) (y left right : ℕ) (c : Glyph) → HasPlace old.window win y right → left ≤ right → own old.window win 0 0 ≡ Some place
    → touched_and_drawn old win place.grid y left right (filled_cells (place.line + y) (place.column + left) (place.column + right) c) ≡ put old win (filled_cells y left right c)
put-row old win place y left right c there l leads =
    let a = some_and (old.window win) y right there in
    let touched = touched-lines a.0 (filled_cells y left right c) (λ z. z == y) left right l a.3 (λ z x. grind (arith, nat_tests)) in
    rw (put-any old.window win place a.0 (filled_cells y left right c) (filled_cells (place.line + y) (place.column + left) (place.column + right) c) (line_marks y left right) a.1 leads
    (grind (arith, nat_tests)) touched) refl

-- a rectangle

abbrev pub moved_by : GridPlace → Rect → Rect
moved_by place r = record { top = place.line + r.top; left = place.column + r.left; bottom = place.line + r.bottom; right = place.column + r.right }

abbrev pub from_to : ℕ → ℕ → ℕ → Bool
from_to top bottom y = nat_le top y && nat_le y bottom

abbrev pub in_lines : Rect → ℕ → Bool
in_lines r = from_to r.top r.bottom

pub put-rectangle : (old : Windows) (win : ℕ) (place : GridPlace) (r : Rect) (c : Glyph) → HasPlace old.window win r.bottom r.right → r.left ≤ r.right → own old.window win 0 0 ≡ Some place
    → drawn_over place.grid (rectangle_filled (moved_by place r) c) (record old { window = with_change old.window win (with_touched_lines (in_lines r) r.left r.right) }) ≡ put old win (rectangle_filled r c)
put-rectangle old win place r c there l leads =
    let a = some_and (old.window win) r.bottom r.right there in
    let touched = touched-lines a.0 (rectangle_filled r c) (in_lines r) r.left r.right l a.3 (λ z x. grind (arith, nat_tests)) in
    rw (put-any old.window win place a.0 (rectangle_filled r c) (rectangle_filled (moved_by place r) c) (lines_marks (in_lines r) r.left r.right) a.1 leads (grind (arith, nat_tests)) touched) refl

-- of one line
pub one_line : (y left right : ℕ) (c : Glyph) → rectangle_filled (record { top = y; left = left; bottom = y; right = right }) c ≡ filled_cells y left right c
one_line y left right c = fun_ext (λ v. fun_ext (λ u. grind (arith, nat_tests)))

-- cells of a line, in columns side by side

abbrev side_by_side : ℕ → ℕ → ℕ → (ℕ → Glyph) → Drawing
side_by_side dy dx n shown y x = if (y == dy) && (nat_le dx x && nat_lt x (dx + n)) then Some (shown (x - dx)) else None

moved-beside : (place : GridPlace) (a : Window) (dy dx n : ℕ) (shown : ℕ → Glyph) (cells : List Glyph) → dy < a.lines → dx + n ≤ a.columns → length cells ≡ n →
    ((k : ℕ) → k < n → get_or cells k blank ≡ shown k) → grid_drawing place (within a (side_by_side dy dx n shown)) ≡ listed_cells (place.line + dy) (place.column + dx) cells
moved-beside place a dy dx n shown cells in_lines in_columns all read = grind (arith, nat_tests)

put-beside : (old : Windows) (dst : ℕ) (place : GridPlace) (dy dx n : ℕ) (shown : ℕ → Glyph) (cells : List Glyph) →
    HasPlace old.window dst dy (dx + n - 1) → 0 < n → own old.window dst 0 0 ≡ Some place → length cells ≡ n → ((k : ℕ) → k < n → get_or cells k blank ≡ shown k) →
    touched_and_drawn old dst place.grid dy dx (dx + n - 1) (listed_cells (place.line + dy) (place.column + dx) cells) ≡ put old dst (side_by_side dy dx n shown)
put-beside old dst place dy dx n shown cells there some leads all read =
    let a = some_and (old.window dst) dy (dx + n - 1) there in
    let touched = touched-lines a.0 (side_by_side dy dx n shown) (λ z. z == dy) dx (dx + n - 1) (omega arith) a.3 (λ z x. grind (arith, nat_tests)) in
    rw (put-any old.window dst place a.0 (side_by_side dy dx n shown) (listed_cells (place.line + dy) (place.column + dx) cells) (line_marks dy dx (dx + n - 1)) a.1 leads
    (moved-beside place a.0 dy dx n shown cells a.2 (omega (arith, a.3)) all read) touched) refl

-- copied cells
pub put-copied : (old : Windows) (src dst : ℕ) (place : GridPlace) (sy sx dy dx n : ℕ) (cells : List Glyph) →
    HasPlace old.window dst dy (dx + n - 1) → 0 < n → own old.window dst 0 0 ≡ Some place → length cells ≡ n →
    ((k : ℕ) → k < n → get_or cells k blank ≡ cell_at old.window src sy (sx + k)) →
    touched_and_drawn old dst place.grid dy dx (dx + n - 1) (listed_cells (place.line + dy) (place.column + dx) cells) ≡ put old dst (copied_cells old.window src sy sx dy dx n false)
put-copied old src dst place sy sx dy dx n cells there some leads all read =
    put-beside old dst place dy dx n (λ k. cell_at old.window src sy (sx + k)) cells there some leads all read

-- cells of a list
pub put-listed : (old : Windows) (win : ℕ) (place : GridPlace) (y left n : ℕ) (cells : List Glyph) → length cells ≡ n →
    HasPlace old.window win y (left + n - 1) → 0 < n → own old.window win 0 0 ≡ Some place →
    touched_and_drawn old win place.grid y left (left + n - 1) (listed_cells (place.line + y) (place.column + left) cells) ≡ put old win (listed_cells y left cells)
put-listed old win place y left n cells all there some leads =
    subst (λ (m : ℕ). HasPlace old.window win y (left + m - 1) → 0 < m →
    touched_and_drawn old win place.grid y left (left + m - 1) (listed_cells (place.line + y) (place.column + left) cells) ≡ put old win (listed_cells y left cells)) all
    (λ here more. put-beside old win place y left (length cells) (λ k. get_or cells k blank) cells here more leads refl (λ k below. refl)) there some

-- a line was touched up to where the cursor went, and then written
pub put-typed : (old after : Windows) (win grid y left right : ℕ) (change : Settings → Settings) (g : Drawing) → touched_and_drawn old win grid y left right g ≡ after
    → drawn_over grid g (record old { window = with_change old.window win (λ a. set_in change (with_touched y left right a)) }) ≡ set after win change
put-typed old after win grid y left right change g is =
    ap (λ (map : WindowMap). record old { window = map }) (set-before old.window win grid change (with_touched y left right) g) ∙ ap (λ (v : Windows). set v win change) is

-- ---- a block of cells is one put

abbrev block_of : ℕ → ℕ → ℕ → ℕ → (ℕ → ℕ → Glyph) → Drawing
block_of dy dx lines columns shown y x = if is_among dy lines y && is_among dx columns x then Some (shown (y - dy) (x - dx)) else None

moved_block : (place : GridPlace) (a : Window) (dy dx lines columns : ℕ) (shown : ℕ → ℕ → Glyph) → dy + lines ≤ a.lines → dx + columns ≤ a.columns
    → grid_drawing place (within a (block_of dy dx lines columns shown)) ≡ block_of (place.line + dy) (place.column + dx) lines columns shown
moved_block place a dy dx lines columns shown in_lines in_columns = grind (arith, nat_tests)

module _ (old : Windows) (src dst : ℕ) (source place : GridPlace) (sy sx dy dx lines columns : ℕ) (some_line : 0 < lines) (some_column : 0 < columns)
    (there : HasPlace old.window dst (dy + lines - 1) (dx + columns - 1)) (leads_from : own old.window src 0 0 ≡ Some source) (leads : own old.window dst 0 0 ≡ Some place)
    (b : Window) (grid : old.window place.grid ≡ Some b) (same : source.grid ≡ place.grid) where
  abbrev copied : Drawing
  copied = rectangle_copied old.window src sy sx dy dx lines columns false

  abbrev pub block_in_grid : Backing → Drawing
  block_in_grid backing = block_copied backing (source.line + sy) (source.column + sx) (place.line + dy) (place.column + dx) lines columns

  read-block : (j k : ℕ) → cell_at old.window src (sy + j) (sx + k) ≡ cell_of b.backing (source.line + sy + j) (source.column + sx + k)
  read-block j k = grind (arith, own-onward old.window src (sy + j) (sx + k))

  moved-block : (a : Window) → dy + lines ≤ a.lines → dx + columns ≤ a.columns → grid_drawing place (within a copied) ≡ block_in_grid b.backing
  moved-block a in_lines in_columns =
      moved_block place a dy dx lines columns (λ j k. cell_at old.window src (sy + j) (sx + k)) in_lines in_columns
      ∙ ap (block_of (place.line + dy) (place.column + dx) lines columns) (fun_ext (λ j. fun_ext (λ k. read-block j k)))

  -- the cells of the grid are as they were when the window was touched
  from_grid : (marks : Window → ℕ → Option Columns) → with_change (with_change old.window dst (with_marks marks)) place.grid (λ c. with_drawing (block_in_grid c.backing) c)
      ≡ with_change (with_change old.window dst (with_marks marks)) place.grid (with_drawing (block_in_grid b.backing))
  from_grid marks = fun_ext (λ u. grind (arith, eqb-true))

  pub put-block : record old {
    window = with_change (with_change old.window dst (with_touched_lines (from_to dy (dy + lines - 1)) dx (dx + columns - 1))) place.grid
        (with_block_copied (source.line + sy) (source.column + sx) (place.line + dy) (place.column + dx) lines columns);
  } ≡ put old dst copied
  put-block =
      let a = some_and (old.window dst) (dy + lines - 1) (dx + columns - 1) there in
      let marks = lines_marks (from_to dy (dy + lines - 1)) dx (dx + columns - 1) in
      let touched = touched-lines a.0 copied (from_to dy (dy + lines - 1)) dx (dx + columns - 1) (omega arith) a.3 (λ z x. grind (arith, nat_tests)) in
      ap (λ (map : WindowMap). record old { window = map })
      (from_grid marks ∙ put-any old.window dst place a.0 copied (block_in_grid b.backing) marks a.1 leads (moved-block a.0 (omega (arith, a.2)) (omega (arith, a.3))) touched)
