-- Copies: what their drawings have, the rectangles that they cover, and how they go on step by step, each of which writes a piece that was
-- not written before it is read.
use Rattle.std.specs.Prelude.{◌≡◌, ◌+◌, ◌-◌, ◌<◌, ◌≤◌, if◌then◌else◌, ◌||◌, ◌⊎◌, ◌&&◌}
use Rattle.grids.specs.{ℕ, Bool, true, false, nat_le, Option, Some, None, is_some, IsSome, IsSomeAnd, option_map, option_and_then, ap, arith, refl, sym, subst, ◌∙◌, cases_eq, eqb-true, nat_tests}
use Rattle.grids.specs.{Rect, Glyph, Window, WindowMap, Windows, GridPlace, Drawing, HasPlace, cell_at, grid_drawing, onward, over, own, put, put_windows, within, is_among, overlaid_cell, copied_cells}
use Rattle.grids.specs.{rectangle_copied, frame_of, frame_of_two, drawing_frame, AreAlike, AreRectanglesThere, AreRowsThere, Drawn, RowCopied, start_of}
use Rattle.world.proofs.FrameLaws.{drawing_frame-over, drawing_frame-put, frame_of-only, frame_of-none}
use Rattle.world.proofs.WindowLaws.{own-onward, own-put, put-put, put-nothing}
use Rattle.grids.specs.declared.place.Place.{Place}
use Rattle.grids.proofs.Chain.{some_of}

-- ---- where nothing is copied

-- where a copy from the first on, or back from the last, has yet to come: by columns, and by lines

pub cells-out : (back : Bool) (window : WindowMap) (src sy sx dy dx n done len : ℕ) (overlay : Bool) (from source target j y : ℕ) → done + len ≤ n → j < len
    → (back ≡ true → source + from < target + dx) → (back ≡ false → target + dx ≤ source + from)
    → copied_cells window src sy (sx + start_of back n 0 done) dy (dx + start_of back n 0 done) done overlay y (source + (from + start_of back n done len + j) - target) ≡ None
cells-out true window src sy sx dy dx n done len overlay from source target j y h below up down = let past = up refl in grind (arith, nat_tests)
cells-out false window src sy sx dy dx n done len overlay from source target j y h below up down = let past = down refl in grind (arith, nat_tests)

pub lines-out : (back : Bool) (window : WindowMap) (src sy sx dy dx n done columns : ℕ) (overlay : Bool) (from source target x : ℕ) → done < n
    → (back ≡ true → source + from < target + dy) → (back ≡ false → target + dy ≤ source + from)
    → rectangle_copied window src (sy + start_of back n 0 done) sx (dy + start_of back n 0 done) dx done columns overlay (source + (from + start_of back n done 1) - target) x ≡ None
lines-out true window src sy sx dy dx n done columns overlay from source target x h up down = let past = up refl in grind (arith, nat_tests)
lines-out false window src sy sx dy dx n done columns overlay from source target x h up down = let past = down refl in grind (arith, nat_tests)

pub copied-none : (window : WindowMap) (src sy sx dy dx n : ℕ) (overlay : Bool) → n ≡ 0 → (y x : ℕ) → copied_cells window src sy sx dy dx n overlay y x ≡ None
copied-none window src sy sx dy dx n overlay h y x = grind (arith, nat_tests)

pub rectangle-none : (window : WindowMap) (src sy sx dy dx lines columns : ℕ) (overlay : Bool) → (lines ≡ 0) ⊎ (columns ≡ 0) → (y x : ℕ)
    → rectangle_copied window src sy sx dy dx lines columns overlay y x ≡ None
rectangle-none window src sy sx dy dx lines columns overlay h y x = grind (arith, nat_tests)

-- ---- more cells or one line more

-- a piece laid over a rest, where both are pieces of the same
joined : (t1 t2 t3 : Bool) (v u c : Option Glyph) → t3 ≡ (t1 || t2) → (t1 ≡ true → v ≡ c) → (t2 ≡ true → u ≡ c)
    → (if is_some (if t1 then v else None) then (if t1 then v else None) else (if t2 then u else None)) ≡ (if t3 then c else None)
joined t1 t2 t3 v u c e h k = grind arith

pub more-cells : (back : Bool) (window : WindowMap) (src sy sx dy dx n done len : ℕ) (overlay : Bool) → done + len ≤ n
    → over (copied_cells window src sy (sx + start_of back n done len) dy (dx + start_of back n done len) len overlay)
    (copied_cells window src sy (sx + start_of back n 0 done) dy (dx + start_of back n 0 done) done overlay)
    ≡ copied_cells window src sy (sx + start_of back n 0 (done + len)) dy (dx + start_of back n 0 (done + len)) (done + len) overlay
more-cells true window src sy sx dy dx n done len overlay h = grind (arith, joined, nat_tests)
more-cells false window src sy sx dy dx n done len overlay h = grind (arith, joined, nat_tests)

pub more-lines : (back : Bool) (window : WindowMap) (src sy sx dy dx n done columns : ℕ) (overlay : Bool) → done < n
    → over (copied_cells window src (sy + start_of back n done 1) sx (dy + start_of back n done 1) dx columns overlay)
    (rectangle_copied window src (sy + start_of back n 0 done) sx (dy + start_of back n 0 done) dx done columns overlay)
    ≡ rectangle_copied window src (sy + start_of back n 0 (done + 1)) sx (dy + start_of back n 0 (done + 1)) dx (done + 1) columns overlay
more-lines true window src sy sx dy dx n done columns overlay h = grind (arith, joined, nat_tests)
more-lines false window src sy sx dy dx n done columns overlay h = grind (arith, joined, nat_tests)

-- a rectangle of one line
pub one-line : (window : WindowMap) (src sy sx dy dx n : ℕ) (overlay : Bool) → rectangle_copied window src sy sx dy dx 1 n overlay ≡ copied_cells window src sy sx dy dx n overlay
one-line window src sy sx dy dx n overlay = grind (arith, joined, nat_tests)

-- ---- cells that are all copied, or none

module _ (window : WindowMap) (overlay : Bool) (src sy sx dy dx n : ℕ) (alike : AreAlike window overlay src sy sx n) where
  pub all-copied : is_some (overlaid_cell overlay (cell_at window src sy sx)) ≡ true → copied_cells window src sy sx dy dx n false ≡ copied_cells window src sy sx dy dx n overlay
  all-copied h = grind (arith, nat_tests)

  pub none-copied : is_some (overlaid_cell overlay (cell_at window src sy sx)) ≡ false → (y x : ℕ) → copied_cells window src sy sx dy dx n overlay y x ≡ None
  none-copied h y x = grind (arith, nat_tests)

-- ---- what is copied depends on the cells that are read

pub copied-same : (v w : WindowMap) (src sy sx dy dx n : ℕ) (overlay : Bool) → ((j : ℕ) → j < n → cell_at v src sy (sx + j) ≡ cell_at w src sy (sx + j))
    → copied_cells v src sy sx dy dx n overlay ≡ copied_cells w src sy sx dy dx n overlay
copied-same v w src sy sx dy dx n overlay h = grind (arith, nat_tests)

-- ---- the rectangle that a copy covers

-- the drawing has a cell for just these places of the window
pub block : (a : Window) (f : Drawing) (r : Rect) → r.top ≤ r.bottom → r.bottom < a.lines → r.left ≤ r.right → r.right < a.columns
    → ((y x : ℕ) → y < a.lines → x < a.columns → is_some (f y x) ≡ ((nat_le r.top y && nat_le y r.bottom) && (nat_le r.left x && nat_le x r.right))) → frame_of a f ≡ Some r
block a f r lines below columns on is = frame_of-only a f r (record {
  holds = λ y x there. grind (arith, nat_tests, is y x there.below there.left);
  top = (r.left, grind (arith, nat_tests, is r.top r.left));
  bottom = (r.left, grind (arith, nat_tests, is r.bottom r.left));
  left = (r.top, grind (arith, nat_tests, is r.top r.left));
  right = (r.top, grind (arith, nat_tests, is r.top r.right));
})

some_if : (t : Bool) (c : Glyph) → is_some (if t then Some c else None) ≡ t
some_if t c = grind arith

none_frame : (o : Option Window) (f : Drawing) → ((y x : ℕ) → f y x ≡ None) → option_and_then (λ a. frame_of a f) o ≡ None
none_frame o f h = grind (arith, frame_of-none)

within_block : (dy dx lines columns v x : ℕ) → 0 < lines → 0 < columns → (is_among dy lines v && is_among dx columns x)
    ≡ ((nat_le dy v && nat_le v (dy + lines - 1)) && (nat_le dx x && nat_le x (dx + columns - 1)))
within_block dy dx lines columns v x some_line some_column = grind (arith, nat_tests)

there_block : (o : Option Window) (f : Drawing) (r : Rect) → ((v x : ℕ) → is_some (f v x) ≡ ((nat_le r.top v && nat_le v r.bottom) && (nat_le r.left x && nat_le x r.right))) → r.top ≤ r.bottom → r.left ≤ r.right
    → IsSomeAnd o (λ a. (r.bottom < a.lines) × (r.right < a.columns)) → option_and_then (λ a. frame_of a f) o ≡ Some r
there_block None f r is lines columns there = grind arith
there_block (Some a) f r is lines columns there = block a f r lines there.0 columns there.1 (λ v x below on. is v x)

pub rectangle-frame : (w : Windows) (src dst sy sx dy dx lines columns : ℕ) → HasPlace w.window dst (dy + lines - 1) (dx + columns - 1) → 0 < lines → 0 < columns
    → drawing_frame w dst (λ a. rectangle_copied w.window src sy sx dy dx lines columns false) ≡ Some (record { top = dy; left = dx; bottom = dy + lines - 1; right = dx + columns - 1 })
rectangle-frame w src dst sy sx dy dx lines columns there some_line some_column =
    there_block (w.window dst) (rectangle_copied w.window src sy sx dy dx lines columns false) (record { top = dy; left = dx; bottom = dy + lines - 1; right = dx + columns - 1 })
    (λ v x. some_if (is_among dy lines v && is_among dx columns x) (cell_at w.window src (sy + (v - dy)) (sx + (x - dx))) ∙ within_block dy dx lines columns v x some_line some_column)
    (omega arith) (omega arith) there

-- of one line
pub whole-frame : (w : Windows) (src dst sy sx dy dx n : ℕ) → HasPlace w.window dst dy (dx + n - 1) → 0 < n
    → drawing_frame w dst (λ a. copied_cells w.window src sy sx dy dx n false) ≡ Some (record { top = dy; left = dx; bottom = dy; right = dx + n - 1 })
whole-frame w src dst sy sx dy dx n there some =
    let line : dy + 1 - 1 ≡ dy = omega arith in
    rw (← one-line w.window src sy sx dy dx n false)
    (rw line at (rectangle-frame w src dst sy sx dy dx 1 n (subst (λ (k : ℕ). HasPlace w.window dst k (dx + n - 1)) (sym line) there) (omega arith) some))

pub nothing-frame : (w : Windows) (dst : ℕ) (f : Drawing) → ((y x : ℕ) → f y x ≡ None) → drawing_frame w dst (λ a. f) ≡ None
nothing-frame w dst f h = none_frame (w.window dst) f h

-- ---- step by step

-- nothing is drawn yet
pub Drawn-nothing : (w : Windows) (dst : ℕ) (f : Drawing) → ((y x : ℕ) → f y x ≡ None) → Drawn w dst f None w
Drawn-nothing w dst f h = record {
  written = ap (λ (ws : WindowMap). record w { window = ws }) (sym (put-nothing w.window dst f h));
  frame = sym (nothing-frame w dst f h);
}

-- ---- the places are there after a write, and so are those above them and left of them

pub piece-there : {w v : Windows} {dst : ℕ} {f : Drawing} {answer : Option Rect} (from to : Place) (n k len : ℕ) → Drawn w dst f answer v → AreRowsThere w.window from to n
    → 0 < len → k + len ≤ n → AreRowsThere v.window (record from { column = from.column + k }) (record to { column = to.column + k }) len
piece-there from to n k len drawn there some within = grind arith

pub still-there : {w v : Windows} {dst : ℕ} {f : Drawing} {answer : Option Rect} (from to : Place) (n : ℕ) → Drawn w dst f answer v → AreRowsThere w.window from to n → AreRowsThere v.window from to n
still-there from to n drawn there = grind arith

pub rows-there : {w v : Windows} {dst : ℕ} {f : Drawing} {answer : Option Rect} (from to : Place) (lines columns k : ℕ) → Drawn w dst f answer v → AreRectanglesThere w.window from to lines columns
    → k < lines → AreRowsThere v.window (record from { line = from.line + k }) (record to { line = to.line + k }) columns
rows-there from to lines columns k drawn there lt = grind arith

-- ---- a step: it writes what the windows before the copy give, and that is laid over what was written of it before

Drawn-over : {w v next : Windows} {dst : ℕ} {f now h g : Drawing} {before one both : Option Rect} → Drawn w dst f before v → now ≡ h → over h f ≡ g → Drawn v dst now one next
    → both ≡ frame_of_two before one → Drawn w dst g both next
Drawn-over {w = w} {dst = dst} {f = f} {now = now} {h = h} {one = one} first same join second both = record {
  written =
      second.written
      ∙ ap (λ (u : Windows). put u dst now) first.written
      ∙ ap (λ (d : Drawing). put (put w dst f) dst d) same
      ∙ ap (λ (ws : WindowMap). record w { window = ws }) (put-put w.window dst f h ∙ ap (put_windows w.window dst) join);
  frame =
      both
      ∙ ap (λ (o : Option Rect). frame_of_two o one) first.frame
      ∙ ap (λ (o : Option Rect). frame_of_two (drawing_frame w dst (λ a. f)) o)
      (second.frame ∙ ap (λ (u : Windows). drawing_frame u dst (λ a. now)) first.written ∙ drawing_frame-put w dst f now ∙ ap (λ (d : Drawing). drawing_frame w dst (λ a. d)) same)
      ∙ sym (drawing_frame-over w dst f h)
      ∙ ap (λ (d : Drawing). drawing_frame w dst (λ a. d)) join;
}

-- a place that a drawing leaves out
missed : (at : GridPlace) (a : Window) (f : Drawing) (line column : ℕ) → (at.line ≤ line → at.column ≤ column → f (line - at.line) (column - at.column) ≡ None)
    → grid_drawing at (within a f) line column ≡ None
missed at a f line column h = grind (arith, nat_tests)

-- a cell of another grid, or of a place that a drawing leaves out, stays
kept : (w : Windows) (dst : ℕ) (a : Window) (target : GridPlace) (f : Drawing) (u y x : ℕ) (s : GridPlace) → w.window dst ≡ Some a → own w.window dst 0 0 ≡ Some target → own w.window u y x ≡ Some s
    → (s.grid ≡ target.grid → grid_drawing target (within a f) s.line s.column ≡ None) → cell_at (put_windows w.window dst f) u y x ≡ cell_at w.window u y x
kept w dst a target f u y x s there leads_to leads_from missing = grind (arith, cases_eq, eqb-true, own-put)

-- the windows begin at these places of grids
module _ (w : Windows) (from to : Place) (source target : GridPlace) (leads_from : own w.window from.win.0 0 0 ≡ Some source) (leads_to : own w.window to.win.0 0 0 ≡ Some target) where
  pub row-copied : {v next : Windows} {f g : Drawing} {before one both : Option Rect} (n : ℕ) (overlay : Bool) → IsSome (w.window to.win.0) → Drawn w to.win.0 f before v
      → ((j : ℕ) → j < n → source.grid ≡ target.grid → target.line ≤ source.line + from.line → target.column ≤ source.column + (from.column + j)
      → f (source.line + from.line - target.line) (source.column + (from.column + j) - target.column) ≡ None)
      → over (copied_cells w.window from.win.0 from.line from.column to.line to.column n overlay) f ≡ g
      → RowCopied v from to n overlay one next → both ≡ frame_of_two before one → Drawn w to.win.0 g both next
  row-copied {v = v} {f = f} n overlay there before missing join step both =
      let a = some_of (w.window to.win.0) there in
      Drawn-over before
      (ap (λ (u : Windows). copied_cells u.window from.win.0 from.line from.column to.line to.column n overlay) before.written
      ∙ copied-same (put_windows w.window to.win.0 f) w.window from.win.0 from.line from.column to.line to.column n overlay
      (λ j below. kept w to.win.0 a.0 target f from.win.0 from.line (from.column + j) (onward from.line (from.column + j) source) a.1 leads_to
      (own-onward w.window from.win.0 from.line (from.column + j) ∙ ap (option_map (onward from.line (from.column + j))) leads_from)
      (λ same. missed target a.0 f (source.line + from.line) (source.column + (from.column + j)) (missing j below same))))
      join step both
