-- Strokes that are drawn in any order: what they write is what is wanted.
use Rattle.std.specs.Prelude.{◌≡◌, ◌+◌, ◌-◌, ◌<◌, ◌≤◌, ◌∷◌, ◌++◌, ◌==◌, ◌&&◌, if◌then◌else◌}
use Rattle.paint.specs.{ℕ, zero, suc, Bool, true, false, List, [], length, get_or, set, map, take, drop, inl, inr, refl, sym, ap, ◌∙◌, subst, arith, length-set, not, nat_le, get_or-append, get_or-map}
use Rattle.paint.specs.{cases_Bool, cases_eq, cases_lt, eq-eqb, le-leb, lt-leb, ne_eqb, nat_tests, ext_get_or, get_or-append_right, get_or-set_other, get_or-set_same, get_or-take, get_or_past}
use Rattle.paint.specs.{length-take-le, set_past, sum_by_push, Shown, shown_blank, HasSize, Picture, Place, line_of, shown_at, with_shown, spelling, blank_line, erased_at, erased_line, erased_page}
use Rattle.paint.specs.{ToEnd, Token, Ed, El, Seen, AreDrawn, HasInk, IsErasure, IsStroke, ink_bytes, is_before, layers, stroke_bytes, writes, HaveOneRendition, cells_between, Draws, DrawsWithin}
use Rattle.paint.specs.{run_bytes, under, with_cells}
use Rattle.cell.proofs.PictureLemmas.{length-line}
use Rattle.ecma.proofs.Lengths.{length-spelling}
use Rattle.ecma.proofs.PictureSizes.{size-effects}
use Rattle.paint.specs.declared.pen.Pen.{Pen}
use Rattle.paint.specs.declared.strokes.Ink.TheVariants.{EraseLine, ErasePage, Print}
use Rattle.paint.specs.declared.strokes.Stroke.{Stroke}
use Rattle.paint.proofs.CellRuns.{length-between, part-of}
use Rattle.paint.proofs.PenSteps.{DrawsWithin-more, DrawsWithin-nothing, DrawsWithin-then}

-- ---- cells that are wanted where they are written

-- another cell in a row
row-cell : (row : List Shown) (x u : ℕ) (cell other : Shown) → (u ≡ x → cell ≡ other) → get_or row u shown_blank ≡ other → get_or (set row x cell) u shown_blank ≡ other
row-cell row x u cell other here there = grind (arith, cases_eq, cases_lt, get_or-set_same, get_or-set_other, set_past)

-- what is right stays right
kept-cell : (wanted picture : Picture) (line x v u : ℕ) (cell : Shown) → cell ≡ shown_at wanted (line, x) → shown_at picture (v, u) ≡ shown_at wanted (v, u)
    → shown_at (with_shown picture (line, x) cell) (v, u) ≡ shown_at wanted (v, u)
kept-cell wanted picture line x v u cell is right = grind (arith, cases_eq, get_or-set_other, cases_lt, set_past, get_or-set_same, row-cell)

-- strokes leave a picture of the same size
pub drawn-size : {lines columns n : ℕ} {a b : Seen} {x y : Pen} {shown drawn : Picture} → HasSize lines columns shown → DrawsWithin n a b x y shown drawn → HasSize lines columns drawn
drawn-size {lines} {columns} {x} {y} {shown} {drawn} size h =
    let leads = h.draws.leads in
    size-effects lines columns leads.items (under x shown) (under y drawn) size leads.have_effect

-- the first of some cells, and the others
first : (wanted : Picture) (line x : ℕ) {cell : Shown} (cells : List Shown) → ((k : ℕ) → k < length (cell ∷ cells) → get_or (cell ∷ cells) k shown_blank ≡ shown_at wanted (line, x + k))
    → cell ≡ shown_at wanted (line, x)
first wanted line x cells are = are 0 (omega arith) ∙ ap (λ n. shown_at wanted (line, n)) (omega arith)

next : (wanted : Picture) (line x : ℕ) {cell : Shown} (cells : List Shown) → ((k : ℕ) → k < length (cell ∷ cells) → get_or (cell ∷ cells) k shown_blank ≡ shown_at wanted (line, x + k))
    → (k : ℕ) → k < length cells → get_or cells k shown_blank ≡ shown_at wanted (line, x + 1 + k)
next wanted line x cells are k few = are (suc k) (omega arith) ∙ ap (λ n. shown_at wanted (line, n)) (omega arith)

kept-cells : (wanted picture : Picture) (line x : ℕ) (cells : List Shown) → ((k : ℕ) → k < length cells → get_or cells k shown_blank ≡ shown_at wanted (line, x + k))
    → (v u : ℕ) → shown_at picture (v, u) ≡ shown_at wanted (v, u) → shown_at (with_cells picture (line, x) cells) (v, u) ≡ shown_at wanted (v, u)
kept-cells wanted picture line x [] are v u right = right
kept-cells wanted picture line x (cell ∷ cells) are v u right =
    kept-cells wanted (with_shown picture (line, x) cell) line (x + 1) cells (λ k few. next wanted line x cells are k few) v u
    (kept-cell wanted picture line x v u cell (first wanted line x cells are) right)

-- and what is written is right
written-cells : (wanted picture : Picture) (line x : ℕ) (cells : List Shown) → ((k : ℕ) → k < length cells → get_or cells k shown_blank ≡ shown_at wanted (line, x + k))
    → x + length cells ≤ length (line_of picture line) → (k : ℕ) → k < length cells → shown_at (with_cells picture (line, x) cells) (line, x + k) ≡ shown_at wanted (line, x + k)
written-cells wanted picture line x [] are room k few = absurd (omega arith)
written-cells wanted picture line x (cell ∷ cells) are room zero few =
    let here : shown_at (with_shown picture (line, x) cell) (line, x) ≡ cell = grind (arith, get_or-set_same, cases_lt, get_or_past) in
    let column : x ≡ x + 0 = omega arith in
    kept-cells wanted (with_shown picture (line, x) cell) line (x + 1) cells (λ k few. next wanted line x cells are k few) line (x + 0)
    (subst (λ n. shown_at (with_shown picture (line, x) cell) (line, n) ≡ shown_at wanted (line, n)) column (here ∙ first wanted line x cells are))
written-cells wanted picture line x (cell ∷ cells) are room (suc k) few =
    let wide : length (line_of (with_shown picture (line, x) cell) line) ≡ length (line_of picture line) = grind (arith, get_or-set_same, length-set, cases_lt, set_past) in
    let column : x + 1 + k ≡ x + suc k = omega arith in
    subst (λ n. shown_at (with_cells (with_shown picture (line, x) cell) (line, x + 1) cells) (line, n) ≡ shown_at wanted (line, n)) column
    (written-cells wanted (with_shown picture (line, x) cell) line (x + 1) cells (λ j less. next wanted line x cells are j less) (omega (arith, room, wide)) k (omega arith))

-- parts of two lines in which they are the same
same-part : (start end : ℕ) (one other : List Shown) → start ≤ end → end ≤ length one → end ≤ length other
    → ((x : ℕ) → start ≤ x → x < end → get_or one x shown_blank ≡ get_or other x shown_blank) → cells_between start end one ≡ cells_between start end other
same-part start end one other ordered inside within same =
    let long = length-between start end one ordered inside in
    ext_get_or shown_blank (cells_between start end one) (cells_between start end other) (long ∙ sym (length-between start end other ordered within)) (λ k few.
    part-of start end k one (omega (arith, few, long)) ∙ same (start + k) (omega arith) (omega (arith, few, long)) ∙ sym (part-of start end k other (omega (arith, few, long))))

-- ---- what was drawn

pub drawn-none : (seen : Seen) (pen : Pen) (shown wanted : Picture) → AreDrawn seen seen pen pen shown wanted []
drawn-none seen pen shown wanted = record {
  drawn = shown;
  piece = DrawsWithin-nothing seen pen shown;
  kept = λ place same. same;
  written = λ place some. absurd (omega arith);
  columns = refl;
}

-- a stroke more is at a place
layers-other : (place : Place) (strokes : List Stroke) (stroke : Stroke) → writes place stroke ≡ false → layers place (strokes ++ stroke ∷ []) ≡ layers place strokes
layers-other place strokes stroke other = sum_by_push (λ (s : Stroke). if writes place s then 1 else 0) strokes stroke ∙ rw other (omega arith)

-- A stroke more: what was right stays right, and what it writes is right.
stroke-more : {before mid now : Seen} {old pen next : Pen} {shown wanted : Picture} {strokes : List Stroke} (stroke : Stroke) (h : AreDrawn before mid old pen shown wanted strokes)
    (drawn : Picture) → DrawsWithin (stroke_bytes wanted stroke) mid now pen next h.drawn drawn
    → ((place : Place) → shown_at h.drawn place ≡ shown_at wanted place → shown_at drawn place ≡ shown_at wanted place)
    → ((place : Place) → writes place stroke ≡ true → shown_at drawn place ≡ shown_at wanted place)
    → next.columns ≡ pen.columns → AreDrawn before now old next shown wanted (strokes ++ stroke ∷ [])
stroke-more {wanted} {strokes} stroke h drawn piece kept written columns = record {
  drawn = drawn;
  piece = DrawsWithin-more (DrawsWithin-then h.piece piece) (omega (arith, sum_by_push (stroke_bytes wanted) strokes stroke));
  kept = λ place same. kept place (h.kept place same);
  written = λ place some. elim (cases_Bool (writes place stroke)) [
    | inl inside ↦ written place inside
    | inr other ↦ kept place (h.written place (omega (arith, some, layers-other place strokes stroke other)))
  ];
  columns = columns ∙ h.columns;
}

-- ---- one that is printed

-- where it writes
place-in : (place : Place) (stroke : Stroke) → stroke.ink ≡ Print → writes place stroke ≡ true → (place.0 ≡ stroke.line) × (stroke.start ≤ place.1) × (place.1 < stroke.end)
place-in place stroke ink inside = grind (arith, nat_tests)

pub print-drawn : {before mid now : Seen} {old pen next : Pen} {shown wanted : Picture} {strokes : List Stroke} {lines columns : ℕ} (stroke : Stroke) → stroke.ink ≡ Print
    → HasSize lines columns shown → HasSize lines columns wanted → IsStroke shown wanted stroke
    → AreDrawn before mid old pen shown wanted strokes → pen.columns ≡ columns
    → ((picture : Picture) → length (line_of picture stroke.line) ≡ pen.columns
    → cells_between stroke.gap stroke.start (line_of picture stroke.line) ≡ cells_between stroke.gap stroke.start (line_of wanted stroke.line)
    → DrawsWithin (run_bytes (cells_between stroke.start stroke.end (line_of wanted stroke.line))) mid now pen next picture
    (with_cells picture (stroke.line, stroke.start) (cells_between stroke.start stroke.end (line_of wanted stroke.line))))
    → next.columns ≡ pen.columns → AreDrawn before now old next shown wanted (strokes ++ stroke ∷ [])
print-drawn {mid} {now} {pen} {next} {shown} {wanted} {strokes} {lines} stroke ink size other_size is h width draws columns =
    let of : HaveOneRendition (line_of wanted stroke.line) stroke.start stroke.end = subst (λ ink. HasInk ink wanted stroke) ink is.ink in
    let below : stroke.line < lines = omega (arith, is.line, other_size.height) in
    let wide = length-line stroke.line (drawn-size size h.piece) below in
    let row = line_of wanted stroke.line in
    let cells = cells_between stroke.start stroke.end row in
    let long = length-between stroke.start stroke.end row (omega (arith, of.some)) of.within in
    let are = λ (k : ℕ) (few : k < length cells). part-of stroke.start stroke.end k row (omega (arith, few, long)) in
    let room : stroke.start + length cells ≤ length (line_of h.drawn stroke.line) =
    omega (arith, wide, long, of.within, of.some, length-line stroke.line other_size below) in
    let drawn = draws h.drawn (wide ∙ sym width) (same-part stroke.gap stroke.start (line_of h.drawn stroke.line) row is.gap (omega (arith, room)) (omega (arith, of.some, of.within))
    (λ x from to. h.kept (stroke.line, x) (is.kept x from to))) in
    let cost : ink_bytes Print wanted stroke ≡ stroke_bytes wanted stroke = λ i. ink_bytes (sym ink i) wanted stroke in
    stroke-more stroke h (with_cells h.drawn (stroke.line, stroke.start) cells)
    (subst (λ n. DrawsWithin n mid now pen next h.drawn (with_cells h.drawn (stroke.line, stroke.start) cells)) cost drawn)
    (λ place right. kept-cells wanted h.drawn stroke.line stroke.start cells are place.0 place.1 right)
    (λ place inside.
    let at = place-in place stroke ink inside in
    let column : stroke.start + (place.1 - stroke.start) ≡ place.1 = omega (arith, at.1) in
    subst (λ (p : Place). shown_at (with_cells h.drawn (stroke.line, stroke.start) cells) p ≡ shown_at wanted p) (λ i. (sym at.0 i, column i))
    (written-cells wanted h.drawn stroke.line stroke.start cells are room (place.1 - stroke.start) (omega (arith, at.1, long))))
    columns

-- ---- one that erases

-- a cell of a line that is erased from a column on: one before it, and another
erased-early : (row : List Shown) (x u : ℕ) → x ≤ length row → u < x → get_or (erased_line ToEnd x row) u shown_blank ≡ get_or row u shown_blank
erased-early row x u few early = grind (arith, get_or-append, length-take-le, get_or-take)

erased-late : (row : List Shown) (x u : ℕ) → x ≤ length row → x ≤ u → get_or (erased_line ToEnd x row) u shown_blank ≡ shown_blank
erased-late row x u few late =
    get_or-append_right (take x row) (blank_line (drop x row)) x u shown_blank (length-take-le x row few) late ∙ get_or-map (λ (_ : Shown). shown_blank) (drop x row) (u - x) shown_blank

-- a place of a picture of which a line is
erased-place : (picture : Picture) (line x v u : ℕ) → line < length picture → x ≤ length (line_of picture line)
    → shown_at (erased_at ToEnd (line, x) picture) (v, u) ≡ (if v == line && nat_le x u then shown_blank else shown_at picture (v, u))
erased-place picture line x v u there few = grind (arith, cases_eq, get_or-set_other, ne_eqb, get_or-set_same, cases_lt, erased-early, eq-eqb, lt-leb, le-leb, erased-late)

-- and of one of which the page is
erased-below : (picture : Picture) (line x v u : ℕ) → line < length picture → x ≤ length (line_of picture line)
    → shown_at (erased_page ToEnd (line, x) picture) (v, u) ≡ (if is_before (v, u) (line, x) then shown_at picture (v, u) else shown_blank)
erased-below picture line x v u there few =
    let one = take (line + 1) (erased_at ToEnd (line, x) picture) in
    let long : length one ≡ line + 1 = length-take-le (line + 1) (erased_at ToEnd (line, x) picture) (omega (arith, length-set picture line (erased_line ToEnd x (line_of picture line)))) in
    let other = map blank_line (drop (line + 1) picture) in
    elim (cases_lt v (line + 1)) [
      | inl above ↦
          let row : line_of (one ++ other) v ≡ line_of (erased_at ToEnd (line, x) picture) v =
          get_or-append one other [] v (omega (arith, above, long)) ∙ get_or-take (line + 1) (erased_at ToEnd (line, x) picture) v [] above in
          let cell = ap (λ (l : List Shown). get_or l u shown_blank) row ∙ erased-place picture line x v u there few in
          grind (arith, nat_tests, cases_lt, cell)
      | inr below ↦
          let row : line_of (one ++ other) v ≡ blank_line (get_or (drop (line + 1) picture) (v - (line + 1)) []) =
          get_or-append_right one other (line + 1) v [] long (omega arith) ∙ get_or-map blank_line (drop (line + 1) picture) (v - (line + 1)) [] in
          let cell = ap (λ (l : List Shown). get_or l u shown_blank) row ∙ get_or-map (λ (_ : Shown). shown_blank) (get_or (drop (line + 1) picture) (v - (line + 1)) []) u shown_blank in
          grind (arith, nat_tests, cell)
    ]

-- whatever is erased
erase-drawn : {before mid there now : Seen} {old pen at next : Pen} {shown wanted : Picture} {strokes : List Stroke} {lines columns : ℕ} (stroke : Stroke) (token : Token) (erased : Picture → Picture)
    → IsErasure wanted stroke → stroke_bytes wanted stroke ≡ 27 → length (spelling token) ≤ 4
    → ((picture : Picture) (v u : ℕ) → stroke.line < length picture → stroke.start ≤ length (line_of picture stroke.line)
    → shown_at (erased picture) (v, u) ≡ (if writes (v, u) stroke then shown_blank else shown_at picture (v, u)))
    → HasSize lines columns shown → HasSize lines columns wanted → IsStroke shown wanted stroke
    → AreDrawn before mid old pen shown wanted strokes → pen.columns ≡ columns
    → ((picture : Picture) → length (line_of picture stroke.line) ≡ pen.columns
    → cells_between stroke.gap stroke.start (line_of picture stroke.line) ≡ cells_between stroke.gap stroke.start (line_of wanted stroke.line)
    → DrawsWithin 14 mid there pen at picture picture)
    → ((picture : Picture) → Draws (spelling token) there now at next picture (erased picture))
    → next.columns ≡ pen.columns → AreDrawn before now old next shown wanted (strokes ++ stroke ∷ [])
erase-drawn {mid} {there} {now} {pen} {at} {next} {wanted} {lines} stroke token erased of cost short shows size other_size is h width reaches draws columns =
    let below : stroke.line < lines = omega (arith, is.line, other_size.height) in
    let drawn_size = drawn-size size h.piece in
    let wide = length-line stroke.line drawn_size below in
    let row = line_of wanted stroke.line in
    let room : stroke.start ≤ length (line_of h.drawn stroke.line) = omega (arith, of.start, wide, length-line stroke.line other_size below) in
    let reached = reaches h.drawn (wide ∙ sym width) (same-part stroke.gap stroke.start (line_of h.drawn stroke.line) row is.gap room (omega (arith, of.start))
    (λ x from to. h.kept (stroke.line, x) (is.kept x from to))) in
    let erasure : DrawsWithin 4 there now at next h.drawn (erased h.drawn) = record { piece = spelling token; draws = draws h.drawn; short = short } in
    let shown_there = λ (v u : ℕ). shows h.drawn v u (omega (arith, below, drawn_size.height)) room in
    stroke-more stroke h (erased h.drawn) (DrawsWithin-more (DrawsWithin-then reached erasure) (omega (arith, cost)))
    (λ place right. elim (cases_Bool (writes place stroke)) [
      | inl inside ↦ shown_there place.0 place.1 ∙ rw inside (sym (of.blank place inside))
      | inr outside ↦ shown_there place.0 place.1 ∙ rw outside right
    ])
    (λ place inside. shown_there place.0 place.1 ∙ rw inside (sym (of.blank place inside))) columns

writes-line : (stroke : Stroke) (v u : ℕ) → stroke.ink ≡ EraseLine → writes (v, u) stroke ≡ (v == stroke.line && nat_le stroke.start u)
writes-line stroke v u ink = rw ink (grind (arith, nat_tests, cases_lt))

writes-page : (stroke : Stroke) (v u : ℕ) → stroke.ink ≡ ErasePage → writes (v, u) stroke ≡ not (is_before (v, u) (stroke.line, stroke.start))
writes-page stroke v u ink = rw ink (grind (arith, cases_Bool))

pub erased-line-drawn : {before mid there now : Seen} {old pen at next : Pen} {shown wanted : Picture} {strokes : List Stroke} {lines columns : ℕ} (stroke : Stroke) → stroke.ink ≡ EraseLine
    → HasSize lines columns shown → HasSize lines columns wanted → IsStroke shown wanted stroke
    → AreDrawn before mid old pen shown wanted strokes → pen.columns ≡ columns
    → ((picture : Picture) → length (line_of picture stroke.line) ≡ pen.columns
    → cells_between stroke.gap stroke.start (line_of picture stroke.line) ≡ cells_between stroke.gap stroke.start (line_of wanted stroke.line)
    → DrawsWithin 14 mid there pen at picture picture)
    → ((picture : Picture) → Draws (spelling (El ToEnd)) there now at next picture (erased_at ToEnd (stroke.line, stroke.start) picture))
    → next.columns ≡ pen.columns → AreDrawn before now old next shown wanted (strokes ++ stroke ∷ [])
erased-line-drawn {wanted} stroke ink size other_size is =
    erase-drawn stroke (El ToEnd) (erased_at ToEnd (stroke.line, stroke.start)) (subst (λ ink. HasInk ink wanted stroke) ink is.ink) (λ i. ink_bytes (ink i) wanted stroke) (length-spelling (El ToEnd) tt)
    (λ picture v u there room. erased-place picture stroke.line stroke.start v u there room ∙ ap (λ b. if b then shown_blank else shown_at picture (v, u)) (sym (writes-line stroke v u ink)))
    size other_size is

pub erased-page-drawn : {before mid there now : Seen} {old pen at next : Pen} {shown wanted : Picture} {strokes : List Stroke} {lines columns : ℕ} (stroke : Stroke) → stroke.ink ≡ ErasePage
    → HasSize lines columns shown → HasSize lines columns wanted → IsStroke shown wanted stroke
    → AreDrawn before mid old pen shown wanted strokes → pen.columns ≡ columns
    → ((picture : Picture) → length (line_of picture stroke.line) ≡ pen.columns
    → cells_between stroke.gap stroke.start (line_of picture stroke.line) ≡ cells_between stroke.gap stroke.start (line_of wanted stroke.line)
    → DrawsWithin 14 mid there pen at picture picture)
    → ((picture : Picture) → Draws (spelling (Ed ToEnd)) there now at next picture (erased_page ToEnd (stroke.line, stroke.start) picture))
    → next.columns ≡ pen.columns → AreDrawn before now old next shown wanted (strokes ++ stroke ∷ [])
erased-page-drawn {wanted} stroke ink size other_size is =
    erase-drawn stroke (Ed ToEnd) (erased_page ToEnd (stroke.line, stroke.start)) (subst (λ ink. HasInk ink wanted stroke) ink is.ink) (λ i. ink_bytes (ink i) wanted stroke) (length-spelling (Ed ToEnd) tt)
    (λ picture v u there room. erased-below picture stroke.line stroke.start v u there room ∙ not-if (is_before (v, u) (stroke.line, stroke.start)) (shown_at picture (v, u)) (writes-page stroke v u ink))
    size other_size is where
      not-if : {written : Bool} (b : Bool) (cell : Shown) → written ≡ not b → (if b then cell else shown_blank) ≡ (if written then shown_blank else cell)
      not-if b cell is = rw is (grind (arith, cases_Bool))
