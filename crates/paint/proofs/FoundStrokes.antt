-- Strokes are found line by line: they write all that isn't shown as wanted, within what that may cost.
use Rattle.std.proofs.lemmas.Grind.{common_steps}
use Rattle.std.specs.Prelude.{◌≡◌, ◌+◌, ◌-◌, ◌<◌, ◌≤◌, ◌∷◌, ◌++◌, ◌&&◌}
use Rattle.paint.specs.{ℕ, true, false, List, [], length, take, inl, inr, refl, sym, ap, ◌∙◌, subst, arith, append_assoc, append-nil, Option, not, cases_Bool, cases_lt, nat_tests}
use Rattle.paint.specs.{get_or_past, All-push, sum_by_push, shown_blank, HasSize, Picture, Place, line_of, shown_at, Seen, IsWithin, columns_of, Columns, IsUpdate, AreAlike, AreDrawn, AreFound}
use Rattle.paint.specs.{ArePlanned, AreSameBetween, HasInk, IsStroke, IsUnderWay, bytes_from, ink_bytes, is_before, is_before_end, layers, stroke_bytes, strokes_bytes, writes, DrawsWithin}
use Rattle.paint.specs.{picture_bytes, IsStretch, cells_between}
use Rattle.cell.proofs.PictureLemmas.{length-line, same_pictures}
use Rattle.paint.specs.declared.pen.Pen.{Pen}
use Rattle.paint.specs.declared.strokes.Ink.TheVariants.{EraseLine, ErasePage, Print}
use Rattle.paint.specs.declared.strokes.Stroke.{Stroke}
use Rattle.paint.proofs.CellRuns.{length-between, part-of, part-same}
use Rattle.paint.proofs.Costs.{bytes_from-changed, bytes_from-later, bytes_from-line, left, line_bytes-other}
use Rattle.paint.proofs.DrawnStrokes.{drawn-none, drawn-size}
use Rattle.paint.proofs.PenSteps.{DrawsWithin-more}

-- ---- parts that are the same

-- a part of a line
pub same-in_line : (shown wanted : Picture) (y x z : ℕ) → x ≤ z → AreAlike shown wanted y x z → AreSameBetween shown wanted (y, x) (y, z)
same-in_line shown wanted y x z ordered same = grind (arith, nat_tests)

-- the rest of a line
pub same-to_end : (shown wanted : Picture) (y x : ℕ) → ((u : ℕ) → x ≤ u → shown_at shown (y, u) ≡ shown_at wanted (y, u)) → AreSameBetween shown wanted (y, x) (y + 1, 0)
same-to_end shown wanted y x same = grind (arith, nat_tests)

-- whole lines
pub same-lines : (shown wanted : Picture) (y z : ℕ) → y ≤ z → ((v u : ℕ) → y ≤ v → v < z → shown_at shown (v, u) ≡ shown_at wanted (v, u)) → AreSameBetween shown wanted (y, 0) (z, 0)
same-lines shown wanted y z ordered same = grind (arith, nat_tests)

-- what is not in the part of a line in which alone two pictures differ
pub before-part : (y x : ℕ) {lines columns : ℕ} {changes : List (Option Columns)} {shown wanted : Picture} {part : ℕ × ℕ} → IsUpdate lines columns changes shown wanted
    → IsWithin columns (columns_of changes y) part → x < part.0 → shown_at shown (y, x) ≡ shown_at wanted (y, x)
before-part y x f within before = f.changes.others y x (within.before x before)

pub after-part : (y x : ℕ) {lines columns : ℕ} {changes : List (Option Columns)} {shown wanted : Picture} {part : ℕ × ℕ} → IsUpdate lines columns changes shown wanted
    → IsWithin columns (columns_of changes y) part → y < lines → part.1 ≤ x → shown_at shown (y, x) ≡ shown_at wanted (y, x)
after-part y x {columns = columns} {shown = shown} {wanted = wanted} f within below after = grind (arith, cases_lt, left, get_or_past, length-line, common_steps)

-- a line whose part doesn't differ
pub whole-line : (y x : ℕ) {lines columns : ℕ} {changes : List (Option Columns)} {shown wanted : Picture} {part : ℕ × ℕ} → IsUpdate lines columns changes shown wanted
    → IsWithin columns (columns_of changes y) part → y < lines → cells_between part.0 part.1 (line_of shown y) ≡ cells_between part.0 part.1 (line_of wanted y)
    → shown_at shown (y, x) ≡ shown_at wanted (y, x)
whole-line y x {shown = shown} {wanted = wanted} {part = part} f within below none = elim (cases_lt x part.0) [
  | inl early ↦ before-part y x f within early
  | inr late ↦ elim (cases_lt x part.1) [
    | inl inside ↦ part-same part.0 (part.1 - part.0) (part.1 - part.0) x (line_of shown y) (line_of wanted y) (omega arith) (ap (take (part.1 - part.0)) none) late (omega (arith, late, inside))
    | inr past ↦ after-part y x f within below past
  ]
]

-- ---- strokes that were found

pub found-none : (shown wanted : Picture) → length shown ≡ length wanted → AreFound shown wanted (0, 0) []
found-none shown wanted same = grind (arith, nat_tests, bytes_from-line)

-- what is shown already is passed over
pub found-same : {shown wanted : Picture} {from to : Place} {strokes : List Stroke} → length shown ≡ length wanted → AreFound shown wanted from strokes → AreSameBetween shown wanted from to
    → AreFound shown wanted to strokes
found-same {shown} {wanted} {from} {to} same h between = grind (arith, cases_Bool, bytes_from-later)

-- a place that comes before a stroke's end, and that it doesn't write, comes before it
not-written : (place : Place) (stroke : Stroke) → writes place stroke ≡ false → is_before_end stroke.ink place stroke ≡ true → is_before place (stroke.line, stroke.start) ≡ true
not-written place stroke outside before = grind (arith, cases_Bool)

-- A stroke more, which writes all from its first place up to another, and costs no more than what there is.
found-stroke : {shown wanted : Picture} {strokes : List Stroke} {from to : Place} (stroke : Stroke)
    → ((place : Place) → is_before place to ≡ true → is_before_end stroke.ink place stroke ≡ true)
    → ((place : Place) → is_before place (stroke.line, stroke.start) ≡ true → is_before place from ≡ true)
    → stroke_bytes wanted stroke + bytes_from shown wanted to ≤ bytes_from shown wanted from
    → AreFound shown wanted from strokes → AreFound shown wanted to (strokes ++ stroke ∷ [])
found-stroke {wanted} {strokes} stroke all from short h = grind (arith, sum_by_push, cases_Bool, not-written)

-- what a run of changed cells may cost
run-cost : (shown wanted : Picture) {end : ℕ} (stroke : Stroke) → length (line_of shown stroke.line) ≡ length (line_of wanted stroke.line)
    → IsStretch (line_of shown stroke.line) (line_of wanted stroke.line) stroke.start end stroke.end → end ≤ length (line_of wanted stroke.line)
    → ink_bytes Print wanted stroke + bytes_from shown wanted (stroke.line, stroke.end) ≤ bytes_from shown wanted (stroke.line, stroke.start)
run-cost shown wanted {end} stroke same run inside = grind (arith, length-between, part-of, left, line_bytes-other)

-- ---- all of them

-- where all strokes that were found were drawn, the picture is the wanted one
pub drawn-whole : {before now : Seen} {old pen : Pen} {shown wanted : Picture} {strokes : List Stroke} {lines columns : ℕ} → HasSize lines columns shown → HasSize lines columns wanted
    → AreDrawn before now old pen shown wanted strokes → AreFound shown wanted (lines, 0) strokes → DrawsWithin (picture_bytes shown wanted) before now old pen shown wanted
drawn-whole {before} {now} {old} {pen} {shown} {wanted} {strokes} {lines} {columns} size other_size h found =
    let is : h.drawn ≡ wanted = same_pictures shown_blank (drawn-size size h.piece) other_size (λ y x below left. elim (cases_lt 0 (layers (y, x) strokes)) [
      | inl some ↦ h.written (y, x) some
      | inr none ↦ h.kept (y, x) (found.others (y, x) (grind (arith, nat_tests)) (omega arith))
    ]) in
    DrawsWithin-more (subst (λ (picture : Picture). DrawsWithin (strokes_bytes wanted strokes) before now old pen shown picture) is h.piece) (omega (arith, found.short))

-- ---- planned after others

pub planned-none : (shown wanted : Picture) → length shown ≡ length wanted → ArePlanned shown wanted (0, 0) [] []
planned-none shown wanted same = record { found = found-none shown wanted same; are = λ k none few. absurd (omega arith) }

pub planned-same : {shown wanted : Picture} {from to : Place} {others strokes : List Stroke} → length shown ≡ length wanted → ArePlanned shown wanted from others strokes
    → AreSameBetween shown wanted from to → ArePlanned shown wanted to others strokes
planned-same same h between = record { found = found-same same h.found between; are = h.are }

planned-stroke : {shown wanted : Picture} {others strokes : List Stroke} {from to : Place} (stroke : Stroke) → IsStroke shown wanted stroke
    → (AreFound shown wanted from (others ++ strokes) → AreFound shown wanted to ((others ++ strokes) ++ stroke ∷ []))
    → ArePlanned shown wanted from others strokes → ArePlanned shown wanted to others (strokes ++ stroke ∷ [])
planned-stroke {shown} {wanted} {others} {strokes} {to = to} stroke is found h = record {
  found = subst (AreFound shown wanted to) (append_assoc others strokes (stroke ∷ [])) (found h.found);
  are = All-push (IsStroke shown wanted) strokes stroke h.are is;
}

-- a run of changed cells
pub planned-run : {lines columns : ℕ} {shown wanted : Picture} {others strokes : List Stroke} {end : ℕ} (stroke : Stroke) → stroke.ink ≡ Print
    → HasSize lines columns shown → HasSize lines columns wanted → stroke.line < lines
    → IsStretch (line_of shown stroke.line) (line_of wanted stroke.line) stroke.start end stroke.end → end ≤ columns
    → stroke.gap ≤ stroke.start → AreAlike shown wanted stroke.line stroke.gap stroke.start
    → ArePlanned shown wanted (stroke.line, stroke.start) others strokes → ArePlanned shown wanted (stroke.line, stroke.end) others (strokes ++ stroke ∷ [])
planned-run {lines} {columns} {shown} {wanted} {others} {strokes} {end} stroke ink size other_size below run inside gap kept =
    let wide = length-line stroke.line other_size below in
    let same = length-line stroke.line size below ∙ sym wide in
    let cost : ink_bytes Print wanted stroke ≡ stroke_bytes wanted stroke = λ i. ink_bytes (sym ink i) wanted stroke in
    planned-stroke stroke (record {
      line = omega (arith, below, other_size.height);
      ink = subst (λ ink. HasInk ink wanted stroke) (sym ink) (record { some = run.cells.some; within = run.cells.within; rendition = run.cells.rendition });
      gap = gap;
      kept = kept;
    })
    (found-stroke stroke (λ place before. rw ink before) (λ place before. before) (omega (arith, cost, run-cost shown wanted stroke same run (omega (arith, wide, inside)))))

-- the end of a line, of which a place is changed
pub planned-line : {lines columns : ℕ} {shown wanted : Picture} {others strokes : List Stroke} {from changed : ℕ} (stroke : Stroke) → stroke.ink ≡ EraseLine
    → HasSize lines columns shown → HasSize lines columns wanted → stroke.line < lines
    → stroke.start ≤ from → from ≤ changed → changed < columns → (shown_at shown (stroke.line, changed) ≡ shown_at wanted (stroke.line, changed) → ⊥)
    → ((x : ℕ) → stroke.start ≤ x → shown_at wanted (stroke.line, x) ≡ shown_blank)
    → stroke.gap ≤ stroke.start → AreAlike shown wanted stroke.line stroke.gap stroke.start
    → ArePlanned shown wanted (stroke.line, from) others strokes → ArePlanned shown wanted (stroke.line + 1, 0) others (strokes ++ stroke ∷ [])
planned-line {lines} {columns} {shown} {wanted} {from = from} {changed = changed} stroke ink size other_size below start after inside differs blank gap kept =
    let wide = length-line stroke.line other_size below in
    let old_wide = length-line stroke.line size below in
    let same : length shown ≡ length wanted = size.height ∙ sym other_size.height in
    let cost : 27 ≡ stroke_bytes wanted stroke = λ i. ink_bytes (sym ink i) wanted stroke in
    planned-stroke stroke (record {
      line = omega (arith, below, other_size.height);
      ink = subst (λ ink. HasInk ink wanted stroke) (sym ink) (record {
        start = omega (arith, wide, start, after, inside);
        blank = λ place written.
            let written : (not (is_before place (stroke.line, stroke.start)) && is_before place (stroke.line + 1, 0)) ≡ true = rw ink at written in
            let line : place.0 ≡ stroke.line = grind (arith, nat_tests) in
            let column : stroke.start ≤ place.1 = grind (arith, nat_tests) in
            subst (λ n. shown_at wanted (n, place.1) ≡ shown_blank) (sym line) (blank place.1 column);
      });
      gap = gap;
      kept = kept;
    })
    (found-stroke stroke (λ place before. rw ink before) (λ place before. grind (arith, nat_tests, before, start))
    (omega (
      arith,
      cost,
      bytes_from-changed shown wanted (stroke.line, changed) same (old_wide ∙ sym wide) (record { inside = omega (arith, old_wide, inside); differs = differs }),
      bytes_from-later shown wanted (stroke.line, from) (stroke.line, changed) same (grind (arith, nat_tests)),
    )))

-- the end of a page, of which a place is changed
pub planned-page : {lines columns : ℕ} {shown wanted : Picture} {others strokes : List Stroke} {from changed : Place} (stroke : Stroke) → stroke.ink ≡ ErasePage
    → HasSize lines columns shown → HasSize lines columns wanted → stroke.line < lines → stroke.start < columns
    → is_before from (stroke.line, stroke.start) ≡ false → is_before changed from ≡ false → changed.0 < lines → changed.1 < columns
    → (shown_at shown changed ≡ shown_at wanted changed → ⊥)
    → ((x : ℕ) → stroke.start ≤ x → shown_at wanted (stroke.line, x) ≡ shown_blank)
    → ((y x : ℕ) → stroke.line < y → shown_at wanted (y, x) ≡ shown_blank)
    → stroke.gap ≤ stroke.start → AreAlike shown wanted stroke.line stroke.gap stroke.start
    → ArePlanned shown wanted from others strokes → ArePlanned shown wanted (lines, 0) others (strokes ++ stroke ∷ [])
planned-page {lines} {columns} {shown} {wanted} {from = from} {changed = changed} stroke ink size other_size below room start after high inside differs blank all_blank gap kept =
    let wide = length-line stroke.line other_size below in
    let one = length-line changed.0 size high in
    let other = length-line changed.0 other_size high in
    let same : length shown ≡ length wanted = size.height ∙ sym other_size.height in
    let cost : 27 ≡ stroke_bytes wanted stroke = λ i. ink_bytes (sym ink i) wanted stroke in
    planned-stroke stroke (record {
      line = omega (arith, below, other_size.height);
      ink = subst (λ ink. HasInk ink wanted stroke) (sym ink) (record {
        start = omega (arith, wide, room);
        blank = λ place written.
            let written : (not (is_before place (stroke.line, stroke.start)) && true) ≡ true = rw ink at written in
            elim (cases_lt stroke.line place.0) [
              | inl later ↦ all_blank place.0 place.1 later
              | inr not_later ↦
                  let line : place.0 ≡ stroke.line = grind (arith, nat_tests) in
                  let column : stroke.start ≤ place.1 = grind (arith, nat_tests) in
                  subst (λ n. shown_at wanted (n, place.1) ≡ shown_blank) (sym line) (blank place.1 column)
            ];
      });
      gap = gap;
      kept = kept;
    })
    (found-stroke stroke (λ place before. rw ink refl) (λ place before. grind (arith, nat_tests, before, start))
    (omega (
      arith,
      cost,
      bytes_from-changed shown wanted changed same (one ∙ sym other) (record { inside = omega (arith, one, inside); differs = differs }),
      bytes_from-later shown wanted from changed same after,
      bytes_from-later shown wanted (changed.0 + 1, 0) (lines, 0) same (grind (arith, nat_tests)),
    )))

-- ---- under way

pub way-none : (seen : Seen) (pen : Pen) (shown wanted : Picture) → length shown ≡ length wanted → IsUnderWay seen seen pen pen shown wanted (0, 0) []
way-none seen pen shown wanted same = record { others = []; drawn = drawn-none seen pen shown wanted; planned = planned-none shown wanted same }

pub way-planned : {before now : Seen} {old pen : Pen} {shown wanted : Picture} {from to : Place} {strokes more : List Stroke} → IsUnderWay before now old pen shown wanted from strokes
    → ((others : List Stroke) → ArePlanned shown wanted from others strokes → ArePlanned shown wanted to others more) → IsUnderWay before now old pen shown wanted to more
way-planned h plans = record { others = h.others; drawn = h.drawn; planned = plans h.others h.planned }

-- those that were planned are drawn
pub way-drawn : {before mid now : Seen} {old pen next : Pen} {shown wanted : Picture} {to : Place} {strokes : List Stroke} → IsUnderWay before mid old pen shown wanted to strokes
    → ((others : List Stroke) → AreDrawn before mid old pen shown wanted others → AreDrawn before now old next shown wanted (others ++ strokes))
    → IsUnderWay before now old next shown wanted to []
way-drawn {shown} {wanted} {to} {strokes} h draws = grind (arith, append-nil)

-- and all were found
pub way-whole : {before now : Seen} {old pen : Pen} {shown wanted : Picture} {lines columns : ℕ} → HasSize lines columns shown → HasSize lines columns wanted
    → IsUnderWay before now old pen shown wanted (lines, 0) [] → DrawsWithin (picture_bytes shown wanted) before now old pen shown wanted
way-whole {shown} {wanted} {lines} size other_size h = drawn-whole size other_size h.drawn (subst (AreFound shown wanted (lines, 0)) (append-nil h.others) h.planned.found)
